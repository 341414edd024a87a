-- A sink in memory doesn't fail where no call is to fail and there is room.
use Rattle.std.proofs.Common.{◌≡◌, ℕ, ◌+◌, ◌-◌, ◌^◌, ◌<◌, ◌≤◌, List, [], length, take, arith, ap, ◌∙◌, length-append, length-take}
use Rattle.std.proofs.lemmas.Bool.Decides.{nat_tests}
use Rattle.storage_model.specs.Count.{Rose}
use Rattle.io_edge.specs.Counter.{counted}
use Rattle.io_edge.specs.MemSink.{SinkState, Grew}
use Rattle.io_edge.specs.Sink.{TookPart}

-- after a part of a text no fault came, if there was room for the whole of it
pub quiet-part : (old new : SinkState) (text : List ℕ) → TookPart Grew old text new → old.fails ≡ []
    → length old.bytes + length text ≤ old.room → new.faults ≡ old.faults
quiet-part old new text part none room =
    let grew : Grew old (take part.count text) new = part.taken in
    let within : part.count < length text = part.part in
    let grown : length new.bytes ≡ length old.bytes + length (take part.count text) = ap length grew.bytes ∙ length-append old.bytes (take part.count text) in
    let size : length (take part.count text) < length text = omega (arith, length-take part.count text) in
    let e : new.room ≡ old.room = grew.room in
    grew.quiet (grew.fails ∙ none) (omega arith)

-- so no fault is counted
pub never-rose : (old new : SinkState) (text : List ℕ) → TookPart Grew old text new → old.fails ≡ []
    → length old.bytes + length text ≤ old.room → old.faults < 2 ^ 64 - 1 → Rose (counted old.faults) (counted new.faults) → ⊥
never-rose old new text part none room few rose =
    let same : new.faults ≡ old.faults = quiet-part old new text part none room in
    grind (arith, nat_tests)
