-- What a sink took that doesn't fail.
use Rattle.std.proofs.Common.{◌≡◌, inl, inr, ℕ, List, Result, Ok, Err, refl, arith}
use Rattle.std.proofs.lemmas.List.Elements.{All-nil}
use Rattle.storage_model.specs.Count.{Rose}
use Rattle.storage_model.specs.declared.ends.Halt.{Halt}
use Rattle.storage_model.specs.declared.ends.Halt.TheVariants.{SinkFailed, OpenFault, PowerGone, BadImage}
use Rattle.storage_model.specs.declared.trace.Item.{Item}
use Rattle.end_laws.specs.Ends.{AreToCome}
use Rattle.load_count.specs.Lines.{never}
use Rattle.load_run.specs.Loads.{none}
use Rattle.power_step.specs.Wrote.{Wrote}
use Rattle.storage_model.specs.Faults.{IsHit}
use Rattle.trace_text.specs.Trace.{items_text}

pub never_rose : Rose never never → ⊥
never_rose (inl more) = omega (arith, more)
never_rose (inr stands) = absurd (cc stands)

pub all_taken : {K : Type 0} (took : K → List ℕ → K → Type 0) (old : K) (lines : List Item) (result : Result (Unit {0}) Halt) (new : K) → (result ≡ Err SinkFailed → ⊥) → Wrote took old lines result new
    → took old (items_text lines) new
all_taken took old lines (Ok done) new whole wrote = wrote
all_taken took old lines (Err SinkFailed) new whole wrote = absurd (whole refl)
all_taken took old lines (Err OpenFault) new whole wrote = wrote
all_taken took old lines (Err PowerGone) new whole wrote = wrote
all_taken took old lines (Err BadImage) new whole wrote = wrote

pub none_come : AreToCome none
none_come = record { hits = λ i j d before within. absurd (omega arith); small = All-nil IsHit }
