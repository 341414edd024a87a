-- What a line that may stand says of its numbers.
use Rattle.std.proofs.Common.{◌≡◌, ℕ, ◌<◌, Bool, true, length}
use Rattle.std.proofs.lemmas.Bool.{and_parts, ltb-true}
use Rattle.trace_rules.specs.Lines.{holds, left_by_owed, left_holds}
use Rattle.trace_rules.specs.Phases.{phase_holds}
use Rattle.storage_machine.specs.declared.state.Owed.{Owed}
use Rattle.storage_machine.specs.declared.state.Owed.TheVariants.{Card, Nothing, Closed, Bus, Flash, Answers, Sectors, Recover, Dark, Left as LeftOwed, End}
use Rattle.storage_machine.specs.declared.state.State.{State}
use Rattle.storage_model.specs.declared.block.Block.{Block}
use Rattle.storage_model.specs.declared.trace.Item.{Item}
use Rattle.storage_model.specs.declared.trace.Item.TheVariants.{Phase, Left}

pub phase_may : (s : State) (item : Item) (n id count : ℕ) (kept : Bool) → item ≡ Phase n id count kept → holds s item ≡ true → phase_holds s n id count kept ≡ true
unfolding holds
phase_may s item n id count kept is h = rw is at h

in_range : (s : State) (sector : ℕ) (value : Block) (owed : Owed) → left_by_owed s sector value owed ≡ true → sector < length s.base
in_range s sector value (LeftOwed from) h = ltb-true sector (length s.base) ((and_parts _ _ ((and_parts _ _ h).1)).0)
in_range s sector value Card h = absurd (cc)
in_range s sector value Nothing h = absurd (cc)
in_range s sector value Closed h = absurd (cc)
in_range s sector value (Bus n id kind) h = absurd (cc)
in_range s sector value (Flash id) h = absurd (cc)
in_range s sector value Answers h = absurd (cc)
in_range s sector value (Sectors tag k) h = absurd (cc)
in_range s sector value Recover h = absurd (cc)
in_range s sector value (Dark cuts) h = absurd (cc)
in_range s sector value End h = absurd (cc)

pub left_in_range : (s : State) (item : Item) (sector : ℕ) (value : Block) → item ≡ Left sector value → holds s item ≡ true → sector < length s.base
unfolding holds left_holds
left_in_range s item sector value is h = in_range s sector value s.owed (rw is at h)
