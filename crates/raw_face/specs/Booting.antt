-- The machine switched on.
use Rattle.std.specs.Prelude.{◌≡◌, ◌⊎◌, ℕ, ◌+◌, ◌≤◌, true, List, Some, Result, Ok, Err, IsErrOf, IsOk, is_some}
use Rattle.array_edge.specs.Array.{ArrayState}
use Rattle.card_core.specs.Card.{CardState, idle_card, sectors, set_up}
use Rattle.cq_engine.specs.Outcome.{holds_nothing}
use Rattle.cq_regs.specs.Effects.{at_reset}
use Rattle.intent_store.specs.Intent.{IsNoImage}
use Rattle.raw_machine.specs.Machine.{Machine}
use Rattle.raw_face.specs.Output.{Prints}
use Rattle.storage_model.specs.Count.{Later, Rose}
use Rattle.storage_model.specs.declared.ends.Halt.{Halt}
use Rattle.storage_model.specs.declared.ends.Halt.TheVariants.{SinkFailed, OpenFault, PowerGone, BadImage}
use Rattle.storage_model.specs.declared.trace.Item.TheVariants.{Card}
use Rattle.trace_text.specs.Trace.{item_text}

-- registers at reset, an engine without a task, and a card that is set up
abbrev pub switched_on : Machine → Machine → Machine
switched_on old new = record old {
  regs = at_reset;
  engine = holds_nothing;
  card = record (idle_card old.card.depth old.card.lines old.card.through new.card.store) { csd = set_up old.card (sectors new.card) };
}

-- the line of the card was taken, or the sink failed within it; where the card stays off nothing was
abbrev pub Boots : {K : Type 0} → (K → List ℕ → K → Type 0) → K → CardState → Result (Unit {0}) Halt → K → Type 0
Boots took old card (Ok done) new = took old (item_text (Card (sectors card) 31 (Some 64))) new
Boots took old card (Err SinkFailed) new = Prints took old (item_text (Card (sectors card) 31 (Some 64))) (Err SinkFailed) new
Boots took old card (Err _) new = new ≡ old

-- the machine is on: all went well, or the sink failed within the line of the card
abbrev pub IsOn : Result (Unit {0}) Halt → Type 0
IsOn result = IsOk result ⊎ IsErrOf result SinkFailed

-- An array that tells its pages goes on telling them, and one that doesn't tells none.
-- Why the card stays off, with what rose since: its array failed, eight openings in a row were cut, or its pages are no image.
pub record BootEnds (old new : ArrayState) (result : Result (Unit {0}) Halt) : Type 0 where
  pub tells : is_some new.told ≡ is_some old.told
  pub faults : Later old.faults new.faults
  pub cuts : Later old.cuts new.cuts
  pub fault : IsErrOf result OpenFault → Rose old.faults new.faults
  pub dead : IsErrOf result PowerGone → (old.cuts.value + 8 ≤ new.cuts.value) ⊎ (new.cuts.stands ≡ true)
  pub image : IsErrOf result BadImage → IsNoImage old
