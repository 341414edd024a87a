-- What has to have happened for the lines of an event: the counts of the array explain each line of a fault of the flash, and each cut; the power stays but for a cut.
use Rattle.std.specs.Prelude.{◌≡◌, ◌++◌, ◌∷◌, ℕ, Bool, true, false, List, [], OnOk, Option, Result, Ok, Err, IsErrOf}
use Rattle.storage_model.specs.declared.ends.Halt.{Halt}
use Rattle.storage_model.specs.declared.ends.Halt.TheVariants.{SinkFailed, OpenFault}
use Rattle.storage_model.specs.declared.faults.Letter.{Letter}
use Rattle.storage_model.specs.declared.trace.End.TheVariants.{Good, Fault}
use Rattle.storage_model.specs.declared.trace.Item.{Item}
use Rattle.storage_model.specs.declared.trace.Item.TheVariants.{Cut, Off, Turn}
use Rattle.trace_print.specs.Prints.{HasCauses}
use Rattle.array_edge.specs.Array.{ArrayState}
use Rattle.intent_store.specs.declared.ends.StoreEnd.{StoreEnd}
use Rattle.intent_store.specs.declared.ends.StoreEnd.TheVariants.{Flash as FlushFailed, PowerLost as FlushLost}
use Rattle.card_store.specs.declared.ends.StageEnd.{StageEnd}
use Rattle.card_core.specs.declared.phase.Phase.{Phase}
use Rattle.cq_engine.specs.declared.did.Did.{Did}
use Rattle.drv_core.specs.declared.act.Act.{Act}
use Rattle.power_laws.specs.Power.{CardEvent, FlushEvent, card_lines, is_lost}
use Rattle.world_state.specs.Engine.{EngineEvent, engine_lines, is_dark}
use Rattle.world_state.specs.Host.{HostEvent, host_lines}
use Rattle.world_state.specs.Path.{PathState}

-- the lines have their causes and the power stays; or it is lost, and the cut that follows has its cause too
abbrev pub Explains : Bool → ArrayState → ArrayState → List Item → Type 0
Explains true a a' lines = HasCauses 0 a a' (lines ++ Cut ∷ []) (Ok tt)
Explains false a a' lines = HasCauses 0 a a' lines (Ok tt) × (a'.powered ≡ true)

pub record AreExplained : Type 0 where
  pub engine : (p : PathState) (a : ArrayState) (p' : PathState) (a' : ArrayState) (did : Did) (phase : Option Phase) → EngineEvent p a p' a' did phase
      → a.powered ≡ true → Explains (is_dark did) a a' (engine_lines p p' did phase)
  pub host : (p : PathState) (a : ArrayState) (p' : PathState) (a' : ArrayState) (act : Act) → HostEvent p a p' a' act
      → a.powered ≡ true → Explains false a a' (host_lines p p' act)
  pub card : (p : PathState) (a : ArrayState) (p' : PathState) (a' : ArrayState) (result : Result (Unit {0}) StageEnd) → CardEvent p a p' a' result
      → a.powered ≡ true → Explains (is_lost result) a a' (card_lines p result)

pub record IsFlushExplained (a a' : ArrayState) (result : Result (Unit {0}) StoreEnd) : Type 0 where
  pub good : OnOk result (Explains false a a' (Off Good ∷ []))
  pub fault : IsErrOf result FlushFailed → HasCauses 0 a a' (Off Fault ∷ []) (Err OpenFault)
  pub lost : IsErrOf result FlushLost → Explains true a a' []

abbrev pub AreFlushesExplained : Type 0
AreFlushesExplained =
    (p : PathState) (a : ArrayState) (p' : PathState) (a' : ArrayState) (result : Result (Unit {0}) StoreEnd) → FlushEvent p a p' a' result
    → a.powered ≡ true → IsFlushExplained a a' result

-- causes of lines that are joined, of the first of some, and of those behind a letter's line
pub record AreJoined : Type 0 where
  pub none : (a : ArrayState) (more : ℕ) → HasCauses more a a [] (Ok tt)
  pub failed : (a a' : ArrayState) (more : ℕ) (lines rest : List Item) → HasCauses more a a' (lines ++ rest) (Ok tt) → HasCauses more a a' lines (Err SinkFailed)
  pub letter : (a a' : ArrayState) (more : ℕ) (letter : Letter) (lines : List Item) (result : Result (Unit {0}) Halt)
      → HasCauses more a a' lines result → HasCauses more a a' (Turn letter ∷ lines) result
  pub allowed : (a a' : ArrayState) (more : ℕ) (lines : List Item) (result : Result (Unit {0}) Halt) → HasCauses 0 a a' lines result → HasCauses more a a' lines result
  -- the lines before a cut, and those from it on
  pub cut : (a b c : ArrayState) (lines items : List Item) (result : Result (Unit {0}) Halt)
      → HasCauses 0 a b (lines ++ Cut ∷ []) (Ok tt) → HasCauses 1 b c (Cut ∷ items) result → HasCauses 0 a c (lines ++ Cut ∷ items) result
  -- power's own cut needs none of the array
  pub power : (a b c : ArrayState) (lines items : List Item) (result : Result (Unit {0}) Halt)
      → HasCauses 0 a b lines (Ok tt) → HasCauses 1 b c (Cut ∷ items) result → HasCauses 1 a c (lines ++ Cut ∷ items) result
