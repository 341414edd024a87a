-- What is left to do falls with each event of the engine that a run chooses, and with each loss of power, whatever the array tells.
use Rattle.std.specs.Prelude.{◌≡◌, ◌<◌, ◌≤◌, ◌+◌, ℕ, true, false, is_some, length, [], Option}
use Rattle.array_edge.specs.Array.{ArrayState}
use Rattle.bus_link.specs.Script.{Script}
use Rattle.bus_link.specs.declared.link.Cause.TheVariants.{Response}
use Rattle.card_core.specs.declared.phase.Phase.{Phase}
use Rattle.cq_engine.specs.declared.did.Did.{Did}
use Rattle.cq_engine.specs.declared.did.Did.TheVariants.{Stopped}
use Rattle.cut_order.specs.Order.{OrderState, is_line_due, with_letter, with_line}
use Rattle.drv_core.specs.Judge.{error_of}
use Rattle.drv_core.specs.Work.{has_work}
use Rattle.drv_jobs.specs.Changes.{forgotten}
use Rattle.drv_recover.specs.declared.recovery.RecoveryState.TheVariants.{Calm}
use Rattle.world_state.specs.Engine.{EngineEvent, is_dark}
use Rattle.world_state.specs.Path.{PathState}
use Rattle.world_state.specs.Ties.{AreTied}
use Rattle.world_state.specs.Work.{answer_cost, issued, left_on_path, left_to_do, waiting}

-- power stays, and a stop by the card's response is for an error that ends a request
pub record IsEnding (did : Did) : Type 0 where
  pub lit : is_dark did ≡ false
  pub words : (word tag : ℕ) → did ≡ Stopped (Response word tag) → is_some (error_of word) ≡ true

-- an event of the engine while the host has no work, and a request waits or is issued
abbrev pub EngineFalls : Type 0
EngineFalls =
    (p : PathState) (a : ArrayState) (p' : PathState) (a' : ArrayState) (did : Did) (phase : Option Phase)
    → EngineEvent p a p' a' did phase → AreTied p → AreTied p' → has_work p.driver p.regs ≡ false → 1 ≤ waiting p + issued p → IsEnding did
    → left_on_path p' < left_on_path p

-- whatever event comes, no more is left to do after it
abbrev pub EngineMost : Type 0
EngineMost =
    (p : PathState) (a : ArrayState) (p' : PathState) (a' : ArrayState) (did : Did) (phase : Option Phase)
    → EngineEvent p a p' a' did phase → AreTied p → AreTied p' → IsEnding did → left_on_path p' ≤ left_on_path p

-- no more faults, words and numbers are left
pub record ScriptGoesOn (old new : Script) : Type 0 where
  pub hits : new.hits ≡ old.hits
  pub ready : new.ready ≡ old.ready
  pub sent : old.sent ≤ new.sent
  pub used : old.used ≤ new.used

abbrev pub EngineGoesOn : Type 0
EngineGoesOn =
    (p : PathState) (a : ArrayState) (p' : PathState) (a' : ArrayState) (did : Did) (phase : Option Phase)
    → EngineEvent p a p' a' did phase → AreTied p → ScriptGoesOn p.script p'.script

-- Power was lost and is on again: the issued requests are forgotten, registers and engine are anew, and the script goes on.
pub record IsAnew (p p' : PathState) : Type 0 where
  pub requests : p'.driver.requests ≡ forgotten p.driver.requests
  pub calm : p'.driver.recovery ≡ Calm
  pub ring : p'.regs.ring ≡ []
  pub running : p'.regs.stopped ≡ false
  pub counted : p'.regs.coalescing.counter ≡ 0
  pub script : ScriptGoesOn p.script p'.script

-- it leaves no more to do, and less where a request was issued
pub record AnewFalls : Type 0 where
  pub most : (p p' : PathState) → IsAnew p p' → left_on_path p' ≤ left_on_path p
  pub issued : (p p' : PathState) → IsAnew p p' → 1 ≤ issued p → left_on_path p' < left_on_path p

-- a letter or a `cut` line that is used pays for whatever its event leads to
pub record OrderFalls : Type 0 where
  pub same : (p p' : PathState) (o : OrderState) → left_on_path p' < left_on_path p → left_to_do p' o < left_to_do p o
  pub letter : (p p' : PathState) (o : OrderState) → o.letters < length o.turns → left_on_path p' < left_on_path p + answer_cost
      → left_to_do p' (with_letter o) < left_to_do p o
  pub line : (p p' : PathState) (o : OrderState) (sent : ℕ) → is_line_due o sent ≡ true → left_on_path p' < left_on_path p + answer_cost
      → left_to_do p' (with_line o sent) < left_to_do p o
  pub both : (p p' : PathState) (o : OrderState) (sent : ℕ) → o.letters < length o.turns → left_on_path p' < left_on_path p + answer_cost
      → left_to_do p' (with_line (with_letter o) sent) < left_to_do p o
