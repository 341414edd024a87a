-- What an actor's event made of the path, and how its lines were written: all of them, or up to the failure of the sink; and where power was lost in it, what came of that.
use Rattle.std.specs.Prelude.{◌≡◌, ◌⊎◌, ℕ, Bool, true, false, List, None, OnOk, Option, Result, Ok, Err}
use Rattle.storage_model.specs.declared.ends.Halt.{Halt}
use Rattle.storage_model.specs.declared.ends.Halt.TheVariants.{SinkFailed}
use Rattle.storage_model.specs.declared.trace.Item.{Item}
use Rattle.trace_print.specs.Prints.{Breaks}
use Rattle.trace_text.specs.Trace.{items_text}
use Rattle.array_edge.specs.Array.{ArrayState}
use Rattle.card_core.specs.declared.phase.Phase.{Phase}
use Rattle.card_store.specs.declared.ends.StageEnd.{StageEnd}
use Rattle.cq_engine.specs.declared.did.Did.{Did}
use Rattle.drv_core.specs.declared.act.Act.{Act}
use Rattle.power_laws.specs.Power.{CardEvent, card_lines, is_lost, phase_cut}
use Rattle.power_step.specs.Loses.{IsBackOn, Loses}
use Rattle.world_state.specs.Engine.{EngineEvent, engine_lines, is_dark}
use Rattle.world_state.specs.Host.{HostEvent, host_lines}
use Rattle.world_state.specs.Path.{PathState}

-- the sink failed in one of the lines
pub record BrokeOff {K : Type 0} (took : K → List ℕ → K → Type 0) (items : List Item) (p : PathState) (a : ArrayState) (old : K) (result : Result (Unit {0}) Halt) (p' : PathState) (a' : ArrayState) (new : K) : Type 0 where
  pub failed : result ≡ Err SinkFailed
  pub breaks : Breaks took old items new
  pub path : p' ≡ p
  pub array : a' ≡ a

-- all were written, and the power is on
pub record WentWell {K : Type 0} (took : K → List ℕ → K → Type 0) (items : List Item) (lost : Bool) (p : PathState) (a : ArrayState) (old : K) (result : Result (Unit {0}) Halt) (p' : PathState) (a' : ArrayState) (new : K) : Type 0 where
  pub ok : result ≡ Ok tt
  pub lit : lost ≡ false
  pub taken : took old (items_text items) new
  pub path : p' ≡ p
  pub array : a' ≡ a

-- all were written, and power was lost
pub record WentDark {K : Type 0} (took : K → List ℕ → K → Type 0) (items : List Item) (lost : Bool) (p : PathState) (a : ArrayState) (old : K) (result : Result (Unit {0}) Halt) (p' : PathState) (a' : ArrayState) (new : K) : Type 0 where
  pub dark : lost ≡ true
  pub mid : K
  pub taken : took old (items_text items) mid
  pub loses : Loses took p a mid result p' a' new
  pub back : OnOk result (IsBackOn p a p' a')

-- after an event that left p and a
abbrev pub Written : {K : Type 0} → (K → List ℕ → K → Type 0) → List Item → Bool → PathState → ArrayState → K → Result (Unit {0}) Halt → PathState → ArrayState → K → Type 0
Written took items lost p a old result p' a' new =
    BrokeOff took items p a old result p' a' new ⊎ (WentWell took items lost p a old result p' a' new ⊎ WentDark took items lost p a old result p' a' new)

pub record EngineActed {K : Type 0} (took : K → List ℕ → K → Type 0) (p : PathState) (a : ArrayState) (old : K) (result : Result (Unit {0}) Halt) (p' : PathState) (a' : ArrayState) (new : K) : Type 0 where
  pub path : PathState
  pub array : ArrayState
  pub did : Did
  pub phase : Option Phase
  pub event : EngineEvent p a path array did phase
  pub written : Written took (engine_lines p path did phase) (is_dark did) path array old result p' a' new

pub record HostActed {K : Type 0} (took : K → List ℕ → K → Type 0) (p : PathState) (a : ArrayState) (old : K) (result : Result (Unit {0}) Halt) (p' : PathState) (a' : ArrayState) (new : K) : Type 0 where
  pub act : Act
  pub event : HostEvent p a p' a' act
  pub written : Written took (host_lines p p' act) false p' a' old result p' a' new

-- the phase that the card tells of is taken from it
abbrev pub taken_from : PathState → PathState
taken_from p = record p { card = record p.card { begun = None } }

abbrev pub left_by : Bool → PathState → PathState
left_by true p = taken_from p
left_by false p = p

pub record CardActed {K : Type 0} (took : K → List ℕ → K → Type 0) (p : PathState) (a : ArrayState) (old : K) (result : Result (Unit {0}) Halt) (p' : PathState) (a' : ArrayState) (new : K) : Type 0 where
  pub path : PathState
  pub array : ArrayState
  pub end : Result (Unit {0}) StageEnd
  pub event : CardEvent p a path array end
  pub written : Written took (card_lines p end) (is_lost end) (left_by (is_lost end) path) array old result p' a' new

abbrev pub PowerActed : {K : Type 0} → (K → List ℕ → K → Type 0) → PathState → ArrayState → K → Result (Unit {0}) Halt → PathState → ArrayState → K → Type 0
PowerActed took p a old result p' a' new = Written took (phase_cut p) true (taken_from p) a old result p' a' new
