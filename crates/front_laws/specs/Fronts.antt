-- The lines of an event are written one by one, and the sink may fail in any of them. What the array shows then is near the state after the last whole line.
use Rattle.std.specs.Prelude.{◌≡◌, ℕ, List, ◌∷◌, ◌++◌, Option, IfSome, Result}
use Rattle.storage_model.specs.declared.block.Block.{Block}
use Rattle.storage_model.specs.declared.faults.Letter.{Letter}
use Rattle.storage_model.specs.declared.faults.Letter.TheVariants.{Host as HostActs, Engine as EngineActs, Card as CardActs, Cut as PowerActs}
use Rattle.storage_model.specs.declared.trace.Item.{Item}
use Rattle.storage_machine.specs.declared.state.Event.{Event}
use Rattle.storage_machine.specs.declared.state.Owed.{Owed}
use Rattle.storage_machine.specs.declared.state.State.{State}
use Rattle.storage_order.specs.Events.{Starts}
use Rattle.array_edge.specs.Array.{ArrayState}
use Rattle.card_core.specs.declared.phase.Phase.{Phase}
use Rattle.card_store.specs.declared.ends.StageEnd.{StageEnd}
use Rattle.cq_engine.specs.declared.did.Did.{Did}
use Rattle.cut_order.specs.Order.{OrderState}
use Rattle.drv_core.specs.declared.act.Act.{Act}
use Rattle.intent_store.specs.Intent.{shown_by}
use Rattle.power_laws.specs.Power.{CardEvent, card_lines, phase_cut}
use Rattle.world_state.specs.Engine.{EngineEvent, engine_lines}
use Rattle.world_state.specs.Host.{HostEvent, host_lines}
use Rattle.world_state.specs.Laws.{StateLaws}
use Rattle.world_state.specs.Path.{PathState}
use Rattle.world_state.specs.Reading.{Context, state_of}
use Rattle.world_state.specs.Stands.{Agrees, IsNear}
use Rattle.world_state.specs.Steps.{CommandSteps, HostSteps, PhaseSteps}
use Rattle.world_state.specs.Ties.{AreTied}

-- Wherever the actor's event breaks off in a line, the array shows what is near the state after the whole lines before it.
abbrev pub FrontsNear : Letter → PathState → ArrayState → List Item → ArrayState → Type 0
FrontsNear actor p a items a' =
    (o : OrderState) (c : Context) → Agrees p a c
    → (whole : List Item) (item : Item) (rest : List Item) → items ≡ whole ++ item ∷ rest
    → (last : State) → Starts (state_of p o c) actor whole last → IfSome (shown_by a') (IsNear last)

abbrev pub EngineFronts : Type 0
EngineFronts =
    (p : PathState) (a : ArrayState) (p' : PathState) (a' : ArrayState) (did : Did) (phase : Option Phase)
    → EngineEvent p a p' a' did phase → AreTied p → FrontsNear EngineActs p a (engine_lines p p' did phase) a'

abbrev pub HostFronts : Type 0
HostFronts =
    (p : PathState) (a : ArrayState) (p' : PathState) (a' : ArrayState) (act : Act)
    → HostEvent p a p' a' act → AreTied p → FrontsNear HostActs p a (host_lines p p' act) a'

-- of the card, and of power, which leaves the pages as they are
abbrev pub CardFronts : Type 0
CardFronts =
    (p : PathState) (a : ArrayState) (p' : PathState) (a' : ArrayState) (result : Result (Unit {0}) StageEnd)
    → CardEvent p a p' a' result → FrontsNear CardActs p a (card_lines p result) a'

abbrev pub PowerFronts : Type 0
PowerFronts = (p : PathState) (a : ArrayState) → FrontsNear PowerActs p a (phase_cut p) a

-- as they follow from what the path says of the state, and from what an event makes of it
abbrev pub EngineIsNear : Type 0
EngineIsNear = StateLaws → CommandSteps → PhaseSteps → EngineFronts

abbrev pub HostIsNear : Type 0
HostIsNear = StateLaws → HostSteps → HostFronts

abbrev pub CardIsNear : Type 0
CardIsNear = StateLaws → CardFronts

abbrev pub PowerIsNear : Type 0
PowerIsNear = StateLaws → PowerFronts

-- what is near a state is near it whatever letters are used, whose event it is, and what is owed
abbrev pub KeepsNear : Type 0
KeepsNear = (s : State) (letters : ℕ) (event : Event) (owed : Owed) (shown : List Block) → IsNear s shown → IsNear (record s { letters = letters; event = event; owed = owed }) shown
