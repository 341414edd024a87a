-- The beginning of a run, and its end.
use Rattle.std.specs.Prelude.{◌≡◌, ℕ, false, if◌then◌else◌, IfSome, List, [], None, Some, OnOk, Result, IsErrOf}
use Rattle.storage_machine.specs.Host.{to_do}
use Rattle.storage_machine.specs.declared.state.State.{State}
use Rattle.storage_model.specs.Plan.{IsValidPlan}
use Rattle.storage_model.specs.declared.block.Block.{Block}
use Rattle.storage_model.specs.declared.faults.Faults.{Faults}
use Rattle.storage_model.specs.declared.plan.Plan.{Plan}
use Rattle.storage_model.specs.declared.trace.End.TheVariants.{Good, Fault}
use Rattle.storage_model.specs.declared.trace.Item.TheVariants.{Off}
use Rattle.trace_effects.specs.Effects.{effect}
use Rattle.trace_rules.specs.Lines.{line_rule}
use Rattle.run_laws.specs.Whole.{opened}
use Rattle.array_edge.specs.Array.{ArrayState}
use Rattle.bus_link.specs.Script.{at_start as script_at_start}
use Rattle.card_core.specs.Card.{idle_card}
use Rattle.cq_engine.specs.Outcome.{holds_nothing}
use Rattle.cq_regs.specs.Effects.{at_reset}
use Rattle.cut_order.specs.Order.{OrderState, fresh}
use Rattle.dark_laws.specs.Anew.{IsSetAnew, Outlasts}
use Rattle.drv_core.specs.State.{at_start}
use Rattle.intent_store.specs.Intent.{shown_by}
use Rattle.intent_store.specs.declared.ends.StoreEnd.{StoreEnd}
use Rattle.intent_store.specs.declared.ends.StoreEnd.TheVariants.{Flash}
use Rattle.power_laws.specs.Power.{FlushEvent}
use Rattle.world_state.specs.Path.{PathState, layout}
use Rattle.world_state.specs.Reading.{Context, state_of}
use Rattle.world_state.specs.Stands.{Agrees, IsNear, Stands}
use Rattle.world_steps.specs.World.{StandsFor, WorldState}
use Rattle.drv_ring.specs.Layout.{HasLayout}
use Rattle.storage_model.specs.Faults.{IsHit, IsValidHits}
use Rattle.std.specs.Prelude.{All}

-- the lines of a plan's card: one that writes through holds a write's blocks in 1024 until they are kept
abbrev pub lines_made : Plan → ℕ
lines_made plan = if plan.through then 1024 else plan.lines

-- a run before its first line: all requests wait, and the card is off
pub record IsFresh (plan : Plan) (faults : Faults) (w : WorldState) : Type 0 where
  pub driver : w.path.driver ≡ at_start plan
  pub regs : w.path.regs ≡ at_reset
  pub layout_fits : HasLayout w.path.memory (layout w.path)
  pub engine : w.path.engine ≡ holds_nothing
  pub card : w.path.card ≡ idle_card plan.depth (lines_made plan) plan.through w.path.card.store
  pub cache : w.path.card.store.cache ≡ record { lines = []; last = 0; room = lines_made plan }
  pub script : w.path.script ≡ script_at_start faults.bus faults.ready
  pub order : w.order ≡ fresh faults.turns faults.cuts

-- the faults of the bus come by rising numbers
pub record AreToCome (faults : Faults) : Type 0 where
  pub hits : IsValidHits faults.bus
  pub small : All IsHit faults.bus

-- its path is sound
abbrev pub IsSoundFresh : Type 0
IsSoundFresh = (plan : Plan) (faults : Faults) (w : WorldState) → IsValidPlan plan → AreToCome faults → IsFresh plan faults w → Outlasts w.path

-- the path behind its opening
pub record IsOpened (w : WorldState) (a : ArrayState) (w' : WorldState) (a' : ArrayState) : Type 0 where
  pub anew : IsSetAnew w.path a w'.path a'
  pub order : w'.order ≡ w.order

-- it stands for the machine's state behind the line of the card
abbrev pub StandsOpened : Type 0
StandsOpened =
    (plan : Plan) (faults : Faults) (w : WorldState) (a : ArrayState) (w' : WorldState) (a' : ArrayState) (base : List Block)
    → IsValidPlan plan → AreToCome faults → IsFresh plan faults w → IsOpened w a w' a' → shown_by a' ≡ Some base
    → StandsFor w' a' (opened base plan faults)

-- where nothing is to do, the end's line may stand: a good end where all is kept, and a fault's
pub record MayEnd (p : PathState) (o : OrderState) (a : ArrayState) (p' : PathState) (a' : ArrayState) (result : Result (Unit {0}) StoreEnd) (s : State) : Type 0 where
  pub good : OnOk result (line_rule s (Off Good) ≡ None)
  pub kept : OnOk result (IfSome (shown_by a') (λ pages. pages ≡ (effect s (Off Good)).base))
  pub stands : OnOk result (Stands p' o a' (effect s (Off Good)))
  pub fault : IsErrOf result Flash → line_rule s (Off Fault) ≡ None
  pub near : IfSome (shown_by a') (IsNear s)
  pub near_fault : IsErrOf result Flash → IfSome (shown_by a') (IsNear (effect s (Off Fault)))

abbrev pub EndsByFlush : Type 0
EndsByFlush =
    (w : WorldState) (a : ArrayState) (p' : PathState) (a' : ArrayState) (result : Result (Unit {0}) StoreEnd) (c : Context)
    → FlushEvent w.path a p' a' result → Agrees w.path a c → to_do (state_of w.path w.order c) ≡ false
    → MayEnd w.path w.order a p' a' result (state_of w.path w.order c)
