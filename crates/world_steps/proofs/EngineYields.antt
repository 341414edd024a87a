-- A phase yields to the `cut` line of its own number in an event of the engine.
use Rattle.std.proofs.Common.{◌≡◌, ◌==◌, ℕ, refl, sym, ◌∙◌, ap, subst, Bool, true, false, List, [], ◌∷◌}
use Rattle.std.specs.Prelude.{cond, is_some, ◌&&◌, Option, Some, None}
use Rattle.std.proofs.lemmas.Bool.{and_right, false≢true, true≢false}
use Rattle.array_edge.specs.Array.{ArrayState}
use Rattle.card_core.specs.declared.phase.Phase.{Phase}
use Rattle.cq_engine.specs.declared.did.Did.{Did}
use Rattle.cq_regs.specs.declared.slots.Progress.TheVariants.{Active}
use Rattle.cq_schedule.specs.Held.{remembered}
use Rattle.cq_schedule.specs.Order.{first_at}
use Rattle.cq_schedule.specs.declared.rules.Due.{Due}
use Rattle.cq_schedule.specs.declared.rules.Due.TheVariants.{Rest, Block as NextBlock, Close, Address, Serve, Execute, Poll, Tick}
use Rattle.storage_machine.specs.Commands.{due}
use Rattle.storage_machine.specs.Cuts.{has_own_line}
use Rattle.storage_machine.specs.Jobs.{is_direct}
use Rattle.storage_machine.specs.declared.commands.DueCommand.TheVariants as machine
use Rattle.storage_machine.specs.declared.state.State.{State}
use Rattle.storage_model.specs.declared.faults.Letter.TheVariants.{Engine as EngineActs}
use Rattle.storage_model.specs.declared.trace.Item.{Item}
use Rattle.storage_model.specs.declared.trace.Item.TheVariants.{Phase as PhaseLine}
use Rattle.storage_runs.specs.Runs.{Yields, begun_next}
use Rattle.trace_effects.specs.Effects.{begun}
use Rattle.trace_rules.specs.Steps.{is_cut_by, is_execute}
use Rattle.world_state.specs.Engine.{EngineEvent, engine_lines}
use Rattle.world_state.specs.Laws.{StateLaws, command_due, served_by}
use Rattle.world_state.specs.Path.{PathState, holder, is_busy, job}
use Rattle.world_state.specs.Reading.{Context, state_of}
use Rattle.world_state.specs.Stands.{Agrees}
use Rattle.world_state.specs.Ties.{AreTied}
use Rattle.world_steps.specs.World.{WorldState, chosen_of, is_cut_due, order_in}
use Rattle.world_steps.proofs.Dues.{is_of_data, not_stopped, some_active}
use Rattle.world_steps.proofs.Executes.{begins_phase, executes_bare}
use Rattle.world_steps.proofs.Prompts.{no_cut}
use Rattle.world_steps.proofs.Yielding.{begun_is, no_cut_by, yields_any}

-- lines that begin with no phase
yields_bare : (s : State) (items : List Item) → begins_phase items ≡ false → Yields s items
yields_bare s [] e = tt
yields_bare s (PhaseLine n id count kept ∷ items) e = absurd (true≢false e)
yields_bare s (item ∷ items) e = refl

-- while a block or the end of a phase is due, a phase is under way
data_busy : (p : PathState) (a : ArrayState) (p' : PathState) (a' : ArrayState) (did : Did) (phase : Option Phase) (e : EngineEvent p a p' a' did phase)
    → AreTied p → is_of_data e.event.acts.due ≡ true → is_busy p ≡ true
data_busy p a p' a' did phase e t data_due =
    let held = remembered p.engine.held p.regs in
    let acts = e.event.acts in
    let running = not_stopped held p.regs p.memory acts.due acts.is_due (λ rest. false≢true (sym (ap is_of_data rest) ∙ data_due)) in
    ap (λ b. is_some (cond b None (first_at Active p.regs.ring))) running
    ∙ some_active held p.regs acts.due t.regs.ring acts.slot data_due

-- no command but CMD46 and CMD47 has a phase of the queue
served_other : (p : PathState) (slot : ℕ) (request : Option ℕ) → is_execute (served_by p slot request) ≡ false
served_other p slot None = refl
served_other p slot (Some id) = by (is_direct (job p id))
  where
    by : (b : Bool) → is_execute (cond b (machine.Direct slot) (machine.Params slot)) ≡ false
    by true = refl
    by false = refl

due_begun : (s : State) → due (begun s EngineActs) ≡ due s
unfolding due begun
due_begun s = refl

not_cut_by : (w : WorldState) (a : ArrayState) (c : Context) → StateLaws → Agrees w.path a c → (p' : PathState) (a' : ArrayState) (did : Did) (phase : Option Phase)
    → (e : EngineEvent w.path a p' a' did phase) → is_execute (command_due w.path e.event.acts.due) ≡ false
    → is_cut_by (begun (state_of w.path (order_in w EngineActs) c) EngineActs) ≡ false
not_cut_by w a c laws g p' a' did phase e other =
    let s = state_of w.path (order_in w EngineActs) c in
    let acts = e.event.acts in
    and_right (has_own_line (begun s EngineActs)) (is_execute (due (begun s EngineActs)))
    (ap is_execute (due_begun s ∙ (laws.engine w.path (order_in w EngineActs) c g.tied g.number).command acts.due acts.is_due) ∙ other)

by_due : (w : WorldState) (a : ArrayState) (c : Context) → StateLaws → Agrees w.path a c → (p' : PathState) (a' : ArrayState) (did : Did)
    (phase : Option Phase) (e : EngineEvent w.path a p' a' did phase) → is_cut_due w ≡ false → (due : Due) → e.event.acts.due ≡ due
    → Yields (begun (state_of w.path (order_in w EngineActs) c) EngineActs) (engine_lines w.path p' did phase)
by_due w a c laws g p' a' did phase e none (Execute slot) is =
    yields_bare (begun (state_of w.path (order_in w EngineActs) c) EngineActs) (engine_lines w.path p' did phase)
    (executes_bare w.path a p' a' did phase e slot g.tied is)
by_due w a c laws g p' a' did phase e none (NextBlock slot k) is =
    yields_any (begun (state_of w.path (order_in w EngineActs) c) EngineActs) (engine_lines w.path p' did phase)
    (no_cut_by w a c EngineActs g (data_busy w.path a p' a' did phase e g.tied (ap is_of_data is)) none)
by_due w a c laws g p' a' did phase e none (Close slot) is =
    yields_any (begun (state_of w.path (order_in w EngineActs) c) EngineActs) (engine_lines w.path p' did phase)
    (no_cut_by w a c EngineActs g (data_busy w.path a p' a' did phase e g.tied (ap is_of_data is)) none)
by_due w a c laws g p' a' did phase e none (Serve slot) is =
    yields_any (begun (state_of w.path (order_in w EngineActs) c) EngineActs) (engine_lines w.path p' did phase)
    (not_cut_by w a c laws g p' a' did phase e (ap (λ d. is_execute (command_due w.path d)) is ∙ served_other w.path slot (holder w.path slot)))
by_due w a c laws g p' a' did phase e none due is =
    yields_any (begun (state_of w.path (order_in w EngineActs) c) EngineActs) (engine_lines w.path p' did phase)
    (not_cut_by w a c laws g p' a' did phase e (ap (λ d. is_execute (command_due w.path d)) is))

pub engine_yields : (w : WorldState) (a : ArrayState) (c : Context) → StateLaws → Agrees w.path a c → (p' : PathState) (a' : ArrayState) (did : Did)
    (phase : Option Phase) → EngineEvent w.path a p' a' did phase → EngineActs ≡ chosen_of w
    → Yields (begun_next (state_of w.path w.order c) EngineActs) (engine_lines w.path p' did phase)
engine_yields w a c laws g p' a' did phase e is =
    let S : State → Type 0 = λ s. Yields s (engine_lines w.path p' did phase) in
    subst S (sym (begun_is w a c g EngineActs))
    (by_due w a c laws g p' a' did phase e (no_cut w EngineActs refl is) e.event.acts.due refl)
