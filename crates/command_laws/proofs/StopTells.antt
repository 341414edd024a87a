-- What an event tells in which a fault of the bus stopped a command.
use Rattle.std.proofs.Common.{◌≡◌, ◌==◌, ◌+◌, ℕ, Bool, true, false, cond, refl, sym, ◌∙◌, ap, subst, min}
use Rattle.std.specs.Prelude.{◌&&◌, ◌||◌, List, [], ◌∷◌, ◌++◌, Option, Some, None, unwrap_or}
use Rattle.std.proofs.lemmas.Bool.{eq-eqb}
use Rattle.array_edge.specs.Array.{ArrayState}
use Rattle.bus_link.specs.Hits.{raised}
use Rattle.bus_link.specs.Script.{Script}
use Rattle.bus_link.specs.declared.link.Cause.TheVariants.{Bus as BusFault}
use Rattle.card_core.specs.Card.{CardState}
use Rattle.card_core.specs.declared.phase.Phase.{Phase}
use Rattle.card_core.specs.declared.phase.TheConstants.{DIRECT_TASK}
use Rattle.cq_engine.specs.Outcome.{Holding}
use Rattle.cut_order.specs.Order.{OrderState}
use Rattle.drv_core.specs.State.{is_recovering}
use Rattle.storage_machine.specs.Commands.{due, hit, is_calm, is_gone, is_kind, next_number, same_kind}
use Rattle.storage_machine.specs.declared.commands.DueCommand.{DueCommand}
use Rattle.storage_machine.specs.declared.state.Recovery.TheVariants as recovery
use Rattle.storage_machine.specs.declared.state.State.{State}
use Rattle.storage_machine.specs.declared.state.Stop.TheVariants as stop
use Rattle.storage_model.specs.declared.faults.BusKind.{BusKind}
use Rattle.storage_model.specs.declared.faults.Letter.TheVariants.{Engine as EngineActs}
use Rattle.storage_model.specs.declared.trace.Item.{Item}
use Rattle.storage_model.specs.declared.trace.Item.TheVariants.{Bus as BusLine}
use Rattle.storage_order.specs.Events.{is_over, is_untold}
use Rattle.trace_effects.specs.Effects.{after_bus, effect, named_more, uses_word, words_used}
use Rattle.trace_rules.specs.Lines.{bus_holds, holds, is_free, is_missed, is_target}
use Rattle.trace_rules.specs.Steps.{is_cleared}
use Rattle.world_state.specs.Engine.{engine_lines, id_at, phase_line_of}
use Rattle.world_state.specs.Path.{PathState, holder, is_busy, under_way}
use Rattle.world_state.specs.Reading.{Context, recovery_of, state_of, stop_by, stop_of}
use Rattle.world_state.specs.Stands.{Agrees, sent_of}
use Rattle.world_state.specs.Ties.{AreTied}
use Rattle.world_state.specs.Told.{Told}
use Rattle.command_laws.proofs.Agreeing.{agrees_on, context_with, named_once}
use Rattle.command_laws.proofs.Cases.{stop_did}
use Rattle.command_laws.proofs.Idled.{not_busy}
use Rattle.command_laws.proofs.Parts.{path_with}
use Rattle.command_laws.proofs.Printed.{due_told, hit_told, one_line, told}
use Rattle.command_laws.proofs.Running.{IsRunning}
use Rattle.command_laws.proofs.StopLines.{stop_state}
use Rattle.command_laws.proofs.Stops.{stop_regs}
use Rattle.command_laws.proofs.TiesOn.{IsCalm}

-- between two events nothing is owed or told
pub state_free : (p : PathState) (o : OrderState) (c : Context) → is_free (state_of p o c).owed ≡ true
unfolding state_of
state_free p o c = refl

pub state_untold : (p : PathState) (o : OrderState) (c : Context) → is_untold (state_of p o c).event ≡ true
unfolding state_of
state_untold p o c = refl

pub state_calm : (p : PathState) (o : OrderState) (c : Context) → IsCalm p → (state_of p o c).recovery ≡ recovery.Calm
unfolding state_of
state_calm p o c e = ap recovery_of e

-- the number of the next command
pub number_is : (p : PathState) (o : OrderState) (a : ArrayState) (c : Context) → Agrees p a c → is_busy p ≡ false
    → (raised p.script.sent == next_number (told (state_of p o c))) ≡ true
unfolding state_of
number_is p o a c g idle =
    let same : p.script.sent ≡ c.n = g.number ∙ ap (λ b. sent_of b c.n) idle in
    eq-eqb (raised p.script.sent) (min (c.n + 1) 4294967295) (ap raised same)

-- no stop is told while the engine runs
pub runs_stop : (p : PathState) → IsRunning p → stop_of p ≡ stop.Running
runs_stop p r =
    ap (λ state. cond (is_recovering state) stop.Running (cond p.regs.stopped (stop_by p p.engine.cause) stop.Running)) r.calm
    ∙ ap (λ b. cond b (stop_by p p.engine.cause) stop.Running) r.on

pub bus_over : (s : State) (n : ℕ) (kind : BusKind) (id : Option ℕ)
    → (is_over (effect s (BusLine n kind id)).owed ≡ true) × (is_untold (effect s (BusLine n kind id)).event ≡ true)
unfolding effect after_bus
bus_over s n kind id = (refl, refl)

all_four : (a b c d : Bool) → a ≡ true → b ≡ true → c ≡ true → d ≡ true → (a && (b && (c && d))) ≡ true
all_four a b c d e f g h = ap (λ x. x && (b && (c && d))) e ∙ ap (λ x. x && (c && d)) f ∙ ap (λ x. x && d) g ∙ h

missed_calm : (s : State) (kind : BusKind) (id : Option ℕ) → is_missed s kind id recovery.Calm ≡ is_target s kind id (due s)
missed_calm s kind None = refl
missed_calm s kind (Some id) = refl

pub bus_so : (s : State) (n : ℕ) (kind : BusKind) (id : Option ℕ) (dc : DueCommand) → s.recovery ≡ recovery.Calm → (n == next_number (told s)) ≡ true
    → is_gone (Some kind) ≡ true → hit s ≡ Some kind → same_kind kind kind ≡ true → due s ≡ dc → is_target (told s) kind id dc ≡ true
    → holds (told s) (BusLine n kind id) ≡ true
unfolding holds bus_holds
bus_so s n kind id dc calm number gone hit_s same d target =
    all_four (n == next_number (told s)) (is_gone (Some kind)) (is_kind (hit (told s)) kind) (is_missed (told s) kind id s.recovery) number gone
    (ap (λ h. is_kind h kind) (hit_told s ∙ hit_s) ∙ same)
    (ap (λ r. is_missed (told s) kind id r) calm ∙ missed_calm (told s) kind id ∙ ap (is_target (told s) kind id) (due_told s ∙ d) ∙ target)

-- the line, without that of a phase
lines_are : (p q : PathState) (kind : BusKind) (slot id : ℕ) (phase : Option Phase) → is_busy p ≡ false → (slot == DIRECT_TASK) ≡ false → holder p slot ≡ Some id
    → engine_lines p q (stop_did kind (Some slot)) phase ≡ BusLine q.script.sent kind (Some id) ∷ []
lines_are p q kind slot id phase idle queue is =
    ap (λ b. cond (b || (slot == DIRECT_TASK)) (phase_line_of p q phase) [] ++ BusLine q.script.sent kind (Some (id_at p slot)) ∷ []) idle
    ∙ ap (λ b. cond b (phase_line_of p q phase) [] ++ BusLine q.script.sent kind (Some (id_at p slot)) ∷ []) queue
    ∙ ap (λ o. BusLine q.script.sent kind (Some (unwrap_or o 0)) ∷ []) is

pub stop_tells : (p : PathState) (o : OrderState) (a : ArrayState) (c : Context) (engine : Holding) (information index word : ℕ) (card : CardState) (script : Script)
    (kind : BusKind) (slot id : ℕ) (phase : Option Phase) (dc : DueCommand) → AreTied p → IsRunning p → under_way p ≡ None → Agrees p a c
    → AreTied (path_with p engine (stop_regs p information index word) card script)
    → engine.cause ≡ Some (BusFault kind (Some slot)) → card.store ≡ p.card.store
    → script.hits ≡ p.script.hits → script.ready ≡ p.script.ready → script.used ≡ p.script.used → script.sent ≡ raised p.script.sent
    → holder p slot ≡ Some id → (slot == DIRECT_TASK) ≡ false
    → is_gone (Some kind) ≡ true → same_kind kind kind ≡ true → hit (state_of p o c) ≡ Some kind → due (state_of p o c) ≡ dc
    → is_target (told (state_of p o c)) kind (Some id) dc ≡ true → uses_word (told (state_of p o c)) kind ≡ false
    → Told EngineActs (state_of p o c) (engine_lines p (path_with p engine (stop_regs p information index word) card script) (stop_did kind (Some slot)) phase)
    (path_with p engine (stop_regs p information index word) card script) o a
stop_tells p o a c engine information index word card script kind slot id phase dc t r way g tq cause store hits ready used sent is queue gone same hit_s due_s target words =
    let q = path_with p engine (stop_regs p information index word) card script in
    let s = state_of p o c in
    let n = raised p.script.sent in
    let idle : is_busy p ≡ false = not_busy p way in
    let stop_now : stop_of q ≡ stop.Bus (Some id) =
    ap (λ state. cond (is_recovering state) stop.Running (stop_by q engine.cause)) r.calm ∙ ap (stop_by q) cause ∙ ap stop.Bus is in
    let line : Item = BusLine n kind (Some id) in
    let ends = bus_over (told s) n kind (Some id) in
    let P : List Item → Type 0 = λ items. Told EngineActs s items q o a in
    let lines : engine_lines p q (stop_did kind (Some slot)) phase ≡ line ∷ [] =
    lines_are p q kind slot id phase idle queue is ∙ ap (λ k. BusLine k kind (Some id) ∷ []) sent in
    subst P (sym lines)
    (record {
      context = context_with c n (named_more c.named (Some id));
      agrees =
          agrees_on p engine (stop_regs p information index word) card script a c n (named_more c.named (Some id)) g tq way refl store sent
          (named_once p engine (stop_regs p information index word) card script c.named slot id t g.named (runs_stop p r) is stop_now);
      happens =
          one_line s line (state_of q o (context_with c n (named_more c.named (Some id)))) (state_free p o c) (state_untold p o c)
          (bus_so s n kind (Some id) dc (state_calm p o c r.calm) (number_is p o a c g idle) gone hit_s same due_s target)
          (ap is_calm (state_calm p o c r.calm)) (ap (λ x. is_calm x || is_cleared x) (state_calm p o c r.calm)) refl ends.0 ends.1
          (stop_state p o c engine information index word card script n kind (Some id) t r.calm idle store hits ready stop_now
          (used ∙ sym (ap (λ b. cond b (words_used (told s)) p.script.used) words)));
    })
