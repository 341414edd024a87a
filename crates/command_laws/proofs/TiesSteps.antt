-- The ties hold again after each command of the queue.
use Rattle.std.proofs.Common.{◌≡◌, ℕ, Bool, true, false, refl, sym, ◌∙◌, ap}
use Rattle.std.specs.Prelude.{Option, Some, None, IfSome}
use Rattle.std.proofs.lemmas.Bool.{false≢true}
use Rattle.std.proofs.lemmas.List.{length-set}
use Rattle.array_edge.specs.Array.{ArrayState}
use Rattle.bus_link.specs.Script.{Script, armed, struck, word_used}
use Rattle.bus_link.specs.declared.link.Cause.TheVariants.{Response}
use Rattle.card_core.specs.Card.{CardState, blocks_of as card_blocks}
use Rattle.card_core.specs.declared.phase.Phase.{Phase}
use Rattle.cmd_words.specs.declared.command.Command.{Command}
use Rattle.cmd_words.specs.declared.command.Command.TheVariants.{Address as StartSector}
use Rattle.cq_engine.specs.Outcome.{Holding, stopped_with}
use Rattle.cq_engine.specs.Words.{execute_of, params_of, poll_of}
use Rattle.cq_engine.specs.declared.did.Did.{Did}
use Rattle.cq_engine.specs.declared.did.Did.TheVariants.{Sent as SentCommand, Stopped}
use Rattle.cq_regs.specs.Slots.{advanced, is_rung, made_ready, progress_of}
use Rattle.cq_regs.specs.State.{Registers}
use Rattle.cq_schedule.specs.Held.{remembered}
use Rattle.cq_schedule.specs.declared.rules.Due.TheVariants.{Address, Execute, Poll, Serve}
use Rattle.storage_machine.specs.Commands.{is_gone}
use Rattle.storage_model.specs.declared.faults.BusKind.{BusKind}
use Rattle.storage_model.specs.declared.faults.BusKind.TheVariants.{Lost, NoResp}
use Rattle.task_queue.specs.Queue.{new_place}
use Rattle.task_queue.proofs.Marks.{length-marked}
use Rattle.world_state.specs.Engine.{EngineEvent, phase_left, phase_taken}
use Rattle.world_state.specs.Path.{PathState, moved, plan_of, under_way}
use Rattle.world_state.specs.Steps.{is_of_phase}
use Rattle.world_state.specs.Ties.{AreTied, HasHit, HasPhase, IsAhead, IsBeforeFault, IsCardOf, NamesRung, IsScript, words_of}
use Rattle.command_laws.proofs.Cases.{stop_did, stop_path}
use Rattle.command_laws.proofs.Executing.{executed_card, executed_error, executed_regs, executing_cases, is_executing}
use Rattle.command_laws.proofs.ExecutingTies.{ahead_is, begun_is, execute_due, executing_runs, fails_is, hit_is, phase_is}
use Rattle.command_laws.proofs.Naming.{is_naming, named_card, named_error, named_held, named_regs, naming_cases, naming_idle}
use Rattle.command_laws.proofs.NamingTies.{naming_runs}
use Rattle.command_laws.proofs.Onwards.{all_of, no_way, quiet, quiet_begun}
use Rattle.command_laws.proofs.Parts.{facts, holding, path_with}
use Rattle.command_laws.proofs.Polling.{poll_card, poll_cases, poll_choice, poll_due, poll_error, poll_idle, poll_regs, poll_word}
use Rattle.command_laws.proofs.PollingTies.{polling_runs}
use Rattle.command_laws.proofs.Rings.{rung-advanced, rung-made_ready}
use Rattle.command_laws.proofs.Running.{IsRunning, running, runs_so}
use Rattle.command_laws.proofs.Sending.{IsSending, is_past, is_sending, past_card, past_cases, past_regs, past_word, sending_cases, sending_idle, sent_card, sent_error, sent_index, sent_regs}
use Rattle.command_laws.proofs.SendingTies.{sending_runs}
use Rattle.command_laws.proofs.Stops.{stop_ties}
use Rattle.command_laws.proofs.TiesOn.{IsCalm, card_on, fixed, script_armed, script_struck, script_used, ties_on}

-- the ties, as what is to be shown of a path
abbrev pub Tied : PathState → ArrayState → Did → Option Phase → Type 0
Tied q a did taken = AreTied q

-- after a fault of the bus
stop_tied : (p : PathState) (a : ArrayState) (kind : BusKind) (who : Option ℕ) (information : ℕ) (card : CardState) (script : Script) (taken : Option Phase) → AreTied p
    → IsCalm p → IsCardOf (plan_of p) (phase_left card false) → IsScript script
    → IfSome who (λ tag. is_rung (progress_of p.regs.ring tag) ≡ true)
    → EngineEvent p a (stop_path p kind who information card script) a (stop_did kind who) taken → AreTied (stop_path p kind who information card script)
stop_tied p a kind who information card script taken t calm c s named e =
    stop_ties p a a (stop_did kind who) taken (holding (remembered p.engine.held p.regs) (stopped_with p.regs information) (stop_did kind who) p.engine) information
    p.regs.response_index p.regs.response_argument (phase_left card false) script t calm c refl s named e

unstopped : (p : PathState) (engine : Holding) (regs : Registers) (card : CardState) (script : Script) → regs.stopped ≡ false
    → NamesRung (path_with p engine regs card script)
unstopped p engine regs card script e h = absurd (false≢true (sym e ∙ h))

same_card : (p : PathState) → AreTied p → IsCardOf (plan_of p) (phase_left p.card false)
same_card p t = card_on (plan_of p) p.card p.card.queue p.card.phase None t.card refl

out : (p : PathState) (command : Command) → AreTied p → IsScript (armed p.script command (card_blocks p.card command))
out p command t = script_armed p.script command (card_blocks p.card command) t.script

lost_out : (p : PathState) (command : Command) → AreTied p → IsScript (struck (armed p.script command (card_blocks p.card command)))
lost_out p command t = script_struck (armed p.script command (card_blocks p.card command)) (out p command t)

pub serve_ties : (p : PathState) (a : ArrayState) (p' : PathState) (a' : ArrayState) (did : Did) (phase : Option Phase) (e : EngineEvent p a p' a' did phase) (slot : ℕ)
    → e.event.acts.due ≡ Serve slot → is_of_phase p (Serve slot) ≡ false → AreTied p → AreTied p'
serve_ties p a p' a' did phase e slot is not_phase t =
    let f = facts p a p' a' did phase e (Serve slot) is in
    let r = running p (remembered p.engine.held p.regs) (Serve slot) t f.is_due (λ x. cc x) (λ x. cc x) in
    let n = is_naming p a p' a' did slot f t r not_phase in
    let command = params_of slot n.task.desc in
    let script = armed p.script command (card_blocks p.card command) in
    let told = named_card p slot n.task in
    let told_is : IsCardOf (plan_of p) (phase_left told false) = card_on (plan_of p) p.card told.queue p.card.phase None t.card refl in
    naming_cases Tied p a p' a' did phase e slot is t r n
    (λ _ x. stop_tied p a Lost (Some slot) (named_error slot n.task) p.card (struck script) (phase_taken p.card false) t r.calm (same_card p t) (lost_out p command t) (ap is_rung f.slot.1) x)
    (λ _ x. stop_tied p a NoResp (Some slot) (named_error slot n.task) told (struck script) (phase_taken told false) t r.calm told_is (lost_out p command t) (ap is_rung f.slot.1) x)
    (λ _ x.
    let regs = named_regs p slot n.task in
    let d = SentCommand command in
    let engine = holding (named_held p slot n.task) regs d p.engine in
    let q = path_with p engine regs (phase_left told false) script in
    let way : under_way q ≡ None = no_way regs (naming_idle p regs slot n.task (x.one t.one) f.slot.1 refl) in
    ties_on p a a d (phase_taken told false) engine regs (phase_left told false) script t r.calm x
    (record {
      fixed =
          fixed p p.regs.stopped p.regs.interrupts (advanced p.regs.ring slot) regs.queue_status p.regs.error_information regs.response_index
          regs.response_argument t refl x.ring (rung-advanced p.regs.ring slot);
      card_is = told_is;
      script_is = out p command t;
      running = λ _ tag low. naming_runs p engine.cause slot n.id n.task script f.slot.0 n.is n.asks f.slot.1 tag low (x.one t.one) (t.running (runs_so p r));
      begun = quiet_begun q way;
      phase = quiet (HasPhase q) (under_way q) way;
      ahead = quiet (IsAhead q) (under_way q) way;
      hit = quiet (HasHit q) (under_way q) way;
      heard = quiet (λ tag. is_gone q.script.hit ≡ false) (under_way q) way;
      fails = quiet (λ tag. IsBeforeFault q.script.hit (moved q)) (under_way q) way;
      names = unstopped p engine regs (phase_left told false) script r.on;
    }))

address_by : (p : PathState) (a : ArrayState) (p' : PathState) (a' : ArrayState) (did : Did) (phase : Option Phase) (e : EngineEvent p a p' a' did phase) (slot : ℕ)
    → (is : e.event.acts.due ≡ Address slot) → AreTied p → IsRunning p
    → (n : IsSending p a p' a' did slot (facts p a p' a' did phase e (Address slot) is)) → (past : Bool) → is_past p n.task.h.task.desc ≡ past → AreTied p'
address_by p a p' a' did phase e slot is t r n true far =
    let command : Command = StartSector n.task.h.task.desc.start in
    let script = armed p.script command (card_blocks p.card command) in
    let told = past_card p in
    let told_is : IsCardOf (plan_of p) (phase_left told false) = card_on (plan_of p) p.card told.queue p.card.phase None t.card refl in
    past_cases Tied p a p' a' did phase e slot is t n far
    (λ _ x. stop_tied p a Lost (Some slot) (sent_error slot n.task.h.task.desc) p.card (struck script) (phase_taken p.card false) t r.calm (same_card p t) (lost_out p command t) (ap is_rung (facts p a p' a' did phase e (Address slot) is).slot.is_at) x)
    (λ _ x. stop_tied p a NoResp (Some slot) (sent_error slot n.task.h.task.desc) told (struck script) (phase_taken told false) t r.calm told_is (lost_out p command t) (ap is_rung (facts p a p' a' did phase e (Address slot) is).slot.is_at) x)
    (λ _ x.
    let d = Stopped (Response past_word slot) in
    let engine = holding (remembered p.engine.held p.regs) (past_regs p slot n.task.h.task.desc) d p.engine in
    stop_ties p a a d (phase_taken told false) engine (sent_error slot n.task.h.task.desc) (sent_index n.task.h.task.desc) past_word (phase_left told false) script t r.calm
    told_is refl (out p command t) (ap is_rung (facts p a p' a' did phase e (Address slot) is).slot.is_at) x)
address_by p a p' a' did phase e slot is t r n false near =
    let command : Command = StartSector n.task.h.task.desc.start in
    let script = armed p.script command (card_blocks p.card command) in
    let f = facts p a p' a' did phase e (Address slot) is in
    let desc = n.task.h.task.desc in
    let told = sent_card p slot desc in
    let told_is : IsCardOf (plan_of p) (phase_left told false) =
    card_on (plan_of p) p.card told.queue p.card.phase None t.card (length-set p.card.queue.slots slot (Some (new_place (words_of slot desc) desc.start))) in
    sending_cases Tied p a p' a' did phase e slot is t n near
    (λ _ x. stop_tied p a Lost (Some slot) (sent_error slot desc) p.card (struck script) (phase_taken p.card false) t r.calm (same_card p t) (lost_out p command t) (ap is_rung (facts p a p' a' did phase e (Address slot) is).slot.is_at) x)
    (λ _ x. stop_tied p a NoResp (Some slot) (sent_error slot desc) told (struck script) (phase_taken told false) t r.calm told_is (lost_out p command t) (ap is_rung (facts p a p' a' did phase e (Address slot) is).slot.is_at) x)
    (λ _ x.
    let regs = sent_regs p slot desc in
    let d = SentCommand command in
    let engine = holding (remembered p.engine.held p.regs) regs d p.engine in
    let q = path_with p engine regs (phase_left told false) script in
    let way : under_way q ≡ None = no_way regs (sending_idle p slot desc t.one f.slot.is_at) in
    ties_on p a a d (phase_taken told false) engine regs (phase_left told false) script t r.calm x
    (record {
      fixed =
          fixed p p.regs.stopped p.regs.interrupts (advanced p.regs.ring slot) regs.queue_status p.regs.error_information regs.response_index
          regs.response_argument t refl x.ring (rung-advanced p.regs.ring slot);
      card_is = told_is;
      script_is = out p command t;
      running = λ _ tag low. sending_runs p engine.cause slot n.task script t f.slot.below f.slot.is_at near tag low (t.running (runs_so p r));
      begun = quiet_begun q way;
      phase = quiet (HasPhase q) (under_way q) way;
      ahead = quiet (IsAhead q) (under_way q) way;
      hit = quiet (HasHit q) (under_way q) way;
      heard = quiet (λ tag. is_gone q.script.hit ≡ false) (under_way q) way;
      fails = quiet (λ tag. IsBeforeFault q.script.hit (moved q)) (under_way q) way;
      names = unstopped p engine regs (phase_left told false) script r.on;
    }))

pub address_ties : (p : PathState) (a : ArrayState) (p' : PathState) (a' : ArrayState) (did : Did) (phase : Option Phase) (e : EngineEvent p a p' a' did phase) (slot : ℕ)
    → e.event.acts.due ≡ Address slot → AreTied p → AreTied p'
address_ties p a p' a' did phase e slot is t =
    let f = facts p a p' a' did phase e (Address slot) is in
    let r = running p (remembered p.engine.held p.regs) (Address slot) t f.is_due (λ x. cc x) (λ x. cc x) in
    let n = is_sending p a p' a' did slot f t r in
    address_by p a p' a' did phase e slot is t r n (is_past p n.task.h.task.desc) refl

pub poll_ties : (p : PathState) (a : ArrayState) (p' : PathState) (a' : ArrayState) (did : Did) (phase : Option Phase) (e : EngineEvent p a p' a' did phase)
    → e.event.acts.due ≡ Poll → AreTied p → AreTied p'
poll_ties p a p' a' did phase e is t =
    let f = facts p a p' a' did phase e Poll is in
    let r = running p (remembered p.engine.held p.regs) Poll t f.is_due (λ x. cc x) (λ x. cc x) in
    let due = poll_due (remembered p.engine.held p.regs) p.regs p.memory f.is_due in
    let command = poll_of p.regs in
    let script = armed p.script command (card_blocks p.card command) in
    let told = poll_card p a in
    let told_is : IsCardOf (plan_of p) (phase_left told false) =
    card_on (plan_of p) p.card told.queue p.card.phase None t.card (length-marked (poll_choice p a) p.card.queue.slots) in
    poll_cases Tied p a p' a' did phase e is t due
    (λ _ x. stop_tied p a Lost None (poll_error p) p.card (struck script) (phase_taken p.card false) t r.calm (same_card p t) (lost_out p command t) tt x)
    (λ _ x.
    stop_tied p a NoResp None (poll_error p) told (struck (word_used script)) (phase_taken told false) t r.calm told_is
    (script_struck (word_used script) (script_used script (out p command t))) tt x)
    (λ _ x.
    let regs = poll_regs p a in
    let d = SentCommand command in
    let engine = holding (remembered p.engine.held p.regs) regs d p.engine in
    let q = path_with p engine regs (phase_left told false) (word_used script) in
    let way : under_way q ≡ None = no_way regs (poll_idle p a t due) in
    ties_on p a a d (phase_taken told false) engine regs (phase_left told false) (word_used script) t r.calm x
    (record {
      fixed =
          fixed p p.regs.stopped p.regs.interrupts (made_ready p.regs.ring (poll_word p a)) regs.queue_status p.regs.error_information regs.response_index
          regs.response_argument t refl x.ring (rung-made_ready p.regs.ring (poll_word p a));
      card_is = told_is;
      script_is = script_used script (out p command t);
      running = λ _ tag low. polling_runs p a engine.cause (word_used script) t due tag low (t.running (runs_so p r) tag low);
      begun = quiet_begun q way;
      phase = quiet (HasPhase q) (under_way q) way;
      ahead = quiet (IsAhead q) (under_way q) way;
      hit = quiet (HasHit q) (under_way q) way;
      heard = quiet (λ tag. is_gone q.script.hit ≡ false) (under_way q) way;
      fails = quiet (λ tag. IsBeforeFault q.script.hit (moved q)) (under_way q) way;
      names = unstopped p engine regs (phase_left told false) (word_used script) r.on;
    }))

pub execute_ties : (p : PathState) (a : ArrayState) (p' : PathState) (a' : ArrayState) (did : Did) (phase : Option Phase) (e : EngineEvent p a p' a' did phase) (slot : ℕ)
    → e.event.acts.due ≡ Execute slot → AreTied p → AreTied p'
execute_ties p a p' a' did phase e slot is t =
    let f = facts p a p' a' did phase e (Execute slot) is in
    let r = running p (remembered p.engine.held p.regs) (Execute slot) t f.is_due (λ x. cc x) (λ x. cc x) in
    let n = is_executing p a p' a' did slot f t r in
    let due = execute_due (remembered p.engine.held p.regs) p.regs p.memory slot f.is_due in
    let desc = n.task.h.task.desc in
    let command = execute_of slot desc in
    let script = armed p.script command (card_blocks p.card command) in
    let told = executed_card p slot n.task.h in
    let size = length-set p.card.queue.slots slot None in
    let told_is : IsCardOf (plan_of p) told = card_on (plan_of p) p.card told.queue told.phase told.begun t.card size in
    let left_is : IsCardOf (plan_of p) (phase_left told false) = card_on (plan_of p) p.card told.queue told.phase None t.card size in
    executing_cases Tied p a p' a' did phase e slot is t r n
    (λ _ x. stop_tied p a Lost (Some slot) (executed_error slot desc) p.card (struck script) (phase_taken p.card false) t r.calm (same_card p t) (lost_out p command t) (ap is_rung f.slot.is_at) x)
    (λ _ x. stop_tied p a NoResp (Some slot) (executed_error slot desc) told (struck script) (phase_taken told false) t r.calm left_is (lost_out p command t) (ap is_rung f.slot.is_at) x)
    (λ g x.
    let regs = executed_regs p slot desc in
    let d = SentCommand command in
    let engine = holding (remembered p.engine.held p.regs) regs d p.engine in
    ties_on p a a d (phase_taken told true) engine regs told script t r.calm x
    (record {
      fixed =
          fixed p p.regs.stopped p.regs.interrupts (advanced p.regs.ring slot) regs.queue_status p.regs.error_information regs.response_index
          regs.response_argument t refl x.ring (rung-advanced p.regs.ring slot);
      card_is = told_is;
      script_is = out p command t;
      running = λ _ tag low.
          executing_runs p engine.cause slot n.task t r f.slot.below f.slot.is_at due n.queued x.ring (x.one t.one) tag low (t.running (runs_so p r));
      begun = begun_is p engine.cause slot n.task t r f.slot.below f.slot.is_at due n.queued x.ring (x.one t.one);
      phase = phase_is p engine.cause slot n.task t r f.slot.below f.slot.is_at due n.queued x.ring (x.one t.one);
      ahead = ahead_is p engine.cause slot n.task t r f.slot.below f.slot.is_at due n.queued x.ring (x.one t.one);
      hit = hit_is p engine.cause slot n.task t r f.slot.below f.slot.is_at due n.queued x.ring (x.one t.one);
      heard = all_of (under_way (path_with p engine regs told script)) g;
      fails = fails_is p engine.cause slot n.task t r f.slot.below f.slot.is_at due n.queued x.ring (x.one t.one);
      names = unstopped p engine regs told script r.on;
    }))
