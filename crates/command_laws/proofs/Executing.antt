-- CMD46 and CMD47: the event in which a ready task is executed.
use Rattle.std.proofs.Common.{◌≡◌, ℕ, Bool, true, false, cond, refl, ◌∙◌, ap, subst}
use Rattle.std.specs.Prelude.{nat_le, List, Option, Some, None, Result, Ok, Err, is_some}
use Rattle.std.specs.Bool.{beq}
use Rattle.std.specs.Option.{option_map, option_map_or}
use Rattle.std.specs.Result.{result_ok}
use Rattle.array_edge.specs.Array.{ArrayState}
use Rattle.bus_link.specs.declared.link.Cause.TheVariants.{Response}
use Rattle.card_core.specs.Card.{CardState}
use Rattle.card_core.specs.Response.{accepted, execute_response, refused, response_to, task_to_execute, with_begun}
use Rattle.card_core.specs.Response.Response.{Tell}
use Rattle.card_core.specs.Serving.{without_error}
use Rattle.card_core.specs.declared.phase.Phase.{Phase}
use Rattle.card_link.specs.Behind.{behind}
use Rattle.card_link.specs.Made.{CardMade, choice_of, sent}
use Rattle.cmd_words.specs.Command.{index_of}
use Rattle.cmd_words.specs.declared.command.Command.TheVariants.{Execute as ExecuteCommand}
use Rattle.cmd_words.specs.declared.status.TheConstants.Status.{ILLEGAL_COMMAND}
use Rattle.cq_desc.specs.declared.task.TaskDesc.{TaskDesc}
use Rattle.cq_engine.specs.After.{after_execute, executed, finished, led_on}
use Rattle.cq_engine.specs.Event.{Exchanges}
use Rattle.cq_engine.specs.Outcome.{Host, Outcome, host_of, outcome_of, responded, stopped_with}
use Rattle.cq_engine.specs.Standings.{OneOpen, is_open}
use Rattle.cq_engine.specs.Words.{command_error, execute_of}
use Rattle.cq_engine.specs.declared.did.Did.{Did}
use Rattle.cq_engine.specs.declared.did.Did.TheVariants.{Finished, Sent as SentCommand}
use Rattle.cq_engine.proofs.Places.{of-some}
use Rattle.cq_regs.specs.Effects.{moved_on}
use Rattle.cq_regs.specs.Slots.{IsRing, advanced, is_begun, next, progress_of}
use Rattle.cq_regs.specs.State.{Registers}
use Rattle.cq_regs.specs.declared.slots.Progress.TheVariants.{Active, Ready}
use Rattle.cq_regs.specs.declared.slots.Ringed.{Ringed}
use Rattle.cq_schedule.specs.Held.{held_at, remembered}
use Rattle.cq_schedule.specs.Order.{first_at}
use Rattle.cq_schedule.specs.declared.held.HeldTask.{HeldTask}
use Rattle.cq_schedule.specs.declared.rules.Due.TheVariants.{Execute}
use Rattle.task_queue.specs.Queue.{depth as queue_depth, is_ready, place_of, ready_task, slot as queue_slot}
use Rattle.task_queue.specs.declared.queue.Place.{Place}
use Rattle.task_queue.specs.declared.queue.Queued.{Queued}
use Rattle.task_queue.specs.declared.queue.QueueRefusal.{QueueRefusal}
use Rattle.task_queue.specs.declared.queue.QueueRefusal.TheVariants.{NotReady, PastDepth}
use Rattle.world_state.specs.Engine.{EngineEvent}
use Rattle.world_state.specs.Path.{PathState, behind_path, plan_of}
use Rattle.world_state.specs.Ties.{AreTied, is_queued}
use Rattle.command_laws.proofs.Begun.{BegunTask, begun_task}
use Rattle.command_laws.proofs.Cases.{Leads, OfAnswered, OfLost, OfSilent, cases}
use Rattle.command_laws.proofs.Naming.{within}
use Rattle.command_laws.proofs.Onwards.{queued_by}
use Rattle.command_laws.proofs.Parts.{Facts, busy_in, facts, host_at}
use Rattle.command_laws.proofs.Rings.{advanced-same, first_only}
use Rattle.command_laws.proofs.Running.{IsRunning}
use Rattle.command_laws.proofs.Words.{HasMask, without_error-good, without_error-masked}

pub record IsExecuting (p : PathState) (a : ArrayState) (p' : PathState) (a' : ArrayState) (did : Did) (slot : ℕ) (f : Facts p a p' a' did (Execute slot)) : Type 0 where
  pub task : BegunTask p slot
  pub crosses : Exchanges CardMade (behind_path p a) (behind f.card a' p'.script) (execute_of slot task.h.task.desc) (outcome_of did f.held p'.regs)
      (after_execute (host_at p) slot task.h.task.desc)
  pub memory : p'.memory ≡ p.memory
  pub queued : queue_slot p.card.queue slot ≡ Some (queued_by slot task.h)
  pub ready : is_ready (place_of p.card.queue slot) ≡ true

pub is_executing : (p : PathState) (a : ArrayState) (p' : PathState) (a' : ArrayState) (did : Did) (slot : ℕ) (f : Facts p a p' a' did (Execute slot)) → AreTied p
    → IsRunning p → IsExecuting p a p' a' did slot f
is_executing p a p' a' did slot f t r =
    let b = begun_task p slot t r f.slot.below (ap is_begun f.slot.is_at) in
    record {
      task = b;
      crosses =
          of-some (held_at (remembered p.engine.held p.regs) slot) b.h
          (λ held. Exchanges CardMade (behind_path p a) (behind f.card a' p'.script) (execute_of slot held.task.desc) (outcome_of did f.held p'.regs)
          (after_execute (host_at p) slot held.task.desc)) b.remembered_is f.does.0;
      memory = f.does.1;
      queued =
          b.runs.queue.queued
          ∙ ap (λ progress. cond (is_queued progress) (option_map (queued_by slot) (held_at p.engine.held slot)) None) f.slot.is_at
          ∙ ap (option_map (queued_by slot)) b.place;
      ready = b.runs.queue.chosen f.slot.is_at;
    }

abbrev pub executed_card : PathState → ℕ → HeldTask → CardState
executed_card p slot h = with_begun p.card (queued_by slot h)

abbrev pub executed_index : ℕ → TaskDesc → ℕ
executed_index slot desc = index_of (execute_of slot desc)

abbrev pub executed_error : ℕ → TaskDesc → ℕ
executed_error slot desc = command_error (executed_index slot desc) slot

abbrev pub executed_regs : PathState → ℕ → TaskDesc → Registers
executed_regs p slot desc = moved_on (responded p.regs (executed_index slot desc) without_error) slot

-- the place of a task that is queued and ready
taken_of : (o : Option Place) (queued : Queued) → option_map (λ (place : Place). place.queued) o ≡ Some queued → is_ready o ≡ true
    → result_ok (ready_task o) ≡ Some queued
taken_of None queued e ready = absurd (cc e)
taken_of (Some place) queued e ready =
    let yes : Queued → Result Queued QueueRefusal = λ x. Ok x in
    ap (λ b. result_ok (cond b (yes place.queued) (Err NotReady))) ready ∙ e

same_way : (b : Bool) → beq b b ≡ true
same_way true = refl
same_way false = refl

to_execute : (card : CardState) (slot : ℕ) (queued : Queued) → nat_le (queue_depth card.queue) slot ≡ false → queue_slot card.queue slot ≡ Some queued
    → is_ready (place_of card.queue slot) ≡ true → task_to_execute card queued.task.read slot ≡ Some queued
to_execute card slot queued low e ready =
    let no : QueueRefusal → Result Queued QueueRefusal = λ why. Err why in
    let of : Option Queued → Option Queued = λ o. option_map_or (λ x. cond (beq x.task.read queued.task.read) (Some x) None) o None in
    ap (λ b. of (result_ok (cond b (no PastDepth) (ready_task (place_of card.queue slot))))) low
    ∙ ap of (taken_of (place_of card.queue slot) queued e ready)
    ∙ ap (λ b. cond b (Some queued) None) (same_way queued.task.read)

executed_told : (card : CardState) (slot choice : ℕ) (queued : Queued) → card.csd.command_queue ≡ true → task_to_execute card queued.task.read slot ≡ Some queued
    → response_to card (ExecuteCommand queued.task.read slot) choice ≡ Tell without_error (with_begun card queued)
unfolding response_to
executed_told card slot choice queued on e =
    ap (λ b. cond b (execute_response card queued.task.read slot) (refused card ILLEGAL_COMMAND)) on
    ∙ ap (λ (o : Option Queued). option_map_or (λ x. accepted (with_begun card x)) o (refused card ILLEGAL_COMMAND)) e

mask_of : (p : PathState) → AreTied p → HasMask p.regs
mask_of p t = ap (λ r. r.error_mask) t.regs.same

executed_leads : (p : PathState) (slot : ℕ) (desc : TaskDesc) → AreTied p
    → Leads p without_error (Some slot) (executed_error slot desc) (after_execute (host_at p) slot desc) (SentCommand (execute_of slot desc))
    (remembered p.engine.held p.regs) (executed_regs p slot desc)
executed_leads p slot desc t =
    let index = executed_index slot desc in
    let active : Host = host_of (remembered p.engine.held p.regs) (executed_regs p slot desc) in
    let ended : Outcome = record { did = Finished slot; host = finished active slot desc } in
    record {
      fault = λ kind. refl;
      good =
          ap (λ b. led_on (host_at p) (cond b (Err (Response without_error slot)) (Ok without_error))
          (cond b (stopped_with (responded p.regs index without_error) (command_error index slot)) (responded p.regs index without_error)) (executed slot desc))
          (without_error-masked p.regs (mask_of p t))
          ∙ ap (λ b. cond b ended (outcome_of (SentCommand (execute_of slot desc)) (remembered p.engine.held p.regs) (executed_regs p slot desc)))
          without_error-good;
    }

pub is_active : (ring : List Ringed) (slot : ℕ) → progress_of ring slot ≡ Ready → progress_of (advanced ring slot) slot ≡ Active
is_active ring slot e = advanced-same ring slot ∙ ap next e

-- the data phase of the slot is under way
pub executed_at : (ring : List Ringed) (slot : ℕ) → IsRing (advanced ring slot) → OneOpen (advanced ring slot) → progress_of ring slot ≡ Ready
    → first_at Active (advanced ring slot) ≡ Some slot
executed_at ring slot h one ready =
    let at = is_active ring slot ready in
    first_only Active (advanced ring slot) slot h at refl (λ tag active. one tag slot (ap is_open active) (ap is_open at))

busy_if : (stopped : Bool) (active : Option ℕ) (slot : ℕ) → stopped ≡ false → active ≡ Some slot → is_some (cond stopped None active) ≡ true
busy_if stopped active slot on e =
    ap (λ b. is_some (cond b None active)) on ∙ ap is_some e

pub executing_busy : (p : PathState) (regs : Registers) (slot : ℕ) (desc : TaskDesc) → IsRing regs.ring → OneOpen regs.ring → p.regs.stopped ≡ false
    → progress_of p.regs.ring slot ≡ Ready → regs ≡ executed_regs p slot desc → busy_in (executed_regs p slot desc) ≡ true
executing_busy p regs slot desc h one on ready e =
    let I : Registers → Type 0 = λ r. IsRing r.ring in
    let O : Registers → Type 0 = λ r. OneOpen r.ring in
    busy_if p.regs.stopped (first_at Active (advanced p.regs.ring slot)) slot on (executed_at p.regs.ring slot (subst I e h) (subst O e one) ready)

pub executing_cases : (S : PathState → ArrayState → Did → Option Phase → Type 0) (p : PathState) (a : ArrayState) (p' : PathState) (a' : ArrayState) (did : Did)
    (phase : Option Phase) (e : EngineEvent p a p' a' did phase) (slot : ℕ) (is : e.event.acts.due ≡ Execute slot) → AreTied p → IsRunning p
    → (n : IsExecuting p a p' a' did slot (facts p a p' a' did phase e (Execute slot) is))
    → OfLost S p a (execute_of slot n.task.h.task.desc) (Some slot) (executed_error slot n.task.h.task.desc)
    → OfSilent S p a (execute_of slot n.task.h.task.desc) (Some slot) (executed_error slot n.task.h.task.desc) (executed_card p slot n.task.h)
    → OfAnswered S p a (execute_of slot n.task.h.task.desc) (executed_card p slot n.task.h) (SentCommand (execute_of slot n.task.h.task.desc))
    (remembered p.engine.held p.regs) (executed_regs p slot n.task.h.task.desc) true
    → S p' a' did phase
executing_cases S p a p' a' did phase e slot is t r n =
    let f = facts p a p' a' did phase e (Execute slot) is in
    let desc = n.task.h.task.desc in
    let deep : nat_le (queue_depth p.card.queue) slot ≡ false =
    ap (λ n. nat_le n slot) (t.card.places ∙ t.card.depth) ∙ within (plan_of p).depth slot n.task.below in
    cases S p a p' a' did phase (Execute slot) e f refl (execute_of slot desc) without_error (executed_card p slot n.task.h) (Some slot) (executed_error slot desc)
    (after_execute (host_at p) slot desc) (SentCommand (execute_of slot desc)) (remembered p.engine.held p.regs) (executed_regs p slot desc) true n.crosses n.memory
    (executed_told p.card slot (choice_of (sent (behind_path p a) (execute_of slot desc)) (execute_of slot desc)) (queued_by slot n.task.h)
    (ap (λ csd. csd.command_queue) t.card.csd) (to_execute p.card slot (queued_by slot n.task.h) deep n.queued n.ready))
    (executed_leads p slot desc t)
    (executing_busy p p'.regs slot desc e.ring (e.one t.one) r.on f.slot.is_at)
