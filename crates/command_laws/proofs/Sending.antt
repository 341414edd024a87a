-- CMD45: the event in which the named task gets its start sector.
use Rattle.std.proofs.Common.{◌≡◌, ◌≢◌, ◌+◌, ℕ, Bool, true, false, cond, refl, sym, ◌∙◌, ap, inl, inr}
use Rattle.std.specs.Prelude.{List, nat_lt, Option, Some, None, Ok, Err, slice_set}
use Rattle.std.specs.Option.{option_map, option_map_or}
use Rattle.std.proofs.lemmas.Bool.{false≢true}
use Rattle.std.proofs.lemmas.Bool.Decides.{eqb_tells}
use Rattle.array_edge.specs.Array.{ArrayState}
use Rattle.bus_link.specs.declared.link.Cause.TheVariants.{Response}
use Rattle.card_core.specs.Card.{CardState, sectors}
use Rattle.card_core.specs.Response.{Response as CardResponse, accepted, address_response, refused, response_to}
use Rattle.card_core.specs.Response.Response.{Tell}
use Rattle.card_core.specs.Serving.{without_error, word_of}
use Rattle.card_core.specs.declared.phase.Phase.{Phase}
use Rattle.card_link.specs.Behind.{behind}
use Rattle.card_link.specs.Made.{CardMade, choice_of, sent}
use Rattle.cmd_words.specs.Command.{index_of}
use Rattle.cmd_words.specs.declared.command.Command.TheVariants.{Address as StartSector}
use Rattle.cmd_words.specs.declared.command.Task.{Task}
use Rattle.cmd_words.specs.declared.status.TheConstants.Status.{ADDRESS_OUT_OF_RANGE, ILLEGAL_COMMAND}
use Rattle.cq_desc.specs.declared.task.TaskDesc.{TaskDesc}
use Rattle.cq_engine.specs.After.{addressed, after_address, led_on}
use Rattle.cq_engine.specs.Event.{Exchanges}
use Rattle.cq_engine.specs.Outcome.{outcome_of, responded, stopped_with}
use Rattle.cq_engine.specs.Standings.{OneOpen, is_open}
use Rattle.cq_engine.specs.Words.{command_error, is_masked}
use Rattle.cq_engine.specs.declared.did.Did.{Did}
use Rattle.cq_engine.specs.declared.did.Did.TheVariants.{Sent as SentCommand, Stopped}
use Rattle.cq_engine.proofs.Places.{of-some}
use Rattle.cq_engine.proofs.SlotLaws.{advanced-other}
use Rattle.cq_regs.specs.Effects.{moved_on}
use Rattle.cq_regs.specs.Slots.{advanced, is_begun, next, progress_of}
use Rattle.cq_regs.specs.State.{Registers}
use Rattle.cq_regs.specs.declared.slots.Progress.{Progress}
use Rattle.cq_regs.specs.declared.slots.Progress.TheVariants.{Active, Named, Sent}
use Rattle.cq_regs.specs.declared.slots.Ringed.{Ringed}
use Rattle.cq_schedule.specs.Held.{held_at, remembered}
use Rattle.cq_schedule.specs.declared.held.HeldTask.{HeldTask}
use Rattle.cq_schedule.specs.declared.rules.Due.TheVariants.{Address}
use Rattle.task_queue.specs.Places.{Queue}
use Rattle.task_queue.specs.Queue.{new_place}
use Rattle.world_state.specs.Engine.{EngineEvent}
use Rattle.world_state.specs.Path.{PathState, behind_path}
use Rattle.world_state.specs.Ties.{AreTied, words_of}
use Rattle.command_laws.proofs.Begun.{BegunTask, begun_task}
use Rattle.command_laws.proofs.Cases.{Leads, OfAnswered, OfLost, OfSilent, cases}
use Rattle.command_laws.proofs.Onwards.{idle_in}
use Rattle.command_laws.proofs.Parts.{Facts, busy_in, facts, host_at}
use Rattle.command_laws.proofs.Rings.{advanced-same}
use Rattle.command_laws.proofs.Running.{IsRunning}
use Rattle.command_laws.proofs.Words.{HasMask, past_end-masked, without_error-masked}

pub record IsSending (p : PathState) (a : ArrayState) (p' : PathState) (a' : ArrayState) (did : Did) (slot : ℕ) (f : Facts p a p' a' did (Address slot)) : Type 0 where
  pub task : BegunTask p slot
  pub crosses : Exchanges CardMade (behind_path p a) (behind f.card a' p'.script) (StartSector task.h.task.desc.start) (outcome_of did f.held p'.regs)
      (after_address (host_at p) slot task.h.task.desc)
  pub memory : p'.memory ≡ p.memory
  pub waits : p.card.queue.waiting ≡ Some (words_of slot task.h.task.desc)

pub is_sending : (p : PathState) (a : ArrayState) (p' : PathState) (a' : ArrayState) (did : Did) (slot : ℕ) (f : Facts p a p' a' did (Address slot)) → AreTied p
    → IsRunning p → IsSending p a p' a' did slot f
is_sending p a p' a' did slot f t r =
    let b = begun_task p slot t r f.slot.below (ap is_begun f.slot.is_at) in
    record {
      task = b;
      crosses =
          of-some (held_at (remembered p.engine.held p.regs) slot) b.h
          (λ held. Exchanges CardMade (behind_path p a) (behind f.card a' p'.script) (StartSector held.task.desc.start) (outcome_of did f.held p'.regs)
          (after_address (host_at p) slot held.task.desc)) b.remembered_is f.does.0;
      memory = f.does.1;
      waits = b.runs.queue.waits f.slot.is_at ∙ ap (option_map (λ (h : HeldTask). words_of slot h.task.desc)) b.place;
    }

-- the queue with the task, and without
abbrev pub sent_queue : PathState → ℕ → TaskDesc → Queue
sent_queue p slot desc = record { slots = slice_set p.card.queue.slots slot (Some (new_place (words_of slot desc) desc.start)); waiting = None }

abbrev pub sent_card : PathState → ℕ → TaskDesc → CardState
sent_card p slot desc = record p.card { queue = sent_queue p slot desc }

abbrev pub past_card : PathState → CardState
past_card p = record p.card { queue = record p.card.queue { waiting = None } }

abbrev pub sent_index : TaskDesc → ℕ
sent_index desc = index_of (StartSector desc.start)

abbrev pub sent_error : ℕ → TaskDesc → ℕ
sent_error slot desc = command_error (sent_index desc) slot

abbrev pub sent_regs : PathState → ℕ → TaskDesc → Registers
sent_regs p slot desc = moved_on (responded p.regs (sent_index desc) without_error) slot

abbrev pub past_word : ℕ
past_word = word_of ADDRESS_OUT_OF_RANGE

abbrev pub past_regs : PathState → ℕ → TaskDesc → Registers
past_regs p slot desc = stopped_with (responded p.regs (sent_index desc) past_word) (sent_error slot desc)

-- whether the task ends past the last sector
abbrev pub is_past : PathState → TaskDesc → Bool
is_past p desc = nat_lt (sectors p.card) (desc.start + desc.blocks)

response_by : (card : CardState) (task : Task) (start choice : ℕ) (past : Bool) → card.csd.command_queue ≡ true → card.queue.waiting ≡ Some task
    → nat_lt (sectors card) (start + task.blocks) ≡ past
    → response_to card (StartSector start) choice
    ≡ cond past (Tell (word_of ADDRESS_OUT_OF_RANGE) (record card { queue = record card.queue { waiting = None } }))
    (Tell without_error (record card { queue = record { slots = slice_set card.queue.slots task.task (Some (new_place task start)); waiting = None } }))
unfolding response_to
response_by card task start choice past on waits far =
    let placed : Task → Queue → CardResponse =
    λ x queue. cond (nat_lt (sectors card) (start + x.blocks)) (Tell (word_of ADDRESS_OUT_OF_RANGE) (record card { queue = record card.queue { waiting = None } }))
    (accepted (record card { queue = queue })) in
    let queued : Option Task → Queue =
    λ o. option_map_or (λ x. record { slots = slice_set card.queue.slots x.task (Some (new_place x start)); waiting = None }) o card.queue in
    ap (λ b. cond b (address_response card start) (refused card ILLEGAL_COMMAND)) on
    ∙ ap (λ (o : Option Task). option_map_or (λ x. placed x (queued card.queue.waiting)) o (refused card ILLEGAL_COMMAND)) waits
    ∙ ap (λ (o : Option Task). placed task (queued o)) waits
    ∙ ap (λ b. cond b (Tell (word_of ADDRESS_OUT_OF_RANGE) (record card { queue = record card.queue { waiting = None } }))
    (accepted (record card { queue = queued (Some task) }))) far

led_by : (p : PathState) (slot word : ℕ) (desc : TaskDesc) (masked : Bool) → is_masked p.regs word ≡ masked
    → after_address (host_at p) slot desc (Ok word)
    ≡ led_on (host_at p) (cond masked (Err (Response word slot)) (Ok word))
    (cond masked (stopped_with (responded p.regs (sent_index desc) word) (sent_error slot desc)) (responded p.regs (sent_index desc) word)) (addressed slot desc)
led_by p slot word desc masked e =
    ap (λ b. led_on (host_at p) (cond b (Err (Response word slot)) (Ok word))
    (cond b (stopped_with (responded p.regs (sent_index desc) word) (sent_error slot desc)) (responded p.regs (sent_index desc) word)) (addressed slot desc)) e

mask_of : (p : PathState) → AreTied p → HasMask p.regs
mask_of p t = ap (λ r. r.error_mask) t.regs.same

pub sent_leads : (p : PathState) (slot : ℕ) (desc : TaskDesc) → AreTied p
    → Leads p without_error (Some slot) (sent_error slot desc) (after_address (host_at p) slot desc) (SentCommand (StartSector desc.start))
    (remembered p.engine.held p.regs) (sent_regs p slot desc)
sent_leads p slot desc t = record {
  fault = λ kind. refl;
  good = led_by p slot without_error desc false (without_error-masked p.regs (mask_of p t));
}

pub past_leads : (p : PathState) (slot : ℕ) (desc : TaskDesc) → AreTied p
    → Leads p past_word (Some slot) (sent_error slot desc) (after_address (host_at p) slot desc) (Stopped (Response past_word slot))
    (remembered p.engine.held p.regs) (past_regs p slot desc)
past_leads p slot desc t = record {
  fault = λ kind. refl;
  good = led_by p slot past_word desc true (past_end-masked p.regs (mask_of p t));
}

pub is_sent : (ring : List Ringed) (slot : ℕ) → progress_of ring slot ≡ Named → progress_of (advanced ring slot) slot ≡ Sent
is_sent ring slot e = advanced-same ring slot ∙ ap next e

-- no slot is active behind it
pub sent_open : (ring : List Ringed) (slot tag : ℕ) (progress : Progress) → OneOpen ring → progress_of ring slot ≡ Named → is_open progress ≡ true
    → progress_of (advanced ring slot) tag ≢ progress
sent_open ring slot tag progress one named opened e =
    elim (eqb_tells tag slot) [
      | inl t ↦
          let at : progress_of (advanced ring slot) tag ≡ Sent = ap (progress_of (advanced ring slot)) t.1 ∙ is_sent ring slot named in
          false≢true (sym (ap is_open at) ∙ ap is_open e ∙ opened)
      | inr t ↦
          let was : progress_of ring tag ≡ progress = sym (advanced-other ring slot tag t.1) ∙ e in
          t.1 (one tag slot (ap is_open was ∙ opened) (ap is_open named))
    ]

pub sending_idle : (p : PathState) (slot : ℕ) (desc : TaskDesc) → OneOpen p.regs.ring → progress_of p.regs.ring slot ≡ Named → busy_in (sent_regs p slot desc) ≡ false
sending_idle p slot desc one named = idle_in (sent_regs p slot desc) (λ tag. sent_open p.regs.ring slot tag Active one named refl)

pub sending_cases : (S : PathState → ArrayState → Did → Option Phase → Type 0) (p : PathState) (a : ArrayState) (p' : PathState) (a' : ArrayState) (did : Did)
    (phase : Option Phase) (e : EngineEvent p a p' a' did phase) (slot : ℕ) (is : e.event.acts.due ≡ Address slot) → AreTied p
    → (n : IsSending p a p' a' did slot (facts p a p' a' did phase e (Address slot) is))
    → is_past p n.task.h.task.desc ≡ false
    → OfLost S p a (StartSector n.task.h.task.desc.start) (Some slot) (sent_error slot n.task.h.task.desc)
    → OfSilent S p a (StartSector n.task.h.task.desc.start) (Some slot) (sent_error slot n.task.h.task.desc) (sent_card p slot n.task.h.task.desc)
    → OfAnswered S p a (StartSector n.task.h.task.desc.start) (sent_card p slot n.task.h.task.desc) (SentCommand (StartSector n.task.h.task.desc.start))
    (remembered p.engine.held p.regs) (sent_regs p slot n.task.h.task.desc) false
    → S p' a' did phase
sending_cases S p a p' a' did phase e slot is t n near =
    let f = facts p a p' a' did phase e (Address slot) is in
    let desc = n.task.h.task.desc in
    cases S p a p' a' did phase (Address slot) e f refl (StartSector desc.start) without_error (sent_card p slot desc) (Some slot) (sent_error slot desc)
    (after_address (host_at p) slot desc) (SentCommand (StartSector desc.start)) (remembered p.engine.held p.regs) (sent_regs p slot desc) false n.crosses n.memory
    (response_by p.card (words_of slot desc) desc.start (choice_of (sent (behind_path p a) (StartSector desc.start)) (StartSector desc.start)) false
    (ap (λ csd. csd.command_queue) t.card.csd) n.waits near)
    (sent_leads p slot desc t)
    (λ _. sending_idle p slot desc t.one f.slot.is_at)

pub past_cases : (S : PathState → ArrayState → Did → Option Phase → Type 0) (p : PathState) (a : ArrayState) (p' : PathState) (a' : ArrayState) (did : Did)
    (phase : Option Phase) (e : EngineEvent p a p' a' did phase) (slot : ℕ) (is : e.event.acts.due ≡ Address slot) → AreTied p
    → (n : IsSending p a p' a' did slot (facts p a p' a' did phase e (Address slot) is))
    → is_past p n.task.h.task.desc ≡ true
    → OfLost S p a (StartSector n.task.h.task.desc.start) (Some slot) (sent_error slot n.task.h.task.desc)
    → OfSilent S p a (StartSector n.task.h.task.desc.start) (Some slot) (sent_error slot n.task.h.task.desc) (past_card p)
    → OfAnswered S p a (StartSector n.task.h.task.desc.start) (past_card p) (Stopped (Response past_word slot))
    (remembered p.engine.held p.regs) (past_regs p slot n.task.h.task.desc) false
    → S p' a' did phase
past_cases S p a p' a' did phase e slot is t n far =
    let f = facts p a p' a' did phase e (Address slot) is in
    let desc = n.task.h.task.desc in
    cases S p a p' a' did phase (Address slot) e f refl (StartSector desc.start) past_word (past_card p) (Some slot) (sent_error slot desc)
    (after_address (host_at p) slot desc) (Stopped (Response past_word slot)) (remembered p.engine.held p.regs) (past_regs p slot desc) false n.crosses n.memory
    (response_by p.card (words_of slot desc) desc.start (choice_of (sent (behind_path p a) (StartSector desc.start)) (StartSector desc.start)) true
    (ap (λ csd. csd.command_queue) t.card.csd) n.waits far)
    (past_leads p slot desc t)
    (λ _. refl)
