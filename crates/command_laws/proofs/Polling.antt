-- CMD13 for the queue status word: the event of a poll.
use Rattle.std.proofs.Common.{◌≡◌, ◌≢◌, ◌⊎◌, ℕ, Bool, true, false, cond, refl, sym, ◌∙◌, ap, inl, inr}
use Rattle.std.specs.Prelude.{nat_lt, Option, Some, None}
use Rattle.std.specs.Option.{MatchOption, option_map, option_map_or}
use Rattle.array_edge.specs.Array.{ArrayState}
use Rattle.bus_link.specs.Script.{next_word}
use Rattle.card_core.specs.Card.{CardState}
use Rattle.card_core.specs.Response.{poll_response, refused, response_to}
use Rattle.card_core.specs.Response.Response.{Tell}
use Rattle.card_core.specs.declared.phase.Phase.{Phase}
use Rattle.card_link.specs.Made.{sent}
use Rattle.cmd_words.specs.Command.{index_of}
use Rattle.cmd_words.specs.declared.command.Command.TheVariants.{Status}
use Rattle.cmd_words.specs.declared.status.TheConstants.Status.{ILLEGAL_COMMAND}
use Rattle.cq_desc.specs.Fields.{field}
use Rattle.cq_words.specs.Table.{number_in}
use Rattle.cq_engine.specs.After.{after_poll}
use Rattle.cq_engine.specs.Outcome.{responded}
use Rattle.cq_engine.specs.Words.{command_error, poll_of}
use Rattle.cq_engine.specs.declared.did.Did.{Did}
use Rattle.cq_engine.specs.declared.did.Did.TheVariants.{Sent as SentCommand}
use Rattle.cq_regs.specs.Slots.{has_bit, made_ready, progress_of, readied}
use Rattle.cq_regs.specs.State.{Registers}
use Rattle.cq_regs.specs.declared.slots.Progress.{Progress}
use Rattle.cq_regs.specs.declared.slots.Progress.TheVariants.{Active, Idle, Named, Ready, Rung, Sent}
use Rattle.cq_regs.proofs.ProgressLaws.{progress_made_ready}
use Rattle.cq_schedule.specs.Held.{Places, remembered}
use Rattle.cq_schedule.specs.Meaning.{IsDue, IsDueThen, next_of_phase, rests}
use Rattle.cq_schedule.specs.Order.{blocks_of, first_at, first_high, moved_of}
use Rattle.cq_schedule.specs.declared.rules.Due.TheVariants.{Address, Block, Close, Execute, Poll, Rest, Serve, Tick}
use Rattle.host_mem.specs.Memory.{Memory}
use Rattle.task_queue.specs.Queue.{chosen, ready_word}
use Rattle.world_state.specs.Engine.{EngineEvent}
use Rattle.world_state.specs.Path.{PathState, behind_path}
use Rattle.world_state.specs.Ties.{AreTied}
use Rattle.command_laws.proofs.Cases.{OfAnswered, OfLost, OfSilent, cases}
use Rattle.command_laws.proofs.Onwards.{idle_in}
use Rattle.command_laws.proofs.Parts.{busy_in, facts, host_at}
use Rattle.command_laws.proofs.Rings.{none_at}

-- where a poll is due, no slot is active, named or ready
pub record IsPollDue (regs : Registers) : Type 0 where
  pub active : first_at Active regs.ring ≡ None
  pub named : first_at Named regs.ring ≡ None
  pub ready : first_at Ready regs.ring ≡ None

poll_then : (served high ready sent : Option ℕ)
    → Poll ≡ option_map_or Serve served (option_map_or Execute high (option_map_or Execute ready (option_map_or (λ _. Poll) sent Tick))) → ready ≡ None
poll_then (Some other) high ready sent e = absurd (cc e)
poll_then None (Some other) ready sent e = absurd (cc e)
poll_then None None (Some other) sent e = absurd (cc e)
poll_then None None None sent e = refl

phase_no_poll : (slot moved : ℕ) (more : Bool) → Poll ≢ cond more (Block slot moved) (Close slot)
phase_no_poll slot moved true e = absurd (cc e)
phase_no_poll slot moved false e = absurd (cc e)

poll_by : (held : Places) (regs : Registers) (memory : Memory) (resting : Bool) (active named : Option ℕ) → first_at Active regs.ring ≡ active
    → first_at Named regs.ring ≡ named
    → MatchOption (cond resting (Some Rest) (option_map_or (λ slot. Some (next_of_phase held slot)) active (option_map Address named)))
    (IsDueThen held regs memory Poll) (λ first. Poll ≡ first)
    → IsPollDue regs
poll_by held regs memory true active named a n is = absurd (cc is)
poll_by held regs memory false (Some slot) named a n is = absurd (phase_no_poll slot (moved_of held slot) (nat_lt (moved_of held slot) (blocks_of held slot)) is)
poll_by held regs memory false None (Some slot) a n is = absurd (cc is)
poll_by held regs memory false None None a n is = record {
  active = a;
  named = n;
  ready = poll_then is.served (first_high held regs.ring) (first_at Ready regs.ring) (first_at Sent regs.ring) is.is;
}

pub poll_due : (held : Places) (regs : Registers) (memory : Memory) → IsDue held regs memory Poll → IsPollDue regs
poll_due held regs memory is = poll_by held regs memory (rests regs) (first_at Active regs.ring) (first_at Named regs.ring) refl refl is

-- the address of the card in a poll
abbrev rca_of : Registers → ℕ
rca_of regs = number_in regs.send_status_2 (field 0 16)

-- the card and the registers after it
abbrev pub poll_choice : PathState → ArrayState → ℕ
poll_choice p a = next_word (sent (behind_path p a) (poll_of p.regs))

abbrev pub poll_word : PathState → ArrayState → ℕ
poll_word p a = ready_word (chosen p.card.queue (poll_choice p a))

abbrev pub poll_card : PathState → ArrayState → CardState
poll_card p a = record p.card { queue = chosen p.card.queue (poll_choice p a) }

abbrev pub poll_regs : PathState → ArrayState → Registers
poll_regs p a =
    let word = poll_word p a in
    record (responded p.regs (index_of (poll_of p.regs)) word) { queue_status = word; ring = made_ready p.regs.ring word }

abbrev pub poll_error : PathState → ℕ
poll_error p = command_error (index_of (poll_of p.regs)) 0

poll_told : (card : CardState) (rca choice : ℕ) → card.csd.command_queue ≡ true
    → response_to card (Status true rca) choice ≡ Tell (ready_word (chosen card.queue choice)) (record card { queue = chosen card.queue choice })
unfolding response_to
poll_told card rca choice on = ap (λ b. cond b (poll_response card choice) (refused card ILLEGAL_COMMAND)) on

-- a sent slot with its bit in the word is ready, and each other as far as it was
pub poll_step : (b : Bool) (progress : Progress) → (cond b (readied progress) progress ≡ progress) ⊎ ((progress ≡ Sent) × (b ≡ true))
poll_step false progress = inl refl
poll_step true Idle = inl refl
poll_step true Rung = inl refl
poll_step true Named = inl refl
poll_step true Sent = inr (refl, refl)
poll_step true Ready = inl refl
poll_step true Active = inl refl

readied_active : (b : Bool) (progress : Progress) → cond b (readied progress) progress ≡ Active → progress ≡ Active
readied_active b progress e = elim (poll_step b progress) [
  | inl same ↦ sym same ∙ e
  | inr sent ↦
      let at : cond b (readied progress) progress ≡ Ready = ap (λ x. cond x (readied progress) progress) sent.1 ∙ ap readied sent.0 in
      absurd (cc (at, e))
]

pub poll_idle : (p : PathState) (a : ArrayState) → AreTied p → IsPollDue p.regs → busy_in (poll_regs p a) ≡ false
poll_idle p a t d =
    idle_in (poll_regs p a)
    (λ tag active.
    let was : progress_of p.regs.ring tag ≡ Active =
    readied_active (has_bit (poll_word p a) tag) (progress_of p.regs.ring tag) (sym (progress_made_ready p.regs.ring (poll_word p a) tag) ∙ active) in
    none_at Active p.regs.ring tag t.regs.ring d.active was refl)

pub poll_cases : (S : PathState → ArrayState → Did → Option Phase → Type 0) (p : PathState) (a : ArrayState) (p' : PathState) (a' : ArrayState) (did : Did)
    (phase : Option Phase) (e : EngineEvent p a p' a' did phase) (is : e.event.acts.due ≡ Poll) → AreTied p → IsPollDue p.regs
    → OfLost S p a (poll_of p.regs) None (poll_error p)
    → OfSilent S p a (poll_of p.regs) None (poll_error p) (poll_card p a)
    → OfAnswered S p a (poll_of p.regs) (poll_card p a) (SentCommand (poll_of p.regs)) (remembered p.engine.held p.regs) (poll_regs p a) false
    → S p' a' did phase
poll_cases S p a p' a' did phase e is t d =
    let f = facts p a p' a' did phase e Poll is in
    cases S p a p' a' did phase Poll e f refl (poll_of p.regs) (poll_word p a) (poll_card p a) None (poll_error p) (after_poll (host_at p))
    (SentCommand (poll_of p.regs)) (remembered p.engine.held p.regs) (poll_regs p a) false f.does.0 f.does.1
    (poll_told p.card (rca_of p.regs) (poll_choice p a) (ap (λ csd. csd.command_queue) t.card.csd))
    (record { fault = λ kind. refl; good = refl })
    (λ _. poll_idle p a t d)
