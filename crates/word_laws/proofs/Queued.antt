-- Where a command of the queue is due, or nothing, no word stops the engine but that of a task past the last sector.
use Rattle.std.proofs.Common.{◌≡◌, ◌⊎◌, ℕ, Bool, true, false, refl, sym, subst, inl, inr}
use Rattle.std.specs.Prelude.{Option}
use Rattle.std.proofs.lemmas.Bool.{true≢false}
use Rattle.array_edge.specs.Array.{ArrayState}
use Rattle.bus_link.specs.declared.link.Cause.TheVariants.{Response}
use Rattle.card_core.specs.declared.phase.Phase.{Phase}
use Rattle.cmd_words.specs.declared.command.Command.{Command}
use Rattle.cq_engine.specs.declared.did.Did.{Did}
use Rattle.cq_engine.specs.declared.did.Did.TheVariants.{Sent as SentCommand, Stopped}
use Rattle.cq_schedule.specs.Held.{remembered}
use Rattle.cq_schedule.specs.declared.rules.Due.{Due}
use Rattle.cq_schedule.specs.declared.rules.Due.TheVariants.{Address, Block, Close, Execute, Poll, Rest, Serve, Tick}
use Rattle.storage_model.specs.declared.faults.BusKind.{BusKind}
use Rattle.world_state.specs.Engine.{EngineEvent}
use Rattle.world_state.specs.Path.{PathState}
use Rattle.world_state.specs.Steps.{is_of_phase}
use Rattle.world_state.specs.Ties.{AreTied}
use Rattle.command_laws.proofs.AllTies.{idle_did}
use Rattle.command_laws.proofs.Cases.{stop_did}
use Rattle.command_laws.proofs.Executing.{executing_cases, is_executing}
use Rattle.command_laws.proofs.Naming.{is_naming, naming_cases}
use Rattle.command_laws.proofs.Parts.{facts}
use Rattle.command_laws.proofs.Polling.{poll_cases, poll_due}
use Rattle.command_laws.proofs.Running.{running}
use Rattle.command_laws.proofs.Sending.{IsSending, is_past, is_sending, past_cases, past_word, sending_cases}
use Rattle.word_laws.specs.Words.{StopsByError}
use Rattle.word_laws.proofs.Stops.{by_bus, by_error, idle_on, sent_on}

abbrev Ends : PathState → ArrayState → Did → Option Phase → Type 0
Ends q a did taken = StopsByError did

lost_on : (kind : BusKind) (who : Option ℕ) → StopsByError (stop_did kind who)
lost_on kind who = by_bus (stop_did kind who) kind who refl

answered_on : (command : Command) → StopsByError (SentCommand command)
answered_on command = sent_on (SentCommand command) command refl

past_on : (slot : ℕ) → StopsByError (Stopped (Response past_word slot))
past_on slot = by_error (Stopped (Response past_word slot)) past_word slot refl refl

address_words : (p : PathState) (a : ArrayState) (p' : PathState) (a' : ArrayState) (did : Did) (phase : Option Phase) (e : EngineEvent p a p' a' did phase) (slot : ℕ)
    → (is : e.event.acts.due ≡ Address slot) → AreTied p → (n : IsSending p a p' a' did slot (facts p a p' a' did phase e (Address slot) is))
    → (past : Bool) → is_past p n.task.h.task.desc ≡ past → StopsByError did
address_words p a p' a' did phase e slot is t n true far =
    past_cases Ends p a p' a' did phase e slot is t n far (λ _ _. lost_on _ _) (λ _ _. lost_on _ _) (λ _ _. past_on slot)
address_words p a p' a' did phase e slot is t n false near =
    sending_cases Ends p a p' a' did phase e slot is t n near (λ _ _. lost_on _ _) (λ _ _. lost_on _ _) (λ _ _. answered_on _)

idle_words : (p : PathState) (a : ArrayState) (p' : PathState) (a' : ArrayState) (did : Did) (phase : Option Phase) (e : EngineEvent p a p' a' did phase)
    → (e.event.acts.due ≡ Rest) ⊎ (e.event.acts.due ≡ Tick) → AreTied p → StopsByError did
idle_words p a p' a' did phase e idle t = idle_on did (idle_did p a p' a' did phase e idle t)

words_by : (p : PathState) (a : ArrayState) (p' : PathState) (a' : ArrayState) (did : Did) (phase : Option Phase) (e : EngineEvent p a p' a' did phase) (due : Due)
    → e.event.acts.due ≡ due → is_of_phase p due ≡ false → AreTied p → StopsByError did
words_by p a p' a' did phase e Rest is not_phase t =
    let D : Due → Type 0 = λ d. (d ≡ Rest) ⊎ (d ≡ Tick) in
    idle_words p a p' a' did phase e (subst D (sym is) (inl refl)) t
words_by p a p' a' did phase e Tick is not_phase t =
    let D : Due → Type 0 = λ d. (d ≡ Rest) ⊎ (d ≡ Tick) in
    idle_words p a p' a' did phase e (subst D (sym is) (inr refl)) t
words_by p a p' a' did phase e (Serve slot) is not_phase t =
    let f = facts p a p' a' did phase e (Serve slot) is in
    let r = running p (remembered p.engine.held p.regs) (Serve slot) t f.is_due (λ x. cc x) (λ x. cc x) in
    naming_cases Ends p a p' a' did phase e slot is t r (is_naming p a p' a' did slot f t r not_phase) (λ _ _. lost_on _ _) (λ _ _. lost_on _ _) (λ _ _. answered_on _)
words_by p a p' a' did phase e (Address slot) is not_phase t =
    let f = facts p a p' a' did phase e (Address slot) is in
    let r = running p (remembered p.engine.held p.regs) (Address slot) t f.is_due (λ x. cc x) (λ x. cc x) in
    let n = is_sending p a p' a' did slot f t r in
    address_words p a p' a' did phase e slot is t n (is_past p n.task.h.task.desc) refl
words_by p a p' a' did phase e (Execute slot) is not_phase t =
    let f = facts p a p' a' did phase e (Execute slot) is in
    let r = running p (remembered p.engine.held p.regs) (Execute slot) t f.is_due (λ x. cc x) (λ x. cc x) in
    executing_cases Ends p a p' a' did phase e slot is t r (is_executing p a p' a' did slot f t r) (λ _ _. lost_on _ _) (λ _ _. lost_on _ _) (λ _ _. answered_on _)
words_by p a p' a' did phase e Poll is not_phase t =
    let f = facts p a p' a' did phase e Poll is in
    poll_cases Ends p a p' a' did phase e is t (poll_due (remembered p.engine.held p.regs) p.regs p.memory f.is_due) (λ _ _. lost_on _ _) (λ _ _. lost_on _ _)
    (λ _ _. answered_on _)
words_by p a p' a' did phase e (Block slot k) is not_phase t = absurd (true≢false not_phase)
words_by p a p' a' did phase e (Close slot) is not_phase t = absurd (true≢false not_phase)

pub command_words : (p : PathState) (a : ArrayState) (p' : PathState) (a' : ArrayState) (did : Did) (phase : Option Phase) (e : EngineEvent p a p' a' did phase)
    → is_of_phase p e.event.acts.due ≡ false → AreTied p → StopsByError did
command_words p a p' a' did phase e not_phase t = words_by p a p' a' did phase e e.event.acts.due refl not_phase t
