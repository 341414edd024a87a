-- The ties, and the power, by what is due.
use Rattle.std.proofs.Common.{◌≡◌, ◌⊎◌, ℕ, Bool, true, false, refl, sym, ap, subst, inl, inr}
use Rattle.std.specs.Prelude.{Option}
use Rattle.std.proofs.lemmas.Bool.{true≢false}
use Rattle.array_edge.specs.Array.{ArrayState}
use Rattle.card_core.specs.declared.phase.Phase.{Phase}
use Rattle.cq_engine.specs.declared.did.Did.{Did}
use Rattle.cq_engine.specs.declared.did.Did.TheVariants.{Idle as DidNothing}
use Rattle.cq_schedule.proofs.Idle.{idle_exactly}
use Rattle.cq_schedule.specs.Held.{remembered}
use Rattle.cq_schedule.specs.declared.rules.Due.{Due}
use Rattle.cq_schedule.specs.declared.rules.Due.TheVariants.{Address, Block, Close, Execute, Poll, Rest, Serve, Tick}
use Rattle.world_state.specs.Engine.{EngineEvent, is_dark}
use Rattle.world_state.specs.Path.{PathState}
use Rattle.world_state.specs.Steps.{is_of_phase}
use Rattle.world_state.specs.Ties.{AreTied}
use Rattle.command_laws.specs.Commands.{CommandPower, CommandTies}
use Rattle.command_laws.proofs.Executing.{executing_cases, is_executing}
use Rattle.command_laws.proofs.Naming.{is_naming, naming_cases}
use Rattle.command_laws.proofs.Parts.{facts}
use Rattle.command_laws.proofs.Polling.{poll_cases, poll_due}
use Rattle.command_laws.proofs.RestingTies.{rest_tied, tick_tied}
use Rattle.command_laws.proofs.Running.{running}
use Rattle.command_laws.proofs.Sending.{IsSending, is_past, is_sending, past_cases, sending_cases}
use Rattle.command_laws.proofs.TiesSteps.{address_ties, execute_ties, poll_ties, serve_ties}

ties_by : (p : PathState) (a : ArrayState) (p' : PathState) (a' : ArrayState) (did : Did) (phase : Option Phase) (e : EngineEvent p a p' a' did phase) (due : Due)
    → e.event.acts.due ≡ due → is_of_phase p due ≡ false → AreTied p → AreTied p'
ties_by p a p' a' did phase e Rest is not_phase t = rest_tied p a p' a' did phase e is t
ties_by p a p' a' did phase e Tick is not_phase t = tick_tied p a p' a' did phase e is t
ties_by p a p' a' did phase e (Serve slot) is not_phase t = serve_ties p a p' a' did phase e slot is not_phase t
ties_by p a p' a' did phase e (Address slot) is not_phase t = address_ties p a p' a' did phase e slot is t
ties_by p a p' a' did phase e (Execute slot) is not_phase t = execute_ties p a p' a' did phase e slot is t
ties_by p a p' a' did phase e Poll is not_phase t = poll_ties p a p' a' did phase e is t
ties_by p a p' a' did phase e (Block slot k) is not_phase t = absurd (true≢false not_phase)
ties_by p a p' a' did phase e (Close slot) is not_phase t = absurd (true≢false not_phase)

pub all_ties : CommandTies
all_ties p a p' a' did phase e not_phase t = ties_by p a p' a' did phase e e.event.acts.due refl not_phase t

-- power is not lost
abbrev Lit : PathState → ArrayState → Did → Option Phase → Type 0
Lit q a did taken = is_dark did ≡ false

address_power : (p : PathState) (a : ArrayState) (p' : PathState) (a' : ArrayState) (did : Did) (phase : Option Phase) (e : EngineEvent p a p' a' did phase) (slot : ℕ)
    → (is : e.event.acts.due ≡ Address slot) → AreTied p → (n : IsSending p a p' a' did slot (facts p a p' a' did phase e (Address slot) is))
    → (past : Bool) → is_past p n.task.h.task.desc ≡ past → is_dark did ≡ false
address_power p a p' a' did phase e slot is t n true far = past_cases Lit p a p' a' did phase e slot is t n far (λ _ _. refl) (λ _ _. refl) (λ _ _. refl)
address_power p a p' a' did phase e slot is t n false near = sending_cases Lit p a p' a' did phase e slot is t n near (λ _ _. refl) (λ _ _. refl) (λ _ _. refl)

pub idle_did : (p : PathState) (a : ArrayState) (p' : PathState) (a' : ArrayState) (did : Did) (phase : Option Phase) (e : EngineEvent p a p' a' did phase)
    → (e.event.acts.due ≡ Rest) ⊎ (e.event.acts.due ≡ Tick) → AreTied p → did ≡ DidNothing
idle_did p a p' a' did phase e idle t =
    e.idle.1 ((idle_exactly (remembered p.engine.held p.regs) p.regs p.memory e.event.acts.due t.regs.ring e.event.acts.is_due).0 idle)

power_by : (p : PathState) (a : ArrayState) (p' : PathState) (a' : ArrayState) (did : Did) (phase : Option Phase) (e : EngineEvent p a p' a' did phase) (due : Due)
    → e.event.acts.due ≡ due → is_of_phase p due ≡ false → AreTied p → is_dark did ≡ false
power_by p a p' a' did phase e Rest is not_phase t =
    let D : Due → Type 0 = λ d. (d ≡ Rest) ⊎ (d ≡ Tick) in
    ap is_dark (idle_did p a p' a' did phase e (subst D (sym is) (inl refl)) t)
power_by p a p' a' did phase e Tick is not_phase t =
    let D : Due → Type 0 = λ d. (d ≡ Rest) ⊎ (d ≡ Tick) in
    ap is_dark (idle_did p a p' a' did phase e (subst D (sym is) (inr refl)) t)
power_by p a p' a' did phase e (Serve slot) is not_phase t =
    let f = facts p a p' a' did phase e (Serve slot) is in
    let r = running p (remembered p.engine.held p.regs) (Serve slot) t f.is_due (λ x. cc x) (λ x. cc x) in
    naming_cases Lit p a p' a' did phase e slot is t r (is_naming p a p' a' did slot f t r not_phase) (λ _ _. refl) (λ _ _. refl) (λ _ _. refl)
power_by p a p' a' did phase e (Address slot) is not_phase t =
    let f = facts p a p' a' did phase e (Address slot) is in
    let r = running p (remembered p.engine.held p.regs) (Address slot) t f.is_due (λ x. cc x) (λ x. cc x) in
    let n = is_sending p a p' a' did slot f t r in
    address_power p a p' a' did phase e slot is t n (is_past p n.task.h.task.desc) refl
power_by p a p' a' did phase e (Execute slot) is not_phase t =
    let f = facts p a p' a' did phase e (Execute slot) is in
    let r = running p (remembered p.engine.held p.regs) (Execute slot) t f.is_due (λ x. cc x) (λ x. cc x) in
    executing_cases Lit p a p' a' did phase e slot is t r (is_executing p a p' a' did slot f t r) (λ _ _. refl) (λ _ _. refl) (λ _ _. refl)
power_by p a p' a' did phase e Poll is not_phase t =
    let f = facts p a p' a' did phase e Poll is in
    poll_cases Lit p a p' a' did phase e is t (poll_due (remembered p.engine.held p.regs) p.regs p.memory f.is_due) (λ _ _. refl) (λ _ _. refl) (λ _ _. refl)
power_by p a p' a' did phase e (Block slot k) is not_phase t = absurd (true≢false not_phase)
power_by p a p' a' did phase e (Close slot) is not_phase t = absurd (true≢false not_phase)

pub all_power : CommandPower
all_power p a p' a' did phase e not_phase t = power_by p a p' a' did phase e e.event.acts.due refl not_phase t
