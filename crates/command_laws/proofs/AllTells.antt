-- What an event tells, by what is due.
use Rattle.std.proofs.Common.{◌≡◌, ℕ, Bool, true, false, refl, sym, ◌∙◌}
use Rattle.std.specs.Prelude.{Option}
use Rattle.std.proofs.lemmas.Bool.{false≢true, true≢false}
use Rattle.array_edge.specs.Array.{ArrayState}
use Rattle.card_core.specs.declared.phase.Phase.{Phase}
use Rattle.cq_engine.specs.declared.did.Did.{Did}
use Rattle.cq_schedule.specs.Held.{remembered}
use Rattle.cq_schedule.specs.declared.rules.Due.{Due}
use Rattle.cq_schedule.specs.declared.rules.Due.TheVariants.{Address, Block, Close, Execute, Poll, Rest, Serve, Tick}
use Rattle.world_state.specs.Engine.{EngineEvent}
use Rattle.world_state.specs.Laws.{StateLaws}
use Rattle.world_state.specs.Path.{PathState}
use Rattle.world_state.specs.Steps.{CommandSteps, is_of_phase}
use Rattle.world_state.specs.Ties.{AreTied}
use Rattle.command_laws.proofs.AllTies.{all_power, all_ties}
use Rattle.command_laws.proofs.ExecutingTells.{execute_tells}
use Rattle.command_laws.proofs.NamingTells.{TellsOf, serve_tells}
use Rattle.command_laws.proofs.Parts.{facts}
use Rattle.command_laws.proofs.PastTells.{past_tells}
use Rattle.command_laws.proofs.RestingTells.{rest_tells, tick_tells}
use Rattle.command_laws.proofs.PollTells.{poll_tells}
use Rattle.command_laws.proofs.Running.{IsRunning, running}
use Rattle.command_laws.proofs.Sending.{IsSending, is_past, is_sending}
use Rattle.command_laws.proofs.SendingTells.{sent_tells}

address_by : (p : PathState) (a : ArrayState) (p' : PathState) (a' : ArrayState) (did : Did) (phase : Option Phase) (e : EngineEvent p a p' a' did phase) (slot : ℕ)
    → (is : e.event.acts.due ≡ Address slot) → AreTied p → IsRunning p → StateLaws
    → (n : IsSending p a p' a' did slot (facts p a p' a' did phase e (Address slot) is)) → (past : Bool) → is_past p n.task.h.task.desc ≡ past → TellsOf p a p' a' did phase
address_by p a p' a' did phase e slot is t r laws n true far = past_tells p a p' a' did phase e slot is t r laws n far
address_by p a p' a' did phase e slot is t r laws n false near = sent_tells p a p' a' did phase e slot is t r laws n near

address_tells : (p : PathState) (a : ArrayState) (p' : PathState) (a' : ArrayState) (did : Did) (phase : Option Phase) (e : EngineEvent p a p' a' did phase) (slot : ℕ)
    → e.event.acts.due ≡ Address slot → AreTied p → StateLaws → TellsOf p a p' a' did phase
address_tells p a p' a' did phase e slot is t laws =
    let f = facts p a p' a' did phase e (Address slot) is in
    let r = running p (remembered p.engine.held p.regs) (Address slot) t f.is_due (λ x. cc x) (λ x. cc x) in
    let n = is_sending p a p' a' did slot f t r in
    address_by p a p' a' did phase e slot is t r laws n (is_past p n.task.h.task.desc) refl

tells_by : (p : PathState) (a : ArrayState) (p' : PathState) (a' : ArrayState) (did : Did) (phase : Option Phase) (e : EngineEvent p a p' a' did phase) (due : Due)
    → e.event.acts.due ≡ due → is_of_phase p due ≡ false → AreTied p → StateLaws → TellsOf p a p' a' did phase
tells_by p a p' a' did phase e Rest is not_phase t laws = rest_tells p a p' a' did phase e is t laws
tells_by p a p' a' did phase e Tick is not_phase t laws = tick_tells p a p' a' did phase e is t laws
tells_by p a p' a' did phase e (Serve slot) is not_phase t laws = serve_tells p a p' a' did phase e slot is not_phase t laws
tells_by p a p' a' did phase e (Address slot) is not_phase t laws = address_tells p a p' a' did phase e slot is t laws
tells_by p a p' a' did phase e (Execute slot) is not_phase t laws = execute_tells p a p' a' did phase e slot is t laws
tells_by p a p' a' did phase e Poll is not_phase t laws = poll_tells p a p' a' did phase e is t laws
tells_by p a p' a' did phase e (Block slot k) is not_phase t laws = absurd (true≢false not_phase)
tells_by p a p' a' did phase e (Close slot) is not_phase t laws = absurd (true≢false not_phase)

pub all_steps : CommandSteps
all_steps p a p' a' did phase e not_phase t = record {
  ties = λ lit. all_ties p a p' a' did phase e not_phase t;
  tells = λ laws lit. tells_by p a p' a' did phase e e.event.acts.due refl not_phase t laws (all_ties p a p' a' did phase e not_phase t);
  darkens = λ laws dark. absurd (false≢true (sym (all_power p a p' a' did phase e not_phase t) ∙ dark));
}
