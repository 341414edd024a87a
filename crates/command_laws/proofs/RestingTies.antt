-- The ties after an event in which the engine sent nothing.
use Rattle.std.proofs.Common.{◌≡◌, ◌⊎◌, ◌<◌, ◌==◌, ℕ, Bool, true, false, cond, refl, sym, ◌∙◌, ap, subst, arith, inl, inr}
use Rattle.std.specs.Prelude.{not, List, [], Option, None, IfSome, is_some}
use Rattle.std.specs.Int.RustNames.{bit_and, bit_or}
use Rattle.std.proofs.lemmas.Bool.{false≢true}
use Rattle.array_edge.specs.Array.{ArrayState}
use Rattle.card_core.specs.declared.phase.Phase.{Phase}
use Rattle.card_link.specs.Behind.{behind}
use Rattle.cq_engine.specs.Event.{Silent}
use Rattle.cq_engine.specs.Outcome.{outcome_of}
use Rattle.cq_engine.specs.declared.did.Did.{Did}
use Rattle.cq_engine.specs.declared.did.Did.TheVariants.{Idle as DidNothing}
use Rattle.cq_regs.specs.Slots.{has_bit, is_rung, progress_of}
use Rattle.cq_regs.specs.State.{Registers}
use Rattle.cq_regs.specs.declared.slots.Progress.TheVariants.{Active, Idle}
use Rattle.cq_regs.specs.declared.slots.Ringed.{Ringed}
use Rattle.cq_schedule.specs.Held.{remembered}
use Rattle.cq_schedule.specs.Order.{first_at}
use Rattle.cq_schedule.specs.declared.rules.Due.{Due}
use Rattle.cq_schedule.specs.declared.rules.Due.TheVariants.{Rest, Tick}
use Rattle.drv_core.specs.State.{is_recovering}
use Rattle.drv_recover.specs.Recovery.{IsAt}
use Rattle.drv_recover.specs.declared.recovery.RecoveryState.{RecoveryState}
use Rattle.drv_recover.specs.declared.recovery.RecoveryState.TheVariants as driver
use Rattle.storage_machine.specs.Commands.{is_gone}
use Rattle.world_state.specs.Engine.{EngineEvent, phase_left, phase_taken}
use Rattle.world_state.specs.Path.{PathState, behind_path, holder, moved, plan_of, runs, under_way}
use Rattle.world_state.specs.Reading.{is_free, notice_of}
use Rattle.world_state.specs.Ties.{AreTied, HasHit, HasPhase, HasSetUp, IsAhead, IsBeforeFault, TagRuns, named_by}
use Rattle.command_laws.proofs.Held.{noted-at}
use Rattle.command_laws.proofs.Onwards.{no_way, quiet, quiet_begun, same_runs}
use Rattle.command_laws.proofs.Parts.{Facts, busy_in, ends_as, facts, holding, land, path_with}
use Rattle.command_laws.proofs.Resting.{IsStill, still, tick_regs, tick_runs, ticked_is}
use Rattle.command_laws.proofs.TiesOn.{card_on, tag_by}

abbrev pub rest_path : PathState → Registers → PathState
rest_path p regs =
    path_with p (holding (remembered p.engine.held p.regs) regs DidNothing p.engine) regs (phase_left p.card false) p.script

pub still_busy : (stopped : Bool) (ring : List Ringed) → (stopped ≡ true) ⊎ (ring ≡ []) → is_some (cond stopped None (first_at Active ring)) ≡ false
still_busy stopped ring (inl e) = ap (λ b. is_some (cond b None (first_at Active ring))) e
still_busy true ring (inr e) = refl
still_busy false ring (inr e) = ap (λ r. is_some (first_at Active r)) e

-- the registers after it: only the notice and the counter may be different
pub record StillRegs (p : PathState) (regs : Registers) : Type 0 where
  pub ring : regs.ring ≡ p.regs.ring
  pub stopped : regs.stopped ≡ p.regs.stopped
  pub halted : regs.halted ≡ p.regs.halted
  pub completed : regs.completed ≡ p.regs.completed
  pub response : regs.direct_response ≡ p.regs.direct_response
  pub set_up : HasSetUp (plan_of p) regs
  pub told : (notice_of p ≡ true) ⊎ (0 < p.regs.coalescing.counter)
      → (cond (is_free p.driver.recovery) false (has_bit regs.interrupts 1) ≡ true) ⊎ (0 < regs.coalescing.counter)

pub rest_cases : (S : PathState → ArrayState → Did → Option Phase → Type 0) (p : PathState) (a : ArrayState) (p' : PathState) (a' : ArrayState) (did : Did)
    (phase : Option Phase) (due : Due) (e : EngineEvent p a p' a' did phase) (f : Facts p a p' a' did due) → e.card ≡ f.card → (regs : Registers)
    → IsStill p → regs.ring ≡ p.regs.ring → regs.stopped ≡ p.regs.stopped
    → Silent (behind_path p a) (behind f.card a' p'.script) (outcome_of did f.held p'.regs) (outcome_of DidNothing (remembered p.engine.held p.regs) regs)
    → p'.memory ≡ p.memory
    → (EngineEvent p a (rest_path p regs) a DidNothing (phase_taken p.card false) → S (rest_path p regs) a DidNothing (phase_taken p.card false))
    → S p' a' did phase
rest_cases S p a p' a' did phase due e f same regs s ring stopped x m g =
    let P : Bool → List Ringed → Type 0 = λ b r. is_some (cond b None (first_at Active r)) ≡ false in
    let busy : busy_in regs ≡ false =
    subst (λ b. P b regs.ring) (sym stopped) (subst (λ r. P p.regs.stopped r) (sym ring) (still_busy p.regs.stopped p.regs.ring s)) in
    land S p a p' a' did phase DidNothing (rest_path p regs) (phase_taken p.card false) e
    (ends_as p a p' a' did phase due e f DidNothing (remembered p.engine.held p.regs) regs p.card p.script false same m x.outcome x.link busy) g

at_same : (state : RecoveryState) (old new : Registers) → new.halted ≡ old.halted → new.ring ≡ old.ring → new.stopped ≡ old.stopped → new.completed ≡ old.completed
    → IsAt state old → IsAt state new
at_same driver.Calm old new h r s c at = tt
at_same driver.Halted old new h r s c at = h ∙ at
at_same driver.Cleared old new h r s c at = record { halted = h ∙ at.halted; ring = r ∙ at.ring; running = s ∙ at.running }
at_same driver.Discarded old new h r s c at = record { halted = h ∙ at.halted; ring = r ∙ at.ring; running = s ∙ at.running }
at_same driver.Cleaned old new h r s c at = record {
  cleared = record { halted = h ∙ at.cleared.halted; ring = r ∙ at.cleared.ring; running = s ∙ at.cleared.running };
  completed = c ∙ at.completed;
}
at_same driver.Resumed old new h r s c at =
    record { halted = h ∙ at.halted; ring = r ∙ at.ring; running = s ∙ at.running; completed = c ∙ at.completed }

not_runs : (recovering stopped : Bool) → stopped ≡ true → cond recovering false (not stopped) ≡ true → ⊥
not_runs true stopped e h = false≢true h
not_runs false stopped e h = false≢true (sym (ap not e) ∙ h)

none_rung : (ring : List Ringed) (tag : ℕ) → ring ≡ [] → progress_of ring tag ≡ Idle
none_rung ring tag e = ap (λ r. progress_of r tag) e

pub rest_ties : (p : PathState) (a : ArrayState) (regs : Registers) (phase : Option Phase) → AreTied p → IsStill p → StillRegs p regs
    → EngineEvent p a (rest_path p regs) a DidNothing phase → AreTied (rest_path p regs)
rest_ties p a regs phase t s k e =
    let q = rest_path p regs in
    let P : Bool → List Ringed → Type 0 = λ b r. is_some (cond b None (first_at Active r)) ≡ false in
    let busy : busy_in regs ≡ false =
    subst (λ b. P b regs.ring) (sym k.stopped) (subst (λ r. P p.regs.stopped r) (sym k.ring) (still_busy p.regs.stopped p.regs.ring s)) in
    let way : under_way q ≡ None = no_way regs busy in
    let N : List Ringed → Type 0 = λ ring. IfSome (named_by p.engine.cause) (λ tag. is_rung (progress_of ring tag) ≡ true) in
    record {
      sound = t.sound;
      layout_fits = t.layout_fits;
      holds = e.holds;
      lie = e.lie;
      counts = e.counts t.counts;
      one = e.one t.one;
      regs = k.set_up;
      card = card_on (plan_of p) p.card p.card.queue p.card.phase None t.card refl;
      store = e.store;
      script = t.script;
      borne = record { waiting = t.borne.waiting; issued = t.borne.issued };
      recovery_at = at_same p.driver.recovery p.regs regs k.halted k.ring k.stopped k.completed t.recovery_at;
      calm = λ c. k.halted ∙ t.calm c;
      halts = λ h. k.stopped ∙ t.halts h;
      held = λ r. k.completed ∙ t.held r;
      tags = λ r tag below. tag_by p q.engine regs q.card q.script tag (ap (λ x. is_rung (progress_of x tag)) k.ring) k.completed (holder p tag) (t.tags r tag below);
      running = λ r tag below. still_runs r tag below s;
      alone = t.alone;
      emptied = t.emptied;
      begun = quiet_begun q way;
      phase = quiet (HasPhase q) (under_way q) way;
      ahead = quiet (IsAhead q) (under_way q) way;
      hit = quiet (HasHit q) (under_way q) way;
      heard = quiet (λ tag. is_gone q.script.hit ≡ false) (under_way q) way;
      fails = quiet (λ tag. IsBeforeFault q.script.hit (moved q)) (under_way q) way;
      names = λ stopped. subst N (sym k.ring) (t.names (sym k.stopped ∙ stopped));
      told = λ n. k.told (t.told (λ z. n (k.completed ∙ z)));
      status = λ d. k.response ∙ t.status (sym (ap (λ word. has_bit word 31) k.completed) ∙ d);
    }
  where
    still_runs : runs (rest_path p regs) ≡ true → (tag : ℕ) → tag < 32 → IsStill p → TagRuns (rest_path p regs) tag
    still_runs r tag below (inl stopped) = absurd (not_runs (is_recovering p.driver.recovery) regs.stopped (k.stopped ∙ stopped) r)
    still_runs r tag below (inr empty) =
        let on : runs p ≡ true = sym (ap (λ b. cond (is_recovering p.driver.recovery) false (not b)) k.stopped) ∙ r in
        let idle : progress_of regs.ring tag ≡ Idle = none_rung regs.ring tag (k.ring ∙ empty) in
        same_runs p (rest_path p regs).engine regs (phase_left p.card false) p.script tag below (t.running on tag below)
        (record {
          progress = ap (λ x. progress_of x tag) k.ring;
          place = noted-at (remembered p.engine.held p.regs) regs tag below;
          queued = refl;
          unnamed = λ named. cc (idle, named);
          image = refl;
        })
        (λ ready. absurd (cc (idle, ready)))

pub same_still : (p : PathState) → AreTied p → StillRegs p p.regs
same_still p t = record {
  ring = refl;
  stopped = refl;
  halted = refl;
  completed = refl;
  response = refl;
  set_up = t.regs;
  told = λ h. h;
}

raised_up : (interrupts enabled : ℕ) → (interrupts ≡ 0) ⊎ (interrupts ≡ 2) → enabled ≡ 2 → bit_or interrupts (bit_and 2 enabled) ≡ 2
raised_up interrupts enabled (inl e) f = ap (λ n. bit_or n (bit_and 2 enabled)) e ∙ ap (λ n. bit_or 0 (bit_and 2 n)) f
raised_up interrupts enabled (inr e) f = ap (λ n. bit_or n (bit_and 2 enabled)) e ∙ ap (λ n. bit_or 2 (bit_and 2 n)) f

pub tick_up : (p : PathState) → AreTied p → (tick_regs p.regs).interrupts ≡ 2
tick_up p t = raised_up p.regs.interrupts p.regs.status_enable t.regs.notice (ap (λ r. r.status_enable) t.regs.same)

-- no interrupt of a recovery's first steps: a tick then comes only where the engine runs
pub tick_still : (p : PathState) → AreTied p → is_free p.driver.recovery ≡ false → StillRegs p (tick_regs p.regs)
tick_still p t free =
    let up = tick_up p t in
    let T : Bool → Type 0 = λ b. (cond b false (has_bit (tick_regs p.regs).interrupts 1) ≡ true) ⊎ (0 < 0) in
    record {
      ring = refl;
      stopped = refl;
      halted = refl;
      completed = refl;
      response = refl;
      set_up = record {
        same = ap (λ (r : Registers). record r { interrupts = (tick_regs p.regs).interrupts; coalescing = record r.coalescing { counter = 0 } }) t.regs.same;
        notice = inr up;
        ring = t.regs.ring;
        small = t.regs.small;
        counted = omega arith;
      };
      told = λ _. subst T (sym free) (inl (ap (λ word. has_bit word 1) up));
    }

pub either_still : (p : PathState) (b : Bool) → AreTied p → is_free p.driver.recovery ≡ false → StillRegs p (cond b p.regs (tick_regs p.regs))
either_still p true t free = same_still p t
either_still p false t free = tick_still p t free

abbrev Tied : PathState → ArrayState → Did → Option Phase → Type 0
Tied q a did taken = AreTied q

pub rest_tied : (p : PathState) (a : ArrayState) (p' : PathState) (a' : ArrayState) (did : Did) (phase : Option Phase) (e : EngineEvent p a p' a' did phase)
    → e.event.acts.due ≡ Rest → AreTied p → AreTied p'
rest_tied p a p' a' did phase e is t =
    let f = facts p a p' a' did phase e Rest is in
    let s = still p Rest t f.is_due (inl refl) in
    rest_cases Tied p a p' a' did phase Rest e f refl p.regs s refl refl f.does.0 f.does.1
    (λ x. rest_ties p a p.regs (phase_taken p.card false) t s (same_still p t) x)

pub tick_tied : (p : PathState) (a : ArrayState) (p' : PathState) (a' : ArrayState) (did : Did) (phase : Option Phase) (e : EngineEvent p a p' a' did phase)
    → e.event.acts.due ≡ Tick → AreTied p → AreTied p'
tick_tied p a p' a' did phase e is t =
    let f = facts p a p' a' did phase e Tick is in
    let s = still p Tick t f.is_due (inr refl) in
    let regs = cond (p.regs.coalescing.counter == 0) p.regs (tick_regs p.regs) in
    let k = either_still p (p.regs.coalescing.counter == 0) t (tick_runs p t f.is_due) in
    let X : Registers → Type 0 =
    λ r. Silent (behind_path p a) (behind f.card a' p'.script) (outcome_of did f.held p'.regs) (outcome_of DidNothing (remembered p.engine.held p.regs) r) in
    rest_cases Tied p a p' a' did phase Tick e f refl regs s k.ring k.stopped (subst X (ticked_is p t) f.does.0) f.does.1
    (λ x. rest_ties p a regs (phase_taken p.card false) t s k x)
