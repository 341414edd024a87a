-- Where the engine has a command to send, no recovery is under way, it runs, and the slot's request is issued.
use Rattle.std.proofs.Common.{◌≡◌, ◌≢◌, ◌⊎◌, ◌<◌, ℕ, Bool, true, false, cond, refl, sym, ◌∙◌, ap, inl, inr}
use Rattle.std.specs.Prelude.{◌||◌, not, [], Option, Some, None, MatchOption}
use Rattle.std.proofs.lemmas.Bool.{false_from_ne_true, false≢true}
use Rattle.cq_regs.specs.Slots.{has_bit, is_rung, progress_of}
use Rattle.cq_schedule.specs.Held.{Places}
use Rattle.cq_schedule.specs.Meaning.{IsDue, rests}
use Rattle.cq_schedule.specs.declared.rules.Due.{Due}
use Rattle.cq_schedule.specs.declared.rules.Due.TheVariants.{Rest, Tick}
use Rattle.cq_schedule.proofs.Idle.{idle_exactly}
use Rattle.drv_core.specs.State.{is_recovering}
use Rattle.drv_recover.specs.Recovery.{IsAt}
use Rattle.drv_recover.specs.declared.recovery.RecoveryState.{RecoveryState}
use Rattle.drv_recover.specs.declared.recovery.RecoveryState.TheVariants as driver
use Rattle.world_state.specs.Path.{PathState, holder, runs}
use Rattle.world_state.specs.Ties.{AreTied, IsIssued, IsVacant}
use Rattle.command_laws.proofs.TiesOn.{IsCalm}

pub record IsRunning (p : PathState) : Type 0 where
  pub calm : IsCalm p
  pub on : p.regs.stopped ≡ false

stopped_if : (enabled halted stopped : Bool) → (not enabled || (halted || stopped)) ≡ false → stopped ≡ false
stopped_if true false false e = refl
stopped_if true false true e = absurd (cc e)
stopped_if true true stopped e = absurd (cc e)
stopped_if false halted stopped e = absurd (cc e)

halted_if : (enabled halted stopped : Bool) → (not enabled || (halted || stopped)) ≡ false → halted ≡ true → ⊥
halted_if true false stopped e h = false≢true h
halted_if true true stopped e h = absurd (cc e)
halted_if false halted stopped e h = absurd (cc e)

calm_by : (p : PathState) (state : RecoveryState) → p.driver.recovery ≡ state → IsAt state p.regs → (p.regs.halted ≡ true → ⊥) → (p.regs.ring ≡ [] → ⊥) → IsCalm p
calm_by p driver.Calm e at halts empty = e
calm_by p driver.Halted e at halts empty = absurd (halts at)
calm_by p driver.Cleared e at halts empty = absurd (empty at.ring)
calm_by p driver.Discarded e at halts empty = absurd (empty at.ring)
calm_by p driver.Cleaned e at halts empty = absurd (empty at.cleared.ring)
calm_by p driver.Resumed e at halts empty = absurd (empty at.ring)

pub running : (p : PathState) (held : Places) (due : Due) → AreTied p → IsDue held p.regs p.memory due → due ≢ Rest → due ≢ Tick → IsRunning p
running p held due t is no_rest no_tick =
    let i = idle_exactly held p.regs p.memory due t.regs.ring is in
    let busy : (rests p.regs ≡ true) ⊎ (p.regs.ring ≡ []) → ⊥ = λ h. elim (i.1 h) [
      | inl e ↦ no_rest e
      | inr e ↦ no_tick e
    ] in
    let off : rests p.regs ≡ false = false_from_ne_true (rests p.regs) (λ e. busy (inl e)) in
    record {
      calm =
          calm_by p p.driver.recovery refl t.recovery_at
          (halted_if (has_bit p.regs.configuration 0) p.regs.halted p.regs.stopped off) (λ e. busy (inr e));
      on = stopped_if (has_bit p.regs.configuration 0) p.regs.halted p.regs.stopped off;
    }

pub runs_so : (p : PathState) → IsRunning p → runs p ≡ true
runs_so p r = ap (λ state. cond (is_recovering state) false (not p.regs.stopped)) r.calm ∙ ap not r.on

-- the request of a slot that is rung
pub record Issued (p : PathState) (tag : ℕ) : Type 0 where
  pub id : ℕ
  pub is : holder p tag ≡ Some id
  pub issued : IsIssued p tag id

issued_by : (p : PathState) (tag : ℕ) (o : Option ℕ) → holder p tag ≡ o → MatchOption o (IsVacant p tag) (IsIssued p tag)
    → is_rung (progress_of p.regs.ring tag) ≡ true → Issued p tag
issued_by p tag None e v rung = absurd (false≢true (sym (ap is_rung v.idle) ∙ rung))
issued_by p tag (Some id) e i rung = record { id = id; is = e; issued = i }

pub issued : (p : PathState) (tag : ℕ) → AreTied p → IsCalm p → tag < 32 → is_rung (progress_of p.regs.ring tag) ≡ true → Issued p tag
issued p tag t calm below rung = issued_by p tag (holder p tag) refl (t.tags (ap is_recovering calm) tag below) rung
