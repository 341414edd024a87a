-- The ties after the last step of a recovery: all that it held waits again.
use Rattle.std.proofs.Common.{◌≡◌, ◌∙◌, ◌⊎◌, ◌<◌, ◌-◌, ◌==◌, ℕ, suc, Bool, true, false, List, [], ◌∷◌, Option, None, Some, MatchOption, is_some, fold, get_or, set, slice_index_or, inl, inr, refl, ap, sym, subst, get_or-set_other, eqb-true}
use Rattle.std.proofs.lemmas.Bool.{eqb-false, false≢true}
use Rattle.cq_regs.specs.declared.slots.Progress.TheVariants.{Idle}
use Rattle.cq_regs.specs.declared.slots.Ringed.{Ringed}
use Rattle.cq_regs.specs.Slots.{progress_of}
use Rattle.cq_schedule.specs.Holding.{is_begun}
use Rattle.drv_jobs.proofs.HolderLaws.{holder-none}
use Rattle.drv_jobs.specs.Changes.{faults_of, given_back, waits_again}
use Rattle.drv_jobs.specs.Sound.{IsSound}
use Rattle.drv_jobs.specs.Standings.{holder_of, is_waiting}
use Rattle.drv_jobs.specs.declared.requests.TheConstants.{MOST_FAULTS}
use Rattle.drv_recover.specs.Recovery.{IsAt, IsOver}
use Rattle.drv_recover.specs.declared.recovery.RecoveryState.{RecoveryState}
use Rattle.drv_recover.specs.declared.recovery.RecoveryState.TheVariants as driver
use Rattle.task_queue.specs.Queue.{slot}
use Rattle.host_laws.proofs.Held.{none_done}
use Rattle.host_laws.proofs.Paths.{path_at}
use Rattle.host_laws.proofs.Recovered.{begun_none, none_rung}
use Rattle.world_state.specs.Path.{PathState, holder}
use Rattle.world_state.specs.Ties.{AreBorne, AreTied, HasQueue, IsIssued, IsVacant, TagRuns, phase_words}

-- what waits again waited, or was held
pub record WasHeld (holders : List (Option ℕ)) (place : ℕ) : Type 0 where
  pub tag : ℕ
  pub id : ℕ
  pub held : holder_of holders tag ≡ Some id
  pub at : id - 1 ≡ place

later : (holder : Option ℕ) (holders : List (Option ℕ)) (place : ℕ) → WasHeld holders place → WasHeld (holder ∷ holders) place
later holder holders place h = record { tag = suc h.tag; id = h.id; held = h.held; at = h.at }

at_first : (b : Bool) (waiting : List Bool) (holders : List (Option ℕ)) (id place : ℕ) → (place == (id - 1)) ≡ b
    → get_or (set waiting (id - 1) true) place false ≡ true → (get_or waiting place false ≡ true) ⊎ WasHeld (Some id ∷ holders) place
at_first true waiting holders id place h waits = inr (record { tag = 0; id = id; held = refl; at = sym (eqb-true place (id - 1) h) })
at_first false waiting holders id place h waits =
    inl (sym (get_or-set_other waiting (id - 1) place true false (eqb-false place (id - 1) h)) ∙ waits)

pub waits_from : (waiting : List Bool) (holders : List (Option ℕ)) (place : ℕ) → get_or (fold waits_again waiting holders) place false ≡ true
    → (get_or waiting place false ≡ true) ⊎ WasHeld holders place
waits_from waiting [] place waits = inl waits
waits_from waiting (None ∷ holders) place waits = more (waits_from waiting holders place waits)
  where
    more : (get_or waiting place false ≡ true) ⊎ WasHeld holders place → (get_or waiting place false ≡ true) ⊎ WasHeld (None ∷ holders) place
    more (inl e) = inl e
    more (inr h) = inr (later None holders place h)
waits_from waiting (Some id ∷ holders) place waits = more (waits_from (set waiting (id - 1) true) holders place waits)
  where
    more : (get_or (set waiting (id - 1) true) place false ≡ true) ⊎ WasHeld holders place → (get_or waiting place false ≡ true) ⊎ WasHeld (Some id ∷ holders) place
    more (inl e) = at_first (place == (id - 1)) waiting holders id place refl e
    more (inr h) = inr (later (Some id) holders place h)

-- the path after the last step
abbrev pub given_back_at : PathState → PathState
given_back_at p = path_at (given_back p.driver.requests) driver.Calm p.regs p.memory p.engine p.card p.script

borne_again : (p : PathState) (id : ℕ) → AreBorne p → (is_waiting p.driver.requests.waiting id ≡ true) ⊎ WasHeld p.driver.requests.holders (id - 1)
    → faults_of p.driver.requests id < MOST_FAULTS
borne_again p id b (inl waits) = b.waiting id waits
borne_again p id b (inr h) = subst (λ n. slice_index_or p.driver.requests.faults n 0 < MOST_FAULTS) h.at (b.issued h.tag h.id h.held)

borne_back : (p : PathState) → AreBorne p → AreBorne (given_back_at p)
borne_back p b = record {
  waiting = λ id waits. borne_again p id b (waits_from p.driver.requests.waiting p.driver.requests.holders (id - 1) waits);
  issued = λ tag id held. absurd (cc (holder-none tag, held));
}

pub over_at : (p : PathState) → AreTied p → p.driver.recovery ≡ driver.Resumed → IsOver p.regs
over_at p t at = subst (λ (s : RecoveryState). IsAt s p.regs) at t.recovery_at

idle_at : (p : PathState) → IsOver p.regs → (tag : ℕ) → progress_of p.regs.ring tag ≡ Idle
idle_at p o tag = ap (λ (ring : List Ringed). progress_of ring tag) o.ring

-- a tag that is not issued, over a queue without tasks
vacant_queue : (q : PathState) (tag : ℕ) → progress_of q.regs.ring tag ≡ Idle → slot q.card.queue tag ≡ None → HasQueue q tag
vacant_queue q tag idle none = record {
  queued = rw idle none;
  chosen = λ e. absurd (cc (idle, e));
  waits = λ e. absurd (cc (idle, e));
}

pub vacant_runs : (q : PathState) (tag : ℕ) → progress_of q.regs.ring tag ≡ Idle → slot q.card.queue tag ≡ None → holder q tag ≡ None → TagRuns q tag
vacant_runs q tag idle none free = record {
  holds = λ e. absurd (false≢true (sym (ap is_begun idle) ∙ e));
  queue = vacant_queue q tag idle none;
  inside = rw free tt;
}

pub tied_back : (p : PathState) → AreTied p → p.driver.recovery ≡ driver.Resumed → IsSound (given_back p.driver.requests) → AreTied (given_back_at p)
tied_back p t at sound =
    let o = over_at p t at in
    let none = none_rung p o.ring o.running in
    record {
      sound = sound;
      layout_fits = t.layout_fits;
      holds = record { cause = t.holds.cause; tasks = t.holds.tasks };
      lie = t.lie;
      counts = t.counts;
      one = t.one;
      regs = t.regs;
      card = t.card;
      store = t.store;
      script = t.script;
      borne = borne_back p t.borne;
      recovery_at = tt;
      calm = λ e. o.halted;
      halts = λ e. absurd (cc (e));
      held = λ e. absurd (false≢true e);
      tags = λ e tag low. subst (λ h. MatchOption h (IsVacant (given_back_at p) tag) (IsIssued (given_back_at p) tag)) (sym (holder-none tag))
          (record { idle = idle_at p o tag; silent = none_done p.regs.completed tag o.completed });
      running = λ e tag low. vacant_runs (given_back_at p) tag (idle_at p o tag) (t.emptied (rw at refl) tag) (holder-none tag);
      alone = λ e. absurd (false≢true (sym (ap is_some (holder-none 31)) ∙ e));
      emptied = λ e. absurd (false≢true e);
      begun = begun_none p t none ∙ ap (phase_words (given_back_at p)) (sym none);
      phase = rw none tt;
      ahead = rw none tt;
      hit = rw none tt;
      fails = rw none tt;
      names = t.names;
      heard = rw none tt;
      told = λ e. absurd (e o.completed);
      status = λ e. absurd (false≢true (sym (none_done p.regs.completed 31 o.completed) ∙ e));
    }
