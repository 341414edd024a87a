-- The ties while a recovery is under way: requests, tables and card stay, and no task is rung or notified.
use Rattle.std.proofs.Common.{◌≡◌, ◌∙◌, ℕ, Bool, true, false, cond, not, None, ap, sym, nat_eq}
use Rattle.std.proofs.lemmas.Bool.{false≢true}
use Rattle.std.proofs.lemmas.Nat.Bits.{bit_at-zero}
use Rattle.task_queue.specs.Queue.{slot}
use Rattle.card_store.specs.Store.{IsStore}
use Rattle.cq_engine.specs.Holds.{AreCounted, Holds, LieIn}
use Rattle.cq_engine.specs.Standings.{OneOpen}
use Rattle.cq_regs.specs.Slots.{has_bit}
use Rattle.drv_core.specs.State.{is_recovering}
use Rattle.drv_jobs.specs.Sound.{IsSound}
use Rattle.drv_recover.specs.Recovery.{IsAt}
use Rattle.drv_recover.specs.declared.recovery.RecoveryState.{RecoveryState}
use Rattle.drv_recover.specs.declared.recovery.RecoveryState.TheVariants as driver
use Rattle.drv_ring.specs.Layout.{HasLayout}
use Rattle.world_state.specs.Path.{PathState, layout, plan_of, runs, under_way}
use Rattle.world_state.specs.Ties.{AreBorne, AreTied, HasSetUp, IsAlone, IsCardOf, IsScript, NamesRung, is_discarded, phase_words}

-- what has to be so of a path whose recovery is under way
pub record IsHeldBack (q : PathState) : Type 0 where
  pub recovering : is_recovering q.driver.recovery ≡ true
  pub sound : IsSound q.driver.requests
  pub layout_fits : HasLayout q.memory (layout q)
  pub holds : Holds q.engine q.regs
  pub lie : LieIn q.memory q.engine.held
  pub counts : AreCounted q.engine.held
  pub one : OneOpen q.regs.ring
  pub regs : HasSetUp (plan_of q) q.regs
  pub card : IsCardOf (plan_of q) q.card
  pub store : IsStore q.card.store
  pub script : IsScript q.script
  pub borne : AreBorne q
  pub recovery_at : IsAt q.driver.recovery q.regs
  pub halts : q.driver.recovery ≡ driver.Halted → q.regs.stopped ≡ true
  pub completed : q.regs.completed ≡ 0
  pub alone : IsAlone q
  pub emptied : is_discarded q.driver.recovery ≡ true → (tag : ℕ) → slot q.card.queue tag ≡ None
  pub begun : q.card.begun ≡ None
  pub names : NamesRung q
  pub none : under_way q ≡ None

not_calm : (state : RecoveryState) → is_recovering state ≡ true → state ≡ driver.Calm → false ≡ true
not_calm state busy e = sym (ap is_recovering e) ∙ busy

not_running : (recovering stopped : Bool) → recovering ≡ true → cond recovering false (not stopped) ≡ true → false ≡ true
not_running true stopped e runs = runs
not_running false stopped e runs = e

pub none_done : (completed tag : ℕ) → completed ≡ 0 → has_bit completed tag ≡ false
none_done completed tag e = ap (λ n. has_bit n tag) e ∙ ap (λ n. nat_eq n 1) (bit_at-zero tag)

pub held_back : (q : PathState) → IsHeldBack q → AreTied q
held_back q h = record {
  sound = h.sound;
  layout_fits = h.layout_fits;
  holds = h.holds;
  lie = h.lie;
  counts = h.counts;
  one = h.one;
  regs = h.regs;
  card = h.card;
  store = h.store;
  script = h.script;
  borne = h.borne;
  recovery_at = h.recovery_at;
  calm = λ e. absurd (false≢true (not_calm q.driver.recovery h.recovering e));
  halts = h.halts;
  held = λ e. h.completed;
  tags = λ e. absurd (false≢true (sym e ∙ h.recovering));
  running = λ e. absurd (false≢true (not_running (is_recovering q.driver.recovery) q.regs.stopped h.recovering e));
  alone = h.alone;
  emptied = h.emptied;
  begun = h.begun ∙ ap (phase_words q) (sym h.none);
  phase = rw h.none tt;
  ahead = rw h.none tt;
  hit = rw h.none tt;
  fails = rw h.none tt;
  names = h.names;
  heard = rw h.none tt;
  told = λ e. absurd (e h.completed);
  status = λ e. absurd (false≢true (sym (none_done q.regs.completed 31 h.completed) ∙ e));
}
