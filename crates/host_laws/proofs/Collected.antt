-- The ties after the completed tasks are collected.
use Rattle.std.proofs.Common.{◌≡◌, ◌∙◌, ◌<◌, ◌^◌, ◌&&◌, ℕ, Bool, true, false, cond, not, Option, None, Some, IfSome, MatchOption, IsSomeAnd, find, nat_eq, nat_lt, refl, ap, sym, subst, ltb-true, ltb-false}
use Rattle.std.proofs.lemmas.Bool.{false≢true}
use Rattle.std.proofs.lemmas.Nat.Bits.{bit_at_above}
use Rattle.std.specs.Option.{option_map_or}
use Rattle.storage_machine.specs.Jobs.{is_high}
use Rattle.cq_regs.specs.Slots.{has_bit, is_rung, progress_of}
use Rattle.cq_regs.specs.declared.slots.Progress.{Progress}
use Rattle.cq_regs.specs.declared.slots.Progress.TheVariants.{Idle, Rung, Named, Sent, Ready, Active}
use Rattle.cq_schedule.specs.Holding.{is_begun}
use Rattle.cq_schedule.specs.Order.{order_of}
use Rattle.drv_core.specs.State.{is_recovering}
use Rattle.drv_jobs.proofs.HolderLaws.{fewer-freed_from, holder-freed_first}
use Rattle.drv_jobs.specs.Changes.{collected, freed_from}
use Rattle.drv_jobs.specs.Sound.{IsSound}
use Rattle.drv_recover.specs.declared.recovery.RecoveryState.TheVariants as driver
use Rattle.host_laws.proofs.Failed.{alone_fewer}
use Rattle.host_laws.proofs.Held.{none_done}
use Rattle.host_laws.proofs.Paths.{path_at, set_up_cleaned}
use Rattle.host_laws.proofs.Rings.{find_alike}
use Rattle.world_state.specs.Path.{PathState, holder, job, plan_of, runs, under_way}
use Rattle.world_state.specs.Reading.{is_done}
use Rattle.world_state.specs.Ties.{AreTied, HoldsJob, IsAhead, IsInImage, IsIssued, IsVacant, TagIsTied, TagRuns, ahead, first_of, has_high, is_executable}

-- the path after it
abbrev pub collected_at : PathState → PathState
collected_at p =
    path_at (collected p.driver.requests p.regs.completed) driver.Calm (record p.regs { completed = 0; interrupts = 0 }) p.memory p.engine p.card p.script

-- the request of a tag that is done has its answer, and that of another stays
pub holder_done : (p : PathState) (tag : ℕ) → is_done p tag ≡ true → holder (collected_at p) tag ≡ None
holder_done p tag e = holder-freed_first p.regs.completed p.driver.requests.holders tag ∙ ap (λ b. cond b None (holder p tag)) e

pub holder_left : (p : PathState) (tag : ℕ) → is_done p tag ≡ false → holder (collected_at p) tag ≡ holder p tag
holder_left p tag e = holder-freed_first p.regs.completed p.driver.requests.holders tag ∙ ap (λ b. cond b None (holder p tag)) e

-- a done one is not rung
not_rung : (progress : Progress) → is_rung progress ≡ false → progress ≡ Idle
not_rung Idle e = refl
not_rung Rung e = absurd (false≢true (sym e))
not_rung Named e = absurd (false≢true (sym e))
not_rung Sent e = absurd (false≢true (sym e))
not_rung Ready e = absurd (false≢true (sym e))
not_rung Active e = absurd (false≢true (sym e))

idle_by : (p : PathState) (tag : ℕ) (found : Option ℕ) → is_done p tag ≡ true → MatchOption found (IsVacant p tag) (IsIssued p tag) → progress_of p.regs.ring tag ≡ Idle
idle_by p tag None e v = v.idle
idle_by p tag (Some id) e i = not_rung (progress_of p.regs.ring tag) (i.rung ∙ ap not e)

small_tag : (word tag : ℕ) (low : Bool) → nat_lt tag 32 ≡ low → word < 2 ^ 32 → has_bit word tag ≡ true → tag < 32
small_tag word tag true h small e = ltb-true tag 32 h
small_tag word tag false h small e =
    let above = ltb-false tag 32 h in
    absurd (false≢true (sym (ap (λ n. nat_eq n 1) (bit_at_above word 32 tag small above)) ∙ e))

pub done_below : (p : PathState) (tag : ℕ) → AreTied p → is_done p tag ≡ true → tag < 32
done_below p tag t e = small_tag p.regs.completed tag (nat_lt tag 32) refl t.regs.small e

pub done_idle : (p : PathState) (tag : ℕ) → AreTied p → p.driver.recovery ≡ driver.Calm → is_done p tag ≡ true → progress_of p.regs.ring tag ≡ Idle
done_idle p tag t calm e = idle_by p tag (holder p tag) e (t.tags (ap is_recovering calm) tag (done_below p tag t e))

-- the tags
freed_tied : (p : PathState) (tag : ℕ) → progress_of p.regs.ring tag ≡ Idle → IsVacant (collected_at p) tag
freed_tied p tag idle = record { idle = idle; silent = none_done 0 tag refl }

left_tied : (p : PathState) (tag : ℕ) (found : Option ℕ) → is_done p tag ≡ false → MatchOption found (IsVacant p tag) (IsIssued p tag)
    → MatchOption found (IsVacant (collected_at p) tag) (IsIssued (collected_at p) tag)
left_tied p tag None e v = record { idle = v.idle; silent = none_done 0 tag refl }
left_tied p tag (Some id) e i = record {
  asks = i.asks;
  data_held = i.data_held;
  rung = i.rung ∙ (ap not e ∙ sym (ap not (none_done 0 tag refl)));
}

tag_by : (p : PathState) (tag : ℕ) (done : Bool) → is_done p tag ≡ done → AreTied p → p.driver.recovery ≡ driver.Calm → tag < 32 → TagIsTied (collected_at p) tag
tag_by p tag true e t calm low =
    subst (λ h. MatchOption h (IsVacant (collected_at p) tag) (IsIssued (collected_at p) tag)) (sym (holder_done p tag e)) (freed_tied p tag (done_idle p tag t calm e))
tag_by p tag false e t calm low =
    subst (λ h. MatchOption h (IsVacant (collected_at p) tag) (IsIssued (collected_at p) tag)) (sym (holder_left p tag e))
    (left_tied p tag (holder p tag) e (t.tags (ap is_recovering calm) tag low))

-- while the engine runs
begun_left : (p : PathState) (tag : ℕ) (done : Bool) → is_done p tag ≡ done → AreTied p → p.driver.recovery ≡ driver.Calm
    → is_begun (progress_of p.regs.ring tag) ≡ true → done ≡ false
begun_left p tag true e t calm begun = absurd (false≢true (sym (ap is_begun (done_idle p tag t calm e)) ∙ begun))
begun_left p tag false e t calm begun = refl

job_left : (p : PathState) (tag : ℕ) (found : Option ℕ) → IsSomeAnd found (HoldsJob p tag) → IsSomeAnd found (HoldsJob (collected_at p) tag)
job_left p tag None h = h
job_left p tag (Some id) h = record { held = h.held }

inside_if : (p : PathState) (tag : ℕ) (found : Option ℕ) → IfSome found (IsInImage p tag) → IfSome found (IsInImage (collected_at p) tag)
inside_if p tag None h = tt
inside_if p tag (Some id) h = h

inside_by : (p : PathState) (tag : ℕ) (done : Bool) → is_done p tag ≡ done → IfSome (holder p tag) (IsInImage p tag)
    → IfSome (holder (collected_at p) tag) (IsInImage (collected_at p) tag)
inside_by p tag true e h = subst (λ found. IfSome found (IsInImage (collected_at p) tag)) (sym (holder_done p tag e)) tt
inside_by p tag false e h =
    subst (λ found. IfSome found (IsInImage (collected_at p) tag)) (sym (holder_left p tag e)) (inside_if p tag (holder p tag) h)

tag_runs : (p : PathState) (tag : ℕ) → AreTied p → p.driver.recovery ≡ driver.Calm → TagRuns p tag → TagRuns (collected_at p) tag
tag_runs p tag t calm r = record {
  holds = λ begun.
      subst (λ found. IsSomeAnd found (HoldsJob (collected_at p) tag)) (sym (holder_left p tag (begun_left p tag (is_done p tag) refl t calm begun)))
      (job_left p tag (holder p tag) (r.holds begun));
  queue = record { queued = r.queue.queued; chosen = r.queue.chosen; waits = r.queue.waits };
  inside = inside_by p tag (is_done p tag) refl r.inside;
}

-- the task that goes ahead is not done
high_by : (p : PathState) (tag : ℕ) (done : Bool) → is_done p tag ≡ done → AreTied p → p.driver.recovery ≡ driver.Calm
    → (is_executable (progress_of p.regs.ring tag) && has_high (collected_at p) tag) ≡ (is_executable (progress_of p.regs.ring tag) && has_high p tag)
high_by p tag true e t calm =
    let idle = done_idle p tag t calm e in
    ap (λ q. is_executable q && has_high (collected_at p) tag) idle ∙ sym (ap (λ q. is_executable q && has_high p tag) idle)
high_by p tag false e t calm =
    ap (λ found. is_executable (progress_of p.regs.ring tag) && option_map_or (λ id. is_high (job p id)) found false) (holder_left p tag e)

ahead_left : (p : PathState) → AreTied p → p.driver.recovery ≡ driver.Calm → ahead (collected_at p) ≡ ahead p
ahead_left p t calm =
    ap (λ found. first_of found (find (λ tag. is_executable (progress_of p.regs.ring tag)) (order_of p.regs.ring)))
    (find_alike (λ tag. is_executable (progress_of p.regs.ring tag) && has_high (collected_at p) tag)
    (λ tag. is_executable (progress_of p.regs.ring tag) && has_high p tag) (order_of p.regs.ring) (λ tag. high_by p tag (is_done p tag) refl t calm))

ahead_if : (p : PathState) (way : Option ℕ) → AreTied p → p.driver.recovery ≡ driver.Calm → IfSome way (IsAhead p) → IfSome way (IsAhead (collected_at p))
ahead_if p None t calm h = tt
ahead_if p (Some tag) t calm h = ahead_left p t calm ∙ h

runs_calm : (p : PathState) → p.driver.recovery ≡ driver.Calm → not p.regs.stopped ≡ true → runs p ≡ true
runs_calm p calm e = ap (λ b. cond b false (not p.regs.stopped)) (ap is_recovering calm) ∙ e

pub tied_collected : (p : PathState) → AreTied p → p.driver.recovery ≡ driver.Calm → IsSound (collected p.driver.requests p.regs.completed) → AreTied (collected_at p)
tied_collected p t calm sound = record {
  sound = sound;
  layout_fits = t.layout_fits;
  holds = record { cause = t.holds.cause; tasks = t.holds.tasks };
  lie = t.lie;
  counts = t.counts;
  one = t.one;
  regs = set_up_cleaned (plan_of p) p.regs t.regs;
  card = t.card;
  store = t.store;
  script = t.script;
  borne = record {
    waiting = t.borne.waiting;
    issued = λ tag id e. t.borne.issued tag id (fewer-freed_from p.regs.completed p.driver.requests.holders tag id e);
  };
  recovery_at = tt;
  calm = λ e. t.calm calm;
  halts = λ e. absurd (cc (e));
  held = λ e. absurd (false≢true e);
  tags = λ e tag low. tag_by p tag (is_done p tag) refl t calm low;
  running = λ e tag low. tag_runs p tag t calm (t.running (runs_calm p calm e) tag low);
  alone = alone_fewer p.driver.requests.holders (freed_from p.regs.completed 0 p.driver.requests.holders) (fewer-freed_from p.regs.completed p.driver.requests.holders) t.alone;
  emptied = λ e. absurd (false≢true e);
  begun = t.begun;
  phase = t.phase;
  ahead = ahead_if p (under_way p) t calm t.ahead;
  hit = t.hit;
  fails = t.fails;
  names = t.names;
  heard = t.heard;
  told = λ e. absurd (e refl);
  status = λ e. absurd (false≢true (sym (none_done 0 31 refl) ∙ e));
}
