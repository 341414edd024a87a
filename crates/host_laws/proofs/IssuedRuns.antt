-- The ties of the running engine after a request is issued, and so all of them.
use Rattle.std.proofs.Common.{◌≡◌, ◌≢◌, ◌∙◌, ap₂, ◌⊎◌, ◌<◌, ◌==◌, ◌&&◌, ◌++◌, ℕ, Bool, true, false, cond, not, List, [], ◌∷◌, Option, None, Some, IfSome, IsSomeAnd, find, option_map, inl, inr, refl, ap, sym, subst, arith, eqb-true, if◌then◌else◌}
use Rattle.std.proofs.lemmas.Bool.{false≢true}
use Rattle.std.specs.Option.{option_map_or}
use Rattle.storage_machine.specs.Commands.{is_gone}
use Rattle.storage_machine.specs.Jobs.{is_high}
use Rattle.host_mem.specs.Memory.{Memory}
use Rattle.cq_engine.proofs.Lying.{lie_same}
use Rattle.cq_engine.specs.Holds.{Holds}
use Rattle.cq_engine.specs.Standings.{OneOpen, is_open}
use Rattle.cq_regs.specs.Slots.{is_rung, newly_rung, progress_of}
use Rattle.cq_regs.specs.declared.slots.Progress.{Progress}
use Rattle.cq_regs.specs.declared.slots.Progress.TheVariants.{Idle, Rung, Named, Ready, Active}
use Rattle.cq_regs.specs.declared.slots.Ringed.{Ringed}
use Rattle.cq_regs.specs.State.{Registers}
use Rattle.cq_regs.specs.Slots.{has_bit}
use Rattle.cq_schedule.specs.Held.{held_at}
use Rattle.cq_task.specs.declared.slot.SlotTask.TheVariants.{Data}
use Rattle.drv_ring.specs.Task.{task_of}
use Rattle.task_queue.specs.declared.queue.Queued.{Queued}
use Rattle.cq_schedule.specs.Holding.{is_begun}
use Rattle.cq_schedule.specs.Order.{order_of}
use Rattle.drv_core.specs.Event.{IsWritten}
use Rattle.drv_core.specs.State.{asks_notice, is_recovering}
use Rattle.drv_jobs.specs.Changes.{issued}
use Rattle.drv_jobs.specs.Sound.{IsSound}
use Rattle.drv_jobs.specs.declared.next.Due.{Due}
use Rattle.drv_recover.specs.declared.recovery.RecoveryState.TheVariants as driver
use Rattle.drv_ring.specs.Layout.{HasLayout}
use Rattle.host_laws.proofs.Dues.{IsIssuable, TagIs, alone, free}
use Rattle.host_laws.proofs.Issued.{IsRungMore, borne_issued, first_same, free_tag_is, holder_other, holder_that, issued_at, other_slot, rung_more, seen_alike, tag_by, that_slot}
use Rattle.host_laws.proofs.Rings.{find_one, ring_one}
use Rattle.world_state.specs.Path.{PathState, holder, job, layout, moved_by, plan_of, runs, under_way}
use Rattle.world_state.specs.Reading.{is_free, notice_of}
use Rattle.world_state.specs.Ties.{AreTied, HasHit, HasPhase, HasQueue, HoldsJob, IsAhead, IsAlone, IsBeforeFault, IsInImage, TagRuns, ahead, first_of, has_high, is_executable, is_queued, named_by, phase_words, words_of}

-- the ring after it
abbrev pub ring_at : PathState → Due → List Ringed
ring_at p due = p.regs.ring ++ newly_rung due.tag ∷ []

abbrev pub More : PathState → Due → Type 0
More p due = IsRungMore p.regs.ring due.tag (ring_at p due)

-- the phase under way stays so
pub way_issued : (p : PathState) (due : Due) (memory : Memory) → More p due → under_way (issued_at p due memory) ≡ under_way p
way_issued p due memory r = ap (λ found. cond p.regs.stopped None found) (first_same p.regs.ring (ring_at p due) due.tag r Active refl refl)

-- a begun slot is another
begun_other : (p : PathState) (due : Due) (k : ℕ) (b : Bool) → (k == due.tag) ≡ b → More p due → is_begun (progress_of (ring_at p due) k) ≡ true → b ≡ false
begun_other p due k true e r begun = absurd (false≢true (sym (ap is_begun (that_slot p.regs.ring (ring_at p due) due.tag r k e)) ∙ begun))
begun_other p due k false e r begun = refl

job_held : (p : PathState) (due : Due) (memory : Memory) (k : ℕ) (found : Option ℕ) → (k == due.tag) ≡ false → More p due
    → IsSomeAnd found (HoldsJob p k) → IsSomeAnd found (HoldsJob (issued_at p due memory) k)
job_held p due memory k None e r h = h
job_held p due memory k (Some id) e r h = record {
  held = subst (λ (g : Progress). IsSomeAnd (held_at p.engine.held k) (λ x.
      (x.progress ≡ g) × (task_of (layout p) k (job p id) (asks_notice (plan_of p) (job p id)) ≡ Data x.task) × (g ≢ Active → x.moved ≡ 0)))
      (sym (other_slot p.regs.ring (ring_at p due) due.tag r k e)) h.held;
}

-- what the queue has of a slot that is sent or ready, or not
abbrev queued_if : PathState → ℕ → Bool → Option Queued
queued_if p k queued = if queued then option_map (λ h. record { task = words_of k h.task.desc; start = h.task.desc.start }) (held_at p.engine.held k) else None

-- a slot that came further than its bell came so far before
came_by : (p : PathState) (due : Due) (k : ℕ) (goal : Progress) (b : Bool) → (k == due.tag) ≡ b → More p due → (Rung ≡ goal → false ≡ true)
    → progress_of (ring_at p due) k ≡ goal → progress_of p.regs.ring k ≡ goal
came_by p due k goal true e r rung h = absurd (false≢true (rung (sym (that_slot p.regs.ring (ring_at p due) due.tag r k e) ∙ h)))
came_by p due k goal false e r rung h = sym (other_slot p.regs.ring (ring_at p due) due.tag r k e) ∙ h

rung_ready : Rung ≡ Ready → false ≡ true
rung_ready e = absurd (cc (e))

rung_named : Rung ≡ Named → false ≡ true
rung_named e = absurd (cc (e))

rung_active : Rung ≡ Active → false ≡ true
rung_active e = absurd (cc (e))

queue_held : (p : PathState) (due : Due) (memory : Memory) (k : ℕ) → More p due → HasQueue p k → HasQueue (issued_at p due memory) k
queue_held p due memory k r q = record {
  queued = q.queued ∙ ap (queued_if p k) (sym (seen_alike p.regs.ring (ring_at p due) due.tag r is_queued refl k));
  chosen = λ e. q.chosen (came_by p due k Ready (k == due.tag) refl r rung_ready e);
  waits = λ e. q.waits (came_by p due k Named (k == due.tag) refl r rung_named e);
}

-- a task that lies in the image is that of another slot
inside_other : (p : PathState) (due : Due) (memory : Memory) (k : ℕ) (found : Option ℕ) → (k == due.tag) ≡ false → More p due
    → IfSome found (IsInImage p k) → IfSome found (IsInImage (issued_at p due memory) k)
inside_other p due memory k None e r h = tt
inside_other p due memory k (Some id) e r h = λ came. h (before came)
  where
    same_one : progress_of (ring_at p due) k ≡ progress_of p.regs.ring k
    same_one = other_slot p.regs.ring (ring_at p due) due.tag r k e

    before : (is_queued (progress_of (ring_at p due) k) ≡ true) ⊎ (progress_of (ring_at p due) k ≡ Active)
        → (is_queued (progress_of p.regs.ring k) ≡ true) ⊎ (progress_of p.regs.ring k ≡ Active)
    before (inl q) = inl (sym (ap is_queued same_one) ∙ q)
    before (inr a) = inr (sym same_one ∙ a)

inside_that : (p : PathState) (due : Due) (memory : Memory) (k id : ℕ) → (k == due.tag) ≡ true → More p due → IsInImage (issued_at p due memory) k id
inside_that p due memory k id e r came = absurd (false≢true (not_yet came))
  where
    rung_at : progress_of (ring_at p due) k ≡ Rung
    rung_at = that_slot p.regs.ring (ring_at p due) due.tag r k e

    not_yet : (is_queued (progress_of (ring_at p due) k) ≡ true) ⊎ (progress_of (ring_at p due) k ≡ Active) → false ≡ true
    not_yet (inl q) = sym (ap is_queued rung_at) ∙ q
    not_yet (inr a) = rung_active (sym rung_at ∙ a)

inside_by : (p : PathState) (due : Due) (memory : Memory) (k : ℕ) (b : Bool) → (k == due.tag) ≡ b → More p due → IsSound p.driver.requests → due.tag < 32
    → IfSome (holder p k) (IsInImage p k) → IfSome (holder (issued_at p due memory) k) (IsInImage (issued_at p due memory) k)
inside_by p due memory k true e r sound low h =
    subst (λ found. IfSome found (IsInImage (issued_at p due memory) k)) (sym (holder_that p due memory k sound low e)) (inside_that p due memory k due.id e r)
inside_by p due memory k false e r sound low h =
    subst (λ found. IfSome found (IsInImage (issued_at p due memory) k)) (sym (holder_other p due memory k e)) (inside_other p due memory k (holder p k) e r h)

tag_runs : (p : PathState) (due : Due) (memory : Memory) (k : ℕ) → More p due → IsSound p.driver.requests → due.tag < 32 → TagRuns p k
    → TagRuns (issued_at p due memory) k
tag_runs p due memory k r sound low t = record {
  holds = λ begun.
      let e = begun_other p due k (k == due.tag) refl r begun in
      subst (λ found. IsSomeAnd found (HoldsJob (issued_at p due memory) k)) (sym (holder_other p due memory k e))
      (job_held p due memory k (holder p k) e r (t.holds (sym (ap is_begun (other_slot p.regs.ring (ring_at p due) due.tag r k e)) ∙ begun)));
  queue = queue_held p due memory k r t.queue;
  inside = inside_by p due memory k (k == due.tag) refl r sound low t.inside;
}

-- a direct request is alone
other_than : (n m : ℕ) (b : Bool) → (n == m) ≡ b → n ≢ m → b ≡ false
other_than n m true e h = absurd (h (eqb-true n m e))
other_than n m false e h = refl

alone_issued : (p : PathState) (due : Due) (memory : Memory) → TagIs p.driver.requests due.tag → IsAlone (issued_at p due memory)
alone_issued p due memory (alone last none) some k low =
    holder_other p due memory k (other_than k due.tag (k == due.tag) refl (λ e. absurd (omega (arith, e, last, low)))) ∙ none k
alone_issued p due memory (free below own none) some k low =
    absurd (cc (some, holder_other p due memory 31 (other_than 31 due.tag (31 == due.tag) refl (λ e. absurd (omega (arith, e, below)))) ∙ none))

-- the task that goes ahead
high_by : (p : PathState) (due : Due) (memory : Memory) (k : ℕ) (b : Bool) → (k == due.tag) ≡ b → More p due
    → (is_executable (progress_of (ring_at p due) k) && has_high (issued_at p due memory) k) ≡ (is_executable (progress_of p.regs.ring k) && has_high p k)
high_by p due memory k true e r =
    ap (λ q. is_executable q && has_high (issued_at p due memory) k) (that_slot p.regs.ring (ring_at p due) due.tag r k e)
    ∙ sym (ap (λ q. is_executable q && has_high p k) (ap (progress_of p.regs.ring) (eqb-true k due.tag e) ∙ r.idle))
high_by p due memory k false e r =
    ap (λ q. is_executable q && has_high (issued_at p due memory) k) (other_slot p.regs.ring (ring_at p due) due.tag r k e)
    ∙ ap (λ found. is_executable (progress_of p.regs.ring k) && option_map_or (λ id. is_high (job p id)) found false) (holder_other p due memory k e)

high_idle : (p : PathState) (tag : ℕ) → progress_of p.regs.ring tag ≡ Idle → (is_executable (progress_of p.regs.ring tag) && has_high p tag) ≡ false
high_idle p tag idle = ap (λ q. is_executable q && has_high p tag) idle

ahead_issued : (p : PathState) (due : Due) (memory : Memory) → More p due → ahead (issued_at p due memory) ≡ ahead p
ahead_issued p due memory r =
    let P : ℕ → Bool = λ k. is_executable (progress_of (ring_at p due) k) && has_high (issued_at p due memory) k in
    let Q : ℕ → Bool = λ k. is_executable (progress_of (ring_at p due) k) in
    ap₂ first_of
    (ap (λ xs. find P xs) r.order
    ∙ find_one P (λ k. is_executable (progress_of p.regs.ring k) && has_high p k) (order_of p.regs.ring) due.tag
    (λ k. high_by p due memory k (k == due.tag) refl r) (high_idle p due.tag r.idle))
    (ap (λ xs. find Q xs) r.order
    ∙ find_one Q (λ k. is_executable (progress_of p.regs.ring k)) (order_of p.regs.ring) due.tag
    (λ k. seen_alike p.regs.ring (ring_at p due) due.tag r is_executable refl k) (ap is_executable r.idle))

ahead_if : (p : PathState) (due : Due) (memory : Memory) (way : Option ℕ) → More p due → IfSome way (IsAhead p) → IfSome way (IsAhead (issued_at p due memory))
ahead_if p due memory None r h = tt
ahead_if p due memory (Some tag) r h = ahead_issued p due memory r ∙ h

one_issued : (p : PathState) (due : Due) → More p due → OneOpen p.regs.ring → OneOpen (ring_at p due)
one_issued p due r one a b first second =
    one a b (sym (seen_alike p.regs.ring (ring_at p due) due.tag r is_open refl a) ∙ first) (sym (seen_alike p.regs.ring (ring_at p due) due.tag r is_open refl b) ∙ second)

-- what the engine holds
held_issued : (p : PathState) (due : Due) (memory : Memory) → More p due → Holds p.engine p.regs → Holds p.engine (issued_at p due memory).regs
held_issued p due memory r h = record {
  cause = h.cause;
  tasks = λ runs k low begun.
      let e = begun_other p due k (k == due.tag) refl r begun in
      let same_one = other_slot p.regs.ring (ring_at p due) due.tag r k e in
      subst (λ (g : Progress). IsSomeAnd (held_at p.engine.held k) (λ x. x.progress ≡ g)) (sym same_one)
      (h.tasks runs k low (sym (ap is_begun same_one) ∙ begun));
}

runs_before : (p : PathState) → p.driver.recovery ≡ driver.Calm → not p.regs.stopped ≡ true → runs p ≡ true
runs_before p calm e = ap (λ b. cond b false (not p.regs.stopped)) (ap is_recovering calm) ∙ e

notice_calm : (p : PathState) → p.driver.recovery ≡ driver.Calm → notice_of p ≡ has_bit p.regs.interrupts 1
notice_calm p calm = ap (λ b. cond b false (has_bit p.regs.interrupts 1)) (ap is_free calm)

rung_by : (p : PathState) (due : Due) (k : ℕ) (b : Bool) → (k == due.tag) ≡ b → More p due → is_rung (progress_of p.regs.ring k) ≡ true → is_rung (progress_of (ring_at p due) k) ≡ true
rung_by p due k true e r h = ap is_rung (that_slot p.regs.ring (ring_at p due) due.tag r k e)
rung_by p due k false e r h = ap is_rung (other_slot p.regs.ring (ring_at p due) due.tag r k e) ∙ h

rung_on : (p : PathState) (due : Due) → More p due → (found : Option ℕ) → IfSome found (λ k. is_rung (progress_of p.regs.ring k) ≡ true)
    → IfSome found (λ k. is_rung (progress_of (ring_at p due) k) ≡ true)
rung_on p due r None h = tt
rung_on p due r (Some k) h = rung_by p due k (k == due.tag) refl r h

pub tied_issued : (p : PathState) (due : Due) (memory : Memory) → AreTied p → p.driver.recovery ≡ driver.Calm → IsIssuable p.driver.requests due
    → IsWritten (plan_of p) due p.memory memory → IsSound (issued p.driver.requests due) → HasLayout memory (layout p) → AreTied (issued_at p due memory)
tied_issued p due memory t calm x w sound fits =
    let f = free_tag_is p due t calm x in
    let r = rung_more p due t f x.low in
    let way = way_issued p due memory r in
    record {
      sound = sound;
      layout_fits = fits;
      holds = held_issued p due memory r t.holds;
      lie = lie_same p.memory memory p.engine.held w.space t.lie;
      counts = t.counts;
      one = one_issued p due r t.one;
      regs = record {
        same = ap (λ (g : Registers). record g { ring = ring_at p due }) t.regs.same;
        notice = t.regs.notice;
        ring = ring_one p.regs.ring due.tag x.low (ap is_rung f.idle) t.regs.ring;
        small = t.regs.small;
        counted = t.regs.counted;
      };
      card = t.card;
      store = t.store;
      script = t.script;
      borne = borne_issued p due memory t x;
      recovery_at = tt;
      calm = λ e. t.calm calm;
      halts = λ e. absurd (cc (e));
      held = λ e. absurd (false≢true e);
      tags = λ e k low. tag_by p due memory k (k == due.tag) refl t calm x w low;
      running = λ e k low. tag_runs p due memory k r t.sound x.low (t.running (runs_before p calm e) k low);
      alone = alone_issued p due memory x.tag;
      emptied = λ e. absurd (false≢true e);
      begun = t.begun ∙ sym (ap (phase_words (issued_at p due memory)) way ∙ words p due memory (under_way p) way);
      phase = subst (λ found. IfSome found (HasPhase (issued_at p due memory))) (sym way) t.phase;
      ahead = subst (λ found. IfSome found (IsAhead (issued_at p due memory))) (sym way) (ahead_if p due memory (under_way p) r t.ahead);
      hit = subst (λ found. IfSome found (HasHit (issued_at p due memory))) (sym way) t.hit;
      fails = subst (λ found. IfSome found (λ tag. IsBeforeFault p.script.hit (moved_by p found))) (sym way) t.fails;
      names = λ e. rung_on p due r (named_by p.engine.cause) (t.names e);
      heard = subst (λ found. IfSome found (λ tag. is_gone p.script.hit ≡ false)) (sym way) t.heard;
      told = λ e. told (t.told e);
      status = t.status;
    }
  where
    words : (p : PathState) (due : Due) (memory : Memory) (found : Option ℕ) → under_way (issued_at p due memory) ≡ under_way p
        → phase_words (issued_at p due memory) found ≡ phase_words p found
    words p due memory None way = refl
    words p due memory (Some tag) way = ap (λ n. Some (record { task = tag; count = n; kept = false })) (ap (moved_by p) way)

    told : (notice_of p ≡ true) ⊎ (0 < p.regs.coalescing.counter) → (notice_of (issued_at p due memory) ≡ true) ⊎ (0 < p.regs.coalescing.counter)
    told (inl n) = inl (sym (notice_calm p calm) ∙ n)
    told (inr c) = inr c
