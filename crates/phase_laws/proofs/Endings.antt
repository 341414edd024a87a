-- The ties after an event in which the engine stopped, after one in which a block moved, and after one in which a task was completed.
use Rattle.std.proofs.Common.{◌≡◌, ◌≢◌, ◌⊎◌, ◌<◌, ◌+◌, ℕ, refl, sym, ◌∙◌, ap, subst, arith, inl, inr}
use Rattle.std.specs.Prelude.{Bool, true, false, not, cond, Option, Some, None, IfSome, MatchOption}
use Rattle.std.specs.Option.{IsSomeAnd, option_map, option_map_or}
use Rattle.std.proofs.lemmas.Bool.{cases_lt, eq-eqb, eqb-false, false≢true}
use Rattle.storage_model.specs.declared.faults.BusKind.{BusKind}
use Rattle.storage_model.specs.declared.faults.BusKind.TheVariants.{Bad, Late, Lost, NoResp}
use Rattle.card_link.specs.Made.{is_bad_block}
use Rattle.std.proofs.lemmas.Bool.Decides.{eqb_tells}
use Rattle.bus_link.specs.Script.{Script}
use Rattle.bus_link.specs.Hits.{hit_of}
use Rattle.card_core.specs.Card.{CardState}
use Rattle.card_core.specs.Moving.{counted, moved_on}
use Rattle.card_core.specs.Serving.{without_error}
use Rattle.card_core.specs.declared.phase.DataPhase.{DataPhase}
use Rattle.cq_engine.specs.Outcome.{Holding}
use Rattle.cq_engine.specs.Words.{execute_of}
use Rattle.cq_regs.specs.Slots.{has_bit, is_rung, progress_of, without}
use Rattle.cq_regs.specs.State.{Registers}
use Rattle.cq_regs.specs.declared.slots.Progress.{Progress}
use Rattle.cq_regs.specs.declared.slots.Progress.TheVariants.{Idle, Active}
use Rattle.cq_regs.specs.declared.coalesce.Coalescing.{Coalescing}
use Rattle.cq_engine.proofs.SlotLaws.{without-other, without-same}
use Rattle.cq_schedule.specs.Held.{held_at, with_block}
use Rattle.cq_schedule.specs.Holding.{is_begun}
use Rattle.cq_schedule.specs.Order.{first_at}
use Rattle.cq_schedule.specs.declared.held.HeldTask.{HeldTask}
use Rattle.drv_core.specs.State.{is_recovering}
use Rattle.drv_recover.specs.declared.recovery.RecoveryState.TheVariants as driver
use Rattle.host_mem.specs.Memory.{Memory}
use Rattle.storage_machine.specs.Commands.{is_gone}
use Rattle.card_store.specs.Store.{sectors_of}
use Rattle.cq_task.specs.declared.slot.SlotTask.TheVariants.{Data}
use Rattle.drv_core.specs.State.{asks_notice}
use Rattle.drv_ring.specs.Task.{task_of}
use Rattle.task_queue.specs.Queue.{slot as queued_at}
use Rattle.world_state.specs.Path.{PathState, holder, job, layout, moved, moved_by, plan_of, runs, under_way}
use Rattle.world_state.specs.Reading.{is_free, notice_of}
use Rattle.world_state.specs.Ties.{AreTied, HasHit, HasPhase, HoldsJob, IsAhead, IsBeforeFault, IsIssued, IsVacant, TagIsTied, TagRuns, is_queued, named_by, phase_words, words_of}
use Rattle.phase_laws.proofs.Dues.{first_is}
use Rattle.phase_laws.proofs.SetUps.{Completes, done_other, done_same, is_told}
use Rattle.phase_laws.proofs.Parts.{Goes, path_with, tied_parts}
use Rattle.phase_laws.proofs.Tags.{KeepsAsked, idle_runs, if_then, image_stays, of_some, runs_stay, same_asked, some_then, tag_stays}

-- ---- what holds at once

pub tags_of : (p : PathState) → AreTied p → p.driver.recovery ≡ driver.Calm → (tag : ℕ) → tag < 32 → TagIsTied p tag
tags_of p t calm = t.tags (ap is_recovering calm)

pub runs_of : (p : PathState) → AreTied p → p.driver.recovery ≡ driver.Calm → p.regs.stopped ≡ false → (tag : ℕ) → tag < 32 → TagRuns p tag
runs_of p t calm goes =
    t.running (ap (λ state. cond (is_recovering state) false (not p.regs.stopped)) calm ∙ ap not goes)

-- nothing is under way where the engine stopped, or where no slot is in its data phase
no_way : (p : PathState) (r : Registers) (m : Memory) (g : Holding) (c : CardState) (s : Script) → under_way (path_with p r m g c s) ≡ None
    → c.begun ≡ None → c.begun ≡ phase_words (path_with p r m g c s) (under_way (path_with p r m g c s))
no_way p r m g c s way begun = begun ∙ sym (ap (phase_words (path_with p r m g c s)) way)

none_so : {X : Type 0} (o : Option X) (P : X → Type 0) → o ≡ None → IfSome o P
none_so {X = X} o P e = let Q : Option X → Type 0 = λ v. IfSome v P in subst Q (sym e) tt

notice_at : (p : PathState) (r : Registers) (m : Memory) (g : Holding) (c : CardState) (s : Script) → p.driver.recovery ≡ driver.Calm
    → notice_of (path_with p r m g c s) ≡ has_bit r.interrupts 1
notice_at p r m g c s calm = ap (λ state. cond (is_free state) false (has_bit r.interrupts 1)) calm

-- ---- the engine stopped

-- the registers after a stop: the slots and what was notified are as they were
pub record Stops (old new : Registers) : Type 0 where
  pub stopped : new.stopped ≡ true
  pub ring : new.ring ≡ old.ring
  pub completed : new.completed ≡ old.completed
  pub interrupts : new.interrupts ≡ old.interrupts
  pub coalescing : new.coalescing ≡ old.coalescing
  pub status : has_bit old.completed 31 ≡ true → new.direct_response ≡ old.direct_response

pub stopped_tied : (p : PathState) (r : Registers) (m : Memory) (g : Holding) (c : CardState) (s : Script) → AreTied p → Goes p r m g c s → Stops p.regs r
    → m ≡ p.memory → c.begun ≡ None → IfSome (named_by g.cause) (λ tag. is_rung (progress_of p.regs.ring tag) ≡ true)
    → AreTied (path_with p r m g c s)
stopped_tied p r m g c s t goes stops memory begun named =
    let q : PathState = path_with p r m g c s in
    let way : under_way q ≡ None = ap (λ b. cond b None (first_at Active r.ring)) stops.stopped in
    let rests : runs q ≡ false =
    ap (λ state. cond (is_recovering state) false (not r.stopped)) goes.calm ∙ ap not stops.stopped in
    let N : ℕ → Coalescing → Type 0 = λ i k. (cond (is_free p.driver.recovery) false (has_bit i 1) ≡ true) ⊎ (0 < k.counter) in
    let D : ℕ → Type 0 = λ n. has_bit n 31 ≡ true in
    tied_parts p r m g c s t goes
    (record {
      tags = λ tag below.
          tag_stays p r m g c s tag (ap (λ x. progress_of x tag) stops.ring) (ap (λ n. has_bit n tag) stops.completed) (same_asked p m tag memory)
          (tags_of p t goes.calm tag below);
      running = λ e. absurd (false≢true (sym rests ∙ e));
      begun = no_way p r m g c s way begun;
      phase = none_so (under_way q) (HasPhase q) way;
      ahead = none_so (under_way q) (IsAhead q) way;
      hit = none_so (under_way q) (HasHit q) way;
      fails = none_so (under_way q) (λ tag. IsBeforeFault s.hit (moved q)) way;
      names = λ _.
          if_then (named_by g.cause) (λ tag. is_rung (progress_of p.regs.ring tag) ≡ true) (λ tag. is_rung (progress_of r.ring tag) ≡ true)
          (λ tag rung. ap (λ x. is_rung (progress_of x tag)) stops.ring ∙ rung) named;
      heard = none_so (under_way q) (λ tag. is_gone s.hit ≡ false) way;
      told = λ some.
          subst (λ k. N r.interrupts k) (sym stops.coalescing)
          (subst (λ i. N i p.regs.coalescing) (sym stops.interrupts) (t.told (λ e. some (stops.completed ∙ e))));
      status = λ done. let was = subst D stops.completed done in stops.status was ∙ t.status was;
    })

-- ---- a task was completed

-- what is left of the tasks that are held, but for one slot's
abbrev pub HoldsOthers : PathState → Holding → ℕ → Type 0
HoldsOthers p g slot =
    (tag : ℕ) → tag < 32 → tag ≢ slot → IfSome (held_at p.engine.held tag) (λ h. h.progress ≡ progress_of p.regs.ring tag)
    → held_at g.held tag ≡ held_at p.engine.held tag

-- a slot that was rung, and whose task was in no queue
pub record WasOut (p : Progress) : Type 0 where
  pub rung : is_rung p ≡ true
  pub unqueued : is_queued p ≡ false

issued_done : (p : PathState) (r : Registers) (m : Memory) (g : Holding) (c : CardState) (s : Script) (tag : ℕ) (o : Option ℕ)
    → holder p tag ≡ o → is_rung (progress_of p.regs.ring tag) ≡ true → progress_of r.ring tag ≡ Idle → has_bit r.completed tag ≡ true → KeepsAsked p m tag
    → MatchOption o (IsVacant p tag) (IsIssued p tag) → MatchOption o (IsVacant (path_with p r m g c s) tag) (IsIssued (path_with p r m g c s) tag)
issued_done p r m g c s tag None is rung idle done keeps h = absurd (false≢true (sym (ap is_rung h.idle) ∙ rung))
issued_done p r m g c s tag (Some id) is rung idle done keeps h =
    let k = keeps id is h.asks h.data_held in
    record { asks = k.0; data_held = k.1; rung = ap is_rung idle ∙ sym (ap not done) }

pub begun_held : (p : PathState) (tag : ℕ) → TagRuns p tag → is_begun (progress_of p.regs.ring tag) ≡ true
    → IfSome (held_at p.engine.held tag) (λ h. h.progress ≡ progress_of p.regs.ring tag)
begun_held p tag t begun = by_holder (holder p tag) (t.holds begun)
  where
    of_held : (id : ℕ) (o : Option HeldTask)
        → IsSomeAnd o (λ h. (h.progress ≡ progress_of p.regs.ring tag)
        × (task_of (layout p) tag (job p id) (asks_notice (plan_of p) (job p id)) ≡ Data h.task) × (progress_of p.regs.ring tag ≢ Active → h.moved ≡ 0))
        → IfSome o (λ h. h.progress ≡ progress_of p.regs.ring tag)
    of_held id None h = absurd h
    of_held id (Some held) h = h.0

    by_holder : (o : Option ℕ) → IsSomeAnd o (HoldsJob p tag) → IfSome (held_at p.engine.held tag) (λ h. h.progress ≡ progress_of p.regs.ring tag)
    by_holder None h = absurd h
    by_holder (Some id) h = of_held id (held_at p.engine.held tag) h.held

pub done_tied : (p : PathState) (r : Registers) (m : Memory) (g : Holding) (c : CardState) (s : Script) (base : Registers) (threshold slot : ℕ) (int : Bool)
    → AreTied p → Goes p r m g c s → p.regs.stopped ≡ false → slot < 32 → WasOut (progress_of p.regs.ring slot)
    → base.ring ≡ p.regs.ring → base.completed ≡ p.regs.completed → Completes threshold slot int base r
    → first_at Active r.ring ≡ None → m ≡ p.memory → HoldsOthers p g slot → c.begun ≡ None → c.queue ≡ p.card.queue
    → (has_bit r.completed 31 ≡ true → r.direct_response ≡ without_error) → r.stopped ≡ false → AreTied (path_with p r m g c s)
done_tied p r m g c s base threshold slot int t goes going below out ring word done active memory others begun queue status on =
    let q : PathState = path_with p r m g c s in
    let rings : r.ring ≡ without p.regs.ring slot = done.ring ∙ ap (λ x. without x slot) ring in
    let idle : progress_of r.ring slot ≡ Idle = ap (λ x. progress_of x slot) rings ∙ without-same p.regs.ring slot in
    let bit : has_bit r.completed slot ≡ true = ap (λ n. has_bit n slot) done.completed ∙ done_same base.completed slot in
    let far : (tag : ℕ) → tag ≢ slot → progress_of r.ring tag ≡ progress_of p.regs.ring tag =
    λ tag apart. ap (λ x. progress_of x tag) rings ∙ without-other p.regs.ring slot tag apart in
    let same : (tag : ℕ) → tag ≢ slot → has_bit r.completed tag ≡ has_bit p.regs.completed tag =
    λ tag apart. ap (λ n. has_bit n tag) done.completed ∙ done_other base.completed slot tag apart ∙ ap (λ n. has_bit n tag) word in
    let way : under_way q ≡ None = way_none r.stopped (first_at Active r.ring) active in
    tied_parts p r m g c s t goes
    (record {
      tags = λ tag within.
          elim (eqb_tells tag slot) [
            | inl e ↦
                let T : ℕ → Type 0 = λ n. TagIsTied q n in
                subst T (sym e.1)
                (issued_done p r m g c s slot (holder p slot) refl out.rung idle bit (same_asked p m slot memory) (tags_of p t goes.calm slot below))
            | inr e ↦ tag_stays p r m g c s tag (far tag e.1) (same tag e.1) (same_asked p m tag memory) (tags_of p t goes.calm tag within)
          ];
      running = λ _ tag within.
          elim (eqb_tells tag slot) [
            | inl e ↦
                let T : ℕ → Type 0 = λ n. TagRuns q n in
                subst T (sym e.1) (idle_runs p r m g c s slot idle out.unqueued queue (runs_of p t goes.calm going slot below))
            | inr e ↦
                let was = runs_of p t goes.calm going tag within in
                runs_stay p r m g c s tag (far tag e.1) (λ run. others tag within e.1 (begun_held p tag was run)) queue goes.card.sectors was
          ];
      begun = no_way p r m g c s way begun;
      phase = none_so (under_way q) (HasPhase q) way;
      ahead = none_so (under_way q) (IsAhead q) way;
      hit = none_so (under_way q) (HasHit q) way;
      fails = none_so (under_way q) (λ tag. IsBeforeFault s.hit (moved q)) way;
      names = λ e. absurd (false≢true (sym on ∙ e));
      heard = none_so (under_way q) (λ tag. is_gone s.hit ≡ false) way;
      told = λ some. noticed_or p r m g c s goes.calm (is_told threshold slot int base r done);
      status = status;
    })
  where
    way_none : (b : Bool) (o : Option ℕ) → o ≡ None → cond b None o ≡ None
    way_none true o e = refl
    way_none false o e = e

    noticed_or : (p : PathState) (r : Registers) (m : Memory) (g : Holding) (c : CardState) (s : Script) → p.driver.recovery ≡ driver.Calm
        → (has_bit r.interrupts 1 ≡ true) ⊎ (0 < r.coalescing.counter) → (notice_of (path_with p r m g c s) ≡ true) ⊎ (0 < r.coalescing.counter)
    noticed_or p r m g c s calm (inl h) = inl (notice_at p r m g c s calm ∙ h)
    noticed_or p r m g c s calm (inr h) = inr h

-- ---- a block moved

-- the phase of a slot that is in its data phase
abbrev pub phase_of : ℕ → HeldTask → DataPhase
phase_of slot h = record { task = words_of slot h.task.desc; start = h.task.desc.start; moved = h.moved }

still_before : (hit : Option BusKind) (n : ℕ) → IsBeforeFault hit n → is_bad_block hit (n + 1) ≡ false → IsBeforeFault hit (n + 1)
still_before None n before free = tt
still_before (Some Lost) n before free = tt
still_before (Some NoResp) n before free = tt
still_before (Some Late) n before free = tt
still_before (Some (Bad b)) n before free =
    elim (cases_lt (n + 1) b) [
      | inl less ↦ less
      | inr most ↦ let same : b ≡ n + 1 = omega (arith, before, most) in absurd (eqb-false b (n + 1) free same)
    ]

counted_runs : (p : PathState) (m : Memory) (g : Holding) (c : CardState) (slot : ℕ) (h : HeldTask) → progress_of p.regs.ring slot ≡ Active
    → held_at p.engine.held slot ≡ Some h → held_at g.held slot ≡ Some (with_block h) → c.queue ≡ p.card.queue
    → sectors_of c.store ≡ sectors_of p.card.store → TagRuns p slot → TagRuns (path_with p p.regs m g c p.script) slot
counted_runs p m g c slot h active at held queue image t =
    let unqueued : is_queued (progress_of p.regs.ring slot) ≡ false = ap is_queued active in
    record {
      holds = λ begun.
          some_then (holder p slot) (HoldsJob p slot) (HoldsJob (path_with p p.regs m g c p.script) slot)
          (λ id x.
          let F : Option HeldTask → Type 0 =
          λ o. IsSomeAnd o (λ v. (v.progress ≡ progress_of p.regs.ring slot)
          × (task_of (layout p) slot (job p id) (asks_notice (plan_of p) (job p id)) ≡ Data v.task) × (progress_of p.regs.ring slot ≢ Active → v.moved ≡ 0)) in
          let was = subst F at x.held in
          record { held = subst F (sym held) (was.0, was.1, λ apart. absurd (apart active)) })
          (t.holds begun);
      queue = record {
        queued =
            ap (λ x. queued_at x slot) queue ∙ t.queue.queued
            ∙ ap (λ b. cond b (option_map (λ v. record { task = words_of slot v.task.desc; start = v.task.desc.start }) (held_at p.engine.held slot)) None) unqueued
            ∙ sym (ap (λ b. cond b (option_map (λ v. record { task = words_of slot v.task.desc; start = v.task.desc.start }) (held_at g.held slot)) None) unqueued);
        chosen = λ ready. absurd (cc (sym active ∙ ready));
        waits = λ named. absurd (cc (sym active ∙ named));
      };
      inside = image_stays p p.regs m g c p.script slot refl image t.inside;
    }

pub moved_tied : (p : PathState) (m : Memory) (g : Holding) (c : CardState) (slot : ℕ) (h : HeldTask) → AreTied p → Goes p p.regs m g c p.script
    → p.regs.stopped ≡ false → slot < 32 → first_at Active p.regs.ring ≡ Some slot → held_at p.engine.held slot ≡ Some h
    → p.card.phase ≡ Some (phase_of slot h) → held_at g.held slot ≡ Some (with_block h) → HoldsOthers p g slot
    → c ≡ record (moved_on p.card (phase_of slot h)) { store = c.store } → ((tag : ℕ) → tag < 32 → KeepsAsked p m tag)
    → is_bad_block p.script.hit (h.moved + 1) ≡ false → AreTied (path_with p p.regs m g c p.script)
moved_tied p m g c slot h t goes going below first at open_phase held others card keeps free =
    let q : PathState = path_with p p.regs m g c p.script in
    let way : under_way p ≡ Some slot = ap (λ b. cond b None (first_at Active p.regs.ring)) going ∙ first in
    let queue : c.queue ≡ p.card.queue = ap (λ x. x.queue) card in
    let begun : p.card.begun ≡ Some (record { task = slot; count = h.moved; kept = false }) =
    t.begun ∙ ap (λ w. option_map (λ tag. record { task = tag; count = moved_by p w; kept = false }) w) way
    ∙ ap (λ o. Some (record { task = slot; count = option_map_or (λ x. x.moved) o 0; kept = false })) at in
    let now : c.begun ≡ Some (record { task = slot; count = h.moved + 1; kept = false }) =
    ap (λ x. x.begun) card ∙ ap (option_map (counted (phase_of slot h) (h.moved + 1))) begun
    ∙ ap (λ b. Some (cond b (record { task = slot; count = h.moved + 1; kept = false }) (record { task = slot; count = h.moved; kept = false }))) (eq-eqb slot slot refl) in
    tied_parts p p.regs m g c p.script t goes
    (record {
      tags = λ tag within. tag_stays p p.regs m g c p.script tag refl refl (keeps tag within) (tags_of p t goes.calm tag within);
      running = λ _ tag within.
          let was = runs_of p t goes.calm going tag within in
          elim (eqb_tells tag slot) [
            | inl e ↦
                let T : ℕ → Type 0 = λ n. TagRuns q n in
                subst T (sym e.1)
                (counted_runs p m g c slot h (first_is Active p.regs.ring slot first) at held queue goes.card.sectors (runs_of p t goes.calm going slot below))
            | inr e ↦
                runs_stay p p.regs m g c p.script tag refl (λ run. others tag within e.1 (begun_held p tag was run)) queue goes.card.sectors was
          ];
      begun =
          now
          ∙ sym (ap (λ w. option_map (λ tag. record { task = tag; count = moved_by q w; kept = false }) w) way
          ∙ ap (λ o. Some (record { task = slot; count = option_map_or (λ x. x.moved) o 0; kept = false })) held);
      phase =
          let Q : Option ℕ → Type 0 = λ o. IfSome o (HasPhase q) in
          let H : Option HeldTask → Type 0 = λ o. IsSomeAnd o (λ x. c.phase ≡ Some (phase_of slot x)) in
          subst Q (sym way) (subst H (sym held) (ap (λ x. x.phase) card));
      ahead = t.ahead;
      hit =
          let Q : Option ℕ → Type 0 = λ o. IfSome o (HasHit q) in
          let H : Option HeldTask → Type 0 =
          λ o. IsSomeAnd o (λ x. p.script.hit ≡ hit_of p.script.hits p.script.sent (execute_of slot x.task.desc) x.task.desc.blocks) in
          let was : HasHit p slot = of_some (under_way p) slot (HasHit p) way t.hit in
          let here = subst H at was in
          subst Q (sym way) (subst H (sym held) here);
      fails =
          let many : moved p ≡ h.moved = ap (moved_by p) way ∙ ap (λ o. option_map_or (λ x. x.moved) o 0) at in
          let now_many : moved q ≡ h.moved + 1 = ap (moved_by q) way ∙ ap (λ o. option_map_or (λ x. x.moved) o 0) held in
          let Q : Option ℕ → Type 0 = λ o. IfSome o (λ tag. IsBeforeFault p.script.hit (moved q)) in
          let was : IsBeforeFault p.script.hit (moved p) = of_some (under_way p) slot (λ tag. IsBeforeFault p.script.hit (moved p)) way t.fails in
          subst Q (sym way)
          (subst (IsBeforeFault p.script.hit) (sym now_many) (still_before p.script.hit h.moved (subst (IsBeforeFault p.script.hit) many was) free));
      names = λ e. absurd (false≢true (sym going ∙ e));
      heard = t.heard;
      told = t.told;
      status = t.status;
    })
