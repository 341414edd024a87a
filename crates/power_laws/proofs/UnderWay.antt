-- What the ties say of a phase under way.
use Rattle.std.proofs.Common.{◌≡◌, ◌≢◌, ◌<◌, ◌≤◌, ◌+◌, ◌==◌, ℕ, refl, sym, ◌∙◌, ap, subst, inr}
use Rattle.std.specs.Prelude.{Bool, true, false, not, nat_lt, cond, Option, Some, None, IfSome, MatchOption, All, List, [], ◌∷◌, ◌||◌}
use Rattle.std.specs.List.{find}
use Rattle.std.specs.Option.{IsSomeAnd, option_map, option_map_or}
use Rattle.std.proofs.lemmas.Bool.{eqb-true, false≢true}
use Rattle.std.proofs.lemmas.List.Elements.{All-head, All-tail}
use Rattle.std.proofs.lemmas.Option.{none-some, same_Some}
use Rattle.card_core.specs.Card.{sectors}
use Rattle.cq_engine.specs.Holds.{IsCounted}
use Rattle.cq_regs.specs.Slots.{has_bit, progress_of}
use Rattle.cq_regs.specs.State.{Registers}
use Rattle.cq_regs.specs.declared.slots.Progress.TheVariants.{Idle, Named, Active}
use Rattle.cq_regs.specs.declared.slots.Progress.{Progress}
use Rattle.cq_regs.specs.declared.slots.Ringed.{Ringed}
use Rattle.cq_schedule.proofs.Progresses.{same-true}
use Rattle.cq_schedule.specs.Held.{held_at, remembered, same}
use Rattle.cq_schedule.specs.Holding.{is_begun}
use Rattle.cq_schedule.specs.Meaning.{IsDue, IsDueThen, before_serving, next_of_phase, rests}
use Rattle.cq_schedule.specs.Order.{blocks_of as held_blocks, first_at, moved_of, order_of}
use Rattle.cq_schedule.specs.declared.held.HeldTask.{HeldTask}
use Rattle.cq_schedule.specs.declared.rules.Due.{Due}
use Rattle.cq_schedule.specs.declared.rules.Due.TheVariants.{Address, Block as NextBlock, Close, Rest}
use Rattle.cq_task.specs.declared.slot.SlotTask.TheVariants.{Data}
use Rattle.drv_core.specs.SetUp.{configuration_word}
use Rattle.drv_core.specs.State.{asks_notice, is_recovering}
use Rattle.drv_recover.specs.Recovery.{IsAt}
use Rattle.drv_recover.specs.declared.recovery.RecoveryState.{RecoveryState}
use Rattle.drv_recover.specs.declared.recovery.RecoveryState.TheVariants as driver
use Rattle.drv_ring.specs.Task.{task_of}
use Rattle.storage_machine.specs.Jobs.{sector_of}
use Rattle.storage_machine.specs.declared.commands.DueCommand.TheVariants.{Execute}
use Rattle.storage_model.specs.Plan.{blocks_of}
use Rattle.world_state.specs.Laws.{command_due}
use Rattle.world_state.specs.Path.{PathState, holder, job, layout, moved, moved_by, plan_of, under_way}
use Rattle.world_state.specs.Ties.{AreTied, HoldsJob, IsInImage, TagRuns}

pub record UnderWay (p : PathState) (tag : ℕ) : Type 0 where
  pub id : ℕ
  pub h : HeldTask
  pub calm : p.driver.recovery ≡ driver.Calm
  pub going : p.regs.stopped ≡ false
  pub below : tag < 32
  pub first : first_at Active p.regs.ring ≡ Some tag
  pub way : under_way p ≡ Some tag
  pub at : held_at p.engine.held tag ≡ Some h
  pub is_held : holder p tag ≡ Some id
  pub task : task_of (layout p) tag (job p id) (asks_notice (plan_of p) (job p id)) ≡ Data h.task
  pub few : h.moved ≤ h.task.desc.blocks
  pub inside : sector_of (job p id) + blocks_of (job p id) ≤ sectors p.card

-- ---- the slot

way_parts : (stopped : Bool) (o : Option ℕ) (tag : ℕ) → cond stopped None o ≡ Some tag → (stopped ≡ false) × (o ≡ Some tag)
way_parts true o tag e = absurd (none-some tag e)
way_parts false o tag e = (refl, e)

find_if : (p : ℕ → Bool) (y : ℕ) (ys : List ℕ) (x : ℕ) (b : Bool) → p y ≡ b → (find p ys ≡ Some x → p x ≡ true) → cond b (Some y) (find p ys) ≡ Some x
    → p x ≡ true
find_if p y ys x true e rest h = subst (λ n. p n ≡ true) (same_Some y x h) e
find_if p y ys x false e rest h = rest h

find_passes : (p : ℕ → Bool) (xs : List ℕ) (x : ℕ) → find p xs ≡ Some x → p x ≡ true
find_passes p [] x h = absurd (none-some x h)
find_passes p (y ∷ ys) x h = find_if p y ys x (p y) refl (find_passes p ys x) h

first_is : (progress : Progress) (ring : List Ringed) (slot : ℕ) → first_at progress ring ≡ Some slot → progress_of ring slot ≡ progress
first_is progress ring slot h =
    same-true (progress_of ring slot) progress (find_passes (λ s. same (progress_of ring s) progress) (order_of ring) slot h)

below_first : (b : Bool) (r : Ringed) (ring : List Ringed) (slot : ℕ) → (r.slot == slot) ≡ b → (b ≡ true → slot < 32) → (progress_of ring slot ≢ Idle → slot < 32)
    → option_map_or (λ r. r.progress) (cond b (Some r) (find (λ r. r.slot == slot) ring)) Idle ≢ Idle → slot < 32
below_first true r ring slot e here rest apart = here refl
below_first false r ring slot e here rest apart = rest apart

rung_below : (ring : List Ringed) (slot : ℕ) → All (λ r. r.slot < 32) ring → progress_of ring slot ≢ Idle → slot < 32
rung_below [] slot all apart = absurd (apart refl)
rung_below (r ∷ ring) slot all apart =
    below_first (r.slot == slot) r ring slot refl
    (λ e. subst (λ n. n < 32) (eqb-true r.slot slot e) (All-head (λ r. r.slot < 32) r ring all))
    (rung_below ring slot (All-tail (λ r. r.slot < 32) r ring all)) apart

calm_by : (state : RecoveryState) (regs : Registers) → IsAt state regs → (state ≡ driver.Halted → regs.stopped ≡ true) → regs.stopped ≡ false → regs.ring ≢ []
    → state ≡ driver.Calm
calm_by driver.Calm regs at halts goes some = refl
calm_by driver.Halted regs at halts goes some = absurd (false≢true (sym goes ∙ halts refl))
calm_by driver.Cleared regs at halts goes some = absurd (some at.ring)
calm_by driver.Discarded regs at halts goes some = absurd (some at.ring)
calm_by driver.Cleaned regs at halts goes some = absurd (some at.cleared.ring)
calm_by driver.Resumed regs at halts goes some = absurd (some at.ring)

-- ---- its task

abbrev IsOf : PathState → ℕ → ℕ → HeldTask → Type 0
IsOf p tag id h =
    (h.progress ≡ progress_of p.regs.ring tag)
    × (task_of (layout p) tag (job p id) (asks_notice (plan_of p) (job p id)) ≡ Data h.task)
    × (progress_of p.regs.ring tag ≢ Active → h.moved ≡ 0)

-- what is so of its slot
record IsOpen (p : PathState) (tag : ℕ) : Type 0 where
  pub calm : p.driver.recovery ≡ driver.Calm
  pub going : p.regs.stopped ≡ false
  pub below : tag < 32
  pub first : first_at Active p.regs.ring ≡ Some tag
  pub way : under_way p ≡ Some tag

by_task : (p : PathState) (tag id : ℕ) (place : Option HeldTask) → IsOpen p tag → holder p tag ≡ Some id → held_at p.engine.held tag ≡ place
    → IsSomeAnd place (IsOf p tag id) → IfSome place IsCounted → sector_of (job p id) + blocks_of (job p id) ≤ sectors p.card → UnderWay p tag
by_task p tag id None x is at of counted inside = absurd of
by_task p tag id (Some h) x is at of counted inside = record {
  id = id;
  h = h;
  calm = x.calm;
  going = x.going;
  below = x.below;
  first = x.first;
  way = x.way;
  at = at;
  is_held = is;
  task = of.1;
  few = counted.within;
  inside = inside;
}

by_holder : (p : PathState) (tag : ℕ) (o : Option ℕ) → IsOpen p tag → holder p tag ≡ o → progress_of p.regs.ring tag ≡ Active → IsSomeAnd o (HoldsJob p tag)
    → IfSome o (IsInImage p tag) → IfSome (held_at p.engine.held tag) IsCounted → UnderWay p tag
by_holder p tag None x is active holds inside counted = absurd holds
by_holder p tag (Some id) x is active holds inside counted =
    by_task p tag id (held_at p.engine.held tag) x is refl holds.held counted (inside (inr active))

pub under_way_of : (p : PathState) (tag : ℕ) → AreTied p → under_way p ≡ Some tag → UnderWay p tag
under_way_of p tag t way =
    let parts = way_parts p.regs.stopped (first_at Active p.regs.ring) tag way in
    let active = first_is Active p.regs.ring tag parts.1 in
    let apart : progress_of p.regs.ring tag ≢ Idle = λ idle. absurd (cc (sym active ∙ idle)) in
    let below = rung_below p.regs.ring tag t.regs.ring.below apart in
    let calm = calm_by p.driver.recovery p.regs t.recovery_at t.halts parts.0 (λ none. apart (ap (λ ring. progress_of ring tag) none)) in
    let runs : TagRuns p tag =
    t.running (ap (λ state. cond (is_recovering state) false (not p.regs.stopped)) calm ∙ ap not parts.0) tag below in
    by_holder p tag (holder p tag) (record { calm = calm; going = parts.0; below = below; first = parts.1; way = way }) refl active
    (runs.holds (ap is_begun active)) runs.inside (t.counts tag below)

pub moved_is : (p : PathState) (tag : ℕ) (u : UnderWay p tag) → moved p ≡ u.h.moved
moved_is p tag u = ap (moved_by p) u.way ∙ ap (λ o. option_map_or (λ h. h.moved) o 0) u.at

-- ---- what is due

is_on : (wide : Bool) → has_bit (configuration_word wide) 0 ≡ true
is_on true = refl
is_on false = refl

works : (p : PathState) (tag : ℕ) → AreTied p → UnderWay p tag → rests p.regs ≡ false
works p tag t u =
    ap (λ b. not b || (p.regs.halted || p.regs.stopped)) (ap (λ r. has_bit r.configuration 0) t.regs.same ∙ is_on (plan_of p).wide)
    ∙ ap (λ b. b || p.regs.stopped) (t.calm u.calm) ∙ u.going

abbrev pub phase_due : PathState → ℕ → Due
phase_due p tag = next_of_phase (remembered p.engine.held p.regs) tag

pub phase_is_due : (p : PathState) (tag : ℕ) → AreTied p → UnderWay p tag → IsDue (remembered p.engine.held p.regs) p.regs p.memory (phase_due p tag)
phase_is_due p tag t u =
    let held = remembered p.engine.held p.regs in
    let next : Option ℕ → Option Due =
    λ o. option_map_or (λ slot. Some (next_of_phase held slot)) o (option_map Address (first_at Named p.regs.ring)) in
    let D : Option Due → Type 0 = λ o. MatchOption o (IsDueThen held p.regs p.memory (phase_due p tag)) (λ first. phase_due p tag ≡ first) in
    let is : before_serving held p.regs ≡ Some (phase_due p tag) =
    ap (λ b. cond b (Some Rest) (next (first_at Active p.regs.ring))) (works p tag t u) ∙ ap next u.first in
    subst D (sym is) refl

next_executes : (p : PathState) (tag k : ℕ) (more : Bool) → command_due p (cond more (NextBlock tag k) (Close tag)) ≡ Execute tag
next_executes p tag k true = refl
next_executes p tag k false = refl

pub phase_executes : (p : PathState) (tag : ℕ) → command_due p (phase_due p tag) ≡ Execute tag
phase_executes p tag =
    let held = remembered p.engine.held p.regs in
    next_executes p tag (moved_of held tag) (nat_lt (moved_of held tag) (held_blocks held tag))
