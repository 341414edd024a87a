-- An event of the engine over the path: what it leaves in any case, and the ties by how it ends.
use Rattle.std.proofs.Common.{◌≡◌, ◌≢◌, ◌⊎◌, ◌<◌, ◌≤◌, ◌^◌, ℕ, refl, sym, ◌∙◌, ap, subst}
use Rattle.std.specs.Prelude.{Bool, true, false, cond, Option, Some, None, IfSome, is_some, []}
use Rattle.std.specs.Option.{IsSomeAnd}
use Rattle.std.proofs.lemmas.Bool.{false≢true}
use Rattle.array_edge.specs.Array.{ArrayState}
use Rattle.card_core.specs.Card.{CardState}
use Rattle.card_core.specs.declared.phase.Phase.{Phase}
use Rattle.bus_link.specs.declared.link.Cause.{Cause}
use Rattle.cq_engine.specs.Outcome.{stop_of}
use Rattle.cq_engine.specs.declared.did.Did.{Did}
use Rattle.cq_engine.specs.declared.did.Did.TheVariants.{Stopped}
use Rattle.std.specs.Option.{option_or}
use Rattle.cq_regs.specs.Slots.{is_rung, progress_of}
use Rattle.cq_regs.specs.State.{Registers}
use Rattle.cq_regs.specs.declared.coalesce.Coalescing.{Coalescing}
use Rattle.cq_regs.specs.declared.slots.Progress.TheVariants.{Idle, Active}
use Rattle.cq_regs.specs.declared.slots.Ringed.{Ringed}
use Rattle.cq_schedule.specs.Held.{held_at, remembered}
use Rattle.cq_schedule.specs.Holding.{is_begun}
use Rattle.cq_schedule.specs.Meaning.{rests}
use Rattle.cq_schedule.specs.Order.{first_at}
use Rattle.cq_schedule.specs.declared.held.HeldTask.{HeldTask}
use Rattle.cq_task.specs.declared.slot.SlotTask.TheVariants.{Data}
use Rattle.drv_core.specs.State.{DriverState, asks_notice}
use Rattle.drv_recover.specs.Recovery.{IsAt}
use Rattle.drv_recover.specs.declared.recovery.RecoveryState.{RecoveryState}
use Rattle.drv_recover.specs.declared.recovery.RecoveryState.TheVariants as driver
use Rattle.drv_ring.specs.Asks.{Asks, HoldsData}
use Rattle.drv_ring.specs.Task.{task_of}
use Rattle.world_state.specs.Engine.{EngineEvent, phase_left}
use Rattle.world_state.specs.Path.{PathState, holder, is_busy, job, layout, plan_of, under_way}
use Rattle.world_state.specs.Ties.{AreTied, HasPhase, HoldsJob, IsIssued, IsVacant, named_by}
use Rattle.std.specs.Prelude.{MatchOption, List}
use Rattle.phase_laws.proofs.Dues.{first_is, runs_on}
use Rattle.phase_laws.proofs.SetUps.{set_up_stays}
use Rattle.phase_laws.proofs.Helds.{remembered_so}
use Rattle.phase_laws.proofs.Parts.{Goes, KeepsCard, KeepsScript, path_with}
use Rattle.phase_laws.proofs.Tags.{of_some}
use Rattle.phase_laws.proofs.Endings.{Stops, phase_of, runs_of, stopped_tied, tags_of}

-- ---- no recovery is under way where a slot is rung and the engine doesn't rest

rung_ring : (ring : List Ringed) (slot : ℕ) → progress_of ring slot ≢ Idle → ring ≢ []
rung_ring ring slot apart e = apart (ap (λ r. progress_of r slot) e)

calm_by : (state : RecoveryState) (regs : Registers) → IsAt state regs → regs.halted ≡ false → regs.ring ≢ [] → state ≡ driver.Calm
calm_by driver.Calm regs at goes some = refl
calm_by driver.Halted regs at goes some = absurd (false≢true (sym goes ∙ at))
calm_by driver.Cleared regs at goes some = absurd (false≢true (sym goes ∙ at.halted))
calm_by driver.Discarded regs at goes some = absurd (false≢true (sym goes ∙ at.halted))
calm_by driver.Cleaned regs at goes some = absurd (false≢true (sym goes ∙ at.cleared.halted))
calm_by driver.Resumed regs at goes some = absurd (some at.ring)

pub calm_of : (p : PathState) (slot : ℕ) → AreTied p → rests p.regs ≡ false → progress_of p.regs.ring slot ≢ Idle → p.driver.recovery ≡ driver.Calm
calm_of p slot t goes rung = calm_by p.driver.recovery p.regs t.recovery_at (runs_on p.regs goes).0 (rung_ring p.regs.ring slot rung)

-- ---- the phase under way

pub record InPhase (p : PathState) (slot : ℕ) : Type 0 where
  pub h : HeldTask
  pub id : ℕ
  pub calm : p.driver.recovery ≡ driver.Calm
  pub going : p.regs.stopped ≡ false
  pub below : slot < 32
  pub first : first_at Active p.regs.ring ≡ Some slot
  pub active : progress_of p.regs.ring slot ≡ Active
  pub at : held_at p.engine.held slot ≡ Some h
  pub far : h.progress ≡ progress_of p.regs.ring slot
  pub there : held_at (remembered p.engine.held p.regs) slot ≡ Some h
  pub open_phase : p.card.phase ≡ Some (phase_of slot h)
  pub is_held : holder p slot ≡ Some id
  pub task : task_of (layout p) slot (job p id) (asks_notice (plan_of p) (job p id)) ≡ Data h.task
  pub asks : Asks p.memory (layout p) slot (job p id) (asks_notice (plan_of p) (job p id))
  pub data_held : HoldsData p.memory (layout p) slot (job p id) (plan_of p).blocks

abbrev IsOf : PathState → ℕ → ℕ → HeldTask → Type 0
IsOf p slot id h =
    (h.progress ≡ progress_of p.regs.ring slot)
    × (task_of (layout p) slot (job p id) (asks_notice (plan_of p) (job p id)) ≡ Data h.task)
    × (progress_of p.regs.ring slot ≢ Active → h.moved ≡ 0)

phase_held : (p : PathState) (slot id : ℕ) (place : Option HeldTask) → AreTied p → rests p.regs ≡ false → slot < 32
    → first_at Active p.regs.ring ≡ Some slot → holder p slot ≡ Some id → IsIssued p slot id → held_at p.engine.held slot ≡ place
    → IsSomeAnd place (IsOf p slot id) → IsSomeAnd place (λ h. p.card.phase ≡ Some (phase_of slot h)) → InPhase p slot
phase_held p slot id None t goes below first is issued at of open_phase = absurd of
phase_held p slot id (Some h) t goes below first is issued at of open_phase =
    let active = first_is Active p.regs.ring slot first in
    let P : Option HeldTask → Type 0 = λ o. IfSome o (λ h. h.progress ≡ progress_of p.regs.ring slot) in
    record {
      h = h;
      id = id;
      calm = calm_of p slot t goes (λ idle. absurd (cc (sym active ∙ idle)));
      going = (runs_on p.regs goes).1;
      below = below;
      first = first;
      active = active;
      at = at;
      far = of.0;
      there = remembered_so p.engine.held p.regs slot below (subst P (sym at) of.0) ∙ at;
      open_phase = open_phase;
      is_held = is;
      task = of.1;
      asks = issued.asks;
      data_held = issued.data_held;
    }

phase_holder : (p : PathState) (slot : ℕ) (o : Option ℕ) → AreTied p → rests p.regs ≡ false → slot < 32 → first_at Active p.regs.ring ≡ Some slot
    → holder p slot ≡ o → MatchOption o (IsVacant p slot) (IsIssued p slot) → IsSomeAnd o (HoldsJob p slot)
    → IsSomeAnd (held_at p.engine.held slot) (λ h. p.card.phase ≡ Some (phase_of slot h)) → InPhase p slot
phase_holder p slot None t goes below first is tied holds open_phase = absurd holds
phase_holder p slot (Some id) t goes below first is tied holds open_phase =
    phase_held p slot id (held_at p.engine.held slot) t goes below first is tied refl holds.held open_phase

pub in_phase : (p : PathState) (slot : ℕ) → AreTied p → rests p.regs ≡ false → slot < 32 → first_at Active p.regs.ring ≡ Some slot → InPhase p slot
in_phase p slot t goes below first =
    let active = first_is Active p.regs.ring slot first in
    let calm = calm_of p slot t goes (λ idle. absurd (cc (sym active ∙ idle))) in
    let going = (runs_on p.regs goes).1 in
    let way : under_way p ≡ Some slot = ap (λ b. cond b None (first_at Active p.regs.ring)) going ∙ first in
    phase_holder p slot (holder p slot) t goes below first refl (tags_of p t calm slot below)
    ((runs_of p t calm going slot below).holds (ap is_begun active)) (of_some (under_way p) slot (HasPhase p) way t.phase)

-- ---- what an event leaves

pub keeps_left : (old new : CardState) (busy : Bool) → KeepsCard old new → KeepsCard old (phase_left new busy)
keeps_left old new true k = k
keeps_left old new false k = record {
  queue = k.queue;
  csd = k.csd;
  depth = k.depth;
  lines = k.lines;
  through = k.through;
  sectors = k.sectors;
  room = k.room;
  last = k.last;
}

pub goes_of : (p : PathState) (a : ArrayState) (p' : PathState) (a' : ArrayState) (did : Did) (phase : Option Phase) (e : EngineEvent p a p' a' did phase)
    → AreTied p → p.driver.recovery ≡ driver.Calm → rests p.regs ≡ false → p'.regs.coalescing.timer ≡ p.regs.coalescing.timer
    → (p'.regs.interrupts ≡ 0) ⊎ (p'.regs.interrupts ≡ 2) → p'.regs.completed < 2 ^ 32 → p'.regs.coalescing.counter ≤ (plan_of p).coalesce
    → KeepsCard p.card e.card → KeepsScript p.script p'.script → Goes p p'.regs p'.memory p'.engine p'.card p'.script
goes_of p a p' a' did phase e t calm goes timer interrupts small counted card script = record {
  calm = calm;
  holds = e.holds;
  lie = e.lie;
  counts = e.counts t.counts;
  one = e.one t.one;
  set_up = set_up_stays (plan_of p) p.regs p'.regs t.regs.same e.set_up timer;
  interrupts = interrupts;
  ring = e.ring;
  small = small;
  counted = counted;
  halted = ap (λ s. s.halted) e.set_up ∙ (runs_on p.regs goes).0;
  space = e.space;
  store = e.store;
  card = subst (KeepsCard p.card) (sym e.left) (keeps_left p.card e.card (is_busy p') card);
  script = script;
}

-- the driver's part is the same
pub with_driver : (p p' : PathState) → p'.driver ≡ p.driver → AreTied (path_with p p'.regs p'.memory p'.engine p'.card p'.script) → AreTied p'
with_driver p p' e t =
    let P : DriverState → Type 0 = λ d. AreTied (record p' { driver = d }) in
    subst P (sym e) t

-- no phase is left to tell of
pub begun_none : (card card' : CardState) (busy : Bool) → card' ≡ phase_left card busy → busy ≡ false → card'.begun ≡ None
begun_none card card' busy left e = ap (λ c. c.begun) left ∙ ap (λ b. (phase_left card b).begun) e

-- the engine stopped
pub stop_ties : (p : PathState) (a : ArrayState) (p' : PathState) (a' : ArrayState) (did : Did) (phase : Option Phase) (e : EngineEvent p a p' a' did phase)
    → AreTied p → p.driver.recovery ≡ driver.Calm → rests p.regs ≡ false → Stops p.regs p'.regs → KeepsCard p.card e.card
    → KeepsScript p.script p'.script → p'.memory ≡ p.memory → (cause : Cause) → did ≡ Stopped cause
    → IfSome (named_by (Some cause)) (λ tag. is_rung (progress_of p.regs.ring tag) ≡ true) → AreTied p'
stop_ties p a p' a' did phase e t calm goes stops card script memory cause is named =
    let none : is_busy p' ≡ false = ap (λ b. is_some (cond b None (first_at Active p'.regs.ring))) stops.stopped in
    let I : ℕ → Type 0 = λ n. (n ≡ 0) ⊎ (n ≡ 2) in
    with_driver p p' e.driver
    (stopped_tied p p'.regs p'.memory p'.engine p'.card p'.script t
    (goes_of p a p' a' did phase e t calm goes (ap (λ k. k.timer) stops.coalescing) (subst I (sym stops.interrupts) t.regs.notice)
    (subst (λ n. n < 2 ^ 32) (sym stops.completed) t.regs.small)
    (subst (λ (k : Coalescing). k.counter ≤ (plan_of p).coalesce) (sym stops.coalescing) t.regs.counted) card script)
    stops memory (begun_none e.card p'.card (is_busy p') e.left none)
    (subst (λ o. IfSome (named_by o) (λ tag. is_rung (progress_of p.regs.ring tag) ≡ true))
    (sym (ap (λ g. g.cause) e.event.keeps ∙ ap (λ d. option_or (stop_of d) p.engine.cause) is)) named))
