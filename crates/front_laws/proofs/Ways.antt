-- While a data phase is under way, its command is due to the storage machine, and no more blocks moved than its job has.
use Rattle.std.proofs.Common.{◌≡◌, ◌≢◌, ◌∙◌, ◌<◌, ◌≤◌, ℕ, Bool, true, false, cond, List, [], ◌∷◌, Option, None, Some, refl, ap, sym, subst, arith, inl, inr}
use Rattle.std.specs.Prelude.{◌||◌, IfSome, MatchOption, is_some, length, nat_lt, not, option_map}
use Rattle.std.specs.Option.{IsSomeAnd, option_map_or}
use Rattle.std.proofs.lemmas.Bool.{cases_lt, false≢true}
use Rattle.std.proofs.lemmas.List.{get_or_past}
use Rattle.std.proofs.lemmas.Option.{none-some}
use Rattle.storage_model.specs.declared.plan.Job.{Job}
use Rattle.storage_model.specs.declared.plan.Job.TheVariants.{Read, Write, Flush, Barrier, Status}
use Rattle.storage_machine.specs.Commands.{due}
use Rattle.storage_machine.specs.Jobs.{phase_blocks}
use Rattle.storage_machine.specs.declared.commands.DueCommand.TheVariants as machine
use Rattle.cq_engine.specs.Holds.{AreCounted, IsCounted}
use Rattle.cq_regs.specs.State.{Registers}
use Rattle.cq_regs.specs.Slots.{has_bit, is_begun, progress_of}
use Rattle.cq_regs.specs.declared.slots.Progress.TheVariants.{Active, Named}
use Rattle.cq_schedule.specs.Held.{Places, held_at, remembered, same}
use Rattle.cq_schedule.specs.Meaning.{IsDue, IsDueThen, next_of_phase, rests}
use Rattle.cq_schedule.specs.Order.{blocks_of, first_at, moved_of, order_of}
use Rattle.cq_schedule.specs.declared.held.HeldTask.{HeldTask}
use Rattle.cq_schedule.specs.declared.rules.Due.{Due}
use Rattle.cq_schedule.specs.declared.rules.Due.TheVariants.{Rest, Address, Block, Close}
use Rattle.cq_schedule.proofs.Progresses.{same-true}
use Rattle.cq_task.specs.declared.slot.DataTask.{DataTask}
use Rattle.cq_task.specs.declared.slot.SlotTask.TheVariants.{Data}
use Rattle.cut_order.specs.Order.{OrderState}
use Rattle.drv_core.specs.SetUp.{configuration_word}
use Rattle.drv_core.specs.State.{asks_notice, is_recovering}
use Rattle.drv_jobs.specs.Standings.{holder_of}
use Rattle.drv_recover.specs.Recovery.{IsAt}
use Rattle.drv_recover.specs.declared.recovery.RecoveryState.{RecoveryState}
use Rattle.drv_recover.specs.declared.recovery.RecoveryState.TheVariants as driver
use Rattle.drv_ring.specs.Pieces.{tag_pieces}
use Rattle.drv_ring.specs.Task.{read_desc, task_of, write_desc}
use Rattle.drv_ring.specs.declared.places.Layout.{Layout}
use Rattle.front_laws.proofs.Finds.{found_passes}
use Rattle.world_state.specs.Laws.{EngineLaws, StateLaws, command_due}
use Rattle.world_state.specs.Path.{PathState, holder, is_busy, job, layout, moved, moved_by, plan_of, runs, under_way}
use Rattle.world_state.specs.Reading.{Context, state_of}
use Rattle.world_state.specs.Stands.{sent_of}
use Rattle.world_state.specs.Ties.{AreTied, HoldsJob}

-- the engine hasn't stopped, and the slot is in its data phase
parts_if : (stopped : Bool) (active : Option ℕ) (tag : ℕ) → cond stopped None active ≡ Some tag → (stopped ≡ false) × (active ≡ Some tag)
parts_if true active tag h = absurd (none-some tag h)
parts_if false active tag h = (refl, h)

pub way_parts : (p : PathState) (tag : ℕ) → under_way p ≡ Some tag → (p.regs.stopped ≡ false) × (first_at Active p.regs.ring ≡ Some tag)
way_parts p tag way = parts_if p.regs.stopped (first_at Active p.regs.ring) tag way

-- no recovery is under way
some_ring : (regs : Registers) (tag : ℕ) → first_at Active regs.ring ≡ Some tag → regs.ring ≡ [] → ⊥
some_ring regs tag active none = none-some tag (sym (ap (λ ring. first_at Active ring) none) ∙ active)

calm_by : (state : RecoveryState) (p : PathState) → p.driver.recovery ≡ state → IsAt state p.regs → AreTied p → p.regs.stopped ≡ false → (p.regs.ring ≡ [] → ⊥) → p.driver.recovery ≡ driver.Calm
calm_by driver.Calm p e at t goes some = e
calm_by driver.Halted p e at t goes some = absurd (false≢true (sym goes ∙ t.halts e))
calm_by driver.Cleared p e at t goes some = absurd (some at.ring)
calm_by driver.Discarded p e at t goes some = absurd (some at.ring)
calm_by driver.Cleaned p e at t goes some = absurd (some at.cleared.ring)
calm_by driver.Resumed p e at t goes some = absurd (some at.ring)

pub way_calm : (p : PathState) (tag : ℕ) → AreTied p → under_way p ≡ Some tag → p.driver.recovery ≡ driver.Calm
way_calm p tag t way =
    let parts = way_parts p tag way in
    calm_by p.driver.recovery p refl t.recovery_at t parts.0 (some_ring p.regs tag parts.1)

way_runs : (p : PathState) (tag : ℕ) → AreTied p → under_way p ≡ Some tag → runs p ≡ true
way_runs p tag t way =
    ap (λ state. cond (is_recovering state) false (not p.regs.stopped)) (way_calm p tag t way) ∙ ap not (way_parts p tag way).0

-- the engine doesn't rest
enabled : (wide : Bool) → has_bit (configuration_word wide) 0 ≡ true
enabled true = refl
enabled false = refl

works : (p : PathState) → AreTied p → p.regs.halted ≡ false → p.regs.stopped ≡ false → rests p.regs ≡ false
works p t halted stopped =
    let on : has_bit p.regs.configuration 0 ≡ true = ap (λ (r : Registers). has_bit r.configuration 0) t.regs.same ∙ enabled (plan_of p).wide in
    ap (λ b. not b || (p.regs.halted || p.regs.stopped)) on ∙ ap (λ b. b || p.regs.stopped) halted ∙ stopped

-- so the next block of the phase, or its end, is due
goes_on : (held : Places) (p : PathState) (tag : ℕ) → rests p.regs ≡ false → first_at Active p.regs.ring ≡ Some tag → IsDue held p.regs p.memory (next_of_phase held tag)
goes_on held p tag off active =
    let later : Option Due = option_map Address (first_at Named p.regs.ring) in
    let first : cond (rests p.regs) (Some Rest) (option_map_or (λ slot. Some (next_of_phase held slot)) (first_at Active p.regs.ring) later) ≡ Some (next_of_phase held tag) =
    ap (λ b. cond b (Some Rest) (option_map_or (λ slot. Some (next_of_phase held slot)) (first_at Active p.regs.ring) later)) off
    ∙ ap (λ o. option_map_or (λ slot. Some (next_of_phase held slot)) o later) active in
    let P : Option Due → Type 0 = λ o. MatchOption o (IsDueThen held p.regs p.memory (next_of_phase held tag)) (λ due. next_of_phase held tag ≡ due) in
    subst P (sym first) refl

command_by : (p : PathState) (slot moved : ℕ) (more : Bool) → command_due p (cond more (Block slot moved) (Close slot)) ≡ machine.Execute slot
command_by p slot moved true = refl
command_by p slot moved false = refl

pub way_due : StateLaws → (p : PathState) (o : OrderState) (c : Context) (tag : ℕ) → AreTied p → p.script.sent ≡ sent_of (is_busy p) c.n → under_way p ≡ Some tag
    → due (state_of p o c) ≡ machine.Execute tag
way_due laws p o c tag t sent way =
    let held : Places = remembered p.engine.held p.regs in
    let parts = way_parts p tag way in
    let off = works p t (t.calm (way_calm p tag t way)) parts.0 in
    let engine : EngineLaws p o c = laws.engine p o c t sent in
    engine.command (next_of_phase held tag) (goes_on held p tag off parts.1) ∙ command_by p tag (moved_of held tag) (nat_lt (moved_of held tag) (blocks_of held tag))

-- the tag of a holder
pub below_by : (p : PathState) (tag id : ℕ) → AreTied p → holder p tag ≡ Some id → tag < 32
below_by p tag id t is = elim (cases_lt tag 32) [
  | inl below ↦ below
  | inr past ↦ let long = t.sound.holders in absurd (none-some id (sym (get_or_past p.driver.requests.holders tag None (omega (arith, past, long))) ∙ is))
]

-- the blocks of the task that a job asks for
job_blocks : (l : Layout) (tag : ℕ) (j : Job) (int : Bool) (task : DataTask) → task_of l tag j int ≡ Data task → task.desc.blocks ≡ phase_blocks j
job_blocks l tag (Read sector blocks high) int task e =
    let is : record { desc = read_desc sector blocks high int; pieces = tag_pieces l tag blocks } ≡ task = cc (e) in
    ap (λ (t : DataTask). t.desc.blocks) (sym is)
job_blocks l tag (Write sector blocks fill forced reliable high) int task e =
    let is : record { desc = write_desc sector blocks forced reliable high int; pieces = tag_pieces l tag blocks } ≡ task = cc (e) in
    ap (λ (t : DataTask). t.desc.blocks) (sym is)
job_blocks l tag Flush int task e = absurd (cc (e))
job_blocks l tag Barrier int task e = absurd (cc (e))
job_blocks l tag Status int task e = absurd (cc (e))

few_by : (l : Layout) (tag : ℕ) (j : Job) (int : Bool) (Q R : HeldTask → Type 0) (place : Option HeldTask) → IsSomeAnd place (λ h. Q h × (task_of l tag j int ≡ Data h.task) × R h) → IfSome place IsCounted
    → option_map_or (λ h. h.moved) place 0 ≤ phase_blocks j
few_by l tag j int Q R None of counted = absurd of
few_by l tag j int Q R (Some h) of counted =
    let blocks = job_blocks l tag j int h.task of.1 in
    let few = counted.within in
    omega (arith, blocks, few)

some_is : (o : Option ℕ) (id : ℕ) (P : ℕ → Type 0) → o ≡ Some id → IsSomeAnd o P → P id
some_is o id P e h = let Q : Option ℕ → Type 0 = λ x. IsSomeAnd x P in subst Q e h

pub way_few : (p : PathState) (tag id : ℕ) → AreTied p → under_way p ≡ Some tag → holder p tag ≡ Some id → moved p ≤ phase_blocks (job p id)
way_few p tag id t way is =
    let below = below_by p tag id t is in
    let active : progress_of p.regs.ring tag ≡ Active =
    same-true (progress_of p.regs.ring tag) Active (found_passes (λ slot. same (progress_of p.regs.ring slot) Active) (order_of p.regs.ring) tag (way_parts p tag way).1) in
    let holds : HoldsJob p tag id = some_is (holder p tag) id (HoldsJob p tag) is ((t.running (way_runs p tag t way) tag below).holds (ap is_begun active)) in
    let few = few_by (layout p) tag (job p id) (asks_notice (plan_of p) (job p id)) (λ h. h.progress ≡ progress_of p.regs.ring tag)
    (λ h. progress_of p.regs.ring tag ≢ Active → h.moved ≡ 0) (held_at p.engine.held tag) holds.held (t.counts tag below) in
    subst (λ n. n ≤ phase_blocks (job p id)) (sym (ap (moved_by p) way)) few
