-- No queue barrier holds a slot back: that of a direct command is alone, and no data task has one.
use Rattle.std.proofs.Common.{◌≡◌, ◌≢◌, ℕ, ◌+◌, ◌*◌, ◌^◌, ◌<◌, ◌≤◌, Bool, true, false, cond, length, refl, sym, ap, subst, ◌∙◌, arith, inl, inr, ⊎_elim}
use Rattle.std.specs.Prelude.{Some, None, not, is_some, Ok, ◌==◌, ◌||◌}
use Rattle.std.specs.Bool.{MatchBool}
use Rattle.std.specs.Result.{IsOkAnd}
use Rattle.std.proofs.lemmas.Bool.{cases_lt, false_from_ne_true, eqb-true, false≢true}
use Rattle.storage_model.specs.declared.plan.Job.{Job}
use Rattle.storage_model.specs.declared.plan.Job.TheVariants.{Read, Write, Flush, Barrier, Status}
use Rattle.host_mem.specs.Memory.{Memory}
use Rattle.cq_desc.specs.Direct.{direct_read}
use Rattle.cq_desc.specs.Task.{task_read}
use Rattle.cq_desc.specs.declared.task.TaskDesc.{TaskDesc}
use Rattle.cq_words.specs.Fields as fields
use Rattle.cq_regs.specs.declared.slots.Progress.{Progress}
use Rattle.cq_regs.specs.declared.slots.Progress.TheVariants.{Idle, Rung, Named, Sent, Ready, Active}
use Rattle.cq_regs.specs.Slots.{has_bit, is_begun, is_rung, progress_of}
use Rattle.cq_regs.specs.State.{Registers}
use Rattle.cq_schedule.specs.Held.{remembered}
use Rattle.cq_schedule.specs.Meaning.{AloneIfBars, list_of, rests}
use Rattle.cq_schedule.specs.Order.{has_flag, order_of}
use Rattle.cq_task.specs.declared.list.TaskList.{TaskList}
use Rattle.cq_task.specs.declared.slot.DataTask.{DataTask}
use Rattle.cq_task.specs.declared.slot.SlotTask.TheVariants.{Data}
use Rattle.cq_task.specs.Meaning.{HasBarrier, Means, MeansData, MeansDirect}
use Rattle.cq_task.specs.Place.{are_direct, are_wide, chain_of, first_word, is_direct}
use Rattle.drv_core.specs.SetUp.{configuration_word}
use Rattle.drv_core.specs.State.{asks_notice, is_recovering, upper_base}
use Rattle.drv_core.specs.declared.set_up.TheConstants.{LIST_BASE}
use Rattle.drv_ring.specs.Layout.{IsTagOf, list_of as listed}
use Rattle.drv_ring.specs.Task.{task_of}
use Rattle.drv_ring.specs.declared.places.Layout.{Layout}
use Rattle.world_state.specs.Path.{PathState, holder, job, layout, plan_of, runs}
use Rattle.world_state.specs.Ties.{AreTied, HasSetUp}
use Rattle.state_laws.proofs.Ringing.{IsRungSlot, order_slots, ring_short}
use Rattle.state_laws.proofs.Searches.{all_at}
use Rattle.state_laws.proofs.Tags.{rung_task}
use Rattle.state_laws.proofs.Tasks.{begun, flag_remembered}

-- the registers name the driver's list
wide_list : (wide : Bool) → {list : TaskList}
    → list ≡ record { base = upper_base wide * 2 ^ 32 + LIST_BASE; wide = are_wide (configuration_word wide); direct = are_direct (configuration_word wide) }
    → list ≡ record { base = LIST_BASE + 2 ^ 32 * upper_base wide; wide = wide; direct = true }
unfolding fields.field_of
wide_list true e = e
wide_list false e = e

pub list_is : (p : PathState) → HasSetUp (plan_of p) p.regs → list_of p.regs ≡ listed (layout p)
list_is p h = wide_list (plan_of p).wide (ap list_of h.same)

enabled_word : (wide : Bool) → has_bit (configuration_word wide) 0 ≡ true
enabled_word true = refl
enabled_word false = refl

pub enabled : (p : PathState) → HasSetUp (plan_of p) p.regs → has_bit p.regs.configuration 0 ≡ true
enabled p h = ap (λ (regs : Registers). has_bit regs.configuration 0) h.same ∙ enabled_word (plan_of p).wide

-- the engine rests while it is halted or has stopped
pub rests_is : (p : PathState) → HasSetUp (plan_of p) p.regs → rests p.regs ≡ (p.regs.halted || p.regs.stopped)
rests_is p h = ap (λ b. not b || (p.regs.halted || p.regs.stopped)) (enabled p h)

meant : (memory : Memory) (list : TaskList) (slot : ℕ) (task : DataTask) → is_direct list slot ≡ false → Means memory list slot (Ok (Data task))
    → task_read (first_word memory list slot) ≡ Ok task.desc
meant memory list slot task e (inl h) = absurd (cc (h.1))
meant memory list slot task e (inr h) =
    let word = first_word memory list slot in
    (subst (λ b. MatchBool b (MeansDirect word (Ok (Data task))) (MeansData memory list.wide word (chain_of list slot) (Ok (Data task)))) e h.1).0

barred : (memory : Memory) (list : TaskList) (slot : ℕ) (desc : TaskDesc) → is_direct list slot ≡ false → task_read (first_word memory list slot) ≡ Ok desc
    → HasBarrier memory list slot → desc.barrier ≡ true
barred memory list slot desc e reads h =
    let word = first_word memory list slot in
    let bars = subst (λ b. MatchBool b (IsOkAnd (direct_read word) (λ desc. desc.barrier ≡ true)) (IsOkAnd (task_read word) (λ desc. desc.barrier ≡ true))) e h.1 in
    subst (λ r. IsOkAnd r (λ desc. desc.barrier ≡ true)) reads bars

not_last : (l : Layout) (tag : ℕ) → tag < 31 → is_direct (listed l) tag ≡ false
not_last l tag below = false_from_ne_true (tag == 31) (λ e. let same = eqb-true tag 31 e in omega (arith, same, below))

-- a slot with a queue barrier in the driver's list is the last one
last_if : (memory : Memory) (l : Layout) (tag : ℕ) (j : Job) (int : Bool) → l.depth ≤ 31 → IsTagOf l tag j → Means memory (listed l) tag (Ok (task_of l tag j int))
    → HasBarrier memory (listed l) tag → tag ≡ 31
last_if memory l tag (Read sector blocks high) int few fits means bars =
    let apart : is_direct (listed l) tag ≡ false = not_last l tag (omega (arith, few, fits)) in
    absurd (false≢true (barred memory (listed l) tag _ apart (meant memory (listed l) tag _ apart means) bars))
last_if memory l tag (Write sector blocks fill forced reliable high) int few fits means bars =
    let apart : is_direct (listed l) tag ≡ false = not_last l tag (omega (arith, few, fits)) in
    absurd (false≢true (barred memory (listed l) tag _ apart (meant memory (listed l) tag _ apart means) bars))
last_if memory l tag Flush int few fits means bars = fits
last_if memory l tag Barrier int few fits means bars = fits
last_if memory l tag Status int few fits means bars = fits

-- a direct request is alone among the rung slots
only_last : (p : PathState) → AreTied p → is_recovering p.driver.recovery ≡ false → (id : ℕ) → holder p 31 ≡ Some id
    → (other : ℕ) → IsRungSlot p.regs.ring other → other ≡ 31
only_last p t calm id issued other r =
    let task = rung_task p other t calm r.below r.rings in
    ⊎_elim
    (λ below.
    let none : holder p other ≡ None = t.alone (ap is_some issued) other below in
    let clash : None ≡ Some task.id = sym none ∙ task.issued in
    absurd (cc (clash)))
    (λ above. let low = r.below in omega (arith, above, low))
    (cases_lt other 31)

begun_after : (q : Progress) → is_rung q ≡ true → q ≢ Rung → is_begun q ≡ true
begun_after Idle h far = h
begun_after Rung h far = absurd (far refl)
begun_after Named h far = refl
begun_after Sent h far = refl
begun_after Ready h far = refl
begun_after Active h far = refl

pub calm_if : (recovering stopped : Bool) → cond recovering false (not stopped) ≡ true → (recovering ≡ false) × (stopped ≡ false)
calm_if true stopped e = absurd (false≢true e)
calm_if false true e = absurd (false≢true e)
calm_if false false e = (refl, refl)

pub alone_if : (p : PathState) → AreTied p → runs p ≡ true → AloneIfBars (remembered p.engine.held p.regs) p.regs p.memory
alone_if p t goes k slot at bars = ⊎_elim unserved served bars
  where
    calm : is_recovering p.driver.recovery ≡ false
    calm = (calm_if (is_recovering p.driver.recovery) p.regs.stopped goes).0

    here : IsRungSlot p.regs.ring slot
    here = all_at (IsRungSlot p.regs.ring) (order_of p.regs.ring) k slot (order_slots p.regs.ring t.regs.ring) at

    unserved : (progress_of p.regs.ring slot ≡ Rung) × HasBarrier p.memory (list_of p.regs) slot → length p.regs.ring ≤ 1
    unserved h =
        let task = rung_task p slot t calm here.below here.rings in
        let last : slot ≡ 31 = last_if p.memory (layout p) slot (job p task.id) (asks_notice (plan_of p) (job p task.id)) t.layout_fits.depth task.ties.asks.tag_fits
        task.ties.asks.means (subst (λ l. HasBarrier p.memory l slot) (list_is p t.regs) h.1) in
        ring_short p.regs.ring t.regs.ring 31 (only_last p t calm task.id (subst (λ n. holder p n ≡ Some task.id) last task.issued))

    served : (progress_of p.regs.ring slot ≢ Rung) × (has_flag (remembered p.engine.held p.regs) slot ≡ true) → length p.regs.ring ≤ 1
    served h =
        let task = begun p slot t goes here.below (begun_after (progress_of p.regs.ring slot) here.rings h.0) in
        absurd (false≢true (sym (flag_remembered p slot task here.below) ∙ h.1))
