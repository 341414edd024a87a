-- The machine between the answers of an interrupt: the tags below some tag have theirs.
use Rattle.std.proofs.Common.{◌≡◌, ◌≢◌, ◌∙◌, ◌+◌, ◌<◌, ◌==◌, ◌&&◌, ℕ, suc, Bool, true, false, List, [], Option, None, Some, map, option_map, nat_lt, slice_set, refl, ap, sym, subst, arith, eqb-true, lt-ltb, if◌then◌else◌}
use Rattle.std.proofs.lemmas.Bool.{eqb-false}
use Rattle.std.proofs.lemmas.List.FromFn.{get_or-map-range_with_len}
use Rattle.std.specs.List.{range_with_len}
use Rattle.storage_model.specs.declared.block.Block.{Block}
use Rattle.storage_machine.specs.Slots.{asks, changed, changed_slots, has, id_of, slot_at, tag_of}
use Rattle.storage_machine.specs.declared.slots.Change.TheVariants.{Answer, Collect}
use Rattle.storage_machine.specs.declared.slots.Question.TheVariants.{Collected as IsCollected}
use Rattle.storage_machine.specs.declared.state.Event.TheVariants.{Untold}
use Rattle.storage_machine.specs.declared.state.Standing.TheVariants as standing
use Rattle.storage_machine.specs.declared.state.State.{State}
use Rattle.storage_machine.specs.declared.state.Task.{Task}
use Rattle.trace_effects.specs.Effects.{answers_left}
use Rattle.cq_regs.specs.Slots.{progress_of}
use Rattle.cut_order.specs.Order.{OrderState}
use Rattle.drv_jobs.specs.Sound.{IsSound}
use Rattle.drv_recover.specs.declared.recovery.RecoveryState.TheVariants as driver
use Rattle.host_laws.proofs.FailTells.{changed_map}
use Rattle.host_laws.proofs.Recovered.{at_place}
use Rattle.host_laws.proofs.Same.{range_same, range_set}
use Rattle.host_laws.proofs.Tags.{answer_leaves, answer_takes, below_more, below_that, first_of, leaves_other, none_collected, not_below, some_of, task_with}
use Rattle.world_state.specs.Path.{PathState, holder}
use Rattle.world_state.specs.Reading.{Context, data_by, is_done, standing_of, state_of, task_at}

-- the path with no recovery under way, by its parts
abbrev pub calm : PathState → PathState
calm p = at_place p driver.Calm p.regs

-- a tag's task after the answers of the tags below k, and its data
abbrev pub has_answer : PathState → (k tag : ℕ) → Bool
has_answer p k tag = nat_lt tag k && is_done p tag

abbrev pub slot_left : PathState → (k tag : ℕ) → Option Task
slot_left p k tag = if has_answer p k tag then None else changed Collect tag (task_at (calm p) tag)

abbrev pub data_left : PathState → (k tag : ℕ) → List Block
data_left p k tag = if has_answer p k tag then [] else data_by (calm p) tag (holder p tag)

abbrev pub slots_left : PathState → ℕ → List (Option Task)
slots_left p k = map (slot_left p k) (range_with_len 0 32)

abbrev pub data_all : PathState → ℕ → List (List Block)
data_all p k = map (data_left p k) (range_with_len 0 32)

-- the machine then
unfoldable pub answering : PathState → OrderState → Context → ℕ → State
answering p o c k = record (state_of (calm p) o c) {
  notice = false;
  slots = slots_left p k;
  «data» = data_all p k;
  owed = answers_left (slots_left p k);
  event = Untold;
}

-- the task of a done tag, collected
collected_by : (p : PathState) (tag id : ℕ) → is_done p tag ≡ true → holder p tag ≡ Some id → changed Collect tag (task_at (calm p) tag) ≡ Some (task_with id standing.Collected)
collected_by p tag id done held =
    ap (λ found. changed Collect tag (option_map (λ j. task_with j (if is_done p tag then standing.Done else standing_of (progress_of p.regs.ring tag))) found)) held
    ∙ ap (λ b. changed Collect tag (Some (task_with id (if b then standing.Done else standing_of (progress_of p.regs.ring tag))))) done

-- another's stays
waits_by : (p : PathState) (tag : ℕ) → is_done p tag ≡ false
    → changed Collect tag (task_at (calm p) tag) ≡ option_map (λ j. task_with j (standing_of (progress_of p.regs.ring tag))) (holder p tag)
waits_by p tag done =
    ap (λ b. changed Collect tag (option_map (λ j. task_with j (if b then standing.Done else standing_of (progress_of p.regs.ring tag))) (holder p tag))) done
    ∙ leaves_other tag (holder p tag) (progress_of p.regs.ring tag)

-- the task of the tag whose answer comes next
pub slot_next : (p : PathState) (k id : ℕ) → is_done p k ≡ true → holder p k ≡ Some id → slot_left p k k ≡ Some (task_with id standing.Collected)
slot_next p k id done held =
    ap (λ b. if b && is_done p k then None else changed Collect k (task_at (calm p) k)) (not_below k) ∙ collected_by p k id done held

-- a tag before it has no collected task
before_by : (p : PathState) (k tag : ℕ) (done : Bool) → is_done p tag ≡ done → tag < k → asks IsCollected (slot_left p k tag) ≡ false
before_by p k tag true done low =
    ap (λ b. asks IsCollected (if b then None else changed Collect tag (task_at (calm p) tag))) (ap (λ b. b && is_done p tag) (lt-ltb tag k low) ∙ done)
before_by p k tag false done low =
    ap (λ b. asks IsCollected (if b then None else changed Collect tag (task_at (calm p) tag))) (ap (λ b. b && is_done p tag) (lt-ltb tag k low) ∙ done)
    ∙ (ap (asks IsCollected) (waits_by p tag done) ∙ none_collected (holder p tag) (progress_of p.regs.ring tag))

pub next_collected : (p : PathState) (k id : ℕ) → k < 32 → is_done p k ≡ true → holder p k ≡ Some id → tag_of IsCollected (slots_left p k) ≡ Some k
next_collected p k id low done held =
    first_of (asks IsCollected) (slot_left p k) 32 k low (ap (asks IsCollected) (slot_next p k id done held)) (λ tag l. before_by p k tag (is_done p tag) refl l)

pub next_has : (p : PathState) (k id : ℕ) → k < 32 → is_done p k ≡ true → holder p k ≡ Some id → has IsCollected (slots_left p k) ≡ true
next_has p k id low done held =
    some_of (asks IsCollected) (slot_left p k) 0 32 k low
    (ap (λ n. asks IsCollected (slot_left p k n)) (let e : 0 + k ≡ k = omega arith in e) ∙ ap (asks IsCollected) (slot_next p k id done held))

pub next_id : (p : PathState) (k id : ℕ) → k < 32 → is_done p k ≡ true → holder p k ≡ Some id → id_of (slot_at (slots_left p k) k) ≡ id
next_id p k id low done held =
    ap id_of (get_or-map-range_with_len (slot_left p k) 0 32 k k None low (let e : 0 + k ≡ k = omega arith in e) ∙ slot_next p k id done held)

-- after its answer
pub slot_more : (p : PathState) (k tag : ℕ) → tag ≢ k → slot_left p (suc k) tag ≡ slot_left p k tag
slot_more p k tag apart = ap (λ b. if b && is_done p tag then None else changed Collect tag (task_at (calm p) tag)) (below_more tag k apart)

pub slot_answered : (p : PathState) (k : ℕ) → is_done p k ≡ true → slot_left p (suc k) k ≡ None
slot_answered p k done =
    ap (λ b. if b then None else changed Collect k (task_at (calm p) k)) (ap (λ b. b && is_done p k) (below_that k) ∙ done)

-- the requests are apart
task_id : (p : PathState) (k tag j : ℕ) (t : Task) (answer done : Bool) (found : Option ℕ) → is_done p tag ≡ done → holder p tag ≡ found
    → (if answer then None else changed Collect tag (task_at (calm p) tag)) ≡ Some t → found ≡ Some t.id
task_id p k tag j t true done found d h e = absurd (cc (e))
task_id p k tag j t false true None d h e =
    absurd (cc (e, ap (λ f. changed Collect tag (option_map (λ j. task_with j (if is_done p tag then standing.Done else standing_of (progress_of p.regs.ring tag))) f)) h))
task_id p k tag j t false true (Some id) d h e =
    let same : task_with id standing.Collected ≡ t = cc (e, collected_by p tag id d h) in
    ap Some (ap (λ (x : Task). x.id) same)
task_id p k tag j t false false None d h e = absurd (cc (e, waits_by p tag d, ap (option_map (λ j. task_with j (standing_of (progress_of p.regs.ring tag)))) h))
task_id p k tag j t false false (Some id) d h e =
    let same : task_with id (standing_of (progress_of p.regs.ring tag)) ≡ t = cc (e, waits_by p tag d, ap (option_map (λ j. task_with j (standing_of (progress_of p.regs.ring tag)))) h) in
    ap Some (ap (λ (x : Task). x.id) same)

unlike : (p : PathState) (k tag id j : ℕ) (b : Bool) → (j == id) ≡ b → IsSound p.driver.requests → holder p k ≡ Some id → tag ≢ k → holder p tag ≡ Some j → b ≡ false
unlike p k tag id j true e sound held apart h = absurd (apart ((sound.held k id held).apart tag (h ∙ ap Some (eqb-true j id e))))
unlike p k tag id j false e sound held apart h = refl

answer_at : (p : PathState) (k id tag : ℕ) (here : Bool) → (tag == k) ≡ here → IsSound p.driver.requests → is_done p k ≡ true → holder p k ≡ Some id
    → changed (Answer id) tag (slot_left p k tag) ≡ slot_left p (suc k) tag
answer_at p k id tag true e sound done held =
    let same = eqb-true tag k e in
    subst (λ n. changed (Answer id) n (slot_left p k n) ≡ slot_left p (suc k) n) (sym same)
    (ap (changed (Answer id) k) (slot_next p k id done held) ∙ (answer_takes id k standing.Collected ∙ sym (slot_answered p k done)))
answer_at p k id tag false e sound done held =
    let apart = eqb-false tag k e in
    answer_leaves id tag (slot_left p k tag)
    (λ t h. unlike p k tag id t.id (t.id == id) refl sound held apart (task_id p k tag 0 t (has_answer p k tag) (is_done p tag) (holder p tag) refl refl h))
    ∙ sym (slot_more p k tag apart)

pub slots_answered : (p : PathState) (k id : ℕ) → IsSound p.driver.requests → is_done p k ≡ true → holder p k ≡ Some id
    → changed_slots (Answer id) (slots_left p k) ≡ slots_left p (suc k)
unfolding changed_slots
slots_answered p k id sound done held =
    changed_map (Answer id) (slot_left p k) 0 32
    ∙ range_same (λ tag. changed (Answer id) tag (slot_left p k tag)) (slot_left p (suc k)) 0 32
    (λ tag l h. answer_at p k id tag (tag == k) refl sound done held)

-- a tag that isn't done has no answer
slot_same : (p : PathState) (k tag : ℕ) (here : Bool) → (tag == k) ≡ here → is_done p k ≡ false → has_answer p (suc k) tag ≡ has_answer p k tag
slot_same p k tag true e done =
    let same = eqb-true tag k e in
    subst (λ n. has_answer p (suc k) n ≡ has_answer p k n) (sym same)
    (ap (λ b. b && is_done p k) (below_that k) ∙ (done ∙ sym (ap (λ b. b && is_done p k) (not_below k))))
slot_same p k tag false e done = ap (λ b. b && is_done p tag) (below_more tag k (eqb-false tag k e))

pub answering_same : (p : PathState) (o : OrderState) (c : Context) (k : ℕ) → is_done p k ≡ false → answering p o c k ≡ answering p o c (suc k)
unfolding answering
answering_same p o c k done =
    let one : slots_left p k ≡ slots_left p (suc k) =
    range_same (slot_left p k) (slot_left p (suc k)) 0 32
    (λ tag l h. ap (λ b. if b then None else changed Collect tag (task_at (calm p) tag)) (sym (slot_same p k tag (tag == k) refl done))) in
    let two : data_all p k ≡ data_all p (suc k) =
    range_same (data_left p k) (data_left p (suc k)) 0 32
    (λ tag l h. ap (λ b. if b then [] else data_by (calm p) tag (holder p tag)) (sym (slot_same p k tag (tag == k) refl done))) in
    ap (λ found. record (state_of (calm p) o c) { notice = false; slots = found; «data» = data_all p k; owed = answers_left found; event = Untold }) one
    ∙ ap (λ found. record (state_of (calm p) o c) { notice = false; slots = slots_left p (suc k); «data» = found; owed = answers_left (slots_left p (suc k)); event = Untold }) two

-- where the request shows no data
data_that : (p : PathState) (k : ℕ) → data_by (calm p) k (holder p k) ≡ [] → data_left p k k ≡ []
data_that p k none = ap (λ b. if b && is_done p k then [] else data_by (calm p) k (holder p k)) (not_below k) ∙ none

pub data_done : (p : PathState) (k : ℕ) → is_done p k ≡ true → data_left p (suc k) k ≡ []
data_done p k done = ap (λ b. if b then [] else data_by (calm p) k (holder p k)) (ap (λ b. b && is_done p k) (below_that k) ∙ done)

pub data_more : (p : PathState) (k tag : ℕ) → tag ≢ k → data_left p (suc k) tag ≡ data_left p k tag
data_more p k tag apart = ap (λ b. if b && is_done p tag then [] else data_by (calm p) tag (holder p tag)) (below_more tag k apart)

data_at : (p : PathState) (k tag : ℕ) (here : Bool) → (tag == k) ≡ here → is_done p k ≡ true → data_by (calm p) k (holder p k) ≡ [] → data_left p k tag ≡ data_left p (suc k) tag
data_at p k tag true e done none =
    subst (λ n. data_left p k n ≡ data_left p (suc k) n) (sym (eqb-true tag k e)) (data_that p k none ∙ sym (data_done p k done))
data_at p k tag false e done none = sym (data_more p k tag (eqb-false tag k e))

pub data_same : (p : PathState) (k : ℕ) → is_done p k ≡ true → data_by (calm p) k (holder p k) ≡ [] → data_all p k ≡ data_all p (suc k)
data_same p k done none = range_same (data_left p k) (data_left p (suc k)) 0 32 (λ tag l h. data_at p k tag (tag == k) refl done none)

-- after the last sector of a read
pub data_shown : (p : PathState) (k : ℕ) → k < 32 → is_done p k ≡ true → slice_set (data_all p k) k [] ≡ data_all p (suc k)
data_shown p k low done =
    sym (range_set (data_left p k) (data_left p (suc k)) 0 32 k [] low (ap (data_left p (suc k)) (let e : 0 + k ≡ k = omega arith in e) ∙ data_done p k done)
    (λ tag apart. data_more p k tag (λ e. apart (e ∙ (let z : k ≡ 0 + k = omega arith in z)))))
