-- The slot of a tag, by the driver's request and by how far the engine is with it.
use Rattle.std.proofs.Common.{◌≡◌, ℕ, ◌<◌, Bool, true, false, cond, length, refl, sym, ap, ◌∙◌, arith}
use Rattle.std.specs.Prelude.{Option, Some, None, not, MatchOption, option_map}
use Rattle.std.specs.List.{All, list_any}
use Rattle.std.proofs.lemmas.Bool.{false≢true, true≢false}
use Rattle.std.proofs.lemmas.List.FromFn.{get_or-map-range_with_len, get_or-range_with_len, length-map-range_with_len, length-range_with_len}
use Rattle.storage_machine.specs.Slots.{asks, asks_of, has, slot_at}
use Rattle.storage_machine.specs.declared.slots.Question.{Question}
use Rattle.storage_machine.specs.declared.slots.Question.TheVariants as question
use Rattle.storage_machine.specs.declared.state.Standing.TheVariants as standing
use Rattle.cq_regs.specs.declared.slots.Progress.{Progress}
use Rattle.cq_regs.specs.declared.slots.Progress.TheVariants.{Idle, Rung, Named, Sent, Ready, Active}
use Rattle.cq_regs.specs.Slots.{is_rung, progress_of}
use Rattle.cq_schedule.specs.Held.{same, slots}
use Rattle.drv_core.specs.State.{is_recovering}
use Rattle.world_state.specs.Path.{PathState, holder}
use Rattle.world_state.specs.Reading.{is_done, standing_at, standing_of, task_at, tasks_of}
use Rattle.world_state.specs.Ties.{AreTied, IsIssued, IsVacant, is_executable}
use Rattle.state_laws.proofs.Searches.{any_alike, any_mapped}

pub slot_is : (p : PathState) (tag : ℕ) → tag < 32 → slot_at (tasks_of p) tag ≡ task_at p tag
unfolding tasks_of slots
slot_is p tag below = get_or-map-range_with_len (task_at p) 0 32 tag tag None below (omega arith)

pub tasks_long : (p : PathState) → length (tasks_of p) ≡ 32
unfolding tasks_of slots
tasks_long p = length-map-range_with_len (task_at p) 0 32

pub slot_below : All (λ slot. slot < 32) slots
unfolding slots
slot_below k d low =
    let few : k < 32 = omega (arith, low, length-range_with_len 0 32) in
    let is = get_or-range_with_len 0 32 k d few in
    omega (arith, is, few)

-- a question of any slot is one of any tag
pub has_is : (p : PathState) (question : Question) (test : ℕ → Bool) → ((tag : ℕ) → tag < 32 → asks question (slot_at (tasks_of p) tag) ≡ test tag)
    → has question (tasks_of p) ≡ list_any test slots
unfolding tasks_of
has_is p question test same =
    any_mapped (asks question) (task_at p) slots
    ∙ any_alike (λ tag. asks question (task_at p tag)) test slots
    (λ k d low. let below = slot_below k d low in ap (asks question) (sym (slot_is p _ below)) ∙ same _ below)

pub vacant_task : (p : PathState) (tag : ℕ) → holder p tag ≡ None → task_at p tag ≡ None
vacant_task p tag e = ap (λ h. option_map (λ id. record { id = id; standing = standing_at p tag }) h) e

pub issued_task : (p : PathState) (tag id : ℕ) → holder p tag ≡ Some id → task_at p tag ≡ Some (record { id = id; standing = standing_at p tag })
issued_task p tag id e = ap (λ h. option_map (λ id. record { id = id; standing = standing_at p tag }) h) e

pub standing_held : (p : PathState) (tag : ℕ) → is_recovering p.driver.recovery ≡ true → standing_at p tag ≡ standing.Held
standing_held p tag e = ap (λ b. cond b standing.Held (cond (is_done p tag) standing.Done (standing_of (progress_of p.regs.ring tag)))) e

pub standing_done : (p : PathState) (tag : ℕ) → is_recovering p.driver.recovery ≡ false → is_done p tag ≡ true → standing_at p tag ≡ standing.Done
standing_done p tag e f =
    ap (λ b. cond b standing.Held (cond (is_done p tag) standing.Done (standing_of (progress_of p.regs.ring tag)))) e
    ∙ ap (λ b. cond b standing.Done (standing_of (progress_of p.regs.ring tag))) f

pub standing_rung : (p : PathState) (tag : ℕ) → is_recovering p.driver.recovery ≡ false → is_done p tag ≡ false
    → standing_at p tag ≡ standing_of (progress_of p.regs.ring tag)
standing_rung p tag e f =
    ap (λ b. cond b standing.Held (cond (is_done p tag) standing.Done (standing_of (progress_of p.regs.ring tag)))) e
    ∙ ap (λ b. cond b standing.Done (standing_of (progress_of p.regs.ring tag))) f

-- Of a tag while no recovery is under way: it isn't issued, or its slot is rung, or its request is done.
pub data View (p : PathState) (tag : ℕ) : Type 0 where
  vacant : holder p tag ≡ None → progress_of p.regs.ring tag ≡ Idle → is_done p tag ≡ false → View p tag
  rung : (id : ℕ) → holder p tag ≡ Some id → is_done p tag ≡ false → is_rung (progress_of p.regs.ring tag) ≡ true → View p tag
  done : (id : ℕ) → holder p tag ≡ Some id → is_done p tag ≡ true → progress_of p.regs.ring tag ≡ Idle → View p tag

idle_of : (p : Progress) → is_rung p ≡ false → p ≡ Idle
idle_of Idle e = refl
idle_of Rung e = absurd (true≢false e)
idle_of Named e = absurd (true≢false e)
idle_of Sent e = absurd (true≢false e)
idle_of Ready e = absurd (true≢false e)
idle_of Active e = absurd (true≢false e)

view_issued : (p : PathState) (tag id : ℕ) (b : Bool) → is_done p tag ≡ b → holder p tag ≡ Some id → is_rung (progress_of p.regs.ring tag) ≡ not (is_done p tag) → View p tag
view_issued p tag id true e held is = done id held e (idle_of (progress_of p.regs.ring tag) (is ∙ ap not e))
view_issued p tag id false e held is = rung id held e (is ∙ ap not e)

view_by : (p : PathState) (tag : ℕ) (h : Option ℕ) → holder p tag ≡ h → MatchOption h (IsVacant p tag) (IsIssued p tag) → View p tag
view_by p tag None e tied = vacant e tied.idle tied.silent
view_by p tag (Some id) e tied = view_issued p tag id (is_done p tag) refl e tied.rung

pub view : (p : PathState) (tag : ℕ) → AreTied p → is_recovering p.driver.recovery ≡ false → tag < 32 → View p tag
view p tag t calm below = view_by p tag (holder p tag) refl (t.tags calm tag below)

-- the task of a rung slot
pub record IsTask (p : PathState) (tag : ℕ) : Type 0 where
  pub id : ℕ
  pub issued : holder p tag ≡ Some id
  pub ties : IsIssued p tag id
  pub task : slot_at (tasks_of p) tag ≡ Some (record { id = id; standing = standing_of (progress_of p.regs.ring tag) })

task_by : (p : PathState) (tag : ℕ) (h : Option ℕ) → is_recovering p.driver.recovery ≡ false → tag < 32 → holder p tag ≡ h
    → MatchOption h (IsVacant p tag) (IsIssued p tag) → is_rung (progress_of p.regs.ring tag) ≡ true → IsTask p tag
task_by p tag None calm below e tied rings = absurd (false≢true (sym (ap is_rung tied.idle) ∙ rings))
task_by p tag (Some id) calm below e tied rings = record {
  id = id;
  issued = e;
  ties = tied;
  task = slot_is p tag below ∙ (issued_task p tag id e ∙ ap (λ s. Some (record { id = id; standing = s }))
      (standing_rung p tag calm (not_done (is_done p tag) (sym tied.rung ∙ rings))));
}
  where
    not_done : (b : Bool) → not b ≡ true → b ≡ false
    not_done true e = absurd (false≢true e)
    not_done false e = refl

pub rung_task : (p : PathState) (tag : ℕ) → AreTied p → is_recovering p.driver.recovery ≡ false → tag < 32 → is_rung (progress_of p.regs.ring tag) ≡ true → IsTask p tag
rung_task p tag t calm below rings = task_by p tag (holder p tag) calm below refl (t.tags calm tag below) rings

asks_by : (p : PathState) (tag : ℕ) (question : Question) (test : Progress → Bool) → is_recovering p.driver.recovery ≡ false → View p tag
    → asks question None ≡ false → asks_of question standing.Done ≡ false → test Idle ≡ false
    → ((q : Progress) → is_rung q ≡ true → asks_of question (standing_of q) ≡ test q) → asks question (task_at p tag) ≡ test (progress_of p.regs.ring tag)
asks_by p tag question test calm (vacant e idle silent) none finished idles alike =
    ap (asks question) (vacant_task p tag e) ∙ (none ∙ (sym idles ∙ ap test (sym idle)))
asks_by p tag question test calm (rung id e clear rings) none finished idles alike =
    ap (asks question) (issued_task p tag id e) ∙ (ap (asks_of question) (standing_rung p tag calm clear) ∙ alike (progress_of p.regs.ring tag) rings)
asks_by p tag question test calm (done id e set idle) none finished idles alike =
    ap (asks question) (issued_task p tag id e) ∙ (ap (asks_of question) (standing_done p tag calm set) ∙ (finished ∙ (sym idles ∙ ap test (sym idle))))

asks_is : (p : PathState) (tag : ℕ) (question : Question) (test : Progress → Bool) → AreTied p → is_recovering p.driver.recovery ≡ false → tag < 32
    → asks question None ≡ false → asks_of question standing.Done ≡ false → test Idle ≡ false
    → ((q : Progress) → is_rung q ≡ true → asks_of question (standing_of q) ≡ test q) → asks question (slot_at (tasks_of p) tag) ≡ test (progress_of p.regs.ring tag)
asks_is p tag question test t calm below none finished idles alike =
    ap (asks question) (slot_is p tag below) ∙ asks_by p tag question test calm (view p tag t calm below) none finished idles alike

named_same : (q : Progress) → is_rung q ≡ true → asks_of question.Named (standing_of q) ≡ same q Named
named_same Idle e = refl
named_same Rung e = refl
named_same Named e = refl
named_same Sent e = refl
named_same Ready e = refl
named_same Active e = refl

rung_same : (q : Progress) → is_rung q ≡ true → asks_of question.Rung (standing_of q) ≡ same q Rung
rung_same Idle e = absurd (false≢true e)
rung_same Rung e = refl
rung_same Named e = refl
rung_same Sent e = refl
rung_same Ready e = refl
rung_same Active e = refl

sent_same : (q : Progress) → is_rung q ≡ true → asks_of question.Sent (standing_of q) ≡ same q Sent
sent_same Idle e = refl
sent_same Rung e = refl
sent_same Named e = refl
sent_same Sent e = refl
sent_same Ready e = refl
sent_same Active e = refl

ready_same : (q : Progress) → is_rung q ≡ true → asks_of question.Ready (standing_of q) ≡ is_executable q
ready_same Idle e = refl
ready_same Rung e = refl
ready_same Named e = refl
ready_same Sent e = refl
ready_same Ready e = refl
ready_same Active e = refl

pub asks_named : (p : PathState) (tag : ℕ) → AreTied p → is_recovering p.driver.recovery ≡ false → tag < 32
    → asks question.Named (slot_at (tasks_of p) tag) ≡ same (progress_of p.regs.ring tag) Named
asks_named p tag t calm below = asks_is p tag question.Named (λ q. same q Named) t calm below refl refl refl named_same

pub asks_rung : (p : PathState) (tag : ℕ) → AreTied p → is_recovering p.driver.recovery ≡ false → tag < 32
    → asks question.Rung (slot_at (tasks_of p) tag) ≡ same (progress_of p.regs.ring tag) Rung
asks_rung p tag t calm below = asks_is p tag question.Rung (λ q. same q Rung) t calm below refl refl refl rung_same

pub asks_sent : (p : PathState) (tag : ℕ) → AreTied p → is_recovering p.driver.recovery ≡ false → tag < 32
    → asks question.Sent (slot_at (tasks_of p) tag) ≡ same (progress_of p.regs.ring tag) Sent
asks_sent p tag t calm below = asks_is p tag question.Sent (λ q. same q Sent) t calm below refl refl refl sent_same

pub asks_ready : (p : PathState) (tag : ℕ) → AreTied p → is_recovering p.driver.recovery ≡ false → tag < 32
    → asks question.Ready (slot_at (tasks_of p) tag) ≡ is_executable (progress_of p.regs.ring tag)
asks_ready p tag t calm below = asks_is p tag question.Ready is_executable t calm below refl refl refl ready_same

-- while a recovery is under way each task is held, so it is in none of these standings
no_question : (p : PathState) (tag : ℕ) (question : Question) (h : Option ℕ) → holder p tag ≡ h → is_recovering p.driver.recovery ≡ true
    → asks question None ≡ false → asks_of question standing.Held ≡ false → asks question (task_at p tag) ≡ false
no_question p tag question None e busy none held = ap (asks question) (vacant_task p tag e) ∙ none
no_question p tag question (Some id) e busy none held =
    ap (asks question) (issued_task p tag id e) ∙ (ap (asks_of question) (standing_held p tag busy) ∙ held)

pub none_asked : (p : PathState) (tag : ℕ) (question : Question) → is_recovering p.driver.recovery ≡ true
    → asks question None ≡ false → asks_of question standing.Held ≡ false → tag < 32 → asks question (slot_at (tasks_of p) tag) ≡ false
none_asked p tag question busy none held below =
    ap (asks question) (slot_is p tag below) ∙ no_question p tag question (holder p tag) refl busy none held
