-- Between two events: what may be left of contents and marks, with those of the blocks that moved, is near the state that the path stands for.
use Rattle.std.proofs.Common.{◌≡◌, ◌∙◌, ◌<◌, ◌≤◌, ℕ, Bool, true, false, List, [], ◌∷◌, ◌++◌, Option, None, Some, refl, ap, sym, subst, arith, zero-add}
use Rattle.std.specs.Prelude.{IfSome, is_some, min, option_map}
use Rattle.std.specs.Option.{option_map_or}
use Rattle.std.proofs.Math.Nat.{min-eq_left}
use Rattle.std.proofs.lemmas.List.{append-nil}
use Rattle.std.proofs.lemmas.List.FromFn.{get_or-map-range_with_len}
use Rattle.storage_model.specs.Left.{is_left}
use Rattle.storage_model.specs.declared.block.Block.{Block}
use Rattle.storage_model.specs.declared.marks.Mark.{Mark}
use Rattle.storage_model.specs.declared.plan.Job.{Job}
use Rattle.storage_model.specs.declared.plan.Job.TheVariants.{Read, Write, Flush, Barrier, Status}
use Rattle.storage_machine.specs.Commands.{due, id_on, job_on}
use Rattle.storage_machine.specs.Jobs.{job_of, phase_blocks}
use Rattle.storage_machine.specs.Slots.{id_of, slot_at}
use Rattle.storage_machine.specs.declared.commands.DueCommand.TheVariants.{Execute}
use Rattle.storage_machine.specs.declared.state.State.{State}
use Rattle.trace_effects.specs.Phases.{puts_of}
use Rattle.array_edge.specs.Array.{ArrayState}
use Rattle.card_store.proofs.Turning.{lines_left}
use Rattle.card_store.specs.Store.{Stands as StoreStands, Store}
use Rattle.cq_schedule.specs.Held.{slots}
use Rattle.cut_order.specs.Order.{OrderState}
use Rattle.intent_store.specs.Intent.{shown_by}
use Rattle.front_laws.proofs.Nears.{near_left}
use Rattle.front_laws.proofs.Ways.{below_by, way_due, way_few}
use Rattle.world_state.specs.Laws.{StateLaws}
use Rattle.world_state.specs.Path.{PathState, holder, is_busy, job, moved, plan_of, under_way}
use Rattle.world_state.specs.Reading.{Context, standing_at, state_of, task_at, tasks_of}
use Rattle.world_state.specs.Stands.{Agrees, IsNear, contents_of, first_puts, marks_moved, marks_moved_by, puts_by, puts_on, sent_of}
use Rattle.world_state.specs.Ties.{AreTied}

-- what the holders say is read off the state
pub base_of : (p : PathState) (o : OrderState) (c : Context) → (state_of p o c).base ≡ c.base
unfolding state_of
base_of p o c = refl

pub pend_of : (p : PathState) (o : OrderState) (c : Context) → (state_of p o c).pend ≡ c.pend
unfolding state_of
pend_of p o c = refl

pub busy_of : (p : PathState) (o : OrderState) (c : Context) → (state_of p o c).busy ≡ is_busy p
unfolding state_of
busy_of p o c = refl

pub left_of_state : (p : PathState) (o : OrderState) (c : Context) (puts : List Mark) (pages : List Block) → is_left c.base (c.pend ++ puts) pages ≡ true
    → is_left (state_of p o c).base ((state_of p o c).pend ++ puts) pages ≡ true
unfolding state_of
left_of_state p o c puts pages h = h

task_of_tag : (p : PathState) (tag : ℕ) → tag < 32 → slot_at (tasks_of p) tag ≡ task_at p tag
unfolding tasks_of slots
task_of_tag p tag below = get_or-map-range_with_len (task_at p) 0 32 tag tag None below (zero-add tag)

-- the job that the machine has on a tag
pub job_of_tag : (p : PathState) (o : OrderState) (c : Context) (tag id : ℕ) → tag < 32 → holder p tag ≡ Some id → job_on (state_of p o c) tag ≡ job p id
unfolding state_of
job_of_tag p o c tag id below is =
    ap (λ slot. job_of (plan_of p).jobs (id_of slot)) (task_of_tag p tag below ∙ ap (λ holds. option_map (λ id. record { id = id; standing = standing_at p tag }) holds) is)

-- the blocks that moved are the first puts of the write
moved_puts : (p : PathState) (j : Job) (count : ℕ) → count ≤ phase_blocks j → puts_on (plan_of p).blocks j count ≡ puts_by p count j
moved_puts p (Read sector blocks high) count few = refl
moved_puts p (Write sector blocks fill forced reliable high) count few = ap (puts_of (plan_of p).blocks sector fill reliable) (min-eq_left few)
moved_puts p Flush count few = refl
moved_puts p Barrier count few = refl
moved_puts p Status count few = refl

plan_here : (p : PathState) (o : OrderState) (c : Context) (tag count : ℕ) → first_puts (state_of p o c) (Execute tag) count ≡ puts_on (plan_of p).blocks (job_on (state_of p o c) tag) count
unfolding state_of
plan_here p o c tag count = refl

-- no block moved
near_none : (p : PathState) (o : OrderState) (c : Context) (pages : List Block) → is_left c.base (c.pend ++ []) pages ≡ true → IsNear (state_of p o c) pages
near_none p o c pages h =
    near_left (state_of p o c) pages (subst (λ pend. is_left (state_of p o c).base pend pages ≡ true) (append-nil (state_of p o c).pend) (left_of_state p o c [] pages h))

near_holder : StateLaws → (p : PathState) (o : OrderState) (c : Context) (tag : ℕ) (holds : Option ℕ) (pages : List Block) → AreTied p → p.script.sent ≡ sent_of (is_busy p) c.n → under_way p ≡ Some tag
    → holder p tag ≡ holds → is_left c.base (c.pend ++ option_map_or (λ id. puts_by p (moved p) (job p id)) holds []) pages ≡ true → IsNear (state_of p o c) pages
near_holder laws p o c tag None pages t sent way is h = near_none p o c pages h
near_holder laws p o c tag (Some id) pages t sent way is h =
    let s : State = state_of p o c in
    let few = way_few p tag id t way is in
    let job_is : job_on s tag ≡ job p id = job_of_tag p o c tag id (below_by p tag id t is) is in
    let puts : first_puts s (due s) (moved p) ≡ puts_by p (moved p) (job p id) =
    ap (λ command. first_puts s command (moved p)) (way_due laws p o c tag t sent way)
    ∙ plan_here p o c tag (moved p)
    ∙ ap (λ j. puts_on (plan_of p).blocks j (moved p)) job_is
    ∙ moved_puts p (job p id) (moved p) few in
    record {
      count = moved p;
      near = subst (λ marks. is_left s.base (s.pend ++ marks) pages ≡ true) (sym puts) (left_of_state p o c (puts_by p (moved p) (job p id)) pages h);
    }

near_way : StateLaws → (p : PathState) (o : OrderState) (c : Context) (way : Option ℕ) (pages : List Block) → AreTied p → p.script.sent ≡ sent_of (is_busy p) c.n → under_way p ≡ way
    → is_left c.base (c.pend ++ marks_moved_by p way) pages ≡ true → IsNear (state_of p o c) pages
near_way laws p o c None pages t sent e h = near_none p o c pages h
near_way laws p o c (Some tag) pages t sent e h = near_holder laws p o c tag (holder p tag) pages t sent e refl h

pub near_now : StateLaws → (p : PathState) (a : ArrayState) (o : OrderState) (c : Context) (pages : List Block) → Agrees p a c
    → is_left c.base (c.pend ++ marks_moved p) pages ≡ true → IsNear (state_of p o c) pages
near_now laws p a o c pages agrees h = near_way laws p o c (under_way p) pages agrees.tied agrees.number refl h

-- what the array shows
pub shown_near : StateLaws → (p : PathState) (a : ArrayState) (o : OrderState) (c : Context) (store : Store) (a' : ArrayState) → Agrees p a c → StoreStands (contents_of p c) store a'
    → IfSome (shown_by a') (IsNear (state_of p o c))
shown_near laws p a o c store a' agrees stands = by (shown_by a') (lines_left store.cache (shown_by a') c.base (c.pend ++ marks_moved p) stands.lines)
  where
    by : (shown : Option (List Block)) → IfSome shown (λ pages. is_left c.base (c.pend ++ marks_moved p) pages ≡ true) → IfSome shown (IsNear (state_of p o c))
    by None h = tt
    by (Some pages) h = near_now laws p a o c pages agrees h
