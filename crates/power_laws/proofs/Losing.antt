-- The state in which power is lost stands for what the path holds.
use Rattle.std.proofs.Common.{◌≡◌, ◌≢◌, ◌<◌, ◌≤◌, ◌+◌, ◌==◌, ◌++◌, ◌&&◌, ◌||◌, ℕ, zero, suc, refl, sym, ◌∙◌, ap, subst, arith, inl, inr, append-nil, zero-add}
use Rattle.std.specs.Prelude.{Bool, true, false, not, min, Option, Some, None, IfSome, All, is_some, length, List, [], ◌∷◌, unwrap_or}
use Rattle.std.specs.Option.{option_map, option_map_or}
use Rattle.std.proofs.lemmas.Bool.{and_cases, eq-eqb, eqb-true, false≢true, le-leb, not-false, or_parts}
use Rattle.std.proofs.lemmas.List.Elements.{All-append, All-cons, All-nil}
use Rattle.std.proofs.lemmas.List.FromFn.{map-range_with_len_more}
use Rattle.array_edge.specs.Array.{ArrayState}
use Rattle.card_store.specs.Store.{Contents, IsStore, Stands as StoreStands, Store, Turns, same}
use Rattle.cq_task.specs.declared.slot.DataTask.{DataTask}
use Rattle.cq_task.specs.declared.slot.SlotTask.{SlotTask}
use Rattle.cq_task.specs.declared.slot.SlotTask.TheVariants.{Data, Direct}
use Rattle.cut_order.specs.Order.{OrderState}
use Rattle.drv_core.specs.State.{asks_notice, is_recovering}
use Rattle.drv_jobs.specs.Changes.{faults_of}
use Rattle.drv_recover.specs.declared.recovery.RecoveryState.{RecoveryState}
use Rattle.drv_recover.specs.declared.recovery.RecoveryState.TheVariants as driver
use Rattle.drv_ring.specs.Task.{task_of}
use Rattle.drv_ring.specs.declared.places.Layout.{Layout}
use Rattle.intent_store.specs.Intent.{shown_by}
use Rattle.storage_machine.specs.Host.{to_do}
use Rattle.storage_machine.specs.Commands.{hit, id_on, is_calm, is_gone, next_number}
use Rattle.storage_machine.specs.Jobs.{job_of, may_keep, may_move, must_keep, phase_blocks, sector_of}
use Rattle.storage_machine.specs.Slots.{id_of}
use Rattle.storage_machine.specs.declared.state.Event.{Event}
use Rattle.storage_machine.specs.declared.state.Owed.{Owed}
use Rattle.storage_machine.specs.declared.state.State.{State}
use Rattle.storage_model.specs.Contents.{IsWithin}
use Rattle.storage_model.specs.Plan.{block_at, blocks_of}
use Rattle.storage_model.specs.declared.block.Block.{Block}
use Rattle.storage_model.specs.declared.faults.BusKind.{BusKind}
use Rattle.storage_model.specs.declared.faults.BusKind.TheVariants.{Bad, Late, Lost, NoResp}
use Rattle.storage_model.specs.declared.marks.Mark.{Mark}
use Rattle.storage_model.specs.declared.marks.Mark.TheVariants.{Put as PutMark}
use Rattle.storage_model.specs.declared.plan.Fill.{Fill}
use Rattle.storage_model.specs.declared.plan.Job.{Job}
use Rattle.storage_model.specs.declared.plan.Job.TheVariants.{Barrier, Flush, Read, Status, Write}
use Rattle.storage_model.specs.declared.plan.Plan.{Plan}
use Rattle.trace_effects.specs.Cuts.{places_of}
use Rattle.trace_effects.specs.Phases.{is_empty, marks_of, puts_of}
use Rattle.trace_rules.specs.Phases.{most_blocks}
use Rattle.world_state.specs.Path.{PathState, holder, is_busy, job, layout, moved, plan_of, under_way}
use Rattle.world_state.specs.Reading.{Context, recovery_of, standing_at, state_of}
use Rattle.world_state.specs.Stands.{Agrees, contents_of, marks_moved, marks_moved_by, named_at, puts_by, sent_of}
use Rattle.world_state.specs.Ties.{AreTied, IsBeforeFault}
use Rattle.world_state.specs.Told.{IsLosing, is_dark}
use Rattle.power_laws.proofs.Pages.{plain_pages}
use Rattle.power_laws.proofs.PhaseEnds.{Moves, pend_with, phase_over, woken}
use Rattle.power_laws.proofs.ReadOff.{HasContents, HasTasks, TellsOf, kept_over, over_contents, over_tasks, over_tells, slot_so, state_tasks, state_tells, woken_contents, woken_tasks, woken_tells}
use Rattle.power_laws.proofs.Stored.{with_store}
use Rattle.power_laws.proofs.UnderWay.{UnderWay, moved_is}

abbrev contents_with : List Block → List Mark → Contents
contents_with base pend = record { base = base; pend = pend }

-- ---- what is left of the store

-- power is lost in an event that leaves contents as they were; where the machine may have staged nothing, so did the card
pub record Loses (p : PathState) (a : ArrayState) (k : Context) (st : Store) (a' : ArrayState) (staged : Bool) : Type 0 where
  pub told : is_some a'.told ≡ is_some a.told
  pub store : IsStore st
  pub turns : Turns same p.card.store a st a'
  pub still : staged ≡ false → (k.staged ≡ false) × (shown_by a' ≡ shown_by a)

recovery_so : (state : RecoveryState) → is_recovering state ≡ not (is_calm (recovery_of state))
recovery_so driver.Calm = refl
recovery_so driver.Halted = refl
recovery_so driver.Cleared = refl
recovery_so driver.Discarded = refl
recovery_so driver.Cleaned = refl
recovery_so driver.Resumed = refl

min_low : (n : ℕ) → n < 4 → min n 4 ≡ n
min_low n low = omega arith

empty_is : (xs : List Mark) → is_empty xs ≡ true → xs ≡ []
empty_is [] e = refl
empty_is (x ∷ xs) e = let none = eqb-true (length (x ∷ xs)) 0 e in absurd (omega (arith, none))

-- where nothing was staged, the pages are the contents, or they are shown as they were
deferred_so : (p : PathState) (a : ArrayState) (k : Context) (st : Store) (a' : ArrayState) (staged must : Bool) (pend : List Mark) → Agrees p a k
    → Loses p a k st a' staged → contents_of p k ≡ contents_with k.base pend → (plan_of p).through ≡ false → staged ≡ false
    → (not (is_empty pend) && (k.kept || must)) ≡ false → length (places_of pend) < (plan_of p).lines → IfSome (shown_by a') (λ pages. pages ≡ k.base)
deferred_so p a k st a' staged must pend h l bare through unstaged kept few =
    let stands : StoreStands (contents_with k.base pend) st a' = subst (λ c. StoreStands c st a') bare (l.turns (contents_of p k) h.store) in
    let told : is_some a'.told ≡ true = l.told ∙ h.told in
    let quiet = l.still unstaged in
    elim (and_cases (not (is_empty pend)) (k.kept || must) kept) [
      | inl none ↦
          let empty : pend ≡ [] = empty_is pend (not-false (is_empty pend) none) in
          plain_pages k.base st a' l.store told (subst (λ ms. StoreStands (contents_with k.base ms) st a') empty stands)
      | inr free ↦
          let fewer : length (places_of (contents_of p k).pend) < (plan_of p).lines =
          subst (λ (c : Contents). length (places_of c.pend) < (plan_of p).lines) (sym bare) few in
          subst (λ o. IfSome o (λ pages. pages ≡ k.base)) (sym quiet.1) (h.deferred through quiet.0 (or_parts k.kept must free).0 fewer)
    ]

-- ---- the state in which power is lost

pub losing : (p : PathState) (a : ArrayState) (o : OrderState) (k : Context) (st : Store) (a' : ArrayState) (staged kept : Bool) (v : State) (pend : List Mark)
    → Agrees p a k → is_some a'.told ≡ is_some a.told → Turns same p.card.store a st a' → TellsOf v p o k → HasTasks v p → HasContents v k.base pend staged kept
    → contents_of p k ≡ contents_with k.base pend → All (IsWithin k.base) pend → v.n ≡ p.script.sent → is_dark v.owed ≡ false
    → (to_do v ≡ true → (plan_of p).through ≡ false → staged ≡ false → kept ≡ false → length (places_of pend) < (plan_of p).lines
    → IfSome (shown_by a') (λ pages. pages ≡ k.base))
    → IsLosing v (with_store p st) o a'
losing p a o k st a' staged kept v pend h told turns t x c bare within n lit deferred = record {
  plan = t.plan;
  ready = t.ready;
  bus = t.bus;
  order = t.order;
  waiting = t.waiting;
  slots = x.slots;
  issued = x.issued;
  standing = x.standing;
  places = x.places;
  vacant = x.vacant;
  n = n;
  words = t.words;
  long = ap (λ xs. length xs) t.named ∙ h.named.long;
  named = λ id waits.
      ap (λ xs. named_at xs id) t.named ∙ h.named.waiting id waits ∙ min_low (faults_of p.driver.requests id) (h.tied.borne.waiting id waits);
  told = told ∙ h.told;
  store = subst (λ s. StoreStands s st a') (bare ∙ sym same_contents) (turns (contents_of p k) h.store);
  within = subst (λ (xs : List Block). All (IsWithin xs) v.pend) (sym c.base_is) (subst (λ (ms : List Mark). All (IsWithin k.base) ms) (sym c.pend_is) within);
  few = subst (λ (xs : List Block). length xs ≤ 65536) (sym c.base_is) h.few;
  unjudged = record { lit = lit; deferred = t.deferred; lefts = t.lefts; epochs = t.epochs };
  recovery = recovery_so p.driver.recovery ∙ sym (ap (λ r. not (is_calm r)) t.recovery);
  deferred = λ some through unstaged free few.
      subst (λ (xs : List Block). IfSome (shown_by a') (λ pages. pages ≡ xs)) (sym c.base_is)
      (deferred some (sym (ap (λ (q : Plan). q.through) t.plan) ∙ through) (sym c.staged_is ∙ unstaged) (sym c.kept_is ∙ free)
      (subst (λ (ms : List Mark). length (places_of ms) < (plan_of p).lines) c.pend_is
      (subst (λ (q : Plan). length (places_of v.pend) < q.lines) t.plan few)));
}
  where
    same_contents : contents_with v.base v.pend ≡ contents_with k.base pend
    same_contents = ap (λ xs. contents_with xs v.pend) c.base_is ∙ ap (λ ms. contents_with k.base ms) c.pend_is

-- ---- where no phase is under way

bare_of : (p : PathState) (k : Context) → under_way p ≡ None → contents_of p k ≡ contents_with k.base k.pend
bare_of p k way = ap (λ w. contents_with k.base (k.pend ++ marks_moved_by p w)) way ∙ ap (λ ms. contents_with k.base ms) (append-nil k.pend)

-- the machine's last number is the card's
calm_number : (p : PathState) (a : ArrayState) (k : Context) → under_way p ≡ None → Agrees p a k → k.n ≡ p.script.sent
calm_number p a k way h = sym (h.number ∙ ap (λ w. sent_of (is_some w) k.n) way)

n_is : (p : PathState) (o : OrderState) (k : Context) → (state_of p o k).n ≡ k.n
unfolding state_of
n_is p o k = refl

base_is : (p : PathState) (o : OrderState) (k : Context) → (state_of p o k).base ≡ k.base
unfolding state_of
base_is p o k = refl

pend_is : (p : PathState) (o : OrderState) (k : Context) → (state_of p o k).pend ≡ k.pend
unfolding state_of
pend_is p o k = refl

kept_is : (p : PathState) (o : OrderState) (k : Context) → (state_of p o k).kept ≡ k.kept
unfolding state_of
kept_is p o k = refl

owed_is : (p : PathState) (o : OrderState) (k : Context) → is_dark (state_of p o k).owed ≡ false
unfolding state_of
owed_is p o k = refl

and_no : (b : Bool) → (b && false) ≡ false
and_no true = refl
and_no false = refl

pub calm_losing : (p : PathState) (a : ArrayState) (o : OrderState) (k : Context) (st : Store) (a' : ArrayState) (event : Event) (staged : Bool) → under_way p ≡ None
    → Agrees p a k → Loses p a k st a' staged → IsLosing (woken (state_of p o k) event staged) (with_store p st) o a'
calm_losing p a o k st a' event staged way h l =
    let s : State = state_of p o k in
    let c = woken_contents s event staged in
    losing p a o k st a' staged k.kept (woken s event staged) k.pend h l.told l.turns (woken_tells p o k event staged) (woken_tasks p o k event staged)
    (record { base_is = c.base_is ∙ base_is p o k; pend_is = c.pend_is ∙ pend_is p o k; staged_is = refl; kept_is = c.kept_is ∙ kept_is p o k })
    (bare_of p k way) h.within (n_is p o k ∙ calm_number p a k way h) refl
    (λ some through unstaged free few.
    deferred_so p a k st a' staged false k.pend h l (bare_of p k way) through unstaged
    (ap (λ b. not (is_empty k.pend) && (b || false)) free ∙ and_no (not (is_empty k.pend))) few)

-- and where nothing is to do
pub idle_losing : (p : PathState) (a : ArrayState) (o : OrderState) (k : Context) (st : Store) (a' : ArrayState) → under_way p ≡ None → Agrees p a k
    → is_some a'.told ≡ is_some a.told → Turns same p.card.store a st a' → to_do (state_of p o k) ≡ false → IsLosing (state_of p o k) (with_store p st) o a'
idle_losing p a o k st a' way h told turns none =
    let s : State = state_of p o k in
    losing p a o k st a' s.staged k.kept s k.pend h told turns (state_tells p o k) (state_tasks p o k)
    (record { base_is = base_is p o k; pend_is = pend_is p o k; staged_is = refl; kept_is = kept_is p o k }) (bare_of p k way) h.within
    (n_is p o k ∙ calm_number p a k way h) (owed_is p o k) (λ some through unstaged free few. absurd (false≢true (sym none ∙ some)))

-- ---- where one is

pub data DataJob (layout : Layout) (tag : ℕ) (j : Job) (int : Bool) (task : DataTask) : Type 0 where
  reads : (sector blocks : ℕ) (high : Bool) → j ≡ Read sector blocks high → task.desc.blocks ≡ blocks → DataJob layout tag j int task
  writes : (sector blocks : ℕ) (fill : Fill) (forced reliable high : Bool) → j ≡ Write sector blocks fill forced reliable high → task.desc.blocks ≡ blocks
      → DataJob layout tag j int task

abbrev data_in : DataTask → SlotTask → DataTask
data_in other (Data task) = task
data_in other (Direct desc) = other

data_job : (layout : Layout) (tag : ℕ) (j : Job) (int : Bool) (task : DataTask) → task_of layout tag j int ≡ Data task → DataJob layout tag j int task
data_job layout tag (Read sector blocks high) int task e = reads sector blocks high refl (sym (ap (λ x. (data_in task x).desc.blocks) e))
data_job layout tag (Write sector blocks fill forced reliable high) int task e =
    writes sector blocks fill forced reliable high refl (sym (ap (λ x. (data_in task x).desc.blocks) e))
data_job layout tag Flush int task e = absurd (cc e)
data_job layout tag Barrier int task e = absurd (cc e)
data_job layout tag Status int task e = absurd (cc e)

data_of : (p : PathState) (tag : ℕ) (u : UnderWay p tag) → DataJob (layout p) tag (job p u.id) (asks_notice (plan_of p) (job p u.id)) u.h.task
data_of p tag u = data_job (layout p) tag (job p u.id) (asks_notice (plan_of p) (job p u.id)) u.h.task u.task

-- what is asked of a phase's line of a job that moves data
record IsData (j : Job) (blocks : ℕ) : Type 0 where
  pub blocks_are : blocks_of j ≡ blocks
  pub phase_are : phase_blocks j ≡ blocks
  pub apart : j ≢ Barrier
  pub few : (most count : ℕ) → count ≤ most → may_move j most count ≡ true
  pub keeps : (through : Bool) (count : ℕ) → may_keep through j count false ≡ true

is_data : (l : Layout) (tag : ℕ) (j : Job) (int : Bool) (task : DataTask) → DataJob l tag j int task → IsData j task.desc.blocks
is_data l tag j int task (reads sector blocks high is e) = record {
  blocks_are = ap blocks_of is ∙ sym e;
  phase_are = ap phase_blocks is ∙ sym e;
  apart = λ h. absurd (cc (sym is ∙ h));
  few = λ most count low. ap (λ x. may_move x most count) is ∙ le-leb count most low;
  keeps = λ through count. ap (λ x. may_keep through x count false) is;
}
is_data l tag j int task (writes sector blocks fill forced reliable high is e) = record {
  blocks_are = ap blocks_of is ∙ sym e;
  phase_are = ap phase_blocks is ∙ sym e;
  apart = λ h. absurd (cc (sym is ∙ h));
  few = λ most count low. ap (λ x. may_move x most count) is ∙ le-leb count most low;
  keeps = λ through count. ap (λ x. may_keep through x count false) is;
}

data_so : (p : PathState) (tag : ℕ) (u : UnderWay p tag) → IsData (job p u.id) u.h.task.desc.blocks
data_so p tag u = is_data (layout p) tag (job p u.id) (asks_notice (plan_of p) (job p u.id)) u.h.task (data_of p tag u)

-- its marks

marks_by : (p : PathState) (o : OrderState) (k : Context) (event : Event) (staged : Bool) (j : Job) (count : ℕ) → j ≢ Barrier
    → marks_of (woken (state_of p o k) event staged) j count ≡ puts_by p count j
unfolding state_of
marks_by p o k event staged (Read sector blocks high) count apart = refl
marks_by p o k event staged (Write sector blocks fill forced reliable high) count apart = refl
marks_by p o k event staged Flush count apart = refl
marks_by p o k event staged Barrier count apart = absurd (apart refl)
marks_by p o k event staged Status count apart = refl

marks_are : (p : PathState) (tag : ℕ) (u : UnderWay p tag) → marks_moved p ≡ puts_by p u.h.moved (job p u.id)
marks_are p tag u =
    ap (λ w. marks_moved_by p w) u.way
    ∙ ap (λ o. option_map_or (λ id. puts_by p (moved p) (job p id)) o []) u.is_held
    ∙ ap (λ n. puts_by p n (job p u.id)) (moved_is p tag u)

no_puts : (blocks : List Block) (sector : ℕ) (fill : Fill) (reliable : Bool) → puts_of blocks sector fill reliable 0 ≡ []
unfolding puts_of
no_puts blocks sector fill reliable = refl

puts_more : (blocks : List Block) (sector : ℕ) (fill : Fill) (reliable : Bool) (count : ℕ)
    → puts_of blocks sector fill reliable (count + 1)
    ≡ puts_of blocks sector fill reliable count ++ PutMark (record { sector = sector + count; value = block_at blocks fill count; reliable = reliable }) ∷ []
unfolding puts_of
puts_more blocks sector fill reliable count =
    map-range_with_len_more (λ k. PutMark (record { sector = sector + k; value = block_at blocks fill k; reliable = reliable })) 0 count count (zero-add count)

puts_within : (base blocks : List Block) (sector : ℕ) (fill : Fill) (reliable : Bool) (count : ℕ) → sector + count ≤ length base
    → All (IsWithin base) (puts_of blocks sector fill reliable count)
puts_within base blocks sector fill reliable zero fits =
    subst (λ (ms : List Mark). All (IsWithin base) ms) (sym (no_puts blocks sector fill reliable)) (All-nil (IsWithin base))
puts_within base blocks sector fill reliable (suc count) fits =
    let less : sector + count ≤ length base = omega (arith, fits) in
    let last : sector + count < length base = omega (arith, fits) in
    let more : suc count ≡ count + 1 = omega arith in
    subst (λ (ms : List Mark). All (IsWithin base) ms) (sym (ap (puts_of blocks sector fill reliable) more ∙ puts_more blocks sector fill reliable count))
    (All-append (IsWithin base) (puts_of blocks sector fill reliable count) _ (puts_within base blocks sector fill reliable count less)
    (All-cons (IsWithin base) _ [] last (All-nil (IsWithin base))))

marks_within : (p : PathState) (base : List Block) (j : Job) (count : ℕ) → count ≤ blocks_of j → sector_of j + blocks_of j ≤ length base
    → All (IsWithin base) (puts_by p count j)
marks_within p base (Read sector blocks high) count few fits = All-nil (IsWithin base)
marks_within p base (Write sector blocks fill forced reliable high) count few fits =
    puts_within base (plan_of p).blocks sector fill reliable count (omega (arith, few, fits))
marks_within p base Flush count few fits = All-nil (IsWithin base)
marks_within p base Barrier count few fits = All-nil (IsWithin base)
marks_within p base Status count few fits = All-nil (IsWithin base)

-- the request lies in the contents
in_contents : (p : PathState) (a : ArrayState) (k : Context) (tag : ℕ) (u : UnderWay p tag) → Agrees p a k
    → sector_of (job p u.id) + blocks_of (job p u.id) ≤ length k.base
in_contents p a k tag u h =
    subst (λ n. sector_of (job p u.id) + blocks_of (job p u.id) ≤ n) (ap (λ o. unwrap_or o 0) h.store.sectors) u.inside

pub phase_losing : (p : PathState) (a : ArrayState) (o : OrderState) (k : Context) (st : Store) (a' : ArrayState) (event : Event) (staged : Bool) (tag : ℕ)
    (u : UnderWay p tag) (done : Bool) (owed : Owed) → Agrees p a k → Loses p a k st a' staged → is_dark owed ≡ false
    → IsLosing (phase_over (state_of p o k) event staged (job p u.id) u.h.moved tag u.id p.script.sent done owed) (with_store p st) o a'
phase_losing p a o k st a' event staged tag u done owed h l lit =
    let s : State = state_of p o k in
    let b : State = woken s event staged in
    let j : Job = job p u.id in
    let v : State = phase_over s event staged j u.h.moved tag u.id p.script.sent done owed in
    let d = data_so p tag u in
    let pend : List Mark = k.pend ++ puts_by p u.h.moved j in
    let pend_so : pend_with b j u.h.moved ≡ pend =
    ap (λ ms. s.pend ++ ms) (marks_by p o k event staged j u.h.moved d.apart) ∙ ap (λ ms. ms ++ puts_by p u.h.moved j) (pend_is p o k) in
    let few = u.few in
    let blocks : blocks_of j ≡ u.h.task.desc.blocks = d.blocks_are in
    let c = over_contents s event staged j u.h.moved tag u.id p.script.sent done owed in
    let bare : contents_of p k ≡ contents_with k.base pend = ap (λ ms. contents_with k.base (k.pend ++ ms)) (marks_are p tag u) in
    losing p a o k st a' staged (kept_over b j u.h.moved) v pend h l.told l.turns (over_tells p o k event staged j u.h.moved tag u.id p.script.sent done owed)
    (over_tasks p o k event staged j u.h.moved tag u.id p.script.sent done owed u.is_held)
    (record { base_is = c.base_is ∙ base_is p o k; pend_is = c.pend_is ∙ pend_so; staged_is = c.staged_is; kept_is = c.kept_is })
    bare
    (All-append (IsWithin k.base) k.pend (puts_by p u.h.moved j) h.within
    (marks_within p k.base j u.h.moved (omega (arith, few, blocks)) (in_contents p a k tag u h)))
    refl lit
    (λ some through unstaged free fewer.
    deferred_so p a k st a' staged (must_keep s.plan.through j) pend h l bare through unstaged
    (sym (ap (λ ms. not (is_empty ms) && (k.kept || must_keep s.plan.through j)) pend_so)
    ∙ sym (ap (λ x. not (is_empty (pend_with b j u.h.moved)) && (x || must_keep s.plan.through j)) (kept_is p o k)) ∙ free) fewer)

-- ---- the line may stand so

jobs_are : (p : PathState) (o : OrderState) (k : Context) (id : ℕ) → job_of (state_of p o k).plan.jobs id ≡ job p id
unfolding state_of
jobs_are p o k id = refl

id_is : (p : PathState) (o : OrderState) (k : Context) (tag id : ℕ) → tag < 32 → holder p tag ≡ Some id → id_on (state_of p o k) tag ≡ id
id_is p o k tag id within is =
    ap id_of (slot_so p o k tag within) ∙ ap (λ o. id_of (option_map (λ n. record { id = n; standing = standing_at p tag }) o)) is

few_most : (kind : Option BusKind) (blocks count : ℕ) → IsBeforeFault kind count → count ≤ blocks → count ≤ most_blocks kind blocks
few_most None blocks count before few = few
few_most (Some Lost) blocks count before few = few
few_most (Some NoResp) blocks count before few = few
few_most (Some Late) blocks count before few = few
few_most (Some (Bad n)) blocks count before few = omega (arith, before, few)

of_some : {X : Type 0} (o : Option X) (x : X) (P : X → Type 0) → o ≡ Some x → IfSome o P → P x
of_some {X = X} o x P e h = let Q : Option X → Type 0 = λ v. IfSome v P in subst Q e h

pub phase_moves : (p : PathState) (a : ArrayState) (o : OrderState) (k : Context) (tag : ℕ) (u : UnderWay p tag) → AreTied p → Agrees p a k
    → hit (state_of p o k) ≡ p.script.hit → Moves (state_of p o k) tag u.id u.h.moved p.script.hit (job p u.id)
phase_moves p a o k tag u t h is =
    let j : Job = job p u.id in
    let d = data_so p tag u in
    let few = u.few in
    let blocks : phase_blocks j ≡ u.h.task.desc.blocks = d.phase_are in
    let before : IsBeforeFault p.script.hit u.h.moved =
    subst (IsBeforeFault p.script.hit) (moved_is p tag u) (of_some (under_way p) tag (λ _. IsBeforeFault p.script.hit (moved p)) u.way t.fails) in
    let inside : sector_of j + blocks_of j ≤ length (state_of p o k).base =
    subst (λ (xs : List Block). sector_of j + blocks_of j ≤ length xs) (sym (base_is p o k)) (in_contents p a k tag u h) in
    record {
      job_is = jobs_are p o k u.id;
      is_id = ap (λ n. n == u.id) (id_is p o k tag u.id u.below u.is_held) ∙ eq-eqb u.id u.id refl;
      hit_is = is;
      few =
          d.few (most_blocks p.script.hit (phase_blocks j)) u.h.moved
          (few_most p.script.hit (phase_blocks j) u.h.moved before (omega (arith, few, blocks)));
      keeps = d.keeps (state_of p o k).plan.through u.h.moved;
      inside = le-leb (sector_of j + blocks_of j) (length (state_of p o k).base) inside;
    }

pub phase_heard : (p : PathState) (tag : ℕ) → AreTied p → UnderWay p tag → is_gone p.script.hit ≡ false
phase_heard p tag t u = of_some (under_way p) tag (λ _. is_gone p.script.hit ≡ false) u.way t.heard

pub phase_jobs : (p : PathState) (o : OrderState) (k : Context) (id : ℕ) → job_of (state_of p o k).plan.jobs id ≡ job p id
phase_jobs p o k id = jobs_are p o k id

pub phase_number : (p : PathState) (a : ArrayState) (o : OrderState) (k : Context) → Agrees p a k → is_busy p ≡ true → p.script.sent ≡ next_number (state_of p o k)
unfolding state_of
phase_number p a o k h busy = h.number ∙ ap (λ b. sent_of b k.n) busy
