-- The line of an issue, and of an event that has nothing to do.
use Rattle.std.proofs.Common.{◌≡◌, ◌≢◌, ◌∙◌, ◌++◌, ◌+◌, ◌<◌, ◌==◌, ℕ, Bool, true, false, cond, [], ◌∷◌, Option, None, Some, MatchOption, is_some, map, option_map, slice_set, refl, ap, sym, arith, eqb-true, eq-eqb, if◌then◌else◌}
use Rattle.std.proofs.lemmas.Bool.{eqb-false, false≢true}
use Rattle.std.specs.List.{range_with_len}
use Rattle.std.specs.Option.{option_map_or}
use Rattle.storage_model.specs.declared.plan.Job.{Job}
use Rattle.storage_model.specs.declared.plan.Job.TheVariants.{Read, Write, Flush, Barrier, Status}
use Rattle.storage_model.specs.Plan.{blocks_of}
use Rattle.storage_machine.specs.Jobs.{is_read}
use Rattle.storage_machine.specs.declared.state.Standing.TheVariants as standing
use Rattle.storage_machine.specs.declared.state.Stop.{Stop}
use Rattle.storage_machine.specs.declared.state.Stop.TheVariants as stop
use Rattle.trace_effects.specs.Effects.{after_issue}
use Rattle.cq_regs.specs.Slots.{progress_of}
use Rattle.cq_regs.specs.declared.slots.Progress.{Progress}
use Rattle.cq_schedule.specs.Held.{slots}
use Rattle.cq_schedule.specs.Order.{order_of}
use Rattle.cut_order.specs.Order.{OrderState}
use Rattle.drv_core.specs.Event.{IsWritten}
use Rattle.drv_core.specs.State.{is_recovering}
use Rattle.drv_jobs.specs.declared.next.Due.{Due}
use Rattle.drv_recover.specs.declared.recovery.RecoveryState.TheVariants as driver
use Rattle.drv_ring.specs.Asks.{HasBlocks}
use Rattle.drv_ring.specs.Layout.{IsTagOf}
use Rattle.drv_ring.specs.Changes.{KeepsTag}
use Rattle.drv_ring.specs.Pieces.{tag_pieces}
use Rattle.host_mem.specs.Memory.{Memory}
use Rattle.piece_data.specs.Data.{block_of}
use Rattle.host_laws.proofs.Dues.{IsIssuable}
use Rattle.host_laws.proofs.Issued.{IsFree, holder_other, holder_that, issued_at, other_slot, that_slot}
use Rattle.host_laws.proofs.IssuedRuns.{More, ring_at, way_issued}
use Rattle.host_laws.proofs.Recovered.{at_place}
use Rattle.host_laws.proofs.Same.{range_same, range_set, way_active}
use Rattle.world_state.specs.Path.{PathState, holder, job, layout, moved, moved_by, plan_of, runs, under_way}
use Rattle.world_state.specs.Reading.{Context, blocks_held, data_by, data_of, is_done, spent_of, standing_at, standing_of, state_of, stop_by, task_at, tasks_of}
use Rattle.world_state.specs.Stands.{marks_moved, marks_moved_by, puts_by}
use Rattle.world_state.specs.Ties.{AreTied, IsIssued, IsVacant}

-- the tasks
standing_calm : (p : PathState) (due : Due) (memory : Memory) (tag : ℕ) → is_done p tag ≡ false → standing_at (issued_at p due memory) tag ≡ standing_of (progress_of (ring_at p due) tag)
standing_calm p due memory tag e = ap (λ b. if b then standing.Done else standing_of (progress_of (ring_at p due) tag)) e

task_issued : (p : PathState) (due : Due) (memory : Memory) → AreTied p → IsIssuable p.driver.requests due → IsFree p due → More p due
    → task_at (issued_at p due memory) due.tag ≡ Some (record { id = due.id; standing = standing.Rung })
task_issued p due memory t x f r =
    ap (option_map (λ id. record { id = id; standing = standing_at (issued_at p due memory) due.tag })) (holder_that p due memory due.tag t.sound x.low (eq-eqb due.tag due.tag refl))
    ∙ ap (λ s. Some (record { id = due.id; standing = s }))
    (standing_calm p due memory due.tag f.silent ∙ ap standing_of (that_slot p.regs.ring (ring_at p due) due.tag r due.tag (eq-eqb due.tag due.tag refl)))

task_other : (p : PathState) (due : Due) (memory : Memory) (tag : ℕ) → More p due → (tag == due.tag) ≡ false
    → task_at (issued_at p due memory) tag ≡ task_at (at_place p driver.Calm p.regs) tag
task_other p due memory tag r e =
    ap (option_map (λ id. record { id = id; standing = standing_at (issued_at p due memory) tag })) (holder_other p due memory tag e)
    ∙ ap (λ (g : Progress). option_map (λ id. record { id = id; standing = if is_done p tag then standing.Done else standing_of g }) (holder p tag))
    (other_slot p.regs.ring (ring_at p due) due.tag r tag e)

apart : (n m : ℕ) (b : Bool) → (n == m) ≡ b → n ≢ m → b ≡ false
apart n m true e h = absurd (h (eqb-true n m e))
apart n m false e h = refl

zero_and : (n : ℕ) → 0 + n ≡ n
zero_and n = omega arith

tasks_issued : (p : PathState) (due : Due) (memory : Memory) → AreTied p → IsIssuable p.driver.requests due → IsFree p due → More p due
    → tasks_of (issued_at p due memory) ≡ slice_set (tasks_of (at_place p driver.Calm p.regs)) due.tag (Some (record { id = due.id; standing = standing.Rung }))
unfolding tasks_of slots
tasks_issued p due memory t x f r =
    range_set (task_at (at_place p driver.Calm p.regs)) (task_at (issued_at p due memory)) 0 32 due.tag (Some (record { id = due.id; standing = standing.Rung })) x.low
    (ap (task_at (issued_at p due memory)) (zero_and due.tag) ∙ task_issued p due memory t x f r)
    (λ k h. task_other p due memory k r (apart k due.tag (k == due.tag) refl (λ e. h (e ∙ sym (zero_and due.tag)))))

-- the data that done reads show
pub blocks_kept : (p : PathState) (memory : Memory) (tag : ℕ) (j : Job) → KeepsTag (layout p) tag p.memory memory → IsTagOf (layout p) tag j → HasBlocks j
    → (k : ℕ) → k < blocks_of j → is_read j ≡ true → block_of memory (tag_pieces (layout p) tag (blocks_of j)) k ≡ block_of p.memory (tag_pieces (layout p) tag (blocks_of j)) k
blocks_kept p memory tag (Read sector blocks high) keeps fits some k low e = keeps.data_held fits blocks k some.1 low
blocks_kept p memory tag (Write sector blocks fill forced reliable high) keeps fits some k low e = absurd (false≢true e)
blocks_kept p memory tag Flush keeps fits some k low e = absurd (false≢true e)
blocks_kept p memory tag Barrier keeps fits some k low e = absurd (false≢true e)
blocks_kept p memory tag Status keeps fits some k low e = absurd (false≢true e)

held_kept : (p : PathState) (due : Due) (memory : Memory) (tag : ℕ) (j : Job) (reads : Bool) → is_read j ≡ reads → KeepsTag (layout p) tag p.memory memory → IsTagOf (layout p) tag j → HasBlocks j
    → cond reads (map (block_of memory (tag_pieces (layout p) tag (blocks_of j))) (range_with_len 0 (blocks_of j))) []
    ≡ cond reads (map (block_of p.memory (tag_pieces (layout p) tag (blocks_of j))) (range_with_len 0 (blocks_of j))) []
held_kept p due memory tag j true e keeps fits some =
    range_same (block_of memory (tag_pieces (layout p) tag (blocks_of j))) (block_of p.memory (tag_pieces (layout p) tag (blocks_of j))) 0 (blocks_of j)
    (λ k l h. blocks_kept p memory tag j keeps fits some k (omega (arith, h)) e)
held_kept p due memory tag j false e keeps fits some = refl

data_other : (p : PathState) (due : Due) (memory : Memory) (tag : ℕ) (found : Option ℕ) → MatchOption found (IsVacant p tag) (IsIssued p tag)
    → KeepsTag (layout p) tag p.memory memory → data_by (issued_at p due memory) tag found ≡ data_by (at_place p driver.Calm p.regs) tag found
data_other p due memory tag None v keeps = refl
data_other p due memory tag (Some id) i keeps =
    ap (λ held. if is_done p tag then held else []) (held_kept p due memory tag (job p id) (is_read (job p id)) refl keeps i.asks.tag_fits i.asks.blocks_fit)

data_that : (p : PathState) (due : Due) (memory : Memory) (tag : ℕ) (found : Option ℕ) → is_done p tag ≡ false → data_by (issued_at p due memory) tag found ≡ []
data_that p due memory tag None e = refl
data_that p due memory tag (Some id) e = ap (λ b. if b then blocks_held (issued_at p due memory) tag (job p id) else []) e

data_by_tag : (p : PathState) (due : Due) (memory : Memory) (tag : ℕ) (b : Bool) → (tag == due.tag) ≡ b → AreTied p → p.driver.recovery ≡ driver.Calm
    → IsIssuable p.driver.requests due → IsFree p due → IsWritten (plan_of p) due p.memory memory → tag < 32
    → data_by (issued_at p due memory) tag (holder (issued_at p due memory) tag) ≡ data_by (at_place p driver.Calm p.regs) tag (holder p tag)
data_by_tag p due memory tag true e t calm x f w low =
    let at : tag ≡ due.tag = eqb-true tag due.tag e in
    data_that p due memory tag (holder (issued_at p due memory) tag) (ap (is_done p) at ∙ f.silent)
    ∙ sym (ap (data_by (at_place p driver.Calm p.regs) tag) (ap (holder p) at ∙ x.free))
data_by_tag p due memory tag false e t calm x f w low =
    ap (data_by (issued_at p due memory) tag) (holder_other p due memory tag e)
    ∙ data_other p due memory tag (holder p tag) (t.tags (ap is_recovering calm) tag low) (w.others tag low (eqb-false tag due.tag e))

data_issued : (p : PathState) (due : Due) (memory : Memory) → AreTied p → p.driver.recovery ≡ driver.Calm → IsIssuable p.driver.requests due → IsFree p due
    → IsWritten (plan_of p) due p.memory memory → data_of (issued_at p due memory) ≡ data_of (at_place p driver.Calm p.regs)
unfolding data_of slots
data_issued p due memory t calm x f w =
    range_same (λ tag. data_by (issued_at p due memory) tag (holder (issued_at p due memory) tag))
    (λ tag. data_by (at_place p driver.Calm p.regs) tag (holder p tag)) 0 32
    (λ k l h. data_by_tag p due memory k (k == due.tag) refl t calm x f w h)

-- the state after it
spent_issued : (p : PathState) (due : Due) (memory : Memory) → More p due → spent_of (issued_at p due memory) ≡ spent_of p
spent_issued p due memory r = ap (λ w. if is_some w then moved_by p w + 1 else 0) (way_issued p due memory r)

stop_if : (stopped : Bool) (one other : Stop) → stopped ≡ false → (if stopped then one else stop.Running) ≡ (if stopped then other else stop.Running)
stop_if true one other e = absurd (false≢true (sym e))
stop_if false one other e = refl

pub issued_state : (p : PathState) (due : Due) (memory : Memory) (o : OrderState) (c : Context) → AreTied p → p.driver.recovery ≡ driver.Calm → p.regs.stopped ≡ false
    → IsIssuable p.driver.requests due → IsFree p due → More p due → IsWritten (plan_of p) due p.memory memory
    → state_of (issued_at p due memory) o c ≡ after_issue (state_of (at_place p driver.Calm p.regs) o c) due.id due.tag
unfolding state_of after_issue
issued_state p due memory o c t calm runs x f r w =
    let q = issued_at p due memory in
    let b = at_place p driver.Calm p.regs in
    let tasks = slice_set (tasks_of b) due.tag (Some (record { id = due.id; standing = standing.Rung })) in
    let more = order_of p.regs.ring ++ due.tag ∷ [] in
    ap (λ found. record (state_of q o c) { slots = found }) (tasks_issued p due memory t x f r)
    ∙ (ap (λ found. record (state_of q o c) { slots = tasks; order = found }) r.order
    ∙ (ap (λ found. record (state_of q o c) { slots = tasks; order = more; «data» = found }) (data_issued p due memory t calm x f w)
    ∙ (ap (λ found. record (state_of q o c) { slots = tasks; order = more; «data» = data_of b; busy = is_some found }) (way_issued p due memory r)
    ∙ (ap (λ found. record (state_of q o c) { slots = tasks; order = more; «data» = data_of b; busy = is_some (under_way p); spent = found }) (spent_issued p due memory r)
    ∙ ap (λ found. record (state_of q o c) { slots = tasks; order = more; «data» = data_of b; busy = is_some (under_way p); spent = spent_of p; stop = found })
    (stop_if p.regs.stopped (stop_by q p.engine.cause) (stop_by b p.engine.cause) runs)))))

-- the phase under way is another tag's
pub way_other : (p : PathState) (due : Due) (tag : ℕ) (b : Bool) → (tag == due.tag) ≡ b → IsFree p due → under_way p ≡ Some tag → b ≡ false
way_other p due tag true e f way =
    absurd (cc (ap (progress_of p.regs.ring) (sym (eqb-true tag due.tag e)), f.idle, way_active p tag way))
way_other p due tag false e f way = refl

marks_by : (p : PathState) (due : Due) (memory : Memory) (way : Option ℕ) → under_way p ≡ way → More p due → IsFree p due
    → marks_moved_by (issued_at p due memory) way ≡ marks_moved_by p way
marks_by p due memory None e r f = refl
marks_by p due memory (Some tag) e r f =
    ap (λ found. option_map_or (λ id. puts_by p (moved (issued_at p due memory)) (job p id)) found []) (holder_other p due memory tag (way_other p due tag (tag == due.tag) refl f e))
    ∙ ap (λ n. option_map_or (λ id. puts_by p n (job p id)) (holder p tag) []) (ap (moved_by p) (way_issued p due memory r))

pub marks_issued : (p : PathState) (due : Due) (memory : Memory) → More p due → IsFree p due → marks_moved (issued_at p due memory) ≡ marks_moved p
marks_issued p due memory r f =
    ap (marks_moved_by (issued_at p due memory)) (way_issued p due memory r) ∙ marks_by p due memory (under_way p) refl r f
