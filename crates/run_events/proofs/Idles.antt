-- Where the engine's event or that of a due cut comes next, no recovery was under way.
use Rattle.std.proofs.Common.{inl, inr, ◌≡◌, ◌∙◌, ◌⊎◌, ◌≤◌, ℕ, ◌+◌, Bool, true, false, Option, Some, None, cond, ◌||◌, not, is_some, option_map, List, [], ◌∷◌, refl, ap, sym}
use Rattle.std.specs.Prelude.{position}
use Rattle.std.specs.List.{list_any, position_from}
use Rattle.std.proofs.lemmas.Bool.{false≢true, lt-ltb, or_parts}
use Rattle.std.proofs.lemmas.Iterator.Adapters.{position_from-zero}
use Rattle.storage_machine.specs.Commands.{is_calm, is_running}
use Rattle.storage_machine.specs.Cuts.{is_due}
use Rattle.storage_machine.specs.Host.{below, has_work, is_irq_due, issue_of, next_issue, next_place, recovery_steps, recovery_steps_at, tag_for, to_do}
use Rattle.storage_machine.specs.Jobs.{is_direct, job_of}
use Rattle.storage_machine.specs.Slots.{asks, has, no_tasks, slot_at, tag_of}
use Rattle.storage_machine.specs.declared.slots.Question.TheVariants.{Issued as IsIssued, Vacant as IsVacant}
use Rattle.storage_machine.specs.declared.state.Recovery.{Recovery}
use Rattle.storage_machine.specs.declared.state.Recovery.TheVariants.{Calm, Halted, Cleared, Discarded, Cleaned, Resumed}
use Rattle.storage_machine.specs.declared.state.State.{State}
use Rattle.storage_runs.proofs.Lags.{IsBusied, Onward, Reached, calm_work, not_false}
use Rattle.storage_runs.proofs.Mores.{calm_steps}
use Rattle.run_lines.proofs.Powers.{not_ticked}

found_at : (b : Bool) (i : ℕ) (later : Option ℕ) (rest : Bool) → is_some later ≡ rest → is_some (cond b (Some i) later) ≡ (b || rest)
found_at true i later rest e = refl
found_at false i later rest e = e

found_from : (i : ℕ) (flags : List Bool) → is_some (position_from (λ waits. waits) i flags) ≡ list_any (λ waits. waits) flags
found_from i [] = refl
found_from i (flag ∷ flags) = found_at flag i (position_from (λ waits. waits) (i + 1) flags) (list_any (λ waits. waits) flags) (found_from (i + 1) flags)

found : (flags : List Bool) → is_some (position (λ waits. waits) flags) ≡ list_any (λ waits. waits) flags
found flags = ap is_some (position_from-zero (λ waits. waits) flags) ∙ found_from 0 flags

below_some : (depth : ℕ) → 1 ≤ depth → is_some (below depth (Some 0)) ≡ true
below_some depth most = ap (λ is. is_some {T = ℕ} (cond is (Some 0) None)) (lt-ltb 0 depth most)

tag_some : (depth : ℕ) (direct : Bool) → 1 ≤ depth → is_some (cond direct (cond (has IsIssued no_tasks) None (Some 31)) (cond (asks IsIssued (slot_at no_tasks 31)) None (below depth (tag_of IsVacant no_tasks)))) ≡ true
unfolding no_tasks
tag_some depth true most = refl
tag_some depth false most = below_some depth most

mapped_some : (place : ℕ) (tag : Option ℕ) → is_some tag ≡ true → is_some {T = ℕ × ℕ} (option_map (λ tag. (place + 1, tag)) tag) ≡ true
mapped_some place None e = absurd (cc)
mapped_some place (Some tag) e = refl

issue_some : (s : State) (place : Option ℕ) → s.slots ≡ no_tasks → 1 ≤ s.plan.depth → is_some place ≡ true → is_some (issue_of s place) ≡ true
issue_some s None slots most e = absurd (cc)
issue_some s (Some place) slots most e =
    let job = job_of s.plan.jobs (place + 1) in
    mapped_some place (tag_for s job)
    (ap (λ slots. is_some (cond (is_direct job) (cond (has IsIssued slots) None (Some 31)) (cond (asks IsIssued (slot_at slots 31)) None (below s.plan.depth (tag_of IsVacant slots))))) slots
    ∙ tag_some s.plan.depth (is_direct job) most)

none_issued : has IsIssued no_tasks ≡ false
unfolding no_tasks
none_issued = refl

waits_by : (waits issued calm : Bool) → issued ≡ false → calm ≡ true → (waits || (issued || not calm)) ≡ true → waits ≡ true
waits_by true issued calm a b e = refl
waits_by false false true a b e = e
waits_by false true calm a b e = absurd (cc)
waits_by false false false a b e = absurd (cc)

waiting_some : (s : State) → s.slots ≡ no_tasks → is_calm s.recovery ≡ true → to_do s ≡ true → list_any (λ waits. waits) s.waiting ≡ true
unfolding to_do
waiting_some s slots calm some = waits_by (list_any (λ waits. waits) s.waiting) (has IsIssued s.slots) (is_calm s.recovery) (ap (has IsIssued) slots ∙ none_issued) calm some

next_some : (s : State) → s.slots ≡ no_tasks → is_running s.stop ≡ true → is_calm s.recovery ≡ true → to_do s ≡ true → 1 ≤ s.plan.depth → is_some (next_issue s) ≡ true
unfolding next_issue
next_some s slots running calm some most =
    rw (running, calm) (issue_some s (next_place s) slots most (found s.waiting ∙ waiting_some s slots calm some))

not_none : (is : Bool) → is ≡ true → is ≡ false → false ≡ true
not_none is held missing = sym missing ∙ held

-- with no task issued, a request that waits is work for the host
no_work : (s : State) → s.slots ≡ no_tasks → to_do s ≡ true → 1 ≤ s.plan.depth → has_work s ≡ false → false ≡ true
unfolding has_work
no_work s slots some most work =
    let calm = or_parts (not (is_calm s.recovery)) (not (is_running s.stop) || (is_irq_due s || is_some (next_issue s))) work in
    let running = or_parts (not (is_running s.stop)) (is_irq_due s || is_some (next_issue s)) calm.1 in
    let irq = or_parts (is_irq_due s) (is_some (next_issue s)) running.1 in
    not_none (is_some (next_issue s)) (next_some s slots (not_false (is_running s.stop) running.0) (not_false (is_calm s.recovery) calm.0) some most) irq.1

cleared_work : (r : State) → has_work (record r { recovery = Cleared }) ≡ false → false ≡ true
unfolding has_work
cleared_work r work = sym work

steps_same : (r : State) (recovery : Recovery) → has_work (recovery_steps_at r recovery) ≡ false → to_do (recovery_steps_at r recovery) ≡ true → 1 ≤ r.plan.depth → recovery_steps_at r recovery ≡ r
steps_same r Calm work some most = refl
steps_same r Cleared work some most = refl
steps_same r Halted work some most = absurd (false≢true (cleared_work r work))
steps_same r Discarded work some most = absurd (false≢true (no_work (record r { recovery = Calm; slots = no_tasks }) refl some most work))
steps_same r Cleaned work some most = absurd (false≢true (no_work (record r { recovery = Calm; slots = no_tasks }) refl some most work))
steps_same r Resumed work some most = absurd (false≢true (no_work (record r { recovery = Calm; slots = no_tasks }) refl some most work))

-- behind a recovery the host has work, where something is to do
pub no_steps : (r : State) → has_work (recovery_steps r) ≡ false → to_do (recovery_steps r) ≡ true → 1 ≤ r.plan.depth → recovery_steps r ≡ r
unfolding recovery_steps
no_steps r work some most = steps_same r r.recovery work some most

-- where the engine's event comes next
pub engine_onward : (r s : State) → Reached r s → has_work s ≡ false → to_do s ≡ true → 1 ≤ r.plan.depth → Onward r s
engine_onward r s (inl x) work some most =
    let at = sym x.steps ∙ calm_steps s (calm_work s work) in
    inl (sym at ∙ no_steps r (ap has_work at ∙ work) (ap to_do at ∙ some) most)
engine_onward r s (inr (inl x)) work some most = inr (inl (rw (no_steps r x.work x.some most) at x))
engine_onward r s (inr (inr x)) work some most = inr (inr (rw (no_steps r x.work x.some most) at x))

-- and where that of a due cut does
pub late_onward : (r s : State) → Reached r s → is_due s ≡ true → 1 ≤ r.plan.depth → (s ≡ r) ⊎ IsBusied r s
late_onward r s (inl x) late most = inl (x.due late)
late_onward r s (inr (inl x)) late most = absurd (false≢true (not_ticked (recovery_steps r) s x late))
late_onward r s (inr (inr x)) late most = inr (rw (no_steps r x.work x.some most) at x)
