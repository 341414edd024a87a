-- What the due command, the next issue and the host's work say of the tasks.
use Rattle.std.proofs.Common.{inl, inr, ◌≡◌, ◌∙◌, ℕ, ◌==◌, Bool, true, false, cond, ◌&&◌, ◌||◌, not, is_some, Option, Some, None, find, position, List, [], ◌∷◌, refl, ap, ap₂, sym}
use Rattle.std.proofs.lemmas.Bool.{and_parts, both_ways, cases_Bool, cond-false, eqb-true, false≢true, false_from_ne_true, not_from_false, not-false, or_left, or_parts, or_right}
use Rattle.std.proofs.lemmas.List.Folds.{list_any_at}
use Rattle.std.proofs.lemmas.List.Quantifiers.{position-Some}
use Rattle.std.proofs.lemmas.Option.{none-some, same_Some}
use Rattle.std.specs.List.{list_any}
use Rattle.one_trace.proofs.Slots.{any_issued, both_none, first_none}
use Rattle.storage_machine.specs.Commands.{command_of_tasks, due, execute_or_poll, first_high, is_calm, is_none_due, is_running, job_on, next_ready, queue_first}
use Rattle.storage_machine.specs.Host.{has_work, is_irq_due, issue_of, next_issue, next_place, to_do}
use Rattle.storage_machine.specs.Jobs.{is_direct, is_high}
use Rattle.storage_machine.specs.Slots.{asks, first, has, slot_at}
use Rattle.storage_machine.specs.declared.commands.DueCommand.{DueCommand}
use Rattle.storage_machine.specs.declared.commands.DueCommand.TheVariants.{Idle, Address, Params, Direct, Poll}
use Rattle.storage_machine.specs.declared.slots.Question.TheVariants.{Rung, Named, Sent, Ready, Done, Issued}
use Rattle.storage_machine.specs.declared.state.State.{State}
use Rattle.trace_rules.specs.Lines.{is_pair}

-- what is to do

pub issued_to_do : (s : State) → has Issued s.slots ≡ true → to_do s ≡ true
unfolding to_do
issued_to_do s some = or_right (list_any (λ waits. waits) s.waiting) (has Issued s.slots || not (is_calm s.recovery)) (or_left (has Issued s.slots) (not (is_calm s.recovery)) some)

pub waiting_to_do : (s : State) → list_any (λ waits. waits) s.waiting ≡ true → to_do s ≡ true
unfolding to_do
waiting_to_do s some = or_left (list_any (λ waits. waits) s.waiting) (has Issued s.slots || not (is_calm s.recovery)) some

pub calm_to_do : (s : State) → is_calm s.recovery ≡ false → to_do s ≡ true
unfolding to_do
calm_to_do s none = or_right (list_any (λ waits. waits) s.waiting) (has Issued s.slots || not (is_calm s.recovery)) (or_right (has Issued s.slots) (not (is_calm s.recovery)) (not_from_false (is_calm s.recovery) none))

pub done_to_do : (s : State) → has Done s.slots ≡ true → to_do s ≡ true
done_to_do s done = issued_to_do s (any_issued Done s.slots refl done)

-- where no task is issued no command is due

sent_none : (s : State) → has Issued s.slots ≡ false → has Sent s.slots ≡ false
sent_none s none = false_from_ne_true (has Sent s.slots) (λ sent. both_ways (has Issued s.slots) none (any_issued Sent s.slots refl sent))

execute_none : (s : State) → has Issued s.slots ≡ false → execute_or_poll s (next_ready s (first_high s)) ≡ Idle
execute_none s none =
    ap (λ high. execute_or_poll s (next_ready s high)) (both_none Ready (λ tag. is_high (job_on s tag)) s.slots s.order refl none)
    ∙ (ap (execute_or_poll s) (first_none Ready s.slots s.order refl none) ∙ ap (λ sent. cond sent Poll Idle) (sent_none s none))

queue_none : (s : State) → has Issued s.slots ≡ false → queue_first s (first Named s.slots s.order) (first Rung s.slots s.order) ≡ Idle
queue_none s none =
    ap (λ named. queue_first s named (first Rung s.slots s.order)) (first_none Named s.slots s.order refl none)
    ∙ (ap (queue_first s None) (first_none Rung s.slots s.order refl none) ∙ execute_none s none)

same_both : (b : Bool) (x y z : DueCommand) → x ≡ z → y ≡ z → cond b x y ≡ z
same_both true x y z left right = left
same_both false x y z left right = right

none_due : (s : State) → has Issued s.slots ≡ false → due s ≡ Idle
unfolding due
none_due s none =
    same_both (is_running s.stop) (command_of_tasks s) Idle Idle
    (same_both s.busy (execute_or_poll s (next_ready s (first_high s))) (queue_first s (first Named s.slots s.order) (first Rung s.slots s.order)) Idle (execute_none s none) (queue_none s none))
    refl

pub due_to_do : (s : State) → is_none_due (due s) ≡ false → to_do s ≡ true
due_to_do s some =
    elim (cases_Bool (has Issued s.slots)) [
      | inl issued ↦ issued_to_do s issued
      | inr none ↦ absurd (both_ways (is_none_due (due s)) some (ap is_none_due (none_due s none)))
    ]

-- nor where the engine has stopped

stopped_due : (s : State) → is_running s.stop ≡ false → due s ≡ Idle
unfolding due
stopped_due s stopped = cond-false (is_running s.stop) (command_of_tasks s) Idle stopped

pub due_running : (s : State) → is_none_due (due s) ≡ false → is_running s.stop ≡ true
due_running s some =
    elim (cases_Bool (is_running s.stop)) [
      | inl running ↦ running
      | inr stopped ↦ absurd (both_ways (is_none_due (due s)) some (ap is_none_due (stopped_due s stopped)))
    ]

-- a task that is due its address is named

found_if : (p : ℕ → Bool) (y x : ℕ) (b : Bool) (rest : Option ℕ) → p y ≡ b → (rest ≡ Some x → p x ≡ true) → cond b (Some y) rest ≡ Some x → p x ≡ true
found_if p y x true rest e later h = ap p (sym (same_Some y x h)) ∙ e
found_if p y x false rest e later h = later h

found_passes : (p : ℕ → Bool) (xs : List ℕ) (x : ℕ) → find p xs ≡ Some x → p x ≡ true
found_passes p [] x h = absurd (none-some x h)
found_passes p (y ∷ ys) x h = found_if p y x (p y) (find p ys) refl (found_passes p ys x) h

poll_else : (b : Bool) (tag : ℕ) → cond b Poll Idle ≡ Address tag → false ≡ true
poll_else true tag e = absurd (cc)
poll_else false tag e = absurd (cc)

execute_else : (s : State) (ready : Option ℕ) (tag : ℕ) → execute_or_poll s ready ≡ Address tag → false ≡ true
execute_else s None tag e = poll_else (has Sent s.slots) tag e
execute_else s (Some ready) tag e = absurd (cc)

direct_else : (b : Bool) (rung tag : ℕ) → cond b (Direct rung) (Params rung) ≡ Address tag → false ≡ true
direct_else true rung tag e = absurd (cc)
direct_else false rung tag e = absurd (cc)

queue_named : (s : State) (named rung : Option ℕ) (tag : ℕ) → queue_first s named rung ≡ Address tag → named ≡ Some tag
queue_named s (Some other) rung tag e = cc
queue_named s None (Some rung) tag e = absurd (false≢true (direct_else (is_direct (job_on s rung)) rung tag e))
queue_named s None None tag e = absurd (false≢true (execute_else s (next_ready s (first_high s)) tag e))

tasks_named : (s : State) (busy : Bool) (tag : ℕ)
    → cond busy (execute_or_poll s (next_ready s (first_high s))) (queue_first s (first Named s.slots s.order) (first Rung s.slots s.order)) ≡ Address tag
    → first Named s.slots s.order ≡ Some tag
tasks_named s true tag e = absurd (false≢true (execute_else s (next_ready s (first_high s)) tag e))
tasks_named s false tag e = queue_named s (first Named s.slots s.order) (first Rung s.slots s.order) tag e

running_named : (s : State) (running : Bool) (tag : ℕ) → cond running (command_of_tasks s) Idle ≡ Address tag → first Named s.slots s.order ≡ Some tag
running_named s true tag e = tasks_named s s.busy tag e
running_named s false tag e = absurd (cc)

pub address_named : (s : State) (tag : ℕ) → due s ≡ Address tag → asks Named (slot_at s.slots tag) ≡ true
unfolding due
address_named s tag e = found_passes (λ tag. asks Named (slot_at s.slots tag)) s.order tag (running_named s (is_running s.stop) tag e)

-- the host has nothing to do

pub record IsQuiet (s : State) : Type 0 where
  pub calm : is_calm s.recovery ≡ true
  pub running : is_running s.stop ≡ true
  pub irq : is_irq_due s ≡ false
  pub issue : next_issue s ≡ None

some_none : (issue : Option (ℕ × ℕ)) → is_some issue ≡ false → issue ≡ None
some_none None e = refl
some_none (Some pair) e = absurd (cc)

pub work_none : (s : State) → has_work s ≡ false → IsQuiet s
unfolding has_work
work_none s none =
    let calm = or_parts (not (is_calm s.recovery)) (not (is_running s.stop) || (is_irq_due s || is_some (next_issue s))) none in
    let running = or_parts (not (is_running s.stop)) (is_irq_due s || is_some (next_issue s)) calm.1 in
    let irq = or_parts (is_irq_due s) (is_some (next_issue s)) running.1 in
    record { calm = not-false (is_calm s.recovery) calm.0; running = not-false (is_running s.stop) running.0; irq = irq.0; issue = some_none (next_issue s) irq.1 }

-- a request may be issued

pub record MayIssue (s : State) (id tag : ℕ) : Type 0 where
  pub running : is_running s.stop ≡ true
  pub calm : is_calm s.recovery ≡ true
  pub waits : list_any (λ waits. waits) s.waiting ≡ true
  pub pair : next_issue s ≡ Some (id, tag)

pair_is : (id tag : ℕ) (issue : Option (ℕ × ℕ)) → is_pair id tag issue ≡ true → issue ≡ Some (id, tag)
pair_is id tag None h = absurd (cc)
pair_is id tag (Some pair) h =
    let parts = and_parts (id == pair.0) (tag == pair.1) h in
    ap₂ (λ x y. Some (x, y)) (sym (eqb-true id pair.0 parts.0)) (sym (eqb-true tag pair.1 parts.1))

issue_if : (s : State) (b : Bool) (pair : ℕ × ℕ) → cond b (issue_of s (next_place s)) None ≡ Some pair → (b ≡ true) × (issue_of s (next_place s) ≡ Some pair)
issue_if s true pair e = (refl, e)
issue_if s false pair e = absurd (none-some pair e)

place_some : (s : State) (place : Option ℕ) (pair : ℕ × ℕ) → issue_of s place ≡ Some pair → is_some place ≡ true
place_some s None pair e = absurd (none-some pair e)
place_some s (Some place) pair e = refl

waits_at : (waiting : List Bool) (place : Option ℕ) → position (λ waits. waits) waiting ≡ place → is_some place ≡ true → list_any (λ waits. waits) waiting ≡ true
waits_at waiting None at some = absurd (cc)
waits_at waiting (Some place) at some =
    let found = position-Some (λ waits. waits) waiting place false at in
    list_any_at (λ waits. waits) waiting place false found.0 found.1

pub may_issue : (s : State) (id tag : ℕ) → is_pair id tag (next_issue s) ≡ true → MayIssue s id tag
unfolding next_issue
may_issue s id tag h =
    let pair = pair_is id tag (next_issue s) h in
    let parts = issue_if s (is_running s.stop && is_calm s.recovery) (id, tag) pair in
    let stands = and_parts (is_running s.stop) (is_calm s.recovery) parts.0 in
    record {
      running = stands.0;
      calm = stands.1;
      waits = waits_at s.waiting (next_place s) refl (place_some s (next_place s) (id, tag) parts.1);
      pair = pair;
    }
