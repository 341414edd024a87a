-- The answers of an interrupt leave the phase under way: its command is due between them too.
use Rattle.std.proofs.Common.{◌≡◌, ◌∙◌, ℕ, ◌+◌, ◌<◌, ◌==◌, Bool, true, false, cond, List, [], ◌∷◌, ◌++◌, Option, None, Some, get_or, length, refl, ap, sym, subst, arith, inl, inr, zero-add}
use Rattle.std.specs.Prelude.{◌&&◌, if◌then◌else◌, nat_lt, slice_set}
use Rattle.std.specs.List.{find}
use Rattle.std.proofs.lemmas.Bool.{and_parts, cases_lt, false≢true}
use Rattle.std.proofs.lemmas.List.{get_or_past}
use Rattle.std.proofs.lemmas.Option.{none-some, same_Some}
use Rattle.storage_model.specs.Left.{is_left}
use Rattle.storage_model.specs.declared.block.Block.{Block}
use Rattle.storage_model.specs.declared.marks.Mark.{Mark}
use Rattle.storage_model.specs.declared.plan.Job.{Job}
use Rattle.storage_model.specs.declared.plan.Plan.{Plan}
use Rattle.storage_model.specs.declared.trace.Item.{Item}
use Rattle.storage_model.specs.declared.trace.Item.TheVariants.{Card, Issue, Params, Address, Poll, Phase, Discard, Bus, Flash, Recover, Irq, Done, Read, Sector, Status, Fault, Refused, Cut, Lost, On, Left, Turn, Off}
use Rattle.storage_machine.proofs.Changes.{changed_from-at, length-changed_from}
use Rattle.storage_machine.specs.Commands.{command_of_tasks, due, execute_or_poll, first_high, is_running, job_on, next_ready, queue_first}
use Rattle.storage_machine.specs.Jobs.{is_high, job_of}
use Rattle.storage_machine.specs.Slots.{asks, asks_of, changed, changed_from, changed_slots, first, has, id_of, moved, slot_at}
use Rattle.storage_machine.specs.declared.commands.DueCommand.{DueCommand}
use Rattle.storage_machine.specs.declared.commands.DueCommand.TheVariants.{Idle, Execute, Poll as PollDue}
use Rattle.storage_machine.specs.declared.slots.Change.{Change}
use Rattle.storage_machine.specs.declared.slots.Change.TheVariants.{Collect, Answer}
use Rattle.storage_machine.specs.declared.slots.Question.TheVariants as question
use Rattle.storage_machine.specs.declared.state.Owed.{Owed}
use Rattle.storage_machine.specs.declared.state.Owed.TheVariants.{Card as CardOwed, Nothing, Closed, Bus as BusOwed, Flash as FlashOwed, Answers, Sectors, Recover as RecoverOwed, Dark, Left as LeftOwed, End as Ended}
use Rattle.storage_machine.specs.declared.state.Standing.TheVariants as standing
use Rattle.storage_machine.specs.declared.state.State.{State}
use Rattle.storage_machine.specs.declared.state.Stop.{Stop}
use Rattle.storage_machine.specs.declared.state.Task.{Task}
use Rattle.storage_order.specs.Events.{More}
use Rattle.trace_effects.specs.Effects.{after_answer, after_irq, after_read, after_sector, answers_left, effect, over, shown_on}
use Rattle.trace_rules.specs.Lines.{data_on}
use Rattle.front_laws.proofs.Finds.{found_kept, found_passes, none_kept}
use Rattle.world_state.specs.Stands.{IsNear, first_puts, puts_on}

-- an interrupt and its answers
abbrev pub is_answer : Item → Bool
is_answer (Irq mask) = true
is_answer (Done id) = true
is_answer (Read id) = true
is_answer (Sector value) = true
is_answer (Status id word) = true
is_answer item = false

abbrev pub all_answers : List Item → Bool
all_answers [] = true
all_answers (item ∷ items) = is_answer item && all_answers items

-- tasks that are ready may only go
pub record Shrinks (s t : State) : Type 0 where
  pub base : t.base ≡ s.base
  pub pend : t.pend ≡ s.pend
  pub plan : t.plan ≡ s.plan
  pub busy : t.busy ≡ s.busy
  pub stop : t.stop ≡ s.stop
  pub order : t.order ≡ s.order
  pub ready : (tag : ℕ) → asks question.Ready (slot_at t.slots tag) ≡ true → slot_at t.slots tag ≡ slot_at s.slots tag

pub shrinks_self : (s : State) → Shrinks s s
shrinks_self s = record { base = refl; pend = refl; plan = refl; busy = refl; stop = refl; order = refl; ready = λ tag h. refl }

was_ready : (s t : State) (tag : ℕ) → Shrinks s t → asks question.Ready (slot_at t.slots tag) ≡ true → asks question.Ready (slot_at s.slots tag) ≡ true
was_ready s t tag shrinks h = sym (ap (asks question.Ready) (shrinks.ready tag h)) ∙ h

pub shrinks_then : (s t u : State) → Shrinks s t → Shrinks t u → Shrinks s u
shrinks_then s t u before after = record {
  base = after.base ∙ before.base;
  pend = after.pend ∙ before.pend;
  plan = after.plan ∙ before.plan;
  busy = after.busy ∙ before.busy;
  stop = after.stop ∙ before.stop;
  order = after.order ∙ before.order;
  ready = λ tag h. after.ready tag h ∙ before.ready tag (was_ready t u tag after h);
}

-- a change of the slots, tag by tag

slot_in : (change : Change) (slots : List (Option Task)) (tag : ℕ) → tag < length slots → slot_at (changed_slots change slots) tag ≡ changed change tag (slot_at slots tag)
unfolding changed_slots
slot_in change slots tag below = changed_from-at change 0 tag slots None below ∙ ap (λ n. changed change n (slot_at slots tag)) (zero-add tag)

slot_past : (change : Change) (slots : List (Option Task)) (tag : ℕ) → (tag < length slots → ⊥) → slot_at (changed_slots change slots) tag ≡ None
unfolding changed_slots
slot_past change slots tag past = get_or_past (changed_from change 0 slots) tag None (elim (cases_lt tag (length slots)) [
  | inl below ↦ absurd (past below)
  | inr beyond ↦ let long = length-changed_from change 0 slots in omega (arith, long, beyond)
])

-- the change takes tasks away, or makes them another's than a ready one's
abbrev Takes : Change → Type 0
Takes change = (tag : ℕ) (slot : Option Task) → asks question.Ready (changed change tag slot) ≡ true → changed change tag slot ≡ slot

takes_ready : (change : Change) (slots : List (Option Task)) (tag : ℕ) → Takes change → asks question.Ready (slot_at (changed_slots change slots) tag) ≡ true
    → slot_at (changed_slots change slots) tag ≡ slot_at slots tag
takes_ready change slots tag takes h = elim (cases_lt tag (length slots)) [
  | inl below ↦
      let here = slot_in change slots tag below in
      here ∙ takes tag (slot_at slots tag) (sym (ap (asks question.Ready) here) ∙ h)
  | inr beyond ↦ absurd (false≢true (sym (ap (asks question.Ready) (slot_past change slots tag (λ below. absurd (omega (arith, below, beyond))))) ∙ h))
]

collects_if : (task : Task) (done : Bool) → asks question.Ready (if done then moved standing.Collected task else Some task) ≡ true → (if done then moved standing.Collected task else Some task) ≡ Some task
collects_if task true h = absurd (false≢true h)
collects_if task false h = refl

takes_collect : Takes Collect
takes_collect tag None h = refl
takes_collect tag (Some task) h = collects_if task (asks_of question.Done task.standing) h

answers_if : (task : Task) (own : Bool) → asks question.Ready (if own then None else Some task) ≡ true → (if own then None else Some task) ≡ Some task
answers_if task true h = absurd (false≢true h)
answers_if task false h = refl

takes_answer : (id : ℕ) → Takes (Answer id)
takes_answer id tag None h = refl
takes_answer id tag (Some task) h = answers_if task (task.id == id) h

-- each line

shown_if : (s : State) (tag k : ℕ) (more : Bool) → Shrinks s (if more then over s (Sectors tag (k + 1)) else over (record s { «data» = slice_set s.data tag [] }) (answers_left s.slots))
shown_if s tag k true = record { base = refl; pend = refl; plan = refl; busy = refl; stop = refl; order = refl; ready = λ tag h. refl }
shown_if s tag k false = record { base = refl; pend = refl; plan = refl; busy = refl; stop = refl; order = refl; ready = λ tag h. refl }

shown_shrinks : (s : State) (owed : Owed) → Shrinks s (shown_on s owed)
shown_shrinks s CardOwed = shrinks_self s
shown_shrinks s Nothing = shrinks_self s
shown_shrinks s Closed = shrinks_self s
shown_shrinks s (BusOwed n id kind) = shrinks_self s
shown_shrinks s (FlashOwed id) = shrinks_self s
shown_shrinks s Answers = shrinks_self s
shown_shrinks s (Sectors tag k) = shown_if s tag k (nat_lt (k + 1) (length (data_on s tag)))
shown_shrinks s RecoverOwed = shrinks_self s
shown_shrinks s (Dark cuts) = shrinks_self s
shown_shrinks s (LeftOwed from) = shrinks_self s
shown_shrinks s Ended = shrinks_self s

pub answer_shrinks : (s : State) (item : Item) → is_answer item ≡ true → Shrinks s (effect s item)
unfolding effect after_irq after_answer after_read after_sector
answer_shrinks s (Card sectors depth lines) h = absurd (false≢true h)
answer_shrinks s (Turn letter) h = absurd (false≢true h)
answer_shrinks s (Issue id tag) h = absurd (false≢true h)
answer_shrinks s (Params n id) h = absurd (false≢true h)
answer_shrinks s (Address n id) h = absurd (false≢true h)
answer_shrinks s (Poll n mask) h = absurd (false≢true h)
answer_shrinks s (Phase n id count kept) h = absurd (false≢true h)
answer_shrinks s (Bus n kind id) h = absurd (false≢true h)
answer_shrinks s (Flash id) h = absurd (false≢true h)
answer_shrinks s (Irq mask) h = record { base = refl; pend = refl; plan = refl; busy = refl; stop = refl; order = refl; ready = λ tag h. takes_ready Collect s.slots tag takes_collect h }
answer_shrinks s (Done id) h = record { base = refl; pend = refl; plan = refl; busy = refl; stop = refl; order = refl; ready = λ tag h. takes_ready (Answer id) s.slots tag (takes_answer id) h }
answer_shrinks s (Read id) h = record { base = refl; pend = refl; plan = refl; busy = refl; stop = refl; order = refl; ready = λ tag h. takes_ready (Answer id) s.slots tag (takes_answer id) h }
answer_shrinks s (Sector value) h = shown_shrinks s s.owed
answer_shrinks s (Status id word) h = record { base = refl; pend = refl; plan = refl; busy = refl; stop = refl; order = refl; ready = λ tag h. takes_ready (Answer id) s.slots tag (takes_answer id) h }
answer_shrinks s Recover h = absurd (false≢true h)
answer_shrinks s (Discard n) h = absurd (false≢true h)
answer_shrinks s (Fault id why) h = absurd (false≢true h)
answer_shrinks s (Refused id why) h = absurd (false≢true h)
answer_shrinks s Cut h = absurd (false≢true h)
answer_shrinks s (Lost id) h = absurd (false≢true h)
answer_shrinks s On h = absurd (false≢true h)
answer_shrinks s (Left sector value) h = absurd (false≢true h)
answer_shrinks s (Off end) h = absurd (false≢true h)

pub answers_shrink : (s t : State) (items : List Item) → all_answers items ≡ true → More s items t → Shrinks s t
answers_shrink s t [] h more = subst (λ (x : State). Shrinks s x) (sym more) (shrinks_self s)
answers_shrink s t (item ∷ items) h more =
    let parts = and_parts (is_answer item) (all_answers items) h in
    shrinks_then s (effect s item) t (answer_shrinks s item parts.0) (answers_shrink (effect s item) t items parts.1 more.2)

-- the command of a phase under way

polls : (more : Bool) (tag : ℕ) → (if more then PollDue else Idle) ≡ Execute tag → ⊥
polls true tag e = absurd (cc (e))
polls false tag e = absurd (cc (e))

executed : (s : State) (ready : Option ℕ) (tag : ℕ) → execute_or_poll s ready ≡ Execute tag → ready ≡ Some tag
executed s (Some slot) tag e = let same : slot ≡ tag = cc (e) in ap Some same
executed s None tag e = absurd (polls (has question.Sent s.slots) tag e)

abbrev test_ready : State → ℕ → Bool
test_ready s tag = asks question.Ready (slot_at s.slots tag)

abbrev test_high : State → ℕ → Bool
test_high s tag = asks question.Ready (slot_at s.slots tag) && is_high (job_on s tag)

ready_by : (s : State) (high : Option ℕ) (tag : ℕ) → first_high s ≡ high → next_ready s high ≡ Some tag → test_ready s tag ≡ true
ready_by s (Some other) tag e h =
    let found : first_high s ≡ Some tag = e ∙ h in
    (and_parts (test_ready s tag) (is_high (job_on s tag)) (found_passes (test_high s) s.order tag found)).0
ready_by s None tag e h = found_passes (test_ready s) s.order tag h

job_kept : (s t : State) (tag : ℕ) → Shrinks s t → test_ready t tag ≡ true → job_on t tag ≡ job_on s tag
job_kept s t tag shrinks h =
    ap (λ (plan : Plan). job_of plan.jobs (id_of (slot_at t.slots tag))) shrinks.plan ∙ ap (λ slot. job_of s.plan.jobs (id_of slot)) (shrinks.ready tag h)

fewer_high : (s t : State) (tag : ℕ) → Shrinks s t → test_high t tag ≡ true → test_high s tag ≡ true
fewer_high s t tag shrinks h =
    let parts = and_parts (test_ready t tag) (is_high (job_on t tag)) h in
    ap (λ b. b && is_high (job_on s tag)) (was_ready s t tag shrinks parts.0) ∙ (sym (ap is_high (job_kept s t tag shrinks parts.0)) ∙ parts.1)

still_high : (s t : State) (tag : ℕ) → Shrinks s t → test_ready t tag ≡ true → test_high s tag ≡ true → test_high t tag ≡ true
still_high s t tag shrinks ready h =
    let parts = and_parts (test_ready s tag) (is_high (job_on s tag)) h in
    ap (λ b. b && is_high (job_on t tag)) ready ∙ (ap is_high (job_kept s t tag shrinks ready) ∙ parts.1)

next_kept : (s t : State) (high : Option ℕ) (tag : ℕ) → Shrinks s t → test_ready t tag ≡ true → first_high s ≡ high → next_ready s high ≡ Some tag → next_ready t (first_high t) ≡ Some tag
next_kept s t (Some other) tag shrinks ready e h =
    let found : find (test_high s) s.order ≡ Some tag = e ∙ h in
    let there : find (test_high t) s.order ≡ Some tag =
    found_kept (test_high s) (test_high t) s.order tag (λ n. fewer_high s t n shrinks) (still_high s t tag shrinks ready (found_passes (test_high s) s.order tag found)) found in
    let now : first_high t ≡ Some tag = ap (find (test_high t)) shrinks.order ∙ there in
    ap (next_ready t) now
next_kept s t None tag shrinks ready e h =
    let none : first_high t ≡ None =
    ap (find (test_high t)) shrinks.order ∙ none_kept (test_high s) (test_high t) s.order (λ n. fewer_high s t n shrinks) e in
    ap (next_ready t) none
    ∙ ap (find (test_ready t)) shrinks.order
    ∙ found_kept (test_ready s) (test_ready t) s.order tag (λ n. was_ready s t n shrinks) ready h

running_if : (s : State) (running : Bool) (tag : ℕ) → (if running then command_of_tasks s else Idle) ≡ Execute tag → running ≡ true
running_if s true tag e = refl
running_if s false tag e = absurd (cc (e))

busy_if : (s : State) (running busy : Bool) (tag : ℕ) → busy ≡ true
    → (if running then (if busy then execute_or_poll s (next_ready s (first_high s)) else queue_first s (first question.Named s.slots s.order) (first question.Rung s.slots s.order)) else Idle) ≡ Execute tag
    → execute_or_poll s (next_ready s (first_high s)) ≡ Execute tag
busy_if s true true tag b e = e
busy_if s true false tag b e = absurd (false≢true b)
busy_if s false busy tag b e = absurd (cc (e))

-- of a busy state, the next ready task
pub next_of_due : (s : State) (tag : ℕ) → s.busy ≡ true → due s ≡ Execute tag → next_ready s (first_high s) ≡ Some tag
unfolding due
next_of_due s tag busy e = executed s (next_ready s (first_high s)) tag (busy_if s (is_running s.stop) s.busy tag busy e)

runs_of_due : (s : State) (tag : ℕ) → due s ≡ Execute tag → is_running s.stop ≡ true
unfolding due
runs_of_due s tag e = running_if s (is_running s.stop) tag e

due_from : (s : State) (tag : ℕ) → is_running s.stop ≡ true → s.busy ≡ true → next_ready s (first_high s) ≡ Some tag → due s ≡ Execute tag
unfolding due
due_from s tag runs busy next =
    ap (λ b. cond b (command_of_tasks s) Idle) runs
    ∙ ap (λ b. cond b (execute_or_poll s (next_ready s (first_high s))) (queue_first s (first question.Named s.slots s.order) (first question.Rung s.slots s.order))) busy
    ∙ ap (execute_or_poll s) next

pub ready_of_due : (s : State) (tag : ℕ) → s.busy ≡ true → due s ≡ Execute tag → asks question.Ready (slot_at s.slots tag) ≡ true
ready_of_due s tag busy e = ready_by s (first_high s) tag refl (next_of_due s tag busy e)

pub due_kept : (s t : State) (tag : ℕ) → s.busy ≡ true → due s ≡ Execute tag → Shrinks s t → asks question.Ready (slot_at t.slots tag) ≡ true → due t ≡ Execute tag
due_kept s t tag busy e shrinks ready =
    due_from t tag (ap is_running shrinks.stop ∙ runs_of_due s tag e) (shrinks.busy ∙ busy)
    (next_kept s t (first_high s) tag shrinks ready refl (next_of_due s tag busy e))

-- so what is near before is near between
pub near_between : (s t u : State) (tag : ℕ) (pages : List Block) → s.busy ≡ true → due s ≡ Execute tag → due u ≡ Execute tag → Shrinks s t → Shrinks t u → IsNear s pages → IsNear t pages
near_between s t u tag pages busy e f before after near =
    let ready : asks question.Ready (slot_at t.slots tag) ≡ true = was_ready t u tag after (ready_of_due u tag (after.busy ∙ before.busy ∙ busy) f) in
    let due_is : due t ≡ Execute tag = due_kept s t tag busy e before ready in
    let puts : first_puts t (due t) near.count ≡ first_puts s (due s) near.count =
    ap (λ command. first_puts t command near.count) due_is
    ∙ ap (λ j. puts_on t.plan.blocks j near.count) (job_kept s t tag before ready)
    ∙ ap (λ (plan : Plan). puts_on plan.blocks (job_on s tag) near.count) before.plan
    ∙ sym (ap (λ command. first_puts s command near.count) e) in
    record {
      count = near.count;
      near = subst (λ puts. is_left t.base (t.pend ++ puts) pages ≡ true) (sym puts)
          (subst (λ base. is_left base (t.pend ++ first_puts s (due s) near.count) pages ≡ true) (sym before.base)
          (subst (λ pend. is_left s.base (pend ++ first_puts s (due s) near.count) pages ≡ true) (sym before.pend) near.near));
    }
