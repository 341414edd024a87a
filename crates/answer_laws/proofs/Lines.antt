-- What the host's and the engine's lines leave.
use Rattle.std.proofs.Common.{inl, inr, ◌≡◌, ◌∙◌, ℕ, zero, suc, ◌+◌, ◌-◌, ◌≤◌, ◌<◌, ◌==◌, Bool, true, false, cond, ◌&&◌, not, option_map, Option, Some, None, List, [], length, position, slice_index_or, slice_set, refl, ap, sym, subst, arith}
use Rattle.std.proofs.lemmas.Bool.{and_parts, both_ways, cases_eq, eq-eqb, false≢true, ne_eqb}
use Rattle.std.proofs.lemmas.List.Quantifiers.{position-Some}
use Rattle.std.proofs.lemmas.Option.{none-some, same_Some, some_pair_parts}
use Rattle.std.specs.Int.{bit_at}
use Rattle.std.specs.List.{list_any}
use Rattle.answer_laws.proofs.Dues.{IsTask, address_task, calm_by, due_calm, due_open, params_task}
use Rattle.answer_laws.proofs.Settled.{Stays, left_of, either, same, step_stays, then, told}
use Rattle.answer_laws.proofs.Stands.{IsKept, Kept, Owes, Stands, free_none, free_recover, is_bus_owed, owed_kept, stands_map, stands_running, step_kept}
use Rattle.answer_laws.proofs.Tasks.{bit, is_active, is_held, is_live, is_on, length_changed, length_set, live_collected, pending, room_le, tasks, tasks_collected, tasks_moved, tasks_ready, tasks_set, waits, waits_same, waits_set}
use Rattle.answer_laws.specs.Answers.{is_answer_to}
use Rattle.one_trace.proofs.Dues.{due_running, may_issue}
use Rattle.one_trace.proofs.Slots.{done_past, is_past, none_at, none_changed, none_collected, none_moved, none_ready, none_set}
use Rattle.storage_machine.specs.Commands.{due, is_calm, is_none_due, is_running, polled_mask}
use Rattle.storage_machine.specs.Host.{below, has_work, is_irq_due, is_silent, issue_of, next_issue, next_place, recovery_step, tag_for}
use Rattle.storage_machine.specs.Jobs.{is_direct, is_in_range, job_of}
use Rattle.storage_machine.specs.Slots.{asks, asks_of, changed, changed_slots, has, mask_of, moved, slot_at, tag_of}
use Rattle.storage_machine.specs.declared.commands.DueCommand.{DueCommand}
use Rattle.storage_machine.specs.declared.commands.DueCommand.TheVariants.{Poll as PollDue}
use Rattle.storage_machine.specs.declared.slots.Change.TheVariants.{MakeReady, Collect, Move}
use Rattle.storage_machine.specs.declared.slots.Question.TheVariants.{Sent as IsSent, Done as IsDone, Collected as IsCollected, Issued as IsIssued, Vacant as IsVacant}
use Rattle.storage_machine.specs.declared.state.Event.TheVariants.{Untold, Told}
use Rattle.storage_machine.specs.declared.state.Owed.{Owed}
use Rattle.storage_machine.specs.declared.state.Owed.TheVariants.{Nothing, Answers}
use Rattle.storage_machine.specs.declared.state.Recovery.{Recovery}
use Rattle.storage_machine.specs.declared.state.Recovery.TheVariants.{Calm, Halted, Cleared, Discarded, Cleaned, Resumed}
use Rattle.storage_machine.specs.declared.state.Standing.{Standing}
use Rattle.storage_machine.specs.declared.state.Standing.TheVariants.{Rung, Named, Sent, Ready, Done as DoneTask, Collected}
use Rattle.storage_machine.specs.declared.state.State.{State}
use Rattle.storage_machine.specs.declared.state.Stop.{Stop}
use Rattle.storage_machine.specs.declared.state.Stop.TheVariants.{Bus as BusStop}
use Rattle.storage_machine.specs.declared.state.Task.{Task}
use Rattle.storage_model.specs.declared.faults.Letter.{Letter}
use Rattle.storage_model.specs.declared.faults.Letter.TheVariants.{Host as HostActs, Engine as EngineActs, Card as CardActs, Cut as PowerActs}
use Rattle.storage_model.specs.declared.plan.Job.{Job}
use Rattle.storage_model.specs.declared.plan.Plan.{Plan}
use Rattle.storage_model.specs.declared.trace.Item.{Item}
use Rattle.storage_model.specs.declared.trace.Item.TheVariants.{Issue, Params, Address, Poll, Discard, Bus, Irq, Turn}
use Rattle.trace_effects.specs.Effects.{addressed, after_address, after_discard, after_irq, after_issue, after_params, after_poll, after_turn, begun, begun_by, effect, letters_used, over}
use Rattle.trace_rules.specs.Lines.{address_holds, discard_holds, holds, irq_holds, is_address, is_free, is_heard, is_params, is_poll, is_recover_owed, may_discard, params_holds, poll_holds}

-- a reached state, with the plan's requests and the number of sectors
pub record IsSteady (own : Plan) (size : ℕ) (s : State) : Type 0 where
  pub plan : s.plan ≡ own
  pub sectors : length s.base ≡ size
  pub kept : Kept own.jobs size s

abbrev pub is_bus : Item → Bool
is_bus (Bus n kind id) = true
is_bus item = false

pub record Leads (jobs : List Job) (size : ℕ) (x t : State) (item : Item) : Type 0 where
  pub kept : Kept jobs size t
  pub law : (id : ℕ) → left_of id t + bit (is_answer_to id item) ≡ left_of id x
  pub named : is_bus item ≡ false → t.named ≡ x.named
  pub faults : t.faults ≡ x.faults
  pub quiet : x.faults.bus ≡ [] → is_bus_owed t.owed ≡ false

-- the stop and the counts of faults stay
pub line_kept : (jobs : List Job) (size : ℕ) (waiting after : List Bool) (named : List ℕ) (slots changed : List (Option Task)) (stop : Stop) (recovery next : Recovery) (owed other : Owed) (item : Item)
    → IsKept jobs size waiting named slots stop recovery owed → ((id : ℕ) → pending id after next changed + bit (is_answer_to id item) ≡ pending id waiting recovery slots)
    → length after ≡ length waiting → length changed ≡ length slots → (is_calm next ≡ false → list_any is_active changed ≡ false) → list_any (done_past jobs size) changed ≡ false
    → Owes changed stop next other → Stands jobs size after changed next other stop → IsKept jobs size after named changed stop next other
line_kept jobs size waiting after named slots changed stop recovery next owed other item i law long tags held served owes stands = record {
  long = long ∙ i.long;
  names = i.names;
  tags = tags ∙ i.tags;
  fits = λ id. omega (arith, law id, i.fits id);
  held = held;
  served = served;
  owes = owes;
  stands = stands;
  most = i.most;
  fourth = λ id one four. i.fourth id (omega (arith, law id, one, i.fits id, room_le (length jobs) id)) four;
}

pub calm_left : (id : ℕ) (waiting : List Bool) (recovery : Recovery) (slots : List (Option Task)) → is_calm recovery ≡ true → pending id waiting recovery slots ≡ waits id waiting + tasks id slots
calm_left id waiting recovery slots calm = ap (λ c. waits id waiting + cond c (tasks id slots) 0) calm

same_left : (id : ℕ) (waiting : List Bool) (recovery : Recovery) (slots changed : List (Option Task)) → tasks id changed ≡ tasks id slots → pending id waiting recovery changed + 0 ≡ pending id waiting recovery slots
same_left id waiting recovery slots changed e = omega (arith, ap (λ n. waits id waiting + cond (is_calm recovery) n 0) e)

pub unheld : (recovery : Recovery) (slots : List (Option Task)) → is_calm recovery ≡ true → is_calm recovery ≡ false → list_any is_active slots ≡ false
unheld recovery slots calm busy = absurd (both_ways (is_calm recovery) busy calm)

-- no task is collected by another change

uncollected_if : (b : Bool) (x y : Option Task) → asks IsCollected x ≡ false → asks IsCollected y ≡ false → asks IsCollected (cond b x y) ≡ false
uncollected_if true x y left right = left
uncollected_if false x y left right = right

move_uncollected : (id : ℕ) (standing : Standing) → asks_of IsCollected standing ≡ false → (tag : ℕ) (slot : Option Task) → asks IsCollected slot ≡ false → asks IsCollected (changed (Move id standing) tag slot) ≡ false
move_uncollected id standing off tag None e = refl
move_uncollected id standing off tag (Some task) e = uncollected_if (task.id == id) (moved standing task) (Some task) off e

ready_uncollected : (word tag : ℕ) (slot : Option Task) → asks IsCollected slot ≡ false → asks IsCollected (changed (MakeReady word) tag slot) ≡ false
ready_uncollected word tag None e = refl
ready_uncollected word tag (Some task) e = uncollected_if (asks_of IsSent task.standing && (bit_at word tag == 1)) (moved Ready task) (Some task) refl e

-- letters

begun_stays : (jobs : List Job) (size : ℕ) (s : State) (letter : Letter) → Kept jobs size s → Stays jobs size s (begun_by s letter)
begun_stays jobs size s HostActs i =
    let steps = step_stays jobs size s i in
    either jobs size (is_silent s.recovery) s (record (recovery_step s) { event = Untold }) (record s { event = cond (has_work s) (Told HostActs) Untold })
    (then jobs size s (recovery_step s) (record (recovery_step s) { event = Untold }) steps (told jobs size (recovery_step s) Untold steps.kept))
    (told jobs size s (cond (has_work s) (Told HostActs) Untold) i)
begun_stays jobs size s EngineActs i = told jobs size s (Told EngineActs) i
begun_stays jobs size s CardActs i = record { kept = i; left = λ id. refl; named = refl; plan = refl; base = refl; faults = refl; owed = refl }
begun_stays jobs size s PowerActs i = told jobs size s _ i

pub free_kept : (jobs : List Job) (size : ℕ) (x : State) (other : Owed) → is_free x.owed ≡ true → is_recover_owed other ≡ false → Owes x.slots x.stop x.recovery other → Kept jobs size x
    → IsKept jobs size x.waiting x.named x.slots x.stop x.recovery other
free_kept jobs size x other free off owes i = owed_kept jobs size x.waiting x.named x.slots x.stop x.recovery x.owed other (free_recover x.owed free) off owes i

pub turn_leads : (jobs : List Job) (size : ℕ) (x : State) (letter : Letter) → Kept jobs size x → is_free x.owed ≡ true → Leads jobs size x (effect x (Turn letter)) (Turn letter)
unfolding effect after_turn begun
turn_leads jobs size x letter i free =
    let none = free_none x.slots x.stop x.recovery x.owed free i.owes in
    let begins = begun_stays jobs size (record x { letters = letters_used x; owed = Nothing }) letter (free_kept jobs size x Nothing free refl none i) in
    record { kept = begins.kept; law = λ id. omega (arith, begins.left id); named = λ e. begins.named; faults = begins.faults; quiet = λ e. begins.owed }

-- issues

-- a vacant tag
record IsTag (x : State) (tag : ℕ) : Type 0 where
  inside : tag < length x.slots
  vacant : asks IsIssued (slot_at x.slots tag) ≡ false

record IsIssue (x : State) (id tag : ℕ) : Type 0 where
  above : 1 ≤ id
  inside : id ≤ length x.waiting
  waits : slice_index_or x.waiting (id - 1) false ≡ true
  vacancy : IsTag x tag

unissued_of : (standing : Standing) → asks_of IsVacant standing ≡ true → asks_of IsIssued standing ≡ false
unissued_of Collected e = refl
unissued_of standing e = absurd (cc)

unissued : (slot : Option Task) → asks IsVacant slot ≡ true → asks IsIssued slot ≡ false
unissued None e = refl
unissued (Some task) e = unissued_of task.standing e

direct_tag : (x : State) (b : Bool) (tag : ℕ) → length x.slots ≡ 32 → has IsIssued x.slots ≡ b → cond b None (Some 31) ≡ Some tag → IsTag x tag
direct_tag x true tag long at e = absurd (none-some tag e)
direct_tag x false tag long at e =
    let same : 31 ≡ tag = same_Some 31 tag e in
    record { inside = omega (arith, same, long); vacant = none_at (asks IsIssued) x.slots refl at tag }

below_if : (b : Bool) (other tag : ℕ) → cond b (Some other) None ≡ Some tag → Some other ≡ Some tag
below_if true other tag e = e
below_if false other tag e = absurd (none-some tag e)

below_is : (depth : ℕ) (found : Option ℕ) (tag : ℕ) → below depth found ≡ Some tag → found ≡ Some tag
below_is depth None tag e = e
below_is depth (Some other) tag e = below_if _ other tag e

low_tag : (x : State) (b : Bool) (tag : ℕ) → cond b None (below x.plan.depth (tag_of IsVacant x.slots)) ≡ Some tag → IsTag x tag
low_tag x true tag e = absurd (none-some tag e)
low_tag x false tag e =
    let found = position-Some (asks IsVacant) x.slots tag None (below_is x.plan.depth (tag_of IsVacant x.slots) tag e) in
    record { inside = found.0; vacant = unissued (slot_at x.slots tag) found.1 }

tag_by : (x : State) (direct : Bool) (tag : ℕ) → length x.slots ≡ 32
    → cond direct (cond (has IsIssued x.slots) None (Some 31)) (cond (asks IsIssued (slot_at x.slots 31)) None (below x.plan.depth (tag_of IsVacant x.slots))) ≡ Some tag → IsTag x tag
tag_by x true tag long e = direct_tag x (has IsIssued x.slots) tag long refl e
tag_by x false tag long e = low_tag x (asks IsIssued (slot_at x.slots 31)) tag e

tag_is : (x : State) (job : Job) (tag : ℕ) → length x.slots ≡ 32 → tag_for x job ≡ Some tag → IsTag x tag
tag_is x job tag long e = tag_by x (is_direct job) tag long e

issue_tag : (x : State) (place id tag : ℕ) (found : Option ℕ) → option_map {U = ℕ × ℕ} (λ tag. (place + 1, tag)) found ≡ Some (id, tag) → (place + 1 ≡ id) × (found ≡ Some tag)
issue_tag x place id tag None e = absurd (none-some (id, tag) e)
issue_tag x place id tag (Some other) e =
    let parts = some_pair_parts (place + 1) id other tag e in
    (parts.0, ap Some parts.1)

issue_at : (x : State) (place : Option ℕ) (id tag : ℕ) → length x.slots ≡ 32 → position (λ waits. waits) x.waiting ≡ place → issue_of x place ≡ Some (id, tag) → IsIssue x id tag
issue_at x None id tag long at e = absurd (none-some (id, tag) e)
issue_at x (Some place) id tag long at e =
    let parts = issue_tag x place id tag (tag_for x (job_of x.plan.jobs (place + 1))) e in
    let found = position-Some (λ waits. waits) x.waiting place false at in
    let own = tag_is x (job_of x.plan.jobs (place + 1)) tag long parts.1 in
    let back : place ≡ id - 1 = omega (arith, parts.0) in
    record {
      above = omega (arith, parts.0);
      inside = omega (arith, parts.0, found.0);
      waits = subst (λ k. slice_index_or x.waiting k false ≡ true) back found.1;
      vacancy = own;
    }

issue_if : (x : State) (b : Bool) (pair : ℕ × ℕ) → cond b (issue_of x (next_place x)) None ≡ Some pair → issue_of x (next_place x) ≡ Some pair
issue_if x true pair e = e
issue_if x false pair e = absurd (none-some pair e)

issue_is : (x : State) (id tag : ℕ) → length x.slots ≡ 32 → next_issue x ≡ Some (id, tag) → IsIssue x id tag
unfolding next_issue
issue_is x id tag long e = issue_at x (next_place x) id tag long refl (issue_if x (is_running x.stop && is_calm x.recovery) (id, tag) e)

vacant_off : (standing : Standing) → asks_of IsIssued standing ≡ false → asks_of IsCollected standing ≡ false → false ≡ true
vacant_off Collected e none = absurd (cc)
vacant_off standing e none = absurd (cc)

pub off_vacant : (id : ℕ) (slot : Option Task) → asks IsIssued slot ≡ false → asks IsCollected slot ≡ false → is_on id slot ≡ false
off_vacant id None e none = refl
off_vacant id (Some task) e none = absurd (false≢true (vacant_off task.standing e none))

waits_is : (id : ℕ) (waiting : List Bool) → 1 ≤ id → waits id waiting ≡ bit (slice_index_or waiting (id - 1) false)
waits_is zero waiting above = absurd (omega arith)
waits_is (suc place) waiting above = ap (λ k. bit (slice_index_or waiting k false)) (omega arith)

issue_law : (x : State) (id tag : ℕ) → has IsCollected x.slots ≡ false → IsIssue x id tag → (other : ℕ)
    → waits other (slice_set x.waiting (id - 1) false) + tasks other (slice_set x.slots tag (Some (record { id = id; standing = Rung }))) ≡ waits other x.waiting + tasks other x.slots
issue_law x id tag none is other =
    let vacant = off_vacant other (slot_at x.slots tag) is.vacancy.vacant (none_at (asks IsCollected) x.slots refl none tag) in
    let set = tasks_set other x.slots tag (Some (record { id = id; standing = Rung })) is.vacancy.inside in
    elim (cases_eq id other) [
      | inl same ↦
          let own : waits other (slice_set x.waiting (id - 1) false) ≡ 0 = subst (λ j. waits j (slice_set x.waiting (id - 1) false) ≡ 0) same (waits_same id x.waiting false is.above is.inside) in
          let one : waits other x.waiting ≡ 1 = subst (λ j. waits j x.waiting ≡ 1) same (waits_is id x.waiting is.above ∙ ap bit is.waits) in
          omega (arith, set, ap bit vacant, own, one, ap bit (eq-eqb id other same))
      | inr apart ↦ omega (arith, set, ap bit vacant, waits_set other id x.waiting false apart is.above, ap bit (ne_eqb id other apart))
    ]

pub issue_leads : (jobs : List Job) (size : ℕ) (x : State) (id tag : ℕ) → Kept jobs size x → is_free x.owed ≡ true → holds x (Issue id tag) ≡ true → Leads jobs size x (effect x (Issue id tag)) (Issue id tag)
unfolding effect after_issue holds
issue_leads jobs size x id tag i free h =
    let may = may_issue x id tag h in
    let is = issue_is x id tag i.tags may.pair in
    let none = free_none x.slots x.stop x.recovery x.owed free i.owes in
    let after = slice_set x.waiting (id - 1) false in
    let task : Option Task = Some (record { id = id; standing = Rung }) in
    let slots = slice_set x.slots tag task in
    let law : (other : ℕ) → pending other after x.recovery slots + 0 ≡ pending other x.waiting x.recovery x.slots =
    λ other. omega (arith, calm_left other after x.recovery slots may.calm, calm_left other x.waiting x.recovery x.slots may.calm, issue_law x id tag none is other) in
    record {
      kept = line_kept jobs size x.waiting after x.named x.slots slots x.stop x.recovery x.recovery x.owed Nothing (Issue id tag) i law (length_set x.waiting (id - 1) false) (length_set x.slots tag task)
          (unheld x.recovery slots may.calm) (none_set (done_past jobs size) x.slots tag task refl i.served) (none_set (asks IsCollected) x.slots tag task refl none)
          (stands_running jobs size after slots x.recovery Nothing x.stop may.running);
      law = law;
      named = λ e. refl;
      faults = refl;
      quiet = λ e. refl;
    }

-- commands of the queue

-- a line of a command that is due
pub record IsDue (x : State) (id : ℕ) : Type 0 where
  pub live : list_any (is_live id) x.slots ≡ true
  pub running : is_running x.stop ≡ true
  pub calm : is_calm x.recovery ≡ true

pub due_task : (jobs : List Job) (size : ℕ) (x : State) (id : ℕ) → Kept jobs size x → IsTask x id (due x) → IsDue x id
due_task jobs size x id i task = record { live = task.live; running = due_running x task.some; calm = due_calm x (due x) (due_open x) task.some i.held }

pub moved_leads : (jobs : List Job) (size : ℕ) (x : State) (id : ℕ) (standing : Standing) (item : Item) → Kept jobs size x → is_free x.owed ≡ true → is_calm x.recovery ≡ true → is_running x.stop ≡ true
    → asks_of IsCollected standing ≡ false → ((other : ℕ) → is_answer_to other item ≡ false) → list_any (done_past jobs size) (changed_slots (Move id standing) x.slots) ≡ false
    → IsKept jobs size x.waiting x.named (changed_slots (Move id standing) x.slots) x.stop x.recovery Nothing
moved_leads jobs size x id standing item i free calm running off none served =
    let slots = changed_slots (Move id standing) x.slots in
    let uncollected = free_none x.slots x.stop x.recovery x.owed free i.owes in
    line_kept jobs size x.waiting x.waiting x.named x.slots slots x.stop x.recovery x.recovery x.owed Nothing item i
    (λ other. omega (arith, same_left other x.waiting x.recovery x.slots slots (tasks_moved other id standing x.slots), ap bit (none other)))
    refl (length_changed (Move id standing) x.slots) (unheld x.recovery slots calm) served
    (none_changed (asks IsCollected) (Move id standing) (move_uncollected id standing off) x.slots uncollected) (stands_running jobs size x.waiting slots x.recovery Nothing x.stop running)

heard_parts : (x : State) (n : ℕ) (rest : Bool) → (is_heard x n && rest) ≡ true → rest ≡ true
heard_parts x n rest h = (and_parts (is_heard x n) rest h).1

pub params_leads : (jobs : List Job) (size : ℕ) (x : State) (n id : ℕ) → Kept jobs size x → is_free x.owed ≡ true → holds x (Params n id) ≡ true → Leads jobs size x (effect x (Params n id)) (Params n id)
unfolding effect after_params holds params_holds
params_leads jobs size x n id i free h =
    let task = due_task jobs size x id i (params_task x id (due x) (due_open x) (heard_parts x n (is_params x id (due x)) h)) in
    record {
      kept = moved_leads jobs size x id Named (Params n id) i free task.calm task.running refl (λ other. refl) (none_moved jobs size id Named x.slots refl i.served);
      law = λ other. same_left other x.waiting x.recovery x.slots (changed_slots (Move id Named) x.slots) (tasks_moved other id Named x.slots);
      named = λ e. refl;
      faults = refl;
      quiet = λ e. refl;
    }

pub past_is : (own : Plan) (size : ℕ) (x : State) (id : ℕ) (inside : Bool) → IsSteady own size x → is_in_range (job_of x.plan.jobs id) (length x.base) ≡ inside → is_past own.jobs size id ≡ not inside
past_is own size x id inside i at =
    ap (λ plan. is_past plan.jobs size id) (sym i.plan) ∙ (ap (λ n. is_past x.plan.jobs n id) (sym i.sectors) ∙ ap not at)

pub running_none : (stop : Stop) (id : ℕ) → is_running stop ≡ true → stop ≡ BusStop (Some id) → false ≡ true
running_none stop id running e = sym (ap is_running e) ∙ running

address_by : (own : Plan) (size : ℕ) (x : State) (n id : ℕ) (inside : Bool) → IsSteady own size x → is_free x.owed ≡ true → IsDue x id → is_in_range (job_of x.plan.jobs id) (length x.base) ≡ inside
    → Leads own.jobs size x (over (addressed (record x { n = n }) id inside) Nothing) (Address n id)
address_by own size x n id true i free task at = record {
  kept = moved_leads own.jobs size x id Sent (Address n id) i.kept free task.calm task.running refl (λ other. refl) (none_moved own.jobs size id Sent x.slots refl i.kept.served);
  law = λ other. same_left other x.waiting x.recovery x.slots (changed_slots (Move id Sent) x.slots) (tasks_moved other id Sent x.slots);
  named = λ e. refl;
  faults = refl;
  quiet = λ e. refl;
}
address_by own size x n id false i free task at = record {
  kept = record {
    long = i.kept.long;
    names = i.kept.names;
    tags = i.kept.tags;
    fits = i.kept.fits;
    held = i.kept.held;
    served = i.kept.served;
    owes = free_none x.slots x.stop x.recovery x.owed free i.kept.owes;
    stands = (record { calm = task.calm; answered = λ e. absurd (false≢true e); live = λ e. task.live }, past_is own size x id false i at);
    most = i.kept.most;
    fourth = λ other one four. absurd (false≢true (running_none x.stop other task.running (i.kept.fourth other one four)));
  };
  law = λ other. omega arith;
  named = λ e. refl;
  faults = refl;
  quiet = λ e. refl;
}

pub address_leads : (own : Plan) (size : ℕ) (x : State) (n id : ℕ) → IsSteady own size x → is_free x.owed ≡ true → holds x (Address n id) ≡ true → Leads own.jobs size x (effect x (Address n id)) (Address n id)
unfolding effect after_address holds address_holds
address_leads own size x n id i free h =
    let task = due_task own.jobs size x id i.kept (address_task x id (due x) (due_open x) (heard_parts x n (is_address x id (due x)) h)) in
    address_by own size x n id (is_in_range (job_of x.plan.jobs id) (length x.base)) i free task refl

polls : (command : DueCommand) → is_poll command ≡ true → is_none_due command ≡ false
polls PollDue e = refl
polls command e = absurd (cc)

pub poll_leads : (jobs : List Job) (size : ℕ) (x : State) (n mask : ℕ) → Kept jobs size x → is_free x.owed ≡ true → holds x (Poll n mask) ≡ true → Leads jobs size x (effect x (Poll n mask)) (Poll n mask)
unfolding effect after_poll holds poll_holds
poll_leads jobs size x n mask i free h =
    let some = polls (due x) ((and_parts (is_poll (due x)) (mask == polled_mask x) (heard_parts x n (is_poll (due x) && (mask == polled_mask x)) h)).0) in
    let slots = changed_slots (MakeReady mask) x.slots in
    let calm = due_calm x (due x) (due_open x) some i.held in
    let law : (other : ℕ) → pending other x.waiting x.recovery slots + 0 ≡ pending other x.waiting x.recovery x.slots = λ other. same_left other x.waiting x.recovery x.slots slots (tasks_ready other mask x.slots) in
    record {
      kept = line_kept jobs size x.waiting x.waiting x.named x.slots slots x.stop x.recovery x.recovery x.owed Nothing (Poll n mask) i law refl (length_changed (MakeReady mask) x.slots) (unheld x.recovery slots calm)
          (none_ready jobs size mask x.slots i.served)
          (none_changed (asks IsCollected) (MakeReady mask) (ready_uncollected mask) x.slots (free_none x.slots x.stop x.recovery x.owed free i.owes))
          (stands_running jobs size x.waiting slots x.recovery Nothing x.stop (due_running x some));
      law = law;
      named = λ e. refl;
      faults = refl;
      quiet = λ e. refl;
    }

-- an interrupt collects what is done

done_active_of : (standing : Standing) → asks_of IsDone standing ≡ true → not (is_held standing) ≡ true
done_active_of DoneTask e = refl
done_active_of standing e = absurd (cc)

done_active : (slot : Option Task) → asks IsDone slot ≡ true → is_active slot ≡ true
done_active None e = absurd (cc)
done_active (Some task) e = done_active_of task.standing e

pub irq_leads : (jobs : List Job) (size : ℕ) (x : State) (mask : ℕ) → Kept jobs size x → is_free x.owed ≡ true → holds x (Irq mask) ≡ true → Leads jobs size x (effect x (Irq mask)) (Irq mask)
unfolding effect after_irq holds irq_holds
irq_leads jobs size x mask i free h =
    let done = (and_parts (has IsDone x.slots) _ ((and_parts (is_irq_due x) (mask == mask_of IsDone x.slots) h).0)).0 in
    let calm = calm_by x.recovery x.slots (asks IsDone) i.held done_active done in
    let slots = changed_slots Collect x.slots in
    let law : (other : ℕ) → pending other x.waiting x.recovery slots + 0 ≡ pending other x.waiting x.recovery x.slots = λ other. same_left other x.waiting x.recovery x.slots slots (tasks_collected other x.slots) in
    record {
      kept = line_kept jobs size x.waiting x.waiting x.named x.slots slots x.stop x.recovery x.recovery x.owed Answers (Irq mask) i law refl (length_changed Collect x.slots) (unheld x.recovery slots calm)
          (none_collected jobs size x.slots i.served) calm
          (stands_map jobs size x.waiting x.waiting x.slots slots x.recovery x.recovery x.owed Answers x.stop
          (λ id named. record { calm = named.calm; answered = λ e. absurd (false≢true e); live = λ e. live_collected id x.slots (named.live (free_recover x.owed free)) }) i.stands);
      law = law;
      named = λ e. refl;
      faults = refl;
      quiet = λ e. refl;
    }

-- the discard of a recovery

discards : (recovery : Recovery) → may_discard recovery ≡ true → is_calm recovery ≡ false
discards Calm e = absurd (cc)
discards Halted e = refl
discards Cleared e = refl
discards Discarded e = refl
discards Cleaned e = refl
discards Resumed e = refl

pub discard_leads : (jobs : List Job) (size : ℕ) (x : State) (n : ℕ) → Kept jobs size x → is_free x.owed ≡ true → holds x (Discard n) ≡ true → Leads jobs size x (effect x (Discard n)) (Discard n)
unfolding effect after_discard holds discard_holds
discard_leads jobs size x n i free h =
    let busy = discards x.recovery (heard_parts x n (may_discard x.recovery) h) in
    let none = free_none x.slots x.stop x.recovery x.owed free i.owes in
    record {
      kept = step_kept jobs size x.waiting x.named x.slots x.stop x.recovery Discarded Nothing busy refl (free_kept jobs size x Nothing free refl none i);
      law = λ id. omega (arith, ap (λ calm. waits id x.waiting + cond calm (tasks id x.slots) 0) busy);
      named = λ e. refl;
      faults = refl;
      quiet = λ e. refl;
    }
