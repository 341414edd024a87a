-- What phases and bus faults leave.
use Rattle.std.proofs.Common.{inl, inr, ◌≡◌, ◌∙◌, ℕ, zero, suc, ◌+◌, ◌-◌, ◌≤◌, ◌==◌, Bool, true, false, cond, ◌&&◌, min, is_none, Option, Some, None, List, [], ◌∷◌, length, slice_index_or, slice_set, refl, ap, sym, subst, arith, get_or-set_other}
use Rattle.std.proofs.lemmas.Bool.{and_parts, both_ways, cases_Bool, cases_eq, cases_lt, false≢true}
use Rattle.std.proofs.lemmas.Option.{same_Some}
use Rattle.std.specs.List.{list_any}
use Rattle.answer_laws.proofs.Dues.{IsTarget, due_calm, due_open, phase_task, target_task}
use Rattle.answer_laws.proofs.Lines.{IsDue, IsSteady, Leads, calm_left, due_task, moved_leads, past_is, running_none}
use Rattle.answer_laws.proofs.Settled.{left_of}
use Rattle.answer_laws.proofs.Stands.{IsBusOwed, Kept, Owes, Stands, free_none, is_bus_owed, stands_busy, stands_running, times}
use Rattle.answer_laws.proofs.Tasks.{is_live, length_set, live_some, room_le, room_some, tasks_moved, waits}
use Rattle.one_trace.proofs.Dues.{due_running}
use Rattle.one_trace.proofs.Served.{number_is}
use Rattle.one_trace.proofs.Slots.{is_past, none_moved}
use Rattle.storage_machine.specs.Commands.{due, hit, is_calm, is_gone, is_kind, is_running, next_number}
use Rattle.storage_machine.specs.Jobs.{job_of}
use Rattle.storage_machine.specs.Slots.{changed_slots, has}
use Rattle.storage_machine.specs.declared.slots.Change.TheVariants.{Move}
use Rattle.storage_machine.specs.declared.slots.Question.TheVariants.{Collected as IsCollected}
use Rattle.storage_machine.specs.declared.state.Owed.{Owed}
use Rattle.storage_machine.specs.declared.state.Owed.TheVariants.{Nothing, Closed, Bus as BusOwed, Flash as FlashOwed}
use Rattle.storage_machine.specs.declared.state.Recovery.{Recovery}
use Rattle.storage_machine.specs.declared.state.Recovery.TheVariants.{Calm, Halted, Cleared, Discarded, Cleaned, Resumed}
use Rattle.storage_machine.specs.declared.state.Standing.TheVariants.{Done as DoneTask}
use Rattle.storage_machine.specs.declared.state.State.{State}
use Rattle.storage_machine.specs.declared.state.Stop.{Stop}
use Rattle.storage_machine.specs.declared.state.Stop.TheVariants.{Bus as BusStop}
use Rattle.storage_model.specs.declared.block.Block.{Block}
use Rattle.storage_model.specs.declared.faults.BusKind.{BusKind}
use Rattle.storage_model.specs.declared.faults.BusKind.TheVariants.{Lost as LostKind, NoResp, Bad, Late}
use Rattle.storage_model.specs.declared.plan.Job.{Job}
use Rattle.storage_model.specs.declared.plan.Plan.{Plan}
use Rattle.storage_model.specs.declared.trace.Item.TheVariants.{Phase, Bus}
use Rattle.trace_effects.specs.Effects.{after_bus, effect, named_more}
use Rattle.trace_effects.specs.Phases.{after_blocks, after_done, after_keep, after_phase, closed_by, done_with, read_sectors}
use Rattle.trace_rules.specs.Lines.{bus_by_owed, bus_holds, holds, is_for, is_free, is_missed, is_missed_now, is_number, is_recover_owed}
use Rattle.trace_rules.specs.Phases.{is_phase_of, is_whole, owed_by, phase_holds, tag_due}

-- the blocks of a phase change the contents alone

record IsSame (jobs : List Job) (size : ℕ) (x z : State) : Type 0 where
  kept : Kept jobs size z
  free : is_free z.owed ≡ true
  left : (id : ℕ) → left_of id z ≡ left_of id x
  live : (id : ℕ) → list_any (is_live id) z.slots ≡ list_any (is_live id) x.slots
  stop : z.stop ≡ x.stop
  recovery : z.recovery ≡ x.recovery
  named : z.named ≡ x.named
  faults : z.faults ≡ x.faults

blocks_same : (jobs : List Job) (size : ℕ) (x : State) (job : Job) (count : ℕ) (kept : Bool) → Kept jobs size x → is_free x.owed ≡ true → IsSame jobs size x (after_blocks x job count kept)
unfolding after_blocks after_keep
blocks_same jobs size x job count true i free = record { kept = i; free = free; left = λ id. refl; live = λ id. refl; stop = refl; recovery = refl; named = refl; faults = refl }
blocks_same jobs size x job count false i free = record { kept = i; free = free; left = λ id. refl; live = λ id. refl; stop = refl; recovery = refl; named = refl; faults = refl }

-- the task is done

done_leads : (jobs : List Job) (size : ℕ) (z : State) (n tag id count : ℕ) (kept : Bool) (job : Job) (sectors : List Block) → Kept jobs size z → is_free z.owed ≡ true → is_calm z.recovery ≡ true → is_running z.stop ≡ true
    → is_past jobs size id ≡ false → Kept jobs size (closed_by (after_done z tag id job sectors) n Closed)
unfolding after_done
done_leads jobs size z n tag id count kept job sectors i free calm running inside =
    let slots = changed_slots (Move id DoneTask) z.slots in
    let moved = moved_leads jobs size z id DoneTask (Phase n id count kept) i free calm running refl (λ other. refl) (none_moved jobs size id DoneTask z.slots inside i.served) in
    record {
      long = moved.long;
      names = moved.names;
      tags = moved.tags;
      fits = moved.fits;
      held = moved.held;
      served = moved.served;
      owes = moved.owes;
      stands = stands_running jobs size z.waiting slots z.recovery Closed z.stop running;
      most = moved.most;
      fourth = moved.fourth;
    }

-- or isn't, and the line of its fault is owed
owed_either : (b : Bool) (one other : Owed) (z : State) → Owes z.slots z.stop z.recovery one → Owes z.slots z.stop z.recovery other → Owes z.slots z.stop z.recovery (cond b one other)
owed_either true one other z left right = left
owed_either false one other z left right = right

broken_kept : (jobs : List Job) (size : ℕ) (z : State) (n : ℕ) (owed : Owed) → Kept jobs size z → is_free z.owed ≡ true → is_running z.stop ≡ true → Owes z.slots z.stop z.recovery owed → Kept jobs size (closed_by z n owed)
broken_kept jobs size z n owed i free running owes = record {
  long = i.long;
  names = i.names;
  tags = i.tags;
  fits = i.fits;
  held = i.held;
  served = i.served;
  owes = owes;
  stands = stands_running jobs size z.waiting z.slots z.recovery owed z.stop running;
  most = i.most;
  fourth = i.fourth;
}

abbrev phase_end : State → Option BusKind → ℕ → ℕ → ℕ → ℕ → Job → List Block → Bool → State
phase_end z kind n tag id count job sectors whole = closed_by (done_with z tag id job sectors (whole && is_none kind)) n (owed_by kind whole n id count)

record Phased (jobs : List Job) (size : ℕ) (z t : State) : Type 0 where
  kept : Kept jobs size t
  left : (id : ℕ) → left_of id t ≡ left_of id z
  named : t.named ≡ z.named
  faults : t.faults ≡ z.faults

open_end : (jobs : List Job) (size : ℕ) (z : State) (n tag id : ℕ) (job : Job) (sectors : List Block) (done : Bool) (owed : Owed) → Kept jobs size z → is_free z.owed ≡ true → is_running z.stop ≡ true → Owes z.slots z.stop z.recovery owed
    → done ≡ false → Phased jobs size z (closed_by (done_with z tag id job sectors done) n owed)
open_end jobs size z n tag id job sectors true owed i free running owes e = absurd (false≢true (sym e))
open_end jobs size z n tag id job sectors false owed i free running owes e = record { kept = broken_kept jobs size z n owed i free running owes; left = λ other. refl; named = refl; faults = refl }

none_done : (whole : Bool) (kind : BusKind) → (whole && is_none (Some kind)) ≡ false
none_done true kind = refl
none_done false kind = refl

done_left : (z : State) (n tag id other : ℕ) (job : Job) (sectors : List Block) → left_of other (closed_by (after_done z tag id job sectors) n Closed) ≡ left_of other z
unfolding after_done
done_left z n tag id other job sectors = ap (λ k. waits other z.waiting + cond (is_calm z.recovery) k 0) (tasks_moved other id DoneTask z.slots)

bus_owed : (jobs : List Job) (size : ℕ) (z : State) (id : ℕ) → Kept jobs size z → is_free z.owed ≡ true → IsDue z id → IsBusOwed id z.slots z.stop z.recovery
bus_owed jobs size z id i free task = record { calm = task.calm; running = task.running; live = task.live; none = free_none z.slots z.stop z.recovery z.owed free i.owes }

done_same : (z : State) (n tag id : ℕ) (job : Job) (sectors : List Block) → (closed_by (after_done z tag id job sectors) n Closed).named ≡ z.named
unfolding after_done
done_same z n tag id job sectors = refl

done_faults : (z : State) (n tag id : ℕ) (job : Job) (sectors : List Block) → (closed_by (after_done z tag id job sectors) n Closed).faults ≡ z.faults
unfolding after_done
done_faults z n tag id job sectors = refl

ends_phase : (jobs : List Job) (size : ℕ) (z : State) (kind : Option BusKind) (n tag id count : ℕ) (kept : Bool) (job : Job) (sectors : List Block) (whole : Bool) → Kept jobs size z → is_free z.owed ≡ true → IsDue z id
    → is_past jobs size id ≡ false → Phased jobs size z (phase_end z kind n tag id count job sectors whole)
ends_phase jobs size z None n tag id count kept job sectors true i free task inside =
    record { kept = done_leads jobs size z n tag id count kept job sectors i free task.calm task.running inside; left = λ other. done_left z n tag id other job sectors; named = done_same z n tag id job sectors; faults = done_faults z n tag id job sectors }
ends_phase jobs size z None n tag id count kept job sectors false i free task inside =
    open_end jobs size z n tag id job sectors false (FlashOwed id) i free task.running (free_none z.slots z.stop z.recovery z.owed free i.owes) refl
ends_phase jobs size z (Some (Bad block)) n tag id count kept job sectors whole i free task inside =
    let none = free_none z.slots z.stop z.recovery z.owed free i.owes in
    open_end jobs size z n tag id job sectors (whole && is_none (Some (Bad block))) (cond (count + 1 == block) (BusOwed n id (Bad block)) (FlashOwed id)) i free task.running
    (owed_either (count + 1 == block) (BusOwed n id (Bad block)) (FlashOwed id) z (record { calm = task.calm; running = task.running; live = task.live; none = none }) none) (none_done whole (Bad block))
ends_phase jobs size z (Some LostKind) n tag id count kept job sectors whole i free task inside =
    open_end jobs size z n tag id job sectors (whole && is_none (Some LostKind)) (BusOwed n id LostKind) i free task.running (bus_owed jobs size z id i free task) (none_done whole LostKind)
ends_phase jobs size z (Some NoResp) n tag id count kept job sectors whole i free task inside =
    open_end jobs size z n tag id job sectors (whole && is_none (Some NoResp)) (BusOwed n id NoResp) i free task.running (bus_owed jobs size z id i free task) (none_done whole NoResp)
ends_phase jobs size z (Some Late) n tag id count kept job sectors whole i free task inside =
    open_end jobs size z n tag id job sectors (whole && is_none (Some Late)) (BusOwed n id Late) i free task.running (bus_owed jobs size z id i free task) (none_done whole Late)

pub hit_none : (s : State) → s.faults.bus ≡ [] → hit s ≡ None
unfolding hit
hit_none s e = rw e refl

none_owed : (whole : Bool) (n id count : ℕ) → is_bus_owed (owed_by None whole n id count) ≡ false
none_owed true n id count = refl
none_owed false n id count = refl

pub phase_leads : (own : Plan) (size : ℕ) (x : State) (n id count : ℕ) (kept : Bool) → IsSteady own size x → is_free x.owed ≡ true → holds x (Phase n id count kept) ≡ true → Leads own.jobs size x (effect x (Phase n id count kept)) (Phase n id count kept)
unfolding effect after_phase holds phase_holds
phase_leads own size x n id count kept i free h =
    let job = job_of x.plan.jobs id in
    let parts = and_parts (n == next_number x) (is_phase_of x id count kept (due x)) h in
    let at = phase_task x id count kept (due x) (due_open x) parts.1 in
    let task = due_task own.jobs size x id i.kept at.task in
    let z = after_blocks x job count kept in
    let same = blocks_same own.jobs size x job count kept i.kept free in
    let ends = ends_phase own.jobs size z (hit x) n (tag_due (due x)) id count kept job (read_sectors x job) (is_whole x.plan.through job count kept) same.kept same.free
    (record { live = same.live id ∙ task.live; running = ap is_running same.stop ∙ task.running; calm = ap is_calm same.recovery ∙ task.calm }) (past_is own size x id true i at.inside) in
    record {
      kept = ends.kept;
      law = λ other. omega (arith, ends.left other, same.left other);
      named = λ e. ends.named ∙ same.named;
      faults = ends.faults ∙ same.faults;
      quiet = λ e. ap (λ kind. is_bus_owed (owed_by kind (is_whole x.plan.through job count kept) n id count)) (hit_none x e) ∙ none_owed (is_whole x.plan.through job count kept) n id count;
    }

-- bus faults

record IsHit (x : State) (id : Option ℕ) : Type 0 where
  none : has IsCollected x.slots ≡ false
  running : is_calm x.recovery ≡ true → is_running x.stop ≡ true
  live : (named : ℕ) → id ≡ Some named → list_any (is_live named) x.slots ≡ true
  busy : is_calm x.recovery ≡ false → id ≡ None

target_hit : (jobs : List Job) (size : ℕ) (x : State) (id : Option ℕ) → Kept jobs size x → has IsCollected x.slots ≡ false → IsTarget x id (due x) → IsHit x id
target_hit jobs size x None i none task = record { none = none; running = λ e. due_running x task; live = λ named e. absurd (cc); busy = λ e. refl }
target_hit jobs size x (Some id) i none task =
    let calm = due_calm x (due x) (due_open x) task.some i.held in
    record {
      none = none;
      running = λ e. due_running x task.some;
      live = λ named e. subst (λ j. list_any (is_live j) x.slots ≡ true) (same_Some id named e) task.live;
      busy = λ e. absurd (both_ways (is_calm x.recovery) e calm);
    }

discard_hit : (x : State) (recovery : Recovery) → x.recovery ≡ recovery → is_calm recovery ≡ false → has IsCollected x.slots ≡ false → IsHit x None
discard_hit x recovery at off none = record {
  none = none;
  running = λ e. absurd (both_ways (is_calm x.recovery) (ap is_calm at ∙ off) e);
  live = λ named e. absurd (cc);
  busy = λ e. refl;
}

missed_hit : (jobs : List Job) (size : ℕ) (x : State) (kind : BusKind) (id : Option ℕ) (recovery : Recovery) → x.recovery ≡ recovery → Kept jobs size x → has IsCollected x.slots ≡ false → is_missed x kind id recovery ≡ true → IsHit x id
missed_hit jobs size x kind None Halted at i none h = discard_hit x Halted at refl none
missed_hit jobs size x kind (Some id) Halted at i none h = absurd (cc)
missed_hit jobs size x kind None Cleared at i none h = discard_hit x Cleared at refl none
missed_hit jobs size x kind (Some id) Cleared at i none h = absurd (cc)
missed_hit jobs size x kind None Calm at i none h = target_hit jobs size x None i none (target_task x kind None (due x) (due_open x) h)
missed_hit jobs size x kind (Some id) Calm at i none h = target_hit jobs size x (Some id) i none (target_task x kind (Some id) (due x) (due_open x) h)
missed_hit jobs size x kind None Discarded at i none h = target_hit jobs size x None i none (target_task x kind None (due x) (due_open x) h)
missed_hit jobs size x kind (Some id) Discarded at i none h = target_hit jobs size x (Some id) i none (target_task x kind (Some id) (due x) (due_open x) h)
missed_hit jobs size x kind None Cleaned at i none h = target_hit jobs size x None i none (target_task x kind None (due x) (due_open x) h)
missed_hit jobs size x kind (Some id) Cleaned at i none h = target_hit jobs size x (Some id) i none (target_task x kind (Some id) (due x) (due_open x) h)
missed_hit jobs size x kind None Resumed at i none h = target_hit jobs size x None i none (target_task x kind None (due x) (due_open x) h)
missed_hit jobs size x kind (Some id) Resumed at i none h = target_hit jobs size x (Some id) i none (target_task x kind (Some id) (due x) (due_open x) h)

now_hit : (jobs : List Job) (size : ℕ) (x : State) (n : ℕ) (kind : BusKind) (id : Option ℕ) → Kept jobs size x → has IsCollected x.slots ≡ false → is_missed_now x n kind id ≡ true → IsHit x id
now_hit jobs size x n kind id i none h =
    let gone = (and_parts (n == next_number x) (is_gone (Some kind) && (is_kind (hit x) kind && is_missed x kind id x.recovery)) h).1 in
    let kinds = (and_parts (is_gone (Some kind)) (is_kind (hit x) kind && is_missed x kind id x.recovery) gone).1 in
    missed_hit jobs size x kind id x.recovery refl i none ((and_parts (is_kind (hit x) kind) (is_missed x kind id x.recovery) kinds).1)

owed_hit : (x : State) (owed_id : ℕ) (id : Option ℕ) → IsBusOwed owed_id x.slots x.stop x.recovery → is_number owed_id id ≡ true → IsHit x id
owed_hit x owed_id id owed h =
    let at = number_is owed_id id h in
    record {
      none = owed.none;
      running = λ e. owed.running;
      live = λ named e. subst (λ j. list_any (is_live j) x.slots ≡ true) (same_Some owed_id named (sym at ∙ e)) owed.live;
      busy = λ e. absurd (both_ways (is_calm x.recovery) e owed.calm);
    }

bus_hit : (jobs : List Job) (size : ℕ) (x : State) (n : ℕ) (kind : BusKind) (id : Option ℕ) (owed : Owed) → Kept jobs size x → Owes x.slots x.stop x.recovery owed → is_for owed (Bus n kind id) ≡ true → bus_by_owed x n kind id owed ≡ true → IsHit x id
bus_hit jobs size x n kind id Nothing i owes for h = now_hit jobs size x n kind id i owes h
bus_hit jobs size x n kind id Closed i owes for h = now_hit jobs size x n kind id i owes h
bus_hit jobs size x n kind id (BusOwed m owed_id owed_kind) i owes for h =
    owed_hit x owed_id id owes ((and_parts (is_number owed_id id) (is_kind (Some owed_kind) kind) ((and_parts (n == m) (is_number owed_id id && is_kind (Some owed_kind) kind) h).1)).0)
bus_hit jobs size x n kind id owed i owes for h = absurd (cc)

pub owes_recover : (owed : Owed) (n : ℕ) (kind : BusKind) (id : Option ℕ) → is_for owed (Bus n kind id) ≡ true → is_recover_owed owed ≡ false
owes_recover Nothing n kind id e = refl
owes_recover Closed n kind id e = refl
owes_recover (BusOwed m owed_id owed_kind) n kind id e = refl
owes_recover owed n kind id e = absurd (cc)

-- the counts

set_le : (xs : List ℕ) (i k a : ℕ) → a ≤ 4 → ((m : ℕ) → slice_index_or xs m 0 ≤ 4) → slice_index_or (slice_set xs i a) k 0 ≤ 4
set_le [] i k a low each = each k
set_le (x ∷ xs) zero zero a low each = low
set_le (x ∷ xs) zero (suc k) a low each = each (suc k)
set_le (x ∷ xs) (suc i) zero a low each = each 0
set_le (x ∷ xs) (suc i) (suc k) a low each = set_le xs i k a low (λ m. each (suc m))

more_most : (named : List ℕ) (id : Option ℕ) → ((k : ℕ) → times named k ≤ 4) → (k : ℕ) → times (named_more named id) k ≤ 4
more_most named None most k = most k
more_most named (Some id) most k =
    set_le named (id - 1) (k - 1) (min (times named id + 1) 4) (omega arith) (λ m. subst (λ j. slice_index_or named j 0 ≤ 4) (omega arith) (most (m + 1)))

more_length : (named : List ℕ) (id : Option ℕ) → length (named_more named id) ≡ length named
more_length named None = refl
more_length named (Some id) = length_set named (id - 1) (min (times named id + 1) 4)

pub times_apart : (named : List ℕ) (id k : ℕ) → 1 ≤ id → 1 ≤ k → (id ≡ k → ⊥) → times (slice_set named (id - 1) (min (times named id + 1) 4)) k ≡ times named k
times_apart named id k above some apart = get_or-set_other named (id - 1) (k - 1) (min (times named id + 1) 4) 0 (λ e. apart (omega (arith, e, above, some)))

-- the request that a fault names is still to be answered
pub live_left : (jobs : List Job) (size : ℕ) (x : State) (id : ℕ) → Kept jobs size x → is_calm x.recovery ≡ true → list_any (is_live id) x.slots ≡ true → 1 ≤ left_of id x
live_left jobs size x id i calm live = omega (arith, calm_left id x.waiting x.recovery x.slots calm, live_some id x.slots live)

pub left_above : (jobs : List Job) (size : ℕ) (x : State) (id : ℕ) → Kept jobs size x → 1 ≤ left_of id x → 1 ≤ id
left_above jobs size x id i some = (room_some (length jobs) id (omega (arith, some, i.fits id))).0

fourth_calm : (jobs : List Job) (size : ℕ) (x : State) (id : Option ℕ) → Kept jobs size x → IsHit x id → is_calm x.recovery ≡ true → (k : ℕ) → left_of k x ≡ 1 → 4 ≤ times (named_more x.named id) k → BusStop id ≡ BusStop (Some k)
fourth_calm jobs size x None i at calm k one four = absurd (false≢true (running_none x.stop k (at.running calm) (i.fourth k one four)))
fourth_calm jobs size x (Some id) i at calm k one four =
    elim (cases_eq id k) [
      | inl same ↦ ap (λ j. BusStop (Some j)) same
      | inr apart ↦
          let above = left_above jobs size x id i (live_left jobs size x id i calm (at.live id refl)) in
          let some = left_above jobs size x k i (omega (arith, one)) in
          absurd (false≢true (running_none x.stop k (at.running calm) (i.fourth k one (omega (arith, four, times_apart x.named id k above some apart)))))
    ]

bus_stands : (jobs : List Job) (size : ℕ) (x : State) (id : Option ℕ) → IsHit x id → is_calm x.recovery ≡ true → Stands jobs size x.waiting x.slots x.recovery Nothing (BusStop id)
bus_stands jobs size x None at calm = refl
bus_stands jobs size x (Some id) at calm = record { calm = calm; answered = λ e. absurd (false≢true e); live = λ e. at.live id refl }

-- with the engine's stop, or in a recovery
record IsBus (jobs : List Job) (size : ℕ) (x : State) (id : Option ℕ) (stop : Stop) : Type 0 where
  stands : Stands jobs size x.waiting x.slots x.recovery Nothing stop
  fourth : (k : ℕ) → left_of k x ≡ 1 → 4 ≤ times (named_more x.named id) k → stop ≡ BusStop (Some k)

bus_by : (jobs : List Job) (size : ℕ) (x : State) (id : Option ℕ) (calm : Bool) → Kept jobs size x → IsHit x id → is_calm x.recovery ≡ calm → IsBus jobs size x id (cond calm (BusStop id) x.stop)
bus_by jobs size x id true i at calm = record { stands = bus_stands jobs size x id at calm; fourth = fourth_calm jobs size x id i at calm }
bus_by jobs size x id false i at busy = record {
  stands = stands_busy jobs size x.waiting x.waiting x.slots x.slots x.recovery x.recovery x.owed Nothing x.stop busy i.stands;
  fourth = λ k one four. i.fourth k one (subst (λ named. 4 ≤ times (named_more x.named named) k) (at.busy busy) four);
}

pub bus_leads : (jobs : List Job) (size : ℕ) (x : State) (n : ℕ) (kind : BusKind) (id : Option ℕ) → Kept jobs size x → is_for x.owed (Bus n kind id) ≡ true → holds x (Bus n kind id) ≡ true → Leads jobs size x (effect x (Bus n kind id)) (Bus n kind id)
unfolding effect after_bus holds bus_holds
bus_leads jobs size x n kind id i for h =
    let at = bus_hit jobs size x n kind id x.owed i i.owes for h in
    let by = bus_by jobs size x id (is_calm x.recovery) i at refl in
    record {
      kept = record {
        long = i.long;
        names = more_length x.named id ∙ i.names;
        tags = i.tags;
        fits = i.fits;
        held = i.held;
        served = i.served;
        owes = at.none;
        stands = by.stands;
        most = more_most x.named id i.most;
        fourth = by.fourth;
      };
      law = λ other. omega arith;
      named = λ e. absurd (false≢true (sym e));
      faults = refl;
      quiet = λ e. refl;
    }

-- it names a request that is still to be answered, for the fourth time at most
pub record Names (x : State) (id : ℕ) : Type 0 where
  pub left : 1 ≤ left_of id x
  pub few : times x.named id ≤ 3

hit_names : (jobs : List Job) (size : ℕ) (x : State) (id : ℕ) → Kept jobs size x → IsHit x (Some id) → is_calm x.recovery ≡ true → Names x id
hit_names jobs size x id i at calm =
    let some = live_left jobs size x id i calm (at.live id refl) in
    record {
      left = some;
      few = elim (cases_lt (times x.named id) 4) [
        | inl below ↦ omega arith
        | inr four ↦
            absurd (false≢true (running_none x.stop id (at.running calm) (i.fourth id (omega (arith, some, i.fits id, room_le (length jobs) id)) four)))
      ];
    }

pub bus_names : (jobs : List Job) (size : ℕ) (x : State) (n : ℕ) (kind : BusKind) (id : ℕ) → Kept jobs size x → is_for x.owed (Bus n kind (Some id)) ≡ true → holds x (Bus n kind (Some id)) ≡ true → Names x id
unfolding holds bus_holds
bus_names jobs size x n kind id i for h =
    let at = bus_hit jobs size x n kind (Some id) x.owed i i.owes for h in
    elim (cases_Bool (is_calm x.recovery)) [
      | inl calm ↦ hit_names jobs size x id i at calm
      | inr busy ↦ let none : ◌≡◌ {A = Option ℕ} (Some id) None = at.busy busy in absurd (cc)
    ]

-- without bus faults there is no such line

kind_off : (n : ℕ) (x : State) (kind : BusKind) (id : Option ℕ) → hit x ≡ None → is_missed_now x n kind id ≡ true → false ≡ true
kind_off n x kind id none h =
    let gone = (and_parts (n == next_number x) (is_gone (Some kind) && (is_kind (hit x) kind && is_missed x kind id x.recovery)) h).1 in
    let kinds = (and_parts (is_gone (Some kind)) (is_kind (hit x) kind && is_missed x kind id x.recovery) gone).1 in
    sym (ap (λ hit. is_kind hit kind) none) ∙ (and_parts (is_kind (hit x) kind) (is_missed x kind id x.recovery) kinds).0

bus_none_by : (x : State) (n : ℕ) (kind : BusKind) (id : Option ℕ) (owed : Owed) → hit x ≡ None → is_bus_owed owed ≡ false → bus_by_owed x n kind id owed ≡ true → false ≡ true
bus_none_by x n kind id (BusOwed m owed_id owed_kind) none off h = sym off
bus_none_by x n kind id owed none off h = kind_off n x kind id none h

pub bus_none : (x : State) (n : ℕ) (kind : BusKind) (id : Option ℕ) → x.faults.bus ≡ [] → is_bus_owed x.owed ≡ false → holds x (Bus n kind id) ≡ true → false ≡ true
unfolding holds bus_holds
bus_none x n kind id e off h = bus_none_by x n kind id x.owed (hit_none x e) off h
