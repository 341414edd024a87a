-- A phase's line: where contents and marks after it may be left, those before it and the first puts of its write may.
use Rattle.std.proofs.Common.{◌≡◌, ◌∙◌, ℕ, ◌==◌, ◌≤◌, Bool, true, false, cond, List, [], ◌∷◌, ◌++◌, Option, None, Some, refl, ap, sym, subst, arith, eqb-true}
use Rattle.std.specs.Prelude.{◌&&◌, ◌||◌, if◌then◌else◌, is_none, min, nat_lt, not}
use Rattle.std.proofs.Math.Nat.{min-eq_left}
use Rattle.std.proofs.lemmas.Bool.{and_parts, false≢true}
use Rattle.std.proofs.lemmas.List.{append-nil}
use Rattle.storage_model.proofs.Latest.{is_left-keep}
use Rattle.storage_model.specs.Left.{is_left}
use Rattle.storage_model.specs.declared.block.Block.{Block}
use Rattle.storage_model.specs.declared.faults.BusKind.{BusKind}
use Rattle.storage_model.specs.declared.marks.Mark.{Mark}
use Rattle.storage_model.specs.declared.marks.Mark.TheVariants.{Bar}
use Rattle.storage_model.specs.declared.plan.Job.{Job}
use Rattle.storage_model.specs.declared.plan.Job.TheVariants.{Read, Write, Flush, Barrier, Status}
use Rattle.storage_model.specs.declared.trace.Item.TheVariants.{Phase}
use Rattle.storage_machine.specs.Commands.{command_of_tasks, due, execute_or_poll, first_high, hit, id_on, is_gone, is_lost, is_running, job_on, next_number, next_ready, queue_first}
use Rattle.storage_machine.specs.Jobs.{is_direct, job_of, phase_blocks}
use Rattle.storage_machine.specs.Slots.{first, has}
use Rattle.storage_machine.specs.declared.commands.DueCommand.{DueCommand}
use Rattle.storage_machine.specs.declared.commands.DueCommand.TheVariants.{Idle, Address, Params, Direct, Execute, Poll}
use Rattle.storage_machine.specs.declared.slots.Question.TheVariants as question
use Rattle.storage_machine.specs.declared.state.Owed.{Owed}
use Rattle.storage_machine.specs.declared.state.State.{State}
use Rattle.trace_effects.proofs.PhaseFacts.{phase_facts}
use Rattle.trace_effects.specs.Effects.{effect}
use Rattle.trace_effects.specs.Phases.{after_blocks, after_done, after_keep, after_phase, closed_by, done_with, marks_of, named_by, puts_of, read_sectors}
use Rattle.trace_rules.specs.Phases.{is_phase_of, is_whole, moves, owed_by, phase_holds, tag_due}
use Rattle.front_laws.proofs.Unbarred.{is_left-unbarred}
use Rattle.world_state.specs.Stands.{IsNear, first_puts, puts_on}

-- what is left once some sectors were kept
blocks_left : (s : State) (job : Job) (count : ℕ) (kept : Bool) (pages : List Block) → is_left (after_blocks s job count kept).base (after_blocks s job count kept).pend pages ≡ true
    → is_left s.base (s.pend ++ marks_of s job count) pages ≡ true
unfolding after_blocks after_keep
blocks_left s job count true pages h = is_left-keep (named_by job) s.base (s.pend ++ marks_of s job count) pages h
blocks_left s job count false pages h = h

done_left : (s : State) (tag id n : ℕ) (job : Job) (sectors : List Block) (done : Bool) (owed : Owed) (pages : List Block)
    → is_left (closed_by (done_with s tag id job sectors done) n owed).base (closed_by (done_with s tag id job sectors done) n owed).pend pages ≡ true → is_left s.base s.pend pages ≡ true
unfolding after_done
done_left s tag id n job sectors true owed pages h = h
done_left s tag id n job sectors false owed pages h = h

pub phase_left : (s : State) (n id count : ℕ) (kept : Bool) (pages : List Block) → is_left (effect s (Phase n id count kept)).base (effect s (Phase n id count kept)).pend pages ≡ true
    → is_left s.base (s.pend ++ marks_of s (job_of s.plan.jobs id) count) pages ≡ true
unfolding effect after_phase
phase_left s n id count kept pages h =
    let job = job_of s.plan.jobs id in
    blocks_left s job count kept pages
    (done_left (after_blocks s job count kept) (tag_due (due s)) id n job (read_sectors s job) (is_whole s.plan.through job count kept && is_none (hit s))
    (owed_by (hit s) (is_whole s.plan.through job count kept) n id count) pages h)

done_busy : (s : State) (tag id n : ℕ) (job : Job) (sectors : List Block) (done : Bool) (owed : Owed) → (closed_by (done_with s tag id job sectors done) n owed).busy ≡ false
done_busy s tag id n job sectors true owed = refl
done_busy s tag id n job sectors false owed = refl

-- no phase is under way behind its line
pub phase_ends : (s : State) (n id count : ℕ) (kept : Bool) → (effect s (Phase n id count kept)).busy ≡ false
unfolding effect after_phase
phase_ends s n id count kept =
    let job = job_of s.plan.jobs id in
    done_busy (after_blocks s job count kept) (tag_due (due s)) id n job (read_sectors s job) (is_whole s.plan.through job count kept && is_none (hit s))
    (owed_by (hit s) (is_whole s.plan.through job count kept) n id count)

-- the marks of a job's first blocks
bar_left : (base : List Block) (pend : List Mark) (more : Bool) (pages : List Block) → is_left base (pend ++ (if more then Bar ∷ [] else [])) pages ≡ true → is_left base (pend ++ []) pages ≡ true
bar_left base pend true pages h = rw (append-nil pend) (is_left-unbarred base pend pages h)
bar_left base pend false pages h = h

puts_left : (s : State) (job : Job) (count : ℕ) (pages : List Block) → count ≤ phase_blocks job → is_left s.base (s.pend ++ marks_of s job count) pages ≡ true
    → is_left s.base (s.pend ++ puts_on s.plan.blocks job count) pages ≡ true
puts_left s (Read sector blocks high) count pages few h = h
puts_left s (Write sector blocks fill forced reliable high) count pages few h =
    subst (λ n. is_left s.base (s.pend ++ puts_of s.plan.blocks sector fill reliable n) pages ≡ true) (sym (min-eq_left few)) h
puts_left s Flush count pages few h = h
puts_left s Barrier count pages few h = bar_left s.base s.pend (nat_lt s.bars 4294967295) pages h
puts_left s Status count pages few h = h

direct_left : (s : State) (job : Job) (count : ℕ) (pages : List Block) → is_direct job ≡ true → is_left s.base (s.pend ++ marks_of s job count) pages ≡ true
    → is_left s.base (s.pend ++ []) pages ≡ true
direct_left s (Read sector blocks high) count pages direct h = h
direct_left s (Write sector blocks fill forced reliable high) count pages direct h = absurd (false≢true direct)
direct_left s Flush count pages direct h = h
direct_left s Barrier count pages direct h = bar_left s.base s.pend (nat_lt s.bars 4294967295) pages h
direct_left s Status count pages direct h = h

-- a direct command is that of a direct job
polls : (more : Bool) (tag : ℕ) → (if more then Poll else Idle) ≡ Direct tag → ⊥
polls true tag e = absurd (cc (e))
polls false tag e = absurd (cc (e))

executes : (s : State) (ready : Option ℕ) (tag : ℕ) → execute_or_poll s ready ≡ Direct tag → ⊥
executes s (Some slot) tag e = absurd (cc (e))
executes s None tag e = polls (has question.Sent s.slots) tag e

serves : (s : State) (rung tag : ℕ) (direct : Bool) → is_direct (job_on s rung) ≡ direct → (if direct then Direct rung else Params rung) ≡ Direct tag → is_direct (job_on s tag) ≡ true
serves s rung tag true e h = let same : rung ≡ tag = cc (h) in subst (λ n. is_direct (job_on s n) ≡ true) same e
serves s rung tag false e h = absurd (cc (h))

queues : (s : State) (named rung : Option ℕ) (tag : ℕ) → queue_first s named rung ≡ Direct tag → is_direct (job_on s tag) ≡ true
queues s (Some slot) rung tag h = absurd (cc (h))
queues s None (Some slot) tag h = serves s slot tag (is_direct (job_on s slot)) refl h
queues s None None tag h = absurd (executes s (next_ready s (first_high s)) tag h)

busies : (s : State) (busy : Bool) (tag : ℕ)
    → (if busy then execute_or_poll s (next_ready s (first_high s)) else queue_first s (first question.Named s.slots s.order) (first question.Rung s.slots s.order)) ≡ Direct tag
    → is_direct (job_on s tag) ≡ true
busies s true tag h = absurd (executes s (next_ready s (first_high s)) tag h)
busies s false tag h = queues s (first question.Named s.slots s.order) (first question.Rung s.slots s.order) tag h

runs : (s : State) (running : Bool) (tag : ℕ) → (if running then command_of_tasks s else Idle) ≡ Direct tag → is_direct (job_on s tag) ≡ true
runs s true tag h = busies s s.busy tag h
runs s false tag h = absurd (cc (h))

direct_is : (s : State) (tag : ℕ) → due s ≡ Direct tag → is_direct (job_on s tag) ≡ true
unfolding due
direct_is s tag h = runs s (is_running s.stop) tag h

-- the job on the tag is that of the line's request
job_is : (s : State) (tag id count : ℕ) (kept : Bool) → moves s tag id count kept ≡ true → job_on s tag ≡ job_of s.plan.jobs id
job_is s tag id count kept h = ap (job_of s.plan.jobs) (eqb-true (id_on s tag) id (and_parts (id_on s tag == id) _ h).0)

near_by : (s : State) (id count : ℕ) (kept : Bool) (command : DueCommand) (pages : List Block) → due s ≡ command → is_phase_of s id count kept command ≡ true
    → count ≤ phase_blocks (job_of s.plan.jobs id) → is_left s.base (s.pend ++ marks_of s (job_of s.plan.jobs id) count) pages ≡ true → IsNear s pages
near_by s id count kept Idle pages e h few left = absurd (cc (h))
near_by s id count kept (Address tag) pages e h few left = absurd (cc (h))
near_by s id count kept (Params tag) pages e h few left = absurd (cc (h))
near_by s id count kept (Direct tag) pages e h few left =
    let job = job_is s tag id count kept (and_parts (not (is_lost (hit s))) _ h).1 in
    record {
      count = count;
      near = subst (λ command. is_left s.base (s.pend ++ first_puts s command count) pages ≡ true) (sym e)
          (direct_left s (job_of s.plan.jobs id) count pages (sym (ap is_direct job) ∙ direct_is s tag e) left);
    }
near_by s id count kept (Execute tag) pages e h few left =
    let job = job_is s tag id count kept (and_parts (not (is_gone (hit s))) _ h).1 in
    record {
      count = count;
      near = subst (λ command. is_left s.base (s.pend ++ first_puts s command count) pages ≡ true) (sym e)
          (subst (λ j. is_left s.base (s.pend ++ puts_on s.plan.blocks j count) pages ≡ true) (sym job) (puts_left s (job_of s.plan.jobs id) count pages few left));
    }
near_by s id count kept Poll pages e h few left = absurd (cc (h))

pub phase_near : (s : State) (n id count : ℕ) (kept : Bool) (pages : List Block) → phase_holds s n id count kept ≡ true
    → is_left (effect s (Phase n id count kept)).base (effect s (Phase n id count kept)).pend pages ≡ true → IsNear s pages
unfolding phase_holds
phase_near s n id count kept pages h left =
    near_by s id count kept (due s) pages refl (and_parts (n == next_number s) _ h).1 (phase_facts s n id count kept h).moved (phase_left s n id count kept pages left)
