-- What a data phase, or a direct command, does (JESD84-B51: CMD46 and CMD47, the cache flush and the barrier by CMD6, reliable write, forced
-- programming).
use Rattle.std.specs.Prelude.{ℕ, ◌+◌, ◌==◌, ◌&&◌, ◌||◌, nat_le, nat_lt, min, Bool, true, false, not, if◌then◌else◌, Option, List, [], ◌∷◌, ◌++◌, filter, is_none, map, slice_set, slice_range, length}
use Rattle.std.specs.List.{range_with_len}
use Rattle.storage_machine.specs.Commands.{due, hit}
use Rattle.storage_machine.specs.Jobs.{is_direct, is_read, job_of, must_keep, sector_of}
use Rattle.storage_machine.specs.Slots.{changed_slots}
use Rattle.storage_machine.specs.declared.slots.Change.TheVariants.{Move}
use Rattle.storage_machine.specs.declared.state.Event.{Event}
use Rattle.storage_machine.specs.declared.state.Event.TheVariants.{Untold, Told, Due}
use Rattle.storage_machine.specs.declared.state.Owed.{Owed}
use Rattle.storage_machine.specs.declared.state.Standing.TheVariants.{Done}
use Rattle.storage_machine.specs.declared.state.State.{State}
use Rattle.storage_model.specs.Contents.{contents_now}
use Rattle.storage_model.specs.Keep.{every_sector, is_named, keep_base, keep_pend}
use Rattle.storage_model.specs.Plan.{block_at, blocks_of}
use Rattle.storage_model.specs.declared.block.Block.{Block}
use Rattle.storage_model.specs.declared.faults.BusKind.{BusKind}
use Rattle.storage_model.specs.declared.faults.Letter.TheVariants.{Card, Cut}
use Rattle.storage_model.specs.declared.marks.Mark.{Mark}
use Rattle.storage_model.specs.declared.marks.Mark.TheVariants.{Put as PutMark, Bar}
use Rattle.storage_model.specs.declared.plan.Fill.{Fill}
use Rattle.storage_model.specs.declared.plan.Job.{Job}
use Rattle.storage_model.specs.declared.plan.Job.TheVariants.{Write, Flush, Barrier}
use Rattle.trace_rules.specs.Phases.{is_whole, owed_by, tag_due}

-- the puts of a write's first blocks
unfoldable pub puts_of : List Block → ℕ → Fill → Bool → ℕ → List Mark
puts_of blocks sector fill reliable count =
    map (λ k. PutMark (record { sector = sector + k; value = block_at blocks fill k; reliable = reliable })) (range_with_len 0 count)

-- the marks that a phase appends
abbrev pub marks_of : State → Job → ℕ → List Mark
marks_of s (Write sector blocks fill forced reliable high) count = puts_of s.plan.blocks sector fill reliable count
marks_of s Barrier count = if nat_lt s.bars 4294967295 then Bar ∷ [] else []
marks_of s job count = []

abbrev pub bars_with : ℕ → Job → ℕ
bars_with bars Barrier = min (bars + 1) 4294967295
bars_with bars job = bars

-- the sectors that it makes durable
abbrev pub named_by : Job → ℕ → Bool
named_by Flush = every_sector
named_by job = is_named (sector_of job) (blocks_of job)

-- after some sectors were kept
unfoldable pub after_keep : State → (ℕ → Bool) → State
after_keep s named = record s { base = keep_base named s.base s.pend; pend = keep_pend named s.pend }

-- after marks were appended
abbrev pub after_marks : State → Job → ℕ → State
after_marks s job count = record s { pend = s.pend ++ marks_of s job count; bars = bars_with s.bars job }

abbrev pub is_empty : {X : Type 0} → List X → Bool
is_empty xs = length xs == 0

-- no phase that must be kept came since there were no marks
abbrev pub with_kept : State → Bool → State
with_kept s kept = record s { kept = not (is_empty s.pend) && kept }

-- after blocks moved
unfoldable pub after_blocks : State → Job → ℕ → Bool → State
after_blocks s job count kept =
    with_kept (if kept then after_keep (after_marks s job count) (named_by job) else after_marks s job count) (s.kept || must_keep s.plan.through job)

-- the sectors of a read, as they are now
unfoldable pub sectors_now : State → Job → List Block
sectors_now s job = slice_range (contents_now s.base s.pend) (sector_of job) (sector_of job + blocks_of job)

abbrev pub data_with : State → ℕ → Job → List Block → List (List Block)
data_with s tag job sectors = if is_read job then slice_set s.data tag sectors else s.data

-- the host is told of this completion at once
abbrev pub tells : State → Job → Bool
tells s job = is_direct job || (s.plan.coalesce == 0)

-- the counted completions are as many as the host is to be told of together
abbrev pub is_full : State → Bool
is_full s = nat_le s.plan.coalesce (s.count + 1)

-- after a request is done: interrupts are coalesced
unfoldable pub after_done : State → ℕ → ℕ → Job → List Block → State
after_done s tag id job sectors = record s {
  slots = changed_slots (Move id Done) s.slots;
  order = filter (λ other. not (other == tag)) s.order;
  «data» = data_with s tag job sectors;
  notice = s.notice || (tells s job || is_full s);
  count = if tells s job then s.count else (if is_full s then 0 else s.count + 1);
}

-- power is lost in this event
abbrev pub is_of_power : Event → Bool
is_of_power (Told Card) = true
is_of_power (Told Cut) = true
is_of_power Due = true
is_of_power event = false

abbrev pub event_with : Event → Event
event_with event = if is_of_power event then event else Untold

-- the phase ends
abbrev pub closed_by : State → ℕ → Owed → State
closed_by s n owed = record s { n = n; busy = false; spent = 0; owed = owed; event = event_with s.event }

abbrev pub done_with : State → ℕ → ℕ → Job → List Block → Bool → State
done_with s tag id job sectors done = if done then after_done s tag id job sectors else s

-- the data that a read shows
abbrev pub read_sectors : State → Job → List Block
read_sectors s job = if is_read job then sectors_now s job else []

-- the phase of a job on a tag, with what befalls it
abbrev pub phase_by : State → Job → ℕ → Option BusKind → ℕ → ℕ → ℕ → Bool → State
phase_by s job tag kind n id count kept =
    closed_by (done_with (after_blocks s job count kept) tag id job (read_sectors s job) (is_whole s.plan.through job count kept && is_none kind))
    n (owed_by kind (is_whole s.plan.through job count kept) n id count)

unfoldable pub after_phase : State → ℕ → ℕ → ℕ → Bool → State
after_phase s n id count kept = phase_by s (job_of s.plan.jobs id) (tag_due (due s)) (hit s) n id count kept
