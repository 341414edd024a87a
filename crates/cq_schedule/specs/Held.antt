-- The tasks that the engine holds: for each of the 32 slots what was read when the slot was served, with how far the slot
-- was when the engine left it and how many of its blocks moved (JESD84-B51, annex B).
use Rattle.std.specs.Prelude.{◌≡◌, ℕ, ◌+◌, ◌<◌, Bool, true, false, List, map, Option, Some, None, replicate, slice_index_or, if◌then◌else◌}
use Rattle.std.specs.List.{range_with_len}
use Rattle.cq_regs.specs.declared.slots.Progress.{Progress}
use Rattle.cq_regs.specs.declared.slots.Progress.TheVariants.{Idle, Rung, Named, Sent, Ready, Active}
use Rattle.cq_regs.specs.State.{Registers}
use Rattle.cq_regs.specs.Slots.{progress_of}
use Rattle.cq_task.specs.declared.slot.DataTask.{DataTask}
use Rattle.cq_schedule.specs.declared.held.HeldTask.{HeldTask}

-- a place for each slot
abbrev pub Places : Type 0
Places = List (Option HeldTask)

-- the 32 slots
unfoldable pub slots : List ℕ
slots = range_with_len 0 32

-- no task is held
abbrev pub none_held : Places
none_held = replicate 32 None

-- what is held of a slot
abbrev pub held_at : Places → ℕ → Option HeldTask
held_at held slot = slice_index_or held slot None

-- a task that was just read, of which no block moved
abbrev pub newly_held : DataTask → HeldTask
newly_held task = record { task = task; progress = Rung; moved = 0 }

-- one block more has moved
abbrev pub with_block : HeldTask → HeldTask
with_block held = record held { moved = held.moved + 1 }

-- a block is left to move
abbrev pub HasBlockLeft : HeldTask → Type 0
HasBlockLeft held = held.moved < held.task.desc.blocks

-- whether two slots have come equally far
abbrev pub same : Progress → Progress → Bool
same Idle Idle = true
same Rung Rung = true
same Named Named = true
same Sent Sent = true
same Ready Ready = true
same Active Active = true
same _ _ = false

-- a task stays held where its slot is as far as the engine left it
abbrev pub kept : Progress → Option HeldTask → Option HeldTask
kept progress (Some held) = if same held.progress progress then Some held else None
kept progress None = None

-- each task that is held of a slot which is as far as the engine left it
abbrev pub remembered : Places → Registers → Places
remembered held regs = map (λ slot. kept (progress_of regs.ring slot) (held_at held slot)) slots

-- a task with how far its slot is
abbrev pub left_at : Progress → Option HeldTask → Option HeldTask
left_at progress (Some held) = Some (record held { progress = progress })
left_at progress None = None

-- each task with how far its slot is
abbrev pub noted : Places → Registers → Places
noted held regs = map (λ slot. left_at (progress_of regs.ring slot) (held_at held slot)) slots

-- for each slot what is held comes to what is said of how far the slot is and of what was held
abbrev pub EachBecomes : (old new : Places) → Registers → (Progress → Option HeldTask → Option HeldTask) → Type 0
EachBecomes old new regs after = (slot : ℕ) → slot < 32 → held_at new slot ≡ after (progress_of regs.ring slot) (held_at old slot)
