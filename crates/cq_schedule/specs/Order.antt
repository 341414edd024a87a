-- The slots in order of ringing, and what the engine holds of them.
use Rattle.std.specs.Prelude.{ℕ, ◌&&◌, Bool, false, List, map, take, Option}
use Rattle.std.specs.List.{find}
use Rattle.std.specs.Option.{option_map_or}
use Rattle.cq_regs.specs.declared.slots.Progress.{Progress}
use Rattle.cq_regs.specs.declared.slots.Progress.TheVariants.{Ready}
use Rattle.cq_regs.specs.declared.slots.Ringed.{Ringed}
use Rattle.cq_regs.specs.Slots.{progress_of}
use Rattle.cq_schedule.specs.Held.{Places, held_at, same}

-- the slots that are rung, in order of ringing: no more than there are slots
abbrev pub order_of : List Ringed → List ℕ
order_of ring = take 32 (map (λ r. r.slot) ring)

-- the first slot in order of ringing that has come just so far
abbrev pub first_at : Progress → List Ringed → Option ℕ
first_at progress ring = find (λ slot. same (progress_of ring slot) progress) (order_of ring)

-- whether the task that is held of a slot has high priority, or a queue barrier
abbrev pub is_high : Places → ℕ → Bool
is_high held slot = option_map_or (λ h. h.task.desc.high) (held_at held slot) false

abbrev pub has_flag : Places → ℕ → Bool
has_flag held slot = option_map_or (λ h. h.task.desc.barrier) (held_at held slot) false

-- the blocks of the task that is held of a slot, and how many of them moved
abbrev pub blocks_of : Places → ℕ → ℕ
blocks_of held slot = option_map_or (λ h. h.task.desc.blocks) (held_at held slot) 0

abbrev pub moved_of : Places → ℕ → ℕ
moved_of held slot = option_map_or (λ h. h.moved) (held_at held slot) 0

-- the first slot in order of ringing that is ready and of high priority
abbrev pub first_high : Places → List Ringed → Option ℕ
first_high held ring = find (λ slot. same (progress_of ring slot) Ready && is_high held slot) (order_of ring)
