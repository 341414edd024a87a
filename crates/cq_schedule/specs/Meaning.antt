-- What the engine does next: of these rules the first that applies (host interface annex of JESD84-B51).
use Rattle.std.specs.Prelude.{◌≡◌, ◌≢◌, ℕ, ◌+◌, ◌*◌, ◌^◌, ◌<◌, ◌≤◌, ◌||◌, ◌⊎◌, nat_lt, Bool, true, not, length, Option, Some, None, slice_get, if◌then◌else◌}
use Rattle.std.specs.Option.{option_map, option_map_or, MatchOption}
use Rattle.host_mem.specs.Memory.{Memory}
use Rattle.cq_regs.specs.declared.slots.Progress.{Progress}
use Rattle.cq_regs.specs.declared.slots.Progress.TheVariants.{Rung, Named, Sent, Ready, Active}
use Rattle.cq_regs.specs.State.{Registers}
use Rattle.cq_regs.specs.Slots.{has_bit, progress_of}
use Rattle.cq_task.specs.declared.list.TaskList.{TaskList}
use Rattle.cq_task.specs.Place.{are_direct, are_wide}
use Rattle.cq_task.specs.Meaning.{HasBarrier}
use Rattle.cq_schedule.specs.declared.rules.Due.{Due}
use Rattle.cq_schedule.specs.declared.rules.Due.TheVariants.{Rest, Block, Close, Address, Serve, Execute, Poll, Tick}
use Rattle.cq_schedule.specs.Held.{Places}
use Rattle.cq_schedule.specs.Holding.{IsHeld}
use Rattle.cq_schedule.specs.Order.{order_of, first_at, first_high, has_flag, blocks_of, moved_of}

-- the task descriptor list that the registers name
abbrev pub list_of : Registers → TaskList
list_of regs = record {
  base = regs.list_base_upper * 2 ^ 32 + regs.list_base;
  wide = are_wide regs.configuration;
  direct = are_direct regs.configuration;
}

-- the engine is disabled, halted or stopped
abbrev pub rests : Registers → Bool
rests regs = not (has_bit regs.configuration 0) || (regs.halted || regs.stopped)

-- the next block of the data phase of a slot, or its close where all blocks moved
abbrev pub next_of_phase : Places → ℕ → Due
next_of_phase held slot = if nat_lt (moved_of held slot) (blocks_of held slot) then Block slot (moved_of held slot) else Close slot

-- a data phase goes on, and a slot that was named gets its start sector, before any slot is served
abbrev pub before_serving : Places → Registers → Option Due
before_serving held regs =
    if rests regs then Some Rest
    else option_map_or (λ slot. Some (next_of_phase held slot)) (first_at Active regs.ring)
    (option_map Address (first_at Named regs.ring))

-- ready slots, those of high priority first; then a poll, where a slot is sent; else the timer
abbrev pub after_serving : Places → Registers → Due
after_serving held regs =
    option_map_or Execute (first_high held regs.ring)
    (option_map_or Execute (first_at Ready regs.ring)
    (option_map_or (λ _. Poll) (first_at Sent regs.ring) Tick))

-- a slot was rung as the k-th of those that are rung, 0 the first
abbrev pub IsAt : Registers → ℕ → ℕ → Type 0
IsAt regs k slot = slice_get (order_of regs.ring) k ≡ Some slot

-- the queue barrier of a slot: of a rung one that which the memory has, of others that which was read when it was served
abbrev pub Bars : Places → Registers → Memory → ℕ → Type 0
Bars held regs memory slot =
    ((progress_of regs.ring slot ≡ Rung) × HasBarrier memory (list_of regs) slot)
    ⊎ ((progress_of regs.ring slot ≢ Rung) × (has_flag held slot ≡ true))

-- a slot that was rung before the k-th has a queue barrier
pub record HasBarBefore (held : Places) (regs : Registers) (memory : Memory) (k : ℕ) : Type 0 where
  pub place : ℕ
  pub slot : ℕ
  pub before : place < k
  pub is_at : IsAt regs place slot
  pub bars : Bars held regs memory slot

-- a queue barrier holds its own slot while any slot that was rung before is not complete, and holds those rung later
abbrev pub IsHeldBack : Places → Registers → Memory → (k slot : ℕ) → Type 0
IsHeldBack held regs memory k slot = ((0 < k) × Bars held regs memory slot) ⊎ HasBarBefore held regs memory k

-- the k-th slot is rung, and no queue barrier holds it back
pub record CanServe (held : Places) (regs : Registers) (memory : Memory) (k slot : ℕ) : Type 0 where
  pub is_at : IsAt regs k slot
  pub is_rung : progress_of regs.ring slot ≡ Rung
  pub is_free : ¬ IsHeldBack held regs memory k slot

-- no slot that was rung before the k-th can be served
abbrev pub NoneServedBefore : Places → Registers → Memory → ℕ → Type 0
NoneServedBefore held regs memory k = (j slot : ℕ) → j < k → ¬ CanServe held regs memory j slot

-- the slot that is served next: the first that can be
pub record IsFirstServed (held : Places) (regs : Registers) (memory : Memory) (slot : ℕ) : Type 0 where
  pub place : ℕ
  pub serves : CanServe held regs memory place slot
  pub first : NoneServedBefore held regs memory place

-- the first slot that can be served, if any
abbrev pub IsNextServed : Places → Registers → Memory → Option ℕ → Type 0
IsNextServed held regs memory (Some slot) = IsFirstServed held regs memory slot
IsNextServed held regs memory None = (k slot : ℕ) → ¬ CanServe held regs memory k slot

-- what the engine does once no slot before serving is due
pub record IsDueThen (held : Places) (regs : Registers) (memory : Memory) (due : Due) : Type 0 where
  pub served : Option ℕ
  pub next : IsNextServed held regs memory served
  pub is : due ≡ option_map_or Serve served (after_serving held regs)

-- what the engine does next
abbrev pub IsDue : Places → Registers → Memory → Due → Type 0
IsDue held regs memory due =
    MatchOption (before_serving held regs) (IsDueThen held regs memory due) (λ first. due ≡ first)

-- a slot with a queue barrier is the only one that is rung
abbrev pub AloneIfBars : Places → Registers → Memory → Type 0
AloneIfBars held regs memory = (k slot : ℕ) → IsAt regs k slot → Bars held regs memory slot → length regs.ring ≤ 1

-- what the engine does next where no queue barrier holds a slot back: the first of these that there is
abbrev pub plain_due : Places → Registers → Due
plain_due held regs =
    if rests regs then Rest
    else option_map_or (next_of_phase held) (first_at Active regs.ring)
    (option_map_or Address (first_at Named regs.ring)
    (option_map_or Serve (first_at Rung regs.ring) (after_serving held regs)))

-- a slot is so far, and its task is held
pub record IsHeldAt (held : Places) (regs : Registers) (progress : Progress) (slot : ℕ) : Type 0 where
  pub below : slot < 32
  pub is_at : progress_of regs.ring slot ≡ progress
  pub is_held : IsHeld held regs slot

-- the slot of what is due
abbrev pub HasItsSlot : Places → Registers → Due → Type 0
HasItsSlot held regs (Block slot block) = IsHeldAt held regs Active slot × (block ≡ moved_of held slot) × (block < blocks_of held slot)
HasItsSlot held regs (Close slot) = IsHeldAt held regs Active slot × (blocks_of held slot ≤ moved_of held slot)
HasItsSlot held regs (Address slot) = IsHeldAt held regs Named slot
HasItsSlot held regs (Serve slot) = (slot < 32) × (progress_of regs.ring slot ≡ Rung)
HasItsSlot held regs (Execute slot) = IsHeldAt held regs Ready slot
HasItsSlot held regs _ = Unit {0}
