use Rattle.std.proofs.Common.{◌≡◌, ℕ, ◌<◌, ◌≤◌, ◌^◌, false, arith}
use Rattle.std.proofs.lemmas.Nat.Bits.{bit_at_above}
use Rattle.cq_regs.specs.Slots.{has_bit}
use Rattle.cq_regs.proofs.slots.is_set.Goals as goal

past : (word slot : ℕ) → word < 2 ^ 32 → 32 ≤ slot → false ≡ has_bit word slot
past word slot fits high = rw (bit_at_above word 32 slot fits high)

pub returns-else-slot-lt32 : goal.returns-else-slot-lt32
returns-else-slot-lt32 c = past c.args.word c.args.slot (omega arith) (omega arith)
