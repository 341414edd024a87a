use Rattle.cq_regs.proofs.RingLaws.{bit_at-slots_word}
use Rattle.cq_regs.proofs.slots.Ring.word.Goals as goal

pub returns-clause-bits : goal.returns-clause-bits
returns-clause-bits c =
    rw (c.slots_word.ensures, c.as_slice.ensures.value, ← c.self.view_is)
    (λ slot. bit_at-slots_word c.self.inside.slots.items slot c.self.invariant)
