use Rattle.task_queue.proofs.Words.{bit_at-ready_word}
use Rattle.task_queue.proofs.queue.TaskQueue.status_word.Goals as goal

pub returns-clause-bits : goal.returns-clause-bits
returns-clause-bits c =
    rw (c.ready_bits.ensures, c.as_slice.ensures.value, ← c.self.view_is)
    (bit_at-ready_word (record { slots = c.self.inside.slots.items; waiting = c.self.inside.waiting }))
