use Rattle.std.proofs.Common.{◌≡◌, take}
use Rattle.task_queue.specs.Queue.{ready_bits}
use Rattle.task_queue.proofs.queue.ready_bits.Given as goal

abbrev pub invariant-loop-task : goal.invariant-loop-task
invariant-loop-task l = l.word ≡ ready_bits (take l.task l.slots)
