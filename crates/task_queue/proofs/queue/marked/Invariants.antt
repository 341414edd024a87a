use Rattle.std.proofs.Common.{◌≡◌, take}
use Rattle.task_queue.specs.Queue.{marked}
use Rattle.task_queue.proofs.queue.marked.Given as goal

abbrev pub invariant-loop-task : goal.invariant-loop-task
invariant-loop-task l = l.places.items ≡ take l.task (marked l.mask l.slots)
