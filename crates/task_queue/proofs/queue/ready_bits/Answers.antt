use Rattle.std.proofs.Common.{arith, refl}
use Rattle.std.proofs.Common.{ap, ◌∙◌}
use Rattle.std.specs.Int.{from_bool}
use Rattle.task_queue.specs.Queue.{ready_bits}
use Rattle.task_queue.proofs.Words.{ready_bits-step, ready_bits-step_lt}
use Rattle.task_queue.proofs.queue.ready_bits.Goals as goal

pub loop-task-init : goal.loop-task-init
unfolding ready_bits
loop-task-init c = refl

pub overflow_add-word : goal.overflow_add-word
overflow_add-word c =
    let step = ready_bits-step c.args.slots.now c.loop-task.task c.loop-task.word c.from.result c.loop-task-test.true c.requires c.loop-task.invariant (c.from.ensures ∙ ap from_bool c.is_ready.ensures) in
    omega (arith, step, ready_bits-step_lt c.args.slots.now c.loop-task.task c.loop-task-test.true c.requires)

pub loop-task-preserved : goal.loop-task-preserved
loop-task-preserved c =
    ready_bits-step c.args.slots.now c.loop-task.task c.loop-task.word c.from.result c.loop-task-test.true c.requires c.loop-task.invariant (c.from.ensures ∙ ap from_bool c.is_ready.ensures)
