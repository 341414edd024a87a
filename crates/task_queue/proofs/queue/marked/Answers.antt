use Rattle.std.proofs.Common.{Bool, get_or, ap, ◌∙◌, arith}
use Rattle.std.specs.Prelude.{None}
use Rattle.task_queue.specs.Queue.{with_mark}
use Rattle.task_queue.proofs.Marks.{length-so_far, marked-all, marked-more}
use Rattle.task_queue.proofs.queue.marked.Goals as goal

pub push-requires : goal.push-requires
push-requires c =
    let long = length-so_far c.args.mask c.args.slots.now c.loop-task.places.items c.loop-task.task (omega arith) c.loop-task.invariant in
    omega arith

pub loop-task-preserved : goal.loop-task-preserved
loop-task-preserved c =
    let more =
    marked-more c.args.mask c.args.slots.now c.loop-task.places.items c.with_mark.result c.loop-task.task c.loop-task-test.true
    c.loop-task.invariant (c.with_mark.ensures ∙ ap (λ (b : Bool). with_mark b (get_or c.args.slots.now c.loop-task.task None)) c.has_bit.ensures) in
    rw c.push.ensures.items more

pub returns : goal.returns
returns c = marked-all c.args.mask c.args.slots.now c.loop-task.places.items c.loop-task.task (omega arith) c.loop-task.invariant
