use Rattle.std.proofs.Common.{sym, Ok, Err}
use Rattle.cq_task.proofs.MeaningLaws.{data-exact}
use Rattle.cq_task.proofs.slot.data_task.Goals as goal

pub returns-in-Ok-walk : goal.returns-in-Ok-walk
returns-in-Ok-walk c =
    data-exact c.args.mem.now c.args.wide c.args.word c.args.chain c.in-Ok.desc c.from.result (Ok c.in-Ok-walk.pieces) (sym c.in-Ok.ensures.value)
    c.from.ensures
    (record { pieces = c.in-Ok-walk.ensures.pieces; fault = c.in-Ok-walk.ensures.fault })

pub returns-in-Err-walk : goal.returns-in-Err-walk
returns-in-Err-walk c =
    data-exact c.args.mem.now c.args.wide c.args.word c.args.chain c.in-Ok.desc c.from.result (Err c.in-Err-walk.fault) (sym c.in-Ok.ensures.value)
    c.from.ensures
    (record { pieces = c.in-Err-walk.ensures.pieces; fault = c.in-Err-walk.ensures.fault })
