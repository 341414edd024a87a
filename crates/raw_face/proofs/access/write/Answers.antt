use Rattle.cq_engine.proofs.Written.{holds_written}
use Rattle.raw_face.proofs.access.write.Goals as goal

pub returns-in-Ok-clause-holds : goal.returns-in-Ok-clause-holds
returns-in-Ok-clause-holds c = λ engine.
    holds_written engine c.args.regs.now c.write.new.self c.args.reg c.args.value c.write.ensures.after c.write.ensures.rings

pub returns-in-Err-clause-holds : goal.returns-in-Err-clause-holds
returns-in-Err-clause-holds c = λ engine.
    holds_written engine c.args.regs.now c.write.new.self c.args.reg c.args.value c.write.ensures.after c.write.ensures.rings
