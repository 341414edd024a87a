use Rattle.cq_engine.proofs.Written.{holds_written}
use Rattle.host_cases.proofs.engine_cases.Bench.write.Goals as goal

pub returns-clause-holds : goal.returns-clause-holds
returns-clause-holds c =
    holds_written c.args.self.now.engine c.args.self.now.regs c.write.new.self c.args.offset c.args.value c.write.ensures.after c.write.ensures.rings c.requires.holds
