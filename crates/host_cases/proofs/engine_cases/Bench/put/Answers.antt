use Rattle.cq_engine.proofs.Lying.{lie_same, space_copied}
use Rattle.host_cases.proofs.engine_cases.Bench.put.Goals as goal

pub returns-clause-lie : goal.returns-clause-lie
returns-clause-lie c =
    lie_same c.args.self.now.mem c.copy_in.new.self c.args.self.now.engine.held
    (space_copied c.args.self.now.mem c.copy_in.new.self c.args.at _ c.copy_in.result c.copy_in.ensures.inside c.copy_in.ensures.ok c.copy_in.ensures.err)
    c.requires.lie
