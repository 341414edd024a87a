use Rattle.ext_csd.proofs.Switches.{others_of, reads_of}
use Rattle.ext_csd.proofs.csd.ExtCsd.switch.Goals as goal

pub returns-clause-reads : goal.returns-clause-reads
returns-clause-reads c = reads_of c.args.self.now c.carry_out.new.self c.args.arg c.carry_out.result c.carry_out.ensures.ok

pub returns-clause-others : goal.returns-clause-others
returns-clause-others c = others_of c.args.self.now c.carry_out.new.self c.args.arg c.carry_out.result c.carry_out.ensures.ok c.carry_out.ensures.err
