use Rattle.std.proofs.Common.{refl}
use Rattle.cq_regs.proofs.CalmLaws.{calm_row, calm_same}
use Rattle.cq_regs.proofs.registers.Regs.write.Goals as goal

pub returns-in-Some-clause-calm : goal.returns-in-Some-clause-calm
returns-in-Some-clause-calm c =
    calm_row c.args.self.now c.put.new.self c.in-Some.row c.args.value c.put.ensures.after c.put.ensures.rings

pub returns-in-None-clause-calm : goal.returns-in-None-clause-calm
returns-in-None-clause-calm c = calm_same c.args.self.now c.args.self.now refl refl
