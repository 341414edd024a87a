use Rattle.drv_core.proofs.Words.{acknowledged-is}
use Rattle.drv_core.proofs.driver.acknowledge.Goals as goal

pub returns-clause-after : goal.returns-clause-after
returns-clause-after c =
    rw (c.write-2.ensures.after, c.write.ensures.after) (acknowledged-is c.args.regs.now c.value-mask.result c.value-mask.ensures.value c.value-mask.type_inv)
