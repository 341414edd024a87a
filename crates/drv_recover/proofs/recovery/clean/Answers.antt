use Rattle.drv_recover.proofs.Quiet.{IsQuiet-cleaned}
use Rattle.drv_recover.proofs.recovery.clean.Goals as goal

pub returns-clause-quiet : goal.returns-clause-quiet
returns-clause-quiet c = rw (c.write-2.ensures.after, c.write.ensures.after) (IsQuiet-cleaned c.args.regs.now)
