use Rattle.drv_jobs.proofs.SoundLaws.{AreTied-none}
use Rattle.drv_jobs.proofs.holders.free_all.Goals as goal

pub returns-clause-tied : goal.returns-clause-tied
returns-clause-tied c = rw (c.new.ensures, c.no_holders.ensures) (AreTied-none c.args.depth)
