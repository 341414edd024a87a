use Rattle.std.proofs.Common.{refl}
use Rattle.drv_jobs.specs.Standings.{no_holders}
use Rattle.drv_jobs.proofs.holders.no_holders.Goals as goal

pub returns : goal.returns
unfolding no_holders
returns c = refl
