use Rattle.std.proofs.Common.{◌≡◌, take}
use Rattle.std.specs.Prelude.{count_by, is_some}
use Rattle.drv_jobs.proofs.holders.count_issued.Given as goal

abbrev pub invariant-loop-holder : goal.invariant-loop-holder
invariant-loop-holder l = l.count ≡ count_by is_some (take l.holder-index l.holders)
