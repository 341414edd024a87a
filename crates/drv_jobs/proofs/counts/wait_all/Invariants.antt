use Rattle.std.proofs.Common.{◌≡◌, take}
use Rattle.std.specs.Prelude.{fold, length}
use Rattle.drv_jobs.specs.Changes.{waits_again}
use Rattle.drv_jobs.specs.Sound.{IsCounted}
use Rattle.drv_jobs.proofs.counts.wait_all.Given as goal

abbrev pub invariant-loop-holder : goal.invariant-loop-holder
invariant-loop-holder l = record {
  waiting : l.waiting ≡ fold waits_again l.initial.waiting (take l.holder-index l.holders);
  counted : IsCounted l.waiting l.first l.count;
  length : length l.waiting ≡ length l.initial.waiting;
}
