use Rattle.std.proofs.Common.{◌≡◌, arith}
use Rattle.trace_effects.proofs.Ranges.{range_more}
use Rattle.trace_effects.specs.Cuts.{all_epochs}
use Rattle.trace_effects.proofs.cut_effects.all_epochs.Goals as goal

pub loop-epoch-preserved : goal.loop-epoch-preserved
loop-epoch-preserved c = let more = range_more c.loop-epoch.epoch in let pushed = c.in_ok-push.ensures.ok in cc

pub returns : goal.returns
unfolding all_epochs
returns c =
    let more = range_more c.count_bars-last.result in
    let pushed = c.in_ok-push-2.ensures.ok in
    let all : c.loop-epoch.epoch ≡ c.count_bars-last.result = omega arith in
    cc
