use Rattle.std.proofs.Common.{◌≡◌, ◌+◌, arith}
use Rattle.epoch_cache.proofs.TableSteps.{range_more}
use Rattle.epoch_cache.proofs.table.first_numbers.Goals as goal

pub loop-number-preserved : goal.loop-number-preserved
loop-number-preserved c =
    let more = range_more 0 c.loop-number.number in
    let same : 0 + c.loop-number.number ≡ c.loop-number.number = omega arith in
    let pushed = c.in_ok-push_back.ensures.items in
    cc
