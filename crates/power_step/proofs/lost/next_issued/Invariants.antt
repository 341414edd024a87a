use Rattle.std.proofs.Common.{◌≡◌, fold, map, take, None}
use Rattle.cut_laws.specs.Lost.{above, lower}
use Rattle.power_step.proofs.lost.next_issued.Given as goal

abbrev pub invariant-loop-tag : goal.invariant-loop-tag
invariant-loop-tag l = l.next ≡ fold lower None (map (above l.last) (take l.tag l.driver.requests.holders))
