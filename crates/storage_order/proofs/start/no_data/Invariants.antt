use Rattle.std.proofs.Common.{◌≡◌, List, [], replicate}
use Rattle.storage_model.specs.declared.block.Block.{Block}
use Rattle.storage_order.proofs.start.no_data.Given as goal

abbrev pub invariant-loop : goal.invariant-loop
invariant-loop l = ◌≡◌ {A = List (List Block)} l.sectors (replicate l.counter [])
