use Rattle.std.proofs.Common.{◌≡◌, arith, length, refl}
use Rattle.epoch_cache.proofs.TableSteps.{table_first}
use Rattle.epoch_cache.specs.Table.{lines_of}
use Rattle.epoch_cache.proofs.table.LineTable.start.Goals as goal

pub invariant_of-result : goal.invariant_of-result
invariant_of-result c =
    let size : length c.in_ok-slots.slots.items ≡ c.args.room = omega (arith, c.in_ok-slots.ensures.len, c.in_ok-slots.slots.ok.0) in
    rw c.in_ok-order.ensures (table_first c.in_ok-slots.slots.items c.args.room size (omega arith))

pub returns : goal.returns
unfolding lines_of
returns c =
    let size : length c.in_ok-slots.slots.items ≡ c.args.room = omega (arith, c.in_ok-slots.ensures.len, c.in_ok-slots.slots.ok.0) in
    rw size refl
