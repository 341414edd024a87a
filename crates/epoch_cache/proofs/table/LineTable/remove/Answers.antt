use Rattle.std.proofs.Common.{◌-◌, ◌<◌, arith, length}
use Rattle.epoch_cache.proofs.TableSteps.{held_is, table_moved, moved_is}
use Rattle.epoch_cache.proofs.table.LineTable.remove.Goals as goal

pub move_to_end-requires : goal.move_to_end-requires
move_to_end-requires c =
    let held = held_is c.self.inside.slots.items c.self.inside.order.items c.self.inside.held c.args.self.now c.self.invariant c.self.view_is in
    omega arith

pub overflow_sub-self : goal.overflow_sub-self
overflow_sub-self c =
    let held = held_is c.self.inside.slots.items c.self.inside.order.items c.self.inside.held c.args.self.now c.self.invariant c.self.view_is in
    omega arith

pub invariant_of-self : goal.invariant_of-self
invariant_of-self c =
    let held = held_is c.self.inside.slots.items c.self.inside.order.items c.self.inside.held c.args.self.now c.self.invariant c.self.view_is in
    let enough = c.self.invariant.enough in
    let inside : c.args.k < length c.self.inside.order.items = omega arith in
    rw (c.move_to_end.ensures, c.from.ensures) (table_moved c.self.inside.slots.items c.self.inside.order.items c.self.inside.held c.args.k (c.self.inside.held - 1) c.self.invariant inside (omega arith))

pub returns : goal.returns
returns c =
    let held = held_is c.self.inside.slots.items c.self.inside.order.items c.self.inside.held c.args.self.now c.self.invariant c.self.view_is in
    moved_is c.self.inside.slots.items c.self.inside.order.items _ c.self.inside.held c.args.k c.args.self.now c.self.invariant c.self.view_is (omega arith) (rw c.from.ensures at c.move_to_end.ensures)
