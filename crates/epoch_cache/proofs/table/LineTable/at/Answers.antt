use Rattle.std.proofs.Common.{arith}
use Rattle.epoch_cache.proofs.TableSteps.{held_is, slot_within, line_read}
use Rattle.epoch_cache.proofs.table.LineTable.at.Goals as goal

pub index-requires : goal.index-requires
index-requires c =
    let held = held_is c.self.inside.slots.items c.self.inside.order.items c.self.inside.held c.args.self.now c.self.invariant c.self.view_is in
    omega arith

pub index-requires-2 : goal.index-requires-2
index-requires-2 c =
    let held = held_is c.self.inside.slots.items c.self.inside.order.items c.self.inside.held c.args.self.now c.self.invariant c.self.view_is in
    let inside = slot_within c.self.inside.slots.items c.self.inside.order.items c.self.inside.held c.from.result c.index.result.now c.self.invariant (omega arith) in
    omega arith

pub returns : goal.returns
returns c =
    let held = held_is c.self.inside.slots.items c.self.inside.order.items c.self.inside.held c.args.self.now c.self.invariant c.self.view_is in
    line_read c.self.inside.slots.items c.self.inside.order.items c.self.inside.held c.args.k c.from-2.result c.index-2.result.now c.args.self.now c.self.invariant c.self.view_is (omega arith) (cc) c.index-2.ensures
