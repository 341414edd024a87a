use Rattle.std.proofs.Common.{◌≡◌, arith, get_or}
use Rattle.epoch_cache.proofs.TableSteps.{held_is, slot_within, set_is}
use Rattle.epoch_cache.proofs.table.LineTable.set.Goals as goal

pub index-requires : goal.index-requires
index-requires c =
    let held = held_is c.self.inside.slots.items c.self.inside.order.items c.self.inside.held c.args.self.now c.self.invariant c.self.view_is in
    omega arith

pub index_mut-requires : goal.index_mut-requires
index_mut-requires c =
    let held = held_is c.self.inside.slots.items c.self.inside.order.items c.self.inside.held c.args.self.now c.self.invariant c.self.view_is in
    let inside = slot_within c.self.inside.slots.items c.self.inside.order.items c.self.inside.held c.from.result c.index.result.now c.self.invariant (omega arith) in
    omega arith

pub returns : goal.returns
returns c =
    let held = held_is c.self.inside.slots.items c.self.inside.order.items c.self.inside.held c.args.self.now c.self.invariant c.self.view_is in
    let at : c.from-slot.result ≡ get_or c.self.inside.order.items c.args.k c.from-slot.result = cc in
    set_is c.self.inside.slots.items c.self.inside.order.items c.self.inside.held c.args.k c.from-slot.result c.args.line c.args.self.now c.self.invariant c.self.view_is (omega arith) at
