use Rattle.std.proofs.Common.{◌≡◌, ap, arith, get_or, length}
use Rattle.epoch_cache.specs.Table.{Table}
use Rattle.epoch_cache.proofs.TableSteps.{held_is, slot_within, table_set, more_is}
use Rattle.epoch_cache.proofs.table.LineTable.push.Goals as goal

pub index-requires : goal.index-requires
index-requires c =
    let held = held_is c.self.inside.slots.items c.self.inside.order.items c.self.inside.held c.args.self.now c.self.invariant c.self.view_is in
    let room : length c.self.inside.slots.items ≡ c.args.self.now.room = ap (λ (t : Table). t.room) c.self.view_is in
    omega arith

pub index_mut-requires : goal.index_mut-requires
index_mut-requires c =
    let held = held_is c.self.inside.slots.items c.self.inside.order.items c.self.inside.held c.args.self.now c.self.invariant c.self.view_is in
    let room : length c.self.inside.slots.items ≡ c.args.self.now.room = ap (λ (t : Table). t.room) c.self.view_is in
    let inside = slot_within c.self.inside.slots.items c.self.inside.order.items c.self.inside.held c.from.result c.index.result.now c.self.invariant (omega arith) in
    omega arith

pub overflow_add-self : goal.overflow_add-self
overflow_add-self c =
    let held = held_is c.self.inside.slots.items c.self.inside.order.items c.self.inside.held c.args.self.now c.self.invariant c.self.view_is in
    let room : length c.self.inside.slots.items ≡ c.args.self.now.room = ap (λ (t : Table). t.room) c.self.view_is in
    omega arith

pub invariant_of-self : goal.invariant_of-self
invariant_of-self c =
    let held = held_is c.self.inside.slots.items c.self.inside.order.items c.self.inside.held c.args.self.now c.self.invariant c.self.view_is in
    let room : length c.self.inside.slots.items ≡ c.args.self.now.room = ap (λ (t : Table). t.room) c.self.view_is in
    table_set c.self.inside.slots.items c.self.inside.order.items c.self.inside.held _ _ c.args.line c.self.invariant (omega arith)

pub returns : goal.returns
returns c =
    let held = held_is c.self.inside.slots.items c.self.inside.order.items c.self.inside.held c.args.self.now c.self.invariant c.self.view_is in
    let room : length c.self.inside.slots.items ≡ c.args.self.now.room = ap (λ (t : Table). t.room) c.self.view_is in
    let at : c.from-slot.result ≡ get_or c.self.inside.order.items c.self.inside.held c.from-slot.result = cc in
    more_is c.self.inside.slots.items c.self.inside.order.items c.self.inside.held c.from-slot.result c.args.line c.args.self.now c.self.invariant c.self.view_is (omega arith) at
