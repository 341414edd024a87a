use Rattle.epoch_cache.proofs.TableSteps.{held_is}
use Rattle.epoch_cache.proofs.table.LineTable.len.Goals as goal

pub returns : goal.returns
returns c = held_is c.self.inside.slots.items c.self.inside.order.items c.self.inside.held c.args.self.now c.self.invariant c.self.view_is
