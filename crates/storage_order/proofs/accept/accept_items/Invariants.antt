use Rattle.std.proofs.Common.{drop}
use Rattle.storage_order.proofs.Folds.{Took}
use Rattle.storage_order.proofs.accept.accept_items.Given as goal

abbrev pub invariant-loop-item : goal.invariant-loop-item
invariant-loop-item l = Took l.initial.state l.state l.items (drop l.item-index l.items)
