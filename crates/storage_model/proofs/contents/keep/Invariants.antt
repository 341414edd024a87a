use Rattle.std.proofs.Common.{◌≡◌, ◌≤◌, drop, length}
use Rattle.storage_model.specs.Keep.{is_named, keep_base, keep_pend}
use Rattle.storage_model.proofs.Keeps.{base_after, others_after}
use Rattle.storage_model.proofs.contents.keep.Given as goal

abbrev pub invariant-loop-mark : goal.invariant-loop-mark
invariant-loop-mark l = record {
  base : base_after l.last (is_named l.first l.blocks) l.epoch l.contents.items (drop l.mark-index l.pend) ≡ keep_base (is_named l.first l.blocks) l.base l.pend;
  pend : others_after l.last (is_named l.first l.blocks) l.epoch l.others (drop l.mark-index l.pend) ≡ keep_pend (is_named l.first l.blocks) l.pend;
  long : length l.contents.items ≡ length l.base;
  below : l.epoch ≤ l.mark-index;
}
