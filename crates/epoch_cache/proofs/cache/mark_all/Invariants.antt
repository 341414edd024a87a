use Rattle.std.proofs.Common.{◌≡◌, ◌+◌, ◌*◌, ◌≤◌, take}
use Rattle.indexmap.specs.IndexMap.{index_map_len, spare}
use Rattle.epoch_cache.specs.Recent.{AreFound}
use Rattle.epoch_cache.proofs.cache.mark_all.Given as goal

abbrev pub invariant-loop-k : goal.invariant-loop-k
invariant-loop-k l = record {
  found : AreFound (take l.k l.table.lines) l.recent.places l.recent.first;
  roomy : 2 * l.table.room ≤ index_map_len l.recent.places + spare l.recent.places;
  left : 2 * l.table.room ≤ spare l.recent.places + l.k;
  first : l.recent.first ≡ 0;
}
