use Rattle.std.proofs.Common.{◌≡◌, ◌⊎◌, ◌+◌, ◌≤◌, ◌<◌, true, None, is_some}
use Rattle.storage_model.specs.Count.{Later}
use Rattle.intent_store.specs.Intent.{ShowsImage, shown_by}
use Rattle.raw_face.proofs.raw.open.Given as goal

abbrev pub invariant-loop-opening : goal.invariant-loop-opening
invariant-loop-opening g l = record {
  shown : shown_by (g.A.Array.state l.array) ≡ shown_by (g.A.Array.state l.initial.array);
  kept : ShowsImage (g.A.Array.state l.initial.array) → ShowsImage (g.A.Array.state l.array);
  was_image : ShowsImage (g.A.Array.state l.array) → ShowsImage (g.A.Array.state l.initial.array);
  tells : is_some (g.A.Array.state l.array).told ≡ is_some (g.A.Array.state l.initial.array).told;
  faults : Later (g.A.Array.state l.initial.array).faults (g.A.Array.state l.array).faults;
  cuts : Later (g.A.Array.state l.initial.array).cuts (g.A.Array.state l.array).cuts;
  many : ((g.A.Array.state l.initial.array).cuts.value + l.opening ≤ (g.A.Array.state l.array).cuts.value) ⊎ ((g.A.Array.state l.array).cuts.stands ≡ true);
  closed : 0 < l.opening → l.card.store.known ≡ None;
  room : l.card.store.cache.room ≡ l.initial.card.store.cache.room;
  depth : l.card.depth ≡ l.initial.card.depth;
  lines : l.card.lines ≡ l.initial.card.lines;
  through : l.card.through ≡ l.initial.card.through;
}
