use Rattle.std.proofs.Common.{◌≡◌, [], length}
use Rattle.card_store.specs.Staging.{AreStaged}
use Rattle.card_store.proofs.stage.stage_all.Given as goal

abbrev pub invariant-loop-cache : goal.invariant-loop-cache
invariant-loop-cache g l = record {
  staged : AreStaged (record { cache = l.initial.cache; known = l.initial.intent; array = g.A.Array.state l.initial.array }) (record { cache = l.cache; known = l.intent; array = g.A.Array.state l.array });
  bare : l.initial.cache.lines ≡ [] → (l.cache.lines ≡ []) × (g.A.Array.state l.array ≡ g.A.Array.state l.initial.array);
}

abbrev pub decreases-loop-cache : goal.decreases-loop-cache
decreases-loop-cache g l = length l.cache.lines
