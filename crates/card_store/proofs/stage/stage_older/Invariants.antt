use Rattle.std.proofs.Common.{◌≡◌, ◌==◌, filter, length}
use Rattle.card_store.specs.Staging.{AreStaged}
use Rattle.card_store.proofs.stage.stage_older.Given as goal

abbrev pub invariant-loop-cache : goal.invariant-loop-cache
invariant-loop-cache g l = record {
  staged : AreStaged (record { cache = l.initial.cache; known = l.initial.intent; array = g.A.Array.state l.initial.array }) (record { cache = l.cache; known = l.intent; array = g.A.Array.state l.array });
  left : filter (λ line. line.epoch == l.initial.cache.last) l.cache.lines ≡ filter (λ line. line.epoch == l.initial.cache.last) l.initial.cache.lines;
}

abbrev pub decreases-loop-cache : goal.decreases-loop-cache
decreases-loop-cache g l = length l.cache.lines
