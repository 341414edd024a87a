use Rattle.std.proofs.Common.{◌≡◌, ◌-◌, ◌≤◌, false, not, filter, length, take}
use Rattle.std.specs.List.{AllByRecursion}
use Rattle.storage_model.specs.Keep.{is_named}
use Rattle.card_store.specs.Staging.{AreStaged}
use Rattle.card_store.proofs.stage.stage_named.Given as goal

abbrev pub invariant-loop-line : goal.invariant-loop-line
invariant-loop-line g l =
    AreStaged (record { cache = l.initial.cache; known = l.initial.intent; array = g.A.Array.state l.initial.array }) (record { cache = l.cache; known = l.intent; array = g.A.Array.state l.array })
    × AllByRecursion (λ line. line.epoch ≡ l.cache.last) l.cache.lines
    × AllByRecursion (λ line. is_named l.first l.blocks line.sector ≡ false) (take l.k l.cache.lines)
    × (l.k ≤ length l.cache.lines)
    × (filter (λ line. not (is_named l.first l.blocks line.sector)) l.cache.lines ≡ filter (λ line. not (is_named l.first l.blocks line.sector)) l.initial.cache.lines)

abbrev pub decreases-loop-line : goal.decreases-loop-line
decreases-loop-line g l = length l.cache.lines - l.k
