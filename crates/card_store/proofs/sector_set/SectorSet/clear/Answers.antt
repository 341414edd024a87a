use Rattle.std.proofs.Common.{◌≡◌, arith, length}
use Rattle.std.proofs.lemmas.List.{with_items_is}
use Rattle.card_store.proofs.Turning.{says_none}
use Rattle.card_store.proofs.sector_set.SectorSet.clear.Goals as goal

pub returns : goal.returns
returns c =
    let kept : length c.loop-has.has-items ≡ c.self.inside.has.len = omega arith in
    rw (with_items_is c.self.inside.has c.loop-has.has-items kept) (says_none c.loop-has.has-items (λ k below. c.loop-has.invariant k (omega arith)))
