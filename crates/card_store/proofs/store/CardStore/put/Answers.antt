use Rattle.std.proofs.Common.{Some, ap, sym, ◌∙◌, arith}
use Rattle.std.specs.Prelude.{option_map}
use Rattle.intent_store.specs.Intent.{Known}
use Rattle.card_store.proofs.Turning.{sector_most, turns_put}
use Rattle.card_store.proofs.store.CardStore.put.Goals as goal

pub returns-clause-ok : goal.returns-clause-ok
returns-clause-ok g c =
    let inside = rw (← c.self.view_is) at c.requires.sector in
    let below = sector_most c.self.inside.intent c.args.put.now.sector inside c.self.invariant.most in
    rw (← c.self.view_is) (turns_put c.args.put.now _ _ _ _ c.in_ok-place.ensures.ok
    (ap Some c.in_ok-place.ensures.sectors ∙ sym (ap (option_map (λ (known : Known). known.sectors)) c.in-Some.is)) inside (omega arith) (omega arith) c.insert.ensures.value c.insert-2.ensures.value)
