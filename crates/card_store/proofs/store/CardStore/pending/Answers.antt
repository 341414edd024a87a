use Rattle.std.proofs.Common.{sym, ◌∙◌}
use Rattle.card_store.proofs.Bare.{stands_bare}
use Rattle.card_store.proofs.Turning.{sector_most}
use Rattle.card_store.proofs.store.CardStore.pending.Goals as goal

pub returns-clause-bare : goal.returns-clause-bare
returns-clause-bare c =
    let inside = rw (← c.self.view_is) at c.requires in
    let below = sector_most c.self.inside.intent c.args.sector inside c.self.invariant.most in
    rw (← c.self.view_is) (λ none c' array stands. stands_bare _ array c' c.args.sector stands inside (sym (stands.pending.each c.args.sector below) ∙ sym c.has.ensures ∙ none))
