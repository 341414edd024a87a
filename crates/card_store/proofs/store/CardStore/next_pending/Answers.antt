use Rattle.std.proofs.Common.{◌≡◌, length, arith}
use Rattle.card_store.proofs.Bare.{first_inside, first_of}
use Rattle.card_store.proofs.store.CardStore.next_pending.Goals as goal

pub returns-clause-some : goal.returns-clause-some
returns-clause-some c = first_inside _ _ c.args.from c.sectors.result _ c.sectors.ensures.value c.first_from.ensures

pub returns-clause-next : goal.returns-clause-next
returns-clause-next c =
    let value = rw (← c.self.view_is) at c.sectors.ensures.value in
    rw (← c.self.view_is) (λ c' array stands.
    let same : c.sectors.result ≡ length c'.base = cc (value, stands.sectors) in
    first_of _ _ c.args.from _ _ _ (λ s below. stands.pending.each s (omega (arith, c.sectors.ensures.most))) same c.first_from.ensures)
