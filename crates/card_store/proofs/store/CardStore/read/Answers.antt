use Rattle.std.proofs.Common.{ap, sym, ◌∙◌, length}
use Rattle.std.specs.Option.{option_copied}
use Rattle.card_store.proofs.Turning.{inside_base, ok_also, reads_line, reads_shown}
use Rattle.card_store.proofs.store.CardStore.read.Goals as goal

pub returns-in-Some-clause-ok : goal.returns-in-Some-clause-ok
returns-in-Some-clause-ok g c =
    let inside = rw (← c.self.view_is) at c.requires.sector in
    rw (← c.self.view_is) (λ c' stands. reads_line c.self.inside.cache _ c'.base c'.pend c.args.sector c.in-Some.value.now c.self.invariant.cache
    (inside_base _ c.args.sector (length c'.base) stands.sectors inside) stands.lines (sym c.newest.ensures ∙ ap option_copied c.in-Some.is))

pub returns-clause-ok : goal.returns-clause-ok
returns-clause-ok g c =
    let inside = rw (← c.self.view_is) at c.requires.sector in
    rw (← c.self.view_is) (ok_also c.read.result _ _ (λ page c' stands. reads_shown c.self.inside.cache _ c'.base c'.pend c.args.sector c.read.new.block c.self.invariant.cache
    (inside_base _ c.args.sector (length c'.base) stands.sectors inside) stands.lines (sym c.in_default.ensures) page) c.read.ensures.read)
