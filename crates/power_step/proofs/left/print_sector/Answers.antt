use Rattle.std.proofs.Common.{◌≡◌, Some, arith, inr, refl, subst}
use Rattle.std.proofs.lemmas.Result.{err_from_is_err_and}
use Rattle.storage_model.specs.declared.trace.End.TheVariants.{Fault}
use Rattle.storage_model.specs.declared.trace.Item.TheVariants.{Off}
use Rattle.card_store.specs.Store.{sectors_of}
use Rattle.power_step.proofs.Reading.{is_read, read_failed, sector_broken, sector_passed, sector_printed, sector_unread}
use Rattle.power_step.proofs.left.print_sector.Goals as goal

pub returns-then-sector-sectors-clause-sector : goal.returns-then-sector-sectors-clause-sector
returns-then-sector-sectors-clause-sector g c =
    let is = subst (λ store. sectors_of store ≡ Some c.sectors.result) c.store.ensures c.sectors.ensures.value in
    sector_passed g.K.Sink.took c.args.sector c.args.card.now (g.A.Array.state c.args.array.now) g.met.K.Sink.took_nothing c.args.out.now c.sectors.result c.requires.open is (omega (arith, c.if-sector-sectors.true))

pub returns-in_err-print-in-Err-clause-sector : goal.returns-in_err-print-in-Err-clause-sector
returns-in_err-print-in-Err-clause-sector g c =
    let e = c.in-Err.ensures in
    let read = is_read c.args.card.now (g.A.Array.state c.args.array.now) c.read.new.self (g.A.Array.state c.read.new.array) e.open e.card e.store e.same e.ends.faults e.turns e.cache in
    let p = err_from_is_err_and c.from_residual.result c.from_residual.ensures.1 in
    rw (p.1, p.2)
    (sector_broken g.K.Sink.took c.args.sector c.args.card.now (g.A.Array.state c.args.array.now) c.args.out.now c.print-in-Err.new.out c.read.new.block c.read.new.self (g.A.Array.state c.read.new.array) read _ (Off Fault) (record { no_flash = refl; no_cut = refl }) (λ after shown stands below. inr refl)
    c.in_err-print-in-Err.ensures.takes c.in_err-print-in-Err.ensures.halt)

pub returns-in-Ok-clause-sector : goal.returns-in-Ok-clause-sector
returns-in-Ok-clause-sector g c =
    let e = c.in-Ok.ensures in
    let read = is_read c.args.card.now (g.A.Array.state c.args.array.now) c.read.new.self (g.A.Array.state c.read.new.array) e.open e.card e.store e.same e.ends.faults e.turns e.cache in
    sector_printed g.K.Sink.took c.args.sector c.args.card.now (g.A.Array.state c.args.array.now) c.args.out.now c.print.new.out c.read.new.block c.read.new.self (g.A.Array.state c.read.new.array) read c.print.result e.ok c.print.ensures.takes c.print.ensures.halt

pub returns-in_ok-print-in-Err-clause-sector : goal.returns-in_ok-print-in-Err-clause-sector
returns-in_ok-print-in-Err-clause-sector g c =
    let e = c.in-Err.ensures in
    let read = is_read c.args.card.now (g.A.Array.state c.args.array.now) c.read.new.self (g.A.Array.state c.read.new.array) e.open e.card e.store e.same e.ends.faults e.turns e.cache in
    sector_unread g.K.Sink.took c.args.sector c.args.card.now (g.A.Array.state c.args.array.now) c.args.out.now c.print-in-Err.new.out c.read.new.block c.read.new.self (g.A.Array.state c.read.new.array) read
    (read_failed c.in-Err.field-0 (g.A.Array.state c.args.array.now) (g.A.Array.state c.read.new.array) c.requires.powered e.same e.ends) c.in_ok-print-in-Err.ensures.takes
