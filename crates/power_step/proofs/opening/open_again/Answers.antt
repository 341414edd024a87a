use Rattle.std.proofs.Common.{arith}
use Rattle.std.proofs.lemmas.Result.{err_from_is_err_and}
use Rattle.io_edge.specs.Sink.{Joins}
use Rattle.power_step.proofs.Openings.{dead_opens, failed_opens}
use Rattle.power_step.proofs.opening.open_again.Goals as goal

pub returns-in_err-print_failed-in-Err-clause-opens : goal.returns-in_err-print_failed-in-Err-clause-opens
returns-in_err-print_failed-in-Err-clause-opens g c =
    let both : Joins g.K.Sink.took = record { join = g.met.K.Sink.took_both } in
    let p = err_from_is_err_and c.from_residual.result c.from_residual.ensures.1 in
    rw (p.1, p.2) (failed_opens g.K.Sink.took both c.args.out.now c.loop-cuts.out c.print_failed.new.out c.loop-cuts.cuts c.args.card.now c.boot.new.self (g.A.Array.state c.args.array.now) (g.A.Array.state c.loop-cuts.array) c.loop-cuts.invariant.taken c.loop-cuts.invariant.kept (omega (arith, c.loop-cuts-test.true)) (g.A.Array.state c.boot.new.array) c.in-Err.ensures.shown c.in-Err.ensures.image c.in-Err.why _ c.in-Err.ensures.ends c.in_err-print_failed-in-Err.ensures.taken c.in_err-print_failed-in-Err.ensures.halt)

pub returns-in_err-print-clause-opens : goal.returns-in_err-print-clause-opens
returns-in_err-print-clause-opens g c =
    let both : Joins g.K.Sink.took = record { join = g.met.K.Sink.took_both } in
    let few = c.loop-cuts.invariant.few in
    let p = err_from_is_err_and c.from_residual-in_err-print.result c.from_residual-in_err-print.ensures.1 in
    rw (p.1, p.2) (dead_opens g.K.Sink.took both c.args.out.now c.loop-cuts.out c.print.new.out c.loop-cuts.cuts c.args.card.now c.loop-cuts.card (g.A.Array.state c.args.array.now) (g.A.Array.state c.loop-cuts.array) c.loop-cuts.invariant.taken c.loop-cuts.invariant.kept _ (omega (arith, c.loop-cuts-test.false, few)) c.in_err-print.ensures.takes c.in_err-print.ensures.halt)
