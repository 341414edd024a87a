use Rattle.std.proofs.lemmas.Result.{err_from_is_err_and}
use Rattle.power_step.proofs.Returning.{unlit}
use Rattle.power_step.proofs.loss.come_back.Goals as goal

pub returns-in_err-print-clause-returns : goal.returns-in_err-print-clause-returns
returns-in_err-print-clause-returns g c =
    let p = err_from_is_err_and c.from_residual-in_err-print.result c.from_residual-in_err-print.ensures.1 in
    rw (p.1, p.2)
    (unlit g.K.Sink.took c.args.pending.now c.args.out.now c.args.card.now (g.A.Array.state c.args.array.now) c.open_again.new.out c.print.new.out c.open_again.new.card (g.A.Array.state c.open_again.new.array) _
    c.in_ok-open_again.ensures.opens c.in_err-print.ensures.takes c.in_err-print.ensures.halt)
