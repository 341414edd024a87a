use Rattle.std.proofs.lemmas.Result.{err_from_is_err_and}
use Rattle.raw_face.proofs.Printing.{end_broken}
use Rattle.raw_face.proofs.print.print_end.Goals as goal

pub returns-in_err-print-clause-shows : goal.returns-in_err-print-clause-shows
returns-in_err-print-clause-shows g c =
    let p = err_from_is_err_and c.from_residual.result c.from_residual.ensures.1 in
    rw (p.1, p.2) (end_broken g.K.Sink.took c.args.out.now c.print.new.out c.args.end c.in_err-print.field-0.0 c.in_err-print.ensures.prints)
