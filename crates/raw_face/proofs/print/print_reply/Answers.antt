use Rattle.std.proofs.Common.{List, Option, Some, subst, sym}
use Rattle.std.proofs.lemmas.List.{append-nil}
use Rattle.std.proofs.lemmas.Result.{err_from_is_err_and}
use Rattle.io_edge.specs.Sink.{Joins}
use Rattle.raw_lines.specs.declared.raw_line.RawLine.{RawLine}
use Rattle.storage_model.specs.declared.trace.End.{End}
use Rattle.raw_face.specs.Output.{Shows, ending}
use Rattle.raw_face.specs.Reply.{lines_in}
use Rattle.raw_face.proofs.Printing.{line_broken, shown_after}
use Rattle.raw_face.proofs.print.print_reply.Goals as goal

pub returns-in-Some-clause-shows : goal.returns-in-Some-clause-shows
returns-in-Some-clause-shows g c =
    let both : Joins g.K.Sink.took = record { join = g.met.K.Sink.took_both } in
    let lines = lines_in c.args.reply.now.line in
    let P : Option End → Type 0 = λ end. Shows g.K.Sink.took c.args.out.now (record { lines = lines; end = end }) c.print_end.result c.print_end.new.out in
    let Q : List RawLine → Type 0 = λ all. Shows g.K.Sink.took c.args.out.now (record { lines = all; end = Some c.in-Some.end }) c.print_end.result c.print_end.new.out in
    subst P (sym c.in-Some.is)
    (subst Q (append-nil lines)
    (shown_after g.K.Sink.took both c.args.out.now c.print_line.new.out c.print_end.new.out lines (ending c.in-Some.end) c.print_end.result
    c.in_ok-print_line.ensures.prints c.print_end.ensures.shows))

pub returns-in_err-print_line-clause-shows : goal.returns-in_err-print_line-clause-shows
returns-in_err-print_line-clause-shows g c =
    let p = err_from_is_err_and c.from_residual.result c.from_residual.ensures.1 in
    rw (p.1, p.2) (line_broken g.K.Sink.took c.args.out.now c.print_line.new.out c.args.reply.now.line c.args.reply.now.end c.in_err-print_line.field-0.0 c.in_err-print_line.ensures.prints)
