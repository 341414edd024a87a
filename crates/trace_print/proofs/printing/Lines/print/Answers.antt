use Rattle.std.proofs.Common.{sym}
use Rattle.io_edge.specs.Sink.{Joins}
use Rattle.trace_print.proofs.Joined.{takes_behind}
use Rattle.trace_print.proofs.printing.Lines.print.Goals as goal
use Rattle.trace_print.specs.Prints.{line_in}

pub returns-clause-takes : goal.returns-clause-takes
returns-clause-takes g c =
    let both : Joins g.K.Sink.took = record { join = g.met.K.Sink.took_both } in
    rw (sym c.self.view_is)
    (takes_behind g.K.Sink.took both c.args.out.now c.print_if.new.out c.print_if-2.new.out (line_in c.self.inside.first) (line_in c.self.inside.second) c.print_if-2.result
    c.in_ok-print_if.ensures.takes c.print_if-2.ensures.takes)
