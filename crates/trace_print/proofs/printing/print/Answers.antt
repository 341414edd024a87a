use Rattle.trace_print.proofs.Joined.{one_broken}
use Rattle.trace_print.proofs.printing.print.Goals as goal

pub returns-in-Err-clause-takes : goal.returns-in-Err-clause-takes
returns-in-Err-clause-takes g c = one_broken g.K.Sink.took c.args.out.now c.put_item.new.out c.args.item.now c.in-Err.ensures.wrote
