use Rattle.std.proofs.Common.{rules, arith}
use Rattle.std.proofs.lemmas.Result.{err_from_is_err_and}
use Rattle.std.proofs.lemmas.List.{take_rest}
use Rattle.io_edge.proofs.Writes.{took-more, took_part-here}
use Rattle.io_edge.proofs.put.put_all.Goals as goal

pub returns-in_err-done-clause-wrote : goal.returns-in_err-done-clause-wrote
returns-in_err-done-clause-wrote g c =
    let p = err_from_is_err_and c.from_residual.result c.from_residual.ensures.1 in rw p.1
    (took_part-here (record { join = g.met.K.Sink.took_both }) c.loop-done.done c.args.piece.now c.args.out.now c.loop-done.out c.put.new.self
    (omega arith) c.loop-done.invariant.taken c.in_err-done.ensures.taken)

pub loop-done-preserved : goal.loop-done-preserved
loop-done-preserved g c = record {
  within = omega (arith, c.in_ok-done.ensures.within);
  taken = took-more (record { join = g.met.K.Sink.took_both }) c.loop-done.done c.in_ok-done.field-0 c.args.piece.now c.args.out.now c.loop-done.out c.put.new.self
      c.loop-done.invariant.taken (rw (take_rest c.args.piece.now c.loop-done.done) at c.in_ok-done.ensures.taken);
  empty = λ none. absurd (omega (arith, c.in_ok-done.ensures.progress));
  calm = search rules;
}
