use Rattle.std.proofs.Common.{◌∙◌, arith, sym}
use Rattle.std.proofs.lemmas.Grind.{common_steps}
use Rattle.std.proofs.lemmas.Result.{err_from_is_err_and}
use Rattle.io_edge.specs.Sink.{Joins}
use Rattle.cut_laws.proofs.Numbers.{next_above}
use Rattle.power_step.proofs.Losing.{lost_broken, lost_next}
use Rattle.power_step.proofs.lost.print_lost.Goals as goal

pub returns-in_err-print-clause-lost : goal.returns-in_err-print-clause-lost
returns-in_err-print-clause-lost g c =
    let p = err_from_is_err_and c.from_residual.result c.from_residual.ensures.1 in
    rw (p.1, p.2) (c.loop-id.invariant.lost _ _ (lost_broken g.K.Sink.took c.args.driver.now.requests.holders c.loop-id.last c.in-Some.id c.loop-id.out c.print.new.out _ (sym c.next_issued.ensures ∙ c.in-Some.is) c.in_err-print.ensures.takes c.in_err-print.ensures.halt))

pub loop-id-smaller : goal.loop-id-smaller
loop-id-smaller g c =
    let less = next_above c.loop-id.last c.args.driver.now.requests.holders c.in-Some.id (sym c.next_issued.ensures ∙ c.in-Some.is) in
    grind (arith, common_steps, less)

pub loop-id-preserved : goal.loop-id-preserved
loop-id-preserved g c =
    let both : Joins g.K.Sink.took = record { join = g.met.K.Sink.took_both } in
    record {
      lost = λ result new rest.
          c.loop-id.invariant.lost result new
          (lost_next g.K.Sink.took both c.args.driver.now.requests.holders c.loop-id.last c.in-Some.id c.loop-id.out c.print.new.out new result (sym c.next_issued.ensures ∙ c.in-Some.is) c.in_ok-print.ensures.takes rest);
      faults = grind (arith, common_steps);
    }
