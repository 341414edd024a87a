use Rattle.std.proofs.Common.{◌∙◌, ◌+◌, Err, ap, arith, drop, subst, sym}
use Rattle.std.proofs.lemmas.Grind.{common_steps}
use Rattle.std.proofs.lemmas.List.{drop_more}
use Rattle.std.proofs.lemmas.Result.{err_from_is_err_and}
use Rattle.io_edge.specs.Sink.{Joins}
use Rattle.power_step.specs.Cut.{LeftWritten}
use Rattle.power_step.proofs.Lefts.{left_broken, left_next}
use Rattle.power_step.proofs.left.print_left.Goals as goal

pub returns-in_err-print_sector-clause-left : goal.returns-in_err-print_sector-clause-left
returns-in_err-print_sector-clause-left g c =
    let p = err_from_is_err_and c.from_residual.result c.from_residual.ensures.1 in
    let from = drop_more c.args.sectors.now c.loop-k.k 0 (omega (arith, c.loop-k-test.true)) in
    let halt = c.in_err-print_sector.field-0.0 in
    rw (p.1, p.2)
    (c.loop-k.invariant.left (Err halt) _ _ _
    (subst (λ those. LeftWritten g.K.Sink.took those c.loop-k.out c.loop-k.card (g.A.Array.state c.loop-k.array) (Err halt) c.print_sector.new.out c.print_sector.new.card (g.A.Array.state c.print_sector.new.array)) (sym from)
    (left_broken g.K.Sink.took _ (drop (c.loop-k.k + 1) c.args.sectors.now) halt c.loop-k.out c.print_sector.new.out c.loop-k.card c.print_sector.new.card (g.A.Array.state c.loop-k.array) (g.A.Array.state c.print_sector.new.array) c.in_err-print_sector.ensures.sector)))

pub loop-k-preserved : goal.loop-k-preserved
loop-k-preserved g c =
    let both : Joins g.K.Sink.took = record { join = g.met.K.Sink.took_both } in
    let from = drop_more c.args.sectors.now c.loop-k.k 0 (omega (arith, c.loop-k-test.true)) in
    let shown = c.in_ok-print_sector.ensures.sector in
    record {
      left = λ result new card' a' rest.
          c.loop-k.invariant.left result new card' a'
          (subst (λ those. LeftWritten g.K.Sink.took those c.loop-k.out c.loop-k.card (g.A.Array.state c.loop-k.array) result new card' a') (sym from)
          (left_next g.K.Sink.took both _ (drop (c.loop-k.k + 1) c.args.sectors.now) result c.loop-k.out c.print_sector.new.out new c.loop-k.card c.print_sector.new.card card' (g.A.Array.state c.loop-k.array) (g.A.Array.state c.print_sector.new.array) a' shown rest));
      is_open = shown.read.is_open;
      powered = ap (λ x. x.powered) shown.read.array ∙ c.loop-k.invariant.powered;
      faults = grind (arith, common_steps);
    }
