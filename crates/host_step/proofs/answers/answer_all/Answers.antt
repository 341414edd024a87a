use Rattle.std.proofs.Common.{◌≡◌, arith, flat_map, ◌+◌, ◌-◌, subst}
use Rattle.std.proofs.lemmas.Grind.{common_steps}
use Rattle.std.proofs.lemmas.Result.{err_from_is_err_and}
use Rattle.std.specs.List.{range_with_len}
use Rattle.io_edge.specs.Sink.{Joins}
use Rattle.trace_text.specs.Trace.{items_text}
use Rattle.world_state.specs.Host.{answer_at}
use Rattle.host_step.proofs.Joined.{failed_amid, flat_around, flat_more, taken_more}
use Rattle.host_step.proofs.answers.answer_all.Goals as goal

pub returns-in_err-answer_tag-clause-takes : goal.returns-in_err-answer_tag-clause-takes
returns-in_err-answer_tag-clause-takes g c =
    let both : Joins g.K.Sink.took = record { join = g.met.K.Sink.took_both } in
    let p = err_from_is_err_and c.from_residual.result c.from_residual.ensures.1 in
    let f = answer_at c.args.path.now c.args.path.now.regs.completed in
    let k = c.loop-tag.tag in
    rw (p.1, p.2)
    (failed_amid g.K.Sink.took both c.args.out.now c.loop-tag.out c.answer_tag.new.out (flat_map f (range_with_len 0 k)) (f k)
    (flat_map f (range_with_len (k + 1) (32 - (k + 1)))) (flat_map f (range_with_len 0 32)) _ c.in_err-answer_tag.ensures.halt
    (flat_around f 32 k c.loop-tag-test.true) c.loop-tag.invariant.taken c.in_err-answer_tag.ensures.takes)

pub loop-tag-preserved : goal.loop-tag-preserved
loop-tag-preserved g c =
    let both : Joins g.K.Sink.took = record { join = g.met.K.Sink.took_both } in
    let f = answer_at c.args.path.now c.args.path.now.regs.completed in
    let k = c.loop-tag.tag in
    record {
      taken = taken_more g.K.Sink.took both c.args.out.now c.loop-tag.out c.answer_tag.new.out (flat_map f (range_with_len 0 k)) (f k) _
          (flat_more f k) c.loop-tag.invariant.taken c.in_ok-answer_tag.ensures.takes;
      faults = grind (arith, common_steps);
    }

pub returns-clause-takes : goal.returns-clause-takes
returns-clause-takes g c =
    let f = answer_at c.args.path.now c.args.path.now.regs.completed in
    let over : c.loop-tag.tag ≡ 32 = omega (arith, c.loop-tag-test.false, c.loop-tag.auto.tag-end) in
    subst (λ n. g.K.Sink.took c.args.out.now (items_text (flat_map f (range_with_len 0 n))) c.loop-tag.out) over c.loop-tag.invariant.taken
