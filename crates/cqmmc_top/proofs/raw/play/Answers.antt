use Rattle.std.proofs.Common.{arith}
use Rattle.std.proofs.lemmas.Result.{err_from_is_err_and}
use Rattle.cqmmc_top.proofs.Playing.{cause_then, does_cause, finishes_cause, no_cause, plays_end, plays_halt, plays_next}
use Rattle.cqmmc_top.proofs.raw.play.Goals as goal

pub loop-op-init : goal.loop-op-init
loop-op-init g c = record {
  same = c.as_slice-op-items.ensures;
  stands = c.requires.stands;
  cause = no_cause _ _;
  plays = λ result new out plays. plays;
}

pub op-requires-clause-stands : goal.op-requires-clause-stands
op-requires-clause-stands g c = c.loop-op.invariant.stands

pub returns-in_err-op-clause-plays : goal.returns-in_err-op-clause-plays
returns-in_err-op-clause-plays g c =
    let p = err_from_is_err_and c.from_residual.result c.from_residual.ensures.1 in
    rw (p.1, p.2) (c.loop-op.invariant.plays _ _ _ (plays_halt g.K.Sink.took c.args.ops.now _ c.loop-op.invariant.same c.loop-op.op-index c.op-item.result c.op-item.is c.loop-op-test.true c.in_err-op.ensures.does))

pub returns-in_err-op-clause-cause : goal.returns-in_err-op-clause-cause
returns-in_err-op-clause-cause g c =
    let p = err_from_is_err_and c.from_residual.result c.from_residual.ensures.1 in
    rw (p.1, p.2) (cause_then _ _ _ _ _ _ _ c.loop-op.invariant.cause (does_cause g.K.Sink.took _ _ _ _ _ _ _ _ c.in_err-op.ensures.does c.in_err-op.ensures.sink))

pub loop-op-preserved : goal.loop-op-preserved
loop-op-preserved g c = record {
  same = c.loop-op.invariant.same;
  stands = c.in_ok-op.ensures.stands;
  cause = cause_then _ _ _ _ _ _ _ c.loop-op.invariant.cause (does_cause g.K.Sink.took _ _ _ _ _ _ _ _ c.in_ok-op.ensures.does c.in_ok-op.ensures.sink);
  plays = λ result new out plays. c.loop-op.invariant.plays result new out (plays_next g.K.Sink.took c.args.ops.now _ c.loop-op.invariant.same c.loop-op.op-index c.op-item.result c.op-item.is c.loop-op-test.true c.in_ok-op.ensures.does plays);
}

pub finish-requires : goal.finish-requires
finish-requires g c = record { stands = c.loop-op.invariant.stands }

pub returns-clause-plays : goal.returns-clause-plays
returns-clause-plays g c = c.loop-op.invariant.plays _ _ _ (plays_end g.K.Sink.took c.args.ops.now _ c.loop-op.invariant.same c.loop-op.op-index (omega (arith, c.loop-op-test.false)) c.finish.ensures.finishes)

pub returns-clause-cause : goal.returns-clause-cause
returns-clause-cause g c = cause_then _ _ _ _ _ _ _ c.loop-op.invariant.cause (finishes_cause g.K.Sink.took _ _ _ _ _ _ _ c.finish.ensures.finishes c.finish.ensures.sink)
