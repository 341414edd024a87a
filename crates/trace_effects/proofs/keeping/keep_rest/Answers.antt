use Rattle.std.proofs.Common.{◌∙◌, arith, sym}
use Rattle.trace_effects.specs.Phases.{named_by}
use Rattle.storage_model.specs.declared.marks.Mark.TheVariants.{Bar, Put as PutMark}
use Rattle.storage_model.proofs.Passes.{next_of}
use Rattle.storage_model.proofs.Keeps.{others_start, others_bar, others_kept, others_other, others_end}
use Rattle.trace_effects.proofs.keeping.keep_rest.Goals as goal
use Rattle.trace_effects.proofs.keeping.keep_rest.Goals.{in-Bar, in-Put+then-not-is_durable+in_ok-push-in-Put, in-Put+else-not-is_durable}

pub loop-mark-init : goal.loop-mark-init
loop-mark-init c = (others_start _ _ _ _ c.count_bars-last.ensures c.new-others.ensures, omega arith)

pub loop-mark-preserved : goal.loop-mark-preserved
loop-mark-preserved c =
    elim c.match-mark.branch [
      | in-Bar w ↦
          let at = next_of c.args.pend.now c.loop-mark.mark-index _ Bar c.loop-mark-test.true w.in-Bar.is in
          let others = others_bar c.count_bars-last.result (named_by c.args.job.now) c.loop-mark.epoch c.loop-mark.others _ _ at in
          (cc, omega arith)
      | in-Put+then-not-is_durable+in_ok-push-in-Put w ↦
          let at = next_of c.args.pend.now c.loop-mark.mark-index _ (PutMark w.in-Put.put) c.loop-mark-test.true w.in-Put.is in
          let others = others_other c.count_bars-last.result (named_by c.args.job.now) c.loop-mark.epoch w.in-Put.put c.loop-mark.others _ _ at (sym w.is_durable.ensures ∙ w.if-not-is_durable.true) in
          let pushed = w.in_ok-push-in-Put.ensures.ok in
          (cc (w.in-Put.is, pushed), omega arith)
      | in-Put+else-not-is_durable w ↦
          let at = next_of c.args.pend.now c.loop-mark.mark-index _ (PutMark w.in-Put.put) c.loop-mark-test.true w.in-Put.is in
          let others = others_kept c.count_bars-last.result (named_by c.args.job.now) c.loop-mark.epoch w.in-Put.put c.loop-mark.others _ _ at (sym w.is_durable.ensures ∙ w.if-not-is_durable.false) in
          (cc, omega arith)
    ]

pub returns : goal.returns
returns c =
    let done = others_end c.count_bars-last.result (named_by c.args.job.now) c.loop-mark.epoch c.loop-mark.others c.loop-mark.mark-index c.args.pend.now (omega arith) in
    cc
