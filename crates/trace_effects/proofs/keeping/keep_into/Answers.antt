use Rattle.std.proofs.Common.{◌∙◌, arith, sym, refl}
use Rattle.trace_effects.specs.Phases.{named_by}
use Rattle.storage_model.specs.declared.marks.Mark.TheVariants.{Bar, Put as PutMark}
use Rattle.storage_model.proofs.Passes.{next_of}
use Rattle.storage_model.proofs.Keeps.{base_start, base_bar, base_kept, base_other, base_end}
use Rattle.trace_effects.proofs.keeping.keep_into.Goals as goal
use Rattle.trace_effects.proofs.keeping.keep_into.Goals.{in-Bar, in-Put+then-is_durable, in-Put+else-is_durable}

pub loop-mark-init : goal.loop-mark-init
loop-mark-init c = (base_start _ _ _ _ _ c.count_bars-last.ensures refl, omega arith)

pub loop-mark-preserved : goal.loop-mark-preserved
loop-mark-preserved c =
    elim c.match-mark.branch [
      | in-Bar w ↦
          let at = next_of c.args.pend.now c.loop-mark.mark-index _ Bar c.loop-mark-test.true w.in-Bar.is in
          let base = base_bar c.count_bars-last.result (named_by c.args.job.now) c.loop-mark.epoch c.loop-mark.base _ _ at in
          (cc, omega arith)
      | in-Put+then-is_durable w ↦
          let at = next_of c.args.pend.now c.loop-mark.mark-index _ (PutMark w.in-Put.put) c.loop-mark-test.true w.in-Put.is in
          let kept = sym w.is_durable.ensures ∙ w.if-is_durable.true in
          (base_kept _ _ _ _ c.loop-mark.base _ w.in-Put.put _ _ at kept w.epoch-is (w.base-is ∙ w.put_in.ensures) ∙ c.loop-mark.invariant.0, omega arith)
      | in-Put+else-is_durable w ↦
          let at = next_of c.args.pend.now c.loop-mark.mark-index _ (PutMark w.in-Put.put) c.loop-mark-test.true w.in-Put.is in
          let base = base_other c.count_bars-last.result (named_by c.args.job.now) c.loop-mark.epoch c.loop-mark.base w.in-Put.put _ _ at (sym w.is_durable.ensures ∙ w.if-is_durable.false) in
          (cc, omega arith)
    ]

pub returns : goal.returns
returns c =
    let done = base_end c.count_bars-last.result (named_by c.args.job.now) c.loop-mark.epoch c.loop-mark.base c.loop-mark.mark-index c.args.pend.now (omega arith) in
    cc
