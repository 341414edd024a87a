use Rattle.std.proofs.Common.{◌≡◌, ◌∙◌, arith, length, set, ap, sym}
use Rattle.std.proofs.Math.ListN.{length-set}
use Rattle.storage_model.specs.Keep.{is_named}
use Rattle.storage_model.specs.declared.marks.Mark.TheVariants.{Bar, Put as PutMark}
use Rattle.storage_model.proofs.Passes.{next_of}
use Rattle.storage_model.proofs.Durable.{contents_now-keep}
use Rattle.storage_model.proofs.Keeps.{base_start, others_start, base_bar, others_bar, base_kept, others_kept, base_other, others_other, base_end, others_end}
use Rattle.storage_model.proofs.contents.keep.Goals as goal
use Rattle.storage_model.proofs.contents.keep.Goals.{in-Bar, in-Put+then-is_durable, in-Put+else-is_durable+in_ok-push-in-Put}

pub loop-mark-init : goal.loop-mark-init
loop-mark-init c = record {
  base = base_start _ _ _ _ _ c.count_bars-last.ensures c.in_ok-contents.ensures.items;
  pend = others_start _ _ _ _ c.count_bars-last.ensures c.new-others.ensures;
  long = ap length c.in_ok-contents.ensures.items;
  below = omega arith;
}

pub loop-mark-preserved : goal.loop-mark-preserved
loop-mark-preserved c =
    elim c.match-mark.branch [
      | in-Bar w ↦
          let at = next_of c.args.pend.now c.loop-mark.mark-index _ Bar c.loop-mark-test.true w.in-Bar.is in
          let base = base_bar c.count_bars-last.result (is_named c.args.first c.args.blocks) c.loop-mark.epoch c.loop-mark.contents.items _ _ at in
          let others = others_bar c.count_bars-last.result (is_named c.args.first c.args.blocks) c.loop-mark.epoch c.loop-mark.others _ _ at in
          record { base = cc; pend = cc; long = cc; below = omega arith }
      | in-Put+then-is_durable w ↦
          let at = next_of c.args.pend.now c.loop-mark.mark-index _ (PutMark w.in-Put.put) c.loop-mark-test.true w.in-Put.is in
          let kept = sym w.is_durable.ensures ∙ w.if-is_durable.true in
          let items : c.match-mark.contents.items ≡ set c.loop-mark.contents.items w.in-Put.put.sector w.in-Put.put.value = ap (λ v. v.items) w.contents-is in
          let others = others_kept c.count_bars-last.result (is_named c.args.first c.args.blocks) c.loop-mark.epoch w.in-Put.put c.loop-mark.others _ _ at kept in
          record {
            base = base_kept _ _ _ _ c.loop-mark.contents.items _ w.in-Put.put _ _ at kept w.epoch-is items ∙ c.loop-mark.invariant.base;
            pend = cc;
            long = ap length items ∙ length-set c.loop-mark.contents.items w.in-Put.put.sector w.in-Put.put.value ∙ c.loop-mark.invariant.long;
            below = omega arith;
          }
      | in-Put+else-is_durable+in_ok-push-in-Put w ↦
          let at = next_of c.args.pend.now c.loop-mark.mark-index _ (PutMark w.in-Put.put) c.loop-mark-test.true w.in-Put.is in
          let base = base_other c.count_bars-last.result (is_named c.args.first c.args.blocks) c.loop-mark.epoch c.loop-mark.contents.items w.in-Put.put _ _ at (sym w.is_durable.ensures ∙ w.if-is_durable.false) in
          let others = others_other c.count_bars-last.result (is_named c.args.first c.args.blocks) c.loop-mark.epoch w.in-Put.put c.loop-mark.others _ _ at (sym w.is_durable.ensures ∙ w.if-is_durable.false) in
          let pushed = w.in_ok-push-in-Put.ensures.ok in
          record { base = cc; pend = cc (w.in-Put.is, pushed); long = cc; below = omega arith }
    ]

pub returns-clause-base : goal.returns-clause-base
returns-clause-base c =
    let done = base_end c.count_bars-last.result (is_named c.args.first c.args.blocks) c.loop-mark.epoch c.loop-mark.contents.items c.loop-mark.mark-index c.args.pend.now (omega arith) in
    cc

pub returns-clause-pend : goal.returns-clause-pend
returns-clause-pend c =
    let done = others_end c.count_bars-last.result (is_named c.args.first c.args.blocks) c.loop-mark.epoch c.loop-mark.others c.loop-mark.mark-index c.args.pend.now (omega arith) in
    cc

pub returns-clause-now : goal.returns-clause-now
returns-clause-now c =
    let base = base_end c.count_bars-last.result (is_named c.args.first c.args.blocks) c.loop-mark.epoch c.loop-mark.contents.items c.loop-mark.mark-index c.args.pend.now (omega arith) in
    let others = others_end c.count_bars-last.result (is_named c.args.first c.args.blocks) c.loop-mark.epoch c.loop-mark.others c.loop-mark.mark-index c.args.pend.now (omega arith) in
    let same = contents_now-keep (is_named c.args.first c.args.blocks) c.args.base.now c.args.pend.now in
    cc
