use Rattle.std.proofs.Common.{arith, refl}
use Rattle.std.proofs.lemmas.List.{drop_all}
use Rattle.storage_model.specs.declared.marks.Mark.TheVariants.{Bar, Put as PutMark}
use Rattle.storage_model.proofs.Passes.{next_of}
use Rattle.storage_model.proofs.Scans.{scanned_start, scanned_bar, scanned_other, scanned_early, scanned_ordinary, scanned_reliable, scanned_found, scanned_barred, scanned_end}
use Rattle.storage_model.proofs.left.mix_allows.Goals as goal
use Rattle.storage_model.proofs.left.mix_allows.Goals.{in-Bar+else-now-epoch, in-Put+then-put-sector+then-now-epoch-2, in-Put+then-put-sector+else-now-epoch-2+then-put+else-is_full, in-Put+then-put-sector+else-now-epoch-2+else-put, in-Put+else-put-sector}

pub loop-mark-init : goal.loop-mark-init
loop-mark-init c = scanned_start c.args.epoch c.args.sector c.args.value.now _ c.args.base.now _ c.args.pend.now c.requires refl c.cover_of-cover.ensures

pub loop-mark-preserved : goal.loop-mark-preserved
loop-mark-preserved c =
    elim c.match-mark.branch [
      | in-Bar+else-now-epoch w ↦
          let next = next_of c.args.pend.now c.loop-mark.mark-index _ Bar c.loop-mark-test.true w.in-Bar.is in
          rw (w.cover-is, w.now-is) (scanned_bar next w.if-now-epoch.false c.loop-mark.invariant)
      | in-Put+then-put-sector+then-now-epoch-2 w ↦
          let next = next_of c.args.pend.now c.loop-mark.mark-index _ (PutMark w.in-Put.put) c.loop-mark-test.true w.in-Put.is in
          rw (w.cover-is, w.now-is) (scanned_early w.in-Put.put next w.if-put-sector.true w.if-now-epoch-2.true w.cover_of-cover-then-now-epoch-2.ensures c.loop-mark.invariant)
      | in-Put+then-put-sector+else-now-epoch-2+then-put+else-is_full w ↦
          let next = next_of c.args.pend.now c.loop-mark.mark-index _ (PutMark w.in-Put.put) c.loop-mark-test.true w.in-Put.is in
          rw (w.cover-is, w.now-is) (scanned_reliable w.in-Put.put w.is_full-then-put.result next w.if-put-sector.true w.if-now-epoch-2.false w.if-put.true w.is_full-then-put.ensures w.if-is_full.false w.cover_of-cover-then-put.ensures c.loop-mark.invariant)
      | in-Put+then-put-sector+else-now-epoch-2+else-put w ↦
          let next = next_of c.args.pend.now c.loop-mark.mark-index _ (PutMark w.in-Put.put) c.loop-mark-test.true w.in-Put.is in
          rw (w.cover-is, w.now-is) (scanned_ordinary w.in-Put.put next w.if-put-sector.true w.if-now-epoch-2.false w.if-put.false w.add_cover.ensures c.loop-mark.invariant)
      | in-Put+else-put-sector w ↦
          let next = next_of c.args.pend.now c.loop-mark.mark-index _ (PutMark w.in-Put.put) c.loop-mark-test.true w.in-Put.is in
          rw (w.cover-is, w.now-is) (scanned_other w.in-Put.put next w.if-put-sector.false c.loop-mark.invariant)
    ]

pub returns-then-now-epoch : goal.returns-then-now-epoch
returns-then-now-epoch c =
    let next = next_of c.args.pend.now c.loop-mark.mark-index _ Bar c.loop-mark-test.true c.in-Bar.is in
    scanned_barred c.is_full.result next c.if-now-epoch.true c.is_full.ensures c.loop-mark.invariant

pub returns-then-is_full : goal.returns-then-is_full
returns-then-is_full c =
    let next = next_of c.args.pend.now c.loop-mark.mark-index _ (PutMark c.in-Put.put) c.loop-mark-test.true c.in-Put.is in
    scanned_found c.in-Put.put c.is_full-then-put.result next c.if-put-sector.true c.if-now-epoch-2.false c.if-put.true c.is_full-then-put.ensures c.if-is_full.true c.loop-mark.invariant

pub returns : goal.returns
returns c = scanned_end c.is_full-2.result (drop_all c.loop-mark.mark-index c.args.pend.now (omega arith)) c.is_full-2.ensures c.loop-mark.invariant
