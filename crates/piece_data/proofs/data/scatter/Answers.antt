use Rattle.std.proofs.Common.{◌≡◌, ◌+◌, ◌-◌, take, drop, refl, ap, arith}
use Rattle.piece_data.proofs.Bytes.{inside-at}
use Rattle.piece_data.proofs.Writing.{write-start, write-end, write-more}
use Rattle.piece_data.proofs.data.scatter.Goals as goal

pub loop-piece-init : goal.loop-piece-init
loop-piece-init c = write-start c.args.mem.now c.args.pieces.now c.args.first c.args.from.now c.requires.inside c.requires.whole

pub write_part-requires-clause-inside : goal.write_part-requires-clause-inside
write_part-requires-clause-inside c =
    inside-at c.loop-piece.mem c.args.pieces.now c.loop-piece.piece-index _ _ c.loop-piece.invariant.inside c.loop-piece-test.true refl

pub loop-piece-preserved : goal.loop-piece-preserved
loop-piece-preserved c =
    let done = c.loop-piece.done in
    let count = c.count_of-count.result in
    let from = c.args.from.now in
    let n : done + count - done ≡ count = omega arith in
    rw c.saturating_sub-skip.ensures
    (write-more c.args.mem.now c.loop-piece.mem c.write_part.new.mem c.args.pieces.now c.args.first from (take (done + count - done) (drop done from))
    c.loop-piece.piece-index done c.loop-piece.skip count _ _
    c.loop-piece.invariant c.loop-piece-test.true refl
    c.count_of-count.ensures
    (ap (λ k. take k (drop done from)) n)
    c.write_part.ensures)

pub returns : goal.returns
returns c =
    write-end c.args.mem.now c.loop-piece.mem c.args.pieces.now c.args.first c.args.from.now c.loop-piece.piece-index c.loop-piece.done c.loop-piece.skip
    c.loop-piece.invariant c.loop-piece-test.false
