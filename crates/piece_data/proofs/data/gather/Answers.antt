use Rattle.std.proofs.Common.{◌≡◌, ◌+◌, ◌-◌, ◌≤◌, length, refl, ap, ◌∙◌, arith}
use Rattle.std.proofs.lemmas.Slice.{take-put_mid}
use borrow.Rule.Slice.PartMut.{put_mid, mid_of, mid_len, same_len_mid}
use Rattle.host_mem.specs.Memory.{bytes_of}
use Rattle.piece_data.proofs.Bytes.{inside-at}
use Rattle.piece_data.proofs.Reading.{read-start, read-more}
use Rattle.piece_data.proofs.data.gather.Goals as goal

pub loop-piece-init : goal.loop-piece-init
loop-piece-init c = read-start c.args.mem.now c.args.pieces.now c.args.first c.args.to.now c.requires.whole

pub read_part-requires-clause-inside : goal.read_part-requires-clause-inside
read_part-requires-clause-inside c =
    inside-at c.args.mem.now c.args.pieces.now c.loop-piece.piece-index _ _ c.requires.inside c.loop-piece-test.true refl

pub loop-piece-preserved : goal.loop-piece-preserved
loop-piece-preserved c =
    let done = c.loop-piece.done in
    let count = c.count_of-count.result in
    let to = c.loop-piece.to in
    let new = c.read_part.new.to in
    let fits : done + count ≤ length to = omega (arith, c.loop-piece.invariant.within) in
    let n : done + count - done ≡ count = omega arith in
    let long : length (mid_of done (done + count - done) to) ≡ count = mid_len done (done + count) to fits ∙ n in
    let part = c.read_part.ensures ∙ ap (bytes_of c.args.mem.now _) long in
    let len : length new ≡ length (mid_of done (done + count - done) to) = c.read_part.auto.to in
    rw c.saturating_sub-skip.ensures
    (read-more c.args.mem.now c.args.pieces.now c.args.first to (put_mid done (done + count - done) to new) new
    c.loop-piece.piece-index done c.loop-piece.skip count _ _
    c.requires.inside c.loop-piece.invariant c.loop-piece-test.true refl
    c.count_of-count.ensures part
    (take-put_mid done (done + count - done) to new (done + count) (omega (arith, len, long)) (omega arith))
    (same_len_mid done (done + count - done) to new len))
