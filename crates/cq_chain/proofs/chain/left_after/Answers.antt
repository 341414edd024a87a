use Rattle.std.proofs.Common.{sym, refl, inl, inr}
use Rattle.std.proofs.lemmas.Bool.{false≢true}
use Rattle.cq_chain.proofs.Readings.{left_after-outside, left_after-long, left_after-inside, left_after-link, left_after-nop}
use Rattle.cq_chain.proofs.chain.left_after.Goals as goal

pub returns-then-not-has : goal.returns-then-not-has
returns-then-not-has c =
    rw c.in-Piece.is
    (sym (left_after-outside c.args.mem.now c.in-Piece.end c.in-Piece.int c.in-Piece.len c.in-Piece.at c.args.left (λ range. false≢true (c.if-not-has.ensures.inside.1 range))))

pub returns-then-left-len : goal.returns-then-left-len
returns-then-left-len c =
    rw c.in-Piece.is
    (sym (left_after-long c.args.mem.now c.in-Piece.end c.in-Piece.int c.in-Piece.len c.in-Piece.at c.args.left (c.if-not-has.ensures.inside.0 refl) c.if-left-len.true))

pub returns-else-left-len : goal.returns-else-left-len
returns-else-left-len c =
    rw c.in-Piece.is
    (sym (left_after-inside c.args.mem.now c.in-Piece.end c.in-Piece.int c.in-Piece.len c.in-Piece.at c.args.left (c.if-not-has.ensures.inside.0 refl) c.if-left-len.false))

pub returns-in-Link : goal.returns-in-Link
returns-in-Link c = elim c.in-Link.is [
  | inl link ↦ rw link.1 (sym (left_after-link c.args.mem.now link.0 c.args.left))
  | inr nop ↦ rw nop.1 (sym (left_after-nop c.args.mem.now nop.0 c.args.left))
]
