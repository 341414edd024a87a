use Rattle.std.proofs.Common.{List, ℕ, ◌∙◌, ap, arith, length, subst, sym}
use Rattle.text_words.proofs.Lines.{IsFree, first_part, not_free}
use Rattle.raw_text.proofs.read.next_line.Goals as goal

pub returns-in_err-line-clause-none : goal.returns-in_err-line-clause-none
returns-in_err-line-clause-none c =
    rw c.from_residual.ensures (λ line after is free.
    let P : List ℕ → Type 0 = λ t. IsFree 10 t in
    absurd (not_free 10 line after (subst P is c.in_err-line.ensures)))

pub returns-then-line-room-clause-none : goal.returns-then-line-room-clause-none
returns-then-line-room-clause-none c = λ line after is free.
    let parts = first_part 10 c.in_ok-line.line.now line c.in_ok-line.after.now after c.in_ok-line.ensures.1 free (sym c.in_ok-line.ensures.0 ∙ is) in
    omega (arith, ap length parts.0)
