use Rattle.std.proofs.Common.{arith, ◌≡◌, ◌∙◌, sym}
use Rattle.std.proofs.lemmas.Fmt.{decimal_injective}
use Rattle.raw_text.proofs.fields.read_length.Goals as goal

pub returns-then-number-lt1 : goal.returns-then-number-lt1
returns-then-number-lt1 c = λ n p.
    let same : n ≡ c.in_ok-number.number = decimal_injective n c.in_ok-number.number (omega (arith, c.ranges.most)) (omega (arith, c.in_ok-number.ensures.0)) (sym p.2 ∙ c.in_ok-number.ensures.1) in
    omega arith

pub returns-then-number-most : goal.returns-then-number-most
returns-then-number-most c = λ n p.
    let same : n ≡ c.in_ok-number.number = decimal_injective n c.in_ok-number.number (omega (arith, c.ranges.most)) (omega (arith, c.in_ok-number.ensures.0)) (sym p.2 ∙ c.in_ok-number.ensures.1) in
    omega arith
