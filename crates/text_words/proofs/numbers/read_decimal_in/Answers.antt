use Rattle.std.proofs.Common.{arith, ◌≡◌, ◌∙◌, sym}
use Rattle.std.proofs.lemmas.Fmt.{decimal_injective}
use Rattle.text_words.proofs.numbers.read_decimal_in.Goals as goal
use Rattle.text_words.proofs.numbers.read_decimal_in.Goals.{then-number-from-via-then-number-from, then-number-from-via-else-number-from+then-number-from-2}

pub returns-then-number-from : goal.returns-then-number-from
returns-then-number-from c = λ n p.
    let same : n ≡ c.in_ok-number.number = decimal_injective n c.in_ok-number.number (omega arith) (omega (arith, c.in_ok-number.ensures.0)) (sym p.2 ∙ c.in_ok-number.ensures.1) in
    elim c.then-number-from.branch [ then-number-from-via-then-number-from w ↦ omega arith | then-number-from-via-else-number-from+then-number-from-2 w ↦ omega arith ]
