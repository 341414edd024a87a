use Rattle.std.proofs.Common.{arith, ◌≡◌, ◌∙◌, sym}
use Rattle.std.proofs.lemmas.Fmt.{decimal_injective}
use Rattle.fault_text.proofs.numbers.read_number.Goals as goal
use Rattle.fault_text.proofs.numbers.read_number.Goals.{then-number-low-via-then-number-low, then-number-low-via-else-number-low+then-number-high}

pub returns-then-number-low : goal.returns-then-number-low
returns-then-number-low c = λ n p.
    let same : n ≡ c.in_ok-number.number = decimal_injective n c.in_ok-number.number (omega arith) (omega (arith, c.in_ok-number.ensures.0)) (sym p.2 ∙ c.in_ok-number.ensures.1) in
    elim c.then-number-low.branch [ then-number-low-via-then-number-low w ↦ omega arith | then-number-low-via-else-number-low+then-number-high w ↦ omega arith ]
