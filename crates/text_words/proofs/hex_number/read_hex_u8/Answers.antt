use Rattle.std.proofs.Common.{arith, ◌≡◌, ◌∙◌, sym}
use Rattle.text_words.proofs.HexNumbers.{hex_number-injective}
use Rattle.text_words.proofs.hex_number.read_hex_u8.Goals as goal

pub returns-then-number-gt255 : goal.returns-then-number-gt255
returns-then-number-gt255 c = λ n p.
    let same : n ≡ c.in_ok-number.number = hex_number-injective n c.in_ok-number.number (omega (arith, p.0)) c.in_ok-number.ensures.0 (sym p.1 ∙ c.in_ok-number.ensures.1) in
    omega (arith, p.0)
