use Rattle.std.proofs.Common.{arith, ◌/◌, ◌%◌, ap, get_or, length}
use Rattle.hex.specs.Hex.{encode_with}
use Rattle.text_words.proofs.Bytes.{spells_byte}
use Rattle.text_words.proofs.numbers.read_hex_byte.Goals as goal

pub returns-in_err-high : goal.returns-in_err-high
unfolding encode_with
returns-in_err-high c =
    rw c.from_residual.ensures (λ n p. c.in_err-high.ensures (n / 16) (omega (arith, p.0), ap (λ w. get_or w 0 0) p.1))

pub returns-in_err-low : goal.returns-in_err-low
unfolding encode_with
returns-in_err-low c =
    rw c.from_residual-in_err-low.ensures (λ n p. c.in_err-low.ensures (n % 16) (omega (arith, p.0), ap (λ w. get_or w 1 0) p.1))

pub returns : goal.returns
returns c =
    let high = c.in_ok-high.ensures in
    let low = c.in_ok-low.ensures in
    (omega (arith, high.0, low.0), spells_byte c.args.word.now c.in_ok-high.high c.in_ok-low.low (omega arith) high.0 low.0 high.1 low.1)

pub returns-then-word-ne2 : goal.returns-then-word-ne2
unfolding encode_with
returns-then-word-ne2 c = λ n p. omega (arith, ap length p.1)
