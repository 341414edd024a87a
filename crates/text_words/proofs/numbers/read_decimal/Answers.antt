use Rattle.std.proofs.Common.{◌≡◌, ◌∙◌, sym, decimal, arith}
use Rattle.std.proofs.lemmas.Fmt.{parse-decimal, IsAscii-decimal}
use Rattle.std.proofs.lemmas.Slice.Eq.{bytes_eq-Decides}
use Rattle.std.proofs.lemmas.Str.{IsUtf8-from_ascii}
use Rattle.text_words.proofs.numbers.read_decimal.Goals as goal

pub returns-in_default : goal.returns-in_default
returns-in_default c = λ n p. c.in_default.ensures.cases.0 (rw p.1 (IsUtf8-from_ascii (decimal n) (IsAscii-decimal n (omega (arith, p.0)))))

pub returns-in_default-parse : goal.returns-in_default-parse
returns-in_default-parse c = λ n p.
    let text : c.in-Ok.text.now ≡ decimal n = c.in-Ok.ensures.cases.0 ∙ p.1 in
    let read = parse-decimal 32 n c.in-Ok.text.now c.parse.result p.0 (omega (arith, p.0)) text c.parse.ensures.value.0 in
    cc

pub returns-else-eq : goal.returns-else-eq
returns-else-eq c = λ n p.
    let text : c.in-Ok.text.now ≡ decimal n = c.in-Ok.ensures.cases.0 ∙ p.1 in
    let read = parse-decimal 32 n c.in-Ok.text.now c.parse.result p.0 (omega (arith, p.0)) text c.parse.ensures.value.0 in
    let number : c.in-Ok-parse.number ≡ n = cc in
    let same : c.format.result.now ≡ c.in-Ok.text.now = rw number at c.format.ensures.text ∙ sym text in
    let equal = (bytes_eq-Decides c.format.result.now c.in-Ok.text.now).1 same in
    cc
