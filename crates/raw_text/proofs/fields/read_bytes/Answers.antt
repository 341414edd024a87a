use Rattle.std.proofs.Common.{◌∙◌, sym, arith, length, List, ℕ, ap}
use Rattle.std.proofs.lemmas.Bool.{eqb-true, eqb-false}
use Rattle.hex.specs.Hex.{encode_lower}
use Rattle.raw_text.proofs.OpWords.{decoded_poke, decoded_room, poke_decodes, poked_digits, same_decoded}
use Rattle.raw_text.proofs.fields.read_bytes.Goals as goal

pub returns-then-is_empty : goal.returns-then-is_empty
returns-then-is_empty c = λ bytes p.
    let none = eqb-true (length c.args.word.now) 0 (sym c.is_empty.ensures ∙ c.if-is_empty.true) in
    omega (arith, (poked_digits c.args.word.now bytes p.0 p.1).0)

pub returns-then-word : goal.returns-then-word
returns-then-word c = λ bytes p. omega (arith, (poked_digits c.args.word.now bytes p.0 p.1).1)

pub returns-in_default : goal.returns-in_default
returns-in_default c = λ bytes p. (rw c.in_default.is at c.in_ok-bytes.ensures) bytes (poke_decodes c.args.word.now bytes p.0 p.1)

pub is_text_of-requires : goal.is_text_of-requires
is_text_of-requires c = rw c.as_slice.ensures.value (decoded_room c.args.word.now c.in-Some.bytes.items (rw c.in-Some.is at c.in_ok-bytes.ensures) c.if-word.false)

pub returns-then-not-is_text_of : goal.returns-then-not-is_text_of
returns-then-not-is_text_of c = λ bytes p.
    let same = same_decoded c.args.word.now c.in-Some.bytes.items bytes (rw c.in-Some.is at c.in_ok-bytes.ensures) p.0 p.1 in
    let found = c.is_text_of.ensures.1 (p.1 ∙ ap (λ (xs : List ℕ). encode_lower xs) (same ∙ sym c.as_slice.ensures.value)) in
    let none = c.if-not-is_text_of.true in
    cc

pub returns : goal.returns
returns c =
    let some = eqb-false (length c.args.word.now) 0 (sym c.is_empty.ensures ∙ c.if-is_empty.false) in
    let text = c.is_text_of.ensures.0 c.if-not-is_text_of.false ∙ ap (λ (xs : List ℕ). encode_lower xs) c.as_slice.ensures.value in
    let poked = decoded_poke c.args.word.now c.in-Some.bytes.items (rw c.in-Some.is at c.in_ok-bytes.ensures) (omega arith) c.if-word.false in
    rw c.from_vec.ensures (poked, text)
