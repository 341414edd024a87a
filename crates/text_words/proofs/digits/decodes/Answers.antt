use Rattle.std.proofs.Common.{◌≡◌, ◌∙◌, ap, sym, length, Ok, List, ℕ}
use Rattle.hex.specs.Hex.{decode_sized, encode_lower}
use Rattle.hex.proofs.HexLemmas.{decode_sized-encode_lower}
use Rattle.std.proofs.lemmas.Slice.Eq.{bytes_eq-Decides}
use Rattle.text_words.proofs.digits.decodes.Goals as goal

pub returns-then-is_err-clause-none : goal.returns-then-is_err-clause-none
returns-then-is_err-clause-none c = λ e bytes fits long text.
    let read : decode_sized c.args.word.now (length c.args.out.now) ≡ Ok bytes = rw text (decode_sized-encode_lower bytes (length c.args.out.now) long fits) in
    let value = rw read at c.decode_to_slice.ensures.value in
    let good = rw value.0 at c.is_err.ensures.value in
    let bad = c.if-is_err.true in
    cc

pub returns-clause-none : goal.returns-clause-none
returns-clause-none c = λ e bytes fits long text.
    let read : decode_sized c.args.word.now (length c.args.out.now) ≡ Ok bytes = rw text (decode_sized-encode_lower bytes (length c.args.out.now) long fits) in
    let value = rw read at c.decode_to_slice.ensures.value in
    let wrote : c.encode_to_slice.new.output ≡ encode_lower c.decode_to_slice.new.out = rw c.unwrap.ensures at c.encode_to_slice.ensures.written in
    let same : c.encode_to_slice.new.output ≡ c.args.word.now = wrote ∙ ap (λ (xs : List ℕ). encode_lower xs) value.1 ∙ sym text in
    let equal = (bytes_eq-Decides c.encode_to_slice.new.output c.args.word.now).1 same in
    cc
