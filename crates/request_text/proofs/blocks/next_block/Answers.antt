use Rattle.std.proofs.Common.{◌∙◌}
use Rattle.std.proofs.lemmas.List.{take-append-drop}
use Rattle.request_text.proofs.Digits.{front_digits, short_digits}
use Rattle.request_text.proofs.blocks.next_block.Goals as goal

pub returns-then-rest-lt-DIGITS-clause-none : goal.returns-then-rest-lt-DIGITS-clause-none
returns-then-rest-lt-DIGITS-clause-none c = λ block after valid is. short_digits c.args.rest.now after block valid c.if-rest-lt-DIGITS.true is

pub returns-in_err-bytes-clause-none : goal.returns-in_err-bytes-clause-none
returns-in_err-bytes-clause-none c =
    rw c.from_residual.ensures (λ block after valid is.
    c.in_err-bytes.ensures block.0 (valid.bytes, valid.long, c.split_at.ensures.front ∙ front_digits c.args.rest.now after block valid c.if-rest-lt-DIGITS.false is))

pub returns-clause-some : goal.returns-clause-some
returns-clause-some c =
    let front = c.split_at.ensures.front in
    let back = c.split_at.ensures.back in
    let digits = c.in_ok-bytes.ensures.2 in
    let whole = take-append-drop 1024 c.args.rest.now in
    (record { bytes = c.in_ok-bytes.ensures.0; long = c.in_ok-bytes.ensures.1 }, cc)
