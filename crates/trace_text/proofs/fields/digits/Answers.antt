use Rattle.std.proofs.Common.{◌∙◌, sym}
use Rattle.storage_model.specs.declared.block.Block.{Block}
use Rattle.trace_text.proofs.ItemWords.{data_digits, no_digits, no_equal_digits, no_more_words}
use Rattle.trace_text.proofs.fields.digits.Goals as goal

pub returns-in_err-end : goal.returns-in_err-end
returns-in_err-end c = rw c.from_residual.ensures (no_more_words c.args.word.now c.args.words c.requires c.in_err-end.ensures)

pub returns-in_err-read_hex_bytes : goal.returns-in_err-read_hex_bytes
returns-in_err-read_hex_bytes c = rw c.from_residual-in_err-read_hex_bytes.ensures (no_digits c.args.word.now c.args.words c.requires c.in_err-read_hex_bytes.ensures)

pub returns-then-one_byte : goal.returns-then-one_byte
returns-then-one_byte c = no_equal_digits c.args.word.now c.args.words c.in_ok-read_hex_bytes.field-0 c.requires c.in_ok-read_hex_bytes.ensures.0 c.in_ok-read_hex_bytes.ensures.2 (sym c.one_byte.ensures ∙ c.if-one_byte.true)

pub returns : goal.returns
returns c =
    let value : Block = record { 0 = c.in_ok-read_hex_bytes.field-0 } in
    let shape = data_digits value (sym c.one_byte.ensures ∙ c.if-one_byte.false) in
    let none = c.in_ok-end.ensures in
    let text = c.in_ok-read_hex_bytes.ensures.2 in
    (record { bytes = c.in_ok-read_hex_bytes.ensures.0; long = c.in_ok-read_hex_bytes.ensures.1 }, cc)
