use Rattle.std.proofs.Common.{◌∙◌, sym, append_assoc, codes}
use Rattle.text_words.specs.Words.{word}
use Rattle.text_words.proofs.Sectors.{bytes_digits, bytes_fill}
use Rattle.text_words.proofs.line.Line.data.Goals as goal

pub returns-then-one_byte-clause-text : goal.returns-then-one_byte-clause-text
returns-then-one_byte-clause-text c =
    let shape = bytes_fill c.args.value.now (sym c.one_byte.ensures ∙ c.if-one_byte.true) in
    rw shape (rw (c.hex_byte.ensures.text, c.word.ensures.text) (append_assoc c.args.self.now.text.items (word (codes "fill")) _))

pub returns-else-one_byte-clause-text : goal.returns-else-one_byte-clause-text
returns-else-one_byte-clause-text c =
    let shape = bytes_digits c.args.value.now (sym c.one_byte.ensures ∙ c.if-one_byte.false) in
    rw shape c.bytes.ensures.text
