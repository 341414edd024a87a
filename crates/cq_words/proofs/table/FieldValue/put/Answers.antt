use Rattle.std.proofs.Common.{ap, ◌∙◌}
use Rattle.cq_words.specs.Fields.{with_field}
use Rattle.cq_words.proofs.MaskedWrites.{masked_value}
use Rattle.cq_words.proofs.TableLaws.{in_word}
use Rattle.cq_words.proofs.table.FieldValue.put.Goals as goal

pub returns : goal.returns
returns c =
    let entry = c.args.self.now in
    let stands = in_word entry.field c.requires in
    c.with_bits.ensures
    ∙ ap (with_field c.args.word entry.field.low entry.field.width) (masked_value entry.value entry.field.width stands.narrow)
