use Rattle.std.proofs.Common.{codes, refl}
use Rattle.text_words.proofs.Lines.{spaced-more}
use Rattle.trace_text.specs.Trace.{data_words}
use Rattle.trace_text.proofs.ItemWords.{data_words-some}
use Rattle.raw_lines.proofs.write.sector.Goals as goal

pub returns-clause-text : goal.returns-clause-text
returns-clause-text c =
    let more = spaced-more (codes "s") (data_words c.args.value.now) (data_words-some c.args.value.now) in
    rw more (rw (c.data.ensures.text, c.begin.ensures.text) refl)
