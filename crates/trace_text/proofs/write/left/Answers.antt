use Rattle.std.proofs.Common.{◌++◌, ◌∷◌, [], append_assoc, codes, decimal}
use Rattle.text_words.proofs.Lines.{spaced-more}
use Rattle.trace_text.specs.Trace.{data_words}
use Rattle.trace_text.proofs.ItemWords.{data_words-some}
use Rattle.trace_text.proofs.write.left.Goals as goal

pub returns-clause-text : goal.returns-clause-text
returns-clause-text c =
    let more = spaced-more (decimal c.args.sector) (data_words c.args.value.now) (data_words-some c.args.value.now) in
    rw more (rw (c.data.ensures.text, c.with_number.ensures.text) (append_assoc (codes "left" ++ 32 ∷ []) (decimal c.args.sector) _))
