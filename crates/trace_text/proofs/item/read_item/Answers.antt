use Rattle.std.proofs.Common.{◌∙◌, sym}
use Rattle.text_words.proofs.Lines.{words_some}
use Rattle.trace_text.proofs.ItemTexts.{reads_line}
use Rattle.trace_text.proofs.item.read_item.Goals as goal

pub returns-in_err-first : goal.returns-in_err-first
returns-in_err-first c = rw c.from_residual.ensures (λ item p. words_some c.args.line.now (sym c.of-words.ensures ∙ c.in_err-first.ensures.0))

pub returns : goal.returns
returns c = reads_line c.args.line.now c.in_ok-first.first.now c.next.new.self c.item_of.result (sym c.of-words.ensures ∙ c.in_ok-first.ensures) c.item_of.ensures
