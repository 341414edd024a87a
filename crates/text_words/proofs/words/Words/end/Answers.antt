use Rattle.std.proofs.Common.{◌∙◌}
use Rattle.text_words.proofs.Lines.{words_some}
use Rattle.text_words.proofs.words.Words.end.Goals as goal

pub returns-in-Some : goal.returns-in-Some
returns-in-Some c = λ e. words_some c.in-Some.field-0.now (rw c.in-Some.is at c.self.view_is ∙ e)
