use Rattle.std.proofs.Common.{◌∙◌, sym}
use Rattle.text_words.proofs.Lines.{words_more, words_last}
use Rattle.text_words.proofs.words.Words.next.Goals as goal

pub returns-in-Some : goal.returns-in-Some
returns-in-Some c =
    sym (rw c.in_ok-rest.was at c.self.view_is) ∙ words_more c.in_ok-rest.rest.now c.in-Some.word.now c.in-Some.after.now c.in-Some.ensures.0 c.in-Some.ensures.1

pub returns-in-None : goal.returns-in-None
returns-in-None c = sym (rw c.in_ok-rest.was at c.self.view_is) ∙ words_last c.in_ok-rest.rest.now c.in-None.ensures
