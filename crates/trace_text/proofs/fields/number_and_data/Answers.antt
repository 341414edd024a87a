use Rattle.trace_text.proofs.ItemWords.{data_words-some}
use Rattle.trace_text.proofs.fields.number_and_data.Goals as goal

pub returns-in_err-first : goal.returns-in_err-first
returns-in_err-first c = rw c.from_residual-in_err-first.ensures (λ f p.
    let is = p.2 in
    let some = c.in_ok-next.ensures in
    let none = c.in_err-first.ensures in
    data_words-some f.1 (cc))
