use Rattle.std.proofs.Common.{◌∙◌, sym}
use Rattle.request_text.proofs.JobTexts.{words_from_line}
use Rattle.request_text.proofs.request.read_job.Goals as goal

pub returns-in_err-job-clause-none : goal.returns-in_err-job-clause-none
returns-in_err-job-clause-none c =
    rw c.from_residual-in_err-job.ensures (λ job digits valid placed plain is.
    c.in_err-job.ensures.none job digits valid placed (sym (sym c.of-words.ensures ∙ c.in_ok-first.ensures) ∙ words_from_line c.args.line.now job digits valid plain is))

pub returns-clause-some : goal.returns-clause-some
returns-clause-some c =
    let some = c.in_ok-job.ensures.some in
    (some.0, some.1, sym c.of-words.ensures ∙ c.in_ok-first.ensures ∙ some.2)
