use Rattle.request_text.proofs.JobWords.{no_later}
use Rattle.request_text.proofs.request.later_flags.Goals as goal

pub returns-in_err-read_flag-in-Some : goal.returns-in_err-read_flag-in-Some
returns-in_err-read_flag-in-Some c = rw c.from_residual.ensures (no_later c.in-Some.word.now c.args.words c.next.new.self c.in-Some.ensures c.in_err-read_flag-in-Some.ensures)
