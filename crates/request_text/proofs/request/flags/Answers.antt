use Rattle.request_text.proofs.JobWords.{no_flag}
use Rattle.request_text.proofs.request.flags.Goals as goal

pub returns-in_err-read_flag-in-Some : goal.returns-in_err-read_flag-in-Some
returns-in_err-read_flag-in-Some c = rw c.from_residual.ensures (no_flag c.in-Some.word.now c.args.words c.next.new.self c.in-Some.ensures c.in_err-read_flag-in-Some.ensures)
