use Rattle.std.proofs.Common.{ap}
use Rattle.request_text.specs.Requests.{flag_text}
use Rattle.request_text.proofs.JobWords.{no_forced}
use Rattle.request_text.proofs.request.flags_from.Goals as goal

pub returns-in_err-reliable-in-Forced : goal.returns-in_err-reliable-in-Forced
returns-in_err-reliable-in-Forced c = rw c.from_residual.ensures (no_forced (flag_text c.args.first) c.args.words (ap flag_text c.in-Forced.is) c.in_err-reliable-in-Forced.ensures)
