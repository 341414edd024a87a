use Rattle.std.proofs.Common.{ap}
use Rattle.request_text.specs.Requests.{contents_text}
use Rattle.request_text.proofs.JobWords.{no_same}
use Rattle.request_text.proofs.request.fill_of.Goals as goal

pub returns-in_err-read_hex_byte-in-Fill : goal.returns-in_err-read_hex_byte-in-Fill
returns-in_err-read_hex_byte-in-Fill c =
    rw c.from_residual.ensures (no_same (contents_text c.args.contents) c.args.value.now (ap contents_text c.in-Fill.is) c.in_err-read_hex_byte-in-Fill.ensures c.args.place)
