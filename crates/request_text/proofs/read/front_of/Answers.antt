use Rattle.std.proofs.Common.{arith}
use Rattle.request_text.proofs.Readings.{front_all, front_part}
use Rattle.request_text.proofs.read.front_of.Goals as goal

pub returns-then-bytes-gt-MAX_BYTES : goal.returns-then-bytes-gt-MAX_BYTES
returns-then-bytes-gt-MAX_BYTES c = front_part c.args.bytes.now c.split_at.result.0.now c.split_at.result.1.now _ c.split_at.ensures.front c.split_at.ensures.back c.split_at.ensures.front_len (omega arith)

pub returns-else-bytes-gt-MAX_BYTES : goal.returns-else-bytes-gt-MAX_BYTES
returns-else-bytes-gt-MAX_BYTES c = front_all c.args.bytes.now c.if-bytes-gt-MAX_BYTES.false
