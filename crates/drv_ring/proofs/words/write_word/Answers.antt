use Rattle.std.proofs.Common.{arith, replicate}
use Rattle.drv_ring.proofs.Changed.{word-written}
use Rattle.drv_ring.proofs.words.write_word.Goals as goal

pub returns-clause-written : goal.returns-clause-written
returns-clause-written c =
    word-written c.write_bytes.new.mem c.args.at c.args.word c.put64.new.bytes (replicate 8 0) c.put64.ensures (omega arith) (omega arith)
    c.write_bytes.ensures.written
