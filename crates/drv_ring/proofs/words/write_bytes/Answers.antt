use Rattle.drv_ring.proofs.Changed.{bytes-written, change-written}
use Rattle.drv_ring.proofs.words.write_bytes.Goals as goal

pub returns-clause-written : goal.returns-clause-written
returns-clause-written c = bytes-written c.args.mem.now _ c.args.at c.args.bytes.now c.in-Ok.ensures.ok c.requires

pub returns-clause-within : goal.returns-clause-within
returns-clause-within c = change-written c.args.mem.now _ c.args.at c.args.bytes.now c.in-Ok.ensures.ok c.requires
