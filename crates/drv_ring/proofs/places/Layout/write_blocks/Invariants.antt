use Rattle.drv_ring.proofs.Filled.{HasFill}
use Rattle.drv_ring.proofs.places.Layout.write_blocks.Given as goal

abbrev pub invariant-loop-k : goal.invariant-loop-k
invariant-loop-k l = HasFill l.self l.tag l.count l.plan.blocks l.fill l.k l.initial.mem l.mem
