use Rattle.drv_ring.proofs.Filled.{HasRows}
use Rattle.drv_ring.proofs.places.Layout.write_table.Given as goal

abbrev pub invariant-loop-k : goal.invariant-loop-k
invariant-loop-k l = HasRows l.self l.tag l.blocks l.k l.initial.mem l.mem
