use Rattle.std.proofs.Common.{◌≡◌, replicate}
use Rattle.host_mem.specs.Memory.{with_bytes}
use Rattle.raw_face.proofs.access.fill_range.Given as goal

abbrev pub invariant-loop-k : goal.invariant-loop-k
invariant-loop-k l = l.mem ≡ with_bytes l.initial.mem l.at (replicate l.k l.value)
