use Rattle.std.proofs.Common.{◌≡◌, take, drop}
use Rattle.storage_machine.specs.Jobs.{sector_of}
use Rattle.storage_model.specs.Contents.{contents_now}
use Rattle.trace_effects.proofs.keeping.sectors_now.Given as goal

abbrev pub invariant-loop-k : goal.invariant-loop-k
invariant-loop-k l = l.sectors ≡ take l.k (drop (sector_of l.job) (contents_now l.s.base l.s.pend))
