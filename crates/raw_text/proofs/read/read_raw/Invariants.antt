use Rattle.std.proofs.Common.{◌≡◌, ◌++◌, length}
use Rattle.raw_text.specs.Meaning.{AreWithin, ops_text}
use Rattle.raw_text.proofs.read.read_raw.Given as goal

-- what is left stands after the operations so far
abbrev pub invariant-loop-rest : goal.invariant-loop-rest
invariant-loop-rest l = record {
  text : l.bytes ≡ ops_text l.ops ++ l.rest;
  within : AreWithin l.ops;
}

abbrev pub decreases-loop-rest : goal.decreases-loop-rest
decreases-loop-rest l = length l.rest
