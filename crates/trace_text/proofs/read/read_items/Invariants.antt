use Rattle.std.proofs.Common.{◌≡◌, ◌++◌, length}
use Rattle.trace_text.specs.Trace.{AreWithin, items_text}
use Rattle.trace_text.proofs.read.read_items.Given as goal

-- what is left stands after the items so far
abbrev pub invariant-loop-rest : goal.invariant-loop-rest
invariant-loop-rest l = record {
  text : l.bytes ≡ items_text l.items ++ l.rest;
  within : AreWithin l.items;
}

abbrev pub decreases-loop-rest : goal.decreases-loop-rest
decreases-loop-rest l = length l.rest
