use Rattle.drv_tags.specs.Tags.{AreUsedBelow}
use Rattle.drv_tags.proofs.tags.lowest_free.Given as goal

abbrev pub invariant-loop-tag : goal.invariant-loop-tag
invariant-loop-tag l = AreUsedBelow (record { depth = l.depth; used = l.used }) l.tag
