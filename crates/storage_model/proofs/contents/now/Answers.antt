use Rattle.std.proofs.Common.{arith, ◌∙◌}
use Rattle.storage_model.proofs.Applied.{now_end}
use Rattle.storage_model.proofs.contents.now.Goals as goal

pub returns : goal.returns
returns c = c.from_vec.ensures ∙ now_end _ _ _ c.loop-mark.mark-index (omega arith) c.loop-mark.invariant.0
