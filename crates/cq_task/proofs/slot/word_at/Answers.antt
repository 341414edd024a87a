use Rattle.std.proofs.Common.{ap, ◌∙◌}
use Rattle.byteorder.specs.Endian.{little_number}
use Rattle.cq_chain.specs.Descriptors.{word_at}
use Rattle.cq_task.proofs.slot.word_at.Goals as goal

pub returns-in-Ok-clause-value : goal.returns-in-Ok-clause-value
unfolding word_at
returns-in-Ok-clause-value c = c.get64.ensures ∙ ap (little_number 8) c.in-Ok.ensures.ok
