use Rattle.world_steps.proofs.ReadOff.{reads}
use Rattle.world_steps.proofs.laws.runs_are_read.Goals as goal

pub returns : goal.returns
returns c = reads
