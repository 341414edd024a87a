use Rattle.std.proofs.Common.{rules}
use Rattle.raw_machine.specs.Machine.{zeros}
use Rattle.raw_face.proofs.raw.memory.Goals as goal

pub returns : goal.returns
unfolding zeros
returns c = search rules
