use Rattle.join_laws.proofs.Uses.{used_behind}
use Rattle.join_laws.proofs.laws.cuts_use_lines.Goals as goal

pub returns : goal.returns
returns c = used_behind
