use Rattle.end_laws.proofs.Opened.{stands_opened}
use Rattle.end_laws.proofs.laws.runs_stand_opened.Goals as goal

pub returns : goal.returns
returns c = stands_opened c.back_again.ensures.tied
