use Rattle.fall_laws.proofs.Anew.{anew_falls, anew_most}
use Rattle.fall_laws.proofs.laws.power_lost_leaves_no_more_to_do.Goals as goal

pub returns : goal.returns
returns c = record { most = anew_most; issued = anew_falls }
