use Rattle.join_laws.proofs.Joins.{is_back_on, is_ended, is_lit}
use Rattle.join_laws.proofs.laws.events_go_on.Goals as goal

pub returns : goal.returns
returns c = record { lit = is_lit; back = is_back_on; ended = is_ended }
