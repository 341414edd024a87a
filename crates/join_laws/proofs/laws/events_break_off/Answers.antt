use Rattle.join_laws.proofs.Fronts.{stopped_at_cut, stopped_behind, stopped_dark, stopped_last, stopped_lit}
use Rattle.join_laws.proofs.laws.events_break_off.Goals as goal

pub returns : goal.returns
returns c = record { lit = stopped_lit; dark = stopped_dark; last = stopped_last; cut = stopped_at_cut; behind = stopped_behind }
