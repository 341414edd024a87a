use Rattle.cause_laws.proofs.Stepping.{steps_fall}
use Rattle.cause_laws.proofs.laws.steps_fall.Goals as goal

pub returns : goal.returns
returns c = steps_fall (record {
  host = c.host_has_less_to_do.ensures.falls;
  rests = c.host_has_less_to_do.ensures.rests;
  read_off = c.host_has_less_to_do.ensures.read_off;
  engine = c.engine_has_less_to_do.ensures.falls;
  most = c.engine_has_less_to_do.ensures.most;
  anew = c.power_lost_leaves_no_more_to_do.ensures;
  orders = c.used_lines_pay.ensures;
})
