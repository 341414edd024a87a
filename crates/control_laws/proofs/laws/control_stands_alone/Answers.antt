use Rattle.control_laws.proofs.Effects.{contents_kept}
use Rattle.control_laws.proofs.Marks.{effect_control}
use Rattle.control_laws.proofs.Orders.{control_order}
use Rattle.control_laws.proofs.Rules.{control_rule}
use Rattle.control_laws.proofs.Steps.{control_step, control_trace}
use Rattle.control_laws.proofs.laws.control_stands_alone.Goals as goal

pub returns : goal.returns
returns c = record {
  rules = control_rule;
  order = control_order;
  effects = effect_control;
  steps = control_step;
  traces = control_trace;
  contents = contents_kept;
}
