use Rattle.step_laws.proofs.laws.events_are_known.Goals as goal

pub returns : goal.returns
returns c = record {
  states = c.state_is_read.ensures.laws;
  commands = c.commands_step.ensures.steps;
  phases = c.phases_step.ensures.steps;
  hosts = c.host_events_are_the_machines.ensures.steps;
  cards = c.power_and_card_make_events.ensures.card;
  powers = c.power_and_card_make_events.ensures.power;
  line = c.power_and_card_make_events.ensures.line;
  read = c.runs_are_read.ensures;
  yields = c.phases_yield_to_cuts.ensures.yields;
  prompt = c.phases_yield_to_cuts.ensures.stays;
}
