use Rattle.step_laws.proofs.laws.causes_are_known.Goals as goal

pub returns : goal.returns
returns c = record {
  explained = c.lines_have_causes.ensures.events;
  joined = c.lines_have_causes.ensures.joined;
  errors = c.engine_stops_by_error.ensures.words;
  dark = c.next_steps_leave_less.ensures.dark;
  falls = c.next_steps_leave_less.ensures.falls;
}
