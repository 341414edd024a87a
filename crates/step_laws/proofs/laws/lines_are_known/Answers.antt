use Rattle.step_laws.proofs.laws.lines_are_known.Goals as goal

pub returns : goal.returns
returns c = record {
  lit = c.events_go_on.ensures.lit;
  back = c.events_go_on.ensures.back;
  ended = c.events_go_on.ensures.ended;
  stopped_lit = c.events_break_off.ensures.lit;
  stopped_dark = c.events_break_off.ensures.dark;
  stopped_last = c.events_break_off.ensures.last;
  stopped_at_cut = c.events_break_off.ensures.cut;
  stopped_behind = c.events_break_off.ensures.behind;
  engine_near = c.events_stay_near.ensures.engine;
  host_near = c.events_stay_near.ensures.host;
  card_near = c.events_stay_near.ensures.card;
  power_near = c.events_stay_near.ensures.power;
}
