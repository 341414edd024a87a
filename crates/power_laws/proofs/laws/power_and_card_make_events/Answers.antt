use Rattle.power_laws.proofs.CardEvents.{card_steps}
use Rattle.power_laws.proofs.Darks.{power_darkens}
use Rattle.power_laws.proofs.FlushEvents.{flush_steps}
use Rattle.power_laws.proofs.CutLines.{uses_line}
use Rattle.power_laws.proofs.laws.power_and_card_make_events.Goals as goal

pub returns : goal.returns
returns c = record {
  card = card_steps c.state_is_read.ensures.laws;
  power = λ p a o k h some. power_darkens c.state_is_read.ensures.laws p a o k h;
  flush = flush_steps;
  line = uses_line;
}
