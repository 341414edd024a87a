use Rattle.std.proofs.Common.{rules, arith}
use Rattle.std.proofs.lemmas.Grind.{common_steps}
use Rattle.card_link.proofs.calls.exchange.Goals as goal

pub returns-in-Ok : goal.returns-in-Ok
returns-in-Ok g c = record {
  fits = c.in-Ok.ensures.open;
  made = grind (arith, common_steps);
  ends = search rules;
  flash = search rules;
}
