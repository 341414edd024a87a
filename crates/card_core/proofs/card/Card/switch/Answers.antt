use Rattle.std.proofs.Common.{arith}
use Rattle.std.proofs.lemmas.Grind.{common_steps}
use Rattle.card_core.proofs.card.Card.switch.Goals as goal

pub returns-in-Ok-Barrier-clause-response : goal.returns-in-Ok-Barrier-clause-response
returns-in-Ok-Barrier-clause-response g c = grind (arith, common_steps, c.set_barrier.ensures.barred (g.A.Array.state c.args.array.now))
