use Rattle.std.proofs.Common.{sym, subst}
use Rattle.task_queue.specs.Places.{Queue}
use Rattle.card_core.specs.Card.{CardState, IsCard}
use Rattle.card_core.proofs.Places.{card_polled}
use Rattle.card_core.proofs.card.Card.poll.Goals as goal

pub invariant_of-self : goal.invariant_of-self
invariant_of-self c =
    let card : CardState = record {
      queue = c.self.inside.queue;
      csd = c.self.inside.csd;
      store = c.self.inside.store;
      phase = c.self.inside.phase;
      begun = c.self.inside.begun;
      depth = c.self.inside.depth;
      lines = c.self.inside.lines;
      through = c.self.inside.through;
    } in
    let P : Queue → Type 0 = λ queue. IsCard (record card { queue = queue }) in
    subst P (sym c.make_ready.ensures) (card_polled card c.args.choice c.self.invariant)
