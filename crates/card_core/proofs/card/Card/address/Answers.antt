use Rattle.std.proofs.Common.{Some, false, arith, sym, ◌∙◌}
use Rattle.std.proofs.lemmas.Grind.{common_steps}
use Rattle.card_core.proofs.Places.{set-emptied}
use Rattle.card_core.proofs.card.Card.address.Goals as goal

pub returns-then-from : goal.returns-then-from
returns-then-from c =
    let waits = rw (sym c.address_task.ensures.task ∙ c.in-Some.is) at c.self.invariant.waits in
    grind (arith, common_steps, set-emptied c.self.inside.queue.slots c.in-Some.task.task (Some (record { queued = record { task = c.in-Some.task; start = c.args.start }; ready = false })) waits.1)
