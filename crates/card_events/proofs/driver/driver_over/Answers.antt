use Rattle.bus_link.specs.Link.{Call}
use Rattle.card_events.proofs.DriverMapped.{event_mapped}
use Rattle.card_events.proofs.driver.driver_over.Goals as goal
use Rattle.card_link.specs.Behind.{behind}
use Rattle.card_link.specs.Made.{CardMade}
use Rattle.card_link.specs.declared.link.CardLink.{CardLink}

pub returns-clause-event : goal.returns-clause-event
returns-clause-event g c =
    event_mapped (λ (l : CardLink g.row.A.Denot). behind l.card.now (g.A.Array.state l.array.now) l.link.now)
    (λ (old : CardLink g.row.A.Denot) (call : Call) (new : CardLink g.row.A.Denot).
    CardMade (behind old.card.now (g.A.Array.state old.array.now) old.link.now) call (behind new.card.now (g.A.Array.state new.array.now) new.link.now))
    CardMade (λ old call new made. made)
    (record { driver = c.args.driver.now; regs = c.args.regs.now; memory = c.args.mem.now; link = c.args.link.now })
    (record { driver = c.event.new.self; regs = c.event.new.regs; memory = c.event.new.mem; link = c.event.new.link })
    c.args.cause c.event.result c.event.ensures.event
