use Rattle.bus_link.specs.Link.{Call}
use Rattle.card_link.specs.Behind.{behind}
use Rattle.card_link.specs.Made.{CardMade}
use Rattle.card_link.specs.declared.link.CardLink.{CardLink}
use Rattle.card_events.proofs.EngineMapped.{event_mapped}
use Rattle.card_events.proofs.engine.engine_over.Goals as goal

pub returns-clause-event : goal.returns-clause-event
returns-clause-event g c =
    event_mapped (λ (l : CardLink g.row.A.Denot). behind l.card.now (g.A.Array.state l.array.now) l.link.now)
    (λ (old : CardLink g.row.A.Denot) (call : Call) (new : CardLink g.row.A.Denot).
    CardMade (behind old.card.now (g.A.Array.state old.array.now) old.link.now) call (behind new.card.now (g.A.Array.state new.array.now) new.link.now))
    CardMade (λ old call new made. made) c.args.link.now c.event.new.link c.args.engine.now c.event.new.self c.args.regs.now c.event.new.regs
    c.args.mem.now c.event.new.mem c.event.result c.event.ensures.event
