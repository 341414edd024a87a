use Rattle.std.proofs.Common.{◌∙◌, sym, ap}
use Rattle.cut_order.specs.Order.{with_line}
use Rattle.world_steps.specs.World.{WorldState}
use Rattle.world.proofs.Letters.{begins, begins_none, its_line, letter_used, line_used, no_lines_next, no_lines_used, none_used}
use Rattle.world.specs.declared.world.World.TheInside.{Inside}
use Rattle.world.proofs.world.World.begin.Goals as goal

abbrev as_world : Inside → WorldState
as_world it = record { path = it.path; order = it.order }

pub returns-then-uses_line-clause-world : goal.returns-then-uses_line-clause-world
returns-then-uses_line-clause-world g c =
    line_used c.args.self.now c.args.actor _ _ c.use_cut.new.self (ap as_world c.self-inside.view_is ∙ c.self.view_is) (sym c.uses_line.ensures ∙ c.if-uses_line.true)
    (c.use_cut.ensures.lines ∙ ap (with_line _) c.sent.ensures)

pub returns-then-uses_line-clause-lines : goal.returns-then-uses_line-clause-lines
returns-then-uses_line-clause-lines g c =
    begins_none g.K.Sink.took c.args.self.now c.args.actor c.args.out.now g.met.K.Sink.took_nothing (no_lines_used c.args.self.now c.args.actor (sym c.uses_line.ensures ∙ c.if-uses_line.true))

pub returns-then-has_letter-clause-world : goal.returns-then-has_letter-clause-world
returns-then-has_letter-clause-world g c =
    letter_used c.args.self.now c.args.actor c.self.inside.path c.self.inside.order c.use_letter.new.self c.self.view_is (sym c.uses_line.ensures ∙ c.if-uses_line.false)
    (sym c.has_letter.ensures ∙ c.if-has_letter.true) c.use_letter.ensures.letters

pub returns-then-has_letter-clause-lines : goal.returns-then-has_letter-clause-lines
returns-then-has_letter-clause-lines g c =
    begins g.K.Sink.took c.args.self.now c.args.actor c.args.out.now c.print.new.out c.print.result
    (its_line c.args.self.now c.args.actor (sym c.uses_line.ensures ∙ c.if-uses_line.false) (sym c.has_letter.ensures ∙ c.if-has_letter.true)) c.print.ensures.halt c.print.ensures.takes

pub returns-clause-world : goal.returns-clause-world
returns-clause-world g c = none_used c.args.self.now c.args.actor (sym c.uses_line.ensures ∙ c.if-uses_line.false) (sym c.has_letter.ensures ∙ c.if-has_letter.false)

pub returns-clause-lines : goal.returns-clause-lines
returns-clause-lines g c =
    begins_none g.K.Sink.took c.args.self.now c.args.actor c.args.out.now g.met.K.Sink.took_nothing
    (no_lines_next c.args.self.now c.args.actor (sym c.uses_line.ensures ∙ c.if-uses_line.false) (sym c.has_letter.ensures ∙ c.if-has_letter.false))
