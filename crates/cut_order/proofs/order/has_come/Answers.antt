-- The line behind the first ones is tested, since it is the one that can be due.
use Rattle.std.proofs.Common.{◌∙◌, length}
use Rattle.std.proofs.lemmas.Bool.{le-ltb}
use Rattle.cut_order.proofs.FrontLaws.{due_past, due_within}
use Rattle.cut_order.proofs.order.has_come.Goals as goal

pub returns-then-first-cuts-clause-due : goal.returns-then-first-cuts-clause-due
returns-then-first-cuts-clause-due c = due_within c.args.cuts.now c.args.first c.args.sent 0 c.requires.rising c.if-first-cuts.true

pub returns-else-first-cuts-clause-due : goal.returns-else-first-cuts-clause-due
returns-else-first-cuts-clause-due c =
    le-ltb c.args.first (length c.args.cuts.now) c.if-first-cuts.false ∙ due_past c.args.cuts.now c.args.first c.args.sent c.requires.rising c.requires.within c.if-first-cuts.false
