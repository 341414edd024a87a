use Rattle.trace_effects.proofs.LineFacts.{left_in_range, phase_may}
use Rattle.trace_effects.proofs.apply.apply.Goals as goal

pub after_phase-requires-clause-holds : goal.after_phase-requires-clause-holds
after_phase-requires-clause-holds c = phase_may c.args.s.now c.args.item.now c.in-Phase.n c.in-Phase.id c.in-Phase.count c.in-Phase.kept c.in-Phase.is c.requires.holds

pub after_left-requires : goal.after_left-requires
after_left-requires c = left_in_range c.args.s.now c.args.item.now c.in-Left.sector c.in-Left.value c.in-Left.is c.requires.holds
