use Rattle.std.proofs.Common.{◌∙◌, not, ap, sym}
use Rattle.trace_effects.proofs.Steps.{waits_over}
use Rattle.trace_effects.proofs.cut_effects.is_over.Goals as goal

pub returns-in-Discarded : goal.returns-in-Discarded
returns-in-Discarded c =
    ap not (c.has_any.ensures ∙ sym (waits_over c.args.s.now c.in-Discarded.is))
