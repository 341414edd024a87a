use Rattle.std.proofs.Common.{◌∙◌}
use Rattle.trace_effects.proofs.Steps.{cut_behind}
use Rattle.trace_effects.proofs.cut_effects.first_cut.Goals as goal

pub returns : goal.returns
returns c =
    c.over.ensures
    ∙ cut_behind c.args.s.now c.at_cut.new.s c.line_used-line.result c.use_line.new.cuts c.to_do-s.result c.line_used-line.ensures c.at_cut.ensures c.to_do-s.ensures c.use_line.ensures
