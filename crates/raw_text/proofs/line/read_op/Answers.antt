use Rattle.std.proofs.Common.{◌∙◌, sym}
use Rattle.raw_text.proofs.OpTexts.{reads_line_ok}
use Rattle.raw_text.proofs.line.read_op.Goals as goal

pub returns : goal.returns
returns c = reads_line_ok c.args.line.now c.in-Some.first.now c.next.new.self c.op_of.result (sym c.of-words.ensures ∙ c.in-Some.ensures) c.op_of.ensures
