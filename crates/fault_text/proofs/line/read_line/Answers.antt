use Rattle.std.proofs.Common.{◌∙◌, sym}
use Rattle.fault_text.proofs.LineWords.{reads_ok}
use Rattle.fault_text.proofs.line.read_line.Goals as goal

pub returns-in-Some : goal.returns-in-Some
returns-in-Some c = reads_ok c.args.text.now c.in-Some.first.now c.next.new.self c.line_of.result (sym c.of-words.ensures ∙ c.in-Some.ensures) c.line_of.ensures
