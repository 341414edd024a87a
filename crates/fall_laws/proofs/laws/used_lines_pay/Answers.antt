use Rattle.fall_laws.proofs.Orders.{both_pay, letter_pays, line_pays, same_order}
use Rattle.fall_laws.proofs.laws.used_lines_pay.Goals as goal

pub returns : goal.returns
returns c = record { same = same_order; letter = letter_pays; line = line_pays; both = both_pay }
