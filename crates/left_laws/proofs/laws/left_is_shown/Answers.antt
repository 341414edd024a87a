use Rattle.left_laws.proofs.Ons.{on_shown}
use Rattle.left_laws.proofs.Shows.{all_lines, below_shown, first_lines}
use Rattle.left_laws.proofs.laws.left_is_shown.Goals as goal

pub returns : goal.returns
returns c = record { whole = all_lines; below = below_shown; first = first_lines; powered = on_shown }
