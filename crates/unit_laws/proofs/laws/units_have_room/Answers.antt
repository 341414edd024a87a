use Rattle.unit_laws.proofs.Lines.{adds_lines, fits_empty, one_of_two}
use Rattle.unit_laws.proofs.laws.units_have_room.Goals as goal

pub returns-clause-told : goal.returns-clause-told
returns-clause-told c = one_of_two

pub returns-clause-lines : goal.returns-clause-lines
returns-clause-lines c = adds_lines

pub returns-clause-empty : goal.returns-clause-empty
returns-clause-empty c = fits_empty
