use Rattle.left_laws.proofs.Effects.{shown_none}
use Rattle.left_laws.proofs.Shows.{fault_shown, first_shown, next_sector, next_shown, no_sector, sector_passed, shown_so}
use Rattle.left_laws.proofs.laws.next_line_is_shown.Goals as goal

pub returns : goal.returns
returns c = record {
  start = first_shown;
  sector = next_sector;
  none = no_sector;
  next = next_shown;
  passed = sector_passed;
  last = shown_none;
  fault = fault_shown;
  so = shown_so;
}
