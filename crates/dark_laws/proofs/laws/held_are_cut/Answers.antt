use Rattle.dark_laws.proofs.Held.{cut_here}
use Rattle.dark_laws.proofs.Pages.{pages_left}
use Rattle.dark_laws.proofs.laws.held_are_cut.Goals as goal

pub returns : goal.returns
returns c = record { cut = cut_here; pages = pages_left }
