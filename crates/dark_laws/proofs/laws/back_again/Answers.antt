use Rattle.dark_laws.proofs.Back.{is_back}
use Rattle.dark_laws.proofs.TiedAnew.{outlasted, tied_anew, tied_on}
use Rattle.dark_laws.proofs.laws.back_again.Goals as goal

pub returns : goal.returns
returns c = record { outlasts = tied_on; outlasted = outlasted; tied = tied_anew; back = is_back }
