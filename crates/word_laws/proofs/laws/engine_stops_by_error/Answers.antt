use Rattle.word_laws.proofs.All.{engine_stops}
use Rattle.word_laws.proofs.laws.engine_stops_by_error.Goals as goal

pub returns : goal.returns
returns c = record { words = engine_stops }
