use Rattle.end_laws.proofs.Fresh.{is_sound_fresh}
use Rattle.end_laws.proofs.laws.runs_begin_sound.Goals as goal

pub returns : goal.returns
returns c = is_sound_fresh
