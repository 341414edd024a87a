use Rattle.cause_laws.proofs.Flushing.{flushes_explained}
use Rattle.cause_laws.proofs.laws.flushes_have_causes.Goals as goal

pub returns : goal.returns
returns c = flushes_explained
