use Rattle.std.proofs.Common.{[]}
use Rattle.storage_model.proofs.Mixes.{covers_none}
use Rattle.storage_model.proofs.left.cover_of.Goals as goal

pub returns : goal.returns
returns c = c.add_cover.ensures [] (covers_none c.args.left.now)
