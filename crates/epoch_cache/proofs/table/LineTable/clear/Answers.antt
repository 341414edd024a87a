use Rattle.std.proofs.Common.{[], ap}
use Rattle.epoch_cache.specs.Table.{Table, lines_of}
use Rattle.epoch_cache.proofs.table.LineTable.clear.Goals as goal

pub returns : goal.returns
unfolding lines_of
returns c = ap (λ (t : Table). record { lines = []; room = t.room }) c.self.view_is
