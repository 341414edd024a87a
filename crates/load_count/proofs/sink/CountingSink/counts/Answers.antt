use Rattle.load_count.proofs.ItemLines.{counts_behind}
use Rattle.load_count.proofs.sink.CountingSink.counts.Goals as goal

pub returns : goal.returns
returns c = λ lines took. counts_behind lines c.args.self.now took
