use Rattle.card_store.proofs.Turning.{lines_left}
use Rattle.card_store.proofs.store.CardStore.sectors.Goals as goal

pub returns-clause-left : goal.returns-clause-left
returns-clause-left c = λ c' array stands. lines_left c.args.self.now.cache _ c'.base c'.pend stands.lines
