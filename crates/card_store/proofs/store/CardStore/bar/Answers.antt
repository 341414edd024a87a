use Rattle.std.proofs.Common.{arith, refl}
use Rattle.card_store.proofs.Turning.{turns_bar}
use Rattle.card_store.proofs.store.CardStore.bar.Goals as goal

pub returns-then-last-lt4294967295-clause-turns : goal.returns-then-last-lt4294967295-clause-turns
returns-then-last-lt4294967295-clause-turns c = λ array. rw (← c.self.view_is) (turns_bar _ _ array (λ same. omega arith) c.bar.ensures.last refl refl c.clear.ensures)
