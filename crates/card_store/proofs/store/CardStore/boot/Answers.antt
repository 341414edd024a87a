use Rattle.std.proofs.Common.{ap, refl}
use Rattle.epoch_cache.specs.Cache.{Cache}
use Rattle.card_store.proofs.Turning.{opened_stands}
use Rattle.card_store.proofs.store.CardStore.boot.Goals as goal

pub returns-clause-stands : goal.returns-clause-stands
returns-clause-stands g c = opened_stands _ _ c.in_ok-intent.intent refl c.in_ok-intent.ensures.stands (ap (λ (cache : Cache). cache.lines) c.clear.ensures.cleared) c.clear-2.ensures c.clear-3.ensures
