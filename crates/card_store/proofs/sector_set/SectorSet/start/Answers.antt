use Rattle.std.proofs.Common.{false, inl, inr}
use Rattle.epoch_cache.proofs.TableSteps.{all_at}
use Rattle.card_store.proofs.Turning.{says_none}
use Rattle.card_store.proofs.sector_set.SectorSet.start.Goals as goal

pub returns : goal.returns
returns c = says_none c.in_ok-vec.field-0.items (λ k below. elim (all_at _ c.in_ok-vec.field-0.items k false c.in_ok-vec.ensures.items below) [ inl same ↦ same | inr clone ↦ clone ])
