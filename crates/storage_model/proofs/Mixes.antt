-- Which granules a list of values has, and the mixes of a list of segments.
use Rattle.std.proofs.Common.{◌≡◌, ℕ, ◌<◌, Bool, true, false, List, [], ◌↔◌, All, length, replicate, refl, sym, ◌∙◌, arith}
use Rattle.std.proofs.lemmas.Bool.Decides.{same_from_decides, Decides-below_and, Decides-like}
use Rattle.std.proofs.lemmas.List.{get_or_default, get_or-replicate}
use Rattle.storage_model.specs.Cover.{Covers}
use Rattle.storage_model.specs.Left.{every_below, has_granule, is_mix}
use Rattle.storage_model.specs.declared.block.Block.{Block}

pub full_is : (cover : List Bool) (values : List Block) (w : Block) (full : Bool) → length cover ≡ 8 → Covers cover values w → ((full ≡ true) ↔ All (λ has. has ≡ true) cover) → full ≡ is_mix values w
unfolding is_mix
full_is cover values w full long covers answer =
    same_from_decides full (every_below 8 (has_granule values w))
    (Decides-like {P = All (λ has. has ≡ true) cover} {Q = (g : ℕ) → g < 8 → has_granule values w g ≡ true} full
    (λ all g below. sym (covers.each g below) ∙ all g false (omega arith))
    (λ each g d below. get_or_default cover g d false below ∙ covers.each g (omega arith) ∙ each g (omega arith))
    (answer.0, answer.1))
    (Decides-below_and (has_granule values w) (λ g. has_granule values w g ≡ true) (λ n. every_below n (has_granule values w)) (λ g. (λ h. h, λ h. h)) refl (λ _. refl) 8)

-- no granule is found among no values
pub covers_none : (w : Block) → Covers (replicate 8 false) [] w
covers_none w = record { each = λ g below. get_or-replicate 8 g false false below }
