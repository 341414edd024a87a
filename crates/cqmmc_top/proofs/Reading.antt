-- The sectors of a read, one after the other.
use Rattle.std.proofs.Common.{◌≡◌, ℕ, ◌+◌, ◌<◌, ◌≤◌, List, [], ◌∷◌, ◌++◌, Option, None, Some, IfSome, length, take, drop, set, refl, sym, ◌∙◌, ap, subst, arith, length-drop, option_map}
use Rattle.std.proofs.lemmas.List.{take_more, take_more_set, get_or-drop}
use Rattle.storage_model.specs.declared.block.Block.{Block}
use Rattle.array_edge.specs.Array.{ArrayState, HasPage, page_at}
use Rattle.image_form.specs.Image.{shown}
use Rattle.image_form.proofs.Images.{length-shown}
use Rattle.intent_store.specs.Intent.{Known, IsKnown, IntentStands, shown_by}
use Rattle.cqmmc_top.specs.Opened.{IsOpen, HasSectors}

-- as many sectors are shown as the image has
pub shown_length : (known : Known) (array : ArrayState) (base : List Block) → IsOpen known array → shown_by array ≡ Some base → length base ≡ known.sectors
shown_length known array base is_open is = go array.told is_open.stands.told is
  where
    go : (told : Option (List Block)) → IfSome told (IsKnown known) → option_map shown told ≡ Some base → length base ≡ known.sectors
    go None stands is = absurd (cc (is))
    go (Some pages) stands is = let same : shown pages ≡ base = cc (is) in ap length (sym same) ∙ (length-shown pages stands.image ∙ stands.sectors)

-- one sector more
one_more : (base values : List Block) (first i : ℕ) (block : Block) → i < length values → first + length values ≤ length base → block ≡ page_at base (first + i) → take i values ≡ take i (drop first base)
    → take (i + 1) (set values i block) ≡ take (i + 1) (drop first base)
one_more base values first i block below inside is so_far =
    let blank : Block = record { 0 = [] } in
    let within : i < length (drop first base) = omega (arith, length-drop first base) in
    take_more_set values i block below ∙ (ap (λ front. front ++ block ∷ []) so_far ∙ (ap (λ b. take i (drop first base) ++ b ∷ []) (is ∙ sym (get_or-drop first base i blank)) ∙ sym (take_more (drop first base) i blank within)))

pub read_next : (known : Known) (old mid : ArrayState) (values : List Block) (first i sector : ℕ) (block : Block) → IsOpen known mid → mid.told ≡ old.told → i < length values → first + length values ≤ known.sectors → sector ≡ first + i
    → HasPage (shown_by mid) sector block → IfSome (shown_by old) (λ base. take i values ≡ take i (drop first base)) → IfSome (shown_by old) (λ base. take (i + 1) (set values i block) ≡ take (i + 1) (drop first base))
read_next known old mid values first i sector block is_open same below inside is has so_far =
    go (shown_by old) (λ base shows. let long : length base ≡ known.sectors = shown_length known mid base is_open (ap (option_map shown) same ∙ shows) in omega arith) so_far
    (subst (λ s. HasPage (shown_by old) s block) is (subst (λ told. HasPage (option_map shown told) sector block) same has))
  where
    go : (showing : Option (List Block)) → ((base : List Block) → showing ≡ Some base → first + length values ≤ length base) → IfSome showing (λ base. take i values ≡ take i (drop first base)) → HasPage showing (first + i) block
        → IfSome showing (λ base. take (i + 1) (set values i block) ≡ take (i + 1) (drop first base))
    go None long so_far has = tt
    go (Some base) long so_far has = one_more base values first i block below (long base refl) has so_far

-- what was shown before the opening has as many sectors as the image
pub has_sectors : (known : Known) (old new : ArrayState) → IntentStands known new → shown_by new ≡ shown_by old → HasSectors old known.sectors
has_sectors known old new stands same = subst (λ showing. IfSome showing (λ base. length base ≡ known.sectors)) same (go new.told stands.told)
  where
    go : (told : Option (List Block)) → IfSome told (IsKnown known) → IfSome (option_map shown told) (λ base. length base ≡ known.sectors)
    go None known_pages = tt
    go (Some pages) known_pages = length-shown pages known_pages.image ∙ known_pages.sectors
