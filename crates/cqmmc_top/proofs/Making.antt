-- The pages of a new image.
use Rattle.std.proofs.Common.{◌≡◌, ◌⊎◌, inl, inr, ℕ, zero, suc, ◌+◌, ◌<◌, ◌≤◌, List, [], ◌∷◌, Option, None, Some, IfSome, length, get_or, take, drop, set, replicate, refl, sym, ◌∙◌, ap, subst, arith, length-set, length-take, length-drop}
use Rattle.std.proofs.lemmas.List.{get_or-set_same, get_or-set_other, get_or-take, get_or-drop}
use Rattle.storage_model.specs.declared.block.Block.{Block}
use Rattle.array_edge.specs.Array.{page_at, with_page}
use Rattle.image_form.specs.declared.gate.Gate.TheVariants.{Shut}
use Rattle.image_form.specs.Form.{IsSuper, IsGate}
use Rattle.image_form.specs.Image.{sectors_of, gate_at, stored}
use Rattle.image_form.proofs.Images.{sectors_of-IsSuper, gate_at-IsGate, IsImage-forms, shown-shut}
use Rattle.cqmmc_top.specs.Made.{Blanked, IsBlanked, IsZeroImage, zero_block}

abbrev blank : Block
blank = record { 0 = [] }

-- one page more is zeros
more_blank : (first page : ℕ) (old mid : List Block) → first ≤ page → page < length mid → IsBlanked first page old mid → IsBlanked first (page + 1) old (set mid page zero_block)
more_blank first page old mid from below done = record {
  long = length-set mid page zero_block ∙ done.long;
  blank = λ k low high. elim (here_or_before k high) [
    | inl same ↦ subst (λ j. page_at (set mid page zero_block) j ≡ zero_block) (sym same) (get_or-set_same mid page zero_block blank below)
    | inr before ↦ get_or-set_other mid page k zero_block blank (λ e. omega arith) ∙ done.blank k low before
  ];
  before = λ k low. get_or-set_other mid page k zero_block blank (λ e. omega arith) ∙ done.before k low;
}
  where
    here_or_before : (k : ℕ) → k < page + 1 → (k ≡ page) ⊎ (k < page)
    here_or_before k high = grind arith

pub blank_more : (first page : ℕ) (old mid new : Option (List Block)) → first ≤ page → IfSome mid (λ pages. page < length pages) → Blanked first page old mid → new ≡ with_page mid page zero_block → Blanked first (page + 1) old new
blank_more first page None None new from below done is = subst (λ told. Blanked first (page + 1) None told) (sym is) tt
blank_more first page None (Some mid) new from below done is = absurd done
blank_more first page (Some old) None new from below done is = absurd done
blank_more first page (Some old) (Some mid) new from below done is = subst (λ told. Blanked first (page + 1) (Some old) told) (sym is) (more_blank first page old mid from below done)

-- before the first page
pub blank_none : (first : ℕ) (told : Option (List Block)) → Blanked first first told told
blank_none first None = tt
blank_none first (Some pages) = record { long = refl; blank = λ k low high. absurd (omega arith); before = λ k low. refl }

all_same : {X : Type 0} (n : ℕ) (xs : List X) (d z : X) → length xs ≡ n → ((k : ℕ) → k < n → get_or xs k d ≡ z) → xs ≡ replicate n z
all_same zero [] d z long each = refl
all_same zero (x ∷ xs) d z long each = absurd (omega arith)
all_same (suc n) [] d z long each = absurd (omega arith)
all_same (suc n) (x ∷ xs) d z long each =
    let first : x ≡ z = each 0 (omega arith) in
    let rest : xs ≡ replicate n z = all_same n xs d z (omega arith) (λ k below. each (suc k) (omega arith)) in
    (λ i. first i ∷ rest i)

zeros_stored : (sectors : ℕ) (made : List Block) → sectors_of made ≡ sectors → 8 + sectors ≤ length made → ((k : ℕ) → k < sectors → page_at made (8 + k) ≡ zero_block) → stored made ≡ replicate sectors zero_block
unfolding stored
zeros_stored sectors made count wide each =
    ap (λ n. take n (drop 8 made)) count
    ∙ all_same sectors (take sectors (drop 8 made)) blank zero_block (length-take sectors (drop 8 made) ∙ omega (arith, length-drop 8 made))
    (λ k below. get_or-take sectors (drop 8 made) k blank below ∙ (get_or-drop 8 made k blank ∙ each k below))

module _ (sectors : ℕ) (super gate : Block) (is_super : IsSuper super (record { version = 1; sectors = sectors })) (is_gate : IsGate gate sectors Shut) where
  zero_image : (start pages : List Block) → 8 + sectors ≤ length start → IsBlanked 2 (8 + sectors) (set (set start 0 zero_block) 1 gate) pages → IsZeroImage sectors (set pages 0 super)
  zero_image start pages room blanked =
      let long : length pages ≡ length start = blanked.long ∙ (length-set (set start 0 zero_block) 1 gate ∙ length-set start 0 zero_block) in
      let made = set pages 0 super in
      let first : page_at made 0 ≡ super = get_or-set_same pages 0 super blank (omega arith) in
      let second : page_at made 1 ≡ gate =
      get_or-set_other pages 0 1 super blank (λ e. omega arith) ∙ (blanked.before 1 (omega arith) ∙ get_or-set_same (set start 0 zero_block) 1 gate blank (omega (arith, length-set start 0 zero_block))) in
      let s : IsSuper (page_at made 0) (record { version = 1; sectors = sectors }) = subst (λ block. IsSuper block (record { version = 1; sectors = sectors })) (sym first) is_super in
      let g : IsGate (page_at made 1) sectors Shut = subst (λ block. IsGate block sectors Shut) (sym second) is_gate in
      let wide : 8 + sectors ≤ length made = omega (arith, length-set pages 0 super) in
      let count : sectors_of made ≡ sectors = sectors_of-IsSuper made (record { version = 1; sectors = sectors }) s in
      let shut : gate_at made ≡ Shut = gate_at-IsGate made sectors Shut is_super.most g in
      record {
        image = IsImage-forms made (record { version = 1; sectors = sectors }) Shut s g wide;
        count = count;
        shut = shut;
        unused = λ k low high. get_or-set_other pages 0 k super blank (λ e. omega arith) ∙ blanked.blank k low (omega arith);
        zeros = shown-shut made shut ∙ zeros_stored sectors made count wide (λ k below. get_or-set_other pages 0 (8 + k) super blank (λ e. omega arith) ∙ blanked.blank (8 + k) (omega arith) (omega arith));
      }

  pub image_made : (t0 t1 t2 t3 t4 t5 : Option (List Block)) → IfSome t0 (λ pages. 8 + sectors ≤ length pages) → t1 ≡ with_page t0 0 zero_block → t2 ≡ with_page t1 1 gate → Blanked 2 (8 + sectors) t2 t3 → t4 ≡ t3 → t5 ≡ with_page t4 0 super
      → IfSome t5 (IsZeroImage sectors)
  image_made t0 t1 t2 t3 t4 t5 room e1 e2 blanked e4 e5 =
      let e : t2 ≡ with_page (with_page t0 0 zero_block) 1 gate = e2 ∙ ap (λ t. with_page t 1 gate) e1 in
      subst (λ t. IfSome t (IsZeroImage sectors)) (sym (e5 ∙ ap (λ t. with_page t 0 super) e4)) (go t0 t3 room (subst (λ t. Blanked 2 (8 + sectors) t t3) e blanked))
    where
      go : (t0 t3 : Option (List Block)) → IfSome t0 (λ pages. 8 + sectors ≤ length pages) → Blanked 2 (8 + sectors) (with_page (with_page t0 0 zero_block) 1 gate) t3 → IfSome (with_page t3 0 super) (IsZeroImage sectors)
      go None None room blanked = tt
      go None (Some pages) room blanked = absurd blanked
      go (Some start) None room blanked = absurd blanked
      go (Some start) (Some pages) room blanked = zero_image start pages room blanked

-- told pages are as many as the array has
pub fits : (told : Option (List Block)) (count page : ℕ) → IfSome told (λ pages. length pages ≡ count) → page < count → IfSome told (λ pages. page < length pages)
fits None count page counts below = tt
fits (Some pages) count page counts below = omega arith

pub wide : (told : Option (List Block)) (count least : ℕ) → IfSome told (λ pages. length pages ≡ count) → least ≤ count → IfSome told (λ pages. least ≤ length pages)
wide None count least counts enough = tt
wide (Some pages) count least counts enough = omega arith
