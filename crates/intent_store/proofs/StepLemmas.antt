-- What each call on a page does to what an array shows, and to what is known of it.
use Rattle.std.proofs.Common.{◌≡◌, ◌⊎◌, ℕ, ◌+◌, ◌≤◌, ◌<◌, List, [], length, refl, sym, ap, subst, ◌∙◌, arith, inl, inr}
use Rattle.std.specs.Prelude.{Option, Some, None, IfSome, IsSome, Result, Ok, Err, OnOk, option_map, slice_set}
use Rattle.std.proofs.lemmas.Bool.Decides.{eqb_tells}
use Rattle.std.proofs.lemmas.List.{set-get_or}
use Rattle.storage_model.specs.Granule.{granule, IsMix}
use Rattle.storage_model.specs.declared.block.Block.{Block}
use Rattle.array_edge.specs.Array.{ArrayState, with_page, IsTorn, HasPage}
use Rattle.image_form.specs.declared.gate.Gate.{Gate}
use Rattle.image_form.specs.declared.gate.Gate.TheVariants.{Shut, Ajar}
use Rattle.image_form.specs.Form.{IsGate, gate_number, gate_head, page_of}
use Rattle.image_form.specs.Image.{page_at, sectors_of, gate_at, IsImage, shown}
use Rattle.image_form.proofs.Forms.{granule-gate_page}
use Rattle.image_form.proofs.Images.{page_at-same, sectors_of-other, gate_at-other, gate_at-IsGate, ajar_sector, IsImage-other, IsImage-gate, shown-at_shut, shown-at_ajar, shown-at_other, shown-intent, shown-sector, shown-behind, shown-same, shown-opened, shown-closed}
use Rattle.intent_store.specs.declared.ends.StoreEnd.{StoreEnd}
use Rattle.intent_store.specs.Intent.{Known, IsKnown, IntentStands, StoreEnds, shown_by}
use Rattle.intent_store.specs.Steps.{IsWritten, IsMoved, after_gate, place_of, with_intent}
use Rattle.intent_store.proofs.WriteLemmas.{IsMix-old}

known_gate : (known : Known) (pages : List Block) (gate : Gate) → IsKnown known pages → known.gate ≡ Some gate → gate_at pages ≡ gate
known_gate known pages gate is e = let P : Option Gate → Type 0 = λ o. IfSome o (λ g. gate_at pages ≡ g) in subst P e is.gate

-- reading
place_at : (pages : List Block) (gate : Gate) (sector : ℕ) → IsImage pages → gate_at pages ≡ gate → sector < sectors_of pages
    → page_at (shown pages) sector ≡ page_at pages (place_of gate sector)
place_at pages Shut sector image e low = shown-at_shut pages sector low e
place_at pages (Ajar ajar) sector image e low = elim (eqb_tells ajar sector) [
  | inl same ↦
      let here : gate_at pages ≡ Ajar sector = e ∙ ap Ajar same.1 in
      rw (same.0) (shown-at_ajar pages sector image here)
  | inr apart ↦ rw (apart.0) (shown-at_other pages sector ajar low e (λ f. apart.1 (sym f)))
]

pub read_place : (told : Option (List Block)) (known : Known) (gate : Gate) (sector : ℕ) (block : Block)
    → IfSome told (IsKnown known) → known.gate ≡ Some gate → sector < known.sectors → HasPage told (place_of gate sector) block
    → HasPage (option_map shown told) sector block
read_place None known gate sector block is e low has = tt
read_place (Some pages) known gate sector block is e low has =
    let n : sectors_of pages ≡ known.sectors = is.sectors in
    has ∙ sym (place_at pages gate sector is.image (known_gate known pages gate is e) (omega arith))

-- a page that isn't one of the first two was written
known_other : (known : Known) (pages : List Block) (page : ℕ) (block : Block) → 2 ≤ page → IsKnown known pages
    → IsKnown known (slice_set pages page block)
known_other known pages page block h is =
    let same : gate_at (slice_set pages page block) ≡ gate_at pages = gate_at-other pages page block (λ e. omega arith) in
    let P : Gate → Type 0 = λ g. IfSome known.gate (λ gate. g ≡ gate) in
    record {
      image = IsImage-other pages page block h is.image;
      sectors = sectors_of-other pages page block (omega arith) ∙ is.sectors;
      gate = subst P (sym same) is.gate;
    }

told_other : (told new : Option (List Block)) (known : Known) (page : ℕ) (block : Block) (result : Result (Unit {0}) StoreEnd)
    → 2 ≤ page → IfSome told (IsKnown known) → IsWritten told page block new result → IfSome new (IsKnown known)
told_other None new known page block result h is w = let P : Option (List Block) → Type 0 = λ t. IfSome t (IsKnown known) in subst P (sym w.told) tt
told_other (Some pages) new known page block result h is w =
    let P : Option (List Block) → Type 0 = λ t. IfSome t (IsKnown known) in
    subst P (sym w.told) (known_other known pages page w.left h is)

pub stands_other : (old new : ArrayState) (known : Known) (page : ℕ) (block : Block) (result : Result (Unit {0}) StoreEnd)
    → 2 ≤ page → IntentStands known old → IsWritten old.told page block new.told result → StoreEnds old new result
    → IntentStands known new
stands_other old new known page block result h is w ends =
    let room : 8 + known.sectors ≤ old.count = is.room in
    let count : new.count ≡ old.count = ends.count in
    record { room = omega arith; told = told_other old.told new.told known page block result h is.told w }

-- the intent page was programmed
told_keep : (told new : Option (List Block)) (known : Known) (block : Block) (result : Result (Unit {0}) StoreEnd)
    → known.gate ≡ Some Shut → IfSome told (IsKnown known) → IsWritten told 2 block new result
    → option_map shown new ≡ option_map shown told
told_keep None new known block result e is w = ap (option_map shown) w.told
told_keep (Some pages) new known block result e is w =
    ap (option_map shown) w.told ∙ ap Some (shown-intent pages w.left (known_gate known pages Shut is e))

pub shown_keep : (old new : ArrayState) (known : Known) (block : Block) (result : Result (Unit {0}) StoreEnd)
    → known.gate ≡ Some Shut → IntentStands known old → IsWritten old.told 2 block new.told result
    → shown_by new ≡ shown_by old
shown_keep old new known block result e is w = told_keep old.told new.told known block result e is.told w

-- the sector for which the gate is ajar was programmed
told_in : (told new : Option (List Block)) (known : Known) (sector : ℕ) (block : Block) (result : Result (Unit {0}) StoreEnd)
    → known.gate ≡ Some (Ajar sector) → IfSome told (IsKnown known) → IsWritten told (8 + sector) block new result
    → option_map shown new ≡ option_map shown told
told_in None new known sector block result e is w = ap (option_map shown) w.told
told_in (Some pages) new known sector block result e is w =
    let ajar : gate_at pages ≡ Ajar sector = known_gate known pages (Ajar sector) is e in
    ap (option_map shown) w.told ∙ ap Some (shown-behind pages sector w.left (ajar_sector pages sector is.image ajar) ajar)

pub shown_in : (old new : ArrayState) (known : Known) (sector : ℕ) (block : Block) (result : Result (Unit {0}) StoreEnd)
    → known.gate ≡ Some (Ajar sector) → IntentStands known old → IsWritten old.told (8 + sector) block new.told result
    → shown_by new ≡ shown_by old
shown_in old new known sector block result e is w = told_in old.told new.told known sector block result e is.told w

-- a sector was programmed while the gate was shut
told_put : (told new : Option (List Block)) (known : Known) (sector : ℕ) (block : Block) (result : Result (Unit {0}) StoreEnd)
    → sector < known.sectors → known.gate ≡ Some Shut → IfSome told (IsKnown known) → IsWritten told (8 + sector) block new result
    → IsWritten (option_map shown told) sector block (option_map shown new) result
told_put None new known sector block result low e is w =
    record { left = w.left; mix = tt; told = ap (option_map shown) w.told; whole = w.whole }
told_put (Some pages) new known sector block result low e is w =
    let n : sectors_of pages ≡ known.sectors = is.sectors in
    let in_image : sector < sectors_of pages = omega arith in
    let shut : gate_at pages ≡ Shut = known_gate known pages Shut is e in
    let P : Block → Type 0 = λ b. IsMix b block w.left in
    record {
      left = w.left;
      mix = subst P (sym (shown-at_shut pages sector in_image shut)) w.mix;
      told = ap (option_map shown) w.told ∙ ap Some (shown-sector pages sector w.left in_image shut);
      whole = w.whole;
    }

pub shown_put : (old new : ArrayState) (known : Known) (sector : ℕ) (block : Block) (result : Result (Unit {0}) StoreEnd)
    → sector < known.sectors → known.gate ≡ Some Shut → IntentStands known old → IsWritten old.told (8 + sector) block new.told result
    → IsWritten (shown_by old) sector block (shown_by new) result
shown_put old new known sector block result low e is w = told_put old.told new.told known sector block result low e is.told w

pub written_torn : (old new : Option (List Block)) (page : ℕ) (block : Block) (result : Result (Unit {0}) StoreEnd)
    → IsWritten old page block new result → IsTorn old page block new
written_torn old new page block result w = record { left = w.left; mix = w.mix; told = w.told }

pub written_ok : (old new : Option (List Block)) (page : ℕ) (block : Block) (result : Result (Unit {0}) StoreEnd)
    → IsWritten old page block new result → OnOk result (new ≡ with_page old page block)
written_ok old new page block (Ok done) w = w.told ∙ ap (with_page old page) w.whole
written_ok old new page block (Err end) w = tt

-- nothing was written
same_mix : (old : Option (List Block)) (page : ℕ) (block : Block)
    → IsTorn old page block old
same_mix None page block = record { left = block; mix = tt; told = refl }
same_mix (Some pages) page block = record {
  left = page_at pages page;
  mix = IsMix-old (page_at pages page) block;
  told = ap Some (sym (set-get_or pages page (record { 0 = [] })));
}

pub same_torn : (old new : Option (List Block)) (page : ℕ) (block : Block) → new ≡ old → IsTorn old page block new
same_torn old new page block e = let P : Option (List Block) → Type 0 = λ t. IsTorn old page block t in subst P (sym e) (same_mix old page block)

-- the gate was programmed
IsGate-same : (block block' : Block) (sectors sectors' : ℕ) (gate gate' : Gate) → block' ≡ block → sectors' ≡ sectors → gate' ≡ gate
    → IsGate block sectors gate → IsGate block' sectors' gate'
IsGate-same block block' sectors sectors' gate gate' e n g is = rw (e, n, g) is

pub record IsTurned (pages : List Block) (gate : Gate) (left : Block) : Type 0 where
  pub image : IsImage (slice_set pages 1 left)
  pub either : (gate_at (slice_set pages 1 left) ≡ gate_at pages) ⊎ (gate_at (slice_set pages 1 left) ≡ gate)
  pub whole : left ≡ page_of (gate_head (gate_number gate)) → gate_at (slice_set pages 1 left) ≡ gate

left_gate : (pages : List Block) (gate : Gate) (left : Block) → IsImage pages → IsGate left (sectors_of pages) gate
    → gate_at (slice_set pages 1 left) ≡ gate
left_gate pages gate left image is =
    let room : 8 + sectors_of pages ≤ length pages = image.room in
    let there : page_at (slice_set pages 1 left) 1 ≡ left = page_at-same pages 1 left (omega arith) in
    gate_at-IsGate (slice_set pages 1 left) (sectors_of pages) gate image.superblock.most
    (IsGate-same left (page_at (slice_set pages 1 left) 1) (sectors_of pages) (sectors_of pages) gate gate there refl refl is)

new_gate : (gate : Gate) (sectors : ℕ) (left : Block) → gate_number gate ≤ sectors
    → granule left 0 ≡ granule (page_of (gate_head (gate_number gate))) 0 → IsGate left sectors gate
new_gate gate sectors left within e = record { head = e ∙ granule-gate_page (gate_number gate); within = within }

turned : (pages : List Block) (gate : Gate) (left : Block) → IsImage pages → gate_number gate ≤ sectors_of pages
    → IsMix (page_at pages 1) (page_of (gate_head (gate_number gate))) left → IsTurned pages gate left
turned pages gate left image within mix =
    let all : left ≡ page_of (gate_head (gate_number gate)) → gate_at (slice_set pages 1 left) ≡ gate =
    λ e. left_gate pages gate left image (new_gate gate (sectors_of pages) left within (ap (λ (b : Block). granule b 0) e)) in
    let first : 0 < 8 = omega arith in
    elim (mix.each 0 first) [
      | inl old ↦
          let is : IsGate left (sectors_of pages) (gate_at pages) = record { head = old ∙ image.gate.head; within = image.gate.within } in
          record {
            image = IsImage-gate pages left (gate_at pages) image is;
            either = inl (left_gate pages (gate_at pages) left image is);
            whole = all;
          }
      | inr new ↦
          let is : IsGate left (sectors_of pages) gate = new_gate gate (sectors_of pages) left within new in
          record {
            image = IsImage-gate pages left gate image is;
            either = inr (left_gate pages gate left image is);
            whole = all;
          }
    ]

known_turned : (pages : List Block) (known : Known) (gate : Gate) (left : Block) (result : Result (Unit {0}) StoreEnd)
    → IsKnown known pages → IsTurned pages gate left → OnOk result (left ≡ page_of (gate_head (gate_number gate)))
    → IsKnown (after_gate known.sectors gate result) (slice_set pages 1 left)
known_turned pages known gate left (Ok done) is t whole = record {
  image = t.image;
  sectors = sectors_of-other pages 1 left (omega arith) ∙ is.sectors;
  gate = t.whole whole;
}
known_turned pages known gate left (Err end) is t whole = record {
  image = t.image;
  sectors = sectors_of-other pages 1 left (omega arith) ∙ is.sectors;
  gate = tt;
}

known_turns : (pages : List Block) (known : Known) (gate : Gate) (left : Block) → IsKnown known pages → gate_number gate ≤ known.sectors
    → IsMix (page_at pages 1) (page_of (gate_head (gate_number gate))) left → IsTurned pages gate left
known_turns pages known gate left is within mix =
    let n : sectors_of pages ≡ known.sectors = is.sectors in turned pages gate left is.image (omega arith) mix

told_turned : (told new : Option (List Block)) (known : Known) (gate : Gate) (result : Result (Unit {0}) StoreEnd)
    → gate_number gate ≤ known.sectors → IfSome told (IsKnown known)
    → IsWritten told 1 (page_of (gate_head (gate_number gate))) new result → IfSome new (IsKnown (after_gate known.sectors gate result))
told_turned None new known gate result within is w =
    let P : Option (List Block) → Type 0 = λ t. IfSome t (IsKnown (after_gate known.sectors gate result)) in subst P (sym w.told) tt
told_turned (Some pages) new known gate result within is w =
    let P : Option (List Block) → Type 0 = λ t. IfSome t (IsKnown (after_gate known.sectors gate result)) in
    subst P (sym w.told) (known_turned pages known gate w.left result is (known_turns pages known gate w.left is within w.mix) w.whole)

sectors_after : (sectors : ℕ) (gate : Gate) (result : Result (Unit {0}) StoreEnd) → (after_gate sectors gate result).sectors ≡ sectors
sectors_after sectors gate (Ok done) = refl
sectors_after sectors gate (Err end) = refl

pub stands_turned : (old new : ArrayState) (known known' : Known) (gate : Gate) (result : Result (Unit {0}) StoreEnd)
    → gate_number gate ≤ known.sectors → IntentStands known old → known' ≡ after_gate known.sectors gate result
    → IsWritten old.told 1 (page_of (gate_head (gate_number gate))) new.told result → StoreEnds old new result
    → IntentStands known' new
stands_turned old new known known' gate result within is e w ends =
    let room : 8 + known.sectors ≤ old.count = is.room in
    let count : new.count ≡ old.count = ends.count in
    let n : known'.sectors ≡ known.sectors = ap (λ (k : Known). k.sectors) e ∙ sectors_after known.sectors gate result in
    let P : Known → Type 0 = λ k. IfSome new.told (IsKnown k) in
    record { room = omega arith; told = subst P (sym e) (told_turned old.told new.told known gate result within is.told w) }

-- the gate was programmed ajar
abbrev pub IsOpened : Option (List Block) → ℕ → Option (List Block) → Type 0
IsOpened told sector new = (option_map shown new ≡ option_map shown told) ⊎ (option_map shown new ≡ with_intent told sector)

some_opened : (pages : List Block) (known : Known) (sector : ℕ) (left : Block) → known.gate ≡ Some Shut → IsKnown known pages
    → IsTurned pages (Ajar sector) left → IsOpened (Some pages) sector (Some (slice_set pages 1 left))
some_opened pages known sector left e is t = elim t.either [
  | inl same ↦ inl (ap Some (shown-same pages left same))
  | inr ajar ↦ inr (ap Some (shown-opened pages left sector (known_gate known pages Shut is e) ajar))
]

told_opened : (told new : Option (List Block)) (known : Known) (sector : ℕ) (result : Result (Unit {0}) StoreEnd)
    → sector + 1 ≤ known.sectors → known.gate ≡ Some Shut → IfSome told (IsKnown known)
    → IsWritten told 1 (page_of (gate_head (sector + 1))) new result → IsOpened told sector new
told_opened None new known sector result low e is w = inl (ap (option_map shown) w.told)
told_opened (Some pages) new known sector result low e is w =
    let P : Option (List Block) → Type 0 = λ t. IsOpened (Some pages) sector t in
    subst P (sym w.told) (some_opened pages known sector w.left e is (known_turns pages known (Ajar sector) w.left is low w.mix))

told_open : (told new : Option (List Block)) (known : Known) (sector : ℕ) (result : Result (Unit {0}) StoreEnd)
    → sector + 1 ≤ known.sectors → known.gate ≡ Some Shut → IfSome told (IsKnown known)
    → IsWritten told 1 (page_of (gate_head (sector + 1))) new result → OnOk result (option_map shown new ≡ with_intent told sector)
told_open told new known sector (Err end) low e is w = tt
told_open None new known sector (Ok done) low e is w = ap (option_map shown) w.told
told_open (Some pages) new known sector (Ok done) low e is w =
    let t : IsTurned pages (Ajar sector) w.left = known_turns pages known (Ajar sector) w.left is low w.mix in
    ap (option_map shown) w.told
    ∙ ap Some (shown-opened pages w.left sector (known_gate known pages Shut is e) (t.whole w.whole))

pub shown_opened : (old new : ArrayState) (known : Known) (sector : ℕ) (result : Result (Unit {0}) StoreEnd)
    → sector + 1 ≤ known.sectors → known.gate ≡ Some Shut → IntentStands known old
    → IsWritten old.told 1 (page_of (gate_head (sector + 1))) new.told result → IsOpened old.told sector new.told
shown_opened old new known sector result low e is w = told_opened old.told new.told known sector result low e is.told w

pub shown_open : (old new : ArrayState) (known : Known) (sector : ℕ) (result : Result (Unit {0}) StoreEnd)
    → sector + 1 ≤ known.sectors → known.gate ≡ Some Shut → IntentStands known old
    → IsWritten old.told 1 (page_of (gate_head (sector + 1))) new.told result
    → OnOk result (shown_by new ≡ with_intent old.told sector)
shown_open old new known sector result low e is w = told_open old.told new.told known sector result low e is.told w

-- what the opened gate shows, where the intent page is this block
pub intent_shown : (told : Option (List Block)) (sector : ℕ) (block : Block) → HasPage told 2 block
    → with_intent told sector ≡ with_page (option_map shown told) sector block
intent_shown None sector block has = refl
intent_shown (Some pages) sector block has = ap (λ b. Some (slice_set (shown pages) sector b)) (sym has)

-- the gate was programmed shut
some_shut : (pages : List Block) (known : Known) (gate : Gate) (left : Block) → known.gate ≡ Some gate
    → IsMoved (Some gate) (Some pages) → IsKnown known pages → IsTurned pages Shut left
    → shown (slice_set pages 1 left) ≡ shown pages
some_shut pages known Shut left e moved is t = elim t.either [
  | inl same ↦ shown-same pages left same
  | inr shut ↦ shown-same pages left (shut ∙ sym (known_gate known pages Shut is e))
]
some_shut pages known (Ajar sector) left e moved is t =
    let ajar : gate_at pages ≡ Ajar sector = known_gate known pages (Ajar sector) is e in
    elim t.either [
      | inl same ↦ shown-same pages left same
      | inr shut ↦ shown-closed pages left sector (ajar_sector pages sector is.image ajar) ajar moved shut
    ]

told_shut : (told new : Option (List Block)) (known : Known) (gate : Gate) (result : Result (Unit {0}) StoreEnd)
    → known.gate ≡ Some gate → IsMoved (Some gate) told → IfSome told (IsKnown known)
    → IsWritten told 1 (page_of (gate_head 0)) new result → option_map shown new ≡ option_map shown told
told_shut None new known gate result e moved is w = ap (option_map shown) w.told
told_shut (Some pages) new known gate result e moved is w =
    let t : IsTurned pages Shut w.left = known_turns pages known Shut w.left is (omega arith) w.mix in
    ap (option_map shown) w.told ∙ ap Some (some_shut pages known gate w.left e moved is t)

moved_of : (known : Known) (gate : Gate) (told : Option (List Block)) → known.gate ≡ Some gate → IsMoved known.gate told → IsMoved (Some gate) told
moved_of known gate told e moved = let P : Option Gate → Type 0 = λ o. IsMoved o told in subst P e moved

shut_of : (old new : ArrayState) (known : Known) (gate : Option Gate) (result : Result (Unit {0}) StoreEnd)
    → known.gate ≡ gate → IsSome gate → IsMoved known.gate old.told → IntentStands known old
    → IsWritten old.told 1 (page_of (gate_head 0)) new.told result → shown_by new ≡ shown_by old
shut_of old new known None result e some moved is w = cc
shut_of old new known (Some gate) result e some moved is w =
    told_shut old.told new.told known gate result e (moved_of known gate old.told e moved) is.told w

pub shown_shut : (old new : ArrayState) (known : Known) (result : Result (Unit {0}) StoreEnd)
    → IsSome known.gate → IsMoved known.gate old.told → IntentStands known old
    → IsWritten old.told 1 (page_of (gate_head 0)) new.told result → shown_by new ≡ shown_by old
shown_shut old new known result some moved is w = shut_of old new known known.gate result refl some moved is w
