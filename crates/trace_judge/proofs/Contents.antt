-- What the sectors of an image show.
use Rattle.std.proofs.Common.{◌≡◌, ◌∙◌, ℕ, ◌+◌, ◌-◌, ◌≤◌, List, length, take, drop, sym, ap, subst, arith}
use Rattle.std.specs.Prelude.{slice_set}
use Rattle.storage_model.specs.declared.block.Block.{Block}
use Rattle.image_form.specs.declared.superblock.Super.{Super}
use Rattle.image_form.specs.declared.gate.Gate.{Gate}
use Rattle.image_form.specs.declared.gate.Gate.TheVariants.{Shut, Ajar}
use Rattle.image_form.specs.Image.{IsImage, gate_at, page_at, sectors_of, shown, stored}
use Rattle.image_form.proofs.Images.{IsImage-forms, gate_at-IsGate, length-shown, sectors_of-IsSuper, shown-ajar, shown-shut}
use Rattle.trace_judge.specs.Shows.{AreForms, Shows}

stored_is : (pages : List Block) (s : Super) (g : Gate) → AreForms pages s g → take s.sectors (drop 8 pages) ≡ stored pages
unfolding stored
stored_is pages s g are = ap (λ n. take n (drop 8 pages)) (sym (sectors_of-IsSuper pages s are.superblock))

shows : (pages sectors : List Block) (s : Super) (g : Gate) → AreForms pages s g → sectors ≡ shown pages → Shows pages sectors
shows pages sectors s g are is =
    let image : IsImage pages = IsImage-forms pages s g are.superblock are.gate are.room in
    let many : sectors_of pages ≡ s.sectors = sectors_of-IsSuper pages s are.superblock in
    let most : s.sectors ≤ 65536 = are.superblock.most in
    let long : length sectors ≡ sectors_of pages = ap length is ∙ length-shown pages image in
    record { image = image; same = is; most = omega arith }

sectors_between : (pages : List Block) (n : ℕ) → take (8 + n - 8) (drop 8 pages) ≡ take n (drop 8 pages)
sectors_between pages n = ap (λ k. take k (drop 8 pages)) (omega arith)

forms_are : (pages : List Block) (s : Super) (g h : Gate) → AreForms pages s g → g ≡ h → AreForms pages s h
forms_are pages s g h are e = let P : Gate → Type 0 = λ x. AreForms pages s x in subst P e are

-- the gate is shut
pub shows_shut : (pages sectors : List Block) (s : Super) (g : Gate) → AreForms pages s g → g ≡ Shut
    → sectors ≡ take (8 + s.sectors - 8) (drop 8 pages) → Shows pages sectors
shows_shut pages sectors s g are shut is =
    let closed : AreForms pages s Shut = forms_are pages s g Shut are shut in
    let gate : gate_at pages ≡ Shut = gate_at-IsGate pages s.sectors Shut closed.superblock.most closed.gate in
    shows pages sectors s Shut closed
    (is ∙ (sectors_between pages s.sectors ∙ (stored_is pages s Shut closed ∙ sym (shown-shut pages gate))))

-- it is ajar
pub shows_ajar : (pages sectors : List Block) (s : Super) (g : Gate) (sector : ℕ) → AreForms pages s g → g ≡ Ajar sector
    → (stored : List Block) → stored ≡ take (8 + s.sectors - 8) (drop 8 pages) → sectors ≡ slice_set stored sector (page_at pages 2)
    → Shows pages sectors
shows_ajar pages sectors s g sector are is_ajar stored from is =
    let ajar : AreForms pages s (Ajar sector) = forms_are pages s g (Ajar sector) are is_ajar in
    let gate : gate_at pages ≡ Ajar sector = gate_at-IsGate pages s.sectors (Ajar sector) ajar.superblock.most ajar.gate in
    shows pages sectors s (Ajar sector) ajar
    (is
    ∙ (ap (λ all. slice_set all sector (page_at pages 2)) (from ∙ (sectors_between pages s.sectors ∙ stored_is pages s (Ajar sector) ajar))
    ∙ sym (shown-ajar pages sector gate)))
