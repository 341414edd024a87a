-- What the first two pages of an array tell of an image.
use Rattle.std.proofs.Common.{◌≡◌, ℕ, ◌+◌, ◌≤◌, List, length, refl, sym, subst, ◌∙◌, arith}
use Rattle.std.specs.Prelude.{Option, Some, None, IfSome, IfOk, IsNone, IsErrOf, Result, Ok, Err, MatchOption}
use Rattle.std.specs.Option.{ok_or}
use Rattle.storage_model.specs.declared.block.Block.{Block}
use Rattle.array_edge.specs.Array.{ArrayState, HasPage}
use Rattle.image_form.specs.declared.superblock.Super.{Super}
use Rattle.image_form.specs.declared.gate.Gate.{Gate}
use Rattle.image_form.specs.Form.{IsSuper, IsGate}
use Rattle.image_form.specs.Image.{page_at, sectors_of, gate_at, IsImage}
use Rattle.image_form.proofs.Images.{sectors_of-IsSuper, gate_at-IsGate, IsImage-forms}
use Rattle.intent_store.specs.declared.ends.StartEnd.{StartEnd}
use Rattle.intent_store.specs.declared.ends.StartEnd.TheVariants.{BadImage}
use Rattle.intent_store.specs.Intent.{Known, IsKnown, IntentStands, IsNoImage}
use Rattle.intent_store.specs.Steps.{IsOpening}

is_super : (block block' : Block) (s : Super) → block ≡ block' → IsSuper block s → IsSuper block' s
is_super block block' s e is = let P : Block → Type 0 = λ b. IsSuper b s in subst P e is

is_gate : (block block' : Block) (sectors : ℕ) (gate : Gate) → block ≡ block' → IsGate block sectors gate → IsGate block' sectors gate
is_gate block block' sectors gate e is = let P : Block → Type 0 = λ b. IsGate b sectors gate in subst P e is

opened : (pages : List Block) (sectors : ℕ) (gate : Gate) → IsSuper (page_at pages 0) (record { version = 1; sectors = sectors })
    → IsGate (page_at pages 1) sectors gate → 8 + sectors ≤ length pages
    → IsKnown (record { sectors = sectors; gate = Some gate }) pages
opened pages sectors gate is closed room = record {
  image = IsImage-forms pages (record { version = 1; sectors = sectors }) gate is closed room;
  sectors = sectors_of-IsSuper pages (record { version = 1; sectors = sectors }) is;
  gate = gate_at-IsGate pages sectors gate is.most closed;
}

told_opened : (told : Option (List Block)) (count : ℕ) (first second : Block) (sectors : ℕ) (gate : Option Gate)
    → IfSome told (λ pages. length pages ≡ count) → HasPage told 0 first → HasPage told 1 second
    → IsSuper first (record { version = 1; sectors = sectors }) → MatchOption gate ⊥ (IsGate second sectors) → 8 + sectors ≤ count
    → IfSome told (IsKnown (record { sectors = sectors; gate = gate }))
told_opened told count first second sectors None all has has' is closed room = absurd closed
told_opened None count first second sectors (Some gate) all has has' is closed room = tt
told_opened (Some pages) count first second sectors (Some gate) all has has' is closed room =
    opened pages sectors gate (is_super first (page_at pages 0) _ has is) (is_gate second (page_at pages 1) sectors gate has' closed) (omega arith)

-- an opening that is one stands on the array
pub opening_stands : (array : ArrayState) (first second : Block) (known : Known)
    → IfSome array.told (λ pages. length pages ≡ array.count) → HasPage array.told 0 first → HasPage array.told 1 second
    → IsOpening first second array.count known → IntentStands known array
opening_stands array first second known all has has' is = record {
  room = is.room;
  told = told_opened array.told array.count first second known.sectors known.gate all has has' is.superblock is.gate is.room;
}

-- and where there is none, the pages are no image
no_opening : (told : Option (List Block)) (count : ℕ) (first second : Block)
    → IfSome told (λ pages. length pages ≡ count) → HasPage told 0 first → HasPage told 1 second
    → ((known : Known) → IsOpening first second count known → ⊥) → IfSome told (λ pages. IsImage pages → ⊥)
no_opening None count first second all has has' none = tt
no_opening (Some pages) count first second all has has' none = λ image.
    let room : 8 + sectors_of pages ≤ length pages = image.room in
    none (record { sectors = sectors_of pages; gate = Some (gate_at pages) }) (record {
      superblock = is_super (page_at pages 0) first _ (sym has) image.superblock;
      gate = is_gate (page_at pages 1) second _ _ (sym has') image.gate;
      room = omega arith;
    })

pub found_stands : (array : ArrayState) (first second : Block) (found : Option Known) (result : Result Known StartEnd)
    → IfSome array.told (λ pages. length pages ≡ array.count) → HasPage array.told 0 first → HasPage array.told 1 second
    → IfSome found (IsOpening first second array.count) → result ≡ ok_or found BadImage
    → IfOk result (λ intent. IntentStands intent array)
found_stands array first second None result all has has' is e =
    let P : Result Known StartEnd → Type 0 = λ r. IfOk r (λ intent. IntentStands intent array) in subst P (sym e) tt
found_stands array first second (Some known) result all has has' is e =
    let P : Result Known StartEnd → Type 0 = λ r. IfOk r (λ intent. IntentStands intent array) in
    subst P (sym e) (opening_stands array first second known all has has' is)

pub found_bad : (array : ArrayState) (first second : Block) (found : Option Known) (result : Result Known StartEnd)
    → IfSome array.told (λ pages. length pages ≡ array.count) → HasPage array.told 0 first → HasPage array.told 1 second
    → ((known : Known) → IsOpening first second array.count known → IsNone found → ⊥) → result ≡ ok_or found BadImage
    → IsErrOf result BadImage → IsNoImage array
found_bad array first second None result all has has' none e bad =
    no_opening array.told array.count first second all has has' (λ known is. none known is refl)
found_bad array first second (Some known) result all has has' none e bad =
    let other : Ok known ≡ Err BadImage = sym e ∙ bad in cc
