-- Calls that look at the gate first, and calls that follow others.
use Rattle.std.proofs.Common.{◌≡◌, Bool, true, false, List, [], ◌∷◌, ◌++◌, refl, sym, subst, ◌∙◌}
use Rattle.std.proofs.lemmas.List.{append_assoc}
use Rattle.std.specs.Prelude.{Option, Some, None, IfSome, IsSome, Result, is_ok}
use Rattle.storage_model.specs.declared.block.Block.{Block}
use Rattle.array_edge.specs.Array.{ArrayState}
use Rattle.image_form.specs.declared.gate.Gate.{Gate}
use Rattle.image_form.specs.declared.gate.Gate.TheVariants.{Shut}
use Rattle.image_form.specs.Image.{PageCall, Fetch, gate_at}
use Rattle.intent_store.specs.declared.ends.StoreEnd.{StoreEnd}
use Rattle.intent_store.specs.Intent.{Known, IsKnown, IntentStands}
use Rattle.intent_store.specs.Calls.{IsCall, Makes, MakesFor, none, last, more, looking}
use Rattle.intent_store.proofs.CallLemmas.{one_call}

-- all of the calls were made, and then the others
pub makes_then : (calls others : List PageCall) (old middle new : ArrayState) (done ok : Bool) → done ≡ true → Makes calls old middle done → Makes others middle new ok
    → Makes (calls ++ others) old new ok
makes_then _ others _ _ new _ ok is (none array) rest = rest
makes_then _ others _ _ new _ ok is (last call calls old middle end made) rest = cc
makes_then _ others _ _ new _ ok is (more call calls old first middle done made next) rest =
    more call (calls ++ others) old first new ok made (makes_then calls others first middle new done ok is next rest)

-- not all of them were made
pub makes_less : (calls others : List PageCall) (old new : ArrayState) (done ok : Bool) → done ≡ false → ok ≡ false → Makes calls old new done → Makes (calls ++ others) old new ok
makes_less _ others _ _ _ ok is not (none array) = cc
makes_less _ others _ _ _ ok is not (last call calls old new end made) =
    let P : Bool → Type 0 = λ b. Makes (call ∷ (calls ++ others)) old new b in subst P (sym not) (last call (calls ++ others) old new end made)
makes_less _ others _ _ _ ok is not (more call calls old first new done made next) =
    more call (calls ++ others) old first new ok made (makes_less calls others first new done ok is not next)

abbrev gate_told : Option (List Block) → Gate
gate_told None = Shut
gate_told (Some pages) = gate_at pages

told_gate : (told : Option (List Block)) → IfSome told (λ pages. gate_at pages ≡ gate_told told)
told_gate None = tt
told_gate (Some pages) = refl

-- the gate was found, and the calls that hang on it were made
pub look_done : (known : Option Gate) (calls : Gate → List PageCall) (gate : Gate) (old middle new : ArrayState) (done ok : Bool) → IfSome known (λ known. gate ≡ known) → IfSome old.told (λ pages. gate_at pages ≡ gate)
    → done ≡ true → Makes (looking known) old middle done → Makes (calls gate) middle new ok → MakesFor known calls old new ok
look_done known calls gate old middle new done ok is told well looked made = record {
  gate = gate;
  known = is;
  told = told;
  made = makes_then (looking known) (calls gate) old middle new done ok well looked made;
}

-- it was not found
pub look_failed : (known : Option Gate) (calls : Gate → List PageCall) (old new : ArrayState) (done ok : Bool) → (IsSome known → done ≡ true) → done ≡ false → ok ≡ false → Makes (looking known) old new done → MakesFor known calls old new ok
look_failed None calls old new done ok sure failed not looked = record {
  gate = gate_told old.told;
  known = tt;
  told = told_gate old.told;
  made = makes_less (looking None) (calls (gate_told old.told)) old new done ok failed not looked;
}
look_failed (Some gate) calls old new done ok sure failed not looked = absurd (let well : done ≡ true = sure refl in let no : true ≡ false = sym well ∙ failed in cc)

-- what is known is what the pages tell
told_known : (known : Known) (gate : Gate) (told : Option (List Block)) → IfSome told (IsKnown known) → known.gate ≡ Some gate → IfSome told (λ pages. gate_at pages ≡ gate)
told_known known gate None is e = tt
told_known known gate (Some pages) is e = let P : Option Gate → Type 0 = λ o. IfSome o (λ g. gate_at pages ≡ g) in subst P e is.gate

-- further calls after those
pub for_then : (known : Option Gate) (calls : Gate → List PageCall) (others : List PageCall) (old middle new : ArrayState) (done ok : Bool) → done ≡ true → MakesFor known calls old middle done → Makes others middle new ok
    → MakesFor known (λ gate. calls gate ++ others) old new ok
for_then known calls others old middle new done ok well first next = record {
  gate = first.gate;
  known = first.known;
  told = first.told;
  made = (let P : List PageCall → Type 0 = λ l. Makes l old new ok in subst P (append_assoc (looking known) (calls first.gate) others) (makes_then (looking known ++ calls first.gate) others old middle new done ok well first.made next));
}

pub for_less : (known : Option Gate) (calls : Gate → List PageCall) (others : List PageCall) (old new : ArrayState) (done ok : Bool) → done ≡ false → ok ≡ false → MakesFor known calls old new done
    → MakesFor known (λ gate. calls gate ++ others) old new ok
for_less known calls others old new done ok failed not first = record {
  gate = first.gate;
  known = first.known;
  told = first.told;
  made = (let P : List PageCall → Type 0 = λ l. Makes l old new ok in subst P (append_assoc (looking known) (calls first.gate) others) (makes_less (looking known ++ calls first.gate) others old new done ok failed not first.made));
}

-- the gate is known, and nothing is fetched
pub looked_known : (known : Option Gate) (gate : Gate) (old new : ArrayState) → known ≡ Some gate → new ≡ old → Makes (looking known) old new true
looked_known known gate old new is same =
    let P : Option Gate → Type 0 = λ o. Makes (looking o) old new true in
    let Q : ArrayState → Type 0 = λ a. Makes [] old a true in
    subst P (sym is) (subst Q (sym same) (none old))

-- it is in doubt, and fetched
pub looked_call : (known : Option Gate) (old new : ArrayState) (result : Result (Unit {0}) StoreEnd) (ok : Bool) → known ≡ None → is_ok result ≡ ok → IsCall (Fetch 1) old new result → Makes (looking known) old new ok
looked_call known old new result ok is well made =
    let P : Option Gate → Type 0 = λ o. Makes (looking o) old new ok in
    let Q : Bool → Type 0 = λ b. Makes (Fetch 1 ∷ []) old new b in
    subst P (sym is) (subst Q well (one_call (Fetch 1) old new result made))

-- a gate that was known is the one that is found
pub known_is : (known : Option Gate) (gate : Gate) → (IsSome known → known ≡ Some gate) → IfSome known (λ known. gate ≡ known)
known_is None gate same = tt
known_is (Some known) gate same = let e : Some known ≡ Some gate = same refl in cc

-- and the pages, which stay, tell it
pub told_found : (known : Known) (gate : Gate) (old new : ArrayState) → new.told ≡ old.told → IntentStands known new → known.gate ≡ Some gate → IfSome old.told (λ pages. gate_at pages ≡ gate)
told_found known gate old new same stands e =
    let P : Option (List Block) → Type 0 = λ t. IfSome t (λ pages. gate_at pages ≡ gate) in
    subst P same (told_known known gate new.told stands.told e)
