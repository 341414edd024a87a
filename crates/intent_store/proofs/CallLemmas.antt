-- Calls one after the other.
use Rattle.std.proofs.Common.{◌≡◌, Bool, true, false, List, [], ◌∷◌, refl, sym, subst, ◌∙◌}
use Rattle.std.specs.Prelude.{Option, Some, Result, Ok, Err, is_ok, IsErr}
use Rattle.image_form.specs.declared.gate.Gate.{Gate}
use Rattle.image_form.specs.declared.gate.Gate.TheVariants.{Shut}
use Rattle.array_edge.specs.Array.{ArrayState}
use Rattle.image_form.specs.Image.{PageCall, finishing}
use Rattle.intent_store.specs.declared.ends.StoreEnd.{StoreEnd}
use Rattle.intent_store.specs.Calls.{IsCall, Makes, none, last, more}

pub one_call : (call : PageCall) (old new : ArrayState) (result : Result (Unit {0}) StoreEnd) → IsCall call old new result
    → Makes (call ∷ []) old new (is_ok result)
one_call call old new (Ok done) is = more call [] old new new true is (none new)
one_call call old new (Err end) is = last call [] old new end is

pub ended_call : (call : PageCall) (calls : List PageCall) (old new : ArrayState) (result : Result (Unit {0}) StoreEnd) (ok : Bool)
    → is_ok result ≡ false → ok ≡ false → IsCall call old new result → Makes (call ∷ calls) old new ok
ended_call call calls old new (Ok done) ok e f is = cc
ended_call call calls old new (Err end) ok e f is =
    let P : Bool → Type 0 = λ b. Makes (call ∷ calls) old new b in subst P (sym f) (last call calls old new end is)

pub next_call : (call : PageCall) (calls : List PageCall) (old middle new : ArrayState) (result : Result (Unit {0}) StoreEnd) (ok : Bool)
    → is_ok result ≡ true → IsCall call old middle result → Makes calls middle new ok → Makes (call ∷ calls) old new ok
next_call call calls old middle new (Ok done) ok e is rest = more call calls old middle new ok is rest
next_call call calls old middle new (Err end) ok e is rest = cc

pub not_ok : {T : Type 0} (result : Result T StoreEnd) → IsErr result → is_ok result ≡ false
not_ok (Ok value) h = cc
not_ok (Err end) h = refl

pub no_calls : (gate : Option Gate) (found given : Gate) (old new : ArrayState) → gate ≡ Some given → gate ≡ Some found → found ≡ Shut
    → new ≡ old → Makes (finishing given) old new true
no_calls gate found given old new e f shut same =
    let g : Shut ≡ given = let h : Some found ≡ Some given = sym f ∙ e in cc in
    let P : Gate → Type 0 = λ x. Makes (finishing x) old new true in
    let Q : ArrayState → Type 0 = λ a. Makes [] a new true in
    subst P g (subst Q same (none new))
