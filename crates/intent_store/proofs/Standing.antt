-- What layers above an intent store use of its standing on an array.
use Rattle.std.proofs.Common.{◌≡◌, ◌⊎◌, Bool, true, false, ◌+◌, ◌≤◌, List, [], ◌∷◌, length, refl, sym, subst, ◌∙◌, arith, inl, inr}
use Rattle.std.specs.Prelude.{Option, Some, None, IfSome, Ok, Err, option_map}
use Rattle.storage_model.specs.declared.block.Block.{Block}
use Rattle.array_edge.specs.Array.{ArrayState}
use Rattle.image_form.specs.Image.{PageCall, shown}
use Rattle.image_form.proofs.Images.{length-shown}
use Rattle.intent_store.specs.declared.ends.StoreEnd.{StoreEnd}
use Rattle.intent_store.specs.Intent.{Known, IsKnown, IntentStands, shown_by}
use Rattle.intent_store.specs.Calls.{IsCall, Makes, none, last, more}

-- it rests on the pages and their number alone, so a call that changes neither, as `power_on`, keeps it
pub stands_same : (known : Known) (old new : ArrayState) → new.told ≡ old.told → new.count ≡ old.count → IntentStands known old
    → IntentStands known new
stands_same known old new e n is =
    let P : Option (List Block) → Type 0 = λ t. IfSome t (IsKnown known) in
    let room : 8 + known.sectors ≤ old.count = is.room in
    record { room = omega arith; told = subst P (sym e) is.told }

shown_count : (told : Option (List Block)) (known : Known) → IfSome told (IsKnown known)
    → IfSome (option_map shown told) (λ sectors. length sectors ≡ known.sectors)
shown_count None known is = tt
shown_count (Some pages) known is = length-shown pages is.image ∙ is.sectors

-- as many sectors are shown as are known
pub length-shown_by : (known : Known) (array : ArrayState) → IntentStands known array
    → IfSome (shown_by array) (λ sectors. length sectors ≡ known.sectors)
length-shown_by known array is = shown_count array.told known is.told

-- calls begin with the first, which ends them or is followed by the others
pub record EndsWith (call : PageCall) (old new : ArrayState) (ok : Bool) : Type 0 where
  pub end : StoreEnd
  pub is : IsCall call old new (Err end)
  pub not_ok : ok ≡ false

pub record GoesOn (call : PageCall) (calls : List PageCall) (old new : ArrayState) (ok : Bool) : Type 0 where
  pub middle : ArrayState
  pub is : IsCall call old middle (Ok tt)
  pub rest : Makes calls middle new ok

pub Makes-cons : (call : PageCall) (calls : List PageCall) (old new : ArrayState) (ok : Bool) → Makes (call ∷ calls) old new ok
    → EndsWith call old new ok ⊎ GoesOn call calls old new ok
Makes-cons _ _ _ _ _ (last call calls old new end is) = inl (record { end = end; is = is; not_ok = refl })
Makes-cons _ _ _ _ _ (more call calls old middle new ok is rest) = inr (record { middle = middle; is = is; rest = rest })

pub record IsDone (old new : ArrayState) (ok : Bool) : Type 0 where
  pub same : new ≡ old
  pub is_ok : ok ≡ true

pub Makes-nil : (old new : ArrayState) (ok : Bool) → Makes [] old new ok → IsDone old new ok
Makes-nil _ _ _ (none array) = record { same = refl; is_ok = refl }
