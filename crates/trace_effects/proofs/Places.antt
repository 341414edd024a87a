-- The different places of puts, one mark after the other.
use Rattle.std.proofs.Common.{◌≡◌, ℕ, ◌+◌, ◌≤◌, ◌==◌, ◌&&◌, Bool, true, false, cond, List, [], ◌∷◌, ◌++◌, length, length-append, fold, drop, nat_lt, arith}
use Rattle.std.specs.List.{list_any}
use Rattle.std.proofs.lemmas.Bool.{le-ltb}
use Rattle.std.proofs.lemmas.List.{drop_all}
use Rattle.trace_effects.specs.Cuts.{add_place, places_of}
use Rattle.storage_model.specs.Contents.{EpochPut, numbered}
use Rattle.storage_model.specs.declared.marks.Mark.{Mark}
use Rattle.storage_model.specs.declared.marks.Mark.TheVariants.{Bar, Put as PutMark}
use Rattle.storage_model.specs.declared.marks.Put.{Put}

longer : (b : Bool) (places : List (ℕ × ℕ)) (place : ℕ × ℕ) → length places ≤ length (cond b places (places ++ place ∷ []))
longer true places place = omega arith
longer false places place = omega (arith, length-append places (place ∷ []))

pub no_shorter : (places : List (ℕ × ℕ)) (puts : List EpochPut) → length places ≤ length (fold add_place places puts)
no_shorter places [] = omega arith
no_shorter places (q ∷ puts) =
    let one = longer (list_any (λ place. (place.0 == q.epoch) && (place.1 == q.put.sector)) places) places (q.epoch, q.put.sector) in
    omega (arith, one, no_shorter (add_place places q) puts)

pub no_room : (places : List (ℕ × ℕ)) (puts : List EpochPut) (pend : List Mark) (lines : ℕ) → lines ≤ length places → fold add_place places puts ≡ places_of pend
    → nat_lt (length (places_of pend)) lines ≡ false
no_room places puts pend lines many is = le-ltb (length (places_of pend)) lines (rw (← is) (omega (arith, no_shorter places puts)))

pub place_bar : (places : List (ℕ × ℕ)) (epoch : ℕ) (marks more : List Mark) → marks ≡ Bar ∷ more
    → fold add_place places (numbered (epoch + 1) more) ≡ fold add_place places (numbered epoch marks)
place_bar places epoch marks more is = rw is

pub place_put : (places places' : List (ℕ × ℕ)) (epoch : ℕ) (put : Put) (marks more : List Mark) → marks ≡ PutMark put ∷ more → places' ≡ add_place places (record { epoch = epoch; put = put })
    → fold add_place places' (numbered epoch more) ≡ fold add_place places (numbered epoch marks)
place_put places places' epoch put marks more is more_places = rw (is, more_places)

pub places_end : (places : List (ℕ × ℕ)) (epoch i : ℕ) (pend : List Mark) → length pend ≤ i → fold add_place places (numbered epoch (drop i pend)) ≡ places
places_end places epoch i pend past = rw (drop_all i pend past)
