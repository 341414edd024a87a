-- Lines in order, each in a slot of its own: a line is read, replaced, added at the end and taken out.
use Rattle.std.proofs.Common.{◌≡◌, ◌≢◌, ℕ, ◌+◌, ◌-◌, ◌<◌, ◌≤◌, suc, zero, subst, List, [], ◌∷◌, ◌++◌, get_or, remove, take, map, length, refl, sym, ap, ◌∙◌, arith, get_or-set_same, get_or-set_other, length-append}
use Rattle.std.proofs.Math.ListN.{set, length-set, length-map, length-take}
use Rattle.std.proofs.lemmas.List.{take-append-le, map-append, take-map, drop-map, get_or-take, get_or-map, get_or_default, take_more_set}
use Rattle.std.proofs.Math.Seq.{take-set-lt}
use Rattle.std.proofs.lemmas.List.FromFn.{length-range_with_len}
use Rattle.std.specs.List.{AllByRecursion, range_with_len}
use Rattle.epoch_cache.specs.Table.{Table, in_slot, lines_of, AreApart, IsTable, table_of}
use Rattle.epoch_cache.specs.declared.line.Line.{Line}

-- what is so of each element

pub all_at : {X : Type 0} (P : X → Type 0) (xs : List X) (k : ℕ) (d : X) → AllByRecursion P xs → k < length xs → P (get_or xs k d)
all_at P [] k d all below = absurd (omega arith)
all_at P (x ∷ xs) zero d all below = all.0
all_at P (x ∷ xs) (suc k) d all below = all_at P xs k d all.1 (omega arith)

pub all_more : {X : Type 0} (P : X → Type 0) (xs : List X) (y : X) → AllByRecursion P xs → P y → AllByRecursion P (xs ++ y ∷ [])
all_more P [] y all one = (one, tt)
all_more P (x ∷ xs) y all one = (all.0, all_more P xs y all.1 one)

pub all_moved : {X : Type 0} (P : X → Type 0) (xs : List X) (k : ℕ) (d : X) → AllByRecursion P xs → k < length xs → AllByRecursion P (remove xs k ++ get_or xs k d ∷ [])
all_moved P [] k d all below = absurd (omega arith)
all_moved P (x ∷ xs) zero d all below = all_more P xs x all.1 all.0
all_moved P (x ∷ xs) (suc k) d all below = (all.0, all_moved P xs k d all.1 (omega arith))

-- slots that are apart

apart_more : (order : List ℕ) (slot : ℕ) → AreApart order → AllByRecursion (λ other. slot ≢ other) order → AreApart (order ++ slot ∷ [])
apart_more [] slot apart new = (tt, tt)
apart_more (first ∷ order) slot apart new = (all_more (λ other. first ≢ other) order slot apart.0 (λ same. new.0 (sym same)), apart_more order slot apart.1 new.1)

pub apart_moved : (order : List ℕ) (k : ℕ) → AreApart order → k < length order → AreApart (remove order k ++ get_or order k 0 ∷ [])
apart_moved [] k apart below = absurd (omega arith)
apart_moved (slot ∷ order) zero apart below = apart_more order slot apart.1 apart.0
apart_moved (slot ∷ order) (suc k) apart below = (all_moved (λ other. slot ≢ other) order k 0 apart.0 (omega arith), apart_moved order k apart.1 (omega arith))

pub length_moved : {X : Type 0} (xs : List X) (k : ℕ) (x : X) → k < length xs → length (remove xs k ++ x ∷ []) ≡ length xs
length_moved [] k x below = absurd (omega arith)
length_moved (y ∷ xs) zero x below = omega (arith, length-append xs (x ∷ []))
length_moved (y ∷ xs) (suc k) x below = ap (λ n. suc n) (length_moved xs k x (omega arith))

-- the first numbers

range_above : (low a n : ℕ) → low < a → AllByRecursion (λ other. low ≢ other) (range_with_len a n)
range_above low a zero below = tt
range_above low a (suc n) below = (omega arith, range_above low (a + 1) n (omega arith))

pub range_apart : (a n : ℕ) → AreApart (range_with_len a n)
range_apart a zero = tt
range_apart a (suc n) = (range_above a (a + 1) n (omega arith), range_apart (a + 1) n)

pub range_below : (a n most : ℕ) → a + n ≤ most → AllByRecursion (λ slot. slot < most) (range_with_len a n)
range_below a zero most within = tt
range_below a (suc n) most within = (omega arith, range_below (a + 1) n most (omega arith))

-- a line goes into a slot

elsewhere : (slots : List Line) (slot : ℕ) (line : Line) (order : List ℕ) → AllByRecursion (λ other. slot ≢ other) order → map (in_slot (set slots slot line)) order ≡ map (in_slot slots) order
elsewhere slots slot line [] apart = refl
elsewhere slots slot line (other ∷ order) apart = let ne : other ≢ slot = λ same. apart.0 (sym same) in rw (get_or-set_other, elsewhere slots slot line order apart.1) refl

in_slots : (slots : List Line) (order : List ℕ) (k : ℕ) (line : Line) → AreApart order → AllByRecursion (λ slot. slot < length slots) order → k < length order
    → map (in_slot (set slots (get_or order k 0) line)) order ≡ set (map (in_slot slots) order) k line
in_slots slots [] k line apart within below = absurd (omega arith)
in_slots slots (slot ∷ order) zero line apart within below = let inside : slot < length slots = within.0 in rw (get_or-set_same, elsewhere slots slot line order apart.0) refl
in_slots slots (slot ∷ order) (suc k) line apart within below =
    let ne : slot ≢ get_or order k 0 = all_at (λ other. slot ≢ other) order k 0 apart.0 (omega arith) in
    rw (get_or-set_other, in_slots slots order k line apart.1 within.1 (omega arith)) refl

-- the lines held

pub length_lines : (slots : List Line) (order : List ℕ) (held : ℕ) → held ≤ length order → length (lines_of slots order held) ≡ held
unfolding lines_of
length_lines slots order held enough = simp (length-take, length-map) (omega arith)

-- what the fields are, where they are seen as a table
pub held_is : (slots : List Line) (order : List ℕ) (held : ℕ) (table : Table) → IsTable slots order held → table_of slots order held ≡ table → held ≡ length table.lines
held_is slots order held table is same = sym (length_lines slots order held is.enough) ∙ ap (λ (t : Table). length t.lines) same

pub slot_within : (slots : List Line) (order : List ℕ) (held k d : ℕ) → IsTable slots order held → k < length order → get_or order k d < length slots
slot_within slots order held k d is below = all_at (λ slot. slot < length slots) order k d is.within below

pub line_read : (slots : List Line) (order : List ℕ) (held k slot : ℕ) (line : Line) (table : Table) → IsTable slots order held → table_of slots order held ≡ table
    → k < held → slot ≡ get_or order k slot → line ≡ get_or slots slot line → line ≡ get_or table.lines k line
unfolding lines_of
line_read slots order held k slot line table is same below at found =
    let enough : held ≤ length order = is.enough in
    let inside : get_or order k slot < length slots = slot_within slots order held k slot is (omega arith) in
    let here : slot < length slots = omega arith in
    let read : get_or (take held (map (in_slot slots) order)) k line ≡ in_slot slots (get_or order k slot)
    = get_or-take held (map (in_slot slots) order) k line below ∙ get_or-map (in_slot slots) order k slot line (omega arith) in
    let plain : line ≡ in_slot slots slot = found ∙ get_or_default slots slot line _ here in
    plain ∙ ap (in_slot slots) at ∙ sym read ∙ ap (λ (t : Table). get_or t.lines k line) same

pub lines_set : (slots : List Line) (order : List ℕ) (held k slot : ℕ) (line : Line) → IsTable slots order held → k < held → slot ≡ get_or order k slot
    → lines_of (set slots slot line) order held ≡ set (lines_of slots order held) k line
unfolding lines_of
lines_set slots order held k slot line is below at =
    let enough : held ≤ length order = is.enough in
    let inside : k < length order = omega arith in
    let slots_at : slot ≡ get_or order k 0 = at ∙ get_or_default order k slot 0 inside in
    rw (slots_at, in_slots slots order k line is.apart is.within inside) (take-set-lt held (map (in_slot slots) order) k line below)

pub lines_more : (slots : List Line) (order : List ℕ) (held slot : ℕ) (line : Line) → IsTable slots order held → held < length slots → slot ≡ get_or order held slot
    → lines_of (set slots slot line) order (held + 1) ≡ lines_of slots order held ++ line ∷ []
unfolding lines_of
lines_more slots order held slot line is below at =
    let size : length order ≡ length slots = is.size in
    let inside : held < length order = omega arith in
    let slots_at : slot ≡ get_or order held 0 = at ∙ get_or_default order held slot 0 inside in
    let long : held < length (map (in_slot slots) order) = rw length-map inside in
    rw (slots_at, in_slots slots order held line is.apart is.within inside) (take_more_set (map (in_slot slots) order) held line long)

take_moved : {X : Type 0} (xs : List X) (k n : ℕ) (x : X) → k ≤ n → n < length xs → take n (remove xs k ++ x ∷ []) ≡ remove (take (suc n) xs) k
take_moved [] k n x within below = absurd (omega arith)
take_moved (y ∷ xs) zero n x within below = let short : n ≤ length xs = omega arith in rw take-append-le refl
take_moved (y ∷ xs) (suc k) zero x within below = absurd (omega arith)
take_moved (y ∷ xs) (suc k) (suc n) x within below = ap (λ rest. y ∷ rest) (take_moved xs k n x (omega arith) (omega arith))

pub lines_moved : (slots : List Line) (order : List ℕ) (held k : ℕ) → IsTable slots order held → k < held
    → lines_of slots (remove order k ++ get_or order k 0 ∷ []) (held - 1) ≡ remove (lines_of slots order held) k
unfolding lines_of
lines_moved slots order (zero) k is below = absurd (omega arith)
lines_moved slots order (suc held) k is below =
    let enough : suc held ≤ length order = is.enough in
    let long : held < length (map (in_slot slots) order) = rw length-map (omega arith) in
    let less : suc held - 1 ≡ held = omega arith in
    let moved : map (in_slot slots) (remove order k ++ get_or order k 0 ∷ []) ≡ remove (map (in_slot slots) order) k ++ in_slot slots (get_or order k 0) ∷ [] = simp (map-append, take-map, drop-map) in
    rw (less, moved) (take_moved (map (in_slot slots) order) k held (in_slot slots (get_or order k 0)) (omega arith) long)

-- and so the table is seen changed

pub set_is : (slots : List Line) (order : List ℕ) (held k slot : ℕ) (line : Line) (table : Table) → IsTable slots order held → table_of slots order held ≡ table
    → k < held → slot ≡ get_or order k slot
    → table_of (set slots slot line) order held ≡ record { lines = set table.lines k line; room = table.room }
set_is slots order held k slot line table is same below at =
    subst (λ (t : Table). table_of (set slots slot line) order held ≡ record { lines = set t.lines k line; room = t.room }) same
    (rw (lines_set slots order held k slot line is below at, length-set slots slot line) refl)

pub more_is : (slots : List Line) (order : List ℕ) (held slot : ℕ) (line : Line) (table : Table) → IsTable slots order held → table_of slots order held ≡ table
    → held < length slots → slot ≡ get_or order held slot
    → table_of (set slots slot line) order (held + 1) ≡ record { lines = table.lines ++ line ∷ []; room = table.room }
more_is slots order held slot line table is same below at =
    subst (λ (t : Table). table_of (set slots slot line) order (held + 1) ≡ record { lines = t.lines ++ line ∷ []; room = t.room }) same
    (rw (lines_more slots order held slot line is below at, length-set slots slot line) refl)

pub moved_is : (slots : List Line) (order moved : List ℕ) (held k : ℕ) (table : Table) → IsTable slots order held → table_of slots order held ≡ table
    → k < held → moved ≡ remove order k ++ get_or order k 0 ∷ []
    → table_of slots moved (held - 1) ≡ record { lines = remove table.lines k; room = table.room }
moved_is slots order moved held k table is same below at =
    subst (λ (t : Table). table_of slots moved (held - 1) ≡ record { lines = remove t.lines k; room = t.room }) same
    (rw (at, lines_moved slots order held k is below) refl)

-- an order that was changed still names each slot once

pub table_first : (slots : List Line) (count : ℕ) → length slots ≡ count → count ≤ 65535 → IsTable slots (range_with_len 0 count) 0
table_first slots count size most = record {
  size = length-range_with_len 0 count ∙ sym size;
  enough = omega arith;
  most = omega arith;
  within = range_below 0 count (length slots) (omega arith);
  apart = range_apart 0 count;
}

pub table_set : (slots : List Line) (order : List ℕ) (held more slot : ℕ) (line : Line) → IsTable slots order held → more ≤ length order → IsTable (set slots slot line) order more
table_set slots order held more slot line is enough = record {
  size = is.size ∙ sym (length-set slots slot line);
  enough = enough;
  most = rw length-set is.most;
  within = rw length-set is.within;
  apart = is.apart;
}

pub table_moved : (slots : List Line) (order : List ℕ) (held k less : ℕ) → IsTable slots order held → k < length order → less ≤ held → IsTable slots (remove order k ++ get_or order k 0 ∷ []) less
table_moved slots order held k less is below within =
    let size = length_moved order k (get_or order k 0) below in
    let enough : held ≤ length order = is.enough in
    record {
      size = size ∙ is.size;
      enough = omega arith;
      most = is.most;
      within = all_moved (λ slot. slot < length slots) order k 0 is.within below;
      apart = apart_moved order k is.apart below;
    }

-- one number more

pub range_more : (a n : ℕ) → range_with_len a (n + 1) ≡ range_with_len a n ++ (a + n) ∷ []
range_more a zero = let same : a + 0 ≡ a = omega arith in rw same refl
range_more a (suc n) =
    let same : a + 1 + n ≡ a + suc n = omega arith in
    let more : suc n + 1 ≡ suc (n + 1) = omega arith in
    rw (more, ← same) (ap (λ rest. a ∷ rest) (range_more (a + 1) n))
