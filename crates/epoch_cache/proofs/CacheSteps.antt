-- Lines in order of epoch: a sector has at most one in an epoch, and what is done to that one is done to all that pass the test.
use Rattle.std.proofs.Common.{◌≡◌, ℕ, ◌<◌, ◌≤◌, ◌==◌, suc, zero, inl, inr, Bool, true, false, not, ◌&&◌, if◌then◌else◌, nat_lt, Option, Some, None, List, [], ◌∷◌, ◌++◌, filter, find, fold, get_or, remove, map, length, refl, sym, ap, ◌∙◌, arith, length-append}
use Rattle.std.proofs.Math.ListN.{set, length-set}
use Rattle.std.proofs.lemmas.Bool.{cases_Bool, eqb-true, eq-eqb, both_ways, le-ltb, false_from_ne_true, or_parts, or_left, or_right, ltb-false, cases_lt}
use Rattle.std.specs.List.{AllByRecursion, list_any}
use Rattle.storage_model.specs.declared.block.Block.{Block}
use Rattle.storage_model.specs.declared.marks.Put.{Put}
use Rattle.epoch_cache.specs.Cache.{IsCache, IsPlace, IsBefore, AreInOrder, is_of, lines_with, new_line, newest_of, renewed}
use Rattle.epoch_cache.specs.declared.line.Line.{Line}
use Rattle.epoch_cache.proofs.TableSteps.{all_at, all_more}

pub all_from : {X : Type 0} (P : X → Type 0) (xs : List X) → ((k : ℕ) (d : X) → k < length xs → P (get_or xs k d)) → AllByRecursion P xs
all_from P [] each = tt
all_from P (x ∷ xs) each = (each 0 x (omega arith), all_from P xs (λ k d below. each (suc k) d (omega arith)))

pub all_set : {X : Type 0} (P : X → Type 0) (xs : List X) (k : ℕ) (y : X) → AllByRecursion P xs → P y → AllByRecursion P (set xs k y)
all_set P [] k y all one = tt
all_set P (x ∷ xs) zero y all one = (one, all.1)
all_set P (x ∷ xs) (suc k) y all one = (all.0, all_set P xs k y all.1 one)

pub all_less : {X : Type 0} (P : X → Type 0) (xs : List X) (k : ℕ) → AllByRecursion P xs → AllByRecursion P (remove xs k)
all_less P [] zero all = tt
all_less P [] (suc k) all = tt
all_less P (x ∷ xs) zero all = all.1
all_less P (x ∷ xs) (suc k) all = (all.0, all_less P xs k all.1)

pub all_also : {X : Type 0} (P Q : X → Type 0) (xs : List X) → ((x : X) → P x → Q x) → AllByRecursion P xs → AllByRecursion Q xs
all_also P Q [] also all = tt
all_also P Q (x ∷ xs) also all = (also x all.0, all_also P Q xs also all.1)

pub length_less : {X : Type 0} (xs : List X) (k : ℕ) → length (remove xs k) ≤ length xs
length_less [] zero = omega arith
length_less [] (suc k) = omega arith
length_less (x ∷ xs) zero = omega arith
length_less (x ∷ xs) (suc k) = let rest = length_less xs k in omega arith

-- the line of a sector in an epoch

pub and_true : (a b : Bool) → (a && b) ≡ true → (a ≡ true) × (b ≡ true)
and_true true b h = (refl, h)
and_true false b h = absurd (both_ways false refl h)

pub is_of-true : (e s : ℕ) (line : Line) → is_of e s line ≡ true → (line.epoch ≡ e) × (line.sector ≡ s)
is_of-true e s line h = let parts = and_true (line.epoch == e) (line.sector == s) h in (eqb-true line.epoch e parts.0, eqb-true line.sector s parts.1)

pub is_of-from : (e s : ℕ) (line : Line) → line.epoch ≡ e → line.sector ≡ s → is_of e s line ≡ true
is_of-from e s line same same' = rw (eq-eqb line.epoch e same, eq-eqb line.sector s same') refl

not_both : (e s : ℕ) (a b : Line) → IsBefore a b → is_of e s a ≡ true → is_of e s b ≡ true → ⊥
not_both e s a b front here there =
    let one = is_of-true e s a here in
    let other = is_of-true e s b there in
    let less = front.sector (one.1 ∙ sym other.1) in
    let first = one.0 in
    let second = other.0 in
    omega arith

others_are_not : (e s : ℕ) (a : Line) (lines : List Line) → AllByRecursion (IsBefore a) lines → is_of e s a ≡ true → AllByRecursion (λ line. is_of e s line ≡ false) lines
others_are_not e s a lines front here = all_also (IsBefore a) (λ line. is_of e s line ≡ false) lines (λ b ahead. false_from_ne_true (is_of e s b) (λ there. not_both e s a b ahead here there)) front

first_is_not : (e s : ℕ) (a : Line) (lines : List Line) (k : ℕ) (d : Line) → AllByRecursion (IsBefore a) lines → k < length lines → is_of e s (get_or lines k d) ≡ true → is_of e s a ≡ false
first_is_not e s a lines k d front below there = false_from_ne_true (is_of e s a) (λ here. not_both e s a (get_or lines k d) (all_at (IsBefore a) lines k d front below) here there)

-- a line renewed

none_renewed : (test : Line → Bool) (f : Line → Line) (lines : List Line) → AllByRecursion (λ line. test line ≡ false) lines → map (λ line. if test line then f line else line) lines ≡ lines
none_renewed test f [] none = refl
none_renewed test f (line ∷ lines) none = rw (none.0, none_renewed test f lines none.1) refl

one_renewed : (e s : ℕ) (f : Line → Line) (lines : List Line) (k : ℕ) (d : Line) → AreInOrder lines → k < length lines → is_of e s (get_or lines k d) ≡ true
    → map (λ line. if is_of e s line then f line else line) lines ≡ set lines k (f (get_or lines k d))
one_renewed e s f [] k d order below here = absurd (omega arith)
one_renewed e s f (line ∷ lines) zero d order below here = rw (here, none_renewed (is_of e s) f lines (others_are_not e s line lines order.0 here)) refl
one_renewed e s f (line ∷ lines) (suc k) d order below here =
    rw (first_is_not e s line lines k d order.0 (omega arith) here) (ap (λ rest. line ∷ rest) (one_renewed e s f lines k d order.1 (omega arith) here))

is_among : (test : Line → Bool) (lines : List Line) (k : ℕ) (d : Line) → k < length lines → test (get_or lines k d) ≡ true → list_any test lines ≡ true
is_among test [] k d below here = absurd (omega arith)
is_among test (line ∷ lines) zero d below here = or_left (test line) (list_any test lines) here
is_among test (line ∷ lines) (suc k) d below here = or_right (test line) (list_any test lines) (is_among test lines k d (omega arith) here)

pub lines_with-renewed : (e : ℕ) (put : Put) (lines : List Line) (k : ℕ) (d : Line) → AreInOrder lines → k < length lines → is_of e put.sector (get_or lines k d) ≡ true
    → lines_with e put lines ≡ set lines k (renewed put (get_or lines k d))
unfolding lines_with
lines_with-renewed e put lines k d order below here = rw (is_among (is_of e put.sector) lines k d below here) (one_renewed e put.sector (renewed put) lines k d order below here)

pub lines_with-new : (e : ℕ) (put : Put) (lines : List Line) → list_any (is_of e put.sector) lines ≡ false → lines_with e put lines ≡ lines ++ new_line e put ∷ []
unfolding lines_with
lines_with-new e put lines none = rw none refl

-- a line taken out

none_out : (test : Line → Bool) (lines : List Line) → AllByRecursion (λ line. test line ≡ false) lines → filter (λ line. not (test line)) lines ≡ lines
none_out test [] none = refl
none_out test (line ∷ lines) none = rw (none.0, none_out test lines none.1) refl

pub one_out : (e s : ℕ) (lines : List Line) (k : ℕ) (d : Line) → AreInOrder lines → k < length lines → is_of e s (get_or lines k d) ≡ true → filter (λ line. not (is_of e s line)) lines ≡ remove lines k
one_out e s [] k d order below here = absurd (omega arith)
one_out e s (line ∷ lines) zero d order below here = rw (here, none_out (is_of e s) lines (others_are_not e s line lines order.0 here)) refl
one_out e s (line ∷ lines) (suc k) d order below here =
    rw (first_is_not e s line lines k d order.0 (omega arith) here) (ap (λ rest. line ∷ rest) (one_out e s lines k d order.1 (omega arith) here))

-- the only line of a sector in an epoch
pub same_line : (e s : ℕ) (lines : List Line) (k : ℕ) (d : Line) → AreInOrder lines → k < length lines → is_of e s (get_or lines k d) ≡ true → AllByRecursion (λ line. is_of e s line ≡ true → line ≡ get_or lines k d) lines
same_line e s [] k d order below here = absurd (omega arith)
same_line e s (line ∷ lines) zero d order below here =
    (λ _. refl, all_also (λ other. is_of e s other ≡ false) (λ other. is_of e s other ≡ true → other ≡ line) lines (λ other not it. absurd (both_ways (is_of e s other) not it)) (others_are_not e s line lines order.0 here))
same_line e s (line ∷ lines) (suc k) d order below here =
    (λ it. absurd (both_ways (is_of e s line) (first_is_not e s line lines k d order.0 (omega arith) here) it), same_line e s lines k d order.1 (omega arith) here)

-- a line found

pub one_found : (e s : ℕ) (lines : List Line) (k : ℕ) (d : Line) → AreInOrder lines → k < length lines → is_of e s (get_or lines k d) ≡ true → find (is_of e s) lines ≡ Some (get_or lines k d)
one_found e s [] k d order below here = absurd (omega arith)
one_found e s (line ∷ lines) zero d order below here = rw here refl
one_found e s (line ∷ lines) (suc k) d order below here = rw (first_is_not e s line lines k d order.0 (omega arith) here) (one_found e s lines k d order.1 (omega arith) here)

pub none_found : (test : Line → Bool) (lines : List Line) → list_any test lines ≡ false → find test lines ≡ None
none_found test [] none = refl
none_found test (line ∷ lines) none = let parts = or_parts (test line) (list_any test lines) none in rw parts.0 (none_found test lines parts.1)

pub none_among : (test : Line → Bool) (lines : List Line) → ((k : ℕ) (d : Line) → k < length lines → test (get_or lines k d) ≡ false) → list_any test lines ≡ false
none_among test [] none = refl
none_among test (line ∷ lines) none = rw (none 0 line (omega arith)) (none_among test lines (λ k d below. none (suc k) d (omega arith)))

-- the newest line of a sector

abbrev chosen : ℕ → Option Block → Line → Option Block
chosen s found line = if line.sector == s then Some line.value else found

none_chosen : (s : ℕ) (found : Option Block) (lines : List Line) → ((k : ℕ) (d : Line) → k < length lines → ((get_or lines k d).sector == s) ≡ false) → fold (chosen s) found lines ≡ found
none_chosen s found [] none = refl
none_chosen s found (line ∷ lines) none = rw (none 0 line (omega arith)) (none_chosen s found lines (λ k d below. none (suc k) d (omega arith)))

last_chosen : (s : ℕ) (found : Option Block) (lines : List Line) (k : ℕ) (d : Line) → k < length lines → ((get_or lines k d).sector == s) ≡ true
    → ((j : ℕ) (d : Line) → k < j → j < length lines → ((get_or lines j d).sector == s) ≡ false) → fold (chosen s) found lines ≡ Some (get_or lines k d).value
last_chosen s found [] k d below here none = absurd (omega arith)
last_chosen s found (line ∷ lines) zero d below here none = rw here (none_chosen s (Some line.value) lines (λ k d below. none (suc k) d (omega arith) (omega arith)))
last_chosen s found (line ∷ lines) (suc k) d below here none = last_chosen s (chosen s found line) lines k d (omega arith) here (λ j d past below. none (suc j) d (omega arith) (omega arith))

pub newest_of-none : (s : ℕ) (lines : List Line) → ((k : ℕ) (d : Line) → k < length lines → ((get_or lines k d).sector == s) ≡ false) → newest_of s lines ≡ None
unfolding newest_of
newest_of-none s lines none = none_chosen s None lines none

pub newest_of-some : (s : ℕ) (lines : List Line) (k : ℕ) (d : Line) → k < length lines → ((get_or lines k d).sector == s) ≡ true
    → ((j : ℕ) (d : Line) → k < j → j < length lines → ((get_or lines j d).sector == s) ≡ false) → newest_of s lines ≡ Some (get_or lines k d).value
unfolding newest_of
newest_of-some s lines k d below here none = last_chosen s None lines k d below here none

-- an older line

pub none_older : (last : ℕ) (first : Line) (lines : List Line) → AllByRecursion (IsBefore first) lines → last ≤ first.epoch → list_any (λ line. nat_lt line.epoch last) lines ≡ false
none_older last first [] front past = refl
none_older last first (line ∷ lines) front past = let later = front.0.epoch in rw (le-ltb line.epoch last (omega arith)) (none_older last first lines front.1 past)

pub older_first : (last : ℕ) (lines : List Line) (d : Line) → AreInOrder lines → 0 < length lines → nat_lt (get_or lines 0 d).epoch last ≡ list_any (λ line. nat_lt line.epoch last) lines
older_first last [] d order some = absurd (omega arith)
older_first last (line ∷ lines) d order some = elim (cases_Bool (nat_lt line.epoch last)) [
  | inl older ↦ rw older refl
  | inr later ↦ rw (later, none_older last line lines order.0 (ltb-false line.epoch last later)) refl
]

-- the order stays

pub order_set : (lines : List Line) (k : ℕ) (line d : Line) → AreInOrder lines → k < length lines → line.epoch ≡ (get_or lines k d).epoch → line.sector ≡ (get_or lines k d).sector → AreInOrder (set lines k line)
order_set [] k line d order below epoch sector = tt
order_set (first ∷ lines) zero line d order below epoch sector =
    (all_also (IsBefore first) (IsBefore line) lines (λ other front. record { epoch = rw epoch front.epoch; sector = λ same. rw epoch (front.sector (sym sector ∙ same)) }) order.0, order.1)
order_set (first ∷ lines) (suc k) line d order below epoch sector =
    let front = all_at (IsBefore first) lines k d order.0 (omega arith) in
    (all_set (IsBefore first) lines k line order.0 (record { epoch = rw epoch front.epoch; sector = λ same. rw epoch (front.sector (same ∙ sector)) }), order_set lines k line d order.1 (omega arith) epoch sector)

pub order_more : (lines : List Line) (line : Line) → AreInOrder lines → AllByRecursion (λ other. IsBefore other line) lines → AreInOrder (lines ++ line ∷ [])
order_more [] line order front = (tt, tt)
order_more (first ∷ lines) line order front = (all_more (IsBefore first) lines line order.0 front.0, order_more lines line order.1 front.1)

pub all_in_front : (lines : List Line) (line : Line) → AllByRecursion (λ other. other.epoch ≤ line.epoch) lines → list_any (is_of line.epoch line.sector) lines ≡ false → AllByRecursion (λ other. IsBefore other line) lines
all_in_front [] line past none = tt
all_in_front (first ∷ lines) line past none =
    let parts = or_parts (is_of line.epoch line.sector first) (list_any (is_of line.epoch line.sector) lines) none in
    let no_later = past.0 in (
      record {
        epoch = no_later;
        sector = λ same. elim (cases_lt first.epoch line.epoch) [
          | inl less ↦ less
          | inr more ↦ absurd (both_ways (is_of line.epoch line.sector first) parts.0 (is_of-from line.epoch line.sector first (omega arith) same))
        ];
      },
      all_in_front lines line past.1 parts.1,
    )

pub order_less : (lines : List Line) (k : ℕ) → AreInOrder lines → AreInOrder (remove lines k)
order_less [] zero order = tt
order_less [] (suc k) order = tt
order_less (first ∷ lines) zero order = order.1
order_less (first ∷ lines) (suc k) order = (all_less (IsBefore first) lines k order.0, order_less lines k order.1)

-- a cache whose lines were changed is still one

pub cache_set : (lines : List Line) (last room k s : ℕ) (line d : Line) → IsCache (record { lines = lines; last = last; room = room }) → IsPlace (is_of last s) lines k
    → line.epoch ≡ (get_or lines k d).epoch → line.sector ≡ (get_or lines k d).sector → IsCache (record { lines = set lines k line; last = last; room = room })
cache_set lines last room k s line d is place epoch sector = record {
  order = order_set lines k line d is.order place.within epoch sector;
  past = all_set (λ other. other.epoch ≤ last) lines k line is.past (rw epoch (all_at (λ other. other.epoch ≤ last) lines k d is.past place.within));
  fits = rw length-set is.fits;
  last = is.last;
}

pub cache_more : (lines : List Line) (last room : ℕ) (line : Line) → IsCache (record { lines = lines; last = last; room = room }) → length lines < room → list_any (is_of last line.sector) lines ≡ false → line.epoch ≡ last
    → IsCache (record { lines = lines ++ line ∷ []; last = last; room = room })
cache_more lines last room line is free none now =
    let past : AllByRecursion (λ other. other.epoch ≤ line.epoch) lines = rw now is.past in
    let apart : list_any (is_of line.epoch line.sector) lines ≡ false = rw now none in
    record {
      order = order_more lines line is.order (all_in_front lines line past apart);
      past = all_more (λ other. other.epoch ≤ last) lines line is.past (omega arith);
      fits = omega (arith, length-append lines (line ∷ []));
      last = is.last;
    }

pub cache_less : (lines : List Line) (last room k : ℕ) → IsCache (record { lines = lines; last = last; room = room }) → IsCache (record { lines = remove lines k; last = last; room = room })
cache_less lines last room k is = record {
  order = order_less lines k is.order;
  past = all_less (λ other. other.epoch ≤ last) lines k is.past;
  fits = let short = length_less lines k in let fits = is.fits in omega arith;
  last = is.last;
}
