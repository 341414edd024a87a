-- Each sector's last line stays found: the oldest line goes, a line comes behind all others, and a line is renewed.
use Rattle.std.proofs.Common.{◌≡◌, ◌≢◌, ℕ, ◌+◌, ◌-◌, ◌<◌, ◌≤◌, ◌==◌, suc, zero, inl, inr, Bool, true, false, if◌then◌else◌, Option, Some, None, List, [], ◌∷◌, ◌++◌, get_or, length, remove, refl, sym, ap, subst, ◌∙◌, arith, length-append, take}
use Rattle.std.proofs.Math.ListN.{set, length-set}
use Rattle.std.proofs.lemmas.Bool.{cases_Bool, cases_lt, eqb-true, eq-eqb, both_ways, false_from_ne_true, le-ltb}
use Rattle.std.proofs.lemmas.List.{get_or_default}
use Rattle.std.specs.List.{list_any}
use Rattle.epoch_cache.specs.Cache.{IsCache, IsBefore, IsPlace, AreInOrder, is_of}
use Rattle.epoch_cache.specs.Recent.{AreFound, AreMarked, IsLastOf, IsNewest, Places, place_from, place_in}
use Rattle.epoch_cache.specs.declared.line.Line.{Line}
use Rattle.epoch_cache.proofs.TableSteps.{all_at}
use Rattle.epoch_cache.proofs.CacheSteps.{length_less, is_of-true, is_of-from, none_among}

newest_none : (lines : List Line) (s : ℕ) (place : Option ℕ) → place ≡ None → ((k : ℕ) (d : Line) → k < length lines → (get_or lines k d).sector ≢ s) → IsNewest lines s place
newest_none lines s place e all = record { none = λ _. all; some = λ p same. absurd (cc) }

newest_some : (lines : List Line) (s p : ℕ) (place : Option ℕ) → place ≡ Some p → IsLastOf lines s p → IsNewest lines s place
newest_some lines s p place e is = record { none = λ no. absurd (cc); some = λ q same. let it : p ≡ q = cc in subst (IsLastOf lines s) it is }

-- the place of a number

from_below : (first n : ℕ) → n < first → place_from first (Some n) ≡ None
from_below first n less = grind arith

from_at : (first n : ℕ) → first ≤ n → place_from first (Some n) ≡ Some (n - first)
from_at first n past = rw (le-ltb n first past) refl

-- the oldest line goes

shift_at : (line : Line) (lines : List Line) (s first : ℕ) (number : Option ℕ) → IsNewest (line ∷ lines) s (place_from first number) → IsNewest lines s (place_from (first + 1) number)
shift_at line lines s first None newest = newest_none lines s None refl (λ k d below. newest.none refl (suc k) d (omega arith))
shift_at line lines s first (Some n) newest = elim (cases_lt n first) [
  | inl less ↦ newest_none lines s _ (from_below (first + 1) n (omega arith)) (λ k d below. newest.none (from_below first n less) (suc k) d (omega arith))
  | inr past ↦
      let is = newest.some (n - first) (from_at first n past) in
      elim (cases_lt first n) [
        | inl more ↦
            let one : n - first ≡ suc (n - (first + 1)) = omega arith in
            let within = is.within in
            newest_some lines s (n - (first + 1)) _ (from_at (first + 1) n (omega arith)) (record {
              within = omega arith;
              here = λ d. subst (λ m. (get_or (line ∷ lines) m d).sector ≡ s) one (is.here d);
              behind = λ k d after below. is.behind (suc k) d (omega arith) (omega arith);
            })
        | inr same ↦ newest_none lines s _ (from_below (first + 1) n (omega arith)) (λ k d below. is.behind (suc k) d (omega arith) (omega arith))
      ]
]

pub found_shift : (line : Line) (lines : List Line) (places : Places) (first : ℕ) → AreFound (line ∷ lines) places first → AreFound lines places (first + 1)
found_shift line lines places first found s = shift_at line lines s first _ (found s)

-- a line comes behind all others

last_at : (lines : List Line) (line d : Line) → get_or (lines ++ line ∷ []) (length lines) d ≡ line
last_at [] line d = refl
last_at (x ∷ lines) line d = last_at lines line d

earlier_at : (lines : List Line) (line d : Line) (k : ℕ) → k < length lines → get_or (lines ++ line ∷ []) k d ≡ get_or lines k d
earlier_at [] line d k below = absurd (omega arith)
earlier_at (x ∷ lines) line d zero below = refl
earlier_at (x ∷ lines) line d (suc k) below = earlier_at lines line d k (omega arith)

more_other : (lines : List Line) (line : Line) (s : ℕ) → (line.sector ≡ s → ⊥) → (k : ℕ) (d : Line) → k < length (lines ++ line ∷ []) → (k < length lines → (get_or lines k d).sector ≢ s) → (get_or (lines ++ line ∷ []) k d).sector ≢ s
more_other lines line s not k d below old = elim (cases_lt k (length lines)) [
  | inl early ↦ λ same. old early (ap (λ (l : Line). l.sector) (sym (earlier_at lines line d k early)) ∙ same)
  | inr late ↦
      let it : k ≡ length lines = omega (arith, length-append lines (line ∷ [])) in
      λ same. not (ap (λ (l : Line). l.sector) (sym (last_at lines line d) ∙ ap (λ m. get_or (lines ++ line ∷ []) m d) (sym it)) ∙ same)
]

more_newest : (lines : List Line) (line : Line) (s : ℕ) (place : Option ℕ) → (line.sector ≡ s → ⊥) → IsNewest lines s place → IsNewest (lines ++ line ∷ []) s place
more_newest lines line s place not newest = record {
  none = λ no k d below. more_other lines line s not k d below (newest.none no k d);
  some = λ p same.
      let is = newest.some p same in
      let within = is.within in
      record {
        within = omega (arith, length-append lines (line ∷ []));
        here = λ d. ap (λ (l : Line). l.sector) (earlier_at lines line d p within) ∙ is.here d;
        behind = λ k d after below. more_other lines line s not k d below (λ early. is.behind k d after early);
      };
}

pub found_more : (lines : List Line) (line : Line) (old new : Places) (first first' : ℕ) → AreFound lines old first
    → ((s : ℕ) → place_in new first' s ≡ (if line.sector == s then Some (length lines) else place_in old first s)) → AreFound (lines ++ line ∷ []) new first'
found_more lines line old new first first' found marked s = elim (cases_Bool (line.sector == s)) [
  | inl here ↦ newest_some _ s (length lines) _ (rw here at (marked s)) (record {
    within = omega (arith, length-append lines (line ∷ []));
    here = λ d. ap (λ (l : Line). l.sector) (last_at lines line d) ∙ eqb-true line.sector s here;
    behind = λ k d after below. absurd (omega (arith, length-append lines (line ∷ [])));
  })
  | inr there ↦
      let same : place_in old first s ≡ place_in new first' s = sym (rw there at (marked s)) in
      subst (IsNewest (lines ++ line ∷ []) s) same (more_newest lines line s _ (λ it. both_ways (line.sector == s) there (eq-eqb line.sector s it)) (found s))
]

-- no line is there

pub found_none : (places : Places) (first : ℕ) → ((s : ℕ) → place_in places first s ≡ None) → AreFound [] places first
found_none places first none s = newest_none [] s _ (none s) (λ k d below. absurd (omega arith))

-- a line is renewed

sector_set : (lines : List Line) (k j : ℕ) (line d e : Line) → k < length lines → line.sector ≡ (get_or lines k d).sector → (get_or (set lines k line) j e).sector ≡ (get_or lines j e).sector
sector_set [] k j line d e below same = absurd (omega arith)
sector_set (x ∷ lines) zero zero line d e below same = same
sector_set (x ∷ lines) zero (suc j) line d e below same = refl
sector_set (x ∷ lines) (suc k) zero line d e below same = refl
sector_set (x ∷ lines) (suc k) (suc j) line d e below same = sector_set lines k j line d e (omega arith) same

pub found_set : (lines : List Line) (places : Places) (first k : ℕ) (line d : Line) → k < length lines → line.sector ≡ (get_or lines k d).sector → AreFound lines places first → AreFound (set lines k line) places first
found_set lines places first k line d below same found s = record {
  none = λ no j e inside. λ it. (found s).none no j e (omega (arith, length-set lines k line)) (sym (sector_set lines k j line d e below same) ∙ it);
  some = λ p at.
      let is = (found s).some p at in
      let within = is.within in
      record {
        within = omega (arith, length-set lines k line);
        here = λ e. sector_set lines k p line d e below same ∙ is.here e;
        behind = λ j e after inside. λ it. is.behind j e after (omega (arith, length-set lines k line)) (sym (sector_set lines k j line d e below same) ∙ it);
      };
}

-- the last line of a sector in the last epoch

order_at : (lines : List Line) (j k : ℕ) (d : Line) → AreInOrder lines → j < k → k < length lines → IsBefore (get_or lines j d) (get_or lines k d)
order_at [] j k d order less below = absurd (omega arith)
order_at (x ∷ lines) zero zero d order less below = absurd (omega arith)
order_at (x ∷ lines) zero (suc k) d order less below = all_at (IsBefore x) lines k d order.0 (omega arith)
order_at (x ∷ lines) (suc j) zero d order less below = absurd (omega arith)
order_at (x ∷ lines) (suc j) (suc k) d order less below = order_at lines j k d order.1 (omega arith) (omega arith)

pub none_now : (lines : List Line) (last s : ℕ) → ((k : ℕ) (d : Line) → k < length lines → (get_or lines k d).sector ≢ s) → list_any (is_of last s) lines ≡ false
none_now lines last s none = none_among (is_of last s) lines (λ k d below. false_from_ne_true (is_of last s (get_or lines k d)) (λ it. none k d below (is_of-true last s (get_or lines k d) it).1))

pub older_now : (lines : List Line) (last room s p : ℕ) (d : Line) → IsCache (record { lines = lines; last = last; room = room }) → IsLastOf lines s p → (get_or lines p d).epoch ≢ last → list_any (is_of last s) lines ≡ false
older_now lines last room s p d is at not =
    none_among (is_of last s) lines (λ k e below. false_from_ne_true (is_of last s (get_or lines k e)) (λ it.
    let parts = is_of-true last s (get_or lines k e) it in
    elim (cases_lt p k) [
      | inl after ↦ at.behind k e after below parts.1
      | inr early ↦ elim (cases_lt k p) [
        | inl before ↦
            let front = (order_at lines k p e is.order before at.within).sector (parts.1 ∙ sym (at.here e)) in
            let past = all_at (λ line. line.epoch ≤ last) lines p e is.past at.within in
            let now = parts.0 in
            omega arith
        | inr same ↦
            let it : k ≡ p = omega arith in
            not (ap (λ (l : Line). l.epoch) (get_or_default lines p d e at.within ∙ ap (λ m. get_or lines m e) (sym it)) ∙ parts.0)
      ]
    ]))

pub place_now : (lines : List Line) (last s p : ℕ) (d : Line) → IsLastOf lines s p → (get_or lines p d).epoch ≡ last → IsPlace (is_of last s) lines p
place_now lines last s p d at now = record {
  within = at.within;
  passes = λ e. is_of-from last s (get_or lines p e) (ap (λ (l : Line). l.epoch) (get_or_default lines p e d at.within) ∙ now) (at.here e);
}

-- what is kept beside the lines

pub marked_shift : (lines : List Line) (room : ℕ) (places : Places) (first : ℕ) (stale : Bool) → 0 < length lines → AreMarked lines room places first stale
    → AreMarked (remove lines 0) room places (first + 1) stale
marked_shift [] room places first stale some are = absurd (omega arith)
marked_shift (line ∷ lines) room places first stale some are = let few = are.few in record {
  found = λ fresh. found_shift line lines places first (are.found fresh);
  roomy = are.roomy;
  few = omega arith;
}

pub marked_set : (lines : List Line) (room : ℕ) (places : Places) (first k : ℕ) (stale : Bool) (line d : Line) → k < length lines → line.sector ≡ (get_or lines k d).sector
    → AreMarked lines room places first stale → AreMarked (set lines k line) room places first stale
marked_set lines room places first k stale line d below same are = record {
  found = λ fresh. found_set lines places first k line d below same (are.found fresh);
  roomy = are.roomy;
  few = rw length-set are.few;
}

-- a line went from between others
pub marked_less : (lines : List Line) (room : ℕ) (places : Places) (first k : ℕ) (stale : Bool) → AreMarked lines room places first stale
    → AreMarked (remove lines k) room places first true
marked_less lines room places first k stale are = record {
  found = λ fresh. absurd (cc);
  roomy = are.roomy;
  few = let few = are.few in let short = length_less lines k in omega arith;
}

-- all but the last
pub front : (lines : List Line) (line : Line) → take (length (lines ++ line ∷ []) - 1) (lines ++ line ∷ []) ≡ lines
front lines line =
    let less : length (lines ++ line ∷ []) - 1 ≡ length lines = omega (arith, length-append lines (line ∷ [])) in
    rw less (take_front lines line)
  where
    take_front : (lines : List Line) (line : Line) → take (length lines) (lines ++ line ∷ []) ≡ lines
    take_front [] line = refl
    take_front (x ∷ lines) line = ap (λ rest. x ∷ rest) (take_front lines line)
