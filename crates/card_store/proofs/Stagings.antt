-- Stagings one after the other.
use Rattle.std.proofs.Common.{◌≡◌, ℕ, ◌+◌, ◌<◌, ◌≤◌, ◌==◌, zero, suc, inl, inr, Bool, true, false, not, nat_lt, Some, List, [], ◌∷◌, drop, filter, length, remove, take, slice_get, Result, Ok, Err, refl, sym, ap, subst, ◌∙◌, arith}
use Rattle.std.proofs.lemmas.List.{take_all}
use Rattle.std.proofs.lemmas.Bool.{cases_Bool, eq-eqb, ltb-true, ne_eqb, or_parts, ltb-false}
use Rattle.std.specs.List.{AllByRecursion, list_any}
use Rattle.std.specs.Option.{is_some}
use Rattle.epoch_cache.specs.Cache.{AreInOrder, IsBefore}
use Rattle.epoch_cache.specs.declared.line.Line.{Line}
use Rattle.card_store.proofs.Standing.{all_also}
use Rattle.storage_model.specs.Count.{Count, Later, Rose}
use Rattle.array_edge.specs.Array.{ArrayState}
use Rattle.intent_store.specs.Intent.{StoreEnds}
use Rattle.intent_store.specs.declared.ends.StoreEnd.{StoreEnd}
use Rattle.intent_store.specs.declared.ends.StoreEnd.TheVariants.{Flash, PowerLost}
use Rattle.card_store.specs.Staging.{AreStaged, Fit, Holders, IsStaged, well}

pub staged_none : (h : Holders) → Fit h → IsStaged h h
staged_none h fit = record { fit = fit; sectors = refl; last = refl; room = refl; lines = λ base pend stands. stands }

pub staged_both : (first next last : Holders) → IsStaged first next → IsStaged next last → IsStaged first last
staged_both first next last a b = record {
  fit = b.fit;
  sectors = b.sectors ∙ a.sectors;
  last = b.last ∙ a.last;
  room = b.room ∙ a.room;
  lines = λ base pend stands. b.lines base pend (a.lines base pend stands);
}

later_same : (count : Count) → Later count count
later_same count = record { value = omega arith; stands = λ h. h }

later_both : (a b c : Count) → Later a b → Later b c → Later a c
later_both a b c first next = let one = first.value in let other = next.value in record { value = omega arith; stands = λ h. next.stands (first.stands h) }

rose_both : (a b c : Count) → Later a b → Rose b c → Rose a c
rose_both a b c first (inl more) = let one = first.value in inl (omega arith)
rose_both a b c first (inr stands) = inr stands

-- it didn't rise at first, and then by one at most
once : (a b c : Count) → b ≡ a → c.value ≤ b.value + 1 → c.value ≤ a.value + 1
once a b c same more = let value = ap (λ count. count.value) same in omega (arith, value, more)

pub ends_none : (array : ArrayState) → StoreEnds array array well
ends_none array = record { count = refl; tells = refl; faults = later_same array.faults; cuts = later_same array.cuts; ok = refl; calm = (refl, refl); flash = λ h. cc; uncut = λ h. cc; lost = λ h. cc; unfailed = λ h. cc; failed_once = omega arith; cut_once = omega arith }

pub ends_both : (first next last : ArrayState) (result : Result (Unit {0}) StoreEnd) → StoreEnds first next well → StoreEnds next last result → StoreEnds first last result
ends_both first next last (Ok done) a b = record {
  count = b.count ∙ a.count;
  tells = b.tells ∙ a.tells;
  faults = later_both first.faults next.faults last.faults a.faults b.faults;
  cuts = later_both first.cuts next.cuts last.cuts a.cuts b.cuts;
  ok = b.ok ∙ a.ok;
  calm = (b.calm.0 ∙ a.calm.0, b.calm.1 ∙ a.calm.1);
  flash = λ h. cc;
  uncut = λ h. cc;
  lost = λ h. cc;
  unfailed = λ h. cc;
  failed_once = once first.faults next.faults last.faults a.calm.0 b.failed_once;
  cut_once = once first.cuts next.cuts last.cuts a.calm.1 b.cut_once;
}
ends_both first next last (Err Flash) a b = record {
  count = b.count ∙ a.count;
  tells = b.tells ∙ a.tells;
  faults = later_both first.faults next.faults last.faults a.faults b.faults;
  cuts = later_both first.cuts next.cuts last.cuts a.cuts b.cuts;
  ok = b.ok;
  calm = b.calm;
  flash = λ h. let f = b.flash h in (rose_both first.faults next.faults last.faults a.faults f.0, sym a.ok ∙ f.1, f.2);
  uncut = λ h. b.uncut h ∙ a.calm.1;
  lost = λ h. cc;
  unfailed = λ h. cc;
  failed_once = once first.faults next.faults last.faults a.calm.0 b.failed_once;
  cut_once = once first.cuts next.cuts last.cuts a.calm.1 b.cut_once;
}
ends_both first next last (Err PowerLost) a b = record {
  count = b.count ∙ a.count;
  tells = b.tells ∙ a.tells;
  faults = later_both first.faults next.faults last.faults a.faults b.faults;
  cuts = later_both first.cuts next.cuts last.cuts a.cuts b.cuts;
  ok = b.ok;
  calm = b.calm;
  flash = λ h. cc;
  uncut = λ h. cc;
  lost = λ h. let l = b.lost h in (elim l.0 [ inl cut ↦ inl (rose_both first.cuts next.cuts last.cuts a.cuts cut) | inr off ↦ inr (sym a.ok ∙ off) ], l.1);
  unfailed = λ h. b.unfailed h ∙ a.calm.0;
  failed_once = once first.faults next.faults last.faults a.calm.0 b.failed_once;
  cut_once = once first.cuts next.cuts last.cuts a.calm.1 b.cut_once;
}

pub are_staged_none : (h : Holders) → Fit h → AreStaged h h
are_staged_none h fit = record { staged = staged_none h fit; ends = ends_none h.array }

pub are_staged_more : (first next last : Holders) → AreStaged first next → IsStaged next last → StoreEnds next.array last.array well → AreStaged first last
are_staged_more first next last a staged ends = record { staged = staged_both first next last a.staged staged; ends = ends_both first.array next.array last.array well a.ends ends }

-- where staging ends

pub nothing_held : (lines : List Line) → lines ≡ [] → 0 < length lines → ⊥
nothing_held [] none some = omega arith
nothing_held (line ∷ lines) none some = cc

pub none_held : (lines : List Line) → (0 < length lines → ⊥) → lines ≡ []
none_held [] none = refl
none_held (line ∷ lines) none = absurd (none (omega arith))

pub none_first : (lines : List Line) → is_some (slice_get lines 0) ≡ false → lines ≡ []
none_first [] none = refl
none_first (line ∷ lines) none = cc

pub none_older : (last : ℕ) (lines : List Line) → AllByRecursion (λ line. line.epoch ≤ last) lines → list_any (λ line. nat_lt line.epoch last) lines ≡ false → AllByRecursion (λ line. line.epoch ≡ last) lines
none_older last [] past none = tt
none_older last (line ∷ lines) past none =
    let parts = or_parts (nat_lt line.epoch last) (list_any (λ line. nat_lt line.epoch last) lines) none in
    let now = ltb-false line.epoch last parts.0 in
    let upto = past.0 in
    (omega arith, none_older last lines past.1 parts.1)

-- which lines are left

-- a line that comes before one of an earlier epoch is of an earlier epoch
some_early : (e last : ℕ) (lines : List Line) → AllByRecursion (λ other. e ≤ other.epoch) lines → list_any (λ line. nat_lt line.epoch last) lines ≡ true → e < last
some_early e last [] upto some = cc
some_early e last (line ∷ lines) upto some = elim (cases_Bool (nat_lt line.epoch last)) [
  | inl early ↦ let before = ltb-true line.epoch last early in let from = upto.0 in omega arith
  | inr late ↦ some_early e last lines upto.1 (rw late at some)
]

first_early : (last : ℕ) (line : Line) (lines : List Line) → AllByRecursion (IsBefore line) lines → list_any (λ line. nat_lt line.epoch last) (line ∷ lines) ≡ true → line.epoch < last
first_early last line lines order some = elim (cases_Bool (nat_lt line.epoch last)) [
  | inl early ↦ ltb-true line.epoch last early
  | inr late ↦ some_early line.epoch last lines (all_also (IsBefore line) (λ other. line.epoch ≤ other.epoch) lines (λ other before. before.epoch) order) (rw late at some)
]

-- the oldest line, where one is of an earlier epoch
pub filter-older : (last : ℕ) (lines : List Line) → AreInOrder lines → list_any (λ line. nat_lt line.epoch last) lines ≡ true
    → filter (λ line. line.epoch == last) (drop 1 lines) ≡ filter (λ line. line.epoch == last) lines
filter-older last [] order some = refl
filter-older last (line ∷ lines) order some =
    let early = first_early last line lines order.0 some in
    rw (ne_eqb line.epoch last (omega arith)) refl

pub filter-now : (last : ℕ) (lines : List Line) → AllByRecursion (λ line. line.epoch ≡ last) lines → filter (λ line. line.epoch == last) lines ≡ lines
filter-now last [] now = refl
filter-now last (line ∷ lines) now = rw (eq-eqb line.epoch last now.0, filter-now last lines now.1) refl

-- a line that is named
pub filter-named : (named : ℕ → Bool) (lines : List Line) (k : ℕ) (line : Line) → slice_get lines k ≡ Some line → named line.sector ≡ true
    → filter (λ line. not (named line.sector)) (remove lines k) ≡ filter (λ line. not (named line.sector)) lines
filter-named named [] k line is chosen = cc
filter-named named (other ∷ lines) zero line is chosen =
    let same : other ≡ line = cc in
    let P : Line → Type 0 = λ l. filter (λ line. not (named line.sector)) lines ≡ filter (λ line. not (named line.sector)) (l ∷ lines) in
    subst P (sym same) (rw chosen refl)
filter-named named (other ∷ lines) (suc k) line is chosen = elim (cases_Bool (named other.sector)) [
  | inl here ↦ rw here (filter-named named lines k line is chosen)
  | inr gone ↦ rw gone (ap (λ rest. other ∷ rest) (filter-named named lines k line is chosen))
]

filter-spared : (named : ℕ → Bool) (lines : List Line) → AllByRecursion (λ line. named line.sector ≡ false) lines → filter (λ line. not (named line.sector)) lines ≡ lines
filter-spared named [] spared = refl
filter-spared named (line ∷ lines) spared = rw (spared.0, filter-spared named lines spared.1) refl

pub filter-spared_front : (named : ℕ → Bool) (lines : List Line) (k : ℕ) → length lines ≤ k → AllByRecursion (λ line. named line.sector ≡ false) (take k lines)
    → filter (λ line. not (named line.sector)) lines ≡ lines
filter-spared_front named lines k past spared = filter-spared named lines (rw (take_all k lines past) at spared)
