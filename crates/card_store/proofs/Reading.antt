-- The newest line of a sector has its value now, and where there is none the sector shown is it.
use Rattle.std.proofs.Common.{◌≡◌, ◌≢◌, ℕ, ◌+◌, ◌-◌, ◌<◌, ◌≤◌, ◌⊎◌, suc, inl, inr, true, false, ◌==◌, if◌then◌else◌, Option, Some, None, List, [], ◌∷◌, fold, get_or, length, refl, sym, ap, subst, ◌∙◌, arith}
use Rattle.std.proofs.lemmas.Bool.{cases_Bool, eqb-true, both_ways, eq-eqb}
use Rattle.std.specs.List.{AllByRecursion, list_any}
use Rattle.storage_model.proofs.Latest.{last_value}
use Rattle.storage_model.specs.Contents.{bars, before_epoch, contents_now, puts_at, sector_at}
use Rattle.storage_model.specs.declared.block.Block.{Block}
use Rattle.storage_model.specs.declared.marks.Mark.{Mark}
use Rattle.epoch_cache.specs.declared.line.Line.{Line}
use Rattle.epoch_cache.specs.Cache.{AreInOrder, IsBefore, newest_of}
use Rattle.epoch_cache.proofs.TableSteps.{all_at}
use Rattle.card_store.proofs.Epochs.{before_epoch-next, before_epoch-now, before_epoch-still}
use Rattle.card_store.proofs.Segments.{last_value-put}
use Rattle.card_store.proofs.Standing.{all_also, any_at, is_at-true, none_any, some_or_none}
use Rattle.card_store.specs.Stands.{LineStands, StandsIn, is_at}

abbrev chosen : ℕ → Option Block → Line → Option Block
chosen s found line = if line.sector == s then Some line.value else found

-- the newest line of a sector
record Newest (s : ℕ) (lines : List Line) (answer : Option Block) : Type 0 where
  pub k : ℕ
  pub line : Line
  pub within : k < length lines
  pub at : get_or lines k line ≡ line
  pub sector : line.sector ≡ s
  pub answer_is : answer ≡ Some line.value
  pub newest : AllByRecursion (λ other. other.sector ≡ s → other.epoch ≤ line.epoch) lines

newest : (s : ℕ) (found : Option Block) (lines : List Line) → AreInOrder lines
    → (AllByRecursion (λ line. line.sector ≢ s) lines × (fold (chosen s) found lines ≡ found)) ⊎ Newest s lines (fold (chosen s) found lines)
newest s found [] order = inl (tt, refl)
newest s found (first ∷ lines) order = elim (newest s (chosen s found first) lines order.1) [
  | inr rest ↦
      let front : IsBefore first rest.line = subst (IsBefore first) rest.at (all_at (IsBefore first) lines rest.k rest.line order.0 rest.within) in
      let within = rest.within in
      inr (record {
        k = suc rest.k;
        line = rest.line;
        within = omega arith;
        at = rest.at;
        sector = rest.sector;
        answer_is = rest.answer_is;
        newest = (λ same. front.epoch, rest.newest);
      })
  | inl none ↦ elim (cases_Bool (first.sector == s)) [
    | inl here ↦ inr (record {
      k = 0;
      line = first;
      within = omega arith;
      at = refl;
      sector = eqb-true first.sector s here;
      answer_is = none.1 ∙ (rw here refl);
      newest = (λ same. omega arith, all_also (λ line. line.sector ≢ s) (λ other. other.sector ≡ s → other.epoch ≤ first.epoch) lines (λ other apart same. absurd (apart same)) none.0);
    })
    | inr gone ↦ inl ((λ same. both_ways (first.sector == s) gone (eq-eqb first.sector s same), none.0), none.1 ∙ (rw gone refl))
  ]
]

-- no puts in the epochs behind f
still : (base : List Block) (pend : List Mark) (f s : ℕ) → s < length base → f ≤ bars pend → ((g : ℕ) → f < g → g ≤ bars pend → (puts_at g s pend ≡ [] → ⊥) → ⊥)
    → sector_at (contents_now base pend) s ≡ sector_at (before_epoch (f + 1) base pend) s
still base pend f s inside within none =
    let all : f + 1 + (bars pend - f) ≡ bars pend + 1 = omega arith in
    let empty : (g : ℕ) → f + 1 ≤ g → g < f + 1 + (bars pend - f) → puts_at g s pend ≡ [] = λ g from below. elim (some_or_none (puts_at g s pend)) [
      | inl empty ↦ empty
      | inr some ↦ absurd (none g (omega arith) (omega arith) some)
    ] in
    ap (λ c. sector_at c s) (sym (before_epoch-now base pend) ∙ ap (λ g. before_epoch g base pend) (sym all)) ∙ before_epoch-still (f + 1) (bars pend - f) base pend s inside empty

read_line : (lines : List Line) (last : ℕ) (shown base : List Block) (pend : List Mark) (e s : ℕ) (answer : Option Block) → StandsIn lines last shown base pend e → s < length base → Newest s lines answer
    → answer ≡ Some (sector_at (contents_now base pend) s)
read_line lines last shown base pend e s answer stands inside found =
    let line = found.line in
    let is : LineStands base pend last shown e line = subst (LineStands base pend last shown e) found.at (all_at (LineStands base pend last shown e) lines found.k line stands.lines found.within) in
    let matched = is.matched in
    let none : (g : ℕ) → is.epoch < g → g ≤ bars pend → (puts_at g s pend ≡ [] → ⊥) → ⊥ = λ g after upto some.
    let begun = is.begun in
    let other = any_at (λ other. other.sector ≡ s → other.epoch ≤ line.epoch) (is_at (bars pend) last g s) lines found.newest (stands.later g s (omega arith) upto some) in
    let at = is_at-true (bars pend) last g s other.0 other.2 in
    let no_later = other.1 at.1 in
    let same = at.0 in
    omega arith in
    let value : sector_at (before_epoch (is.epoch + 1) base pend) s ≡ line.value =
    before_epoch-next is.epoch base pend s inside
    ∙ ap (last_value (sector_at (before_epoch is.epoch base pend) s)) (ap (λ t. puts_at is.epoch t pend) (sym found.sector) ∙ is.puts)
    ∙ last_value-put (sector_at (before_epoch is.epoch base pend) s) is.earlier is.put ∙ sym is.value in
    found.answer_is ∙ ap Some (sym (still base pend is.epoch s inside is.within none ∙ value))

pub read_newest : (lines : List Line) (last : ℕ) (shown base : List Block) (pend : List Mark) (e s : ℕ) (value : Block) → AreInOrder lines → StandsIn lines last shown base pend e → s < length base
    → newest_of s lines ≡ Some value → value ≡ sector_at (contents_now base pend) s
unfolding newest_of
read_newest lines last shown base pend e s value order stands inside is = elim (newest s None lines order) [
  | inl none ↦ let never : None ≡ Some value = sym none.1 ∙ is in cc
  | inr found ↦ let both : Some value ≡ Some (sector_at (contents_now base pend) s) = sym is ∙ read_line lines last shown base pend e s (fold (chosen s) None lines) stands inside found in cc
]

pub read_shown : (lines : List Line) (last : ℕ) (shown base : List Block) (pend : List Mark) (e s : ℕ) → AreInOrder lines → StandsIn lines last shown base pend e → s < length base
    → newest_of s lines ≡ None → sector_at shown s ≡ sector_at (contents_now base pend) s
unfolding newest_of
read_shown lines last shown base pend e s order stands inside is = elim (newest s None lines order) [
  | inr found ↦ let never : None ≡ Some found.line.value = sym is ∙ found.answer_is in cc
  | inl none ↦
      let gone : (f : ℕ) → list_any (is_at (bars pend) last f s) lines ≡ false = λ f. none_any (is_at (bars pend) last f s) lines
      (all_also (λ line. line.sector ≢ s) (λ line. is_at (bars pend) last f s line ≡ true → ⊥) lines (λ line apart here. apart (is_at-true (bars pend) last f s line here).1) none.0) in
      stands.bare s inside (gone e) ∙ sym (still base pend e s inside stands.within (λ g after upto some. both_ways (list_any (is_at (bars pend) last g s) lines) (gone g) (stands.later g s after upto some)))
]
