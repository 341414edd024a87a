-- Lines and the sectors shown stand for marks: at the next epoch, after a barrier, and what may be left.
use Rattle.std.proofs.Common.{◌≡◌, ℕ, ◌+◌, ◌<◌, ◌≤◌, suc, zero, ◌⊎◌, inl, inr, Bool, true, false, ◌==◌, List, [], ◌∷◌, ◌++◌, length, refl, sym, ap, ◌∙◌, arith}
use Rattle.std.proofs.lemmas.Bool.{cases_Bool, cases_lt, eqb-true, eq-eqb, both_ways, or_parts, false_from_ne_true, and_parts}
use Rattle.std.specs.List.{AllByRecursion, list_any}
use Rattle.storage_model.proofs.Appends.{bars-append, puts_at-past}
use Rattle.storage_model.proofs.Cuts.{is_left-from, is_left_in-from}
use Rattle.storage_model.proofs.Latest.{last_value, segments-last}
use Rattle.storage_model.proofs.Remains.{is_mix-own}
use Rattle.storage_model.specs.Contents.{bars, before_epoch, puts_at, sector_at}
use Rattle.storage_model.specs.Left.{is_left, mix_at}
use Rattle.storage_model.specs.declared.block.Block.{Block}
use Rattle.storage_model.specs.declared.marks.Put.{Put}
use Rattle.storage_model.specs.declared.marks.Mark.{Mark}
use Rattle.storage_model.specs.declared.marks.Mark.TheVariants.{Bar}
use Rattle.epoch_cache.specs.declared.line.Line.{Line}
use Rattle.card_store.proofs.Epochs.{before_epoch-next, before_epoch-bar, puts_at-bar_last}
use Rattle.card_store.proofs.Segments.{shown-left, shown-start, some_reliable-put}
use Rattle.card_store.specs.Stands.{LineStands, StandsIn, is_at, some_reliable}

-- tests of a line

pub is_at-true : (n last f s : ℕ) (line : Line) → is_at n last f s line ≡ true → (line.epoch + n ≡ f + last) × (line.sector ≡ s)
is_at-true n last f s line h = let parts = and_parts (line.epoch + n == f + last) (line.sector == s) h in (eqb-true (line.epoch + n) (f + last) parts.0, eqb-true line.sector s parts.1)

pub is_at-from : (n last f s : ℕ) (line : Line) → line.epoch + n ≡ f + last → line.sector ≡ s → is_at n last f s line ≡ true
is_at-from n last f s line same same' = rw (eq-eqb (line.epoch + n) (f + last) same, eq-eqb line.sector s same') refl

pub none_any : (test : Line → Bool) (lines : List Line) → AllByRecursion (λ line. test line ≡ true → ⊥) lines → list_any test lines ≡ false
none_any test [] none = refl
none_any test (line ∷ lines) none = rw (false_from_ne_true (test line) none.0) (none_any test lines none.1)

pub all_also : (P Q : Line → Type 0) (lines : List Line) → ((line : Line) → P line → Q line) → AllByRecursion P lines → AllByRecursion Q lines
all_also P Q [] also all = tt
all_also P Q (line ∷ lines) also all = (also line all.0, all_also P Q lines also all.1)

pub all_both : (P Q R : Line → Type 0) (lines : List Line) → ((line : Line) → P line → Q line → R line) → AllByRecursion P lines → AllByRecursion Q lines → AllByRecursion R lines
all_both P Q R [] also all other = tt
all_both P Q R (line ∷ lines) also all other = (also line all.0 other.0, all_both P Q R lines also all.1 other.1)

-- a list that isn't empty: so it is, or not
pub some_or_none : (puts : List Put) → (puts ≡ []) ⊎ ((puts ≡ []) → ⊥)
some_or_none [] = inl refl
some_or_none (put ∷ puts) = inr (λ none. cc)

-- the next epoch, where all lines are of it or later

next_line : (base : List Block) (pend : List Mark) (last : ℕ) (shown : List Block) (e : ℕ) (line : Line) → ((s : ℕ) → s < length base → sector_at shown s ≡ sector_at (before_epoch (e + 1) base pend) s)
    → LineStands base pend last shown e line → e + 1 + last ≤ line.epoch + bars pend → LineStands base pend last shown (e + 1) line
next_line base pend last shown e line bare is past =
    let matched = is.matched in
    let some : (puts_at is.epoch line.sector pend) ≡ is.earlier ++ is.put ∷ [] = is.puts in
    record {
      epoch = is.epoch;
      matched = is.matched;
      begun = omega arith;
      within = is.within;
      sector = is.sector;
      earlier = is.earlier;
      put = is.put;
      puts = is.puts;
      value = is.value;
      later = λ after. is.later (omega arith);
      mixed = λ now.
          let whole : line.whole ≡ some_reliable (puts_at (e + 1) line.sector pend) = is.later (omega arith) ∙ ap (λ f. some_reliable (puts_at f line.sector pend)) now in
          rw (bare line.sector is.sector) (shown-start line.whole (sector_at (before_epoch (e + 1) base pend) line.sector) (puts_at (e + 1) line.sector pend) whole);
      ordinary = λ now still.
          let none : some_reliable (is.earlier ++ is.put ∷ []) ≡ false = ap some_reliable (sym some) ∙ sym (is.later (omega arith)) ∙ still in
          (or_parts (some_reliable is.earlier) is.put.reliable (sym (some_reliable-put is.earlier is.put) ∙ none)).1;
    }

next_epoch : (lines : List Line) (last : ℕ) (shown base : List Block) (pend : List Mark) (e : ℕ) → e + 1 ≤ bars pend → AllByRecursion (λ line. e + 1 + last ≤ line.epoch + bars pend) lines
    → StandsIn lines last shown base pend e → StandsIn lines last shown base pend (e + 1)
next_epoch lines last shown base pend e within past is =
    let none : (s : ℕ) → list_any (is_at (bars pend) last e s) lines ≡ false = λ s. none_any (is_at (bars pend) last e s) lines
    (all_also (λ line. e + 1 + last ≤ line.epoch + bars pend) (λ line. is_at (bars pend) last e s line ≡ true → ⊥) lines (λ line after here. let at = (is_at-true (bars pend) last e s line here).0 in omega arith) past) in
    let bare : (s : ℕ) → s < length base → sector_at shown s ≡ sector_at (before_epoch (e + 1) base pend) s = λ s inside. is.bare s inside (none s) in
    record {
      within = within;
      sectors = is.sectors;
      lines = all_both (LineStands base pend last shown e) (λ line. e + 1 + last ≤ line.epoch + bars pend) (LineStands base pend last shown (e + 1)) lines (λ line here after. next_line base pend last shown e line bare here after) is.lines past;
      later = λ f s after upto some. is.later f s (omega arith) upto some;
      bare = λ s inside gone.
          let empty : puts_at (e + 1) s pend ≡ [] = elim (some_or_none (puts_at (e + 1) s pend)) [
            | inl empty ↦ empty
            | inr some ↦ absurd (both_ways (list_any (is_at (bars pend) last (e + 1) s) lines) gone (is.later (e + 1) s (omega arith) within some))
          ] in
          bare s inside ∙ sym (before_epoch-next (e + 1) base pend s inside ∙ ap (last_value (sector_at (before_epoch (e + 1) base pend) s)) empty);
    }

pub later_epoch : (lines : List Line) (last : ℕ) (shown base : List Block) (pend : List Mark) (e more : ℕ) → e + more ≤ bars pend → AllByRecursion (λ line. e + more + last ≤ line.epoch + bars pend) lines
    → StandsIn lines last shown base pend e → StandsIn lines last shown base pend (e + more)
later_epoch lines last shown base pend e zero within past is = let same : e + 0 ≡ e = omega arith in rw same is
later_epoch lines last shown base pend e (suc more) within past is =
    let next : e + suc more ≡ e + more + 1 = omega arith in
    let past' : AllByRecursion (λ line. e + more + 1 + last ≤ line.epoch + bars pend) lines = all_also (λ line. e + suc more + last ≤ line.epoch + bars pend) (λ line. e + more + 1 + last ≤ line.epoch + bars pend) lines (λ line h. omega arith) past in
    rw next (next_epoch lines last shown base pend (e + more) (omega arith) past'
    (later_epoch lines last shown base pend e more (omega arith) (all_also (λ line. e + suc more + last ≤ line.epoch + bars pend) (λ line. e + more + last ≤ line.epoch + bars pend) lines (λ line h. omega arith) past) is))

-- a barrier

is_at-bar : (n last f s : ℕ) (line : Line) → is_at (n + 1) (last + 1) f s line ≡ is_at n last f s line
is_at-bar n last f s line = elim (cases_Bool (is_at n last f s line)) [
  | inl here ↦ let at = is_at-true n last f s line here in let same = at.0 in is_at-from (n + 1) (last + 1) f s line (omega arith) at.1 ∙ sym here
  | inr gone ↦ false_from_ne_true (is_at (n + 1) (last + 1) f s line) (λ here. let at = is_at-true (n + 1) (last + 1) f s line here in let same = at.0 in both_ways (is_at n last f s line) gone (is_at-from n last f s line (omega arith) at.1)) ∙ sym gone
]

any_bar : (n last f s : ℕ) (lines : List Line) → list_any (is_at (n + 1) (last + 1) f s) lines ≡ list_any (is_at n last f s) lines
any_bar n last f s [] = refl
any_bar n last f s (line ∷ lines) = rw (is_at-bar n last f s line, any_bar n last f s lines) refl

bars-bar : (pend : List Mark) → bars (pend ++ Bar ∷ []) ≡ bars pend + 1
bars-bar pend = bars-append pend (Bar ∷ [])

bar_line : (base : List Block) (pend : List Mark) (last : ℕ) (shown : List Block) (e : ℕ) (line : Line) → LineStands base pend last shown e line → LineStands base (pend ++ Bar ∷ []) (last + 1) shown e line
bar_line base pend last shown e line is =
    let more = bars-bar pend in
    let matched = is.matched in
    let within = is.within in
    record {
      epoch = is.epoch;
      matched = omega arith;
      begun = is.begun;
      within = omega arith;
      sector = is.sector;
      earlier = is.earlier;
      put = is.put;
      puts = puts_at-bar_last is.epoch line.sector pend ∙ is.puts;
      value = is.value;
      later = λ after. is.later after ∙ ap some_reliable (sym (puts_at-bar_last is.epoch line.sector pend));
      mixed = λ now. rw (before_epoch-bar e base pend, puts_at-bar_last e line.sector pend) (is.mixed now);
      ordinary = is.ordinary;
    }

pub stands_bar : (lines : List Line) (last : ℕ) (shown base : List Block) (pend : List Mark) (e : ℕ) → StandsIn lines last shown base pend e → StandsIn lines (last + 1) shown base (pend ++ Bar ∷ []) e
stands_bar lines last shown base pend e is =
    let more = bars-bar pend in
    let within = is.within in
    record {
      within = omega arith;
      sectors = is.sectors;
      lines = all_also (LineStands base pend last shown e) (LineStands base (pend ++ Bar ∷ []) (last + 1) shown e) lines (bar_line base pend last shown e) is.lines;
      later = λ f s after upto some.
          let some' : puts_at f s pend ≡ [] → ⊥ = λ none. some (puts_at-bar_last f s pend ∙ none) in
          elim (cases_lt f (bars pend + 1)) [
            | inl below ↦ rw (more, any_bar (bars pend) last f s lines) (is.later f s after (omega arith) some')
            | inr past ↦ absurd (some' (puts_at-past f s pend (omega arith)))
          ];
      bare = λ s inside gone. rw (before_epoch-bar (e + 1) base pend) (is.bare s inside (sym (any_bar (bars pend) last e s lines) ∙ rw more at gone));
    }

-- what is shown may be left

pub any_at : (P : Line → Type 0) (test : Line → Bool) (lines : List Line) → AllByRecursion P lines → list_any test lines ≡ true → (line : Line) × P line × (test line ≡ true)
any_at P test [] all some = absurd (both_ways false refl some)
any_at P test (line ∷ lines) all some = elim (cases_Bool (test line)) [
  | inl here ↦ (line, all.0, here)
  | inr gone ↦ any_at P test lines all.1 (rw gone at some)
]

pub stands_left : (lines : List Line) (last : ℕ) (shown base : List Block) (pend : List Mark) (e : ℕ) → StandsIn lines last shown base pend e → is_left base pend shown ≡ true
unfolding mix_at
stands_left lines last shown base pend e is = is_left-from base pend shown e is.within (is_left_in-from base pend shown e (λ s inside. elim (cases_Bool (list_any (is_at (bars pend) last e s) lines)) [
  | inl some ↦
      let found = any_at (LineStands base pend last shown e) (is_at (bars pend) last e s) lines is.lines some in
      let line = found.0 in
      let stands = found.1 in
      let at = is_at-true (bars pend) last e s line found.2 in
      let matched = stands.matched in
      let same = at.0 in
      let now : stands.epoch ≡ e = omega arith in
      rw at.1 at (shown-left line.whole (sector_at (before_epoch e base pend) line.sector) (puts_at e line.sector pend) (sector_at shown line.sector) (stands.mixed now))
  | inr gone ↦
      let value : sector_at shown s ≡ last_value (sector_at (before_epoch e base pend) s) (puts_at e s pend) = is.bare s inside gone ∙ before_epoch-next e base pend s inside in
      rw value (segments-last [] (sector_at (before_epoch e base pend) s) (puts_at e s pend) (last_value (sector_at (before_epoch e base pend) s) (puts_at e s pend)) (is_mix-own (last_value (sector_at (before_epoch e base pend) s) (puts_at e s pend))))
]))
