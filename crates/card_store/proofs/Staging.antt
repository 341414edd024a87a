-- A line of the epoch that is being written is programmed: it is dropped once that ended well, and else its sector is a mix.
use Rattle.std.proofs.Common.{◌≡◌, ◌≢◌, ℕ, ◌+◌, ◌<◌, inl, inr, Bool, true, false, not, List, [], ◌∷◌, ◌++◌, filter, length, refl, sym, ap, subst, ◌∙◌, arith, get_or-set_same, get_or-set_other}
use Rattle.std.proofs.Math.ListN.{set, length-set}
use Rattle.std.proofs.lemmas.Bool.{cases_Bool, cases_eq, both_ways, or_left, false_from_ne_true}
use Rattle.std.specs.List.{AllByRecursion, list_any}
use Rattle.storage_model.proofs.Latest.{last_value}
use Rattle.storage_model.specs.Contents.{bars, before_epoch, puts_at, sector_at}
use Rattle.storage_model.specs.Granule.{IsMix}
use Rattle.storage_model.specs.declared.block.Block.{Block}
use Rattle.storage_model.specs.declared.marks.Mark.{Mark}
use Rattle.epoch_cache.specs.declared.line.Line.{Line}
use Rattle.epoch_cache.specs.Cache.{is_of}
use Rattle.epoch_cache.proofs.CacheSteps.{is_of-true, is_of-from}
use Rattle.card_store.proofs.Epochs.{before_epoch-next}
use Rattle.card_store.proofs.Segments.{last_value-put, shown-last, shown-torn}
use Rattle.card_store.proofs.Putting.{any_other}
use Rattle.card_store.proofs.Standing.{all_both, is_at-true, is_at-from}
use Rattle.card_store.specs.Stands.{LineStands, StandsIn, IsShown, is_at}

-- the sectors shown, with a value at one

same_sector : (shown : List Block) (s : ℕ) (value : Block) → s < length shown → sector_at (set shown s value) s ≡ value
same_sector shown s value inside = rw get_or-set_same refl

other_sector : (shown : List Block) (at s : ℕ) (value : Block) → s ≢ at → sector_at (set shown at value) s ≡ sector_at shown s
other_sector shown at s value apart = rw get_or-set_other refl

-- a line's value is that of its sector after its epoch
line_value : (base : List Block) (pend : List Mark) (last : ℕ) (shown : List Block) (e : ℕ) (line : Line) → (is : LineStands base pend last shown e line) → is.epoch ≡ e
    → line.value ≡ last_value (sector_at (before_epoch e base pend) line.sector) (puts_at e line.sector pend)
line_value base pend last shown e line is now =
    let puts : puts_at e line.sector pend ≡ is.earlier ++ is.put ∷ [] = ap (λ f. puts_at f line.sector pend) (sym now) ∙ is.puts in
    is.value ∙ sym (ap (last_value (sector_at (before_epoch e base pend) line.sector)) puts ∙ last_value-put (sector_at (before_epoch e base pend) line.sector) is.earlier is.put)

-- a line of another sector or epoch
kept_line : (base : List Block) (pend : List Mark) (last : ℕ) (shown : List Block) (e at : ℕ) (value : Block) (line : Line) → (is : LineStands base pend last shown e line) → (is.epoch ≡ e → line.sector ≢ at)
    → LineStands base pend last (set shown at value) e line
kept_line base pend last shown e at value line is apart = record {
  epoch = is.epoch;
  matched = is.matched;
  begun = is.begun;
  within = is.within;
  sector = is.sector;
  earlier = is.earlier;
  put = is.put;
  puts = is.puts;
  value = is.value;
  later = is.later;
  mixed = λ now. rw (other_sector shown at line.sector value (apart now)) (is.mixed now);
  ordinary = is.ordinary;
}

-- the line, with another value shown of its sector
mixed_line : (base : List Block) (pend : List Mark) (last : ℕ) (shown : List Block) (e : ℕ) (value : Block) (line : Line) → (is : LineStands base pend last shown e line) → line.sector < length shown
    → IsShown line.whole (sector_at (before_epoch e base pend) line.sector) (puts_at e line.sector pend) value → LineStands base pend last (set shown line.sector value) e line
mixed_line base pend last shown e value line is inside mixed = record {
  epoch = is.epoch;
  matched = is.matched;
  begun = is.begun;
  within = is.within;
  sector = is.sector;
  earlier = is.earlier;
  put = is.put;
  puts = is.puts;
  value = is.value;
  later = is.later;
  mixed = λ now. rw (same_sector shown line.sector value inside) mixed;
  ordinary = is.ordinary;
}

-- programmed well

filtered : (P Q : Line → Type 0) (test : Line → Bool) (lines : List Line) → ((line : Line) → P line → test line ≡ false → Q line) → AllByRecursion P lines → AllByRecursion Q (filter (λ line. not (test line)) lines)
filtered P Q test [] also all = tt
filtered P Q test (line ∷ lines) also all = elim (cases_Bool (test line)) [
  | inl out ↦ rw out (filtered P Q test lines also all.1)
  | inr stays ↦ rw stays (also line all.0 stays, filtered P Q test lines also all.1)
]

any_filtered : (p test : Line → Bool) (lines : List Line) → ((line : Line) → p line ≡ true → test line ≡ false) → list_any p lines ≡ true → list_any p (filter (λ line. not (test line)) lines) ≡ true
any_filtered p test [] apart some = some
any_filtered p test (line ∷ lines) apart some = elim (cases_Bool (p line)) [
  | inl here ↦ rw (apart line here) (or_left (p line) (list_any p (filter (λ line. not (test line)) lines)) here)
  | inr gone ↦ elim (cases_Bool (test line)) [
    | inl out ↦ rw out (any_filtered p test lines apart (rw gone at some))
    | inr stays ↦ rw (stays, gone) (any_filtered p test lines apart (rw gone at some))
  ]
]

pub staged_well : (lines : List Line) (last : ℕ) (shown base : List Block) (pend : List Mark) (e : ℕ) (line : Line) → StandsIn lines last shown base pend e → LineStands base pend last shown e line
    → line.epoch + bars pend ≡ e + last → StandsIn (filter (λ other. not (is_of line.epoch line.sector other)) lines) last (set shown line.sector line.value) base pend e
staged_well lines last shown base pend e line stands is now =
    let matched = is.matched in
    let at : is.epoch ≡ e = omega arith in
    let size = stands.sectors in
    let inside = is.sector in
    record {
      within = stands.within;
      sectors = length-set shown line.sector line.value ∙ size;
      lines = filtered (LineStands base pend last shown e) (LineStands base pend last (set shown line.sector line.value) e) (is_of line.epoch line.sector) lines
          (λ other there stays. kept_line base pend last shown e line.sector line.value other there (λ same here.
          let other_matched = there.matched in both_ways (is_of line.epoch line.sector other) stays (is_of-from line.epoch line.sector other (omega arith) here))) stands.lines;
      later = λ f s after upto some. any_filtered (is_at (bars pend) last f s) (is_of line.epoch line.sector) lines
          (λ other here. false_from_ne_true (is_of line.epoch line.sector other) (λ same.
          let a = (is_at-true (bars pend) last f s other here).0 in
          let b = (is_of-true line.epoch line.sector other same).0 in
          omega arith)) (stands.later f s after upto some);
      bare = λ s below gone. elim (cases_eq s line.sector) [
        | inl here ↦
            let there : line.sector < length shown = omega arith in
            rw here (same_sector shown line.sector line.value there ∙ line_value base pend last shown e line is at ∙ sym (before_epoch-next e base pend line.sector inside))
        | inr other ↦ other_sector shown line.sector s line.value other ∙ stands.bare s below (false_from_ne_true (list_any (is_at (bars pend) last e s) lines) (λ some.
            both_ways (list_any (is_at (bars pend) last e s) (filter (λ x. not (is_of line.epoch line.sector x)) lines)) gone (any_filtered (is_at (bars pend) last e s) (is_of line.epoch line.sector) lines
            (λ x here. false_from_ne_true (is_of line.epoch line.sector x) (λ same. other (sym (is_at-true (bars pend) last e s x here).1 ∙ (is_of-true line.epoch line.sector x same).1))) some)))
      ];
    }

-- programmed badly: the line stays, and it is the only one of its sector and epoch
pub staged_badly : (lines : List Line) (last : ℕ) (shown base : List Block) (pend : List Mark) (e : ℕ) (line : Line) (value : Block) → StandsIn lines last shown base pend e → LineStands base pend last shown e line
    → line.epoch + bars pend ≡ e + last → AllByRecursion (λ other. is_of line.epoch line.sector other ≡ true → other ≡ line) lines → list_any (is_of line.epoch line.sector) lines ≡ true
    → IsShown line.whole (sector_at (before_epoch e base pend) line.sector) (puts_at e line.sector pend) value → StandsIn lines last (set shown line.sector value) base pend e
staged_badly lines last shown base pend e line value stands is now only some mixed =
    let size = stands.sectors in
    let inside = is.sector in
    let there : line.sector < length shown = omega arith in
    let P : Line → Type 0 = LineStands base pend last shown e in
    let Q : Line → Type 0 = LineStands base pend last (set shown line.sector value) e in
    record {
      within = stands.within;
      sectors = length-set shown line.sector value ∙ size;
      lines = all_both P (λ other. is_of line.epoch line.sector other ≡ true → other ≡ line) Q lines
          (λ other here same. elim (cases_Bool (is_of line.epoch line.sector other)) [
            | inl it ↦ subst Q (sym (same it)) (mixed_line base pend last shown e value line is there mixed)
            | inr another ↦ kept_line base pend last shown e line.sector value other here (λ at s.
                let other_matched = here.matched in both_ways (is_of line.epoch line.sector other) another (is_of-from line.epoch line.sector other (omega arith) s))
          ]) stands.lines only;
      later = stands.later;
      bare = λ s below gone.
          let apart : s ≢ line.sector = λ same. both_ways (list_any (is_at (bars pend) last e s) lines) gone (any_other (is_of line.epoch line.sector) (is_at (bars pend) last e s) lines
          (λ other it. let parts = is_of-true line.epoch line.sector other it in let epoch = parts.0 in is_at-from (bars pend) last e s other (omega arith) (parts.1 ∙ sym same)) some) in
          other_sector shown line.sector s value apart ∙ stands.bare s below gone;
    }

-- the values that a failed program may leave

pub left_torn : (base : List Block) (pend : List Mark) (last : ℕ) (shown : List Block) (e : ℕ) (line : Line) (w : Block) → (is : LineStands base pend last shown e line) → line.epoch + bars pend ≡ e + last → line.whole ≡ false
    → IsMix (sector_at shown line.sector) line.value w → IsShown line.whole (sector_at (before_epoch e base pend) line.sector) (puts_at e line.sector pend) w
left_torn base pend last shown e line w is now ordinary torn =
    let matched = is.matched in
    let at : is.epoch ≡ e = omega arith in
    shown-torn line.whole (sector_at (before_epoch e base pend) line.sector) (puts_at e line.sector pend) (sector_at shown line.sector) w ordinary (is.mixed at)
    (subst (λ v. IsMix (sector_at shown line.sector) v w) (line_value base pend last shown e line is at) torn)

pub left_whole : (base : List Block) (pend : List Mark) (last : ℕ) (shown : List Block) (e : ℕ) (line : Line) → (is : LineStands base pend last shown e line) → line.epoch + bars pend ≡ e + last
    → IsShown line.whole (sector_at (before_epoch e base pend) line.sector) (puts_at e line.sector pend) line.value
left_whole base pend last shown e line is now =
    let matched = is.matched in
    let at : is.epoch ≡ e = omega arith in
    subst (IsShown line.whole (sector_at (before_epoch e base pend) line.sector) (puts_at e line.sector pend)) (sym (line_value base pend last shown e line is at))
    (shown-last line.whole (sector_at (before_epoch e base pend) line.sector) (puts_at e line.sector pend))
