-- A line that is at the front of its epoch is programmed.
use Rattle.std.proofs.Common.{◌≡◌, ℕ, ◌+◌, ◌-◌, ◌<◌, ◌≤◌, ◌⊎◌, inl, inr, Bool, true, false, Option, Some, None, List, [], ◌∷◌, get_or, remove, length, slice_get, refl, subst, ◌∙◌, arith}
use Rattle.std.proofs.Math.ListN.{set}
use Rattle.std.specs.List.{AllByRecursion, list_any}
use Rattle.std.proofs.lemmas.Bool.{cases_Bool}
use Rattle.std.proofs.lemmas.List.Folds.{list_any_at}
use Rattle.std.proofs.lemmas.Option.{slice_get_within, get_or_from_slice_get}
use Rattle.storage_model.specs.Contents.{bars, before_epoch, puts_at, sector_at}
use Rattle.storage_model.specs.declared.block.Block.{Block}
use Rattle.storage_model.specs.declared.marks.Mark.{Mark}
use Rattle.array_edge.specs.Array.{IsTorn, with_page}
use Rattle.epoch_cache.specs.declared.line.Line.{Line}
use Rattle.epoch_cache.specs.Cache.{AreInOrder, Cache, IsBefore, is_of}
use Rattle.epoch_cache.proofs.CacheSteps.{is_of-from, one_out, same_line}
use Rattle.epoch_cache.proofs.TableSteps.{all_at}
use Rattle.card_store.proofs.Staging.{left_torn, left_whole, staged_badly, staged_well}
use Rattle.card_store.proofs.Standing.{all_also, later_epoch}
use Rattle.card_store.specs.Stands.{LineStands, LinesStand, StandsAt, StandsIn, IsShown}

-- line k, no line being of an earlier epoch
pub record IsFront (lines : List Line) (k : ℕ) (line : Line) : Type 0 where
  pub order : AreInOrder lines
  pub within : k < length lines
  pub at : get_or lines k line ≡ line
  pub front : AllByRecursion (λ other. line.epoch ≤ other.epoch) lines

first_front : (lines : List Line) (line : Line) → AreInOrder lines → slice_get lines 0 ≡ Some line → AllByRecursion (λ other. line.epoch ≤ other.epoch) lines
first_front [] line order is = tt
first_front (first ∷ lines) line order is =
    let same : first ≡ line = cc in
    subst (λ (l : Line). AllByRecursion (λ other. l.epoch ≤ other.epoch) (first ∷ lines)) same (omega arith, all_also (IsBefore first) (λ other. first.epoch ≤ other.epoch) lines (λ other before. before.epoch) order.0)

pub first_in_front : (lines : List Line) (line : Line) → AreInOrder lines → slice_get lines 0 ≡ Some line → IsFront lines 0 line
first_in_front lines line order is = record {
  order = order;
  within = slice_get_within lines 0 line is;
  at = get_or_from_slice_get lines 0 line line is;
  front = first_front lines line order is;
}

-- its epoch is the one that is being written
record IsWritten (lines : List Line) (last : ℕ) (shown base : List Block) (pend : List Mark) (line : Line) : Type 0 where
  pub e : ℕ
  pub stands : StandsIn lines last shown base pend e
  pub line_stands : LineStands base pend last shown e line
  pub now : line.epoch + bars pend ≡ e + last

written : (lines : List Line) (last k e : ℕ) (shown base : List Block) (pend : List Mark) (line : Line) → IsFront lines k line → StandsIn lines last shown base pend e → IsWritten lines last shown base pend line
written lines last k e shown base pend line is stands =
    let here : LineStands base pend last shown e line = subst (LineStands base pend last shown e) is.at (all_at (LineStands base pend last shown e) lines k line stands.lines is.within) in
    let matched = here.matched in
    let begun = here.begun in
    let upto = here.within in
    let more : e + (here.epoch - e) ≡ here.epoch = omega arith in
    let past : AllByRecursion (λ other. e + (here.epoch - e) + last ≤ other.epoch + bars pend) lines
    = all_also (λ other. line.epoch ≤ other.epoch) (λ other. e + (here.epoch - e) + last ≤ other.epoch + bars pend) lines (λ other after. omega arith) is.front in
    let stands' : StandsIn lines last shown base pend here.epoch = subst (StandsIn lines last shown base pend) more (later_epoch lines last shown base pend e (here.epoch - e) (omega arith) past stands) in
    record {
      e = here.epoch;
      stands = stands';
      line_stands = subst (LineStands base pend last shown here.epoch) is.at (all_at (LineStands base pend last shown here.epoch) lines k line stands'.lines is.within);
      now = matched;
    }

pub programmed_well : (cache : Cache) (k : ℕ) (line : Line) (shown shown' : Option (List Block)) (base : List Block) (pend : List Mark) → IsFront cache.lines k line → shown' ≡ with_page shown line.sector line.value
    → LinesStand cache shown base pend → LinesStand (record cache { lines = remove cache.lines k }) shown' base pend
programmed_well cache k line None shown' base pend is told stands = rw told tt
programmed_well cache k line (Some shown) shown' base pend is told stands =
    let at = written cache.lines cache.last k stands.e shown base pend line is stands.is in
    let here : is_of line.epoch line.sector (get_or cache.lines k line) ≡ true = rw is.at (is_of-from line.epoch line.sector line refl refl) in
    let out = one_out line.epoch line.sector cache.lines k line is.order is.within here in
    rw told (record { e = at.e; is = rw (← out) (staged_well cache.lines cache.last shown base pend at.e line at.stands at.line_stands at.now) })

is_among : (test : Line → Bool) (lines : List Line) (k : ℕ) (d : Line) → k < length lines → test (get_or lines k d) ≡ true → list_any test lines ≡ true
is_among test lines k d below here = list_any_at test lines k d below here

badly : (cache : Cache) (k : ℕ) (line : Line) (shown : List Block) (base : List Block) (pend : List Mark) (w : Block) → IsFront cache.lines k line
    → ((e : ℕ) → LineStands base pend cache.last shown e line → line.epoch + bars pend ≡ e + cache.last → IsShown line.whole (sector_at (before_epoch e base pend) line.sector) (puts_at e line.sector pend) w)
    → StandsAt cache base pend shown → StandsAt cache base pend (set shown line.sector w)
badly cache k line shown base pend w is mixed stands =
    let at = written cache.lines cache.last k stands.e shown base pend line is stands.is in
    let here : is_of line.epoch line.sector (get_or cache.lines k line) ≡ true = rw is.at (is_of-from line.epoch line.sector line refl refl) in
    let only : AllByRecursion (λ other. is_of line.epoch line.sector other ≡ true → other ≡ line) cache.lines
    = all_also (λ other. is_of line.epoch line.sector other ≡ true → other ≡ get_or cache.lines k line) (λ other. is_of line.epoch line.sector other ≡ true → other ≡ line) cache.lines (λ other same it. same it ∙ is.at)
    (same_line line.epoch line.sector cache.lines k line is.order is.within here) in
    record { e = at.e; is = staged_badly cache.lines cache.last shown base pend at.e line w at.stands at.line_stands at.now only (is_among (is_of line.epoch line.sector) cache.lines k line is.within here) (mixed at.e at.line_stands at.now) }

pub programmed_torn : (cache : Cache) (k : ℕ) (line : Line) (shown shown' : Option (List Block)) (base : List Block) (pend : List Mark) → IsFront cache.lines k line → line.whole ≡ false → IsTorn shown line.sector line.value shown'
    → LinesStand cache shown base pend → LinesStand cache shown' base pend
programmed_torn cache k line None shown' base pend is ordinary torn stands = rw torn.told tt
programmed_torn cache k line (Some shown) shown' base pend is ordinary torn stands =
    rw torn.told (badly cache k line shown base pend torn.left is (λ e here now. left_torn base pend cache.last shown e line torn.left here now ordinary torn.mix) stands)

pub programmed_whole : (cache : Cache) (k : ℕ) (line : Line) (shown shown' : Option (List Block)) (base : List Block) (pend : List Mark) → IsFront cache.lines k line
    → (shown' ≡ shown) ⊎ (shown' ≡ with_page shown line.sector line.value) → LinesStand cache shown base pend → LinesStand cache shown' base pend
programmed_whole cache k line shown shown' base pend is (inl same) stands = rw same stands
programmed_whole cache k line None shown' base pend is (inr told) stands = rw told tt
programmed_whole cache k line (Some shown) shown' base pend is (inr told) stands =
    rw told (badly cache k line shown base pend line.value is (λ e here now. left_whole base pend cache.last shown e line here now) stands)

pub programmed_badly : (cache : Cache) (k : ℕ) (line : Line) (shown shown' : Option (List Block)) (base : List Block) (pend : List Mark) → IsFront cache.lines k line → (line.whole ≡ false → IsTorn shown line.sector line.value shown')
    → (line.whole ≡ true → (shown' ≡ shown) ⊎ (shown' ≡ with_page shown line.sector line.value)) → LinesStand cache shown base pend → LinesStand cache shown' base pend
programmed_badly cache k line shown shown' base pend is torn whole stands = elim (cases_Bool line.whole) [
  | inl yes_whole ↦ programmed_whole cache k line shown shown' base pend is (whole yes_whole) stands
  | inr ordinary ↦ programmed_torn cache k line shown shown' base pend is ordinary (torn ordinary) stands
]
