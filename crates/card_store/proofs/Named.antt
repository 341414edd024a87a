-- A line of the last epoch, where all lines are of it.
use Rattle.std.proofs.Common.{◌≡◌, ℕ, ◌+◌, ◌<◌, ◌≤◌, suc, zero, Bool, true, false, not, Some, List, [], ◌∷◌, take, filter, get_or, remove, length, slice_get, refl, ap, subst, arith}
use Rattle.std.proofs.lemmas.List.{take_more}
use Rattle.std.proofs.lemmas.Option.{slice_get_within, get_or_from_slice_get}
use Rattle.std.specs.List.{AllByRecursion, list_any}
use Rattle.std.proofs.lemmas.List.Folds.{list_any_at}
use Rattle.epoch_cache.specs.declared.line.Line.{Line}
use Rattle.epoch_cache.specs.Cache.{AreInOrder, is_of}
use Rattle.epoch_cache.proofs.CacheSteps.{is_of-from, one_out}
use Rattle.epoch_cache.proofs.TableSteps.{all_at, all_more}
use Rattle.card_store.proofs.Standing.{all_also}
use Rattle.card_store.proofs.Steps.{IsFront}

pub last_at : (lines : List Line) (last k : ℕ) (line : Line) → slice_get lines k ≡ Some line → AllByRecursion (λ line. line.epoch ≡ last) lines → line.epoch ≡ last
last_at lines last k line is now = subst (λ (l : Line). l.epoch ≡ last) (get_or_from_slice_get lines k line line is) (all_at (λ line. line.epoch ≡ last) lines k line now (slice_get_within lines k line is))

pub last_in_front : (lines : List Line) (last k : ℕ) (line : Line) → AreInOrder lines → slice_get lines k ≡ Some line → AllByRecursion (λ line. line.epoch ≡ last) lines → IsFront lines k line
last_in_front lines last k line order is now =
    let here = last_at lines last k line is now in
    record {
      order = order;
      within = slice_get_within lines k line is;
      at = get_or_from_slice_get lines k line line is;
      front = all_also (λ other. other.epoch ≡ last) (λ other. line.epoch ≤ other.epoch) lines (λ other same. omega arith) now;
    }

is_here : (lines : List Line) (last k : ℕ) (line : Line) → slice_get lines k ≡ Some line → AllByRecursion (λ line. line.epoch ≡ last) lines → is_of last line.sector (get_or lines k line) ≡ true
is_here lines last k line is now = rw (get_or_from_slice_get lines k line line is) (is_of-from last line.sector line (last_at lines last k line is now) refl)

pub among_last : (lines : List Line) (last k : ℕ) (line : Line) → slice_get lines k ≡ Some line → AllByRecursion (λ line. line.epoch ≡ last) lines → list_any (is_of last line.sector) lines ≡ true
among_last lines last k line is now = list_any_at (is_of last line.sector) lines k line (slice_get_within lines k line is) (is_here lines last k line is now)

pub out_of_last : (lines : List Line) (last k : ℕ) (line : Line) → AreInOrder lines → slice_get lines k ≡ Some line → AllByRecursion (λ line. line.epoch ≡ last) lines → filter (λ other. not (is_of last line.sector other)) lines ≡ remove lines k
out_of_last lines last k line order is now = one_out last line.sector lines k line order (slice_get_within lines k line is) (is_here lines last k line is now)

-- a line taken out behind others

pub take_less : (lines : List Line) (k : ℕ) → k ≤ length lines → take k (remove lines k) ≡ take k lines
take_less lines zero within = refl
take_less [] (suc k) within = absurd (omega arith)
take_less (line ∷ lines) (suc k) within = ap (λ rest. line ∷ rest) (take_less lines k (omega arith))

pub long_less : (lines : List Line) (k : ℕ) → k < length lines → k ≤ length (remove lines k)
long_less [] k within = absurd (omega arith)
long_less (line ∷ lines) zero within = omega arith
long_less (line ∷ lines) (suc k) within = let rest = long_less lines k (omega arith) in omega arith

pub more_spared : (named : ℕ → Bool) (lines : List Line) (k : ℕ) (line : Line) → slice_get lines k ≡ Some line → named line.sector ≡ false → AllByRecursion (λ line. named line.sector ≡ false) (take k lines) → AllByRecursion (λ line. named line.sector ≡ false) (take (k + 1) lines)
more_spared named lines k line is spared all =
    rw (take_more lines k line (slice_get_within lines k line is)) (all_more (λ line. named line.sector ≡ false) (take k lines) (get_or lines k line) all (rw (get_or_from_slice_get lines k line line is) spared))
