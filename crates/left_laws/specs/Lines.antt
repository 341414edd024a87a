-- What a cut left, line by line, and the state after each line.
use Rattle.std.specs.Prelude.{◌≡◌, ℕ, zero, suc, ◌+◌, ◌==◌, Bool, true, false, if◌then◌else◌, is_none, All, List, [], filter, length, map}
use Rattle.std.specs.List.{list_any, range_with_len}
use Rattle.storage_machine.specs.Cuts.{next_left}
use Rattle.storage_machine.specs.declared.state.Event.TheVariants.{Untold}
use Rattle.storage_machine.specs.declared.state.Owed.TheVariants.{Nothing, Left as LeftOwed}
use Rattle.storage_machine.specs.declared.state.State.{State}
use Rattle.storage_model.specs.Contents.{IsWithin, sector_at}
use Rattle.storage_model.specs.Left.{every_below, is_left, mix_at}
use Rattle.storage_model.specs.declared.block.Block.{Block}
use Rattle.storage_model.specs.declared.marks.Mark.{Mark}
use Rattle.storage_model.specs.declared.marks.Mark.TheVariants.{Put as PutMark, Bar}
use Rattle.storage_model.specs.declared.trace.Item.{Item}
use Rattle.storage_model.specs.declared.trace.Item.TheVariants.{Left}
use Rattle.trace_effects.specs.Cuts.{all_epochs}
use Rattle.trace_effects.specs.Effects.{left_mark}

-- a mark is a put on sector k, and some mark is one
abbrev pub is_put_on : ℕ → Mark → Bool
is_put_on k (PutMark put) = put.sector == k
is_put_on k Bar = false

abbrev pub has_put : ℕ → List Mark → Bool
has_put k pend = list_any (is_put_on k) pend

-- the sectors below n that have a put
abbrev pub put_sectors : List Mark → ℕ → List ℕ
put_sectors pend n = filter (λ k. has_put k pend) (range_with_len 0 n)

-- the line of a sector, those of the sectors below n, and all
abbrev pub left_line : List Block → ℕ → Item
left_line after k = Left k (sector_at after k)

abbrev pub lines_below : List Mark → List Block → ℕ → List Item
lines_below pend after n = map (left_line after) (put_sectors pend n)

abbrev pub left_lines : List Mark → List Block → List Item
left_lines pend after = lines_below pend after (length after)

-- the power is on, and what is left of each sector with a put is owed
pub record OwesLeft (s : State) : Type 0 where
  pub owed : s.owed ≡ LeftOwed 0
  pub event : s.event ≡ Untold
  pub lefts : s.lefts ≡ []
  pub epochs : s.epochs ≡ all_epochs s.pend
  pub sector : ℕ
  pub put : has_put sector s.pend ≡ true
  pub within : All (IsWithin s.base) s.pend

-- `after` may be left: a sector without a put is as it was kept
pub record CanBeLeft (base : List Block) (pend : List Mark) (after : List Block) : Type 0 where
  pub size : length after ≡ length base
  pub rest : (k : ℕ) → has_put k pend ≡ false → sector_at after k ≡ sector_at base k
  pub left : is_left base pend after ≡ true

-- the first sector behind the last one below n that has a put
abbrev pub shown_to : List Mark → ℕ → ℕ
shown_to pend zero = 0
shown_to pend (suc n) = if has_put n pend then n + 1 else shown_to pend n

-- the values of the sectors below n, and the epochs that allow them
abbrev pub lefts_below : List Mark → List Block → ℕ → List Mark
lefts_below pend after n = map (λ k. left_mark k (sector_at after k)) (put_sectors pend n)

abbrev pub is_mix_below : List Block → List Mark → List Block → ℕ → ℕ → Bool
is_mix_below base pend after n e = every_below n (λ k. mix_at base pend e k (sector_at after k))

abbrev pub epochs_below : List Block → List Mark → List Block → ℕ → List ℕ
epochs_below base pend after n = filter (is_mix_below base pend after n) (all_epochs pend)

-- the state where the lines of the sectors below n are shown, and a further one is owed
abbrev pub part_shown : State → List Block → ℕ → State
part_shown s after n = record s {
  lefts = lefts_below s.pend after n;
  epochs = epochs_below s.base s.pend after n;
  owed = LeftOwed (shown_to s.pend n);
  event = Untold;
}

-- and where all are shown
abbrev pub all_shown : State → List Block → State
all_shown s after = record s { base = after; pend = []; kept = false; deferred = false; lefts = []; epochs = []; owed = Nothing; event = Untold }

unfoldable pub shown_below : State → List Block → ℕ → State
shown_below s after n = if is_none (next_left s.pend n) then all_shown s after else part_shown s after n
