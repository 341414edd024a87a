-- What the lines of a cache and the sectors that an array shows stand for: contents, and marks over them (JESD84-B51, the cache and its barrier).
use Rattle.std.specs.Prelude.{◌≡◌, ℕ, ◌+◌, ◌<◌, ◌≤◌, ◌==◌, Bool, true, false, ◌&&◌, if◌then◌else◌, List, [], ◌∷◌, ◌++◌, fold, length, Option, IfSome}
use Rattle.std.specs.List.{AllByRecursion, list_any}
use Rattle.storage_model.specs.Contents.{bars, before_epoch, puts_at, sector_at}
use Rattle.storage_model.specs.Left.{is_mix, is_mix_of_segment, segments}
use Rattle.storage_model.specs.declared.block.Block.{Block}
use Rattle.storage_model.specs.declared.marks.Put.{Put}
use Rattle.storage_model.specs.declared.marks.Mark.{Mark}
use Rattle.epoch_cache.specs.Cache.{Cache}
use Rattle.epoch_cache.specs.declared.line.Line.{Line}

-- Epochs are matched from the last backwards: the cache counts from its start, marks from their first.
-- A line is that of sector s in epoch f of marks with n barriers.
abbrev pub is_at : ℕ → ℕ → ℕ → ℕ → Line → Bool
is_at n last f s line = (line.epoch + n == f + last) && (line.sector == s)

-- the values of the last segment of puts, which are parted in front of each reliable one
unfoldable pub last_segment : List Block → List Put → List Block
last_segment values puts = fold (λ segment put. if put.reliable then put.value ∷ [] else segment ++ put.value ∷ []) values puts

-- What is shown of a sector while its line is being programmed. Of one that is programmed in place it is a mix of the last
-- segment, of one that is programmed whole a mix of some segment.
abbrev pub IsShown : Bool → Block → List Put → Block → Type 0
IsShown true start puts shown = is_mix_of_segment (segments (start ∷ []) puts) shown ≡ true
IsShown false start puts shown = is_mix (last_segment (start ∷ []) puts) shown ≡ true

abbrev pub some_reliable : List Put → Bool
some_reliable puts = list_any (λ put. put.reliable) puts

-- A line stands for the puts on its sector in its epoch, where epoch e is the one that is being written.
pub record LineStands (base : List Block) (pend : List Mark) (last : ℕ) (shown : List Block) (e : ℕ) (line : Line) : Type 0 where
  pub epoch : ℕ
  pub matched : line.epoch + bars pend ≡ epoch + last
  pub begun : e ≤ epoch
  pub within : epoch ≤ bars pend
  pub sector : line.sector < length base
  pub earlier : List Put
  pub put : Put
  pub puts : puts_at epoch line.sector pend ≡ earlier ++ put ∷ []
  pub value : line.value ≡ put.value
  pub later : e < epoch → line.whole ≡ some_reliable (puts_at epoch line.sector pend)
  pub mixed : epoch ≡ e → IsShown line.whole (sector_at (before_epoch e base pend) line.sector) (puts_at e line.sector pend) (sector_at shown line.sector)
  pub ordinary : epoch ≡ e → line.whole ≡ false → put.reliable ≡ false

-- Lines and the sectors shown stand for contents and marks, where epoch e is the one that is being written: all in front of
-- it is shown, and all behind it is in lines.
pub record StandsIn (held : List Line) (last : ℕ) (shown base : List Block) (pend : List Mark) (e : ℕ) : Type 0 where
  pub within : e ≤ bars pend
  pub sectors : length shown ≡ length base
  pub lines : AllByRecursion (LineStands base pend last shown e) held
  pub later : (f s : ℕ) → e < f → f ≤ bars pend → (puts_at f s pend ≡ [] → ⊥) → list_any (is_at (bars pend) last f s) held ≡ true
  pub bare : (s : ℕ) → s < length base → list_any (is_at (bars pend) last e s) held ≡ false → sector_at shown s ≡ sector_at (before_epoch (e + 1) base pend) s

-- where sectors are shown, the lines of a cache and they stand for contents and marks
pub record StandsAt (cache : Cache) (base : List Block) (pend : List Mark) (shown : List Block) : Type 0 where
  pub e : ℕ
  pub is : StandsIn cache.lines cache.last shown base pend e

abbrev pub LinesStand : Cache → Option (List Block) → List Block → List Mark → Type 0
LinesStand cache shown base pend = IfSome shown (StandsAt cache base pend)

-- the sectors of lines are of the image
abbrev pub AreWithin : ℕ → List Line → Type 0
AreWithin sectors lines = AllByRecursion (λ line. line.sector < sectors) lines
