-- What may be left, epoch by epoch and sector by sector.
use Rattle.std.proofs.Common.{◌≡◌, ℕ, ◌+◌, ◌<◌, ◌≤◌, true, false, List, length, arith}
use Rattle.storage_model.proofs.Below.{every_below_from, every_below_at, every_below_fails, some_below_from, some_below_at, some_below_none}
use Rattle.storage_model.specs.Contents.{bars, sector_at}
use Rattle.storage_model.specs.Left.{is_left, is_left_in, mix_at}
use Rattle.storage_model.specs.declared.block.Block.{Block}
use Rattle.storage_model.specs.declared.marks.Mark.{Mark}

pub is_left_in-from : (base : List Block) (pend : List Mark) (after : List Block) (e : ℕ) → ((s : ℕ) → s < length base → mix_at base pend e s (sector_at after s) ≡ true) → is_left_in base pend after e ≡ true
is_left_in-from base pend after e all = every_below_from (length base) (λ s. mix_at base pend e s (sector_at after s)) all

pub is_left_in-at : (base : List Block) (pend : List Mark) (after : List Block) (e s : ℕ) → is_left_in base pend after e ≡ true → s < length base → mix_at base pend e s (sector_at after s) ≡ true
is_left_in-at base pend after e s h below = every_below_at (length base) (λ s. mix_at base pend e s (sector_at after s)) s h below

pub is_left_in-fails : (base : List Block) (pend : List Mark) (after : List Block) (e s : ℕ) → s < length base → mix_at base pend e s (sector_at after s) ≡ false → is_left_in base pend after e ≡ false
is_left_in-fails base pend after e s below fails = every_below_fails (length base) (λ s. mix_at base pend e s (sector_at after s)) s below fails

pub is_left-from : (base : List Block) (pend : List Mark) (after : List Block) (e : ℕ) → e ≤ bars pend → is_left_in base pend after e ≡ true → is_left base pend after ≡ true
unfolding is_left
is_left-from base pend after e within holds = some_below_from (bars pend + 1) (is_left_in base pend after) e (omega arith) holds

pub is_left-at : (base : List Block) (pend : List Mark) (after : List Block) → is_left base pend after ≡ true → (e : ℕ) × (e ≤ bars pend) × (is_left_in base pend after e ≡ true)
unfolding is_left
is_left-at base pend after h =
    let found = some_below_at (bars pend + 1) (is_left_in base pend after) h in
    let below = found.1 in
    (found.0, omega arith, found.2)

pub is_left-none : (base : List Block) (pend : List Mark) (after : List Block) → ((e : ℕ) → e ≤ bars pend → is_left_in base pend after e ≡ false) → is_left base pend after ≡ false
unfolding is_left
is_left-none base pend after none = some_below_none (bars pend + 1) (is_left_in base pend after) (λ e below. none e (omega arith))
