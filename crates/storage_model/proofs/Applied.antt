-- Contents after puts and marks.
use Rattle.std.proofs.Common.{◌≡◌, ℕ, ◌<◌, ◌≤◌, true, false, ◌==◌, List, drop, length, fold, sym}
use Rattle.std.proofs.lemmas.Bool.{eqb-true, eqb-false}
use Rattle.std.proofs.lemmas.List.{drop_all, get_or-set_same, get_or-set_other}
use Rattle.storage_model.specs.Contents.{contents_now, mark_on, put_on, sector_at}
use Rattle.storage_model.specs.declared.block.Block.{Block}
use Rattle.storage_model.specs.declared.marks.Put.{Put}
use Rattle.storage_model.specs.declared.marks.Mark.{Mark}

pub now_end : (base c : List Block) (pend : List Mark) (i : ℕ) → length pend ≤ i → fold mark_on c (drop i pend) ≡ fold mark_on base pend → c ≡ contents_now base pend
unfolding contents_now
now_end base c pend i all h = rw (drop_all i pend all) at h

-- a sector after a put on it, and after a put on another
pub sector_put_same : (c : List Block) (put : Put) (s : ℕ) → s < length c → (put.sector == s) ≡ true → sector_at (put_on c put) s ≡ put.value
sector_put_same c put s inside h =
    let same : put.sector ≡ s = eqb-true put.sector s h in
    rw same (get_or-set_same c s put.value _ inside)

pub sector_put_other : (c : List Block) (put : Put) (s : ℕ) → (put.sector == s) ≡ false → sector_at (put_on c put) s ≡ sector_at c s
sector_put_other c put s h = get_or-set_other c put.sector s put.value _ (λ e. eqb-false put.sector s h (sym e))
