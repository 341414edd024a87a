-- Where nothing of the cache was staged, the lines show what was kept.
use Rattle.std.proofs.Common.{◌≡◌, ◌∙◌, ℕ, ◌<◌, inl, inr, Bool, true, false, cond, All, List, [], length, ap, sym, subst, arith, slice_get}
use Rattle.std.proofs.lemmas.Bool.{cases_Bool}
use Rattle.std.proofs.lemmas.Option.{slice_get-get_or}
use Rattle.std.proofs.lemmas.Slice.Eq.{bytes_eq-Decides}
use Rattle.left_laws.proofs.Sectors.{All_put}
use Rattle.left_laws.proofs.Values.{sectors_same}
use Rattle.left_laws.specs.Laws.{AreKept}
use Rattle.left_laws.specs.Lines.{has_put, left_line, left_lines}
use Rattle.storage_machine.specs.Cuts.{same_block, shows}
use Rattle.storage_machine.specs.declared.state.State.{State}
use Rattle.storage_model.specs.Contents.{sector_at}
use Rattle.storage_model.specs.declared.block.Block.{Block}
use Rattle.storage_model.specs.declared.trace.Item.{Item}
use Rattle.trace_rules.specs.Steps.{is_left_so}

same_is : (block other : Block) → same_block block other ≡ true → other ≡ block
same_is block other h = ap (λ bytes. record { 0 = bytes }) (sym ((bytes_eq-Decides block.0 other.0).0 h))

kept_by : (deferred : Bool) (base after : List Block) (k : ℕ) → k < length base → deferred ≡ true → cond deferred (shows (slice_get base k) (sector_at after k)) true ≡ true → sector_at after k ≡ sector_at base k
kept_by false base after k inside on so = absurd (cc)
kept_by true base after k inside on so =
    same_is (sector_at base k) (sector_at after k) (ap (λ best. shows best (sector_at after k)) (sym (slice_get-get_or base k (record { 0 = [] }) inside)) ∙ so)

pub are_kept : (s t : State) (lines : List Item) → AreKept s lines t
are_kept s t lines shown on all =
    let so : All (λ item. is_left_so s item ≡ true) (left_lines s.pend t.base) = subst (All (λ item. is_left_so s item ≡ true)) shown.shown all in
    let size = shown.can.size in
    sectors_same t.base s.base shown.can.size (λ k below. elim (cases_Bool (has_put k s.pend)) [
      | inl put ↦ kept_by s.deferred s.base t.base k (omega arith) on (All_put (left_line t.base) (λ item. is_left_so s item ≡ true) s.pend (length t.base) k so below put)
      | inr off ↦ shown.can.rest k off
    ])
