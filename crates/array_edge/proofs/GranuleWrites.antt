-- A granule written into a block, and the others.
use Rattle.std.proofs.Common.{refl, ◌≡◌, ◌≢◌, ℕ, ◌+◌, ◌*◌, ◌≤◌, List, length, arith, sym, inl, inr}
use Rattle.std.proofs.lemmas.Bool.{cases_order}
use Rattle.std.proofs.lemmas.Slice.{between-put_mid, between_is, take-put_mid_below, drop-put_mid}
use Rattle.std.specs.List.{between}
use borrow.Rule.Slice.PartMut.{put_mid}
use Rattle.storage_model.specs.Granule.{granule}
use Rattle.storage_model.specs.declared.block.Block.{Block}

pub granule_written : (old new : Block) (k a n : ℕ) (ys : List ℕ) → a ≡ 64 * k → n ≡ 64 → a ≤ length old.0 → length ys ≡ 64 → ys ≡ between (64 * k) (64 * k + 64) new.0
    → granule (record { 0 = put_mid a n old.0 ys }) k ≡ granule new k
unfolding granule
granule_written old new k a n ys start size room long is =
    rw (← start, between-put_mid a n old.0 ys (a + 64) room (omega arith)) (rw (← start) at is)

pub granule_kept : (old : Block) (k j a n : ℕ) (ys : List ℕ) → a ≡ 64 * k → n ≡ 64 → a ≤ length old.0 → length ys ≡ 64 → j ≢ k
    → granule (record { 0 = put_mid a n old.0 ys }) j ≡ granule old j
unfolding granule
granule_kept old k j a n ys start size room long apart =
    elim (cases_order j k) [
      | inl same ↦ absurd (apart same)
      | inr (inl below) ↦ rw (between_is, take-put_mid_below a n old.0 ys (64 * j + 64) (omega arith) room) (sym (between_is old.0 (64 * j) (64 * j + 64)))
      | inr (inr above) ↦ rw (drop-put_mid a n old.0 ys (64 * j) (omega arith) room (omega arith)) refl
    ]
