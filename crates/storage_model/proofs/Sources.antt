-- Where a granule that is left comes from: the kept value of its sector, or that of a put.
use Rattle.std.proofs.Common.{◌≡◌, ℕ, ◌+◌, ◌<◌, inl, inr, Bool, true, ◌&&◌, ◌||◌, ◌==◌, nat_lt, All, Contains, List, [], ◌∷◌, ◌++◌, filter, map, length, refl, sym, ◌∙◌}
use Rattle.std.proofs.Math.Bool.{or-false}
use Rattle.std.proofs.Math.ListN.{length-set}
use Rattle.std.proofs.lemmas.Bool.{cases_Bool, eqb-true, or_cases, and_parts}
use Rattle.std.proofs.lemmas.List.Elements.{All-contains_itself, All-head, All-tail}
use Rattle.std.proofs.lemmas.List.Folds.{list_any-append}
use Rattle.std.proofs.lemmas.Slice.Eq.{bytes_eq-Decides}
use Rattle.std.specs.List.{AllByRecursion}
use Rattle.storage_model.proofs.Applied.{sector_put_same, sector_put_other}
use Rattle.storage_model.proofs.Cuts.{is_left-at, is_left_in-at}
use Rattle.storage_model.proofs.Remains.{is_mix-at}
use Rattle.storage_model.proofs.Scans.{early, own}
use Rattle.storage_model.specs.Contents.{EpochPut, before_epoch, numbered, put_all, put_on, puts_at, sector_at}
use Rattle.storage_model.specs.Granule.{granule}
use Rattle.storage_model.specs.Laws.{IsKeptOrLater, IsValueOf}
use Rattle.storage_model.specs.Left.{has_granule, is_left, is_mix, is_mix_of_segment, mix_at, same_granule, segments}
use Rattle.storage_model.specs.declared.block.Block.{Block}
use Rattle.storage_model.specs.declared.marks.Put.{Put}
use Rattle.storage_model.specs.declared.marks.Mark.{Mark}
use Rattle.storage_model.specs.declared.marks.Mark.TheVariants.{Put as PutMark, Bar}

pub same_granule-true : (g : ℕ) (v w : Block) → same_granule g v w ≡ true → granule v g ≡ granule w g
unfolding same_granule
same_granule-true g v w h = (bytes_eq-Decides (granule v g) (granule w g)).0 h

-- each granule that the values have is one of a block of which P holds
record Sourced (P : Block → Type 0) (values : List Block) : Type 0 where
  pub each : (w : Block) (g : ℕ) → has_granule values w g ≡ true → (v : Block) × P v × (granule w g ≡ granule v g)

sourced_one : (P : Block → Type 0) (v : Block) → P v → Sourced P (v ∷ [])
sourced_one P v p = record { each = λ w g h. (v, p, sym (same_granule-true g v w (sym (or-false (same_granule g v w)) ∙ h))) }

sourced_more : (P : Block → Type 0) (values : List Block) (v : Block) → Sourced P values → P v → Sourced P (values ++ v ∷ [])
sourced_more P values v before p = record {
  each = λ w g h.
      let parts : (has_granule values w g || has_granule (v ∷ []) w g) ≡ true = sym (list_any-append (λ x. same_granule g x w) values (v ∷ [])) ∙ h in
      elim (or_cases (has_granule values w g) (has_granule (v ∷ []) w g) parts) [
        | inl one ↦ before.each w g one
        | inr other ↦ (sourced_one P v p).each w g other
      ];
}

sourced_segments : (P : Block → Type 0) (values : List Block) (puts : List Put) (w : Block) (g : ℕ) → Sourced P values → AllByRecursion (λ put. P put.value) puts → is_mix_of_segment (segments values puts) w ≡ true → g < 8
    → (v : Block) × P v × (granule w g ≡ granule v g)
sourced_segments P values [] w g before all h below = before.each w g (is_mix-at values w g (sym (or-false (is_mix values w)) ∙ h) below)
sourced_segments P values (put ∷ puts) w g before all h below =
    elim (cases_Bool put.reliable) [
      | inl reliable ↦
          let parts : (is_mix values w || is_mix_of_segment (segments (put.value ∷ []) puts) w) ≡ true = rw reliable at h in
          elim (or_cases (is_mix values w) (is_mix_of_segment (segments (put.value ∷ []) puts) w) parts) [
            | inl here ↦ before.each w g (is_mix-at values w g here below)
            | inr later ↦ sourced_segments P (put.value ∷ []) puts w g (sourced_one P put.value all.0) all.1 later below
          ]
      | inr ordinary ↦ sourced_segments P (values ++ put.value ∷ []) puts w g (sourced_more P values put.value before all.0) all.1 (rw ordinary at h) below
    ]

-- the puts of a sector, and its value after some puts

sourced_own : (P : Block → Type 0) (pend : List Mark) (e s k : ℕ) (marks : List Mark) → ((put : Put) → Contains pend (PutMark put) → put.sector ≡ s → P put.value) → All (Contains pend) marks
    → AllByRecursion (λ put. P put.value) (own e s (numbered k marks))
sourced_own P pend e s k [] from all = tt
sourced_own P pend e s k (Bar ∷ marks) from all = sourced_own P pend e s (k + 1) marks from (All-tail (Contains pend) Bar marks all)
sourced_own P pend e s k (PutMark put ∷ marks) from all =
    let rest = sourced_own P pend e s k marks from (All-tail (Contains pend) (PutMark put) marks all) in
    elim (cases_Bool ((k == e) && (put.sector == s))) [
      | inl here ↦
          let at : put.sector ≡ s = eqb-true put.sector s (and_parts (k == e) (put.sector == s) here).1 in
          rw here (from put (All-head (Contains pend) (PutMark put) marks all) at, rest)
      | inr elsewhere ↦ rw elsewhere rest
    ]

sourced_sector : (P : Block → Type 0) (pend : List Mark) (test : EpochPut → Bool) (s k : ℕ) (c : List Block) (marks : List Mark) → ((put : Put) → Contains pend (PutMark put) → put.sector ≡ s → P put.value) → All (Contains pend) marks
    → s < length c → P (sector_at c s) → P (sector_at (put_all c (map (λ q. q.put) (filter test (numbered k marks)))) s)
sourced_sector P pend test s k c [] from all inside p = p
sourced_sector P pend test s k c (Bar ∷ marks) from all inside p = sourced_sector P pend test s (k + 1) c marks from (All-tail (Contains pend) Bar marks all) inside p
sourced_sector P pend test s k c (PutMark put ∷ marks) from all inside p =
    elim (cases_Bool (test (record { epoch = k; put = put }))) [
      | inl picked ↦
          let value : P (sector_at (put_on c put) s) = elim (cases_Bool (put.sector == s)) [
            | inl here ↦ rw (sector_put_same c put s inside here) (from put (All-head (Contains pend) (PutMark put) marks all) (eqb-true put.sector s here))
            | inr there ↦ rw (sector_put_other c put s there) p
          ] in
          rw picked (sourced_sector P pend test s k (put_on c put) marks from (All-tail (Contains pend) (PutMark put) marks all) (rw (length-set c put.sector put.value) inside) value)
      | inr left_out ↦ rw left_out (sourced_sector P pend test s k c marks from (All-tail (Contains pend) (PutMark put) marks all) inside p)
    ]

pub mix_at-sources : (base : List Block) (pend : List Mark) (e s : ℕ) (w : Block) (g : ℕ) → s < length base → g < 8 → mix_at base pend e s w ≡ true → (v : Block) × IsValueOf base pend s v × (granule w g ≡ granule v g)
unfolding mix_at before_epoch puts_at
mix_at-sources base pend e s w g inside below h =
    let P : Block → Type 0 = IsValueOf base pend s in
    let from : (put : Put) → Contains pend (PutMark put) → put.sector ≡ s → P put.value = λ put is_in at. inr (put, is_in, at, refl) in
    let all = All-contains_itself pend in
    sourced_segments P (sector_at (put_all base (early e (numbered 0 pend))) s ∷ []) (own e s (numbered 0 pend)) w g
    (sourced_one P (sector_at (put_all base (early e (numbered 0 pend))) s) (sourced_sector P pend (λ q. nat_lt q.epoch e) s 0 base pend from all inside (inl refl)))
    (sourced_own P pend e s 0 pend from all) h below

pub kept_or_later : (base : List Block) (pend : List Mark) (after : List Block) → is_left base pend after ≡ true → IsKeptOrLater base pend after
kept_or_later base pend after h = λ s g inside below.
    let found = is_left-at base pend after h in
    mix_at-sources base pend found.0 s (sector_at after s) g inside below (is_left_in-at base pend after found.0 s found.2 inside)
