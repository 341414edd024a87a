-- Sectors without a put: what is left of them is what was kept.
use Rattle.std.proofs.Common.{◌≡◌, ◌∙◌, ℕ, suc, ◌+◌, ◌<◌, ◌≤◌, inl, inr, Bool, true, false, ◌&&◌, ◌==◌, List, [], ◌∷◌, filter, length, map, nat_lt, refl, ap, sym, arith}
use Rattle.std.proofs.Math.Bool.{or-false}
use Rattle.std.proofs.Math.ListN.{get_or-eq_default}
use Rattle.std.proofs.lemmas.Bool.{and_right, cases_Bool, cases_lt, or_parts}
use Rattle.left_laws.specs.Laws.{AreWhole, IsRestKept}
use Rattle.left_laws.specs.Lines.{has_put, is_mix_below}
use Rattle.storage_model.proofs.Applied.{sector_put_other}
use Rattle.storage_model.proofs.Cuts.{is_left-at, is_left_in-at}
use Rattle.storage_model.proofs.Latest.{is_mix-alone}
use Rattle.storage_model.proofs.Remains.{mix_at-start}
use Rattle.storage_model.specs.Contents.{EpochPut, before_epoch, numbered, put_all, put_on, puts_at, sector_at}
use Rattle.storage_model.specs.Left.{is_left, is_mix, is_mix_of_segment, mix_at, segments}
use Rattle.storage_model.specs.declared.block.Block.{Block}
use Rattle.storage_model.specs.declared.marks.Mark.{Mark}
use Rattle.storage_model.specs.declared.marks.Mark.TheVariants.{Put as PutMark, Bar}

-- no epoch changes it

elsewhere : (test : EpochPut → Bool) (k s : ℕ) (c : List Block) (marks : List Mark) → has_put s marks ≡ false → sector_at (put_all c (map (λ (q : EpochPut). q.put) (filter test (numbered k marks)))) s ≡ sector_at c s
elsewhere test k s c [] off = refl
elsewhere test k s c (Bar ∷ marks) off = elsewhere test (k + 1) s c marks off
elsewhere test k s c (PutMark put ∷ marks) off =
    let parts = or_parts (put.sector == s) (has_put s marks) off in
    elim (cases_Bool (test (record { epoch = k; put = put }))) [
      | inl picked ↦ rw picked (elsewhere test k s (put_on c put) marks parts.1 ∙ sector_put_other c put s parts.0)
      | inr left_out ↦ rw left_out (elsewhere test k s c marks parts.1)
    ]

rest_before : (base : List Block) (pend : List Mark) (e s : ℕ) → has_put s pend ≡ false → sector_at (before_epoch e base pend) s ≡ sector_at base s
unfolding before_epoch
rest_before base pend e s off = elsewhere (λ q. nat_lt q.epoch e) 0 s base pend off

pub rest_mixes : (base : List Block) (pend : List Mark) (e s : ℕ) (w : Block) → has_put s pend ≡ false → w ≡ sector_at base s → mix_at base pend e s w ≡ true
rest_mixes base pend e s w off is = ap (mix_at base pend e s) (is ∙ sym (rest_before base pend e s off)) ∙ mix_at-start base pend e s

-- so each epoch allows such a sector
pub mixes_skip : (base : List Block) (pend : List Mark) (after : List Block) (n e : ℕ) → has_put n pend ≡ false → sector_at after n ≡ sector_at base n
    → is_mix_below base pend after (suc n) e ≡ is_mix_below base pend after n e
mixes_skip base pend after n e off is = ap (λ b. b && is_mix_below base pend after n e) (rest_mixes base pend e n (sector_at after n) off is)

-- a whole block without puts has one value

own_none : (e s k : ℕ) (marks : List Mark) → has_put s marks ≡ false → map (λ (q : EpochPut). q.put) (filter (λ (q : EpochPut). (q.epoch == e) && (q.put.sector == s)) (numbered k marks)) ≡ []
own_none e s k [] off = refl
own_none e s k (Bar ∷ marks) off = own_none e s (k + 1) marks off
own_none e s k (PutMark put ∷ marks) off =
    let parts = or_parts (put.sector == s) (has_put s marks) off in
    rw (and_right (k == e) (put.sector == s) parts.0) (own_none e s k marks parts.1)

puts_none : (e s : ℕ) (pend : List Mark) → has_put s pend ≡ false → puts_at e s pend ≡ []
unfolding puts_at
puts_none e s pend off = own_none e s 0 pend off

rest_mix : (base : List Block) (pend : List Mark) (e s : ℕ) (w : Block) → has_put s pend ≡ false → mix_at base pend e s w ≡ is_mix (sector_at base s ∷ []) w
unfolding mix_at
rest_mix base pend e s w off =
    ap (λ v. is_mix_of_segment (segments (v ∷ []) (puts_at e s pend)) w) (rest_before base pend e s off)
    ∙ (ap (λ puts. is_mix_of_segment (segments (sector_at base s ∷ []) puts) w) (puts_none e s pend off) ∙ or-false (is_mix (sector_at base s ∷ []) w))

rest_inside : (base : List Block) (pend : List Mark) (after : List Block) (k : ℕ) → AreWhole base → AreWhole after → length after ≡ length base → is_left base pend after ≡ true → has_put k pend ≡ false
    → k < length base → sector_at after k ≡ sector_at base k
rest_inside base pend after k whole whole' size left off inside =
    let found = is_left-at base pend after left in
    is_mix-alone (sector_at base k) (sector_at after k) (whole k (record { 0 = [] }) inside) (whole' k (record { 0 = [] }) (omega arith))
    (sym (rest_mix base pend found.0 k (sector_at after k) off) ∙ is_left_in-at base pend after found.0 k found.2 inside)

-- beyond the contents there is nothing
rest_outside : (base after : List Block) (k : ℕ) → length after ≡ length base → length base ≤ k → sector_at after k ≡ sector_at base k
rest_outside base after k size out = get_or-eq_default after (record { 0 = [] }) {n = k} (omega arith) ∙ sym (get_or-eq_default base (record { 0 = [] }) {n = k} out)

pub rest_kept : (base : List Block) (pend : List Mark) (after : List Block) → IsRestKept base pend after
rest_kept base pend after whole whole' size left = record {
  size = size;
  rest = λ k off. elim (cases_lt k (length base)) [
    | inl inside ↦ rest_inside base pend after k whole whole' size left off inside
    | inr out ↦ rest_outside base after k size out
  ];
  left = left;
}
