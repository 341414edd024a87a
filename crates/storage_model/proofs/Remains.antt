-- What may be left: it only grows with a further mark, and whole contents of each epoch's start are among it.
use Rattle.std.proofs.Common.{◌≡◌, ℕ, ◌<◌, ◌≤◌, inl, inr, true, false, ◌||◌, ◌==◌, List, [], ◌∷◌, ◌++◌, bytes_eq, refl, sym, ◌∙◌, arith}
use Rattle.std.proofs.Math.Bool.{or-false}
use Rattle.std.proofs.lemmas.Bool.{cases_Bool, cases_eq, eq-eqb, or_left, or_right, or_cases}
use Rattle.std.proofs.lemmas.List.Folds.{list_any-append}
use Rattle.storage_model.proofs.Appends.{bars-append, before_epoch-append, before_epoch-first, puts_at-bar, puts_at-put, puts_at-put_elsewhere, puts_at-put_past}
use Rattle.storage_model.proofs.Below.{every_below_from, every_below_at}
use Rattle.storage_model.proofs.Cuts.{is_left-at, is_left-from, is_left_in-at, is_left_in-from}
use Rattle.storage_model.specs.Contents.{bars, before_epoch, puts_at, sector_at}
use Rattle.storage_model.specs.Granule.{granule}
use Rattle.storage_model.specs.Left.{has_granule, is_left, is_mix, is_mix_of_segment, mix_at, same_granule, segments}
use Rattle.storage_model.specs.declared.block.Block.{Block}
use Rattle.storage_model.specs.declared.marks.Put.{Put}
use Rattle.storage_model.specs.declared.marks.Mark.{Mark}
use Rattle.storage_model.specs.declared.marks.Mark.TheVariants.{Put as PutMark, Bar}

-- a mix of values

pub is_mix-at : (values : List Block) (w : Block) (g : ℕ) → is_mix values w ≡ true → g < 8 → has_granule values w g ≡ true
unfolding is_mix
is_mix-at values w g h below = every_below_at 8 (has_granule values w) g h below

pub is_mix-from : (values : List Block) (w : Block) → ((g : ℕ) → g < 8 → has_granule values w g ≡ true) → is_mix values w ≡ true
unfolding is_mix
is_mix-from values w all = every_below_from 8 (has_granule values w) all

pub is_mix-more : (values more : List Block) (w : Block) → is_mix values w ≡ true → is_mix (values ++ more) w ≡ true
is_mix-more values more w h = is_mix-from (values ++ more) w (λ g below. list_any-append (λ v. same_granule g v w) values more ∙ or_left (has_granule values w g) (has_granule more w g) (is_mix-at values w g h below))

pub is_mix-further : (values more : List Block) (w : Block) → is_mix more w ≡ true → is_mix (values ++ more) w ≡ true
is_mix-further values more w h = is_mix-from (values ++ more) w (λ g below. list_any-append (λ v. same_granule g v w) values more ∙ or_right (has_granule values w g) (has_granule more w g) (is_mix-at more w g h below))

bytes_eq-same : (xs : List ℕ) → bytes_eq xs xs ≡ true
bytes_eq-same [] = refl
bytes_eq-same (x ∷ xs) = rw (eq-eqb x x refl) (bytes_eq-same xs)

pub same_granule-same : (g : ℕ) (v : Block) → same_granule g v v ≡ true
unfolding same_granule
same_granule-same g v = bytes_eq-same (granule v g)

-- a value is a mix of itself
pub is_mix-own : (v : Block) → is_mix (v ∷ []) v ≡ true
is_mix-own v = is_mix-from (v ∷ []) v (λ g below. or_left (same_granule g v v) false (same_granule-same g v))

-- the segments of an epoch

pub segments-start : (values : List Block) (puts : List Put) (w : Block) → is_mix values w ≡ true → is_mix_of_segment (segments values puts) w ≡ true
segments-start values [] w h = or_left (is_mix values w) false h
segments-start values (put ∷ puts) w h =
    elim (cases_Bool put.reliable) [
      | inl reliable ↦ rw reliable (or_left (is_mix values w) (is_mix_of_segment (segments (put.value ∷ []) puts) w) h)
      | inr ordinary ↦ rw ordinary (segments-start (values ++ put.value ∷ []) puts w (is_mix-more values (put.value ∷ []) w h))
    ]

pub segments-put : (values : List Block) (puts : List Put) (put : Put) (w : Block) → is_mix_of_segment (segments values puts) w ≡ true → is_mix_of_segment (segments values (puts ++ put ∷ [])) w ≡ true
segments-put values [] put w h = segments-start values (put ∷ []) w (sym (or-false (is_mix values w)) ∙ h)
segments-put values (first ∷ puts) put w h =
    elim (cases_Bool first.reliable) [
      | inl reliable ↦
          let parts : (is_mix values w || is_mix_of_segment (segments (first.value ∷ []) puts) w) ≡ true = rw reliable at h in
          rw reliable (elim (or_cases (is_mix values w) (is_mix_of_segment (segments (first.value ∷ []) puts) w) parts) [
            | inl here ↦ or_left (is_mix values w) (is_mix_of_segment (segments (first.value ∷ []) (puts ++ put ∷ [])) w) here
            | inr later ↦ or_right (is_mix values w) (is_mix_of_segment (segments (first.value ∷ []) (puts ++ put ∷ [])) w) (segments-put (first.value ∷ []) puts put w later)
          ])
      | inr ordinary ↦ rw ordinary (segments-put (values ++ first.value ∷ []) puts put w (rw ordinary at h))
    ]

-- a sector

pub mix_at-start : (base : List Block) (pend : List Mark) (e s : ℕ) → mix_at base pend e s (sector_at (before_epoch e base pend) s) ≡ true
unfolding mix_at
mix_at-start base pend e s = segments-start (sector_at (before_epoch e base pend) s ∷ []) (puts_at e s pend) (sector_at (before_epoch e base pend) s) (is_mix-own (sector_at (before_epoch e base pend) s))

pub mix_at-bar : (base : List Block) (pend more : List Mark) (e s : ℕ) (w : Block) → e ≤ bars pend → mix_at base (pend ++ Bar ∷ more) e s w ≡ mix_at base pend e s w
unfolding mix_at
mix_at-bar base pend more e s w h = rw (before_epoch-append e base pend (Bar ∷ more) h, puts_at-bar e s pend more h) refl

pub mix_at-put : (base : List Block) (pend : List Mark) (put : Put) (e s : ℕ) (w : Block) → e ≤ bars pend → mix_at base pend e s w ≡ true → mix_at base (pend ++ PutMark put ∷ []) e s w ≡ true
unfolding mix_at
mix_at-put base pend put e s w within h =
    rw (before_epoch-append e base pend (PutMark put ∷ []) within) (elim (cases_eq e (bars pend)) [
      | inl last ↦ elim (cases_Bool (put.sector == s)) [
        | inl same ↦ rw (puts_at-put e s pend put last same) (segments-put (sector_at (before_epoch e base pend) s ∷ []) (puts_at e s pend) put w h)
        | inr other ↦ rw (puts_at-put_elsewhere e s pend put other) h
      ]
      | inr earlier ↦ rw (puts_at-put_past e s pend put earlier) h
    ])

-- contents

pub is_left-put : (base : List Block) (pend : List Mark) (put : Put) (after : List Block) → is_left base pend after ≡ true → is_left base (pend ++ PutMark put ∷ []) after ≡ true
is_left-put base pend put after h =
    let found = is_left-at base pend after h in
    let within = found.1 in
    let same = bars-append pend (PutMark put ∷ []) in
    is_left-from base (pend ++ PutMark put ∷ []) after found.0 (rw same (omega arith))
    (is_left_in-from base (pend ++ PutMark put ∷ []) after found.0 (λ s below. mix_at-put base pend put found.0 s (sector_at after s) within (is_left_in-at base pend after found.0 s found.2 below)))

pub is_left-bar : (base : List Block) (pend : List Mark) (after : List Block) → is_left base pend after ≡ true → is_left base (pend ++ Bar ∷ []) after ≡ true
is_left-bar base pend after h =
    let found = is_left-at base pend after h in
    let within = found.1 in
    let more = bars-append pend (Bar ∷ []) in
    is_left-from base (pend ++ Bar ∷ []) after found.0 (rw more (omega arith))
    (is_left_in-from base (pend ++ Bar ∷ []) after found.0 (λ s below. mix_at-bar base pend [] found.0 s (sector_at after s) within ∙ is_left_in-at base pend after found.0 s found.2 below))

-- the whole contents in front of an epoch
pub is_left-before_epoch : (base : List Block) (pend : List Mark) (e : ℕ) → e ≤ bars pend → is_left base pend (before_epoch e base pend) ≡ true
is_left-before_epoch base pend e within = is_left-from base pend (before_epoch e base pend) e within (is_left_in-from base pend (before_epoch e base pend) e (λ s below. mix_at-start base pend e s))

pub is_left-base : (base : List Block) (pend : List Mark) → is_left base pend base ≡ true
is_left-base base pend = rw (before_epoch-first base pend) at (is_left-before_epoch base pend 0 (omega arith))
