-- Marks in two parts: which part an epoch belongs to.
use Rattle.std.proofs.Common.{◌≡◌, ℕ, ◌+◌, ◌-◌, ◌<◌, inl, inr, true, ◌==◌, List, [], ◌∷◌, ◌++◌, refl, sym, ap, ◌∙◌, arith, ◌⊎◌, false, ◌||◌, length}
use Rattle.std.proofs.lemmas.Bool.{cases_Bool, cases_lt, cases_eq, lt-ltb, le-ltb, eq-eqb, ne_eqb, cases_order, or_cases, or_left, or_right}
use Rattle.std.proofs.lemmas.List.{map-append, append-nil}
use Rattle.std.proofs.lemmas.List.Elements.{filter-append}
use Rattle.std.proofs.lemmas.List.Sums.{fold-append}
use Rattle.storage_model.specs.declared.marks.Put.{Put}
use Rattle.storage_model.proofs.Below.{some_below_from}
use Rattle.storage_model.proofs.Applied.{sector_put_same}
use Rattle.storage_model.proofs.Appends.{bars-append, contents_now-numbered, early_all, length-contents_now, numbered-append, own_past, puts_at-append, before_epoch-first, before_epoch-append}
use Rattle.storage_model.proofs.Cuts.{is_left-at, is_left-from, is_left_in-at, is_left_in-from}
use Rattle.storage_model.proofs.Remains.{mix_at-bar}
use Rattle.storage_model.proofs.Scans.{early, own, own_none}
use Rattle.storage_model.specs.Contents.{bars, before_epoch, contents_now, numbered, put_all, puts_at, sector_at, put_on}
use Rattle.storage_model.specs.Laws.{KeepsBarriers, KeepsReliable}
use Rattle.storage_model.specs.Left.{is_left, mix_at, is_mix, is_mix_of_segment, segments}
use Rattle.storage_model.specs.declared.block.Block.{Block}
use Rattle.storage_model.specs.declared.marks.Mark.{Mark}
use Rattle.storage_model.specs.declared.marks.Mark.TheVariants.{Put as PutMark, Bar}

-- epochs counted from further on

pub early-shift : (k e j : ℕ) (marks : List Mark) → early (k + e) (numbered (k + j) marks) ≡ early e (numbered j marks)
early-shift k e j [] = refl
early-shift k e j (Bar ∷ marks) = let next : k + j + 1 ≡ k + (j + 1) = omega arith in rw next (early-shift k e (j + 1) marks)
early-shift k e j (PutMark put ∷ marks) =
    elim (cases_lt j e) [
      | inl before ↦ rw (lt-ltb j e before, lt-ltb (k + j) (k + e) (omega arith)) (ap (λ rest. put ∷ rest) (early-shift k e j marks))
      | inr past ↦ rw (le-ltb j e past, le-ltb (k + j) (k + e) (omega arith)) (early-shift k e j marks)
    ]

pub own-shift : (k e s j : ℕ) (marks : List Mark) → own (k + e) s (numbered (k + j) marks) ≡ own e s (numbered j marks)
own-shift k e s j [] = refl
own-shift k e s j (Bar ∷ marks) = let next : k + j + 1 ≡ k + (j + 1) = omega arith in rw next (own-shift k e s (j + 1) marks)
own-shift k e s j (PutMark put ∷ marks) =
    elim (cases_eq j e) [
      | inl same ↦ elim (cases_Bool (put.sector == s)) [
        | inl here ↦ rw (eq-eqb j e same, eq-eqb (k + j) (k + e) (omega arith), here) (ap (λ rest. put ∷ rest) (own-shift k e s j marks))
        | inr there ↦ rw (eq-eqb j e same, eq-eqb (k + j) (k + e) (omega arith), there) (own-shift k e s j marks)
      ]
      | inr other ↦ rw (ne_eqb j e other, ne_eqb (k + j) (k + e) (λ h. other (omega arith))) (own-shift k e s j marks)
    ]

-- an epoch past the first part

before_epoch-behind : (e : ℕ) (base : List Block) (front behind : List Mark) → bars front < e → before_epoch e base (front ++ behind) ≡ put_all (contents_now base front) (early e (numbered (bars front) behind))
unfolding before_epoch
before_epoch-behind e base front behind past =
    let start : 0 + bars front ≡ bars front = omega arith in
    rw (numbered-append 0 front behind, start, filter-append, map-append, early_all e 0 front (omega arith), fold-append)
    (ap (λ c. put_all c (early e (numbered (bars front) behind))) (sym (contents_now-numbered base 0 front)))

puts_at-behind : (e s : ℕ) (front behind : List Mark) → bars front < e → puts_at e s (front ++ behind) ≡ own e s (numbered (bars front) behind)
unfolding puts_at
puts_at-behind e s front behind past = rw (puts_at-append e s front behind, own_past e s 0 front (omega arith)) refl

-- behind a barrier

pub mix_at-behind_bar : (base : List Block) (front behind : List Mark) (e s : ℕ) (w : Block) → mix_at base (front ++ Bar ∷ behind) (bars front + 1 + e) s w ≡ mix_at (contents_now base front) behind e s w
unfolding mix_at before_epoch puts_at
mix_at-behind_bar base front behind e s w =
    let none : bars front + 1 + 0 ≡ bars front + 1 = omega arith in
    let shifted = rw none at (early-shift (bars front + 1) e 0 behind) in
    let shifted_own = rw none at (own-shift (bars front + 1) e s 0 behind) in
    rw (before_epoch-behind (bars front + 1 + e) base front (Bar ∷ behind) (omega arith), puts_at-behind (bars front + 1 + e) s front (Bar ∷ behind) (omega arith), shifted, shifted_own) refl

pub barriers : (base : List Block) (pend : List Mark) (after : List Block) → is_left base pend after ≡ true → KeepsBarriers base pend after
barriers base pend after h = λ front behind parts.
    let split : is_left base (front ++ Bar ∷ behind) after ≡ true = rw parts at h in
    let found = is_left-at base (front ++ Bar ∷ behind) after split in
    let within = found.1 in
    let count = bars-append front (Bar ∷ behind) in
    elim (cases_lt (bars front) found.0) [
      | inl past ↦
          let e : ℕ = found.0 - (bars front + 1) in
          let at : found.0 ≡ bars front + 1 + e = omega arith in
          let length_same = length-contents_now base front in
          inr (is_left-from (contents_now base front) behind after e (omega arith)
          (is_left_in-from (contents_now base front) behind after e (λ s below.
          sym (mix_at-behind_bar base front behind e s (sector_at after s)) ∙ rw at at (is_left_in-at base (front ++ Bar ∷ behind) after found.0 s found.2 (omega arith)))))
      | inr earlier ↦ inl (is_left-from base front after found.0 earlier
          (is_left_in-from base front after found.0 (λ s below. sym (mix_at-bar base front behind found.0 s (sector_at after s) earlier) ∙ is_left_in-at base (front ++ Bar ∷ behind) after found.0 s found.2 below)))
    ]

-- behind a reliable put

segments-reliable : (values : List Block) (front : List Put) (put : Put) (behind : List Put) (w : Block) → put.reliable ≡ true → is_mix_of_segment (segments values (front ++ put ∷ behind)) w ≡ true
    → (is_mix_of_segment (segments values front) w ≡ true) ⊎ (is_mix_of_segment (segments (put.value ∷ []) behind) w ≡ true)
segments-reliable values [] put behind w reliable h =
    let parts : (is_mix values w || is_mix_of_segment (segments (put.value ∷ []) behind) w) ≡ true = rw reliable at h in
    elim (or_cases (is_mix values w) (is_mix_of_segment (segments (put.value ∷ []) behind) w) parts) [
      | inl before ↦ inl (or_left (is_mix values w) false before)
      | inr after ↦ inr after
    ]
segments-reliable values (first ∷ front) put behind w reliable h =
    elim (cases_Bool first.reliable) [
      | inl whole ↦
          let parts : (is_mix values w || is_mix_of_segment (segments (first.value ∷ []) (front ++ put ∷ behind)) w) ≡ true = rw whole at h in
          rw whole (elim (or_cases (is_mix values w) (is_mix_of_segment (segments (first.value ∷ []) (front ++ put ∷ behind)) w) parts) [
            | inl before ↦ inl (or_left (is_mix values w) (is_mix_of_segment (segments (first.value ∷ []) front) w) before)
            | inr after ↦ elim (segments-reliable (first.value ∷ []) front put behind w reliable after) [
              | inl one ↦ inl (or_right (is_mix values w) (is_mix_of_segment (segments (first.value ∷ []) front) w) one)
              | inr other ↦ inr other
            ]
          ])
      | inr ordinary ↦ rw ordinary (segments-reliable (values ++ first.value ∷ []) front put behind w reliable (rw ordinary at h))
    ]

mix_at-front : (base : List Block) (front behind : List Mark) (e s : ℕ) (w : Block) → e < bars front → mix_at base (front ++ behind) e s w ≡ mix_at base front e s w
unfolding mix_at
mix_at-front base front behind e s w earlier =
    rw (before_epoch-append e base front behind (omega arith), puts_at-append e s front behind, own_none e s (bars front) behind earlier, append-nil) refl

mix_at-behind_put : (base : List Block) (front : List Mark) (put : Put) (behind : List Mark) (e s : ℕ) (w : Block) → 0 < e
    → mix_at base (front ++ PutMark put ∷ behind) (bars front + e) s w ≡ mix_at (put_on (contents_now base front) put) behind e s w
unfolding mix_at before_epoch puts_at
mix_at-behind_put base front put behind e s w past =
    let none : bars front + 0 ≡ bars front = omega arith in
    let shifted = rw none at (early-shift (bars front) e 0 behind) in
    let shifted_own = rw none at (own-shift (bars front) e s 0 behind) in
    rw (
      before_epoch-behind (bars front + e) base front (PutMark put ∷ behind) (omega arith),
      puts_at-behind (bars front + e) s front (PutMark put ∷ behind) (omega arith),
      lt-ltb (bars front) (bars front + e) (omega arith),
      ne_eqb (bars front) (bars front + e) (omega arith),
      shifted,
      shifted_own,
    ) refl

mix_at-within : (base : List Block) (front : List Mark) (put : Put) (behind : List Mark) (s : ℕ) (w : Block) → put.reliable ≡ true → put.sector ≡ s → s < length base
    → mix_at base (front ++ PutMark put ∷ behind) (bars front) s w ≡ true
    → (mix_at base front (bars front) s w ≡ true) ⊎ (mix_at (put_on (contents_now base front) put) behind 0 s w ≡ true)
unfolding mix_at puts_at
mix_at-within base front put behind s w reliable here inside h =
    let none : bars front + 0 ≡ bars front = omega arith in
    let shifted = rw none at (own-shift (bars front) 0 s 0 behind) in
    let later : puts_at (bars front) s (front ++ PutMark put ∷ behind) ≡ puts_at (bars front) s front ++ put ∷ own (bars front) s (numbered (bars front) behind)
    = rw (puts_at-append (bars front) s front (PutMark put ∷ behind), eq-eqb (bars front) (bars front) refl, eq-eqb put.sector s here) refl in
    let start : sector_at (before_epoch 0 (put_on (contents_now base front) put) behind) s ≡ put.value
    = ap (λ c. sector_at c s) (before_epoch-first (put_on (contents_now base front) put) behind) ∙ sector_put_same (contents_now base front) put s (rw (length-contents_now base front) inside) (eq-eqb put.sector s here) in
    elim (segments-reliable (sector_at (before_epoch (bars front) base front) s ∷ []) (puts_at (bars front) s front) put (own (bars front) s (numbered (bars front) behind)) w reliable
    (rw (before_epoch-append (bars front) base front (PutMark put ∷ behind) (omega arith), later) at h)) [
      | inl one ↦ inl one
      | inr other ↦ inr (rw (start, sym shifted) other)
    ]

pub reliable_puts : (base : List Block) (pend : List Mark) (after : List Block) → is_left base pend after ≡ true → KeepsReliable base pend after
reliable_puts base pend after h = λ front behind put parts reliable inside.
    let split : is_left base (front ++ PutMark put ∷ behind) after ≡ true = rw parts at h in
    let found = is_left-at base (front ++ PutMark put ∷ behind) after split in
    let within = found.1 in
    let count = bars-append front (PutMark put ∷ behind) in
    let s : ℕ = put.sector in
    let w : Block = sector_at after put.sector in
    let mixed : mix_at base (front ++ PutMark put ∷ behind) found.0 s w ≡ true = is_left_in-at base (front ++ PutMark put ∷ behind) after found.0 s found.2 inside in
    elim (cases_order found.0 (bars front)) [
      | inl same ↦ elim (mix_at-within base front put behind s w reliable refl inside (rw same at mixed)) [
        | inl one ↦ inl (some_below_from (bars front + 1) (λ e. mix_at base front e s w) (bars front) (omega arith) one)
        | inr other ↦ inr (some_below_from (bars behind + 1) (λ e. mix_at (put_on (contents_now base front) put) behind e s w) 0 (omega arith) other)
      ]
      | inr apart ↦ elim apart [
        | inl earlier ↦ inl (some_below_from (bars front + 1) (λ e. mix_at base front e s w) found.0 (omega arith) (sym (mix_at-front base front (PutMark put ∷ behind) found.0 s w earlier) ∙ mixed))
        | inr past ↦
            let e : ℕ = found.0 - bars front in
            let at : found.0 ≡ bars front + e = omega arith in
            inr (some_below_from (bars behind + 1) (λ e. mix_at (put_on (contents_now base front) put) behind e s w) e (omega arith)
            (sym (mix_at-behind_put base front put behind e s w (omega arith)) ∙ rw at at mixed))
      ]
    ]
