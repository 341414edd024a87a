-- How many requests wait and are issued, when some are issued, answered or given back.
use Rattle.std.proofs.Common.{◌≡◌, ◌⊎◌, ◌≢◌, ◌<◌, ◌≤◌, ◌+◌, ◌-◌, ◌^◌, ◌==◌, ℕ, zero, suc, refl, sym, ◌∙◌, ap, subst, arith, Bool, true, false, List, [], ◌∷◌, length, inl, inr}
use Rattle.std.specs.Prelude.{cond, count_by, fold, is_some, nat_lt, set, Option, Some, None, Ok}
use Rattle.std.specs.Int.{bit_at}
use Rattle.std.proofs.lemmas.Bool.{false≢true, ltb-false, ltb-true}
use Rattle.std.proofs.lemmas.List.Sums.{count_by-le-length, sum_by-cons}
use Rattle.std.proofs.lemmas.Nat.Bits.{bit_at-zero, bit_at-lt, bit_at_above, same_from_bits}
use Rattle.cq_regs.specs.Slots.{has_bit}
use Rattle.drv_jobs.specs.Changes.{freed_from, waits_again}
use Rattle.drv_jobs.specs.Next.{due_of}
use Rattle.drv_jobs.specs.Standings.{Standings, holder_of, no_holders}
use Rattle.drv_jobs.specs.declared.next.Due.{Due}
use Rattle.drv_jobs.proofs.CountLaws.{lowest, lowest-waits, number-less}
use Rattle.drv_jobs.proofs.NextLaws.{due-is}
use Rattle.host_falls.proofs.Sums.{set_more}

abbrev pub number_waiting : List Bool → ℕ
number_waiting waiting = count_by (λ waits. waits) waiting

abbrev pub number_issued : List (Option ℕ) → ℕ
number_issued holders = count_by is_some holders

abbrev pub one_if : Option ℕ → ℕ
one_if holder = cond (is_some holder) 1 0

-- what is given back waits
pub given_back_most : (waiting : List Bool) (holders : List (Option ℕ))
    → number_waiting (fold waits_again waiting holders) ≤ number_waiting waiting + number_issued holders
given_back_most waiting [] = omega arith
given_back_most waiting (None ∷ holders) =
    let right = sum_by-cons one_if None holders in
    let rest = given_back_most waiting holders in
    omega (arith, right, rest)
given_back_most waiting (Some id ∷ holders) =
    let right = sum_by-cons one_if (Some id) holders in
    let more = set_more (λ waits. waits) waiting (id - 1) true in
    let rest = given_back_most (set waiting (id - 1) true) holders in
    omega (arith, right, more, rest)

pub none_issued : number_issued no_holders ≡ 0
unfolding no_holders
none_issued = refl

pub issued_most : (holders : List (Option ℕ)) → number_issued holders ≤ length holders
issued_most holders = count_by-le-length is_some holders

-- the tags of a word are freed
freed_le : (b : Bool) (holder : Option ℕ) → one_if (cond b None holder) ≤ one_if holder
freed_le true holder = omega arith
freed_le false holder = omega arith

pub freed_most : (word start : ℕ) (holders : List (Option ℕ)) → number_issued (freed_from word start holders) ≤ number_issued holders
unfolding freed_from
freed_most word start [] = omega arith
freed_most word start (holder ∷ holders) =
    let left = sum_by-cons one_if (cond (bit_at word start == 1) None holder) (freed_from word (start + 1) holders) in
    let right = sum_by-cons one_if holder holders in
    let here = freed_le (bit_at word start == 1) holder in
    let rest = freed_most word (start + 1) holders in
    omega (arith, left, right, here, rest)

pub freed_less : (word start : ℕ) (holders : List (Option ℕ)) (tag : ℕ) → has_bit word (start + tag) ≡ true
    → is_some (holder_of holders tag) ≡ true → number_issued (freed_from word start holders) + 1 ≤ number_issued holders
unfolding freed_from
freed_less word start [] tag bit some = absurd (false≢true some)
freed_less word start (holder ∷ holders) zero bit some =
    let at : start + 0 ≡ start = omega arith in
    let P : ℕ → Type 0 = λ n. has_bit word n ≡ true in
    let left = sum_by-cons one_if (cond (bit_at word start == 1) None holder) (freed_from word (start + 1) holders) in
    let right = sum_by-cons one_if holder holders in
    let now : one_if (cond (bit_at word start == 1) None holder) ≡ 0 = ap (λ b. one_if (cond b None holder)) (subst P at bit) in
    let was : one_if holder ≡ 1 = ap (λ b. cond b 1 0) some in
    let rest = freed_most word (start + 1) holders in
    omega (arith, left, right, now, was, rest)
freed_less word start (holder ∷ holders) (suc tag) bit some =
    let at : start + suc tag ≡ start + 1 + tag = omega arith in
    let P : ℕ → Type 0 = λ n. has_bit word n ≡ true in
    let left = sum_by-cons one_if (cond (bit_at word start == 1) None holder) (freed_from word (start + 1) holders) in
    let right = sum_by-cons one_if holder holders in
    let here = freed_le (bit_at word start == 1) holder in
    let rest = freed_less word (start + 1) holders tag (subst P at bit) some in
    omega (arith, left, right, here, rest)

-- a word that is not 0 has a bit
pub record HasSomeBit (word bound : ℕ) : Type 0 where
  pub slot : ℕ
  pub below : slot < bound
  pub bit : has_bit word slot ≡ true

some_bit_below : (word n : ℕ) → HasSomeBit word n ⊎ ((i : ℕ) → i < n → has_bit word i ≡ false)
some_bit_below word zero = inr (λ i below. absurd (omega (arith, below)))
some_bit_below word (suc n) = elim (some_bit_below word n) [
  | inl found ↦ inl (record { slot = found.slot; below = let low = found.below in omega (arith, low); bit = found.bit })
  | inr none ↦ last (has_bit word n) refl none
]
  where
    last : (b : Bool) → has_bit word n ≡ b → ((i : ℕ) → i < n → has_bit word i ≡ false)
        → HasSomeBit word (suc n) ⊎ ((i : ℕ) → i < suc n → has_bit word i ≡ false)
    last true is none = inl (record { slot = n; below = omega arith; bit = is })
    last false is none = inr (λ i below. at i (nat_lt i n) refl below)
      where
        at : (i : ℕ) (low : Bool) → nat_lt i n ≡ low → i < suc n → has_bit word i ≡ false
        at i true e below = none i (ltb-true i n e)
        at i false e below =
            let high = ltb-false i n e in
            let same : i ≡ n = omega (arith, high, below) in
            let P : ℕ → Type 0 = λ k. has_bit word k ≡ false in
            subst P (sym same) is

no_bit : (word i : ℕ) → has_bit word i ≡ false → bit_at word i ≡ 0
no_bit word i e = bit_is (bit_at word i) (bit_at-lt word i) e
  where
    bit_is : (b : ℕ) → b < 2 → (b == 1) ≡ false → b ≡ 0
    bit_is zero small clear = refl
    bit_is (suc zero) small clear = absurd (false≢true (sym clear))
    bit_is (suc (suc b)) small clear = absurd (omega (arith, small))

no_bits : (word bound : ℕ) → word < 2 ^ bound → ((i : ℕ) → i < bound → has_bit word i ≡ false) → word ≡ 0
no_bits word bound small none = same_from_bits word 0 (λ i. at i (nat_lt i bound) refl ∙ sym (bit_at-zero i))
  where
    at : (i : ℕ) (low : Bool) → nat_lt i bound ≡ low → bit_at word i ≡ 0
    at i true e = no_bit word i (none i (ltb-true i bound e))
    at i false e = bit_at_above word bound i small (ltb-false i bound e)

pub some_bit : (word bound : ℕ) → word < 2 ^ bound → word ≢ 0 → HasSomeBit word bound
some_bit word bound small more = elim (some_bit_below word bound) [
  | inl found ↦ found
  | inr none ↦ absurd (more (no_bits word bound small none))
]

-- the request that is due waits, and no more once it is issued
pub due_less : (s : Standings) (due : Due) → due_of s ≡ Ok due → number_waiting (set s.waiting (due.id - 1) false) + 1 ≡ number_waiting s.waiting
due_less s due e =
    let next = due-is s due e in
    let id = next.id in
    let place : due.id - 1 ≡ lowest s.waiting = omega (arith, id) in
    let P : ℕ → Type 0 = λ k. number_waiting (set s.waiting k false) + 1 ≡ number_waiting s.waiting in
    subst P (sym place) (number-less s.waiting (lowest s.waiting) next.waits (lowest-waits s.waiting next.waits))
