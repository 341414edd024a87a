-- The requests of the tags, when some tags are freed.
use Rattle.std.proofs.Common.{◌≡◌, ℕ, zero, suc, ◌+◌, Bool, true, false, List, [], ◌∷◌, length, refl, sym, ap, ◌∙◌, arith, subst}
use Rattle.std.specs.Prelude.{◌==◌, cond, Option, None, Some, slice_set, get_or, replicate, if◌then◌else◌, nat_lt, ◌&&◌}
use Rattle.std.specs.Int.{bit_at}
use Rattle.std.proofs.lemmas.List.{get_or-set_other, get_or_past}
use Rattle.std.proofs.lemmas.Bool.{eqb-true, eqb-false, ltb-false}
use Rattle.drv_jobs.specs.Standings.{holder_of, no_holders}
use Rattle.drv_jobs.specs.Changes.{freed_from}

abbrev no_request : Option ℕ
no_request = None

get_or-none : (n i : ℕ) → get_or (replicate n no_request) i None ≡ None
get_or-none zero i = refl
get_or-none (suc n) zero = refl
get_or-none (suc n) (suc i) = get_or-none n i

pub holder-none : (tag : ℕ) → holder_of no_holders tag ≡ None
unfolding no_holders
holder-none tag = get_or-none 32 tag

pub length-no_holders : length no_holders ≡ 32
unfolding no_holders
length-no_holders = refl

-- a freed tag has no request
pub holder-freed : (holders : List (Option ℕ)) (tag : ℕ) → holder_of (slice_set holders tag None) tag ≡ None
holder-freed [] tag = refl
holder-freed (holder ∷ holders) zero = refl
holder-freed (holder ∷ holders) (suc tag) = holder-freed holders tag

none_either : (b : Bool) → no_request ≡ cond b no_request no_request
none_either true = refl
none_either false = refl

pub holder-freed_from : (word start : ℕ) (holders : List (Option ℕ)) (tag : ℕ)
    → holder_of (freed_from word start holders) tag ≡ (if bit_at word (start + tag) == 1 then None else holder_of holders tag)
unfolding freed_from
holder-freed_from word start [] tag = none_either (bit_at word (start + tag) == 1)
holder-freed_from word start (holder ∷ holders) zero =
    let same : start + 0 ≡ start = omega arith in
    rw same refl
holder-freed_from word start (holder ∷ holders) (suc tag) =
    let moved : start + 1 + tag ≡ start + suc tag = omega arith in
    holder-freed_from word (start + 1) holders tag ∙ ap (λ n. if bit_at word n == 1 then None else holder_of holders tag) moved

pub length-freed_from : (word start : ℕ) (holders : List (Option ℕ)) → length (freed_from word start holders) ≡ length holders
unfolding freed_from
length-freed_from word start [] = refl
length-freed_from word start (holder ∷ holders) = let rest = length-freed_from word (start + 1) holders in omega (arith, rest)

-- a table that has only requests of another, each with its tag there
abbrev pub AreFewer : (old new : List (Option ℕ)) → Type 0
AreFewer old new = (tag id : ℕ) → holder_of new tag ≡ Some id → holder_of old tag ≡ Some id

pub fewer-set_at : (b : Bool) (holders : List (Option ℕ)) (freed tag id : ℕ) → (tag == freed) ≡ b
    → holder_of (slice_set holders freed None) tag ≡ Some id → holder_of holders tag ≡ Some id
fewer-set_at true holders freed tag id h e =
    let same : tag ≡ freed = eqb-true tag freed h in
    let none : holder_of (slice_set holders freed None) tag ≡ None = subst (λ n. holder_of (slice_set holders freed None) n ≡ None) (sym same) (holder-freed holders freed) in
    absurd (cc (none, e))
fewer-set_at false holders freed tag id h e = sym (get_or-set_other holders freed tag None None (eqb-false tag freed h)) ∙ e

pub fewer-set : (holders : List (Option ℕ)) (freed : ℕ) → AreFewer holders (slice_set holders freed None)
fewer-set holders freed tag id e = fewer-set_at (tag == freed) holders freed tag id refl e

fewer_if : (b : Bool) (holder : Option ℕ) (id : ℕ) → cond b None holder ≡ Some id → holder ≡ Some id
fewer_if true holder id e = absurd (cc (e))
fewer_if false holder id e = e

pub fewer-freed_from : (word : ℕ) (holders : List (Option ℕ)) → AreFewer holders (freed_from word 0 holders)
fewer-freed_from word holders tag id e =
    fewer_if (bit_at word (0 + tag) == 1) (holder_of holders tag) id (sym (holder-freed_from word 0 holders tag) ∙ e)

pub fewer-none : (holders : List (Option ℕ)) → AreFewer holders no_holders
fewer-none holders tag id e = absurd (cc (holder-none tag, e))

-- tables that have the same request for each tag are the same
pub same-holders : (xs ys : List (Option ℕ)) → length xs ≡ length ys → ((tag : ℕ) → holder_of xs tag ≡ holder_of ys tag) → xs ≡ ys
same-holders [] [] size same = refl
same-holders [] (y ∷ ys) size same = absurd (omega (arith, size))
same-holders (x ∷ xs) [] size same = absurd (omega (arith, size))
same-holders (x ∷ xs) (y ∷ ys) size same =
    let first : x ≡ y = same 0 in
    let rest = same-holders xs ys (omega (arith, size)) (λ tag. same (suc tag)) in
    cc

-- the tags of a word are freed up to the last
pub freed-at : (word tag bound : ℕ) (old : List (Option ℕ)) → length old ≡ 32 → bound ≡ 32
    → (if nat_lt tag bound && (bit_at word tag == 1) then None else holder_of old tag) ≡ (if bit_at word tag == 1 then None else holder_of old tag)
freed-at word tag bound old size end = freed_in (nat_lt tag bound) refl
  where
    freed_in : (b : Bool) → nat_lt tag bound ≡ b
        → cond (b && (bit_at word tag == 1)) None (holder_of old tag) ≡ cond (bit_at word tag == 1) None (holder_of old tag)
    freed_in true h = refl
    freed_in false h =
        let past : holder_of old tag ≡ None = get_or_past old tag None (let out = ltb-false tag bound h in omega (arith, out, size, end)) in
        rw past (none_either (bit_at word tag == 1))

pub holder-freed_first : (word : ℕ) (holders : List (Option ℕ)) (tag : ℕ)
    → holder_of (freed_from word 0 holders) tag ≡ (if bit_at word tag == 1 then None else holder_of holders tag)
holder-freed_first word holders tag =
    let same : 0 + tag ≡ tag = omega arith in
    holder-freed_from word 0 holders tag ∙ ap (λ n. if bit_at word n == 1 then None else holder_of holders tag) same
