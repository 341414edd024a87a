-- How many faults were reached.
use Rattle.std.proofs.Common.{IfSome, ◌≡◌, ℕ, ◌+◌, ◌<◌, ◌≤◌, ◌^◌, ◌&&◌, Bool, true, false, not, List, [], ◌∷◌, Option, Some, None, cond, refl, sym, ap, ◌∙◌, arith, nat_le}
use Rattle.std.proofs.lemmas.Bool.{false≢true, true≢false, leb-true, le-leb, lt-leb}
use Rattle.std.proofs.lemmas.List.Sums.{sum_by-cons}
use Rattle.std.specs.List.{count_by, find}
use Rattle.std.specs.Bool.{if◌then◌else◌}
use Rattle.storage_model.specs.declared.faults.ArrayHit.{ArrayHit}
use Rattle.array_edge.specs.Hits.{IsValidHit, hit_of, is_hit, is_reached, raised, reached_fails}
use Rattle.array_edge.specs.Script.{HasRoom, IsWithinHits}

one_le : (b c : Bool) → (b ≡ true → c ≡ true) → cond b 1 0 ≤ cond c 1 0
one_le true true more = omega arith
one_le true false more = absurd (false≢true (more refl))
one_le false true more = omega arith
one_le false false more = omega arith

pub count_cons : {X : Type 0} (p : X → Bool) (x : X) (xs : List X) → count_by p (x ∷ xs) ≡ cond (p x) 1 0 + count_by p xs
count_cons p x xs = sum_by-cons (λ y. cond (p y) 1 0) x xs

pub count_le : {X : Type 0} (p q : X → Bool) → ((x : X) → p x ≡ true → q x ≡ true) → (xs : List X) → count_by p xs ≤ count_by q xs
count_le p q more [] = omega arith
count_le p q more (x ∷ xs) = let first = one_le (p x) (q x) (more x) in let rest = count_le p q more xs in omega (arith, count_cons p x xs, count_cons q x xs)

count_found : {X : Type 0} (p q : X → Bool) → ((x : X) → p x ≡ true → q x ≡ true) → (x y : X) (xs : List X) (found : Option X) (here : Bool) → q y ≡ true → p y ≡ false
    → cond here (Some x) found ≡ Some y → (found ≡ Some y → count_by p xs < count_by q xs) → count_by p (x ∷ xs) < count_by q (x ∷ xs)
count_found p q more x y xs found true passes_q fails_p is next =
    let same : x ≡ y = cc in
    let p_is : p x ≡ false = rw same fails_p in
    let q_is : q x ≡ true = rw same passes_q in
    let rest = count_le p q more xs in
    omega (arith, rest, count_cons p x xs, count_cons q x xs, ap {B = ℕ} (λ b. cond b 1 0) p_is, ap {B = ℕ} (λ b. cond b 1 0) q_is)
count_found p q more x y xs found false passes_q fails_p is next =
    let first = one_le (p x) (q x) (more x) in let rest = next is in omega (arith, first, rest, count_cons p x xs, count_cons q x xs)

-- one more passes the wider test
pub count_more : {X : Type 0} (p q r : X → Bool) → ((x : X) → p x ≡ true → q x ≡ true) → (y : X) → q y ≡ true → p y ≡ false → (xs : List X) → find r xs ≡ Some y → count_by p xs < count_by q xs
count_more p q r more y passes_q fails_p [] found = absurd (cc)
count_more p q r more y passes_q fails_p (x ∷ xs) found =
    count_found p q more x y xs (find r xs) (r x) passes_q fails_p found (count_more p q r more y passes_q fails_p xs)

reach_more : (fetch : Bool) (n p p' f f' : ℕ) → p ≤ p' → f ≤ f' → nat_le n (if fetch then f else p) ≡ true → nat_le n (if fetch then f' else p') ≡ true
reach_more true n p p' f f' ps fs test = let le = leb-true n f test in le-leb n f' (omega arith)
reach_more false n p p' f f' ps fs test = let le = leb-true n p test in le-leb n p' (omega arith)

and_more : (a a' b : Bool) → (a ≡ true → a' ≡ true) → (a && b) ≡ true → (a' && b) ≡ true
and_more true a' b more test = rw (more refl) test
and_more false a' b more test = absurd (false≢true test)

pub reached_more : (b : ArrayHit → Bool) (p p' f f' : ℕ) → p ≤ p' → f ≤ f' → (hit : ArrayHit) → (is_reached p f hit && b hit) ≡ true → (is_reached p' f' hit && b hit) ≡ true
reached_more b p p' f f' ps fs hit = and_more (is_reached p f hit) (is_reached p' f' hit) (b hit) (reach_more hit.fetch hit.n p p' f f' ps fs)

pub within_later : (hits : List ArrayHit) (faults cuts p p' f f' : ℕ) → p ≤ p' → f ≤ f' → IsWithinHits hits faults cuts p f → IsWithinHits hits faults cuts p' f'
within_later hits faults cuts p p' f f' ps fs within =
    let fails = count_le _ _ (reached_more (λ hit. not hit.cut) p p' f f' ps fs) hits in
    let cut = count_le _ _ (reached_more (λ hit. hit.cut) p p' f f' ps fs) hits in
    record { faults_made = omega (arith, fails, within.faults_made); cuts_made = omega (arith, cut, within.cuts_made) }

both_true : (a b : Bool) → a ≡ true → b ≡ true → (a && b) ≡ true
both_true a b passes_q also = rw (passes_q, also) refl

first_false : (a b : Bool) → a ≡ false → (a && b) ≡ false
first_false a b fails_p = rw fails_p refl

-- a fault is reached by the call that it names
reached_now : (b : ArrayHit → Bool) (hits : List ArrayHit) (hit : ArrayHit) (fetch : Bool) (number p p' f f' : ℕ) → p ≤ p' → f ≤ f' → is_reached p f hit ≡ false → is_reached p' f' hit ≡ true
    → hit_of hits fetch number ≡ Some hit → b hit ≡ true → count_by (λ h. is_reached p f h && b h) hits < count_by (λ h. is_reached p' f' h && b h) hits
reached_now b hits hit fetch number p p' f f' ps fs fails_p passes_q found passes =
    count_more (λ h. is_reached p f h && b h) (λ h. is_reached p' f' h && b h) (is_hit fetch number) (reached_more b p p' f f' ps fs) hit (both_true _ _ passes_q passes) (first_false _ _ fails_p) hits found

fetch_before : (fetch : Bool) (n p f : ℕ) → fetch ≡ true → n ≡ raised f → n < 2 ^ 32 → nat_le n (if fetch then f else p) ≡ false
fetch_before true n p f kind number small = lt-leb n f (omega arith)
fetch_before false n p f kind number small = absurd (false≢true kind)

fetch_now : (fetch : Bool) (n p f : ℕ) → fetch ≡ true → n ≡ f → nat_le n (if fetch then f else p) ≡ true
fetch_now true n p f kind number = le-leb n f (omega arith)
fetch_now false n p f kind number = absurd (false≢true kind)

program_before : (fetch : Bool) (n p f : ℕ) → fetch ≡ false → n ≡ raised p → n < 2 ^ 32 → nat_le n (if fetch then f else p) ≡ false
program_before true n p f kind number small = absurd (true≢false kind)
program_before false n p f kind number small = lt-leb n p (omega arith)

program_now : (fetch : Bool) (n p f : ℕ) → fetch ≡ false → n ≡ p → nat_le n (if fetch then f else p) ≡ true
program_now true n p f kind number = absurd (true≢false kind)
program_now false n p f kind number = le-leb n p (omega arith)

pub room_fetch : (met : Option ArrayHit) (hits : List ArrayHit) (faults cuts p f f' : ℕ) → f' ≡ raised f → f ≤ f' → met ≡ hit_of hits true f' → IfSome met (λ hit. IsValidHit true f' hit)
    → IsWithinHits hits faults cuts p f → IfSome met (λ hit. faults < reached_fails p f' hits)
room_fetch None hits faults cuts p f f' next le is valid within = tt
room_fetch (Some hit) hits faults cuts p f f' next le is valid within =
    let more = reached_now (λ h. not h.cut) hits hit true f' p p f f' (omega arith) le (fetch_before hit.fetch hit.n p f valid.kind (valid.called ∙ next) valid.small) (fetch_now hit.fetch hit.n p f' valid.kind valid.called) (sym is) (ap not (valid.uncut refl)) in
    omega (arith, more, within.faults_made)

pub room_program : (met : Option ArrayHit) (hits : List ArrayHit) (faults cuts p p' f : ℕ) → p' ≡ raised p → p ≤ p' → met ≡ hit_of hits false p' → IfSome met (λ hit. IsValidHit false p' hit)
    → IsWithinHits hits faults cuts p f → IfSome met (λ hit. HasRoom hit hits faults cuts p' f)
room_program None hits faults cuts p p' f next le is valid within = tt
room_program (Some hit) hits faults cuts p p' f next le is valid within =
    let before = program_before hit.fetch hit.n p f valid.kind (valid.called ∙ next) valid.small in
    let now = program_now hit.fetch hit.n p' f valid.kind valid.called in
    record {
      fails = λ uncut. (let more = reached_now (λ h. not h.cut) hits hit false p' p p' f f le (omega arith) before now (sym is) (ap not uncut) in omega (arith, more, within.faults_made));
      cut = λ is_cut. (let more = reached_now (λ h. h.cut) hits hit false p' p p' f f le (omega arith) before now (sym is) is_cut in omega (arith, more, within.cuts_made));
    }
