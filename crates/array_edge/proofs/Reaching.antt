-- A call reaches at most the one fault of its number.
use Rattle.std.proofs.Common.{inl, inr, suc, IfSome, ◌≡◌, ◌⊎◌, ℕ, ◌+◌, ◌-◌, ◌^◌, ◌<◌, ◌≤◌, ◌==◌, ◌&&◌, Bool, true, false, not, List, [], ◌∷◌, Option, Some, None, Result, Ok, Err, cond, length, get_or, refl, sym, ap, ◌∙◌, arith, nat_le}
use Rattle.storage_model.specs.Faults.{IsValidArrayHits}
use Rattle.std.proofs.lemmas.Bool.{and_parts, cases_Bool, cases_order, both_ways, false_from_ne_true, false≢true, true≢false, le-leb, lt-leb, eqb-true, eq-eqb}
use Rattle.std.specs.Bool.{if◌then◌else◌, beq}
use Rattle.std.specs.Prelude.{min}
use Rattle.std.specs.List.{count_by, find}
use Rattle.storage_model.specs.declared.faults.ArrayHit.{ArrayHit}
use Rattle.array_edge.specs.Hits.{hit_of, is_hit, is_reached, raised, reached_cuts, reached_fails}
use Rattle.storage_model.specs.Count.{Count, Later, Rose}
use Rattle.storage_model.specs.declared.block.Block.{Block}
use Rattle.array_edge.specs.Array.{ArrayState, Fetched, Programmed, Settled}
use Rattle.array_edge.specs.Script.{HasMet, HasRun, Script, ScriptFetched, ScriptProgrammed, after_hit}
use Rattle.array_edge.specs.declared.array.ArrayEnd.{ArrayEnd}
use Rattle.array_edge.specs.declared.array.ArrayEnd.TheVariants.{Failed, PowerLost}
use Rattle.array_edge.proofs.Meetings.{same_kind}
use Rattle.array_edge.proofs.Runs.{run_settled, stood_not}
use Rattle.array_edge.proofs.Reached.{count_cons}

-- no call of the list is the one that is made
pub none_more : (b r r' t : ArrayHit → Bool) (xs : List ArrayHit) → ((x : ArrayHit) → t x ≡ false → r' x ≡ r x) → find t xs ≡ None
    → count_by (λ h. r' h && b h) xs ≡ count_by (λ h. r h && b h) xs
none_more b r r' t [] same none = refl
none_more b r r' t (x ∷ xs) same none = elim (cases_Bool (t x)) [
  | inl here ↦ absurd (let e : Some x ≡ None = rw here at none in cc)
  | inr gone ↦
      let rest = none_more b r r' t xs same (rw gone at none) in
      count_cons (λ h. r' h && b h) x xs ∙ (rw (same x gone, rest) (sym (count_cons (λ h. r h && b h) x xs)))
]

all_same : (b r r' t : ArrayHit → Bool) (xs : List ArrayHit) (d : ArrayHit) → ((x : ArrayHit) → t x ≡ false → r' x ≡ r x) → ((k : ℕ) → k < length xs → t (get_or xs k d) ≡ false)
    → count_by (λ h. r' h && b h) xs ≡ count_by (λ h. r h && b h) xs
all_same b r r' t [] d same none = refl
all_same b r r' t (x ∷ xs) d same none =
    let rest = all_same b r r' t xs d same (λ k below. none (suc k) (omega arith)) in
    let gone : t x ≡ false = none 0 (omega arith) in
    count_cons (λ h. r' h && b h) x xs ∙ (rw (same x gone, rest) (sym (count_cons (λ h. r h && b h) x xs)))

-- one is, and no other
pub one_more : (b r r' t : ArrayHit → Bool) (xs : List ArrayHit) (hit d : ArrayHit) → ((x : ArrayHit) → t x ≡ false → r' x ≡ r x) → ((x : ArrayHit) → t x ≡ true → (r' x ≡ true) × (r x ≡ false))
    → ((i j : ℕ) → i < j → j < length xs → t (get_or xs i d) ≡ true → t (get_or xs j d) ≡ false) → find t xs ≡ Some hit
    → count_by (λ h. r' h && b h) xs ≡ count_by (λ h. r h && b h) xs + cond (b hit) 1 0
one_more b r r' t [] hit d same now once found = absurd (cc)
one_more b r r' t (x ∷ xs) hit d same now once found = elim (cases_Bool (t x)) [
  | inl here ↦
      let is : x ≡ hit = (let e : Some x ≡ Some hit = rw here at found in cc) in
      let rest = all_same b r r' t xs d same (λ k below. once 0 (suc k) (omega arith) (omega arith) here) in
      let new : r' x ≡ true = (now x here).0 in
      let old : r x ≡ false = (now x here).1 in
      let first : ◌≡◌ {A = ℕ} (cond (r' x && b x) 1 0) (cond (b hit) 1 0) = rw (new, is) refl in
      let before : ◌≡◌ {A = ℕ} (cond (r x && b x) 1 0) 0 = rw old refl in
      omega (arith, count_cons (λ h. r' h && b h) x xs, count_cons (λ h. r h && b h) x xs, rest, first, before)
  | inr gone ↦
      let rest = one_more b r r' t xs hit d same now (λ i j less below. once (suc i) (suc j) (omega arith) (omega arith)) (rw gone at found) in
      let first : ◌≡◌ {A = ℕ} (cond (r' x && b x) 1 0) (cond (r x && b x) 1 0) = rw (same x gone) refl in
      omega (arith, count_cons (λ h. r' h && b h) x xs, count_cons (λ h. r h && b h) x xs, rest, first)
]

-- a call of another number reaches nothing more
apart_at : (mine kind : Bool) (n p p' f f' : ℕ) → p ≤ p' → p' ≤ p + 1 → f ≤ f' → f' ≤ f + 1 → (mine ≡ true → p' ≡ p) → (mine ≡ false → f' ≡ f)
    → (beq kind mine && (n == (if mine then f' else p'))) ≡ false → nat_le n (if kind then f' else p') ≡ nat_le n (if kind then f else p)
apart_at true true n p p' f f' pl pm fl fm ps fs gone = elim (cases_order n f') [
  | inl same ↦ absurd (both_ways (n == f') gone (eq-eqb n f' same))
  | inr (inl below) ↦ le-leb n f' (omega arith) ∙ sym (le-leb n f (omega arith))
  | inr (inr above) ↦ lt-leb n f' above ∙ sym (lt-leb n f (omega arith))
]
apart_at true false n p p' f f' pl pm fl fm ps fs gone = rw (ps refl) refl
apart_at false true n p p' f f' pl pm fl fm ps fs gone = rw (fs refl) refl
apart_at false false n p p' f f' pl pm fl fm ps fs gone = elim (cases_order n p') [
  | inl same ↦ absurd (both_ways (n == p') gone (eq-eqb n p' same))
  | inr (inl below) ↦ le-leb n p' (omega arith) ∙ sym (le-leb n p (omega arith))
  | inr (inr above) ↦ lt-leb n p' above ∙ sym (lt-leb n p (omega arith))
]

-- the call of its number reaches it
now_at : (mine kind : Bool) (n p p' f f' : ℕ) → (mine ≡ true → f' ≡ f + 1) → (mine ≡ false → p' ≡ p + 1)
    → (beq kind mine && (n == (if mine then f' else p'))) ≡ true → (nat_le n (if kind then f' else p') ≡ true) × (nat_le n (if kind then f else p) ≡ false)
now_at true true n p p' f f' fs ps here = let same : n ≡ f' = eqb-true n f' here in let next = fs refl in (le-leb n f' (omega arith), lt-leb n f (omega arith))
now_at true false n p p' f f' fs ps here = absurd (false≢true here)
now_at false true n p p' f f' fs ps here = absurd (false≢true here)
now_at false false n p p' f f' fs ps here = let same : n ≡ p' = eqb-true n p' here in let next = ps refl in (le-leb n p' (omega arith), lt-leb n p (omega arith))

at_most_one : (hits : List ArrayHit) (fetch : Bool) (number : ℕ) (d : ArrayHit) → IsValidArrayHits hits → (i j : ℕ) → i < j → j < length hits
    → is_hit fetch number (get_or hits i d) ≡ true → is_hit fetch number (get_or hits j d) ≡ false
at_most_one hits fetch number d valid i j less below here = false_from_ne_true (is_hit fetch number (get_or hits j d)) (λ there.
    let one = and_parts (beq (get_or hits i d).fetch fetch) ((get_or hits i d).n == number) here in
    let two = and_parts (beq (get_or hits j d).fetch fetch) ((get_or hits j d).n == number) there in
    let kind = same_kind _ _ one.0 ∙ sym (same_kind _ _ two.0) in
    let a = eqb-true (get_or hits i d).n number one.1 in
    let b = eqb-true (get_or hits j d).n number two.1 in
    let more = valid.rising i j d less below kind in
    omega arith)

-- how many faults a call reaches besides
abbrev reaches : Option ArrayHit → (ArrayHit → Bool) → ℕ
reaches None b = 0
reaches (Some hit) b = cond (b hit) 1 0

pub reached_by : (b : ArrayHit → Bool) (mine : Bool) (hits : List ArrayHit) (met : Option ArrayHit) (p p' f f' : ℕ) → IsValidArrayHits hits
    → p ≤ p' → p' ≤ p + 1 → f ≤ f' → f' ≤ f + 1 → (mine ≡ true → p' ≡ p) → (mine ≡ false → f' ≡ f)
    → (IfSome met (λ hit. (mine ≡ true → f' ≡ f + 1) × (mine ≡ false → p' ≡ p + 1)))
    → met ≡ hit_of hits mine (if mine then f' else p')
    → count_by (λ h. is_reached p' f' h && b h) hits ≡ count_by (λ h. is_reached p f h && b h) hits + reaches met b
reached_by b mine hits None p p' f f' valid pl pm fl fm ps fs next is =
    let same = none_more b (is_reached p f) (is_reached p' f') (is_hit mine (if mine then f' else p')) hits (λ x gone. apart_at mine x.fetch x.n p p' f f' pl pm fl fm ps fs gone) (sym is) in
    omega (arith, same)
reached_by b mine hits (Some hit) p p' f f' valid pl pm fl fm ps fs next is =
    one_more b (is_reached p f) (is_reached p' f') (is_hit mine (if mine then f' else p')) hits hit hit (λ x gone. apart_at mine x.fetch x.n p p' f f' pl pm fl fm ps fs gone)
    (λ x here. now_at mine x.fetch x.n p p' f f' next.0 next.1 here) (at_most_one hits mine (if mine then f' else p') hit valid) (sym is)

-- what was found passes the test, and has what all have
found_has : (P : ArrayHit → Type 0) (t : ArrayHit → Bool) (xs : List ArrayHit) (hit : ArrayHit) → ((k : ℕ) (d : ArrayHit) → k < length xs → P (get_or xs k d)) → find t xs ≡ Some hit → (t hit ≡ true) × P hit
found_has P t [] hit all found = absurd (cc)
found_has P t (x ∷ xs) hit all found = elim (cases_Bool (t x)) [
  | inl here ↦ let is : x ≡ hit = (let e : Some x ≡ Some hit = rw here at found in cc) in (rw is at here, rw is at (all 0 x (omega arith)))
  | inr gone ↦ found_has P t xs hit (λ k d below. all (suc k) d (omega arith)) (rw gone at found)
]

-- the number of a fault is small
found_small : (hits : List ArrayHit) (fetch : Bool) (number : ℕ) (hit : ArrayHit) → IsValidArrayHits hits → hit_of hits fetch number ≡ Some hit → (hit.n ≡ number) × (hit.n < 2 ^ 32) × (hit.fetch ≡ fetch)
found_small hits fetch number hit valid found =
    let has = found_has (λ h. (1 ≤ h.n) × (h.n < 2 ^ 32)) (is_hit fetch number) hits hit valid.numbers found in
    let parts = and_parts (beq hit.fetch fetch) (hit.n == number) has.0 in
    (eqb-true hit.n number parts.1, has.1.1, same_kind _ _ parts.0)

-- a fetch that is made reaches its fault
reached_fetch : (b : ArrayHit → Bool) (hits : List ArrayHit) (met : Option ArrayHit) (p f : ℕ) → IsValidArrayHits hits → f < 2 ^ 64 → met ≡ hit_of hits true (raised f)
    → count_by (λ h. is_reached p (raised f) h && b h) hits ≡ count_by (λ h. is_reached p f h && b h) hits + reaches met b
reached_fetch b hits None p f valid fits is = reached_by b true hits None p p f (raised f) valid (omega arith) (omega arith) (omega arith) (omega arith) (λ _. refl) (λ no. absurd (false≢true (sym no))) tt is
reached_fetch b hits (Some hit) p f valid fits is =
    let small = found_small hits true (raised f) hit valid (sym is) in
    let n = small.0 in let less = small.1 in
    reached_by b true hits (Some hit) p p f (raised f) valid (omega arith) (omega arith) (omega arith) (omega arith) (λ _. refl) (λ no. absurd (false≢true (sym no))) (λ _. omega arith, λ no. absurd (false≢true (sym no))) is

reached_program : (b : ArrayHit → Bool) (hits : List ArrayHit) (met : Option ArrayHit) (p f : ℕ) → IsValidArrayHits hits → p < 2 ^ 64 → met ≡ hit_of hits false (raised p)
    → count_by (λ h. is_reached (raised p) f h && b h) hits ≡ count_by (λ h. is_reached p f h && b h) hits + reaches met b
reached_program b hits None p f valid fits is = reached_by b false hits None p (raised p) f f valid (omega arith) (omega arith) (omega arith) (omega arith) (λ no. absurd (false≢true no)) (λ _. refl) tt is
reached_program b hits (Some hit) p f valid fits is =
    let small = found_small hits false (raised p) hit valid (sym is) in
    let n = small.0 in let less = small.1 in
    reached_by b false hits (Some hit) p (raised p) f f valid (omega arith) (omega arith) (omega arith) (omega arith) (λ no. absurd (false≢true no)) (λ _. refl) (λ no. absurd (false≢true no), λ _. omega arith) is

later_same : (count : Count) → Later count count
later_same count = record { value = omega arith; stands = λ h. h }

later_both : (a b c : Count) → Later a b → Later b c → Later a c
later_both a b c first next = let one = first.value in let other = next.value in record { value = omega arith; stands = λ h. next.stands (first.stands h) }

-- the script's counts grew by what was reached, where the inner array's didn't
met_on : (start old new : ArrayState) (hits : List ArrayHit) (faults faults' cuts cuts' p p' f f' : ℕ) → HasMet start old hits faults cuts p f → Later old.faults new.faults → Later old.cuts new.cuts
    → (new.faults.value ≡ old.faults.value → new.faults.stands ≡ false → new.cuts.value ≡ old.cuts.value → new.cuts.stands ≡ false
    → (faults ≡ min (reached_fails p f hits) (2 ^ 64 - 1) → faults' ≡ min (reached_fails p' f' hits) (2 ^ 64 - 1)) × (cuts ≡ min (reached_cuts p f hits) (2 ^ 64 - 1) → cuts' ≡ min (reached_cuts p' f' hits) (2 ^ 64 - 1)))
    → HasMet start new hits faults' cuts' p' f'
met_on start old new hits faults faults' cuts cuts' p p' f f' m later_f later_c grew =
    let lf = later_f.value in let lc = later_c.value in let sf = m.faults_later in let sc = m.cuts_later in
    record {
      valid = m.valid;
      faults_later = omega arith;
      cuts_later = omega arith;
      exact = λ fe fs ce cs.
          let was = m.exact (omega arith) (stood_not old.faults new.faults later_f fs) (omega arith) (stood_not old.cuts new.cuts later_c cs) in
          let now = grew (omega arith) fs (omega arith) cs in
          (now.0 was.0, now.1 was.1);
    }

pub met_fetched : {A : Type 0} (state : A → ArrayState) (start : ArrayState) (met : Option ArrayHit) (old new : Script A) (page : ℕ) (block : Block) (result : Result (Unit {0}) ArrayEnd)
    → met ≡ hit_of old.hits true (raised old.fetches) → old.fetches < 2 ^ 64 → ScriptFetched state met old page block new result
    → HasMet start (state old.inner) old.hits old.faults old.cuts old.programs old.fetches → HasMet start (state new.inner) new.hits new.faults new.cuts new.programs new.fetches
met_fetched state start None old new page block result is fits did m =
    let hits : new.hits ≡ old.hits = ap (λ s. s.hits) did.1 in
    let faults : new.faults ≡ old.faults = ap (λ s. s.faults) did.1 in
    let cuts : new.cuts ≡ old.cuts = ap (λ s. s.cuts) did.1 in
    let programs : new.programs ≡ old.programs = ap (λ s. s.programs) did.1 in
    let fetches : new.fetches ≡ raised old.fetches = ap (λ s. s.fetches) did.1 in
    let fails = reached_fetch (λ h. not h.cut) old.hits None old.programs old.fetches m.valid fits is in
    let cut = reached_fetch (λ h. h.cut) old.hits None old.programs old.fetches m.valid fits is in
    rw (hits, faults, cuts, programs, fetches) (met_on start (state old.inner) (state new.inner) old.hits old.faults old.faults old.cuts old.cuts old.programs old.programs old.fetches (raised old.fetches) m did.0.ends.faults did.0.ends.cuts
    (λ _ _ _ _. (λ e. omega (arith, e, fails), λ e. omega (arith, e, cut))))
met_fetched state start (Some hit) old new page block result is fits did m =
    let inner : new.inner ≡ old.inner = ap (λ s. s.inner) did.2 in
    let hits : new.hits ≡ old.hits = ap (λ s. s.hits) did.2 in
    let faults : new.faults ≡ raised old.faults = ap (λ s. s.faults) did.2 in
    let cuts : new.cuts ≡ old.cuts = ap (λ s. s.cuts) did.2 in
    let programs : new.programs ≡ old.programs = ap (λ s. s.programs) did.2 in
    let fetches : new.fetches ≡ raised old.fetches = ap (λ s. s.fetches) did.2 in
    let uncut : hit.cut ≡ false = did.0.uncut refl in
    let one : ◌≡◌ {A = ℕ} (cond (not hit.cut) 1 0) 1 = rw uncut refl in
    let nought : ◌≡◌ {A = ℕ} (cond hit.cut 1 0) 0 = rw uncut refl in
    let fails = reached_fetch (λ h. not h.cut) old.hits (Some hit) old.programs old.fetches m.valid fits is in
    let cut = reached_fetch (λ h. h.cut) old.hits (Some hit) old.programs old.fetches m.valid fits is in
    rw (inner, hits, faults, cuts, programs, fetches) (met_on start (state old.inner) (state old.inner) old.hits old.faults (raised old.faults) old.cuts old.cuts old.programs old.programs old.fetches (raised old.fetches) m (later_same (state old.inner).faults) (later_same (state old.inner).cuts)
    (λ _ _ _ _. (λ e. omega (arith, e, fails, one), λ e. omega (arith, e, cut, nought))))

rose_not : (old new : Count) → Rose old new → new.value ≡ old.value → new.stands ≡ false → ⊥
rose_not old new (inl more) same still = omega arith
rose_not old new (inr stands) same still = true≢false (sym stands ∙ still)

-- the counts of a script after a fault that it made
grew_by : (cut : Bool) (faults faults' cuts cuts' r r' c c' : ℕ) → faults' ≡ (if cut then faults else raised faults) → cuts' ≡ (if cut then raised cuts else cuts)
    → r' ≡ r + cond (not cut) 1 0 → c' ≡ c + cond cut 1 0
    → (faults ≡ min r (2 ^ 64 - 1) → faults' ≡ min r' (2 ^ 64 - 1)) × (cuts ≡ min c (2 ^ 64 - 1) → cuts' ≡ min c' (2 ^ 64 - 1))
grew_by true faults faults' cuts cuts' r r' c c' fi ci ri ki = (λ e. omega (arith, e, fi, ri), λ e. omega (arith, e, ci, ki))
grew_by false faults faults' cuts cuts' r r' c c' fi ci ri ki = (λ e. omega (arith, e, fi, ri), λ e. omega (arith, e, ci, ki))

met_broken : {A : Type 0} (state : A → ArrayState) (start between : ArrayState) (hit : ArrayHit) (old new : Script A) (page : ℕ) (seen left : Block) (answer : Result (Unit {0}) ArrayEnd)
    → Some hit ≡ hit_of old.hits false (raised old.programs) → old.programs < 2 ^ 64 → (state old.inner).powered ≡ true
    → Fetched (state old.inner) page seen between (Ok tt) → Programmed between page left (state new.inner) answer
    → new ≡ after_hit hit answer (record old { inner = new.inner; powered = (state new.inner).powered; programs = raised old.programs })
    → HasMet start (state old.inner) old.hits old.faults old.cuts old.programs old.fetches → HasMet start (state new.inner) new.hits new.faults new.cuts new.programs new.fetches
met_broken state start between hit old new page seen left (Ok _) is fits on fetched programmed after m =
    let hits : new.hits ≡ old.hits = ap (λ s. s.hits) after in
    let faults : new.faults ≡ (if hit.cut then old.faults else raised old.faults) = ap (λ s. s.faults) after in
    let cuts : new.cuts ≡ (if hit.cut then raised old.cuts else old.cuts) = ap (λ s. s.cuts) after in
    let programs : new.programs ≡ raised old.programs = ap (λ s. s.programs) after in
    let fetches : new.fetches ≡ old.fetches = ap (λ s. s.fetches) after in
    let fails = reached_program (λ h. not h.cut) old.hits (Some hit) old.programs old.fetches m.valid fits is in
    let cut = reached_program (λ h. h.cut) old.hits (Some hit) old.programs old.fetches m.valid fits is in
    rw (hits, programs, fetches) (met_on start (state old.inner) (state new.inner) old.hits old.faults new.faults old.cuts new.cuts old.programs (raised old.programs) old.fetches old.fetches m
    (later_both (state old.inner).faults between.faults (state new.inner).faults fetched.ends.faults programmed.ends.faults) (later_both (state old.inner).cuts between.cuts (state new.inner).cuts fetched.ends.cuts programmed.ends.cuts)
    (λ _ _ _ _. grew_by hit.cut old.faults new.faults old.cuts new.cuts _ _ _ _ faults cuts fails cut))
met_broken state start between hit old new page seen left (Err Failed) is fits on fetched programmed after m =
    let hits : new.hits ≡ old.hits = ap (λ s. s.hits) after in
    let programs : new.programs ≡ raised old.programs = ap (λ s. s.programs) after in
    let fetches : new.fetches ≡ old.fetches = ap (λ s. s.fetches) after in
    let f1 = fetched.ends.faults.value in
    let f2 = programmed.ends.faults.value in
    rw (hits, programs, fetches) (met_on start (state old.inner) (state new.inner) old.hits old.faults new.faults old.cuts new.cuts old.programs (raised old.programs) old.fetches old.fetches m
    (later_both (state old.inner).faults between.faults (state new.inner).faults fetched.ends.faults programmed.ends.faults) (later_both (state old.inner).cuts between.cuts (state new.inner).cuts fetched.ends.cuts programmed.ends.cuts)
    (λ fe fs _ _. absurd (rose_not between.faults (state new.inner).faults (programmed.ends.failed refl).0 (omega arith) fs)))
met_broken state start between hit old new page seen left (Err PowerLost) is fits on fetched programmed after m =
    let hits : new.hits ≡ old.hits = ap (λ s. s.hits) after in
    let programs : new.programs ≡ raised old.programs = ap (λ s. s.programs) after in
    let fetches : new.fetches ≡ old.fetches = ap (λ s. s.fetches) after in
    let c1 = fetched.ends.cuts.value in
    let c2 = programmed.ends.cuts.value in
    let powered : between.powered ≡ true = ap (λ s. s.powered) fetched.same ∙ on in
    rw (hits, programs, fetches) (met_on start (state old.inner) (state new.inner) old.hits old.faults new.faults old.cuts new.cuts old.programs (raised old.programs) old.fetches old.fetches m
    (later_both (state old.inner).faults between.faults (state new.inner).faults fetched.ends.faults programmed.ends.faults) (later_both (state old.inner).cuts between.cuts (state new.inner).cuts fetched.ends.cuts programmed.ends.cuts)
    (λ _ _ ce cs. elim (programmed.ends.lost refl).0 [
      | inl cut ↦ absurd (rose_not between.cuts (state new.inner).cuts cut (omega arith) cs)
      | inr off ↦ absurd (true≢false (sym powered ∙ off))
    ]))

pub met_programmed : {A : Type 0} (state : A → ArrayState) (start : ArrayState) (met : Option ArrayHit) (old new : Script A) (page : ℕ) (block : Block) (result : Result (Unit {0}) ArrayEnd)
    → met ≡ hit_of old.hits false (raised old.programs) → old.programs < 2 ^ 64 → (state old.inner).powered ≡ true → ScriptProgrammed state met old page block new result
    → HasMet start (state old.inner) old.hits old.faults old.cuts old.programs old.fetches → HasMet start (state new.inner) new.hits new.faults new.cuts new.programs new.fetches
met_programmed state start None old new page block result is fits on did m =
    let hits : new.hits ≡ old.hits = ap (λ s. s.hits) did.1 in
    let faults : new.faults ≡ old.faults = ap (λ s. s.faults) did.1 in
    let cuts : new.cuts ≡ old.cuts = ap (λ s. s.cuts) did.1 in
    let programs : new.programs ≡ raised old.programs = ap (λ s. s.programs) did.1 in
    let fetches : new.fetches ≡ old.fetches = ap (λ s. s.fetches) did.1 in
    let fails = reached_program (λ h. not h.cut) old.hits None old.programs old.fetches m.valid fits is in
    let cut = reached_program (λ h. h.cut) old.hits None old.programs old.fetches m.valid fits is in
    rw (hits, faults, cuts, programs, fetches) (met_on start (state old.inner) (state new.inner) old.hits old.faults old.faults old.cuts old.cuts old.programs (raised old.programs) old.fetches old.fetches m did.0.ends.faults did.0.ends.cuts
    (λ _ _ _ _. (λ e. omega (arith, e, fails), λ e. omega (arith, e, cut))))
met_programmed state start (Some hit) old new page block result is fits on (inl unread) m =
    let hits : new.hits ≡ old.hits = ap (λ s. s.hits) unread.after in
    let programs : new.programs ≡ raised old.programs = ap (λ s. s.programs) unread.after in
    let fetches : new.fetches ≡ old.fetches = ap (λ s. s.fetches) unread.after in
    rw (hits, programs, fetches) (met_on start (state old.inner) (state new.inner) old.hits old.faults new.faults old.cuts new.cuts old.programs (raised old.programs) old.fetches old.fetches m unread.fetched.ends.faults unread.fetched.ends.cuts
    (λ fe fs _ _. absurd (rose_not (state old.inner).faults (state new.inner).faults (unread.fetched.ends.failed unread.failed).0 fe fs)))
met_programmed state start (Some hit) old new page block result is fits on (inr did) m =
    met_broken state start did.between hit old new page did.seen did.left did.answer is fits on did.fetched did.programmed did.after m

on_or_off : (powered : Bool) → (powered ≡ true) ⊎ (powered ≡ false)
on_or_off true = inl refl
on_or_off false = inr refl

met_kept : {A : Type 0} (state : A → ArrayState) (start : ArrayState) (old new : Script A) → new ≡ old
    → HasMet start (state old.inner) old.hits old.faults old.cuts old.programs old.fetches → HasMet start (state new.inner) new.hits new.faults new.cuts new.programs new.fetches
met_kept state start old new same m = rw same m

pub met_fetch : {A : Type 0} (state : A → ArrayState) (start : ArrayState) (old new : Script A) (page : ℕ) (block : Block) (result : Result (Unit {0}) ArrayEnd) → old.fetches < 2 ^ 64
    → (old.powered ≡ true → ScriptFetched state (hit_of old.hits true (raised old.fetches)) old page block new result) → (old.powered ≡ false → new ≡ old)
    → HasMet start (state old.inner) old.hits old.faults old.cuts old.programs old.fetches → HasMet start (state new.inner) new.hits new.faults new.cuts new.programs new.fetches
met_fetch state start old new page block result fits did kept m = elim (on_or_off old.powered) [
  | inl on ↦ met_fetched state start (hit_of old.hits true (raised old.fetches)) old new page block result refl fits (did on) m
  | inr off ↦ met_kept state start old new (kept off) m
]

pub met_program : {A : Type 0} (state : A → ArrayState) (start : ArrayState) (old new : Script A) (page : ℕ) (block : Block) (result : Result (Unit {0}) ArrayEnd) → old.programs < 2 ^ 64
    → (old.powered ≡ true → (state old.inner).powered ≡ true)
    → (old.powered ≡ true → ScriptProgrammed state (hit_of old.hits false (raised old.programs)) old page block new result) → (old.powered ≡ false → new ≡ old)
    → HasMet start (state old.inner) old.hits old.faults old.cuts old.programs old.fetches → HasMet start (state new.inner) new.hits new.faults new.cuts new.programs new.fetches
met_program state start old new page block result fits power did kept m = elim (on_or_off old.powered) [
  | inl on ↦ met_programmed state start (hit_of old.hits false (raised old.programs)) old new page block result refl fits (power on) (did on) m
  | inr off ↦ met_kept state start old new (kept off) m
]

never : (kind : Bool) (n : ℕ) → 1 ≤ n → nat_le n (if kind then 0 else 0) ≡ false
never true n some = lt-leb n 0 (omega arith)
never false n some = lt-leb n 0 (omega arith)

-- before the first call nothing was reached
none_reached : (b : ArrayHit → Bool) (xs : List ArrayHit) → ((k : ℕ) (d : ArrayHit) → k < length xs → (1 ≤ (get_or xs k d).n) × ((get_or xs k d).n < 2 ^ 32)) → count_by (λ h. is_reached 0 0 h && b h) xs ≡ 0
none_reached b [] all = refl
none_reached b (x ∷ xs) all =
    let rest = none_reached b xs (λ k d below. all (suc k) d (omega arith)) in
    let some = (all 0 x (omega arith)).0 in
    let unreached : is_reached 0 0 x ≡ false = never x.fetch x.n some in
    let first : ◌≡◌ {A = ℕ} (cond (is_reached 0 0 x && b x) 1 0) 0 = rw unreached refl in
    omega (arith, count_cons (λ h. is_reached 0 0 h && b h) x xs, rest, first)

pub met_none : (start : ArrayState) (hits : List ArrayHit) → IsValidArrayHits hits → HasMet start start hits 0 0 0 0
met_none start hits valid =
    let fails = none_reached (λ h. not h.cut) hits valid.numbers in
    let cut = none_reached (λ h. h.cut) hits valid.numbers in
    record { valid = valid; faults_later = omega arith; cuts_later = omega arith; exact = λ _ _ _ _. (omega (arith, fails), omega (arith, cut)) }

pub met_settled : {A : Type 0} (state : A → ArrayState) (start : ArrayState) (old new : Script A) (result : Result (Unit {0}) ArrayEnd) → Settled (state old.inner) (state new.inner) result → new ≡ record old { inner = new.inner }
    → HasMet start (state old.inner) old.hits old.faults old.cuts old.programs old.fetches → HasMet start (state new.inner) new.hits new.faults new.cuts new.programs new.fetches
met_settled state start old new result did after m =
    let hits : new.hits ≡ old.hits = ap (λ s. s.hits) after in
    let faults : new.faults ≡ old.faults = ap (λ s. s.faults) after in
    let cuts : new.cuts ≡ old.cuts = ap (λ s. s.cuts) after in
    let programs : new.programs ≡ old.programs = ap (λ s. s.programs) after in
    let fetches : new.fetches ≡ old.fetches = ap (λ s. s.fetches) after in
    rw (hits, faults, cuts, programs, fetches) (met_on start (state old.inner) (state new.inner) old.hits old.faults old.faults old.cuts old.cuts old.programs old.programs old.fetches old.fetches m did.ends.faults did.ends.cuts
    (λ _ _ _ _. (λ e. e, λ e. e)))

pub run_none : (start : ArrayState) (hits : List ArrayHit) → HasRun start start hits 0 0
run_none start hits = record { by_programs = λ _ _. omega arith; by_fetches = λ _. omega arith }

pub met_settle : {A : Type 0} (state : A → ArrayState) (start : ArrayState) (old new : Script A) (result : Result (Unit {0}) ArrayEnd) → (old.powered ≡ true → Settled (state old.inner) (state new.inner) result)
    → new ≡ record old { inner = new.inner } → (old.powered ≡ false → new ≡ old)
    → HasMet start (state old.inner) old.hits old.faults old.cuts old.programs old.fetches → HasMet start (state new.inner) new.hits new.faults new.cuts new.programs new.fetches
met_settle state start old new result did after kept m = elim (on_or_off old.powered) [
  | inl on ↦ met_settled state start old new result (did on) after m
  | inr off ↦ met_kept state start old new (kept off) m
]

pub run_settle : {A : Type 0} (state : A → ArrayState) (start : ArrayState) (old new : Script A) (result : Result (Unit {0}) ArrayEnd) → (old.powered ≡ true → Settled (state old.inner) (state new.inner) result)
    → new ≡ record old { inner = new.inner } → (old.powered ≡ false → new ≡ old)
    → HasRun start (state old.inner) old.hits old.programs old.fetches → HasRun start (state new.inner) new.hits new.programs new.fetches
run_settle state start old new result did after kept m = elim (on_or_off old.powered) [
  | inl on ↦ run_settled state start old new result (did on) after m
  | inr off ↦ rw (kept off) m
]
