-- How far a script's calls came.
use Rattle.std.proofs.Common.{◌≡◌, ◌⊎◌, ℕ, ◌+◌, ◌<◌, ◌≤◌, ◌^◌, ◌&&◌, Bool, true, false, List, Option, Some, None, Result, Ok, Err, refl, sym, ap, ◌∙◌, inl, inr, arith}
use Rattle.std.proofs.lemmas.Bool.{true≢false, leb-true, le-leb, lt-leb}
use Rattle.std.specs.Bool.{nat_le}
use Rattle.storage_model.specs.Count.{Count, Later, RaisedByOne, Rose}
use Rattle.storage_model.specs.declared.block.Block.{Block}
use Rattle.storage_model.specs.declared.faults.ArrayHit.{ArrayHit}
use Rattle.array_edge.specs.Array.{ArrayState, Fetched, Programmed, Settled}
use Rattle.array_edge.specs.Hits.{IsValidHit, hit_of, is_hit, raised, reached_fetches}
use Rattle.array_edge.specs.Script.{HasRun, Script, ScriptFetched, ScriptProgrammed, after_hit}
use Rattle.array_edge.specs.declared.array.ArrayEnd.{ArrayEnd}
use Rattle.array_edge.specs.declared.array.ArrayEnd.TheVariants.{Failed}
use Rattle.array_edge.proofs.Reached.{count_le, count_more}

-- programs and faults together rose so much, and fetches so much, where none stands
record Moves (old new : ArrayState) (work reads : ℕ) : Type 0 where
  worked : new.programs.stands ≡ false → new.faults.stands ≡ false → (old.programs.stands ≡ false) × (old.faults.stands ≡ false) × (old.programs.value + old.faults.value + work ≤ new.programs.value + new.faults.value)
  was_read : new.fetches.stands ≡ false → (old.fetches.stands ≡ false) × (old.fetches.value + reads ≤ new.fetches.value)

before_false : (a b : Bool) → (a ≡ true → b ≡ true) → b ≡ false → a ≡ false
before_false true b later is = absurd (true≢false (sym (later refl) ∙ is))
before_false false b later is = refl

pub stood_not : (old new : Count) → Later old new → new.stands ≡ false → old.stands ≡ false
stood_not old new later is = before_false old.stands new.stands later.stands is

by_one : (old new : Count) → RaisedByOne old new → new.stands ≡ false → old.value + 1 ≤ new.value
by_one old new (inl more) is = omega arith
by_one old new (inr stays) is = absurd (true≢false (sym stays.0 ∙ is))

by_some : (old new : Count) → Rose old new → new.stands ≡ false → old.value + 1 ≤ new.value
by_some old new (inl more) is = omega arith
by_some old new (inr stays) is = absurd (true≢false (sym stays ∙ is))

moves_fetch : (old new : ArrayState) (page : ℕ) (block : Block) (result : Result (Unit {0}) ArrayEnd) → old.powered ≡ true → Fetched old page block new result → Moves old new 0 1
moves_fetch old new page block result on did =
    let same : new.programs ≡ old.programs = ap (λ s. s.programs) did.same in
    record {
      worked = λ p f. (rw same at p, stood_not old.faults new.faults did.ends.faults f, (let le = did.ends.faults.value in let eq : new.programs.value ≡ old.programs.value = ap (λ c. c.value) same in omega arith));
      was_read = λ r. (stood_not old.fetches new.fetches did.ends.fetches r, by_one old.fetches new.fetches (did.number on) r);
    }

moves_unread : (old new : ArrayState) (page : ℕ) (block : Block) (result : Result (Unit {0}) ArrayEnd) → old.powered ≡ true → Fetched old page block new result → result ≡ Err Failed → Moves old new 1 1
moves_unread old new page block result on did failed =
    let same : new.programs ≡ old.programs = ap (λ s. s.programs) did.same in
    record {
      worked = λ p f. (rw same at p, stood_not old.faults new.faults did.ends.faults f, (let more = by_some old.faults new.faults (did.ends.failed failed).0 f in let eq : new.programs.value ≡ old.programs.value = ap (λ c. c.value) same in omega arith));
      was_read = λ r. (stood_not old.fetches new.fetches did.ends.fetches r, by_one old.fetches new.fetches (did.number on) r);
    }

moves_program : (old new : ArrayState) (page : ℕ) (block : Block) (result : Result (Unit {0}) ArrayEnd) → old.powered ≡ true → Programmed old page block new result → Moves old new 1 0
moves_program old new page block result on did =
    let same : new.fetches ≡ old.fetches = ap (λ s. s.fetches) did.same in
    record {
      worked = λ p f. (stood_not old.programs new.programs did.ends.programs p, stood_not old.faults new.faults did.ends.faults f, (let le = did.ends.faults.value in let more = by_one old.programs new.programs (did.number on) p in omega arith));
      was_read = λ r. (rw same at r, (let eq : new.fetches.value ≡ old.fetches.value = ap (λ c. c.value) same in omega arith));
    }

moves_settle : (old new : ArrayState) (result : Result (Unit {0}) ArrayEnd) → Settled old new result → Moves old new 0 0
moves_settle old new result did =
    let programs : new.programs ≡ old.programs = ap (λ s. s.programs) did.same in
    let fetches : new.fetches ≡ old.fetches = ap (λ s. s.fetches) did.same in
    record {
      worked = λ p f. (rw programs at p, stood_not old.faults new.faults did.ends.faults f, (let le = did.ends.faults.value in let eq : new.programs.value ≡ old.programs.value = ap (λ c. c.value) programs in omega arith));
      was_read = λ r. (rw fetches at r, (let eq : new.fetches.value ≡ old.fetches.value = ap (λ c. c.value) fetches in omega arith));
    }

moves_both : (old middle new : ArrayState) (a b x y : ℕ) → Moves old middle a x → Moves middle new b y → Moves old new (a + b) (x + y)
moves_both old middle new a b x y first second = record {
  worked = λ p f. (let late = second.worked p f in let early = first.worked late.0 late.1 in (early.0, early.1, omega (arith, late.2, early.2)));
  was_read = λ r. (let late = second.was_read r in let early = first.was_read late.0 in (early.0, omega (arith, late.1, early.1)));
}

run_on : (start old new : ArrayState) (hits : List ArrayHit) (a x p p' f f' : ℕ) → HasRun start old hits p f → Moves old new a x → p' ≤ p + a → f' + reached_fetches f hits ≤ f + x + reached_fetches f' hits → HasRun start new hits p' f'
run_on start old new hits a x p p' f f' run moved programs fetches = record {
  by_programs = λ ps fs. (let was = moved.worked ps fs in let before = run.by_programs was.0 was.1 in omega (arith, was.2, before));
  by_fetches = λ rs. (let was = moved.was_read rs in let before = run.by_fetches was.0 in omega (arith, was.1, before));
}

and_later : (a a' b : Bool) → (a ≡ true → a' ≡ true) → (a && b) ≡ true → (a' && b) ≡ true
and_later true a' b later test = rw (later refl) test
and_later false a' b later test = absurd (true≢false (sym test))

read_more : (f f' : ℕ) → f ≤ f' → (hit : ArrayHit) → (nat_le hit.n f && hit.fetch) ≡ true → (nat_le hit.n f' && hit.fetch) ≡ true
read_more f f' le hit = and_later (nat_le hit.n f) (nat_le hit.n f') hit.fetch (λ test. let below = leb-true hit.n f test in le-leb hit.n f' (omega arith))

reads_le : (f f' : ℕ) (hits : List ArrayHit) → f ≤ f' → reached_fetches f hits ≤ reached_fetches f' hits
reads_le f f' hits le = count_le (λ hit. nat_le hit.n f && hit.fetch) (λ hit. nat_le hit.n f' && hit.fetch) (read_more f f' le) hits

and_true : (a b : Bool) → a ≡ true → b ≡ true → (a && b) ≡ true
and_true a b one other = rw (one, other) refl

and_false : (a b : Bool) → a ≡ false → (a && b) ≡ false
and_false a b one = rw one refl

reads_lt : (f : ℕ) (hits : List ArrayHit) (hit : ArrayHit) → f ≤ raised f → IsValidHit true (raised f) hit → hit_of hits true (raised f) ≡ Some hit → reached_fetches f hits < reached_fetches (raised f) hits
reads_lt f hits hit le valid found =
    let small = valid.small in let called = valid.called in
    count_more (λ h. nat_le h.n f && h.fetch) (λ h. nat_le h.n (raised f) && h.fetch) (is_hit true (raised f)) (read_more f (raised f) le) hit
    (and_true (nat_le hit.n (raised f)) hit.fetch (le-leb hit.n (raised f) (omega arith)) valid.kind) (and_false (nat_le hit.n f) hit.fetch (lt-leb hit.n f (omega arith))) hits found

pub run_fetched : {A : Type 0} (state : A → ArrayState) (start : ArrayState) (met : Option ArrayHit) (old new : Script A) (page : ℕ) (block : Block) (result : Result (Unit {0}) ArrayEnd)
    → met ≡ hit_of old.hits true (raised old.fetches) → (state old.inner).powered ≡ true → old.fetches < 2 ^ 64 → ScriptFetched state met old page block new result
    → HasRun start (state old.inner) old.hits old.programs old.fetches → HasRun start (state new.inner) new.hits new.programs new.fetches
run_fetched state start None old new page block result met on fits did run =
    let more = reads_le old.fetches (raised old.fetches) old.hits (omega arith) in
    let hits : new.hits ≡ old.hits = ap (λ s. s.hits) did.1 in
    let programs : new.programs ≡ old.programs = ap (λ s. s.programs) did.1 in
    let fetches : new.fetches ≡ raised old.fetches = ap (λ s. s.fetches) did.1 in
    rw (hits, programs, fetches) (run_on start (state old.inner) (state new.inner) old.hits 0 1 old.programs old.programs old.fetches (raised old.fetches) run
    (moves_fetch (state old.inner) (state new.inner) page block result on did.0) (omega arith) (omega arith))
run_fetched state start (Some hit) old new page block result met on fits did run =
    let more = reads_lt old.fetches old.hits hit (omega arith) did.0 (sym met) in
    let inner : new.inner ≡ old.inner = ap (λ s. s.inner) did.2 in
    let hits : new.hits ≡ old.hits = ap (λ s. s.hits) did.2 in
    let programs : new.programs ≡ old.programs = ap (λ s. s.programs) did.2 in
    let fetches : new.fetches ≡ raised old.fetches = ap (λ s. s.fetches) did.2 in
    rw (inner, hits, programs, fetches) (run_on start (state old.inner) (state old.inner) old.hits 0 0 old.programs old.programs old.fetches (raised old.fetches) run
    (record { worked = λ p f. (p, f, omega arith); was_read = λ r. (r, omega arith) }) (omega arith) (omega arith))

run_counted : {A : Type 0} (state : A → ArrayState) (start : ArrayState) (old new : Script A) (reads : ℕ) → Moves (state old.inner) (state new.inner) 1 reads
    → new.hits ≡ old.hits → new.programs ≡ raised old.programs → new.fetches ≡ old.fetches
    → HasRun start (state old.inner) old.hits old.programs old.fetches → HasRun start (state new.inner) new.hits new.programs new.fetches
run_counted state start old new reads moved hits programs fetches run =
    rw (hits, programs, fetches) (run_on start (state old.inner) (state new.inner) old.hits 1 reads old.programs (raised old.programs) old.fetches old.fetches run moved (omega arith) (omega arith))

after_keeps : {A : Type 0} (hit : ArrayHit) (answer : Result (Unit {0}) ArrayEnd) (s new : Script A) → new ≡ after_hit hit answer s → (new.hits ≡ s.hits) × (new.programs ≡ s.programs) × (new.fetches ≡ s.fetches)
after_keeps hit (Ok _) s new after = (ap (λ t. t.hits) after, ap (λ t. t.programs) after, ap (λ t. t.fetches) after)
after_keeps hit (Err _) s new after = (ap (λ t. t.hits) after, ap (λ t. t.programs) after, ap (λ t. t.fetches) after)

pub run_programmed : {A : Type 0} (state : A → ArrayState) (start : ArrayState) (met : Option ArrayHit) (old new : Script A) (page : ℕ) (block : Block) (result : Result (Unit {0}) ArrayEnd)
    → (state old.inner).powered ≡ true → ScriptProgrammed state met old page block new result
    → HasRun start (state old.inner) old.hits old.programs old.fetches → HasRun start (state new.inner) new.hits new.programs new.fetches
run_programmed state start None old new page block result on did run =
    run_counted state start old new 0 (moves_program (state old.inner) (state new.inner) page block result on did.0)
    (ap (λ s. s.hits) did.1) (ap (λ s. s.programs) did.1) (ap (λ s. s.fetches) did.1) run
run_programmed state start (Some hit) old new page block result on (inl unread) run =
    run_counted state start old new 1 (moves_unread (state old.inner) (state new.inner) page unread.seen result on unread.fetched unread.failed)
    (ap (λ s. s.hits) unread.after) (ap (λ s. s.programs) unread.after) (ap (λ s. s.fetches) unread.after) run
run_programmed state start (Some hit) old new page block result on (inr did) run =
    let powered : did.between.powered ≡ true = ap (λ s. s.powered) did.fetched.same ∙ on in
    let moved = moves_both (state old.inner) did.between (state new.inner) 0 1 1 0 (moves_fetch (state old.inner) did.between page did.seen (Ok tt) on did.fetched) (moves_program did.between (state new.inner) page did.left did.answer powered did.programmed) in
    let kept = after_keeps hit did.answer (record old { inner = new.inner; powered = (state new.inner).powered; programs = raised old.programs }) new did.after in
    run_counted state start old new 1 moved kept.0 kept.1 kept.2 run

pub run_settled : {A : Type 0} (state : A → ArrayState) (start : ArrayState) (old new : Script A) (result : Result (Unit {0}) ArrayEnd)
    → Settled (state old.inner) (state new.inner) result → new ≡ record old { inner = new.inner }
    → HasRun start (state old.inner) old.hits old.programs old.fetches → HasRun start (state new.inner) new.hits new.programs new.fetches
run_settled state start old new result did after run =
    let hits : new.hits ≡ old.hits = ap (λ s. s.hits) after in
    let programs : new.programs ≡ old.programs = ap (λ s. s.programs) after in
    let fetches : new.fetches ≡ old.fetches = ap (λ s. s.fetches) after in
    rw (hits, programs, fetches) (run_on start (state old.inner) (state new.inner) old.hits 0 0 old.programs old.programs old.fetches old.fetches run (moves_settle (state old.inner) (state new.inner) result did) (omega arith) (omega arith))

on_or_off : (powered : Bool) → (powered ≡ true) ⊎ (powered ≡ false)
on_or_off true = inl refl
on_or_off false = inr refl

run_kept : {A : Type 0} (state : A → ArrayState) (start : ArrayState) (old new : Script A) → new ≡ old
    → HasRun start (state old.inner) old.hits old.programs old.fetches → HasRun start (state new.inner) new.hits new.programs new.fetches
run_kept state start old new same run = rw same run

pub run_fetch : {A : Type 0} (state : A → ArrayState) (start : ArrayState) (old new : Script A) (page : ℕ) (block : Block) (result : Result (Unit {0}) ArrayEnd)
    → old.fetches < 2 ^ 64 → (old.powered ≡ true → (state old.inner).powered ≡ true)
    → (old.powered ≡ true → ScriptFetched state (hit_of old.hits true (raised old.fetches)) old page block new result) → (old.powered ≡ false → new ≡ old)
    → HasRun start (state old.inner) old.hits old.programs old.fetches → HasRun start (state new.inner) new.hits new.programs new.fetches
run_fetch state start old new page block result fits power did kept run = elim (on_or_off old.powered) [
  | inl on ↦ run_fetched state start (hit_of old.hits true (raised old.fetches)) old new page block result refl (power on) fits (did on) run
  | inr off ↦ run_kept state start old new (kept off) run
]

pub run_program : {A : Type 0} (state : A → ArrayState) (start : ArrayState) (old new : Script A) (page : ℕ) (block : Block) (result : Result (Unit {0}) ArrayEnd)
    → (old.powered ≡ true → (state old.inner).powered ≡ true)
    → (old.powered ≡ true → ScriptProgrammed state (hit_of old.hits false (raised old.programs)) old page block new result) → (old.powered ≡ false → new ≡ old)
    → HasRun start (state old.inner) old.hits old.programs old.fetches → HasRun start (state new.inner) new.hits new.programs new.fetches
run_program state start old new page block result power did kept run = elim (on_or_off old.powered) [
  | inl on ↦ run_programmed state start (hit_of old.hits false (raised old.programs)) old new page block result (power on) (did on) run
  | inr off ↦ run_kept state start old new (kept off) run
]
