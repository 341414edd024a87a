-- How a script's program ends, from how the inner array's calls end.
use Rattle.std.proofs.Common.{◌≡◌, ◌⊎◌, ℕ, ◌-◌, ◌^◌, ◌<◌, ◌≤◌, ◌==◌, ◌&&◌, Bool, true, false, not, Option, Some, None, Result, Ok, Err, OnOk, refl, sym, ap, ◌∙◌, inl, inr, arith, eq-eqb}
use Rattle.std.proofs.lemmas.Bool.{cases_order, eqb-true, true≢false}
use Rattle.std.specs.Bool.{if◌then◌else◌}
use Rattle.std.specs.Prelude.{◌||◌}
use Rattle.storage_model.specs.Count.{Count, Later, Rose, count_of}
use Rattle.storage_model.specs.declared.block.Block.{Block}
use Rattle.storage_model.specs.declared.faults.ArrayHit.{ArrayHit}
use Rattle.array_edge.specs.Array.{ArrayState, Ends, Fetched, Programmed}
use Rattle.array_edge.specs.Hits.{raised}
use Rattle.array_edge.specs.Script.{Script, ScriptProgrammed, after_hit, end_of_hit, script_over, with_more}
use Rattle.array_edge.specs.declared.array.ArrayEnd.{ArrayEnd}
use Rattle.array_edge.specs.declared.array.ArrayEnd.TheVariants.{Failed, PowerLost}

or_later : (a a' b b' : Bool) → (a ≡ true → a' ≡ true) → (b ≡ true → b' ≡ true) → (a || b) ≡ true → (a' || b') ≡ true
or_later true a' b b' first next test = rw (first refl) refl
or_later false true b b' first next test = refl
or_later false false b b' first next test = next test

or_first : (a b : Bool) → a ≡ true → (a || b) ≡ true
or_first a b is = rw is refl

or_second : (a b : Bool) → b ≡ true → (a || b) ≡ true
or_second true b is = refl
or_second false b is = is

count_same : (old new : Count) (n : ℕ) → new ≡ old → with_more new n ≡ with_more old n
count_same old new n same = rw same refl

later_more : (old new : Count) (n n' : ℕ) → Later old new → n ≤ n' → n' < 2 ^ 64 → Later (with_more old n) (with_more new n')
later_more old new n n' later le fits =
    let value = later.value in
    record {
      value = omega arith;
      stands = or_later old.stands new.stands (n == 2 ^ 64 - 1) (n' == 2 ^ 64 - 1) later.stands (λ test. let is = eqb-true n (2 ^ 64 - 1) test in eq-eqb n' (2 ^ 64 - 1) (omega arith));
    }

later_counted : (n n' : ℕ) → n ≤ n' → n' < 2 ^ 64 → Later (count_of n) (count_of n')
later_counted n n' le fits = record { value = le; stands = λ test. let is = eqb-true n (2 ^ 64 - 1) test in eq-eqb n' (2 ^ 64 - 1) (omega arith) }

-- the inner array's count rose
rose_inner : (old new : Count) (n : ℕ) → Rose old new → Rose (with_more old n) (with_more new n)
rose_inner old new n (inl more) = inl (omega arith)
rose_inner old new n (inr stands) = inr (or_first new.stands (n == 2 ^ 64 - 1) stands)

-- the script's own count was raised
rose_own : (old new : Count) (n : ℕ) → Later old new → n < 2 ^ 64 → Rose (with_more old n) (with_more new (raised n))
rose_own old new n later fits =
    let value = later.value in
    elim (cases_order n (2 ^ 64 - 1)) [
      | inl same ↦ inr (or_second new.stands (raised n == 2 ^ 64 - 1) (eq-eqb (raised n) (2 ^ 64 - 1) (omega arith)))
      | inr (inl below) ↦ inl (omega arith)
      | inr (inr above) ↦ absurd (omega arith)
    ]

lost_inner : (old new : Count) (n : ℕ) (power p : Bool) → power ≡ true → (Rose old new) ⊎ (power ≡ false) → (Rose (with_more old n) (with_more new n)) ⊎ (p ≡ false)
lost_inner old new n power p on (inl cut) = inl (rose_inner old new n cut)
lost_inner old new n power p on (inr off) = absurd (true≢false (sym on ∙ off))

on_ok : (result : Result (Unit {0}) ArrayEnd) (P Q : Type 0) → (P → Q) → OnOk result P → OnOk result Q
on_ok (Ok _) P Q next p = next p
on_ok (Err _) P Q next p = tt

-- what a script is as an array, by its inner array's state and its own
abbrev over : ArrayState → Bool → ℕ → ℕ → ℕ → ℕ → ArrayState
over i powered faults cuts programs fetches = record { told = i.told; count = i.count; powered = powered; faults = with_more i.faults faults; cuts = with_more i.cuts cuts; programs = count_of programs; fetches = count_of fetches; settled = i.settled }

-- a program that made no fault of its own
ends_passed : (i i' : ArrayState) (result : Result (Unit {0}) ArrayEnd) (p p' : Bool) (f c n r : ℕ) → f < 2 ^ 64 → c < 2 ^ 64 → n < 2 ^ 64 → r < 2 ^ 64
    → p ≡ true → i.powered ≡ true → p' ≡ i'.powered → Ends i i' result → Ends (over i p f c n r) (over i' p' f c (raised n) r) result
ends_passed i i' result p p' f c n r f_fits c_fits n_fits r_fits on inner_on power ends = record {
  faults = later_more i.faults i'.faults f f ends.faults (omega arith) f_fits;
  cuts = later_more i.cuts i'.cuts c c ends.cuts (omega arith) c_fits;
  programs = later_counted n (raised n) (omega arith) (omega arith);
  fetches = later_counted r r (omega arith) r_fits;
  ok = on_ok result (i'.powered ≡ i.powered) (p' ≡ p) (λ same. power ∙ (same ∙ (inner_on ∙ sym on))) ends.ok;
  calm = on_ok result ((i'.faults ≡ i.faults) × (i'.cuts ≡ i.cuts)) ((with_more i'.faults f ≡ with_more i.faults f) × (with_more i'.cuts c ≡ with_more i.cuts c)) (λ both. (count_same i.faults i'.faults f both.0, count_same i.cuts i'.cuts c both.1)) ends.calm;
  failed = λ is. (rose_inner i.faults i'.faults f (ends.failed is).0, power ∙ ((ends.failed is).1 ∙ (inner_on ∙ sym on)));
  uncut = λ is. count_same i.cuts i'.cuts c (ends.uncut is);
  lost = λ is. (lost_inner i.cuts i'.cuts c i.powered p inner_on (ends.lost is).0, power ∙ (ends.lost is).1);
  unfailed = λ is. count_same i.faults i'.faults f (ends.unfailed is);
  failed_once = let once = ends.failed_once in omega (arith, once);
  cut_once = let once = ends.cut_once in omega (arith, once);
  off = λ no. absurd (true≢false (sym on ∙ no));
}

-- a program that a fault befell, where the inner array's calls went well
ends_hit : (cut : Bool) (i i' : ArrayState) (p p' : Bool) (f f' c c' n r : ℕ) → f < 2 ^ 64 → c < 2 ^ 64 → n < 2 ^ 64 → r < 2 ^ 64
    → p ≡ true → i'.powered ≡ true → p' ≡ (not cut && i'.powered) → f' ≡ (if cut then f else raised f) → c' ≡ (if cut then raised c else c)
    → Ends i i' (Ok tt) → Ends (over i p f c n r) (over i' p' f' c' (raised n) r) (Err (if cut then PowerLost else Failed))
ends_hit true i i' p p' f f' c c' n r f_fits c_fits n_fits r_fits on inner_on power faults cuts ends = record {
  faults = rw faults (later_more i.faults i'.faults f f ends.faults (omega arith) f_fits);
  cuts = rw cuts (later_more i.cuts i'.cuts c (raised c) ends.cuts (omega arith) (omega arith));
  programs = later_counted n (raised n) (omega arith) (omega arith);
  fetches = later_counted r r (omega arith) r_fits;
  ok = tt;
  calm = tt;
  failed = λ is. absurd (cc);
  uncut = λ is. absurd (cc);
  lost = λ _. (rw cuts (inl (rose_own i.cuts i'.cuts c ends.cuts c_fits)), power);
  unfailed = λ _. rw faults (count_same i.faults i'.faults f ends.calm.0);
  failed_once = let same = ap (λ c. c.value) ends.calm.0 in omega (arith, same, faults);
  cut_once = let same = ap (λ c. c.value) ends.calm.1 in omega (arith, same, cuts);
  off = λ no. absurd (true≢false (sym on ∙ no));
}
ends_hit false i i' p p' f f' c c' n r f_fits c_fits n_fits r_fits on inner_on power faults cuts ends = record {
  faults = rw faults (later_more i.faults i'.faults f (raised f) ends.faults (omega arith) (omega arith));
  cuts = rw cuts (later_more i.cuts i'.cuts c c ends.cuts (omega arith) c_fits);
  programs = later_counted n (raised n) (omega arith) (omega arith);
  fetches = later_counted r r (omega arith) r_fits;
  ok = tt;
  calm = tt;
  failed = λ _. (rw faults (rose_own i.faults i'.faults f ends.faults f_fits), power ∙ (inner_on ∙ sym on));
  uncut = λ _. rw cuts (count_same i.cuts i'.cuts c ends.calm.1);
  lost = λ is. absurd (cc);
  unfailed = λ is. absurd (cc);
  failed_once = let same = ap (λ c. c.value) ends.calm.0 in omega (arith, same, faults);
  cut_once = let same = ap (λ c. c.value) ends.calm.1 in omega (arith, same, cuts);
  off = λ no. absurd (true≢false (sym on ∙ no));
}

later_both : (a b c : Count) → Later a b → Later b c → Later a c
later_both a b c first next = let one = first.value in let other = next.value in record { value = omega arith; stands = λ h. next.stands (first.stands h) }

-- a program after a fetch that went well
ends_after : (i between i' : ArrayState) (page : ℕ) (seen : Block) (result : Result (Unit {0}) ArrayEnd) → i.powered ≡ true → Fetched i page seen between (Ok tt) → Ends between i' result → Ends i i' result
ends_after i between i' page seen result on fetched ends =
    let faults : between.faults ≡ i.faults = fetched.ends.calm.0 in
    let cuts : between.cuts ≡ i.cuts = fetched.ends.calm.1 in
    let powered : between.powered ≡ i.powered = fetched.ends.ok in
    record {
      faults = later_both i.faults between.faults i'.faults fetched.ends.faults ends.faults;
      cuts = later_both i.cuts between.cuts i'.cuts fetched.ends.cuts ends.cuts;
      programs = later_both i.programs between.programs i'.programs fetched.ends.programs ends.programs;
      fetches = later_both i.fetches between.fetches i'.fetches fetched.ends.fetches ends.fetches;
      ok = on_ok result (i'.powered ≡ between.powered) (i'.powered ≡ i.powered) (λ same. same ∙ powered) ends.ok;
      calm = on_ok result ((i'.faults ≡ between.faults) × (i'.cuts ≡ between.cuts)) ((i'.faults ≡ i.faults) × (i'.cuts ≡ i.cuts)) (λ both. (both.0 ∙ faults, both.1 ∙ cuts)) ends.calm;
      failed = λ is. (rw faults at (ends.failed is).0, (ends.failed is).1 ∙ powered);
      uncut = λ is. ends.uncut is ∙ cuts;
      lost = λ is. (rw (cuts, powered) at (ends.lost is).0, (ends.lost is).1);
      unfailed = λ is. ends.unfailed is ∙ faults;
      failed_once = let once = ends.failed_once in let same = ap (λ c. c.value) faults in omega (arith, once, same);
      cut_once = let once = ends.cut_once in let same = ap (λ c. c.value) cuts in omega (arith, once, same);
      off = λ no. absurd (true≢false (sym on ∙ no));
    }

ends_broken : {A : Type 0} (state : A → ArrayState) (hit : ArrayHit) (old new : Script A) (between : ArrayState) (page : ℕ) (seen left : Block) (answer : Result (Unit {0}) ArrayEnd)
    → old.faults < 2 ^ 64 → old.cuts < 2 ^ 64 → old.programs < 2 ^ 64 → old.fetches < 2 ^ 64 → old.powered ≡ true → (state old.inner).powered ≡ true
    → Fetched (state old.inner) page seen between (Ok tt) → Programmed between page left (state new.inner) answer
    → new ≡ after_hit hit answer (record old { inner = new.inner; powered = (state new.inner).powered; programs = raised old.programs })
    → Ends (script_over state old) (script_over state new) (end_of_hit hit answer)
ends_broken state hit old new between page seen left (Ok _) f_fits c_fits n_fits r_fits on inner_on fetched programmed after =
    let programs : new.programs ≡ raised old.programs = ap (λ s. s.programs) after in
    let fetches : new.fetches ≡ old.fetches = ap (λ s. s.fetches) after in
    let ends = ends_after (state old.inner) between (state new.inner) page seen (Ok tt) inner_on fetched programmed.ends in
    rw (programs, fetches) (ends_hit hit.cut (state old.inner) (state new.inner) old.powered new.powered old.faults new.faults old.cuts new.cuts old.programs old.fetches f_fits c_fits n_fits r_fits on
    (ends.ok ∙ inner_on) (ap (λ s. s.powered) after) (ap (λ s. s.faults) after) (ap (λ s. s.cuts) after) ends)
ends_broken state hit old new between page seen left (Err end) f_fits c_fits n_fits r_fits on inner_on fetched programmed after =
    let programs : new.programs ≡ raised old.programs = ap (λ s. s.programs) after in
    let fetches : new.fetches ≡ old.fetches = ap (λ s. s.fetches) after in
    let faults : new.faults ≡ old.faults = ap (λ s. s.faults) after in
    let cuts : new.cuts ≡ old.cuts = ap (λ s. s.cuts) after in
    rw (faults, cuts, programs, fetches) (ends_passed (state old.inner) (state new.inner) (Err end) old.powered new.powered old.faults old.cuts old.programs old.fetches f_fits c_fits n_fits r_fits on inner_on
    (ap (λ s. s.powered) after) (ends_after (state old.inner) between (state new.inner) page seen (Err end) inner_on fetched programmed.ends))

pub ends_script : {A : Type 0} (state : A → ArrayState) (met : Option ArrayHit) (old new : Script A) (page : ℕ) (block : Block) (result : Result (Unit {0}) ArrayEnd)
    → old.faults < 2 ^ 64 → old.cuts < 2 ^ 64 → old.programs < 2 ^ 64 → old.fetches < 2 ^ 64 → old.powered ≡ true → (state old.inner).powered ≡ true
    → ScriptProgrammed state met old page block new result → Ends (script_over state old) (script_over state new) result
ends_script state None old new page block result f_fits c_fits n_fits r_fits on inner_on did =
    let programs : new.programs ≡ raised old.programs = ap (λ s. s.programs) did.1 in
    let fetches : new.fetches ≡ old.fetches = ap (λ s. s.fetches) did.1 in
    let faults : new.faults ≡ old.faults = ap (λ s. s.faults) did.1 in
    let cuts : new.cuts ≡ old.cuts = ap (λ s. s.cuts) did.1 in
    rw (faults, cuts, programs, fetches) (ends_passed (state old.inner) (state new.inner) result old.powered new.powered old.faults old.cuts old.programs old.fetches f_fits c_fits n_fits r_fits on inner_on
    (ap (λ s. s.powered) did.1) did.0.ends)
ends_script state (Some hit) old new page block result f_fits c_fits n_fits r_fits on inner_on (inl unread) =
    let programs : new.programs ≡ raised old.programs = ap (λ s. s.programs) unread.after in
    let fetches : new.fetches ≡ old.fetches = ap (λ s. s.fetches) unread.after in
    let faults : new.faults ≡ old.faults = ap (λ s. s.faults) unread.after in
    let cuts : new.cuts ≡ old.cuts = ap (λ s. s.cuts) unread.after in
    let powered : new.powered ≡ old.powered = ap (λ s. s.powered) unread.after in
    rw (faults, cuts, programs, fetches) (ends_passed (state old.inner) (state new.inner) result old.powered new.powered old.faults old.cuts old.programs old.fetches f_fits c_fits n_fits r_fits on inner_on
    (powered ∙ (on ∙ sym ((unread.fetched.ends.failed unread.failed).1 ∙ inner_on))) unread.fetched.ends)
ends_script state (Some hit) old new page block result f_fits c_fits n_fits r_fits on inner_on (inr did) =
    rw did.ended (ends_broken state hit old new did.between page did.seen did.left did.answer f_fits c_fits n_fits r_fits on inner_on did.fetched did.programmed did.after)
