-- The openings of a run, by the lines of its fault text.
use Rattle.std.proofs.Common.{◌≡◌, ◌⊎◌, ◌<◌, ◌≤◌, ◌+◌, ◌∙◌, inl, inr, ℕ, Bool, true, false, Result, Ok, Err, ap, refl, sym, subst, arith}
use Rattle.std.proofs.lemmas.Bool.{true≢false}
use Rattle.storage_model.specs.Count.{Count, Later, Rose}
use Rattle.storage_model.specs.declared.faults.Faults.{Faults}
use Rattle.trace_print.specs.Prints.{RoseBy}
use Rattle.array_edge.specs.Array.{ArrayState}
use Rattle.array_edge.specs.Script.{HasMet}
use Rattle.intent_store.specs.Calls.{AreCut, IsStartAgain, none_cut, one_cut}
use Rattle.intent_store.specs.declared.ends.StartEnd.{StartEnd}
use Rattle.intent_store.specs.declared.ends.StartEnd.TheVariants.{Flash, PowerLost, BadImage as NoImage}
use Rattle.cqmmc_top.specs.Answers.{AreNumbered, AreOpenings, HasCalls, IsStill, fail_lines, program_cuts, seen_in}
use Rattle.cqmmc_top.proofs.Lines.{rose_either, rose_parts}

rose_more : (n : ℕ) (a b c : Count) → RoseBy n a b → Rose b c → Later b c → RoseBy (n + 1) a c
rose_more n a b c (inl low) (inl up) later = inl (omega (arith, low, up))
rose_more n a b c (inl low) (inr end) later = inr end
rose_more n a b c (inr end) rose later = inr (later.stands end)

-- each cut opening raised the count of cuts, and none that of failures
cuts_made : {n : ℕ} {a b : ArrayState} → AreCut n a b → RoseBy n a.cuts b.cuts × (b.faults ≡ a.faults)
cuts_made (none_cut array) = (inl (omega arith), refl)
cuts_made (one_cut cuts old middle new end before is start) =
    let made = cuts_made before in
    (rose_more cuts old.cuts middle.cuts new.cuts made.0 (start.ends.lost is).0 start.ends.cuts, start.ends.unfailed is ∙ made.1)

-- and raised it by one at most
cut_few : {n : ℕ} {a b : ArrayState} → AreCut n a b → b.cuts.value ≤ a.cuts.value + n
cut_few (none_cut array) = omega arith
cut_few (one_cut cuts old middle new end before is start) = let few = cut_few before in let once = start.ends.cut_once in omega (arith, few, once)

not_rose : (old new : Count) → IsStill old new → Rose old new → ⊥
not_rose old new still (inl up) = let low = still.0 in omega (arith, low, up)
not_rose old new still (inr end) = true≢false (sym end ∙ still.1)

some_line : (n : ℕ) (old new : Count) → IsStill old new → Rose old new ⊎ (1 ≤ n) → 1 ≤ n
some_line n old new still (inl rose) = absurd (not_rose old new still rose)
some_line n old new still (inr some) = some

eight_lines : (n : ℕ) (old new : Count) → IsStill old new → (old.value + 8 ≤ new.value + n) ⊎ (new.stands ≡ true) → 8 ≤ n
eight_lines n old new still (inl low) = let least = still.0 in omega (arith, low, least)
eight_lines n old new still (inr end) = absurd (true≢false (sym end ∙ still.1))

module _ (faults : Faults) (old new : ArrayState) (calls : HasCalls faults old new) (powered : Bool) (failed cut : ℕ) (met : HasMet old new faults.array failed cut calls.programs calls.fetches)
    (few_fails : fail_lines faults old new calls ≤ 4096) (few_cuts : program_cuts faults old new calls ≤ 4096) where
  abbrev first : ArrayState
  first = seen_in old false 0 0 0 0

  abbrev last : ArrayState
  last = seen_in new powered failed cut calls.programs calls.fetches

  exact : IsStill old.faults new.faults → IsStill old.cuts new.cuts → (failed ≡ fail_lines faults old new calls) × (cut ≡ program_cuts faults old new calls)
  exact fails cuts =
      let low_fails = fails.0 in let low_cuts = cuts.0 in let up_fails = met.faults_later in let up_cuts = met.cuts_later in
      let made = met.exact (omega (arith, low_fails, up_fails)) fails.1 (omega (arith, low_cuts, up_cuts)) cuts.1 in
      (omega (arith, made.0, few_fails), omega (arith, made.1, few_cuts))

  -- where nothing failed no line of a failing call was reached
  none : last.faults ≡ first.faults → IsStill old.faults new.faults → IsStill old.cuts new.cuts → fail_lines faults old new calls ≡ 0
  none same fails cuts =
      let value : new.faults.value + failed ≡ old.faults.value + 0 = ap (λ c. c.value) same in
      let least = met.faults_later in
      let is = (exact fails cuts).0 in
      omega (arith, value, least, is)

  -- by so much as the count of cuts rose, so many lines of a cut were reached at most
  few_cut : (n : ℕ) → last.cuts.value ≤ first.cuts.value + n → IsStill old.faults new.faults → IsStill old.cuts new.cuts → program_cuts faults old new calls ≤ n
  few_cut n rose fails cuts =
      let most : new.cuts.value + cut ≤ old.cuts.value + 0 + n = rose in
      let least = met.cuts_later in
      let is = (exact fails cuts).1 in
      omega (arith, most, least, is)

  few_fail : (n : ℕ) → last.faults.value ≤ first.faults.value + n → IsStill old.faults new.faults → IsStill old.cuts new.cuts → fail_lines faults old new calls ≤ n
  few_fail n rose fails cuts =
      let most : new.faults.value + failed ≤ old.faults.value + 0 + n = rose in
      let least = met.faults_later in
      let is = (exact fails cuts).0 in
      omega (arith, most, least, is)

  -- the last opening wasn't cut
  below : (end : Result (Unit {0}) StartEnd) (made : IsStartAgain 8 first last end) → last.cuts ≡ made.middle.cuts → IsStill old.faults new.faults → IsStill old.cuts new.cuts → program_cuts faults old new calls < 8
  below end made same fails cuts =
      let value : last.cuts.value ≡ made.middle.cuts.value = ap (λ c. c.value) same in
      let most = cut_few made.before in
      let few = few_cut made.cuts (omega (arith, value, most)) fails cuts in
      let room = made.room in
      omega (arith, few, room)

  -- the array failed in the last one
  one_fail : IsStartAgain {T = Unit {0}} 8 first last (Err Flash) → IsStill old.faults new.faults → IsStill old.cuts new.cuts → fail_lines faults old new calls ≡ 1
  one_fail made fails cuts =
      let is = (exact fails cuts).0 in
      let before = (cuts_made made.before).1 in
      let value : made.middle.faults.value ≡ first.faults.value = ap (λ c. c.value) before in
      let once = made.last.ends.failed_once in
      let most = few_fail 1 (omega (arith, value, once)) fails cuts in
      let least =
      some_line (fail_lines faults old new calls) old.faults new.faults fails
      (rose_either failed (fail_lines faults old new calls) old.faults new.faults (omega (arith, is)) few_fails (subst (λ c. Rose c last.faults) before (made.last.ends.flash refl).0)) in
      omega (arith, most, least)

  -- all eight were cut
  eight_cut : IsStartAgain {T = Unit {0}} 8 first last (Err PowerLost) → IsStill old.faults new.faults → IsStill old.cuts new.cuts → program_cuts faults old new calls ≡ 8
  eight_cut made fails cuts =
      let is = (exact fails cuts).1 in
      let rose = rose_more made.cuts first.cuts made.middle.cuts last.cuts (cuts_made made.before).0 (made.last.ends.lost refl).0 made.last.ends.cuts in
      let least =
      eight_lines (program_cuts faults old new calls) old.cuts new.cuts cuts
      (rose_parts 8 cut (program_cuts faults old new calls) old.cuts new.cuts (omega (arith, is)) few_cuts (subst (λ n. RoseBy n first.cuts last.cuts) (made.spent refl) rose)) in
      let before = cut_few made.before in
      let once = made.last.ends.cut_once in
      let all = made.spent refl in
      let most = few_cut 8 (omega (arith, before, once, all)) fails cuts in
      omega (arith, most, least)

  numbered : (end : Result (Unit {0}) StartEnd) → IsStartAgain 8 first last end → IsStill old.faults new.faults → IsStill old.cuts new.cuts → AreNumbered end (fail_lines faults old new calls) (program_cuts faults old new calls)
  numbered (Ok done) made fails cuts = (none (made.last.ends.calm.0 ∙ (cuts_made made.before).1) fails cuts, below (Ok done) made made.last.ends.calm.1 fails cuts)
  numbered (Err Flash) made fails cuts = (one_fail made fails cuts, below (Err Flash) made (made.last.ends.uncut refl) fails cuts)
  numbered (Err PowerLost) made fails cuts = (none (made.last.ends.unfailed refl ∙ (cuts_made made.before).1) fails cuts, eight_cut made fails cuts)
  numbered (Err NoImage) made fails cuts = (none ((made.last.ends.bad refl).1 ∙ (cuts_made made.before).1) fails cuts, below (Err NoImage) made (made.last.ends.bad refl).2 fails cuts)

  pub openings : (end : Result (Unit {0}) StartEnd) → IsStartAgain 8 first last end → AreOpenings faults old new calls end
  openings end made = record { powered = powered; failed = failed; cut = cut; made = made; exact = exact; lines = numbered end made }
