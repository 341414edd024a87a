-- Causes of lines that are joined, of the first of some, and of those behind a letter's line.
use Rattle.std.proofs.Common.{◌≡◌, ◌≤◌, ◌+◌, ◌-◌, ℕ, refl, arith, List, [], ◌∷◌, ◌++◌, Result, Ok, Err}
use Rattle.storage_model.specs.declared.ends.Halt.{Halt}
use Rattle.storage_model.specs.declared.ends.Halt.TheVariants.{SinkFailed}
use Rattle.storage_model.specs.declared.faults.Letter.{Letter}
use Rattle.storage_model.specs.declared.trace.Item.{Item}
use Rattle.storage_model.specs.declared.trace.Item.TheVariants.{Cut, Turn}
use Rattle.array_edge.specs.Array.{ArrayState}
use Rattle.trace_print.specs.Prints.{HasCauses, RoseBy, halt_faults}
use Rattle.cause_laws.specs.Causes.{AreJoined}
use Rattle.cause_laws.proofs.Counts.{cut_lines, cuts_both, cuts_on, flashes, flashes_both, flashes_on, later_on, rose_less, rose_none, rose_on, same_later}

no_lines : (a : ArrayState) (more : ℕ) → HasCauses more a a [] (Ok tt)
no_lines a more = record {
  later_faults = same_later a.faults;
  later_cuts = same_later a.cuts;
  flash = rose_none a.faults a.faults (same_later a.faults);
  cuts = rose_less 0 (0 - more) a.cuts a.cuts (omega arith) (rose_none a.cuts a.cuts (same_later a.cuts));
}

first_lines : (a a' : ArrayState) (more : ℕ) (lines rest : List Item) → HasCauses more a a' (lines ++ rest) (Ok tt) → HasCauses more a a' lines (Err SinkFailed)
first_lines a a' more lines rest h =
    let f = flashes_both lines rest in
    let c = cuts_both lines rest in
    record {
      later_faults = h.later_faults;
      later_cuts = h.later_cuts;
      flash = rose_less (flashes (lines ++ rest) + 0) (flashes lines + 0) a.faults a'.faults (omega (arith, f)) h.flash;
      cuts = rose_less (cut_lines (lines ++ rest) - more) (cut_lines lines - more) a.cuts a'.cuts (omega (arith, c)) h.cuts;
    }

behind_letter : (a a' : ArrayState) (more : ℕ) (letter : Letter) (lines : List Item) (result : Result (Unit {0}) Halt)
    → HasCauses more a a' lines result → HasCauses more a a' (Turn letter ∷ lines) result
behind_letter a a' more letter lines result h =
    let f = flashes_on (Turn letter) lines in
    let c = cuts_on (Turn letter) lines in
    record {
      later_faults = h.later_faults;
      later_cuts = h.later_cuts;
      flash = rose_less (flashes lines + halt_faults result) (flashes (Turn letter ∷ lines) + halt_faults result) a.faults a'.faults (omega (arith, f)) h.flash;
      cuts = rose_less (cut_lines lines - more) (cut_lines (Turn letter ∷ lines) - more) a.cuts a'.cuts (omega (arith, c)) h.cuts;
    }

allowed_more : (a a' : ArrayState) (more : ℕ) (lines : List Item) (result : Result (Unit {0}) Halt) → HasCauses 0 a a' lines result → HasCauses more a a' lines result
allowed_more a a' more lines result h = record {
  later_faults = h.later_faults;
  later_cuts = h.later_cuts;
  flash = h.flash;
  cuts = rose_less (cut_lines lines - 0) (cut_lines lines - more) a.cuts a'.cuts (omega arith) h.cuts;
}

-- lines before a cut, by the numbers of their cuts
joined_by : (a b c : ArrayState) (first second all : List Item) (more few : ℕ) (result : Result (Unit {0}) Halt) → flashes all ≤ flashes first + flashes second
    → cut_lines all - few ≤ cut_lines first + (cut_lines second - more) → HasCauses 0 a b first (Ok tt) → HasCauses more b c second result → HasCauses few a c all result
joined_by a b c first second all more few result low high one two = record {
  later_faults = later_on a.faults b.faults c.faults one.later_faults two.later_faults;
  later_cuts = later_on a.cuts b.cuts c.cuts one.later_cuts two.later_cuts;
  flash =
      rose_on (flashes first + 0) (flashes second + halt_faults result) (flashes all + halt_faults result) a.faults b.faults c.faults (omega (arith, low)) two.later_faults
      one.flash two.flash;
  cuts =
      rose_on (cut_lines first - 0) (cut_lines second - more) (cut_lines all - few) a.cuts b.cuts c.cuts (omega (arith, high)) two.later_cuts one.cuts two.cuts;
}

one_cut : cut_lines (Cut ∷ []) ≡ 1
one_cut = refl

joined_cut : (a b c : ArrayState) (lines items : List Item) (result : Result (Unit {0}) Halt) → HasCauses 0 a b (lines ++ Cut ∷ []) (Ok tt)
    → HasCauses 1 b c (Cut ∷ items) result → HasCauses 0 a c (lines ++ Cut ∷ items) result
joined_cut a b c lines items result one two =
    let f = flashes_both lines (Cut ∷ []) in
    let g = flashes_both lines (Cut ∷ items) in
    let l = cuts_both lines (Cut ∷ []) in
    let k = cuts_both lines (Cut ∷ items) in
    let here = one_cut in
    joined_by a b c (lines ++ Cut ∷ []) (Cut ∷ items) (lines ++ Cut ∷ items) 1 0 result (omega (arith, f, g)) (omega (arith, l, k, here)) one two

joined_power : (a b c : ArrayState) (lines items : List Item) (result : Result (Unit {0}) Halt) → HasCauses 0 a b lines (Ok tt)
    → HasCauses 1 b c (Cut ∷ items) result → HasCauses 1 a c (lines ++ Cut ∷ items) result
joined_power a b c lines items result one two =
    let g = flashes_both lines (Cut ∷ items) in
    let k = cuts_both lines (Cut ∷ items) in
    let here = cuts_on Cut items in
    joined_by a b c lines (Cut ∷ items) (lines ++ Cut ∷ items) 1 1 result (omega (arith, g)) (omega (arith, k, here)) one two

pub are_joined : AreJoined
are_joined = record {
  none = no_lines;
  failed = first_lines;
  letter = behind_letter;
  allowed = allowed_more;
  cut = joined_cut;
  power = joined_power;
}
