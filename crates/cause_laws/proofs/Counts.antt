-- Rises of counts, one after the other, and how many lines need one.
use Rattle.std.proofs.Common.{◌≡◌, ◌≤◌, ◌<◌, ◌+◌, ◌-◌, ℕ, true, false, refl, sym, ◌∙◌, ap, arith, inl, inr, Bool, List, [], ◌∷◌, ◌++◌, Result, Ok, Err, count_by}
use Rattle.std.specs.Prelude.{◌⊎◌, cond}
use Rattle.std.proofs.lemmas.List.Sums.{sum_by-append, sum_by-cons}
use Rattle.storage_model.specs.Count.{Count, Later, Rose}
use Rattle.storage_model.specs.declared.ends.Halt.{Halt}
use Rattle.storage_model.specs.declared.trace.Item.{Item}
use Rattle.array_edge.specs.Array.{ArrayState}
use Rattle.trace_print.specs.Prints.{HasCauses, RoseBy, halt_faults, is_cut_line, is_flash}

pub same_later : (c : Count) → Later c c
same_later c = record { value = omega arith; stands = λ e. e }

pub later_on : (a b c : Count) → Later a b → Later b c → Later a c
later_on a b c one two =
    let low = one.value in
    let high = two.value in
    record { value = omega (arith, low, high); stands = λ e. two.stands (one.stands e) }

pub rose_none : (a b : Count) → Later a b → RoseBy 0 a b
rose_none a b later = inl (let up = later.value in omega (arith, up))

pub rose_one : (a b : Count) → Rose a b → RoseBy 1 a b
rose_one a b rose = elim rose [
  | inl up ↦ inl (omega (arith, up))
  | inr end ↦ inr end
]

pub rose_less : (n m : ℕ) (a b : Count) → m ≤ n → RoseBy n a b → RoseBy m a b
rose_less n m a b less rose = elim rose [
  | inl up ↦ inl (omega (arith, less, up))
  | inr end ↦ inr end
]

rose_both : (n m k : ℕ) (a b c : Count) → k ≤ n + m → a.value + n ≤ b.value → RoseBy m b c → RoseBy k a c
rose_both n m k a b c less low rose = elim rose [
  | inl up ↦ inl (omega (arith, less, low, up))
  | inr end ↦ inr end
]

pub rose_on : (n m k : ℕ) (a b c : Count) → k ≤ n + m → Later b c → RoseBy n a b → RoseBy m b c → RoseBy k a c
rose_on n m k a b c less later one two = elim one [
  | inl low ↦ rose_both n m k a b c less low two
  | inr end ↦ inr (later.stands end)
]

-- lines of a fault of the flash, and of a cut
abbrev pub flashes : List Item → ℕ
flashes items = count_by is_flash items

abbrev pub cut_lines : List Item → ℕ
cut_lines items = count_by is_cut_line items

pub flashes_both : (xs ys : List Item) → flashes (xs ++ ys) ≡ flashes xs + flashes ys
flashes_both xs ys = sum_by-append (λ x. cond (is_flash x) 1 0) xs ys

pub cuts_both : (xs ys : List Item) → cut_lines (xs ++ ys) ≡ cut_lines xs + cut_lines ys
cuts_both xs ys = sum_by-append (λ x. cond (is_cut_line x) 1 0) xs ys

pub flashes_on : (x : Item) (xs : List Item) → flashes (x ∷ xs) ≡ cond (is_flash x) 1 0 + flashes xs
flashes_on x xs = sum_by-cons (λ x. cond (is_flash x) 1 0) x xs

pub cuts_on : (x : Item) (xs : List Item) → cut_lines (x ∷ xs) ≡ cond (is_cut_line x) 1 0 + cut_lines xs
cuts_on x xs = sum_by-cons (λ x. cond (is_cut_line x) 1 0) x xs

-- the array's counts went on, and rose so often
pub record Rises (f c : ℕ) (a a' : ArrayState) : Type 0 where
  pub later_faults : Later a.faults a'.faults
  pub later_cuts : Later a.cuts a'.cuts
  pub flash : RoseBy f a.faults a'.faults
  pub cuts : RoseBy c a.cuts a'.cuts

pub rises_cause : (a a' : ArrayState) (items : List Item) (result : Result (Unit {0}) Halt) (f c : ℕ) → Rises f c a a'
    → flashes items + halt_faults result ≤ f → cut_lines items ≤ c → HasCauses 0 a a' items result
rises_cause a a' items result f c r low few = record {
  later_faults = r.later_faults;
  later_cuts = r.later_cuts;
  flash = rose_less f (flashes items + halt_faults result) a.faults a'.faults low r.flash;
  cuts = rose_less c (cut_lines items - 0) a.cuts a'.cuts (omega (arith, few)) r.cuts;
}
