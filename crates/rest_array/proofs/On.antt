-- The counts of a script's inner array don't fall.
use Rattle.std.proofs.Common.{◌≡◌, ◌⊎◌, ℕ, Bool, true, false, Option, Some, None, Result, Ok, Err, refl, sym, ap, subst, inl, inr, arith}
use Rattle.storage_model.specs.Count.{Count, Later}
use Rattle.storage_model.specs.declared.block.Block.{Block}
use Rattle.storage_model.specs.declared.faults.ArrayHit.{ArrayHit}
use Rattle.array_edge.specs.Array.{ArrayState, Settled}
use Rattle.array_edge.specs.Hits.{hit_of, raised}
use Rattle.array_edge.specs.Script.{Script, ScriptFetched, ScriptProgrammed}
use Rattle.array_edge.specs.declared.array.ArrayEnd.{ArrayEnd}
use Rattle.rest_array.specs.Rest.{CountsOn}

later_same : (c : Count) → Later c c
later_same c = record { value = omega arith; stands = λ end. end }

later_both : (a b c : Count) → Later a b → Later b c → Later a c
later_both a b c one two = let x = one.value in let y = two.value in record { value = omega (arith, x, y); stands = λ end. two.stands (one.stands end) }

pub on_same : (a : ArrayState) → CountsOn a a
on_same a = record { faults = later_same a.faults; cuts = later_same a.cuts }

on_both : (a b c : ArrayState) → CountsOn a b → CountsOn b c → CountsOn a c
on_both a b c one two = record { faults = later_both a.faults b.faults c.faults one.faults two.faults; cuts = later_both a.cuts b.cuts c.cuts one.cuts two.cuts }

on_or_off : (powered : Bool) → (powered ≡ true) ⊎ (powered ≡ false)
on_or_off true = inl refl
on_or_off false = inr refl

module _ {A : Type 0} (state : A → ArrayState) (old new : Script A) where
  kept_on : new ≡ old → CountsOn (state old.inner) (state new.inner)
  kept_on is = subst (λ (s : Script A). CountsOn (state old.inner) (state s.inner)) (sym is) (on_same (state old.inner))

  inner_on : new.inner ≡ old.inner → CountsOn (state old.inner) (state new.inner)
  inner_on is = subst (λ inner. CountsOn (state old.inner) (state inner)) (sym is) (on_same (state old.inner))

  fetched_on : (met : Option ArrayHit) (page : ℕ) (block : Block) (result : Result (Unit {0}) ArrayEnd) → ScriptFetched state met old page block new result → CountsOn (state old.inner) (state new.inner)
  fetched_on None page block result did = record { faults = did.0.ends.faults; cuts = did.0.ends.cuts }
  fetched_on (Some hit) page block result did = inner_on (ap (λ (s : Script A). s.inner) did.2)

  programmed_on : (met : Option ArrayHit) (page : ℕ) (block : Block) (result : Result (Unit {0}) ArrayEnd) → ScriptProgrammed state met old page block new result → CountsOn (state old.inner) (state new.inner)
  programmed_on None page block result did = record { faults = did.0.ends.faults; cuts = did.0.ends.cuts }
  programmed_on (Some hit) page block result (inl unread) = record { faults = unread.fetched.ends.faults; cuts = unread.fetched.ends.cuts }
  programmed_on (Some hit) page block result (inr did) =
      on_both (state old.inner) did.between (state new.inner) (record { faults = did.fetched.ends.faults; cuts = did.fetched.ends.cuts }) (record { faults = did.programmed.ends.faults; cuts = did.programmed.ends.cuts })

  module _ (moment : ArrayState) (before : CountsOn moment (state old.inner)) where
    abbrev behind : CountsOn (state old.inner) (state new.inner) → CountsOn moment (state new.inner)
    behind on = on_both moment (state old.inner) (state new.inner) before on

    pub on_fetch : (page : ℕ) (block : Block) (result : Result (Unit {0}) ArrayEnd) → (old.powered ≡ true → ScriptFetched state (hit_of old.hits true (raised old.fetches)) old page block new result) → (old.powered ≡ false → new ≡ old)
        → CountsOn moment (state new.inner)
    on_fetch page block result did kept = elim (on_or_off old.powered) [
      | inl on ↦ behind (fetched_on (hit_of old.hits true (raised old.fetches)) page block result (did on))
      | inr off ↦ behind (kept_on (kept off))
    ]

    pub on_program : (page : ℕ) (block : Block) (result : Result (Unit {0}) ArrayEnd) → (old.powered ≡ true → ScriptProgrammed state (hit_of old.hits false (raised old.programs)) old page block new result) → (old.powered ≡ false → new ≡ old)
        → CountsOn moment (state new.inner)
    on_program page block result did kept = elim (on_or_off old.powered) [
      | inl on ↦ behind (programmed_on (hit_of old.hits false (raised old.programs)) page block result (did on))
      | inr off ↦ behind (kept_on (kept off))
    ]

    pub on_settle : (result : Result (Unit {0}) ArrayEnd) → (old.powered ≡ true → Settled (state old.inner) (state new.inner) result) → (old.powered ≡ false → new ≡ old) → CountsOn moment (state new.inner)
    on_settle result did kept = elim (on_or_off old.powered) [
      | inl on ↦ behind (record { faults = (did on).ends.faults; cuts = (did on).ends.cuts })
      | inr off ↦ behind (kept_on (kept off))
    ]
