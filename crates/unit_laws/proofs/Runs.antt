-- The marks of a write by units: they are the puts of its blocks, and stand in runs.
use Rattle.std.proofs.Common.{◌≡◌, ◌∙◌, ℕ, zero, suc, ◌+◌, ◌-◌, ◌*◌, ◌/◌, ◌%◌, ◌&&◌, nat_lt, Bool, inl, inr, List, [], ◌∷◌, ◌++◌, flat_map, map, refl, sym, ap, ap₂, Some, None, add_comm, append-nil, append_assoc, div-add-mod', div-one, mul-add, mul-one, mul-suc, mul-zero, mul_comm, one-mul, arith}
use Rattle.std.proofs.lemmas.Bool.{cases_Bool, eqb-true}
use Rattle.std.proofs.lemmas.List.{map-append}
use Rattle.std.specs.List.{range_with_len}
use Rattle.storage_machine.specs.declared.state.State.{State}
use Rattle.storage_model.specs.Plan.{block_at}
use Rattle.storage_model.specs.Unit.{whole_units}
use Rattle.storage_model.specs.declared.block.Block.{Block}
use Rattle.storage_model.specs.declared.form.Form.{Form}
use Rattle.storage_model.specs.declared.marks.Mark.{Mark}
use Rattle.storage_model.specs.declared.marks.Mark.TheVariants.{Put as PutMark, Bar}
use Rattle.storage_model.specs.declared.plan.Fill.{Fill}
use Rattle.storage_model.specs.declared.plan.Job.{Job}
use Rattle.storage_model.specs.declared.plan.Job.TheVariants.{Read, Write, Flush, Barrier, Status}
use Rattle.trace_effects.specs.Phases.{puts_of}
use Rattle.unit_laws.specs.Laws.{ArePuts, AreRuns, IsPhaseOfSectors, IsPlain}
use Rattle.unit_laws.specs.Writes.{Run, StandInRuns, marks_of_units, puts_of_unit, run_marks, unit_bar}

-- numbers from a first one on, in two parts
range_both : (a m n : ℕ) → range_with_len a (m + n) ≡ range_with_len a m ++ range_with_len (a + m) n
range_both a zero n =
    let none : 0 + n ≡ n = omega arith in
    let here : a + 0 ≡ a = omega arith in
    rw (none, here) refl
range_both a (suc m) n =
    let more : suc m + n ≡ suc (m + n) = omega arith in
    let on : a + suc m ≡ a + 1 + m = omega arith in
    rw (more, on) (ap (λ rest. a ∷ rest) (range_both (a + 1) m n))

-- units one after the other, without a barrier
joined : (f : ℕ → Mark) (unit a n : ℕ) → flat_map (λ k. map f (range_with_len (unit * k) unit) ++ []) (range_with_len a n) ≡ map f (range_with_len (unit * a) (unit * n))
joined f unit a zero = rw (mul-zero unit) refl
joined f unit a (suc n) =
    let long : unit * suc n ≡ unit + unit * n = mul-suc unit n ∙ add_comm (unit * n) unit in
    let on : unit * (a + 1) ≡ unit * a + unit = mul-add unit a 1 ∙ ap (λ k. unit * a + k) (mul-one unit) in
    let first = range_with_len (unit * a) unit in
    let rest = range_with_len (unit * a + unit) (unit * n) in
    ap₂ ◌++◌ (append-nil (map f first)) (joined f unit (a + 1) n ∙ ap (λ k. map f (range_with_len k (unit * n))) on)
    ∙ (sym (map-append f first rest) ∙ ap (map f) (sym (range_both (unit * a) unit (unit * n)) ∙ ap (range_with_len (unit * a)) (sym long)))

-- the put of block j of a write
abbrev put_of : List Block → ℕ → Fill → Bool → ℕ → Mark
put_of blocks sector fill reliable j = PutMark (record { sector = sector + j; value = block_at blocks fill j; reliable = reliable })

pub are_puts : (form : Form) (blocks : List Block) (sector : ℕ) (fill : Fill) (reliable : Bool) (before units : ℕ) → ArePuts form blocks sector fill reliable before units
unfolding marks_of_units puts_of
are_puts form blocks sector fill reliable before units off =
    rw off (joined (put_of blocks sector fill reliable) form.unit 0 units ∙ ap (λ k. map (put_of blocks sector fill reliable) (range_with_len k (form.unit * units))) (mul-zero form.unit))

-- the phases of units of one sector

each : (form : Form) → form.unit ≡ 1 → (count : ℕ) → form.unit * whole_units form.unit count ≡ count
each form one count = rw one (one-mul (count / 1) ∙ div-one count)

pub phase_of_sectors : (form : Form) → IsPlain form → (s : State) (job : Job) (count : ℕ) → IsPhaseOfSectors form s job count
phase_of_sectors form plain s (Write sector blocks fill forced reliable high) count =
    let off = plain.fifo in
    record {
      marks = are_puts form s.plan.blocks sector fill reliable s.bars (whole_units form.unit count) off ∙ ap (puts_of s.plan.blocks sector fill reliable) (each form plain.unit count);
      bars = rw off refl;
    }
phase_of_sectors form plain s (Read sector blocks high) count = record { marks = refl; bars = refl }
phase_of_sectors form plain s Flush count = record { marks = refl; bars = refl }
phase_of_sectors form plain s Barrier count = record { marks = refl; bars = refl }
phase_of_sectors form plain s Status count = record { marks = refl; bars = refl }

-- runs

abbrev run_at : List Block → ℕ → Fill → Bool → ℕ → Run
run_at blocks sector fill reliable unit = record { unit = unit; value = λ s. block_at blocks fill (s - sector); reliable = reliable }

-- a put of a run, by its sector
abbrev put_on : List Block → ℕ → Fill → Bool → ℕ → Mark
put_on blocks sector fill reliable s = PutMark (record { sector = s; value = block_at blocks fill (s - sector); reliable = reliable })

moved : (blocks : List Block) (sector : ℕ) (fill : Fill) (reliable : Bool) (first at n : ℕ) → first ≡ sector + at
    → map (put_on blocks sector fill reliable) (range_with_len first n) ≡ map (put_of blocks sector fill reliable) (range_with_len at n)
moved blocks sector fill reliable first at zero e = refl
moved blocks sector fill reliable first at (suc n) e =
    let back : first - sector ≡ at = omega arith in
    ap₂ ◌∷◌
    (ap₂ (λ s j. PutMark (record { sector = s; value = block_at blocks fill j; reliable = reliable })) e back)
    (moved blocks sector fill reliable (first + 1) (at + 1) n (omega arith))

run_is : (form : Form) (blocks : List Block) (sector q : ℕ) (fill : Fill) (reliable : Bool) (k : ℕ) → sector ≡ form.unit * q
    → puts_of_unit form blocks sector fill reliable k ≡ run_marks form (run_at blocks sector fill reliable (q + k))
run_is form blocks sector q fill reliable k e =
    let first : form.unit * (q + k) ≡ sector + form.unit * k = mul-add form.unit q k ∙ ap (λ n. n + form.unit * k) (sym e) in
    sym (moved blocks sector fill reliable (form.unit * (q + k)) (form.unit * k) form.unit first)

runs_on : (form : Form) (blocks : List Block) (sector q : ℕ) (fill : Fill) (reliable : Bool) (before : ℕ) → sector ≡ form.unit * q → (ks : List ℕ)
    → StandInRuns form (flat_map (λ k. puts_of_unit form blocks sector fill reliable k ++ unit_bar form (before + k)) ks)
runs_on form blocks sector q fill reliable before e [] = ([], refl)
runs_on form blocks sector q fill reliable before e (k ∷ ks) =
    let rest = runs_on form blocks sector q fill reliable before e ks in
    let run = Some (run_at blocks sector fill reliable (q + k)) in
    let puts = puts_of_unit form blocks sector fill reliable k in
    let is = run_is form blocks sector q fill reliable k e in
    elim (cases_Bool (form.fifo && nat_lt (before + k) 4294967295)) [
      | inl bar ↦ (run ∷ None ∷ rest.0, rw bar (append_assoc puts (Bar ∷ []) _ ∙ ap₂ ◌++◌ is (ap (λ marks. Bar ∷ marks) rest.1)))
      | inr none ↦ (run ∷ rest.0, rw none (ap₂ ◌++◌ (append-nil puts ∙ is) rest.1))
    ]

pub are_runs : (form : Form) (blocks : List Block) (sector : ℕ) (fill : Fill) (reliable : Bool) (before units : ℕ) → AreRuns form blocks sector fill reliable before units
unfolding marks_of_units
are_runs form blocks sector fill reliable before units some aligned =
    let even : sector % form.unit ≡ 0 = eqb-true (sector % form.unit) 0 aligned in
    let split : sector / form.unit * form.unit + sector % form.unit ≡ sector = div-add-mod' sector form.unit in
    let whole : sector ≡ sector / form.unit * form.unit = omega arith in
    runs_on form blocks sector (sector / form.unit) fill reliable before (whole ∙ mul_comm (sector / form.unit) form.unit) (range_with_len 0 units)
