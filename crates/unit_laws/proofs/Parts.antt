-- Parts of units: blocks that are held back, barriers that are counted, and units of which some sectors are known.
use Rattle.std.proofs.Common.{◌≡◌, ◌∙◌, ℕ, zero, suc, ◌+◌, ◌-◌, ◌*◌, ◌/◌, ◌%◌, ◌≤◌, ◌&&◌, nat_lt, min, if◌then◌else◌, Bool, true, false, inl, inr, List, [], ◌∷◌, ◌++◌, flat_map, map, refl, sym, ap, ap₂, add-zero, div-add-mod', mod-lt, mul_comm, arith}
use Rattle.std.proofs.lemmas.Bool.{cases_Bool, cases_lt, eqb-true, le-ltb, lt-ltb}
use Rattle.std.proofs.lemmas.Nat.{div-mul-add, mod-mul-add}
use Rattle.std.specs.List.{list_any, range_with_len}
use Rattle.storage_machine.specs.declared.state.State.{State}
use Rattle.storage_model.proofs.Appends.{bars-append}
use Rattle.storage_model.specs.Contents.{bars}
use Rattle.storage_model.specs.Unit.{whole_units}
use Rattle.storage_model.specs.declared.block.Block.{Block}
use Rattle.storage_model.specs.declared.form.Form.{Form}
use Rattle.storage_model.specs.declared.marks.Mark.{Mark}
use Rattle.storage_model.specs.declared.marks.Mark.TheVariants.{Put as PutMark, Bar}
use Rattle.storage_model.specs.declared.marks.Put.{Put}
use Rattle.storage_model.specs.declared.plan.Fill.{Fill}
use Rattle.storage_model.specs.declared.plan.Job.{Job}
use Rattle.storage_model.specs.declared.plan.Job.TheVariants.{Read, Write, Flush, Barrier, Status}
use Rattle.storage_model.specs.Plan.{block_at}
use Rattle.trace_effects.specs.Phases.{puts_of}
use Rattle.unit_laws.proofs.Runs.{are_puts}
use Rattle.unit_laws.specs.Laws.{AreBars, AreUnits, IsPartWhole}
use Rattle.unit_laws.specs.Mixes.{left_by, part_mix, unit_mix, unit_segments}
use Rattle.unit_laws.specs.Writes.{marks_of_units, puts_of_unit, unit_bar}

-- blocks

ends : (unit count : ℕ) → 1 ≤ unit → (count + 1) % unit ≡ 0 → count % unit + 1 ≡ unit
ends unit count some even =
    let split = div-add-mod' count unit in
    let fewer : count % unit + 1 ≤ unit = omega (arith, mod-lt count some) in
    elim (cases_lt (count % unit + 1) unit) [
      | inl less ↦
          let is : count / unit * unit + (count % unit + 1) ≡ count + 1 = omega arith in
          let rest : (count + 1) % unit ≡ count % unit + 1 = ap (λ n. n % unit) (sym is) ∙ mod-mul-add (count / unit) unit (count % unit + 1) less in
          absurd (omega arith)
      | inr most ↦ omega arith
    ]

pub are_units : (form : Form) → 1 ≤ form.unit → (count : ℕ) → AreUnits form count
are_units form some count = record {
  all = ap (λ n. n + count % form.unit) (mul_comm form.unit (count / form.unit)) ∙ div-add-mod' count form.unit;
  fewer = mod-lt count some;
  last = λ last. ends form.unit count some (eqb-true ((count + 1) % form.unit) 0 last);
}

-- barriers

no_bars : (f : ℕ → Put) (ks : List ℕ) → bars (map (λ j. PutMark (f j)) ks) ≡ 0
no_bars f [] = refl
no_bars f (k ∷ ks) = no_bars f ks

abbrev put_of : List Block → ℕ → Fill → Bool → ℕ → Put
put_of blocks sector fill reliable j = record { sector = sector + j; value = block_at blocks fill j; reliable = reliable }

no_bars_puts : (blocks : List Block) (sector : ℕ) (fill : Fill) (reliable : Bool) (count : ℕ) → bars (puts_of blocks sector fill reliable count) ≡ 0
unfolding puts_of
no_bars_puts blocks sector fill reliable count = no_bars (put_of blocks sector fill reliable) (range_with_len 0 count)

one_bar : (b : Bool) → bars (if b then Bar ∷ [] else []) ≡ (if b then 1 else 0)
one_bar true = refl
one_bar false = refl

abbrev one : ℕ → ℕ
one bars = if nat_lt bars 4294967295 then 1 else 0

one_more : (n : ℕ) → n ≤ 4294967295 → n + one n ≡ min (n + 1) 4294967295
one_more n few =
    elim (cases_lt n 4294967295) [
      | inl less ↦ rw (lt-ltb n 4294967295 less) (omega arith)
      | inr most ↦ rw (le-ltb n 4294967295 most) (omega arith)
    ]

on : (n m rest : ℕ) → min (n + 1) 4294967295 + rest ≡ min (n + 1 + m) 4294967295 → min n 4294967295 + (0 + one n + rest) ≡ min (n + suc m) 4294967295
on n m rest so =
    elim (cases_lt n 4294967295) [
      | inl less ↦ rw (lt-ltb n 4294967295 less) (omega arith)
      | inr most ↦ rw (le-ltb n 4294967295 most) (omega arith)
    ]

-- of units one after the other, by the policy
counted : (form : Form) (blocks : List Block) (sector : ℕ) (fill : Fill) (reliable : Bool) (before n a m : ℕ) → form.fifo ≡ true → n ≡ before + a
    → min n 4294967295 + bars (flat_map (λ k. puts_of_unit form blocks sector fill reliable k ++ unit_bar form (before + k)) (range_with_len a m)) ≡ min (n + m) 4294967295
counted form blocks sector fill reliable before n a zero fifo e = omega arith
counted form blocks sector fill reliable before n a (suc m) fifo e =
    let puts = puts_of_unit form blocks sector fill reliable a in
    let bar = unit_bar form (before + a) in
    let rest = flat_map (λ k. puts_of_unit form blocks sector fill reliable k ++ unit_bar form (before + k)) (range_with_len (a + 1) m) in
    let barred : bars bar ≡ one n
    = ap (λ b. bars (if b && nat_lt (before + a) 4294967295 then Bar ∷ [] else [])) fifo ∙ (one_bar (nat_lt (before + a) 4294967295) ∙ ap one (sym e)) in
    let first : bars (puts ++ bar) ≡ 0 + one n = bars-append puts bar ∙ ap₂ ◌+◌ (no_bars (put_of blocks sector fill reliable) (range_with_len (form.unit * a) form.unit)) barred in
    ap (λ k. min n 4294967295 + k) (bars-append (puts ++ bar) rest ∙ ap (λ k. k + bars rest) first)
    ∙ on n m (bars rest) (counted form blocks sector fill reliable before (n + 1) (a + 1) m fifo (omega arith))

pub are_bars : (form : Form) (s : State) (job : Job) (count : ℕ) → AreBars form s job count
unfolding marks_of_units
are_bars form s (Write sector blocks fill forced reliable high) count few =
    let units = whole_units form.unit count in
    let marks = marks_of_units form s.plan.blocks sector fill reliable s.bars units in
    elim (cases_Bool form.fifo) [
      | inl fifo ↦
          let low : min s.bars 4294967295 ≡ s.bars = omega arith in
          ap (λ n. n + bars marks) (sym low)
          ∙ (counted form s.plan.blocks sector fill reliable s.bars s.bars 0 units fifo (omega arith) ∙ sym (ap (λ b. if b then min (s.bars + units) 4294967295 else s.bars) fifo))
      | inr off ↦
          ap (λ ms. s.bars + bars ms) (are_puts form s.plan.blocks sector fill reliable s.bars units off)
          ∙ (ap (λ n. s.bars + n) (no_bars_puts s.plan.blocks sector fill reliable (form.unit * units))
          ∙ (add-zero s.bars ∙ sym (ap (λ b. if b then min (s.bars + units) 4294967295 else s.bars) off)))
    ]
are_bars form s Barrier count few = ap (λ n. s.bars + n) (one_bar (nat_lt s.bars 4294967295)) ∙ one_more s.bars few
are_bars form s (Read sector blocks high) count few = add-zero s.bars
are_bars form s Flush count few = add-zero s.bars
are_bars form s Status count few = add-zero s.bars

-- a part that is the unit

pub part_whole : (form : Form) (base : List Block) (pend : List Mark) (e k : ℕ) (left : ℕ → Block) → IsPartWhole form base pend e k left
unfolding part_mix unit_mix
part_whole form base pend e k left some =
    let unit = form.unit in
    let order = mul_comm unit k in
    let is : unit * k + (unit - 1) ≡ k * unit + (unit - 1) = omega arith in
    let place : (unit * k + (unit - 1)) / unit ≡ k = ap (λ n. n / unit) is ∙ div-mul-add k unit (unit - 1) (omega arith) in
    let rest : (unit * k + (unit - 1)) % unit ≡ unit - 1 = ap (λ n. n % unit) is ∙ mod-mul-add k unit (unit - 1) (omega arith) in
    let all : (unit * k + (unit - 1)) % unit + 1 ≡ unit = omega arith in
    ap₂ (λ q n. list_any (left_by (range_with_len (unit * q) n) left) (unit_segments form base pend e q)) place all
