-- A unit that is written reliably: its run is one more segment, which holds one value of each of its sectors.
use Rattle.std.proofs.Common.{◌≡◌, ◌∙◌, ℕ, zero, suc, ◌+◌, ◌-◌, ◌*◌, ◌/◌, ◌<◌, ◌≤◌, ◌==◌, ◌&&◌, ◌||◌, Bool, true, inl, inr, List, [], ◌∷◌, ◌++◌, filter, map, refl, sym, ap, ap₂, append-nil, append_assoc, mul_comm, arith}
use Rattle.std.proofs.Math.Bool.{or-false}
use Rattle.std.proofs.lemmas.Bool.{and_from, and_right, cases_Bool, cases_lt, eq-eqb, ne_eqb}
use Rattle.std.proofs.lemmas.List.Folds.{list_any-append}
use Rattle.std.proofs.lemmas.Nat.{div-mul-add}
use Rattle.std.specs.List.{list_all, list_any, range_with_len}
use Rattle.storage_model.proofs.Appends.{before_epoch-append, puts_if-append}
use Rattle.storage_model.specs.Contents.{EpochPut, bars, before_epoch, numbered, puts_if}
use Rattle.storage_model.specs.Left.{is_mix}
use Rattle.storage_model.specs.Unit.{sectors_of_unit, unit_of}
use Rattle.storage_model.specs.declared.block.Block.{Block}
use Rattle.storage_model.specs.declared.form.Form.{Form}
use Rattle.storage_model.specs.declared.marks.Mark.{Mark}
use Rattle.storage_model.specs.declared.marks.Mark.TheVariants.{Put as PutMark}
use Rattle.storage_model.specs.declared.marks.Put.{Put}
use Rattle.unit_laws.proofs.Ones.{parted_at, parted_in}
use Rattle.unit_laws.specs.Laws.{IsOldOrNew}
use Rattle.unit_laws.specs.Mixes.{as_puts, left_by, parted, unit_mix, unit_puts, values_on}
use Rattle.unit_laws.specs.Writes.{Run, run_marks}

-- the put of a run on a sector, and those on sectors from one on
abbrev run_put : Run → ℕ → Put
run_put run s = record { sector = s; value = run.value s; reliable = run.reliable }

abbrev run_puts : Run → ℕ → ℕ → List Put
run_puts run at n = map (run_put run) (range_with_len at n)

-- they are puts on the unit

in_unit : (unit k at : ℕ) → unit * k ≤ at → at < unit * k + unit → at / unit ≡ k
in_unit unit k at above below =
    let same = mul_comm k unit in
    let is : k * unit + (at - unit * k) ≡ at = omega arith in
    ap (λ n. n / unit) (sym is) ∙ div-mul-add k unit (at - unit * k) (omega arith)

abbrev is_unit_put : Form → ℕ → ℕ → EpochPut → Bool
is_unit_put form e k q = (q.epoch == e) && (unit_of form.unit q.put.sector == k)

kept : (form : Form) (run : Run) (e at n : ℕ) → form.unit * run.unit ≤ at → at + n ≤ form.unit * run.unit + form.unit
    → map (λ (q : EpochPut). q.put) (filter (is_unit_put form e run.unit) (numbered e (map (λ s. PutMark (run_put run s)) (range_with_len at n)))) ≡ run_puts run at n
kept form run e at zero above below = refl
kept form run e at (suc n) above below =
    rw (eq-eqb e e refl, eq-eqb (at / form.unit) run.unit (in_unit form.unit run.unit at above (omega arith)))
    (ap (λ puts. run_put run at ∷ puts) (kept form run e (at + 1) n (omega arith) (omega arith)))

unit_puts-run : (form : Form) (pend : List Mark) (run : Run)
    → unit_puts form (bars pend) run.unit (pend ++ run_marks form run) ≡ unit_puts form (bars pend) run.unit pend ++ run_puts run (form.unit * run.unit) form.unit
unfolding unit_puts
unit_puts-run form pend run =
    puts_if-append (is_unit_put form (bars pend) run.unit) pend (run_marks form run)
    ∙ ap (λ puts. puts_if (is_unit_put form (bars pend) run.unit) pend ++ puts) (kept form run (bars pend) (form.unit * run.unit) form.unit (omega arith) (omega arith))

-- they are a segment

parted-past : (run : Run) (first : ℕ) (segment : List Put) (at n : ℕ) → first < at → parted first segment (run_puts run at n) ≡ (segment ++ run_puts run at n) ∷ []
parted-past run first segment at zero h = rw append-nil refl
parted-past run first segment at (suc n) h =
    rw (and_right run.reliable (at == first) (ne_eqb at first (omega arith)))
    (parted-past run first (segment ++ run_put run at ∷ []) (at + 1) n (omega arith) ∙ ap (λ puts. puts ∷ []) (append_assoc segment (run_put run at ∷ []) (run_puts run (at + 1) n)))

parted-run : (run : Run) (first n : ℕ) (segment puts : List Put) → run.reliable ≡ true → 1 ≤ n
    → parted first segment (puts ++ run_puts run first n) ≡ parted first segment puts ++ run_puts run first n ∷ []
parted-run run first zero segment puts reliable some = absurd (omega arith)
parted-run run first (suc n) segment [] reliable some =
    parted_at first segment (run_put run first) (run_puts run (first + 1) n) (and_from run.reliable (first == first) reliable (eq-eqb first first refl))
    ∙ ap (λ parts. segment ∷ parts) (parted-past run first (run_put run first ∷ []) (first + 1) n (omega arith))
parted-run run first (suc n) segment (put ∷ puts) reliable some =
    elim (cases_Bool (put.reliable && (put.sector == first))) [
      | inl begins ↦
          parted_at first segment put (puts ++ run_puts run first (suc n)) begins
          ∙ (ap (λ parts. segment ∷ parts) (parted-run run first (suc n) (put ∷ []) puts reliable some)
          ∙ ap (λ parts. parts ++ run_puts run first (suc n) ∷ []) (sym (parted_at first segment put puts begins)))
      | inr within ↦
          parted_in first segment put (puts ++ run_puts run first (suc n)) within
          ∙ (parted-run run first (suc n) (segment ++ put ∷ []) puts reliable some
          ∙ ap (λ parts. parts ++ run_puts run first (suc n) ∷ []) (sym (parted_in first segment put puts within)))
    ]

-- with one value of each sector

values_none : (run : Run) (s at n : ℕ) → s < at → values_on s (run_puts run at n) ≡ []
values_none run s at zero h = refl
values_none run s at (suc n) h = rw (ne_eqb at s (omega arith)) (values_none run s (at + 1) n (omega arith))

values_one : (run : Run) (s at n : ℕ) → at ≤ s → s < at + n → values_on s (run_puts run at n) ≡ run.value s ∷ []
values_one run s at zero above below = absurd (omega arith)
values_one run s at (suc n) above below =
    elim (cases_lt at s) [
      | inl further ↦ rw (ne_eqb at s (omega arith)) (values_one run s (at + 1) n (omega arith) (omega arith))
      | inr most ↦
          let here : at ≡ s = omega arith in
          rw (eq-eqb at s here) (ap₂ ◌∷◌ (ap run.value here) (values_none run s (at + 1) n (omega arith)))
    ]

left_new : (run : Run) (left : ℕ → Block) (first unit at n : ℕ) → first ≤ at → at + n ≤ first + unit
    → left_by (range_with_len at n) left (run_puts run first unit) ≡ list_all (λ s. is_mix (run.value s ∷ []) (left s)) (range_with_len at n)
left_new run left first unit at zero above below = refl
left_new run left first unit at (suc n) above below =
    ap₂ ◌&&◌ (ap (λ values. is_mix values (left at)) (values_one run at first unit above (omega arith))) (left_new run left first unit (at + 1) n (omega arith) (omega arith))

pub old_or_new : (form : Form) (base : List Block) (pend : List Mark) (run : Run) (left : ℕ → Block) → IsOldOrNew form base pend run left
unfolding unit_mix
old_or_new form base pend run left some reliable =
    let first = form.unit * run.unit in
    let sectors = sectors_of_unit form.unit run.unit in
    let start = as_puts (before_epoch (bars pend) base pend) sectors in
    let old = unit_puts form (bars pend) run.unit pend in
    let new = run_puts run first form.unit in
    rw (before_epoch-append (bars pend) base pend (run_marks form run) (omega arith), unit_puts-run form pend run)
    (ap (list_any (left_by sectors left)) (parted-run run first form.unit start old reliable some)
    ∙ (list_any-append (left_by sectors left) (parted first start old) (new ∷ [])
    ∙ ap (λ b. list_any (left_by sectors left) (parted first start old) || b) (or-false (left_by sectors left new) ∙ left_new run left first form.unit first form.unit (omega arith) (omega arith))))
