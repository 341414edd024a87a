-- The lines of a script that tell of a fault are together no more than the array's faults.
use Rattle.std.proofs.Common.{◌≡◌, ◌≤◌, ◌+◌, ℕ, Bool, true, false, List, [], ◌∷◌, Option, Result, Ok, Err, inl, inr, refl, ◌∙◌, ap, subst, arith, cond}
use Rattle.std.specs.Prelude.{count_by}
use Rattle.std.specs.List.{list_any}
use Rattle.std.proofs.lemmas.Bool.{or_parts}
use Rattle.std.proofs.lemmas.List.Sums.{sum_by-append}
use Rattle.raw_face.specs.Operation.{Does}
use Rattle.raw_face.specs.Output.{HasCauses, Output, tells_fault}
use Rattle.raw_face.specs.Sector.{flush_output}
use Rattle.raw_lines.specs.declared.raw_line.RawLine.{RawLine}
use Rattle.raw_machine.specs.Machine.{Moment}
use Rattle.raw_text.specs.declared.op.RawOp.{RawOp}
use Rattle.array_edge.specs.Array.{ArrayState}
use Rattle.intent_store.specs.declared.ends.StoreEnd.{StoreEnd}
use Rattle.intent_store.specs.declared.ends.StoreEnd.TheVariants.{Flash, PowerLost}
use Rattle.storage_model.specs.Count.{Count, Later, Rose}
use Rattle.storage_model.specs.declared.ends.Halt.{Halt}
use Rattle.storage_model.specs.declared.trace.End.{End}
use Rattle.cqmmc_top.specs.Raw.{Plays, RoseBy, end_faults, finishes, goes_on, halts, output_faults, script_faults}
use Rattle.cqmmc_top.proofs.Playing.{IsOpEnd, makes_end}

counted_if : (tells : Bool) (lines : List RawLine) → count_by tells_fault lines ≡ 0 → tells ≡ false
    → 0 + cond tells 1 0 + count_by tells_fault lines ≡ 0
counted_if true lines rest e = absurd (cc e)
counted_if false lines rest e = omega arith

none_counted : (lines : List RawLine) → list_any tells_fault lines ≡ false → count_by tells_fault lines ≡ 0
none_counted [] none = refl
none_counted (line ∷ lines) none =
    let parts = or_parts (tells_fault line) (list_any tells_fault lines) none in
    sum_by-append (λ (x : RawLine). cond (tells_fault x) 1 0) (line ∷ []) lines ∙ counted_if (tells_fault line) lines (none_counted lines parts.1) parts.0

-- where a line tells of a fault the count rose
rose_any : (n : ℕ) (old new : Count) → n ≤ 1 → Rose old new → RoseBy n old new
rose_any n old new few (inl more) = inl (omega arith)
rose_any n old new few (inr stands) = inr stands

lines_rose : (lines : List RawLine) (old new : Count) (any : Bool) → list_any tells_fault lines ≡ any → count_by tells_fault lines ≤ 1 → Later old new
    → (any ≡ true → Rose old new) → RoseBy (count_by tells_fault lines) old new
lines_rose lines old new true e few later rose = rose_any (count_by tells_fault lines) old new few (rose refl)
lines_rose lines old new false e few later rose =
    let none : count_by tells_fault lines ≡ 0 = none_counted lines e in let value = later.value in inl (omega arith)

op_end : (end : Option End) → IsOpEnd end → end_faults end ≡ 0
op_end end (inl none) = ap end_faults none
op_end end (inr dead) = ap end_faults dead

op_rose : (output : Output) (old new : ArrayState) → HasCauses old new output → IsOpEnd output.end → RoseBy (output_faults output) old.faults new.faults
op_rose output old new causes is =
    let none : end_faults output.end ≡ 0 = op_end output.end is in
    let P : ℕ → Type 0 = λ n. RoseBy n old.faults new.faults in
    subst P (omega arith) (lines_rose output.lines old.faults new.faults (list_any tells_fault output.lines) refl causes.once causes.faults causes.flash)

-- what the flush tells
flush_rose : (end : Result (Unit {0}) StoreEnd) (output : Output) (old new : ArrayState) → output ≡ flush_output end → HasCauses old new output
    → RoseBy (output_faults output) old.faults new.faults
flush_rose (Ok done) output old new e causes =
    let n : output_faults output ≡ 0 = ap output_faults e in let value = causes.faults.value in inl (omega arith)
flush_rose (Err Flash) output old new e causes =
    let n : output_faults output ≡ 1 = ap output_faults e in
    rose_any (output_faults output) old.faults new.faults (omega arith) (causes.fault (ap (λ (o : Output). o.end) e))
flush_rose (Err PowerLost) output old new e causes =
    let n : output_faults output ≡ 0 = ap output_faults e in let value = causes.faults.value in inl (omega arith)

-- one after the other
pub rose_both : (m n : ℕ) (a b c : Count) → Later b c → RoseBy m a b → RoseBy n b c → RoseBy (m + n) a c
rose_both m n a b c later (inl one) (inl other) = inl (omega arith)
rose_both m n a b c later (inl one) (inr stands) = inr stands
rose_both m n a b c later (inr stands) other = inr (later.stands stands)

both_later : (a b c : Count) → Later a b → Later b c → Later a c
both_later a b c first next = record { value = omega (arith, first.value, next.value); stands = λ end. next.stands (first.stands end) }

module _ {K : Type 0} (took : K → List ℕ → K → Type 0) where
  does_rose : (op : RawOp) (old new : Moment) (out out' : K) (result : Result (Unit {0}) Halt) → (does : Does took op old out result new out')
      → RoseBy (output_faults does.output) old.array.faults new.array.faults
  does_rose op old new out out' result does =
      op_rose does.output old.array new.array does.causes (makes_end op old new result does.output does.makes)

  plays_later : {ops : List RawOp} {old new : Moment} {out out' : K} {result : Result (Unit {0}) Halt} → Plays took ops old out result new out' → Later old.array.faults new.array.faults
  plays_later {old = old} {new = new} (goes_on {between = between} does plays) = both_later old.array.faults between.array.faults new.array.faults does.causes.faults (plays_later plays)
  plays_later (halts does) = does.causes.faults
  plays_later (finishes ends) = ends.causes.faults

  pub plays_rose : {ops : List RawOp} {old new : Moment} {out out' : K} {result : Result (Unit {0}) Halt} → (plays : Plays took ops old out result new out')
      → RoseBy (script_faults took plays) old.array.faults new.array.faults
  unfolding script_faults
  plays_rose {old = old} {new = new} {out = out} (goes_on {op = op} {between = between} {middle = middle} does plays) =
      rose_both (output_faults does.output) (script_faults took plays) old.array.faults between.array.faults new.array.faults (plays_later plays)
      (does_rose op old between out middle (Ok tt) does) (plays_rose plays)
  plays_rose {old = old} {new = new} {out = out} {out' = out'} (halts {op = op} {halt = halt} does) = does_rose op old new out out' (Err halt) does
  plays_rose {old = old} {new = new} (finishes ends) = flush_rose ends.card.end ends.output old.array new.array ends.card.shown ends.causes
