-- Operations one after the other, and the causes of how they end.
use Rattle.std.proofs.Common.{◌≡◌, ◌⊎◌, ℕ, ◌+◌, ◌<◌, ◌≤◌, Bool, true, false, List, ◌∷◌, Option, None, Some, Result, Ok, Err, inl, inr, length, get_or, drop, refl, sym, ◌∙◌, ap, subst, arith}
use Rattle.std.specs.Bool.{MatchBool}
use Rattle.std.specs.Option.{option_map_or}
use Rattle.std.proofs.lemmas.List.{drop_more, drop_all}
use Rattle.storage_model.specs.Count.{Count, Later, Rose}
use Rattle.storage_model.specs.declared.ends.Halt.{Halt}
use Rattle.storage_model.specs.declared.ends.Halt.TheVariants.{SinkFailed, OpenFault, PowerGone, BadImage}
use Rattle.storage_model.specs.declared.trace.End.{End}
use Rattle.storage_model.specs.declared.trace.End.TheVariants.{Good, Fault, Dead, Image}
use Rattle.array_edge.specs.Array.{ArrayState}
use Rattle.bus_link.specs.declared.link.Cause.TheVariants.{Bus, Response, Dark}
use Rattle.cq_engine.specs.declared.did.Did.{Did}
use Rattle.cq_engine.specs.declared.did.Did.TheVariants.{Idle, Sent, Direct, Moved, Finished, Dropped, Stopped}
use Rattle.cq_regs.specs.Table.{row_at}
use Rattle.intent_store.specs.declared.ends.StoreEnd.{StoreEnd}
use Rattle.intent_store.specs.declared.ends.StoreEnd.TheVariants.{Flash, PowerLost}
use Rattle.raw_face.specs.Access.{write_output}
use Rattle.card_core.specs.declared.ends.Dark.{Dark as NoPower}
use Rattle.raw_machine.specs.Machine.{Moment}
use Rattle.raw_face.specs.Operation.{Does, Finishes, Makes}
use Rattle.raw_face.specs.Output.{HasCauses, IsSinkCause, Output, Shows, halt_of, nothing, one}
use Rattle.raw_machine.specs.Running.{end_after}
use Rattle.raw_face.specs.Sector.{HasShown, IsOutside, discard_output, flush_output, sector_output}
use Rattle.raw_lines.specs.declared.raw_line.RawLine.TheVariants.{NoRegister}
use Rattle.raw_text.specs.declared.op.RawOp.{RawOp}
use Rattle.raw_text.specs.declared.op.RawOp.TheVariants.{Poke, Fill, Peek, Write, Read, Go, Show, Discard}
use Rattle.storage_model.specs.declared.block.Block.{Block}
use Rattle.cqmmc_top.specs.Print.{HasCause}
use Rattle.cqmmc_top.specs.Raw.{Plays, goes_on, halts, finishes}

later_then : {a b c : Count} → Later a b → Later b c → Later a c
later_then first next = record { value = omega (arith, first.value, next.value); stands = λ end. next.stands (first.stands end) }

rose_then : {a b c : Count} → Later a b → Rose b c → Rose a c
rose_then first rose = elim rose [
  | inl more ↦ inl (omega (arith, first.value, more))
  | inr stands ↦ inr stands
]

-- what went well before adds no cause
pub cause_then : (a b c : Count) (s t u : ArrayState) (result : Result (Unit {0}) Halt) → HasCause a b s t (Ok tt) → HasCause b c t u result → HasCause a c s u result
cause_then a b c s t u result first next = record {
  sink = later_then first.sink next.sink;
  faults = later_then first.faults next.faults;
  cuts = later_then first.cuts next.cuts;
  sink_failed = λ is. rose_then first.sink (next.sink_failed is);
  open_fault = λ is. rose_then first.faults (next.open_fault is);
  power_gone = λ is. rose_then first.cuts (next.power_gone is);
  image = next.image;
}

pub no_cause : (a : Count) (s : ArrayState) → HasCause a a s s (Ok tt)
no_cause a s = record {
  sink = record { value = omega arith; stands = λ is. is };
  faults = record { value = omega arith; stands = λ is. is };
  cuts = record { value = omega arith; stands = λ is. is };
  sink_failed = λ is. absurd (cc);
  open_fault = λ is. absurd (cc);
  power_gone = λ is. absurd (cc);
  image = λ is. cc;
}

pub booted : (a b : Count) (s t : ArrayState) → Later s.faults t.faults → Later s.cuts t.cuts → Later a b → HasCause a b s t (Ok tt)
booted a b s t faults cuts sink = record {
  sink = sink;
  faults = faults;
  cuts = cuts;
  sink_failed = λ is. absurd (cc);
  open_fault = λ is. absurd (cc);
  power_gone = λ is. absurd (cc);
  image = λ is. cc;
}

-- which end a script ends with
fault_end : (end : Option End) → Err OpenFault ≡ halt_of end → end ≡ Some Fault
fault_end None is = absurd (cc)
fault_end (Some Good) is = absurd (cc)
fault_end (Some Fault) is = refl
fault_end (Some Dead) is = absurd (cc)
fault_end (Some Image) is = absurd (cc)

dead_end : (end : Option End) → Err PowerGone ≡ halt_of end → end ≡ Some Dead
dead_end None is = absurd (cc)
dead_end (Some Good) is = absurd (cc)
dead_end (Some Fault) is = absurd (cc)
dead_end (Some Dead) is = refl
dead_end (Some Image) is = absurd (cc)

image_end : (end : Option End) → Err BadImage ≡ halt_of end → end ≡ Some Image
image_end None is = absurd (cc)
image_end (Some Good) is = absurd (cc)
image_end (Some Fault) is = absurd (cc)
image_end (Some Dead) is = absurd (cc)
image_end (Some Image) is = refl

shows_cause : {K : Type 0} (took : K → List ℕ → K → Type 0) (a b : Count) (old new : ArrayState) (out out' : K) (output : Output) (result : Result (Unit {0}) Halt)
    → HasCauses old new output → Shows took out output result out' → (output.end ≡ Some Image → ⊥) → IsSinkCause a b result → HasCause a b old new result
shows_cause took a b old new out out' output (Ok done) causes shows none sink = record {
  sink = sink.later;
  faults = causes.faults;
  cuts = causes.cuts;
  sink_failed = sink.failed;
  open_fault = λ is. absurd (cc);
  power_gone = λ is. absurd (cc);
  image = λ is. cc;
}
shows_cause took a b old new out out' output (Err SinkFailed) causes shows none sink = record {
  sink = sink.later;
  faults = causes.faults;
  cuts = causes.cuts;
  sink_failed = sink.failed;
  open_fault = λ is. absurd (cc);
  power_gone = λ is. absurd (cc);
  image = λ is. cc;
}
shows_cause took a b old new out out' output (Err OpenFault) causes shows none sink = record {
  sink = sink.later;
  faults = causes.faults;
  cuts = causes.cuts;
  sink_failed = sink.failed;
  open_fault = λ is. causes.fault (fault_end output.end shows.1);
  power_gone = λ is. absurd (cc);
  image = λ is. cc;
}
shows_cause took a b old new out out' output (Err PowerGone) causes shows none sink = record {
  sink = sink.later;
  faults = causes.faults;
  cuts = causes.cuts;
  sink_failed = sink.failed;
  open_fault = λ is. absurd (cc);
  power_gone = λ is. causes.dead (dead_end output.end shows.1);
  image = λ is. cc;
}
shows_cause took a b old new out out' output (Err BadImage) causes shows none sink = record {
  sink = sink.later;
  faults = causes.faults;
  cuts = causes.cuts;
  sink_failed = sink.failed;
  open_fault = λ is. absurd (cc);
  power_gone = λ is. absurd (cc);
  image = λ is. none (image_end output.end shows.1);
}

-- an operation ends the script only where the power was cut
abbrev pub IsOpEnd : Option End → Type 0
IsOpEnd end = (end ≡ None) ⊎ (end ≡ Some Dead)

pub no_image : (end : Option End) → IsOpEnd end → end ≡ Some Image → ⊥
no_image end (inl none) is = cc
no_image end (inr dead) is = cc

pub no_fault : (end : Option End) → IsOpEnd end → end ≡ Some Fault → ⊥
no_fault end (inl none) is = cc
no_fault end (inr dead) is = cc

mapped_end : {A : Type 0} (read : Option A) (x y : Output) → x.end ≡ None → y.end ≡ None → (option_map_or (λ row. x) read y).end ≡ None
mapped_end None x y here there = there
mapped_end (Some row) x y here there = here

written_end : (reg : ℕ) → (write_output reg).end ≡ None
written_end reg = mapped_end (row_at reg) nothing (one (NoRegister reg)) refl refl

event_end : (did : Did) → IsOpEnd (end_after did)
event_end Idle = inl refl
event_end (Sent command) = inl refl
event_end (Direct slot) = inl refl
event_end (Moved slot) = inl refl
event_end (Finished slot) = inl refl
event_end (Dropped slot why) = inl refl
event_end (Stopped (Bus kind slot)) = inl refl
event_end (Stopped (Response word slot)) = inl refl
event_end (Stopped Dark) = inr refl

shown_end : (value : Block) (end : Result (Unit {0}) StoreEnd) → IsOpEnd (sector_output value end).end
shown_end value (Ok done) = inl refl
shown_end value (Err Flash) = inl refl
shown_end value (Err PowerLost) = inr refl

flushed_no_image : (end : Result (Unit {0}) StoreEnd) → (flush_output end).end ≡ Some Image → ⊥
flushed_no_image (Ok done) is = cc
flushed_no_image (Err Flash) is = cc
flushed_no_image (Err PowerLost) is = cc

discarded_end : (answer : Result ℕ NoPower) → IsOpEnd (discard_output answer).end
discarded_end (Ok word) = inl refl
discarded_end (Err dark) = inr refl

either_way : (inside : Bool) {P Q : Type 0} (R : Type 0) → MatchBool inside P Q → (P → R) → (Q → R) → R
either_way true R is here there = here is
either_way false R is here there = there is

as_end : (output other : Output) → output ≡ other → IsOpEnd other.end → IsOpEnd output.end
as_end output other e is = let P : Output → Type 0 = λ o. IsOpEnd o.end in subst P (sym e) is

pub makes_end : (op : RawOp) (old new : Moment) (result : Result (Unit {0}) Halt) (output : Output) → Makes op old result output new → IsOpEnd output.end
makes_end (Poke address bytes) old new result output makes = inl (elim makes.memory [
  | inl inside ↦ ap (λ (o : Output). o.end) inside.1.1
  | inr outside ↦ ap (λ (o : Output). o.end) outside.1.1
])
makes_end (Fill address count value) old new result output makes = inl (elim makes.memory [
  | inl inside ↦ ap (λ (o : Output). o.end) inside.1.1
  | inr outside ↦ ap (λ (o : Output). o.end) outside.1.1
])
makes_end (Peek address count) old new result output makes = inl (elim makes.memory [
  | inl inside ↦ ap (λ (o : Output). o.end) inside.1
  | inr outside ↦ ap (λ (o : Output). o.end) outside.1
])
makes_end (Write reg value) old new result output makes = inl (ap (λ (o : Output). o.end) makes.shown ∙ written_end reg)
makes_end (Read reg) old new result output makes = inl (ap (λ (o : Output). o.end) makes.shown)
makes_end Go old new result output makes = as_end output _ makes.shown (event_end makes.last)
makes_end (Show sector) old new result output makes =
    either_way _ (IsOpEnd output.end) makes.card
    (λ (shown : HasShown sector old.machine.card old.array output new.machine.card new.array). as_end output _ shown.shown (shown_end shown.value shown.end))
    (λ (outside : IsOutside old.machine.card old.array output new.machine.card new.array). inl (ap (λ (o : Output). o.end) outside.shown))
makes_end Discard old new result output makes = as_end output _ makes.card.shown (discarded_end makes.card.answer)

module _ {K : Type 0} (took : K → List ℕ → K → Type 0) (old new : Moment) (out out' : K) (a b : Count) (result : Result (Unit {0}) Halt) where
  pub does_cause : (op : RawOp) → Does took op old out result new out' → IsSinkCause a b result → HasCause a b old.array new.array result
  does_cause op does sink = shows_cause took a b old.array new.array out out' does.output result does.causes does.shows (no_image does.output.end (makes_end op old new result does.output does.makes)) sink

  pub finishes_cause : Finishes took old out result new out' → IsSinkCause a b result → HasCause a b old.array new.array result
  finishes_cause does sink =
      shows_cause took a b old.array new.array out out' does.output result does.causes does.shows (λ is. flushed_no_image does.card.end (sym (ap (λ (o : Output). o.end) does.card.shown) ∙ is)) sink

-- the operations from a place on, where they stand in a list
module _ {K : Type 0} (took : K → List ℕ → K → Type 0) (ops list : List RawOp) (is : list ≡ ops) (place : ℕ) where
  next_op : (op : RawOp) → op ≡ get_or list place op → place < length list → drop place ops ≡ op ∷ drop (place + 1) ops
  next_op op here below = subst (λ l. drop place ops ≡ get_or l place op ∷ drop (place + 1) ops) (sym is) (drop_more ops place op (rw is at below)) ∙ ap (λ o. o ∷ drop (place + 1) ops) (sym here)

  pub plays_next : (op : RawOp) → op ≡ get_or list place op → place < length list → {old between new : Moment} {out middle out' : K} {result : Result (Unit {0}) Halt}
      → Does took op old out (Ok tt) between middle → Plays took (drop (place + 1) ops) between middle result new out' → Plays took (drop place ops) old out result new out'
  plays_next op here below {old} {between} {new} {out} {middle} {out'} {result} does plays =
      subst (λ left. Plays took left old out result new out') (sym (next_op op here below)) (goes_on does plays)

  pub plays_halt : (op : RawOp) → op ≡ get_or list place op → place < length list → {old new : Moment} {out out' : K} {halt : Halt}
      → Does took op old out (Err halt) new out' → Plays took (drop place ops) old out (Err halt) new out'
  plays_halt op here below {old} {new} {out} {out'} {halt} does = subst (λ left. Plays took left old out (Err halt) new out') (sym (next_op op here below)) (halts does)

  pub plays_end : length list ≤ place → {old new : Moment} {out out' : K} {result : Result (Unit {0}) Halt} → Finishes took old out result new out' → Plays took (drop place ops) old out result new out'
  plays_end whole {old} {new} {out} {out'} {result} does =
      subst (λ left. Plays took left old out result new out') (sym (drop_all place ops (rw is at whole))) (finishes does)
