-- A run of the engine, event by event.
use Rattle.std.proofs.Common.{◌≡◌, ◌≢◌, ◌≤◌, ◌+◌, ◌⊎◌, ℕ, List, [], ◌∷◌, ◌++◌, Option, None, Some, Result, Ok, Err, Bool, true, false, refl, sym, ◌∙◌, ap, subst, arith, inl, inr}
use Rattle.std.specs.Prelude.{◌||◌, cond, count_by}
use Rattle.std.specs.List.{list_any}
use Rattle.std.proofs.lemmas.Bool.{false≢true}
use Rattle.std.proofs.lemmas.List.{append-nil}
use Rattle.std.proofs.lemmas.List.Concat.{flat_map-append}
use Rattle.std.proofs.lemmas.List.Folds.{list_any-append}
use Rattle.std.proofs.lemmas.List.Sums.{sum_by-append}
use Rattle.array_edge.specs.Array.{ArrayState}
use Rattle.bus_link.specs.Link.{tells_flash}
use Rattle.bus_link.specs.declared.link.Cause.{Cause}
use Rattle.bus_link.specs.declared.link.Cause.TheVariants.{Response, Bus, Dark as NoPower}
use Rattle.card_link.specs.Behind.{link_state}
use Rattle.cq_engine.specs.Ends.{EventEnds}
use Rattle.cq_engine.specs.Outcome.{stop_of}
use Rattle.cq_engine.specs.declared.did.Did.{Did}
use Rattle.cq_engine.specs.declared.did.Did.TheVariants.{Idle, Sent, Direct, Moved, Finished, Dropped, Stopped}
use Rattle.cq_regs.specs.State.{Registers}
use Rattle.io_edge.specs.Sink.{Joins}
use Rattle.raw_lines.specs.declared.raw_line.RawLine.{RawLine}
use Rattle.raw_text.specs.declared.op.RawOp.TheVariants.{Go}
use Rattle.storage_model.specs.Count.{Count, Later, Rose}
use Rattle.storage_model.specs.declared.ends.Halt.{Halt}
use Rattle.storage_model.specs.declared.ends.Halt.TheVariants.{SinkFailed, OpenFault, PowerGone, BadImage}
use Rattle.storage_model.specs.declared.trace.End.{End}
use Rattle.storage_model.specs.declared.trace.End.TheVariants.{Fault, Dead}
use Rattle.raw_machine.specs.Machine.{Moment, behind_of}
use Rattle.raw_face.specs.Operation.{Does}
use Rattle.raw_face.specs.Output.{HasCauses, Output, Shows, halt_of, lines_text, output_text, nothing, shown, tells_fault}
use Rattle.raw_face.specs.Running.{Runs, output_after}
use Rattle.raw_machine.specs.Running.{GoesOn, Happens, Step, end_after, goes_on, lines_of, steps_lines}
use Rattle.raw_face.proofs.ByTask.{go_by_task}
use Rattle.raw_face.proofs.Printing.{after, shown_after}

pub later_same : (count : Count) → Later count count
later_same count = record { value = omega arith; stands = λ h. h }

pub later_both : (a b c : Count) → Later a b → Later b c → Later a c
later_both a b c h k = record { value = omega (arith, h.value, k.value); stands = λ s. k.stands (h.stands s) }

pub rose_then : (a b c : Count) → Rose a b → Later b c → Rose a c
rose_then a b c (inl less) k = inl (omega (arith, k.value))
rose_then a b c (inr stands) k = inr (k.stands stands)

pub then_rose : (a b c : Count) → Later a b → Rose b c → Rose a c
then_rose a b c h (inl less) = inl (omega (arith, h.value))
then_rose a b c h (inr stands) = inr stands

either : (a b : Bool) → (a || b) ≡ true → (a ≡ true) ⊎ (b ≡ true)
either true b e = inl refl
either false b e = inr e

count_both : (lines others : List RawLine) → count_by tells_fault (lines ++ others) ≡ count_by tells_fault lines + count_by tells_fault others
count_both lines others = sum_by-append (λ (line : RawLine). cond (tells_fault line) 1 0) lines others

-- what rose while lines were printed, and then while others were
pub causes_both : (a b c : ArrayState) (first : List RawLine) (output : Output) → count_by tells_fault first ≡ 0 → HasCauses a b (shown first)
    → HasCauses b c output → HasCauses a c (after first output)
causes_both a b c first output none h k = record {
  faults = later_both a.faults b.faults c.faults h.faults k.faults;
  cuts = later_both a.cuts b.cuts c.cuts h.cuts k.cuts;
  once = let all = count_both first output.lines in omega (arith, all, none, k.once);
  flash = λ any.
      elim (either (list_any tells_fault first) (list_any tells_fault output.lines) (sym (list_any-append tells_fault first output.lines) ∙ any)) [
        | inl one ↦ rose_then a.faults b.faults c.faults (h.flash one) k.faults
        | inr one ↦ then_rose a.faults b.faults c.faults h.faults (k.flash one)
      ];
  fault = λ e. then_rose a.faults b.faults c.faults h.faults (k.fault e);
  dead = λ e. then_rose a.cuts b.cuts c.cuts h.cuts (k.dead e);
}

pub no_causes : (array : ArrayState) → HasCauses array array (shown [])
no_causes array = record {
  faults = later_same array.faults;
  cuts = later_same array.cuts;
  once = omega arith;
  flash = λ any. absurd (false≢true any);
  fault = λ e. absurd (cc e);
  dead = λ e. absurd (cc e);
}

single : (b : Bool) → (b || false) ≡ true → b ≡ true
single true e = refl
single false e = e

-- what rose in an event
stop_flash : (old new : Moment) (cause : Cause) → EventEnds (link_state (behind_of old)) (link_state (behind_of new)) (Some cause)
    → list_any tells_fault (lines_of (Stopped cause)) ≡ true → Rose old.array.faults new.array.faults
stop_flash old new (Response word slot) ends any = ends.cause.0 (single (tells_flash word) any)
stop_flash old new (Bus kind slot) ends any = absurd (false≢true any)
stop_flash old new NoPower ends any = absurd (false≢true any)

stop_dead : (old new : Moment) (cause : Cause) → EventEnds (link_state (behind_of old)) (link_state (behind_of new)) (Some cause)
    → old.array.powered ≡ true → end_after (Stopped cause) ≡ Some Dead → Rose old.array.cuts new.array.cuts
stop_dead old new (Response word slot) ends on e = absurd (cc e)
stop_dead old new (Bus kind slot) ends on e = absurd (cc e)
stop_dead old new NoPower ends on e =
    elim ends.cause.0 [
      | inl rose ↦ rose
      | inr off ↦ absurd (false≢true (sym off ∙ on))
    ]

no_fault : (did : Did) → end_after did ≡ Some Fault → ⊥
no_fault Idle e = cc e
no_fault (Sent command) e = cc e
no_fault (Direct slot) e = cc e
no_fault (Moved slot) e = cc e
no_fault (Finished slot) e = cc e
no_fault (Dropped slot why) e = cc e
no_fault (Stopped (Response word slot)) e = cc e
no_fault (Stopped (Bus kind slot)) e = cc e
no_fault (Stopped NoPower) e = cc e

event_flash : (old new : Moment) (did : Did) → EventEnds (link_state (behind_of old)) (link_state (behind_of new)) (stop_of did)
    → list_any tells_fault (lines_of did) ≡ true → Rose old.array.faults new.array.faults
event_flash old new Idle ends any = absurd (false≢true any)
event_flash old new (Sent command) ends any = absurd (false≢true any)
event_flash old new (Direct slot) ends any = absurd (false≢true any)
event_flash old new (Moved slot) ends any = absurd (false≢true any)
event_flash old new (Finished slot) ends any = absurd (false≢true any)
event_flash old new (Dropped slot why) ends any = absurd (false≢true any)
event_flash old new (Stopped cause) ends any = stop_flash old new cause ends any

event_dead : (old new : Moment) (did : Did) → EventEnds (link_state (behind_of old)) (link_state (behind_of new)) (stop_of did)
    → old.array.powered ≡ true → end_after did ≡ Some Dead → Rose old.array.cuts new.array.cuts
event_dead old new Idle ends on e = absurd (cc e)
event_dead old new (Sent command) ends on e = absurd (cc e)
event_dead old new (Direct slot) ends on e = absurd (cc e)
event_dead old new (Moved slot) ends on e = absurd (cc e)
event_dead old new (Finished slot) ends on e = absurd (cc e)
event_dead old new (Dropped slot why) ends on e = absurd (cc e)
event_dead old new (Stopped cause) ends on e = stop_dead old new cause ends on e

single_few : (b : Bool) → count_by (λ (x : Bool). x) (b ∷ []) ≤ 1
single_few true = omega arith
single_few false = omega arith

lines_few : (did : Did) → count_by tells_fault (lines_of did) ≤ 1
lines_few Idle = omega arith
lines_few (Sent command) = omega arith
lines_few (Direct slot) = omega arith
lines_few (Moved slot) = omega arith
lines_few (Finished slot) = omega arith
lines_few (Dropped slot why) = omega arith
lines_few (Stopped (Response word slot)) = single_few (tells_flash word)
lines_few (Stopped (Bus kind slot)) = omega arith
lines_few (Stopped NoPower) = omega arith

-- an event after which the engine goes on tells of no fault
going_quiet : (did : Did) (regs : Registers) → goes_on did regs ≡ true → count_by tells_fault (lines_of did) ≡ 0
going_quiet Idle regs goes = absurd (false≢true goes)
going_quiet (Sent command) regs goes = refl
going_quiet (Direct slot) regs goes = refl
going_quiet (Moved slot) regs goes = refl
going_quiet (Finished slot) regs goes = refl
going_quiet (Dropped slot why) regs goes = refl
going_quiet (Stopped cause) regs goes = absurd (false≢true goes)

pub event_causes : (old new : Moment) (did : Did) → EventEnds (link_state (behind_of old)) (link_state (behind_of new)) (stop_of did)
    → old.array.powered ≡ true → HasCauses old.array new.array (output_after did)
event_causes old new did ends on = record {
  faults = ends.flash;
  cuts = ends.cuts;
  once = lines_few did;
  flash = event_flash old new did ends;
  fault = λ e. absurd (no_fault did e);
  dead = event_dead old new did ends on;
}

-- the script goes on with its next operation only where the power is on
pub ended_ok : (did : Did) (done : Unit {0}) → Ok done ≡ halt_of (end_after did) → end_after did ≡ None
ended_ok Idle done e = refl
ended_ok (Sent command) done e = refl
ended_ok (Direct slot) done e = refl
ended_ok (Moved slot) done e = refl
ended_ok (Finished slot) done e = refl
ended_ok (Dropped slot why) done e = refl
ended_ok (Stopped (Response word slot)) done e = refl
ended_ok (Stopped (Bus kind slot)) done e = refl
ended_ok (Stopped NoPower) done e = absurd (cc e)

-- where the script ends the engine doesn't go on
pub halted_over : (did : Did) (regs : Registers) (halt : Halt) → Err halt ≡ halt_of (end_after did) → goes_on did regs ≡ false
halted_over Idle regs halt e = refl
halted_over (Sent command) regs halt e = absurd (cc e)
halted_over (Direct slot) regs halt e = absurd (cc e)
halted_over (Moved slot) regs halt e = absurd (cc e)
halted_over (Finished slot) regs halt e = absurd (cc e)
halted_over (Dropped slot why) regs halt e = absurd (cc e)
halted_over (Stopped cause) regs halt e = refl

sum_of : (m n : ℕ) → m ≡ 0 → n ≡ 0 → m + n ≡ 0
sum_of m n e f = omega arith

-- one event more
goes_more : (old between new : Moment) (steps : List Step) (did : Did) → GoesOn old steps between → Happens between did new
    → goes_on did new.machine.regs ≡ true → GoesOn old (steps ++ record { did = did; after = new } ∷ []) new
goes_more old between new [] did before event goes =
    let P : Moment → Type 0 = λ m. Happens m did new in (subst P before event, goes, refl)
goes_more old between new (step ∷ steps) did before event goes =
    (before.0, before.1, goes_more step.after between new steps did before.2 event goes)

lines_more : (steps : List Step) (did : Did) (new : Moment)
    → steps_lines (steps ++ record { did = did; after = new } ∷ []) ≡ steps_lines steps ++ lines_of did
lines_more steps did new =
    flat_map-append (λ step. lines_of step.did) steps (record { did = did; after = new } ∷ [])
    ∙ ap (λ lines. steps_lines steps ++ lines) (append-nil (lines_of did))

abbrev pub failed : Halt → Result (Unit {0}) Halt
failed halt = Err halt

-- the sink fails only where something is printed
pub printed_after : (did : Did) (output : Output) (result : Result (Unit {0}) Halt) → output ≡ output_after did → (result ≡ Err SinkFailed → output ≢ nothing)
    → result ≡ Err SinkFailed → output_after did ≢ nothing
printed_after did output result is printed fails = λ none. printed fails (is ∙ none)

abbrev with_lines : List RawLine → Option End → Output
with_lines lines end = record { lines = lines; end = end }

module _ {K : Type 0} (took : K → List ℕ → K → Type 0) where
  -- events after which the engine went on, and their lines were taken
  pub record HasRun (old : Moment) (sink : K) (now : Moment) (sink' : K) : Type 0 where
    pub steps : List Step
    pub goes : GoesOn old steps now
    pub taken : took sink (lines_text (steps_lines steps)) sink'
    pub quiet : count_by tells_fault (steps_lines steps) ≡ 0
    pub causes : HasCauses old.array now.array (shown (steps_lines steps))

  pub run_begun : (old : Moment) (sink : K) → took sink [] sink → HasRun old sink old sink
  run_begun old sink nothing = record { steps = []; goes = refl; taken = nothing; quiet = refl; causes = no_causes old.array }

  -- an event, and how its lines were taken
  pub record Follows (between : Moment) (sink : K) (did : Did) (result : Result (Unit {0}) Halt) (new : Moment) (sink' : K) : Type 0 where
    pub event : Happens between did new
    pub shows : Shows took sink (output_after did) result sink'
    pub causes : HasCauses between.array new.array (output_after did)

  pub follows : (between new : Moment) (sink sink' : K) (did : Did) (result : Result (Unit {0}) Halt) (output : Output) → Happens between did new
      → output ≡ output_after did → Shows took sink output result sink'
      → EventEnds (link_state (behind_of between)) (link_state (behind_of new)) (stop_of did) → between.array.powered ≡ true
      → Follows between sink did result new sink'
  follows between new sink sink' did result output event e shows ends on =
      let P : Output → Type 0 = λ o. Shows took sink o result sink' in
      record { event = event; shows = subst P e shows; causes = event_causes between new did ends on }

  same_end : (output : Output) → output.end ≡ None → output ≡ shown output.lines
  same_end output e = ap (λ end. with_lines output.lines end) e

  pub run_more : Joins took → (old between new : Moment) (sink mid sink' : K) (did : Did) (done : Unit {0}) → HasRun old sink between mid
      → Follows between mid did (Ok done) new sink' → goes_on did new.machine.regs ≡ true → HasRun old sink new sink'
  run_more both old between new sink mid sink' did done run f goes =
      let lines = steps_lines run.steps in
      let e : output_after did ≡ shown (lines_of did) = same_end (output_after did) (ended_ok did done f.shows.1) in
      let P : List RawLine → Type 0 = λ all. took sink (lines_text all) sink' in
      let Q : List RawLine → Type 0 = λ all. HasCauses old.array new.array (shown all) in
      let R : Output → Type 0 = λ output. took sink (output_text (after lines output)) sink' in
      let S : Output → Type 0 = λ output. HasCauses old.array new.array (after lines output) in
      record {
        steps = run.steps ++ record { did = did; after = new } ∷ [];
        goes = goes_more old between new run.steps did run.goes f.event goes;
        taken = subst P (sym (lines_more run.steps did new))
            (subst R e (shown_after took both sink mid sink' lines (output_after did) (Ok done) run.taken f.shows).0);
        quiet = ap (count_by tells_fault) (lines_more run.steps did new) ∙ count_both lines (lines_of did)
            ∙ sum_of (count_by tells_fault lines) (count_by tells_fault (lines_of did)) run.quiet (going_quiet did new.machine.regs goes);
        causes = subst Q (sym (lines_more run.steps did new))
            (subst S e (causes_both old.array between.array new.array lines (output_after did) run.quiet run.causes f.causes));
      }

  -- the last event
  pub run_over : Joins took → (old between new : Moment) (sink mid sink' : K) (did : Did) (result : Result (Unit {0}) Halt) → HasRun old sink between mid
      → Follows between mid did result new sink' → (result ≢ Err SinkFailed → goes_on did new.machine.regs ≡ false)
      → (result ≡ Err SinkFailed → output_after did ≢ nothing) → Does took Go old sink result new sink'
  run_over both old between new sink mid sink' did result run f over printed = record {
    output = after (steps_lines run.steps) (output_after did);
    makes = runs;
    by_task = go_by_task old new result (after (steps_lines run.steps) (output_after did)) runs;
    shows = shown_after took both sink mid sink' (steps_lines run.steps) (output_after did) result run.taken f.shows;
    causes = causes_both old.array between.array new.array (steps_lines run.steps) (output_after did) run.quiet run.causes f.causes;
  } where
    runs : Runs old result (after (steps_lines run.steps) (output_after did)) new
    runs = record { steps = run.steps; between = between; last = did; before = run.goes; event = f.event; over = over; printed = printed; shown = refl }

  -- where the script ends with the last event
  pub over_by : (sink sink' : K) (did : Did) (regs : Registers) (halt : Halt) → Shows took sink (output_after did) (Err halt) sink'
      → failed halt ≢ failed SinkFailed → goes_on did regs ≡ false
  over_by sink sink' did regs SinkFailed shows apart = absurd (apart refl)
  over_by sink sink' did regs OpenFault shows apart = halted_over did regs OpenFault shows.1
  over_by sink sink' did regs PowerGone shows apart = halted_over did regs PowerGone shows.1
  over_by sink sink' did regs BadImage shows apart = halted_over did regs BadImage shows.1
