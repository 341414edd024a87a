-- Events behind events, and the end behind them.
use Rattle.std.proofs.Common.{◌≡◌, ◌∙◌, ◌++◌, ◌∷◌, inl, ℕ, ◌+◌, true, List, [], None, Result, Ok, Err, ap, refl, sym, subst, arith}
use Rattle.std.proofs.lemmas.List.{append_assoc, append-nil}
use Rattle.std.specs.Prelude.{count_by}
use Rattle.io_edge.specs.Sink.{Joins}
use Rattle.storage_machine.specs.declared.state.State.{State}
use Rattle.storage_model.specs.declared.ends.Halt.{Halt}
use Rattle.storage_model.specs.declared.ends.Halt.TheVariants.{SinkFailed, OpenFault, PowerGone, BadImage}
use Rattle.storage_model.specs.declared.trace.Item.{Item}
use Rattle.storage_runs.specs.Laws.{joined}
use Rattle.run_laws.specs.Whole.{Part}
use Rattle.trace_print.proofs.Joined.{taken_behind}
use Rattle.trace_print.specs.Prints.{HasCauses, RoseBy, halt_faults, is_cut_line, is_flash}
use Rattle.step_laws.proofs.EndLines.{cut_behind}
use Rattle.whole_run.specs.Cuts.{power_left}
use Rattle.whole_run.proofs.Cuts.{cuts_join, cuts_step, power_used}
use Rattle.array_edge.specs.Array.{ArrayState}
use Rattle.power_step.proofs.Counting.{count_join, later_both, later_same, rose_none}
use Rattle.power_step.proofs.Taking.{wrote_behind}
use Rattle.power_step.specs.Loses.{HasEnd}
use Rattle.step_laws.specs.Steps.{GoesOn, Steps, cuts_allowed}
use Rattle.world_state.specs.Laws.{StateLaws}
use Rattle.world_state.specs.Ties.{IsReady}
use Rattle.world_steps.specs.Reading.{IsRead}
use Rattle.world_steps.specs.Steps.{Shown, StepTells}
use Rattle.world_steps.specs.World.{IsPrompt, StandsFor, WorldState, chosen_of, is_to_do, order_behind}
use Rattle.whole_run.specs.Course.{AreLater, Ends, EndsIn, Parts, Went}
use Rattle.whole_run.proofs.Parts.{course_both, joined_both, part_begun, part_next, rose_join}

-- the end's line, behind more lines
pub end_behind : (result : Result (Unit {0}) Halt) (front items : List Item) → HasEnd items result → HasEnd (front ++ items) result
end_behind (Ok done) front items end = tt
end_behind (Err SinkFailed) front items end = tt
end_behind (Err OpenFault) front items end = (front ++ end.0, ap (λ more. front ++ more) end.1 ∙ sym (append_assoc front end.0 _))
end_behind (Err PowerGone) front items end = (front ++ end.0, ap (λ more. front ++ more) end.1 ∙ sym (append_assoc front end.0 _))
end_behind (Err BadImage) front items end = (front ++ end.0, ap (λ more. front ++ more) end.1 ∙ sym (append_assoc front end.0 _))

-- counts over two stretches
pub later_on : (a b c : ArrayState) → AreLater a b → AreLater b c → AreLater a c
later_on a b c first last = record { faults = later_both a.faults b.faults c.faults first.faults last.faults; cuts = later_both a.cuts b.cuts c.cuts first.cuts last.cuts }

pub later_by : (more : ℕ) (a a' : ArrayState) (lines : List Item) (result : Result (Unit {0}) Halt) → HasCauses more a a' lines result → AreLater a a'
later_by more a a' lines result causes = record { faults = causes.later_faults; cuts = causes.later_cuts }

pub flash_join : (front lines : List Item) (more : ℕ) (a b c : ArrayState) → AreLater b c → RoseBy (count_by is_flash front) a.faults b.faults → RoseBy (count_by is_flash lines + more) b.faults c.faults
    → RoseBy (count_by is_flash (front ++ lines) + more) a.faults c.faults
flash_join front lines more a b c later first last =
    let both = rose_join (count_by is_flash front) (count_by is_flash lines + more) a.faults b.faults c.faults later.faults first last in
    let is = count_join is_flash front lines in
    subst (λ n. RoseBy n a.faults c.faults) (omega (arith, is)) both

-- no event yet
pub went_none : {K : Type 0} (took : K → List ℕ → K → Type 0) (nothing : (out : K) → took out [] out) (w : WorldState) (a : ArrayState) (out : K) → IsReady w.path a → Went took w a out w a out
went_none took nothing w a out ready = record {
  lines = [];
  wrote = nothing out;
  tells = λ s stands. (s, ([], refl, refl), stands);
  ready = ready;
  plan = refl;
  later = record { faults = later_same a.faults; cuts = later_same a.cuts };
  flash = rose_none a.faults a.faults (later_same a.faults);
  cuts = inl (omega arith);
}

parts_both : (s t u : State) (front back : List Item) → Parts s front t → Parts t back u → Parts s (front ++ back) u
parts_both s t u front back first last =
    (first.0 ++ last.0, ap (λ xs. xs ++ back) first.1 ∙ (ap (λ ys. joined first.0 ++ ys) last.1 ∙ sym (joined_both first.0 last.0)), course_both s t u first.0 last.0 first.2 last.2)

module _ {K : Type 0} (took : K → List ℕ → K → Type 0) (both : Joins took) (w : WorldState) (a : ArrayState) (old : K) (w1 : WorldState) (a1 : ArrayState) (mid : K) (went : Went took w a old w1 a1 mid) (w2 : WorldState) (a2 : ArrayState) (new : K) where
  -- and more events
  pub went_more : Went took w1 a1 mid w2 a2 new → Went took w a old w2 a2 new
  went_more more = record {
    lines = went.lines ++ more.lines;
    wrote = taken_behind took both old mid new went.lines more.lines went.wrote more.wrote;
    tells = λ s stands.
        let first = went.tells s stands in
        let last = more.tells first.0 first.2 in
        (last.0, parts_both s first.0 last.0 went.lines more.lines first.1 last.1, last.2);
    ready = more.ready;
    plan = more.plan ∙ went.plan;
    later = later_on a a1 a2 went.later more.later;
    flash =
        let all = flash_join went.lines more.lines 0 a a1 a2 more.later went.flash (subst (λ n. RoseBy n a1.faults a2.faults) (omega arith) more.flash) in
        subst (λ n. RoseBy n a.faults a2.faults) (omega arith) all;
    cuts = cuts_join went.lines more.lines (power_left w.order) (power_left w1.order) (power_left w2.order) a.cuts a1.cuts a2.cuts more.later.cuts went.cuts more.cuts;
  }

  -- and the end
  pub went_ends : (result : Result (Unit {0}) Halt) → Ends took w1 a1 mid result w2 a2 new → Ends took w a old result w2 a2 new
  went_ends result ends = record {
    lines = went.lines ++ ends.lines;
    wrote = wrote_behind took both old mid new went.lines ends.lines result went.wrote ends.wrote;
    ends = end_behind result went.lines ends.lines ends.ends;
    tells = λ s stands.
        let first = went.tells s stands in
        let last = ends.tells first.0 first.2 in
        let t = last.2 in (
          went.lines ++ last.0,
          last.1,
          t,
          ap (λ lines. went.lines ++ lines) last.3 ∙ sym (append_assoc went.lines last.0 last.1),
          parts_both s first.0 t went.lines last.0 first.1 last.4,
          last.5,
        );
    settled = ends.settled;
    is_open = ends.is_open;
    later = later_on a a1 a2 went.later ends.later;
    flash = flash_join went.lines ends.lines (halt_faults result) a a1 a2 ends.later went.flash ends.flash;
    cuts = cuts_join went.lines ends.lines (power_left w.order) (power_left w1.order) 0 a.cuts a1.cuts a2.cuts ends.later.cuts went.cuts ends.cuts;
    dark = λ needs. cut_behind went.lines ends.lines (ends.dark needs);
    image = ends.image;
  }

pub part_alone : (s t : State) (lines : List Item) → Part s lines t → Parts s lines t
part_alone s t lines part = (lines ∷ [], sym (append-nil lines), (t, part, refl))

-- the next event alone
module _ {K : Type 0} (took : K → List ℕ → K → Type 0) (read : IsRead) (laws : StateLaws) (w : WorldState) (a : ArrayState) (old : K) (prompt : IsPrompt w) (some : is_to_do w.path ≡ true) (w2 : WorldState) (a2 : ArrayState) (new : K) where
  part_is : (s : State) → StandsFor w a s → (lines : List Item) (t : State) → Shown w s (chosen_of w) lines t → Parts s lines t
  part_is s stands lines t shown = part_alone s t lines (inl (part_next read laws w a s stands some lines t prompt shown))

  pub step_went : Steps took w (chosen_of w) a old (Ok tt) w2 a2 new → GoesOn w (chosen_of w) w2 a2 → Went took w a old w2 a2 new
  step_went step on = record {
    lines = step.lines;
    wrote = step.wrote;
    tells = λ s stands. let told = step.tells s stands in (told.0, part_is s stands step.lines told.0 told.1, told.2);
    ready = on.ready;
    plan = on.plan;
    later = later_by (cuts_allowed (chosen_of w)) a a2 step.lines (Ok tt) step.causes;
    flash = subst (λ n. RoseBy n a.faults a2.faults) (omega arith) step.causes.flash;
    cuts =
        let used = power_used w in
        let order : power_left w2.order ≡ power_left (order_behind w (chosen_of w)) = ap power_left on.order in
        cuts_step (count_by is_cut_line step.lines) (cuts_allowed (chosen_of w)) (power_left w2.order) (power_left w.order) a.cuts a2.cuts (omega (arith, used, order)) step.causes.cuts;
  }

  -- the end of a step that stopped the run
  broken_in : (s : State) (lines : List Item) → StandsFor w a s → StepTells w s (chosen_of w) lines (Err SinkFailed) w2 a2 → EndsIn s lines (Err SinkFailed) w2 a2
  broken_in s lines stands begun = ([], lines, s, refl, ([], refl, refl), inl (begun.0, part_begun read laws w a s stands some lines begun.0 prompt begun.1, begun.2))

  stops_in : (halt : Halt) → (s : State) (lines : List Item) → StandsFor w a s → StepTells w s (chosen_of w) lines (Err halt) w2 a2 → EndsIn s lines (Err halt) w2 a2
  stops_in SinkFailed s lines stands told = broken_in s lines stands told
  stops_in OpenFault s lines stands told = (lines, [], told.0, sym (append-nil lines), part_is s stands lines told.0 told.1, (None, told.0, refl, (told.2, refl), told.3))
  stops_in PowerGone s lines stands told = (lines, [], told.0, sym (append-nil lines), part_is s stands lines told.0 told.1, (None, told.0, refl, (told.2, refl), told.3))
  stops_in BadImage s lines stands told = (lines, [], told.0, sym (append-nil lines), part_is s stands lines told.0 told.1, (None, told.0, refl, (told.2, refl), told.3))

  pub step_ends : (halt : Halt) → Steps took w (chosen_of w) a old (Err halt) w2 a2 new → Ends took w a old (Err halt) w2 a2 new
  step_ends halt step = record {
    lines = step.lines;
    wrote = step.wrote;
    ends = step.ends;
    tells = λ s stands. stops_in halt s step.lines stands (step.tells s stands);
    settled = λ is. absurd (cc is);
    is_open = λ is. absurd (cc is);
    later = later_by (cuts_allowed (chosen_of w)) a a2 step.lines (Err halt) step.causes;
    flash = step.causes.flash;
    cuts =
        let used = power_used w in
        cuts_step (count_by is_cut_line step.lines) (cuts_allowed (chosen_of w)) 0 (power_left w.order) a.cuts a2.cuts (omega (arith, used)) step.causes.cuts;
    dark = step.dark;
    image = step.image;
  }
