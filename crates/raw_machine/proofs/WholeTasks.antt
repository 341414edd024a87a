-- A run of the engine event by event is a run task by task.
use Rattle.std.proofs.Common.{◌≡◌, ◌≢◌, ◌⊎◌, List, [], ◌∷◌, true, false, refl, sym, ◌∙◌, ap, subst, inl, inr}
use Rattle.std.specs.Prelude.{◌++◌, ◌||◌, not}
use Rattle.std.proofs.lemmas.Bool.{true≢false}
use Rattle.bus_link.specs.Link.{is_poll}
use Rattle.cmd_words.specs.declared.command.Command.{Command}
use Rattle.cq_engine.specs.declared.did.Did.{Did}
use Rattle.cq_engine.specs.declared.did.Did.TheVariants.{Sent as SentCommand}
use Rattle.cq_regs.specs.State.{Registers}
use Rattle.raw_lines.specs.declared.raw_line.RawLine.{RawLine}
use Rattle.raw_machine.specs.Machine.{Moment}
use Rattle.raw_machine.specs.Running.{GoesOn, Happens, Step, goes_on, has_ready_slot, lines_of, steps_lines}
use Rattle.raw_machine.specs.State.{RawState}
use Rattle.raw_machine.specs.Tasks.{Works, WorksOn}
use Rattle.raw_machine.specs.Tasks.WorksOn.{goes, rests}
use Rattle.raw_machine.specs.Telling.{Tells}
use Rattle.raw_machine.proofs.Beginning.{step_between}
use Rattle.raw_machine.proofs.Naming.{step_naming}
use Rattle.raw_machine.proofs.Phases.{Onward, step_moving}
use Rattle.raw_machine.proofs.Phases.Onward.{onward, over}
use Rattle.raw_machine.proofs.Stages.{IsDone, IsMoving, IsNaming, Stage}
use Rattle.raw_machine.proofs.Stages.Stage.{done, moving, naming}

-- a moment that is told between tasks, or while one of the state's is under way
data Under (state : RawState) (m : Moment) : Type 0 where
  between_tasks : Tells m state → Under state m
  in_naming : IsNaming state m → Under state m
  in_moving : IsMoving state m → Under state m

-- an event ended a task, or was a part of one, of which nothing is printed
data Next (state : RawState) (did : Did) (new : Moment) : Type 0 where
  whole : IsDone state did new → Next state did new
  part : lines_of did ≡ [] → ((regs : Registers) → goes_on did regs ≡ true) → Under state new → Next state did new

sent_on : (did : Did) (command : Command) → did ≡ SentCommand command → is_poll command ≡ false → (regs : Registers) → goes_on did regs ≡ true
sent_on did command e p regs = ap (λ d. goes_on d regs) e ∙ ap (λ b. not b || has_ready_slot regs) p

by_stage : (state : RawState) (did : Did) (new : Moment) → Stage state did new → Next state did new
by_stage state did new (done d) = whole d
by_stage state did new (naming {command = command} e p n) = part (ap lines_of e) (sent_on did command e p) (in_naming n)
by_stage state did new (moving {command = command} e p m) = part (ap lines_of e) (sent_on did command e p) (in_moving m)

by_onward : (state : RawState) (did : Did) (new : Moment) → Onward state did new → Next state did new
by_onward state did new (onward e m) = part (ap lines_of e) (λ regs. ap (λ d. goes_on d regs) e) (in_moving m)
by_onward state did new (over d) = whole d

next : (state : RawState) (old new : Moment) (did : Did) → Under state old → Happens old did new → Next state did new
next state old new did (between_tasks t) e = by_stage state did new (step_between state old new did t e)
next state old new did (in_naming n) e = whole (step_naming state old new did n e)
next state old new did (in_moving m) e = by_onward state did new (step_moving state old new did m e)

-- a run event by event, told as one task by task
pub record RunsTold (state : RawState) (lines : List RawLine) (last : Did) (new : Moment) : Type 0 where
  pub told : List RawLine
  pub between : RawState
  pub after : RawState
  pub before : WorksOn state told between
  pub event : Works between last after
  pub lines_same : told ≡ lines
  pub tells : Tells new after

-- the last event ends a task: the engine doesn't go on after it, or a line is printed
abbrev pub IsLast : Did → Moment → Type 0
IsLast last new = (goes_on last new.machine.regs ≡ false) ⊎ (lines_of last ≢ [])

no_part : (last : Did) (new : Moment) → IsLast last new → lines_of last ≡ [] → ((regs : Registers) → goes_on last regs ≡ true) → ⊥
no_part last new (inl ends) quiet on = true≢false (sym (on new.machine.regs) ∙ ends)
no_part last new (inr prints) quiet on = prints quiet

last_one : (state : RawState) (new : Moment) (last : Did) → IsLast last new → Next state last new → RunsTold state [] last new
last_one state new last end (whole d) = record {
  told = [];
  between = state;
  after = d.after;
  before = rests;
  event = d.works;
  lines_same = refl;
  tells = d.tells;
}
last_one state new last end (part quiet on u) = absurd (no_part last new end quiet on)

-- a task more at the front
first_one : (state : RawState) (mid new : Moment) (did last : Did) (steps : List Step) (d : IsDone state did mid) → goes_on did mid.machine.regs ≡ true
    → RunsTold d.after (steps_lines steps) last new → RunsTold state (lines_of did ++ steps_lines steps) last new
first_one state mid new did last steps d on r = record {
  told = lines_of did ++ r.told;
  between = r.between;
  after = r.after;
  before = goes d.works (ap (goes_on did) d.tells.regs ∙ on) r.before;
  event = r.event;
  lines_same = ap (λ lines. lines_of did ++ lines) r.lines_same;
  tells = r.tells;
}

after_next : (state : RawState) (mid new : Moment) (did last : Did) (steps : List Step) → goes_on did mid.machine.regs ≡ true
    → ((state' : RawState) → Under state' mid → RunsTold state' (steps_lines steps) last new) → Next state did mid
    → RunsTold state (lines_of did ++ steps_lines steps) last new
after_next state mid new did last steps on others (whole d) = first_one state mid new did last steps d on (others d.after (between_tasks d.tells))
after_next state mid new did last steps on others (part quiet ons v) =
    let P : List RawLine → Type 0 = λ lines. RunsTold state (lines ++ steps_lines steps) last new in subst P (sym quiet) (others state v)

under_told : (steps : List Step) (old between new : Moment) (last : Did) (state : RawState) → Under state old → GoesOn old steps between → Happens between last new
    → IsLast last new → RunsTold state (steps_lines steps) last new
under_told [] old between new last state u g e end =
    let P : Moment → Type 0 = λ m. Happens m last new in last_one state new last end (next state old new last u (subst P g e))
under_told (step ∷ steps) old between new last state u g e end =
    after_next state step.after new step.did last steps g.1 (λ state' v. under_told steps step.after between new last state' v g.2 e end)
    (next state old step.after step.did u g.0)

pub run_told : (old between new : Moment) (steps : List Step) (last : Did) (state : RawState) → Tells old state → GoesOn old steps between → Happens between last new
    → IsLast last new → RunsTold state (steps_lines steps) last new
run_told old between new steps last state t g e end = under_told steps old between new last state (between_tasks t) g e end
