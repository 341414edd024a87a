-- Where events that no line tells lead: through the steps of a recovery, then to counted completions that are told, or into a phase.
use Rattle.std.proofs.Common.{inl, inr, ◌≡◌, ◌∙◌, ◌⊎◌, ℕ, zero, suc, Bool, true, false, Option, Some, None, cond, ◌&&◌, not, is_some, nat_lt, ◌+◌, refl, ap, sym}
use Rattle.std.proofs.lemmas.Bool.{false≢true, and_from, and_parts, or_parts}
use Rattle.storage_machine.specs.Commands.{due, execute_or_poll, first_high, is_calm, is_idle, is_none_due, is_running, next_ready, queue_first, job_on}
use Rattle.storage_machine.specs.Cuts.{due_line, is_due}
use Rattle.storage_machine.specs.Host.{has_work, is_silent, recovery_step, recovery_step_at, recovery_steps, recovery_steps_at, to_do}
use Rattle.storage_machine.specs.Jobs.{is_direct}
use Rattle.storage_machine.specs.Slots.{first}
use Rattle.storage_machine.specs.declared.slots.Question.TheVariants.{Named as IsNamed, Rung as IsRung}
use Rattle.storage_machine.specs.declared.commands.DueCommand.{DueCommand}
use Rattle.storage_machine.specs.declared.commands.DueCommand.TheVariants.{Idle, Address, Params, Direct, Execute, Poll}
use Rattle.storage_machine.specs.declared.state.Recovery.{Recovery}
use Rattle.storage_machine.specs.declared.state.Recovery.TheVariants.{Calm, Halted, Cleared, Discarded, Cleaned, Resumed}
use Rattle.storage_machine.specs.declared.state.State.{State}
use Rattle.storage_order.specs.Events.{engine_may_pass, engine_step, may_pass, passed}
use Rattle.storage_runs.proofs.Hushes.{EngineHush, HostHush, Hush, Rests, hush, hush_kept, rests_kept}
use Rattle.storage_runs.proofs.Mores.{calm_steps}
use Rattle.storage_runs.specs.Runs.{Unseen, next_letter}

-- an idle engine told of counted completions
pub record IsTicked (q s : State) : Type 0 where
  pub some : to_do q ≡ true
  pub work : has_work q ≡ false
  pub late : is_due q ≡ false
  pub idle : is_idle q ≡ true
  pub counted : nat_lt 0 q.count ≡ true
  pub state : s ≡ record q { notice = true; count = 0 }

-- a phase is under way
pub record IsBusied (q s : State) : Type 0 where
  pub some : to_do q ≡ true
  pub work : has_work q ≡ false
  pub late : is_due q ≡ false
  pub tag : ℕ
  pub execute : due q ≡ Execute tag
  pub may : may_pass q (Execute tag) ≡ true
  pub spent : ℕ
  pub state : s ≡ record q { busy = true; spent = spent }

-- steps of a recovery only
pub record IsRecovered (r s : State) : Type 0 where
  pub steps : recovery_steps s ≡ recovery_steps r
  pub due : is_due s ≡ true → s ≡ r
  pub calm : is_calm r.recovery ≡ true → s ≡ r

-- the steps of a recovery, and then at most one of the two
abbrev pub Reached : State → State → Type 0
Reached r s = IsRecovered r s ⊎ (IsTicked (recovery_steps r) s ⊎ IsBusied (recovery_steps r) s)

pub not_false : (b : Bool) → not b ≡ false → b ≡ true
not_false true e = refl
not_false false e = absurd (cc)

pub calm_work : (s : State) → has_work s ≡ false → is_calm s.recovery ≡ true
unfolding has_work
calm_work s work = not_false _ (or_parts _ _ work).0

reached_same : (r s : State) → s ≡ r → Reached r s
reached_same r s e = rw e (inl (record { steps = refl; due = λ late. refl; calm = λ calm. refl }))

steps_at : (s : State) (recovery : Recovery) → s.recovery ≡ recovery → recovery_steps (recovery_step_at s recovery) ≡ recovery_steps_at s recovery
unfolding recovery_steps
steps_at s Calm at = ap (recovery_steps_at s) at
steps_at s Halted at = refl
steps_at s Cleared at = ap (recovery_steps_at s) at
steps_at s Discarded at = refl
steps_at s Cleaned at = refl
steps_at s Resumed at = refl

step_steps : (s : State) → recovery_steps (recovery_step s) ≡ recovery_steps s
unfolding recovery_step recovery_steps
step_steps s = steps_at s s.recovery refl

silent_loud : (recovery : Recovery) → is_silent recovery ≡ true → is_calm recovery ≡ true → false ≡ true
silent_loud Calm silent calm = absurd (cc)
silent_loud Halted silent calm = absurd (cc)
silent_loud Cleared silent calm = absurd (cc)
silent_loud Discarded silent calm = absurd (cc)
silent_loud Cleaned silent calm = absurd (cc)
silent_loud Resumed silent calm = absurd (cc)

line_at : (s : State) (recovery : Recovery) → due_line (recovery_step_at s recovery) ≡ due_line s
unfolding due_line
line_at s Calm = refl
line_at s Halted = refl
line_at s Cleared = refl
line_at s Discarded = refl
line_at s Cleaned = refl
line_at s Resumed = refl

line_step : (s : State) → due_line (recovery_step s) ≡ due_line s
unfolding recovery_step
line_step s = line_at s s.recovery

-- a step of a recovery makes no cut due
late_step : (s : State) → to_do s ≡ true → is_due (recovery_step s) ≡ true → is_due s ≡ true
late_step s some late = and_from _ _ some (ap is_some (sym (line_step s)) ∙ (and_parts _ _ late).1)

due_same : (s t : State) → s ≡ t → is_due s ≡ true → is_due t ≡ true
due_same s t e late = rw e at late

from_host : (r u s : State) → Hush r u → HostHush r u → Reached u s → Reached r s
from_host r u s step host (inl x) = inl (record {
  steps = x.steps ∙ (ap recovery_steps host.state ∙ step_steps r);
  due = λ late. absurd (false≢true (sym step.due ∙ late_step r step.some (due_same u (recovery_step r) host.state (due_same s u (x.due late) late))));
  calm = λ calm. absurd (false≢true (silent_loud r.recovery host.silent calm));
})
from_host r u s step host (inr x) = inr (rw (ap recovery_steps host.state ∙ step_steps r) at x)

pub due_tick : (s : State) → due (record s { notice = true; count = 0 }) ≡ due s
unfolding due
due_tick s = refl

pub never_execute : (command : DueCommand) (tag : ℕ) → is_none_due command ≡ true → command ≡ Execute tag → false ≡ true
never_execute Idle tag none e = absurd (cc)
never_execute (Address x) tag none e = absurd (cc)
never_execute (Params x) tag none e = absurd (cc)
never_execute (Direct x) tag none e = absurd (cc)
never_execute (Execute x) tag none e = absurd (cc)
never_execute Poll tag none e = absurd (cc)

direct_or : (direct : Bool) (x tag : ℕ) → cond direct (Direct x) (Params x) ≡ Execute tag → false ≡ true
direct_or true x tag e = absurd (cc)
direct_or false x tag e = absurd (cc)

queued : (s : State) (named rung : Option ℕ) (tag : ℕ) → queue_first s named rung ≡ Execute tag → execute_or_poll s (next_ready s (first_high s)) ≡ Execute tag
queued s None None tag e = e
queued s (Some x) rung tag e = absurd (cc)
queued s None (Some x) tag e = absurd (false≢true (direct_or (is_direct (job_on s x)) x tag e))

executed : (s : State) (running busy : Bool) (named rung : Option ℕ) (tag : ℕ) → cond running (cond busy (execute_or_poll s (next_ready s (first_high s))) (queue_first s named rung)) Idle ≡ Execute tag
    → cond running (execute_or_poll s (next_ready s (first_high s))) Idle ≡ Execute tag
executed s true true named rung tag e = e
executed s true false named rung tag e = queued s named rung tag e
executed s false busy named rung tag e = absurd (cc)

-- where a phase begins, it is the due command still
pub due_busy : (s : State) (spent tag : ℕ) → due s ≡ Execute tag → due (record s { busy = true; spent = spent }) ≡ Execute tag
unfolding due
due_busy s spent tag e = executed s (is_running s.stop) s.busy (first IsNamed s.slots s.order) (first IsRung s.slots s.order) tag e

pub not_idle : (s : State) (tag : ℕ) → is_idle s ≡ true → due s ≡ Execute tag → false ≡ true
not_idle s tag idle e = never_execute (due s) tag (and_parts _ _ idle).0 e

recovery_either : (b : Bool) (s t : State) → t.recovery ≡ s.recovery → (cond b t s).recovery ≡ s.recovery
recovery_either true s t e = e
recovery_either false s t e = refl

recovery_passed : (s : State) (command : DueCommand) → (passed s command).recovery ≡ s.recovery
recovery_passed s (Execute tag) = recovery_either _ s _ refl
recovery_passed s command = recovery_either _ s _ refl

-- what an event of the engine that prints nothing leads to
tick_cases : (r u : State) (told : Bool) → to_do r ≡ true → is_due r ≡ false → has_work r ≡ false → (is_idle r && nat_lt 0 r.count) ≡ told → u ≡ cond told (record r { notice = true; count = 0 }) r
    → (u ≡ r) ⊎ (IsTicked r u ⊎ IsBusied r u)
tick_cases r u false some late work at state = inl state
tick_cases r u true some late work at state =
    let parts = and_parts _ _ at in
    inr (inl (record { some = some; work = work; late = late; idle = parts.0; counted = parts.1; state = state }))

pub not_true : (b : Bool) → not b ≡ true → b ≡ false
not_true true e = absurd (cc)
not_true false e = refl

pass_cases : (r u : State) (command : DueCommand) → to_do r ≡ true → is_due r ≡ false → has_work r ≡ false → due r ≡ command → may_pass r command ≡ true → u ≡ passed r command → (u ≡ r) ⊎ (IsTicked r u ⊎ IsBusied r u)
pass_cases r u Idle some late work at may state = tick_cases r u (is_idle r && nat_lt 0 r.count) some late work refl state
pass_cases r u (Address x) some late work at may state = absurd (cc)
pass_cases r u (Params x) some late work at may state = absurd (cc)
pass_cases r u (Direct x) some late work at may state = absurd (cc)
pass_cases r u Poll some late work at may state = absurd (cc)
pass_cases r u (Execute tag) some late work at may state = inr (inr (record {
  some = some;
  work = work;
  late = late;
  tag = tag;
  execute = at;
  may = may;
  spent = r.spent + 1;
  state = rw may at state;
}))

engine_cases : (r u : State) → Hush r u → EngineHush r u → (u ≡ r) ⊎ (IsTicked r u ⊎ IsBusied r u)
unfolding engine_step engine_may_pass
engine_cases r u step engine = pass_cases r u (due r) step.some step.due engine.work refl engine.pass engine.state

-- from a state without a recovery
abbrev pub Onward : State → State → Type 0
Onward r s = (s ≡ r) ⊎ (IsTicked r s ⊎ IsBusied r s)

onward : (r s : State) → is_calm r.recovery ≡ true → Reached r s → Onward r s
onward r s calm (inl x) = inl (x.calm calm)
onward r s calm (inr x) = inr (rw (calm_steps r calm) at x)

reached : (r s : State) → is_calm r.recovery ≡ true → Onward r s → Reached r s
reached r s calm (inl e) = reached_same r s e
reached r s calm (inr x) = inr (rw (calm_steps r calm) x)

tick_on : (r u s : State) → IsTicked r u → Onward u s → Onward r s
tick_on r u s tick (inl e) = inr (inl (rw e tick))
tick_on r u s tick (inr (inl again)) = inr (inl (record {
  some = tick.some;
  work = tick.work;
  late = tick.late;
  idle = tick.idle;
  counted = tick.counted;
  state = again.state ∙ ap {A = State} (λ x. record x { notice = true; count = 0 }) tick.state;
}))
tick_on r u s tick (inr (inr phase)) = absurd (false≢true (not_idle r phase.tag tick.idle (sym (due_tick r) ∙ (ap due (sym tick.state) ∙ phase.execute))))

busy_on : (r u s : State) → IsBusied r u → Onward u s → Onward r s
busy_on r u s phase (inl e) = inr (inr (rw e phase))
busy_on r u s phase (inr (inl tick)) = absurd (false≢true (not_idle u phase.tag tick.idle (ap due phase.state ∙ due_busy r phase.spent phase.tag phase.execute)))
busy_on r u s phase (inr (inr again)) = inr (inr (record {
  some = phase.some;
  work = phase.work;
  late = phase.late;
  tag = phase.tag;
  execute = phase.execute;
  may = phase.may;
  spent = again.spent;
  state = again.state ∙ ap {A = State} (λ x. record x { busy = true; spent = again.spent }) phase.state;
}))

engine_on : (r u s : State) → Onward r u → Onward u s → Onward r s
engine_on r u s (inl e) on = rw e at on
engine_on r u s (inr (inl tick)) on = tick_on r u s tick on
engine_on r u s (inr (inr phase)) on = busy_on r u s phase on

pub recovery_engine : (s : State) → (engine_step s).recovery ≡ s.recovery
unfolding engine_step
recovery_engine s = recovery_passed s (due s)

from_engine : (r u s : State) → Hush r u → EngineHush r u → Reached u s → Reached r s
from_engine r u s step engine on =
    let calm = calm_work r engine.work in
    let calm_u = ap (λ x. is_calm x.recovery) engine.state ∙ (ap is_calm (recovery_engine r) ∙ calm) in
    reached r s calm (engine_on r u s (engine_cases r u step engine) (onward u s calm_u on))

from_hush : (r u s : State) → Hush r u → HostHush r u ⊎ EngineHush r u → Reached u s → Reached r s
from_hush r u s step (inl host) on = from_host r u s step host on
from_hush r u s step (inr engine) on = from_engine r u s step engine on

-- where events that no line tells lead
pub unseen_reached : (k : ℕ) (r s : State) → Rests r → Unseen k r s → Reached r s
unseen_reached zero r s at un = reached_same r s un
unseen_reached (suc k) r s at un =
    let step = hush r un.0 at un.1 in
    from_hush r un.0 s step step.step (unseen_reached k un.0 s (rests_kept r un.0 at (hush_kept r un.0 step)) un.2)

-- none comes where a cut is due
pub unseen_late : (k : ℕ) (r s : State) → Rests r → Unseen k r s → is_due r ≡ true → s ≡ r
unseen_late zero r s at un late = un
unseen_late (suc k) r s at un late = absurd (false≢true (sym (hush r un.0 at un.1).due ∙ late))

-- and none where a letter is left
pub unseen_letters : (k : ℕ) (r s : State) → Rests r → Unseen k r s → (s ≡ r) ⊎ (next_letter r ≡ None)
unseen_letters zero r s at un = inl un
unseen_letters (suc k) r s at un = inr (hush r un.0 at un.1).letter
