-- Events that no line tells: no letter is left and no cut is due; a step of a recovery is taken, or the engine's event prints nothing.
use Rattle.std.proofs.Common.{◌+◌, inl, inr, ◌≡◌, ◌∙◌, ◌⊎◌, ℕ, zero, suc, Bool, true, false, Option, Some, None, cond, ◌&&◌, not, List, [], ◌∷◌, refl, ap, sym}
use Rattle.std.proofs.lemmas.Bool.{false≢true}
use Rattle.storage_machine.specs.Cuts.{is_due}
use Rattle.storage_machine.specs.Host.{has_work, is_silent, recovery_step, recovery_step_at, to_do}
use Rattle.storage_machine.specs.Commands.{due, hit}
use Rattle.storage_machine.specs.declared.commands.DueCommand.{DueCommand}
use Rattle.storage_machine.specs.declared.commands.DueCommand.TheVariants.{Idle, Address, Params, Direct, Execute, Poll}
use Rattle.storage_machine.specs.declared.state.Event.{Event}
use Rattle.storage_machine.specs.declared.state.Event.TheVariants.{Untold, Told, Due}
use Rattle.storage_machine.specs.declared.state.Owed.TheVariants.{Nothing}
use Rattle.storage_machine.specs.declared.state.Recovery.{Recovery}
use Rattle.storage_machine.specs.declared.state.Recovery.TheVariants.{Calm, Halted, Cleared, Discarded, Cleaned, Resumed}
use Rattle.storage_machine.specs.declared.state.State.{State}
use Rattle.storage_model.specs.declared.faults.Letter.{Letter}
use Rattle.storage_model.specs.declared.faults.Letter.TheVariants.{Host, Engine, Card, Cut}
use Rattle.storage_model.specs.declared.trace.Item.{Item}
use Rattle.storage_model.specs.declared.trace.Item.TheVariants.{Turn}
use Rattle.storage_order.specs.Events.{Makes, end_rule, ended, ended_by, engine_may_pass, engine_step, passed}
use Rattle.storage_runs.proofs.Mores.{ended_untold}
use Rattle.storage_runs.specs.Laws.{rested}
use Rattle.storage_runs.specs.Runs.{Comes, Unseen, begun_next, chosen, chosen_by, is_shown, next_letter}
use Rattle.trace_effects.specs.Effects.{begun, begun_by, letters_used}
use Rattle.trace_rules.specs.Lines.{is_letter}

-- nothing is owed, and no event under way
pub record Rests (s : State) : Type 0 where
  pub owed : s.owed ≡ Nothing
  pub event : s.event ≡ Untold

-- what such an event doesn't touch
pub record IsKept (s u : State) : Type 0 where
  pub plan : u.plan ≡ s.plan
  pub faults : u.faults ≡ s.faults
  pub letters : u.letters ≡ s.letters
  pub cuts : u.cuts ≡ s.cuts
  pub n : u.n ≡ s.n
  pub owed : u.owed ≡ s.owed
  pub event : u.event ≡ s.event

pub kept_same : (s : State) → IsKept s s
kept_same s = record { plan = refl; faults = refl; letters = refl; cuts = refl; n = refl; owed = refl; event = refl }

pub kept_then : (s u t : State) → IsKept s u → IsKept u t → IsKept s t
kept_then s u t a b = record {
  plan = b.plan ∙ a.plan;
  faults = b.faults ∙ a.faults;
  letters = b.letters ∙ a.letters;
  cuts = b.cuts ∙ a.cuts;
  n = b.n ∙ a.n;
  owed = b.owed ∙ a.owed;
  event = b.event ∙ a.event;
}

kept_is : (s u t : State) → u ≡ t → IsKept s t → IsKept s u
kept_is s u t e kept = rw e kept

kept_either : (b : Bool) (s t u : State) → IsKept s t → IsKept s u → IsKept s (cond b t u)
kept_either true s t u left right = left
kept_either false s t u left right = right

recovery_kept_at : (s : State) (recovery : Recovery) → IsKept s (recovery_step_at s recovery)
recovery_kept_at s Calm = kept_same s
recovery_kept_at s Halted = record { plan = refl; faults = refl; letters = refl; cuts = refl; n = refl; owed = refl; event = refl }
recovery_kept_at s Cleared = kept_same s
recovery_kept_at s Discarded = record { plan = refl; faults = refl; letters = refl; cuts = refl; n = refl; owed = refl; event = refl }
recovery_kept_at s Cleaned = record { plan = refl; faults = refl; letters = refl; cuts = refl; n = refl; owed = refl; event = refl }
recovery_kept_at s Resumed = record { plan = refl; faults = refl; letters = refl; cuts = refl; n = refl; owed = refl; event = refl }

pub recovery_kept : (s : State) → IsKept s (recovery_step s)
unfolding recovery_step
recovery_kept s = recovery_kept_at s s.recovery

tick_kept : (b : Bool) (s : State) → IsKept s (cond b (record s { notice = true; count = 0 }) s)
tick_kept true s = record { plan = refl; faults = refl; letters = refl; cuts = refl; n = refl; owed = refl; event = refl }
tick_kept false s = kept_same s

busy_kept : (b : Bool) (s : State) → IsKept s (cond b (record s { busy = true; spent = s.spent + 1 }) s)
busy_kept true s = record { plan = refl; faults = refl; letters = refl; cuts = refl; n = refl; owed = refl; event = refl }
busy_kept false s = kept_same s

passed_kept : (s : State) (command : DueCommand) → IsKept s (passed s command)
passed_kept s (Execute tag) = busy_kept _ s
passed_kept s Idle = tick_kept _ s
passed_kept s (Address tag) = tick_kept _ s
passed_kept s (Params tag) = tick_kept _ s
passed_kept s (Direct tag) = tick_kept _ s
passed_kept s Poll = tick_kept _ s

pub engine_kept : (s : State) → IsKept s (engine_step s)
unfolding engine_step
engine_kept s = passed_kept s (due s)

rested_event : (m : State) (event : Event) → (ended_by m event).event ≡ Untold
rested_event m Untold = refl
rested_event m Due = refl
rested_event m (Told Host) = refl
rested_event m (Told Engine) = (engine_kept (record m { event = Untold })).event
rested_event m (Told Card) = refl
rested_event m (Told Cut) = refl

pub rests : (m : State) → Rests (rested m)
unfolding ended
rests m = record { owed = refl; event = rested_event m m.event }

-- the host's step of a recovery
pub record HostHush (s u : State) : Type 0 where
  pub work : has_work s ≡ true
  pub silent : is_silent s.recovery ≡ true
  pub state : u ≡ recovery_step s

-- the engine's event
pub record EngineHush (s u : State) : Type 0 where
  pub work : has_work s ≡ false
  pub pass : engine_may_pass s ≡ true
  pub state : u ≡ engine_step s

pub record Hush (s u : State) : Type 0 where
  pub some : to_do s ≡ true
  pub due : is_due s ≡ false
  pub letter : next_letter s ≡ None
  pub step : HostHush s u ⊎ EngineHush s u

no_lines : (b : Bool) (actor : Letter) (items : List Item) → [] ≡ cond b (Turn actor ∷ items) items → (b ≡ false) × (items ≡ [])
no_lines true actor items e = absurd (cc)
no_lines false actor items e = (refl, sym e)

pub begun_unshown : (s : State) (actor : Letter) → s.owed ≡ Nothing → is_shown s actor ≡ false → begun_next s actor ≡ begun_by s actor
unfolding begun
begun_unshown s actor owed unshown =
    ap (λ b. begun_by (record (cond b (record s { letters = letters_used s }) s) { owed = Nothing }) actor) unshown
    ∙ ap (λ owed. begun_by (record s { owed = owed }) actor) (sym owed)

makes_none : (b c u : State) (items : List Item) → Makes b items u → items ≡ [] → b ≡ c → (end_rule c ≡ None) × (u ≡ ended c)
makes_none b c u items makes none at = rw (none, at) at makes

due_loud : (s : State) → is_due s ≡ true → end_rule (begun_by s Cut) ≡ None → false ≡ true
unfolding end_rule
due_loud s due end = absurd (cc (rw due at end))

-- a letter's event shows it
pub letter_shown : (s : State) (letter : Letter) → next_letter s ≡ Some letter → is_due s ≡ false → is_shown s letter ≡ true
letter_shown s Host at late = ap (λ next. is_letter Host next && true) at
letter_shown s Engine at late = ap (λ next. is_letter Engine next && true) at
letter_shown s Card at late = ap (λ next. is_letter Card next && true) at
letter_shown s Cut at late = ap (λ next. is_letter Cut next && not (is_due s)) at ∙ ap not late

pub pass_event : (s : State) (event : Event) → engine_may_pass (record s { event = event }) ≡ engine_may_pass s
unfolding engine_may_pass due hit
pass_event s event = refl

pub pass_where : (b : Bool) → cond {A = Option ℕ} b None (Some 14) ≡ None → b ≡ true
pass_where true e = refl
pass_where false e = absurd (cc)

passes : (s : State) → end_rule (begun_by s Engine) ≡ None → engine_may_pass s ≡ true
unfolding end_rule
passes s end = sym (pass_event s (Told Engine)) ∙ pass_where (engine_may_pass (record s { event = Told Engine })) end

engine_ended : (s : State) → s.event ≡ Untold → ended (begun_by s Engine) ≡ engine_step s
unfolding ended
engine_ended s e = ap (λ event. engine_step (record s { event = event })) (sym e)

host_ended : (s : State) → s.event ≡ Untold → is_silent s.recovery ≡ true → ended (begun_by s Host) ≡ recovery_step s
host_ended s e silent =
    let step = recovery_step s in
    ap (λ b. ended (cond b (record (recovery_step s) { event = Untold }) (record s { event = cond (has_work s) (Told Host) Untold }))) silent
    ∙ (ended_untold (record (recovery_step s) { event = Untold }) refl
    ∙ ap (λ event. record (recovery_step s) { event = event }) (sym ((recovery_kept s).event ∙ e)))

host_loud : (s : State) → is_silent s.recovery ≡ false → has_work s ≡ true → end_rule (begun_by s Host) ≡ None → false ≡ true
unfolding end_rule
host_loud s silent work end = absurd (cc (rw (silent, work) at end))

host_hush : (s u : State) (silent : Bool) → is_silent s.recovery ≡ silent → has_work s ≡ true → s.event ≡ Untold → end_rule (begun_by s Host) ≡ None → u ≡ ended (begun_by s Host) → HostHush s u
host_hush s u true silent work e end state = record { work = work; silent = silent; state = state ∙ host_ended s e silent }
host_hush s u false silent work e end state = absurd (false≢true (host_loud s silent work end))

untold_hush : (s u : State) (work : Bool) (actor : Letter) → has_work s ≡ work → actor ≡ cond work Host Engine → s.event ≡ Untold → end_rule (begun_by s actor) ≡ None → u ≡ ended (begun_by s actor)
    → HostHush s u ⊎ EngineHush s u
untold_hush s u true actor work at e end state = inl (host_hush s u (is_silent s.recovery) refl work e (rw at at end) (rw at at state))
untold_hush s u false actor work at e end state = inr (record { work = work; pass = passes s (rw at at end); state = (rw at at state) ∙ engine_ended s e })

hush_by : (s u : State) (due : Bool) (letter : Option Letter) (actor : Letter) → to_do s ≡ true → s.event ≡ Untold → is_due s ≡ due → next_letter s ≡ letter → actor ≡ cond due Cut (chosen_by s letter)
    → is_shown s actor ≡ false → end_rule (begun_by s actor) ≡ None → u ≡ ended (begun_by s actor) → Hush s u
hush_by s u true letter actor some e due at is unshown end state = absurd (false≢true (due_loud s due (rw is at end)))
hush_by s u false (Some letter) actor some e due at is unshown end state = absurd (cc (sym (letter_shown s letter at due) ∙ rw is at unshown))
hush_by s u false None actor some e due at is unshown end state = record {
  some = some;
  due = due;
  letter = at;
  step = untold_hush s u (has_work s) actor refl is e end state;
}

pub hush : (s u : State) → Rests s → Comes s [] u → Hush s u
hush s u at comes =
    let actor = chosen s in
    let none = no_lines (is_shown s actor) actor comes.items comes.shows.printed in
    let made = makes_none (begun_next s actor) (begun_by s actor) u comes.items comes.shows.happens.makes none.1 (begun_unshown s actor at.owed none.0) in
    hush_by s u (is_due s) (next_letter s) actor comes.some at.event refl refl refl none.0 made.0 made.1

hush_kept_by : (s u : State) → HostHush s u ⊎ EngineHush s u → IsKept s u
hush_kept_by s u (inl host) = kept_is s u (recovery_step s) host.state (recovery_kept s)
hush_kept_by s u (inr engine) = kept_is s u (engine_step s) engine.state (engine_kept s)

pub hush_kept : (s u : State) → Hush s u → IsKept s u
hush_kept s u step = hush_kept_by s u step.step

pub rests_kept : (s u : State) → Rests s → IsKept s u → Rests u
rests_kept s u at kept = record { owed = kept.owed ∙ at.owed; event = kept.event ∙ at.event }

pub unseen_kept : (k : ℕ) (r s : State) → Rests r → Unseen k r s → IsKept r s
unseen_kept zero r s at un = rw un (kept_same r)
unseen_kept (suc k) r s at un =
    let step = hush_kept r un.0 (hush r un.0 at un.1) in
    kept_then r un.0 s step (unseen_kept k un.0 s (rests_kept r un.0 at step) un.2)

-- where a letter is left no event comes that no line tells
no_letter : (letter : Option Letter) (a : Letter) → letter ≡ Some a → letter ≡ None → false ≡ true
no_letter letter a some none = absurd (cc (sym some ∙ none))

pub unseen_letter : (k : ℕ) (r s : State) (a : Letter) → Rests r → Unseen k r s → next_letter s ≡ Some a → s ≡ r
unseen_letter zero r s a at un letter = un
unseen_letter (suc k) r s a at un letter =
    let kept = unseen_kept (suc k) r s at un in
    absurd (false≢true (no_letter (next_letter r) a (rw (kept.faults, kept.letters) at letter) (hush r un.0 at un.1).letter))
