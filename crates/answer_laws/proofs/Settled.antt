-- The state in whose event a line is judged: what events without a line, and the silent steps of a recovery, leave.
use Rattle.std.proofs.Common.{◌≡◌, ◌∙◌, ℕ, ◌+◌, Bool, true, false, cond, ◌&&◌, ◌||◌, not, List, refl, ap, sym}
use Rattle.answer_laws.proofs.Stands.{Kept, closed_bus, closed_kept, is_bus_owed, over_kept, pending_over, step_kept}
use Rattle.answer_laws.proofs.Tasks.{pending, tasks, waits}
use Rattle.storage_machine.specs.Commands.{due, is_calm}
use Rattle.storage_machine.specs.Cuts.{is_due}
use Rattle.storage_machine.specs.Host.{has_work, recovery_step, recovery_step_at, recovery_steps, recovery_steps_at}
use Rattle.storage_machine.specs.Slots.{no_tasks}
use Rattle.storage_machine.specs.declared.commands.DueCommand.{DueCommand}
use Rattle.storage_machine.specs.declared.commands.DueCommand.TheVariants.{Idle, Address, Params, Direct, Execute, Poll}
use Rattle.storage_machine.specs.declared.state.Event.{Event}
use Rattle.storage_machine.specs.declared.state.Event.TheVariants.{Untold, Told, Due}
use Rattle.storage_machine.specs.declared.state.Recovery.{Recovery}
use Rattle.storage_machine.specs.declared.state.Recovery.TheVariants.{Calm, Halted, Cleared, Discarded, Cleaned, Resumed}
use Rattle.storage_machine.specs.declared.state.State.{State}
use Rattle.storage_model.specs.declared.faults.Letter.TheVariants.{Host as HostActs, Engine as EngineActs, Card as CardActs, Cut as PowerActs}
use Rattle.storage_model.specs.declared.plan.Job.{Job}
use Rattle.storage_model.specs.declared.trace.Item.{Item}
use Rattle.storage_order.specs.Events.{closed, ended, ended_by, engine_step, passed}
use Rattle.storage_order.specs.Order.{engine_first, entered, forced, is_of_cut, left_behind, needs_step, settled, starts, untold_steps, with_due}
use Rattle.trace_effects.specs.Effects.{letters_left}
use Rattle.trace_rules.specs.Steps.{is_cut}

-- how often the request is still to be answered
abbrev pub left_of : ℕ → State → ℕ
left_of id s = pending id s.waiting s.recovery s.slots

pub record Stays (jobs : List Job) (size : ℕ) (s t : State) : Type 0 where
  pub kept : Kept jobs size t
  pub left : (id : ℕ) → left_of id t ≡ left_of id s
  pub named : t.named ≡ s.named
  pub plan : t.plan ≡ s.plan
  pub base : t.base ≡ s.base
  pub faults : t.faults ≡ s.faults
  pub owed : is_bus_owed t.owed ≡ is_bus_owed s.owed

pub same : (jobs : List Job) (size : ℕ) (s : State) → Kept jobs size s → Stays jobs size s s
same jobs size s i = record { kept = i; left = λ id. refl; named = refl; plan = refl; base = refl; faults = refl; owed = refl }

pub then : (jobs : List Job) (size : ℕ) (s t u : State) → Stays jobs size s t → Stays jobs size t u → Stays jobs size s u
then jobs size s t u first second =
    record { kept = second.kept; left = λ id. second.left id ∙ first.left id; named = second.named ∙ first.named; plan = second.plan ∙ first.plan; base = second.base ∙ first.base; faults = second.faults ∙ first.faults; owed = second.owed ∙ first.owed }

pub either : (jobs : List Job) (size : ℕ) (b : Bool) (s t u : State) → Stays jobs size s t → Stays jobs size s u → Stays jobs size s (cond b t u)
either jobs size true s t u left right = left
either jobs size false s t u left right = right

-- the silent steps of a recovery

goes : (jobs : List Job) (size : ℕ) (s : State) (next : Recovery) → is_calm s.recovery ≡ false → is_calm next ≡ false → Kept jobs size s → Stays jobs size s (record s { recovery = next })
goes jobs size s next busy on i = record {
  kept = step_kept jobs size s.waiting s.named s.slots s.stop s.recovery next s.owed busy on i;
  left = λ id. ap (λ calm. waits id s.waiting + cond calm (tasks id s.slots) 0) (on ∙ sym busy);
  named = refl;
  plan = refl;
  base = refl;
  faults = refl;
  owed = refl;
}

ends : (jobs : List Job) (size : ℕ) (s : State) → is_calm s.recovery ≡ false → Kept jobs size s → Stays jobs size s (record s { recovery = Calm; slots = no_tasks })
ends jobs size s busy i = record {
  kept = over_kept jobs size s.waiting s.named s.slots s.stop s.recovery Calm s.owed busy refl i;
  left = λ id. pending_over id s.waiting s.slots s.recovery Calm busy refl;
  named = refl;
  plan = refl;
  base = refl;
  faults = refl;
  owed = refl;
}

step_at : (jobs : List Job) (size : ℕ) (s : State) (recovery : Recovery) → s.recovery ≡ recovery → Kept jobs size s → Stays jobs size s (recovery_step_at s recovery)
step_at jobs size s Calm at i = same jobs size s i
step_at jobs size s Halted at i = goes jobs size s Cleared (ap is_calm at) refl i
step_at jobs size s Cleared at i = same jobs size s i
step_at jobs size s Discarded at i = goes jobs size s Cleaned (ap is_calm at) refl i
step_at jobs size s Cleaned at i = goes jobs size s Resumed (ap is_calm at) refl i
step_at jobs size s Resumed at i = ends jobs size s (ap is_calm at) i

pub step_stays : (jobs : List Job) (size : ℕ) (s : State) → Kept jobs size s → Stays jobs size s (recovery_step s)
unfolding recovery_step
step_stays jobs size s i = step_at jobs size s s.recovery refl i

steps_at : (jobs : List Job) (size : ℕ) (s : State) (recovery : Recovery) → s.recovery ≡ recovery → Kept jobs size s → Stays jobs size s (recovery_steps_at s recovery)
steps_at jobs size s Calm at i = same jobs size s i
steps_at jobs size s Halted at i = goes jobs size s Cleared (ap is_calm at) refl i
steps_at jobs size s Cleared at i = same jobs size s i
steps_at jobs size s Discarded at i = ends jobs size s (ap is_calm at) i
steps_at jobs size s Cleaned at i = ends jobs size s (ap is_calm at) i
steps_at jobs size s Resumed at i = ends jobs size s (ap is_calm at) i

steps_stay : (jobs : List Job) (size : ℕ) (s : State) → Kept jobs size s → Stays jobs size s (recovery_steps s)
unfolding recovery_steps
steps_stay jobs size s i = steps_at jobs size s s.recovery refl i

-- the engine's event that prints nothing

ticks : (jobs : List Job) (size : ℕ) (s : State) → Kept jobs size s → Stays jobs size s (record s { notice = true; count = 0 })
ticks jobs size s i = record { kept = i; left = λ id. refl; named = refl; plan = refl; base = refl; faults = refl; owed = refl }

works : (jobs : List Job) (size : ℕ) (s : State) → Kept jobs size s → Stays jobs size s (record s { busy = true; spent = s.spent + 1 })
works jobs size s i = record { kept = i; left = λ id. refl; named = refl; plan = refl; base = refl; faults = refl; owed = refl }

passes : (jobs : List Job) (size : ℕ) (s : State) (command : DueCommand) → Kept jobs size s → Stays jobs size s (passed s command)
passes jobs size s (Execute tag) i = either jobs size _ s _ s (works jobs size s i) (same jobs size s i)
passes jobs size s Idle i = either jobs size _ s _ s (ticks jobs size s i) (same jobs size s i)
passes jobs size s (Address tag) i = either jobs size _ s _ s (ticks jobs size s i) (same jobs size s i)
passes jobs size s (Params tag) i = either jobs size _ s _ s (ticks jobs size s i) (same jobs size s i)
passes jobs size s (Direct tag) i = either jobs size _ s _ s (ticks jobs size s i) (same jobs size s i)
passes jobs size s Poll i = either jobs size _ s _ s (ticks jobs size s i) (same jobs size s i)

engine_stays : (jobs : List Job) (size : ℕ) (s : State) → Kept jobs size s → Stays jobs size s (engine_step s)
unfolding engine_step
engine_stays jobs size s i = passes jobs size s (due s) i

first_stays : (jobs : List Job) (size : ℕ) (s : State) (item : Item) → Kept jobs size s → Stays jobs size s (engine_first s item)
first_stays jobs size s item i = either jobs size (not (has_work s) && needs_step s item) s (engine_step s) s (engine_stays jobs size s i) (same jobs size s i)

-- the event before is over

pub told : (jobs : List Job) (size : ℕ) (s : State) (event : Event) → Kept jobs size s → Stays jobs size s (record s { event = event })
told jobs size s event i = record { kept = i; left = λ id. refl; named = refl; plan = refl; base = refl; faults = refl; owed = refl }

ended_at : (jobs : List Job) (size : ℕ) (s : State) (event : Event) → Kept jobs size s → Stays jobs size s (ended_by s event)
ended_at jobs size s (Told EngineActs) i = then jobs size s (record s { event = Untold }) _ (told jobs size s Untold i) (engine_stays jobs size (record s { event = Untold }) i)
ended_at jobs size s (Told HostActs) i = told jobs size s Untold i
ended_at jobs size s (Told CardActs) i = told jobs size s Untold i
ended_at jobs size s (Told PowerActs) i = told jobs size s Untold i
ended_at jobs size s Untold i = told jobs size s Untold i
ended_at jobs size s Due i = told jobs size s Untold i

ended_stays : (jobs : List Job) (size : ℕ) (s : State) → Kept jobs size s → Stays jobs size s (ended s)
unfolding ended
ended_stays jobs size s i = ended_at jobs size s s.event i

behind_stays : (jobs : List Job) (size : ℕ) (s : State) (item : Item) → Kept jobs size s → Stays jobs size s (left_behind s item)
behind_stays jobs size s item i =
    either jobs size (is_cut item) s s (record s { owed = closed s.owed }) (same jobs size s i)
    (record { kept = closed_kept jobs size s.waiting s.named s.slots s.stop s.recovery s.owed i; left = λ id. refl; named = refl; plan = refl; base = refl; faults = refl; owed = closed_bus s.owed })

untold_stays : (jobs : List Job) (size : ℕ) (s : State) (item : Item) → Kept jobs size s → Stays jobs size s (untold_steps s item)
untold_stays jobs size s item i =
    let steps = steps_stay jobs size s i in
    either jobs size (letters_left s || (is_due s && is_of_cut item)) s s (engine_first (recovery_steps s) item) (same jobs size s i)
    (then jobs size s (recovery_steps s) (engine_first (recovery_steps s) item) steps (first_stays jobs size (recovery_steps s) item steps.kept))

due_stays : (jobs : List Job) (size : ℕ) (s : State) (item : Item) → Kept jobs size s → Stays jobs size s (with_due s item)
due_stays jobs size s item i = either jobs size (is_due s && is_of_cut item) s (record s { event = Due }) s (told jobs size s Due i) (same jobs size s i)

forced_stays : (jobs : List Job) (size : ℕ) (s : State) (item : Item) → Kept jobs size s → Stays jobs size s (forced s item)
unfolding forced
forced_stays jobs size s item i =
    let steps = untold_stays jobs size s item i in
    then jobs size s (untold_steps s item) (with_due (untold_steps s item) item) steps (due_stays jobs size (untold_steps s item) item steps.kept)

entered_stays : (jobs : List Job) (size : ℕ) (s : State) (item : Item) → Kept jobs size s → Stays jobs size s (entered s item)
entered_stays jobs size s item i =
    let over = ended_stays jobs size s i in
    let behind = behind_stays jobs size (ended s) item over.kept in
    let first = then jobs size s (ended s) (left_behind (ended s) item) over behind in
    then jobs size s (left_behind (ended s) item) (entered s item) first (forced_stays jobs size (left_behind (ended s) item) item behind.kept)

pub settled_stays : (jobs : List Job) (size : ℕ) (s : State) (item : Item) → Kept jobs size s → Stays jobs size s (settled s item)
unfolding settled
settled_stays jobs size s item i = either jobs size (starts s item) s (entered s item) s (entered_stays jobs size s item i) (same jobs size s i)
