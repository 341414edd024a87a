-- An event that a letter shows is taken.
use Rattle.std.proofs.Common.{inl, inr, ◌≡◌, ◌∙◌, ◌⊎◌, ◌≤◌, ℕ, Bool, true, false, Option, Some, None, cond, ◌&&◌, ◌||◌, ◌==◌, not, [], refl, ap, sym}
use Rattle.std.proofs.lemmas.Bool.{and_parts, and_right}
use Rattle.storage_machine.specs.Commands.{is_calm}
use Rattle.storage_machine.specs.Cuts.{due_line, is_due}
use Rattle.storage_machine.specs.Host.{has_work, is_silent, recovery_step, to_do}
use Rattle.storage_machine.specs.declared.state.Event.{Event}
use Rattle.storage_machine.specs.declared.state.Event.TheVariants.{Untold, Told, Due}
use Rattle.storage_machine.specs.declared.state.Owed.TheVariants.{Nothing}
use Rattle.storage_machine.specs.declared.state.State.{State}
use Rattle.storage_model.specs.declared.faults.Letter.{Letter}
use Rattle.storage_model.specs.declared.faults.Letter.TheVariants.{Host, Engine, Card, Cut as PowerActs}
use Rattle.storage_model.specs.declared.trace.Item.{Item}
use Rattle.storage_model.specs.declared.trace.Item.TheVariants.{Phase}
use Rattle.storage_order.specs.Events.{Fits, end_rule, ended, is_untold}
use Rattle.storage_order.specs.Order.{is_cut_phase, is_of_next, starts, starts_at}
use Rattle.storage_runs.proofs.Ends.{First}
use Rattle.storage_runs.proofs.Hushes.{recovery_kept}
use Rattle.storage_runs.proofs.Lines.{event_none, order_same, settled_same}
use Rattle.storage_runs.proofs.Turns.{ended_owed}
use Rattle.storage_runs.specs.Laws.{Takes}
use Rattle.storage_runs.specs.Runs.{chosen, chosen_by, is_shown, next_letter}
use Rattle.trace_effects.specs.Effects.{begun, begun_by}
use Rattle.trace_rules.specs.Lines.{is_free, is_letter, same_letter}
use Rattle.trace_rules.specs.Steps.{is_cut_by, is_due_event, is_left_so, is_line_of, is_nothing, stands_in, yields_to_cut}

same_as : (a b : Letter) → same_letter a b ≡ true → b ≡ a
same_as Host Host e = refl
same_as Host Engine e = absurd (cc)
same_as Host Card e = absurd (cc)
same_as Host PowerActs e = absurd (cc)
same_as Engine Host e = absurd (cc)
same_as Engine Engine e = refl
same_as Engine Card e = absurd (cc)
same_as Engine PowerActs e = absurd (cc)
same_as Card Host e = absurd (cc)
same_as Card Engine e = absurd (cc)
same_as Card Card e = refl
same_as Card PowerActs e = absurd (cc)
same_as PowerActs Host e = absurd (cc)
same_as PowerActs Engine e = absurd (cc)
same_as PowerActs Card e = absurd (cc)
same_as PowerActs PowerActs e = refl

letter_is : (a : Letter) (next : Option Letter) → is_letter a next ≡ true → next ≡ Some a
letter_is a None e = absurd (cc)
letter_is a (Some b) e = ap Some (same_as a b e)

pub shown_letter : (s : State) (actor : Letter) → is_shown s actor ≡ true → next_letter s ≡ Some actor
shown_letter s actor shown = letter_is actor (next_letter s) (and_parts _ _ shown).0

late_loud : (letter same late : Bool) → same ≡ true → late ≡ true → (letter && not (same && late)) ≡ true → false ≡ true
late_loud true true true a b e = e
late_loud false same late a b e = e
late_loud true false late a b e = absurd (cc)
late_loud true true false a b e = absurd (cc)

shown_late : (s : State) (late : Bool) (actor : Letter) → is_due s ≡ late → actor ≡ cond late PowerActs (chosen_by s (next_letter s)) → is_shown s actor ≡ true → late ≡ false
shown_late s false actor at is shown = refl
shown_late s true actor at is shown = sym (late_loud (is_letter actor (next_letter s)) (same_letter actor PowerActs) (is_due s) (ap (λ a. same_letter a PowerActs) is) at shown)

-- no cut is due where the event that comes next shows a letter
pub shown_due : (s : State) → is_shown s (chosen s) ≡ true → is_due s ≡ false
shown_due s shown = shown_late s (is_due s) (chosen s) refl refl shown

-- an event that has begun
pub record IsBegun (b : State) (actor : Letter) : Type 0 where
  pub owed : b.owed ≡ Nothing
  pub event : (b.event ≡ Untold) ⊎ (b.event ≡ Told actor)
  pub due : is_due b ≡ false ⊎ (b.event ≡ Untold)

pub due_event : (s : State) (event : Event) → is_due (record s { event = event }) ≡ is_due s
unfolding to_do due_line
due_event s event = refl

due_staged : (s : State) (event : Event) (staged : Bool) → is_due (record s { event = event; staged = staged }) ≡ is_due s
unfolding to_do due_line
due_staged s event staged = refl

begun_host : (s : State) (silent work : Bool) → s.owed ≡ Nothing → is_due s ≡ false → IsBegun (cond silent (record (recovery_step s) { event = Untold }) (record s { event = cond work (Told Host) Untold })) Host
begun_host s true work owed due = record { owed = (recovery_kept s).owed ∙ owed; event = inl refl; due = inr refl }
begun_host s false true owed due = record { owed = owed; event = inr refl; due = inl (due_event s (Told Host) ∙ due) }
begun_host s false false owed due = record { owed = owed; event = inl refl; due = inr refl }

begun_facts_by : (s : State) (actor : Letter) → s.owed ≡ Nothing → is_due s ≡ false → IsBegun (begun_by s actor) actor
begun_facts_by s Host owed due = begun_host s (is_silent s.recovery) (has_work s) owed due
begun_facts_by s Engine owed due = record { owed = owed; event = inr refl; due = inl (due_event s (Told Engine) ∙ due) }
begun_facts_by s Card owed due = record { owed = owed; event = inr refl; due = inl (due_staged s (Told Card) true ∙ due) }
begun_facts_by s PowerActs owed due = record {
  owed = owed;
  event = inr (ap (λ late. cond late Due (Told PowerActs)) due);
  due = inl (due_event s (cond (is_due s) Due (Told PowerActs)) ∙ due);
}

due_letters : (s : State) (letters : ℕ) → is_due (record s { letters = letters; owed = Nothing }) ≡ is_due s
unfolding to_do due_line
due_letters s letters = refl

pub begun_facts : (s : State) (letters : ℕ) (actor : Letter) → is_due s ≡ false → IsBegun (begun (record s { letters = letters }) actor) actor
unfolding begun
begun_facts s letters actor due = begun_facts_by (record s { letters = letters; owed = Nothing }) actor refl (due_letters s letters ∙ due)

true_or : (b : Bool) → (b || true) ≡ true
true_or true = refl
true_or false = refl

calm_begun : (b : State) → is_due b ≡ false ⊎ (b.event ≡ Untold) → (is_untold b.event || not (is_due b)) ≡ true
calm_begun b (inl due) = rw due (true_or (is_untold b.event))
calm_begun b (inr e) = rw e refl

-- an event that prints nothing more than its letter
pub quiet_taken : (b t : State) (actor : Letter) → IsBegun b actor → end_rule b ≡ None → t ≡ ended b → 1 ≤ b.plan.depth → (takes : Takes b t []) × (takes.after ≡ b)
quiet_taken b t actor begins end state depth = (
  record {
    after = b;
    stands = inl (record {
      free = rw begins.owed refl;
      whole = rw begins.owed refl;
      ends = end;
      calm = calm_begun b begins.due;
      depth = depth;
      count = 0;
      unseen = state ∙ ap (λ owed. record (ended b) { owed = owed }) (ended_owed b ∙ begins.owed);
    });
    taken = λ more. refl;
  },
  refl,
)

pub untold_told : (b : State) (event : Event) → (b.event ≡ Untold) ⊎ (b.event ≡ event) → is_untold b.event ≡ false → b.event ≡ event
untold_told b event (inl e) told = absurd (cc (rw e at told))
untold_told b event (inr e) told = e

-- a line of the told event is one of its actor's
line_of : (b : State) (actor : Letter) (item : Item) → b.owed ≡ Nothing → stands_in b (Told actor) item ≡ true → is_line_of actor (is_calm b.recovery) item ≡ true
line_of b Host item owed stands = rw owed at stands
line_of b Engine item owed stands = rw owed at stands
line_of b Card item owed stands = (and_parts _ _ (rw owed at stands)).0
line_of b PowerActs item owed stands = (and_parts _ _ (rw owed at stands)).0

uncut : (cut late none : Bool) → late ≡ false → cond cut (late && none) true ≡ true → cut ≡ false
uncut true false none e yields = absurd (cc)
uncut true true none e yields = absurd (cc)
uncut false late none e yields = refl

-- a phase of its event has no `cut` line of its own
pub phase_uncut : (b : State) (actor : Letter) (item : Item) → b.event ≡ Told actor → yields_to_cut b item ≡ true → is_cut_phase b item ≡ false
phase_uncut b actor (Phase n id count kept) e yields = uncut (is_cut_by b) (is_due_event b.event) (count == 0) (ap is_due_event e) yields
phase_uncut b actor item e yields = refl

-- the line is of no other event than the told one
pub record IsOwn (b : State) (actor : Letter) (item : Item) : Type 0 where
  pub own : is_of_next b actor item ≡ false

own_starts : (nothing line next : Bool) → line ≡ true → next ≡ false → not (not nothing || (line && not next)) ≡ false
own_starts false line next a b = refl
own_starts true true false a b = refl
own_starts true false next a b = absurd (cc)
own_starts true true true a b = absurd (cc)

pub told_starts : (b : State) (actor : Letter) (item : Item) → b.owed ≡ Nothing → b.event ≡ Told actor → is_line_of actor (is_calm b.recovery) item ≡ true → is_of_next b actor item ≡ false → starts b item ≡ false
unfolding starts
told_starts b actor item owed e line own =
    and_right (is_free b.owed) (starts_at b b.event item)
    (ap (λ event. starts_at b event item) e ∙ own_starts (is_nothing b.owed) (is_line_of actor (is_calm b.recovery) item) (is_of_next b actor item) line own)

-- the first line stands in the told event
pub told_first : (b : State) (actor : Letter) (item : Item) → IsBegun b actor → is_untold b.event ≡ false → Fits b item → yields_to_cut b item ≡ true → is_left_so b item ≡ true → is_of_next b actor item ≡ false → First b b item
told_first b actor item begins told fits yields so own =
    let e = untold_told b (Told actor) begins.event told in
    let same = told_starts b actor item begins.owed e (line_of b actor item begins.owed (rw e at fits.stands)) own in
    record {
      at = b;
      settled = settled_same b item same;
      order = order_same b item same;
      line = fits.line;
      event = event_none b item fits.stands fits.first yields so;
      effect = refl;
    }
