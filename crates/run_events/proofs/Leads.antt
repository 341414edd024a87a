-- Behind the lines of an event the acceptance has seen its end, unless the last is the line of a letter.
use Rattle.std.proofs.Common.{inl, inr, ◌≡◌, ◌∙◌, ◌⊎◌, ◌≤◌, ℕ, true, false, None, List, [], ◌∷◌, ◌++◌, refl, ap, sym}
use Rattle.std.proofs.lemmas.Bool.{false≢true}
use Rattle.run_events.proofs.Still.{host_told, power_told}
use Rattle.run_events.specs.Laws.{Leads, last_of, tells}
use Rattle.storage_machine.specs.Cuts.{is_due}
use Rattle.storage_machine.specs.Host.{to_do}
use Rattle.storage_machine.specs.declared.state.Event.TheVariants.{Untold, Told}
use Rattle.storage_machine.specs.declared.state.State.{State}
use Rattle.storage_model.specs.declared.faults.Letter.{Letter}
use Rattle.storage_model.specs.declared.faults.Letter.TheVariants.{Host, Engine, Card, Cut as PowerActs}
use Rattle.storage_model.specs.declared.trace.Item.{Item}
use Rattle.storage_model.specs.declared.trace.Item.TheVariants.{Turn}
use Rattle.storage_order.specs.Events.{Makes, end_rule}
use Rattle.storage_runs.proofs.Hushes.{rests, unseen_letter}
use Rattle.run_events.proofs.Shown.{begun_shown, rested_depth, some_of_card, told_line}
use Rattle.storage_runs.proofs.Told.{IsBegun, quiet_taken, shown_letter}
use Rattle.storage_runs.proofs.Turns.{turn_taken}
use Rattle.storage_runs.specs.Laws.{Closes, StandsAt, Takes, rested}
use Rattle.storage_runs.specs.Runs.{StaysSo, Yields, begun_next, is_shown, shown}
use Rattle.trace_effects.specs.Effects.{begun, letters_used}

pub leads_closes : (before : Item) (m t : State) (lines : List Item) → Closes m t lines → Leads before m t lines
leads_closes before m t lines closes = record { takes = closes.takes; seen = λ told. closes.event }

-- the letter told of an event that printed nothing else
quiet_event : (b : State) (actor : Letter) → end_rule b ≡ None → (actor ≡ PowerActs → to_do b ≡ true) → (b.event ≡ Untold) ⊎ (b.event ≡ Told actor) → tells (Turn actor) ≡ false → b.event ≡ Untold
quiet_event b actor end some (inl e) told = e
quiet_event b Host end some (inr e) told = absurd (false≢true (host_told b end e))
quiet_event b Engine end some (inr e) told = absurd (false≢true (sym told))
quiet_event b Card end some (inr e) told = absurd (false≢true (sym told))
quiet_event b PowerActs end some (inr e) told = absurd (false≢true (power_told b end e (some refl)))

-- the event of the next letter, behind its line
record Items (b t : State) (actor : Letter) (items : List Item) : Type 0 where
  takes : Takes b t items
  told : tells (last_of (Turn actor) items) ≡ false → takes.after.event ≡ Untold

told_items : (b t : State) (items : List Item) (actor : Letter) → (actor ≡ Card → to_do b ≡ true) → (actor ≡ PowerActs → to_do b ≡ true) → IsBegun b actor → Makes b items t → Yields b items → StaysSo b items
    → 1 ≤ b.plan.depth → Items b t actor items
told_items b t [] actor some power begins makes yields so depth =
    let quiet = quiet_taken b t actor begins makes.0 makes.1 depth in
    record { takes = quiet.0; told = λ told. ap (λ x. x.event) quiet.1 ∙ quiet_event b actor makes.0 power begins.event told }
told_items b t (item ∷ items) actor some power begins makes yields so depth =
    let closes = told_line b t item items actor some begins makes yields so depth in
    record { takes = closes.takes; told = λ told. closes.event }

power_to_do : (s : State) (letters : ℕ) → to_do s ≡ true → to_do (begun (record s { letters = letters }) PowerActs) ≡ true
unfolding to_do begun
power_to_do s letters some = some

some_of_power : (s : State) (actor : Letter) → is_shown s actor ≡ true → to_do s ≡ true → actor ≡ PowerActs → to_do (begun_next s actor) ≡ true
some_of_power s actor is some power = rw (is, power) (power_to_do s (letters_used s) some)

shown_at : (before : Item) (m t : State) (actor : Letter) (items lines : List Item) → StandsAt m (rested m) → is_shown (rested m) actor ≡ true → is_due (rested m) ≡ false → to_do (rested m) ≡ true
    → lines ≡ shown (rested m) actor items
    → Makes (begun_next (rested m) actor) items t → Yields (begun_next (rested m) actor) items → StaysSo (begun_next (rested m) actor) items → Leads before m t lines
shown_at before m t actor items lines st is due some at makes yields so =
    let r = rested m in
    let b = begun_next r actor in
    let inner = told_items b t items actor (some_of_card r actor is some) (some_of_power r actor is some) (begun_shown r actor is due) makes yields so (rested_depth m actor st.depth) in
    rw (at, is) (record {
      takes = record {
        after = inner.takes.after;
        stands = inner.takes.stands;
        taken = λ more. turn_taken m r actor st (shown_letter r actor is) due is (items ++ more) ∙ inner.takes.taken more;
      };
      seen = λ told. inner.told told;
    })

-- the event of the next letter, with its line
pub shown_leads : (before : Item) (m s t : State) (actor : Letter) (items lines : List Item) → StandsAt m s → is_shown s actor ≡ true → is_due s ≡ false → to_do s ≡ true → lines ≡ shown s actor items
    → Makes (begun_next s actor) items t → Yields (begun_next s actor) items → StaysSo (begun_next s actor) items → Leads before m t lines
shown_leads before m s t actor items lines st is due some at makes yields so =
    let same = unseen_letter st.count (rested m) s actor (rests m) st.unseen (shown_letter s actor is) in
    shown_at before m t actor items lines (rw same at st) (rw same at is) (rw same at due) (rw same at some) (rw same at at) (rw same at makes) (rw same at yields) (rw same at so)
