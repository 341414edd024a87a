-- Lines that begin the next event are taken.
use Rattle.std.proofs.Common.{◌≡◌, ◌∙◌, ℕ, Bool, true, false, None, ◌||◌, List, [], ◌∷◌, ◌++◌, refl, ap}
use Rattle.std.proofs.lemmas.Bool.{or_parts}
use Rattle.storage_machine.specs.Commands.{is_calm}
use Rattle.storage_machine.specs.Cuts.{is_due}
use Rattle.storage_machine.specs.Host.{has_work, to_do}
use Rattle.storage_machine.specs.declared.state.Event.TheVariants.{Told}
use Rattle.storage_machine.specs.declared.state.State.{State}
use Rattle.storage_model.specs.declared.faults.Letter.{Letter}
use Rattle.storage_model.specs.declared.faults.Letter.TheVariants.{Host, Engine, Card, Cut as PowerActs}
use Rattle.storage_model.specs.declared.trace.Item.{Item}
use Rattle.storage_model.specs.declared.trace.Item.TheVariants.{Phase}
use Rattle.storage_order.proofs.Accepts.{holds_unbroken}
use Rattle.storage_order.specs.Accept.{accept_from}
use Rattle.storage_order.specs.Events.{Begins, Goes, More}
use Rattle.storage_order.specs.Order.{is_of_next}
use Rattle.run_events.proofs.CardLast.{IsLast, behind, busy_of, card_first, effect_out, late_behind, late_of, more_cut, number_of, so_cut, stands_cut, unsaid}
use Rattle.storage_runs.proofs.Ends.{First}
use Rattle.storage_runs.proofs.Hushes.{rests, unseen_letter}
use Rattle.storage_runs.proofs.Lags.{calm_work}
use Rattle.storage_runs.proofs.Lines.{one_taken}
use Rattle.storage_runs.proofs.Mores.{cut_is, more_taken, not_true}
use Rattle.run_events.proofs.Shown.{begun_shown, some_of_card}
use Rattle.storage_runs.proofs.Told.{IsBegun, phase_uncut, shown_letter, told_first, untold_told}
use Rattle.storage_runs.proofs.Turns.{turn_taken}
use Rattle.storage_runs.specs.Laws.{IsOpened, StandsAt, rested}
use Rattle.storage_runs.specs.Runs.{StaysSo, Yields, begun_next, is_shown, shown}
use Rattle.trace_effects.specs.Effects.{effect, letters_left}
use Rattle.trace_effects.specs.Phases.{event_with}
use Rattle.trace_rules.specs.Steps.{earlier}

-- an event that has begun in b, whose first line is taken
pub begins_taken : (m b last : State) (item : Item) (items : List Item) → Begins b item items last → StaysSo b (item ∷ items) → First m b item → IsOpened m (item ∷ items)
begins_taken m b last item items begins so first = record {
  after = last;
  taken = λ more.
      one_taken m first.at item first.settled first.order first.line first.event (items ++ more)
      ∙ (ap (accept_from (items ++ more)) first.effect ∙ more_taken (effect b item) last items begins.more so.1 more);
}

card_rest : (p last : State) (items : List Item) → p.event ≡ Told Card → is_calm p.recovery ≡ true → is_due p ≡ false → More p items last → StaysSo p items → IsOpened (unsaid p) items
card_rest p last [] e calm late go so = record { after = unsaid p; taken = λ more. refl }
card_rest p last (item ∷ items) e calm late go so =
    let cut = cut_is item (stands_cut p item p.owed refl e go.0 go.1.stands) in
    record { after = last; taken = more_taken (unsaid p) last (item ∷ items) (more_cut p last item items cut e calm late go) (so_cut p item items cut e calm so) }

card_begins : (b last : State) (n id count : ℕ) (kept : Bool) (items : List Item) → IsLast b n id count kept → Begins b (Phase n id count kept) items last → StaysSo b (Phase n id count kept ∷ items) → IsOpened b (Phase n id count kept ∷ items)
card_begins b last n id count kept items x begins so =
    let item = Phase n id count kept in
    let p = effect b item in
    let left = behind b n id count kept in
    let number = number_of b n id count kept (holds_unbroken b item None (ap (λ rule. earlier rule None) x.fits.line)) in
    let rest = card_rest p last items (left.event ∙ ap event_with x.event) (ap is_calm left.recovery ∙ calm_work b x.work) (late_behind b p n left x.some x.late (busy_of b n id count kept x) number) begins.more so.1 in
    let first = card_first b n id count kept x in
    record {
      after = rest.after;
      taken = λ more.
          one_taken b first.at item first.settled first.order first.line first.event (items ++ more)
          ∙ (ap (accept_from (items ++ more)) (first.effect ∙ effect_out b n id count kept x.event) ∙ rest.taken more);
    }

card_open : (b last : State) (item : Item) (items : List Item) → is_of_next b Card item ≡ true → to_do b ≡ true → IsBegun b Card → Begins b item items last → Yields b (item ∷ items) → StaysSo b (item ∷ items) → IsOpened b (item ∷ items)
card_open b last (Phase n id count kept) items next some begun begins yields so =
    let e = untold_told b (Told Card) begun.event begins.told in
    let parts = or_parts (letters_left b) (has_work b) (not_true (letters_left b || has_work b) next) in
    card_begins b last n id count kept items (record {
      owed = begun.owed;
      event = e;
      letters = parts.0;
      work = parts.1;
      some = some;
      late = late_of b begun.due e;
      fits = begins.first;
      uncut = phase_uncut b Card (Phase n id count kept) e yields;
    }) begins so
card_open b last item items next some begun begins yields so = absurd (cc)

own_open : (b last : State) (item : Item) (items : List Item) (actor : Letter) → IsBegun b actor → Begins b item items last → Yields b (item ∷ items) → StaysSo b (item ∷ items) → is_of_next b actor item ≡ false → IsOpened b (item ∷ items)
own_open b last item items actor begun begins yields so own = begins_taken b b last item items begins so (told_first b actor item begun begins.told begins.first yields so.0 own)

card_by : (b last : State) (item : Item) (items : List Item) (next : Bool) → is_of_next b Card item ≡ next → to_do b ≡ true → IsBegun b Card → Begins b item items last → Yields b (item ∷ items) → StaysSo b (item ∷ items)
    → IsOpened b (item ∷ items)
card_by b last item items true next some begun begins yields so = card_open b last item items next some begun begins yields so
card_by b last item items false next some begun begins yields so = own_open b last item items Card begun begins yields so next

told_open : (b last : State) (item : Item) (items : List Item) (actor : Letter) → (actor ≡ Card → to_do b ≡ true) → IsBegun b actor → Begins b item items last → Yields b (item ∷ items) → StaysSo b (item ∷ items) → IsOpened b (item ∷ items)
told_open b last item items Host some begun begins yields so = own_open b last item items Host begun begins yields so refl
told_open b last item items Engine some begun begins yields so =
    own_open b last item items Engine begun begins yields so (phase_uncut b Engine item (untold_told b (Told Engine) begun.event begins.told) yields)
told_open b last item items Card some begun begins yields so = card_by b last item items (is_of_next b Card item) refl (some refl) begun begins yields so
told_open b last item items PowerActs some begun begins yields so = own_open b last item items PowerActs begun begins yields so refl

goes_open : (b last : State) (items : List Item) (actor : Letter) → (actor ≡ Card → to_do b ≡ true) → IsBegun b actor → Goes b items last → Yields b items → StaysSo b items → IsOpened b items
goes_open b last [] actor some begun goes yields so = record { after = b; taken = λ more. refl }
goes_open b last (item ∷ items) actor some begun goes yields so = told_open b last item items actor some begun goes yields so

shown_open_at : (m last : State) (actor : Letter) (items lines : List Item) → StandsAt m (rested m) → is_shown (rested m) actor ≡ true → is_due (rested m) ≡ false → to_do (rested m) ≡ true → lines ≡ shown (rested m) actor items
    → Goes (begun_next (rested m) actor) items last → Yields (begun_next (rested m) actor) items → StaysSo (begun_next (rested m) actor) items → IsOpened m lines
shown_open_at m last actor items lines st is due some at goes yields so =
    let r = rested m in
    let b = begun_next r actor in
    let inner = goes_open b last items actor (some_of_card r actor is some) (begun_shown r actor is due) goes yields so in
    rw (at, is) (record { after = inner.after; taken = λ more. turn_taken m r actor st (shown_letter r actor is) due is (items ++ more) ∙ inner.taken more })

pub shown_open : (m s last : State) (actor : Letter) (items lines : List Item) → StandsAt m s → is_shown s actor ≡ true → is_due s ≡ false → to_do s ≡ true → lines ≡ shown s actor items
    → Goes (begun_next s actor) items last → Yields (begun_next s actor) items → StaysSo (begun_next s actor) items → IsOpened m lines
shown_open m s last actor items lines st is due some at goes yields so =
    let same = unseen_letter st.count (rested m) s actor (rests m) st.unseen (shown_letter s actor is) in
    shown_open_at m last actor items lines (rw same at st) (rw same at is) (rw same at due) (rw same at some) (rw same at at) (rw same at goes) (rw same at yields) (rw same at so)

pub opened_at : (m : State) (lines items : List Item) → lines ≡ items → IsOpened m items → IsOpened m lines
opened_at m lines items at opened = rw at opened
