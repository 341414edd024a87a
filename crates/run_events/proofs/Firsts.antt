-- The first line of the next event is taken, which no letter tells, whatever event was told before.
use Rattle.std.proofs.Common.{◌≡◌, ◌∙◌, ℕ, zero, suc, Bool, true, false, Option, Some, None, cond, ◌||◌, not, slice_get, refl, ap, sym}
use Rattle.std.proofs.lemmas.Bool.{false≢true}
use Rattle.storage_machine.specs.Commands.{is_calm}
use Rattle.storage_machine.specs.Cuts.{is_due}
use Rattle.storage_machine.specs.Host.{has_work, is_silent, to_do}
use Rattle.storage_machine.specs.declared.state.Event.{Event}
use Rattle.storage_machine.specs.declared.state.Event.TheVariants.{Untold, Told, Due}
use Rattle.storage_machine.specs.declared.state.Owed.{Owed}
use Rattle.storage_machine.specs.declared.state.Owed.TheVariants.{Nothing}
use Rattle.storage_machine.specs.declared.state.State.{State}
use Rattle.storage_model.specs.declared.faults.Letter.{Letter}
use Rattle.storage_model.specs.declared.faults.Letter.TheVariants.{Host, Engine, Card, Cut as PowerActs}
use Rattle.storage_model.specs.declared.trace.Item.{Item}
use Rattle.storage_model.specs.declared.trace.Item.TheVariants.{Params, Address, Poll, Phase, Bus, Cut}
use Rattle.storage_order.specs.Events.{Fits, end_rule, ended, ended_by, is_untold, shows_phase}
use Rattle.storage_order.specs.Order.{forced, left_behind, order_rule, settled, start_rule, starts}
use Rattle.run_events.proofs.Engines.{engine_command, engine_cut, engine_late, engine_passed, engine_phase}
use Rattle.run_events.proofs.Still.{IsItsLine, Still, card_busied, card_cut, card_due, card_phase, host_told, its_line, not_busy, power_told}
use Rattle.storage_runs.proofs.Ends.{First}
use Rattle.run_lines.proofs.Engines.{command_line, untold_starts}
use Rattle.run_lines.proofs.Hosts.{not_told}
use Rattle.storage_runs.proofs.Hushes.{letter_shown, rests, rests_kept, unseen_kept}
use Rattle.storage_runs.proofs.Lags.{unseen_letters, unseen_reached}
use Rattle.storage_runs.proofs.Mores.{end_untold, ended_untold, not_true}
use Rattle.run_lines.proofs.Phases.{phase_line}
use Rattle.storage_runs.proofs.Plans.{ended_plan}
use Rattle.storage_runs.proofs.Turns.{ended_owed}
use Rattle.run_lines.specs.Laws.{Sets}
use Rattle.run_lines.proofs.Untold.{between, chosen_first, due_begun, host_begun, nothing_of, nothing_or}
use Rattle.storage_runs.specs.Laws.{StandsAt, rested}
use Rattle.storage_runs.specs.Runs.{Unseen, chosen, chosen_by, is_shown, next_letter}
use Rattle.trace_effects.specs.Effects.{begun_by}
use Rattle.trace_rules.specs.Steps.{is_cut, is_cut_by, is_line_of, is_nothing, is_under_way}

-- a line that begins an event, and with it ends the told one
settled_by : (m r : State) (item : Item) → starts m item ≡ true → starts r item ≡ true → ended m ≡ ended r → settled m item ≡ settled r item
unfolding settled
settled_by m r item first first_r same = rw (first, first_r) (ap (λ x. forced (left_behind x item) item) same)

order_by : (m r : State) (item : Item) → starts m item ≡ true → starts r item ≡ true → end_rule m ≡ None → end_rule r ≡ None → ended m ≡ ended r → order_rule m item ≡ order_rule r item
unfolding order_rule
order_by m r item first first_r end end_r same = rw (first, first_r, end, end_r) (ap (λ x. start_rule (is_due x) (forced (left_behind x item) item) item) same)

lifted : (m b : State) (item : Item) → starts m item ≡ true → end_rule m ≡ None → ended m ≡ rested m → First (rested m) b item → First m b item
lifted m b item first end at x =
    let r = rested m in
    let rest = rests m in
    let first_r = untold_starts r item refl rest.event in
    let same = at ∙ sym (ended_untold r rest.event) in
    record {
      at = x.at;
      settled = settled_by m r item first first_r same ∙ x.settled;
      order = order_by m r item first first_r end (end_untold r rest.event) same ∙ x.order;
      line = x.line;
      event = x.event;
      effect = x.effect;
    }

-- between two events the acceptor stands where its event led
rested_rested : (m : State) → rested (rested m) ≡ rested m
rested_rested m = ap {A = State} (λ y. record y { owed = Nothing }) (ended_untold (rested m) (rests m).event)

unseen_at : (k : ℕ) (r q s : State) → q ≡ r → Unseen k r s → Unseen k q s
unseen_at k r q s at un = rw at un

rested_stands : (m s : State) → StandsAt m s → StandsAt (rested m) s
rested_stands m s st = record {
  free = refl;
  whole = refl;
  ends = end_untold (rested m) (rests m).event;
  calm = ap (λ event. is_untold event || not (is_due (rested m))) (rests m).event;
  depth = rw (ap (λ plan. plan.depth) (ended_plan m)) st.depth;
  count = st.count;
  unseen = unseen_at st.count (rested m) (rested (rested m)) s (rested_rested m) st.unseen;
}

pub owed_nothing : (nothing untold : Bool) → (nothing || untold) ≡ true → untold ≡ false → nothing ≡ true
owed_nothing true untold a b = refl
owed_nothing false untold a b = absurd (false≢true (sym b ∙ a))

some_before : (k : ℕ) (r s : State) → Unseen k r s → to_do s ≡ true → to_do r ≡ true
some_before zero r s un some = sym (ap to_do un) ∙ some
some_before (suc k) r s un some = un.1.some

pub nothing_is : (owed : Owed) → is_nothing owed ≡ true → owed ≡ Nothing
nothing_is Nothing e = refl
nothing_is owed e = absurd (cc)

calm_told : (told late : Bool) → told ≡ false → (told || not late) ≡ true → late ≡ false
calm_told false late a b = not_true late b
calm_told true late a b = absurd (false≢true (sym a))

-- the acceptor where an event was told
still : (m s : State) (letter : Letter) → StandsAt m s → m.event ≡ Told letter → to_do s ≡ true → Still m s letter
still m s letter st e some =
    let kept = unseen_kept st.count (rested m) s (rests m) st.unseen in
    let told = ap is_untold e in
    record {
      owed = nothing_is m.owed (owed_nothing (is_nothing m.owed) (is_untold m.event) st.whole told);
      event = e;
      end = st.ends;
      late = calm_told (is_untold m.event) (is_due m) told st.calm;
      depth = st.depth;
      some = some;
      rest = rests_kept (rested m) s (rests m) kept;
      kept = kept;
      on = unseen_reached st.count (rested m) s (rests m) st.unseen;
      letters = unseen_letters st.count (rested m) s (rests m) st.unseen;
    }

-- a line of the host's isn't one of the told event
host_never : (m s : State) (letter : Letter) (item : Item) → StandsAt m s → Still m s letter → is_line_of Host (is_calm s.recovery) item ≡ true → IsItsLine m letter item → false ≡ true
host_never m s letter item st x line its = sym (not_told m s item st x.on line letter x.event) ∙ its

-- the engine's event, where the engine's was told
after_engine : (m s : State) (item : Item) → Still m s Engine → has_work s ≡ false → Fits (record s { event = Told Engine }) item → shows_phase (record s { event = Told Engine }) item ≡ true
    → is_line_of Engine (is_calm s.recovery) item ≡ true → IsItsLine m Engine item → starts m item ≡ false → First m (record s { event = Told Engine }) item
after_engine m s (Params n id) x work fits phase line its inside = absurd (false≢true (engine_command m s (Params n id) x (engine_passed m s x) work refl (sym (command_line s (Told Engine) (Params n id) refl) ∙ fits.line)))
after_engine m s (Address n id) x work fits phase line its inside = absurd (false≢true (engine_command m s (Address n id) x (engine_passed m s x) work refl (sym (command_line s (Told Engine) (Address n id) refl) ∙ fits.line)))
after_engine m s (Poll n mask) x work fits phase line its inside = absurd (false≢true (engine_command m s (Poll n mask) x (engine_passed m s x) work refl (sym (command_line s (Told Engine) (Poll n mask) refl) ∙ fits.line)))
after_engine m s (Bus n kind id) x work fits phase line its inside = absurd (false≢true (engine_command m s (Bus n kind id) x (engine_passed m s x) work refl (sym (command_line s (Told Engine) (Bus n kind id) refl) ∙ fits.line)))
after_engine m s (Phase n id count kept) x work fits phase line its inside =
    engine_phase m s n id count kept x (engine_passed m s x) work (sym (phase_line s (Told Engine) n id count kept) ∙ fits.line) its inside
after_engine m s Cut x work fits phase line its inside = engine_cut m s x (engine_passed m s x) work (not_busy s.busy phase) inside
after_engine m s item x work fits phase line its inside = absurd (cc)

-- and where the card's was
after_card : (m s : State) (item : Item) → Still m s Card → next_letter (rested m) ≡ None → has_work s ≡ false → shows_phase (record s { event = Told Engine }) item ≡ true
    → is_line_of Engine (is_calm s.recovery) item ≡ true → IsItsLine m Card item → starts m item ≡ false → First m (record s { event = Told Engine }) item
after_card m s (Params n id) x none work phase line its inside = absurd (false≢true its)
after_card m s (Address n id) x none work phase line its inside = absurd (false≢true its)
after_card m s (Poll n mask) x none work phase line its inside = absurd (false≢true its)
after_card m s (Bus n kind id) x none work phase line its inside = absurd (false≢true its)
after_card m s (Phase n id count kept) x none work phase line its inside = absurd (false≢true (card_phase m s n id count kept x none work its))
after_card m s Cut x none work phase line its inside = card_cut m s x work (not_busy s.busy phase) inside
after_card m s item x none work phase line its inside = absurd (cc)

-- the event of a due cut isn't taken as the told one's
late_engine : (m s : State) (item : Item) → Still m s Engine → is_due s ≡ true → shows_phase (record s { event = Due }) item ≡ true → is_line_of PowerActs (is_calm s.recovery) item ≡ true → IsItsLine m Engine item → false ≡ true
late_engine m s (Phase n id count kept) x late phase line its = sym (not_true (is_cut_by m) its) ∙ (engine_late m s x (engine_passed m s x) late).1
late_engine m s Cut x late phase line its = not_busy s.busy phase (engine_late m s x (engine_passed m s x) late).0
late_engine m s item x late phase line its = absurd (cc)

late_card : (m s : State) (item : Item) → Still m s Card → is_due s ≡ true → shows_phase (record s { event = Due }) item ≡ true → is_line_of PowerActs (is_calm s.recovery) item ≡ true → IsItsLine m Card item → false ≡ true
late_card m s (Phase n id count kept) x late phase line its = card_due m s n id count kept x late its
late_card m s Cut x late phase line its = not_busy s.busy phase (ap (λ y. y.busy) (card_busied m s x late).state)
late_card m s item x late phase line its = absurd (cc)

to_do_power : (m : State) → m.event ≡ Told PowerActs → to_do (rested m) ≡ to_do m
unfolding ended to_do
to_do_power m e = ap (λ event. to_do (record (ended_by m event) { owed = Nothing })) e

power_never : (m s : State) → StandsAt m s → Still m s PowerActs → false ≡ true
power_never m s st x = power_told m x.end x.event (sym (to_do_power m x.event) ∙ some_before st.count (rested m) s st.unseen x.some)

-- which event comes, and which was told
pub record Inside (m s : State) (letter : Letter) (item : Item) : Type 0 where
  pub stands : StandsAt m s
  pub still : Still m s letter
  pub inside : starts m item ≡ false
  pub its : IsItsLine m letter item

none_rested : (m s : State) (letter : Letter) → Still m s letter → next_letter s ≡ None → next_letter (rested m) ≡ None
none_rested m s letter x none = ap (λ faults. slice_get faults.turns (rested m).letters) (sym x.kept.faults) ∙ (ap (λ letters. slice_get s.faults.turns letters) (sym x.kept.letters) ∙ none)

engine_by : (m s : State) (letter : Letter) (item : Item) → Inside m s letter item → next_letter s ≡ None → has_work s ≡ false → Sets (record s { event = Told Engine }) item → First m (record s { event = Told Engine }) item
engine_by m s Host item x none work sets = absurd (false≢true (host_told m x.still.end x.still.event))
engine_by m s Engine item x none work sets =
    after_engine m s item x.still work sets.fits sets.phase (nothing_or s (is_line_of Engine (is_calm s.recovery) item) x.still.rest.owed sets.fits.stands) x.its x.inside
engine_by m s Card item x none work sets =
    after_card m s item x.still (none_rested m s Card x.still none) work sets.phase (nothing_or s (is_line_of Engine (is_calm s.recovery) item) x.still.rest.owed sets.fits.stands) x.its x.inside
engine_by m s PowerActs item x none work sets = absurd (false≢true (power_never m s x.stands x.still))

late_by : (m s : State) (letter : Letter) (item : Item) → Inside m s letter item → is_due s ≡ true → Sets (record s { event = Due }) item → false ≡ true
late_by m s Host item x late sets = host_told m x.still.end x.still.event
late_by m s Engine item x late sets =
    late_engine m s item x.still late sets.phase (nothing_of s Due (is_line_of PowerActs (is_calm s.recovery) item) (is_under_way s.busy item) (is_cut item) x.still.rest.owed sets.fits.stands) x.its
late_by m s Card item x late sets =
    late_card m s item x.still late sets.phase (nothing_of s Due (is_line_of PowerActs (is_calm s.recovery) item) (is_under_way s.busy item) (is_cut item) x.still.rest.owed sets.fits.stands) x.its
late_by m s PowerActs item x late sets = power_never m s x.stands x.still

host_by : (m s : State) (letter : Letter) (item : Item) → Inside m s letter item → has_work s ≡ true → Sets (begun_by s Host) item → false ≡ true
host_by m s letter item x work sets =
    let begun = host_begun s (is_silent s.recovery) refl work sets.told in
    let fits = (rw begun.1 at sets).fits in
    host_never m s letter item x.stands x.still (nothing_or s (is_line_of Host (is_calm s.recovery) item) x.still.rest.owed fits.stands) x.its

next_by : (m s : State) (letter : Letter) (item : Item) (work : Bool) (actor : Letter) → has_work s ≡ work → actor ≡ cond work Host Engine → Inside m s letter item → next_letter s ≡ None → Sets (begun_by s actor) item → First m (begun_by s actor) item
next_by m s letter item true actor work is x none sets = absurd (false≢true (host_by m s letter item x work (rw is at sets)))
next_by m s letter item false actor work is x none sets = rw is (engine_by m s letter item x none work (rw is at sets))

inside_first : (m s : State) (told : Letter) (item : Item) (late : Bool) (letter : Option Letter) (actor : Letter) → is_due s ≡ late → next_letter s ≡ letter → actor ≡ cond late PowerActs (chosen_by s letter) → is_shown s actor ≡ false
    → Inside m s told item → Sets (begun_by s actor) item → First m (begun_by s actor) item
inside_first m s told item true letter actor due at is unshown x sets = absurd (false≢true (late_by m s told item x due (rw (due_begun s due) at (rw is at sets))))
inside_first m s told item false (Some letter) actor due at is unshown x sets = absurd (false≢true (sym unshown ∙ (ap (λ a. is_shown s a) is ∙ letter_shown s letter at due)))
inside_first m s told item false None actor due at is unshown x sets = next_by m s told item (has_work s) actor refl is x at sets

told_first : (m s : State) (letter : Letter) (item : Item) (first : Bool) → starts m item ≡ first → StandsAt m s → m.event ≡ Told letter → to_do s ≡ true → is_shown s (chosen s) ≡ false → Sets (begun_by s (chosen s)) item → First m (begun_by s (chosen s)) item
told_first m s letter item true first st e some unshown sets =
    let x = still m s letter st e some in
    let r = rested m in
    lifted m (begun_by s (chosen s)) item first st.ends (ap (λ owed. record (ended m) { owed = owed }) (ended_owed m ∙ x.owed))
    (chosen_first r s item (is_due s) (next_letter s) (chosen s) refl refl refl unshown (between r s (rested_stands m s st) (rests m).event) sets)
told_first m s letter item false first st e some unshown sets =
    let x = still m s letter st e some in
    inside_first m s letter item (is_due s) (next_letter s) (chosen s) refl refl refl unshown (record { stands = st; still = x; inside = first; its = its_line m s letter item x first }) sets

pub due_told : (m : State) → end_rule m ≡ None → m.event ≡ Due → false ≡ true
unfolding end_rule
due_told m end e = absurd (cc (rw e at end))

event_first : (m s : State) (item : Item) (event : Event) → m.event ≡ event → StandsAt m s → to_do s ≡ true → is_shown s (chosen s) ≡ false → Sets (begun_by s (chosen s)) item → First m (begun_by s (chosen s)) item
event_first m s item Untold e st some unshown sets = chosen_first m s item (is_due s) (next_letter s) (chosen s) refl refl refl unshown (between m s st e) sets
event_first m s item Due e st some unshown sets = absurd (false≢true (due_told m st.ends e))
event_first m s item (Told letter) e st some unshown sets = told_first m s letter item (starts m item) refl st e some unshown sets

-- the first line is taken
pub next_first : (m s : State) (item : Item) → StandsAt m s → to_do s ≡ true → is_shown s (chosen s) ≡ false → Sets (begun_by s (chosen s)) item → First m (begun_by s (chosen s)) item
next_first m s item st some unshown sets = event_first m s item m.event refl st some unshown sets
