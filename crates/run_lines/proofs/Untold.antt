-- The first line of an event that no letter tells is taken, where the event before is over.
use Rattle.std.proofs.Common.{◌≡◌, ◌∙◌, Bool, true, false, Option, Some, None, cond, ◌&&◌, ◌||◌, not, slice_get, refl, ap, sym}
use Rattle.std.proofs.lemmas.Bool.{false≢true, and_parts}
use Rattle.storage_machine.specs.Commands.{is_calm}
use Rattle.storage_machine.specs.Cuts.{is_due}
use Rattle.storage_machine.specs.Host.{has_work, is_silent, recovery_step}
use Rattle.storage_machine.specs.declared.state.Event.{Event}
use Rattle.storage_machine.specs.declared.state.Event.TheVariants.{Untold, Told, Due}
use Rattle.storage_machine.specs.declared.state.Owed.TheVariants.{Nothing}
use Rattle.storage_machine.specs.declared.state.State.{State}
use Rattle.storage_model.specs.declared.faults.Letter.{Letter}
use Rattle.storage_model.specs.declared.faults.Letter.TheVariants.{Host, Engine, Cut as PowerActs}
use Rattle.storage_model.specs.declared.trace.Item.{Item}
use Rattle.storage_model.specs.declared.trace.Item.TheVariants.{Params, Address, Poll, Phase, Bus, Cut}
use Rattle.storage_order.specs.Accept.{accept_from}
use Rattle.storage_order.specs.Events.{Fits, is_untold, shows_phase}
use Rattle.run_lines.proofs.Cuts.{engine_cut}
use Rattle.storage_runs.proofs.Ends.{First}
use Rattle.run_lines.proofs.Engines.{command_first}
use Rattle.run_lines.proofs.Hosts.{host_first, no_letters}
use Rattle.storage_runs.proofs.Hushes.{letter_shown, rests, rests_kept, unseen_kept}
use Rattle.storage_runs.proofs.Lags.{unseen_late, unseen_letters, unseen_reached}
use Rattle.run_lines.proofs.Phases.{engine_phase}
use Rattle.run_lines.proofs.Powers.{Between, power_cut, power_phase}
use Rattle.run_lines.specs.Laws.{IsFirstTaken, Sets}
use Rattle.storage_runs.proofs.Lines.{one_taken}
use Rattle.storage_runs.specs.Laws.{StandsAt, rested}
use Rattle.storage_runs.specs.Runs.{chosen, chosen_by, is_shown, next_letter}
use Rattle.trace_effects.specs.Effects.{begun_by, letters_left}
use Rattle.trace_rules.specs.Steps.{is_cut, is_line_of, is_nothing, is_under_way, yields_to_cut}

pub between : (m s : State) → StandsAt m s → m.event ≡ Untold → Between m s
between m s st e =
    let kept = unseen_kept st.count (rested m) s (rests m) st.unseen in
    record {
      stands = st;
      event = e;
      rest = rests_kept (rested m) s (rests m) kept;
      on = unseen_reached st.count (rested m) s (rests m) st.unseen;
      late = unseen_late st.count (rested m) s (rests m) st.unseen;
      letters = unseen_letters st.count (rested m) s (rests m) st.unseen;
      kept = kept;
    }

pub free_of : (busy : Bool) → not (busy && true) ≡ true → busy ≡ false
free_of true e = absurd (cc)
free_of false e = refl

-- power's event
power_line : (m s : State) (item : Item) → Between m s → is_due s ≡ true → Fits (record s { event = Due }) item → shows_phase (record s { event = Due }) item ≡ true → yields_to_cut (record s { event = Due }) item ≡ true
    → is_line_of PowerActs (is_calm s.recovery) item ≡ true → First m (record s { event = Due }) item
power_line m s (Phase n id count kept) x due fits phase yields line = power_phase m s n id count kept x due fits yields
power_line m s Cut x due fits phase yields line = power_cut m s x due (free_of s.busy phase)
power_line m s item x due fits phase yields line = absurd (cc)

-- the engine's
engine_line : (m s : State) (item : Item) → Between m s → letters_left (rested m) ≡ false → letters_left s ≡ false → is_due (rested m) ≡ false → has_work s ≡ false → is_due s ≡ false → Fits (record s { event = Told Engine }) item
    → shows_phase (record s { event = Told Engine }) item ≡ true → yields_to_cut (record s { event = Told Engine }) item ≡ true → is_line_of Engine (is_calm s.recovery) item ≡ true → First m (record s { event = Told Engine }) item
engine_line m s (Params n id) x letters letters_s late work late_s fits phase yields line = command_first m s (Params n id) x.stands x.event x.rest x.on letters letters_s late work fits refl line
engine_line m s (Address n id) x letters letters_s late work late_s fits phase yields line = command_first m s (Address n id) x.stands x.event x.rest x.on letters letters_s late work fits refl line
engine_line m s (Poll n mask) x letters letters_s late work late_s fits phase yields line = command_first m s (Poll n mask) x.stands x.event x.rest x.on letters letters_s late work fits refl line
engine_line m s (Bus n kind id) x letters letters_s late work late_s fits phase yields line = command_first m s (Bus n kind id) x.stands x.event x.rest x.on letters letters_s late work fits refl line
engine_line m s (Phase n id count kept) x letters letters_s late work late_s fits phase yields line =
    engine_phase m s n id count kept x.stands x.event x.on letters late x.rest letters_s work late_s fits yields
engine_line m s Cut x letters letters_s late work late_s fits phase yields line = engine_cut m s x.stands x.event x.on letters late x.rest work late_s (free_of s.busy phase)
engine_line m s item x letters letters_s late work late_s fits phase yields line = absurd (cc)

pub nothing_of : (s : State) (event : Event) (line rest cut : Bool) → s.owed ≡ Nothing → cond (is_nothing s.owed) (line && rest) cut ≡ true → line ≡ true
nothing_of s event line rest cut owed stands = (and_parts line rest (sym (ap (λ owed. cond (is_nothing owed) (line && rest) cut) owed) ∙ stands)).0

pub nothing_or : (s : State) (line : Bool) → s.owed ≡ Nothing → (not (is_nothing s.owed) || line) ≡ true → line ≡ true
nothing_or s line owed stands = sym (ap (λ owed. not (is_nothing owed) || line) owed) ∙ stands

due_opens : (m s : State) (item : Item) → Between m s → is_due s ≡ true → Sets (record s { event = Due }) item → First m (record s { event = Due }) item
due_opens m s item x due opens =
    power_line m s item x due opens.fits opens.phase opens.yields (nothing_of s Due (is_line_of PowerActs (is_calm s.recovery) item) (is_under_way s.busy item) (is_cut item) x.rest.owed opens.fits.stands)

none_before : (m s : State) → Between m s → next_letter s ≡ None → letters_left (rested m) ≡ false
none_before m s x none = no_letters (rested m) (ap (λ faults. slice_get faults.turns (rested m).letters) (sym x.kept.faults) ∙ (ap (λ letters. slice_get s.faults.turns letters) (sym x.kept.letters) ∙ none))

not_late : (m s : State) (late : Bool) → is_due (rested m) ≡ late → Between m s → is_due s ≡ false → is_due (rested m) ≡ false
not_late m s false at x due = at
not_late m s true at x due = absurd (false≢true (sym due ∙ (ap is_due (x.late at) ∙ at)))

-- the host's
host_opens : (m s : State) (item : Item) → Between m s → next_letter s ≡ None → has_work s ≡ true → is_silent s.recovery ≡ false → is_due s ≡ false → Sets (record s { event = Told Host }) item → First m (record s { event = Told Host }) item
host_opens m s item x none work quiet due opens =
    host_first m s item x.stands x.rest x.on (none_before m s x none) (no_letters s none) (not_late m s (is_due (rested m)) refl x due) work quiet opens.fits
    (nothing_or s (is_line_of Host (is_calm s.recovery) item) x.rest.owed opens.fits.stands)

engine_opens : (m s : State) (item : Item) → Between m s → next_letter s ≡ None → has_work s ≡ false → is_due s ≡ false → Sets (record s { event = Told Engine }) item → First m (record s { event = Told Engine }) item
engine_opens m s item x none work due opens =
    engine_line m s item x (none_before m s x none) (no_letters s none) (not_late m s (is_due (rested m)) refl x due) work due opens.fits opens.phase opens.yields
    (nothing_or s (is_line_of Engine (is_calm s.recovery) item) x.rest.owed opens.fits.stands)

pub host_begun : (s : State) (silent : Bool) → is_silent s.recovery ≡ silent → has_work s ≡ true → is_untold (begun_by s Host).event ≡ false → (is_silent s.recovery ≡ false) × (begun_by s Host ≡ record s { event = Told Host })
host_begun s true at work told = absurd (false≢true (sym told ∙ ap (λ silent. is_untold (cond silent (record (recovery_step s) { event = Untold }) (record s { event = cond (has_work s) (Told Host) Untold })).event) at))
host_begun s false at work told = (
  at,
  ap (λ silent. cond silent (record (recovery_step s) { event = Untold }) (record s { event = cond (has_work s) (Told Host) Untold })) at
      ∙ ap (λ busy. record s { event = cond busy (Told Host) Untold }) work,
)

pub opens_at : (m b c : State) (item : Item) → b ≡ c → First m c item → First m b item
opens_at m b c item at first = rw at first

host_by : (m s : State) (item : Item) → Between m s → next_letter s ≡ None → has_work s ≡ true → is_due s ≡ false → Sets (begun_by s Host) item → First m (begun_by s Host) item
host_by m s item x none work due opens =
    let begun = host_begun s (is_silent s.recovery) refl work opens.told in
    opens_at m (begun_by s Host) (record s { event = Told Host }) item begun.1 (host_opens m s item x none work begun.0 due (rw begun.1 at opens))

next_by : (m s : State) (item : Item) (work : Bool) (actor : Letter) → has_work s ≡ work → actor ≡ cond work Host Engine → Between m s → next_letter s ≡ None → is_due s ≡ false → Sets (begun_by s actor) item → First m (begun_by s actor) item
next_by m s item true actor work is x none due opens = rw is (host_by m s item x none work due (rw is at opens))
next_by m s item false actor work is x none due opens = rw is (engine_opens m s item x none work due (rw is at opens))

pub due_begun : (s : State) → is_due s ≡ true → begun_by s PowerActs ≡ record s { event = Due }
due_begun s due = ap (λ late. record s { event = cond late Due (Told PowerActs) }) due

due_by : (m s : State) (item : Item) → Between m s → is_due s ≡ true → Sets (begun_by s PowerActs) item → First m (begun_by s PowerActs) item
due_by m s item x due opens = opens_at m (begun_by s PowerActs) (record s { event = Due }) item (due_begun s due) (due_opens m s item x due (rw (due_begun s due) at opens))

pub chosen_first : (m s : State) (item : Item) (late : Bool) (letter : Option Letter) (actor : Letter) → is_due s ≡ late → next_letter s ≡ letter → actor ≡ cond late PowerActs (chosen_by s letter) → is_shown s actor ≡ false
    → Between m s → Sets (begun_by s actor) item → First m (begun_by s actor) item
chosen_first m s item true letter actor due at is unshown x opens = rw is (due_by m s item x due (rw is at opens))
chosen_first m s item false (Some letter) actor due at is unshown x opens = absurd (false≢true (sym unshown ∙ (ap (λ a. is_shown s a) is ∙ letter_shown s letter at due)))
chosen_first m s item false None actor due at is unshown x opens = next_by m s item (has_work s) actor refl is x at due opens

pub first_taken : (m s : State) (item : Item) → IsFirstTaken m s item
first_taken m s item st e unshown sets more =
    let first = chosen_first m s item (is_due s) (next_letter s) (chosen s) refl refl refl unshown (between m s st e) sets in
    one_taken m first.at item first.settled first.order first.line first.event more ∙ ap (accept_from more) first.effect
