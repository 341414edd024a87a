-- A cut that no letter tells is taken, the engine's or that of a due line.
use Rattle.std.proofs.Common.{inl, inr, ◌≡◌, ◌∙◌, Bool, true, false, None, cond, ◌&&◌, ◌||◌, not, refl, ap, sym}
use Rattle.std.proofs.lemmas.Bool.{and_from, and_left, or_from, and_right, or_right}
use Rattle.storage_machine.specs.Commands.{is_calm}
use Rattle.storage_machine.specs.Cuts.{due_line, is_due}
use Rattle.storage_machine.specs.Host.{has_work, next_issue, recovery_steps, recovery_steps_at, to_do}
use Rattle.storage_machine.specs.declared.state.Event.{Event}
use Rattle.storage_machine.specs.declared.state.Event.TheVariants.{Untold, Told, Due}
use Rattle.storage_machine.specs.declared.state.Owed.{Owed}
use Rattle.storage_machine.specs.declared.state.Owed.TheVariants.{Nothing, Closed, Dark}
use Rattle.storage_machine.specs.declared.state.Recovery.{Recovery}
use Rattle.storage_machine.specs.declared.state.Recovery.TheVariants.{Calm, Halted, Cleared, Discarded, Cleaned, Resumed}
use Rattle.storage_machine.specs.declared.state.State.{State}
use Rattle.storage_model.specs.declared.faults.Letter.{Letter}
use Rattle.storage_model.specs.declared.faults.Letter.TheVariants.{Engine}
use Rattle.storage_model.specs.declared.trace.Item.TheVariants.{Cut}
use Rattle.storage_order.specs.Events.{end_rule, ended, engine_step}
use Rattle.storage_order.specs.Order.{engine_first, forced, is_next, with_due}
use Rattle.storage_runs.proofs.Ends.{First}
use Rattle.run_lines.proofs.Engines.{engine_next, enters_first, untold_starts}
use Rattle.storage_runs.proofs.Hushes.{Rests, rests}
use Rattle.storage_runs.proofs.Lags.{Reached, calm_work}
use Rattle.storage_runs.proofs.Lines.{event_none}
use Rattle.storage_runs.proofs.Mores.{calm_steps, either_same, ended_untold, start_none}
use Rattle.storage_runs.proofs.Turns.{due_owed}
use Rattle.storage_runs.specs.Laws.{StandsAt, rested}
use Rattle.trace_effects.proofs.Steps.{Touched, touched}
use Rattle.trace_effects.specs.Cuts.{used}
use Rattle.trace_effects.specs.Effects.{after_cut, at_cut, cut_at, effect, first_cut, is_last, is_quiet, letters_left, line_used, over}
use Rattle.trace_rules.specs.Lines.{cut_holds, holds, is_free, line_rule}
use Rattle.trace_rules.specs.Steps.{is_nothing, stands_in}

cut_rule_by : (s : State) (owed : Owed) → s.owed ≡ owed → is_free owed ≡ true → line_rule s Cut ≡ None
unfolding line_rule holds cut_holds
cut_rule_by s Nothing at free = rw at refl
cut_rule_by s Closed at free = rw at refl
cut_rule_by s owed at free = absurd (cc)

-- a cut may come where nothing is owed
pub cut_rule : (s : State) → is_free s.owed ≡ true → line_rule s Cut ≡ None
cut_rule s free = cut_rule_by s s.owed refl free

first_cut_by : (s : State) (owed : Owed) → is_free owed ≡ true → cut_at s owed ≡ first_cut s
first_cut_by s Nothing free = refl
first_cut_by s Closed free = refl
first_cut_by s owed free = absurd (cc)

pub cut_first : (s : State) → is_free s.owed ≡ true → effect s Cut ≡ first_cut s
unfolding effect after_cut
cut_first s free = first_cut_by s s.owed free

-- the power is lost, and no line of the fault text is used
abbrev pub plainly_cut : State → State
plainly_cut s = over (record s { worked = to_do s; spent = 0; notice = false; count = 0 }) (Dark 0)

-- the cut in this event
abbrev at_by : State → Event → State
at_by s event = cond (is_quiet event && not (letters_left s || to_do (recovery_steps s))) (recovery_steps s) s

abbrev first_by : State → Event → State
first_by s event = over (record s {
  slots = (at_by s event).slots;
  recovery = (at_by s event).recovery;
  cuts = used s.cuts (line_used s event);
  worked = to_do (at_by s event);
  spent = 0;
  notice = false;
  count = 0;
}) (Dark 0)

pub plain_untold : (s : State) → s.event ≡ Untold → first_cut s ≡ plainly_cut s
plain_untold s e = ap (first_by s) e

told_by : (s y : State) (letter : Letter) → Touched s y
    → over (record s { slots = y.slots; recovery = y.recovery; cuts = used s.cuts (line_used s (Told letter)); worked = to_do y; spent = 0; notice = false; count = 0 }) (Dark 0) ≡ plainly_cut y
told_by s y letter at = sym (ap (λ z. over (record z { slots = y.slots; recovery = y.recovery; worked = to_do y; spent = 0; notice = false; count = 0 }) (Dark 0)) at)

-- in an event that a letter tells
pub first_told : (s : State) (letter : Letter) → s.event ≡ Told letter → first_cut s ≡ plainly_cut (at_cut s)
first_told s letter e =
    ap (λ event. over (record s {
      slots = (at_cut s).slots;
      recovery = (at_cut s).recovery;
      cuts = used s.cuts (line_used s event);
      worked = to_do (at_cut s);
      spent = 0;
      notice = false;
      count = 0;
    }) (Dark 0)) e ∙ told_by s (at_cut s) letter (touched s)

-- without a recovery no step is taken
pub calm_cut : (s : State) → is_calm s.recovery ≡ true → at_cut s ≡ s
calm_cut s calm = either_same (is_last s) (recovery_steps s) s s (calm_steps s calm) refl

pub told_cut : (s : State) (letter : Letter) → s.event ≡ Told letter → is_calm s.recovery ≡ true → first_cut s ≡ plainly_cut s
told_cut s letter e calm = first_told s letter e ∙ ap (λ y. plainly_cut y) (calm_cut s calm)

plain_event : (s : State) (event : Event) → plainly_cut (record s { event = event }) ≡ plainly_cut s
unfolding to_do
plain_event s event = refl

pub plain_told : (s : State) → is_calm s.recovery ≡ true → first_cut (record s { event = Told Engine }) ≡ plainly_cut s
plain_told s calm = told_cut (record s { event = Told Engine }) Engine refl calm ∙ plain_event s (Told Engine)

pub plain_owed : (s : State) (owed : Owed) → plainly_cut (record s { owed = owed }) ≡ plainly_cut s
unfolding to_do
plain_owed s owed = refl

pub plain_tick : (s : State) → plainly_cut (record s { notice = true; count = 0 }) ≡ plainly_cut s
unfolding to_do
plain_tick s = refl

steps_owed_at : (s : State) (owed : Owed) (recovery : Recovery) → recovery_steps_at (record s { owed = owed }) recovery ≡ record (recovery_steps_at s recovery) { owed = owed }
steps_owed_at s owed Calm = refl
steps_owed_at s owed Halted = refl
steps_owed_at s owed Cleared = refl
steps_owed_at s owed Discarded = refl
steps_owed_at s owed Cleaned = refl
steps_owed_at s owed Resumed = refl

pub steps_owed : (s : State) (owed : Owed) → recovery_steps (record s { owed = owed }) ≡ record (recovery_steps s) { owed = owed }
unfolding recovery_steps
steps_owed s owed = steps_owed_at s owed s.recovery

-- the state as the acceptance has it, behind a complete phase or not
pub rested_owed : (m : State) → m.event ≡ Untold → m ≡ record (rested m) { owed = m.owed }
rested_owed m e = ap {A = State} (λ x. record x { owed = m.owed }) (sym (ended_untold m e))

-- in what state the acceptance takes an engine's cut
record IsCutAt (z s : State) : Type 0 where
  pub work : has_work z ≡ false
  pub late : is_due z ≡ false
  pub same : plainly_cut z ≡ plainly_cut s

cut_reached : (r s : State) → Reached r s → has_work s ≡ false → is_due s ≡ false → s.busy ≡ false → IsCutAt (recovery_steps r) s
cut_reached r s (inl x) work late busy =
    let at = sym x.steps ∙ calm_steps s (calm_work s work) in
    rw at (record { work = work; late = late; same = refl })
cut_reached r s (inr (inl x)) work late busy = record { work = x.work; late = x.late; same = sym (ap (λ y. plainly_cut y) x.state ∙ plain_tick (recovery_steps r)) }
cut_reached r s (inr (inr x)) work late busy = absurd (cc (ap (λ y. y.busy) x.state ∙ refl))

late_owed : (s : State) (owed : Owed) → is_due (record s { owed = owed }) ≡ is_due s
late_owed s owed = due_owed s owed

work_owed : (s : State) (owed : Owed) → has_work (record s { owed = owed }) ≡ has_work s
unfolding has_work next_issue
work_owed s owed = refl

-- no event that prints nothing comes before the engine's cut but the steps of a recovery
cut_forced : (m : State) → letters_left m ≡ false → is_due m ≡ false → is_due (recovery_steps m) ≡ false → forced m Cut ≡ recovery_steps m
unfolding forced
cut_forced m letters late late_y =
    let y = recovery_steps m in
    ap (λ b. with_due (cond b m (engine_first y Cut)) Cut) (or_from (letters_left m) (is_due m && true) letters (and_left (is_due m) true late))
    ∙ (ap (λ b. with_due (cond b (engine_step y) y) Cut) (and_right (not (has_work y)) false refl)
    ∙ ap (λ b. cond b (record y { event = Due }) y) (and_left (is_due y) true late_y))

cut_next : (s : State) → letters_left s ≡ false → has_work s ≡ false → is_next s Cut ≡ true
cut_next s letters work = engine_next s Cut letters work refl

-- the engine's cut is taken in y, the state after the recovery, with what is owed
cut_at_y : (m y b : State) → is_free m.owed ≡ true → m.event ≡ Untold → end_rule m ≡ None → letters_left m ≡ false → is_due m ≡ false → recovery_steps m ≡ y → y.event ≡ Untold → is_free y.owed ≡ true → letters_left y ≡ false
    → has_work y ≡ false → is_due y ≡ false → effect y Cut ≡ effect b Cut → First m b Cut
cut_at_y m y b free e end letters late at e_y free_y letters_y work late_y same =
    enters_first m y b Cut (untold_starts m Cut free e) end (record {
      entered = ap (λ x. forced x Cut) (ended_untold m e) ∙ (cut_forced m letters late (ap is_due at ∙ late_y) ∙ at);
      order = start_none y Cut (is_due (ended m)) (cut_next y letters_y work) (ap is_due (ended_untold m e) ∙ late);
      line = cut_rule y free_y;
      event = event_none y Cut (ap (λ event. stands_in y event Cut) e_y) refl refl refl;
      effect = same;
    })

cut_same : (z s : State) (owed : Owed) → is_free owed ≡ true → z.event ≡ Untold → s.owed ≡ Nothing → is_calm s.recovery ≡ true → plainly_cut z ≡ plainly_cut s
    → effect (record z { owed = owed }) Cut ≡ effect (record s { event = Told Engine }) Cut
cut_same z s owed free e rest calm same =
    cut_first (record z { owed = owed }) free
    ∙ (plain_untold (record z { owed = owed }) e
    ∙ (plain_owed z owed
    ∙ (same
    ∙ (sym (plain_told s calm)
    ∙ sym (cut_first (record s { event = Told Engine }) (ap is_free rest))))))

letters_steps_at : (s : State) (recovery : Recovery) → letters_left (recovery_steps_at s recovery) ≡ letters_left s
letters_steps_at s Calm = refl
letters_steps_at s Halted = refl
letters_steps_at s Cleared = refl
letters_steps_at s Discarded = refl
letters_steps_at s Cleaned = refl
letters_steps_at s Resumed = refl

letters_steps : (s : State) → letters_left (recovery_steps s) ≡ letters_left s
unfolding recovery_steps
letters_steps s = letters_steps_at s s.recovery

event_steps_at : (s : State) (recovery : Recovery) → (recovery_steps_at s recovery).event ≡ s.event
event_steps_at s Calm = refl
event_steps_at s Halted = refl
event_steps_at s Cleared = refl
event_steps_at s Discarded = refl
event_steps_at s Cleaned = refl
event_steps_at s Resumed = refl

event_steps : (s : State) → (recovery_steps s).event ≡ s.event
unfolding recovery_steps
event_steps s = event_steps_at s s.recovery

letters_rested : (m : State) → m.event ≡ Untold → letters_left (rested m) ≡ letters_left m
letters_rested m e = ap (λ x. letters_left x) (ended_untold m e)

pub due_rested : (m : State) → m.event ≡ Untold → is_due (rested m) ≡ is_due m
due_rested m e = due_owed (ended m) Nothing ∙ ap is_due (ended_untold m e)

-- the engine's cut is taken
pub engine_cut : (m s : State) → StandsAt m s → m.event ≡ Untold → Reached (rested m) s → letters_left (rested m) ≡ false → is_due (rested m) ≡ false → Rests s → has_work s ≡ false → is_due s ≡ false → s.busy ≡ false
    → First m (record s { event = Told Engine }) Cut
engine_cut m s st e on letters late rest work late_s busy =
    let r = rested m in
    let z = recovery_steps r in
    let cut = cut_reached r s on work late_s busy in
    let at = ap recovery_steps (rested_owed m e) ∙ steps_owed r m.owed in
    let e_z = event_steps r ∙ (rests m).event in
    let letters_m = sym (letters_rested m e) ∙ letters in
    cut_at_y m (record z { owed = m.owed }) (record s { event = Told Engine }) st.free e st.ends letters_m (sym (due_rested m e) ∙ late) at e_z st.free (letters_steps r ∙ letters)
    (work_owed z m.owed ∙ cut.work) (late_owed z m.owed ∙ cut.late) (cut_same z s m.owed st.free e_z rest.owed (calm_work s work) cut.same)

-- the cut of a due line is taken
due_forced : (m : State) → is_due m ≡ true → forced m Cut ≡ record m { event = Due }
unfolding forced
due_forced m late =
    ap (λ b. with_due (cond b m (engine_first (recovery_steps m) Cut)) Cut) (or_right (letters_left m) (is_due m && true) (and_from (is_due m) true late refl))
    ∙ ap (λ b. cond b (record m { event = Due }) m) (and_from (is_due m) true late refl)

due_stands : (m : State) (nothing : Bool) → cond nothing (true && true) true ≡ true
due_stands m true = refl
due_stands m false = refl

due_first : (s : State) (owed : Owed) → first_cut (record s { owed = owed; event = Due }) ≡ first_cut (record s { event = Due })
unfolding to_do due_line
due_first s owed = refl

due_same : (m s : State) → m ≡ record s { owed = m.owed } → is_free m.owed ≡ true → s.owed ≡ Nothing → effect (record m { event = Due }) Cut ≡ effect (record s { event = Due }) Cut
due_same m s at free rest =
    cut_first (record m { event = Due }) free
    ∙ (ap (λ x. first_cut (record x { event = Due })) at
    ∙ (due_first s m.owed
    ∙ sym (cut_first (record s { event = Due }) (ap is_free rest))))

pub due_cut_first : (m s : State) → StandsAt m s → m.event ≡ Untold → s ≡ rested m → Rests s → is_due s ≡ true → First m (record s { event = Due }) Cut
due_cut_first m s st e same rest late =
    let late_m = sym (due_rested m e) ∙ (ap is_due (sym same) ∙ late) in
    enters_first m (record m { event = Due }) (record s { event = Due }) Cut (untold_starts m Cut st.free e) st.ends (record {
      entered = ap (λ x. forced x Cut) (ended_untold m e) ∙ due_forced m late_m;
      order = refl;
      line = cut_rule (record m { event = Due }) st.free;
      event = event_none (record m { event = Due }) Cut (due_stands m (is_nothing m.owed)) refl refl refl;
      effect = due_same m s (rested_owed m e ∙ ap {A = State} (λ x. record x { owed = m.owed }) (sym same)) st.free rest.owed;
    })
