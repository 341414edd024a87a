-- The last letter was told of an event that printed nothing more, and the acceptance hasn't seen its end: the cut of a last flush is taken as one of that
-- event.
use Rattle.std.proofs.Common.{inl, inr, ◌+◌, ◌≡◌, ◌∙◌, ◌⊎◌, ℕ, Bool, true, false, None, cond, ◌&&◌, ◌||◌, nat_lt, length, not, refl, ap, sym}
use Rattle.std.proofs.lemmas.Bool.{false≢true, or_from}
use Rattle.run_events.proofs.CardLast.{rested_card, unsaid}
use Rattle.run_events.proofs.Engines.{may_told, rested_engine}
use Rattle.run_events.proofs.Finals.{calm_idle, letters_same, reached_end}
use Rattle.run_events.proofs.Firsts.{nothing_is, owed_nothing}
use Rattle.run_events.proofs.Still.{host_told, power_told, recovery_rested}
use Rattle.run_lines.proofs.Cuts.{calm_cut, cut_first, cut_rule, first_told, plain_untold, plainly_cut}
use Rattle.storage_machine.specs.Commands.{due, is_calm, is_idle}
use Rattle.storage_machine.specs.Host.{recovery_steps, recovery_steps_at, to_do}
use Rattle.storage_machine.specs.declared.commands.DueCommand.{DueCommand}
use Rattle.storage_machine.specs.declared.commands.DueCommand.TheVariants.{Idle, Address, Params, Direct, Execute, Poll}
use Rattle.storage_machine.specs.declared.state.Event.{Event}
use Rattle.storage_machine.specs.declared.state.Event.TheVariants.{Untold, Told, Due}
use Rattle.storage_machine.specs.declared.state.Owed.TheVariants.{Nothing}
use Rattle.storage_machine.specs.declared.state.Recovery.{Recovery}
use Rattle.storage_machine.specs.declared.state.Recovery.TheVariants.{Calm, Halted, Cleared, Discarded, Cleaned, Resumed}
use Rattle.storage_machine.specs.declared.state.State.{State}
use Rattle.storage_model.specs.declared.faults.Letter.{Letter}
use Rattle.storage_model.specs.declared.faults.Letter.TheVariants.{Host, Engine, Card, Cut as PowerActs}
use Rattle.storage_model.specs.declared.trace.Item.TheVariants.{Cut}
use Rattle.storage_order.specs.Events.{end_rule, ended, ended_by, engine_may_pass, engine_step, is_untold, may_pass, passed}
use Rattle.storage_order.specs.Order.{starts}
use Rattle.storage_runs.proofs.Ends.{First}
use Rattle.storage_runs.proofs.Hushes.{Rests, engine_kept, pass_event, rests, rests_kept, unseen_kept}
use Rattle.storage_runs.proofs.Lags.{unseen_letters, unseen_reached}
use Rattle.storage_runs.proofs.Lines.{event_none, order_same, settled_same}
use Rattle.storage_runs.proofs.Mores.{calm_steps, or_true}
use Rattle.storage_runs.proofs.Told.{told_starts}
use Rattle.storage_runs.specs.Laws.{StandsAt, rested}
use Rattle.trace_effects.specs.Effects.{at_cut, is_quiet, letters_left}
use Rattle.trace_rules.specs.Lines.{is_free}
use Rattle.trace_rules.specs.Steps.{is_nothing, stands_in}

-- whose event is under way doesn't touch the cut
event_steps_at : (m : State) (event : Event) (recovery : Recovery) → plainly_cut (recovery_steps_at (record m { event = event }) recovery) ≡ plainly_cut (recovery_steps_at m recovery)
unfolding to_do
event_steps_at m event Calm = refl
event_steps_at m event Halted = refl
event_steps_at m event Cleared = refl
event_steps_at m event Discarded = refl
event_steps_at m event Cleaned = refl
event_steps_at m event Resumed = refl

event_steps : (m : State) (event : Event) → plainly_cut (recovery_steps (record m { event = event })) ≡ plainly_cut (recovery_steps m)
unfolding recovery_steps
event_steps m event = event_steps_at m event m.recovery

-- nor do counted completions that are told
tick_steps_at : (q : State) (recovery : Recovery) → plainly_cut (recovery_steps_at (record q { notice = true; count = 0 }) recovery) ≡ plainly_cut (recovery_steps_at q recovery)
unfolding to_do
tick_steps_at q Calm = refl
tick_steps_at q Halted = refl
tick_steps_at q Cleared = refl
tick_steps_at q Discarded = refl
tick_steps_at q Cleaned = refl
tick_steps_at q Resumed = refl

tick_steps : (q : State) (told : Bool) → plainly_cut (recovery_steps (cond told (record q { notice = true; count = 0 }) q)) ≡ plainly_cut (recovery_steps q)
unfolding recovery_steps
tick_steps q true = tick_steps_at q q.recovery
tick_steps q false = refl

busy_steps_at : (y : State) (recovery : Recovery) → (recovery_steps_at y recovery).busy ≡ y.busy
busy_steps_at y Calm = refl
busy_steps_at y Halted = refl
busy_steps_at y Cleared = refl
busy_steps_at y Discarded = refl
busy_steps_at y Cleaned = refl
busy_steps_at y Resumed = refl

busy_steps : (y : State) → (recovery_steps y).busy ≡ y.busy
unfolding recovery_steps
busy_steps y = busy_steps_at y y.recovery

pass_steps : (q : State) (command : DueCommand) → may_pass q command ≡ true → (passed q command).busy ≡ false → plainly_cut (recovery_steps (passed q command)) ≡ plainly_cut (recovery_steps q)
pass_steps q Idle may busy = tick_steps q (is_idle q && nat_lt 0 q.count)
pass_steps q (Execute tag) may busy = absurd (false≢true (sym busy ∙ ap (λ b. (cond b (record q { busy = true; spent = q.spent + 1 }) q).busy) may))
pass_steps q (Address tag) may busy = absurd (cc)
pass_steps q (Params tag) may busy = absurd (cc)
pass_steps q (Direct tag) may busy = absurd (cc)
pass_steps q Poll may busy = absurd (cc)

engine_steps : (q : State) → engine_may_pass q ≡ true → (engine_step q).busy ≡ false → plainly_cut (recovery_steps (engine_step q)) ≡ plainly_cut (recovery_steps q)
unfolding engine_step engine_may_pass
engine_steps q may busy = pass_steps q (due q) may busy

-- the acceptor m, to which a letter was told, and the state s of the run
record IsLate (m s : State) (letter : Letter) : Type 0 where
  owed : m.owed ≡ Nothing
  event : m.event ≡ Told letter
  end : end_rule m ≡ None
  none : to_do s ≡ false
  idle : s.busy ≡ false
  steps : recovery_steps (rested m) ≡ s
  same : letters_left m ≡ true → s ≡ rested m

rested_power : (m : State) → m.event ≡ Told PowerActs → m.owed ≡ Nothing → rested m ≡ unsaid m
unfolding ended
rested_power m e owed = ap {A = State} (λ x. record x { owed = Nothing }) (ap (ended_by m) e) ∙ ap (λ o. record m { event = Untold; owed = o }) (sym owed)

-- the cut is the same behind the steps of the recovery
engine_same : (m s : State) → IsLate m s Engine → plainly_cut s ≡ plainly_cut (recovery_steps m)
engine_same m s x =
    let q = unsaid m in
    let rest = rested_engine m x.event x.owed in
    let busy = sym (busy_steps (engine_step q)) ∙ (ap (λ y. (recovery_steps y).busy) (sym rest) ∙ (ap (λ y. y.busy) x.steps ∙ x.idle)) in
    ap (λ y. plainly_cut y) (sym x.steps)
    ∙ (ap (λ y. plainly_cut (recovery_steps y)) rest
    ∙ (engine_steps q (pass_event m Untold ∙ may_told m x.event x.end) busy ∙ event_steps m Untold))

unsaid_same : (m s : State) → recovery_steps (rested m) ≡ s → rested m ≡ unsaid m → plainly_cut s ≡ plainly_cut (recovery_steps m)
unsaid_same m s steps rest = ap (λ y. plainly_cut y) (sym steps) ∙ (ap (λ y. plainly_cut (recovery_steps y)) rest ∙ event_steps m Untold)

late_same : (m s : State) (letter : Letter) → IsLate m s letter → plainly_cut s ≡ plainly_cut (recovery_steps m)
late_same m s Host x = absurd (false≢true (host_told m x.end x.event))
late_same m s Engine x = engine_same m s x
late_same m s Card x = unsaid_same m s x.steps (rested_card m x.event x.owed)
late_same m s PowerActs x = unsaid_same m s x.steps (rested_power m x.event x.owed)

-- and these are taken before it
calm_at : (m : State) → is_calm m.recovery ≡ true → at_cut m ≡ recovery_steps m
calm_at m calm = calm_cut m calm ∙ sym (calm_steps m calm)

quiet_at : (m s : State) (letter : Letter) (left : Bool) → letters_left m ≡ left → IsLate m s letter → is_quiet m.event ≡ true → at_cut m ≡ recovery_steps m
quiet_at m s letter true letters x quiet =
    let calm = calm_idle s x.none in
    calm_at m (ap is_calm (sym (recovery_rested m)) ∙ (ap (λ y. is_calm y.recovery) (sym (x.same letters)) ∙ calm))
quiet_at m s letter false letters x quiet =
    let none = sym (ap (λ y. y.worked) (late_same m s letter x)) ∙ x.none in
    ap (λ b. cond (b && not (letters_left m || to_do (recovery_steps m))) (recovery_steps m) m) quiet
    ∙ ap (λ b. cond (not b) (recovery_steps m) m) (or_from (letters_left m) (to_do (recovery_steps m)) letters none)

power_at : (m : State) (some : Bool) → to_do m ≡ some → end_rule m ≡ None → m.event ≡ Told PowerActs → at_cut m ≡ recovery_steps m
power_at m true some end e = absurd (false≢true (power_told m end e some))
power_at m false some end e = calm_at m (calm_idle m some)

late_at : (m s : State) (letter : Letter) → IsLate m s letter → at_cut m ≡ recovery_steps m
late_at m s Host x = absurd (false≢true (host_told m x.end x.event))
late_at m s Engine x = quiet_at m s Engine (letters_left m) refl x (ap is_quiet x.event)
late_at m s Card x = quiet_at m s Card (letters_left m) refl x (ap is_quiet x.event)
late_at m s PowerActs x = power_at m (to_do m) refl x.end x.event

-- the cut stands in that event
late_starts : (m s : State) (letter : Letter) → IsLate m s letter → starts m Cut ≡ false
late_starts m s Host x = absurd (false≢true (host_told m x.end x.event))
late_starts m s Engine x = told_starts m Engine Cut x.owed x.event refl refl
late_starts m s Card x = told_starts m Card Cut x.owed x.event refl refl
late_starts m s PowerActs x = told_starts m PowerActs Cut x.owed x.event refl refl

late_stands : (m s : State) (letter : Letter) → IsLate m s letter → stands_in m (Told letter) Cut ≡ true
late_stands m s Host x = absurd (false≢true (host_told m x.end x.event))
late_stands m s Engine x = or_true (not (is_nothing m.owed))
late_stands m s Card x = ap (λ owed. cond (is_nothing owed) (true && true) true) x.owed
late_stands m s PowerActs x = ap (λ owed. cond (is_nothing owed) (true && true) true) x.owed

late_first : (m s : State) (letter : Letter) → IsLate m s letter → Rests s → First m s Cut
late_first m s letter x rest =
    let inside = late_starts m s letter x in
    let free = ap is_free x.owed in
    record {
      at = m;
      settled = settled_same m Cut inside;
      order = order_same m Cut inside;
      line = cut_rule m free;
      event = event_none m Cut (ap (λ event. stands_in m event Cut) x.event ∙ late_stands m s letter x) refl refl refl;
      effect =
          cut_first m free
          ∙ (first_told m letter x.event
          ∙ (ap (λ y. plainly_cut y) (late_at m s letter x)
          ∙ (sym (late_same m s letter x) ∙ (sym (plain_untold s rest.event) ∙ sym (cut_first s (ap is_free rest.owed))))));
    }

-- the letters that are left
letters_engine : (q : State) → letters_left (engine_step q) ≡ letters_left q
letters_engine q =
    let kept = engine_kept q in
    ap (λ faults. nat_lt (engine_step q).letters (length faults.turns)) kept.faults ∙ ap (λ letters. nat_lt letters (length q.faults.turns)) kept.letters

letters_event : (m : State) (event : Event) → letters_left (ended_by m event) ≡ letters_left m
letters_event m Untold = refl
letters_event m Due = refl
letters_event m (Told Host) = refl
letters_event m (Told Engine) = letters_engine (unsaid m)
letters_event m (Told Card) = refl
letters_event m (Told PowerActs) = refl

letters_rested : (m : State) → letters_left (rested m) ≡ letters_left m
unfolding ended
letters_rested m = letters_event m m.event

pub same_rest : (m s : State) → StandsAt m s → letters_left m ≡ true → s ≡ rested m
same_rest m s st left = letters_same (rested m) s (unseen_letters st.count (rested m) s (rests m) st.unseen) (letters_rested m ∙ left)

-- the cut of a last flush, behind a letter
pub last_first : (m s : State) (letter : Letter) → StandsAt m s → m.event ≡ Told letter → to_do s ≡ false → s.busy ≡ false → First m s Cut
last_first m s letter st e none idle =
    let r = rested m in
    late_first m s letter (record {
      owed = nothing_is m.owed (owed_nothing (is_nothing m.owed) (is_untold m.event) st.whole (ap is_untold e));
      event = e;
      end = st.ends;
      none = none;
      idle = idle;
      steps = reached_end r s (unseen_reached st.count r s (rests m) st.unseen) none;
      same = same_rest m s st;
    }) (rests_kept r s (rests m) (unseen_kept st.count r s (rests m) st.unseen))
