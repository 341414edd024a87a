-- The engine's event that was told printed nothing more than its letter: the engine's next event is taken as one with it.
use Rattle.std.proofs.Common.{inl, inr, ◌≡◌, ◌∙◌, ◌⊎◌, ℕ, ◌+◌, Bool, true, false, None, cond, not, refl, ap, sym}
use Rattle.std.proofs.lemmas.Bool.{false≢true, and_from}
use Rattle.storage_machine.specs.Commands.{due, hit, is_gone}
use Rattle.storage_machine.specs.Cuts.{has_own_line, is_due}
use Rattle.storage_machine.specs.Host.{has_work}
use Rattle.storage_machine.specs.declared.commands.DueCommand.{DueCommand}
use Rattle.storage_machine.specs.declared.commands.DueCommand.TheVariants.{Idle, Address, Params, Direct, Execute, Poll}
use Rattle.storage_machine.specs.declared.state.Event.TheVariants.{Untold, Told}
use Rattle.storage_machine.specs.declared.state.Owed.TheVariants.{Nothing}
use Rattle.storage_machine.specs.declared.state.State.{State}
use Rattle.storage_model.specs.declared.faults.Letter.TheVariants.{Engine}
use Rattle.storage_model.specs.declared.trace.Item.{Item}
use Rattle.storage_model.specs.declared.trace.Item.TheVariants.{Phase, Cut}
use Rattle.storage_order.proofs.Accepts.{holds_unbroken}
use Rattle.storage_order.specs.Events.{end_rule, ended, ended_by, engine_may_pass, engine_step, may_pass, passed, rule_of_end}
use Rattle.storage_order.specs.Order.{starts}
use Rattle.run_events.proofs.Idles.{late_onward}
use Rattle.run_events.proofs.Still.{IsItsLine, Still, plain_onward, still_depth, still_onward, told_cut_first}
use Rattle.run_events.proofs.CardLast.{plain_unsaid, unsaid}
use Rattle.run_lines.proofs.Cuts.{plain_tick, plainly_cut}
use Rattle.storage_runs.proofs.Ends.{First}
use Rattle.run_lines.proofs.Engines.{hit_busy, hit_execute, is_command, not_due, not_executed}
use Rattle.storage_runs.proofs.Hushes.{engine_kept, pass_event, pass_where}
use Rattle.storage_runs.proofs.Lags.{IsBusied, Onward, calm_work, due_busy, due_tick, not_idle, not_true}
use Rattle.storage_runs.proofs.Lines.{event_none, order_same, settled_same}
use Rattle.storage_runs.proofs.Mores.{or_true}
use Rattle.run_lines.proofs.Owns.{own_line}
use Rattle.run_lines.proofs.Phases.{busy_line, cut_by_event, due_event, hit_event, idle_phase, phase_line, phase_same, uncut_yields}
use Rattle.run_lines.proofs.Powers.{due_ticked}
use Rattle.storage_runs.proofs.Told.{due_event as late_event}
use Rattle.storage_runs.specs.Laws.{rested}
use Rattle.trace_rules.specs.Lines.{holds, line_rule}
use Rattle.trace_rules.specs.Steps.{earlier, is_cut_by, is_execute, is_nothing, stands_in}

-- the engine had nothing to send
pub record Idled (m r : State) : Type 0 where
  pub due : due r ≡ Idle
  pub late : is_due r ≡ false
  pub same : plainly_cut r ≡ plainly_cut m

-- or its phase went on
pub record Ran (m r : State) : Type 0 where
  pub tag : ℕ
  pub execute : due (unsaid m) ≡ Execute tag
  pub may : may_pass (unsaid m) (Execute tag) ≡ true
  pub late : is_due (unsaid m) ≡ false
  pub spent : ℕ
  pub state : r ≡ record (unsaid m) { busy = true; spent = spent }

abbrev pub Passed : State → State → Type 0
Passed m r = Idled m r ⊎ Ran m r

idle_cases : (m r : State) (told : Bool) → due (unsaid m) ≡ Idle → is_due (unsaid m) ≡ false → r ≡ cond told (record (unsaid m) { notice = true; count = 0 }) (unsaid m) → Idled m r
idle_cases m r true idle late state = record {
  due = ap due state ∙ (due_tick (unsaid m) ∙ idle);
  late = ap is_due state ∙ (due_ticked (unsaid m) ∙ late);
  same = ap (λ y. plainly_cut y) state ∙ (plain_tick (unsaid m) ∙ plain_unsaid m);
}
idle_cases m r false idle late state = record {
  due = ap due state ∙ idle;
  late = ap is_due state ∙ late;
  same = ap (λ y. plainly_cut y) state ∙ plain_unsaid m;
}

pass_cases : (m r : State) (command : DueCommand) → due (unsaid m) ≡ command → is_due (unsaid m) ≡ false → may_pass (unsaid m) command ≡ true → r ≡ passed (unsaid m) command → Passed m r
pass_cases m r Idle at late may state = inl (idle_cases m r _ at late state)
pass_cases m r (Address x) at late may state = absurd (cc)
pass_cases m r (Params x) at late may state = absurd (cc)
pass_cases m r (Direct x) at late may state = absurd (cc)
pass_cases m r Poll at late may state = absurd (cc)
pass_cases m r (Execute tag) at late may state = inr (record {
  tag = tag;
  execute = at;
  may = may;
  late = late;
  spent = m.spent + 1;
  state = state ∙ ap (λ b. cond b (record (unsaid m) { busy = true; spent = m.spent + 1 }) (unsaid m)) may;
})

pub may_told : (m : State) → m.event ≡ Told Engine → end_rule m ≡ None → engine_may_pass m ≡ true
unfolding end_rule
may_told m e end = pass_where (engine_may_pass m) (sym (ap (rule_of_end m) e) ∙ end)

pub rested_engine : (m : State) → m.event ≡ Told Engine → m.owed ≡ Nothing → rested m ≡ engine_step (unsaid m)
unfolding ended
rested_engine m e owed =
    ap {A = State} (λ y. record y { owed = Nothing }) (ap (ended_by m) e)
    ∙ ap (λ owed. record (engine_step (unsaid m)) { owed = owed }) (sym ((engine_kept (unsaid m)).owed ∙ owed))

passed_by : (m r : State) → r ≡ engine_step (unsaid m) → engine_may_pass (unsaid m) ≡ true → is_due (unsaid m) ≡ false → Passed m r
unfolding engine_step engine_may_pass
passed_by m r state may late = pass_cases m r (due (unsaid m)) refl late may state

-- what the told event did
pub engine_passed : (m s : State) → Still m s Engine → Passed m (rested m)
engine_passed m s x = passed_by m (rested m) (rested_engine m x.event x.owed) (pass_event m Untold ∙ may_told m x.event x.end) (late_event m Untold ∙ x.late)

-- where the engine had nothing to send, it has nothing now
idle_onward : (m r s : State) → Idled m r → Onward r s → due s ≡ Idle
idle_onward m r s x (inl same) = ap due same ∙ x.due
idle_onward m r s x (inr (inl tick)) = ap due tick.state ∙ (due_tick r ∙ x.due)
idle_onward m r s x (inr (inr phase)) = absurd (cc (sym x.due ∙ phase.execute))

-- the state where its phase is under way
record IsRunning (m s : State) : Type 0 where
  pub spent : ℕ
  pub state : s ≡ record (unsaid m) { busy = true; spent = spent }

running_execute : (m r : State) → (x : Ran m r) → due r ≡ Execute x.tag
running_execute m r x = ap due x.state ∙ due_busy (unsaid m) x.spent x.tag x.execute

run_onward : (m r s : State) → Ran m r → Onward r s → IsRunning m s
run_onward m r s x (inl same) = record { spent = x.spent; state = same ∙ x.state }
run_onward m r s x (inr (inl tick)) = absurd (false≢true (not_idle r x.tag tick.idle (running_execute m r x)))
run_onward m r s x (inr (inr phase)) = record { spent = phase.spent; state = phase.state ∙ ap {A = State} (λ y. record y { busy = true; spent = phase.spent }) x.state }

unbroken : (s : State) (item : Item) → line_rule s item ≡ None → holds s item ≡ true
unbroken s item line = holds_unbroken s item None (ap (λ rule. earlier rule None) line)

-- the engine's further command
pub engine_command : (m s : State) (item : Item) → Still m s Engine → Passed m (rested m) → has_work s ≡ false → is_command item ≡ true → line_rule s item ≡ None → false ≡ true
engine_command m s item x (inl idle) work is line =
    not_due s item is x.rest.owed (calm_work s work) (unbroken s item line) (idle_onward m (rested m) s idle (still_onward m s Engine x work))
engine_command m s item x (inr ran) work is line =
    let on = run_onward m (rested m) s ran (still_onward m s Engine x work) in
    not_executed s item ran.tag is x.rest.owed (unbroken s item line) (ap due on.state ∙ due_busy (unsaid m) on.spent ran.tag ran.execute)
    (ap is_gone (ap hit on.state ∙ hit_busy (unsaid m) on.spent ran.tag ran.execute) ∙ hit_execute (unsaid m) ran.tag ran.may)

engine_stands : (m : State) (item : Item) → m.event ≡ Told Engine → stands_in m (Told Engine) item ≡ true → stands_in m m.event item ≡ true
engine_stands m item e stands = ap (λ event. stands_in m event item) e ∙ stands

-- its cut
pub engine_cut : (m s : State) → Still m s Engine → Passed m (rested m) → has_work s ≡ false → (s.busy ≡ true → false ≡ true) → starts m Cut ≡ false → First m (record s { event = Told Engine }) Cut
engine_cut m s x (inl idle) work free inside =
    told_cut_first m s Engine x work inside (engine_stands m Cut x.event (or_true (not (is_nothing m.owed)))) (sym idle.same ∙ plain_onward (rested m) s (still_onward m s Engine x work) free)
engine_cut m s x (inr ran) work free inside =
    absurd (false≢true (free (ap (λ y. y.busy) (run_onward m (rested m) s ran (still_onward m s Engine x work)).state)))

-- its phase
running_phase : (m s : State) (n id count : ℕ) (kept : Bool) → Still m s Engine → (ran : Ran m (rested m)) → IsRunning m s → line_rule s (Phase n id count kept) ≡ None → is_cut_by m ≡ false → starts m (Phase n id count kept) ≡ false
    → First m (record s { event = Told Engine }) (Phase n id count kept)
running_phase m s n id count kept x ran on line uncut inside =
    let item = Phase n id count kept in
    let u = unsaid m in
    record {
      at = m;
      settled = settled_same m item inside;
      order = order_same m item inside;
      line = sym (phase_line m Untold n id count kept) ∙ (sym (busy_line u on.spent ran.tag n id count kept ran.execute) ∙ (ap (λ y. line_rule y item) (sym on.state) ∙ line));
      event = event_none m item (engine_stands m item x.event (or_true (not (is_nothing m.owed)))) refl (uncut_yields m n id count kept uncut) refl;
      effect = phase_same u m (record s { event = Told Engine }) m.busy true m.spent on.spent (Told Engine) (Told Engine) n id count kept
          (ap (λ event. record m { event = event }) x.event) (ap {A = State} (λ y. record y { event = Told Engine }) on.state)
          (sym (due_event m Untold) ∙ (ran.execute ∙ (sym (due_busy u on.spent ran.tag ran.execute) ∙ (ap due (sym on.state) ∙ sym (due_event s (Told Engine))))))
          (sym (hit_event m Untold) ∙ (sym (hit_busy u on.spent ran.tag ran.execute) ∙ (ap hit (sym on.state) ∙ sym (hit_event s (Told Engine)))))
          refl;
    }

pub engine_phase : (m s : State) (n id count : ℕ) (kept : Bool) → Still m s Engine → Passed m (rested m) → has_work s ≡ false → line_rule s (Phase n id count kept) ≡ None → IsItsLine m Engine (Phase n id count kept)
    → starts m (Phase n id count kept) ≡ false → First m (record s { event = Told Engine }) (Phase n id count kept)
engine_phase m s n id count kept x (inl idle) work line its inside =
    absurd (false≢true (idle_phase s n id count kept (idle_onward m (rested m) s idle (still_onward m s Engine x work)) (unbroken s (Phase n id count kept) line)))
engine_phase m s n id count kept x (inr ran) work line its inside =
    running_phase m s n id count kept x ran (run_onward m (rested m) s ran (still_onward m s Engine x work)) line (not_true (is_cut_by m) its) inside

-- where a cut is due behind it, its phase is under way, and has its own line
late_run : (m r s : State) → Ran m r → is_due s ≡ true → (s ≡ r) ⊎ IsBusied r s → (s.busy ≡ true) × (is_cut_by m ≡ true)
late_run m r s x late (inl same) =
    let at = same ∙ x.state in
    let own = own_line (unsaid m) x.spent (ap is_due (sym at) ∙ late) x.late in
    (ap (λ y. y.busy) at, sym (cut_by_event m Untold) ∙ and_from (has_own_line (unsaid m)) (is_execute (due (unsaid m))) own.1 (ap is_execute x.execute))
late_run m r s x late (inr phase) =
    let own = own_line r phase.spent (ap is_due (sym phase.state) ∙ late) phase.late in
    absurd (false≢true (sym own.0 ∙ ap (λ y. y.busy) x.state))

late_idle : (m r s : State) → Idled m r → is_due s ≡ true → (s ≡ r) ⊎ IsBusied r s → false ≡ true
late_idle m r s x late (inl same) = sym x.late ∙ (ap is_due (sym same) ∙ late)
late_idle m r s x late (inr phase) = absurd (cc (sym x.due ∙ phase.execute))

pub engine_late : (m s : State) → Still m s Engine → Passed m (rested m) → is_due s ≡ true → (s.busy ≡ true) × (is_cut_by m ≡ true)
engine_late m s x (inl idle) late = absurd (false≢true (late_idle m (rested m) s idle late (late_onward (rested m) s x.on late (still_depth m s Engine x))))
engine_late m s x (inr ran) late = late_run m (rested m) s ran late (late_onward (rested m) s x.on late (still_depth m s Engine x))
