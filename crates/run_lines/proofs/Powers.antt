-- The event of a due cut is taken.
use Rattle.std.proofs.Common.{inl, inr, ◌+◌, ◌≡◌, ◌∙◌, ◌⊎◌, ℕ, Bool, true, false, None, cond, ◌&&◌, ◌==◌, not, refl, ap, sym}
use Rattle.std.proofs.lemmas.Bool.{false≢true, and_from, and_left, or_from, or_right}
use Rattle.storage_machine.specs.Commands.{due}
use Rattle.storage_machine.specs.Cuts.{due_line, has_own_line, is_due}
use Rattle.storage_machine.specs.Host.{has_work, recovery_steps, to_do}
use Rattle.storage_machine.specs.declared.commands.DueCommand.TheVariants.{Execute}
use Rattle.storage_machine.specs.declared.state.Event.TheVariants.{Untold, Due}
use Rattle.storage_machine.specs.declared.state.State.{State}
use Rattle.storage_model.specs.declared.trace.Item.TheVariants.{Phase, Cut}
use Rattle.storage_order.specs.Events.{Fits, engine_step, may_pass, passed}
use Rattle.trace_effects.specs.Effects.{letters_left}
use Rattle.storage_order.specs.Order.{engine_first, forced, with_due}
use Rattle.run_lines.proofs.Cuts.{due_cut_first}
use Rattle.storage_runs.proofs.Ends.{First}
use Rattle.run_lines.proofs.Engines.{enters_first, hit_busy, untold_starts}
use Rattle.run_lines.proofs.Hosts.{no_letters}
use Rattle.storage_runs.proofs.Hushes.{IsKept, Rests}
use Rattle.storage_runs.proofs.Lags.{IsBusied, IsTicked, Reached, due_busy}
use Rattle.storage_runs.proofs.Lines.{event_none}
use Rattle.run_lines.proofs.Owns.{own_line}
use Rattle.run_lines.proofs.Phases.{busy_line, cut_by_busy, cut_by_event, due_event, hit_event, phase_line, phase_same}
use Rattle.storage_runs.proofs.Turns.{behind_rested}
use Rattle.storage_runs.specs.Laws.{StandsAt, rested}
use Rattle.storage_runs.specs.Runs.{next_letter}
use Rattle.trace_rules.specs.Steps.{is_cut_by, is_execute, is_nothing, yields_to_cut}

-- the acceptor between two events, none of which it was told of
pub record Between (m s : State) : Type 0 where
  pub stands : StandsAt m s
  pub event : m.event ≡ Untold
  pub rest : Rests s
  pub on : Reached (rested m) s
  pub late : is_due (rested m) ≡ true → s ≡ rested m
  pub letters : (s ≡ rested m) ⊎ (next_letter (rested m) ≡ None)
  pub kept : IsKept (rested m) s

-- a phase in the event of a cut that was due before
phase_due : (r : State) (n id count : ℕ) (kept : Bool) → is_due r ≡ true → forced r (Phase n id count kept) ≡ record r { event = Due }
unfolding forced
phase_due r n id count kept late =
    let item = Phase n id count kept in
    ap (λ b. with_due (cond b r (engine_first (recovery_steps r) item)) item) (or_right (letters_left r) (is_due r && true) (and_from (is_due r) true late refl))
    ∙ ap (λ b. cond b (record r { event = Due }) r) (and_from (is_due r) true late refl)

due_at_rest : (m : State) (n id count : ℕ) (kept : Bool) → StandsAt m (rested m) → m.event ≡ Untold → is_due (rested m) ≡ true → Fits (record (rested m) { event = Due }) (Phase n id count kept)
    → yields_to_cut (record (rested m) { event = Due }) (Phase n id count kept) ≡ true → First m (record (rested m) { event = Due }) (Phase n id count kept)
due_at_rest m n id count kept st e late fits yields =
    let b = record (rested m) { event = Due } in
    let item = Phase n id count kept in
    enters_first m b b item (untold_starts m item st.free e) st.ends (record {
      entered = ap (λ x. forced x item) (behind_rested m item refl st.free) ∙ phase_due (rested m) n id count kept late;
      order = refl;
      line = fits.line;
      event = event_none b item fits.stands fits.first yields refl;
      effect = refl;
    })

due_same_rest : (m s : State) (n id count : ℕ) (kept : Bool) → s ≡ rested m → StandsAt m s → m.event ≡ Untold → is_due s ≡ true → Fits (record s { event = Due }) (Phase n id count kept)
    → yields_to_cut (record s { event = Due }) (Phase n id count kept) ≡ true → First m (record s { event = Due }) (Phase n id count kept)
due_same_rest m s n id count kept at st e late fits yields = rw at (due_at_rest m n id count kept (rw at at st) e (rw at at late) (rw at at fits) (rw at at yields))

-- the phase begins untold, and its own number's cut is due
busy_step : (q : State) (tag : ℕ) → due q ≡ Execute tag → may_pass q (Execute tag) ≡ true → engine_step q ≡ record q { busy = true; spent = q.spent + 1 }
unfolding engine_step
busy_step q tag at may = ap (passed q) at ∙ ap (λ b. cond b (record q { busy = true; spent = q.spent + 1 }) q) may

due_spent : (q : State) (spent other : ℕ) → is_due (record q { busy = true; spent = spent }) ≡ is_due (record q { busy = true; spent = other })
unfolding to_do due_line
due_spent q spent other = refl

phase_begun : (r : State) (tag n id count : ℕ) (kept : Bool) → letters_left r ≡ false → is_due r ≡ false → has_work (recovery_steps r) ≡ false → is_cut_by (recovery_steps r) ≡ true → (recovery_steps r).busy ≡ false
    → engine_step (recovery_steps r) ≡ record (recovery_steps r) { busy = true; spent = (recovery_steps r).spent + 1 } → is_due (record (recovery_steps r) { busy = true; spent = (recovery_steps r).spent + 1 }) ≡ true
    → forced r (Phase n id count kept) ≡ record (recovery_steps r) { busy = true; spent = (recovery_steps r).spent + 1; event = Due }
unfolding forced
phase_begun r tag n id count kept letters late work cut busy step due_y =
    let q = recovery_steps r in
    let y = record q { busy = true; spent = q.spent + 1 } in
    let item = Phase n id count kept in
    ap (λ b. with_due (cond b r (engine_first q item)) item) (or_from (letters_left r) (is_due r && true) letters (and_left (is_due r) true late))
    ∙ (ap (λ b. with_due (cond b (engine_step q) q) item) (and_from (not (has_work q)) (is_cut_by q && not q.busy) (ap not work) (and_from (is_cut_by q) (not q.busy) cut (ap not busy)))
    ∙ (ap (λ x. with_due x item) step
    ∙ ap (λ b. cond b (record y { event = Due }) y) (and_from (is_due y) true due_y refl)))

begun_at : (r q : State) (tag n id count : ℕ) (kept : Bool) → recovery_steps r ≡ q → letters_left r ≡ false → is_due r ≡ false → has_work q ≡ false → is_cut_by q ≡ true → q.busy ≡ false
    → engine_step q ≡ record q { busy = true; spent = q.spent + 1 } → is_due (record q { busy = true; spent = q.spent + 1 }) ≡ true → forced r (Phase n id count kept) ≡ record q { busy = true; spent = q.spent + 1; event = Due }
begun_at r q tag n id count kept at letters late work cut busy step due_y =
    rw (← at) (phase_begun r tag n id count kept letters late (ap has_work at ∙ work) (ap is_cut_by at ∙ cut) (ap (λ x. x.busy) at ∙ busy) (rw (← at) at step) (rw (← at) at due_y))

busied_due : (m q : State) (spent tag n id count : ℕ) (kept : Bool) → StandsAt m (record q { busy = true; spent = spent }) → m.event ≡ Untold → recovery_steps (rested m) ≡ q → letters_left (rested m) ≡ false → is_due (rested m) ≡ false
    → due q ≡ Execute tag → may_pass q (Execute tag) ≡ true → has_work q ≡ false → is_due q ≡ false → Rests (record q { busy = true; spent = spent }) → is_due (record q { busy = true; spent = spent }) ≡ true
    → Fits (record q { busy = true; spent = spent; event = Due }) (Phase n id count kept) → yields_to_cut (record q { busy = true; spent = spent; event = Due }) (Phase n id count kept) ≡ true
    → First m (record q { busy = true; spent = spent; event = Due }) (Phase n id count kept)
busied_due m q spent tag n id count kept st e at letters late execute may work late_q rest due_s fits yields =
    let item = Phase n id count kept in
    let s = record q { busy = true; spent = spent } in
    let b = record q { busy = true; spent = spent; event = Due } in
    let y = record q { busy = true; spent = q.spent + 1 } in
    let x = record q { busy = true; spent = q.spent + 1; event = Due } in
    let own = own_line q spent due_s late_q in
    let cut = and_from (has_own_line q) (is_execute (due q)) own.1 (ap is_execute execute) in
    let cut_x = cut_by_event y Due ∙ (cut_by_busy q (q.spent + 1) tag execute ∙ (sym (cut_by_busy q spent tag execute) ∙ sym (cut_by_event s Due))) in
    enters_first m x b item (untold_starts m item st.free e) st.ends (record {
      entered = ap (λ z. forced z item) (behind_rested m item refl st.free) ∙ begun_at (rested m) q tag n id count kept at letters late work cut own.0 (busy_step q tag execute may) (due_spent q (q.spent + 1) spent ∙ due_s);
      order = refl;
      line = phase_line y Due n id count kept ∙ (busy_line q (q.spent + 1) tag n id count kept execute ∙ (sym (busy_line q spent tag n id count kept execute) ∙ (sym (phase_line s Due n id count kept) ∙ fits.line)));
      event = event_none x item (ap (λ owed. cond (is_nothing owed) true false) rest.owed) refl (ap (λ c. cond c (true && (count == 0)) true) cut_x ∙ yields) refl;
      effect = phase_same q x b true true (q.spent + 1) spent Due Due n id count kept refl refl
          (due_event y Due ∙ (due_busy q (q.spent + 1) tag execute ∙ (sym (due_busy q spent tag execute) ∙ sym (due_event s Due))))
          (hit_event y Due ∙ (hit_busy q (q.spent + 1) tag execute ∙ (sym (hit_busy q spent tag execute) ∙ sym (hit_event s Due))))
          refl;
    })

busied_state : (m s : State) (n id count : ℕ) (kept : Bool) → StandsAt m s → m.event ≡ Untold → IsBusied (recovery_steps (rested m)) s → letters_left (rested m) ≡ false → is_due (rested m) ≡ false → Rests s → is_due s ≡ true
    → Fits (record s { event = Due }) (Phase n id count kept) → yields_to_cut (record s { event = Due }) (Phase n id count kept) ≡ true → First m (record s { event = Due }) (Phase n id count kept)
busied_state m s n id count kept st e x letters late rest due_s fits yields =
    let at = x.state in
    rw at (busied_due m (recovery_steps (rested m)) x.spent x.tag n id count kept (rw at at st) e refl letters late x.execute x.may x.work x.late (rw at at rest) (rw at at due_s) (rw at at fits) (rw at at yields))

pub due_ticked : (q : State) → is_due (record q { notice = true; count = 0 }) ≡ is_due q
unfolding to_do due_line
due_ticked q = refl

pub not_ticked : (q s : State) → IsTicked q s → is_due s ≡ true → false ≡ true
not_ticked q s x late = sym x.late ∙ (sym (due_ticked q) ∙ (ap is_due (sym x.state) ∙ late))

late_letters : (m s : State) → (s ≡ rested m) ⊎ (next_letter (rested m) ≡ None) → is_due (rested m) ≡ false → is_due s ≡ true → letters_left (rested m) ≡ false
late_letters m s (inl same) late due_s = absurd (false≢true (sym late ∙ (ap is_due (sym same) ∙ due_s)))
late_letters m s (inr none) late due_s = no_letters (rested m) none

phase_by_rest : (m s : State) (n id count : ℕ) (kept : Bool) (late : Bool) → is_due (rested m) ≡ late → Reached (rested m) s → Between m s → is_due s ≡ true → Fits (record s { event = Due }) (Phase n id count kept)
    → yields_to_cut (record s { event = Due }) (Phase n id count kept) ≡ true → First m (record s { event = Due }) (Phase n id count kept)
phase_by_rest m s n id count kept true at on x due_s fits yields = due_same_rest m s n id count kept (x.late at) x.stands x.event due_s fits yields
phase_by_rest m s n id count kept false at (inl steps) x due_s fits yields = due_same_rest m s n id count kept (steps.due due_s) x.stands x.event due_s fits yields
phase_by_rest m s n id count kept false at (inr (inl tick)) x due_s fits yields = absurd (false≢true (not_ticked (recovery_steps (rested m)) s tick due_s))
phase_by_rest m s n id count kept false at (inr (inr phase)) x due_s fits yields = busied_state m s n id count kept x.stands x.event phase (late_letters m s x.letters at due_s) at x.rest due_s fits yields

cut_by_rest : (m s : State) → Reached (rested m) s → Between m s → is_due s ≡ true → s.busy ≡ false → First m (record s { event = Due }) Cut
cut_by_rest m s (inl steps) x due_s busy = due_cut_first m s x.stands x.event (steps.due due_s) x.rest due_s
cut_by_rest m s (inr (inl tick)) x due_s busy = absurd (false≢true (not_ticked (recovery_steps (rested m)) s tick due_s))
cut_by_rest m s (inr (inr phase)) x due_s busy = absurd (false≢true (sym busy ∙ ap (λ y. y.busy) phase.state))

-- the phase and the cut of power's event, where a cut is due
pub power_phase : (m s : State) (n id count : ℕ) (kept : Bool) → Between m s → is_due s ≡ true → Fits (record s { event = Due }) (Phase n id count kept) → yields_to_cut (record s { event = Due }) (Phase n id count kept) ≡ true
    → First m (record s { event = Due }) (Phase n id count kept)
power_phase m s n id count kept x due_s fits yields = phase_by_rest m s n id count kept (is_due (rested m)) refl x.on x due_s fits yields

pub power_cut : (m s : State) → Between m s → is_due s ≡ true → s.busy ≡ false → First m (record s { event = Due }) Cut
power_cut m s x due_s busy = cut_by_rest m s x.on x due_s busy
