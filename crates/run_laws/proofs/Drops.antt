-- The cut of a last flush is taken, with the lines behind it.
use Rattle.std.proofs.Common.{◌≡◌, ◌∙◌, ◌≤◌, Bool, true, false, cond, ◌&&◌, ◌||◌, not, is_some, List, ◌∷◌, ◌++◌, refl, ap, sym}
use Rattle.std.proofs.lemmas.Bool.{false≢true, and_left, or_from, or_left}
use Rattle.run_laws.proofs.Lasts.{last_first, same_rest}
use Rattle.run_laws.proofs.Plains.{AllPlain, cut_plain, more_plain}
use Rattle.run_laws.specs.Whole.{Dropped, Drops, DropsFirst}
use Rattle.storage_machine.specs.Commands.{is_calm}
use Rattle.storage_machine.specs.Cuts.{due_line, is_due}
use Rattle.storage_machine.specs.Host.{has_work, recovery_steps, to_do}
use Rattle.storage_machine.specs.declared.state.Event.{Event}
use Rattle.storage_machine.specs.declared.state.Event.TheVariants.{Untold, Told, Due}
use Rattle.storage_machine.specs.declared.state.Owed.{Owed}
use Rattle.storage_machine.specs.declared.state.Owed.TheVariants.{Nothing}
use Rattle.storage_machine.specs.declared.state.State.{State}
use Rattle.storage_model.specs.declared.trace.Item.{Item}
use Rattle.storage_model.specs.declared.trace.Item.TheVariants.{Cut}
use Rattle.storage_order.specs.Accept.{accept_from}
use Rattle.storage_order.specs.Events.{ended, engine_step}
use Rattle.storage_order.specs.Order.{engine_first, forced, is_next, next_actor, with_due}
use Rattle.run_lines.proofs.Cuts.{cut_first, cut_rule, due_rested, plain_owed, plain_untold, rested_owed, steps_owed}
use Rattle.storage_runs.proofs.Ends.{First, after_by, more_plan}
use Rattle.run_lines.proofs.Engines.{enters_first, untold_starts}
use Rattle.run_events.proofs.Finals.{not_late, reached_end}
use Rattle.run_events.proofs.Firsts.{due_told}
use Rattle.storage_runs.proofs.Hushes.{Rests, rests, rests_kept, unseen_kept}
use Rattle.storage_runs.proofs.Lags.{unseen_late, unseen_reached}
use Rattle.storage_runs.proofs.Lines.{event_none, one_taken}
use Rattle.storage_runs.proofs.Mores.{ended_untold, more_taken, no_step, start_none}
use Rattle.storage_runs.proofs.Plans.{ended_plan}
use Rattle.storage_runs.proofs.Turns.{due_owed}
use Rattle.storage_runs.specs.Laws.{Closes, IsOpened, StandsAt, rested}
use Rattle.trace_effects.proofs.Sounds.{effect_keeps}
use Rattle.trace_effects.specs.Effects.{effect, letters_left}
use Rattle.trace_rules.specs.Lines.{is_free}
use Rattle.trace_rules.specs.Steps.{is_cut, is_line_of, is_nothing, stands_in}

-- the cut comes after the silent steps of a recovery, where no letter is left
forced_at : (m y : State) (left : Bool) → letters_left m ≡ left → cond left m (recovery_steps m) ≡ y → is_due m ≡ false → is_due y ≡ false → forced m Cut ≡ y
unfolding forced
forced_at m y true letters at late late_y =
    ap (λ b. with_due (cond (b || (is_due m && true)) m (engine_first (recovery_steps m) Cut)) Cut) letters
    ∙ (ap (λ x. with_due x Cut) at ∙ ap (λ b. cond b (record y { event = Due }) y) (and_left (is_due y) true late_y))
forced_at m y false letters at late late_y =
    ap (λ b. with_due (cond b m (engine_first (recovery_steps m) Cut)) Cut) (or_from (letters_left m) (is_due m && true) letters (and_left (is_due m) true late))
    ∙ (ap (λ x. with_due x Cut) (no_step (not (has_work (recovery_steps m))) (recovery_steps m) (engine_step (recovery_steps m)) ∙ at)
    ∙ ap (λ b. cond b (record y { event = Due }) y) (and_left (is_due y) true late_y))

-- the state in which it comes, behind a complete phase or not
steps_at : (m s : State) (left : Bool) → letters_left m ≡ left → m.event ≡ Untold → (letters_left m ≡ true → s ≡ rested m) → recovery_steps (rested m) ≡ s → cond left m (recovery_steps m) ≡ record s { owed = m.owed }
steps_at m s true letters e same steps = rested_owed m e ∙ ap {A = State} (λ y. record y { owed = m.owed }) (sym (same letters))
steps_at m s false letters e same steps = ap recovery_steps (rested_owed m e) ∙ (steps_owed (rested m) m.owed ∙ ap {A = State} (λ y. record y { owed = m.owed }) steps)

to_do_owed : (s : State) (owed : Owed) → to_do (record s { owed = owed }) ≡ to_do s
unfolding to_do
to_do_owed s owed = refl

cut_next : (x : State) → to_do x ≡ false → is_next x Cut ≡ true
cut_next x none = or_left (not (to_do x)) ((not (is_nothing x.owed) && is_cut Cut) || (not (letters_left x) && is_line_of (next_actor x) (is_calm x.recovery) Cut)) (ap not none)

none_due : (s : State) → to_do s ≡ false → is_due s ≡ false
none_due s none = and_left (to_do s) (is_some (due_line s)) none

cut_at : (m s : State) → StandsAt m s → m.event ≡ Untold → Rests s → to_do s ≡ false → is_due (rested m) ≡ false → forced m Cut ≡ record s { owed = m.owed } → First m s Cut
cut_at m s st e rest none late at =
    let x = record s { owed = m.owed } in
    let none_x = to_do_owed s m.owed ∙ none in
    enters_first m x s Cut (untold_starts m Cut st.free e) st.ends (record {
      entered = ap (λ y. forced y Cut) (ended_untold m e) ∙ at;
      order = start_none x Cut (is_due (ended m)) (cut_next x none_x) (sym (due_owed (ended m) Nothing) ∙ late);
      line = cut_rule x st.free;
      event = event_none x Cut (ap (λ event. stands_in x event Cut) rest.event) refl refl refl;
      effect = cut_first x st.free ∙ (plain_untold x rest.event ∙ (plain_owed s m.owed ∙ (sym (plain_untold s rest.event) ∙ sym (cut_first s (ap is_free rest.owed)))));
    })

untold_first : (m s : State) → StandsAt m s → m.event ≡ Untold → to_do s ≡ false → First m s Cut
untold_first m s st e none =
    let r = rested m in
    let kept = unseen_kept st.count r s (rests m) st.unseen in
    let rest = rests_kept r s (rests m) kept in
    let steps = reached_end r s (unseen_reached st.count r s (rests m) st.unseen) none in
    let late = not_late r s (is_due r) refl (unseen_late st.count r s (rests m) st.unseen) none in
    cut_at m s st e rest none late
    (forced_at m (record s { owed = m.owed }) (letters_left m) refl (steps_at m s (letters_left m) refl e (same_rest m s st) steps) (sym (due_rested m e) ∙ late) (due_owed s m.owed ∙ none_due s none))

event_first : (m s : State) (event : Event) → m.event ≡ event → StandsAt m s → to_do s ≡ false → s.busy ≡ false → First m s Cut
event_first m s Untold e st none idle = untold_first m s st e none
event_first m s Due e st none idle = absurd (false≢true (due_told m st.ends e))
event_first m s (Told letter) e st none idle = last_first m s letter st e none idle

drops_plain : (s last : State) (items : List Item) → Drops s items last → AllPlain (effect s Cut) last items
drops_plain s last items drops = more_plain (effect s Cut) last items (cut_plain s drops.free drops.none) drops.more

drops_taken : (m s last : State) (items : List Item) → StandsAt m s → Drops s items last → (more : List Item) → accept_from ((Cut ∷ items) ++ more) m ≡ accept_from more last
drops_taken m s last items st drops more =
    let first = event_first m s m.event refl st drops.none drops.idle in
    one_taken m first.at Cut first.settled first.order first.line first.event (items ++ more)
    ∙ (ap (accept_from (items ++ more)) first.effect ∙ more_taken (effect s Cut) last items drops.more (drops_plain s last items drops).so more)

depth_last : (m s last : State) (items : List Item) → StandsAt m s → Drops s items last → 1 ≤ last.plan.depth
depth_last m s last items st drops =
    let kept = unseen_kept st.count (rested m) s (rests m) st.unseen in
    rw (ap (λ plan. plan.depth) (more_plan (effect s Cut) last items drops.more ∙ ((effect_keeps s Cut).plan ∙ (kept.plan ∙ ended_plan m)))) st.depth

lines_close : (m t : State) (lines items : List Item) → lines ≡ items → Closes m t items → Closes m t lines
lines_close m t lines items at closes = rw at closes

-- a last flush that loses power
pub drop_closes : (m s t : State) (lines : List Item) → StandsAt m s → Dropped s lines t → Closes m t lines
drop_closes m s t lines st x =
    let last = x.last in
    let over = (drops_plain s last x.items x.drops).event in
    lines_close m t lines (Cut ∷ x.items) x.printed (record {
      takes = record {
        after = last;
        stands = after_by last t last.owed refl x.over over x.state (depth_last m s last x.items st x.drops);
        taken = drops_taken m s last x.items st x.drops;
      };
      event = over;
    })

lines_open : (m : State) (lines items : List Item) → lines ≡ items → IsOpened m items → IsOpened m lines
lines_open m lines items at opened = rw at opened

-- and the first of its lines
pub drop_opened : (m s : State) (lines : List Item) → StandsAt m s → DropsFirst s lines → IsOpened m lines
drop_opened m s lines st x = lines_open m lines (Cut ∷ x.0) x.2 (record { after = x.1; taken = drops_taken m s x.1 x.0 st x.3 })
