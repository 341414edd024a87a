-- Where the last line of an event leads.
use Rattle.std.proofs.Common.{inl, inr, ◌≡◌, ◌∙◌, ◌⊎◌, ◌≤◌, true, None, List, [], ◌∷◌, ◌++◌, refl, ap, sym}
use Rattle.storage_machine.specs.declared.state.Event.TheVariants.{Untold}
use Rattle.storage_machine.specs.declared.state.Owed.{Owed}
use Rattle.storage_machine.specs.declared.state.Owed.TheVariants.{Card as CardOwed, Nothing, Closed, Bus as BusOwed, Flash as FlashOwed, Answers, Sectors, Recover as RecoverOwed, Dark, Left as LeftOwed, End as Ended}
use Rattle.storage_machine.specs.declared.state.State.{State}
use Rattle.storage_model.specs.declared.trace.Item.{Item}
use Rattle.storage_order.specs.Accept.{accept_from}
use Rattle.storage_order.specs.Events.{Lasts, More, closed, is_over}
use Rattle.storage_order.specs.Order.{order_rule, settled}
use Rattle.storage_runs.proofs.Lines.{one_taken}
use Rattle.storage_runs.proofs.Mores.{end_untold, ended_untold, is_untold_event, more_taken, or_true}
use Rattle.storage_runs.specs.Laws.{Closes, HasEnded, StandsAt}
use Rattle.storage_runs.specs.Runs.{StaysSo}
use Rattle.trace_effects.proofs.Sounds.{effect_keeps}
use Rattle.trace_effects.specs.Effects.{effect}
use Rattle.trace_rules.specs.Lines.{is_free, line_rule}
use Rattle.trace_rules.specs.Steps.{event_rule, is_nothing}

-- between two events
free_after : (last t : State) → is_free last.owed ≡ true → closed last.owed ≡ Nothing → last.event ≡ Untold → t ≡ record last { owed = closed last.owed } → 1 ≤ last.plan.depth → StandsAt last t
free_after last t free over e state depth = record {
  free = free;
  whole = rw e (or_true (is_nothing last.owed));
  ends = end_untold last e;
  calm = rw e refl;
  depth = depth;
  count = 0;
  unseen = state ∙ (ap (λ owed. record last { owed = owed }) over ∙ sym (ap {A = State} (λ x. record x { owed = Nothing }) (ended_untold last e)));
}

ended_after : (last t : State) → last.owed ≡ Ended → t ≡ record last { owed = closed last.owed } → HasEnded last t
ended_after last t at state = record {
  owed = ap (λ x. x.owed) state ∙ ap closed at;
  state = sym (state ∙ ap (λ owed. record last { owed = owed }) (ap closed at ∙ sym at));
}

pub after_by : (last t : State) (owed : Owed) → last.owed ≡ owed → is_over owed ≡ true → last.event ≡ Untold → t ≡ record last { owed = closed last.owed } → 1 ≤ last.plan.depth → StandsAt last t ⊎ HasEnded last t
after_by last t Nothing at over e state depth = inl (free_after last t (ap is_free at) (ap closed at) e state depth)
after_by last t Closed at over e state depth = inl (free_after last t (ap is_free at) (ap closed at) e state depth)
after_by last t Ended at over e state depth = inr (ended_after last t at state)
after_by last t CardOwed at over e state depth = absurd (cc)
after_by last t (BusOwed n id kind) at over e state depth = absurd (cc)
after_by last t (FlashOwed id) at over e state depth = absurd (cc)
after_by last t Answers at over e state depth = absurd (cc)
after_by last t (Sectors tag k) at over e state depth = absurd (cc)
after_by last t RecoverOwed at over e state depth = absurd (cc)
after_by last t (Dark cuts) at over e state depth = absurd (cc)
after_by last t (LeftOwed from) at over e state depth = absurd (cc)

pub more_plan : (s t : State) (items : List Item) → More s items t → t.plan ≡ s.plan
more_plan s t [] go = ap (λ x. x.plan) go
more_plan s t (item ∷ items) go = more_plan (effect s item) t items go.2 ∙ (effect_keeps s item).plan

-- how the first line of an event is taken
pub record First (m b : State) (item : Item) : Type 0 where
  pub at : State
  pub settled : settled m item ≡ at
  pub order : order_rule m item ≡ None
  pub line : line_rule at item ≡ None
  pub event : event_rule at item ≡ None
  pub effect : effect at item ≡ effect b item

-- an event that has begun in b, and whose first line is taken, is taken
pub lasts_taken : (m b t : State) (item : Item) (items : List Item) → Lasts b item items t → StaysSo b (item ∷ items) → First m b item → 1 ≤ b.plan.depth → Closes m t (item ∷ items)
lasts_taken m b t item items lasts so first depth =
    let begins = lasts.begins in
    let same = more_plan (effect b item) lasts.last items begins.more ∙ (effect_keeps b item).plan in
    record {
      takes = record {
        after = lasts.last;
        stands = after_by lasts.last t lasts.last.owed refl lasts.over (is_untold_event lasts.last.event lasts.event) lasts.state (rw (ap (λ plan. plan.depth) same) depth);
        taken = λ more.
            one_taken m first.at item first.settled first.order first.line first.event (items ++ more)
            ∙ (ap (accept_from (items ++ more)) first.effect ∙ more_taken (effect b item) lasts.last items begins.more so.1 more);
      };
      event = is_untold_event lasts.last.event lasts.event;
    }
