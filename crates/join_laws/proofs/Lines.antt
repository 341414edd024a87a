-- Lists of lines: joined at a cut, and their fronts.
use Rattle.std.proofs.Common.{◌≡◌, ◌∙◌, Bool, true, false, All, None, List, [], ◌∷◌, ◌++◌, refl, ap, sym, subst}
use Rattle.std.proofs.lemmas.List.Elements.{All-head, All-tail}
use Rattle.left_laws.proofs.Shows.{more_append}
use Rattle.storage_machine.specs.declared.state.Event.TheVariants.{Untold}
use Rattle.storage_machine.specs.declared.state.Owed.TheVariants.{End as Ended}
use Rattle.storage_machine.specs.declared.state.State.{State}
use Rattle.storage_model.specs.declared.trace.End.{End}
use Rattle.storage_model.specs.declared.trace.Item.{Item}
use Rattle.storage_model.specs.declared.trace.Item.TheVariants.{Cut, Left, Off}
use Rattle.storage_order.specs.Events.{Begins, Goes, Lasts, Makes, More, closed, is_over, is_untold}
use Rattle.storage_runs.specs.Runs.{StaysSo, Yields}
use Rattle.trace_effects.specs.Effects.{after_off, effect}
use Rattle.trace_rules.specs.Steps.{is_left_so}
use Rattle.world_state.specs.Told.{CutFollows}
use Rattle.join_laws.specs.Joins.{tells_left}

-- what is left is as it was kept, where no line tells of it

so_item : (s : State) (item : Item) → tells_left item ≡ false → is_left_so s item ≡ true
so_item s (Left sector value) none = absurd (cc)
so_item s item none = refl

pub stays_none : (s : State) (items : List Item) → All (λ item. tells_left item ≡ false) items → StaysSo s items
stays_none s [] none = tt
stays_none s (item ∷ items) none =
    (so_item s item (All-head (λ x. tells_left x ≡ false) item items none), stays_none (effect s item) items (All-tail (λ x. tells_left x ≡ false) item items none))

stays_append : (s u : State) (xs ys : List Item) → More s xs u → StaysSo s xs → StaysSo u ys → StaysSo s (xs ++ ys)
stays_append s u [] ys more first second = subst (λ x. StaysSo x ys) more second
stays_append s u (x ∷ xs) ys more first second = (first.0, stays_append (effect s x) u xs ys more.2 first.1 second)

pub stays_front : (s : State) (xs ys : List Item) → StaysSo s (xs ++ ys) → StaysSo s xs
stays_front s [] ys stays = tt
stays_front s (x ∷ xs) ys stays = (stays.0, stays_front (effect s x) xs ys stays.1)

-- behind the first lines of an event comes its cut

pub stays_cut : (b last : State) (items more : List Item) → Goes b items last → StaysSo b items → StaysSo (effect last Cut) more → StaysSo b (items ++ Cut ∷ more)
stays_cut b last [] more goes first second = subst (λ x. StaysSo x (Cut ∷ more)) goes (refl, second)
stays_cut b last (x ∷ xs) more goes first second = (first.0, stays_append (effect b x) last xs (Cut ∷ more) goes.more first.1 (refl, second))

pub yields_cut : (b : State) (items more : List Item) → Yields b items → Yields b (items ++ Cut ∷ more)
yields_cut b [] more yields = refl
yields_cut b (x ∷ xs) more yields = yields

pub yields_front : (b : State) (xs ys : List Item) → Yields b (xs ++ ys) → Yields b xs
yields_front b [] ys yields = tt
yields_front b (x ∷ xs) ys yields = yields

pub goes_cut : (b last t : State) (items more : List Item) → Goes b items last → CutFollows items last → More (effect last Cut) more t → Goes b (items ++ Cut ∷ more) t
goes_cut b last t [] more goes cut behind = subst (λ x. Goes x (Cut ∷ more) t) goes (record { told = cut.0; first = cut.1; phase = cut.2; more = behind })
goes_cut b last t (x ∷ xs) more goes cut behind = record {
  told = goes.told;
  first = goes.first;
  phase = goes.phase;
  more = more_append (effect b x) last t xs (Cut ∷ more) goes.more (cut.0, cut.1, behind);
}

-- and the event is over
pub makes_cut : (b last t : State) (items more : List Item) → Goes b (items ++ Cut ∷ more) last → is_over last.owed ≡ true → is_untold last.event ≡ true → t ≡ record last { owed = closed last.owed }
    → Makes b (items ++ Cut ∷ more) t
makes_cut b last t [] more goes over event state = record { last = last; begins = goes; over = over; event = event; state = state }
makes_cut b last t (x ∷ xs) more goes over event state = record { last = last; begins = goes; over = over; event = event; state = state }

-- the line of the end is the last one

pub last_off : (s t : State) (first : List Item) (end : End) → More s (first ++ Off end ∷ []) t → (u : State) × (t ≡ effect u (Off end))
last_off s t [] end more = (s, more.2)
last_off s t (x ∷ xs) end more = last_off (effect s x) t xs end more.2

off_owed : (s : State) (end : End) → (effect s (Off end)).owed ≡ Ended
unfolding effect after_off
off_owed s end = refl

off_event : (s : State) (end : End) → (effect s (Off end)).event ≡ Untold
unfolding effect after_off
off_event s end = refl

-- so the run has ended
pub record IsOff (t : State) : Type 0 where
  pub owed : t.owed ≡ Ended
  pub over : is_over t.owed ≡ true
  pub event : is_untold t.event ≡ true
  pub state : t ≡ record t { owed = closed t.owed }

pub ends_off : (s t : State) (first : List Item) (end : End) → More s (first ++ Off end ∷ []) t → IsOff t
ends_off s t first end more =
    let u = last_off s t first end more in
    let owed = ap (λ (x : State). x.owed) u.1 ∙ off_owed u.0 end in
    record {
      owed = owed;
      over = ap is_over owed;
      event = ap (λ (x : State). is_untold x.event) u.1 ∙ ap is_untold (off_event u.0 end);
      state = ap (λ o. record t { owed = o }) (owed ∙ sym (ap closed owed));
    }

-- the first of some lines

more_front : (s t : State) (xs ys : List Item) → More s (xs ++ ys) t → (u : State) × More s xs u
more_front s t [] ys more = (s, refl)
more_front s t (x ∷ xs) ys more = let rest = more_front (effect s x) t xs ys more.2 in (rest.0, (more.0, more.1, rest.1))

begins_front : (b t : State) (x : Item) (xs ys : List Item) → Begins b x (xs ++ ys) t → (u : State) × Begins b x xs u
begins_front b t x xs ys begins =
    let rest = more_front (effect b x) t xs ys begins.more in
    (rest.0, record { told = begins.told; first = begins.first; phase = begins.phase; more = rest.1 })

pub goes_front : (b t : State) (whole : List Item) (item : Item) (rest : List Item) → Goes b (whole ++ item ∷ rest) t → (u : State) × Goes b whole u
goes_front b t [] item rest goes = (b, refl)
goes_front b t (x ∷ xs) item rest goes = begins_front b t x xs (item ∷ rest) goes

pub makes_front : (b t : State) (whole : List Item) (item : Item) (rest : List Item) → Makes b (whole ++ item ∷ rest) t → (u : State) × Goes b whole u
makes_front b t [] item rest makes = (b, refl)
makes_front b t (x ∷ xs) item rest makes = begins_front b makes.last x xs (item ∷ rest) makes.begins
