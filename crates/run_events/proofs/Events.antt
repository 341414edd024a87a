-- Each event that comes next is taken, whole or a front of it.
use Rattle.std.proofs.Common.{ℕ, zero, inl, ◌≡◌, ◌∙◌, ◌≤◌, suc, Bool, true, false, cond, List, [], ◌∷◌, ◌++◌, refl, ap, sym}
use Rattle.run_events.proofs.Firsts.{next_first}
use Rattle.run_events.proofs.Leads.{leads_closes, shown_leads}
use Rattle.run_events.specs.Laws.{IsFrontTaken, IsTaken, Leads, Seen, last_of, tells}
use Rattle.storage_machine.specs.Host.{to_do}
use Rattle.storage_machine.specs.declared.state.Owed.TheVariants.{Nothing}
use Rattle.storage_machine.specs.declared.state.State.{State}
use Rattle.storage_model.specs.declared.faults.Letter.{Letter}
use Rattle.storage_model.specs.declared.trace.Item.{Item}
use Rattle.storage_model.specs.declared.trace.Item.TheVariants.{Turn}
use Rattle.storage_order.specs.Accept.{accept_from}
use Rattle.storage_order.specs.Events.{Goes, Makes}
use Rattle.storage_runs.proofs.Ends.{lasts_taken}
use Rattle.run_events.proofs.Fronts.{begins_taken, opened_at, shown_open}
use Rattle.storage_runs.proofs.Hushes.{begun_unshown, rests, rests_kept, unseen_kept}
use Rattle.storage_runs.proofs.Plans.{begun_by_plan, ended_plan}
use Rattle.storage_runs.proofs.Told.{shown_due}
use Rattle.storage_runs.specs.Laws.{IsOpened, Opens, StandsAt, rested}
use Rattle.storage_runs.specs.Runs.{Comes, StaysSo, Unseen, Yields, begun_next, chosen, is_shown}
use Rattle.trace_effects.specs.Effects.{begun_by}

unseen_more : (k : ℕ) (r s t : State) → Unseen k r s → Comes s [] t → Unseen (suc k) r t
unseen_more zero r s t un comes = (t, rw un at comes, refl)
unseen_more (suc k) r s t un comes = (un.0, un.1, unseen_more k un.0 s t un.2 comes)

-- an event that prints nothing
quiet : (before : Item) (m s t : State) (lines : List Item) → StandsAt m s → Seen before m → Comes s lines t → lines ≡ [] → Leads before m t lines
quiet before m s t lines st seen comes none = record {
  takes = record {
    after = m;
    stands = inl (record {
      free = st.free;
      whole = st.whole;
      ends = st.ends;
      calm = st.calm;
      depth = st.depth;
      count = suc st.count;
      unseen = unseen_more st.count (rested m) s t st.unseen (rw none at comes);
    });
    taken = λ more. ap (λ lines. accept_from (lines ++ more) m) none;
  };
  seen = λ told. seen (ap (λ lines. tells (last_of before lines)) (sym none) ∙ told);
}

leads_at : (before : Item) (m t : State) (lines items : List Item) → lines ≡ items → Leads before m t items → Leads before m t lines
leads_at before m t lines items at leads = rw at leads

depth_at : (m s : State) (actor : Letter) → StandsAt m s → 1 ≤ (begun_by s actor).plan.depth
depth_at m s actor st =
    let kept = unseen_kept st.count (rested m) s (rests m) st.unseen in
    rw (ap (λ plan. plan.depth) (begun_by_plan s actor ∙ (kept.plan ∙ ended_plan m))) st.depth

items_taken : (before : Item) (m s t b : State) (lines items : List Item) → StandsAt m s → Seen before m → Comes s lines t → is_shown s (chosen s) ≡ false → lines ≡ items → b ≡ begun_by s (chosen s) → Makes b items t → Yields b items → StaysSo b items → Leads before m t lines
items_taken before m s t b lines [] st seen comes unshown at begun makes yields so = quiet before m s t lines st seen comes at
items_taken before m s t b lines (item ∷ items) st seen comes unshown at begun makes yields so =
    let lasts = rw begun at makes in
    let begins = lasts.begins in
    leads_at before m t lines (item ∷ items) at (leads_closes before m t (item ∷ items) (lasts_taken m (begun_by s (chosen s)) t item items lasts (rw begun at so)
    (next_first m s item st comes.some unshown (record {
      told = begins.told;
      fits = begins.first;
      phase = begins.phase;
      yields = rw begun at yields;
    }))
    (depth_at m s (chosen s) st)))

nothing_owed : (m s : State) → StandsAt m s → s.owed ≡ Nothing
nothing_owed m s st = (rests_kept (rested m) s (rests m) (unseen_kept st.count (rested m) s (rests m) st.unseen)).owed

untold_leads : (before : Item) (m s t : State) (lines : List Item) → StandsAt m s → Seen before m → Comes s lines t → is_shown s (chosen s) ≡ false → Leads before m t lines
untold_leads before m s t lines st seen comes unshown =
    let actor = chosen s in
    let items = comes.items in
    items_taken before m s t (begun_next s actor) lines items st seen comes unshown (comes.shows.printed ∙ ap (λ is. cond is (Turn actor ∷ items) items) unshown) (begun_unshown s actor (nothing_owed m s st) unshown)
    comes.shows.happens.makes comes.cut comes.kept

leads_by : (before : Item) (m s t : State) (lines : List Item) (is : Bool) → is_shown s (chosen s) ≡ is → StandsAt m s → Seen before m → Comes s lines t → Leads before m t lines
leads_by before m s t lines true is st seen comes = shown_leads before m s t (chosen s) comes.items lines st is (shown_due s is) comes.some comes.shows.printed comes.shows.happens.makes comes.cut comes.kept
leads_by before m s t lines false is st seen comes = untold_leads before m s t lines st seen comes is

pub is_taken : (before : Item) (m s t : State) (lines : List Item) → IsTaken before m s t lines
is_taken before m s t lines st seen comes = leads_by before m s t lines (is_shown s (chosen s)) refl st seen comes

-- a front of an event that no letter tells
untold_open : (m s b last : State) (lines items : List Item) → StandsAt m s → to_do s ≡ true → is_shown s (chosen s) ≡ false → lines ≡ items → b ≡ begun_by s (chosen s) → Goes b items last → Yields b items → StaysSo b items → IsOpened m lines
untold_open m s b last lines [] st some unshown at begun goes yields so = opened_at m lines [] at (record { after = m; taken = λ more. refl })
untold_open m s b last lines (item ∷ items) st some unshown at begun goes yields so =
    let begins = rw begun at goes in
    opened_at m lines (item ∷ items) at (begins_taken m (begun_by s (chosen s)) last item items begins (rw begun at so)
    (next_first m s item st some unshown (record {
      told = begins.told;
      fits = begins.first;
      phase = begins.phase;
      yields = rw begun at yields;
    })))

front_by : (m s last : State) (lines : List Item) (is : Bool) → is_shown s (chosen s) ≡ is → StandsAt m s → Opens s lines last → IsOpened m lines
front_by m s last lines true is st opens = shown_open m s last (chosen s) opens.items lines st is (shown_due s is) opens.some opens.printed opens.starts.goes opens.cut opens.kept
front_by m s last lines false is st opens =
    let actor = chosen s in
    untold_open m s (begun_next s actor) last lines opens.items st opens.some is (opens.printed ∙ ap (λ is. cond is (Turn actor ∷ opens.items) opens.items) is) (begun_unshown s actor (nothing_owed m s st) is) opens.starts.goes opens.cut opens.kept

pub front_taken : (m s last : State) (lines : List Item) → IsFrontTaken m s last lines
front_taken m s last lines st opens = front_by m s last lines (is_shown s (chosen s)) refl st opens
