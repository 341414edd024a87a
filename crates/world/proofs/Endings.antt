-- The end of a run: by its last flush, or behind a cut of it.
use Rattle.std.proofs.Common.{◌≡◌, ◌∙◌, inl, inr, ◌++◌, ◌∷◌, ◌==◌, ℕ, Bool, true, false, IfSome, List, [], None, Option, Some, Result, Ok, Err, is_some, ap, refl, sym, subst}
use Rattle.std.specs.Prelude.{count_by, not, ◌||◌}
use Rattle.storage_machine.specs.declared.state.Owed.TheVariants.{End as Ended}
use Rattle.storage_machine.specs.declared.state.State.{State}
use Rattle.storage_model.specs.Count.{Later}
use Rattle.storage_model.specs.declared.ends.Halt.{Halt}
use Rattle.storage_model.specs.declared.ends.Halt.TheVariants.{SinkFailed, OpenFault, PowerGone, BadImage}
use Rattle.storage_model.specs.declared.trace.End.{End}
use Rattle.storage_model.specs.declared.trace.End.TheVariants.{Good, Fault, Dead, Image}
use Rattle.storage_model.specs.declared.trace.Item.{Item}
use Rattle.storage_model.specs.declared.trace.Item.TheVariants.{Cut, Off}
use Rattle.storage_model.specs.declared.block.Block.{Block}
use Rattle.trace_effects.specs.Effects.{effect}
use Rattle.trace_rules.specs.Lines.{line_rule}
use Rattle.trace_print.specs.Prints.{HasCauses, Takes}
use Rattle.trace_text.specs.Trace.{items_text}
use Rattle.array_edge.specs.Array.{ArrayState}
use Rattle.intent_store.specs.Intent.{ShowsImage, shown_by}
use Rattle.intent_store.specs.declared.ends.StoreEnd.{StoreEnd}
use Rattle.intent_store.specs.declared.ends.StoreEnd.TheVariants.{Flash, PowerLost}
use Rattle.card_core.specs.Card.{HoldsNothing}
use Rattle.card_store.specs.Staging.{only_settled}
use Rattle.cause_laws.specs.Causes.{AreFlushesExplained, AreJoined}
use Rattle.drv_core.specs.State.{is_recovering}
use Rattle.drv_jobs.specs.Changes.{forgotten}
use Rattle.drv_jobs.specs.Standings.{Standings, no_holders}
use Rattle.drv_recover.specs.declared.recovery.RecoveryState.TheVariants.{Calm}
use Rattle.end_laws.specs.Ends.{EndsByFlush, MayEnd}
use Rattle.join_laws.specs.Flushes.{IsAtLast, IsFlushBackOn, IsFlushEnded, IsFlushStopped}
use Rattle.join_laws.specs.Joins.{before}
use Rattle.power_laws.specs.Power.{FlushEvent, FlushSteps}
use Rattle.power_step.proofs.Counting.{rose_none}
use Rattle.power_step.proofs.Images.{open_image}
use Rattle.power_step.proofs.Taking.{part_of_one}
use Rattle.power_step.specs.Loses.{IsBackOn, Loses}
use Rattle.power_step.specs.Wrote.{TakesPart}
use Rattle.run_laws.specs.Whole.{Dropped, DropsFirst}
use Rattle.step_laws.proofs.EndLines.{cut_among}
use Rattle.world_state.specs.Path.{PathState, plan_of}
use Rattle.cut_order.specs.Order.{OrderState}
use Rattle.front_laws.proofs.Nears.{keeps_near}
use Rattle.front_laws.proofs.Now.{shown_near}
use Rattle.world_state.specs.Laws.{StateLaws}
use Rattle.world_state.specs.Reading.{Context, state_of}
use Rattle.world_state.specs.Stands.{IsNear, Stands}
use Rattle.world_state.specs.Ties.{IsReady}
use Rattle.world_state.specs.Told.{IsLosing, StaysDark}
use Rattle.world_state.specs.Work.{issued, waiting}
use Rattle.world_steps.specs.Reading.{IsRead}
use Rattle.world_steps.specs.World.{StandsFor, WorldState, is_to_do}
use Rattle.world.specs.Runs.{Finishes, IsAgain}
use Rattle.world.specs.declared.finish.Finish.TheVariants.{Off as IsOff, Again}

-- the sink failed within the one line
pub part_of_halt : {K : Type 0} (took : K → List ℕ → K → Type 0) (old new : K) (item : Item) (halt : Halt) → Takes took old (item ∷ []) (Err halt) new → halt ≡ SinkFailed → TakesPart took old (item ∷ []) new
part_of_halt took old new item halt takes is = part_of_one took old new item (subst (λ h. Takes took old (item ∷ []) (Err h) new) is takes)

first_or : (x y : Bool) → (x || y) ≡ false → x ≡ false
first_or true y is = absurd (cc)
first_or false y is = refl

none_issued : count_by is_some no_holders ≡ 0
unfolding no_holders
none_issued = refl

-- where nothing was to do, nothing is behind a loss of power
nothing_left : (p p' : PathState) → p'.driver.requests ≡ forgotten p.driver.requests → p'.driver.recovery ≡ Calm → is_to_do p ≡ false → is_to_do p' ≡ false
unfolding is_to_do
nothing_left p p' requests calm none =
    let wait : waiting p' ≡ waiting p = ap (λ (s : Standings). count_by (λ waits. waits) s.waiting) requests in
    let issue : issued p' ≡ 0 = ap (λ (s : Standings). count_by is_some s.holders) requests ∙ none_issued in
    let idle : not (waiting p == 0) ≡ false = first_or (not (waiting p == 0)) (not (issued p == 0) || is_recovering p.driver.recovery) none in
    ap (λ n. not (n == 0) || (not (issued p' == 0) || is_recovering p'.driver.recovery)) wait
    ∙ ap (λ n. not (waiting p == 0) || (not (n == 0) || is_recovering p'.driver.recovery)) issue
    ∙ ap (λ r. not (waiting p == 0) || (not (0 == 0) || is_recovering r)) calm
    ∙ ap (λ x. x || (not (0 == 0) || is_recovering Calm)) idle

causes_off : (end : End) (a a' : ArrayState) → Later a.faults a'.faults → Later a.cuts a'.cuts → HasCauses 0 a a' (Off end ∷ []) (Err SinkFailed)
causes_off end a a' faults cuts = record {
  later_faults = faults;
  later_cuts = cuts;
  flash = rose_none a.faults a'.faults faults;
  cuts = rose_none a.cuts a'.cuts cuts;
}

-- what the path stands for is near
near_owed : (s t : State) (shown : Option (List Block)) → t ≡ record s { owed = t.owed } → IfSome shown (IsNear s) → IfSome shown (IsNear t)
near_owed s t None is near = tt
near_owed s t (Some pages) is near = subst (λ (x : State). IsNear x pages) (sym is) (keeps_near s s.letters s.event t.owed pages near)

near_of : StateLaws → (p : PathState) (o : OrderState) (a : ArrayState) (t : State) → Stands p o a t → IfSome (shown_by a) (IsNear t)
near_of laws p o a t stands =
    near_owed (state_of p o stands.context) t (shown_by a) stands.state (shown_near laws p a o stands.context p.card.store a stands.agrees stands.agrees.store)

module _ (read : IsRead) (ends : EndsByFlush) (explained : AreFlushesExplained) (joined : AreJoined) (steps : FlushSteps) {K : Type 0} (took : K → List ℕ → K → Type 0)
    (w : WorldState) (a : ArrayState) (old new : K) (ready : IsReady w.path a) (none : is_to_do w.path ≡ false) (p1 : PathState) (a1 : ArrayState) where
  may_end : (result : Result (Unit {0}) StoreEnd) → FlushEvent w.path a p1 a1 result → (s : State) → StandsFor w a s → MayEnd w.path w.order a p1 a1 result s
  may_end result event s f =
      subst (λ s. MayEnd w.path w.order a p1 a1 result s) (sym f.state) (ends w a p1 a1 result f.context event f.agrees ((read w a f.context f.agrees).to_do ∙ none))

  -- the sink failed in the end's line
  ends_in_line : (end : End) (halt : Halt) (w' : WorldState) → Later a.faults a1.faults → Later a.cuts a1.cuts
      → ((s : State) → StandsFor w a s → (line_rule s (Off end) ≡ None) × IfSome (shown_by a1) (IsNear (effect s (Off end)))) → halt ≡ SinkFailed → TakesPart took old (Off end ∷ []) new → ShowsImage a1
      → Finishes took w a old (Err halt) w' a1 new
  ends_in_line end halt w' faults cuts may is part image =
      subst (λ halt. Finishes took w a old (Err halt) w' a1 new) (sym is)
      (record {
        lines = Off end ∷ [];
        wrote = part;
        tells = λ s f. inl (end, refl, (may s f).0, (may s f).1);
        ends = tt;
        dark = λ none. absurd none;
        causes = causes_off end a a1 faults cuts;
        settled = λ is. absurd (cc);
        is_open = λ is. absurd (cc);
        image = image;
      })

  pub good_broken : StateLaws → (halt : Halt) (w' : WorldState) → FlushEvent w.path a p1 a1 (Ok tt) → halt ≡ SinkFailed → TakesPart took old (Off Good ∷ []) new → Finishes took w a old (Err halt) w' a1 new
  good_broken laws halt w' event is part =
      ends_in_line Good halt w' event.ends.faults event.ends.cuts
      (λ s f. ((may_end (Ok tt) event s f).good, near_of laws p1 w.order a1 (effect s (Off Good)) (may_end (Ok tt) event s f).stands)) is part (open_image p1.card.store a1 event.stored.fits)

  pub fault_broken : (halt : Halt) (w' : WorldState) → FlushEvent w.path a p1 a1 (Err Flash) → halt ≡ SinkFailed → TakesPart took old (Off Fault ∷ []) new → Finishes took w a old (Err halt) w' a1 new
  fault_broken halt w' event is part =
      ends_in_line Fault halt w' event.ends.faults event.ends.cuts (λ s f. ((may_end (Err Flash) event s f).fault refl, (may_end (Err Flash) event s f).near_fault refl)) is part (open_image p1.card.store a1 event.stored.fits)

  pub ends_good : FlushEvent w.path a p1 a1 (Ok tt) → a1.settled ≡ true → took old (items_text (Off Good ∷ [])) new → Finishes took w a old (Ok IsOff) (record { path = p1; order = w.order }) a1 new
  ends_good event settled taken = record {
    lines = Off Good ∷ [];
    wrote = taken;
    tells = λ s f. (refl, (may_end (Ok tt) event s f).good, (may_end (Ok tt) event s f).kept, (may_end (Ok tt) event s f).stands);
    ends = tt;
    dark = λ none. absurd none;
    causes = (explained w.path a p1 a1 (Ok tt) event ready.powered).good.0;
    settled = λ is. settled;
    is_open = λ is. event.stored.fits;
    image = open_image p1.card.store a1 event.stored.fits;
  }

  pub ends_fault : (w' : WorldState) → FlushEvent w.path a p1 a1 (Err Flash) → took old (items_text (Off Fault ∷ [])) new → Finishes took w a old (Err OpenFault) w' a1 new
  ends_fault w' event taken = record {
    lines = Off Fault ∷ [];
    wrote = taken;
    tells = λ s f. inl (refl, (may_end (Err Flash) event s f).fault refl, (may_end (Err Flash) event s f).near_fault refl);
    ends = ([], refl);
    dark = λ none. absurd none;
    causes = (explained w.path a p1 a1 (Err Flash) event ready.powered).fault refl;
    settled = λ is. absurd (cc);
    is_open = λ is. absurd (cc);
    image = open_image p1.card.store a1 event.stored.fits;
  }

  module _ (event : FlushEvent w.path a p1 a1 (Err PowerLost)) where
    at_last : (s : State) (f : StandsFor w a s) → IsAtLast w f.context
    at_last s f = record { reads = read w a f.context f.agrees; tied = ready.tied; none = (read w a f.context f.agrees).to_do ∙ none }

    losing : (s : State) (f : StandsFor w a s) → IsLosing (before w f.context) p1 w.order a1
    losing s f = (steps w.path a p1 a1 (Err PowerLost) event ready.tied).losing refl w.order f.context f.agrees ((read w a f.context f.agrees).to_do ∙ none)

    causes_lost : (items : List Item) (a2 : ArrayState) (result : Result (Unit {0}) Halt) → HasCauses 1 a1 a2 (Cut ∷ items) result → HasCauses 0 a a2 (Cut ∷ items) result
    causes_lost items a2 result has = joined.cut a a1 a2 [] items result ((explained w.path a p1 a1 (Err PowerLost) event ready.powered).lost refl) has

    pub again : (p2 : PathState) (a2 : ArrayState) → IsBackOn p1 a1 p2 a2 → IsAgain w (record { path = p2; order = w.order }) a2
    again p2 a2 back =
        let same : p1.driver.requests ≡ w.path.driver.requests = ap (λ (p : PathState). p.driver.requests) event.stored.path in
        record {
          ready = back.ready;
          none = nothing_left w.path p2 (back.anew.requests ∙ ap forgotten same) back.anew.calm none;
          empty = back.empty;
          plan = back.plan ∙ ap (λ (p : PathState). plan_of p) event.stored.path;
          order = refl;
        }

    -- a flush that finds nothing to stage isn't cut
    pub not_lost : HoldsNothing w.path.card → (HoldsNothing w.path.card → a1 ≡ only_settled a a1) → ⊥
    not_lost empty bare =
        let off : a1.powered ≡ false = (event.ends.lost refl).1 in
        let on : a1.powered ≡ true = ap (λ (x : ArrayState). x.powered) (bare empty) ∙ ready.powered in
        absurd (cc)

    module _ (back : (w : WorldState) (c : Context) (more : List Item) (p : PathState) (a : ArrayState) → IsFlushBackOn w c more p a)
        (ended : (w : WorldState) (c : Context) (first : List Item) (end : End) (a : ArrayState) → IsFlushEnded w c first end a)
        (stopped : (w : WorldState) (c : Context) (whole : List Item) (a : ArrayState) → IsFlushStopped w c whole a) (p2 : PathState) (a2 : ArrayState) where
      abbrev w2 : WorldState
      w2 = record { path = p2; order = w.order }

      pub lost_again : Loses took p1 a1 old (Ok tt) p2 a2 new → Finishes took w a old (Ok Again) w2 a2 new
      lost_again l = record {
        lines = Cut ∷ l.items;
        wrote = l.wrote;
        tells = λ s f.
            subst (λ s. (t : State) × Dropped s (Cut ∷ l.items) t × StandsFor w2 a2 t) (sym f.state)
            (back w f.context l.items p2 a2 (at_last s f) (l.leaves (before w f.context) w.order (losing s f)));
        ends = tt;
        dark = λ none. absurd none;
        causes = causes_lost l.items a2 (Ok tt) l.causes;
        settled = λ is. absurd (cc);
        is_open = λ is. absurd (cc);
        image = l.image (open_image p1.card.store a1 event.stored.fits);
      }

      abbrev IsOver : State → List Item → Type 0
      IsOver s items = (t : State) × Dropped s (Cut ∷ items) t × (t.owed ≡ Ended) × IfSome (shown_by a2) (IsNear t)

      over : (items front : List Item) (end : End) → items ≡ front ++ Off end ∷ [] → (s : State) (f : StandsFor w a s) → StaysDark (before w f.context) items a2 → IsOver s items
      over items front end are s f dark =
          subst (λ s. IsOver s items) (sym f.state)
          (subst (λ xs. IsOver (before w f.context) xs) (sym are) (ended w f.context front end a2 (at_last s f) (subst (λ xs. StaysDark (before w f.context) xs a2) are dark)))

      pub lost_halt : (halt : Halt) (w' : WorldState) → Loses took p1 a1 old (Err halt) p2 a2 new → Finishes took w a old (Err halt) w' a2 new
      lost_halt SinkFailed w' l = record {
        lines = Cut ∷ l.items;
        wrote = l.wrote;
        tells = λ s f.
            inr (subst (λ s. (first : DropsFirst s (Cut ∷ l.items)) × IfSome (shown_by a2) (IsNear first.1)) (sym f.state)
            (stopped w f.context l.items a2 (at_last s f) (l.leaves (before w f.context) w.order (losing s f))));
        ends = tt;
        dark = λ none. absurd none;
        causes = causes_lost l.items a2 (Err SinkFailed) l.causes;
        settled = λ is. absurd (cc);
        is_open = λ is. absurd (cc);
        image = l.image (open_image p1.card.store a1 event.stored.fits);
      }
      lost_halt OpenFault w' l = record {
        lines = Cut ∷ l.items;
        wrote = l.wrote;
        tells = λ s f. inr (over l.items l.end.0 Fault l.end.1 s f (l.leaves (before w f.context) w.order (losing s f)));
        ends = (Cut ∷ l.end.0, ap (λ items. Cut ∷ items) l.end.1);
        dark = λ none. absurd none;
        causes = causes_lost l.items a2 (Err OpenFault) l.causes;
        settled = λ is. absurd (cc);
        is_open = λ is. absurd (cc);
        image = l.image (open_image p1.card.store a1 event.stored.fits);
      }
      lost_halt PowerGone w' l = record {
        lines = Cut ∷ l.items;
        wrote = l.wrote;
        tells = λ s f. inr (over l.items l.end.0 Dead l.end.1 s f (l.leaves (before w f.context) w.order (losing s f)));
        ends = (Cut ∷ l.end.0, ap (λ items. Cut ∷ items) l.end.1);
        dark = λ _. cut_among [] l.items;
        causes = causes_lost l.items a2 (Err PowerGone) l.causes;
        settled = λ is. absurd (cc);
        is_open = λ is. absurd (cc);
        image = l.image (open_image p1.card.store a1 event.stored.fits);
      }
      lost_halt BadImage w' l = record {
        lines = Cut ∷ l.items;
        wrote = l.wrote;
        tells = λ s f. inr (over l.items l.end.0 Image l.end.1 s f (l.leaves (before w f.context) w.order (losing s f)));
        ends = (Cut ∷ l.end.0, ap (λ items. Cut ∷ items) l.end.1);
        dark = λ _. cut_among [] l.items;
        causes = causes_lost l.items a2 (Err BadImage) l.causes;
        settled = λ is. absurd (cc);
        is_open = λ is. absurd (cc);
        image = l.image (open_image p1.card.store a1 event.stored.fits);
      }
