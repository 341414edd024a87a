-- Where a run ends behind a loss of power, the pages are near the state after its last line.
use Rattle.std.proofs.Common.{◌≡◌, ◌∙◌, ℕ, ◌≤◌, ◌⊎◌, ◌++◌, inl, inr, Bool, true, Option, Some, None, IfSome, List, [], ◌∷◌, min, refl, ap, sym, subst, arith}
use Rattle.std.proofs.lemmas.Bool.{eqb-true, leb-true}
use Rattle.std.proofs.lemmas.List.{append-nil}
use Rattle.array_edge.specs.Array.{ArrayState}
use Rattle.cut_laws.proofs.Darks.{cuts_shown, end_shown, part_shown, unread_shown}
use Rattle.cut_laws.proofs.Lose.{lost_shown}
use Rattle.cut_laws.specs.Laws.{AreGone, LeadsNear, LosesRequests, MayBeShown, dark, further_cuts, may_end}
use Rattle.cut_laws.specs.Lost.{AreLost, lost_lines}
use Rattle.cut_order.specs.Order.{OrderState}
use Rattle.intent_store.specs.Intent.{shown_by}
use Rattle.left_laws.proofs.Shows.{more_append}
use Rattle.left_laws.specs.Lines.{CanBeLeft, lines_below}
use Rattle.storage_machine.specs.Commands.{due}
use Rattle.storage_machine.specs.declared.commands.DueCommand.{DueCommand}
use Rattle.storage_machine.specs.declared.commands.DueCommand.TheVariants.{Execute}
use Rattle.storage_machine.specs.declared.state.Owed.TheVariants.{End as Ended}
use Rattle.storage_machine.specs.declared.state.State.{State}
use Rattle.storage_model.proofs.Remains.{is_left-base}
use Rattle.storage_model.specs.Left.{is_left}
use Rattle.storage_model.specs.declared.block.Block.{Block}
use Rattle.storage_model.specs.declared.plan.Fill.{Fill}
use Rattle.storage_model.specs.declared.plan.Job.{Job}
use Rattle.storage_model.specs.declared.plan.Job.TheVariants.{Read, Write, Flush, Barrier, Status}
use Rattle.storage_model.specs.declared.trace.End.{End}
use Rattle.storage_model.specs.declared.trace.End.TheVariants.{Good, Fault, Dead, Image}
use Rattle.storage_model.specs.declared.trace.Item.{Item}
use Rattle.storage_model.specs.declared.trace.Item.TheVariants.{Off, On}
use Rattle.storage_order.specs.Events.{More}
use Rattle.trace_effects.specs.Effects.{first_cut, over}
use Rattle.trace_effects.specs.Phases.{puts_of}
use Rattle.dark_laws.proofs.Anew.{gone}
use Rattle.dark_laws.proofs.Back.{ids_held}
use Rattle.dark_laws.proofs.Held.{cut_first, cut_is}
use Rattle.dark_laws.proofs.Pages.{pages_left}
use Rattle.dark_laws.specs.Ends.{EndsClosed, EndsDark, EndsInCuts, EndsLeaving, EndsLosing, EndsUnread, LosesSome, ShowsSome}
use Rattle.world_state.specs.Path.{PathState}
use Rattle.world_state.specs.Stands.{IsNear, first_puts, puts_on}
use Rattle.world_state.specs.Told.{IsLosing, StaysDark}

-- no put of the write that is due

no_puts : (blocks : List Block) (sector : ℕ) (fill : Fill) (reliable : Bool) → puts_of blocks sector fill reliable 0 ≡ []
unfolding puts_of
no_puts blocks sector fill reliable = refl

no_put : (blocks : List Block) (job : Job) → puts_on blocks job 0 ≡ []
no_put blocks (Write sector all fill forced reliable high) =
    let none : min 0 all ≡ 0 = omega arith in
    ap (λ n. puts_of blocks sector fill reliable n) none ∙ no_puts blocks sector fill reliable
no_put blocks (Read sector count high) = refl
no_put blocks Flush = refl
no_put blocks Barrier = refl
no_put blocks Status = refl

no_first : (s : State) (command : DueCommand) → first_puts s command 0 ≡ []
no_first s (Execute tag) = no_put _ _
no_first s command = refl

near_by : (u : State) (shown : List Block) → is_left u.base u.pend shown ≡ true → IsNear u shown
near_by u shown left = record {
  count = 0;
  near = ap (λ marks. is_left u.base (u.pend ++ marks) shown) (no_first u (due u)) ∙ (ap (λ pend. is_left u.base pend shown) (append-nil u.pend) ∙ left);
}

pub near_kept : (s u : State) (shown : List Block) → is_left s.base s.pend shown ≡ true → u.base ≡ s.base → u.pend ≡ s.pend → IsNear u shown
near_kept s u shown left base pend = near_by u shown (ap (λ x. is_left x u.pend shown) base ∙ (ap (λ x. is_left s.base x shown) pend ∙ left))

near_left : (u : State) (after : List Block) → u.base ≡ after → u.pend ≡ [] → IsNear u after
near_left u after base pend = near_by u after (ap (λ x. is_left x u.pend after) base ∙ (ap (λ x. is_left after x after) pend ∙ is_left-base after []))

near_either : (s u : State) (after : List Block) → is_left s.base s.pend after ≡ true → ((u.base ≡ s.base) × (u.pend ≡ s.pend)) ⊎ ((u.base ≡ after) × (u.pend ≡ [])) → IsNear u after
near_either s u after left (inl same) = near_kept s u after left same.0 same.1
near_either s u after left (inr shown) = near_left u after shown.0 shown.1

all_near : (s u : State) (shown : Option (List Block)) → IfSome shown (CanBeLeft s.base s.pend) → u.base ≡ s.base → u.pend ≡ s.pend → IfSome shown (IsNear u)
all_near s u None can base pend = tt
all_near s u (Some after) can base pend = near_kept s u after can.left base pend

-- an end may stand behind eight cuts at most
few_cuts : (cuts : ℕ) (end : End) → may_end cuts end ≡ true → cuts ≤ 8
few_cuts cuts Good may = absurd (cc)
few_cuts cuts Fault may = let few = leb-true cuts 7 may in omega (arith, few)
few_cuts cuts Image may = let few = leb-true cuts 7 may in omega (arith, few)
few_cuts cuts Dead may = let is = eqb-true cuts 8 may in omega (arith, is)

module _ (s : State) (p : PathState) (o : OrderState) (a a' : ArrayState) where
  loses : (all : Bool) (ids : List ℕ) → LosesSome s p o a a' all ids → LosesRequests (first_cut s) p.driver.requests.waiting all (lost_lines ids)
  loses all ids some = lost_shown p.driver.requests.waiting (first_cut s) all ids (cut_first s p o a some.out.sound some.losing)
      (subst (λ holders. AreLost 0 holders all ids) (ids_held s p o a some.out.sound some.losing) some.lost)

  -- the lines from the first cut on, to a state that is near
  stays : (all : Bool) (ids : List ℕ) → LosesSome s p o a a' all ids → (items : List Item) (u : State) → More (first_cut s) items u → IfSome (shown_by a) (IsNear u) → StaysDark s items a'
  stays all ids some items u more near = record {
    last = u;
    more = subst (λ v. More v items u) (sym (cut_is s some.losing.unjudged.lit)) more;
    near = subst (λ shown. IfSome shown (IsNear u)) (sym some.kept) near;
  }

  kept : (all : Bool) (ids : List ℕ) → LosesSome s p o a a' all ids → (u : State) → u.base ≡ s.base → u.pend ≡ s.pend → IfSome (shown_by a) (IsNear u)
  kept all ids some u base pend = all_near s u (shown_by a) (pages_left s p o a some.losing) base pend

  pub ends_losing : EndsLosing s p o a a'
  ends_losing all ids some =
      let lost = loses all ids some in
      stays all ids some (lost_lines ids) lost.last lost.follow.more (kept all ids some lost.last lost.base lost.pend)

  lost_all : (ids : List ℕ) → LosesSome s p o a a' true ids → More (first_cut s) (lost_lines ids) (gone s p)
  lost_all ids some = let lost = loses true ids some in subst (λ u. More (first_cut s) (lost_lines ids) u) (lost.whole refl) lost.follow.more

  all_gone : AreGone (gone s p)
  all_gone = record { slots = refl; event = refl }

  with_cuts : (ids : List ℕ) (cuts : ℕ) → LosesSome s p o a a' true ids → cuts ≤ 8 → (items : List Item) (u : State) → More (dark (gone s p) cuts) items u → More (first_cut s) (lost_lines ids ++ (further_cuts cuts ++ items)) u
  with_cuts ids cuts some few items u more =
      more_append (first_cut s) (gone s p) u (lost_lines ids) (further_cuts cuts ++ items) (lost_all ids some)
      (more_append (gone s p) (dark (gone s p) cuts) u (further_cuts cuts) items (cuts_shown (gone s p) cuts all_gone few) more)

  pub ends_in_cuts : EndsInCuts s p o a a'
  ends_in_cuts ids cuts some few =
      stays true ids some (lost_lines ids ++ further_cuts cuts) (dark (gone s p) cuts)
      (more_append (first_cut s) (gone s p) (dark (gone s p) cuts) (lost_lines ids) (further_cuts cuts) (lost_all ids some) (cuts_shown (gone s p) cuts all_gone few))
      (kept true ids some (dark (gone s p) cuts) refl refl)

  pub ends_closed : EndsClosed s p o a a'
  ends_closed ids cuts end some may =
      stays true ids some (lost_lines ids ++ (further_cuts cuts ++ Off end ∷ [])) (over (dark (gone s p) cuts) Ended)
      (with_cuts ids cuts some (few_cuts cuts end may) (Off end ∷ []) (over (dark (gone s p) cuts) Ended) (end_shown (gone s p) cuts end all_gone may))
      (kept true ids some (over (dark (gone s p) cuts) Ended) refl refl)

  can : (after : List Block) → IsLosing s p o a → shown_by a ≡ Some after → CanBeLeft s.base s.pend after
  can after losing is = subst (λ shown. IfSome shown (CanBeLeft s.base s.pend)) is (pages_left s p o a losing)

  may_show : (ids : List ℕ) (cuts : ℕ) (after : List Block) → ShowsSome s p o a a' ids cuts after → MayBeShown (gone s p) cuts after
  may_show ids cuts after some = record { gone = all_gone; few = some.few; within = some.loses.losing.within; can = can after some.loses.losing some.shows }

  leads : (ids : List ℕ) (cuts : ℕ) (after : List Block) → ShowsSome s p o a a' ids cuts after → (items : List Item) → LeadsNear (dark (gone s p) cuts) items after → StaysDark s (lost_lines ids ++ (further_cuts cuts ++ items)) a'
  leads ids cuts after some items to =
      stays true ids some.loses (lost_lines ids ++ (further_cuts cuts ++ items)) to.last
      (with_cuts ids cuts some.loses (let few = some.few in omega (arith, few)) items to.last to.more)
      (subst (λ shown. IfSome shown (IsNear to.last)) (sym some.shows) (near_either s to.last after (can after some.loses.losing some.shows).left to.near))

  pub ends_leaving : EndsLeaving s p o a a'
  ends_leaving ids cuts after n some few = leads ids cuts after some (On ∷ lines_below s.pend after n) (part_shown (gone s p) cuts after n (may_show ids cuts after some) few)

  pub ends_unread : EndsUnread s p o a a'
  ends_unread ids cuts after n some few put =
      leads ids cuts after some (On ∷ (lines_below s.pend after n ++ Off Fault ∷ [])) (unread_shown (gone s p) cuts after n (may_show ids cuts after some) few put)

pub ends_dark : (s : State) (p : PathState) (o : OrderState) (a a' : ArrayState) → EndsDark s p o a a'
ends_dark s p o a a' = record {
  losing = ends_losing s p o a a';
  cuts = ends_in_cuts s p o a a';
  closed = ends_closed s p o a a';
  leaving = ends_leaving s p o a a';
  unread = ends_unread s p o a a';
}
