-- Where nothing of the cache was staged when power was lost, the lines of what is left tell what was kept.
use Rattle.std.proofs.Common.{◌≡◌, ◌∙◌, ℕ, zero, suc, ◌≤◌, ◌++◌, ◌&&◌, inl, inr, Bool, true, false, not, nat_lt, Option, Some, None, IfSome, List, [], ◌∷◌, length, refl, sym, subst, arith}
use Rattle.std.proofs.lemmas.Bool.{and_parts, cases_Bool, ltb-true}
use Rattle.array_edge.specs.Array.{ArrayState}
use Rattle.cut_laws.proofs.Darks.{cuts_shown}
use Rattle.cut_laws.specs.Laws.{dark, further_cuts}
use Rattle.cut_laws.specs.Lost.{lost_lines}
use Rattle.cut_order.specs.Order.{OrderState}
use Rattle.intent_store.specs.Intent.{shown_by}
use Rattle.left_laws.proofs.Lowest.{next_at, next_is, none_at}
use Rattle.left_laws.proofs.Ons.{turns_on}
use Rattle.left_laws.proofs.Sectors.{map_put, map_skip, steady}
use Rattle.left_laws.proofs.Shows.{below_shown, option_cases, shown_so}
use Rattle.left_laws.specs.Lines.{CanBeLeft, OwesLeft, has_put, left_line, lines_below, shown_below}
use Rattle.storage_machine.specs.Cuts.{next_left}
use Rattle.storage_machine.specs.declared.state.State.{State}
use Rattle.storage_model.specs.declared.block.Block.{Block}
use Rattle.storage_model.specs.declared.trace.End.{End}
use Rattle.storage_model.specs.declared.trace.End.TheVariants.{Fault}
use Rattle.storage_model.specs.declared.trace.Item.{Item}
use Rattle.storage_model.specs.declared.trace.Item.TheVariants.{Cut, Off, On}
use Rattle.storage_order.specs.Events.{More}
use Rattle.storage_runs.specs.Runs.{StaysSo}
use Rattle.trace_effects.specs.Cuts.{is_deferred, places_of}
use Rattle.trace_effects.specs.Effects.{effect, first_cut}
use Rattle.dark_laws.proofs.Anew.{gone}
use Rattle.dark_laws.proofs.Back.{all_gone, can, loses, lost}
use Rattle.dark_laws.proofs.Held.{cut_is, work_before}
use Rattle.dark_laws.specs.Anew.{Leads, Outlasts}
use Rattle.dark_laws.specs.Kept.{IsLeftSo, LeavesSo}
use Rattle.world_state.specs.Path.{PathState}
use Rattle.world_state.specs.Told.{IsLosing}

stays_append : (s u : State) (xs ys : List Item) → More s xs u → StaysSo s xs → StaysSo u ys → StaysSo s (xs ++ ys)
stays_append s u [] ys more first second = subst (λ x. StaysSo x ys) more second
stays_append s u (x ∷ xs) ys more first second = (first.0, stays_append (effect s x) u xs ys more.2 first.1 second)

-- an end and further cuts tell of no sector

stays_off : (s : State) (xs : List Item) (end : End) → StaysSo s xs → StaysSo s (xs ++ Off end ∷ [])
stays_off s [] end first = (refl, tt)
stays_off s (x ∷ xs) end first = (first.0, stays_off (effect s x) xs end first.1)

stays_cut : (s : State) (cuts : ℕ) → StaysSo s (further_cuts cuts)
stays_cut s zero = tt
stays_cut s (suc cuts) = (refl, stays_cut (effect s Cut) cuts)

-- the sectors below n

stays_below : (s : State) (after : List Block) (n : ℕ) → OwesLeft s → CanBeLeft s.base s.pend after → (s.deferred ≡ true → after ≡ s.base) → n ≤ length after → StaysSo s (lines_below s.pend after n)
stays_below s after zero owes can kept few = tt
stays_below s after (suc n) owes can kept few =
    let before = stays_below s after n owes can kept (omega (arith, few)) in
    elim (cases_Bool (has_put n s.pend)) [
      | inl put ↦
          let at : next_left s.pend n ≡ Some n = next_is s.pend n n (omega arith) put (λ j a b. absurd (omega (arith, a, b))) in
          subst (λ lines. StaysSo s lines) (sym (map_put (left_line after) s.pend n put))
          (stays_append s (shown_below s after n) (lines_below s.pend after n) (left_line after n ∷ [])
          (below_shown s after n owes can (omega (arith, few))) before (shown_so s after n n owes kept at, tt))
      | inr off ↦ subst (λ lines. StaysSo s lines) (sym (map_skip (left_line after) s.pend n off)) before
    ]

-- where the flag is set nothing was staged

kept_by : (shown : Option (List Block)) (base after : List Block) → shown ≡ Some after → IfSome shown (λ pages. pages ≡ base) → after ≡ base
kept_by None base after is kept = absurd (cc)
kept_by (Some pages) base after is kept = let same : pages ≡ after = cc in sym same ∙ kept

not_true : (b : Bool) → not b ≡ true → b ≡ false
not_true true is = absurd (cc)
not_true false is = refl

module _ (s : State) (p : PathState) (o : OrderState) (a : ArrayState) (out : Outlasts p) (losing : IsLosing s p o a) (ids : List ℕ) (cuts : ℕ) (after : List Block) (leads : Leads p a ids cuts after) where
  abbrev d : State
  d = dark (gone s p) cuts

  abbrev on : State
  on = effect d On

  may_left : CanBeLeft s.base s.pend after
  may_left = can s p o a out losing ids cuts after leads

  is_kept : is_deferred d ≡ true → after ≡ s.base
  is_kept flag =
      let one = and_parts (not s.plan.through) (not s.staged && (not s.kept && (d.worked && nat_lt (length (places_of s.pend)) s.plan.lines))) flag in
      let two = and_parts (not s.staged) (not s.kept && (d.worked && nat_lt (length (places_of s.pend)) s.plan.lines)) one.1 in
      let three = and_parts (not s.kept) (d.worked && nat_lt (length (places_of s.pend)) s.plan.lines) two.1 in
      let four = and_parts d.worked (nat_lt (length (places_of s.pend)) s.plan.lines) three.1 in
      kept_by (shown_by a) s.base after leads.shows
      (losing.deferred (work_before s four.0) (not_true s.plan.through one.0) (not_true s.staged two.0) (not_true s.kept three.0) (ltb-true (length (places_of s.pend)) s.plan.lines four.1))

  some_left : (k n : ℕ) → has_put k s.pend ≡ true → n ≤ length after → StaysSo on (lines_below s.pend after n)
  some_left k n put few =
      let turns = turns_on d in
      let base : on.base ≡ s.base = turns.base in
      let pend : on.pend ≡ s.pend = turns.pend k put in
      let may : CanBeLeft on.base on.pend after = subst (λ x. CanBeLeft x on.pend after) (sym base) (subst (λ x. CanBeLeft s.base x after) (sym pend) may_left) in
      let so : on.deferred ≡ true → after ≡ on.base = λ flag. is_kept (sym (turns.deferred k put) ∙ flag) ∙ sym base in
      subst (λ x. StaysSo on (lines_below x after n)) pend (stays_below on after n (turns.some k put losing.within) may so few)

  on_stays : (n : ℕ) → n ≤ length after → StaysSo d (On ∷ lines_below s.pend after n)
  on_stays n few = (
    refl,
    elim (option_cases (next_left s.pend 0)) [
      | inl none ↦ subst (λ lines. StaysSo on lines) (sym (steady (lines_below s.pend after) 0 n (omega arith) (λ j x y. map_skip (left_line after) s.pend j (none_at s.pend 0 none j (omega arith))))) tt
      | inr some ↦ some_left some.0 n (next_at s.pend 0 some.0 some.1).1 few
    ],
  )

  from_cut : (items : List Item) → StaysSo d items → StaysSo (effect s Cut) (lost_lines ids ++ (further_cuts cuts ++ items))
  from_cut items stays =
      subst (λ u. StaysSo u (lost_lines ids ++ (further_cuts cuts ++ items))) (sym (cut_is s losing.unjudged.lit))
      (stays_append (first_cut s) (gone s p) (lost_lines ids) (further_cuts cuts ++ items) (lost s p o a out losing ids cuts after leads) (loses s p o a out losing ids cuts after leads).follow.stays
      (stays_append (gone s p) d (further_cuts cuts) items (cuts_shown (gone s p) cuts (all_gone s p o a out losing ids cuts after leads) (let few = leads.few in omega (arith, few))) (stays_cut (gone s p) cuts) stays))

  pub leaves_so : LeavesSo s ids cuts after
  leaves_so = record {
    all = from_cut (On ∷ lines_below s.pend after (length after)) (on_stays (length after) (omega arith));
    below = λ n few. from_cut (On ∷ lines_below s.pend after n) (on_stays n few);
    unread = λ n few. from_cut (On ∷ (lines_below s.pend after n ++ Off Fault ∷ [])) (stays_off d (On ∷ lines_below s.pend after n) Fault (on_stays n few));
  }

pub left_so : (s : State) (p : PathState) (o : OrderState) (a : ArrayState) → IsLeftSo s p o a
left_so s p o a out losing ids cuts after leads = leaves_so s p o a out losing ids cuts after leads
