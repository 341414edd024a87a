-- Contents and numbers where a phase may be under way, which goes on unchanged.
use Rattle.std.proofs.Common.{◌≡◌, ◌≢◌, ◌∙◌, ◌++◌, ◌+◌, ◌<◌, ◌≤◌, ℕ, zero, suc, Bool, true, false, cond, List, None, Some, IfSome, length, map, set, is_some, refl, ap, sym, subst, arith, add-zero}
use Rattle.std.proofs.lemmas.Bool.{false≢true}
use Rattle.std.specs.List.{range_with_len}
use Rattle.storage_model.specs.declared.marks.Mark.{Mark}
use Rattle.storage_model.specs.declared.plan.Plan.{Plan}
use Rattle.array_edge.specs.Array.{ArrayState}
use Rattle.card_store.specs.Store.{Store, Stands as StoreStands}
use Rattle.cq_regs.specs.Slots.{progress_of}
use Rattle.cq_regs.specs.declared.slots.Progress.{Progress}
use Rattle.cq_regs.specs.declared.slots.Progress.TheVariants.{Idle, Rung, Named, Sent, Ready, Active}
use Rattle.cq_schedule.specs.Held.{same}
use Rattle.cq_schedule.specs.Order.{first_at, order_of}
use Rattle.intent_store.specs.Intent.{shown_by}
use Rattle.trace_effects.specs.Cuts.{places_of}
use Rattle.world_state.specs.Path.{PathState, plan_of, under_way}
use Rattle.world_state.specs.Reading.{Context}
use Rattle.world_state.specs.Stands.{Agrees, AreNamed, HasReadSoFar, contents_of, marks_moved, sent_of}
use Rattle.world_state.specs.Ties.{AreTied}
use Rattle.host_laws.proofs.Dues.{found_holds}

pub agrees_same : (p q : PathState) (a : ArrayState) (c : Context) → Agrees p a c → AreTied q → under_way q ≡ under_way p → marks_moved q ≡ marks_moved p
    → q.card.store ≡ p.card.store → plan_of q ≡ plan_of p → q.script.sent ≡ p.script.sent → AreNamed q c.named → IfSome (under_way q) (HasReadSoFar q c) → Agrees q a c
agrees_same p q a c g tied way marks store plan sent named read = record {
  told = g.told;
  tied = tied;
  number = sent ∙ (g.number ∙ sym (ap (λ w. sent_of (is_some w) c.n) way));
  named = named;
  store = subst (λ (x : Store). StoreStands (contents_of q c) x a) (sym store)
      (subst (λ (ms : List Mark). StoreStands (record { base = c.base; pend = c.pend ++ ms }) p.card.store a) (sym marks) g.store);
  within = g.within;
  read = read;
  few = g.few;
  deferred = subst (λ (x : Plan). x.through ≡ false → c.staged ≡ false → c.kept ≡ false → length (places_of (contents_of q c).pend) < x.lines → IfSome (shown_by a) (λ pages. pages ≡ c.base)) (sym plan)
      (subst (λ (ms : List Mark). (plan_of p).through ≡ false → c.staged ≡ false → c.kept ≡ false → length (places_of (c.pend ++ ms)) < (plan_of p).lines → IfSome (shown_by a) (λ pages. pages ≡ c.base))
      (sym marks) g.deferred);
}

-- the tag of the phase under way is active
active_is : (progress : Progress) → same progress Active ≡ true → progress ≡ Active
active_is Idle e = absurd (false≢true e)
active_is Rung e = absurd (false≢true e)
active_is Named e = absurd (false≢true e)
active_is Sent e = absurd (false≢true e)
active_is Ready e = absurd (false≢true e)
active_is Active e = refl

way_by : (p : PathState) (tag : ℕ) (stopped : Bool) → cond stopped None (first_at Active p.regs.ring) ≡ Some tag → progress_of p.regs.ring tag ≡ Active
way_by p tag true e = absurd (cc (e))
way_by p tag false e =
    active_is (progress_of p.regs.ring tag) (found_holds (λ slot. same (progress_of p.regs.ring slot) Active) (order_of p.regs.ring) tag e)

pub way_active : (p : PathState) (tag : ℕ) → under_way p ≡ Some tag → progress_of p.regs.ring tag ≡ Active
way_active p tag e = way_by p tag p.regs.stopped e

-- lists over the tags
pub range_same : {A : Type 0} (f g : ℕ → A) (a n : ℕ) → ((k : ℕ) → a ≤ k → k < a + n → f k ≡ g k) → map f (range_with_len a n) ≡ map g (range_with_len a n)
range_same f g a zero same_at = refl
range_same f g a (suc n) same_at =
    let first = same_at a (omega arith) (omega arith) in
    let rest = range_same f g (a + 1) n (λ k l h. same_at k (omega (arith, l)) (omega (arith, h))) in
    rw (first, rest) refl

pub range_set : {A : Type 0} (f g : ℕ → A) (a n i : ℕ) (x : A) → i < n → g (a + i) ≡ x → ((k : ℕ) → k ≢ a + i → g k ≡ f k)
    → map g (range_with_len a n) ≡ set (map f (range_with_len a n)) i x
range_set f g a zero i x low at others = absurd (omega (arith, low))
range_set f g a (suc n) zero x low at others =
    let here : g a ≡ x = subst (λ k. g k ≡ x) (add-zero a) at in
    let rest = range_same g f (a + 1) n (λ k l h. others k (λ e. absurd (omega (arith, e, l)))) in
    rw (here, rest) refl
range_set f g a (suc n) (suc i) x low at others =
    let first = others a (λ e. absurd (omega (arith, e))) in
    let shift : a + suc i ≡ a + 1 + i = omega arith in
    let rest = range_set f g (a + 1) n i x (omega (arith, low)) (subst (λ k. g k ≡ x) shift at) (λ k h. others k (λ e. h (e ∙ shift))) in
    rw (first, rest) refl
