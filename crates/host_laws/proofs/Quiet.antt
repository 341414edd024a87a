-- Contents and numbers where no phase is under way, before and after an event that leaves the store.
use Rattle.std.proofs.Common.{◌≡◌, ◌∙◌, ◌++◌, ◌<◌, ◌+◌, ℕ, false, List, [], Option, None, IfSome, is_some, length, ap, sym, subst, if◌then◌else◌}
use Rattle.storage_model.specs.declared.block.Block.{Block}
use Rattle.storage_model.specs.declared.marks.Mark.{Mark}
use Rattle.storage_model.specs.declared.plan.Plan.{Plan}
use Rattle.array_edge.specs.Array.{ArrayState}
use Rattle.card_store.specs.Store.{Store, Stands as StoreStands}
use Rattle.intent_store.specs.Intent.{shown_by}
use Rattle.trace_effects.specs.Cuts.{places_of}
use Rattle.world_state.specs.Path.{PathState, is_busy, moved, plan_of, under_way}
use Rattle.world_state.specs.Reading.{Context, spent_of}
use Rattle.world_state.specs.Stands.{Agrees, AreNamed, HasReadSoFar, IsDeferred, contents_of, marks_moved, marks_moved_by, sent_of}
use Rattle.world_state.specs.Ties.{AreTied}

pub not_busy : (p : PathState) → under_way p ≡ None → is_busy p ≡ false
not_busy p none = ap is_some none

pub none_spent : (p : PathState) → under_way p ≡ None → spent_of p ≡ 0
none_spent p none = ap (λ b. if b then moved p + 1 else 0) (not_busy p none)

pub none_moved : (p : PathState) → under_way p ≡ None → marks_moved p ≡ []
none_moved p none = ap (marks_moved_by p) none

store_moved : (p q : PathState) (a : ArrayState) (c : Context) → under_way p ≡ None → under_way q ≡ None → q.card.store ≡ p.card.store
    → StoreStands (contents_of p c) p.card.store a → StoreStands (contents_of q c) q.card.store a
store_moved p q a c none none' store s =
    subst (λ (x : Store). StoreStands (contents_of q c) x a) (sym store)
    (subst (λ (marks : List Mark). StoreStands (record { base = c.base; pend = c.pend ++ marks }) p.card.store a) (none_moved p none ∙ sym (none_moved q none')) s)

deferred_moved : (p q : PathState) (c : Context) (shown : Option (List Block)) → under_way p ≡ None → under_way q ≡ None → plan_of q ≡ plan_of p
    → IsDeferred p c shown → IsDeferred q c shown
deferred_moved p q c shown none none' plan d =
    subst (λ (x : Plan). x.through ≡ false → c.staged ≡ false → c.kept ≡ false → length (places_of (contents_of q c).pend) < x.lines → IfSome shown (λ pages. pages ≡ c.base)) (sym plan)
    (subst (λ (marks : List Mark). (plan_of p).through ≡ false → c.staged ≡ false → c.kept ≡ false → length (places_of (c.pend ++ marks)) < (plan_of p).lines → IfSome shown (λ pages. pages ≡ c.base))
    (none_moved p none ∙ sym (none_moved q none')) d)

-- what agrees, agrees after it with another number and other faults
pub agrees_quiet : (p q : PathState) (a : ArrayState) (c : Context) (n : ℕ) (named : List ℕ) → Agrees p a c → under_way p ≡ None → AreTied q → under_way q ≡ None
    → q.card.store ≡ p.card.store → plan_of q ≡ plan_of p → q.script.sent ≡ n → AreNamed q named → Agrees q a (record c { n = n; named = named })
agrees_quiet p q a c n named g none tied none' store plan sent names = record {
  told = g.told;
  tied = tied;
  number = sent ∙ sym (ap (λ b. sent_of b n) (not_busy q none'));
  named = names;
  store = store_moved p q a c none none' store g.store;
  within = g.within;
  read = subst (λ way. IfSome way (HasReadSoFar q (record c { n = n; named = named }))) (sym none') tt;
  few = g.few;
  deferred = deferred_moved p q c (shown_by a) none none' plan g.deferred;
}
