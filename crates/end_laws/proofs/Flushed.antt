-- Behind a flush that went well, where nothing is to do: path and array stand for the state behind the line of the good end.
use Rattle.std.proofs.Common.{◌≡◌, ◌∙◌, ◌++◌, ◌≤◌, ◌&&◌, not, None, IfSome, List, All, is_some, ap, sym, subst}
use Rattle.std.proofs.lemmas.List.{append-nil}
use Rattle.std.proofs.lemmas.List.Elements.{All-nil}
use Rattle.array_edge.specs.Array.{ArrayState}
use Rattle.card_store.specs.Store.{Contents, IsSameStore, Stands as StoreStands, Store, kept}
use Rattle.cut_order.specs.Order.{OrderState}
use Rattle.intent_store.specs.Intent.{shown_by}
use Rattle.storage_machine.specs.declared.state.Owed.TheVariants.{End as Ended}
use Rattle.storage_machine.specs.declared.state.State.{State}
use Rattle.storage_model.proofs.Durable.{keep_pend-every, length-keep_base}
use Rattle.storage_model.specs.Contents.{IsWithin}
use Rattle.storage_model.specs.Keep.{every_sector, keep_base, keep_pend}
use Rattle.storage_model.specs.declared.block.Block.{Block}
use Rattle.storage_model.specs.declared.marks.Mark.{Mark}
use Rattle.storage_model.specs.declared.trace.End.TheVariants.{Good}
use Rattle.storage_model.specs.declared.trace.Item.TheVariants.{Off}
use Rattle.trace_effects.specs.Effects.{after_off, effect}
use Rattle.trace_effects.specs.Phases.{after_keep, is_empty}
use Rattle.world_state.specs.Path.{PathState, under_way}
use Rattle.world_state.specs.Reading.{Context, data_of, state_of, tasks_of}
use Rattle.world_state.specs.Stands.{Agrees, AreNamed, HasReadSoFar, Stands, contents_of, marks_moved_by}
use Rattle.world_state.specs.Ties.{AreTied}

-- no block is on its way
abbrev contents_with : List Block → List Mark → Contents
contents_with base pend = record { base = base; pend = pend }

pub bare_of : (p : PathState) (c : Context) → under_way p ≡ None → contents_of p c ≡ contents_with c.base c.pend
bare_of p c way = ap (λ w. contents_with c.base (c.pend ++ marks_moved_by p w)) way ∙ ap (contents_with c.base) (append-nil c.pend)

-- all is kept
abbrev kept_context : Context → Context
kept_context c = record c { base = keep_base every_sector c.base c.pend; pend = keep_pend every_sector c.pend; kept = not (is_empty (keep_pend every_sector c.pend)) && c.kept }

abbrev with_store : PathState → Store → PathState
with_store p st = record p { card = record p.card { store = st } }

state_after : (p : PathState) (o : OrderState) (c : Context) (st : Store) → IsSameStore p.card.store st → effect (state_of p o c) (Off Good) ≡ record (state_of (with_store p st) o (kept_context c)) { owed = Ended }
unfolding state_of tasks_of data_of effect after_off after_keep
state_after p o c st same = ap {B = State} (λ n. record (effect (state_of p o c) (Off Good)) { bars = n }) (sym same.last)

module _ (p : PathState) (o : OrderState) (a : ArrayState) (c : Context) (agrees : Agrees p a c) (way : under_way p ≡ None) (st : Store) (a' : ArrayState) where
  named_after : AreNamed (with_store p st) c.named
  named_after = record { long = agrees.named.long; waiting = agrees.named.waiting; issued = agrees.named.issued }

  agrees_after : AreTied (with_store p st) → is_some a'.told ≡ is_some a.told → StoreStands (kept every_sector (contents_with c.base c.pend)) st a' → IfSome (shown_by a') (λ pages. pages ≡ keep_base every_sector c.base c.pend)
      → Agrees (with_store p st) a' (kept_context c)
  agrees_after tied told stands whole = record {
    told = told ∙ agrees.told;
    tied = tied;
    number = agrees.number;
    named = named_after;
    store = subst (λ x. StoreStands x st a') (sym (bare_of (with_store p st) (kept_context c) way)) stands;
    within = subst (λ (ms : List Mark). All (IsWithin (keep_base every_sector c.base c.pend)) ms) (sym (keep_pend-every c.pend)) (All-nil (IsWithin (keep_base every_sector c.base c.pend)));
    read = subst (λ way. IfSome way (HasReadSoFar (with_store p st) (kept_context c))) (sym way) tt;
    few = subst (λ n. n ≤ 65536) (sym (length-keep_base every_sector c.base c.pend)) agrees.few;
    deferred = λ through staged kept few. whole;
  }

  pub stands_after : IsSameStore p.card.store st → AreTied (with_store p st) → is_some a'.told ≡ is_some a.told → StoreStands (kept every_sector (contents_with c.base c.pend)) st a'
      → IfSome (shown_by a') (λ pages. pages ≡ keep_base every_sector c.base c.pend) → Stands (with_store p st) o a' (effect (state_of p o c) (Off Good))
  stands_after same tied told stands whole = record {
    context = kept_context c;
    state = state_after p o c st same ∙ ap {A = State} (λ t. record (state_of (with_store p st) o (kept_context c)) { owed = t.owed }) (sym (state_after p o c st same));
    agrees = agrees_after tied told stands whole;
  }
