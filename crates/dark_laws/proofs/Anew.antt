-- The state that the path set up anew stands for.
use Rattle.std.proofs.Common.{◌≡◌, ◌∙◌, ℕ, ◌<◌, Bool, true, false, Option, Some, None, IfSome, List, [], length, min, refl, ap, sym, subst, arith}
use Rattle.std.proofs.lemmas.List.Elements.{All-nil}
use Rattle.std.specs.Prelude.{is_some, option_map}
use Rattle.array_edge.specs.Array.{ArrayState}
use Rattle.bus_link.specs.Script.{Script}
use Rattle.card_core.specs.Card.{CardState}
use Rattle.card_store.specs.Store.{Stands as StoreStands}
use Rattle.cq_regs.specs.Coalesce.{ic_written}
use Rattle.cq_regs.specs.Effects.{at_reset}
use Rattle.cq_regs.specs.Slots.{has_bit}
use Rattle.cq_schedule.specs.Held.{slots}
use Rattle.cut_laws.specs.Laws.{all_lost, no_data}
use Rattle.cut_order.specs.Order.{OrderState, order_of}
use Rattle.drv_core.specs.SetUp.{coalescing_word}
use Rattle.drv_jobs.proofs.HolderLaws.{holder-none}
use Rattle.drv_jobs.specs.Changes.{faults_of}
use Rattle.drv_jobs.specs.Standings.{no_holders}
use Rattle.drv_jobs.specs.declared.requests.TheConstants.{MOST_FAULTS}
use Rattle.intent_store.specs.Intent.{shown_by}
use Rattle.left_laws.specs.Lines.{all_shown}
use Rattle.storage_machine.specs.Slots.{no_tasks}
use Rattle.storage_machine.specs.declared.state.State.{State}
use Rattle.storage_model.specs.Contents.{IsWithin}
use Rattle.storage_model.specs.declared.block.Block.{Block}
use Rattle.trace_effects.specs.Effects.{first_cut, powered}
use Rattle.dark_laws.specs.Anew.{IsCardAnew, IsSameScript, Outlasts, set_anew}
use Rattle.world_state.specs.Path.{PathState, plan_of}
use Rattle.world_state.specs.Reading.{Context, data_of, state_of, tasks_of}
use Rattle.world_state.specs.Stands.{Agrees, AreNamed}
use Rattle.world_state.specs.Ties.{AreTied}
use Rattle.world_state.specs.Told.{IsLosing}

-- the state behind the last line, and what nobody holds then
abbrev pub gone : State → PathState → State
gone s p = all_lost (first_cut s) p.driver.requests.waiting

abbrev pub lit : State → PathState → List Block → State
lit s p after = all_shown (powered (gone s p)) after

abbrev pub context_of : State → List Block → Context
context_of s after = record {
  base = after;
  pend = [];
  n = s.n;
  named = s.named;
  staged = s.staged;
  kept = false;
  worked = (first_cut s).worked;
  array = s.faults.array;
}

tasks_none : (p : PathState) (card : CardState) (script : Script) → tasks_of (set_anew p card script) ≡ no_tasks
unfolding tasks_of no_tasks slots no_holders
tasks_none p card script = refl

data_none : (p : PathState) (card : CardState) (script : Script) → data_of (set_anew p card script) ≡ no_data
unfolding data_of slots no_holders
data_none p card script = refl

count_by : (b : Bool) (word : ℕ) → has_bit word 16 ≡ b → (ic_written at_reset.coalescing word).counter ≡ 0
count_by true word is = rw is refl
count_by false word is = rw is refl

pub count_none : (word : ℕ) → (ic_written at_reset.coalescing word).counter ≡ 0
count_none word = count_by (has_bit word 16) word refl

module _ (s : State) (p : PathState) (o : OrderState) (a a' : ArrayState) (card : CardState) (script : Script) (losing : IsLosing s p o a)
    (same : IsSameScript p.script script) (anew : IsCardAnew p.card card a') (after : List Block) where
  abbrev t : State
  t = lit s p after

  abbrev q : PathState
  q = set_anew p card script

  last_none : card.store.cache.last ≡ 0
  last_none = anew.last

  pub state_is : state_of q (order_of (first_cut s)) (context_of s after) ≡ t
  unfolding state_of
  state_is =
      ap (λ x. record t { plan = x; faults = record t.faults { ready = script.ready; bus = script.hits }; slots = tasks_of q; «data» = data_of q; bars = card.store.cache.last; words = script.used; count = q.regs.coalescing.counter }) (sym losing.plan)
      ∙ ap (λ x. record t { faults = record t.faults { ready = x; bus = script.hits }; slots = tasks_of q; «data» = data_of q; bars = card.store.cache.last; words = script.used; count = q.regs.coalescing.counter }) (same.ready ∙ sym losing.ready)
      ∙ ap (λ x. record t { faults = record t.faults { bus = x }; slots = tasks_of q; «data» = data_of q; bars = card.store.cache.last; words = script.used; count = q.regs.coalescing.counter }) (same.hits ∙ sym losing.bus)
      ∙ ap (λ x. record t { slots = x; «data» = data_of q; bars = card.store.cache.last; words = script.used; count = q.regs.coalescing.counter }) (tasks_none p card script)
      ∙ ap (λ x. record t { «data» = x; bars = card.store.cache.last; words = script.used; count = q.regs.coalescing.counter }) (data_none p card script)
      ∙ ap (λ x. record t { bars = x; words = script.used; count = q.regs.coalescing.counter }) last_none
      ∙ ap (λ x. record t { words = x; count = q.regs.coalescing.counter }) (same.used ∙ sym losing.words)
      ∙ ap (λ x. record t { count = x }) (count_none (coalescing_word (plan_of p).coalesce))

  named_is : Outlasts p → AreNamed q s.named
  named_is tied = record {
    long = losing.long;
    waiting = λ id waits. let borne = tied.borne.waiting id waits in losing.named id waits ∙ most (faults_of p.driver.requests id) borne;
    issued = λ tag id at. absurd (cc (holder-none tag, at));
  }
    where
      most : (n : ℕ) → n < MOST_FAULTS → n ≡ min n 4
      most n less = omega (arith, less)

  told_by : {X Y : Type 0} (f : X → Y) (told told' : Option X) → option_map f told' ≡ option_map f told → is_some told ≡ true → is_some told' ≡ true
  told_by f None told' is some = absurd (cc)
  told_by f (Some pages) None is some = absurd (cc)
  told_by f (Some pages) (Some others) is some = refl

  pub agrees_anew : Outlasts p → AreTied q → shown_by a' ≡ shown_by a → shown_by a ≡ Some after → length after ≡ length s.base → Agrees q a' (context_of s after)
  agrees_anew tied tied' kept is long = record {
    told = told_by _ a.told a'.told kept losing.told;
    tied = tied';
    number = same.sent ∙ sym losing.n;
    named = named_is tied;
    store = subst (λ shown. IfSome shown (λ shown. StoreStands (record { base = shown; pend = [] }) card.store a')) (kept ∙ is) anew.stands;
    within = All-nil (IsWithin after);
    read = tt;
    few = let few = losing.few in omega (arith, few, long);
    deferred = λ through staged kept_off few. subst (λ shown. IfSome shown (λ pages. pages ≡ after)) (sym (kept ∙ is)) refl;
  }
