-- The state that a run's path stands for once its card is open.
use Rattle.std.proofs.Common.{◌≡◌, ◌∙◌, ℕ, ◌-◌, ◌≤◌, Bool, true, false, Option, Some, None, IfSome, List, [], length, min, replicate, refl, ap, sym, subst, arith}
use Rattle.std.proofs.lemmas.List.{length-replicate}
use Rattle.std.proofs.lemmas.List.Elements.{All-nil}
use Rattle.std.proofs.lemmas.Option.{same_Some}
use Rattle.std.specs.Prelude.{is_some, option_map}
use Rattle.array_edge.specs.Array.{ArrayState}
use Rattle.bus_link.specs.Script.{Script}
use Rattle.card_core.specs.Card.{CardState}
use Rattle.card_store.specs.Store.{Stands as StoreStands}
use Rattle.cq_regs.specs.Coalesce.{ic_written}
use Rattle.cq_regs.specs.Effects.{at_reset}
use Rattle.cq_regs.specs.Slots.{has_bit}
use Rattle.cq_schedule.specs.Held.{slots}
use Rattle.cut_order.specs.Order.{OrderState, fresh}
use Rattle.drv_core.specs.SetUp.{coalescing_word}
use Rattle.drv_core.specs.State.{DriverState, at_start}
use Rattle.drv_jobs.proofs.HolderLaws.{holder-none}
use Rattle.drv_jobs.specs.Changes.{faults_of}
use Rattle.drv_jobs.specs.Standings.{all_waiting, no_holders}
use Rattle.intent_store.specs.Intent.{Known, shown_by}
use Rattle.run_laws.specs.Whole.{opened}
use Rattle.storage_machine.specs.Slots.{no_tasks}
use Rattle.storage_machine.specs.declared.state.State.{State}
use Rattle.storage_model.specs.Contents.{IsWithin}
use Rattle.storage_model.specs.declared.block.Block.{Block}
use Rattle.storage_model.specs.declared.faults.Faults.{Faults}
use Rattle.storage_model.specs.declared.plan.Plan.{Plan}
use Rattle.storage_order.specs.Accept.{started}
use Rattle.dark_laws.specs.Anew.{IsCardAnew, IsSameScript, IsTiedAnew, set_anew}
use Rattle.end_laws.proofs.Fresh.{is_sound_fresh, zero_at}
use Rattle.end_laws.specs.Ends.{StandsOpened}
use Rattle.world_state.specs.Path.{PathState}
use Rattle.world_state.specs.Reading.{Context, data_of, state_of, tasks_of}
use Rattle.world_state.specs.Stands.{Agrees, AreNamed, named_at}
use Rattle.world_state.specs.Ties.{AreTied}

-- what nobody holds: the pages alone
abbrev pub context_of : List Block → Plan → Faults → Context
context_of base plan faults = record {
  base = base;
  pend = [];
  n = 0;
  named = replicate (length plan.jobs) 0;
  staged = false;
  kept = false;
  worked = false;
  array = faults.array;
}

-- the path whose driver holds nothing yet
abbrev from_start : Plan → PathState → PathState
from_start plan p = record p { driver = at_start plan }

tasks_none : (p : PathState) (card : CardState) (script : Script) → tasks_of (set_anew p card script) ≡ no_tasks
unfolding tasks_of no_tasks slots no_holders
tasks_none p card script = refl

data_none : (p : PathState) (card : CardState) (script : Script) → data_of (set_anew p card script) ≡ replicate 32 []
unfolding data_of slots no_holders
data_none p card script = refl

count_by : (b : Bool) (word : ℕ) → has_bit word 16 ≡ b → (ic_written at_reset.coalescing word).counter ≡ 0
count_by true word is = rw is refl
count_by false word is = rw is refl

-- what the script told of commands and words as the run began
record IsUnused (faults : Faults) (script : Script) : Type 0 where
  pub ready : script.ready ≡ faults.ready
  pub hits : script.hits ≡ faults.bus
  pub used : script.used ≡ 0
  pub sent : script.sent ≡ 0

state_start : (base : List Block) (plan : Plan) (faults : Faults) (p : PathState) (card : CardState) (script : Script) → IsUnused faults script → card.store.cache.last ≡ 0
    → state_of (set_anew (from_start plan p) card script) (fresh faults.turns faults.cuts) (context_of base plan faults) ≡ opened base plan faults
unfolding state_of started
state_start base plan faults p card script unused last =
    let t : State = opened base plan faults in
    let q : PathState = set_anew (from_start plan p) card script in
    ap (λ x. record t { faults = record faults { ready = x; bus = script.hits }; slots = tasks_of q; «data» = data_of q; bars = card.store.cache.last; words = script.used; count = q.regs.coalescing.counter }) unused.ready
    ∙ ap (λ x. record t { faults = record faults { bus = x }; slots = tasks_of q; «data» = data_of q; bars = card.store.cache.last; words = script.used; count = q.regs.coalescing.counter }) unused.hits
    ∙ ap (λ x. record t { slots = x; «data» = data_of q; bars = card.store.cache.last; words = script.used; count = q.regs.coalescing.counter }) (tasks_none (from_start plan p) card script)
    ∙ ap (λ x. record t { «data» = x; bars = card.store.cache.last; words = script.used; count = q.regs.coalescing.counter }) (data_none (from_start plan p) card script)
    ∙ ap (λ x. record t { bars = x; words = script.used; count = q.regs.coalescing.counter }) last
    ∙ ap (λ x. record t { words = x; count = q.regs.coalescing.counter }) unused.used
    ∙ ap (λ x. record t { count = x }) (count_by (has_bit (coalescing_word plan.coalesce) 16) (coalescing_word plan.coalesce) refl)

-- what is read off it agrees

told_by : {X Y : Type 0} (f : X → Y) (told : Option X) (y : Y) → option_map f told ≡ Some y → is_some told ≡ true
told_by f None y is = absurd (cc is)
told_by f (Some x) y is = refl

few_by : (known : Option Known) (n : ℕ) → option_map (λ known. known.sectors) known ≡ Some n → IfSome known (λ known. known.sectors ≤ 65536) → n ≤ 65536
few_by None n is most = absurd (cc is)
few_by (Some known) n is most = let same = same_Some known.sectors n is in omega (arith, same, most)

named_start : (plan : Plan) (p : PathState) (card : CardState) (script : Script) → AreNamed (set_anew (from_start plan p) card script) (replicate (length plan.jobs) 0)
named_start plan p card script = record {
  long = length-replicate (length plan.jobs) 0;
  waiting = λ id waits.
      let zeros : named_at (replicate (length plan.jobs) 0) id ≡ 0 = zero_at (length plan.jobs) (id - 1) in
      let none : faults_of (all_waiting plan) id ≡ 0 = zero_at (length plan.jobs) (id - 1) in
      zeros ∙ sym (ap (λ n. min n 4) none);
  issued = λ tag id at. absurd (cc (holder-none tag, at));
}

agrees_start : (base : List Block) (plan : Plan) (faults : Faults) (p : PathState) (card : CardState) (script : Script) (a' : ArrayState) → IsUnused faults script → IsCardAnew p.card card a' → shown_by a' ≡ Some base
    → AreTied (set_anew (from_start plan p) card script) → Agrees (set_anew (from_start plan p) card script) a' (context_of base plan faults)
agrees_start base plan faults p card script a' unused anew shown tied =
    let store : StoreStands (record { base = base; pend = [] }) card.store a' =
    subst (λ shown. IfSome shown (λ shown. StoreStands (record { base = shown; pend = [] }) card.store a')) shown anew.stands in
    record {
      told = told_by _ a'.told base shown;
      tied = tied;
      number = unused.sent;
      named = named_start plan p card script;
      store = store;
      within = All-nil (IsWithin base);
      read = tt;
      few = few_by card.store.known (length base) store.sectors anew.store.most;
      deferred = λ through staged kept few. subst (λ shown. IfSome shown (λ pages. pages ≡ base)) (sym shown) refl;
    }

-- both together, for the path as it was

unused_by : (faults : Faults) (old script : Script) → old.ready ≡ faults.ready → old.hits ≡ faults.bus → old.used ≡ 0 → old.sent ≡ 0 → IsSameScript old script → IsUnused faults script
unused_by faults old script ready hits used sent same = record {
  ready = same.ready ∙ ready;
  hits = same.hits ∙ hits;
  used = same.used ∙ used;
  sent = same.sent ∙ sent;
}

record StandsBy (base : List Block) (plan : Plan) (faults : Faults) (p : PathState) (o : OrderState) (a : ArrayState) : Type 0 where
  pub state : state_of p o (context_of base plan faults) ≡ opened base plan faults
  pub agrees : Agrees p a (context_of base plan faults)

stands_by : (base : List Block) (plan : Plan) (faults : Faults) (p : PathState) (card : CardState) (script : Script) (o : OrderState) (a' : ArrayState) → p.driver ≡ at_start plan → o ≡ fresh faults.turns faults.cuts
    → IsUnused faults script → IsCardAnew p.card card a' → shown_by a' ≡ Some base → AreTied (set_anew p card script) → StandsBy base plan faults (set_anew p card script) o a'
stands_by base plan faults p card script o a' driver order unused anew shown tied = record {
  state =
      ap (λ (d : DriverState). state_of (set_anew (record p { driver = d }) card script) o (context_of base plan faults)) driver
      ∙ ap (λ x. state_of (set_anew (from_start plan p) card script) x (context_of base plan faults)) order
      ∙ state_start base plan faults p card script unused anew.last;
  agrees =
      subst (λ (d : DriverState). Agrees (set_anew (record p { driver = d }) card script) a' (context_of base plan faults)) (sym driver)
      (agrees_start base plan faults p card script a' unused anew shown
      (subst (λ (d : DriverState). AreTied (set_anew (record p { driver = d }) card script)) driver tied));
}

pub stands_opened : ((p : PathState) (a : ArrayState) (p' : PathState) (a' : ArrayState) → IsTiedAnew p a p' a') → StandsOpened
stands_opened tied_anew plan faults w a w' a' base valid come f o shown =
    let tied : AreTied w'.path = tied_anew w.path a w'.path a' (is_sound_fresh plan faults w valid come f) o.anew in
    let same = o.anew.path in
    let unused = unused_by faults w.path.script w'.path.script (ap (λ s. s.ready) f.script) (ap (λ s. s.hits) f.script) (ap (λ s. s.used) f.script) (ap (λ s. s.sent) f.script) o.anew.script in
    let by = subst (λ p. StandsBy base plan faults p w'.order a') (sym same)
    (stands_by base plan faults w.path w'.path.card w'.path.script w'.order a' f.driver (o.order ∙ f.order) unused o.anew.card shown (subst AreTied same tied)) in
    record { context = context_of base plan faults; state = sym by.state; agrees = by.agrees }
