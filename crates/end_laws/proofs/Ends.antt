-- Where nothing is to do: the line of the end behind the last flush, and the pages then.
use Rattle.std.proofs.Common.{◌≡◌, ◌∙◌, ◌++◌, ℕ, ◌<◌, Bool, true, false, Option, Some, None, MatchOption, IfSome, List, [], length, min, refl, ap, sym, subst, arith}
use Rattle.std.specs.Prelude.{Result, Ok, Err, OnOk, OnErr}
use Rattle.std.proofs.lemmas.List.{append-nil, ext_get_or}
use Rattle.array_edge.specs.Array.{ArrayState}
use Rattle.card_store.proofs.Bare.{stands_bare}
use Rattle.card_store.proofs.Turning.{lines_left}
use Rattle.card_store.specs.Stands.{LinesStand}
use Rattle.card_store.specs.Store.{Contents, Stands as StoreStands, Store, Turns, has_put, kept, same}
use Rattle.cut_order.specs.Order.{OrderState}
use Rattle.epoch_cache.specs.Cache.{Cache}
use Rattle.intent_store.specs.Intent.{shown_by}
use Rattle.intent_store.specs.declared.ends.StoreEnd.{StoreEnd}
use Rattle.storage_machine.specs.Commands.{due}
use Rattle.storage_machine.specs.Host.{to_do}
use Rattle.storage_machine.specs.declared.commands.DueCommand.{DueCommand}
use Rattle.storage_machine.specs.declared.commands.DueCommand.TheVariants.{Idle, Address, Params, Direct, Execute, Poll}
use Rattle.storage_machine.specs.declared.state.Owed.TheVariants.{Nothing}
use Rattle.storage_machine.specs.declared.state.State.{State}
use Rattle.storage_machine.specs.Commands.{job_on}
use Rattle.storage_model.proofs.Durable.{keep_pend-every}
use Rattle.storage_model.proofs.Latest.{is_left-keep}
use Rattle.storage_model.specs.Contents.{sector_at}
use Rattle.storage_model.specs.Keep.{every_sector, keep_base, keep_pend}
use Rattle.storage_model.specs.Left.{is_left}
use Rattle.storage_model.specs.declared.block.Block.{Block}
use Rattle.storage_model.specs.declared.marks.Mark.{Mark}
use Rattle.storage_model.specs.declared.plan.Fill.{Fill}
use Rattle.storage_model.specs.declared.plan.Job.{Job}
use Rattle.storage_model.specs.declared.plan.Job.TheVariants.{Read, Write, Flush, Barrier, Status}
use Rattle.storage_model.specs.declared.trace.End.TheVariants.{Good, Fault}
use Rattle.storage_model.specs.declared.trace.Item.TheVariants.{Off}
use Rattle.trace_effects.specs.Effects.{after_off, effect}
use Rattle.trace_effects.specs.Phases.{after_keep, puts_of}
use Rattle.trace_rules.specs.Lines.{holds, line_rule, off_holds}
use Rattle.end_laws.proofs.Flushed.{bare_of, stands_after}
use Rattle.end_laws.specs.Ends.{EndsByFlush, MayEnd}
use Rattle.power_laws.proofs.NothingToDo.{no_phase}
use Rattle.power_laws.specs.Power.{FlushEvent, FlushSteps}
use Rattle.world_state.specs.Path.{PathState, under_way}
use Rattle.world_state.specs.Reading.{Context, state_of}
use Rattle.world_state.specs.Stands.{Agrees, IsNear, Stands, first_puts, puts_on}
use Rattle.world_state.specs.Ties.{AreTied}

-- ---- the end's line

good_stands : (s : State) → s.owed ≡ Nothing → to_do s ≡ false → line_rule s (Off Good) ≡ None
unfolding line_rule holds off_holds to_do
good_stands s free none = rw (free, none) refl

fault_stands : (s : State) → s.owed ≡ Nothing → to_do s ≡ false → line_rule s (Off Fault) ≡ None
unfolding line_rule holds off_holds to_do
fault_stands s free none = rw (free, none) refl

kept_by_end : (s : State) → (effect s (Off Good)).base ≡ keep_base every_sector s.base s.pend
unfolding effect after_off after_keep
kept_by_end s = refl

fault_keeps : (s : State) → ((effect s (Off Fault)).base ≡ s.base) × ((effect s (Off Fault)).pend ≡ s.pend)
unfolding effect after_off
fault_keeps s = (refl, refl)

-- ---- near

some_also : {X : Type 0} (o : Option X) (P Q : X → Type 0) → ((x : X) → P x → Q x) → IfSome o P → IfSome o Q
some_also None P Q also h = tt
some_also (Some x) P Q also h = also x h

no_puts : (blocks : List Block) (sector all : ℕ) (fill : Fill) (reliable : Bool) → puts_of blocks sector fill reliable (min 0 all) ≡ []
unfolding puts_of
no_puts blocks sector all fill reliable = let none : min 0 all ≡ 0 = omega arith in ap (λ n. puts_of blocks sector fill reliable n) none

none_on : (blocks : List Block) (j : Job) → puts_on blocks j 0 ≡ []
none_on blocks (Read sector count high) = refl
none_on blocks (Write sector count fill forced reliable high) = no_puts blocks sector count fill reliable
none_on blocks Flush = refl
none_on blocks Barrier = refl
none_on blocks Status = refl

none_first : (s : State) (command : DueCommand) → first_puts s command 0 ≡ []
none_first s Idle = refl
none_first s (Address tag) = refl
none_first s (Params tag) = refl
none_first s (Direct tag) = refl
none_first s (Execute tag) = none_on s.plan.blocks (job_on s tag)
none_first s Poll = refl

near_by : (s : State) (pages : List Block) → is_left s.base s.pend pages ≡ true → IsNear s pages
near_by s pages left = record {
  count = 0;
  near = subst (λ (ms : List Mark). is_left s.base ms pages ≡ true) (sym (ap (λ ms. s.pend ++ ms) (none_first s (due s)) ∙ append-nil s.pend)) left;
}

all_near : (s : State) (shown : Option (List Block)) → IfSome shown (λ pages. is_left s.base s.pend pages ≡ true) → IfSome shown (IsNear s)
all_near s shown left = some_also shown (λ pages. is_left s.base s.pend pages ≡ true) (IsNear s) (near_by s) left

near_fault : (s : State) (shown : Option (List Block)) → IfSome shown (λ pages. is_left s.base s.pend pages ≡ true) → IfSome shown (IsNear (effect s (Off Fault)))
near_fault s shown left =
    let t : State = effect s (Off Fault) in
    let stay = fault_keeps s in
    all_near t shown (some_also shown (λ pages. is_left s.base s.pend pages ≡ true) (λ pages. is_left t.base t.pend pages ≡ true)
    (λ pages h. ap (λ base. is_left base t.pend pages) stay.0 ∙ ap (λ pend. is_left s.base pend pages) stay.1 ∙ h) left)

-- ---- without marks the pages are the base

lines_long : (cache : Cache) (shown : Option (List Block)) (base : List Block) (pend : List Mark) → LinesStand cache shown base pend → IfSome shown (λ pages. length pages ≡ length base)
lines_long cache None base pend stands = tt
lines_long cache (Some pages) base pend stands = stands.is.sectors

shown_is : (shown : Option (List Block)) (base : List Block) → IfSome shown (λ pages. length pages ≡ length base)
    → ((s : ℕ) → s < length base → IfSome shown (λ pages. sector_at pages s ≡ sector_at base s)) → IfSome shown (λ pages. pages ≡ base)
shown_is None base long equal = tt
shown_is (Some pages) base long equal = let none : Block = record { 0 = [] } in ext_get_or none pages base long (λ s few. equal s (omega (arith, few, long)))

shown_kept : (c : Contents) (store : Store) (a : ArrayState) → c.pend ≡ [] → StoreStands c store a → IfSome (shown_by a) (λ pages. pages ≡ c.base)
shown_kept c store a none stands =
    shown_is (shown_by a) c.base (lines_long store.cache (shown_by a) c.base c.pend stands.lines)
    (λ s few. stands_bare store a c s stands (subst (λ (o : Option ℕ). MatchOption o ⊥ (λ n. s < n)) (sym stands.sectors) few) (ap (has_put s) none))

-- ---- what is so of the flush

-- what is shown may be left, and behind a good flush it is what was kept
record Shows (base : List Block) (pend : List Mark) (a' : ArrayState) (result : Result (Unit {0}) StoreEnd) : Type 0 where
  pub left : IfSome (shown_by a') (λ pages. is_left base pend pages ≡ true)
  pub whole : OnOk result (IfSome (shown_by a') (λ pages. pages ≡ keep_base every_sector base pend))

shows_by : (base : List Block) (pend : List Mark) (old new : Store) (a a' : ArrayState) (result : Result (Unit {0}) StoreEnd) → OnOk result (Turns (kept every_sector) old a new a')
    → OnErr result (Turns same old a new a') → StoreStands (record { base = base; pend = pend }) old a → Shows base pend a' result
shows_by base pend old new a a' (Ok u) ok err stands =
    let c : Contents = record { base = base; pend = pend } in
    let after : StoreStands (kept every_sector c) new a' = ok c stands in
    record {
      left =
          some_also (shown_by a') (λ pages. is_left (keep_base every_sector base pend) (keep_pend every_sector pend) pages ≡ true) (λ pages. is_left base pend pages ≡ true)
          (λ pages h. is_left-keep every_sector base pend pages h)
          (lines_left new.cache (shown_by a') (keep_base every_sector base pend) (keep_pend every_sector pend) after.lines);
      whole = shown_kept (kept every_sector c) new a' (keep_pend-every pend) after;
    }
shows_by base pend old new a a' (Err end) ok err stands =
    let c : Contents = record { base = base; pend = pend } in
    let after : StoreStands c new a' = err c stands in
    record { left = lines_left new.cache (shown_by a') base pend after.lines; whole = tt }

on_ok : {T E : Type 0} (result : Result T E) (P : Type 0) → P → OnOk result P
on_ok (Ok x) P h = h
on_ok (Err e) P h = tt

ok_also : {T E : Type 0} (result : Result T E) (P Q : Type 0) → (P → Q) → OnOk result P → OnOk result Q
ok_also (Ok x) P Q also h = also h
ok_also (Err e) P Q also h = tt

may_end : (s : State) (p : PathState) (o : OrderState) (a : ArrayState) (p' : PathState) (a' : ArrayState) (result : Result (Unit {0}) StoreEnd) → s.owed ≡ Nothing → to_do s ≡ false → Shows s.base s.pend a' result
    → OnOk result (Stands p' o a' (effect s (Off Good))) → MayEnd p o a p' a' result s
may_end s p o a p' a' result free none shows stands = record {
  good = on_ok result (line_rule s (Off Good) ≡ None) (good_stands s free none);
  kept =
      ok_also result (IfSome (shown_by a') (λ pages. pages ≡ keep_base every_sector s.base s.pend)) (IfSome (shown_by a') (λ pages. pages ≡ (effect s (Off Good)).base))
      (subst (λ (base : List Block). IfSome (shown_by a') (λ pages. pages ≡ base)) (sym (kept_by_end s))) shows.whole;
  stands = stands;
  fault = λ failed. fault_stands s free none;
  near = all_near s (shown_by a') shows.left;
  near_fault = λ failed. near_fault s (shown_by a') shows.left;
}

free_of : (p : PathState) (o : OrderState) (c : Context) → (state_of p o c).owed ≡ Nothing
unfolding state_of
free_of p o c = refl

shows_of : (p : PathState) (o : OrderState) (c : Context) (a' : ArrayState) (result : Result (Unit {0}) StoreEnd) → Shows c.base c.pend a' result → Shows (state_of p o c).base (state_of p o c).pend a' result
unfolding state_of
shows_of p o c a' result shows = shows

-- behind a good flush the path stands for the state behind the line
stands_by : (p : PathState) (o : OrderState) (a : ArrayState) (c : Context) (p' : PathState) (a' : ArrayState) (result : Result (Unit {0}) StoreEnd) → Agrees p a c → under_way p ≡ None → AreTied p'
    → FlushEvent p a p' a' result → StoreStands (record { base = c.base; pend = c.pend }) p.card.store a → Shows c.base c.pend a' result → OnOk result (Stands p' o a' (effect (state_of p o c) (Off Good)))
stands_by p o a c p' a' (Err end) agrees way tied event stands shows = tt
stands_by p o a c p' a' (Ok done) agrees way tied event stands shows =
    subst (λ q. AreTied q → Stands q o a' (effect (state_of p o c) (Off Good))) (sym event.stored.path)
    (λ tied. stands_after p o a c agrees way p'.card.store a' event.stored.same tied event.ends.tells (event.ok (record { base = c.base; pend = c.pend }) stands) shows.whole) tied

pub ends_by_flush : FlushSteps → EndsByFlush
ends_by_flush steps w a p' a' result c event agrees none =
    let p : PathState = w.path in
    let way : under_way p ≡ None = no_phase p w.order c (under_way p) refl agrees.tied none in
    let stands = subst (λ (x : Contents). StoreStands x p.card.store a) (bare_of p c way) agrees.store in
    let shows = shows_by c.base c.pend p.card.store p'.card.store a a' result event.ok event.err stands in
    may_end (state_of p w.order c) p w.order a p' a' result (free_of p w.order c) none (shows_of p w.order c a' result shows)
    (stands_by p w.order a c p' a' result agrees way (steps p a p' a' result event agrees.tied).ties event stands shows)
