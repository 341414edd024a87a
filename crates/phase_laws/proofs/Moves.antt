-- What a block that moved tells: nothing, and the storage machine goes on with its phase.
use Rattle.std.proofs.Common.{◌≡◌, ◌<◌, ◌≤◌, ◌+◌, ℕ, refl, sym, ◌∙◌, ap, subst, arith, zero-add}
use Rattle.std.specs.Prelude.{Bool, true, false, cond, min, Some, None, IfSome, is_some, List, []}
use Rattle.std.specs.Option.{option_map_or}
use Rattle.std.proofs.lemmas.List.FromFn.{get_or-map-range_with_len}
use Rattle.array_edge.specs.Array.{ArrayState}
use Rattle.card_core.specs.Card.{CardState}
use Rattle.card_store.specs.Store.{Stands as StoreStands}
use Rattle.cq_engine.specs.Outcome.{Holding}
use Rattle.cq_regs.specs.declared.slots.Progress.TheVariants.{Active}
use Rattle.cq_schedule.specs.Held.{held_at, remembered, slots, with_block}
use Rattle.cq_schedule.specs.Meaning.{IsDue}
use Rattle.cq_schedule.specs.Order.{first_at}
use Rattle.cq_schedule.specs.declared.rules.Due.TheVariants.{Block as NextBlock}
use Rattle.cq_task.specs.declared.slot.DataTask.{DataTask}
use Rattle.cut_order.specs.Order.{OrderState}
use Rattle.drv_core.specs.State.{asks_notice, is_recovering}
use Rattle.drv_jobs.specs.Changes.{faults_of}
use Rattle.drv_ring.specs.declared.places.Layout.{Layout}
use Rattle.host_mem.specs.Memory.{Memory}
use Rattle.intent_store.specs.Intent.{shown_by}
use Rattle.storage_machine.specs.Commands.{is_gone, job_on}
use Rattle.storage_machine.specs.Jobs.{phase_blocks}
use Rattle.storage_machine.specs.Slots.{id_of, slot_at}
use Rattle.storage_machine.specs.declared.state.State.{State}
use Rattle.storage_machine.specs.declared.state.Stop.{Stop}
use Rattle.storage_machine.specs.declared.state.Stop.TheVariants as stop
use Rattle.storage_model.specs.declared.block.Block.{Block}
use Rattle.storage_model.specs.declared.faults.Letter.TheVariants.{Engine as EngineActs}
use Rattle.storage_model.specs.declared.plan.Job.{Job}
use Rattle.storage_order.specs.Events.{Happens}
use Rattle.world_state.specs.Laws.{StateLaws}
use Rattle.world_state.specs.Path.{PathState, holder, is_busy, job, layout, moved, moved_by, plan_of, under_way}
use Rattle.std.specs.Option.{option_map}
use Rattle.storage_order.specs.Events.{is_untold}
use Rattle.trace_rules.specs.Lines.{is_free}
use Rattle.world_state.specs.Reading.{Context, data_of, spent_of, standing_at, state_of, stop_by, stop_of, task_at, tasks_of}
use Rattle.world_state.specs.Stands.{Agrees, HasReadSoFar, IsDeferred, contents_of, names}
use Rattle.world_state.specs.Ties.{AreTied}
use Rattle.world_state.specs.Told.{Told}
use Rattle.storage_model.specs.declared.faults.Letter.{Letter}
use Rattle.storage_model.specs.declared.trace.Item.{Item}
use Rattle.phase_laws.proofs.Events.{InPhase}
use Rattle.phase_laws.proofs.Jobs.{DataJob, data_job, reads, writes}
use Rattle.phase_laws.proofs.Parts.{path_with}
use Rattle.phase_laws.proofs.Passing.{gone_on, passes}

-- ---- the state read off the path

pub slot_is : (p : PathState) (o : OrderState) (c : Context) (tag : ℕ) → tag < 32 → slot_at (state_of p o c).slots tag ≡ task_at p tag
unfolding state_of tasks_of slots
slot_is p o c tag within = get_or-map-range_with_len (task_at p) 0 32 tag tag None within (zero-add tag)

-- the request of a slot in the state
pub id_is : (p : PathState) (o : OrderState) (c : Context) (tag id : ℕ) → tag < 32 → holder p tag ≡ Some id → id_of (slot_at (state_of p o c).slots tag) ≡ id
id_is p o c tag id within is =
    ap id_of (slot_is p o c tag within)
    ∙ ap (λ o. id_of (option_map (λ n. record { id = n; standing = standing_at p tag }) o)) is

pub plan_is : (p : PathState) (o : OrderState) (c : Context) → (state_of p o c).plan ≡ plan_of p
unfolding state_of
plan_is p o c = refl

pub job_is : (p : PathState) (o : OrderState) (c : Context) (tag id : ℕ) → tag < 32 → holder p tag ≡ Some id → job_on (state_of p o c) tag ≡ job p id
unfolding state_of
job_is p o c tag id within is = ap (λ n. job p n) (id_is p o c tag id within is)

-- the blocks of a task in its data phase
pub blocks_are : (l : Layout) (slot : ℕ) (j : Job) (int : Bool) (task : DataTask) → DataJob l slot j int task → phase_blocks j ≡ task.desc.blocks
blocks_are l slot j int task (reads sector blocks high is e) = ap phase_blocks is ∙ sym (ap (λ x. x.desc.blocks) e)
blocks_are l slot j int task (writes sector blocks fill forced reliable high is e) = ap phase_blocks is ∙ sym (ap (λ x. x.desc.blocks) e)

pub way_is : (p : PathState) (slot : ℕ) (i : InPhase p slot) → under_way p ≡ Some slot
way_is p slot i = ap (λ b. cond b None (first_at Active p.regs.ring)) i.going ∙ i.first

pub moved_is : (p : PathState) (slot : ℕ) (i : InPhase p slot) → moved p ≡ i.h.moved
moved_is p slot i = ap (moved_by p) (way_is p slot i) ∙ ap (λ o. option_map_or (λ h. h.moved) o 0) i.at

pub free_is : (p : PathState) (o : OrderState) (c : Context) → is_free (state_of p o c).owed ≡ true
unfolding state_of
free_is p o c = refl

pub untold_is : (p : PathState) (o : OrderState) (c : Context) → is_untold (state_of p o c).event ≡ true
unfolding state_of
untold_is p o c = refl

spent_is : (p : PathState) (o : OrderState) (c : Context) → (state_of p o c).spent ≡ spent_of p
unfolding state_of
spent_is p o c = refl

-- the engine runs
pub not_stopped : (p : PathState) (slot : ℕ) (i : InPhase p slot) (q : Holding) → cond (is_recovering p.driver.recovery) stop.Running (cond p.regs.stopped (stop_by p q.cause) stop.Running) ≡ stop.Running
not_stopped p slot i q =
    ap (λ state. cond (is_recovering state) stop.Running (cond p.regs.stopped (stop_by p q.cause) stop.Running)) i.calm
    ∙ ap (λ b. cond b (stop_by p q.cause) stop.Running) i.going

abbrev with_moved : State → List (List Block) → ℕ → ℕ → Stop → State
with_moved s blocks bars spent halt = record s { «data» = blocks; bars = bars; spent = spent; stop = halt }

-- the state after a block moved
pub state_moved : (p : PathState) (m : Memory) (g : Holding) (card : CardState) (slot : ℕ) (i : InPhase p slot) (o : OrderState) (c : Context)
    → held_at g.held slot ≡ Some (with_block i.h) → card.store.cache.last ≡ p.card.store.cache.last → data_of (path_with p p.regs m g card p.script) ≡ data_of p
    → state_of (path_with p p.regs m g card p.script) o c ≡ gone_on (state_of p o c)
unfolding state_of tasks_of
state_moved p m g card slot i o c held last blocks =
    let q : PathState = path_with p p.regs m g card p.script in
    let way = way_is p slot i in
    let busy : is_busy p ≡ true = ap is_some way in
    let more : spent_of q ≡ spent_of p + 1 =
    ap (λ b. cond b (moved q + 1) 0) busy
    ∙ ap (λ n. n + 1) (ap (moved_by q) way ∙ ap (λ o. option_map_or (λ h. h.moved) o 0) held)
    ∙ ap (λ n. n + 1 + 1) (sym (moved_is p slot i))
    ∙ sym (ap (λ b. cond b (moved p + 1) 0 + 1) busy) in
    let halt : stop_of q ≡ stop_of p = not_stopped_at p m g card slot i ∙ sym (not_stopped_at p p.memory p.engine p.card slot i) in
    let s : State = state_of p o c in
    ap (λ d. with_moved s d card.store.cache.last (spent_of q) (stop_of q)) blocks
    ∙ ap (λ n. with_moved s (data_of p) n (spent_of q) (stop_of q)) last
    ∙ ap (λ n. with_moved s (data_of p) p.card.store.cache.last n (stop_of q)) more
    ∙ ap (λ x. with_moved s (data_of p) p.card.store.cache.last (spent_of p + 1) x) halt
    ∙ ap (λ b. record s { busy = b; spent = spent_of p + 1 }) busy
  where
    not_stopped_at : (p : PathState) (m : Memory) (g : Holding) (card : CardState) (slot : ℕ) (i : InPhase p slot)
        → stop_of (path_with p p.regs m g card p.script) ≡ stop.Running
    not_stopped_at p m g card slot i =
        ap (λ state. cond (is_recovering state) stop.Running (cond p.regs.stopped (stop_by p g.cause) stop.Running)) i.calm
        ∙ ap (λ b. cond b (stop_by p g.cause) stop.Running) i.going

-- ---- what it tells

-- the lines of an actor's event, from each state that the path stands for
abbrev pub TellsSo : Letter → PathState → ArrayState → List Item → PathState → ArrayState → Type 0
TellsSo actor p a items p' a' = (o : OrderState) (c : Context) → Agrees p a c → Told actor (state_of p o c) items p' o a'

-- What a block leaves that moved: contents, the array, and what was read.
pub record BlockTold (p : PathState) (a : ArrayState) (m : Memory) (g : Holding) (card : CardState) (a' : ArrayState) : Type 0 where
  pub last : card.store.cache.last ≡ p.card.store.cache.last
  pub told : is_some a'.told ≡ is_some a.told
  pub blocks : data_of (path_with p p.regs m g card p.script) ≡ data_of p
  pub stored : (c : Context) → StoreStands (contents_of p c) p.card.store a → StoreStands (contents_of (path_with p p.regs m g card p.script) c) card.store a'
  pub read : (c : Context) → Agrees p a c → IfSome (under_way p) (HasReadSoFar (path_with p p.regs m g card p.script) c)
  pub deferred : (c : Context) → Agrees p a c → IsDeferred (path_with p p.regs m g card p.script) c (shown_by a')

agrees_moved : (p : PathState) (a : ArrayState) (m : Memory) (g : Holding) (card : CardState) (a' : ArrayState) (slot : ℕ) (i : InPhase p slot)
    → AreTied (path_with p p.regs m g card p.script) → BlockTold p a m g card a' → (c : Context) → Agrees p a c
    → Agrees (path_with p p.regs m g card p.script) a' c
agrees_moved p a m g card a' slot i tied b c h = record {
  told = b.told ∙ h.told;
  tied = tied;
  number = h.number;
  named = record {
    long = h.named.long;
    waiting = h.named.waiting;
    issued = λ tag id is.
        h.named.issued tag id is
        ∙ ap (λ s. min (faults_of p.driver.requests id + names s id) 4) (not_stopped p slot i p.engine ∙ sym (not_stopped p slot i g));
  };
  store = b.stored c h.store;
  within = h.within;
  read = b.read c h;
  few = h.few;
  deferred = b.deferred c h;
}

pub moved_tells : (p : PathState) (a : ArrayState) (m : Memory) (g : Holding) (card : CardState) (a' : ArrayState) (slot k : ℕ) (i : InPhase p slot)
    → StateLaws → is_gone p.script.hit ≡ false → IsDue (remembered p.engine.held p.regs) p.regs p.memory (NextBlock slot k)
    → i.h.moved < i.h.task.desc.blocks → held_at g.held slot ≡ Some (with_block i.h) → AreTied (path_with p p.regs m g card p.script)
    → BlockTold p a m g card a' → TellsSo EngineActs p a [] (path_with p p.regs m g card p.script) a'
moved_tells p a m g card a' slot k i laws heard is left held tied b o c h =
    let l = laws.engine p o c h.tied h.number in
    let busy : is_busy p ≡ true = ap is_some (way_is p slot i) in
    let j = data_job (layout p) slot (job p i.id) (asks_notice (plan_of p) (job p i.id)) i.h.task i.task in
    let all : phase_blocks (job_on (state_of p o c) slot) ≡ i.h.task.desc.blocks =
    ap phase_blocks (job_is p o c slot i.id i.below i.is_held) ∙ blocks_are (layout p) slot (job p i.id) (asks_notice (plan_of p) (job p i.id)) i.h.task j in
    let spent : (state_of p o c).spent ≡ i.h.moved + 1 =
    spent_is p o c ∙ ap (λ b. cond b (moved p + 1) 0) busy ∙ ap (λ n. n + 1) (moved_is p slot i) in
    let few : (state_of p o c).spent ≤ phase_blocks (job_on (state_of p o c) slot) = omega (arith, all, spent, left) in
    record {
      context = c;
      agrees = agrees_moved p a m g card a' slot i tied b c h;
      happens =
          let T : State → Type 0 = λ t. Happens (state_of p o c) EngineActs [] t in
          subst T (sym (state_moved p m g card slot i o c held b.last b.blocks))
          (passes (state_of p o c) slot (free_is p o c) (untold_is p o c) (l.command (NextBlock slot k) is) (ap is_gone (l.under_way busy) ∙ heard) few);
    }
