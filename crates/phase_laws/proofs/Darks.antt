-- The loss of power in a data phase: the phase's line with the blocks that moved, and the state that the cut comes to.
use Rattle.std.proofs.Common.{◌≡◌, ◌<◌, ◌≤◌, ◌+◌, ◌==◌, ◌&&◌, ℕ, refl, sym, ◌∙◌, ap, subst, arith, inl, inr, append-nil, zero-add}
use Rattle.std.specs.Prelude.{Bool, true, false, cond, min, not, Option, Some, None, IfSome, is_none, is_some, length, List, [], ◌∷◌, unwrap_or, slice_index_or}
use Rattle.std.specs.Option.{option_map}
use Rattle.std.proofs.lemmas.Bool.{cases_lt}
use Rattle.std.proofs.lemmas.List.{get_or_past}
use Rattle.std.proofs.lemmas.List.FromFn.{get_or-map-range_with_len, length-map-range_with_len}
use Rattle.array_edge.specs.Array.{ArrayState}
use Rattle.bus_link.specs.Script.{Script}
use Rattle.bus_link.specs.declared.link.Cause.TheVariants.{Dark as NoPower}
use Rattle.card_core.specs.Card.{CardState}
use Rattle.card_core.specs.declared.phase.Phase.{Phase}
use Rattle.card_store.specs.Store.{Contents, Stands as StoreStands}
use Rattle.cq_engine.specs.Outcome.{Holding}
use Rattle.cq_engine.specs.declared.did.Did.{Did}
use Rattle.cq_engine.specs.declared.did.Did.TheVariants.{Stopped}
use Rattle.cq_regs.specs.State.{Registers}
use Rattle.cq_regs.specs.Slots.{progress_of}
use Rattle.cq_regs.specs.declared.slots.Progress.{Progress}
use Rattle.cq_regs.specs.declared.slots.Progress.TheVariants as progress
use Rattle.cq_schedule.specs.Held.{remembered, slots}
use Rattle.cq_schedule.specs.Meaning.{IsDue}
use Rattle.cq_schedule.specs.declared.rules.Due.{Due}
use Rattle.cut_order.specs.Order.{OrderState, order_of}
use Rattle.drv_core.specs.State.{is_recovering}
use Rattle.drv_jobs.specs.Changes.{faults_of}
use Rattle.drv_recover.specs.declared.recovery.RecoveryState.{RecoveryState}
use Rattle.drv_recover.specs.declared.recovery.RecoveryState.TheVariants as driver
use Rattle.storage_machine.specs.Commands.{due, hit, is_calm, is_gone}
use Rattle.storage_machine.specs.Slots.{asks_of, slot_at}
use Rattle.storage_machine.specs.declared.slots.Question.TheVariants.{Issued}
use Rattle.storage_machine.specs.declared.commands.DueCommand.TheVariants.{Execute}
use Rattle.storage_machine.specs.declared.state.Owed.{Owed}
use Rattle.storage_machine.specs.declared.state.Owed.TheVariants.{Bus as BusOwed, Flash as FlashOwed}
use Rattle.storage_machine.specs.declared.state.Standing.{Standing}
use Rattle.storage_machine.specs.declared.state.Standing.TheVariants as standing
use Rattle.storage_machine.specs.declared.state.State.{State}
use Rattle.storage_machine.specs.declared.state.Stop.TheVariants as stop
use Rattle.storage_machine.specs.declared.state.Task.{Task}
use Rattle.storage_model.specs.declared.block.Block.{Block}
use Rattle.storage_model.specs.declared.faults.BusKind.{BusKind}
use Rattle.storage_model.specs.declared.faults.BusKind.TheVariants.{Bad, Late, Lost, NoResp}
use Rattle.storage_model.specs.declared.faults.Letter.TheVariants.{Engine as EngineActs}
use Rattle.storage_model.specs.declared.marks.Mark.{Mark}
use Rattle.storage_model.specs.declared.plan.Job.{Job}
use Rattle.storage_model.specs.declared.plan.Plan.{Plan}
use Rattle.storage_model.specs.declared.trace.Item.{Item}
use Rattle.storage_model.specs.declared.trace.Item.TheVariants.{Cut, Phase as PhaseLine}
use Rattle.storage_order.specs.Events.{Begins, Fits, Starts, goes_on, is_untold}
use Rattle.trace_rules.specs.Lines.{is_free}
use Rattle.trace_effects.specs.Cuts.{places_of}
use Rattle.trace_effects.specs.Effects.{begun}
use Rattle.trace_rules.specs.Lines.{cut_holds, holds, line_rule}
use Rattle.trace_rules.specs.Phases.{is_whole, owed_by, tag_due}
use Rattle.world_state.specs.Engine.{EngineEvent, engine_lines, phase_line_of}
use Rattle.world_state.specs.Laws.{StateLaws, command_due}
use Rattle.world_state.specs.Path.{PathState, holder, is_busy, job, plan_of, under_way}
use Rattle.world_state.specs.Reading.{Context, data_by, data_of, is_done, recovery_of, standing_at, standing_of, state_of, stop_by, stop_of, task_at, tasks_of, waiting_of}
use Rattle.world_state.specs.Stands.{Agrees, AreNamed, named_at, names}
use Rattle.world_state.specs.Ties.{AreTied}
use Rattle.world_state.specs.Told.{Darkened, IsLosing, is_dark}
use Rattle.phase_laws.proofs.BlockStops.{StopEvent, cause_is, halted_of, stop_path, stop_phase}
use Rattle.phase_laws.proofs.Events.{InPhase}
use Rattle.phase_laws.proofs.Moves.{free_is, not_stopped, plan_is, untold_is, way_is}
use Rattle.phase_laws.proofs.Phased.{base_after, broken, broken_effect, execute_holds, pend_after, phase_begins, told}
use Rattle.phase_laws.proofs.StopTells.{Halted, broken_agrees}
use Rattle.phase_laws.proofs.Stopping.{broken_moves, jobs_are, number_is, stop_regs, stopped_path}
use Rattle.phase_laws.proofs.Tags.{of_some}

-- the lines of an actor's event in which power is lost
abbrev pub DarkensSo : PathState → ArrayState → List Item → PathState → ArrayState → Type 0
DarkensSo p a items p' a' = (o : OrderState) (c : Context) → Agrees p a c → Darkened EngineActs (state_of p o c) items p' o a'

abbrev contents_with : List Block → List Mark → Contents
contents_with base pend = record { base = base; pend = pend }

abbrev task_so : ℕ → Standing → Task
task_so id far = record { id = id; standing = far }

-- ---- the cut behind a phase that broke off

pub owed_either : (P : Owed → Type 0) → ((n id : ℕ) (kind : BusKind) → P (BusOwed n id kind)) → ((id : ℕ) → P (FlashOwed id))
    → (hit : Option BusKind) (n id count : ℕ) → P (owed_by hit false n id count)
owed_either P bus flash None n id count = flash id
owed_either P bus flash (Some Lost) n id count = bus n id Lost
owed_either P bus flash (Some NoResp) n id count = bus n id NoResp
owed_either P bus flash (Some Late) n id count = bus n id Late
owed_either P bus flash (Some (Bad b)) n id count = by_block (count + 1 == b)
  where
    by_block : (here : Bool) → P (cond here (BusOwed n id (Bad b)) (FlashOwed id))
    by_block true = bus n id (Bad b)
    by_block false = flash id

-- the cut may come next, and no cut came before
abbrev pub CutNext : State → Job → ℕ → ℕ → Owed → Type 0
CutNext s job count n owed =
    (goes_on (broken s job count false n owed) owed Cut ≡ true) × Fits (broken s job count false n owed) Cut × (is_dark owed ≡ false)

bus_cut : (s : State) (job : Job) (count n m id : ℕ) (kind : BusKind) → CutNext s job count n (BusOwed m id kind)
unfolding line_rule holds cut_holds
bus_cut s job count n m id kind = (refl, record { line = refl; stands = refl; first = refl }, refl)

flash_cut : (s : State) (job : Job) (count n id : ℕ) → CutNext s job count n (FlashOwed id)
unfolding line_rule holds cut_holds
flash_cut s job count n id = (refl, record { line = refl; stands = refl; first = refl }, refl)

pub cut_next : (s : State) (job : Job) (count n id : ℕ) (hit : Option BusKind) → CutNext s job count n (owed_by hit false n id count)
cut_next s job count n id hit =
    owed_either (CutNext s job count n) (λ m i kind. bus_cut s job count n m i kind) (λ i. flash_cut s job count n i) hit n id count

-- ---- what the state tells of requests

pub slots_long : (p : PathState) (o : OrderState) (k : Context) → length (state_of p o k).slots ≡ 32
unfolding state_of tasks_of slots
slots_long p o k = length-map-range_with_len (task_at p) 0 32

pub data_long : (p : PathState) (o : OrderState) (k : Context) → length (state_of p o k).data ≡ 32
unfolding state_of data_of slots
data_long p o k = length-map-range_with_len (λ tag. data_by p tag (holder p tag)) 0 32

pub slot_so : (p : PathState) (o : OrderState) (k : Context) (tag : ℕ) → tag < 32 → slot_at (state_of p o k).slots tag ≡ task_at p tag
unfolding state_of tasks_of slots
slot_so p o k tag within = get_or-map-range_with_len (task_at p) 0 32 tag tag None within (zero-add tag)

data_so : (p : PathState) (o : OrderState) (k : Context) (tag : ℕ) → tag < 32 → slice_index_or (state_of p o k).data tag [] ≡ data_by p tag (holder p tag)
unfolding state_of data_of slots
data_so p o k tag within = get_or-map-range_with_len (λ t. data_by p t (holder p t)) 0 32 tag tag [] within (zero-add tag)

pub ids_back : (o : Option ℕ) (far : Standing) → option_map (λ task. task.id) (option_map (λ id. task_so id far) o) ≡ o
ids_back None far = refl
ids_back (Some id) far = refl

standing_issued : (recovering done : Bool) (p : Progress)
    → asks_of Issued (cond recovering standing.Held (cond done standing.Done (standing_of p))) ≡ true
standing_issued true done p = refl
standing_issued false true p = refl
standing_issued false false progress.Idle = refl
standing_issued false false progress.Rung = refl
standing_issued false false progress.Named = refl
standing_issued false false progress.Sent = refl
standing_issued false false progress.Ready = refl
standing_issued false false progress.Active = refl

task_issued : (p : PathState) (tag : ℕ) (o : Option ℕ)
    → IfSome (option_map (λ id. task_so id (standing_at p tag)) o) (λ task. asks_of Issued task.standing ≡ true)
task_issued p tag None = tt
task_issued p tag (Some id) = standing_issued (is_recovering p.driver.recovery) (is_done p tag) (progress_of p.regs.ring tag)

pub all_issued : (p : PathState) (o : OrderState) (k : Context) (tag : ℕ) → IfSome (slot_at (state_of p o k).slots tag) (λ task. asks_of Issued task.standing ≡ true)
all_issued p o k tag =
    let I : Option Task → Type 0 = λ v. IfSome v (λ task. asks_of Issued task.standing ≡ true) in
    elim (cases_lt tag 32) [
      | inl within ↦ subst I (sym (slot_so p o k tag within)) (task_issued p tag (holder p tag))
      | inr past ↦
          let long = slots_long p o k in
          subst I (sym (get_or_past (state_of p o k).slots tag None (omega (arith, long, past)))) tt
    ]

pub vacant_data : (p : PathState) (o : OrderState) (k : Context) (tag : ℕ) → holder p tag ≡ None → slice_index_or (state_of p o k).data tag [] ≡ []
vacant_data p o k tag none =
    elim (cases_lt tag 32) [
      | inl within ↦ data_so p o k tag within ∙ ap (data_by p tag) none
      | inr past ↦
          let long = data_long p o k in
          get_or_past (state_of p o k).data tag [] (omega (arith, long, past))
    ]

pub faults_ready : (p : PathState) (o : OrderState) (k : Context) → (state_of p o k).faults.ready ≡ p.script.ready
unfolding state_of
faults_ready p o k = refl

pub faults_bus : (p : PathState) (o : OrderState) (k : Context) → (state_of p o k).faults.bus ≡ p.script.hits
unfolding state_of
faults_bus p o k = refl

pub order_is : (p : PathState) (o : OrderState) (k : Context) → order_of (state_of p o k) ≡ o
unfolding state_of
order_is p o k = refl

pub waiting_is : (p : PathState) (o : OrderState) (k : Context) → (state_of p o k).waiting ≡ waiting_of p.driver
unfolding state_of
waiting_is p o k = refl

pub words_are : (p : PathState) (o : OrderState) (k : Context) → (state_of p o k).words ≡ p.script.used
unfolding state_of
words_are p o k = refl

pub names_are : (p : PathState) (o : OrderState) (k : Context) → (state_of p o k).named ≡ k.named
unfolding state_of
names_are p o k = refl

pub staged_is : (p : PathState) (o : OrderState) (k : Context) → (state_of p o k).staged ≡ k.staged
unfolding state_of
staged_is p o k = refl

recovers_by : (state : RecoveryState) → is_recovering state ≡ not (is_calm (recovery_of state))
recovers_by driver.Calm = refl
recovers_by driver.Halted = refl
recovers_by driver.Cleared = refl
recovers_by driver.Discarded = refl
recovers_by driver.Cleaned = refl
recovers_by driver.Resumed = refl

pub recovers_is : (p : PathState) (o : OrderState) (k : Context) → is_recovering p.driver.recovery ≡ not (is_calm (state_of p o k).recovery)
unfolding state_of
recovers_is p o k = recovers_by p.driver.recovery

pub record IsFresh (s : State) : Type 0 where
  pub deferred : s.deferred ≡ false
  pub lefts : s.lefts ≡ []
  pub epochs : s.epochs ≡ []

pub fresh_is : (p : PathState) (o : OrderState) (k : Context) → IsFresh (state_of p o k)
unfolding state_of
fresh_is p o k = record { deferred = refl; lefts = refl; epochs = refl }

-- ---- the state in which power is lost

pub dark_named : (p : PathState) (r : Registers) (g : Holding) (c : CardState) (s : Script) (named : List ℕ) → AreNamed p named
    → stop_of p ≡ stop.Running → stop_of (stopped_path p r g c s) ≡ stop.Bus None → AreNamed (stopped_path p r g c s) named
dark_named p r g c s named h was now = record {
  long = h.long;
  waiting = h.waiting;
  issued = λ tag other is_other.
      h.issued tag other is_other
      ∙ ap (λ x. min (faults_of p.driver.requests other + names x other) 4) was
      ∙ ap (λ x. min (faults_of p.driver.requests other + names x other) 4) (sym now);
}

losing : (p : PathState) (a : ArrayState) (slot : ℕ) (i : InPhase p slot) (w x y z : ℕ) (g : Holding) (card : CardState) (s : Script) (a' : ArrayState)
    (o : OrderState) (k : Context) (owed : Owed) → AreTied p → Halted p a slot i w x y z g card s a' → Agrees p a k → g.cause ≡ Some NoPower → is_dark owed ≡ false
    → IsLosing (broken (state_of p o k) (job p i.id) i.h.moved false p.script.sent owed) (stopped_path p (stop_regs p w x y z) g card s) o a'
losing p a slot i w x y z g card s a' o k owed t st h cause lit =
    let b : State = state_of p o k in
    let q : PathState = stopped_path p (stop_regs p w x y z) g card s in
    let halt : stop_of q ≡ stop.Bus None =
    ap (λ state. cond (is_recovering state) stop.Running (stop_by q g.cause)) i.calm ∙ ap (stop_by q) cause in
    let named = dark_named p (stop_regs p w x y z) g card s k.named h.named (not_stopped p slot i p.engine) halt in
    let after = broken_agrees p a slot i w x y z g card s a' o k k.named st h named in
    let bare = ap (λ ms. contents_with (base_after b (job p i.id) i.h.moved false) ms) (append-nil (pend_after b (job p i.id) i.h.moved false)) in
    let fresh = fresh_is p o k in
    record {
      plan = plan_is p o k;
      ready = faults_ready p o k ∙ sym st.script.ready;
      bus = faults_bus p o k ∙ sym st.script.hits;
      order = order_is p o k;
      waiting = waiting_is p o k;
      slots = slots_long p o k;
      issued = λ tag within. ap (option_map (λ task. task.id)) (slot_so p o k tag within) ∙ ids_back (holder p tag) (standing_at p tag);
      standing = all_issued p o k;
      places = data_long p o k;
      vacant = vacant_data p o k;
      n = sym st.sent;
      words = words_are p o k ∙ sym st.script.used;
      long = ap (λ xs. length xs) (names_are p o k) ∙ h.named.long;
      named = λ id waits.
          let few = t.borne.waiting id waits in
          let so = h.named.waiting id waits in
          ap (λ xs. named_at xs id) (names_are p o k) ∙ so ∙ min_low (faults_of p.driver.requests id) few;
      told = after.told;
      store = subst (λ v. StoreStands v card.store a') bare after.store;
      within = after.within;
      few = after.few;
      unjudged = record { lit = lit; deferred = fresh.deferred; lefts = fresh.lefts; epochs = fresh.epochs };
      recovery = recovers_is p o k;
      deferred = λ work through staged kept few.
          after.deferred (sym (ap (λ (v : Plan). v.through) (plan_is p o k)) ∙ through) (sym (staged_is p o k) ∙ staged) kept
          (subst (λ v. length (places_of v.pend) < (plan_of p).lines) (sym bare)
          (subst (λ (v : Plan). length (places_of (pend_after b (job p i.id) i.h.moved false)) < v.lines) (plan_is p o k) few));
    }
  where
    min_low : (n : ℕ) → n < 4 → min n 4 ≡ n
    min_low n low = omega arith

pub started_at : (b last : State) (item : Item) → is_free b.owed ≡ true → is_untold b.event ≡ true → Begins (told b) item [] last
    → Starts b EngineActs (item ∷ []) last
unfolding begun
started_at b last item free untold h = record { free = free; untold = untold; goes = h }

-- ---- the event

pub dark_event : (p : PathState) (a : ArrayState) (p' : PathState) (a' : ArrayState) (did : Did) (phase : Option Phase) (e : EngineEvent p a p' a' did phase)
    (slot : ℕ) (i : InPhase p slot) (d : Due) → StopEvent p a p' a' did phase e slot i → AreTied p → AreTied p' → StateLaws
    → IsDue (remembered p.engine.held p.regs) p.regs p.memory d → command_due p d ≡ Execute slot → i.h.moved ≤ i.h.task.desc.blocks
    → did ≡ Stopped NoPower → is_whole (plan_of p).through (job p i.id) i.h.moved false ≡ false
    → DarkensSo p a (engine_lines p p' did phase) p' a'
dark_event p a p' a' did phase e slot i d s t t' laws is_due command few is part =
    let n = p.script.sent in
    let items : List Item = PhaseLine n i.id i.h.moved false ∷ [] in
    let q : PathState = stopped_path p (stop_regs p s.information p.regs.response_index p.regs.response_argument p.regs.direct_response) p'.engine p'.card p'.script in
    let lines : engine_lines p p' did phase ≡ items =
    ap (λ v. engine_lines p p' v phase) is
    ∙ ap (λ v. phase_line_of p p' v) (stop_phase p a p' a' did phase e slot i s t)
    ∙ ap (λ v. PhaseLine p'.script.sent (unwrap_or v 0) i.h.moved false ∷ []) i.is_held
    ∙ ap (λ v. PhaseLine v i.id i.h.moved false ∷ []) s.sent in
    let st = halted_of p a p' a' did phase e slot i s t t' few in
    subst (λ v. DarkensSo p a v p' a') (sym lines)
    (subst (λ v. DarkensSo p a items v a') (sym (stop_path p a p' a' did phase e slot i s t))
    (λ o k h.
    let b : State = state_of p o k in
    let l = laws.engine p o k h.tied h.number in
    let busy : is_busy p ≡ true = ap is_some (way_is p slot i) in
    let due_is : due b ≡ Execute slot = l.command d is_due ∙ command in
    let hit_is : hit b ≡ p.script.hit = l.under_way busy in
    let heard : is_gone p.script.hit ≡ false = of_some (under_way p) slot (λ tag. is_gone p.script.hit ≡ false) (way_is p slot i) t.heard in
    let moves = broken_moves p a o k slot i st.is_data h hit_is st.before st.few in
    let line = execute_holds b slot i.id i.h.moved n false p.script.hit (job p i.id) due_is (number_is p o k h.number busy) heard moves in
    let partly : is_whole b.plan.through (job p i.id) i.h.moved false ≡ false =
    ap (λ (v : Plan). is_whole v.through (job p i.id) i.h.moved false) (plan_is p o k) ∙ part in
    let owed = owed_by p.script.hit false n i.id i.h.moved in
    let last : State = broken b (job p i.id) i.h.moved false n owed in
    let effect_is = broken_effect b slot i.id i.h.moved n false p.script.hit (job p i.id) owed (ap tag_due due_is) hit_is (jobs_are p o k i.id)
    (ap (λ v. v && is_none p.script.hit) partly) (ap (λ v. owed_by p.script.hit v n i.id i.h.moved) partly) in
    let next = cut_next b (job p i.id) i.h.moved n i.id p.script.hit in
    record {
      last = last;
      starts = started_at b last (PhaseLine n i.id i.h.moved false) (free_is p o k) (untold_is p o k) (phase_begins b last n i.id i.h.moved false [] line (sym effect_is));
      cut = (next.0, next.1);
      losing =
          losing p a slot i s.information p.regs.response_index p.regs.response_argument p.regs.direct_response p'.engine p'.card p'.script a' o k owed t st h
          (cause_is p a p' a' did phase e NoPower is) next.2;
    }))
