-- What a block tells that stops the engine: a fault of the data, a late status, or a fault of the flash.
use Rattle.std.proofs.Common.{◌≡◌, ◌<◌, ◌≤◌, ◌+◌, ◌++◌, ◌&&◌, ◌||◌, ℕ, refl, sym, ◌∙◌, ap, subst, arith, inl, inr}
use Rattle.std.specs.Prelude.{Bool, true, false, not, cond, Some, IfSome, is_none, is_some, length, List, [], ◌∷◌, All}
use Rattle.std.proofs.lemmas.Bool.{and_cases, and_right, eqb-true, not-false, or_parts}
use Rattle.std.proofs.lemmas.List.Elements.{All-append, All-nil}
use Rattle.array_edge.specs.Array.{ArrayState}
use Rattle.bus_link.specs.Script.{Script}
use Rattle.bus_link.specs.declared.link.Cause.TheVariants.{Bus as BusFault, Response}
use Rattle.card_core.specs.Card.{CardState}
use Rattle.card_store.specs.Store.{Contents, IsStore, Stands as StoreStands, Turns, same}
use Rattle.cq_engine.specs.Outcome.{Holding}
use Rattle.cq_schedule.specs.Held.{remembered}
use Rattle.cq_schedule.specs.Meaning.{IsDue}
use Rattle.cq_schedule.specs.declared.rules.Due.{Due}
use Rattle.cq_task.specs.declared.slot.DataTask.{DataTask}
use Rattle.cut_order.specs.Order.{OrderState}
use Rattle.drv_core.specs.Judge.{error_of}
use Rattle.drv_core.specs.State.{asks_notice}
use Rattle.drv_core.specs.declared.act.Stop.TheVariants.{Flash as FlashEnding}
use Rattle.drv_ring.specs.declared.places.Layout.{Layout}
use Rattle.intent_store.specs.Intent.{shown_by}
use Rattle.storage_machine.specs.Commands.{due, hit, is_calm, is_gone}
use Rattle.storage_machine.specs.Jobs.{must_keep, sector_of}
use Rattle.storage_machine.specs.declared.commands.DueCommand.TheVariants.{Execute}
use Rattle.storage_machine.specs.declared.state.Owed.TheVariants.{Bus as BusOwed, Flash as FlashOwed}
use Rattle.storage_machine.specs.declared.state.State.{State}
use Rattle.storage_machine.specs.declared.state.Stop.TheVariants as stop
use Rattle.storage_model.specs.Contents.{IsWithin}
use Rattle.storage_model.specs.Plan.{blocks_of}
use Rattle.storage_model.specs.declared.block.Block.{Block}
use Rattle.storage_model.specs.declared.faults.BusKind.{BusKind}
use Rattle.storage_model.specs.declared.faults.Letter.TheVariants.{Engine as EngineActs}
use Rattle.storage_model.specs.declared.marks.Mark.{Mark}
use Rattle.storage_model.specs.declared.plan.Job.{Job}
use Rattle.storage_model.specs.declared.trace.Item.TheVariants.{Bus as BusLine, Flash as FlashLine, Phase as PhaseLine}
use Rattle.storage_order.specs.Events.{Happens}
use Rattle.trace_effects.specs.Cuts.{places_of}
use Rattle.trace_effects.specs.Effects.{named_more, uses_word}
use Rattle.trace_effects.specs.Phases.{is_empty, marks_of}
use Rattle.trace_rules.specs.Phases.{is_whole, owed_by, tag_due}
use Rattle.world_state.specs.Laws.{StateLaws, command_due}
use Rattle.world_state.specs.Path.{PathState, holder, is_busy, job, layout, plan_of, under_way}
use Rattle.drv_core.specs.State.{is_recovering}
use Rattle.storage_model.specs.declared.plan.Plan.{Plan}
use Rattle.world_state.specs.Reading.{Context, recovery_of, state_of, stop_by, stop_by_word, stop_of}
use Rattle.world_state.specs.Stands.{Agrees, AreNamed, IsDeferred, contents_of, puts_by}
use Rattle.world_state.specs.Ties.{AreTied, IsBeforeFault}
use Rattle.phase_laws.proofs.Events.{InPhase}
use Rattle.phase_laws.proofs.Few.{plain_pages}
use Rattle.phase_laws.proofs.Jobs.{DataJob, reads, writes}
use Rattle.phase_laws.proofs.Moves.{TellsSo, free_is, not_stopped, plan_is, untold_is, way_is}
use Rattle.phase_laws.proofs.Parts.{KeepsScript}
use Rattle.phase_laws.proofs.Phased.{broken, broken_effect, execute_holds, pend_after, phase_bus, phase_flash, stopped_by}
use Rattle.phase_laws.proofs.Stopping.{base_is, broken_contents, broken_moves, bus_named, context_after, data_bars, flash_named, in_contents, jobs_are, marks_by, no_barrier, number_is, pend_is, puts_within, state_stopped, stop_regs, stopped_path}
use Rattle.phase_laws.proofs.Tags.{of_some}

-- ---- what the state says

kept_is : (p : PathState) (o : OrderState) (k : Context) → (state_of p o k).kept ≡ k.kept
unfolding state_of
kept_is p o k = refl

pub named_is : (p : PathState) (o : OrderState) (k : Context) → (state_of p o k).named ≡ k.named
unfolding state_of
named_is p o k = refl

pub bars_are : (p : PathState) (o : OrderState) (k : Context) → (state_of p o k).bars ≡ p.card.store.cache.last
unfolding state_of
bars_are p o k = refl

pub calm_is : (p : PathState) (slot : ℕ) (i : InPhase p slot) (o : OrderState) (k : Context) → is_calm (state_of p o k).recovery ≡ true
unfolding state_of
calm_is p slot i o k = ap (λ r. is_calm (recovery_of r)) i.calm

-- ---- what a block that failed leaves

pub record FailTold (p : PathState) (a : ArrayState) (j : Job) (card : CardState) (a' : ArrayState) : Type 0 where
  pub last : card.store.cache.last ≡ p.card.store.cache.last
  pub told : is_some a'.told ≡ is_some a.told
  pub store : IsStore card.store
  pub turns : Turns same p.card.store a card.store a'
  pub still : (c : Context) → Agrees p a c → (plan_of p).through ≡ false → must_keep (plan_of p).through j ≡ false
      → length (places_of (contents_of p c).pend) < (plan_of p).lines → shown_by a' ≡ shown_by a

pub empty_is : (xs : List Mark) → is_empty xs ≡ true → xs ≡ []
empty_is [] e = refl
empty_is (x ∷ xs) e = let none = eqb-true (length (x ∷ xs)) 0 e in absurd (omega (arith, none))

abbrev contents_with : List Block → List Mark → Contents
contents_with base pend = record { base = base; pend = pend }

pub marks_within : (p : PathState) (l : Layout) (slot : ℕ) (j : Job) (int : Bool) (task : DataTask) (base : List Block) (count : ℕ) → DataJob l slot j int task
    → count ≤ blocks_of j → sector_of j + blocks_of j ≤ length base → All (IsWithin base) (puts_by p count j)
marks_within p l slot j int task base count (reads sector blocks high is e) few fits =
    subst (λ x. All (IsWithin base) (puts_by p count x)) (sym is) (All-nil (IsWithin base))
marks_within p l slot j int task base count (writes sector blocks fill forced reliable high is e) few fits =
    let upto : sector + blocks ≤ length base = subst (λ x. sector_of x + blocks_of x ≤ length base) is fits in
    let less : count ≤ blocks = subst (λ x. count ≤ blocks_of x) is few in
    subst (λ x. All (IsWithin base) (puts_by p count x)) (sym is) (puts_within base (plan_of p).blocks sector fill reliable count (omega (arith, upto, less)))

pub data_blocks : (l : Layout) (slot : ℕ) (j : Job) (int : Bool) (task : DataTask) → DataJob l slot j int task → task.desc.blocks ≡ blocks_of j
data_blocks l slot j int task (reads sector blocks high is e) = ap (λ x. x.desc.blocks) e ∙ sym (ap blocks_of is)
data_blocks l slot j int task (writes sector blocks fill forced reliable high is e) = ap (λ x. x.desc.blocks) e ∙ sym (ap blocks_of is)

-- a stop, its registers and what stands behind them
pub record Halted (p : PathState) (a : ArrayState) (slot : ℕ) (i : InPhase p slot) (w x y z : ℕ) (g : Holding) (card : CardState) (s : Script) (a' : ArrayState) : Type 0 where
  pub tied : AreTied (stopped_path p (stop_regs p w x y z) g card s)
  pub fails : FailTold p a (job p i.id) card a'
  pub script : KeepsScript p.script s
  pub sent : s.sent ≡ p.script.sent
  pub is_data : DataJob (layout p) slot (job p i.id) (asks_notice (plan_of p) (job p i.id)) i.h.task
  pub before : IsBeforeFault p.script.hit i.h.moved
  pub few : i.h.moved ≤ i.h.task.desc.blocks

-- what a phase leaves of the store, once it broke off or ended without keeping
pub record Left (p : PathState) (a : ArrayState) (slot : ℕ) (i : InPhase p slot) (card : CardState) (a' : ArrayState) : Type 0 where
  pub fails : FailTold p a (job p i.id) card a'
  pub is_data : DataJob (layout p) slot (job p i.id) (asks_notice (plan_of p) (job p i.id)) i.h.task
  pub few : i.h.moved ≤ i.h.task.desc.blocks

-- contents, marks and pages of a path in which no phase is under way
pub record Stays (q : PathState) (a' : ArrayState) (c : Context) : Type 0 where
  pub store : StoreStands (contents_of q c) q.card.store a'
  pub within : All (IsWithin c.base) c.pend
  pub few : length c.base ≤ 65536
  pub deferred : IsDeferred q c (shown_by a')

broken_deferred : (p : PathState) (a : ArrayState) (slot : ℕ) (i : InPhase p slot) (w x y z : ℕ) (g : Holding) (card : CardState) (s : Script) (a' : ArrayState)
    (o : OrderState) (k : Context) (n : ℕ) (named : List ℕ) → Left p a slot i card a' → Agrees p a k
    → IsDeferred (stopped_path p (stop_regs p w x y z) g card s) (context_after (state_of p o k) k (job p i.id) i.h.moved false n named) (shown_by a')
broken_deferred p a slot i w x y z g card s a' o k n named st h through staged kept few =
    let b : State = state_of p o k in
    let j = no_barrier (layout p) slot (job p i.id) (asks_notice (plan_of p) (job p i.id)) i.h.task st.is_data in
    let contents = broken_contents p w x y z g card s o k slot i n named j in
    let ms : List Mark = pend_after b (job p i.id) i.h.moved false in
    let told : is_some a'.told ≡ true = st.fails.told ∙ h.told in
    let stands : StoreStands (contents_with b.base (ms ++ [])) card.store a' =
    subst (λ v. StoreStands v card.store a') (sym contents) (st.fails.turns (contents_of p k) h.store) in
    elim (and_cases (not (is_empty ms)) (b.kept || must_keep b.plan.through (job p i.id)) kept) [
      | inl none ↦
          let bare : ms ≡ [] = empty_is ms (not-false (is_empty ms) none) in
          let alone : StoreStands (contents_with b.base []) card.store a' =
          subst (λ v. StoreStands (contents_with b.base v) card.store a') (ap (λ v. v ++ []) bare) stands in
          plain_pages b.base card.store a' st.fails.store told alone
      | inr free ↦
          let parts = or_parts b.kept (must_keep b.plan.through (job p i.id)) free in
          let fewer : length (places_of (contents_of p k).pend) < (plan_of p).lines =
          subst (λ v. length (places_of v.pend) < (plan_of p).lines) contents few in
          let unkept : must_keep (plan_of p).through (job p i.id) ≡ false =
          sym (ap (λ (v : Plan). must_keep v.through (job p i.id)) (plan_is p o k)) ∙ parts.1 in
          let was = h.deferred through staged (sym (kept_is p o k) ∙ parts.0) fewer in
          let now = subst (λ v. IfSome v (λ pages. pages ≡ k.base)) (sym (st.fails.still k h through unkept fewer)) was in
          subst (λ v. IfSome (shown_by a') (λ pages. pages ≡ v)) (sym (base_is p o k)) now
    ]

pub broken_stays : (p : PathState) (a : ArrayState) (slot : ℕ) (i : InPhase p slot) (w x y z : ℕ) (g : Holding) (card : CardState) (s : Script) (a' : ArrayState)
    (o : OrderState) (k : Context) (n : ℕ) (named : List ℕ) → Left p a slot i card a' → Agrees p a k
    → Stays (stopped_path p (stop_regs p w x y z) g card s) a' (context_after (state_of p o k) k (job p i.id) i.h.moved false n named)
broken_stays p a slot i w x y z g card s a' o k n named st h =
    let b : State = state_of p o k in
    let j = no_barrier (layout p) slot (job p i.id) (asks_notice (plan_of p) (job p i.id)) i.h.task st.is_data in
    let few : i.h.moved ≤ blocks_of (job p i.id) =
    subst (λ v. i.h.moved ≤ v) (data_blocks (layout p) slot (job p i.id) (asks_notice (plan_of p) (job p i.id)) i.h.task st.is_data) st.few in
    let marks : All (IsWithin b.base) (marks_of b (job p i.id) i.h.moved) =
    subst (λ (v : List Mark). All (IsWithin b.base) v) (sym (marks_by p o k (job p i.id) i.h.moved j))
    (subst (λ (v : List Block). All (IsWithin v) (puts_by p i.h.moved (job p i.id))) (sym (base_is p o k))
    (marks_within p (layout p) slot (job p i.id) (asks_notice (plan_of p) (job p i.id)) i.h.task k.base i.h.moved st.is_data few (in_contents p a slot i k h))) in
    let old : All (IsWithin b.base) b.pend =
    subst (λ (v : List Mark). All (IsWithin b.base) v) (sym (pend_is p o k))
    (subst (λ (v : List Block). All (IsWithin v) k.pend) (sym (base_is p o k)) h.within) in
    record {
      store =
          subst (λ v. StoreStands v card.store a') (sym (broken_contents p w x y z g card s o k slot i n named j))
          (st.fails.turns (contents_of p k) h.store);
      within = All-append (IsWithin b.base) b.pend (marks_of b (job p i.id) i.h.moved) old marks;
      few = subst (λ (v : List Block). length v ≤ 65536) (sym (base_is p o k)) h.few;
      deferred = broken_deferred p a slot i w x y z g card s a' o k n named st h;
    }

pub broken_agrees : (p : PathState) (a : ArrayState) (slot : ℕ) (i : InPhase p slot) (w x y z : ℕ) (g : Holding) (card : CardState) (s : Script) (a' : ArrayState)
    (o : OrderState) (k : Context) (named : List ℕ) → Halted p a slot i w x y z g card s a' → Agrees p a k
    → AreNamed (stopped_path p (stop_regs p w x y z) g card s) named
    → Agrees (stopped_path p (stop_regs p w x y z) g card s) a' (context_after (state_of p o k) k (job p i.id) i.h.moved false p.script.sent named)
broken_agrees p a slot i w x y z g card s a' o k named st h are =
    let left : Left p a slot i card a' = record { fails = st.fails; is_data = st.is_data; few = st.few } in
    let stays = broken_stays p a slot i w x y z g card s a' o k p.script.sent named left h in
    record {
      told = st.fails.told ∙ h.told;
      tied = st.tied;
      number = st.sent;
      named = are;
      store = stays.store;
      within = stays.within;
      read = tt;
      few = stays.few;
      deferred = stays.deferred;
    }

-- ---- by the bus

pub bus_tells : (p : PathState) (a : ArrayState) (slot : ℕ) (i : InPhase p slot) (w x y z : ℕ) (g : Holding) (card : CardState) (s : Script) (a' : ArrayState)
    (d : Due) (kind : BusKind) → AreTied p → StateLaws → IsDue (remembered p.engine.held p.regs) p.regs p.memory d → command_due p d ≡ Execute slot
    → Halted p a slot i w x y z g card s a' → p.script.hit ≡ Some kind → g.cause ≡ Some (BusFault kind (Some slot))
    → ((whole : Bool) → owed_by (Some kind) whole p.script.sent i.id i.h.moved ≡ BusOwed p.script.sent i.id kind)
    → ((b : State) → uses_word b kind ≡ false)
    → TellsSo EngineActs p a (PhaseLine p.script.sent i.id i.h.moved false ∷ BusLine p.script.sent kind (Some i.id) ∷ [])
    (stopped_path p (stop_regs p w x y z) g card s) a'
bus_tells p a slot i w x y z g card s a' d kind t laws is_due command st hit_now cause owes unused o k h =
    let b : State = state_of p o k in
    let q : PathState = stopped_path p (stop_regs p w x y z) g card s in
    let n = p.script.sent in
    let l = laws.engine p o k h.tied h.number in
    let busy : is_busy p ≡ true = ap is_some (way_is p slot i) in
    let due_is : due b ≡ Execute slot = l.command d is_due ∙ command in
    let hit_is : hit b ≡ p.script.hit = l.under_way busy in
    let heard : is_gone p.script.hit ≡ false = of_some (under_way p) slot (λ tag. is_gone p.script.hit ≡ false) (way_is p slot i) t.heard in
    let moves = broken_moves p a o k slot i st.is_data h hit_is st.before st.few in
    let line = execute_holds b slot i.id i.h.moved n false p.script.hit (job p i.id) due_is (number_is p o k h.number busy) heard moves in
    let whole = is_whole b.plan.through (job p i.id) i.h.moved false in
    let effect_is = broken_effect b slot i.id i.h.moved n false p.script.hit (job p i.id) (BusOwed n i.id kind) (ap tag_due due_is) hit_is (jobs_are p o k i.id)
    (ap (λ v. whole && is_none v) hit_now ∙ and_right whole false refl) (ap (λ v. owed_by v whole n i.id i.h.moved) hit_now ∙ owes whole) in
    let why : stop_by q g.cause ≡ stop.Bus (Some i.id) = ap (stop_by q) cause ∙ ap (λ v. stop.Bus v) i.is_held in
    let halt : stop_of q ≡ stop.Bus (Some i.id) = stopped_at p w x y z g card s slot i ∙ why in
    let named : List ℕ = named_more k.named (Some i.id) in
    let bars = st.fails.last ∙ sym (data_bars (layout p) slot (job p i.id) (asks_notice (plan_of p) (job p i.id)) i.h.task b.bars st.is_data ∙ bars_are p o k) in
    let T : State → Type 0 = λ v. Happens b EngineActs (PhaseLine n i.id i.h.moved false ∷ BusLine n kind (Some i.id) ∷ []) v in
    record {
      context = context_after b k (job p i.id) i.h.moved false n named;
      agrees =
          broken_agrees p a slot i w x y z g card s a' o k named st h
          (bus_named p (stop_regs p w x y z) g card s k.named slot i.id t h.named (not_stopped p slot i p.engine) i.is_held halt);
      happens =
          subst T (sym (state_stopped p w x y z g card s o k (job p i.id) i.h.moved false n named (stop.Bus (Some i.id)) st.script i.calm why bars))
          (subst (λ v. T (stopped_by b (job p i.id) i.h.moved false n (named_more v (Some i.id)) (stop.Bus (Some i.id)))) (named_is p o k)
          (phase_bus b (job p i.id) i.h.moved n i.id false kind (free_is p o k) (untold_is p o k) line effect_is (calm_is p slot i o k)
          (unused (broken b (job p i.id) i.h.moved false n (BusOwed n i.id kind)))));
    }
  where
    stopped_at : (p : PathState) (w x y z : ℕ) (g : Holding) (card : CardState) (s : Script) (slot : ℕ) (i : InPhase p slot)
        → stop_of (stopped_path p (stop_regs p w x y z) g card s) ≡ stop_by (stopped_path p (stop_regs p w x y z) g card s) g.cause
    stopped_at p w x y z g card s slot i =
        ap (λ state. cond (is_recovering state) stop.Running (stop_by (stopped_path p (stop_regs p w x y z) g card s) g.cause)) i.calm

-- ---- by the flash

pub flash_tells : (p : PathState) (a : ArrayState) (slot : ℕ) (i : InPhase p slot) (w x y z : ℕ) (g : Holding) (card : CardState) (s : Script) (a' : ArrayState)
    (d : Due) (word : ℕ) → AreTied p → StateLaws → IsDue (remembered p.engine.held p.regs) p.regs p.memory d → command_due p d ≡ Execute slot
    → Halted p a slot i w x y z g card s a' → g.cause ≡ Some (Response word slot) → error_of word ≡ Some FlashEnding
    → is_whole (plan_of p).through (job p i.id) i.h.moved false ≡ false
    → owed_by p.script.hit false p.script.sent i.id i.h.moved ≡ FlashOwed i.id
    → TellsSo EngineActs p a (PhaseLine p.script.sent i.id i.h.moved false ∷ FlashLine (Some i.id) ∷ [])
    (stopped_path p (stop_regs p w x y z) g card s) a'
flash_tells p a slot i w x y z g card s a' d word t laws is_due command st cause error part owes o k h =
    let b : State = state_of p o k in
    let q : PathState = stopped_path p (stop_regs p w x y z) g card s in
    let n = p.script.sent in
    let l = laws.engine p o k h.tied h.number in
    let busy : is_busy p ≡ true = ap is_some (way_is p slot i) in
    let due_is : due b ≡ Execute slot = l.command d is_due ∙ command in
    let hit_is : hit b ≡ p.script.hit = l.under_way busy in
    let heard : is_gone p.script.hit ≡ false = of_some (under_way p) slot (λ tag. is_gone p.script.hit ≡ false) (way_is p slot i) t.heard in
    let moves = broken_moves p a o k slot i st.is_data h hit_is st.before st.few in
    let line = execute_holds b slot i.id i.h.moved n false p.script.hit (job p i.id) due_is (number_is p o k h.number busy) heard moves in
    let partly : is_whole b.plan.through (job p i.id) i.h.moved false ≡ false =
    ap (λ (v : Plan). is_whole v.through (job p i.id) i.h.moved false) (plan_is p o k) ∙ part in
    let effect_is = broken_effect b slot i.id i.h.moved n false p.script.hit (job p i.id) (FlashOwed i.id) (ap tag_due due_is) hit_is (jobs_are p o k i.id)
    (ap (λ v. v && is_none p.script.hit) partly) (ap (λ v. owed_by p.script.hit v n i.id i.h.moved) partly ∙ owes) in
    let why : stop_by q g.cause ≡ stop.Flash i.id =
    ap (stop_by q) cause ∙ ap (λ v. stop_by_word v (holder p slot)) error ∙ ap (stop_by_word (Some FlashEnding)) i.is_held in
    let halt : stop_of q ≡ stop.Flash i.id =
    ap (λ state. cond (is_recovering state) stop.Running (stop_by q g.cause)) i.calm ∙ why in
    let bars = st.fails.last ∙ sym (data_bars (layout p) slot (job p i.id) (asks_notice (plan_of p) (job p i.id)) i.h.task b.bars st.is_data ∙ bars_are p o k) in
    let T : State → Type 0 = λ v. Happens b EngineActs (PhaseLine n i.id i.h.moved false ∷ FlashLine (Some i.id) ∷ []) v in
    record {
      context = context_after b k (job p i.id) i.h.moved false n k.named;
      agrees =
          broken_agrees p a slot i w x y z g card s a' o k k.named st h
          (flash_named p (stop_regs p w x y z) g card s k.named i.id h.named (not_stopped p slot i p.engine) halt);
      happens =
          subst T (sym (state_stopped p w x y z g card s o k (job p i.id) i.h.moved false n k.named (stop.Flash i.id) st.script i.calm why bars))
          (subst (λ v. T (stopped_by b (job p i.id) i.h.moved false n v (stop.Flash i.id))) (named_is p o k)
          (phase_flash b (job p i.id) i.h.moved n i.id false (free_is p o k) (untold_is p o k) line effect_is));
    }
