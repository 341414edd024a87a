-- What the end of a data phase tells whose write was kept, and whose status came late.
use Rattle.std.proofs.Common.{◌≡◌, ◌≢◌, ◌⊎◌, ◌<◌, ◌≤◌, ◌+◌, ◌++◌, ◌==◌, ◌&&◌, ◌||◌, ℕ, refl, sym, ◌∙◌, ap, subst, arith, inl, inr, append-nil}
use Rattle.std.specs.Prelude.{Bool, true, false, not, cond, Option, Some, None, IfSome, is_none, is_some, length, List, [], ◌∷◌, All, map}
use Rattle.std.specs.List.{filter}
use Rattle.std.proofs.lemmas.Bool.{and_cases, and_right, eq-eqb, false≢true, not-false, or_parts}
use Rattle.std.proofs.lemmas.List.Elements.{All-append, All-cons, All-filter, All-head, All-map, All-nil, All-tail}
use Rattle.array_edge.specs.Array.{ArrayState}
use Rattle.bus_link.specs.Script.{Script}
use Rattle.bus_link.specs.declared.link.Cause.TheVariants.{Bus as BusFault}
use Rattle.card_core.specs.Card.{CardState}
use Rattle.card_store.specs.Store.{Contents, IsStore, Stands as StoreStands, Turns, kept as keeps}
use Rattle.cq_engine.specs.Outcome.{Holding}
use Rattle.cq_schedule.specs.Held.{remembered}
use Rattle.cq_schedule.specs.Meaning.{IsDue}
use Rattle.cq_schedule.specs.declared.rules.Due.{Due}
use Rattle.cq_task.specs.declared.slot.DataTask.{DataTask}
use Rattle.cut_order.specs.Order.{OrderState}
use Rattle.drv_core.specs.State.{asks_notice, is_recovering}
use Rattle.drv_ring.specs.declared.places.Layout.{Layout}
use Rattle.intent_store.specs.Intent.{shown_by}
use Rattle.storage_machine.specs.Commands.{due, hit, is_gone}
use Rattle.storage_machine.specs.Jobs.{may_keep, must_keep, sector_of}
use Rattle.storage_machine.specs.declared.commands.DueCommand.TheVariants.{Execute}
use Rattle.storage_machine.specs.declared.state.Owed.TheVariants.{Bus as BusOwed}
use Rattle.storage_machine.specs.declared.state.State.{State}
use Rattle.storage_machine.specs.declared.state.Stop.TheVariants as stop
use Rattle.storage_model.proofs.Durable.{length-keep_base}
use Rattle.storage_model.specs.Contents.{EpochPut, IsWithin, bars, numbered}
use Rattle.storage_model.specs.Keep.{is_kept, is_named, keep_base, keep_pend}
use Rattle.storage_model.specs.declared.marks.Put.{Put}
use Rattle.storage_model.specs.Plan.{blocks_of}
use Rattle.storage_model.specs.declared.block.Block.{Block}
use Rattle.storage_model.specs.declared.faults.BusKind.TheVariants.{Late}
use Rattle.storage_model.specs.declared.faults.Letter.TheVariants.{Engine as EngineActs}
use Rattle.storage_model.specs.declared.marks.Mark.{Mark}
use Rattle.storage_model.specs.declared.marks.Mark.TheVariants.{Bar, Put as PutMark}
use Rattle.storage_model.specs.declared.plan.Job.{Job}
use Rattle.storage_model.specs.declared.plan.Plan.{Plan}
use Rattle.storage_model.specs.declared.trace.Item.TheVariants.{Bus as BusLine, Phase as PhaseLine}
use Rattle.storage_order.specs.Events.{Happens}
use Rattle.trace_effects.specs.Effects.{named_more}
use Rattle.trace_effects.specs.Phases.{is_empty, marks_of, named_by}
use Rattle.trace_rules.specs.Phases.{is_whole, owed_by, tag_due}
use Rattle.world_state.specs.Laws.{StateLaws, command_due}
use Rattle.world_state.specs.Path.{PathState, is_busy, job, layout, plan_of, under_way}
use Rattle.world_state.specs.Reading.{Context, state_of, stop_by, stop_of}
use Rattle.world_state.specs.Stands.{Agrees, AreNamed, IsDeferred, contents_of, marks_moved, puts_by}
use Rattle.world_state.specs.Ties.{AreTied, IsBeforeFault}
use Rattle.phase_laws.proofs.Events.{InPhase}
use Rattle.phase_laws.proofs.Few.{plain_pages}
use Rattle.phase_laws.proofs.Jobs.{DataJob, reads, writes}
use Rattle.phase_laws.proofs.Moves.{TellsSo, free_is, not_stopped, plan_is, untold_is, way_is}
use Rattle.phase_laws.proofs.Parts.{KeepsScript}
use Rattle.phase_laws.proofs.Phased.{Moves, base_after, broken_effect, execute_holds, pend_after, pend_with, phase_bus, stopped_by}
use Rattle.phase_laws.proofs.StopTells.{Stays, bars_are, calm_is, data_blocks, empty_is, marks_within, named_is}
use Rattle.phase_laws.proofs.Stopping.{base_is, broken_moves, bus_named, context_after, data_bars, in_contents, jobs_are, marks_by, no_barrier, number_is, pend_is, state_stopped, stop_regs, stopped_path}
use Rattle.phase_laws.proofs.Tags.{of_some}
use Rattle.phase_laws.proofs.Tolds.{marks_are}

abbrev contents_with : List Block → List Mark → Contents
contents_with base pend = record { base = base; pend = pend }

-- ---- marks that are kept lie in the contents

abbrev InBase : List Block → EpochPut → Type 0
InBase base q = q.put.sector < length base

numbered_within : (base : List Block) (e : ℕ) (pend : List Mark) → All (IsWithin base) pend → All (InBase base) (numbered e pend)
numbered_within base e [] all = All-nil (InBase base)
numbered_within base e (PutMark put ∷ pend) all =
    All-cons (InBase base) (record { epoch = e; put = put }) (numbered e pend) (All-head (IsWithin base) (PutMark put) pend all)
    (numbered_within base e pend (All-tail (IsWithin base) (PutMark put) pend all))
numbered_within base e (Bar ∷ pend) all = numbered_within base (e + 1) pend (All-tail (IsWithin base) Bar pend all)

kept_within : (named : ℕ → Bool) (base : List Block) (pend : List Mark) → All (IsWithin base) pend → All (IsWithin (keep_base named base pend)) (keep_pend named pend)
unfolding keep_pend
kept_within named base pend all =
    let long = length-keep_base named base pend in
    let test : EpochPut → Bool = λ q. not (is_kept (bars pend) named q) in
    let In : Put → Type 0 = λ put. put.sector < length (keep_base named base pend) in
    All-map (IsWithin (keep_base named base pend)) PutMark (map (λ (q : EpochPut). q.put) (filter test (numbered 0 pend)))
    (All-map In (λ (q : EpochPut). q.put) (filter test (numbered 0 pend))
    (All-filter test (λ q. In q.put) (numbered 0 pend)
    (subst (λ n. All (λ (q : EpochPut). q.put.sector < n) (numbered 0 pend)) (sym long) (numbered_within base 0 pend all))))

-- ---- what is left

pub record KeptTold (p : PathState) (a : ArrayState) (slot : ℕ) (i : InPhase p slot) (w x y z : ℕ) (g : Holding) (card : CardState) (s : Script) (a' : ArrayState)
    : Type 0 where
  pub tied : AreTied (stopped_path p (stop_regs p w x y z) g card s)
  pub last : card.store.cache.last ≡ p.card.store.cache.last
  pub told : is_some a'.told ≡ is_some a.told
  pub store : IsStore card.store
  pub turns : Turns (keeps (is_named i.h.task.desc.start i.h.task.desc.blocks)) p.card.store a card.store a'
  pub script : KeepsScript p.script s
  pub sent : s.sent ≡ p.script.sent
  pub is_data : DataJob (layout p) slot (job p i.id) (asks_notice (plan_of p) (job p i.id)) i.h.task
  pub before : IsBeforeFault p.script.hit i.h.moved
  pub few : i.h.moved ≤ i.h.task.desc.blocks
  pub all : i.h.task.desc.blocks ≤ i.h.moved
  pub must : must_keep (plan_of p).through (job p i.id) ≡ true

names_are : (l : Layout) (slot : ℕ) (j : Job) (int : Bool) (task : DataTask) → DataJob l slot j int task → named_by j ≡ is_named task.desc.start task.desc.blocks
names_are l slot j int task (reads sector blocks high is e) = ap named_by is ∙ sym (ap (λ v. is_named v.desc.start v.desc.blocks) e)
names_are l slot j int task (writes sector blocks fill forced reliable high is e) = ap named_by is ∙ sym (ap (λ v. is_named v.desc.start v.desc.blocks) e)

pub may_keep_all : (l : Layout) (slot : ℕ) (j : Job) (int : Bool) (task : DataTask) (through : Bool) (count : ℕ) → DataJob l slot j int task → must_keep through j ≡ true
    → count ≡ task.desc.blocks → may_keep through j count true ≡ true
may_keep_all l slot j int task through count (reads sector blocks high is e) must all = absurd (false≢true (sym (ap (must_keep through) is) ∙ must))
may_keep_all l slot j int task through count (writes sector blocks fill forced reliable high is e) must all =
    ap (λ v. may_keep through v count true) is
    ∙ ap (λ b. b && (count == blocks)) (sym (ap (must_keep through) is) ∙ must)
    ∙ eq-eqb count blocks (all ∙ ap (λ v. v.desc.blocks) e)

kept_contents : (p : PathState) (w x y z : ℕ) (g : Holding) (c : CardState) (s : Script) (o : OrderState) (k : Context) (slot : ℕ) (i : InPhase p slot)
    (n : ℕ) (named : List ℕ) → DataJob (layout p) slot (job p i.id) (asks_notice (plan_of p) (job p i.id)) i.h.task
    → contents_of (stopped_path p (stop_regs p w x y z) g c s) (context_after (state_of p o k) k (job p i.id) i.h.moved true n named)
    ≡ keeps (is_named i.h.task.desc.start i.h.task.desc.blocks) (contents_of p k)
kept_contents p w x y z g c s o k slot i n named j =
    let b : State = state_of p o k in
    let apart = no_barrier (layout p) slot (job p i.id) (asks_notice (plan_of p) (job p i.id)) i.h.task j in
    let f = named_by (job p i.id) in
    let to : ℕ → Bool = is_named i.h.task.desc.start i.h.task.desc.blocks in
    let marks : marks_of b (job p i.id) i.h.moved ≡ marks_moved p = marks_by p o k (job p i.id) i.h.moved apart ∙ sym (marks_are p slot i) in
    let pend : pend_with b (job p i.id) i.h.moved ≡ k.pend ++ marks_moved p =
    ap (λ ms. b.pend ++ ms) marks ∙ ap (λ ms. ms ++ marks_moved p) (pend_is p o k) in
    ap (λ ms. contents_with (base_after b (job p i.id) i.h.moved true) ms) (append-nil (pend_after b (job p i.id) i.h.moved true))
    ∙ ap (λ v. contents_with (keep_base v b.base (pend_with b (job p i.id) i.h.moved)) (keep_pend v (pend_with b (job p i.id) i.h.moved)))
    (names_are (layout p) slot (job p i.id) (asks_notice (plan_of p) (job p i.id)) i.h.task j)
    ∙ ap (λ ms. contents_with (keep_base to b.base ms) (keep_pend to ms)) pend
    ∙ ap (λ xs. contents_with (keep_base to xs (k.pend ++ marks_moved p)) (keep_pend to (k.pend ++ marks_moved p))) (base_is p o k)

-- what a phase leaves of the store whose write was kept
pub record KeptLeft (p : PathState) (a : ArrayState) (slot : ℕ) (i : InPhase p slot) (card : CardState) (a' : ArrayState) : Type 0 where
  pub told : is_some a'.told ≡ is_some a.told
  pub store : IsStore card.store
  pub turns : Turns (keeps (is_named i.h.task.desc.start i.h.task.desc.blocks)) p.card.store a card.store a'
  pub is_data : DataJob (layout p) slot (job p i.id) (asks_notice (plan_of p) (job p i.id)) i.h.task
  pub few : i.h.moved ≤ i.h.task.desc.blocks
  pub must : must_keep (plan_of p).through (job p i.id) ≡ true

pub kept_stays : (p : PathState) (a : ArrayState) (slot : ℕ) (i : InPhase p slot) (w x y z : ℕ) (g : Holding) (card : CardState) (s : Script) (a' : ArrayState)
    (o : OrderState) (k : Context) (n : ℕ) (named : List ℕ) → KeptLeft p a slot i card a' → Agrees p a k
    → Stays (stopped_path p (stop_regs p w x y z) g card s) a' (context_after (state_of p o k) k (job p i.id) i.h.moved true n named)
kept_stays p a slot i w x y z g card s a' o k n named st h =
    let b : State = state_of p o k in
    let int = asks_notice (plan_of p) (job p i.id) in
    let j = no_barrier (layout p) slot (job p i.id) int i.h.task st.is_data in
    let few : i.h.moved ≤ blocks_of (job p i.id) = subst (λ v. i.h.moved ≤ v) (data_blocks (layout p) slot (job p i.id) int i.h.task st.is_data) st.few in
    let told : is_some a'.told ≡ true = st.told ∙ h.told in
    let marks : All (IsWithin b.base) (marks_of b (job p i.id) i.h.moved) =
    subst (λ (v : List Mark). All (IsWithin b.base) v) (sym (marks_by p o k (job p i.id) i.h.moved j))
    (subst (λ (v : List Block). All (IsWithin v) (puts_by p i.h.moved (job p i.id))) (sym (base_is p o k))
    (marks_within p (layout p) slot (job p i.id) int i.h.task k.base i.h.moved st.is_data few (in_contents p a slot i k h))) in
    let old : All (IsWithin b.base) b.pend =
    subst (λ (v : List Mark). All (IsWithin b.base) v) (sym (pend_is p o k))
    (subst (λ (v : List Block). All (IsWithin v) k.pend) (sym (base_is p o k)) h.within) in
    let both : All (IsWithin b.base) (pend_with b (job p i.id) i.h.moved) = All-append (IsWithin b.base) b.pend (marks_of b (job p i.id) i.h.moved) old marks in
    let long = length-keep_base (named_by (job p i.id)) b.base (pend_with b (job p i.id) i.h.moved) in
    let base : length b.base ≤ 65536 = subst (λ (v : List Block). length v ≤ 65536) (sym (base_is p o k)) h.few in
    let stands : StoreStands (contents_with (base_after b (job p i.id) i.h.moved true) (pend_after b (job p i.id) i.h.moved true ++ [])) card.store a' =
    subst (λ v. StoreStands v card.store a') (sym (kept_contents p w x y z g card s o k slot i n named st.is_data))
    (st.turns (contents_of p k) h.store) in
    record {
      store = stands;
      within = kept_within (named_by (job p i.id)) b.base (pend_with b (job p i.id) i.h.moved) both;
      few = omega (arith, long, base);
      deferred = λ through staged kept fewer.
          let ms : List Mark = pend_after b (job p i.id) i.h.moved true in
          elim (and_cases (not (is_empty ms)) (b.kept || must_keep b.plan.through (job p i.id)) kept) [
            | inl none ↦
                let bare : ms ≡ [] = empty_is ms (not-false (is_empty ms) none) in
                plain_pages (base_after b (job p i.id) i.h.moved true) card.store a' st.store told
                (subst (λ v. StoreStands (contents_with (base_after b (job p i.id) i.h.moved true) v) card.store a') (ap (λ v. v ++ []) bare) stands)
            | inr free ↦
                let parts = or_parts b.kept (must_keep b.plan.through (job p i.id)) free in
                absurd (false≢true (sym (sym (ap (λ (v : Plan). must_keep v.through (job p i.id)) (plan_is p o k)) ∙ parts.1) ∙ st.must))
          ];
    }

kept_agrees : (p : PathState) (a : ArrayState) (slot : ℕ) (i : InPhase p slot) (w x y z : ℕ) (g : Holding) (card : CardState) (s : Script) (a' : ArrayState)
    (o : OrderState) (k : Context) (named : List ℕ) → KeptTold p a slot i w x y z g card s a' → Agrees p a k
    → AreNamed (stopped_path p (stop_regs p w x y z) g card s) named
    → Agrees (stopped_path p (stop_regs p w x y z) g card s) a' (context_after (state_of p o k) k (job p i.id) i.h.moved true p.script.sent named)
kept_agrees p a slot i w x y z g card s a' o k named st h are =
    let left : KeptLeft p a slot i card a' =
    record { told = st.told; store = st.store; turns = st.turns; is_data = st.is_data; few = st.few; must = st.must } in
    let stays = kept_stays p a slot i w x y z g card s a' o k p.script.sent named left h in
    record {
      told = st.told ∙ h.told;
      tied = st.tied;
      number = st.sent;
      named = are;
      store = stays.store;
      within = stays.within;
      read = tt;
      few = stays.few;
      deferred = stays.deferred;
    }

pub kept_tells : (p : PathState) (a : ArrayState) (slot : ℕ) (i : InPhase p slot) (w x y z : ℕ) (g : Holding) (card : CardState) (s : Script) (a' : ArrayState)
    (d : Due) → AreTied p → StateLaws → IsDue (remembered p.engine.held p.regs) p.regs p.memory d → command_due p d ≡ Execute slot
    → KeptTold p a slot i w x y z g card s a' → p.script.hit ≡ Some Late → g.cause ≡ Some (BusFault Late (Some slot))
    → TellsSo EngineActs p a (PhaseLine p.script.sent i.id i.h.moved true ∷ BusLine p.script.sent Late (Some i.id) ∷ [])
    (stopped_path p (stop_regs p w x y z) g card s) a'
kept_tells p a slot i w x y z g card s a' d t laws is_due command st hit_now cause o k h =
    let b : State = state_of p o k in
    let q : PathState = stopped_path p (stop_regs p w x y z) g card s in
    let n = p.script.sent in
    let int = asks_notice (plan_of p) (job p i.id) in
    let l = laws.engine p o k h.tied h.number in
    let busy : is_busy p ≡ true = ap is_some (way_is p slot i) in
    let due_is : due b ≡ Execute slot = l.command d is_due ∙ command in
    let hit_is : hit b ≡ p.script.hit = l.under_way busy in
    let heard : is_gone p.script.hit ≡ false = of_some (under_way p) slot (λ tag. is_gone p.script.hit ≡ false) (way_is p slot i) t.heard in
    let m = broken_moves p a o k slot i st.is_data h hit_is st.before st.few in
    let few = st.few in
    let all = st.all in
    let whole_count : i.h.moved ≡ i.h.task.desc.blocks = omega (arith, few, all) in
    let moves : Moves b slot i.id i.h.moved true p.script.hit (job p i.id) = record {
      job_is = m.job_is;
      is_id = m.is_id;
      hit_is = m.hit_is;
      few = m.few;
      keeps =
          may_keep_all (layout p) slot (job p i.id) int i.h.task b.plan.through i.h.moved st.is_data
          (ap (λ (v : Plan). must_keep v.through (job p i.id)) (plan_is p o k) ∙ st.must) whole_count;
      inside = m.inside;
    } in
    let line = execute_holds b slot i.id i.h.moved n true p.script.hit (job p i.id) due_is (number_is p o k h.number busy) heard moves in
    let whole = is_whole b.plan.through (job p i.id) i.h.moved true in
    let effect_is = broken_effect b slot i.id i.h.moved n true p.script.hit (job p i.id) (BusOwed n i.id Late) (ap tag_due due_is) hit_is (jobs_are p o k i.id)
    (ap (λ v. whole && is_none v) hit_now ∙ and_right whole false refl) (ap (λ v. owed_by v whole n i.id i.h.moved) hit_now) in
    let why : stop_by q g.cause ≡ stop.Bus (Some i.id) = ap (stop_by q) cause ∙ ap (λ v. stop.Bus v) i.is_held in
    let halt : stop_of q ≡ stop.Bus (Some i.id) = ap (λ state. cond (is_recovering state) stop.Running (stop_by q g.cause)) i.calm ∙ why in
    let named : List ℕ = named_more k.named (Some i.id) in
    let bars = st.last ∙ sym (data_bars (layout p) slot (job p i.id) int i.h.task b.bars st.is_data ∙ bars_are p o k) in
    let T : State → Type 0 = λ v. Happens b EngineActs (PhaseLine n i.id i.h.moved true ∷ BusLine n Late (Some i.id) ∷ []) v in
    record {
      context = context_after b k (job p i.id) i.h.moved true n named;
      agrees =
          kept_agrees p a slot i w x y z g card s a' o k named st h
          (bus_named p (stop_regs p w x y z) g card s k.named slot i.id t h.named (not_stopped p slot i p.engine) i.is_held halt);
      happens =
          subst T (sym (state_stopped p w x y z g card s o k (job p i.id) i.h.moved true n named (stop.Bus (Some i.id)) st.script i.calm why bars))
          (subst (λ v. T (stopped_by b (job p i.id) i.h.moved true n (named_more v (Some i.id)) (stop.Bus (Some i.id)))) (named_is p o k)
          (phase_bus b (job p i.id) i.h.moved n i.id true Late (free_is p o k) (untold_is p o k) line effect_is (calm_is p slot i o k) refl));
    }
