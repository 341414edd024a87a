-- What the end of a data phase tells that finishes.
use Rattle.std.proofs.Common.{◌≡◌, ◌<◌, ◌≤◌, ◌+◌, ◌++◌, ◌&&◌, ℕ, refl, sym, ◌∙◌, ap, subst}
use Rattle.std.specs.Prelude.{Bool, true, false, cond, Option, Some, None, IfSome, is_some, length, List, [], ◌∷◌, min}
use Rattle.array_edge.specs.Array.{ArrayState}
use Rattle.bus_link.specs.Script.{Script}
use Rattle.card_core.specs.Card.{CardState}
use Rattle.card_store.specs.Store.{Contents, Stands as StoreStands}
use Rattle.cq_engine.specs.Outcome.{Holding}
use Rattle.cq_regs.specs.State.{Registers}
use Rattle.cq_schedule.specs.Held.{remembered}
use Rattle.cq_schedule.specs.Meaning.{IsDue}
use Rattle.cq_schedule.specs.declared.rules.Due.{Due}
use Rattle.cut_order.specs.Order.{OrderState}
use Rattle.drv_core.specs.State.{asks_notice, is_recovering}
use Rattle.drv_jobs.specs.Changes.{faults_of}
use Rattle.storage_machine.specs.Commands.{due, hit, is_gone}
use Rattle.storage_machine.specs.Jobs.{may_keep}
use Rattle.storage_machine.specs.declared.commands.DueCommand.TheVariants.{Execute}
use Rattle.storage_machine.specs.declared.state.State.{State}
use Rattle.storage_machine.specs.declared.state.Stop.TheVariants as stop
use Rattle.storage_model.specs.declared.block.Block.{Block}
use Rattle.storage_model.specs.declared.faults.Letter.TheVariants.{Engine as EngineActs}
use Rattle.storage_model.specs.declared.marks.Mark.{Mark}
use Rattle.storage_model.specs.declared.plan.Plan.{Plan}
use Rattle.storage_model.specs.declared.trace.Item.TheVariants.{Phase as PhaseLine}
use Rattle.storage_order.specs.Events.{Happens}
use Rattle.trace_effects.specs.Cuts.{places_of}
use Rattle.trace_rules.specs.Phases.{is_whole, tag_due}
use Rattle.world_state.specs.Laws.{StateLaws, command_due}
use Rattle.world_state.specs.Path.{PathState, is_busy, job, layout, plan_of, under_way}
use Rattle.world_state.specs.Reading.{Context, state_of, stop_by, stop_of}
use Rattle.world_state.specs.Stands.{Agrees, HasReadSoFar, contents_of, marks_moved_by, names, sent_of}
use Rattle.world_state.specs.Ties.{AreTied, IsBeforeFault}
use Rattle.phase_laws.proofs.Events.{InPhase}
use Rattle.phase_laws.proofs.FinishData.{data_done}
use Rattle.phase_laws.proofs.FinishState.{Completed, none_way, runs_still, state_done}
use Rattle.phase_laws.proofs.Finished.{done_effect, phase_done}
use Rattle.phase_laws.proofs.Jobs.{DataJob}
use Rattle.phase_laws.proofs.Moves.{TellsSo, free_is, not_stopped, plan_is, untold_is, way_is}
use Rattle.phase_laws.proofs.Parts.{KeepsScript, path_with}
use Rattle.phase_laws.proofs.Phased.{Moves, execute_holds}
use Rattle.phase_laws.proofs.StopTells.{Stays, bars_are}
use Rattle.phase_laws.proofs.Stopping.{broken_moves, context_after, data_bars, jobs_are, number_is, stop_regs, stopped_path}
use Rattle.phase_laws.proofs.Tags.{of_some}

abbrev contents_with : List Block → List Mark → Contents
contents_with base pend = record { base = base; pend = pend }

-- what is left of path and array
pub record FinishTold (p : PathState) (a : ArrayState) (slot : ℕ) (i : InPhase p slot) (r : Registers) (g : Holding) (card : CardState) (s : Script)
    (a' : ArrayState) (kept : Bool) : Type 0 where
  pub tied : AreTied (path_with p r p.memory g card s)
  pub done : Completed p slot i r
  pub last : card.store.cache.last ≡ p.card.store.cache.last
  pub told : is_some a'.told ≡ is_some a.told
  pub script : KeepsScript p.script s
  pub sent : s.sent ≡ p.script.sent
  pub is_data : DataJob (layout p) slot (job p i.id) (asks_notice (plan_of p) (job p i.id)) i.h.task
  pub before : IsBeforeFault p.script.hit i.h.moved
  pub few : i.h.moved ≤ i.h.task.desc.blocks
  pub all : i.h.task.desc.blocks ≤ i.h.moved
  pub none : p.script.hit ≡ None
  pub whole : is_whole (plan_of p).through (job p i.id) i.h.moved kept ≡ true
  pub may : may_keep (plan_of p).through (job p i.id) i.h.moved kept ≡ true
  pub stays : (o : OrderState) (k : Context) → Agrees p a k
      → Stays (stopped_path p (stop_regs p 0 0 0 0) g card s) a' (context_after (state_of p o k) k (job p i.id) i.h.moved kept p.script.sent k.named)

-- no phase is under way, as after a stop
same_contents : (p : PathState) (slot : ℕ) (i : InPhase p slot) (r : Registers) (g : Holding) (card : CardState) (s : Script) (c : Context)
    → Completed p slot i r
    → contents_of (path_with p r p.memory g card s) c ≡ contents_of (stopped_path p (stop_regs p 0 0 0 0) g card s) c
same_contents p slot i r g card s c d =
    let q : PathState = path_with p r p.memory g card s in
    ap (λ w. contents_with c.base (c.pend ++ marks_moved_by q w)) (none_way p slot i r g card s d)

pub runs_on : (p : PathState) (slot : ℕ) (i : InPhase p slot) (r : Registers) (g : Holding) (card : CardState) (s : Script) → Completed p slot i r
    → stop_of (path_with p r p.memory g card s) ≡ stop.Running
runs_on p slot i r g card s d =
    let q : PathState = path_with p r p.memory g card s in
    ap (λ state. cond (is_recovering state) stop.Running (cond r.stopped (stop_by q g.cause) stop.Running)) i.calm
    ∙ ap (λ v. cond v (stop_by q g.cause) stop.Running) (runs_still p slot i r d)

finish_agrees : (p : PathState) (a : ArrayState) (slot : ℕ) (i : InPhase p slot) (r : Registers) (g : Holding) (card : CardState) (s : Script) (a' : ArrayState)
    (kept : Bool) (o : OrderState) (k : Context) → FinishTold p a slot i r g card s a' kept → Agrees p a k
    → Agrees (path_with p r p.memory g card s) a' (context_after (state_of p o k) k (job p i.id) i.h.moved kept p.script.sent k.named)
finish_agrees p a slot i r g card s a' kept o k st h =
    let q : PathState = path_with p r p.memory g card s in
    let c : Context = context_after (state_of p o k) k (job p i.id) i.h.moved kept p.script.sent k.named in
    let stays = st.stays o k h in
    let contents = same_contents p slot i r g card s c st.done in
    let way = none_way p slot i r g card s st.done in
    record {
      told = st.told ∙ h.told;
      tied = st.tied;
      number = st.sent ∙ sym (ap (λ v. sent_of (is_some v) p.script.sent) way);
      named = record {
        long = h.named.long;
        waiting = h.named.waiting;
        issued = λ tag id is.
            h.named.issued tag id is
            ∙ ap (λ v. min (faults_of p.driver.requests id + names v id) 4) (not_stopped p slot i p.engine ∙ sym (runs_on p slot i r g card s st.done));
      };
      store = subst (λ v. StoreStands v card.store a') (sym contents) stays.store;
      within = stays.within;
      read = subst (λ v. IfSome v (HasReadSoFar q c)) (sym way) tt;
      few = stays.few;
      deferred = λ through staged marked fewer.
          stays.deferred through staged marked (subst (λ (v : Contents). length (places_of v.pend) < (plan_of p).lines) contents fewer);
    }

pub finish_tells : (p : PathState) (a : ArrayState) (slot : ℕ) (i : InPhase p slot) (r : Registers) (g : Holding) (card : CardState) (s : Script) (a' : ArrayState)
    (kept : Bool) (d : Due) → AreTied p → StateLaws → IsDue (remembered p.engine.held p.regs) p.regs p.memory d → command_due p d ≡ Execute slot
    → FinishTold p a slot i r g card s a' kept
    → TellsSo EngineActs p a (PhaseLine p.script.sent i.id i.h.moved kept ∷ []) (path_with p r p.memory g card s) a'
finish_tells p a slot i r g card s a' kept d t laws is_due command st o k h =
    let b : State = state_of p o k in
    let n = p.script.sent in
    let int = asks_notice (plan_of p) (job p i.id) in
    let l = laws.engine p o k h.tied h.number in
    let busy : is_busy p ≡ true = ap is_some (way_is p slot i) in
    let due_is : due b ≡ Execute slot = l.command d is_due ∙ command in
    let hit_is : hit b ≡ p.script.hit = l.under_way busy in
    let heard : is_gone p.script.hit ≡ false = of_some (under_way p) slot (λ tag. is_gone p.script.hit ≡ false) (way_is p slot i) t.heard in
    let m = broken_moves p a o k slot i st.is_data h hit_is st.before st.few in
    let moves : Moves b slot i.id i.h.moved kept p.script.hit (job p i.id) = record {
      job_is = m.job_is;
      is_id = m.is_id;
      hit_is = m.hit_is;
      few = m.few;
      keeps = ap (λ (v : Plan). may_keep v.through (job p i.id) i.h.moved kept) (plan_is p o k) ∙ st.may;
      inside = m.inside;
    } in
    let line = execute_holds b slot i.id i.h.moved n kept p.script.hit (job p i.id) due_is (number_is p o k h.number busy) heard moves in
    let whole : is_whole b.plan.through (job p i.id) i.h.moved kept ≡ true =
    ap (λ (v : Plan). is_whole v.through (job p i.id) i.h.moved kept) (plan_is p o k) ∙ st.whole in
    let effect_is = done_effect b slot i.id i.h.moved n kept (job p i.id) (ap tag_due due_is) (hit_is ∙ st.none) (jobs_are p o k i.id) whole in
    let bars = st.last ∙ sym (data_bars (layout p) slot (job p i.id) int i.h.task b.bars st.is_data ∙ bars_are p o k) in
    let T : State → Type 0 = λ v. Happens b EngineActs (PhaseLine n i.id i.h.moved kept ∷ []) v in
    record {
      context = context_after b k (job p i.id) i.h.moved kept n k.named;
      agrees = finish_agrees p a slot i r g card s a' kept o k st h;
      happens =
          subst T
          (sym (state_done p slot i r g card s o k i.h.moved kept n t st.is_data st.done st.script bars
          (data_done p a slot i r g card s o k st.is_data st.done st.all h)))
          (phase_done b (job p i.id) slot i.h.moved n i.id kept (free_is p o k) (untold_is p o k) line effect_is);
    }
