-- The loss of power in a direct command: its phase's line, and the state that the cut comes to.
use Rattle.std.proofs.Common.{◌≡◌, ◌<◌, ◌&&◌, ℕ, sym, ◌∙◌, ap, subst, arith, append-nil}
use Rattle.std.specs.Prelude.{Bool, false, cond, min, Option, Some, None, is_none, length, [], ◌∷◌}
use Rattle.std.specs.Option.{option_map}
use Rattle.array_edge.specs.Array.{ArrayState}
use Rattle.bus_link.specs.Hits.{raised}
use Rattle.bus_link.specs.Script.{Script}
use Rattle.bus_link.specs.declared.link.Cause.TheVariants.{Dark as NoPower}
use Rattle.card_core.specs.Card.{CardState}
use Rattle.card_store.specs.Store.{Stands as StoreStands}
use Rattle.cq_engine.specs.Outcome.{Holding}
use Rattle.cut_order.specs.Order.{OrderState}
use Rattle.drv_core.specs.State.{is_recovering}
use Rattle.drv_jobs.specs.Changes.{faults_of}
use Rattle.storage_machine.specs.declared.state.Owed.{Owed}
use Rattle.storage_machine.specs.declared.state.State.{State}
use Rattle.storage_machine.specs.declared.state.Stop.TheVariants as stop
use Rattle.storage_model.specs.declared.faults.BusKind.{BusKind}
use Rattle.storage_model.specs.declared.plan.Job.{Job}
use Rattle.storage_model.specs.declared.plan.Plan.{Plan}
use Rattle.storage_model.specs.declared.trace.Item.TheVariants.{Phase as PhaseLine}
use Rattle.trace_effects.specs.Cuts.{places_of}
use Rattle.trace_rules.specs.Phases.{is_whole, owed_by, tag_due}
use Rattle.world_state.specs.Laws.{StateLaws}
use Rattle.world_state.specs.Path.{PathState, holder, job, plan_of}
use Rattle.world_state.specs.Reading.{Context, standing_at, state_of, stop_by, stop_of}
use Rattle.world_state.specs.Stands.{Agrees, named_at}
use Rattle.world_state.specs.Told.{IsLosing, is_dark}
use Rattle.phase_laws.proofs.Darks.{DarkensSo, all_issued, cut_next, dark_named, data_long, faults_bus, faults_ready, fresh_is, ids_back, names_are, order_is, recovers_is, slot_so, slots_long, staged_is, started_at, vacant_data, waiting_is, words_are}
use Rattle.phase_laws.proofs.DirectLeft.{contents_with}
use Rattle.phase_laws.proofs.DirectStops.{DirectHalt, direct_agrees, direct_line, running_so}
use Rattle.phase_laws.proofs.Directs.{InService}
use Rattle.phase_laws.proofs.Moves.{free_is, plan_is, untold_is}
use Rattle.phase_laws.proofs.Phased.{base_after, broken, broken_effect, direct_holds, pend_after, phase_begins}
use Rattle.phase_laws.proofs.Stopping.{jobs_are, stop_regs, stopped_path}

direct_losing : (p : PathState) (a : ArrayState) (slot : ℕ) (i : InService p slot) (w x y z : ℕ) (g : Holding) (card : CardState) (s : Script) (a' : ArrayState)
    (count : ℕ) (kept : Bool) (kind : Option BusKind) (o : OrderState) (k : Context) (owed : Owed) → DirectHalt p a slot i w x y z g card s a' count kept kind
    → Agrees p a k → g.cause ≡ Some NoPower → is_dark owed ≡ false
    → IsLosing (broken (state_of p o k) (job p i.id) count kept (raised p.script.sent) owed) (stopped_path p (stop_regs p w x y z) g card s) o a'
direct_losing p a slot i w x y z g card s a' count kept kind o k owed st h cause lit =
    let b : State = state_of p o k in
    let q : PathState = stopped_path p (stop_regs p w x y z) g card s in
    let halt : stop_of q ≡ stop.Bus None =
    ap (λ state. cond (is_recovering state) stop.Running (stop_by q g.cause)) i.calm ∙ ap (stop_by q) cause in
    let named = dark_named p (stop_regs p w x y z) g card s k.named h.named (running_so p slot i st.going) halt in
    let after = direct_agrees p a slot i w x y z g card s a' count kept kind o k k.named st h named in
    let bare = ap (λ ms. contents_with (base_after b (job p i.id) count kept) ms) (append-nil (pend_after b (job p i.id) count kept)) in
    let fresh = fresh_is p o k in
    record {
      plan = plan_is p o k;
      ready = faults_ready p o k ∙ sym st.script.ready;
      bus = faults_bus p o k ∙ sym st.script.hits;
      order = order_is p o k;
      waiting = waiting_is p o k;
      slots = slots_long p o k;
      issued = λ tag within. ap (option_map (λ task. task.id)) (slot_so p o k tag within) ∙ ids_back (holder p tag) (standing_at p tag);
      standing = all_issued p o k;
      places = data_long p o k;
      vacant = vacant_data p o k;
      n = sym st.sent;
      words = words_are p o k ∙ sym st.script.used;
      long = ap (λ xs. length xs) (names_are p o k) ∙ h.named.long;
      named = λ id waits.
          let few = st.before.borne.waiting id waits in
          let so = h.named.waiting id waits in
          ap (λ xs. named_at xs id) (names_are p o k) ∙ so ∙ min_low (faults_of p.driver.requests id) few;
      told = after.told;
      store = subst (λ v. StoreStands v card.store a') bare after.store;
      within = after.within;
      few = after.few;
      unjudged = record { lit = lit; deferred = fresh.deferred; lefts = fresh.lefts; epochs = fresh.epochs };
      recovery = recovers_is p o k;
      deferred = λ work through staged free few.
          after.deferred (sym (ap (λ (v : Plan). v.through) (plan_is p o k)) ∙ through) (sym (staged_is p o k) ∙ staged) free
          (subst (λ v. length (places_of v.pend) < (plan_of p).lines) (sym bare)
          (subst (λ (v : Plan). length (places_of (pend_after b (job p i.id) count kept)) < v.lines) (plan_is p o k) few));
    }
  where
    min_low : (n : ℕ) → n < 4 → min n 4 ≡ n
    min_low n low = omega arith

pub failed_darkens : (p : PathState) (a : ArrayState) (slot : ℕ) (i : InService p slot) (w x y z : ℕ) (g : Holding) (card : CardState) (s : Script)
    (a' : ArrayState) (count : ℕ) (kind : Option BusKind) → StateLaws → DirectHalt p a slot i w x y z g card s a' count false kind → g.cause ≡ Some NoPower
    → ((through : Bool) → is_whole through (job p i.id) count false ≡ false)
    → DarkensSo p a (PhaseLine (raised p.script.sent) i.id count false ∷ []) (stopped_path p (stop_regs p w x y z) g card s) a'
failed_darkens p a slot i w x y z g card s a' count kind laws st cause part o k h =
    let b : State = state_of p o k in
    let n : ℕ = raised p.script.sent in
    let j : Job = job p i.id in
    let d = direct_line p a slot i w x y z g card s a' count false kind o k laws st h in
    let line = direct_holds b slot i.id count n false kind j d.is_due d.number st.heard d.moves in
    let partly = part b.plan.through in
    let owed : Owed = owed_by kind false n i.id count in
    let last : State = broken b j count false n owed in
    let effect_is = broken_effect b slot i.id count n false kind j owed (ap tag_due d.is_due) d.befalls (jobs_are p o k i.id)
    (ap (λ v. v && is_none kind) partly) (ap (λ v. owed_by kind v n i.id count) partly) in
    let next = cut_next b j count n i.id kind in
    record {
      last = last;
      starts = started_at b last (PhaseLine n i.id count false) (free_is p o k) (untold_is p o k) (phase_begins b last n i.id count false [] line (sym effect_is));
      cut = (next.0, next.1);
      losing = direct_losing p a slot i w x y z g card s a' count false kind o k owed st h cause next.2;
    }
