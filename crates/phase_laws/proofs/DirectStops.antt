-- What a direct command tells that stops the engine though the card got it: without a response, or with a fault of the flash.
use Rattle.std.proofs.Common.{◌≡◌, ◌<◌, ◌++◌, ◌==◌, ◌&&◌, ℕ, refl, sym, ◌∙◌, ap, subst, append-nil}
use Rattle.std.specs.Prelude.{Bool, true, false, cond, nat_le, Option, Some, None, is_some, length, List, [], ◌∷◌}
use Rattle.std.specs.List.{find}
use Rattle.std.specs.Option.{option_map}
use Rattle.std.proofs.lemmas.Bool.{and_right, eq-eqb}
use Rattle.array_edge.specs.Array.{ArrayState}
use Rattle.bus_link.specs.Hits.{befalls, if_of_kind, is_execute, raised}
use Rattle.bus_link.specs.Script.{Script}
use Rattle.bus_link.specs.declared.link.Cause.TheVariants.{Bus as BusFault, Response}
use Rattle.card_core.specs.Card.{CardState}
use Rattle.card_store.specs.Store.{Stands as StoreStands}
use Rattle.cmd_words.specs.declared.command.Command.{Command}
use Rattle.cq_engine.specs.Outcome.{Holding}
use Rattle.cq_schedule.specs.Held.{remembered}
use Rattle.cq_schedule.specs.Meaning.{IsDue}
use Rattle.cq_schedule.specs.declared.rules.Due.TheVariants.{Serve}
use Rattle.cut_order.specs.Order.{OrderState}
use Rattle.drv_core.specs.Judge.{error_of}
use Rattle.drv_core.specs.State.{is_recovering}
use Rattle.drv_core.specs.declared.act.Stop.TheVariants.{Flash as FlashEnding}
use Rattle.storage_machine.specs.Commands.{next_number, due, execute_blocks, hit, is_lost, is_running, meets, met, next_ready, first_high, execute_or_poll, queue_first}
use Rattle.storage_machine.specs.Slots.{first}
use Rattle.storage_machine.specs.Jobs.{may_move, phase_blocks}
use Rattle.storage_machine.specs.declared.commands.DueCommand.{DueCommand}
use Rattle.storage_machine.specs.declared.commands.DueCommand.TheVariants as machine
use Rattle.storage_machine.specs.declared.slots.Question.TheVariants.{Named, Rung}
use Rattle.storage_machine.specs.declared.state.Owed.{Owed}
use Rattle.storage_machine.specs.declared.state.Owed.TheVariants.{Bus as BusOwed, Flash as FlashOwed}
use Rattle.storage_machine.specs.declared.state.State.{State}
use Rattle.storage_machine.specs.declared.state.Stop.TheVariants as stop
use Rattle.storage_model.specs.declared.faults.BusKind.{BusKind}
use Rattle.storage_model.specs.declared.faults.BusKind.TheVariants.{Bad, Late, Lost, NoResp}
use Rattle.storage_model.specs.declared.faults.Hit.{Hit}
use Rattle.storage_model.specs.declared.faults.Letter.TheVariants.{Engine as EngineActs}
use Rattle.storage_model.specs.declared.marks.Mark.{Mark}
use Rattle.storage_model.specs.declared.plan.Job.{Job}
use Rattle.storage_model.specs.declared.trace.Item.TheVariants.{Bus as BusLine, Flash as FlashLine, Phase as PhaseLine}
use Rattle.storage_order.specs.Events.{Happens}
use Rattle.trace_effects.specs.Cuts.{places_of}
use Rattle.trace_effects.specs.Effects.{named_more, uses_word}
use Rattle.trace_effects.specs.Phases.{bars_with}
use Rattle.trace_rules.specs.Lines.{is_poll}
use Rattle.trace_rules.specs.Phases.{is_whole, most_blocks, owed_by, tag_due}
use Rattle.world_state.specs.Laws.{StateLaws, command_due, next_fault, served_by}
use Rattle.world_state.specs.Path.{PathState, holder, is_busy, job, plan_of, under_way}
use Rattle.world_state.specs.Reading.{Context, state_of, stop_by, stop_by_word, stop_of}
use Rattle.world_state.specs.Stands.{Agrees, AreNamed, sent_of}
use Rattle.world_state.specs.Ties.{AreTied}
use Rattle.phase_laws.proofs.DirectLeft.{DirectLeft, contents_with, direct_blocks, direct_inside}
use Rattle.phase_laws.proofs.DirectLost.{calm_so, next_is}
use Rattle.phase_laws.proofs.Directs.{InService}
use Rattle.phase_laws.proofs.Moves.{TellsSo, free_is, id_is, untold_is}
use Rattle.phase_laws.proofs.Parts.{KeepsScript}
use Rattle.phase_laws.proofs.Phased.{Moves, base_after, broken, broken_effect, direct_holds, pend_after, phase_bus, phase_flash, stopped_by}
use Rattle.phase_laws.proofs.StopTells.{bars_are, named_is}
use Rattle.phase_laws.proofs.Stopping.{bus_named, context_after, flash_named, jobs_are, state_stopped, stop_regs, stopped_path}

-- ---- what befalls a direct command

kind_met : (kind : BusKind) (command : Command) (blocks : ℕ) → is_execute command ≡ false
    → cond (meets None kind) (Some kind) None ≡ cond (befalls kind command blocks) (Some kind) None
kind_met Lost command blocks e = refl
kind_met NoResp command blocks e = refl
kind_met (Bad n) command blocks e = sym (ap (λ b. cond (b && nat_le n blocks) (Some (Bad n)) None) e)
kind_met Late command blocks e = sym (ap (λ b. cond b (Some Late) None) e)

direct_met : (o : Option Hit) (command : Command) (blocks : ℕ) → is_execute command ≡ false
    → met None (option_map (λ fault. fault.kind) o) ≡ if_of_kind o command blocks
direct_met None command blocks e = refl
direct_met (Some hit) command blocks e = kind_met hit.kind command blocks e

-- ---- the command that is due behind the phase's line

due_broken : (s : State) (j : Job) (count : ℕ) (kept : Bool) (n : ℕ) (owed : Owed) → s.busy ≡ false → due (broken s j count kept n owed) ≡ due s
unfolding due
due_broken s j count kept n owed idle =
    let busy : DueCommand = execute_or_poll s (next_ready s (first_high s)) in
    let free : DueCommand = queue_first s (first Named s.slots s.order) (first Rung s.slots s.order) in
    sym (ap (λ b. cond (is_running s.stop) (cond b busy free) machine.Idle) idle)

busy_is : (p : PathState) (o : OrderState) (k : Context) → (state_of p o k).busy ≡ is_busy p
unfolding state_of
busy_is p o k = refl

-- ---- a stop, its registers and what stands behind them

pub record DirectHalt (p : PathState) (a : ArrayState) (slot : ℕ) (i : InService p slot) (w x y z : ℕ) (g : Holding) (card : CardState) (s : Script) (a' : ArrayState)
    (count : ℕ) (kept : Bool) (kind : Option BusKind) : Type 0 where
  pub before : AreTied p
  pub tied : AreTied (stopped_path p (stop_regs p w x y z) g card s)
  pub left : DirectLeft p a (job p i.id) count kept card a'
  pub script : KeepsScript p.script s
  pub sent : s.sent ≡ raised p.script.sent
  pub going : p.regs.stopped ≡ false
  pub below : slot < 32
  pub way : under_way p ≡ None
  pub is_due : IsDue (remembered p.engine.held p.regs) p.regs p.memory (Serve slot)
  pub command : Command
  pub blocks : ℕ
  pub plain : is_execute command ≡ false
  pub befell : if_of_kind (find (λ h. h.n == raised p.script.sent) p.script.hits) command blocks ≡ kind
  pub heard : is_lost kind ≡ false
  pub most : most_blocks kind 1 ≡ 1

pub direct_agrees : (p : PathState) (a : ArrayState) (slot : ℕ) (i : InService p slot) (w x y z : ℕ) (g : Holding) (card : CardState) (s : Script) (a' : ArrayState)
    (count : ℕ) (kept : Bool) (kind : Option BusKind) (o : OrderState) (k : Context) (named : List ℕ)
    → DirectHalt p a slot i w x y z g card s a' count kept kind → Agrees p a k → AreNamed (stopped_path p (stop_regs p w x y z) g card s) named
    → Agrees (stopped_path p (stop_regs p w x y z) g card s) a' (context_after (state_of p o k) k (job p i.id) count kept (raised p.script.sent) named)
direct_agrees p a slot i w x y z g card s a' count kept kind o k named st h are =
    let b : State = state_of p o k in
    let l = st.left.left o k h in
    let base = base_after b (job p i.id) count kept in
    let pend : List Mark = pend_after b (job p i.id) count kept in
    let none : pend ++ [] ≡ pend = append-nil pend in
    record {
      told = st.left.told ∙ h.told;
      tied = st.tied;
      number = st.sent;
      named = are;
      store = subst (λ ms. StoreStands (contents_with base ms) card.store a') (sym none) l.stands;
      within = l.within;
      read = tt;
      few = l.few;
      deferred = λ through staged free fewer. l.deferred through staged free (subst (λ (ms : List Mark). length (places_of ms) < (plan_of p).lines) none fewer);
    }

-- ---- the phase's line

pub record DirectLine (p : PathState) (o : OrderState) (k : Context) (slot id : ℕ) (count : ℕ) (kept : Bool) (kind : Option BusKind) : Type 0 where
  pub is_due : due (state_of p o k) ≡ machine.Direct slot
  pub befalls : hit (state_of p o k) ≡ kind
  pub moves : Moves (state_of p o k) slot id count kept kind (job p id)
  pub number : raised p.script.sent ≡ next_number (state_of p o k)
  pub idle : (state_of p o k).busy ≡ false

pub line_of : (p : PathState) (a : ArrayState) (slot : ℕ) (i : InService p slot) (card : CardState) (a' : ArrayState) (count : ℕ) (kept : Bool)
    (kind : Option BusKind) (o : OrderState) (k : Context) (command : Command) (blocks : ℕ) → StateLaws → DirectLeft p a (job p i.id) count kept card a'
    → slot < 32 → under_way p ≡ None → IsDue (remembered p.engine.held p.regs) p.regs p.memory (Serve slot) → is_execute command ≡ false
    → if_of_kind (find (λ h. h.n == raised p.script.sent) p.script.hits) command blocks ≡ kind → most_blocks kind 1 ≡ 1 → Agrees p a k
    → DirectLine p o k slot i.id count kept kind
line_of p a slot i card a' count kept kind o k command blocks laws left below way is_due plain befell most h =
    let b : State = state_of p o k in
    let l = laws.engine p o k h.tied h.number in
    let idle : is_busy p ≡ false = ap is_some way in
    let direct : command_due p (Serve slot) ≡ machine.Direct slot =
    ap (served_by p slot) i.is_held ∙ ap (λ v. cond v (machine.Direct slot) (machine.Params slot)) i.is_direct in
    let due_is : due b ≡ machine.Direct slot = l.command (Serve slot) is_due ∙ direct in
    let hit_is : hit b ≡ kind =
    l.fault idle ∙ ap (λ d. met (execute_blocks b d) (next_fault p)) due_is
    ∙ direct_met (find (λ f. f.n == raised p.script.sent) p.script.hits) command blocks plain ∙ befell in
    let few : may_move (job p i.id) (most_blocks kind (phase_blocks (job p i.id))) count ≡ true =
    ap (λ n. may_move (job p i.id) (most_blocks kind n) count) (direct_blocks (job p i.id) i.is_direct)
    ∙ ap (λ n. may_move (job p i.id) n count) most ∙ left.few in
    record {
      is_due = due_is;
      befalls = hit_is;
      moves = record {
        job_is = jobs_are p o k i.id;
        is_id = ap (λ v. v == i.id) (id_is p o k slot i.id below i.is_held) ∙ eq-eqb i.id i.id refl;
        hit_is = hit_is;
        few = few;
        keeps = left.keeps b.plan.through;
        inside = direct_inside (job p i.id) (length b.base) i.is_direct;
      };
      number = next_is p o k (h.number ∙ ap (λ v. sent_of v k.n) idle);
      idle = busy_is p o k ∙ idle;
    }

pub direct_line : (p : PathState) (a : ArrayState) (slot : ℕ) (i : InService p slot) (w x y z : ℕ) (g : Holding) (card : CardState) (s : Script) (a' : ArrayState)
    (count : ℕ) (kept : Bool) (kind : Option BusKind) (o : OrderState) (k : Context) → StateLaws
    → DirectHalt p a slot i w x y z g card s a' count kept kind → Agrees p a k → DirectLine p o k slot i.id count kept kind
direct_line p a slot i w x y z g card s a' count kept kind o k laws st h =
    line_of p a slot i card a' count kept kind o k st.command st.blocks laws st.left st.below st.way st.is_due st.plain st.befell st.most h

pub running_so : (p : PathState) (slot : ℕ) (i : InService p slot) → p.regs.stopped ≡ false → stop_of p ≡ stop.Running
running_so p slot i going =
    ap (λ state. cond (is_recovering state) stop.Running (cond p.regs.stopped (stop_by p p.engine.cause) stop.Running)) i.calm
    ∙ ap (λ v. cond v (stop_by p p.engine.cause) stop.Running) going

-- ---- without a response

pub unanswered_tells : (p : PathState) (a : ArrayState) (slot : ℕ) (i : InService p slot) (w x y z : ℕ) (g : Holding) (card : CardState) (s : Script)
    (a' : ArrayState) (count : ℕ) (kept : Bool) → StateLaws → DirectHalt p a slot i w x y z g card s a' count kept (Some NoResp)
    → g.cause ≡ Some (BusFault NoResp (Some slot))
    → TellsSo EngineActs p a (PhaseLine (raised p.script.sent) i.id count kept ∷ BusLine (raised p.script.sent) NoResp (Some i.id) ∷ [])
    (stopped_path p (stop_regs p w x y z) g card s) a'
unanswered_tells p a slot i w x y z g card s a' count kept laws st cause o k h =
    let b : State = state_of p o k in
    let q : PathState = stopped_path p (stop_regs p w x y z) g card s in
    let n : ℕ = raised p.script.sent in
    let j : Job = job p i.id in
    let d = direct_line p a slot i w x y z g card s a' count kept (Some NoResp) o k laws st h in
    let line = direct_holds b slot i.id count n kept (Some NoResp) j d.is_due d.number refl d.moves in
    let whole = is_whole b.plan.through j count kept in
    let effect_is = broken_effect b slot i.id count n kept (Some NoResp) j (BusOwed n i.id NoResp) (ap tag_due d.is_due) d.befalls (jobs_are p o k i.id)
    (and_right whole false refl) refl in
    let why : stop_by q g.cause ≡ stop.Bus (Some i.id) = ap (stop_by q) cause ∙ ap (λ v. stop.Bus v) i.is_held in
    let halt : stop_of q ≡ stop.Bus (Some i.id) = ap (λ state. cond (is_recovering state) stop.Running (stop_by q g.cause)) i.calm ∙ why in
    let named : List ℕ = named_more k.named (Some i.id) in
    let T : State → Type 0 = λ v. Happens b EngineActs (PhaseLine n i.id count kept ∷ BusLine n NoResp (Some i.id) ∷ []) v in
    let unused : uses_word (broken b j count kept n (BusOwed n i.id NoResp)) NoResp ≡ false =
    ap is_poll (due_broken b j count kept n (BusOwed n i.id NoResp) d.idle ∙ d.is_due) in
    let bars = st.left.last ∙ sym (ap (λ v. bars_with v j) (bars_are p o k)) in
    record {
      context = context_after b k j count kept n named;
      agrees =
          direct_agrees p a slot i w x y z g card s a' count kept (Some NoResp) o k named st h
          (bus_named p (stop_regs p w x y z) g card s k.named slot i.id st.before h.named (running_so p slot i st.going) i.is_held halt);
      happens =
          subst T (sym (state_stopped p w x y z g card s o k j count kept n named (stop.Bus (Some i.id)) st.script i.calm why bars))
          (subst (λ v. T (stopped_by b j count kept n (named_more v (Some i.id)) (stop.Bus (Some i.id)))) (named_is p o k)
          (phase_bus b j count n i.id kept NoResp (free_is p o k) (untold_is p o k) line effect_is (calm_so p o k i.calm) unused));
    }

-- ---- with a fault of the flash

pub failed_tells : (p : PathState) (a : ArrayState) (slot : ℕ) (i : InService p slot) (w x y z : ℕ) (g : Holding) (card : CardState) (s : Script)
    (a' : ArrayState) (count : ℕ) (kept : Bool) (word : ℕ) → StateLaws → DirectHalt p a slot i w x y z g card s a' count kept None
    → g.cause ≡ Some (Response word slot) → error_of word ≡ Some FlashEnding → ((through : Bool) → is_whole through (job p i.id) count kept ≡ false)
    → TellsSo EngineActs p a (PhaseLine (raised p.script.sent) i.id count kept ∷ FlashLine (Some i.id) ∷ [])
    (stopped_path p (stop_regs p w x y z) g card s) a'
failed_tells p a slot i w x y z g card s a' count kept word laws st cause error part o k h =
    let b : State = state_of p o k in
    let q : PathState = stopped_path p (stop_regs p w x y z) g card s in
    let n : ℕ = raised p.script.sent in
    let j : Job = job p i.id in
    let d = direct_line p a slot i w x y z g card s a' count kept None o k laws st h in
    let line = direct_holds b slot i.id count n kept None j d.is_due d.number refl d.moves in
    let partly = part b.plan.through in
    let effect_is = broken_effect b slot i.id count n kept None j (FlashOwed i.id) (ap tag_due d.is_due) d.befalls (jobs_are p o k i.id)
    (ap (λ v. v && true) partly) (ap (λ v. owed_by None v n i.id count) partly) in
    let why : stop_by q g.cause ≡ stop.Flash i.id =
    ap (stop_by q) cause ∙ ap (λ v. stop_by_word v (holder p slot)) error ∙ ap (stop_by_word (Some FlashEnding)) i.is_held in
    let halt : stop_of q ≡ stop.Flash i.id =
    ap (λ state. cond (is_recovering state) stop.Running (stop_by q g.cause)) i.calm ∙ why in
    let bars = st.left.last ∙ sym (ap (λ v. bars_with v j) (bars_are p o k)) in
    let T : State → Type 0 = λ v. Happens b EngineActs (PhaseLine n i.id count kept ∷ FlashLine (Some i.id) ∷ []) v in
    record {
      context = context_after b k j count kept n k.named;
      agrees =
          direct_agrees p a slot i w x y z g card s a' count kept None o k k.named st h
          (flash_named p (stop_regs p w x y z) g card s k.named i.id h.named (running_so p slot i st.going) halt);
      happens =
          subst T (sym (state_stopped p w x y z g card s o k j count kept n k.named (stop.Flash i.id) st.script i.calm why bars))
          (subst (λ v. T (stopped_by b j count kept n v (stop.Flash i.id))) (named_is p o k)
          (phase_flash b j count n i.id kept (free_is p o k) (untold_is p o k) line effect_is));
    }
