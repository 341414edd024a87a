-- What CMD46 and CMD47 tell: nothing where the phase begins, or the line of the fault of the bus.
use Rattle.std.proofs.Common.{◌≡◌, ◌+◌, ◌<◌, ℕ, Bool, true, false, cond, length, refl, sym, ◌∙◌, ap, subst, arith, inl, inr}
use Rattle.std.specs.Prelude.{nat_le, not, ◌++◌, List, [], Option, Some, None, IfSome, is_some}
use Rattle.std.specs.Option.{option_map, option_map_or}
use Rattle.std.proofs.lemmas.Bool.Decides.{eqb_tells, nat_tests}
use Rattle.array_edge.specs.Array.{ArrayState}
use Rattle.bus_link.specs.Hits.{befalls, raised}
use Rattle.bus_link.specs.Script.{Script, armed, struck}
use Rattle.card_core.specs.Card.{CardState, blocks_of as card_blocks}
use Rattle.card_core.specs.declared.phase.Phase.{Phase}
use Rattle.card_link.specs.Made.{hit_on}
use Rattle.card_store.specs.Store.{Contents, Stands as StoreStands, Store}
use Rattle.cmd_words.specs.declared.command.Command.{Command}
use Rattle.cmd_words.specs.declared.command.Command.TheVariants.{Execute as ExecuteCommand}
use Rattle.cq_engine.specs.Outcome.{Holding, stopped_with}
use Rattle.cq_engine.specs.Words.{execute_of}
use Rattle.cq_engine.specs.declared.did.Did.{Did}
use Rattle.cq_engine.specs.declared.did.Did.TheVariants.{Sent as SentCommand}
use Rattle.cq_engine.proofs.SlotLaws.{advanced-other}
use Rattle.cq_regs.specs.Slots.{advanced, progress_of}
use Rattle.cq_regs.specs.declared.slots.Ringed.{Ringed}
use Rattle.cq_schedule.specs.Held.{remembered}
use Rattle.cq_schedule.specs.Order.{order_of}
use Rattle.cq_schedule.specs.declared.rules.Due.TheVariants.{Execute}
use Rattle.cut_order.specs.Order.{OrderState}
use Rattle.drv_core.specs.State.{is_recovering}
use Rattle.intent_store.specs.Intent.{shown_by}
use Rattle.storage_machine.specs.Commands.{due, hit, is_gone, job_on, meets}
use Rattle.storage_machine.specs.Jobs.{job_of, phase_blocks}
use Rattle.storage_machine.specs.declared.commands.DueCommand.TheVariants as machine
use Rattle.storage_machine.specs.declared.state.Standing.TheVariants as standing
use Rattle.storage_machine.specs.declared.state.State.{State}
use Rattle.storage_machine.specs.declared.state.Stop.{Stop}
use Rattle.storage_machine.specs.declared.state.Stop.TheVariants as stop
use Rattle.storage_machine.specs.declared.state.Task.{Task}
use Rattle.storage_model.specs.declared.faults.BusKind.{BusKind}
use Rattle.storage_model.specs.declared.faults.BusKind.TheVariants.{Bad, Late, Lost, NoResp}
use Rattle.storage_model.specs.declared.faults.Hit.{Hit}
use Rattle.task_queue.specs.declared.queue.Queued.{Queued}
use Rattle.storage_model.specs.declared.plan.Job.{Job}
use Rattle.storage_model.specs.declared.plan.Job.TheVariants.{Barrier, Flush, Read, Status, Write}
use Rattle.storage_order.specs.Events.{end_rule, ended, engine_may_pass, engine_step, may_pass, passed}
use Rattle.trace_effects.specs.Cuts.{places_of}
use Rattle.trace_effects.specs.Phases.{puts_of}
use Rattle.trace_rules.specs.Lines.{is_poll}
use Rattle.trace_rules.specs.Steps.{unless}
use Rattle.world_state.specs.Engine.{EngineEvent, phase_left, phase_taken}
use Rattle.world_state.specs.Laws.{StateLaws}
use Rattle.world_state.specs.Path.{PathState, behind_path, holder, is_busy, job, moved, plan_of, under_way}
use Rattle.world_state.specs.Reading.{Context, data_of, is_done, spent_of, standing_of, state_of, stop_of, tasks_of}
use Rattle.world_state.specs.Stands.{Agrees, HasReadSoFar, contents_of, marks_moved, marks_moved_by, names, puts_by, sent_of}
use Rattle.world_state.specs.Ties.{AreTied}
use Rattle.command_laws.proofs.Agreeing.{contents_at, named_same}
use Rattle.command_laws.proofs.Cases.{stop_did}
use Rattle.command_laws.proofs.Executing.{executed_card, executed_error, executed_regs, executing_cases, is_active, is_executing}
use Rattle.command_laws.proofs.ExecutingTies.{execute_due, moved_is, under}
use Rattle.command_laws.proofs.GoodState.{not_direct, on_tag, still_runs}
use Rattle.command_laws.proofs.Idled.{hit_is, no_way_yet, not_busy}
use Rattle.command_laws.proofs.NamingTells.{TellsOf, both}
use Rattle.command_laws.proofs.Onwards.{if_some_all}
use Rattle.command_laws.proofs.Parts.{facts, holding, path_with}
use Rattle.command_laws.proofs.Printed.{due_told, hit_told, no_line, told}
use Rattle.command_laws.proofs.RestingTells.{due_settled, settled}
use Rattle.command_laws.proofs.Rings.{order_advanced}
use Rattle.command_laws.proofs.Running.{running}
use Rattle.command_laws.proofs.Slotted.{id_is, slots_same}
use Rattle.command_laws.proofs.StopLines.{spent_none}
use Rattle.command_laws.proofs.TiesOn.{regs_with}
use Rattle.command_laws.proofs.StopTells.{runs_stop, state_free, state_untold, stop_tells}

-- each fault befalls a command that begins a data phase, those of the data at its blocks
execute_meets : (read : Bool) (slot blocks : ℕ) (kind : BusKind) → meets (Some blocks) kind ≡ befalls kind (ExecuteCommand read slot) blocks
execute_meets read slot blocks Lost = refl
execute_meets read slot blocks NoResp = refl
execute_meets read slot blocks (Bad block) = refl
execute_meets read slot blocks Late = refl

job_is : (p : PathState) (o : OrderState) (c : Context) (slot id : ℕ) → slot < 32 → holder p slot ≡ Some id
    → phase_blocks (job_on (state_of p o c) slot) ≡ phase_blocks (job p id)
unfolding state_of
job_is p o c slot id below is = ap (λ n. phase_blocks (job_of (plan_of p).jobs n)) (id_is p slot id below is)

none_most : (n : ℕ) → nat_le 0 n ≡ true
none_most n = grind (arith, nat_tests)

hit_settled : (s : State) → hit (settled s) ≡ hit s
unfolding hit due
hit_settled s = refl

-- the event may print nothing, and the phase is under way after it
passes : (s : State) (slot : ℕ) → is_gone (hit s) ≡ false → s.spent ≡ 0 → may_pass (told s) (machine.Execute slot) ≡ true
passes s slot gone spent =
    both (not (is_gone (hit (told s)))) (nat_le s.spent (phase_blocks (job_on (told s) slot))) (ap (λ h. not (is_gone h)) (hit_told s) ∙ ap not gone)
    (ap (λ n. nat_le n (phase_blocks (job_on (told s) slot))) spent ∙ none_most (phase_blocks (job_on (told s) slot)))

passes_settled : (s : State) (slot : ℕ) → is_gone (hit s) ≡ false → s.spent ≡ 0 → may_pass (settled s) (machine.Execute slot) ≡ true
passes_settled s slot gone spent =
    both (not (is_gone (hit (settled s)))) (nat_le s.spent (phase_blocks (job_on (settled s) slot))) (ap (λ h. not (is_gone h)) (hit_settled s) ∙ ap not gone)
    (ap (λ n. nat_le n (phase_blocks (job_on (settled s) slot))) spent ∙ none_most (phase_blocks (job_on (settled s) slot)))

may_begin : (s : State) (slot : ℕ) → due s ≡ machine.Execute slot → is_gone (hit s) ≡ false → s.spent ≡ 0 → end_rule (told s) ≡ None
unfolding end_rule engine_may_pass
may_begin s slot d gone spent =
    ap (λ d. unless (may_pass (told s) d) 14) (due_told s ∙ d) ∙ ap (λ b. unless b 14) (passes s slot gone spent)

begins : (s : State) (slot : ℕ) → due s ≡ machine.Execute slot → is_gone (hit s) ≡ false → s.spent ≡ 0
    → ended (told s) ≡ record (settled s) { busy = true; spent = s.spent + 1 }
unfolding ended engine_step
begins s slot d gone spent =
    ap (passed (settled s)) (due_settled s ∙ d)
    ∙ ap (λ b. cond b (record (settled s) { busy = true; spent = s.spent + 1 }) (settled s)) (passes_settled s slot gone spent)

state_spent : (p : PathState) (o : OrderState) (c : Context) → is_busy p ≡ false → (state_of p o c).spent ≡ 0
unfolding state_of
state_spent p o c idle = spent_none p idle

-- no block has moved
puts_none : (p : PathState) (j : Job) → puts_by p 0 j ≡ []
unfolding puts_of
puts_none p (Write sector blocks fill forced reliable high) = refl
puts_none p (Read sector blocks high) = refl
puts_none p Flush = refl
puts_none p Barrier = refl
puts_none p Status = refl

begun_state : (p : PathState) (o : OrderState) (c : Context) (engine : Holding) (ring : List Ringed) (status information index word : ℕ) (card : CardState) (script : Script)
    → is_busy p ≡ false
    → is_busy (path_with p engine (regs_with p.regs p.regs.stopped p.regs.interrupts ring status information index word) card script) ≡ true
    → moved (path_with p engine (regs_with p.regs p.regs.stopped p.regs.interrupts ring status information index word) card script) ≡ 0
    → card.store ≡ p.card.store → script.hits ≡ p.script.hits → script.ready ≡ p.script.ready → script.used ≡ p.script.used
    → tasks_of (path_with p engine (regs_with p.regs p.regs.stopped p.regs.interrupts ring status information index word) card script) ≡ tasks_of p
    → order_of ring ≡ order_of p.regs.ring → stop_of p ≡ stop.Running
    → stop_of (path_with p engine (regs_with p.regs p.regs.stopped p.regs.interrupts ring status information index word) card script) ≡ stop.Running
    → state_of (path_with p engine (regs_with p.regs p.regs.stopped p.regs.interrupts ring status information index word) card script) o c
    ≡ record (settled (state_of p o c)) { busy = true; spent = (state_of p o c).spent + 1 }
unfolding state_of data_of
begun_state p o c engine ring status information index word card script idle busy none store hits ready used tasks order was now =
    let q = path_with p engine (regs_with p.regs p.regs.stopped p.regs.interrupts ring status information index word) card script in
    let at : List Hit → List ℕ → ℕ → ℕ → List (Option Task) → List ℕ → Bool → ℕ → Stop → State =
    λ hits ready bars words slots order busy spent stop. record (state_of p o c) {
      faults = record { ready = ready; bus = hits; array = c.array; cuts = o.cuts; turns = o.turns };
      bars = bars;
      words = words;
      slots = slots;
      order = order;
      busy = busy;
      spent = spent;
      stop = stop;
    } in
    let before : List ℕ → List ℕ = λ xs. cond (is_recovering p.driver.recovery) [] xs in
    ap (λ x. at x script.ready card.store.cache.last script.used (tasks_of q) (before (order_of ring)) (is_busy q) (spent_of q) (stop_of q)) hits
    ∙ ap (λ x. at p.script.hits x card.store.cache.last script.used (tasks_of q) (before (order_of ring)) (is_busy q) (spent_of q) (stop_of q)) ready
    ∙ ap (λ (x : Store). at p.script.hits p.script.ready x.cache.last script.used (tasks_of q) (before (order_of ring)) (is_busy q) (spent_of q) (stop_of q)) store
    ∙ ap (λ x. at p.script.hits p.script.ready p.card.store.cache.last x (tasks_of q) (before (order_of ring)) (is_busy q) (spent_of q) (stop_of q)) used
    ∙ ap (λ x. at p.script.hits p.script.ready p.card.store.cache.last p.script.used x (before (order_of ring)) (is_busy q) (spent_of q) (stop_of q)) tasks
    ∙ ap (λ x. at p.script.hits p.script.ready p.card.store.cache.last p.script.used (tasks_of p) (before x) (is_busy q) (spent_of q) (stop_of q)) order
    ∙ ap (λ x. at p.script.hits p.script.ready p.card.store.cache.last p.script.used (tasks_of p) (before (order_of p.regs.ring)) x (cond x (moved q + 1) 0) (stop_of q)) busy
    ∙ ap (λ x. at p.script.hits p.script.ready p.card.store.cache.last p.script.used (tasks_of p) (before (order_of p.regs.ring)) true (x + 1) (stop_of q))
    (none ∙ sym (spent_none p idle))
    ∙ ap (λ x. at p.script.hits p.script.ready p.card.store.cache.last p.script.used (tasks_of p) (before (order_of p.regs.ring)) true (spent_of p + 1) x) (now ∙ sym was)

pub execute_tells : (p : PathState) (a : ArrayState) (p' : PathState) (a' : ArrayState) (did : Did) (phase : Option Phase) (e : EngineEvent p a p' a' did phase) (slot : ℕ)
    → e.event.acts.due ≡ Execute slot → AreTied p → StateLaws → TellsOf p a p' a' did phase
execute_tells p a p' a' did phase e slot is t laws =
    let f = facts p a p' a' did phase e (Execute slot) is in
    let r = running p (remembered p.engine.held p.regs) (Execute slot) t f.is_due (λ x. cc x) (λ x. cc x) in
    let n = is_executing p a p' a' did slot f t r in
    let first = execute_due (remembered p.engine.held p.regs) p.regs p.memory slot f.is_due in
    let desc = n.task.h.task.desc in
    let command : Command = execute_of slot desc in
    let script = armed p.script command (card_blocks p.card command) in
    let told_card = executed_card p slot n.task.h in
    let way = no_way_yet p (Execute slot) f.is_due refl in
    let idle = not_busy p way in
    let last = not_direct p slot t n.task.below in
    let blocks : card_blocks p.card command ≡ desc.blocks = ap (λ (o : Option Queued). option_map_or (λ x. x.task.blocks) o 0) n.queued in
    let due_is : (o : OrderState) (c : Context) → Agrees p a c → due (state_of p o c) ≡ machine.Execute slot =
    λ o c g. (laws.engine p o c t g.number).command (Execute slot) f.is_due in
    let hit_so : (o : OrderState) (c : Context) → Agrees p a c → hit (state_of p o c) ≡ hit_on (behind_path p a) command =
    λ o c g. hit_is p o c command (card_blocks p.card command) (machine.Execute slot) (laws.engine p o c t g.number) idle (due_is o c g)
    (λ kind. ap (λ b. meets (Some b) kind) (job_is p o c slot n.task.id f.slot.below n.task.is ∙ n.task.of.phase ∙ sym blocks)
    ∙ execute_meets desc.read slot (card_blocks p.card command) kind) in
    let stops : (o : OrderState) (c : Context) → Agrees p a c → is_poll (due (told (state_of p o c))) ≡ false =
    λ o c g. ap is_poll (due_told (state_of p o c) ∙ due_is o c g) in
    executing_cases (TellsOf p a) p a p' a' did phase e slot is t r n
    (λ lost x tq o c g.
    stop_tells p o a c (holding (remembered p.engine.held p.regs) (stopped_with p.regs (executed_error slot desc)) (stop_did Lost (Some slot)) p.engine) (executed_error slot desc)
    p.regs.response_index p.regs.response_argument (phase_left p.card false) (struck script) Lost slot n.task.id (phase_taken p.card false) (machine.Execute slot) t r way g tq
    refl refl refl refl refl refl n.task.is last refl refl (hit_so o c g ∙ lost) (due_is o c g) (on_tag p o c slot n.task.id f.slot.below n.task.is) refl)
    (λ silent x tq o c g.
    stop_tells p o a c (holding (remembered p.engine.held p.regs) (stopped_with p.regs (executed_error slot desc)) (stop_did NoResp (Some slot)) p.engine) (executed_error slot desc)
    p.regs.response_index p.regs.response_argument (phase_left told_card false) (struck script) NoResp slot n.task.id (phase_taken told_card false) (machine.Execute slot) t r way g tq
    refl refl refl refl refl refl n.task.is last refl refl (hit_so o c g ∙ silent) (due_is o c g) (on_tag p o c slot n.task.id f.slot.below n.task.is) (stops o c g))
    (λ good x tq o c g.
    let regs = executed_regs p slot desc in
    let engine = holding (remembered p.engine.held p.regs) regs (SentCommand command) p.engine in
    let q = path_with p engine regs told_card script in
    let on : under_way q ≡ Some slot = under p engine.cause slot n.task t r f.slot.below f.slot.is_at first n.queued x.ring (x.one t.one) in
    let none : moved q ≡ 0 = moved_is p engine.cause slot n.task t r f.slot.below f.slot.is_at first n.queued x.ring (x.one t.one) in
    let busy : is_busy q ≡ true = ap is_some on in
    let now = still_runs p engine (advanced p.regs.ring slot) regs.queue_status p.regs.error_information regs.response_index regs.response_argument told_card script r in
    let was = runs_stop p r in
    let gone : is_gone (hit (state_of p o c)) ≡ false = ap is_gone (hit_so o c g) ∙ good in
    let same_number : p.script.sent ≡ c.n = g.number ∙ ap (λ b. sent_of b c.n) idle in
    let same_standing : (tag : ℕ) → standing_of (progress_of (advanced p.regs.ring slot) tag) ≡ standing_of (progress_of p.regs.ring tag) =
    λ tag. elim (eqb_tells tag slot) [
      | inl same ↦
          ap (λ k. standing_of (progress_of (advanced p.regs.ring slot) k)) same.1 ∙ ap standing_of (is_active p.regs.ring slot f.slot.is_at)
          ∙ sym (ap (λ k. standing_of (progress_of p.regs.ring k)) same.1 ∙ ap standing_of f.slot.is_at)
      | inr apart ↦ ap standing_of (advanced-other p.regs.ring slot tag apart.1)
    ] in
    let tasks : tasks_of q ≡ tasks_of p =
    slots_same p q
    (λ tag low.
    ap (λ s. option_map (λ id. record { id = id; standing = cond (is_recovering p.driver.recovery) standing.Held (cond (is_done p tag) standing.Done s) }) (holder p tag))
    (same_standing tag)) in
    let no_marks : marks_moved q ≡ [] =
    ap (marks_moved_by q) on ∙ ap (λ o. option_map_or (λ id. puts_by q (moved q) (job p id)) o []) n.task.is ∙ ap (λ k. puts_by q k (job p n.task.id)) none
    ∙ puts_none q (job p n.task.id) in
    let same : contents_of p c ≡ contents_of q c =
    ap (λ w. contents_at c.base (c.pend ++ marks_moved_by p w)) way ∙ sym (ap (λ marks. contents_at c.base (c.pend ++ marks)) no_marks) in
    let S : Contents → Type 0 = λ k. StoreStands k p.card.store a in
    let D : Contents → Type 0 =
    λ k. (plan_of p).through ≡ false → c.staged ≡ false → c.kept ≡ false → length (places_of k.pend) < (plan_of p).lines
    → IfSome (shown_by a) (λ pages. pages ≡ c.base) in
    record {
      context = c;
      agrees = record {
        told = g.told;
        tied = tq;
        number = ap raised same_number ∙ sym (ap (λ b. sent_of b c.n) busy);
        named = named_same p engine regs told_card script c.named g.named was (λ id. ap (λ s. names s id) now);
        store = subst S same g.store;
        within = g.within;
        read = if_some_all (under_way q) (HasReadSoFar q c)
            (λ tag. if_some_all (holder p tag) _ (λ id read k low. absurd (omega (arith, low, none))));
        few = g.few;
        deferred = subst D same g.deferred;
      };
      happens =
          no_line (state_of p o c) (state_of q o c) (state_free p o c) (state_untold p o c)
          (may_begin (state_of p o c) slot (due_is o c g) gone (state_spent p o c idle))
          (begun_state p o c engine (advanced p.regs.ring slot) regs.queue_status p.regs.error_information regs.response_index regs.response_argument told_card script
          idle busy none refl refl refl refl tasks (order_advanced p.regs.ring slot) was now
          ∙ sym (begins (state_of p o c) slot (due_is o c g) gone (state_spent p o c idle)));
    })
