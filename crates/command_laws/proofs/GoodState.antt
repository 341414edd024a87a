-- The machine's state after a command that was answered, where no data phase begins.
use Rattle.std.proofs.Common.{◌≡◌, ◌==◌, ◌+◌, ◌<◌, ◌≤◌, ℕ, Bool, true, false, cond, refl, sym, ◌∙◌, ap, arith}
use Rattle.std.specs.Prelude.{nat_le, ◌&&◌, List, [], Option, Some, None}
use Rattle.std.proofs.lemmas.Bool.{eq-eqb}
use Rattle.std.proofs.lemmas.Bool.Decides.{nat_tests}
use Rattle.bus_link.specs.Hits.{befalls, is_execute}
use Rattle.bus_link.specs.Script.{Script}
use Rattle.card_core.specs.Card.{CardState}
use Rattle.card_core.specs.declared.phase.TheConstants.{DIRECT_TASK}
use Rattle.card_store.specs.Store.{Store}
use Rattle.cmd_words.specs.declared.command.Command.{Command}
use Rattle.cq_engine.specs.Outcome.{Holding}
use Rattle.cq_regs.specs.declared.slots.Ringed.{Ringed}
use Rattle.cq_schedule.specs.Order.{order_of}
use Rattle.cut_order.specs.Order.{OrderState}
use Rattle.drv_core.specs.State.{is_recovering}
use Rattle.storage_machine.specs.Commands.{id_on, meets}
use Rattle.storage_machine.specs.declared.state.State.{State}
use Rattle.storage_machine.specs.declared.state.Stop.{Stop}
use Rattle.storage_machine.specs.declared.state.Stop.TheVariants as stop
use Rattle.storage_machine.specs.declared.state.Task.{Task}
use Rattle.storage_model.specs.declared.faults.BusKind.{BusKind}
use Rattle.storage_model.specs.declared.faults.BusKind.TheVariants.{Bad, Late, Lost, NoResp}
use Rattle.storage_model.specs.declared.faults.Hit.{Hit}
use Rattle.world_state.specs.Path.{PathState, holder, is_busy, moved, plan_of}
use Rattle.world_state.specs.Reading.{Context, data_of, spent_of, state_of, stop_by, stop_of, tasks_of}
use Rattle.world_state.specs.Ties.{AreTied}
use Rattle.command_laws.proofs.Agreeing.{context_with}
use Rattle.command_laws.proofs.Parts.{path_with}
use Rattle.command_laws.proofs.Printed.{told}
use Rattle.command_laws.proofs.Running.{IsRunning}
use Rattle.command_laws.proofs.Slotted.{id_is}
use Rattle.command_laws.proofs.TiesOn.{regs_with}

-- the request on a tag
pub on_tag : (p : PathState) (o : OrderState) (c : Context) (slot id : ℕ) → slot < 32 → holder p slot ≡ Some id
    → (id_on (told (state_of p o c)) slot == id) ≡ true
unfolding state_of
on_tag p o c slot id below is = eq-eqb (id_on (told (state_of p o c)) slot) id (id_is p slot id below is)

-- a tag below the depth is not that of direct commands
not_last : (slot depth : ℕ) → slot < depth → depth ≤ 31 → (slot == 31) ≡ false
not_last slot depth below most = grind (arith, nat_tests)

pub not_direct : (p : PathState) (slot : ℕ) → AreTied p → slot < (plan_of p).depth → (slot == DIRECT_TASK) ≡ false
not_direct p slot t below = not_last slot (plan_of p).depth below t.sound.plan.depth.1

-- a command that moves no data is lost, or gets no response
pub plain_meets : (command : Command) (blocks : ℕ) → is_execute command ≡ false → (kind : BusKind) → meets None kind ≡ befalls kind command blocks
plain_meets command blocks e Lost = refl
plain_meets command blocks e NoResp = refl
plain_meets command blocks e (Bad block) = sym (ap (λ b. b && nat_le block blocks) e)
plain_meets command blocks e Late = sym e

-- the engine still runs
pub still_runs : (p : PathState) (engine : Holding) (ring : List Ringed) (status information index word : ℕ) (card : CardState) (script : Script) → IsRunning p
    → stop_of (path_with p engine (regs_with p.regs p.regs.stopped p.regs.interrupts ring status information index word) card script) ≡ stop.Running
still_runs p engine ring status information index word card script r =
    let q = path_with p engine (regs_with p.regs p.regs.stopped p.regs.interrupts ring status information index word) card script in
    ap (λ state. cond (is_recovering state) stop.Running (cond p.regs.stopped (stop_by q engine.cause) stop.Running)) r.calm
    ∙ ap (λ b. cond b (stop_by q engine.cause) stop.Running) r.on

pub good_state : (p : PathState) (o : OrderState) (c : Context) (engine : Holding) (ring : List Ringed) (status information index word : ℕ) (card : CardState) (script : Script)
    (n : ℕ) (slots : List (Option Task)) (words : ℕ) → is_busy p ≡ false
    → is_busy (path_with p engine (regs_with p.regs p.regs.stopped p.regs.interrupts ring status information index word) card script) ≡ false
    → card.store ≡ p.card.store → script.hits ≡ p.script.hits → script.ready ≡ p.script.ready → script.used ≡ words
    → tasks_of (path_with p engine (regs_with p.regs p.regs.stopped p.regs.interrupts ring status information index word) card script) ≡ slots
    → order_of ring ≡ order_of p.regs.ring
    → stop_of p ≡ stop.Running
    → stop_of (path_with p engine (regs_with p.regs p.regs.stopped p.regs.interrupts ring status information index word) card script) ≡ stop.Running
    → state_of (path_with p engine (regs_with p.regs p.regs.stopped p.regs.interrupts ring status information index word) card script) o (context_with c n c.named)
    ≡ record (state_of p o c) { n = n; slots = slots; words = words }
unfolding state_of data_of
good_state p o c engine ring status information index word card script n slots words idle calm store hits ready used tasks order was now =
    let q = path_with p engine (regs_with p.regs p.regs.stopped p.regs.interrupts ring status information index word) card script in
    let at : List Hit → List ℕ → ℕ → ℕ → List (Option Task) → List ℕ → Bool → ℕ → Stop → State =
    λ hits ready bars words slots order busy spent stop. record (state_of p o c) {
      faults = record { ready = ready; bus = hits; array = c.array; cuts = o.cuts; turns = o.turns };
      n = n;
      bars = bars;
      words = words;
      slots = slots;
      order = order;
      busy = busy;
      spent = spent;
      stop = stop;
    } in
    let before : List ℕ → List ℕ = λ xs. cond (is_recovering p.driver.recovery) [] xs in
    ap (λ x. at x script.ready card.store.cache.last script.used (tasks_of q) (before (order_of ring)) (is_busy q) (spent_of q) (stop_of q)) hits
    ∙ ap (λ x. at p.script.hits x card.store.cache.last script.used (tasks_of q) (before (order_of ring)) (is_busy q) (spent_of q) (stop_of q)) ready
    ∙ ap (λ (x : Store). at p.script.hits p.script.ready x.cache.last script.used (tasks_of q) (before (order_of ring)) (is_busy q) (spent_of q) (stop_of q)) store
    ∙ ap (λ x. at p.script.hits p.script.ready p.card.store.cache.last x (tasks_of q) (before (order_of ring)) (is_busy q) (spent_of q) (stop_of q)) used
    ∙ ap (λ x. at p.script.hits p.script.ready p.card.store.cache.last words x (before (order_of ring)) (is_busy q) (spent_of q) (stop_of q)) tasks
    ∙ ap (λ x. at p.script.hits p.script.ready p.card.store.cache.last words slots (before x) (is_busy q) (spent_of q) (stop_of q)) order
    ∙ ap (λ x. at p.script.hits p.script.ready p.card.store.cache.last words slots (before (order_of p.regs.ring)) x (cond x (moved q + 1) 0) (stop_of q)) (calm ∙ sym idle)
    ∙ ap (λ x. at p.script.hits p.script.ready p.card.store.cache.last words slots (before (order_of p.regs.ring)) (is_busy p) x (stop_of q))
    (ap (λ b. cond b (moved q + 1) 0) idle ∙ sym (ap (λ b. cond b (moved p + 1) 0) idle))
    ∙ ap (λ x. at p.script.hits p.script.ready p.card.store.cache.last words slots (before (order_of p.regs.ring)) (is_busy p) (spent_of p) x) (now ∙ sym was)
