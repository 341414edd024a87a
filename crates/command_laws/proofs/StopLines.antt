-- The line of a command that a fault of the bus stopped.
use Rattle.std.proofs.Common.{◌≡◌, ◌+◌, ℕ, Bool, true, false, cond, sym, ◌∙◌, ap}
use Rattle.std.specs.Prelude.{List, Option}
use Rattle.bus_link.specs.Script.{Script}
use Rattle.card_core.specs.Card.{CardState}
use Rattle.cq_engine.specs.Outcome.{Holding}
use Rattle.cq_regs.specs.Slots.{has_bit}
use Rattle.cut_order.specs.Order.{OrderState}
use Rattle.storage_machine.specs.Commands.{is_calm}
use Rattle.storage_machine.specs.declared.state.State.{State}
use Rattle.storage_machine.specs.declared.state.Stop.{Stop}
use Rattle.storage_machine.specs.declared.state.Stop.TheVariants as stop
use Rattle.card_store.specs.Store.{Store}
use Rattle.storage_model.specs.declared.faults.BusKind.{BusKind}
use Rattle.storage_model.specs.declared.faults.Hit.{Hit}
use Rattle.storage_model.specs.declared.trace.Item.TheVariants.{Bus as BusLine}
use Rattle.storage_order.specs.Events.{closed}
use Rattle.trace_effects.specs.Effects.{after_bus, effect, named_more, uses_word, words_used}
use Rattle.world_state.specs.Path.{PathState, is_busy, moved}
use Rattle.world_state.specs.Reading.{Context, data_of, is_free, notice_of, recovery_of, spent_of, state_of, stop_of, tasks_of}
use Rattle.world_state.specs.Ties.{AreTied}
use Rattle.command_laws.proofs.Agreeing.{context_with}
use Rattle.command_laws.proofs.Parts.{path_with}
use Rattle.command_laws.proofs.Printed.{told}
use Rattle.command_laws.proofs.Stops.{interrupts_same, stop_regs}
use Rattle.command_laws.proofs.TiesOn.{IsCalm}

pub calm_is : (p : PathState) → IsCalm p → is_calm (recovery_of p.driver.recovery) ≡ true
calm_is p e = ap (λ state. is_calm (recovery_of state)) e

-- where no phase is under way, the machine isn't busy
pub spent_none : (p : PathState) → is_busy p ≡ false → spent_of p ≡ 0
spent_none p e = ap (λ b. cond b (moved p + 1) 0) e

-- the engine stopped in the machine's state too
pub stop_state : (p : PathState) (o : OrderState) (c : Context) (engine : Holding) (information index word : ℕ) (card : CardState) (script : Script)
    (n : ℕ) (kind : BusKind) (who : Option ℕ) → AreTied p → IsCalm p → is_busy p ≡ false → card.store ≡ p.card.store
    → script.hits ≡ p.script.hits → script.ready ≡ p.script.ready
    → stop_of (path_with p engine (stop_regs p information index word) card script) ≡ stop.Bus who
    → script.used ≡ cond (uses_word (told (state_of p o c)) kind) (words_used (told (state_of p o c))) p.script.used
    → state_of (path_with p engine (stop_regs p information index word) card script) o (context_with c n (named_more c.named who))
    ≡ record (effect (told (state_of p o c)) (BusLine n kind who)) { owed = closed (effect (told (state_of p o c)) (BusLine n kind who)).owed }
unfolding state_of effect after_bus tasks_of data_of
stop_state p o c engine information index word card script n kind who t calm idle store hits ready now used =
    let q = path_with p engine (stop_regs p information index word) card script in
    let at : List Hit → List ℕ → ℕ → ℕ → Bool → Bool → ℕ → Stop → State =
    λ hits ready bars words notice busy spent stop. record (state_of p o c) {
      faults = record { ready = ready; bus = hits; array = c.array; cuts = o.cuts; turns = o.turns };
      n = n;
      named = named_more c.named who;
      bars = bars;
      words = words;
      notice = notice;
      busy = busy;
      spent = spent;
      stop = stop;
    } in
    let notice : notice_of q ≡ notice_of p = ap (λ word. cond (is_free p.driver.recovery) false (has_bit word 1)) (interrupts_same p t) in
    ap (λ x. at x script.ready card.store.cache.last script.used (notice_of q) false 0 (stop_of q)) hits
    ∙ ap (λ x. at p.script.hits x card.store.cache.last script.used (notice_of q) false 0 (stop_of q)) ready
    ∙ ap (λ (x : Store). at p.script.hits p.script.ready x.cache.last script.used (notice_of q) false 0 (stop_of q)) store
    ∙ ap (λ x. at p.script.hits p.script.ready p.card.store.cache.last x (notice_of q) false 0 (stop_of q)) used
    ∙ ap (λ x. at p.script.hits p.script.ready p.card.store.cache.last (cond (uses_word (told (state_of p o c)) kind) (words_used (told (state_of p o c))) p.script.used) x false 0 (stop_of q)) notice
    ∙ ap (λ x. at p.script.hits p.script.ready p.card.store.cache.last (cond (uses_word (told (state_of p o c)) kind) (words_used (told (state_of p o c))) p.script.used) (notice_of p) x 0 (stop_of q)) (sym idle)
    ∙ ap (λ x. at p.script.hits p.script.ready p.card.store.cache.last (cond (uses_word (told (state_of p o c)) kind) (words_used (told (state_of p o c))) p.script.used) (notice_of p) (is_busy p) x (stop_of q)) (sym (spent_none p idle))
    ∙ ap (λ x. at p.script.hits p.script.ready p.card.store.cache.last (cond (uses_word (told (state_of p o c)) kind) (words_used (told (state_of p o c))) p.script.used) (notice_of p) (is_busy p) (spent_of p) x)
    (now ∙ sym (ap (λ b. cond b (stop.Bus who) (stop_of p)) (calm_is p calm)))
