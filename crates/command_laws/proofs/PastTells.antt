-- What CMD45 tells of a task that ends past the last sector: its line, and the engine stops for the response.
use Rattle.std.proofs.Common.{◌≡◌, ℕ, Bool, true, false, cond, refl, sym, ◌∙◌, ap, subst}
use Rattle.std.specs.Prelude.{List, [], ◌∷◌, Option, Some, unwrap_or}
use Rattle.array_edge.specs.Array.{ArrayState}
use Rattle.bus_link.specs.Hits.{raised}
use Rattle.bus_link.specs.Script.{Script, armed, struck}
use Rattle.bus_link.specs.declared.link.Cause.TheVariants.{Response}
use Rattle.card_core.specs.Card.{CardState, blocks_of as card_blocks}
use Rattle.card_core.specs.declared.phase.Phase.{Phase}
use Rattle.card_link.specs.Made.{hit_on}
use Rattle.card_store.specs.Store.{Store}
use Rattle.cmd_words.specs.declared.command.Command.{Command}
use Rattle.cmd_words.specs.declared.command.Command.TheVariants.{Address as StartSector}
use Rattle.cq_engine.specs.Outcome.{Holding, stopped_with}
use Rattle.cq_engine.specs.declared.did.Did.{Did}
use Rattle.cq_engine.specs.declared.did.Did.TheVariants.{Stopped}
use Rattle.cq_regs.specs.Slots.{has_bit}
use Rattle.cq_schedule.specs.Held.{remembered}
use Rattle.cq_schedule.specs.declared.rules.Due.TheVariants.{Address}
use Rattle.cut_order.specs.Order.{OrderState}
use Rattle.drv_core.specs.Judge.{error_of}
use Rattle.drv_core.specs.State.{is_recovering}
use Rattle.storage_machine.specs.Commands.{due, hit, is_gone}
use Rattle.storage_machine.specs.declared.commands.DueCommand.TheVariants as machine
use Rattle.storage_machine.specs.declared.state.Owed.TheVariants.{Nothing}
use Rattle.storage_machine.specs.declared.state.State.{State}
use Rattle.storage_machine.specs.declared.state.Stop.{Stop}
use Rattle.storage_machine.specs.declared.state.Stop.TheVariants as stop
use Rattle.storage_model.specs.declared.faults.BusKind.TheVariants.{Lost, NoResp}
use Rattle.storage_model.specs.declared.faults.Hit.{Hit}
use Rattle.storage_model.specs.declared.faults.Letter.TheVariants.{Engine as EngineActs}
use Rattle.storage_model.specs.declared.trace.Item.{Item}
use Rattle.storage_model.specs.declared.trace.Item.TheVariants.{Address as AddressLine}
use Rattle.storage_order.specs.Events.{closed, is_over, is_untold}
use Rattle.trace_effects.specs.Effects.{addressed, over}
use Rattle.trace_rules.specs.Lines.{is_poll}
use Rattle.world_state.specs.Engine.{EngineEvent, phase_left, phase_taken}
use Rattle.world_state.specs.Laws.{StateLaws}
use Rattle.world_state.specs.Path.{PathState, behind_path, is_busy}
use Rattle.world_state.specs.Reading.{Context, data_of, is_free, notice_of, spent_of, state_of, stop_by, stop_by_word, stop_of, tasks_of}
use Rattle.world_state.specs.Stands.{Agrees, names}
use Rattle.world_state.specs.Ties.{AreTied}
use Rattle.world_state.specs.Told.{Told}
use Rattle.command_laws.proofs.Agreeing.{agrees_on, context_with, named_same}
use Rattle.command_laws.proofs.Cases.{stop_did}
use Rattle.command_laws.proofs.GoodState.{not_direct, on_tag, plain_meets}
use Rattle.command_laws.proofs.Idled.{hit_is, no_way_yet, not_busy}
use Rattle.command_laws.proofs.NamingTells.{TellsOf}
use Rattle.command_laws.proofs.Parts.{facts, holding, path_with}
use Rattle.command_laws.proofs.Printed.{due_told, one_line, told}
use Rattle.command_laws.proofs.Running.{IsRunning}
use Rattle.command_laws.proofs.Sending.{IsSending, is_past, past_card, past_cases, past_regs, past_word, sent_error, sent_index}
use Rattle.command_laws.proofs.SendingTells.{address_by, address_so, range_is}
use Rattle.command_laws.proofs.StopLines.{spent_none}
use Rattle.command_laws.proofs.StopTells.{number_is, runs_stop, state_free, state_untold, stop_tells}
use Rattle.command_laws.proofs.Stops.{interrupts_same, stop_regs}

range_state : (p : PathState) (o : OrderState) (c : Context) (engine : Holding) (information index word : ℕ) (card : CardState) (script : Script) (n id : ℕ)
    → AreTied p → is_busy p ≡ false → card.store ≡ p.card.store → script.hits ≡ p.script.hits → script.ready ≡ p.script.ready → script.used ≡ p.script.used
    → stop_of (path_with p engine (stop_regs p information index word) card script) ≡ stop.Range id
    → state_of (path_with p engine (stop_regs p information index word) card script) o (context_with c n c.named)
    ≡ over (addressed (record (told (state_of p o c)) { n = n }) id false) Nothing
unfolding state_of tasks_of data_of
range_state p o c engine information index word card script n id t idle store hits ready used now =
    let q = path_with p engine (stop_regs p information index word) card script in
    let at : List Hit → List ℕ → ℕ → ℕ → Bool → Bool → ℕ → Stop → State =
    λ hits ready bars words notice busy spent stop. record (state_of p o c) {
      faults = record { ready = ready; bus = hits; array = c.array; cuts = o.cuts; turns = o.turns };
      n = n;
      bars = bars;
      words = words;
      notice = notice;
      busy = busy;
      spent = spent;
      stop = stop;
    } in
    let notice : notice_of q ≡ notice_of p = ap (λ word. cond (is_free p.driver.recovery) false (has_bit word 1)) (interrupts_same p t) in
    ap (λ x. at x script.ready card.store.cache.last script.used (notice_of q) false 0 (stop_of q)) hits
    ∙ ap (λ x. at p.script.hits x card.store.cache.last script.used (notice_of q) false 0 (stop_of q)) ready
    ∙ ap (λ (x : Store). at p.script.hits p.script.ready x.cache.last script.used (notice_of q) false 0 (stop_of q)) store
    ∙ ap (λ x. at p.script.hits p.script.ready p.card.store.cache.last x (notice_of q) false 0 (stop_of q)) used
    ∙ ap (λ x. at p.script.hits p.script.ready p.card.store.cache.last p.script.used x false 0 (stop_of q)) notice
    ∙ ap (λ x. at p.script.hits p.script.ready p.card.store.cache.last p.script.used (notice_of p) x 0 (stop_of q)) (sym idle)
    ∙ ap (λ x. at p.script.hits p.script.ready p.card.store.cache.last p.script.used (notice_of p) (is_busy p) x (stop_of q)) (sym (spent_none p idle))
    ∙ ap (λ x. at p.script.hits p.script.ready p.card.store.cache.last p.script.used (notice_of p) (is_busy p) (spent_of p) x) now

pub past_tells : (p : PathState) (a : ArrayState) (p' : PathState) (a' : ArrayState) (did : Did) (phase : Option Phase) (e : EngineEvent p a p' a' did phase) (slot : ℕ)
    → (is : e.event.acts.due ≡ Address slot) → AreTied p → IsRunning p → StateLaws
    → (n : IsSending p a p' a' did slot (facts p a p' a' did phase e (Address slot) is)) → is_past p n.task.h.task.desc ≡ true → TellsOf p a p' a' did phase
past_tells p a p' a' did phase e slot is t r laws n far =
    let f = facts p a p' a' did phase e (Address slot) is in
    let desc = n.task.h.task.desc in
    let command : Command = StartSector desc.start in
    let script = armed p.script command (card_blocks p.card command) in
    let told_card = past_card p in
    let way = no_way_yet p (Address slot) f.is_due refl in
    let idle = not_busy p way in
    let last = not_direct p slot t n.task.below in
    let due_is : (o : OrderState) (c : Context) → Agrees p a c → due (state_of p o c) ≡ machine.Address slot =
    λ o c g. (laws.engine p o c t g.number).command (Address slot) f.is_due in
    let hit_so : (o : OrderState) (c : Context) → Agrees p a c → hit (state_of p o c) ≡ hit_on (behind_path p a) command =
    λ o c g. hit_is p o c command (card_blocks p.card command) (machine.Address slot) (laws.engine p o c t g.number) idle (due_is o c g)
    (plain_meets command (card_blocks p.card command) refl) in
    let stops : (o : OrderState) (c : Context) → Agrees p a c → is_poll (due (told (state_of p o c))) ≡ false =
    λ o c g. ap is_poll (due_told (state_of p o c) ∙ due_is o c g) in
    past_cases (TellsOf p a) p a p' a' did phase e slot is t n far
    (λ lost x tq o c g.
    stop_tells p o a c (holding (remembered p.engine.held p.regs) (stopped_with p.regs (sent_error slot desc)) (stop_did Lost (Some slot)) p.engine) (sent_error slot desc)
    p.regs.response_index p.regs.response_argument (phase_left p.card false) (struck script) Lost slot n.task.id (phase_taken p.card false) (machine.Address slot) t r way g tq
    refl refl refl refl refl refl n.task.is last refl refl (hit_so o c g ∙ lost) (due_is o c g) (on_tag p o c slot n.task.id f.slot.below n.task.is) refl)
    (λ silent x tq o c g.
    stop_tells p o a c (holding (remembered p.engine.held p.regs) (stopped_with p.regs (sent_error slot desc)) (stop_did NoResp (Some slot)) p.engine) (sent_error slot desc)
    p.regs.response_index p.regs.response_argument (phase_left told_card false) (struck script) NoResp slot n.task.id (phase_taken told_card false) (machine.Address slot) t r way g tq
    refl refl refl refl refl refl n.task.is last refl refl (hit_so o c g ∙ silent) (due_is o c g) (on_tag p o c slot n.task.id f.slot.below n.task.is) (stops o c g))
    (λ good x tq o c g.
    let d = Stopped (Response past_word slot) in
    let engine = holding (remembered p.engine.held p.regs) (past_regs p slot desc) d p.engine in
    let regs = stop_regs p (sent_error slot desc) (sent_index desc) past_word in
    let card = phase_left told_card false in
    let q = path_with p engine regs card script in
    let number : ℕ = raised p.script.sent in
    let was = runs_stop p r in
    let now : stop_of q ≡ stop.Range n.task.id =
    ap (λ state. cond (is_recovering state) stop.Running (stop_by q engine.cause)) r.calm ∙ ap (λ o. stop_by_word (error_of past_word) o) n.task.is in
    let line : Item = AddressLine number n.task.id in
    let P : List Item → Type 0 = λ items. Told EngineActs (state_of p o c) items q o a in
    let after = address_by (told (state_of p o c)) number n.task.id false (range_is p o a c number slot n.task true g far) in
    subst P (sym (ap (λ o. AddressLine number (unwrap_or o 0) ∷ []) n.task.is))
    (record {
      context = context_with c number c.named;
      agrees =
          agrees_on p engine regs card script a c number c.named g tq way refl refl refl
          (named_same p engine regs card script c.named g.named was (λ id. ap (λ s. names s id) now));
      happens =
          one_line (state_of p o c) line (state_of q o (context_with c number c.named)) (state_free p o c) (state_untold p o c)
          (address_so (state_of p o c) number n.task.id slot (number_is p o a c g idle) (ap is_gone (hit_so o c g) ∙ good) (due_is o c g)
          (on_tag p o c slot n.task.id f.slot.below n.task.is)) refl refl refl (ap (λ (s : State). is_over s.owed) after) (ap (λ (s : State). is_untold s.event) after)
          (range_state p o c engine (sent_error slot desc) (sent_index desc) past_word card script number n.task.id t idle refl refl refl refl now
          ∙ sym (ap (λ (s : State). record s { owed = closed s.owed }) after));
    }))
