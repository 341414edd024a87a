-- What CMD44 tells: the line of the command, or of the fault of the bus that befell it.
use Rattle.std.proofs.Common.{◌≡◌, ◌≢◌, ◌==◌, ℕ, Bool, true, false, cond, refl, sym, ◌∙◌, ap, subst}
use Rattle.std.specs.Prelude.{◌&&◌, not, List, [], ◌∷◌, Option, Some, None, is_some, unwrap_or}
use Rattle.array_edge.specs.Array.{ArrayState}
use Rattle.bus_link.specs.Hits.{raised}
use Rattle.bus_link.specs.Script.{armed, struck}
use Rattle.card_core.specs.Card.{blocks_of as card_blocks}
use Rattle.card_core.specs.declared.phase.Phase.{Phase}
use Rattle.card_link.specs.Made.{hit_on}
use Rattle.cmd_words.specs.declared.command.Command.{Command}
use Rattle.cq_engine.specs.Outcome.{stopped_with}
use Rattle.cq_engine.specs.Words.{params_of}
use Rattle.cq_engine.specs.declared.did.Did.{Did}
use Rattle.cq_engine.specs.declared.did.Did.TheVariants.{Sent as SentCommand}
use Rattle.cq_engine.proofs.SlotLaws.{advanced-other}
use Rattle.cq_regs.specs.Slots.{advanced, is_rung, progress_of}
use Rattle.cq_regs.specs.declared.slots.Progress.{Progress}
use Rattle.cq_regs.specs.declared.slots.Progress.TheVariants.{Named}
use Rattle.cq_schedule.specs.Held.{remembered}
use Rattle.cq_schedule.specs.declared.rules.Due.TheVariants.{Serve}
use Rattle.cut_order.specs.Order.{OrderState}
use Rattle.drv_core.specs.State.{is_recovering}
use Rattle.storage_machine.specs.Commands.{due, hit, id_on, is_gone, next_number}
use Rattle.storage_machine.specs.Slots.{changed_slots}
use Rattle.storage_machine.specs.declared.commands.DueCommand.TheVariants as machine
use Rattle.storage_machine.specs.declared.slots.Change.TheVariants.{Move}
use Rattle.storage_machine.specs.declared.state.Standing.TheVariants as standing
use Rattle.storage_machine.specs.declared.state.State.{State}
use Rattle.storage_model.specs.declared.faults.BusKind.TheVariants.{Lost, NoResp}
use Rattle.storage_model.specs.declared.faults.Letter.TheVariants.{Engine as EngineActs}
use Rattle.storage_model.specs.declared.trace.Item.{Item}
use Rattle.storage_model.specs.declared.trace.Item.TheVariants.{Params as ParamsLine}
use Rattle.storage_order.specs.Events.{closed, is_over, is_untold}
use Rattle.trace_effects.specs.Effects.{after_params, effect}
use Rattle.trace_rules.specs.Lines.{holds, is_heard, is_params, is_poll, params_holds}
use Rattle.world_state.specs.Engine.{EngineEvent, engine_lines, phase_left, phase_taken}
use Rattle.world_state.specs.Laws.{StateLaws, served_by}
use Rattle.world_state.specs.Path.{PathState, behind_path, under_way}
use Rattle.world_state.specs.Reading.{Context, is_done, standing_at, standing_of, state_of, tasks_of}
use Rattle.world_state.specs.Stands.{Agrees, names}
use Rattle.world_state.specs.Steps.{is_of_phase}
use Rattle.world_state.specs.Ties.{AreTied, IsIssued}
use Rattle.world_state.specs.Told.{Told}
use Rattle.command_laws.proofs.Agreeing.{agrees_on, context_with, named_same}
use Rattle.command_laws.proofs.Cases.{stop_did}
use Rattle.command_laws.proofs.GoodState.{good_state, not_direct, on_tag, plain_meets, still_runs}
use Rattle.command_laws.proofs.Idled.{hit_is, no_way_yet, not_busy}
use Rattle.command_laws.proofs.Naming.{is_naming, is_named, named_card, named_error, named_held, named_regs, naming_cases, naming_idle}
use Rattle.command_laws.proofs.Onwards.{no_way}
use Rattle.command_laws.proofs.Parts.{facts, holding, path_with}
use Rattle.command_laws.proofs.Printed.{due_told, hit_told, one_line, told}
use Rattle.command_laws.proofs.Rings.{order_advanced}
use Rattle.command_laws.proofs.Running.{IsRunning, running}
use Rattle.command_laws.proofs.Slotted.{slots_moved}
use Rattle.command_laws.proofs.StopTells.{number_is, runs_stop, state_free, state_untold, stop_tells}

-- what an event tells, once its ties hold
abbrev pub TellsOf : PathState → ArrayState → PathState → ArrayState → Did → Option Phase → Type 0
TellsOf p a q a' d phase =
    AreTied q → (o : OrderState) (c : Context) → Agrees p a c → Told EngineActs (state_of p o c) (engine_lines p q d phase) q o a'

-- a tag that is rung isn't done; it stands as far as its slot is
pub stands_by : (p : PathState) (tag : ℕ) (progress : Progress) → IsRunning p → is_done p tag ≡ false → progress_of p.regs.ring tag ≡ progress
    → standing_at p tag ≡ standing_of progress
stands_by p tag progress r done e =
    ap (λ state. cond (is_recovering state) standing.Held (cond (is_done p tag) standing.Done (standing_of (progress_of p.regs.ring tag)))) r.calm
    ∙ ap (λ b. cond b standing.Done (standing_of (progress_of p.regs.ring tag))) done ∙ ap standing_of e

not_done : (b : Bool) → true ≡ not b → b ≡ false
not_done true e = e
not_done false e = refl

pub undone : (p : PathState) (tag id : ℕ) → IsIssued p tag id → is_rung (progress_of p.regs.ring tag) ≡ true → is_done p tag ≡ false
undone p tag id i rung = not_done (is_done p tag) (sym rung ∙ i.rung)

pub heard_so : (s : State) (n : ℕ) → (n == next_number (told s)) ≡ true → is_gone (hit s) ≡ false → is_heard (told s) n ≡ true
heard_so s n number gone =
    ap (λ b. b && not (is_gone (hit (told s)))) number ∙ ap (λ h. not (is_gone h)) (hit_told s) ∙ ap not gone

pub both : (a b : Bool) → a ≡ true → b ≡ true → (a && b) ≡ true
both a b e f = ap (λ x. x && b) e ∙ f

params_so : (s : State) (n id slot : ℕ) → (n == next_number (told s)) ≡ true → is_gone (hit s) ≡ false → due s ≡ machine.Params slot
    → (id_on (told s) slot == id) ≡ true → holds (told s) (ParamsLine n id) ≡ true
unfolding holds params_holds
params_so s n id slot number gone d on =
    both (is_heard (told s) n) (is_params (told s) id (due (told s))) (heard_so s n number gone) (ap (is_params (told s) id) (due_told s ∙ d) ∙ on)

params_over : (s : State) (n id : ℕ)
    → (is_over (effect s (ParamsLine n id)).owed ≡ true) × (is_untold (effect s (ParamsLine n id)).event ≡ true)
unfolding effect after_params
params_over s n id = (refl, refl)

params_state : (p : PathState) (o : OrderState) (c : Context) (n id : ℕ)
    → record (state_of p o c) { n = n; slots = changed_slots (Move id standing.Named) (tasks_of p); words = p.script.used }
    ≡ record (effect (told (state_of p o c)) (ParamsLine n id)) { owed = closed (effect (told (state_of p o c)) (ParamsLine n id)).owed }
unfolding state_of effect after_params
params_state p o c n id = refl

pub serve_tells : (p : PathState) (a : ArrayState) (p' : PathState) (a' : ArrayState) (did : Did) (phase : Option Phase) (e : EngineEvent p a p' a' did phase) (slot : ℕ)
    → e.event.acts.due ≡ Serve slot → is_of_phase p (Serve slot) ≡ false → AreTied p → StateLaws → TellsOf p a p' a' did phase
serve_tells p a p' a' did phase e slot is not_phase t laws =
    let f = facts p a p' a' did phase e (Serve slot) is in
    let r = running p (remembered p.engine.held p.regs) (Serve slot) t f.is_due (λ x. cc x) (λ x. cc x) in
    let n = is_naming p a p' a' did slot f t r not_phase in
    let command : Command = params_of slot n.task.desc in
    let script = armed p.script command (card_blocks p.card command) in
    let told_card = named_card p slot n.task in
    let way = no_way_yet p (Serve slot) f.is_due refl in
    let idle = not_busy p way in
    let last = not_direct p slot t n.below in
    let i_issued : IsIssued p slot n.id = n.issued in
    let due_is : (o : OrderState) (c : Context) → Agrees p a c → due (state_of p o c) ≡ machine.Params slot =
    λ o c g. (laws.engine p o c t g.number).command (Serve slot) f.is_due ∙ ap (served_by p slot) n.is
    ∙ ap (λ b. cond b (machine.Direct slot) (machine.Params slot)) n.of.direct in
    let hit_so : (o : OrderState) (c : Context) → Agrees p a c → hit (state_of p o c) ≡ hit_on (behind_path p a) command =
    λ o c g. hit_is p o c command (card_blocks p.card command) (machine.Params slot) (laws.engine p o c t g.number) idle (due_is o c g)
    (plain_meets command (card_blocks p.card command) refl) in
    let stops : (o : OrderState) (c : Context) → Agrees p a c → is_poll (due (told (state_of p o c))) ≡ false =
    λ o c g. ap is_poll (due_told (state_of p o c) ∙ due_is o c g) in
    naming_cases (TellsOf p a) p a p' a' did phase e slot is t r n
    (λ lost x tq o c g.
    stop_tells p o a c (holding (remembered p.engine.held p.regs) (stopped_with p.regs (named_error slot n.task)) (stop_did Lost (Some slot)) p.engine) (named_error slot n.task)
    p.regs.response_index p.regs.response_argument (phase_left p.card false) (struck script) Lost slot n.id (phase_taken p.card false) (machine.Params slot) t r way g tq
    refl refl refl refl refl refl n.is last refl refl (hit_so o c g ∙ lost) (due_is o c g) (on_tag p o c slot n.id f.slot.0 n.is) refl)
    (λ silent x tq o c g.
    stop_tells p o a c (holding (remembered p.engine.held p.regs) (stopped_with p.regs (named_error slot n.task)) (stop_did NoResp (Some slot)) p.engine) (named_error slot n.task)
    p.regs.response_index p.regs.response_argument (phase_left told_card false) (struck script) NoResp slot n.id (phase_taken told_card false) (machine.Params slot) t r way g tq
    refl refl refl refl refl refl n.is last refl refl (hit_so o c g ∙ silent) (due_is o c g) (on_tag p o c slot n.id f.slot.0 n.is) (stops o c g))
    (λ good x tq o c g.
    let regs = named_regs p slot n.task in
    let engine = holding (named_held p slot n.task) regs (SentCommand command) p.engine in
    let card = phase_left told_card false in
    let q = path_with p engine regs card script in
    let number : ℕ = raised p.script.sent in
    let calm : under_way q ≡ None = no_way regs (naming_idle p regs slot n.task (x.one t.one) f.slot.1 refl) in
    let now = still_runs p engine (advanced p.regs.ring slot) regs.queue_status p.regs.error_information regs.response_index regs.response_argument card script r in
    let was = runs_stop p r in
    let line : Item = ParamsLine number n.id in
    let ends = params_over (told (state_of p o c)) number n.id in
    let at : standing_at q slot ≡ standing.Named =
    stands_by q slot Named (record { calm = r.calm; on = r.on }) (undone p slot n.id i_issued (ap is_rung f.slot.1)) (is_named p.regs.ring slot f.slot.1) in
    let others : (tag : ℕ) → tag ≢ slot → standing_at q tag ≡ standing_at p tag =
    λ tag apart. ap (λ progress. cond (is_recovering p.driver.recovery) standing.Held (cond (is_done p tag) standing.Done (standing_of progress)))
    (advanced-other p.regs.ring slot tag apart) in
    let tasks : tasks_of q ≡ changed_slots (Move n.id standing.Named) (tasks_of p) = slots_moved p q slot n.id standing.Named t refl n.is at others in
    let P : List Item → Type 0 = λ items. Told EngineActs (state_of p o c) items q o a in
    subst P (sym (ap (λ o. ParamsLine number (unwrap_or o 0) ∷ []) n.is))
    (record {
      context = context_with c number c.named;
      agrees =
          agrees_on p engine regs card script a c number c.named g tq way calm refl refl
          (named_same p engine regs card script c.named g.named was (λ id. ap (λ s. names s id) now));
      happens =
          one_line (state_of p o c) line (state_of q o (context_with c number c.named)) (state_free p o c) (state_untold p o c)
          (params_so (state_of p o c) number n.id slot (number_is p o a c g idle) (ap is_gone (hit_so o c g) ∙ good) (due_is o c g)
          (on_tag p o c slot n.id f.slot.0 n.is)) refl refl refl ends.0 ends.1
          (good_state p o c engine (advanced p.regs.ring slot) regs.queue_status p.regs.error_information regs.response_index regs.response_argument card script number
          (changed_slots (Move n.id standing.Named) (tasks_of p)) p.script.used idle (ap is_some calm) refl refl refl refl tasks (order_advanced p.regs.ring slot) was now
          ∙ params_state p o c number n.id);
    }))
