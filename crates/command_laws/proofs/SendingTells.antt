-- What CMD45 tells.
use Rattle.std.proofs.Common.{◌≡◌, ◌≢◌, ◌==◌, ℕ, Bool, true, false, cond, refl, sym, ◌∙◌, ap, subst}
use Rattle.std.specs.Prelude.{nat_le, nat_lt, not, ◌+◌, List, [], ◌∷◌, Option, Some, None, is_some, length, unwrap_or}
use Rattle.std.proofs.Common.{arith}
use Rattle.std.proofs.lemmas.Bool.Decides.{nat_tests}
use Rattle.array_edge.specs.Array.{ArrayState}
use Rattle.bus_link.specs.Hits.{raised}
use Rattle.bus_link.specs.Script.{armed, struck}
use Rattle.card_core.specs.Card.{blocks_of as card_blocks, sectors}
use Rattle.card_core.specs.declared.phase.Phase.{Phase}
use Rattle.card_link.specs.Made.{hit_on}
use Rattle.cmd_words.specs.declared.command.Command.{Command}
use Rattle.cmd_words.specs.declared.command.Command.TheVariants.{Address as StartSector}
use Rattle.cq_engine.specs.Outcome.{stopped_with}
use Rattle.cq_engine.specs.Standings.{is_open}
use Rattle.cq_engine.specs.declared.did.Did.{Did}
use Rattle.cq_engine.specs.declared.did.Did.TheVariants.{Sent as SentCommand}
use Rattle.cq_engine.proofs.SlotLaws.{advanced-other}
use Rattle.cq_regs.specs.Slots.{advanced, is_rung}
use Rattle.cq_regs.specs.declared.slots.Progress.TheVariants.{Named, Sent}
use Rattle.cq_schedule.specs.Held.{remembered}
use Rattle.cq_schedule.specs.Order.{first_at}
use Rattle.cq_schedule.specs.declared.rules.Due.TheVariants.{Address}
use Rattle.cut_order.specs.Order.{OrderState}
use Rattle.drv_core.specs.State.{is_recovering}
use Rattle.storage_machine.specs.Commands.{due, hit, id_on, is_gone, next_number}
use Rattle.storage_machine.specs.Jobs.{is_in_range, job_of, sector_of}
use Rattle.storage_machine.specs.Slots.{changed_slots}
use Rattle.storage_machine.specs.declared.commands.DueCommand.TheVariants as machine
use Rattle.storage_machine.specs.declared.slots.Change.TheVariants.{Move}
use Rattle.storage_machine.specs.declared.state.Standing.TheVariants as standing
use Rattle.storage_machine.specs.declared.state.State.{State}
use Rattle.storage_machine.specs.declared.state.Owed.TheVariants.{Nothing}
use Rattle.storage_model.specs.Plan.{blocks_of}
use Rattle.storage_model.specs.declared.faults.BusKind.TheVariants.{Lost, NoResp}
use Rattle.storage_model.specs.declared.faults.Letter.TheVariants.{Engine as EngineActs}
use Rattle.storage_model.specs.declared.trace.Item.{Item}
use Rattle.storage_model.specs.declared.trace.Item.TheVariants.{Address as AddressLine}
use Rattle.storage_order.specs.Events.{closed, is_over, is_untold}
use Rattle.trace_effects.specs.Effects.{addressed, after_address, effect, over}
use Rattle.trace_rules.specs.Lines.{address_holds, holds, is_address, is_heard, is_poll}
use Rattle.world_state.specs.Engine.{EngineEvent, id_named, phase_left, phase_taken}
use Rattle.world_state.specs.Laws.{StateLaws}
use Rattle.world_state.specs.Path.{PathState, behind_path, job, under_way}
use Rattle.world_state.specs.Reading.{Context, is_done, standing_at, standing_of, state_of, tasks_of}
use Rattle.world_state.specs.Stands.{Agrees, names}
use Rattle.world_state.specs.Ties.{AreTied}
use Rattle.world_state.specs.Told.{Told}
use Rattle.command_laws.proofs.Agreeing.{agrees_on, context_with, named_same}
use Rattle.command_laws.proofs.Begun.{BegunTask}
use Rattle.command_laws.proofs.Cases.{stop_did}
use Rattle.command_laws.proofs.GoodState.{good_state, not_direct, on_tag, plain_meets, still_runs}
use Rattle.command_laws.proofs.Idled.{hit_is, no_way_yet, not_busy}
use Rattle.command_laws.proofs.NamingTells.{TellsOf, both, heard_so, stands_by, undone}
use Rattle.command_laws.proofs.Onwards.{no_way}
use Rattle.command_laws.proofs.Parts.{facts, holding, path_with}
use Rattle.command_laws.proofs.Printed.{due_told, one_line, told}
use Rattle.command_laws.proofs.Rings.{first_only, order_advanced}
use Rattle.command_laws.proofs.Running.{IsRunning, issued}
use Rattle.command_laws.proofs.Sending.{IsSending, is_past, is_sent, sending_cases, sending_idle, sent_card, sent_error, sent_regs}
use Rattle.command_laws.proofs.Slotted.{slots_moved}
use Rattle.command_laws.proofs.StopTells.{number_is, runs_stop, state_free, state_untold, stop_tells}

pub address_so : (s : State) (n id slot : ℕ) → (n == next_number (told s)) ≡ true → is_gone (hit s) ≡ false → due s ≡ machine.Address slot
    → (id_on (told s) slot == id) ≡ true → holds (told s) (AddressLine n id) ≡ true
unfolding holds address_holds
address_so s n id slot number gone d on =
    both (is_heard (told s) n) (is_address (told s) id (due (told s))) (heard_so s n number gone) (ap (is_address (told s) id) (due_told s ∙ d) ∙ on)

-- after the line, by whether the task lies in the image
pub address_by : (s : State) (n id : ℕ) (inside : Bool) → is_in_range (job_of s.plan.jobs id) (length s.base) ≡ inside
    → effect s (AddressLine n id) ≡ over (addressed (record s { n = n }) id inside) Nothing
unfolding effect after_address
address_by s n id inside e = ap (λ b. over (addressed (record s { n = n }) id b) Nothing) e

sent_state : (p : PathState) (o : OrderState) (c : Context) (n id : ℕ)
    → record (state_of p o c) { n = n; slots = changed_slots (Move id standing.Sent) (tasks_of p); words = p.script.used }
    ≡ over (addressed (record (told (state_of p o c)) { n = n }) id true) Nothing
unfolding state_of
sent_state p o c n id = refl

-- the task lies in the image where it doesn't end past the last sector
ranged : (sectors end : ℕ) (past : Bool) → nat_lt sectors end ≡ past → nat_le end sectors ≡ not past
ranged sectors end true e = grind (arith, nat_tests, e)
ranged sectors end false e = grind (arith, nat_tests, e)

pub range_is : (p : PathState) (o : OrderState) (a : ArrayState) (c : Context) (n slot : ℕ) (b : BegunTask p slot) (past : Bool) → Agrees p a c → is_past p b.h.task.desc ≡ past
    → is_in_range (job_of (told (state_of p o c)).plan.jobs b.id) (length (told (state_of p o c)).base) ≡ not past
unfolding state_of
range_is p o a c n slot b past g e =
    let size : sectors p.card ≡ length c.base = ap (λ o. unwrap_or o 0) g.store.sectors in
    ap (λ k. nat_le (sector_of (job p b.id) + blocks_of (job p b.id)) k) (sym size)
    ∙ ap (λ k. nat_le (k + blocks_of (job p b.id)) (sectors p.card)) (sym b.of.start)
    ∙ ap (λ k. nat_le (b.h.task.desc.start + k) (sectors p.card)) (sym b.of.blocks)
    ∙ ranged (sectors p.card) (b.h.task.desc.start + b.h.task.desc.blocks) past e

-- CMD45 where the task lies in the image
pub sent_tells : (p : PathState) (a : ArrayState) (p' : PathState) (a' : ArrayState) (did : Did) (phase : Option Phase) (e : EngineEvent p a p' a' did phase) (slot : ℕ)
    → (is : e.event.acts.due ≡ Address slot) → AreTied p → IsRunning p → StateLaws
    → (n : IsSending p a p' a' did slot (facts p a p' a' did phase e (Address slot) is)) → is_past p n.task.h.task.desc ≡ false → TellsOf p a p' a' did phase
sent_tells p a p' a' did phase e slot is t r laws n near =
    let f = facts p a p' a' did phase e (Address slot) is in
    let desc = n.task.h.task.desc in
    let command : Command = StartSector desc.start in
    let script = armed p.script command (card_blocks p.card command) in
    let told_card = sent_card p slot desc in
    let way = no_way_yet p (Address slot) f.is_due refl in
    let idle = not_busy p way in
    let last = not_direct p slot t n.task.below in
    let i = issued p slot t r.calm f.slot.below (ap is_rung f.slot.is_at) in
    let due_is : (o : OrderState) (c : Context) → Agrees p a c → due (state_of p o c) ≡ machine.Address slot =
    λ o c g. (laws.engine p o c t g.number).command (Address slot) f.is_due in
    let hit_so : (o : OrderState) (c : Context) → Agrees p a c → hit (state_of p o c) ≡ hit_on (behind_path p a) command =
    λ o c g. hit_is p o c command (card_blocks p.card command) (machine.Address slot) (laws.engine p o c t g.number) idle (due_is o c g)
    (plain_meets command (card_blocks p.card command) refl) in
    let stops : (o : OrderState) (c : Context) → Agrees p a c → is_poll (due (told (state_of p o c))) ≡ false =
    λ o c g. ap is_poll (due_told (state_of p o c) ∙ due_is o c g) in
    sending_cases (TellsOf p a) p a p' a' did phase e slot is t n near
    (λ lost x tq o c g.
    stop_tells p o a c (holding (remembered p.engine.held p.regs) (stopped_with p.regs (sent_error slot desc)) (stop_did Lost (Some slot)) p.engine) (sent_error slot desc)
    p.regs.response_index p.regs.response_argument (phase_left p.card false) (struck script) Lost slot n.task.id (phase_taken p.card false) (machine.Address slot) t r way g tq
    refl refl refl refl refl refl n.task.is last refl refl (hit_so o c g ∙ lost) (due_is o c g) (on_tag p o c slot n.task.id f.slot.below n.task.is) refl)
    (λ silent x tq o c g.
    stop_tells p o a c (holding (remembered p.engine.held p.regs) (stopped_with p.regs (sent_error slot desc)) (stop_did NoResp (Some slot)) p.engine) (sent_error slot desc)
    p.regs.response_index p.regs.response_argument (phase_left told_card false) (struck script) NoResp slot n.task.id (phase_taken told_card false) (machine.Address slot) t r way g tq
    refl refl refl refl refl refl n.task.is last refl refl (hit_so o c g ∙ silent) (due_is o c g) (on_tag p o c slot n.task.id f.slot.below n.task.is) (stops o c g))
    (λ good x tq o c g.
    let regs = sent_regs p slot desc in
    let engine = holding (remembered p.engine.held p.regs) regs (SentCommand command) p.engine in
    let card = phase_left told_card false in
    let q = path_with p engine regs card script in
    let number : ℕ = raised p.script.sent in
    let calm : under_way q ≡ None = no_way regs (sending_idle p slot desc t.one f.slot.is_at) in
    let now = still_runs p engine (advanced p.regs.ring slot) regs.queue_status p.regs.error_information regs.response_index regs.response_argument card script r in
    let was = runs_stop p r in
    let line : Item = AddressLine number n.task.id in
    let at : standing_at q slot ≡ standing.Sent =
    stands_by q slot Sent (record { calm = r.calm; on = r.on }) (undone p slot i.id i.issued (ap is_rung f.slot.is_at)) (is_sent p.regs.ring slot f.slot.is_at) in
    let others : (tag : ℕ) → tag ≢ slot → standing_at q tag ≡ standing_at p tag =
    λ tag apart. ap (λ progress. cond (is_recovering p.driver.recovery) standing.Held (cond (is_done p tag) standing.Done (standing_of progress)))
    (advanced-other p.regs.ring slot tag apart) in
    let tasks : tasks_of q ≡ changed_slots (Move n.task.id standing.Sent) (tasks_of p) = slots_moved p q slot n.task.id standing.Sent t refl n.task.is at others in
    let P : List Item → Type 0 = λ items. Told EngineActs (state_of p o c) items q o a in
    let after = address_by (told (state_of p o c)) number n.task.id true (range_is p o a c number slot n.task false g near) in
    let named : first_at Named p.regs.ring ≡ Some slot = first_only Named p.regs.ring slot t.regs.ring f.slot.is_at refl
    (λ tag e. t.one tag slot (ap is_open e) (ap is_open f.slot.is_at)) in
    subst P (sym (ap (λ o. AddressLine number (id_named p o) ∷ []) named ∙ ap (λ o. AddressLine number (unwrap_or o 0) ∷ []) n.task.is))
    (record {
      context = context_with c number c.named;
      agrees =
          agrees_on p engine regs card script a c number c.named g tq way calm refl refl
          (named_same p engine regs card script c.named g.named was (λ id. ap (λ s. names s id) now));
      happens =
          one_line (state_of p o c) line (state_of q o (context_with c number c.named)) (state_free p o c) (state_untold p o c)
          (address_so (state_of p o c) number n.task.id slot (number_is p o a c g idle) (ap is_gone (hit_so o c g) ∙ good) (due_is o c g)
          (on_tag p o c slot n.task.id f.slot.below n.task.is)) refl refl refl (ap (λ (s : State). is_over s.owed) after) (ap (λ (s : State). is_untold s.event) after)
          (good_state p o c engine (advanced p.regs.ring slot) regs.queue_status p.regs.error_information regs.response_index regs.response_argument card script number
          (changed_slots (Move n.task.id standing.Sent) (tasks_of p)) p.script.used idle (ap is_some calm) refl refl refl refl tasks (order_advanced p.regs.ring slot) was now
          ∙ sent_state p o c number n.task.id ∙ sym (ap (λ (s : State). record s { owed = closed s.owed }) after));
    }))
