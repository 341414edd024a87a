-- What a poll tells: the tasks that are ready, or the fault of the bus.
use Rattle.std.proofs.Common.{◌≡◌, ◌≢◌, ◌==◌, ◌&&◌, ◌+◌, ◌<◌, ◌≤◌, ℕ, Bool, true, false, cond, length, refl, sym, ◌∙◌, ap, subst, arith, min}
use Rattle.std.specs.Prelude.{nat_lt, not, ◌||◌, List, [], ◌∷◌, Option, Some, None, is_some, slice_index_or}
use Rattle.std.specs.Int.{bit_at}
use Rattle.std.specs.Int.RustNames.{bit_and}
use Rattle.std.specs.Option.{MatchOption, option_map}
use Rattle.std.proofs.lemmas.Bool.{eq-eqb, false_from_ne_true, false≢true}
use Rattle.std.proofs.lemmas.Bool.Decides.{nat_tests}
use Rattle.array_edge.specs.Array.{ArrayState}
use Rattle.bus_link.specs.Hits.{raised}
use Rattle.bus_link.specs.Script.{Script, armed, struck, word_used}
use Rattle.bus_link.specs.declared.link.Cause.TheVariants.{Bus as BusFault}
use Rattle.card_core.specs.Card.{CardState, blocks_of as card_blocks}
use Rattle.card_core.specs.declared.phase.Phase.{Phase}
use Rattle.card_link.specs.Made.{hit_on}
use Rattle.cmd_words.specs.declared.command.Command.{Command}
use Rattle.cq_engine.specs.Outcome.{Holding, stopped_with}
use Rattle.cq_engine.specs.Words.{poll_of}
use Rattle.cq_engine.specs.declared.did.Did.{Did}
use Rattle.cq_engine.specs.declared.did.Did.TheVariants.{Sent as SentCommand}
use Rattle.cq_regs.proofs.ProgressLaws.{progress_made_ready}
use Rattle.cq_regs.specs.Slots.{has_bit, is_begun, is_rung, made_ready, progress_of, readied}
use Rattle.cq_regs.specs.declared.slots.Progress.{Progress}
use Rattle.cq_regs.specs.declared.slots.Progress.TheVariants.{Active, Idle, Named, Ready, Rung, Sent}
use Rattle.cq_schedule.specs.Held.{held_at, remembered, same}
use Rattle.cq_schedule.specs.declared.held.HeldTask.{HeldTask}
use Rattle.cq_schedule.specs.declared.rules.Due.TheVariants.{Poll}
use Rattle.cq_schedule.proofs.Progresses.{same-true}
use Rattle.cut_order.specs.Order.{OrderState}
use Rattle.drv_recover.specs.declared.recovery.RecoveryState.TheVariants as driver
use Rattle.drv_core.specs.State.{is_recovering}
use Rattle.storage_machine.specs.Commands.{due, hit, is_calm, is_gone, next_number, polled_mask, same_kind}
use Rattle.storage_machine.specs.Slots.{asks, asks_of, changed, changed_slots, mask_of, slot_at}
use Rattle.storage_machine.specs.declared.commands.DueCommand.TheVariants as machine
use Rattle.storage_machine.specs.declared.slots.Change.TheVariants.{MakeReady}
use Rattle.storage_machine.specs.declared.slots.Question.TheVariants as question
use Rattle.storage_machine.specs.declared.state.Standing.{Standing}
use Rattle.storage_machine.specs.declared.state.Standing.TheVariants as standing
use Rattle.storage_machine.specs.declared.state.State.{State}
use Rattle.storage_machine.specs.declared.state.Stop.TheVariants as stop
use Rattle.storage_machine.specs.declared.state.Task.{Task}
use Rattle.storage_model.specs.declared.faults.BusKind.{BusKind}
use Rattle.storage_model.specs.declared.faults.BusKind.TheVariants.{Lost, NoResp}
use Rattle.storage_model.specs.declared.faults.Letter.TheVariants.{Engine as EngineActs}
use Rattle.storage_model.specs.declared.trace.Item.{Item}
use Rattle.storage_model.specs.declared.trace.Item.TheVariants.{Bus as BusLine, Poll as PollLine}
use Rattle.storage_order.specs.Events.{closed, is_over, is_untold}
use Rattle.task_queue.specs.Queue.{is_ready, place_of, with_mark}
use Rattle.task_queue.specs.declared.queue.Place.{Place}
use Rattle.trace_effects.specs.Effects.{after_poll, effect, uses_word, words_used}
use Rattle.trace_rules.specs.Lines.{holds, is_heard, is_poll, poll_holds}
use Rattle.trace_rules.specs.Steps.{is_cleared}
use Rattle.world_state.specs.Engine.{EngineEvent, engine_lines, phase_left, phase_taken, ready_mask}
use Rattle.world_state.specs.Laws.{StateLaws}
use Rattle.world_state.specs.Path.{PathState, behind_path, holder, is_busy, under_way}
use Rattle.world_state.specs.Reading.{Context, is_done, standing_at, standing_of, state_of, stop_by, stop_of, task_at, tasks_of}
use Rattle.world_state.specs.Stands.{Agrees, names}
use Rattle.world_state.specs.Ties.{AreTied, IsIssued, IsVacant, is_queued}
use Rattle.world_state.specs.Told.{Told}
use Rattle.command_laws.proofs.Agreeing.{agrees_on, context_with, named_same}
use Rattle.command_laws.proofs.Begun.{begun_task}
use Rattle.command_laws.proofs.Cases.{stop_did}
use Rattle.command_laws.proofs.GoodState.{good_state, plain_meets, still_runs}
use Rattle.command_laws.proofs.Idled.{hit_is, no_way_yet, not_busy}
use Rattle.command_laws.proofs.NamingTells.{TellsOf, both, heard_so}
use Rattle.command_laws.proofs.Onwards.{no_way, queued_by}
use Rattle.command_laws.proofs.Parts.{facts, holding, path_with}
use Rattle.command_laws.proofs.Polling.{poll_card, poll_cases, poll_choice, poll_due, poll_error, poll_idle, poll_regs, poll_word}
use Rattle.command_laws.proofs.PollMasks.{polled_is, ready_is, word_bit, word_small}
use Rattle.command_laws.proofs.Printed.{due_told, one_line, told}
use Rattle.command_laws.proofs.Rings.{none_at, order_made_ready}
use Rattle.command_laws.proofs.Running.{IsRunning, running, runs_so}
use Rattle.command_laws.proofs.Slotted.{slot_is, slots_by}
use Rattle.command_laws.proofs.StopLines.{stop_state}
use Rattle.command_laws.proofs.StopTells.{bus_over, bus_so, number_is, runs_stop, state_calm, state_free, state_untold}
use Rattle.command_laws.proofs.Stops.{stop_regs}

-- a poll that a fault of the bus stopped names no request
poll_stops : (p : PathState) (o : OrderState) (a : ArrayState) (c : Context) (engine : Holding) (information index word : ℕ) (card : CardState) (script : Script)
    (kind : BusKind) (phase : Option Phase) → AreTied p → IsRunning p → under_way p ≡ None → Agrees p a c
    → AreTied (path_with p engine (stop_regs p information index word) card script)
    → engine.cause ≡ Some (BusFault kind None) → card.store ≡ p.card.store
    → script.hits ≡ p.script.hits → script.ready ≡ p.script.ready → script.sent ≡ raised p.script.sent
    → is_gone (Some kind) ≡ true → same_kind kind kind ≡ true → hit (state_of p o c) ≡ Some kind → due (state_of p o c) ≡ machine.Poll
    → script.used ≡ cond (uses_word (told (state_of p o c)) kind) (words_used (told (state_of p o c))) p.script.used
    → Told EngineActs (state_of p o c) (engine_lines p (path_with p engine (stop_regs p information index word) card script) (stop_did kind None) phase)
    (path_with p engine (stop_regs p information index word) card script) o a
poll_stops p o a c engine information index word card script kind phase t r way g tq cause store hits ready sent gone same hit_s due_s used =
    let q = path_with p engine (stop_regs p information index word) card script in
    let s = state_of p o c in
    let n = raised p.script.sent in
    let idle : is_busy p ≡ false = not_busy p way in
    let stop_now : stop_of q ≡ stop.Bus None =
    ap (λ state. cond (is_recovering state) stop.Running (stop_by q engine.cause)) r.calm ∙ ap (stop_by q) cause in
    let line : Item = BusLine n kind None in
    let ends = bus_over (told s) n kind None in
    let P : List Item → Type 0 = λ items. Told EngineActs s items q o a in
    subst P (sym (ap (λ k. BusLine k kind None ∷ []) sent))
    (record {
      context = context_with c n c.named;
      agrees =
          agrees_on p engine (stop_regs p information index word) card script a c n c.named g tq way refl store sent
          (named_same p engine (stop_regs p information index word) card script c.named g.named (runs_stop p r) (λ id. ap (λ s. names s id) stop_now));
      happens =
          one_line s line (state_of q o (context_with c n c.named)) (state_free p o c) (state_untold p o c)
          (bus_so s n kind None machine.Poll (state_calm p o c r.calm) (number_is p o a c g idle) gone hit_s same due_s refl)
          (ap is_calm (state_calm p o c r.calm)) (ap (λ x. is_calm x || is_cleared x) (state_calm p o c r.calm)) refl ends.0 ends.1
          (stop_state p o c engine information index word card script n kind None t r.calm idle store hits ready stop_now used);
    })

-- a word is used where one is left
used_is : (used size : ℕ) (b : Bool) → nat_lt used size ≡ b → used ≤ size → cond b (used + 1) used ≡ min (used + 1) size
used_is used size true e h = grind (arith, nat_tests, e)
used_is used size false e h = grind (arith, nat_tests, e)

used_if : (script : Script) (b : Bool) → (cond b (record script { used = script.used + 1 }) script).used ≡ cond b (script.used + 1) script.used
used_if script true = refl
used_if script false = refl

word_is_used : (p : PathState) (o : OrderState) (c : Context) (script : Script) → AreTied p → script.used ≡ p.script.used → script.ready ≡ p.script.ready
    → (word_used script).used ≡ words_used (told (state_of p o c))
unfolding state_of
word_is_used p o c script t used ready =
    used_if script (nat_lt script.used (length script.ready))
    ∙ ap (λ n. cond (nat_lt n (length script.ready)) (n + 1) n) used ∙ ap (λ xs. cond (nat_lt p.script.used (length xs)) (p.script.used + 1) p.script.used) ready
    ∙ used_is p.script.used (length p.script.ready) (nat_lt p.script.used (length p.script.ready)) refl t.script.words

-- and the rest of the bus is as it was
used_by : {A : Type 0} (f : Script → A) (script : Script) (b : Bool) → f (record script { used = script.used + 1 }) ≡ f script
    → f (cond b (record script { used = script.used + 1 }) script) ≡ f script
used_by f script true e = e
used_by f script false e = refl

used_hits : (script : Script) → (word_used script).hits ≡ script.hits
used_hits script = used_by (λ s. s.hits) script (nat_lt script.used (length script.ready)) refl

used_ready : (script : Script) → (word_used script).ready ≡ script.ready
used_ready script = used_by (λ s. s.ready) script (nat_lt script.used (length script.ready)) refl

used_sent : (script : Script) → (word_used script).sent ≡ script.sent
used_sent script = used_by (λ s. s.sent) script (nat_lt script.used (length script.ready)) refl

-- the standing of a task after the poll
ready_standing : (done b : Bool) (progress : Progress)
    → cond (asks_of question.Sent (cond done standing.Done (standing_of progress)) && b) standing.Ready (cond done standing.Done (standing_of progress))
    ≡ cond done standing.Done (standing_of (cond b (readied progress) progress))
ready_standing true b progress = refl
ready_standing false true Idle = refl
ready_standing false true Rung = refl
ready_standing false true Named = refl
ready_standing false true Sent = refl
ready_standing false true Ready = refl
ready_standing false true Active = refl
ready_standing false false Idle = refl
ready_standing false false Rung = refl
ready_standing false false Named = refl
ready_standing false false Sent = refl
ready_standing false false Ready = refl
ready_standing false false Active = refl

abbrev task_with : ℕ → Standing → Option Task
task_with id at = Some (record { id = id; standing = at })

task_if : (b : Bool) (id : ℕ) (old new : Standing) → cond b (task_with id new) (task_with id old) ≡ task_with id (cond b new old)
task_if true id old new = refl
task_if false id old new = refl

task_by : (p : PathState) (tag word : ℕ) (o : Option ℕ) → p.driver.recovery ≡ driver.Calm
    → option_map (λ id. record {
      id = id;
      standing = cond (is_recovering p.driver.recovery) standing.Held (cond (is_done p tag) standing.Done
          (standing_of (cond (has_bit word tag) (readied (progress_of p.regs.ring tag)) (progress_of p.regs.ring tag))));
    }) o
    ≡ changed (MakeReady word) tag (option_map (λ id. record { id = id; standing = standing_at p tag }) o)
task_by p tag word None calm = refl
task_by p tag word (Some id) calm =
    let task : Standing → Option Task = λ s. Some (record { id = id; standing = s }) in
    let old : Standing = cond (is_done p tag) standing.Done (standing_of (progress_of p.regs.ring tag)) in
    let new : Standing = cond (is_done p tag) standing.Done (standing_of (cond (has_bit word tag) (readied (progress_of p.regs.ring tag)) (progress_of p.regs.ring tag))) in
    let is_old : standing_at p tag ≡ old = ap (λ state. cond (is_recovering state) standing.Held old) calm in
    ap (λ state. task (cond (is_recovering state) standing.Held new)) calm
    ∙ ap task (sym (ready_standing (is_done p tag) (has_bit word tag) (progress_of p.regs.ring tag)))
    ∙ sym (task_if (asks_of question.Sent old && has_bit word tag) id old standing.Ready)
    ∙ sym (ap (λ s. changed (MakeReady word) tag (task s)) is_old)

-- a place is filled just where the task is sent
place_of_task : (o : Option Place) (b : Bool) (task : Option HeldTask) (tag : ℕ)
    → option_map (λ (place : Place). place.queued) o ≡ cond b (option_map (queued_by tag) task) None → (b ≡ true → is_some task ≡ true)
    → is_ready (with_mark true o) ≡ b
place_of_task None false task tag e some = refl
place_of_task (Some place) false task tag e some = absurd (cc e)
place_of_task (Some place) true task tag e some = refl
place_of_task None true None tag e some = absurd (false≢true (some refl))
place_of_task None true (Some h) tag e some = absurd (cc e)

queued_sent : (progress : Progress) → progress ≢ Ready → is_queued progress ≡ same progress Sent
queued_sent Idle far = refl
queued_sent Rung far = refl
queued_sent Named far = refl
queued_sent Sent far = refl
queued_sent Ready far = absurd (far refl)
queued_sent Active far = refl

queued_held : (progress : Progress) → is_queued progress ≡ true → is_begun progress ≡ true
queued_held Idle e = absurd (false≢true e)
queued_held Rung e = absurd (false≢true e)
queued_held Named e = absurd (false≢true e)
queued_held Sent e = refl
queued_held Ready e = refl
queued_held Active e = absurd (false≢true e)

filled : (p : PathState) (tag : ℕ) → AreTied p → IsRunning p → tag < 32 → progress_of p.regs.ring tag ≢ Ready
    → is_ready (with_mark true (place_of p.card.queue tag)) ≡ same (progress_of p.regs.ring tag) Sent
filled p tag t r below far =
    place_of_task (place_of p.card.queue tag) (is_queued (progress_of p.regs.ring tag)) (held_at p.engine.held tag) tag (t.running (runs_so p r) tag below).queue.queued
    (λ on. ap is_some (begun_task p tag t r below (queued_held (progress_of p.regs.ring tag) on)).place)
    ∙ queued_sent (progress_of p.regs.ring tag) far

-- and the machine's task is sent where the slot is
asks_sent : (done : Bool) (progress : Progress) → asks_of question.Sent (cond done standing.Done (standing_of progress)) ≡ (same progress Sent && not done)
asks_sent true Idle = refl
asks_sent true Rung = refl
asks_sent true Named = refl
asks_sent true Sent = refl
asks_sent true Ready = refl
asks_sent true Active = refl
asks_sent false Idle = refl
asks_sent false Rung = refl
asks_sent false Named = refl
asks_sent false Sent = refl
asks_sent false Ready = refl
asks_sent false Active = refl

and_rung : (progress : Progress) (done : Bool) → is_rung progress ≡ not done → (same progress Sent && not done) ≡ same progress Sent
and_rung Idle done e = refl
and_rung Rung done e = refl
and_rung Named done e = refl
and_rung Sent done e = sym e
and_rung Ready done e = refl
and_rung Active done e = refl

asked_by : (p : PathState) (tag : ℕ) (o : Option ℕ) → holder p tag ≡ o → AreTied p → IsRunning p → tag < 32
    → MatchOption o (IsVacant p tag) (IsIssued p tag)
    → asks question.Sent (option_map (λ id. record { id = id; standing = standing_at p tag }) o) ≡ same (progress_of p.regs.ring tag) Sent
asked_by p tag None e t r below v = sym (ap (λ progress. same progress Sent) v.idle)
asked_by p tag (Some id) e t r below i =
    ap (λ state. asks_of question.Sent (cond (is_recovering state) standing.Held (cond (is_done p tag) standing.Done (standing_of (progress_of p.regs.ring tag))))) r.calm
    ∙ asks_sent (is_done p tag) (progress_of p.regs.ring tag) ∙ and_rung (progress_of p.regs.ring tag) (is_done p tag) i.rung

readied_same : (b : Bool) (progress : Progress) → progress ≢ Ready → (progress ≢ Sent → b ≡ false) → same (cond b (readied progress) progress) Ready ≡ b
readied_same true Sent far other = refl
readied_same false Sent far other = refl
readied_same b Idle far other = ap (λ b. same (cond b Idle Idle) Ready) (other (λ e. cc e)) ∙ sym (other (λ e. cc e))
readied_same b Rung far other = ap (λ b. same (cond b Rung Rung) Ready) (other (λ e. cc e)) ∙ sym (other (λ e. cc e))
readied_same b Named far other = ap (λ b. same (cond b Named Named) Ready) (other (λ e. cc e)) ∙ sym (other (λ e. cc e))
readied_same b Active far other = ap (λ b. same (cond b Active Active) Ready) (other (λ e. cc e)) ∙ sym (other (λ e. cc e))
readied_same b Ready far other = absurd (far refl)

empty_bit : (b : Bool) (o : Option Place) → is_ready (with_mark true o) ≡ false → is_ready (with_mark b o) ≡ false
empty_bit b None e = refl
empty_bit b (Some place) e = absurd (false≢true (sym e))

poll_so : (s : State) (n mask : ℕ) → (n == next_number (told s)) ≡ true → is_gone (hit s) ≡ false → due s ≡ machine.Poll
    → (mask == polled_mask (told s)) ≡ true → holds (told s) (PollLine n mask) ≡ true
unfolding holds poll_holds
poll_so s n mask number gone d polled =
    both (is_heard (told s) n) (is_poll (due (told s)) && (mask == polled_mask (told s))) (heard_so s n number gone)
    (both (is_poll (due (told s))) (mask == polled_mask (told s)) (ap is_poll (due_told s ∙ d)) polled)

polled_told : (p : PathState) (o : OrderState) (c : Context)
    → polled_mask (told (state_of p o c)) ≡ bit_and (mask_of question.Sent (tasks_of p)) (slice_index_or p.script.ready p.script.used 4294967295)
unfolding state_of polled_mask
polled_told p o c = refl

poll_over : (s : State) (n mask : ℕ) → (is_over (effect s (PollLine n mask)).owed ≡ true) × (is_untold (effect s (PollLine n mask)).event ≡ true)
unfolding effect after_poll
poll_over s n mask = (refl, refl)

poll_state : (p : PathState) (o : OrderState) (c : Context) (n mask : ℕ)
    → record (state_of p o c) { n = n; slots = changed_slots (MakeReady mask) (tasks_of p); words = words_used (told (state_of p o c)) }
    ≡ record (effect (told (state_of p o c)) (PollLine n mask)) { owed = closed (effect (told (state_of p o c)) (PollLine n mask)).owed }
unfolding state_of effect after_poll
poll_state p o c n mask = refl

pub poll_tells : (p : PathState) (a : ArrayState) (p' : PathState) (a' : ArrayState) (did : Did) (phase : Option Phase) (e : EngineEvent p a p' a' did phase)
    → e.event.acts.due ≡ Poll → AreTied p → StateLaws → TellsOf p a p' a' did phase
poll_tells p a p' a' did phase e is t laws =
    let f = facts p a p' a' did phase e Poll is in
    let r = running p (remembered p.engine.held p.regs) Poll t f.is_due (λ x. cc x) (λ x. cc x) in
    let d = poll_due (remembered p.engine.held p.regs) p.regs p.memory f.is_due in
    let command : Command = poll_of p.regs in
    let script = armed p.script command (card_blocks p.card command) in
    let told_card = poll_card p a in
    let way = no_way_yet p Poll f.is_due refl in
    let idle = not_busy p way in
    let due_is : (o : OrderState) (c : Context) → Agrees p a c → due (state_of p o c) ≡ machine.Poll =
    λ o c g. (laws.engine p o c t g.number).command Poll f.is_due in
    let hit_so : (o : OrderState) (c : Context) → Agrees p a c → hit (state_of p o c) ≡ hit_on (behind_path p a) command =
    λ o c g. hit_is p o c command (card_blocks p.card command) machine.Poll (laws.engine p o c t g.number) idle (due_is o c g)
    (plain_meets command (card_blocks p.card command) refl) in
    let polls : (o : OrderState) (c : Context) → Agrees p a c → is_poll (due (told (state_of p o c))) ≡ true =
    λ o c g. ap is_poll (due_told (state_of p o c) ∙ due_is o c g) in
    poll_cases (TellsOf p a) p a p' a' did phase e is t d
    (λ lost x tq o c g.
    poll_stops p o a c (holding (remembered p.engine.held p.regs) (stopped_with p.regs (poll_error p)) (stop_did Lost None) p.engine) (poll_error p)
    p.regs.response_index p.regs.response_argument (phase_left p.card false) (struck script) Lost (phase_taken p.card false) t r way g tq
    refl refl refl refl refl refl refl (hit_so o c g ∙ lost) (due_is o c g) refl)
    (λ silent x tq o c g.
    poll_stops p o a c (holding (remembered p.engine.held p.regs) (stopped_with p.regs (poll_error p)) (stop_did NoResp None) p.engine) (poll_error p)
    p.regs.response_index p.regs.response_argument (phase_left told_card false) (struck (word_used script)) NoResp (phase_taken told_card false) t r way g tq
    refl refl (used_hits script) (used_ready script) (used_sent script) refl refl (hit_so o c g ∙ silent) (due_is o c g)
    (word_is_used p o c script t refl refl ∙ sym (ap (λ b. cond b (words_used (told (state_of p o c))) p.script.used) (polls o c g))))
    (λ good x tq o c g.
    let regs = poll_regs p a in
    let engine = holding (remembered p.engine.held p.regs) regs (SentCommand command) p.engine in
    let card = phase_left told_card false in
    let q = path_with p engine regs card (word_used script) in
    let number : ℕ = raised p.script.sent in
    let word = poll_word p a in
    let ring = made_ready p.regs.ring word in
    let calm : under_way q ≡ None = no_way regs (poll_idle p a t d) in
    let now = still_runs p engine ring word p.regs.error_information regs.response_index regs.response_argument card (word_used script) r in
    let was = runs_stop p r in
    let few : length p.card.queue.slots ≤ 31 = subst (λ n. n ≤ 31) (sym (t.card.places ∙ t.card.depth)) t.sound.plan.depth.1 in
    let far : (tag : ℕ) → progress_of p.regs.ring tag ≢ Ready = λ tag ready. none_at Ready p.regs.ring tag t.regs.ring d.ready ready refl in
    let bits : (tag : ℕ) → tag < 32 → same (progress_of ring tag) Ready ≡ has_bit word tag =
    λ tag low. ap (λ progress. same progress Ready) (progress_made_ready p.regs.ring word tag)
    ∙ readied_same (has_bit word tag) (progress_of p.regs.ring tag) (far tag)
    (λ other. word_bit p.card.queue (poll_choice p a) tag
    ∙ empty_bit (bit_at (poll_choice p a) tag == 1) (place_of p.card.queue tag)
    (filled p tag t r low (far tag) ∙ false_from_ne_true (same (progress_of p.regs.ring tag) Sent) (λ e. other (same-true (progress_of p.regs.ring tag) Sent e)))) in
    let mask_is : ready_mask ring ≡ word = ready_is ring word (word_small p.card.queue (poll_choice p a) few) bits in
    let asked : (tag : ℕ) → tag < 32 → asks question.Sent (slot_at (tasks_of p) tag) ≡ is_ready (with_mark true (place_of p.card.queue tag)) =
    λ tag low. ap (asks question.Sent) (slot_is p tag low) ∙ asked_by p tag (holder p tag) refl t r low (t.tags (ap is_recovering r.calm) tag low)
    ∙ sym (filled p tag t r low (far tag)) in
    let polled : polled_mask (told (state_of p o c)) ≡ word =
    polled_told p o c ∙ polled_is question.Sent (tasks_of p) p.card.queue (poll_choice p a) few asked in
    let line : Item = PollLine number (ready_mask ring) in
    let ends = poll_over (told (state_of p o c)) number (ready_mask ring) in
    let tasks : tasks_of q ≡ changed_slots (MakeReady (ready_mask ring)) (tasks_of p) =
    slots_by p q (MakeReady (ready_mask ring))
    (λ tag low.
    ap (λ progress. option_map (λ id. record { id = id; standing = cond (is_recovering p.driver.recovery) standing.Held (cond (is_done p tag) standing.Done (standing_of progress)) })
    (holder p tag)) (progress_made_ready p.regs.ring word tag)
    ∙ task_by p tag word (holder p tag) r.calm ∙ ap (λ w. changed (MakeReady w) tag (task_at p tag)) (sym mask_is)) in
    let P : List Item → Type 0 = λ items. Told EngineActs (state_of p o c) items q o a in
    subst P (sym (ap (λ k. PollLine k (ready_mask ring) ∷ []) (used_sent script)))
    (record {
      context = context_with c number c.named;
      agrees =
          agrees_on p engine regs card (word_used script) a c number c.named g tq way calm refl (used_sent script)
          (named_same p engine regs card (word_used script) c.named g.named was (λ id. ap (λ s. names s id) now));
      happens =
          one_line (state_of p o c) line (state_of q o (context_with c number c.named)) (state_free p o c) (state_untold p o c)
          (poll_so (state_of p o c) number (ready_mask ring) (number_is p o a c g idle) (ap is_gone (hit_so o c g) ∙ good) (due_is o c g)
          (eq-eqb (ready_mask ring) (polled_mask (told (state_of p o c))) (mask_is ∙ sym polled))) refl refl refl ends.0 ends.1
          (good_state p o c engine ring word p.regs.error_information regs.response_index regs.response_argument card (word_used script) number
          (changed_slots (MakeReady (ready_mask ring)) (tasks_of p)) (words_used (told (state_of p o c))) idle (ap is_some calm) refl (used_hits script) (used_ready script)
          (word_is_used p o c script t refl refl) tasks (order_made_ready p.regs.ring word) was now
          ∙ poll_state p o c number (ready_mask ring));
    }))
