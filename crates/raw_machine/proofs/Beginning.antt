-- An event of the engine that begins between tasks.
use Rattle.std.proofs.Common.{◌≡◌, ◌≢◌, ◌<◌, ℕ, Bool, true, false, cond, refl, sym, ◌∙◌, ap, subst, arith}
use Rattle.std.specs.Prelude.{[], Option, Some, None, Result, Ok, Err, slice_get, slice_set}
use Rattle.std.specs.Option.{IsSomeAnd}
use Rattle.std.proofs.lemmas.Bool.{true≢false}
use Rattle.bus_link.specs.declared.link.Cause.{Cause}
use Rattle.bus_link.specs.declared.link.LinkEnd.{LinkEnd}
use Rattle.card_core.specs.declared.ends.Dark.{Dark}
use Rattle.card_link.specs.Made.{CardMade, Exchanges as Crosses}
use Rattle.cmd_words.specs.Command.{index_of}
use Rattle.cmd_words.specs.declared.command.Command.{Command}
use Rattle.cq_desc.specs.declared.direct.DirectDesc.{DirectDesc}
use Rattle.cq_desc.specs.declared.task.TaskDesc.{TaskDesc}
use Rattle.card_core.specs.Response.{task_to_execute}
use Rattle.task_queue.specs.declared.queue.Queued.{Queued}
use Rattle.std.proofs.lemmas.List.{append-nil}
use Rattle.cq_engine.specs.After.{after_direct, after_execute, after_params, after_poll, executed, named}
use Rattle.cq_engine.specs.Event.{Does, Exchanges, Serves as ServedAs, Silent}
use Rattle.cq_engine.specs.Outcome.{Host, Outcome, host_of, outcome_of, responded}
use Rattle.cq_engine.specs.Words.{direct_of, execute_of, has_error, params_of, poll_of}
use Rattle.cq_engine.specs.declared.did.Did.{Did}
use Rattle.cq_engine.specs.declared.did.Did.TheVariants.{Direct as DirectDone, Dropped, Finished, Idle, Sent as SentCommand, Stopped}
use Rattle.cq_engine.proofs.Places.{length-remembered}
use Rattle.cq_engine.proofs.SlotLaws.{completes, ticks}
use Rattle.cq_regs.specs.Effects.{completed, moved_on, ticked_in}
use Rattle.cq_regs.specs.Slots.{advanced, next, progress_of, without}
use Rattle.cq_regs.specs.State.{Registers}
use Rattle.cq_regs.specs.declared.slots.Progress.{Progress}
use Rattle.cq_regs.specs.declared.slots.Progress.TheVariants.{Active, Ready, Rung}
use Rattle.cq_schedule.specs.Held.{Places, held_at, left_at, newly_held, remembered}
use Rattle.cq_schedule.specs.Holding.{is_begun}
use Rattle.cq_schedule.specs.Meaning.{HasItsSlot, IsDue, list_of, rests}
use Rattle.cq_schedule.specs.declared.held.HeldTask.{HeldTask}
use Rattle.cq_schedule.specs.declared.rules.Due.{Due}
use Rattle.cq_schedule.specs.declared.rules.Due.TheVariants.{Execute, Poll, Rest, Serve, Tick}
use Rattle.cq_task.specs.Meaning.{Means}
use Rattle.cq_task.specs.declared.slot.DataTask.{DataTask}
use Rattle.cq_task.specs.declared.slot.DropCause.{DropCause}
use Rattle.cq_task.specs.declared.slot.SlotTask.{SlotTask}
use Rattle.cq_task.specs.declared.slot.SlotTask.TheVariants.{Data, Direct}
use Rattle.raw_machine.specs.Answering.{card_of, seen}
use Rattle.raw_machine.specs.Moving.{marks_of, phase_of, read_into, with_marks}
use Rattle.raw_machine.proofs.Answered.{HasBegun, begun}
use Rattle.raw_machine.specs.Machine.{Moment, behind_of}
use Rattle.raw_machine.specs.Running.{Happens}
use Rattle.raw_machine.specs.State.{PlainCard, RawState, places_of, turned, with_registers, with_task}
use Rattle.raw_machine.specs.Tasks.{Acts, Moves, Sends}
use Rattle.raw_machine.specs.Tasks.Gives.{stops as stops_first}
use Rattle.raw_machine.specs.Tasks.Moves.{refused}
use Rattle.raw_machine.specs.Telling.{IsBetweenTasks, Tells, plain}
use Rattle.raw_machine.proofs.Kept.{AllRung, Has, between_ended, between_readied, between_same, between_without, has_advanced, has_finished, has_idle, has_named, has_readied, has_same, keeps_has, noted_at, others_advanced, rung_advanced, rung_readied, rung_without}
use Rattle.raw_machine.proofs.Leading.{Led, LedDirect, LedPoll, led, led_direct, led_poll}
use Rattle.raw_machine.proofs.Leading.Led.{stops, goes}
use Rattle.raw_machine.proofs.Leading.LedDirect.{stops as direct_stops, done as direct_done}
use Rattle.raw_machine.proofs.Leading.LedPoll.{stops as poll_stops, polls}
use Rattle.raw_machine.proofs.Naming.{Facts, done_by, facts, led_so, running, rung_same, rung_told}
use Rattle.raw_machine.proofs.NextDue.{IsBetweenDue, due_told, executed_at, not_under_way, order_advanced, rest_is_due, rests_due, served_at}
use Rattle.raw_machine.proofs.NextDue.IsBetweenDue.{rest, tick, poll, serve, execute}
use Rattle.raw_machine.proofs.Stages.{moving_state, phase_at, Behinds, IsDone, IsSent, Stage, behinds, behinds_same, leaves_as, partly, partly_from, sent_so, sent_state, tells_from}
use Rattle.raw_machine.proofs.Stages.Stage.{done, moving, naming}
use Rattle.raw_machine.proofs.WorkLeft.{advanced-same}

-- a place with what is said of it twice
record Found (place : Option HeldTask) (P Q : HeldTask → Type 0) : Type 0 where
  pub task : HeldTask
  pub at : place ≡ Some task
  pub first : P task
  pub second : Q task

found : (place : Option HeldTask) (P Q : HeldTask → Type 0) → IsSomeAnd place P → IsSomeAnd place Q → Found place P Q
found None P Q p q = absurd p
found (Some h) P Q p q = record { task = h; at = refl; first = p; second = q }

ready_still : (progress : Progress) → progress ≡ Ready → progress ≢ Active
ready_still progress e x = cc (e, x)

-- no block of the data phase moved yet
moving_none : (start : RawState) (task : DataTask) (queued : Queued) → moving_state start task queued 0 ≡ start
unfolding read_into marks_of
moving_none start task queued = none_if queued.task.read where
  none_if : (read : Bool) → record start {
    memory = cond read start.memory start.memory;
    card = turned (λ c. cond read c (with_marks [] c)) start.card;
  } ≡ start
  none_if true = refl
  none_if false = ap (λ pend. record start { card = record start.card { contents = record start.card.contents { pend = pend } } }) (append-nil start.card.contents.pend)

phase_none : (queued : Queued) → phase_of queued ≡ phase_at queued 0
phase_none queued = ap (λ n. record { task = queued.task; start = queued.start; moved = n }) (omega arith)

module _ (state : RawState) (old new : Moment) (did : Did) (t : Tells old state) (f : Facts state old new did) where
  abbrev held : Places
  held = remembered old.machine.engine.held state.regs

  abbrev outcome : Outcome
  outcome = outcome_of did f.left.held f.left.regs

  rung : AllRung state.regs.ring
  rung = rung_told state old (partly old state t)

  between : state.regs.stopped ≡ false → IsBetweenTasks state.regs
  between = let P : Registers → Type 0 = λ r. r.stopped ≡ false → IsBetweenTasks r in subst P (sym t.regs) t.between

  has : state.regs.stopped ≡ false → Has held state.regs state.tasks
  has on = keeps_has held state.regs state.tasks (f.keeps on)

  -- nothing crossed the bus: only registers changed
  silently : (d : Did) (left : Registers) (due : Due) → IsDue (places_of state.tasks) state.regs state.memory due
      → Acts due state d (with_registers state left) → Silent (behind_of old) (behind_of new) outcome (outcome_of d held left)
      → new.machine.memory ≡ state.memory → AllRung left.ring → (left.stopped ≡ false → Has held left state.tasks)
      → (left.stopped ≡ false → IsBetweenTasks left) → IsDone state did new
  silently d left due is_due acts s memory rings tasks idle =
      done_by state (with_registers state left) new did d (ap (λ (o : Outcome). o.did) s.outcome)
      (record { due = due; is_due = is_due; acts = acts })
      (tells_from new (with_registers state left) held left (leaves_as new did d f.left.held held f.left.regs left f.leaves s.outcome) (sym memory) refl
      (behinds_same old new state.card s.link (behinds old state (partly old state t))) rings tasks idle)

  rested : rests state.regs ≡ true → Does CardMade (behind_of old) (behind_of new) (host_of held state.regs) state.memory new.machine.memory outcome Rest → IsDone state did new
  rested r d = silently Idle state.regs Rest (rest_is_due (places_of state.tasks) state.regs state.memory r) (refl, refl) d.0 d.1 rung has between

  module _ (r : rests state.regs ≡ false) where
    on : state.regs.stopped ≡ false
    on = running state.regs r

    is_told : (due : Due) → IsDue held state.regs state.memory due → IsDue (places_of state.tasks) state.regs state.memory due
    is_told due d = due_told held state.regs state.memory state.tasks due (length-remembered old.machine.engine.held state.regs) rung (f.keeps on) (between on) d

    ticked : IsDue held state.regs state.memory Tick
        → Does CardMade (behind_of old) (behind_of new) (host_of held state.regs) state.memory new.machine.memory outcome Tick → IsDone state did new
    ticked i d =
        let left = ticked_in state.regs in
        let e : left.ring ≡ state.regs.ring = (ticks state.regs).ring in
        silently Idle left Tick (is_told Tick i) (refl, refl) d.0 d.1 (rung_same state.regs.ring left.ring e rung)
        (λ go. has_same held state.regs left state.tasks (has on) e) (λ go. between_same state.regs left (between on) e)

    dropped_so : (slot : ℕ) (why : DropCause) → IsDue held state.regs state.memory (Serve slot) → Means state.memory (list_of state.regs) slot (Err why)
        → Silent (behind_of old) (behind_of new) outcome (outcome_of (Dropped slot why) held (record state.regs { ring = without state.regs.ring slot }))
        → new.machine.memory ≡ state.memory → IsDone state did new
    dropped_so slot why i m s memory =
        let left : Registers = record state.regs { ring = without state.regs.ring slot } in
        silently (Dropped slot why) left (Serve slot) (is_told (Serve slot) i) (record { meaning = Err why; means = m; serves = (refl, refl) }) s memory
        (rung_without state.regs.ring slot rung) (λ go. has_idle held state.regs left state.tasks slot (has on) refl) (λ go. between_without state.regs left slot (between on) refl)

    -- a command crossed the bus, and left the state so
    sent_done : (d : Did) (left : Registers) (command : Command) (after : Host → Result ℕ LinkEnd → Outcome) (holds : Places → Places)
        → (s : IsSent command after state.card state.regs held old new outcome)
        → ((places : Places) → after (host_of places state.regs) (seen s.answer) ≡ outcome_of d (holds places) left)
        → (due : Due) → IsDue held state.regs state.memory due → (Sends command after state d (sent_state state left (plain new.machine.card s.contents))
        → Acts due state d (sent_state state left (plain new.machine.card s.contents))) → new.machine.memory ≡ state.memory → AllRung left.ring
        → (left.stopped ≡ false → Has (holds held) left state.tasks) → (left.stopped ≡ false → IsBetweenTasks left) → IsDone state did new
    sent_done d left command after holds s e due i acts memory rings tasks idle =
        let l = led_so command after state old new did d f.left held holds left f.leaves s e in
        let then = sent_state state left (plain new.machine.card s.contents) in
        done_by state then new did d l.is (record { due = due; is_due = is_told due i; acts = acts l.sends })
        (tells_from new then (holds held) left l.leaves (sym memory) refl s.behind rings tasks idle)

    -- where the engine stopped
    sent_stopped : (cause : Cause) (left : Registers) (command : Command) (after : Host → Result ℕ LinkEnd → Outcome)
        → (s : IsSent command after state.card state.regs held old new outcome)
        → ((places : Places) → after (host_of places state.regs) (seen s.answer) ≡ outcome_of (Stopped cause) places left) → left.stopped ≡ true → left.ring ≡ state.regs.ring
        → (due : Due) → IsDue held state.regs state.memory due → (Sends command after state (Stopped cause) (sent_state state left (plain new.machine.card s.contents))
        → Acts due state (Stopped cause) (sent_state state left (plain new.machine.card s.contents))) → new.machine.memory ≡ state.memory → IsDone state did new
    sent_stopped cause left command after s e stopped ring due i acts memory =
        sent_done (Stopped cause) left command after (λ places. places) s e due i acts memory (rung_same state.regs.ring left.ring ring rung)
        (λ go. absurd (true≢false (sym stopped ∙ go))) (λ go. absurd (true≢false (sym stopped ∙ go)))

    by_direct : (slot : ℕ) (desc : DirectDesc) → IsDue held state.regs state.memory (Serve slot) → Means state.memory (list_of state.regs) slot (Ok (Direct desc))
        → new.machine.memory ≡ state.memory → (s : IsSent (direct_of desc) (λ h. after_direct h slot desc) state.card state.regs held old new outcome)
        → LedDirect state.regs slot desc s.answer → IsDone state did new
    by_direct slot desc i m memory s (direct_stops cause left stopped ring e) =
        sent_stopped cause left (direct_of desc) (λ h. after_direct h slot desc) s e stopped ring (Serve slot) i
        (λ sends. record { meaning = Ok (Direct desc); means = m; serves = sends }) memory
    by_direct slot desc i m memory s (direct_done left stopped ring e) =
        sent_done (DirectDone slot) left (direct_of desc) (λ h. after_direct h slot desc) (λ places. places) s e (Serve slot) i
        (λ sends. record { meaning = Ok (Direct desc); means = m; serves = sends }) memory
        (rung_same (without state.regs.ring slot) left.ring ring (rung_without state.regs.ring slot rung))
        (λ go. has_idle held state.regs left state.tasks slot (has on) ring) (λ go. between_without state.regs left slot (between on) ring)

    by_poll : IsDue held state.regs state.memory Poll → new.machine.memory ≡ state.memory → (s : IsSent (poll_of state.regs) after_poll state.card state.regs held old new outcome)
        → LedPoll state.regs s.answer → IsDone state did new
    by_poll i memory s (poll_stops cause left stopped ring e) =
        sent_stopped cause left (poll_of state.regs) after_poll s e stopped ring Poll i (λ sends. sends) memory
    by_poll i memory s (polls word left stopped ring e) =
        sent_done (SentCommand (poll_of state.regs)) left (poll_of state.regs) after_poll (λ places. places) s e Poll i (λ sends. sends) memory
        (rung_same _ left.ring ring (rung_readied state.regs.ring word rung))
        (λ go. has_readied held state.regs left state.tasks word (has on) ring) (λ go. between_readied state.regs left word (between on) ring)

    named_next : (slot : ℕ) (progress : Progress) → progress_of state.regs.ring slot ≡ progress → progress_of (advanced state.regs.ring slot) slot ≡ next progress
    named_next slot progress e = advanced-same state.regs.ring slot ∙ ap next e

    by_params : (slot : ℕ) (task : DataTask) → (slot < 32) × (progress_of state.regs.ring slot ≡ Rung) → IsDue held state.regs state.memory (Serve slot)
        → Means state.memory (list_of state.regs) slot (Ok (Data task)) → new.machine.memory ≡ state.memory
        → (s : IsSent (params_of slot task.desc) (λ h. after_params h slot task) state.card state.regs held old new outcome)
        → Led state.regs (params_of slot task.desc) slot s.answer (named slot task) → Stage state did new
    by_params slot task is i m memory s (stops cause left stopped ring e) =
        done (sent_stopped cause left (params_of slot task.desc) (λ h. after_params h slot task) s e stopped ring (Serve slot) i
        (λ sends. record { meaning = Ok (Data task); means = m; serves = stops_first sends refl }) memory)
    by_params slot task is i m memory s (goes word answered e) =
        let left = moved_on (responded state.regs (index_of (params_of slot task.desc)) word) slot in
        let d = SentCommand (params_of slot task.desc) in
        let holds : Places → Places = λ places. slice_set places slot (Some (newly_held task)) in
        let l = led_so (params_of slot task.desc) (λ h. after_params h slot task) state old new did d f.left held holds left f.leaves s e in
        let then = sent_state state left (plain new.machine.card s.contents) in
        let at = served_at held state.regs state.memory slot i in
        naming l.is refl (record {
          slot = slot;
          task = task;
          below = is.0;
          due = is_told (Serve slot) i;
          means = m;
          between = then;
          sends = l.sends;
          place = at.0;
          is_at = ap (λ xs. slice_get xs at.0) (order_advanced state.regs.ring slot) ∙ at.1;
          named = named_next slot Rung is.1;
          others = others_advanced state.regs left slot (between on) refl;
          runs = r;
          tells = partly_from new (with_task then slot task) (holds held) left l.leaves (sym memory) refl s.behind (rung_advanced state.regs.ring slot rung)
              (λ go. has_named held state.regs left state.tasks slot task (length-remembered old.machine.engine.held state.regs) is.0 (has on) refl);
        })

    by_meaning : (slot : ℕ) (meaning : Result SlotTask DropCause) → (slot < 32) × (progress_of state.regs.ring slot ≡ Rung) → IsDue held state.regs state.memory (Serve slot)
        → Means state.memory (list_of state.regs) slot meaning
        → ServedAs CardMade (behind_of old) (behind_of new) (host_of held state.regs) slot outcome meaning → new.machine.memory ≡ state.memory → Stage state did new
    by_meaning slot (Ok (Direct desc)) is i m s memory =
        let x = sent_so (direct_of desc) (λ h. after_direct h slot desc) old new state.card state.regs held outcome (behinds old state (partly old state t)) s in
        done (by_direct slot desc i m memory x (led_direct state.regs slot desc x.answer))
    by_meaning slot (Ok (Data task)) is i m s memory =
        let x = sent_so (params_of slot task.desc) (λ h. after_params h slot task) old new state.card state.regs held outcome (behinds old state (partly old state t)) s in
        by_params slot task is i m memory x (led state.regs (params_of slot task.desc) slot x.answer (named slot task))
    by_meaning slot (Err why) is i m s memory = done (dropped_so slot why i m s memory)

    -- the task of a slot that is ready
    module _ (slot : ℕ) (h : HeldTask) (below : slot < 32) (ready : progress_of state.regs.ring slot ≡ Ready) (at : held_at held slot ≡ Some h)
        (is_task : state.tasks slot ≡ Some h.task) (fresh : h.moved ≡ 0) (i : IsDue held state.regs state.memory (Execute slot))
        (memory : new.machine.memory ≡ state.memory) where
      abbrev desc : TaskDesc
      desc = h.task.desc

      acts_so : (d : Did) (after : RawState) → Moves slot h.task state d after → Acts (Execute slot) state d after
      acts_so d after m = let P : Option DataTask → Type 0 = λ o. IsSomeAnd o (λ task. Moves slot task state d after) in subst P (sym is_task) m

      begun_ready : is_begun (progress_of state.regs.ring slot) ≡ true
      begun_ready = ap is_begun ready

      executed_if : (word : ℕ) (error : Bool) → has_error word ≡ error → (places : Places) (regs : Registers)
          → executed slot desc (host_of places regs) word
          ≡ cond error (outcome_of (Finished slot) (slice_set places slot None) (completed (moved_on regs slot) slot desc.int))
          (outcome_of (SentCommand (execute_of slot desc)) places (moved_on regs slot))
      executed_if word error e places regs =
          ap (λ b. cond b (outcome_of (Finished slot) (slice_set places slot None) (completed (moved_on regs slot) slot desc.int))
          (outcome_of (SentCommand (execute_of slot desc)) places (moved_on regs slot))) e

      moved_regs : ℕ → Registers
      moved_regs word = moved_on (responded state.regs (index_of (execute_of slot desc)) word) slot

      -- an answer with an error bit
      by_error : (s : IsSent (execute_of slot desc) (λ g. after_execute g slot desc) state.card state.regs held old new outcome) (word : ℕ)
          → ((places : Places) → after_execute (host_of places state.regs) slot desc (seen s.answer)
          ≡ executed slot desc (host_of places (responded state.regs (index_of (execute_of slot desc)) word)) word)
          → has_error word ≡ true → IsDone state did new
      by_error s word e error =
          let mid : Registers = moved_on (responded state.regs (index_of (execute_of slot desc)) word) slot in
          let left : Registers = completed mid slot desc.int in
          let c = completes mid slot desc.int in
          sent_done (Finished slot) left (execute_of slot desc) (λ g. after_execute g slot desc) (λ places. slice_set places slot None) s
          (λ places. e places ∙ executed_if word true error places (responded state.regs (index_of (execute_of slot desc)) word)) (Execute slot) i
          (λ sends. acts_so (Finished slot) (sent_state state left (plain new.machine.card s.contents)) (refused sends (λ command x. cc x))) memory
          (rung_same (without mid.ring slot) left.ring c.0 (rung_without mid.ring slot (rung_advanced state.regs.ring slot rung)))
          (λ go. has_finished held mid left state.tasks slot (has_advanced held state.regs mid state.tasks slot (has on) refl begun_ready) c.0)
          (λ go. between_ended mid left slot (others_advanced state.regs mid slot (between on) refl) c.0)

      begins : (word : ℕ) → Crosses (execute_of slot desc) (behind_of old) (behind_of new) (Ok word) → has_error word ≡ false
          → HasBegun desc.read slot word (behind_of old) (behind_of new) state.card.contents
      begins word x error = begun desc.read slot word (behind_of old) (behind_of new) state.card.contents t.script t.contents x error

      -- the data phase is open
      by_phase : (s : IsSent (execute_of slot desc) (λ g. after_execute g slot desc) state.card state.regs held old new outcome) (word : ℕ) → s.answer ≡ Ok word
          → ((places : Places) → after_execute (host_of places state.regs) slot desc (seen s.answer)
          ≡ executed slot desc (host_of places (responded state.regs (index_of (execute_of slot desc)) word)) word)
          → has_error word ≡ false → Stage state did new
      by_phase s word answered e error =
          let left : Registers = moved_on (responded state.regs (index_of (execute_of slot desc)) word) slot in
          let d = SentCommand (execute_of slot desc) in
          let l = led_so (execute_of slot desc) (λ g. after_execute g slot desc) state old new did d f.left held (λ places. places) left f.leaves s
          (λ places. e places ∙ executed_if word false error places (responded state.regs (index_of (execute_of slot desc)) word)) in
          let start = sent_state state left (plain new.machine.card s.contents) in
          let C : Result ℕ Dark → Type 0 = λ a. Crosses (execute_of slot desc) (behind_of old) (behind_of new) (seen a) in
          let b = begins word (subst C answered s.crossed) error in
          let place = executed_at held state.regs state.memory slot i in
          let active : progress_of left.ring slot ≡ Active = named_next slot Ready ready in
          let T : PlainCard → Type 0 = λ c. task_to_execute (card_of c) desc.read slot ≡ Some b.queued in
          let z = moving_none start h.task b.queued in
          let H : Progress → Option HeldTask → Type 0 = λ p o. left_at p o ≡ Some (record { task = h.task; progress = Active; moved = 0 }) in
          moving l.is refl (record {
            slot = slot;
            task = h.task;
            queued = b.queued;
            command = execute_of slot desc;
            start = start;
            k = 0;
            below = below;
            due = is_told (Execute slot) i;
            is_task = is_task;
            taken = subst T (sym t.card) b.taken;
            direction = b.direction;
            sends = l.sends;
            place = place.0;
            is_at = ap (λ xs. slice_get xs place.0) (order_advanced state.regs.ring slot) ∙ place.1;
            active = active;
            others = others_advanced state.regs left slot (between on) refl;
            runs = r;
            within = omega arith;
            phase = b.phase ∙ ap Some (phase_none b.queued);
            held = ap (λ places. held_at places slot) l.leaves.held ∙ noted_at held left slot below
                ∙ subst (λ p. H p (held_at held slot)) (sym active) (subst (H Active) (sym at) (ap (λ n. Some (record h { progress = Active; moved = n })) fresh));
            tells = partly_from new (moving_state start h.task b.queued 0) held left l.leaves (ap (λ (x : RawState). x.memory) z ∙ sym memory) refl
                (let B : RawState → Type 0 = λ x. Behinds new x.card in subst B (sym z) s.behind) (rung_advanced state.regs.ring slot rung)
                (λ go. has_advanced held state.regs left state.tasks slot (has on) refl begun_ready);
          })

      by_word : (s : IsSent (execute_of slot desc) (λ g. after_execute g slot desc) state.card state.regs held old new outcome) (word : ℕ) (error : Bool) → s.answer ≡ Ok word
          → ((places : Places) → after_execute (host_of places state.regs) slot desc (seen s.answer)
          ≡ executed slot desc (host_of places (responded state.regs (index_of (execute_of slot desc)) word)) word)
          → has_error word ≡ error → Stage state did new
      by_word s word true answered e error = done (by_error s word e error)
      by_word s word false answered e error = by_phase s word answered e error

      by_execute : (s : IsSent (execute_of slot desc) (λ g. after_execute g slot desc) state.card state.regs held old new outcome)
          → Led state.regs (execute_of slot desc) slot s.answer (executed slot desc) → Stage state did new
      by_execute s (stops cause left stopped ring e) =
          done (sent_stopped cause left (execute_of slot desc) (λ g. after_execute g slot desc) s e stopped ring (Execute slot) i
          (λ sends. acts_so (Stopped cause) (sent_state state left (plain new.machine.card s.contents)) (refused sends (λ command x. cc x))) memory)
      by_execute s (goes word answered e) = by_word s word (has_error word) answered e refl

    -- whatever is due between tasks
    by_due : (due : Due) → IsBetweenDue due → IsDue held state.regs state.memory due → HasItsSlot held state.regs due
        → Does CardMade (behind_of old) (behind_of new) (host_of held state.regs) state.memory new.machine.memory outcome due → Stage state did new
    by_due due rest i slot d = done (silently Idle state.regs Rest (is_told Rest i) (refl, refl) d.0 d.1 rung has between)
    by_due due tick i slot d = done (ticked i d)
    by_due due poll i slot d =
        let x = sent_so (poll_of state.regs) after_poll old new state.card state.regs held outcome (behinds old state (partly old state t)) d.0 in
        done (by_poll i d.1 x (led_poll state.regs x.answer))
    by_due due (serve slot) i is d = by_meaning slot d.0.meaning is i d.0.means d.0.serves d.1
    by_due due (execute slot) i is d =
        let k = f.keeps on slot is.below (ap is_begun is.is_at) in
        let E : HeldTask → Type 0 = λ h. Exchanges CardMade (behind_of old) (behind_of new) (execute_of slot h.task.desc) outcome
        (after_execute (host_of held state.regs) slot h.task.desc) in
        let b = found (held_at held slot)
        (λ h. (h.progress ≡ progress_of state.regs.ring slot) × (state.tasks slot ≡ Some h.task) × (progress_of state.regs.ring slot ≢ Active → h.moved ≡ 0)) E k d.0 in
        let x = sent_so (execute_of slot b.task.task.desc) (λ g. after_execute g slot b.task.task.desc) old new state.card state.regs held outcome
        (behinds old state (partly old state t)) b.second in
        by_execute slot b.task is.below is.is_at b.at b.first.1 (b.first.2 (ready_still (progress_of state.regs.ring slot) is.is_at)) i d.1 x
        (led state.regs (execute_of slot b.task.task.desc) slot x.answer (executed slot b.task.task.desc))

-- an event that begins between tasks
pub step_between : (state : RawState) (old new : Moment) (did : Did) → Tells old state → Happens old did new → Stage state did new
step_between state old new did t e = by_rests (rests state.regs) refl where
  f : Facts state old new did
  f = facts state old new did (partly old state t) e

  by_rests : (resting : Bool) → rests state.regs ≡ resting → Stage state did new
  by_rests true r =
      let D : Due → Type 0 = λ due. Does CardMade (behind_of old) (behind_of new) (host_of (remembered old.machine.engine.held state.regs) state.regs) state.memory new.machine.memory
      (outcome_of did f.left.held f.left.regs) due in
      done (rested state old new did t f r (subst D (rests_due (remembered old.machine.engine.held state.regs) state.regs state.memory f.due r f.is_due) f.does))
  by_rests false r =
      by_due state old new did t f r f.due
      (not_under_way (remembered old.machine.engine.held state.regs) state.regs state.memory f.due (between state old new did t f (running state.regs r)) f.is_due) f.is_due f.slot f.does
