-- Each event after which the engine goes on leaves less to do.
use Rattle.std.proofs.Common.{◌≡◌, ◌≢◌, ◌<◌, ◌≤◌, ◌+◌, ◌-◌, ◌==◌, ◌&&◌, ℕ, length, refl, sym, ◌∙◌, ap, subst, arith, inl, inr}
use Rattle.std.specs.Prelude.{Bool, true, false, not, nat_lt, Option, Some, None, is_some, IfSome, slice_set, cond, Result, Ok, Err, List, [], ◌∷◌, map, take}
use Rattle.std.specs.Bool.{MatchBool}
use Rattle.std.specs.List.{find}
use Rattle.std.specs.Option.{IsSomeAnd, MatchOption, option_map, option_map_or}
use Rattle.std.proofs.lemmas.Bool.{false≢true}
use Rattle.host_mem.specs.Memory.{Memory}
use Rattle.bus_link.specs.Link.{Call, is_poll}
use Rattle.bus_link.specs.declared.link.Cause.{Cause}
use Rattle.bus_link.specs.declared.link.Cause.TheVariants.{Response}
use Rattle.bus_link.specs.declared.link.LinkEnd.{LinkEnd}
use Rattle.cmd_words.specs.declared.command.Command.{Command}
use Rattle.cmd_words.specs.declared.command.Command.TheVariants.{Address as StartSector, Status as StatusOf}
use Rattle.cmd_words.specs.Command.{index_of}
use Rattle.cq_desc.specs.declared.direct.DirectDesc.{DirectDesc}
use Rattle.cq_desc.specs.Fields.{ACT, ACT_TASK, BLOCK_COUNT, VALID, field}
use Rattle.cq_desc.specs.declared.task.TaskDesc.{TaskDesc}
use Rattle.cq_desc.specs.declared.fault.DescFault.TheVariants.{BadAct, NotValid}
use Rattle.cq_desc.specs.Task.{task_of, task_read}
use Rattle.cq_words.proofs.FieldLaws.{field_of-lt}
use Rattle.cq_words.specs.Table.{is_set, number_in}
use Rattle.cq_regs.specs.declared.slots.Progress.{Progress}
use Rattle.cq_regs.specs.declared.slots.Progress.TheVariants.{Idle, Rung, Named, Sent, Ready, Active}
use Rattle.cq_regs.specs.declared.slots.Ringed.{Ringed}
use Rattle.cq_regs.specs.State.{Registers}
use Rattle.cq_regs.specs.Slots.{advanced, has_bit, made_ready, progress_of, readied, without}
use Rattle.cq_regs.specs.Effects.{completed, moved_on}
use Rattle.cq_regs.proofs.ProgressLaws.{progress_made_ready}
use Rattle.cq_task.specs.declared.list.TaskList.{TaskList}
use Rattle.cq_task.specs.declared.slot.DataTask.{DataTask}
use Rattle.cq_task.specs.declared.slot.DropCause.{DropCause}
use Rattle.cq_task.specs.declared.slot.SlotTask.{SlotTask}
use Rattle.cq_task.specs.declared.slot.SlotTask.TheVariants.{Direct as DirectTask, Data}
use Rattle.cq_task.specs.Meaning.{Means, MeansData, MeansDirect}
use Rattle.cq_task.specs.Place.{chain_of, first_word, is_direct}
use Rattle.cq_schedule.specs.declared.held.HeldTask.{HeldTask}
use Rattle.cq_schedule.specs.declared.rules.Due.{Due}
use Rattle.cq_schedule.specs.declared.rules.Due.TheVariants.{Rest, Block as NextBlock, Close, Address, Serve, Execute, Poll, Tick}
use Rattle.cq_schedule.specs.Held.{Places, held_at, newly_held, noted, remembered, same, with_block}
use Rattle.cq_schedule.specs.Meaning.{HasItsSlot, IsDue, IsDueThen, before_serving, list_of, next_of_phase, rests}
use Rattle.cq_schedule.specs.Order.{blocks_of, first_at, first_high, moved_of, order_of}
use Rattle.piece_data.specs.Data.{block_of}
use Rattle.cq_engine.specs.declared.did.Did.{Did}
use Rattle.cq_engine.specs.declared.did.Did.TheVariants.{Finished, Sent as SentCommand}
use Rattle.cq_engine.specs.Words.{command_error, direct_of, execute_of, has_error, is_masked, params_of}
use Rattle.cq_engine.specs.Outcome.{Holding, Host, Outcome, heard, judged, responded, stop, stopped_with, with_regs, word_in}
use Rattle.cq_engine.specs.After.{addressed, after_address, after_block, after_close, after_command, after_execute, after_params, direct_done, direct_ended, direct_heard, executed, finished, led_on, named, phase_ended, polled}
use Rattle.cq_engine.specs.Event.{Does, Event, Gives, Serves, Takes}
use Rattle.cq_engine.proofs.Places.{length-remembered, set-other, set-same}
use Rattle.cq_engine.proofs.SlotLaws.{advanced-other, completes, without-other, without-same}
use Rattle.raw_machine.specs.Running.{IsBelow, goes_on}
use Rattle.raw_machine.proofs.WorkLeft.{Falls, advanced_falls, work_falls, work_left, work_noted, blocks_in, moved_in, one_falls, todo, todo_at, without_falls}

-- from the slots and places before, the outcome leaves less to do where the engine goes on
abbrev pub GoesDown : Places → List Ringed → Outcome → Type 0
GoesDown held ring outcome =
    goes_on outcome.did outcome.host.regs ≡ true → Falls held outcome.host.held ring outcome.host.regs.ring

along : (held : Places) (ring : List Ringed) (left after : Outcome) → left ≡ after → GoesDown held ring after → GoesDown held ring left
along held ring left after e k = let P : Outcome → Type 0 = λ o. GoesDown held ring o in subst P (sym e) k

masked_down : (held : Places) (host : Host) (index slot word : ℕ) (next : Host → ℕ → Outcome) (masked : Bool)
    → GoesDown held host.regs.ring (next (with_regs host (responded host.regs index word)) word)
    → GoesDown held host.regs.ring (led_on host (cond masked (Err (Response word slot)) (Ok word))
    (cond masked (stopped_with (responded host.regs index word) (command_error index slot)) (responded host.regs index word)) next)
masked_down held host index slot word next true k = λ goes. absurd (false≢true goes)
masked_down held host index slot word next false k = k

word_down : (held : Places) (host : Host) (index slot : ℕ) (word : Result ℕ Cause) (next : Host → ℕ → Outcome)
    → ((w : ℕ) → GoesDown held host.regs.ring (next (with_regs host (responded host.regs index w)) w))
    → GoesDown held host.regs.ring (led_on host (judged host.regs slot word) (heard host.regs index slot word) next)
word_down held host index slot (Ok word) next k = masked_down held host index slot word next (is_masked host.regs word) (k word)
word_down held host index slot (Err cause) next k = λ goes. absurd (false≢true goes)

command_down : (held : Places) (host : Host) (command : Command) (slot : ℕ) (answer : Result ℕ LinkEnd) (next : Host → ℕ → Outcome)
    → ((w : ℕ) → GoesDown held host.regs.ring (next (with_regs host (responded host.regs (index_of command) w)) w))
    → GoesDown held host.regs.ring (after_command host command slot answer next)
command_down held host command slot answer next k = word_down held host (index_of command) slot (word_in answer (Some slot)) next k

-- the task that is read has few blocks
few_if : (word : ℕ) (valid known : Bool) (desc : TaskDesc)
    → cond valid (cond known (Ok (task_of word)) (Err BadAct)) (Err NotValid) ≡ Ok desc → desc.blocks < 65536
few_if word true true desc e =
    let P : TaskDesc → Type 0 = λ d. d.blocks < 65536 in
    let same : task_of word ≡ desc = cc e in
    subst P same (field_of-lt word BLOCK_COUNT.low BLOCK_COUNT.width)
few_if word true false desc e = absurd (cc e)
few_if word false known desc e = absurd (cc e)

few_read : (word : ℕ) (desc : TaskDesc) → task_read word ≡ Ok desc → desc.blocks < 65536
unfolding task_read
few_read word desc e = few_if word (is_set word VALID) (number_in word ACT == ACT_TASK) desc e

means_few_if : (memory : Memory) (wide : Bool) (word chain : ℕ) (task : DataTask) (direct : Bool)
    → MatchBool direct (MeansDirect word (Ok (Data task))) (MeansData memory wide word chain (Ok (Data task))) → task.desc.blocks < 65536
means_few_if memory wide word chain task true m = absurd m
means_few_if memory wide word chain task false m = few_read word task.desc m.0

means_few : (memory : Memory) (list : TaskList) (slot : ℕ) (task : DataTask) → Means memory list slot (Ok (Data task)) → task.desc.blocks < 65536
means_few memory list slot task (inl m) = absurd (cc m.1)
means_few memory list slot task (inr m) =
    means_few_if memory list.wide (first_word memory list slot) (chain_of list slot) task (is_direct list slot) m.1

-- a slot that is rung has its task named
params_down : (host : Host) (slot : ℕ) (task : DataTask) (answer : Result ℕ LinkEnd) → length host.held ≡ 32 → slot < 32
    → progress_of host.regs.ring slot ≡ Rung → task.desc.blocks < 65536
    → GoesDown host.held host.regs.ring (after_params host slot task answer)
params_down host slot task answer long below is few =
    command_down host.held host (params_of slot task.desc) slot answer (named slot task)
    (λ w goes.
    let inside : slot < length host.held = omega (arith, below, long) in
    let filled = slice_set host.held slot (Some (newly_held task)) in
    let at : held_at filled slot ≡ Some (newly_held task) = set-same host.held slot (Some (newly_held task)) inside in
    let less : task.desc.blocks + 4 < 65540 = omega arith in
    let P : Option HeldTask → Type 0 = λ place. todo Named place < 65540 in
    advanced_falls host.held filled host.regs.ring slot Rung below is
    (λ other apart. set-other host.held slot other (Some (newly_held task)) apart) (subst P (sym at) less))

address_down : (host : Host) (slot : ℕ) (desc : TaskDesc) (answer : Result ℕ LinkEnd) → slot < 32
    → progress_of host.regs.ring slot ≡ Named → GoesDown host.held host.regs.ring (after_address host slot desc answer)
address_down host slot desc answer below is =
    command_down host.held host (StartSector desc.start) slot answer (addressed slot desc)
    (λ w goes.
    let less : blocks_in (held_at host.held slot) + 3 < blocks_in (held_at host.held slot) + 4 = omega arith in
    advanced_falls host.held host.held host.regs.ring slot Named below is (λ other apart. refl) less)

-- a slot that had something to do is complete
finished_down : (host : Host) (slot : ℕ) (desc : TaskDesc) → slot < 32 → 0 < todo_at host.held host.regs.ring slot
    → Falls host.held (finished host slot desc).held host.regs.ring (finished host slot desc).regs.ring
finished_down host slot desc below more =
    let P : List Ringed → Type 0 = λ ring. Falls host.held (slice_set host.held slot None) host.regs.ring ring in
    subst P (sym (completes host.regs slot desc.int).0)
    (without_falls host.held (slice_set host.held slot None) host.regs.ring slot below (λ other apart. set-other host.held slot other None apart) more)

executed_down : (host : Host) (slot : ℕ) (desc : TaskDesc) (error : Bool) → slot < 32 → progress_of host.regs.ring slot ≡ Ready
    → GoesDown host.held host.regs.ring (cond error (record { did = Finished slot; host = finished (with_regs host (moved_on host.regs slot)) slot desc })
    (record { did = SentCommand (execute_of slot desc); host = with_regs host (moved_on host.regs slot) }))
executed_down host slot desc true below is = λ goes.
    let ring = advanced host.regs.ring slot in
    let P : List Ringed → Type 0 = λ r. Falls host.held (slice_set host.held slot None) host.regs.ring r in
    let less : todo Idle (held_at (slice_set host.held slot None) slot) < todo Ready (held_at host.held slot) = omega arith in
    subst P (sym (completes (moved_on host.regs slot) slot desc.int).0)
    (one_falls host.held (slice_set host.held slot None) host.regs.ring (without ring slot) slot below
    (λ other apart. without-other ring slot other apart ∙ advanced-other host.regs.ring slot other apart)
    (λ other apart. set-other host.held slot other None apart) (rw (without-same ring slot, is) less))
executed_down host slot desc false below is = λ goes.
    let place = held_at host.held slot in
    let less : blocks_in place - moved_in place + 1 < blocks_in place + 2 = omega arith in
    advanced_falls host.held host.held host.regs.ring slot Ready below is (λ other apart. refl) less

execute_down : (host : Host) (slot : ℕ) (desc : TaskDesc) (answer : Result ℕ LinkEnd) → slot < 32
    → progress_of host.regs.ring slot ≡ Ready → GoesDown host.held host.regs.ring (after_execute host slot desc answer)
execute_down host slot desc answer below is =
    command_down host.held host (execute_of slot desc) slot answer (executed slot desc)
    (λ w. executed_down (with_regs host (responded host.regs (index_of (execute_of slot desc)) w)) slot desc (has_error w) below is)

-- a slot is idle
idle_down : (host : Host) (slot : ℕ) (ring' : List Ringed) → ring' ≡ without host.regs.ring slot → slot < 32
    → progress_of host.regs.ring slot ≡ Rung → Falls host.held host.held host.regs.ring ring'
idle_down host slot ring' e below is =
    let P : List Ringed → Type 0 = λ ring. Falls host.held host.held host.regs.ring ring in
    let Q : Progress → Type 0 = λ p. 0 < todo p (held_at host.held slot) in
    let more : 0 < todo Rung (held_at host.held slot) = omega arith in
    subst P (sym e) (without_falls host.held host.held host.regs.ring slot below (λ other apart. refl) (subst Q (sym is) more))

direct_done_down : (host : Host) (slot : ℕ) (desc : DirectDesc) → slot < 32 → progress_of host.regs.ring slot ≡ Rung
    → GoesDown host.held host.regs.ring (direct_done slot desc host)
direct_done_down host slot desc below is = λ goes.
    idle_down host slot (completed host.regs slot desc.int).ring (completes host.regs slot desc.int).0 below is

heard_if : (host : Host) (slot : ℕ) (desc : DirectDesc) (word : ℕ) (stops : Bool) → slot < 32 → progress_of host.regs.ring slot ≡ Rung
    → GoesDown host.held host.regs.ring (cond stops (stop host (command_error (index_of (direct_of desc)) slot) (Response word slot)) (direct_done slot desc host))
heard_if host slot desc word true below is = λ goes. absurd (false≢true goes)
heard_if host slot desc word false below is = direct_done_down host slot desc below is

ended_if : (host : Host) (slot : ℕ) (desc : DirectDesc) (word : ℕ) (silent : Bool) → slot < 32 → progress_of host.regs.ring slot ≡ Rung
    → GoesDown host.held host.regs.ring (cond silent (direct_done slot desc host) (direct_heard slot desc host word))
ended_if host slot desc word true below is = direct_done_down host slot desc below is
ended_if host slot desc word false below is =
    heard_if (with_regs host (record (responded host.regs (index_of (direct_of desc)) word) { direct_response = word })) slot desc word
    (is_masked host.regs word && not (is_poll (direct_of desc))) below is

direct_down : (host : Host) (slot : ℕ) (desc : DirectDesc) (word : Result ℕ Cause) → slot < 32 → progress_of host.regs.ring slot ≡ Rung
    → GoesDown host.held host.regs.ring (direct_ended host slot desc word)
direct_down host slot desc (Ok word) below is = ended_if host slot desc word (desc.resp == 0) below is
direct_down host slot desc (Err cause) below is = λ goes. absurd (false≢true goes)

-- the end of a data phase
ended_down : (host : Host) (slot : ℕ) (desc : TaskDesc) (word : Result ℕ Cause) → slot < 32 → 0 < todo_at host.held host.regs.ring slot
    → GoesDown host.held host.regs.ring (phase_ended host slot desc word)
ended_down host slot desc (Ok word) below more = λ goes. finished_down host slot desc below more
ended_down host slot desc (Err cause) below more = λ goes. absurd (false≢true goes)

active_more : (host : Host) (slot : ℕ) → progress_of host.regs.ring slot ≡ Active → 0 < todo_at host.held host.regs.ring slot
active_more host slot is =
    let place = held_at host.held slot in
    let Q : Progress → Type 0 = λ p. 0 < todo p place in
    let more : 0 < blocks_in place - moved_in place + 1 = omega arith in
    subst Q (sym is) more

close_down : (host : Host) (slot : ℕ) (desc : TaskDesc) (answer : Result ℕ LinkEnd) → slot < 32 → progress_of host.regs.ring slot ≡ Active
    → GoesDown host.held host.regs.ring (after_close host slot desc answer)
close_down host slot desc answer below is =
    ended_down host slot desc (judged host.regs slot (word_in answer (Some slot))) below (active_more host slot is)

-- a block more has moved
block_less : (place : Option HeldTask) → moved_in place < blocks_in place → todo Active (option_map with_block place) < todo Active place
block_less None h = absurd (omega arith)
block_less (Some held) h = let less : held.task.desc.blocks - (held.moved + 1) + 1 < held.task.desc.blocks - held.moved + 1 = omega arith in less

block_down : (host : Host) (slot : ℕ) (desc : TaskDesc) (answer : Result (Unit {0}) LinkEnd) → length host.held ≡ 32 → slot < 32
    → progress_of host.regs.ring slot ≡ Active → moved_in (held_at host.held slot) < blocks_in (held_at host.held slot)
    → GoesDown host.held host.regs.ring (after_block host slot desc answer)
block_down host slot desc (Ok _) long below is more = λ goes.
    let inside : slot < length host.held = omega (arith, below, long) in
    let place = option_map with_block (held_at host.held slot) in
    let at : held_at (slice_set host.held slot place) slot ≡ place = set-same host.held slot place inside in
    one_falls host.held (slice_set host.held slot place) host.regs.ring host.regs.ring slot below (λ other apart. refl)
    (λ other apart. set-other host.held slot other place apart) (rw (is, at) (block_less (held_at host.held slot) more))
block_down host slot desc (Err end) long below is more = close_down host slot desc (Err end) below is

-- at a poll no slot is ready
none_ready_then : (served high ready sent : Option ℕ)
    → Poll ≡ option_map_or Serve served (option_map_or Execute high (option_map_or Execute ready (option_map_or (λ _. Poll) sent Tick))) → ready ≡ None
none_ready_then (Some slot) high ready sent e = absurd (cc e)
none_ready_then None (Some slot) ready sent e = absurd (cc e)
none_ready_then None None (Some slot) sent e = absurd (cc e)
none_ready_then None None None sent e = refl

phase_is : (held : Places) (slot : ℕ) (more : Bool) (due : Due)
    → Some (cond more (NextBlock slot (moved_of held slot)) (Close slot)) ≡ Some due → due ≢ Poll
phase_is held slot true due e p = absurd (cc (e, p))
phase_is held slot false due e p = absurd (cc (e, p))

not_first : (held : Places) (resting : Bool) (active named : Option ℕ) (due : Due)
    → cond resting (Some Rest) (option_map_or (λ slot. Some (next_of_phase held slot)) active (option_map Address named)) ≡ Some due → due ≢ Poll
not_first held true active named due e p = absurd (cc (e, p))
not_first held false (Some slot) named due e p = phase_is held slot (nat_lt (moved_of held slot) (blocks_of held slot)) due e p
not_first held false None (Some slot) due e p = absurd (cc (e, p))
not_first held false None None due e p = absurd (cc e)

due_at_poll : (held : Places) (regs : Registers) (memory : Memory) (first : Option Due) → before_serving held regs ≡ first
    → MatchOption first (IsDueThen held regs memory Poll) (λ due. Poll ≡ due) → first_at Ready regs.ring ≡ None
due_at_poll held regs memory None is m =
    none_ready_then m.served (first_high held regs.ring) (first_at Ready regs.ring) (first_at Sent regs.ring) m.is
due_at_poll held regs memory (Some due) is m = absurd (not_first held (rests regs) (first_at Active regs.ring) (first_at Named regs.ring) due is (sym m))

none_ready : (held : Places) (regs : Registers) (memory : Memory) → IsDue held regs memory Poll → first_at Ready regs.ring ≡ None
none_ready held regs memory h = due_at_poll held regs memory (before_serving held regs) refl h

-- what is found passes the test, and not a test that nothing passes
found_if : (p q : ℕ → Bool) (xs : List ℕ) (x s : ℕ) (b c : Bool) → p x ≡ b → q x ≡ c → cond b (Some x) (find p xs) ≡ Some s
    → cond c (Some x) (find q xs) ≡ None → (find p xs ≡ Some s → find q xs ≡ None → (p s ≡ true) × (q s ≡ false)) → (p s ≡ true) × (q s ≡ false)
found_if p q xs x s b true e f found none rest = absurd (cc none)
found_if p q xs x s true false e f found none rest =
    let same : x ≡ s = cc found in
    let P : ℕ → Type 0 = λ n. (p n ≡ true) × (q n ≡ false) in
    subst P same (e, f)
found_if p q xs x s false false e f found none rest = rest found none

found : (p q : ℕ → Bool) (xs : List ℕ) (s : ℕ) → find p xs ≡ Some s → find q xs ≡ None → (p s ≡ true) × (q s ≡ false)
found p q [] s e n = absurd (cc e)
found p q (x ∷ xs) s e n = found_if p q xs x s (p x) (q x) refl refl e n (λ e n. found p q xs s e n)

-- a poll leaves the order
same_slot : (b : Bool) (r : Ringed) (p : Progress) → (cond b (record r { progress = p }) r).slot ≡ r.slot
same_slot true r p = refl
same_slot false r p = refl

same_order : (ring : List Ringed) (word : ℕ) → map (λ r. r.slot) (made_ready ring word) ≡ map (λ r. r.slot) ring
same_order [] word = refl
same_order (r ∷ ring) word =
    ap (λ slot. slot ∷ map (λ r. r.slot) (made_ready ring word)) (same_slot (has_bit word r.slot) r (readied r.progress))
    ∙ ap (λ slots. r.slot ∷ slots) (same_order ring word)

readied_least : (b : Bool) (p : Progress) (place : Option HeldTask) → todo (cond b (readied p) p) place ≤ todo p place
readied_least false p place = omega arith
readied_least true Idle place = omega arith
readied_least true Rung place = omega arith
readied_least true Named place = omega arith
readied_least true Sent place = omega arith
readied_least true Ready place = omega arith
readied_least true Active place = omega arith

readied_less : (b : Bool) (p : Progress) (place : Option HeldTask) → same p Ready ≡ false → same (cond b (readied p) p) Ready ≡ true
    → todo (cond b (readied p) p) place < todo p place
readied_less false p place before then = absurd (false≢true (sym before ∙ then))
readied_less true Idle place before then = absurd (false≢true then)
readied_less true Rung place before then = absurd (false≢true then)
readied_less true Named place before then = absurd (false≢true then)
readied_less true Sent place before then = omega arith
readied_less true Ready place before then = absurd (false≢true (sym before))
readied_less true Active place before then = absurd (false≢true then)

ready_falls : (held : Places) (ring : List Ringed) (word : ℕ) (ready : Option ℕ) → first_at Ready (made_ready ring word) ≡ ready → is_some ready ≡ true
    → IfSome ready (λ slot. slot < 32) → first_at Ready ring ≡ None → Falls held held ring (made_ready ring word)
ready_falls held ring word None e some below none = absurd (false≢true some)
ready_falls held ring word (Some slot) e some below none =
    let p : ℕ → Bool = λ s. same (progress_of (made_ready ring word) s) Ready in
    let q : ℕ → Bool = λ s. same (progress_of ring s) Ready in
    let t = found p q (order_of ring) slot (ap (λ slots. find p (take 32 slots)) (sym (same_order ring word)) ∙ e) none in
    let made : (s : ℕ) → progress_of (made_ready ring word) s ≡ cond (has_bit word s) (readied (progress_of ring s)) (progress_of ring s) =
    λ s. progress_made_ready ring word s in
    let then : same (cond (has_bit word slot) (readied (progress_of ring slot)) (progress_of ring slot)) Ready ≡ true =
    ap (λ r. same r Ready) (sym (made slot)) ∙ t.0 in
    record {
      least = λ s within.
          let P : Progress → Type 0 = λ r. todo r (held_at held s) ≤ todo_at held ring s in
          subst P (sym (made s)) (readied_least (has_bit word s) (progress_of ring s) (held_at held s));
      slot = slot;
      below = below;
      less =
          let P : Progress → Type 0 = λ r. todo r (held_at held slot) < todo_at held ring slot in
          subst P (sym (made slot)) (readied_less (has_bit word slot) (progress_of ring slot) (held_at held slot) t.1 then);
    }

poll_down : (host : Host) (rca : ℕ) (word : Result ℕ Cause) → first_at Ready host.regs.ring ≡ None
    → IsBelow (polled host (StatusOf true rca) word).did (polled host (StatusOf true rca) word).host.regs
    → GoesDown host.held host.regs.ring (polled host (StatusOf true rca) word)
poll_down host rca (Err cause) none below = λ goes. absurd (false≢true goes)
poll_down host rca (Ok word) none below = λ goes.
    ready_falls host.held host.regs.ring word (first_at Ready (made_ready host.regs.ring word)) refl goes (below refl) none

some_task : (place : Option HeldTask) (P : HeldTask → Type 0) → IsSomeAnd place P → (h : HeldTask) × P h
some_task None P h = absurd h
some_task (Some held) P h = (held, h)

served_down : {L : Type 0} (made : L → Call → L → Type 0) (old new : L) (host : Host) (memory : Memory) (slot : ℕ) (outcome : Outcome)
    (meaning : Result SlotTask DropCause) → length host.held ≡ 32 → slot < 32 → progress_of host.regs.ring slot ≡ Rung
    → Means memory (list_of host.regs) slot meaning → Serves made old new host slot outcome meaning → GoesDown host.held host.regs.ring outcome
served_down made old new host memory slot outcome (Ok (DirectTask desc)) long below is m d =
    along host.held host.regs.ring outcome _ d.outcome (direct_down host slot desc (word_in d.answer (Some slot)) below is)
served_down made old new host memory slot outcome (Ok (Data task)) long below is m d =
    along host.held host.regs.ring outcome _ d.outcome
    (params_down host slot task d.answer long below is (means_few memory (list_of host.regs) slot task m))
served_down made old new host memory slot outcome (Err why) long below is m d =
    along host.held host.regs.ring outcome _ d.outcome (λ goes. idle_down host slot (without host.regs.ring slot) refl below is)

moves_down : {L : Type 0} (made : L → Call → L → Type 0) (old new : L) (host : Host) (memory memory' : Memory) (slot k : ℕ) (outcome : Outcome)
    (task : DataTask) (read : Bool) → length host.held ≡ 32 → slot < 32 → progress_of host.regs.ring slot ≡ Active
    → moved_in (held_at host.held slot) < blocks_in (held_at host.held slot)
    → MatchBool read (Takes made old new task.pieces k memory memory' outcome (after_block host slot task.desc))
    (Gives made old new (block_of memory task.pieces k) outcome (after_block host slot task.desc) × (memory' ≡ memory))
    → GoesDown host.held host.regs.ring outcome
moves_down made old new host memory memory' slot k outcome task true long below is more d =
    along host.held host.regs.ring outcome _ d.outcome (block_down host slot task.desc d.answer long below is more)
moves_down made old new host memory memory' slot k outcome task false long below is more d =
    along host.held host.regs.ring outcome _ d.0.outcome (block_down host slot task.desc d.0.answer long below is more)

-- whatever was due, where the engine goes on after it there is less to do
pub does_down : {L : Type 0} (made : L → Call → L → Type 0) (old new : L) (host : Host) (memory memory' : Memory) (outcome : Outcome) (due : Due)
    → length host.held ≡ 32 → IsDue host.held host.regs memory due → HasItsSlot host.held host.regs due
    → Does made old new host memory memory' outcome due → IsBelow outcome.did outcome.host.regs → GoesDown host.held host.regs.ring outcome
does_down made old new host memory memory' outcome Rest long is i d below =
    along host.held host.regs.ring outcome _ d.0.outcome (λ goes. absurd (false≢true goes))
does_down made old new host memory memory' outcome Tick long is i d below =
    along host.held host.regs.ring outcome _ d.0.outcome (λ goes. absurd (false≢true goes))
does_down made old new host memory memory' outcome (Serve slot) long is i d below =
    served_down made old new host memory slot outcome d.0.meaning long i.0 i.1 d.0.means d.0.serves
does_down made old new host memory memory' outcome (Address slot) long is i d below =
    let e = some_task (held_at host.held slot) _ d.0 in
    along host.held host.regs.ring outcome _ e.1.outcome (address_down host slot e.0.task.desc e.1.answer i.below i.is_at)
does_down made old new host memory memory' outcome (Execute slot) long is i d below =
    let e = some_task (held_at host.held slot) _ d.0 in
    along host.held host.regs.ring outcome _ e.1.outcome (execute_down host slot e.0.task.desc e.1.answer i.below i.is_at)
does_down made old new host memory memory' outcome Poll long is i d below =
    let P : Outcome → Type 0 = λ o. IsBelow o.did o.host.regs in
    along host.held host.regs.ring outcome _ d.0.outcome
    (poll_down host (number_in host.regs.send_status_2 (field 0 16)) (word_in d.0.answer None) (none_ready host.held host.regs memory is) (subst P d.0.outcome below))
does_down made old new host memory memory' outcome (NextBlock slot k) long is i d below =
    let e = some_task (held_at host.held slot) _ d in
    let more : moved_in (held_at host.held slot) < blocks_in (held_at host.held slot) =
    let at : k ≡ moved_of host.held slot = i.1 in let less : k < blocks_of host.held slot = i.2 in omega arith in
    moves_down made old new host memory memory' slot k outcome e.0.task e.0.task.desc.read long i.0.below i.0.is_at more e.1
does_down made old new host memory memory' outcome (Close slot) long is i d below =
    let e = some_task (held_at host.held slot) _ d.0 in
    along host.held host.regs.ring outcome _ e.1.outcome (close_down host slot e.0.task.desc e.1.answer i.0.below i.0.is_at)

-- after an event after which the engine goes on there is less to do
pub event_down : {L : Type 0} (made : L → Call → L → Type 0) (old new : L) (engine engine' : Holding) (regs regs' : Registers)
    (memory memory' : Memory) (did : Did) → Event made old new engine engine' regs regs' memory memory' did → IsBelow did regs'
    → goes_on did regs' ≡ true → work_left (remembered engine'.held regs') regs'.ring < work_left (remembered engine.held regs) regs.ring
event_down made old new engine engine' regs regs' memory memory' did e below goes =
    let host : Host = record { held = remembered engine.held regs; regs = regs } in
    let outcome : Outcome = record { did = did; host = e.left } in
    let P : Registers → Type 0 = λ r. IsBelow did r in
    let down = does_down made old new host memory memory' outcome e.acts.due (length-remembered engine.held regs) e.acts.is_due e.acts.slot e.acts.does
    (subst P e.registers below) (ap (goes_on did) (sym e.registers) ∙ goes) in
    let falls : work_left e.left.held e.left.regs.ring < work_left host.held host.regs.ring = work_falls host.held e.left.held host.regs.ring e.left.regs.ring down in
    let stays : work_left (remembered (noted e.left.held e.left.regs) e.left.regs) e.left.regs.ring ≤ work_left e.left.held e.left.regs.ring =
    work_noted e.left.held e.left.regs in
    let Q : Registers → Type 0 = λ r. work_left (remembered engine'.held r) r.ring < work_left (remembered engine.held regs) regs.ring in
    let R : Holding → Type 0 = λ h. work_left (remembered h.held e.left.regs) e.left.regs.ring < work_left (remembered engine.held regs) regs.ring in
    subst Q (sym e.registers) (subst R (sym e.keeps) (omega arith))
