-- A poll uses up a word, or makes a sent task ready.
use Rattle.std.proofs.Common.{◌≡◌, ◌≢◌, ◌<◌, ◌≤◌, ◌+◌, ◌-◌, ◌^◌, ◌==◌, ℕ, refl, sym, ◌∙◌, ap, subst, arith, Bool, true, false, List, [], ◌∷◌, length}
use Rattle.std.specs.Prelude.{cond, is_some, nat_eq, nat_lt, not, Option, Some, None, Result, Ok, Err}
use Rattle.std.specs.Bool.{MatchBool}
use Rattle.std.specs.Int.{bit_at}
use Rattle.std.specs.List.{find}
use Rattle.std.specs.Option.{IsSomeAnd, MatchOption, option_map, option_map_or}
use Rattle.std.proofs.lemmas.Bool.{false≢true, ltb-false, ltb-true}
use Rattle.std.proofs.lemmas.List.{get_or_past}
use Rattle.std.proofs.lemmas.Nat.Bits.{bit_at_ones}
use Rattle.storage_model.specs.declared.faults.BusKind.{BusKind}
use Rattle.storage_model.specs.declared.faults.BusKind.TheVariants.{Lost, NoResp, Bad, Late}
use Rattle.array_edge.specs.Array.{ArrayState}
use Rattle.bus_link.specs.Script.{Script, next_word, word_used}
use Rattle.bus_link.specs.declared.link.Cause.TheVariants.{Bus as BusFault, Dark as NoPower}
use Rattle.bus_link.specs.declared.link.LinkEnd.{LinkEnd}
use Rattle.bus_link.specs.declared.link.LinkEnd.TheVariants.{Bus, Status, Dark}
use Rattle.card_core.specs.Card.{CardState}
use Rattle.card_core.specs.Response.{Responds, poll_response, refused, response_to}
use Rattle.card_core.specs.declared.ends.Dark.{Dark as DarkEnd}
use Rattle.card_core.specs.declared.phase.Phase.{Phase}
use Rattle.card_link.specs.Behind.{Behind, behind}
use Rattle.card_link.specs.Made.{CardMade, Exchanges, IsHeard, IsLost, hit_on, is_lost, response_seen, sent}
use Rattle.cmd_words.specs.Command.{index_of}
use Rattle.cmd_words.specs.declared.status.TheConstants.Status.{ILLEGAL_COMMAND}
use Rattle.cq_engine.specs.After.{after_poll}
use Rattle.cq_engine.specs.Event.{Does}
use Rattle.cq_engine.specs.Outcome.{Host, Outcome, responded}
use Rattle.cq_engine.specs.Words.{poll_of}
use Rattle.cq_engine.specs.declared.did.Did.{Did}
use Rattle.cq_regs.proofs.ProgressLaws.{progress_made_ready}
use Rattle.cq_regs.specs.Slots.{has_bit, is_begun, is_rung, made_ready, progress_of, readied}
use Rattle.cq_regs.specs.State.{Registers}
use Rattle.cq_regs.specs.declared.slots.Progress.{Progress}
use Rattle.cq_regs.specs.declared.slots.Progress.TheVariants.{Idle, Rung, Named, Sent, Ready, Active}
use Rattle.cq_regs.specs.declared.slots.Ringed.{Ringed}
use Rattle.cq_schedule.specs.Held.{Places, held_at, remembered, same}
use Rattle.cq_schedule.specs.Meaning.{IsDue, IsDueThen, next_of_phase, rests}
use Rattle.cq_schedule.specs.Order.{blocks_of, first_at, first_high, moved_of, order_of}
use Rattle.cq_schedule.specs.declared.held.HeldTask.{HeldTask}
use Rattle.cq_schedule.specs.declared.rules.Due.{Due}
use Rattle.cq_schedule.specs.declared.rules.Due.TheVariants.{Rest, Block, Close, Address, Serve, Execute, Poll, Tick}
use Rattle.drv_core.specs.State.{is_recovering}
use Rattle.host_mem.specs.Memory.{Memory}
use Rattle.task_queue.proofs.Marks.{marked-at}
use Rattle.task_queue.proofs.Words.{bit_at-ready_word}
use Rattle.task_queue.specs.Queue.{chosen, is_ready, place_of, ready_word, slot as queued_at, with_mark}
use Rattle.task_queue.specs.declared.queue.Place.{Place}
use Rattle.world_state.specs.Engine.{EngineEvent}
use Rattle.world_state.specs.Path.{PathState, behind_path, holder, runs}
use Rattle.world_state.specs.Ties.{AreTied, HoldsJob, TagRuns, is_queued, words_of}
use Rattle.world_state.specs.Work.{left_on_path, ticks_left}
use Rattle.fall_laws.specs.Falls.{IsEnding}
use Rattle.fall_laws.proofs.Charges.{Charges, command_charges}
use Rattle.host_falls.proofs.Crossings.{after_is, heard_crosses}
use Rattle.fall_laws.proofs.Engines.{IsRunning, Leaves, called_falls, goes_falls, host_of, phase_waits, rung_below, waits_most, work_after, works_falls}
use Rattle.fall_laws.proofs.Shapes.{along}
use Rattle.fall_laws.proofs.Shapes.Shape.{Stops}
use Rattle.fall_laws.proofs.Slots.{remembered_most, tasks_left, todo, todo_at}
use Rattle.host_falls.proofs.Sums.{slots_le, slots_less}

-- where a poll is due, a slot is sent
sent_then : (served high ready sent : Option ℕ)
    → Poll ≡ option_map_or Serve served (option_map_or Execute high (option_map_or Execute ready (option_map_or (λ _. Poll) sent Tick))) → is_some sent ≡ true
sent_then (Some other) high ready sent e = absurd (cc e)
sent_then None (Some other) ready sent e = absurd (cc e)
sent_then None None (Some other) sent e = absurd (cc e)
sent_then None None None (Some slot) e = refl
sent_then None None None None e = absurd (cc e)

phase_no_poll : (slot moved : ℕ) (more : Bool) → Poll ≢ cond more (Block slot moved) (Close slot)
phase_no_poll slot moved true e = absurd (cc e)
phase_no_poll slot moved false e = absurd (cc e)

sent_by : (held : Places) (regs : Registers) (memory : Memory) (resting : Bool) (active named : Option ℕ)
    → MatchOption (cond resting (Some Rest) (option_map_or (λ slot. Some (next_of_phase held slot)) active (option_map Address named)))
    (IsDueThen held regs memory Poll) (λ first. Poll ≡ first)
    → is_some (first_at Sent regs.ring) ≡ true
sent_by held regs memory true active named is = absurd (cc is)
sent_by held regs memory false (Some slot) named is = absurd (phase_no_poll slot (moved_of held slot) (nat_lt (moved_of held slot) (blocks_of held slot)) is)
sent_by held regs memory false None (Some slot) is = absurd (cc is)
sent_by held regs memory false None None is =
    sent_then is.served (first_high held regs.ring) (first_at Ready regs.ring) (first_at Sent regs.ring) is.is

sent_some : (held : Places) (regs : Registers) (memory : Memory) → IsDue held regs memory Poll → is_some (first_at Sent regs.ring) ≡ true
sent_some held regs memory is = sent_by held regs memory (rests regs) (first_at Active regs.ring) (first_at Named regs.ring) is

passes_or : (p : ℕ → Bool) (b : Bool) (x s : ℕ) (rest : Option ℕ) → p x ≡ b → (rest ≡ Some s → p s ≡ true) → cond b (Some x) rest ≡ Some s → p s ≡ true
passes_or p true x s rest is go e = let same : x ≡ s = cc e in let P : ℕ → Type 0 = λ n. p n ≡ true in subst P same is
passes_or p false x s rest is go e = go e

passes : (p : ℕ → Bool) (xs : List ℕ) (s : ℕ) → find p xs ≡ Some s → p s ≡ true
passes p [] s e = absurd (cc e)
passes p (x ∷ xs) s e = passes_or p (p x) x s (find p xs) refl (λ e. passes p xs s e) e

same_sent : (p : Progress) → same p Sent ≡ true → p ≡ Sent
same_sent Idle e = absurd (false≢true e)
same_sent Rung e = absurd (false≢true e)
same_sent Named e = absurd (false≢true e)
same_sent Sent e = refl
same_sent Ready e = absurd (false≢true e)
same_sent Active e = absurd (false≢true e)

record SentSlot (ring : List Ringed) : Type 0 where
  slot : ℕ
  is_sent : progress_of ring slot ≡ Sent

found_sent : (ring : List Ringed) (found : Option ℕ) → first_at Sent ring ≡ found → is_some found ≡ true → SentSlot ring
found_sent ring None e some = absurd (false≢true some)
found_sent ring (Some slot) e some =
    record { slot = slot; is_sent = same_sent (progress_of ring slot) (passes (λ slot. same (progress_of ring slot) Sent) (order_of ring) slot e) }

-- the card has its task
mapped_some : {A B : Type 0} (f : A → B) (o : Option A) → is_some (option_map f o) ≡ is_some o
mapped_some f None = refl
mapped_some f (Some x) = refl

held_some : {A : Type 0} (o : Option A) (P : A → Type 0) → IsSomeAnd o P → is_some o ≡ true
held_some None P h = absurd h
held_some (Some x) P h = refl

job_held : (p : PathState) (tag : ℕ) (h : Option ℕ) → IsSomeAnd h (HoldsJob p tag) → is_some (held_at p.engine.held tag) ≡ true
job_held p tag None e = absurd e
job_held p tag (Some id) e = held_some (held_at p.engine.held tag) _ e.held

is_placed : (p : PathState) (tag : ℕ) → TagRuns p tag → progress_of p.regs.ring tag ≡ Sent → is_some (place_of p.card.queue tag) ≡ true
is_placed p tag r is =
    let held = job_held p tag (holder p tag) (r.holds (ap is_begun is)) in
    let queued : is_some (queued_at p.card.queue tag) ≡ true =
    ap is_some (r.queue.queued ∙ ap (λ q. cond (is_queued q) (option_map (λ (h : HeldTask). record { task = words_of tag h.task.desc; start = h.task.desc.start }) (held_at p.engine.held tag)) None) is)
    ∙ mapped_some (λ (h : HeldTask). record { task = words_of tag h.task.desc; start = h.task.desc.start }) (held_at p.engine.held tag) ∙ held in
    sym (mapped_some (λ (place : Place). place.queued) (place_of p.card.queue tag)) ∙ queued

-- which a word of all bits makes ready
marked_ready : (place : Option Place) → is_some place ≡ true → is_ready (with_mark true place) ≡ true
marked_ready None e = absurd (false≢true e)
marked_ready (Some place) e = refl

all_ready : (p : PathState) (tag : ℕ) → tag < 32 → is_some (place_of p.card.queue tag) ≡ true → has_bit (ready_word (chosen p.card.queue (2 ^ 32 - 1))) tag ≡ true
all_ready p tag below some =
    let bit : (nat_eq (bit_at (2 ^ 32 - 1) tag) 1) ≡ true = ap (λ n. nat_eq n 1) (bit_at_ones 32 tag below) in
    let ready : is_ready (place_of (chosen p.card.queue (2 ^ 32 - 1)) tag) ≡ true =
    ap is_ready (marked-at (2 ^ 32 - 1) p.card.queue.slots tag) ∙ ap (λ b. is_ready (with_mark b (place_of p.card.queue tag))) bit ∙ marked_ready (place_of p.card.queue tag) some in
    ap (λ n. nat_eq n 1) ((bit_at-ready_word (chosen p.card.queue (2 ^ 32 - 1)) tag).1 ready)

-- what the tasks have left after a poll
readied_least : (b : Bool) (p : Progress) (place : Option HeldTask) → todo (cond b (readied p) p) place ≤ todo p place
readied_least false p place = omega arith
readied_least true Idle place = omega arith
readied_least true Rung place = omega arith
readied_least true Named place = omega arith
readied_least true Sent place = omega arith
readied_least true Ready place = omega arith
readied_least true Active place = omega arith

polled_at : (held : Places) (ring : List Ringed) (word s : ℕ) → todo_at held (made_ready ring word) s ≤ todo_at held ring s
polled_at held ring word s =
    let is : todo_at held (made_ready ring word) s ≡ todo (cond (has_bit word s) (readied (progress_of ring s)) (progress_of ring s)) (held_at held s) =
    ap (λ q. todo q (held_at held s)) (progress_made_ready ring word s) in
    let least = readied_least (has_bit word s) (progress_of ring s) (held_at held s) in
    omega (arith, is, least)

polled_most : (held : Places) (ring : List Ringed) (word : ℕ) → tasks_left held (made_ready ring word) ≤ tasks_left held ring
polled_most held ring word = slots_le (todo_at held (made_ready ring word)) (todo_at held ring) (λ s below. polled_at held ring word s)

polled_less : (held : Places) (ring : List Ringed) (word slot : ℕ) → slot < 32 → progress_of ring slot ≡ Sent → has_bit word slot ≡ true
    → tasks_left held (made_ready ring word) + 1 ≤ tasks_left held ring
polled_less held ring word slot below is bit =
    let now : todo_at held (made_ready ring word) slot ≡ todo Ready (held_at held slot) =
    ap (λ q. todo q (held_at held slot)) (progress_made_ready ring word slot ∙ ap (λ b. cond b (readied (progress_of ring slot)) (progress_of ring slot)) bit ∙ ap readied is) in
    let was : todo_at held ring slot ≡ todo Sent (held_at held slot) = ap (λ q. todo q (held_at held slot)) is in
    slots_less (todo_at held (made_ready ring word)) (todo_at held ring) slot 1 (λ s below. polled_at held ring word s) below (omega (arith, now, was))

-- the word of a poll that was answered
seen_word : (h : Option BusKind) (a : Result ℕ DarkEnd) (told word : ℕ) → a ≡ Ok told → Ok word ≡ response_seen h a → word ≡ told
seen_word h a told word ok seen = by h (seen ∙ ap (response_seen h) ok)
  where
    by : (h : Option BusKind) → Ok word ≡ response_seen h (Ok told) → word ≡ told
    by None e = cc e
    by (Some Lost) e = cc e
    by (Some NoResp) e = absurd (cc e)
    by (Some (Bad block)) e = cc e
    by (Some Late) e = cc e

poll_if : (queueing : Bool) (card : CardState) (choice : ℕ) (old : ArrayState) (new : CardState) (new_array : ArrayState) (answer : Result ℕ DarkEnd) → queueing ≡ true
    → Responds (cond queueing (poll_response card choice) (refused card ILLEGAL_COMMAND)) card old new new_array answer
    → answer ≡ Ok (ready_word (chosen card.queue choice))
poll_if true card choice old new new_array answer on r = r.0
poll_if false card choice old new new_array answer on r = absurd (false≢true on)

poll_told : (p : PathState) (a : ArrayState) (new : Behind) (word : ℕ) → AreTied p → IsHeard (poll_of p.regs) (behind_path p a) new (Ok word)
    → word ≡ ready_word (chosen p.card.queue (next_word (sent (behind_path p a) (poll_of p.regs))))
unfolding response_to
poll_told p a new word t h =
    let on : p.card.csd.command_queue ≡ true = ap (λ csd. csd.command_queue) t.card.csd in
    let told = poll_if p.card.csd.command_queue p.card (next_word (sent (behind_path p a) (poll_of p.regs))) a new.card new.array h.answer on h.responds in
    seen_word (hit_on (behind_path p a) (poll_of p.regs)) h.answer _ word told h.seen

-- and the words that are used then
used_by : (s : Script) (more : Bool) → nat_lt s.used (length s.ready) ≡ more → (word_used s).used ≡ cond more (s.used + 1) s.used
used_by s more e = ap (λ b. (cond b (record s { used = s.used + 1 }) s).used) e ∙ by more
  where
    by : (b : Bool) → (cond b (record s { used = s.used + 1 }) s).used ≡ cond b (s.used + 1) s.used
    by true = refl
    by false = refl

heard_used : (p : PathState) (a : ArrayState) (new : Behind) (answer : Result ℕ LinkEnd) (more : Bool) → nat_lt p.script.used (length p.script.ready) ≡ more
    → IsHeard (poll_of p.regs) (behind_path p a) new answer → new.script.used ≡ cond more (p.script.used + 1) p.script.used
heard_used p a new answer more e h =
    let before = sent (behind_path p a) (poll_of p.regs) in
    let middle = word_used before in
    let is : new.script ≡ record middle { faults = new.script.faults } =
    h.script ∙ after_is (hit_on (behind_path p a) (poll_of p.regs)) h.answer middle ∙ ap (λ n. record middle { faults = n }) (ap (λ (s : Script). s.faults) (sym h.script)) in
    ap (λ (s : Script). s.used) is ∙ used_by before more e

heard_ready : (p : PathState) (a : ArrayState) (new : Behind) (answer : Result ℕ LinkEnd) → IsHeard (poll_of p.regs) (behind_path p a) new answer
    → length new.script.ready ≡ length p.script.ready
heard_ready p a new answer h = ap length (heard_crosses (behind_path p a) new (poll_of p.regs) answer h).ready

-- the poll was answered
answered_falls : (p p' : PathState) (a : ArrayState) (new : Behind) (did : Did) (left : Host) (word : ℕ) (more : Bool) → nat_lt p.script.used (length p.script.ready) ≡ more
    → IsRunning p p' → AreTied p → Leaves p p' did left → new.script ≡ p'.script → Charges p.script p'.script false false
    → IsHeard (poll_of p.regs) (behind_path p a) new (Ok word) → SentSlot p.regs.ring
    → left ≡ record (host_of p) { regs = record (responded p.regs (index_of (poll_of p.regs)) word) { queue_status = word; ring = made_ready p.regs.ring word } }
    → left_on_path p' < left_on_path p
answered_falls p p' a new did left word true e r t l to c h s is =
    let running : p'.regs.stopped ≡ false = ap (λ (x : Registers). x.stopped) l.registers ∙ ap (λ (h : Host). h.regs.stopped) is ∙ r.running in
    let ticks : ticks_left p'.regs ≡ ticks_left p.regs =
    ap (λ (x : Registers). cond (x.coalescing.counter == 0) 0 1) l.registers ∙ ap (λ (h : Host). cond (h.regs.coalescing.counter == 0) 0 1) is in
    let after = work_after p p' did left l in
    let same : tasks_left left.held left.regs.ring ≡ tasks_left (remembered p.engine.held p.regs) (made_ready p.regs.ring word) = ap (λ (h : Host). tasks_left h.held h.regs.ring) is in
    let most = polled_most (remembered p.engine.held p.regs) p.regs.ring word in
    let before = remembered_most p.engine.held p.regs in
    let low = ltb-true p.script.used (length p.script.ready) e in
    let used : p'.script.used ≡ p.script.used + 1 = ap (λ (s : Script). s.used) (sym to) ∙ heard_used p a new (Ok word) true e h in
    let ready : length p'.script.ready ≡ length p.script.ready = ap (λ (s : Script). length s.ready) (sym to) ∙ heard_ready p a new (Ok word) h in
    let now = waits_most p' in
    let was = phase_waits p false (λ f. absurd (false≢true f)) in
    let spent = c.spent in
    goes_falls p p' r running c.words (omega (arith, spent, now, was)) (omega (arith, ticks, after, same, most, before))
    (omega (arith, ticks, after, same, most, before, used, ready, low))
answered_falls p p' a new did left word false e r t l to c h s is =
    let running : p'.regs.stopped ≡ false = ap (λ (x : Registers). x.stopped) l.registers ∙ ap (λ (h : Host). h.regs.stopped) is ∙ r.running in
    let past = ltb-false p.script.used (length p.script.ready) e in
    let all : next_word (sent (behind_path p a) (poll_of p.regs)) ≡ 2 ^ 32 - 1 = get_or_past p.script.ready p.script.used (2 ^ 32 - 1) past in
    let is_word : word ≡ ready_word (chosen p.card.queue (2 ^ 32 - 1)) =
    poll_told p a new word t h ∙ ap (λ n. ready_word (chosen p.card.queue n)) all in
    let below = rung_below p.regs.ring s.slot t.regs.ring.below (ap is_rung s.is_sent) in
    let runs_now : runs p ≡ true = ap (λ s. cond (is_recovering s) false (not p.regs.stopped)) r.calm ∙ ap not r.running in
    let bit : has_bit word s.slot ≡ true =
    ap (λ n. has_bit n s.slot) is_word ∙ all_ready p s.slot below (is_placed p s.slot (t.running runs_now s.slot below) s.is_sent) in
    let after = work_after p p' did left l in
    let same : tasks_left left.held left.regs.ring ≡ tasks_left (remembered p.engine.held p.regs) (made_ready p.regs.ring word) = ap (λ (h : Host). tasks_left h.held h.regs.ring) is in
    let less = polled_less (remembered p.engine.held p.regs) p.regs.ring word s.slot below s.is_sent bit in
    let before = remembered_most p.engine.held p.regs in
    let now = waits_most p' in
    let was = phase_waits p false (λ f. absurd (false≢true f)) in
    let spent = c.spent in
    works_falls p p' r running c.words (omega (arith, spent, now, was)) (omega (arith, after, same, less, before))

no_status : (h : Option BusKind) (a : Result ℕ DarkEnd) (word : ℕ) → Err (Status word) ≢ response_seen h a
no_status None (Ok told) word e = absurd (cc e)
no_status (Some Lost) (Ok told) word e = absurd (cc e)
no_status (Some NoResp) (Ok told) word e = absurd (cc e)
no_status (Some (Bad block)) (Ok told) word e = absurd (cc e)
no_status (Some Late) (Ok told) word e = absurd (cc e)
no_status h (Err dark) word e = absurd (cc e)

heard_of : (p : PathState) (a : ArrayState) (new : Behind) (word : ℕ) → Exchanges (poll_of p.regs) (behind_path p a) new (Ok word)
    → IsHeard (poll_of p.regs) (behind_path p a) new (Ok word)
heard_of p a new word e = by (is_lost (hit_on (behind_path p a) (poll_of p.regs))) e
  where
    by : (b : Bool) → MatchBool b (IsLost Lost (behind_path p a) new (sent (behind_path p a) (poll_of p.regs)) (Ok word)) (IsHeard (poll_of p.regs) (behind_path p a) new (Ok word))
        → IsHeard (poll_of p.regs) (behind_path p a) new (Ok word)
    by true l = let e = l.answer in absurd (cc e)
    by false h = h

status_never : (p : PathState) (a : ArrayState) (new : Behind) (answer : Result ℕ LinkEnd) (word : ℕ) → answer ≡ Err (Status word)
    → Exchanges (poll_of p.regs) (behind_path p a) new answer → ⊥
status_never p a new answer word is e = by (is_lost (hit_on (behind_path p a) (poll_of p.regs))) e
  where
    by : (b : Bool) → MatchBool b (IsLost Lost (behind_path p a) new (sent (behind_path p a) (poll_of p.regs)) answer)
        (IsHeard (poll_of p.regs) (behind_path p a) new answer) → ⊥
    by true l = let lost = l.answer in absurd (cc (is, lost))
    by false h = no_status (hit_on (behind_path p a) (poll_of p.regs)) h.answer word (sym is ∙ h.seen)

by_answer : (p p' : PathState) (a : ArrayState) (new : Behind) (did : Did) (left : Host) (answer : Result ℕ LinkEnd) → IsRunning p p' → AreTied p → AreTied p'
    → Leaves p p' did left → IsEnding did → new.script ≡ p'.script → Exchanges (poll_of p.regs) (behind_path p a) new answer → SentSlot p.regs.ring
    → record { did = did; host = left } ≡ after_poll (host_of p) answer → left_on_path p' < left_on_path p
by_answer p p' a new did left (Ok word) r t t' l ending to e s is =
    let P : Script → Type 0 = λ x. Charges p.script x false false in
    answered_falls p p' a new did left word (nat_lt p.script.used (length p.script.ready)) refl r t l to
    (subst P to (command_charges (behind_path p a) new (poll_of p.regs) (Ok word) false e t.script)) (heard_of p a new word e) s (ap (λ (o : Outcome). o.host) is)
by_answer p p' a new did left (Err (Status word)) r t t' l ending to e s is = absurd (status_never p a new (Err (Status word)) word refl e)
by_answer p p' a new did left (Err (Bus kind)) r t t' l ending to e s is =
    let P : Script → Type 0 = λ x. Charges p.script x false true in
    called_falls p p' did left true false r t' l ending (λ f. absurd (false≢true f))
    (subst P to (command_charges (behind_path p a) new (poll_of p.regs) (Err (Bus kind)) false e t.script))
    (along (host_of p) true (record { did = did; host = left }) _ is (Stops (BusFault kind None) refl refl refl refl refl (λ e. refl)))
by_answer p p' a new did left (Err Dark) r t t' l ending to e s is =
    let P : Script → Type 0 = λ x. Charges p.script x false false in
    called_falls p p' did left false false r t' l ending (λ f. absurd (false≢true f))
    (subst P to (command_charges (behind_path p a) new (poll_of p.regs) (Err Dark) false e t.script))
    (along (host_of p) false (record { did = did; host = left }) _ is (Stops NoPower refl refl refl refl refl (λ e. absurd (false≢true e))))

pub poll_falls : (p p' : PathState) (a a' : ArrayState) (did : Did) (phase : Option Phase) (e : EngineEvent p a p' a' did phase) → IsRunning p p' → AreTied p → AreTied p'
    → Leaves p p' did e.event.left → IsEnding did → e.event.acts.due ≡ Poll → left_on_path p' < left_on_path p
poll_falls p p' a a' did phase e r t t' l ending due =
    let held = remembered p.engine.held p.regs in
    let new = behind e.card a' p'.script in
    let P : Due → Type 0 = λ d. Does CardMade (behind_path p a) new (host_of p) p.memory p'.memory (record { did = did; host = e.event.left }) d in
    let Q : Due → Type 0 = λ d. IsDue held p.regs p.memory d in
    let x = (subst P due e.event.acts.does).0 in
    let s = found_sent p.regs.ring (first_at Sent p.regs.ring) refl (sent_some held p.regs p.memory (subst Q due e.event.acts.is_due)) in
    by_answer p p' a new did e.event.left x.answer r t t' l ending refl x.crossed s x.outcome
