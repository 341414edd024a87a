-- The blocks that are counted of each task that is held.
use Rattle.std.proofs.Common.{◌≡◌, ◌≢◌, ◌<◌, ◌≤◌, ◌==◌, ◌&&◌, ℕ, length, refl, sym, ◌∙◌, ap, subst, arith, inl, inr}
use Rattle.std.specs.Prelude.{Bool, true, false, not, cond, List, Option, Some, None, IfSome, slice_set, Result, Ok, Err}
use Rattle.std.specs.Bool.{MatchBool}
use Rattle.std.specs.Option.{option_map}
use Rattle.std.proofs.lemmas.Bool.Decides.{eqb_tells}
use Rattle.host_mem.specs.Memory.{Memory}
use Rattle.bus_link.specs.Link.{Call, is_poll}
use Rattle.bus_link.specs.declared.link.Cause.{Cause}
use Rattle.bus_link.specs.declared.link.Cause.TheVariants.{Response}
use Rattle.bus_link.specs.declared.link.LinkEnd.{LinkEnd}
use Rattle.cmd_words.specs.declared.command.Command.{Command}
use Rattle.cmd_words.specs.declared.command.Command.TheVariants.{Address}
use Rattle.cmd_words.specs.Command.{index_of}
use Rattle.cq_desc.specs.declared.direct.DirectDesc.{DirectDesc}
use Rattle.cq_desc.specs.declared.task.TaskDesc.{TaskDesc}
use Rattle.cq_task.specs.declared.slot.DataTask.{DataTask}
use Rattle.cq_task.specs.declared.slot.DropCause.{DropCause}
use Rattle.cq_task.specs.declared.slot.SlotTask.{SlotTask}
use Rattle.cq_task.specs.declared.slot.SlotTask.TheVariants.{Direct as DirectTask, Data}
use Rattle.cq_regs.specs.declared.slots.Progress.{Progress}
use Rattle.cq_regs.specs.declared.slots.Progress.TheVariants.{Rung, Named, Ready, Active}
use Rattle.cq_regs.specs.declared.slots.Ringed.{Ringed}
use Rattle.cq_regs.specs.State.{Registers}
use Rattle.cq_regs.specs.Slots.{advanced, has_bit, made_ready, progress_of, readied, without}
use Rattle.cq_regs.specs.Effects.{moved_on}
use Rattle.cq_regs.proofs.ProgressLaws.{progress_made_ready}
use Rattle.cq_schedule.specs.declared.held.HeldTask.{HeldTask}
use Rattle.cq_schedule.specs.declared.rules.Due.{Due}
use Rattle.cq_schedule.specs.declared.rules.Due.TheVariants.{Rest, Block as NextBlock, Close, Address as AddressNext, Serve, Execute, Poll, Tick}
use Rattle.cq_schedule.specs.Held.{Places, held_at, kept, left_at, newly_held, none_held, same, with_block}
use Rattle.cq_schedule.specs.Order.{blocks_of, moved_of}
use Rattle.cq_schedule.specs.Meaning.{HasItsSlot}
use Rattle.cq_schedule.proofs.Progresses.{same-true}
use Rattle.piece_data.specs.Data.{block_of}
use Rattle.cq_engine.specs.declared.did.Did.TheVariants.{Finished, Sent as SentCommand}
use Rattle.cq_engine.specs.Words.{direct_of, execute_of, has_error, is_masked, params_of, poll_of}
use Rattle.cq_engine.specs.Outcome.{Host, Outcome, heard, judged, responded, stopped_with, with_regs, word_in}
use Rattle.cq_engine.specs.After.{addressed, after_block, after_command, direct_done, direct_ended, direct_heard, executed, finished, led_on, named, phase_ended, polled}
use Rattle.cq_engine.specs.Event.{Acts, Does, Gives, Serves, Takes}
use Rattle.cq_engine.specs.Holds.{AreCounted, IsCounted}
use Rattle.cq_engine.proofs.Events.{some_task}
use Rattle.cq_engine.proofs.Places.{none_held-at, set-other, set-same}
use Rattle.cq_engine.proofs.SlotLaws.{advanced-other, completes, ticks, without-other}

-- no more blocks moved than the task has, and none where the slot is not in its data phase
pub record IsTallied (progress : Progress) (held : HeldTask) : Type 0 where
  pub within : held.moved ≤ held.task.desc.blocks
  pub phase : progress ≢ Active → held.moved ≡ 0

abbrev pub At : List Ringed → Option HeldTask → ℕ → Type 0
At ring place slot = IfSome place (IsTallied (progress_of ring slot))

abbrev pub Tallied : Places → List Ringed → Type 0
Tallied held ring = (slot : ℕ) → slot < 32 → At ring (held_at held slot) slot

-- ---- before and after what is done

if_kept : (held : HeldTask) (progress : Progress) (b : Bool) → same held.progress progress ≡ b → IsCounted held
    → IfSome (cond b (Some held) None) (IsTallied progress)
if_kept held progress true e c =
    let is : held.progress ≡ progress = same-true held.progress progress e in
    record { within = c.within; phase = λ apart. c.phase (λ h. apart (sym is ∙ h)) }
if_kept held progress false e c = tt

kept_tallied : (progress : Progress) (place : Option HeldTask) → IfSome place IsCounted → IfSome (kept progress place) (IsTallied progress)
kept_tallied progress None c = tt
kept_tallied progress (Some held) c = if_kept held progress (same held.progress progress) refl c

pub tallied_kept : (old new : Places) (regs : Registers)
    → ((slot : ℕ) → slot < 32 → held_at new slot ≡ kept (progress_of regs.ring slot) (held_at old slot)) → AreCounted old → Tallied new regs.ring
tallied_kept old new regs each c slot below =
    let P : Option HeldTask → Type 0 = λ o. At regs.ring o slot in
    subst P (sym (each slot below)) (kept_tallied (progress_of regs.ring slot) (held_at old slot) (c slot below))

left_counted : (progress : Progress) (place : Option HeldTask) → IfSome place (IsTallied progress) → IfSome (left_at progress place) IsCounted
left_counted progress None t = tt
left_counted progress (Some held) t = record { within = t.within; phase = t.phase }

pub counted_left : (old new : Places) (regs : Registers)
    → ((slot : ℕ) → slot < 32 → held_at new slot ≡ left_at (progress_of regs.ring slot) (held_at old slot)) → Tallied old regs.ring → AreCounted new
counted_left old new regs each t slot below =
    let P : Option HeldTask → Type 0 = λ o. IfSome o IsCounted in
    subst P (sym (each slot below)) (left_counted (progress_of regs.ring slot) (held_at old slot) (t slot below))

pub counted_none : AreCounted none_held
counted_none slot below = let P : Option HeldTask → Type 0 = λ o. IfSome o IsCounted in subst P (sym (none_held-at slot below)) tt

-- ---- one slot moves on, or is idle

along_progress : (p q : Progress) (place : Option HeldTask) → p ≡ q → IfSome place (IsTallied p) → IfSome place (IsTallied q)
along_progress p q place e t = let P : Progress → Type 0 = λ v. IfSome place (IsTallied v) in subst P e t

-- where no block moved it doesn't matter how far the slot is
whatever : (p q : Progress) (place : Option HeldTask) → p ≢ Active → IfSome place (IsTallied p) → IfSome place (IsTallied q)
whatever p q None apart t = tt
whatever p q (Some held) apart t = record { within = t.within; phase = λ _. t.phase apart }

-- every other slot is as far as it was, and has the place that it had
tallied_but : (held held' : Places) (ring ring' : List Ringed) (slot : ℕ) → Tallied held ring
    → ((other : ℕ) → other ≢ slot → progress_of ring' other ≡ progress_of ring other)
    → ((other : ℕ) → other ≢ slot → held_at held' other ≡ held_at held other) → At ring' (held_at held' slot) slot → Tallied held' ring'
tallied_but held held' ring ring' slot t moves places here other below =
    elim (eqb_tells other slot) [
      | inl e ↦ let P : ℕ → Type 0 = λ n. At ring' (held_at held' n) n in subst P (sym e.1) here
      | inr e ↦
          let P : Option HeldTask → Type 0 = λ o. At ring' o other in
          subst P (sym (places other e.1))
          (along_progress (progress_of ring other) (progress_of ring' other) (held_at held other) (sym (moves other e.1)) (t other below))
    ]

tallied_advanced : (held : Places) (ring : List Ringed) (slot : ℕ) → slot < 32 → progress_of ring slot ≢ Active → Tallied held ring
    → Tallied held (advanced ring slot)
tallied_advanced held ring slot below apart t =
    tallied_but held held ring (advanced ring slot) slot t (λ other e. advanced-other ring slot other e) (λ other e. refl)
    (whatever (progress_of ring slot) (progress_of (advanced ring slot) slot) (held_at held slot) apart (t slot below))

tallied_without : (held : Places) (ring ring' : List Ringed) (slot : ℕ) → slot < 32 → ring' ≡ without ring slot → progress_of ring slot ≢ Active
    → Tallied held ring → Tallied held ring'
tallied_without held ring ring' slot below e apart t =
    let P : List Ringed → Type 0 = λ r. Tallied held r in
    subst P (sym e)
    (tallied_but held held ring (without ring slot) slot t (λ other e. without-other ring slot other e) (λ other e. refl)
    (whatever (progress_of ring slot) (progress_of (without ring slot) slot) (held_at held slot) apart (t slot below)))

tallied_over : (held : Places) (ring ring' : List Ringed) (slot : ℕ) → slot < length held → ring' ≡ without ring slot → Tallied held ring
    → Tallied (slice_set held slot None) ring'
tallied_over held ring ring' slot inside e t =
    let P : List Ringed → Type 0 = λ r. Tallied (slice_set held slot None) r in
    let Q : Option HeldTask → Type 0 = λ o. At (without ring slot) o slot in
    subst P (sym e)
    (tallied_but held (slice_set held slot None) ring (without ring slot) slot t (λ other e. without-other ring slot other e)
    (λ other e. set-other held slot other None e) (subst Q (sym (set-same held slot None inside)) tt))

readied_active : (b : Bool) (p : Progress) → cond b (readied p) p ≢ Active → p ≢ Active
readied_active true p apart e = apart (ap readied e)
readied_active false p apart e = apart e

tallied_ready : (held : Places) (ring : List Ringed) (word : ℕ) → Tallied held ring → Tallied held (made_ready ring word)
tallied_ready held ring word t slot below = by_place (held_at held slot) (t slot below)
  where
    by_place : (place : Option HeldTask) → At ring place slot → At (made_ready ring word) place slot
    by_place None h = tt
    by_place (Some held) h = record {
      within = h.within;
      phase = λ apart.
          h.phase (readied_active (has_bit word slot) (progress_of ring slot) (λ e. apart (progress_made_ready ring word slot ∙ e)));
    }

-- ---- the answer of a command

abbrev pub Counts : Outcome → Type 0
Counts outcome = Tallied outcome.host.held outcome.host.regs.ring

masked_counts : (host : Host) (index slot word information : ℕ) (next : Host → ℕ → Outcome) (masked : Bool) → Tallied host.held host.regs.ring
    → Counts (next (with_regs host (responded host.regs index word)) word)
    → Counts (led_on host (cond masked (Err (Response word slot)) (Ok word))
    (cond masked (stopped_with (responded host.regs index word) information) (responded host.regs index word)) next)
masked_counts host index slot word information next true t k = t
masked_counts host index slot word information next false t k = k

word_counts : (host : Host) (index slot : ℕ) (word : Result ℕ Cause) (next : Host → ℕ → Outcome) → Tallied host.held host.regs.ring
    → ((w : ℕ) → Counts (next (with_regs host (responded host.regs index w)) w))
    → Counts (led_on host (judged host.regs slot word) (heard host.regs index slot word) next)
word_counts host index slot (Ok word) next t k = masked_counts host index slot word _ next (is_masked host.regs word) t (k word)
word_counts host index slot (Err cause) next t k = t

command_counts : (host : Host) (command : Command) (slot : ℕ) (answer : Result ℕ LinkEnd) (next : Host → ℕ → Outcome)
    → Tallied host.held host.regs.ring
    → ((w : ℕ) → Counts (next (with_regs host (responded host.regs (index_of command) w)) w))
    → Counts (after_command host command slot answer next)
command_counts host command slot answer next t k = word_counts host (index_of command) slot (word_in answer (Some slot)) next t k

named_counts : (host : Host) (slot : ℕ) (task : DataTask) (index w : ℕ) → slot < length host.held → Tallied host.held host.regs.ring
    → Counts (named slot task (with_regs host (responded host.regs index w)) w)
named_counts host slot task index w inside t =
    let place : Option HeldTask = Some (newly_held task) in
    let Q : Option HeldTask → Type 0 = λ o. At (advanced host.regs.ring slot) o slot in
    tallied_but host.held (slice_set host.held slot place) host.regs.ring (advanced host.regs.ring slot) slot t
    (λ other e. advanced-other host.regs.ring slot other e) (λ other e. set-other host.held slot other place e)
    (subst Q (sym (set-same host.held slot place inside)) (record { within = omega arith; phase = λ _. refl }))

executed_counts : (host : Host) (slot : ℕ) (desc : TaskDesc) (index w : ℕ) (error : Bool) → slot < 32 → slot < length host.held
    → progress_of host.regs.ring slot ≢ Active → Tallied host.held host.regs.ring
    → Counts (cond error
    (record { did = Finished slot; host = finished (with_regs host (moved_on (responded host.regs index w) slot)) slot desc })
    (record { did = SentCommand (execute_of slot desc); host = with_regs host (moved_on (responded host.regs index w) slot) }))
executed_counts host slot desc index w true below inside apart t =
    tallied_over host.held (advanced host.regs.ring slot) _ slot inside
    (completes (moved_on (responded host.regs index w) slot) slot desc.int).0
    (tallied_advanced host.held host.regs.ring slot below apart t)
executed_counts host slot desc index w false below inside apart t = tallied_advanced host.held host.regs.ring slot below apart t

polled_counts : (host : Host) (word : Result ℕ Cause) → Tallied host.held host.regs.ring → Counts (polled host (poll_of host.regs) word)
polled_counts host (Err cause) t = t
polled_counts host (Ok word) t = tallied_ready host.held host.regs.ring word t

either_counts : (b : Bool) (one other : Outcome) → Counts one → Counts other → Counts (cond b one other)
either_counts true one other h k = h
either_counts false one other h k = k

done_counts : (host : Host) (slot : ℕ) (desc : DirectDesc) → slot < 32 → progress_of host.regs.ring slot ≢ Active
    → Tallied host.held host.regs.ring → Counts (direct_done slot desc host)
done_counts host slot desc below apart t =
    tallied_without host.held host.regs.ring _ slot below (completes host.regs slot desc.int).0 apart t

heard_counts : (host : Host) (slot word : ℕ) (desc : DirectDesc) → slot < 32 → progress_of host.regs.ring slot ≢ Active
    → Tallied host.held host.regs.ring → Counts (direct_heard slot desc host word)
heard_counts host slot word desc below apart t =
    let regs = responded host.regs (index_of (direct_of desc)) word in
    let taken = with_regs host (record regs { direct_response = word }) in
    either_counts (is_masked host.regs word && not (is_poll (direct_of desc))) _ (direct_done slot desc taken) t
    (done_counts taken slot desc below apart t)

ended_counts : (host : Host) (slot : ℕ) (desc : DirectDesc) (word : Result ℕ Cause) → slot < 32 → progress_of host.regs.ring slot ≢ Active
    → Tallied host.held host.regs.ring → Counts (direct_ended host slot desc word)
ended_counts host slot desc (Ok word) below apart t =
    either_counts (desc.resp == 0) (direct_done slot desc host) (direct_heard slot desc host word) (done_counts host slot desc below apart t)
    (heard_counts host slot word desc below apart t)
ended_counts host slot desc (Err cause) below apart t = t

phase_counts : (host : Host) (slot : ℕ) (desc : TaskDesc) (word : Result ℕ Cause) → slot < length host.held → Tallied host.held host.regs.ring
    → Counts (phase_ended host slot desc word)
phase_counts host slot desc (Ok word) inside t =
    tallied_over host.held host.regs.ring _ slot inside (completes host.regs slot desc.int).0 t
phase_counts host slot desc (Err cause) inside t = t

-- a block more
more_at : (ring : List Ringed) (slot : ℕ) (place : Option HeldTask) → progress_of ring slot ≡ Active
    → IfSome place (λ h. h.moved < h.task.desc.blocks) → At ring (option_map with_block place) slot
more_at ring slot None active left = tt
more_at ring slot (Some held) active left = record { within = omega (arith, left); phase = λ apart. absurd (apart active) }

left_in : (place : Option HeldTask) (block : ℕ) → (moved blocks : ℕ) → IfSome place (λ h. (h.moved ≡ moved) × (h.task.desc.blocks ≡ blocks))
    → block ≡ moved → block < blocks → IfSome place (λ h. h.moved < h.task.desc.blocks)
left_in None block moved blocks h e l = tt
left_in (Some held) block moved blocks h e l = omega (arith, h.0, h.1, e, l)

of_place : (held : Places) (slot : ℕ) → (place : Option HeldTask) → held_at held slot ≡ place
    → IfSome place (λ h. (h.moved ≡ moved_of held slot) × (h.task.desc.blocks ≡ blocks_of held slot))
of_place held slot None e = tt
of_place held slot (Some h) e = (rw e refl, rw e refl)

counted_counts : (host : Host) (slot : ℕ) → slot < length host.held → progress_of host.regs.ring slot ≡ Active
    → IfSome (held_at host.held slot) (λ h. h.moved < h.task.desc.blocks) → Tallied host.held host.regs.ring
    → Tallied (slice_set host.held slot (option_map with_block (held_at host.held slot))) host.regs.ring
counted_counts host slot inside active left t =
    let place = option_map with_block (held_at host.held slot) in
    let Q : Option HeldTask → Type 0 = λ o. At host.regs.ring o slot in
    tallied_but host.held (slice_set host.held slot place) host.regs.ring host.regs.ring slot t (λ other e. refl)
    (λ other e. set-other host.held slot other place e)
    (subst Q (sym (set-same host.held slot place inside)) (more_at host.regs.ring slot (held_at host.held slot) active left))

block_counts : (host : Host) (slot : ℕ) (desc : TaskDesc) (answer : Result (Unit {0}) LinkEnd) → slot < length host.held
    → progress_of host.regs.ring slot ≡ Active → IfSome (held_at host.held slot) (λ h. h.moved < h.task.desc.blocks)
    → Tallied host.held host.regs.ring → Counts (after_block host slot desc answer)
block_counts host slot desc (Ok _) inside active left t = counted_counts host slot inside active left t
block_counts host slot desc (Err end) inside active left t =
    phase_counts host slot desc (judged host.regs slot (word_in (Err end) (Some slot))) inside t

-- ---- an event

along : (left after : Outcome) → left ≡ after → Counts after → Counts left
along left after e f = let P : Outcome → Type 0 = λ o. Counts o in subst P (sym e) f

rung_apart : (p : Progress) → p ≡ Rung → p ≢ Active
rung_apart p e h = cc

named_apart : (p : Progress) → p ≡ Named → p ≢ Active
named_apart p e h = cc

ready_apart : (p : Progress) → p ≡ Ready → p ≢ Active
ready_apart p e h = cc

serves_count : {L : Type 0} (made : L → Call → L → Type 0) (old new : L) (host : Host) (slot : ℕ) (outcome : Outcome)
    (meaning : Result SlotTask DropCause) → length host.held ≡ 32 → slot < 32 → progress_of host.regs.ring slot ≡ Rung
    → Tallied host.held host.regs.ring → Serves made old new host slot outcome meaning → Counts outcome
serves_count made old new host slot outcome (Ok (DirectTask desc)) long below rung t d =
    along outcome _ d.outcome
    (ended_counts host slot desc (word_in d.answer (Some slot)) below (rung_apart (progress_of host.regs.ring slot) rung) t)
serves_count made old new host slot outcome (Ok (Data task)) long below rung t d =
    let inside : slot < length host.held = omega (arith, long, below) in
    along outcome _ d.outcome
    (command_counts host (params_of slot task.desc) slot d.answer (named slot task) t
    (λ w. named_counts host slot task (index_of (params_of slot task.desc)) w inside t))
serves_count made old new host slot outcome (Err why) long below rung t d =
    along outcome _ d.outcome
    (tallied_without host.held host.regs.ring (without host.regs.ring slot) slot below refl (rung_apart (progress_of host.regs.ring slot) rung) t)

moves_count : {L : Type 0} (made : L → Call → L → Type 0) (old new : L) (host : Host) (memory memory' : Memory) (slot k : ℕ)
    (outcome : Outcome) (task : DataTask) (read : Bool) → slot < length host.held → progress_of host.regs.ring slot ≡ Active
    → IfSome (held_at host.held slot) (λ h. h.moved < h.task.desc.blocks) → Tallied host.held host.regs.ring
    → MatchBool read (Takes made old new task.pieces k memory memory' outcome (after_block host slot task.desc))
    (Gives made old new (block_of memory task.pieces k) outcome (after_block host slot task.desc) × (memory' ≡ memory))
    → Counts outcome
moves_count made old new host memory memory' slot k outcome task true inside active left t d =
    along outcome _ d.outcome (block_counts host slot task.desc d.answer inside active left t)
moves_count made old new host memory memory' slot k outcome task false inside active left t d =
    along outcome _ d.0.outcome (block_counts host slot task.desc d.0.answer inside active left t)

does_count : {L : Type 0} (made : L → Call → L → Type 0) (old new : L) (host : Host) (memory memory' : Memory) (outcome : Outcome)
    (due : Due) → length host.held ≡ 32 → Tallied host.held host.regs.ring → HasItsSlot host.held host.regs due
    → Does made old new host memory memory' outcome due → Counts outcome
does_count made old new host memory memory' outcome Rest long t i d = along outcome _ d.0.outcome t
does_count made old new host memory memory' outcome Tick long t i d =
    let P : List Ringed → Type 0 = λ r. Tallied host.held r in
    along outcome _ d.0.outcome (subst P (sym (ticks host.regs).ring) t)
does_count made old new host memory memory' outcome (Serve slot) long t i d =
    serves_count made old new host slot outcome d.0.meaning long i.0 i.1 t d.0.serves
does_count made old new host memory memory' outcome (AddressNext slot) long t i d =
    let e = some_task (held_at host.held slot) _ d.0 in
    along outcome _ e.1.outcome
    (command_counts host (Address e.0.task.desc.start) slot e.1.answer (addressed slot e.0.task.desc) t
    (λ w. tallied_advanced host.held host.regs.ring slot i.below (named_apart (progress_of host.regs.ring slot) i.is_at) t))
does_count made old new host memory memory' outcome (Execute slot) long t i d =
    let e = some_task (held_at host.held slot) _ d.0 in
    let below : slot < 32 = i.below in
    let inside : slot < length host.held = omega (arith, long, below) in
    along outcome _ e.1.outcome
    (command_counts host (execute_of slot e.0.task.desc) slot e.1.answer (executed slot e.0.task.desc) t
    (λ w. executed_counts host slot e.0.task.desc (index_of (execute_of slot e.0.task.desc)) w (has_error w) i.below inside
    (ready_apart (progress_of host.regs.ring slot) i.is_at) t))
does_count made old new host memory memory' outcome Poll long t i d =
    along outcome _ d.0.outcome (polled_counts host (word_in d.0.answer None) t)
does_count made old new host memory memory' outcome (NextBlock slot k) long t i d =
    let e = some_task (held_at host.held slot) _ d in
    let below : slot < 32 = i.0.below in
    let inside : slot < length host.held = omega (arith, long, below) in
    moves_count made old new host memory memory' slot k outcome e.0.task e.0.task.desc.read inside i.0.is_at
    (left_in (held_at host.held slot) k (moved_of host.held slot) (blocks_of host.held slot)
    (of_place host.held slot (held_at host.held slot) refl) i.1 i.2) t e.1
does_count made old new host memory memory' outcome (Close slot) long t i d =
    let e = some_task (held_at host.held slot) _ d.0 in
    let below : slot < 32 = i.0.below in
    let inside : slot < length host.held = omega (arith, long, below) in
    along outcome _ e.1.outcome
    (phase_counts host slot e.0.task.desc (judged host.regs slot (word_in e.1.answer (Some slot))) inside t)

pub acts_count : {L : Type 0} (made : L → Call → L → Type 0) (old new : L) (host : Host) (memory memory' : Memory) (outcome : Outcome)
    → length host.held ≡ 32 → Tallied host.held host.regs.ring → Acts made old new host memory memory' outcome
    → Tallied outcome.host.held outcome.host.regs.ring
acts_count made old new host memory memory' outcome long t a = does_count made old new host memory memory' outcome a.due long t a.slot a.does
