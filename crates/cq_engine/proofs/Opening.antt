-- One task at most is between its CMD44 and its CMD45, or in its data phase.
use Rattle.std.proofs.Common.{◌≡◌, ◌≢◌, ◌≤◌, ◌==◌, ℕ, zero, suc, length, map, take, refl, sym, ◌∙◌, ap, subst, arith, inl, inr}
use Rattle.std.specs.Prelude.{◌||◌, Bool, true, false, cond, List, [], ◌∷◌, Option, Some, None, Result, Ok, Err}
use Rattle.std.specs.Bool.{MatchBool}
use Rattle.std.specs.List.{find}
use Rattle.std.specs.Option.{MatchOption, option_map, option_map_or}
use Rattle.std.proofs.lemmas.Bool.{eqb-true, false≢true}
use Rattle.std.proofs.lemmas.Bool.Decides.{eqb_tells}
use Rattle.std.proofs.lemmas.Option.{none-some}
use Rattle.host_mem.specs.Memory.{Memory}
use Rattle.bus_link.specs.Link.{Call}
use Rattle.bus_link.specs.declared.link.Cause.{Cause}
use Rattle.bus_link.specs.declared.link.LinkEnd.{LinkEnd}
use Rattle.cmd_words.specs.declared.command.Command.TheVariants.{Params, Address as StartSector, Execute as ExecuteTask}
use Rattle.cmd_words.specs.Command.{index_of}
use Rattle.cq_desc.specs.declared.task.TaskDesc.{TaskDesc}
use Rattle.cq_task.specs.declared.slot.DataTask.{DataTask}
use Rattle.cq_regs.specs.declared.slots.Progress.{Progress}
use Rattle.cq_regs.specs.declared.slots.Progress.TheVariants.{Idle, Rung, Named, Sent, Ready, Active}
use Rattle.cq_regs.specs.declared.slots.Ringed.{Ringed}
use Rattle.cq_regs.specs.State.{Registers}
use Rattle.cq_regs.specs.Calm.{IsCalm}
use Rattle.cq_regs.specs.Slots.{advanced, has_bit, is_begun, is_rung, made_ready, next, progress_of, readied, without, IsRing}
use Rattle.cq_regs.proofs.ProgressLaws.{progress_made_ready}
use Rattle.cq_regs.proofs.RingLaws.{has_slot, rung-has_slot}
use Rattle.cq_regs.proofs.RungLaws.{length-ring}
use Rattle.cq_schedule.specs.declared.rules.Due.{Due}
use Rattle.cq_schedule.specs.declared.rules.Due.TheVariants.{Rest, Block as NextBlock, Close, Address, Serve, Execute, Poll, Tick}
use Rattle.cq_schedule.specs.Held.{Places, held_at, same}
use Rattle.cq_schedule.specs.Order.{first_at}
use Rattle.cq_schedule.specs.Meaning.{next_of_phase, rests, HasItsSlot, IsDue, IsDueThen}
use Rattle.cq_schedule.proofs.Progresses.{same-refl}
use Rattle.piece_data.specs.Data.{block_of}
use Rattle.cq_engine.specs.declared.did.Did.{Did}
use Rattle.cq_engine.specs.declared.did.Did.TheVariants.{Idle as DidNothing, Sent as SentCommand, Direct, Moved, Finished, Dropped, Stopped}
use Rattle.cq_engine.specs.Outcome.{Host, Outcome, heard, judged, responded, stopped_with, with_regs, word_in}
use Rattle.cq_engine.specs.After.{addressed, after_block, after_command, led_on, phase_ended}
use Rattle.cq_engine.specs.Event.{Acts, Does, Gives, Takes}
use Rattle.cq_engine.specs.Standings.{MovesBy, OneOpen, is_open}
use Rattle.cq_engine.proofs.Events.{some_task}
use Rattle.cq_engine.proofs.SlotLaws.{advanced-other, completes, ticks, without-other, without-same}
use Rattle.cq_engine.proofs.Standing.{Follows, acts_follow}

abbrev pub Open : List Ringed → ℕ → Type 0
Open ring slot = is_open (progress_of ring slot) ≡ true

abbrev pub NoneOpen : List Ringed → Type 0
NoneOpen ring = (slot : ℕ) → ¬ Open ring slot

fewer : (old new : List Ringed) → ((slot : ℕ) → Open new slot → Open old slot) → OneOpen old → OneOpen new
fewer old new less one a b p q = one a b (less a p) (less b q)

only : (new : List Ringed) (slot : ℕ) → ((other : ℕ) → other ≢ slot → ¬ Open new other) → OneOpen new
only new slot none a b p q = is_slot a p ∙ sym (is_slot b q)
  where
    is_slot : (n : ℕ) → Open new n → n ≡ slot
    is_slot n h = elim (eqb_tells n slot) [ inl e ↦ e.1 | inr e ↦ absurd (none n e.1 h) ]

along_open : (p q : Progress) → p ≡ q → is_open p ≡ true → is_open q ≡ true
along_open p q e h = sym (ap is_open e) ∙ h

without_open : (ring : List Ringed) (slot other : ℕ) → Open (without ring slot) other → Open ring other
without_open ring slot other h =
    elim (eqb_tells other slot) [
      | inl e ↦
          absurd (false≢true (sym (ap is_open (ap (progress_of (without ring slot)) e.1 ∙ without-same ring slot)) ∙ h))
      | inr e ↦ along_open (progress_of (without ring slot) other) (progress_of ring other) (without-other ring slot other e.1) h
    ]

readied_open : (b : Bool) (p : Progress) → is_open (cond b (readied p) p) ≡ true → is_open p ≡ true
readied_open false p h = h
readied_open true Idle h = h
readied_open true Rung h = h
readied_open true Named h = h
readied_open true Sent h = absurd (false≢true h)
readied_open true Ready h = h
readied_open true Active h = h

ready_open : (ring : List Ringed) (word other : ℕ) → Open (made_ready ring word) other → Open ring other
ready_open ring word other h =
    readied_open (has_bit word other) (progress_of ring other)
    (along_open (progress_of (made_ready ring word) other) _ (progress_made_ready ring word other) h)

-- a named slot that is sent is no longer open
sent_open : (ring : List Ringed) (slot other : ℕ) → progress_of ring slot ≡ Named → Open (advanced ring slot) other → Open ring other
sent_open ring slot other named h =
    elim (eqb_tells other slot) [
      | inl e ↦ let P : ℕ → Type 0 = λ n. Open ring n in subst P (sym e.1) (ap is_open named)
      | inr e ↦ along_open (progress_of (advanced ring slot) other) (progress_of ring other) (advanced-other ring slot other e.1) h
    ]

advanced_open : (ring : List Ringed) (slot : ℕ) → NoneOpen ring → OneOpen (advanced ring slot)
advanced_open ring slot none =
    only (advanced ring slot) slot
    (λ other apart h. none other (along_open (progress_of (advanced ring slot) other) (progress_of ring other) (advanced-other ring slot other apart) h))

none_one : (ring : List Ringed) → NoneOpen ring → OneOpen ring
none_one ring none a b p q = absurd (none a p)

same_one : (old new : List Ringed) → new ≡ old → OneOpen old → OneOpen new
same_one old new e one = let P : List Ringed → Type 0 = λ r. OneOpen r in subst P (sym e) one

-- where none is open, one at most is after an event
opens : (did : Did) (old new : Registers) → NoneOpen old.ring → MovesBy did old new → OneOpen new.ring
opens DidNothing old new none m = same_one old.ring new.ring m (none_one old.ring none)
opens (SentCommand (Params task)) old new none m =
    same_one (advanced old.ring task.task) new.ring m.ring (advanced_open old.ring task.task none)
opens (SentCommand (StartSector start)) old new none m =
    same_one (advanced old.ring m.slot) new.ring m.moved.ring (advanced_open old.ring m.slot none)
opens (SentCommand (ExecuteTask read slot)) old new none m =
    same_one (advanced old.ring slot) new.ring m.ring (advanced_open old.ring slot none)
opens (SentCommand _) old new none m =
    same_one (made_ready old.ring new.queue_status) new.ring m
    (fewer old.ring (made_ready old.ring new.queue_status) (ready_open old.ring new.queue_status) (none_one old.ring none))
opens (Direct slot) old new none m =
    same_one (without old.ring slot) new.ring m (fewer old.ring (without old.ring slot) (without_open old.ring slot) (none_one old.ring none))
opens (Moved slot) old new none m = same_one old.ring new.ring m (none_one old.ring none)
opens (Finished slot) old new none m =
    same_one (without old.ring slot) new.ring m (fewer old.ring (without old.ring slot) (without_open old.ring slot) (none_one old.ring none))
opens (Dropped slot why) old new none m =
    same_one (without old.ring slot) new.ring m (fewer old.ring (without old.ring slot) (without_open old.ring slot) (none_one old.ring none))
opens (Stopped cause) old new none m = same_one old.ring new.ring m (none_one old.ring none)

-- ---- none is open where a slot is served or executed, or where the card is asked

abbrev pub IsLate : Due → Type 0
IsLate (Serve slot) = Unit {0}
IsLate (Execute slot) = Unit {0}
IsLate Poll = Unit {0}
IsLate _ = ⊥

late_phase : (b : Bool) (slot block : ℕ) → IsLate (cond b (NextBlock slot block) (Close slot)) → ⊥
late_phase true slot block l = l
late_phase false slot block l = l

late : (held : Places) (resting : Bool) (active named : Option ℕ) (P : Type 0) (due : Due) → IsLate due
    → MatchOption (cond resting (Some Rest) (option_map_or (λ slot. Some (next_of_phase held slot)) active (option_map Address named))) P (λ first. due ≡ first)
    → (active ≡ None) × (named ≡ None)
late held true active named P due l h = absurd (subst IsLate h l)
late held false (Some a) named P due l h = absurd (late_phase _ _ _ (subst IsLate h l))
late held false None (Some n) P due l h = absurd (subst IsLate h l)
late held false None None P due l h = (refl, refl)

not_first : (b : Bool) (x : ℕ) (o : Option ℕ) → cond b (Some x) o ≡ None → (b ≡ false) × (o ≡ None)
not_first true x o e = absurd (none-some x (sym e))
not_first false x o e = (refl, e)

passed_here : (q : ℕ → Bool) (r : Ringed) (ring : List Ringed) (slot : ℕ) (b : Bool) → (r.slot == slot) ≡ b → q r.slot ≡ false
    → (has_slot ring slot ≡ true → q slot ≡ false) → (b || has_slot ring slot) ≡ true → q slot ≡ false
passed_here q r ring slot true at fails later has = subst (λ k. q k ≡ false) (eqb-true r.slot slot at) fails
passed_here q r ring slot false at fails later has = later has

passed : (q : ℕ → Bool) (ring : List Ringed) (n slot : ℕ) → length ring ≤ n → find q (take n (map (λ r. r.slot) ring)) ≡ None
    → has_slot ring slot ≡ true → q slot ≡ false
passed q [] n slot few e h = absurd (false≢true h)
passed q (r ∷ ring) zero slot few e h = absurd (omega arith)
passed q (r ∷ ring) (suc n) slot few e h =
    let rest = not_first (q r.slot) r.slot (find q (take n (map (λ r. r.slot) ring))) e in
    passed_here q r ring slot (r.slot == slot) refl rest.0 (passed q ring n slot (omega arith) rest.1) h

none_at : (ring : List Ringed) (progress : Progress) (slot : ℕ) → IsRing ring → is_rung progress ≡ true → first_at progress ring ≡ None
    → progress_of ring slot ≢ progress
none_at ring progress slot sound some e at =
    let has : has_slot ring slot ≡ true = sym (rung-has_slot ring slot sound.started) ∙ ap is_rung at ∙ some in
    let fails = passed (λ s. same (progress_of ring s) progress) ring 32 slot (length-ring ring sound) e has in
    false≢true (sym fails ∙ ap (λ p. same p progress) at ∙ same-refl progress)

open_case : (p : Progress) → p ≢ Active → p ≢ Named → is_open p ≡ true → ⊥
open_case Idle a n h = false≢true h
open_case Rung a n h = false≢true h
open_case Named a n h = n refl
open_case Sent a n h = false≢true h
open_case Ready a n h = false≢true h
open_case Active a n h = a refl

none_open : (held : Places) (regs : Registers) (memory : Memory) (due : Due) → IsRing regs.ring → IsLate due → IsDue held regs memory due
    → NoneOpen regs.ring
none_open held regs memory due sound l h slot =
    let n = late held (rests regs) (first_at Active regs.ring) (first_at Named regs.ring) (IsDueThen held regs memory due) due l h in
    open_case (progress_of regs.ring slot) (none_at regs.ring Active slot sound refl n.0) (none_at regs.ring Named slot sound refl n.1)

-- ---- an open slot goes on

abbrev pub One : Outcome → Type 0
One outcome = OneOpen outcome.host.regs.ring

along : (left after : Outcome) → left ≡ after → One after → One left
along left after e f = let P : Outcome → Type 0 = λ o. One o in subst P (sym e) f

masked_one : (host : Host) (index slot word information : ℕ) (cause : Cause) (next : Host → ℕ → Outcome) (masked : Bool) → OneOpen host.regs.ring
    → One (next (with_regs host (responded host.regs index word)) word)
    → One (led_on host (cond masked (Err cause) (Ok word))
    (cond masked (stopped_with (responded host.regs index word) information) (responded host.regs index word)) next)
masked_one host index slot word information cause next true one k = one
masked_one host index slot word information cause next false one k = k

word_one : (host : Host) (index slot : ℕ) (word : Result ℕ Cause) (next : Host → ℕ → Outcome) → OneOpen host.regs.ring
    → ((w : ℕ) → One (next (with_regs host (responded host.regs index w)) w))
    → One (led_on host (judged host.regs slot word) (heard host.regs index slot word) next)
word_one host index slot (Ok word) next one k = masked_one host index slot word _ _ next _ one (k word)
word_one host index slot (Err cause) next one k = one

address_one : (host : Host) (slot : ℕ) (desc : TaskDesc) (answer : Result ℕ LinkEnd) → progress_of host.regs.ring slot ≡ Named
    → OneOpen host.regs.ring → One (after_command host (StartSector desc.start) slot answer (addressed slot desc))
address_one host slot desc answer named one =
    word_one host (index_of (StartSector desc.start)) slot (word_in answer (Some slot)) (addressed slot desc) one
    (λ w. fewer host.regs.ring (advanced host.regs.ring slot) (λ other. sent_open host.regs.ring slot other named) one)

phase_one : (host : Host) (slot : ℕ) (desc : TaskDesc) (word : Result ℕ Cause) → OneOpen host.regs.ring → One (phase_ended host slot desc word)
phase_one host slot desc (Ok word) one =
    same_one (without host.regs.ring slot) _ (completes host.regs slot desc.int).0
    (fewer host.regs.ring (without host.regs.ring slot) (without_open host.regs.ring slot) one)
phase_one host slot desc (Err cause) one = one

block_one : (host : Host) (slot : ℕ) (desc : TaskDesc) (answer : Result (Unit {0}) LinkEnd) → OneOpen host.regs.ring
    → One (after_block host slot desc answer)
block_one host slot desc (Ok _) one = one
block_one host slot desc (Err end) one = phase_one host slot desc (judged host.regs slot (word_in (Err end) (Some slot))) one

moves_one : {L : Type 0} (made : L → Call → L → Type 0) (old new : L) (host : Host) (memory memory' : Memory) (slot k : ℕ)
    (outcome : Outcome) (task : DataTask) (read : Bool) → OneOpen host.regs.ring
    → MatchBool read (Takes made old new task.pieces k memory memory' outcome (after_block host slot task.desc))
    (Gives made old new (block_of memory task.pieces k) outcome (after_block host slot task.desc) × (memory' ≡ memory))
    → One outcome
moves_one made old new host memory memory' slot k outcome task true one d =
    along outcome _ d.outcome (block_one host slot task.desc d.answer one)
moves_one made old new host memory memory' slot k outcome task false one d =
    along outcome _ d.0.outcome (block_one host slot task.desc d.0.answer one)

acts_by : {L : Type 0} (made : L → Call → L → Type 0) (old new : L) (host : Host) (memory memory' : Memory) (outcome : Outcome) (due : Due)
    → IsRing host.regs.ring → Follows host.regs outcome → IsDue host.held host.regs memory due → HasItsSlot host.held host.regs due
    → Does made old new host memory memory' outcome due → OneOpen host.regs.ring → One outcome
acts_by made old new host memory memory' outcome Rest sound f h i d one = along outcome _ d.0.outcome one
acts_by made old new host memory memory' outcome Tick sound f h i d one =
    along outcome _ d.0.outcome (same_one host.regs.ring _ (ticks host.regs).ring one)
acts_by made old new host memory memory' outcome (Serve slot) sound f h i d one =
    opens outcome.did host.regs outcome.host.regs (none_open host.held host.regs memory (Serve slot) sound tt h) f.slots
acts_by made old new host memory memory' outcome (Execute slot) sound f h i d one =
    opens outcome.did host.regs outcome.host.regs (none_open host.held host.regs memory (Execute slot) sound tt h) f.slots
acts_by made old new host memory memory' outcome Poll sound f h i d one =
    opens outcome.did host.regs outcome.host.regs (none_open host.held host.regs memory Poll sound tt h) f.slots
acts_by made old new host memory memory' outcome (Address slot) sound f h i d one =
    let e = some_task (held_at host.held slot) _ d.0 in
    along outcome _ e.1.outcome (address_one host slot e.0.task.desc e.1.answer i.is_at one)
acts_by made old new host memory memory' outcome (NextBlock slot k) sound f h i d one =
    let e = some_task (held_at host.held slot) _ d in
    moves_one made old new host memory memory' slot k outcome e.0.task e.0.task.desc.read one e.1
acts_by made old new host memory memory' outcome (Close slot) sound f h i d one =
    let e = some_task (held_at host.held slot) _ d.0 in
    along outcome _ e.1.outcome (phase_one host slot e.0.task.desc (judged host.regs slot (word_in e.1.answer (Some slot))) one)

pub acts_one : {L : Type 0} (made : L → Call → L → Type 0) (old new : L) (host : Host) (memory memory' : Memory) (outcome : Outcome)
    → IsRing host.regs.ring → Acts made old new host memory memory' outcome → OneOpen host.regs.ring → OneOpen outcome.host.regs.ring
acts_one made old new host memory memory' outcome sound a one =
    acts_by made old new host memory memory' outcome a.due sound (acts_follow made old new host memory memory' outcome a) a.is_due a.slot a.does one

open_begun : (p : Progress) → is_open p ≡ true → is_begun p ≡ true
open_begun Idle h = h
open_begun Rung h = h
open_begun Named h = refl
open_begun Sent h = refl
open_begun Ready h = refl
open_begun Active h = refl

-- a write of a register leaves it so
pub one_calm : (old new : Registers) → IsCalm old new → OneOpen old.ring → OneOpen new.ring
one_calm old new calm one =
    fewer old.ring new.ring
    (λ slot h.
    along_open (progress_of new.ring slot) (progress_of old.ring slot) (sym (calm.begun slot (open_begun (progress_of new.ring slot) h)).1) h) one
