-- A block of a data phase, and its end.
use Rattle.std.proofs.Common.{◌≡◌, ◌<◌, ◌≤◌, ◌+◌, ◌==◌, ◌&&◌, ℕ, suc, Bool, true, false, cond, refl, sym, ◌∙◌, ap, subst, arith, inl, inr}
use Rattle.std.specs.Prelude.{◌||◌, ◌++◌, OnOk, length, replicate, is_some, not, nat_le, nat_lt, List, [], ◌∷◌, Option, Some, None, Result, Ok, Err, min, slice_set}
use Rattle.std.specs.Bool.{MatchBool}
use Rattle.std.specs.Option.{IsSomeAnd, option_map, option_map_or}
use Rattle.std.proofs.lemmas.Bool.{and_parts, le-leb, le-ltb, lt-leb, lt-ltb, ltb-false, ltb-true, not-true, true≢false}
use Rattle.std.proofs.lemmas.Bool.Decides.{eqb_tells}
use Rattle.std.proofs.lemmas.List.{append-nil, append_assoc}
use Rattle.bus_link.specs.declared.link.LinkEnd.{LinkEnd}
use Rattle.card_core.specs.Card.{CardState}
use Rattle.card_core.specs.Moving.{must_keep, next_put}
use Rattle.card_core.specs.Serving.{End}
use Rattle.card_core.specs.declared.phase.DataPhase.{DataPhase}
use Rattle.card_link.specs.Made.{CardMade}
use Rattle.card_store.specs.Store.{Contents, Stands as StoreStands, kept, same, with_put}
use Rattle.cmd_words.specs.declared.status.TheConstants.Status.{DEVICE_ECC_FAILED, ERROR}
use Rattle.cq_engine.specs.After.{after_block, after_close}
use Rattle.cq_engine.specs.Event.{Closes, Does, Gives, MovesBlock, Takes, read_into as engine_read}
use Rattle.cq_engine.specs.Outcome.{Outcome, host_of, outcome_of}
use Rattle.cq_engine.specs.declared.did.Did.{Did}
use Rattle.cq_engine.specs.declared.did.Did.TheVariants.{Finished, Moved, Stopped}
use Rattle.cq_engine.proofs.Places.{length-remembered, of-some, set-same}
use Rattle.cq_chain.specs.declared.pieces.Piece.{Piece}
use Rattle.cq_regs.specs.Slots.{progress_of, without}
use Rattle.cq_regs.specs.State.{Registers}
use Rattle.cq_regs.specs.declared.slots.Progress.{Progress}
use Rattle.cq_regs.specs.declared.slots.Progress.TheVariants.{Active}
use Rattle.cq_schedule.specs.Held.{Places, held_at, kept as kept_place, left_at, none_held, remembered, with_block as with_one}
use Rattle.cq_schedule.specs.Meaning.{next_of_phase}
use Rattle.cq_schedule.specs.declared.held.HeldTask.{HeldTask}
use Rattle.cq_schedule.specs.declared.rules.Due.{Due}
use Rattle.cq_schedule.specs.declared.rules.Due.TheVariants.{Block as NextBlock, Close, Execute}
use Rattle.cq_task.specs.declared.slot.DataTask.{DataTask}
use Rattle.host_mem.specs.Memory.{Memory}
use Rattle.intent_store.specs.declared.ends.StoreEnd.{StoreEnd}
use Rattle.intent_store.specs.declared.ends.StoreEnd.TheVariants.{Flash, PowerLost}
use Rattle.piece_data.specs.Data.{block_of, with_block}
use Rattle.storage_model.specs.Contents.{contents_now, sector_at}
use Rattle.storage_model.specs.Keep.{is_named}
use Rattle.storage_model.specs.declared.block.Block.{Block}
use Rattle.storage_model.specs.declared.marks.Mark.{Mark}
use Rattle.storage_model.specs.declared.marks.Mark.TheVariants.{Put as PutMark}
use Rattle.task_queue.specs.declared.queue.Queued.{Queued}
use Rattle.raw_machine.specs.Answering.{card_of, seen}
use Rattle.raw_machine.specs.Machine.{Moment, behind_of}
use Rattle.raw_machine.specs.Moving.{HasMoved, block_read, contents_after, keeps, mark_of, marks_of, memory_after, phase_answer, phase_of, read_into, with_marks}
use Rattle.raw_machine.specs.Running.{Happens}
use Rattle.raw_machine.specs.State.{PlainCard, RawState, turned}
use Rattle.raw_machine.specs.Tasks.{Moves, MovesBlocks, Works}
use Rattle.raw_machine.specs.Tasks.Moves.{moves}
use Rattle.raw_machine.specs.Telling.{IsQuietScript, plain}
use Rattle.raw_machine.proofs.Blocks.{BlockMoved, ClosesPhase, MovesOne, PhaseClosed, TakesOne, given, keeps_write, next_read, phase_closes, taken}
use Rattle.raw_machine.proofs.Blocks.BlockMoved.{past, moved, failed, dark}
use Rattle.raw_machine.proofs.Blocks.PhaseClosed.{closed_only, write_kept, write_failed, write_dark}
use Rattle.raw_machine.proofs.Kept.{AllRung, Has, between_ended, has_counted, has_finished, keeps_has, noted_at, rung_without}
use Rattle.raw_machine.proofs.Leading.{LedEnd, led_end}
use Rattle.raw_machine.proofs.Leading.LedEnd.{stops, ends}
use Rattle.raw_machine.proofs.Naming.{Facts, done_by, facts, running, rung_same, rung_told}
use Rattle.raw_machine.proofs.NextDue.{phase_due}
use Rattle.raw_machine.proofs.Stages.{Behinds, IsDone, IsMoving, contents_moving, leaves_as, moving_state, partly_from, phase_at, tells_from}
use Rattle.raw_machine.proofs.WorkLeft.{remembered-at}

-- what an event of a data phase leaves: one block more moved, or the task is done
pub data Onward (state : RawState) (did : Did) (new : Moment) : Type 0 where
  onward : {slot : ℕ} → did ≡ Moved slot → IsMoving state new → Onward state did new
  over : IsDone state did new → Onward state did new

least : (k n : ℕ) → (min k n == n) ≡ nat_le n k
least k n = elim (eqb_tells (min k n) n) [
  | inl t ↦ t.0 ∙ sym (le-leb n k (omega (arith, t.1)))
  | inr t ↦ t.0 ∙ sym (lt-leb n k (omega (arith, t.1)))
]

suc_is : (n : ℕ) → n + 1 ≡ suc n
suc_is n = omega arith

-- what read and write come to
memory_read : (memory : Memory) (pieces : List Piece) (c : Contents) (queued : Queued) (n : ℕ) → queued.task.read ≡ true
    → memory_after memory pieces c queued n ≡ read_into memory pieces c queued n
memory_read memory pieces c queued n e = ap (λ b. cond b (read_into memory pieces c queued n) memory) e

memory_written : (memory : Memory) (pieces : List Piece) (c : Contents) (queued : Queued) (n : ℕ) → queued.task.read ≡ false
    → memory_after memory pieces c queued n ≡ memory
memory_written memory pieces c queued n e = ap (λ b. cond b (read_into memory pieces c queued n) memory) e

contents_read : (start : RawState) (task : DataTask) (queued : Queued) (n : ℕ) (c : Contents) → queued.task.read ≡ true → contents_moving start task queued n c ≡ c
contents_read start task queued n c e = ap (λ b. cond b c (with_marks (marks_of start.memory task.pieces queued n) c)) e

contents_written : (start : RawState) (task : DataTask) (queued : Queued) (n : ℕ) (c : Contents) → queued.task.read ≡ false
    → contents_moving start task queued n c ≡ with_marks (marks_of start.memory task.pieces queued n) c
contents_written start task queued n c e = ap (λ b. cond b c (with_marks (marks_of start.memory task.pieces queued n) c)) e

held_kept : (place : Option HeldTask) (progress : Progress) (task : DataTask) (k : ℕ) → progress ≡ Active
    → place ≡ Some (record { task = task; progress = Active; moved = k }) → kept_place progress place ≡ Some (record { task = task; progress = Active; moved = k })
held_kept place progress task k p e =
    let P : Progress → Type 0 = λ x. kept_place x place ≡ Some (record { task = task; progress = Active; moved = k }) in
    subst P (sym p) (ap (kept_place Active) e)

due_if : (held : Places) (slot : ℕ) (task : DataTask) (k : ℕ) → held_at held slot ≡ Some (record { task = task; progress = Active; moved = k })
    → next_of_phase held slot ≡ cond (nat_lt k task.desc.blocks) (NextBlock slot k) (Close slot)
due_if held slot task k e =
    ap (λ (place : Option HeldTask). cond (nat_lt (option_map_or (λ h. h.moved) place 0) (option_map_or (λ h. h.task.desc.blocks) place 0))
    (NextBlock slot (option_map_or (λ h. h.moved) place 0)) (Close slot)) e

module _ (state : RawState) (old new : Moment) (did : Did) (m : IsMoving state old) (f : Facts (moving_state m.start m.task m.queued m.k) old new did) where
  abbrev held : Places
  held = remembered old.machine.engine.held m.start.regs

  abbrev outcome : Outcome
  outcome = outcome_of did f.left.held f.left.regs

  on : m.start.regs.stopped ≡ false
  on = running m.start.regs m.runs

  rung : AllRung m.start.regs.ring
  rung = rung_told (moving_state m.start m.task m.queued m.k) old m.tells

  has : Has held m.start.regs m.start.tasks
  has = keeps_has held m.start.regs m.start.tasks (f.keeps on)

  held_now : held_at held m.slot ≡ Some (record { task = m.task; progress = Active; moved = m.k })
  held_now =
      remembered-at old.machine.engine.held m.start.regs m.slot m.below
      ∙ held_kept (held_at old.machine.engine.held m.slot) (progress_of m.start.regs.ring m.slot) m.task m.k m.active m.held

  is_due : f.due ≡ cond (nat_lt m.k m.task.desc.blocks) (NextBlock m.slot m.k) (Close m.slot)
  is_due =
      phase_due held m.start.regs (moving_state m.start m.task m.queued m.k).memory m.slot m.place f.due m.runs m.is_at m.active (λ other apart. (m.others other apart).1) f.is_due
      ∙ due_if held m.slot m.task m.k held_now

  abbrev ended_state : ℕ → End → Registers → RawState
  ended_state n end left = record m.start {
    memory = memory_after m.start.memory m.task.pieces m.start.card.contents m.queued n;
    regs = left;
    card = turned (contents_after m.start.card m.start.memory m.task.pieces m.queued n end) m.start.card;
  }

  works : (n : ℕ) (end : End) → HasMoved m.task m.queued (keeps m.start.card m.queued n) n end → (d : Did) (left : Registers) (holds : Places → Places)
      → ((places : Places) → after_close (host_of places m.start.regs) m.slot m.task.desc (seen (phase_answer m.task.desc.read end)) ≡ outcome_of d (holds places) left)
      → Works state d (ended_state n end left)
  works n end extent d left holds e =
      let P : Option DataTask → Type 0 = λ o. IsSomeAnd o (λ task. Moves m.slot task state d (ended_state n end left)) in
      let b : MovesBlocks m.slot m.task m.queued m.start d (ended_state n end left) = record {
        moved = n;
        end = end;
        extent = extent;
        is = sym (ap (λ (o : Outcome). o.did) (e none_held));
        state = ap (λ regs. ended_state n end regs) (sym (ap (λ (o : Outcome). o.host.regs) (e none_held)));
      } in
      record { due = Execute m.slot; is_due = m.due; acts = subst P (sym m.is_task) (moves m.sends m.taken b) }

  -- the task is done, after so many blocks
  by_end_of : (n : ℕ) (end : End) → HasMoved m.task m.queued (keeps m.start.card m.queued n) n end
      → outcome ≡ after_close (host_of held m.start.regs) m.slot m.task.desc (seen (phase_answer m.task.desc.read end))
      → memory_after m.start.memory m.task.pieces m.start.card.contents m.queued n ≡ new.machine.memory
      → Behinds new (turned (contents_after m.start.card m.start.memory m.task.pieces m.queued n end) m.start.card)
      → LedEnd m.start.regs m.slot m.task.desc (seen (phase_answer m.task.desc.read end)) → IsDone state did new
  by_end_of n end extent o memory behind (stops cause left stopped ring e) =
      let after : RawState = ended_state n end left in
      done_by state after new did (Stopped cause) (ap (λ (x : Outcome). x.did) (o ∙ e held)) (works n end extent (Stopped cause) left (λ places. places) e)
      (tells_from new after held left (leaves_as new did (Stopped cause) f.left.held held f.left.regs left f.leaves (o ∙ e held)) memory refl behind
      (rung_same m.start.regs.ring left.ring ring rung) (λ go. absurd (true≢false (sym stopped ∙ go))) (λ go. absurd (true≢false (sym stopped ∙ go))))
  by_end_of n end extent o memory behind (ends left stopped ring e) =
      let after : RawState = ended_state n end left in
      let places : Places = slice_set held m.slot None in
      done_by state after new did (Finished m.slot) (ap (λ (x : Outcome). x.did) (o ∙ e held)) (works n end extent (Finished m.slot) left (λ p. slice_set p m.slot None) e)
      (tells_from new after places left (leaves_as new did (Finished m.slot) f.left.held places f.left.regs left f.leaves (o ∙ e held)) memory refl behind
      (rung_same (without m.start.regs.ring m.slot) left.ring ring (rung_without m.start.regs.ring m.slot rung))
      (λ go. has_finished held m.start.regs left m.start.tasks m.slot has ring) (λ go. between_ended m.start.regs left m.slot m.others ring))

  abbrev c : Contents
  c = contents_moving m.start m.task m.queued m.k m.start.card.contents

  abbrev phase : DataPhase
  phase = phase_at m.queued m.k

  -- the card with other contents, where queue, extended CSD and epoch stay
  behind_with : (after : Contents) → plain new.machine.card after ≡ record (plain old.machine.card c) { contents = after }
      → StoreStands after new.machine.card.store new.array → is_some new.array.told ≡ is_some old.array.told → IsQuietScript new.machine.script
      → Behinds new (record m.start.card { contents = after })
  behind_with after others stands told script = record {
    is = ap (λ (card : PlainCard). record card { contents = after }) m.tells.card ∙ sym others;
    contents = stands;
    told = told ∙ m.tells.told;
    script = script;
  }

  -- a block more moved
  one_more : (after : Contents) → Behinds new (record m.start.card { contents = after })
      → after ≡ contents_moving m.start m.task m.queued (m.k + 1) m.start.card.contents
      → memory_after m.start.memory m.task.pieces m.start.card.contents m.queued (m.k + 1) ≡ new.machine.memory
      → new.machine.card.phase ≡ Some (phase_at m.queued (m.k + 1)) → m.k < m.task.desc.blocks
      → outcome ≡ outcome_of (Moved m.slot) (slice_set held m.slot (option_map with_one (held_at held m.slot))) m.start.regs → Onward state did new
  one_more after behind turns memory open_phase less o =
      let places : Places = slice_set held m.slot (option_map with_one (held_at held m.slot)) in
      let long = length-remembered old.machine.engine.held m.start.regs in
      let inside : m.slot < length held = omega (arith, long, m.below) in
      let l = leaves_as new did (Moved m.slot) f.left.held places f.left.regs m.start.regs f.leaves o in
      let H : Progress → Type 0 = λ p. left_at p (Some (record { task = m.task; progress = Active; moved = m.k + 1 }))
      ≡ Some (record { task = m.task; progress = Active; moved = m.k + 1 }) in
      let B : Contents → Type 0 = λ x. Behinds new (record m.start.card { contents = x }) in
      onward {slot = m.slot} (ap (λ (x : Outcome). x.did) o) (record {
        slot = m.slot;
        task = m.task;
        queued = m.queued;
        command = m.command;
        start = m.start;
        k = m.k + 1;
        below = m.below;
        due = m.due;
        is_task = m.is_task;
        taken = m.taken;
        direction = m.direction;
        sends = m.sends;
        place = m.place;
        is_at = m.is_at;
        active = m.active;
        others = m.others;
        runs = m.runs;
        within = omega arith;
        phase = open_phase;
        held = ap (λ p. held_at p m.slot) l.held ∙ noted_at places m.start.regs m.slot m.below
            ∙ ap (left_at (progress_of m.start.regs.ring m.slot)) (set-same held m.slot (option_map with_one (held_at held m.slot)) inside ∙ ap (option_map with_one) held_now)
            ∙ subst H (sym m.active) refl;
        tells = partly_from new (moving_state m.start m.task m.queued (m.k + 1)) places m.start.regs l memory refl (subst B turns behind) rung
            (λ go. has_counted held m.start.regs m.start.regs m.start.tasks m.slot long m.below has refl m.active);
      })

  phase_past : m.queued.task.blocks ≤ phase.moved → phase_at m.queued m.k ≡ phase_at m.queued (m.k + 1)
  phase_past h = ap (λ n. record { task = m.queued.task; start = m.queued.start; moved = n }) (omega arith)

  phase_moved : phase.moved < m.queued.task.blocks → phase.moved + 1 ≡ min (m.k + 1) m.queued.task.blocks
  phase_moved h = omega arith

  -- how far a data phase came that a block broke off
  broken : (end : StoreEnd) → m.k < m.task.desc.blocks → phase.moved < m.queued.task.blocks → HasMoved m.task m.queued (keeps m.start.card m.queued m.k) m.k (Err end)
  broken end less few = record { within = m.within; whole = tt; failed = inl (less, omega arith) }

  by_broken : (end : StoreEnd) → m.k < m.task.desc.blocks → phase.moved < m.queued.task.blocks → Behinds new (record m.start.card { contents = c })
      → new.machine.memory ≡ (moving_state m.start m.task m.queued m.k).memory
      → outcome ≡ after_close (host_of held m.start.regs) m.slot m.task.desc (seen (phase_answer m.task.desc.read (Err end))) → IsDone state did new
  by_broken end less few behind memory o =
      by_end_of m.k (Err end) (broken end less few) o (sym memory) behind
      (led_end m.start.regs m.slot m.task.desc (seen (phase_answer m.task.desc.read (Err end))))

  abbrev Left : Result (Unit {0}) LinkEnd → Type 0
  Left answer = outcome ≡ after_block (host_of held m.start.regs) m.slot m.task.desc answer

  -- the word of a failed block, by the direction
  word_as : (read : Bool) → m.task.desc.read ≡ read → phase_answer read (Err Flash) ≡ phase_answer m.task.desc.read (Err Flash)
  word_as read e = ap (λ b. phase_answer b (Err Flash)) (sym e)

  -- the block of a write
  abbrev block : Block
  block = block_of (moving_state m.start m.task m.queued m.k).memory m.task.pieces m.k

  marks_more : (marks : List Mark) → mark_of m.start.memory m.task.pieces m.queued m.k ≡ marks
      → with_marks (marks_of m.start.memory m.task.pieces m.queued (m.k + 1)) m.start.card.contents
      ≡ with_marks (marks_of m.start.memory m.task.pieces m.queued m.k ++ marks) m.start.card.contents
  unfolding marks_of
  marks_more marks e =
      ap (λ n. with_marks (marks_of m.start.memory m.task.pieces m.queued n) m.start.card.contents) (suc_is m.k)
      ∙ ap (λ more. with_marks (marks_of m.start.memory m.task.pieces m.queued m.k ++ more) m.start.card.contents) e

  module _ (write : m.queued.task.read ≡ false) where
    c_is : c ≡ with_marks (marks_of m.start.memory m.task.pieces m.queued m.k) m.start.card.contents
    c_is = contents_written m.start m.task m.queued m.k m.start.card.contents write

    no_mark : m.queued.task.blocks ≤ phase.moved → mark_of m.start.memory m.task.pieces m.queued m.k ≡ []
    no_mark h = ap (λ b. cond b (PutMark (record { sector = m.queued.start + m.k; value = block_of m.start.memory m.task.pieces m.k; reliable = m.queued.task.reliable }) ∷ []) [])
        (le-ltb m.k m.queued.task.blocks (omega arith))

    one_mark : phase.moved < m.queued.task.blocks → mark_of m.start.memory m.task.pieces m.queued m.k ≡ PutMark (next_put phase block) ∷ []
    one_mark h =
        ap (λ b. cond b (PutMark (record { sector = m.queued.start + m.k; value = block_of m.start.memory m.task.pieces m.k; reliable = m.queued.task.reliable }) ∷ []) [])
        (lt-ltb m.k m.queued.task.blocks (omega arith))
        ∙ ap (λ n. PutMark (record { sector = m.queued.start + n; value = block_of m.start.memory m.task.pieces m.k; reliable = m.queued.task.reliable }) ∷ []) (omega arith)
        ∙ ap (λ memory. PutMark (record { sector = m.queued.start + phase.moved; value = block_of memory m.task.pieces m.k; reliable = m.queued.task.reliable }) ∷ [])
        (sym (memory_written m.start.memory m.task.pieces m.start.card.contents m.queued m.k write))

    turned_past : m.queued.task.blocks ≤ phase.moved → c ≡ contents_moving m.start m.task m.queued (m.k + 1) m.start.card.contents
    turned_past h =
        c_is ∙ ap (λ marks. with_marks marks m.start.card.contents) (sym (append-nil (marks_of m.start.memory m.task.pieces m.queued m.k)))
        ∙ sym (marks_more [] (no_mark h)) ∙ sym (contents_written m.start m.task m.queued (m.k + 1) m.start.card.contents write)

    turned_moved : phase.moved < m.queued.task.blocks → with_put (next_put phase block) c ≡ contents_moving m.start m.task m.queued (m.k + 1) m.start.card.contents
    turned_moved h =
        ap (with_put (next_put phase block)) c_is
        ∙ ap (λ pend. record m.start.card.contents { pend = pend })
        (append_assoc m.start.card.contents.pend (marks_of m.start.memory m.task.pieces m.queued m.k) (PutMark (next_put phase block) ∷ []))
        ∙ sym (marks_more (PutMark (next_put phase block) ∷ []) (one_mark h))
        ∙ sym (contents_written m.start m.task m.queued (m.k + 1) m.start.card.contents write)

    memory_stays : new.machine.memory ≡ (moving_state m.start m.task m.queued m.k).memory
        → memory_after m.start.memory m.task.pieces m.start.card.contents m.queued (m.k + 1) ≡ new.machine.memory
    memory_stays e =
        memory_written m.start.memory m.task.pieces m.start.card.contents m.queued (m.k + 1) write
        ∙ sym (memory_written m.start.memory m.task.pieces m.start.card.contents m.queued m.k write) ∙ sym e

    by_given : (answer : Result (Unit {0}) LinkEnd) (after : Contents)
        → BlockMoved ERROR phase (behind_of old) (behind_of new) c (with_put (next_put phase block)) answer after
        → Behinds new (record m.start.card { contents = after }) → Left answer → new.machine.memory ≡ (moving_state m.start m.task m.queued m.k).memory
        → m.k < m.task.desc.blocks → Onward state did new
    by_given answer after (past h card array) behind o memory less =
        one_more c behind (turned_past h) (memory_stays memory) (ap (λ (x : CardState). x.phase) card ∙ m.phase ∙ ap Some (phase_past h)) less o
    by_given answer after (moved h card) behind o memory less =
        one_more (with_put (next_put phase block) c) behind (turned_moved h) (memory_stays memory)
        (ap (λ (x : CardState). x.phase) card ∙ ap (λ n. Some (record phase { moved = n })) (phase_moved h)) less o
    by_given answer after (failed h card) behind o memory less =
        over (by_broken Flash less h behind memory (o ∙ ap (λ a. after_close (host_of held m.start.regs) m.slot m.task.desc (seen a)) (word_as false (sym m.direction ∙ write))))
    by_given answer after (dark h card) behind o memory less = over (by_broken PowerLost less h behind memory o)

  module _ (read : m.queued.task.read ≡ true) where
    c_same : c ≡ m.start.card.contents
    c_same = contents_read m.start m.task m.queued m.k m.start.card.contents read

    c_more : c ≡ contents_moving m.start m.task m.queued (m.k + 1) m.start.card.contents
    c_more = c_same ∙ sym (contents_read m.start m.task m.queued (m.k + 1) m.start.card.contents read)

    -- the block that comes next, of the card's task or past it
    block_if : (within : Bool) → nat_lt m.k m.queued.task.blocks ≡ within → next_read phase c ≡ block_read m.start.card.contents m.queued m.k
    block_if true e =
        let less : m.k < m.queued.task.blocks = ltb-true m.k m.queued.task.blocks e in
        ap (λ (x : Contents). block_read x m.queued phase.moved) c_same ∙ ap (λ n. block_read m.start.card.contents m.queued n) (omega arith)
    block_if false e =
        let past : m.queued.task.blocks ≤ m.k = ltb-false m.k m.queued.task.blocks e in
        let one : nat_lt phase.moved m.queued.task.blocks ≡ false = le-ltb phase.moved m.queued.task.blocks (omega arith) in
        ap (λ b. cond b (sector_at (contents_now c.base c.pend) (m.queued.start + phase.moved)) (record { 0 = replicate 512 0 })) one
        ∙ sym (ap (λ b. cond b (sector_at (contents_now m.start.card.contents.base m.start.card.contents.pend) (m.queued.start + m.k)) (record { 0 = replicate 512 0 })) e)

    read_more : (value : Block) → value ≡ next_read phase c
        → memory_after m.start.memory m.task.pieces m.start.card.contents m.queued (m.k + 1)
        ≡ with_block (moving_state m.start m.task m.queued m.k).memory m.task.pieces m.k value
    unfolding read_into
    read_more value e =
        memory_read m.start.memory m.task.pieces m.start.card.contents m.queued (m.k + 1) read
        ∙ ap (λ n. read_into m.start.memory m.task.pieces m.start.card.contents m.queued n) (suc_is m.k)
        ∙ ap (λ b. with_block (read_into m.start.memory m.task.pieces m.start.card.contents m.queued m.k) m.task.pieces m.k b)
        (sym (e ∙ block_if (nat_lt m.k m.queued.task.blocks) refl))
        ∙ ap (λ memory. with_block memory m.task.pieces m.k value) (sym (memory_read m.start.memory m.task.pieces m.start.card.contents m.queued m.k read))

    by_taken : (value : Block) (answer : Result (Unit {0}) LinkEnd) (after : Contents)
        → BlockMoved DEVICE_ECC_FAILED phase (behind_of old) (behind_of new) c same answer after → OnOk answer (value ≡ next_read phase c)
        → Behinds new (record m.start.card { contents = after }) → Left answer
        → new.machine.memory ≡ engine_read (moving_state m.start m.task m.queued m.k).memory m.task.pieces m.k value answer
        → m.k < m.task.desc.blocks → Onward state did new
    by_taken value answer after (past h card array) next behind o memory less =
        one_more c behind c_more (read_more value next ∙ sym memory) (ap (λ (x : CardState). x.phase) card ∙ m.phase ∙ ap Some (phase_past h)) less o
    by_taken value answer after (moved h card) next behind o memory less =
        one_more c behind c_more (read_more value next ∙ sym memory)
        (ap (λ (x : CardState). x.phase) card ∙ ap (λ n. Some (record phase { moved = n })) (phase_moved h)) less o
    by_taken value answer after (failed h card) next behind o memory less =
        over (by_broken Flash less h behind memory (o ∙ ap (λ a. after_close (host_of held m.start.regs) m.slot m.task.desc (seen a)) (word_as true (sym m.direction ∙ read))))
    by_taken value answer after (dark h card) next behind o memory less = over (by_broken PowerLost less h behind memory o)

  -- the write is kept at the end, in the card's words and in a script's
  same_keeps : keeps_write old.machine.card phase ≡ keeps m.start.card m.queued m.k
  same_keeps =
      ap (λ (card : PlainCard). must_keep (card_of card) (phase_of m.queued) && (phase.moved == m.queued.task.blocks)) (sym m.tells.card)
      ∙ ap (λ b. must_keep (card_of m.start.card) (phase_of m.queued) && b) (least m.k m.queued.task.blocks)

  contents_at_end : (b : Bool) → keeps m.start.card m.queued m.k ≡ b
      → contents_after m.start.card m.start.memory m.task.pieces m.queued m.k (Ok tt) m.start.card.contents
      ≡ cond m.queued.task.read m.start.card.contents
      ((cond b (kept (is_named m.queued.start m.queued.task.blocks)) same) (with_marks (marks_of m.start.memory m.task.pieces m.queued m.k) m.start.card.contents))
  contents_at_end b e =
      ap (λ (keep : Bool). cond m.queued.task.read m.start.card.contents
      ((cond keep (kept (is_named m.queued.start m.queued.task.blocks)) same) (with_marks (marks_of m.start.memory m.task.pieces m.queued m.k) m.start.card.contents))) e

  -- what is kept is a write
  is_write : keeps_write old.machine.card phase ≡ true → m.queued.task.read ≡ false
  is_write e =
      let must = (and_parts (must_keep old.machine.card phase) (phase.moved == m.queued.task.blocks) e).0 in
      not-true m.queued.task.read
      (and_parts (not m.queued.task.read) (m.queued.task.forced || (m.queued.task.reliable || not old.machine.card.csd.cache)) must).0

  whole : m.k ≡ m.task.desc.blocks → HasMoved m.task m.queued (keeps m.start.card m.queued m.k) m.k (Ok tt)
  whole e = record { within = m.within; whole = e; failed = tt }

  unkept : (end : StoreEnd) → m.k ≡ m.task.desc.blocks → keeps m.start.card m.queued m.k ≡ true
      → HasMoved m.task m.queued (keeps m.start.card m.queued m.k) m.k (Err end)
  unkept end e k = record { within = m.within; whole = tt; failed = inr (e, k) }

  by_closed : (answer : Result ℕ LinkEnd) (after : Contents) → PhaseClosed phase (behind_of old) (behind_of new) c answer after
      → Behinds new (record m.start.card { contents = after }) → outcome ≡ after_close (host_of held m.start.regs) m.slot m.task.desc answer
      → new.machine.memory ≡ (moving_state m.start m.task m.queued m.k).memory → m.k ≡ m.task.desc.blocks → IsDone state did new
  by_closed answer after (closed_only unkeeping card array) behind o memory all =
      let B : Contents → Type 0 = λ x. Behinds new (record m.start.card { contents = x }) in
      by_end_of m.k (Ok tt) (whole all) o (sym memory) (subst B (sym (contents_at_end false (sym same_keeps ∙ unkeeping))) behind)
      (led_end m.start.regs m.slot m.task.desc (seen (phase_answer m.task.desc.read (Ok tt))))
  by_closed answer after (write_kept keeping card) behind o memory all =
      let B : Contents → Type 0 = λ x. Behinds new (record m.start.card { contents = x }) in
      let write = is_write keeping in
      let named = kept (is_named m.queued.start m.queued.task.blocks) in
      let e : named c ≡ contents_after m.start.card m.start.memory m.task.pieces m.queued m.k (Ok tt) m.start.card.contents =
      ap named (c_is write) ∙ ap (λ b. cond b m.start.card.contents (named (with_marks (marks_of m.start.memory m.task.pieces m.queued m.k) m.start.card.contents))) (sym write)
      ∙ sym (contents_at_end true (sym same_keeps ∙ keeping)) in
      by_end_of m.k (Ok tt) (whole all) o (sym memory) (subst B e behind)
      (led_end m.start.regs m.slot m.task.desc (seen (phase_answer m.task.desc.read (Ok tt))))
  by_closed answer after (write_failed keeping card) behind o memory all =
      by_end_of m.k (Err Flash) (unkept Flash all (sym same_keeps ∙ keeping))
      (o ∙ ap (λ a. after_close (host_of held m.start.regs) m.slot m.task.desc (seen a)) (word_as false (sym m.direction ∙ is_write keeping))) (sym memory) behind
      (led_end m.start.regs m.slot m.task.desc (seen (phase_answer m.task.desc.read (Err Flash))))
  by_closed answer after (write_dark keeping card) behind o memory all =
      by_end_of m.k (Err PowerLost) (unkept PowerLost all (sym same_keeps ∙ keeping)) o (sym memory) behind
      (led_end m.start.regs m.slot m.task.desc (seen (phase_answer m.task.desc.read (Err PowerLost))))

  -- the card's phase is told by the old moment
  by_direction : (read : Bool) → m.task.desc.read ≡ read → m.k < m.task.desc.blocks
      → MatchBool read
      (Takes CardMade (behind_of old) (behind_of new) m.task.pieces m.k (moving_state m.start m.task m.queued m.k).memory new.machine.memory outcome
      (after_block (host_of held m.start.regs) m.slot m.task.desc))
      (Gives CardMade (behind_of old) (behind_of new) block outcome (after_block (host_of held m.start.regs) m.slot m.task.desc)
      × (new.machine.memory ≡ (moving_state m.start m.task m.queued m.k).memory)) → Onward state did new
  by_direction true e less t =
      let x : TakesOne t.block phase (behind_of old) (behind_of new) c t.answer =
      taken t.block phase (behind_of old) (behind_of new) c t.answer m.tells.script m.tells.contents m.tells.told m.phase (m.direction ∙ e) t.crossed in
      by_taken (m.direction ∙ e) t.block t.answer x.moves.after x.moves.block_moved x.is_next
      (behind_with x.moves.after x.moves.others x.moves.stands x.moves.told x.moves.script) t.outcome t.written less
  by_direction false e less g =
      let x : MovesOne ERROR phase (behind_of old) (behind_of new) c (with_put (next_put phase block)) g.0.answer =
      given block phase (behind_of old) (behind_of new) c g.0.answer m.tells.script m.tells.contents m.phase (m.direction ∙ e) g.0.crossed in
      by_given (m.direction ∙ e) g.0.answer x.after x.block_moved (behind_with x.after x.others x.stands x.told x.script) g.0.outcome g.1 less

  abbrev DoesSo : Due → Type 0
  DoesSo due = Does CardMade (behind_of old) (behind_of new) (host_of held m.start.regs) (moving_state m.start m.task m.queued m.k).memory new.machine.memory outcome due

  by_due : (more : Bool) → nat_lt m.k m.task.desc.blocks ≡ more → DoesSo (cond more (NextBlock m.slot m.k) (Close m.slot)) → Onward state did new
  by_due true e d =
      by_direction m.task.desc.read refl (ltb-true m.k m.task.desc.blocks e)
      (of-some (held_at held m.slot) (record { task = m.task; progress = Active; moved = m.k })
      (λ h. MovesBlock CardMade (behind_of old) (behind_of new) (host_of held m.start.regs) (moving_state m.start m.task m.queued m.k).memory new.machine.memory
      m.slot m.k outcome h.task) held_now d)
  by_due false e d =
      let k : Closes CardMade (behind_of old) (behind_of new) outcome (after_close (host_of held m.start.regs) m.slot m.task.desc) =
      of-some (held_at held m.slot) (record { task = m.task; progress = Active; moved = m.k })
      (λ h. Closes CardMade (behind_of old) (behind_of new) outcome (after_close (host_of held m.start.regs) m.slot h.task.desc)) held_now d.0 in
      let x : ClosesPhase phase (behind_of old) (behind_of new) c k.answer =
      phase_closes phase (behind_of old) (behind_of new) c k.answer m.tells.script m.tells.contents m.phase k.crossed in
      let most : m.task.desc.blocks ≤ m.k = ltb-false m.k m.task.desc.blocks e in
      let within : m.k ≤ m.task.desc.blocks = m.within in
      over (by_closed k.answer x.after x.phase_closed (behind_with x.after x.others x.stands x.told x.script) k.outcome d.1 (omega arith))

pub step_moving : (state : RawState) (old new : Moment) (did : Did) → IsMoving state old → Happens old did new → Onward state did new
step_moving state old new did m e =
    let f = facts (moving_state m.start m.task m.queued m.k) old new did m.tells e in
    by_due state old new did m f (nat_lt m.k m.task.desc.blocks) refl (subst (DoesSo state old new did m f) (is_due state old new did m f) f.does)
