-- In an event of a phase no word stops the engine but one of a fault of the flash.
use Rattle.std.proofs.Common.{◌≡◌, ◌<◌, ◌==◌, ℕ, refl, ◌∙◌, ap, subst, inl, inr}
use Rattle.std.specs.Prelude.{Bool, true, false, not, Option, Some, Result, Ok, Err, is_some}
use Rattle.std.specs.Bool.{MatchBool}
use Rattle.std.specs.Int.RustNames.{bit_and}
use Rattle.std.specs.Option.{IsSomeAnd, option_map_or}
use Rattle.std.proofs.lemmas.Bool.{false≢true}
use Rattle.array_edge.specs.Array.{ArrayState}
use Rattle.bus_link.specs.Link.{is_poll}
use Rattle.bus_link.specs.declared.link.LinkEnd.{LinkEnd}
use Rattle.bus_link.specs.declared.link.LinkEnd.TheVariants as link_end
use Rattle.card_core.specs.Moving.{next_put}
use Rattle.card_core.specs.Serving.{End, block_answer, without_error, word_answer, word_of}
use Rattle.card_core.specs.declared.phase.Phase.{Phase}
use Rattle.card_link.specs.Behind.{Behind, behind}
use Rattle.card_link.specs.Made.{CardMade, Exchanges, block_seen, close_seen, hit_on, response_seen}
use Rattle.card_store.specs.Store.{Contents, same, with_put}
use Rattle.cmd_words.specs.declared.command.Command.{Command}
use Rattle.cmd_words.specs.declared.status.Status.{Status as ErrorSet}
use Rattle.cmd_words.specs.declared.status.TheConstants.Status.{DEVICE_ECC_FAILED, ERROR}
use Rattle.cq_engine.specs.After.{after_block as block_ended, after_close as close_ended, after_direct}
use Rattle.cq_engine.specs.Event.{Closes as ClosesPhase, Does, Exchanges as SendsCommand, Gives as GivesBlock, MovesBlock, Takes as TakesBlock}
use Rattle.cq_engine.specs.Outcome.{Outcome, outcome_of}
use Rattle.cq_engine.specs.Words.{direct_of, is_masked}
use Rattle.cq_engine.specs.declared.did.Did.{Did}
use Rattle.cq_schedule.specs.Held.{remembered}
use Rattle.cq_schedule.specs.Meaning.{HasItsSlot, IsDue, list_of as engine_list, rests}
use Rattle.cq_schedule.specs.Order.{blocks_of, moved_of}
use Rattle.cq_schedule.specs.declared.held.HeldTask.{HeldTask}
use Rattle.cq_schedule.specs.declared.rules.Due.{Due}
use Rattle.cq_schedule.specs.declared.rules.Due.TheVariants.{Rest, Block as NextBlock, Close, Address, Serve, Execute, Poll, Tick}
use Rattle.cq_task.specs.declared.slot.SlotTask.TheVariants.{Direct}
use Rattle.cq_task.proofs.OneMeaning.{one_meaning}
use Rattle.drv_core.specs.Judge.{error_of}
use Rattle.drv_core.specs.State.{asks_notice}
use Rattle.intent_store.specs.declared.ends.StoreEnd.TheVariants.{Flash, PowerLost}
use Rattle.piece_data.specs.Data.{block_of}
use Rattle.storage_machine.specs.Jobs.{is_direct}
use Rattle.storage_model.specs.declared.faults.BusKind.TheVariants.{Lost, NoResp, Bad, Late}
use Rattle.world_state.specs.Engine.{EngineEvent}
use Rattle.world_state.specs.Path.{PathState, behind_path, holder, job, plan_of}
use Rattle.world_state.specs.Steps.{is_of_phase}
use Rattle.world_state.specs.Ties.{AreTied}
use Rattle.phase_laws.proofs.Blocks.{host_at, masks, seen_dark as block_dark, seen_ok, seen_status}
use Rattle.phase_laws.proofs.Closes.{ends_masked, ends_well, seen_dark, seen_word}
use Rattle.phase_laws.proofs.Crossings.{BlockMade, PhaseClosed, PhaseEnded, bad, closes, given, only, served, stored, taken}
use Rattle.phase_laws.proofs.Directs.{DirectFacts, DirectMade, DirectWord, InService, ServesHere, dark, dark_response, direct_facts, direct_goes, direct_made, direct_stops, fails, got, in_service, lost, seen_response, well}
use Rattle.phase_laws.proofs.Dues.{block_active, close_active, works}
use Rattle.phase_laws.proofs.Endings.{phase_of}
use Rattle.phase_laws.proofs.Events.{InPhase, in_phase}
use Rattle.word_laws.specs.Words.{StopsByError}
use Rattle.word_laws.proofs.Stops.{by_bus, by_dark, by_error, finished_on, moved_on, served_on}

-- the words that the mask of a run has
masked_in : (p : PathState) → AreTied p → (word : ℕ) → (bit_and word 3228041344 == 0) ≡ false → is_masked p.regs word ≡ true
masked_in p t word some = masks p.regs word (ap (λ r. r.error_mask) t.regs.same) some

unmasked : (p : PathState) → AreTied p → is_masked p.regs without_error ≡ false
unmasked p t = ap (λ m. not (bit_and without_error m == 0)) (ap (λ r. r.error_mask) t.regs.same)

-- ---- a block

made_words : (p : PathState) (a : ArrayState) (p' : PathState) (a' : ArrayState) (did : Did) (phase : Option Phase) (e : EngineEvent p a p' a' did phase)
    (slot : ℕ) (i : InPhase p slot) (error : ErrorSet) (f : Contents → Contents) (answer : Result (Unit {0}) LinkEnd)
    → is_masked p.regs (word_of error) ≡ true → is_some (error_of (word_of error)) ≡ true
    → outcome_of did e.event.left.held e.event.left.regs ≡ block_ended (host_at p) slot i.h.task.desc answer
    → BlockMade error (phase_of slot i.h) f (behind_path p a) (behind e.card a' p'.script) answer → StopsByError did
made_words p a p' a' did phase e slot i error f answer masked known out (bad n hit next seen new) =
    let O : Result (Unit {0}) LinkEnd → Type 0 =
    λ r. outcome_of did e.event.left.held e.event.left.regs ≡ block_ended (host_at p) slot i.h.task.desc r in
    by_bus did (Bad n) (Some slot) (ap (λ o. o.did) (subst O seen out))
made_words p a p' a' did phase e slot i error f answer masked known out (served gave none s script seen) = by_end_of s.end s.answers
  where
    O : Result (Unit {0}) LinkEnd → Type 0
    O r = outcome_of did e.event.left.held e.event.left.regs ≡ block_ended (host_at p) slot i.h.task.desc r

    by_end_of : (end : End) → gave ≡ block_answer error end → StopsByError did
    by_end_of (Ok u) is = moved_on did slot (ap (λ o. o.did) (subst O (seen ∙ ap (block_seen p.script.hit) is ∙ seen_ok p.script.hit) out))
    by_end_of (Err Flash) is =
        elim (seen_status p.script.hit (word_of error)) [
          | inl x ↦
              by_error did (word_of error) slot
              (ap (λ o. o.did) (subst O (seen ∙ ap (block_seen p.script.hit) is ∙ x) out ∙ ends_masked p slot (word_of error) i masked)) known
          | inr x ↦ by_bus did Late (Some slot) (ap (λ o. o.did) (subst O (seen ∙ ap (block_seen p.script.hit) is ∙ x) out))
        ]
    by_end_of (Err PowerLost) is = by_dark did (ap (λ o. o.did) (subst O (seen ∙ ap (block_seen p.script.hit) is ∙ block_dark p.script.hit) out))

block_words : (p : PathState) (a : ArrayState) (p' : PathState) (a' : ArrayState) (did : Did) (phase : Option Phase) (e : EngineEvent p a p' a' did phase)
    (slot k : ℕ) → AreTied p → IsDue (remembered p.engine.held p.regs) p.regs p.memory (NextBlock slot k)
    → HasItsSlot (remembered p.engine.held p.regs) p.regs (NextBlock slot k)
    → Does CardMade (behind_path p a) (behind e.card a' p'.script) (host_at p) p.memory p'.memory (outcome_of did e.event.left.held e.event.left.regs) (NextBlock slot k)
    → StopsByError did
block_words p a p' a' did phase e slot k t due has does = by_way i.h.task.desc.read refl (subst D i.there does)
  where
    old : Behind
    old = behind_path p a

    new : Behind
    new = behind e.card a' p'.script

    out : Outcome
    out = outcome_of did e.event.left.held e.event.left.regs

    goes : rests p.regs ≡ false
    goes = works (remembered p.engine.held p.regs) p.regs p.memory (NextBlock slot k) due (λ h. absurd (cc h))

    i : InPhase p slot
    i = in_phase p slot t goes has.0.below (block_active (remembered p.engine.held p.regs) p.regs p.memory slot k due)

    D : Option HeldTask → Type 0
    D o = IsSomeAnd o (λ held. MovesBlock CardMade old new (host_at p) p.memory p'.memory slot k out held.task)

    left : i.h.moved < i.h.task.desc.blocks
    left =
        let L : Option HeldTask → Type 0 = λ o. option_map_or (λ h. h.moved) o 0 < option_map_or (λ h. h.task.desc.blocks) o 0 in
        let less : moved_of (remembered p.engine.held p.regs) slot < blocks_of (remembered p.engine.held p.regs) slot =
        subst (λ n. n < blocks_of (remembered p.engine.held p.regs) slot) has.1 has.2 in
        subst L i.there less

    by_way : (read : Bool) → i.h.task.desc.read ≡ read
        → MatchBool read (TakesBlock CardMade old new i.h.task.pieces k p.memory p'.memory out (block_ended (host_at p) slot i.h.task.desc))
        (GivesBlock CardMade old new (block_of p.memory i.h.task.pieces k) out (block_ended (host_at p) slot i.h.task.desc) × (p'.memory ≡ p.memory))
        → StopsByError did
    by_way true way x =
        made_words p a p' a' did phase e slot i DEVICE_ECC_FAILED same x.answer (masked_in p t (word_of DEVICE_ECC_FAILED) refl) refl x.outcome
        (taken x.block (phase_of slot i.h) old new x.answer i.open_phase way left x.crossed)
    by_way false way x =
        made_words p a p' a' did phase e slot i ERROR (with_put (next_put (phase_of slot i.h) (block_of p.memory i.h.task.pieces k))) x.0.answer
        (masked_in p t (word_of ERROR) refl) refl x.0.outcome
        (given (block_of p.memory i.h.task.pieces k) (phase_of slot i.h) old new x.0.answer i.open_phase way left x.0.crossed)

-- ---- the end of a data phase

close_words : (p : PathState) (a : ArrayState) (p' : PathState) (a' : ArrayState) (did : Did) (phase : Option Phase) (e : EngineEvent p a p' a' did phase)
    (slot : ℕ) → AreTied p → IsDue (remembered p.engine.held p.regs) p.regs p.memory (Close slot)
    → HasItsSlot (remembered p.engine.held p.regs) p.regs (Close slot)
    → Does CardMade (behind_path p a) (behind e.card a' p'.script) (host_at p) p.memory p'.memory (outcome_of did e.event.left.held e.event.left.regs) (Close slot)
    → StopsByError did
close_words p a p' a' did phase e slot t due has does = by_ended x.ended
  where
    old : Behind
    old = behind_path p a

    new : Behind
    new = behind e.card a' p'.script

    out : Outcome
    out = outcome_of did e.event.left.held e.event.left.regs

    goes : rests p.regs ≡ false
    goes = works (remembered p.engine.held p.regs) p.regs p.memory (Close slot) due (λ h. absurd (cc h))

    i : InPhase p slot
    i = in_phase p slot t goes has.0.below (close_active (remembered p.engine.held p.regs) p.regs p.memory slot due)

    D : Option HeldTask → Type 0
    D o = IsSomeAnd o (λ held. ClosesPhase CardMade old new out (close_ended (host_at p) slot held.task.desc))

    d : ClosesPhase CardMade old new out (close_ended (host_at p) slot i.h.task.desc)
    d = subst D i.there does.0

    x : PhaseClosed (phase_of slot i.h) old new d.answer
    x = closes (phase_of slot i.h) old new d.answer i.open_phase d.crossed

    O : Result ℕ LinkEnd → Type 0
    O r = out ≡ close_ended (host_at p) slot i.h.task.desc r

    late : (word : ℕ) → x.got ≡ Ok word → close_seen p.script.hit (Ok word) ≡ Err (link_end.Bus Late) → StopsByError did
    late word is s = by_bus did Late (Some slot) (ap (λ o. o.did) (subst O (x.seen ∙ ap (close_seen p.script.hit) is ∙ s) d.outcome))

    finished : x.got ≡ Ok without_error → StopsByError did
    finished is =
        elim (seen_word p.script.hit without_error) [
          | inl s ↦
              finished_on did slot
              (ap (λ o. o.did) (subst O (x.seen ∙ ap (close_seen p.script.hit) is ∙ s.1) d.outcome ∙ ends_well p slot i (unmasked p t)))
          | inr s ↦ late without_error is s.1
        ]

    by_end_of : (end : End) → x.got ≡ word_answer end → StopsByError did
    by_end_of (Ok u) is = finished is
    by_end_of (Err Flash) is =
        elim (seen_word p.script.hit (word_of ERROR)) [
          | inl s ↦
              by_error did (word_of ERROR) slot
              (ap (λ o. o.did) (subst O (x.seen ∙ ap (close_seen p.script.hit) is ∙ s.1) d.outcome
              ∙ ends_masked p slot (word_of ERROR) i (masked_in p t (word_of ERROR) refl))) refl
          | inr s ↦ late (word_of ERROR) is s.1
        ]
    by_end_of (Err PowerLost) is =
        by_dark did (ap (λ o. o.did) (subst O (x.seen ∙ ap (close_seen p.script.hit) is ∙ seen_dark p.script.hit (record {})) d.outcome))

    by_ended : PhaseEnded (phase_of slot i.h) old new x.got → StopsByError did
    by_ended (only must u) = finished u.answer
    by_ended (stored must s settled) = by_end_of s.end s.answers

-- ---- a direct command

direct_words : (p : PathState) (a : ArrayState) (p' : PathState) (a' : ArrayState) (did : Did) (phase : Option Phase) (e : EngineEvent p a p' a' did phase)
    (slot : ℕ) → AreTied p → IsDue (remembered p.engine.held p.regs) p.regs p.memory (Serve slot)
    → HasItsSlot (remembered p.engine.held p.regs) p.regs (Serve slot)
    → Does CardMade (behind_path p a) (behind e.card a' p'.script) (host_at p) p.memory p'.memory (outcome_of did e.event.left.held e.event.left.regs) (Serve slot)
    → option_map_or (λ id. is_direct (job p id)) (holder p slot) false ≡ true → StopsByError did
direct_words p a p' a' did phase e slot t due has does direct = by_made (direct_made x.command x.does old new sends.answer x.responds x.poll crossed)
  where
    old : Behind
    old = behind_path p a

    new : Behind
    new = behind e.card a' p'.script

    out : Outcome
    out = outcome_of did e.event.left.held e.event.left.regs

    goes : rests p.regs ≡ false
    goes = works (remembered p.engine.held p.regs) p.regs p.memory (Serve slot) due (λ h. absurd (cc h))

    i : InService p slot
    i = in_service p slot t goes has.0 has.1 direct

    meaning_is : does.0.meaning ≡ Ok (Direct i.desc)
    meaning_is = one_meaning p.memory (engine_list p.regs) slot does.0.meaning (Ok (Direct i.desc)) does.0.means i.means

    sends : SendsCommand CardMade old new (direct_of i.desc) out (after_direct (host_at p) slot i.desc)
    sends = subst (ServesHere p old new slot out) meaning_is does.0.serves

    x : DirectFacts p.card i.desc
    x = direct_facts p.card (job p i.id) (asks_notice (plan_of p) (job p i.id)) i.desc (ap (λ c. c.barrier) t.card.csd) i.is_job

    crossed : Exchanges x.command old new sends.answer
    crossed = let X : Command → Type 0 = λ c. Exchanges c old new sends.answer in subst X x.is sends.crossed

    O : Result ℕ LinkEnd → Type 0
    O r = out ≡ after_direct (host_at p) slot i.desc r

    by_made : DirectMade x.command x.does old new sends.answer → StopsByError did
    by_made (lost hit seen behind) = by_bus did Lost (Some slot) (ap (λ o. o.did) (subst O seen sends.outcome))
    by_made (got word free responds script seen) = by_answer (x.leaves a e.card a' word responds).answers
      where
        silent : (n : ℕ) → word ≡ Ok n → response_seen (hit_on old x.command) (Ok n) ≡ Err (link_end.Bus NoResp) → StopsByError did
        silent n is s =
            by_bus did NoResp (Some slot) (ap (λ o. o.did) (subst O (seen ∙ ap (response_seen (hit_on old x.command)) is ∙ s) sends.outcome))

        by_answer : DirectWord word → StopsByError did
        by_answer (well is) =
            elim (seen_response (hit_on old x.command) without_error free) [
              | inl s ↦
                  served_on did slot
                  (ap (λ o. o.did) (subst O (seen ∙ ap (response_seen (hit_on old x.command)) is ∙ s.1) sends.outcome
                  ∙ direct_goes p slot without_error i.desc x.resp (unmasked p t)))
              | inr s ↦ silent without_error is s.1
            ]
        by_answer (fails is) =
            elim (seen_response (hit_on old x.command) (word_of ERROR) free) [
              | inl s ↦
                  by_error did (word_of ERROR) slot
                  (ap (λ o. o.did) (subst O (seen ∙ ap (response_seen (hit_on old x.command)) is ∙ s.1) sends.outcome
                  ∙ direct_stops p slot (word_of ERROR) i.desc x.resp (masked_in p t (word_of ERROR) refl) (ap is_poll x.is ∙ x.poll))) refl
              | inr s ↦ silent (word_of ERROR) is s.1
            ]
        by_answer (dark is) =
            by_dark did
            (ap (λ o. o.did)
            (subst O (seen ∙ ap (response_seen (hit_on old x.command)) is ∙ dark_response (hit_on old x.command) (record {})) sends.outcome))

-- ---- whichever is due

words_by : (p : PathState) (a : ArrayState) (p' : PathState) (a' : ArrayState) (did : Did) (phase : Option Phase) (e : EngineEvent p a p' a' did phase) (due : Due)
    → is_of_phase p due ≡ true → AreTied p → IsDue (remembered p.engine.held p.regs) p.regs p.memory due
    → HasItsSlot (remembered p.engine.held p.regs) p.regs due
    → Does CardMade (behind_path p a) (behind e.card a' p'.script) (host_at p) p.memory p'.memory (outcome_of did e.event.left.held e.event.left.regs) due
    → StopsByError did
words_by p a p' a' did phase e Rest test t due has does = absurd (false≢true test)
words_by p a p' a' did phase e Tick test t due has does = absurd (false≢true test)
words_by p a p' a' did phase e Poll test t due has does = absurd (false≢true test)
words_by p a p' a' did phase e (Address slot) test t due has does = absurd (false≢true test)
words_by p a p' a' did phase e (Execute slot) test t due has does = absurd (false≢true test)
words_by p a p' a' did phase e (Serve slot) test t due has does = direct_words p a p' a' did phase e slot t due has does test
words_by p a p' a' did phase e (NextBlock slot k) test t due has does = block_words p a p' a' did phase e slot k t due has does
words_by p a p' a' did phase e (Close slot) test t due has does = close_words p a p' a' did phase e slot t due has does

pub phase_words : (p : PathState) (a : ArrayState) (p' : PathState) (a' : ArrayState) (did : Did) (phase : Option Phase) (e : EngineEvent p a p' a' did phase)
    → is_of_phase p e.event.acts.due ≡ true → AreTied p → StopsByError did
phase_words p a p' a' did phase e test t =
    words_by p a p' a' did phase e e.event.acts.due test t e.event.acts.is_due e.event.acts.slot e.event.acts.does
