-- What a block tells in which power is lost.
use Rattle.std.proofs.Common.{◌≡◌, ◌<◌, ◌≤◌, ◌+◌, ◌==◌, ℕ, refl, sym, ◌∙◌, ap, subst, arith, inl, inr}
use Rattle.std.specs.Prelude.{Bool, true, false, cond, Option, Result, Ok, Err}
use Rattle.std.specs.Bool.{MatchBool}
use Rattle.std.specs.Int.RustNames.{bit_and}
use Rattle.std.specs.Option.{IsSomeAnd, option_map_or}
use Rattle.std.proofs.lemmas.Bool.{false≢true}
use Rattle.array_edge.specs.Array.{ArrayState}
use Rattle.bus_link.specs.declared.link.Cause.TheVariants.{Response}
use Rattle.bus_link.specs.declared.link.LinkEnd.{LinkEnd}
use Rattle.bus_link.specs.declared.link.LinkEnd.TheVariants as link_end
use Rattle.card_core.specs.Moving.{moved_on, next_put}
use Rattle.card_core.specs.Serving.{End, block_answer, by_end, word_of}
use Rattle.card_core.specs.declared.phase.Phase.{Phase}
use Rattle.card_link.specs.Behind.{Behind, behind}
use Rattle.card_link.specs.Made.{CardMade, IsTaken, block_seen, is_bad_block}
use Rattle.card_store.specs.Store.{Contents, Turns, same, with_put}
use Rattle.cmd_words.specs.Command.{index_of}
use Rattle.cmd_words.specs.declared.status.Status.{Status as ErrorSet}
use Rattle.cmd_words.specs.declared.status.TheConstants.Status.{DEVICE_ECC_FAILED, ERROR}
use Rattle.cq_engine.specs.After.{after_block as block_ended, phase_ended}
use Rattle.cq_engine.specs.Event.{Does, Gives as GivesBlock, MovesBlock, Takes as TakesBlock, read_into}
use Rattle.cq_engine.specs.Outcome.{Outcome, outcome_of}
use Rattle.cq_engine.specs.Words.{data_error, execute_of, is_masked}
use Rattle.cq_engine.specs.declared.did.Did.{Did}
use Rattle.cq_schedule.specs.Held.{remembered}
use Rattle.cq_schedule.specs.Meaning.{HasItsSlot, IsDue, rests}
use Rattle.cq_schedule.specs.Order.{blocks_of}
use Rattle.cq_schedule.specs.declared.held.HeldTask.{HeldTask}
use Rattle.cq_schedule.specs.declared.rules.Due.TheVariants.{Block as NextBlock}
use Rattle.intent_store.specs.Intent.{shown_by}
use Rattle.intent_store.specs.declared.ends.StoreEnd.TheVariants.{Flash, PowerLost}
use Rattle.piece_data.specs.Data.{block_of}
use Rattle.world_state.specs.Engine.{EngineEvent, engine_lines, is_dark}
use Rattle.world_state.specs.Laws.{StateLaws}
use Rattle.world_state.specs.Path.{PathState, behind_path, job}
use Rattle.world_state.specs.Ties.{AreTied}
use Rattle.phase_laws.proofs.BlockAll.{IsStill, Unmoved, late_or, part_of}
use Rattle.phase_laws.proofs.Darks.{DarkensSo, dark_event}
use Rattle.phase_laws.proofs.BlockTells.{finds_room, has_read, is_given, is_taken}
use Rattle.phase_laws.proofs.Blocks.{block_script, host_at, masks, seen_dark, seen_ok, sent_same}
use Rattle.phase_laws.proofs.Parts.{KeepsScript}
use Rattle.phase_laws.proofs.Crossings.{BlockMade, bad, given, served, taken}
use Rattle.phase_laws.proofs.Dues.{block_active, works}
use Rattle.phase_laws.proofs.Endings.{phase_of}
use Rattle.phase_laws.proofs.Events.{InPhase, in_phase}

made_dark : (p : PathState) (a : ArrayState) (p' : PathState) (a' : ArrayState) (did : Did) (phase : Option Phase) (e : EngineEvent p a p' a' did phase)
    (slot k : ℕ) (i : InPhase p slot) (error : ErrorSet) (f : Contents → Contents) (answer : Result (Unit {0}) LinkEnd) → AreTied p → AreTied p' → StateLaws
    → IsDue (remembered p.engine.held p.regs) p.regs p.memory (NextBlock slot k) → i.h.moved < i.h.task.desc.blocks
    → is_masked p.regs (word_of error) ≡ true
    → outcome_of did e.event.left.held e.event.left.regs ≡ block_ended (host_at p) slot i.h.task.desc answer → is_dark did ≡ true
    → Unmoved p p'.memory answer → (is_bad_block p.script.hit (i.h.moved + 1) ≡ false → IsStill p a a' (job p i.id))
    → BlockMade error (phase_of slot i.h) f (behind_path p a) (behind e.card a' p'.script) answer
    → DarkensSo p a (engine_lines p p' did phase) p' a'
made_dark p a p' a' did phase e slot k i error f answer t t' laws due left masked out dark memory still (bad n hit next seen new) =
    let O : Result (Unit {0}) LinkEnd → Type 0 =
    λ r. outcome_of did e.event.left.held e.event.left.regs ≡ block_ended (host_at p) slot i.h.task.desc r in
    absurd (false≢true (sym (ap (λ o. is_dark o.did) (subst O seen out)) ∙ dark))
made_dark p a p' a' did phase e slot k i error f answer t t' laws due left masked out dark memory still (served got none s script seen) =
    by_end_of s.end s.answers s.card s.turns
  where
    O : Result (Unit {0}) LinkEnd → Type 0
    O r = outcome_of did e.event.left.held e.event.left.regs ≡ block_ended (host_at p) slot i.h.task.desc r

    few : i.h.moved ≤ i.h.task.desc.blocks
    few = omega (arith, left)

    info : ℕ
    info = data_error (index_of (execute_of slot i.h.task.desc)) slot

    by_end_of : (end : End) → got ≡ block_answer error end → e.card ≡ record (by_end (moved_on p.card (phase_of slot i.h)) p.card end) { store = e.card.store }
        → Turns (by_end f same end) p.card.store a e.card.store a' → DarkensSo p a (engine_lines p p' did phase) p' a'
    by_end_of (Ok u) is card turns =
        absurd (false≢true (sym (ap (λ o. is_dark o.did) (subst O (seen ∙ ap (block_seen p.script.hit) is ∙ seen_ok p.script.hit) out)) ∙ dark))
    by_end_of (Err Flash) is card turns =
        elim (late_or p.script.hit (word_of error)) [
          | inl x ↦
              let out_is = subst O (seen ∙ ap (block_seen p.script.hit) is ∙ x.1) out
              ∙ ap (λ b. phase_ended (host_at p) slot i.h.task.desc (cond b (Err (Response (word_of error) slot)) (Ok (word_of error)))) masked in
              absurd (false≢true (sym (ap (λ o. is_dark o.did) out_is) ∙ dark))
          | inr x ↦ absurd (false≢true (sym (ap (λ o. is_dark o.did) (subst O (seen ∙ ap (block_seen p.script.hit) is ∙ x.1) out)) ∙ dark))
        ]
    by_end_of (Err PowerLost) is card turns =
        let answered : answer ≡ Err link_end.Dark = seen ∙ ap (block_seen p.script.hit) is ∙ seen_dark p.script.hit in
        let out_is = subst O answered out in
        dark_event p a p' a' did phase e slot i (NextBlock slot k)
        (record {
          information = info;
          regs = e.event.registers ∙ ap (λ o. o.host.regs) out_is;
          memory = subst (Unmoved p p'.memory) answered memory;
          script = subst (KeepsScript p.script) (sym script) (block_script p.script.hit got p.script);
          sent = ap (λ x. x.sent) script ∙ sent_same p.script.hit got p.script;
          begun = ap (λ c. c.begun) card;
          last = s.store.last;
          told = s.ends.tells;
          turns = turns;
          still = still none;
        })
        t t' laws due refl few (ap (λ o. o.did) out_is) (part_of p slot i left)

-- a block in which power is lost
pub block_darkens : (p : PathState) (a : ArrayState) (p' : PathState) (a' : ArrayState) (did : Did) (phase : Option Phase) (e : EngineEvent p a p' a' did phase)
    (slot k : ℕ) → AreTied p → AreTied p' → StateLaws → IsDue (remembered p.engine.held p.regs) p.regs p.memory (NextBlock slot k)
    → HasItsSlot (remembered p.engine.held p.regs) p.regs (NextBlock slot k)
    → Does CardMade (behind_path p a) (behind e.card a' p'.script) (host_at p) p.memory p'.memory (outcome_of did e.event.left.held e.event.left.regs) (NextBlock slot k)
    → is_dark did ≡ true → DarkensSo p a (engine_lines p p' did phase) p' a'
block_darkens p a p' a' did phase e slot k t t' laws due has does dark = by_way i.h.task.desc.read refl (subst D i.there does)
  where
    old : Behind
    old = behind_path p a

    new : Behind
    new = behind e.card a' p'.script

    out : Outcome
    out = outcome_of did e.event.left.held e.event.left.regs

    goes : rests p.regs ≡ false
    goes = works (remembered p.engine.held p.regs) p.regs p.memory (NextBlock slot k) due (λ h. absurd (cc h))

    i : InPhase p slot
    i = in_phase p slot t goes has.0.below (block_active (remembered p.engine.held p.regs) p.regs p.memory slot k due)

    D : Option HeldTask → Type 0
    D o = IsSomeAnd o (λ held. MovesBlock CardMade old new (host_at p) p.memory p'.memory slot k out held.task)

    number : k ≡ i.h.moved
    number = has.1 ∙ ap (λ o. option_map_or (λ h. h.moved) o 0) i.there

    left : i.h.moved < i.h.task.desc.blocks
    left =
        let blocks : blocks_of (remembered p.engine.held p.regs) slot ≡ i.h.task.desc.blocks = ap (λ o. option_map_or (λ h. h.task.desc.blocks) o 0) i.there in
        subst (λ n. n < i.h.task.desc.blocks) number (subst (λ n. k < n) blocks has.2)

    masked : (word : ℕ) → (bit_and word 3228041344 == 0) ≡ false → is_masked p.regs word ≡ true
    masked word some = masks p.regs word (ap (λ r. r.error_mask) t.regs.same) some

    by_way : (read : Bool) → i.h.task.desc.read ≡ read
        → MatchBool read (TakesBlock CardMade old new i.h.task.pieces k p.memory p'.memory out (block_ended (host_at p) slot i.h.task.desc))
        (GivesBlock CardMade old new (block_of p.memory i.h.task.pieces k) out (block_ended (host_at p) slot i.h.task.desc) × (p'.memory ≡ p.memory))
        → DarkensSo p a (engine_lines p p' did phase) p' a'
    by_way true way x =
        made_dark p a p' a' did phase e slot k i DEVICE_ECC_FAILED same x.answer t t' laws due left (masked (word_of DEVICE_ECC_FAILED) refl) x.outcome dark
        (unread x.answer x.written)
        (λ none c h through unkept fewer.
        let got : IsTaken x.block old new x.answer = is_taken x.block (phase_of slot i.h) old new x.answer i.open_phase none x.crossed in
        ap shown_by (has_read x.block (phase_of slot i.h) old new x.answer i.open_phase way left got).same)
        (taken x.block (phase_of slot i.h) old new x.answer i.open_phase way left x.crossed)
      where
        unread : (answer : Result (Unit {0}) LinkEnd) → p'.memory ≡ read_into p.memory i.h.task.pieces k x.block answer → Unmoved p p'.memory answer
        unread (Ok u) e = tt
        unread (Err end) e = e
    by_way false way x =
        made_dark p a p' a' did phase e slot k i ERROR (with_put (next_put (phase_of slot i.h) (block_of p.memory i.h.task.pieces k))) x.0.answer t t' laws due
        left (masked (word_of ERROR) refl) x.0.outcome dark (ungiven x.0.answer x.1)
        (λ none c h through unkept fewer.
        let given_so = is_given (block_of p.memory i.h.task.pieces k) (phase_of slot i.h) old new x.0.answer i.open_phase none x.0.crossed in
        ap shown_by (given_so.deferred (finds_room p a slot i (block_of p.memory i.h.task.pieces k) c way left h through fewer)).1)
        (given (block_of p.memory i.h.task.pieces k) (phase_of slot i.h) old new x.0.answer i.open_phase way left x.0.crossed)
      where
        ungiven : (answer : Result (Unit {0}) LinkEnd) → p'.memory ≡ p.memory → Unmoved p p'.memory answer
        ungiven (Ok u) e = tt
        ungiven (Err end) e = e
