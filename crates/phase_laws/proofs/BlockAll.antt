-- What a block tells, however it ends but with the loss of power.
use Rattle.std.proofs.Common.{◌≡◌, ◌≢◌, ◌⊎◌, ◌<◌, ◌≤◌, ◌+◌, ◌==◌, ◌||◌, ℕ, refl, sym, ◌∙◌, ap, subst, arith, inl, inr}
use Rattle.std.specs.Prelude.{Bool, true, false, not, cond, Option, Some, None, is_some, length, Result, Ok, Err}
use Rattle.std.specs.Bool.{MatchBool}
use Rattle.std.specs.Int.RustNames.{bit_and}
use Rattle.std.specs.Option.{IsSomeAnd, option_map_or}
use Rattle.std.proofs.lemmas.Bool.{and_left, eq-eqb, eqb-false, false≢true, ne_eqb}
use Rattle.array_edge.specs.Array.{ArrayState}
use Rattle.bus_link.specs.Link.{tells_flash}
use Rattle.bus_link.specs.declared.link.Cause.{Cause}
use Rattle.bus_link.specs.declared.link.Cause.TheVariants.{Bus as BusFault, Response}
use Rattle.bus_link.specs.declared.link.LinkEnd.{LinkEnd}
use Rattle.bus_link.specs.declared.link.LinkEnd.TheVariants as link_end
use Rattle.card_core.specs.Moving.{moved_on, next_put}
use Rattle.card_core.specs.Serving.{End, block_answer, by_end, word_of}
use Rattle.card_core.specs.declared.ends.BlockEnd.TheVariants as block_end
use Rattle.card_core.specs.declared.phase.Phase.{Phase}
use Rattle.card_link.specs.Behind.{Behind, behind}
use Rattle.card_link.specs.Made.{CardMade, IsTaken, block_seen, is_bad_block}
use Rattle.card_store.specs.Store.{Contents, Turns, same, with_put}
use Rattle.cmd_words.specs.Command.{index_of}
use Rattle.cmd_words.specs.declared.status.Status.{Status as ErrorSet}
use Rattle.cmd_words.specs.declared.status.TheConstants.Status.{DEVICE_ECC_FAILED, ERROR}
use Rattle.cq_engine.specs.After.{after_block as block_ended, phase_ended}
use Rattle.cq_engine.specs.Event.{Does, Gives as GivesBlock, MovesBlock, Takes as TakesBlock, read_into}
use Rattle.cq_engine.specs.Outcome.{Outcome, outcome_of, stopped_with}
use Rattle.cq_engine.specs.Words.{data_error, execute_of, is_masked}
use Rattle.cq_engine.specs.declared.did.Did.{Did}
use Rattle.cq_engine.specs.declared.did.Did.TheVariants.{Moved, Stopped}
use Rattle.cq_schedule.specs.Held.{remembered}
use Rattle.cq_schedule.specs.Meaning.{HasItsSlot, IsDue, rests}
use Rattle.cq_schedule.specs.Order.{blocks_of}
use Rattle.cq_schedule.specs.declared.held.HeldTask.{HeldTask}
use Rattle.cq_schedule.specs.declared.rules.Due.TheVariants.{Block as NextBlock}
use Rattle.drv_core.specs.Judge.{error_of}
use Rattle.drv_core.specs.State.{asks_notice}
use Rattle.drv_core.specs.declared.act.Stop.TheVariants.{Flash as FlashEnding}
use Rattle.host_mem.specs.Memory.{Memory}
use Rattle.intent_store.specs.Intent.{shown_by}
use Rattle.intent_store.specs.declared.ends.StoreEnd.TheVariants.{Flash, PowerLost}
use Rattle.piece_data.specs.Data.{block_of}
use Rattle.storage_machine.specs.Commands.{is_gone}
use Rattle.storage_machine.specs.Jobs.{must_keep, phase_blocks}
use Rattle.storage_machine.specs.declared.state.Owed.TheVariants.{Bus as BusOwed, Flash as FlashOwed}
use Rattle.storage_model.specs.declared.faults.BusKind.{BusKind}
use Rattle.storage_model.specs.declared.faults.BusKind.TheVariants.{Bad, Late, Lost, NoResp}
use Rattle.storage_model.specs.declared.plan.Job.{Job}
use Rattle.storage_model.specs.declared.faults.Letter.TheVariants.{Engine as EngineActs}
use Rattle.trace_effects.specs.Cuts.{places_of}
use Rattle.trace_rules.specs.Phases.{is_whole, owed_by}
use Rattle.world_state.specs.Engine.{EngineEvent, engine_lines, is_dark}
use Rattle.world_state.specs.Laws.{StateLaws}
use Rattle.world_state.specs.Path.{PathState, behind_path, job, layout, plan_of, under_way}
use Rattle.world_state.specs.Reading.{Context}
use Rattle.world_state.specs.Stands.{Agrees, contents_of}
use Rattle.world_state.specs.Ties.{AreTied}
use Rattle.phase_laws.proofs.BlockStops.{StopEvent, bus_event, flash_event}
use Rattle.phase_laws.proofs.BlockTells.{block_moved_tells, finds_room, has_read, is_given, is_taken}
use Rattle.phase_laws.proofs.Blocks.{block_script, host_at, masks, seen_dark, seen_ok, sent_same, struck_keeps}
use Rattle.phase_laws.proofs.Parts.{KeepsScript}
use Rattle.phase_laws.proofs.Crossings.{BlockMade, bad, given, served, taken}
use Rattle.phase_laws.proofs.Dues.{block_active, works}
use Rattle.phase_laws.proofs.Endings.{phase_of}
use Rattle.phase_laws.proofs.Events.{InPhase, in_phase}
use Rattle.phase_laws.proofs.Jobs.{data_job}
use Rattle.phase_laws.proofs.Moves.{TellsSo, blocks_are, way_is}
use Rattle.phase_laws.proofs.Tags.{of_some}

-- whether the status of a block that failed is seen, or comes too late
pub late_or : (hit : Option BusKind) (word : ℕ)
    → ((hit ≢ Some Late) × (block_seen hit (Err (block_end.Status word)) ≡ Err (link_end.Status word)))
    ⊎ ((hit ≡ Some Late) × (block_seen hit (Err (block_end.Status word)) ≡ Err (link_end.Bus Late)))
late_or None word = inl (λ h. absurd (cc h), refl)
late_or (Some Lost) word = inl (λ h. absurd (cc h), refl)
late_or (Some NoResp) word = inl (λ h. absurd (cc h), refl)
late_or (Some (Bad n)) word = inl (λ h. absurd (cc h), refl)
late_or (Some Late) word = inr (refl, refl)

-- what a phase owes that broke off by itself
pub owes_flash : (hit : Option BusKind) (n id count : ℕ) → is_gone hit ≡ false → hit ≢ Some Late → is_bad_block hit (count + 1) ≡ false
    → owed_by hit false n id count ≡ FlashOwed id
owes_flash None n id count heard apart free = refl
owes_flash (Some Lost) n id count heard apart free = absurd (false≢true (sym heard))
owes_flash (Some NoResp) n id count heard apart free = absurd (false≢true (sym heard))
owes_flash (Some Late) n id count heard apart free = absurd (apart refl)
owes_flash (Some (Bad b)) n id count heard apart free =
    ap (λ x. cond x (BusOwed n id (Bad b)) (FlashOwed id)) (ne_eqb (count + 1) b (λ e. eqb-false b (count + 1) free (sym e)))

-- what it owes where its own fault broke it off
bad_owes : (n b id count : ℕ) → b ≡ count + 1 → (whole : Bool) → owed_by (Some (Bad b)) whole n id count ≡ BusOwed n id (Bad b)
bad_owes n b id count e whole = ap (λ x. cond x (BusOwed n id (Bad b)) (FlashOwed id)) (eq-eqb (count + 1) b (sym e))

pub part_of : (p : PathState) (slot : ℕ) (i : InPhase p slot) → i.h.moved < i.h.task.desc.blocks
    → is_whole (plan_of p).through (job p i.id) i.h.moved false ≡ false
part_of p slot i left =
    let j = data_job (layout p) slot (job p i.id) (asks_notice (plan_of p) (job p i.id)) i.h.task i.task in
    let all = blocks_are (layout p) slot (job p i.id) (asks_notice (plan_of p) (job p i.id)) i.h.task j in
    and_left (i.h.moved == phase_blocks (job p i.id)) (false || not (must_keep (plan_of p).through (job p i.id)))
    (ne_eqb i.h.moved (phase_blocks (job p i.id)) (λ e. absurd (omega (arith, all, e, left))))

-- the memory is as it was where a block did not move
abbrev pub Unmoved : PathState → Memory → Result (Unit {0}) LinkEnd → Type 0
Unmoved p m (Ok u) = Unit {0}
Unmoved p m (Err end) = m ≡ p.memory

abbrev pub IsStill : PathState → ArrayState → ArrayState → Job → Type 0
IsStill p a a' j =
    (c : Context) → Agrees p a c → (plan_of p).through ≡ false → must_keep (plan_of p).through j ≡ false → length (places_of (contents_of p c).pend) < (plan_of p).lines → shown_by a' ≡ shown_by a

made_all : (p : PathState) (a : ArrayState) (p' : PathState) (a' : ArrayState) (did : Did) (phase : Option Phase) (e : EngineEvent p a p' a' did phase)
    (slot k : ℕ) (i : InPhase p slot) (error : ErrorSet) (f : Contents → Contents) (answer : Result (Unit {0}) LinkEnd) → AreTied p → AreTied p' → StateLaws
    → IsDue (remembered p.engine.held p.regs) p.regs p.memory (NextBlock slot k) → i.h.moved < i.h.task.desc.blocks
    → is_masked p.regs (word_of error) ≡ true → tells_flash (word_of error) ≡ true → error_of (word_of error) ≡ Some FlashEnding
    → outcome_of did e.event.left.held e.event.left.regs ≡ block_ended (host_at p) slot i.h.task.desc answer → is_dark did ≡ false
    → Unmoved p p'.memory answer → (is_bad_block p.script.hit (i.h.moved + 1) ≡ false → IsStill p a a' (job p i.id))
    → (did ≡ Moved slot → TellsSo EngineActs p a (engine_lines p p' did phase) p' a')
    → BlockMade error (phase_of slot i.h) f (behind_path p a) (behind e.card a' p'.script) answer
    → TellsSo EngineActs p a (engine_lines p p' did phase) p' a'
made_all p a p' a' did phase e slot k i error f answer t t' laws due left masked flash word out lit memory still moves (bad n hit next seen new) =
    let O : Result (Unit {0}) LinkEnd → Type 0 =
    λ r. outcome_of did e.event.left.held e.event.left.regs ≡ block_ended (host_at p) slot i.h.task.desc r in
    let is = subst O seen out in
    let card : e.card ≡ p.card = ap (λ b. b.card) new in
    let array : a' ≡ a = ap (λ b. b.array) new in
    let few : i.h.moved ≤ i.h.task.desc.blocks = omega (arith, left) in
    bus_event p a p' a' did phase e slot i (NextBlock slot k) (Bad n)
    (record {
      information = data_error (index_of (execute_of slot i.h.task.desc)) slot;
      regs = e.event.registers ∙ ap (λ o. o.host.regs) is;
      memory = subst (Unmoved p p'.memory) seen memory;
      script = subst (KeepsScript p.script) (sym (ap (λ b. b.script) new)) (struck_keeps p.script);
      sent = ap (λ b. b.script.sent) new;
      begun = ap (λ c. c.begun) card;
      last = ap (λ c. c.store.cache.last) card;
      told = ap (λ x. is_some x.told) array;
      turns = subst (λ x. Turns same p.card.store a e.card.store x) (sym array) (subst (λ c. Turns same p.card.store a c.store a) (sym card) (λ c h. h));
      still = λ c h through unkept fewer. ap shown_by array;
    })
    t t' laws due refl few hit (ap (λ o. o.did) is) (bad_owes p.script.sent n i.id i.h.moved next) (λ b. refl)
made_all p a p' a' did phase e slot k i error f answer t t' laws due left masked flash word out lit memory still moves (served got none s script seen) =
    by_end_of s.end s.answers s.card s.turns
  where
    O : Result (Unit {0}) LinkEnd → Type 0
    O r = outcome_of did e.event.left.held e.event.left.regs ≡ block_ended (host_at p) slot i.h.task.desc r

    few : i.h.moved ≤ i.h.task.desc.blocks
    few = omega (arith, left)

    heard : is_gone p.script.hit ≡ false
    heard = of_some (under_way p) slot (λ tag. is_gone p.script.hit ≡ false) (way_is p slot i) t.heard

    info : ℕ
    info = data_error (index_of (execute_of slot i.h.task.desc)) slot

    lines : KeepsScript p.script p'.script
    lines = subst (KeepsScript p.script) (sym script) (block_script p.script.hit got p.script)

    stops : (end : LinkEnd) (cause : Cause) → answer ≡ Err end
        → outcome_of did e.event.left.held e.event.left.regs ≡ outcome_of (Stopped cause) (remembered p.engine.held p.regs) (stopped_with p.regs info)
        → e.card ≡ record p.card { store = e.card.store } → Turns same p.card.store a e.card.store a' → StopEvent p a p' a' did phase e slot i
    stops end cause is out_is card turns = record {
      information = info;
      regs = e.event.registers ∙ ap (λ o. o.host.regs) out_is;
      memory = subst (Unmoved p p'.memory) is memory;
      script = lines;
      sent = ap (λ x. x.sent) script ∙ sent_same p.script.hit got p.script;
      begun = ap (λ c. c.begun) card;
      last = s.store.last;
      told = s.ends.tells;
      turns = turns;
      still = still none;
    }

    by_end_of : (end : End) → got ≡ block_answer error end → e.card ≡ record (by_end (moved_on p.card (phase_of slot i.h)) p.card end) { store = e.card.store }
        → Turns (by_end f same end) p.card.store a e.card.store a' → TellsSo EngineActs p a (engine_lines p p' did phase) p' a'
    by_end_of (Ok u) is card turns =
        moves (ap (λ o. o.did) (subst O (seen ∙ ap (block_seen p.script.hit) is ∙ seen_ok p.script.hit) out))
    by_end_of (Err Flash) is card turns =
        elim (late_or p.script.hit (word_of error)) [
          | inl x ↦
              let answered : answer ≡ Err (link_end.Status (word_of error)) = seen ∙ ap (block_seen p.script.hit) is ∙ x.1 in
              let out_is = subst O answered out
              ∙ ap (λ b. phase_ended (host_at p) slot i.h.task.desc (cond b (Err (Response (word_of error) slot)) (Ok (word_of error)))) masked in
              flash_event p a p' a' did phase e slot i (NextBlock slot k) (word_of error)
              (stops (link_end.Status (word_of error)) (Response (word_of error) slot) answered out_is card turns) t t' laws due refl few
              (ap (λ o. o.did) out_is) flash word (part_of p slot i left) (owes_flash p.script.hit p.script.sent i.id i.h.moved heard x.0 none)
          | inr x ↦
              let answered : answer ≡ Err (link_end.Bus Late) = seen ∙ ap (block_seen p.script.hit) is ∙ x.1 in
              bus_event p a p' a' did phase e slot i (NextBlock slot k) Late
              (stops (link_end.Bus Late) (BusFault Late (Some slot)) answered (subst O answered out) card turns) t t' laws due refl few x.0
              (ap (λ o. o.did) (subst O answered out)) (λ whole. refl) (λ b. refl)
        ]
    by_end_of (Err PowerLost) is card turns =
        let answered : answer ≡ Err link_end.Dark = seen ∙ ap (block_seen p.script.hit) is ∙ seen_dark p.script.hit in
        absurd (false≢true (sym lit ∙ ap (λ o. is_dark o.did) (subst O answered out)))

-- a block, however it ends but with the loss of power
pub block_tells : (p : PathState) (a : ArrayState) (p' : PathState) (a' : ArrayState) (did : Did) (phase : Option Phase) (e : EngineEvent p a p' a' did phase)
    (slot k : ℕ) → AreTied p → AreTied p' → StateLaws → IsDue (remembered p.engine.held p.regs) p.regs p.memory (NextBlock slot k)
    → HasItsSlot (remembered p.engine.held p.regs) p.regs (NextBlock slot k)
    → Does CardMade (behind_path p a) (behind e.card a' p'.script) (host_at p) p.memory p'.memory (outcome_of did e.event.left.held e.event.left.regs) (NextBlock slot k)
    → is_dark did ≡ false → TellsSo EngineActs p a (engine_lines p p' did phase) p' a'
block_tells p a p' a' did phase e slot k t t' laws due has does lit = by_way i.h.task.desc.read refl (subst D i.there does)
  where
    old : Behind
    old = behind_path p a

    new : Behind
    new = behind e.card a' p'.script

    out : Outcome
    out = outcome_of did e.event.left.held e.event.left.regs

    goes : rests p.regs ≡ false
    goes = works (remembered p.engine.held p.regs) p.regs p.memory (NextBlock slot k) due (λ h. absurd (cc h))

    i : InPhase p slot
    i = in_phase p slot t goes has.0.below (block_active (remembered p.engine.held p.regs) p.regs p.memory slot k due)

    D : Option HeldTask → Type 0
    D o = IsSomeAnd o (λ held. MovesBlock CardMade old new (host_at p) p.memory p'.memory slot k out held.task)

    number : k ≡ i.h.moved
    number = has.1 ∙ ap (λ o. option_map_or (λ h. h.moved) o 0) i.there

    left : i.h.moved < i.h.task.desc.blocks
    left =
        let blocks : blocks_of (remembered p.engine.held p.regs) slot ≡ i.h.task.desc.blocks = ap (λ o. option_map_or (λ h. h.task.desc.blocks) o 0) i.there in
        subst (λ n. n < i.h.task.desc.blocks) number (subst (λ n. k < n) blocks has.2)

    masked : (word : ℕ) → (bit_and word 3228041344 == 0) ≡ false → is_masked p.regs word ≡ true
    masked word some = masks p.regs word (ap (λ r. r.error_mask) t.regs.same) some

    moves : did ≡ Moved slot → TellsSo EngineActs p a (engine_lines p p' did phase) p' a'
    moves is = block_moved_tells p a p' a' did phase e slot k t t' laws due has does is

    by_way : (read : Bool) → i.h.task.desc.read ≡ read
        → MatchBool read (TakesBlock CardMade old new i.h.task.pieces k p.memory p'.memory out (block_ended (host_at p) slot i.h.task.desc))
        (GivesBlock CardMade old new (block_of p.memory i.h.task.pieces k) out (block_ended (host_at p) slot i.h.task.desc) × (p'.memory ≡ p.memory))
        → TellsSo EngineActs p a (engine_lines p p' did phase) p' a'
    by_way true way x =
        made_all p a p' a' did phase e slot k i DEVICE_ECC_FAILED same x.answer t t' laws due left (masked (word_of DEVICE_ECC_FAILED) refl) refl refl x.outcome lit
        (unread x.answer x.written)
        (λ none c h through unkept fewer.
        let got : IsTaken x.block old new x.answer = is_taken x.block (phase_of slot i.h) old new x.answer i.open_phase none x.crossed in
        ap shown_by (has_read x.block (phase_of slot i.h) old new x.answer i.open_phase way left got).same)
        moves (taken x.block (phase_of slot i.h) old new x.answer i.open_phase way left x.crossed)
      where
        unread : (answer : Result (Unit {0}) LinkEnd) → p'.memory ≡ read_into p.memory i.h.task.pieces k x.block answer → Unmoved p p'.memory answer
        unread (Ok u) e = tt
        unread (Err end) e = e
    by_way false way x =
        made_all p a p' a' did phase e slot k i ERROR (with_put (next_put (phase_of slot i.h) (block_of p.memory i.h.task.pieces k))) x.0.answer t t' laws due
        left (masked (word_of ERROR) refl) refl refl x.0.outcome lit (ungiven x.0.answer x.1)
        (λ none c h through unkept fewer.
        let given_so = is_given (block_of p.memory i.h.task.pieces k) (phase_of slot i.h) old new x.0.answer i.open_phase none x.0.crossed in
        ap shown_by (given_so.deferred (finds_room p a slot i (block_of p.memory i.h.task.pieces k) c way left h through fewer)).1)
        moves (given (block_of p.memory i.h.task.pieces k) (phase_of slot i.h) old new x.0.answer i.open_phase way left x.0.crossed)
      where
        ungiven : (answer : Result (Unit {0}) LinkEnd) → p'.memory ≡ p.memory → Unmoved p p'.memory answer
        ungiven (Ok u) e = tt
        ungiven (Err end) e = e
