-- The end of a data phase that finishes, from what the engine's event says of it.
use Rattle.std.proofs.Common.{◌≡◌, ◌≢◌, ◌≤◌, ◌<◌, ◌+◌, ◌==◌, ◌&&◌, ◌||◌, ℕ, refl, sym, ◌∙◌, ap, subst, arith, inl, inr}
use Rattle.std.specs.Prelude.{Bool, true, false, not, cond, Option, Some, None, is_some, Result, Ok, Err, List, [], ◌∷◌, unwrap_or}
use Rattle.std.specs.Int.RustNames.{bit_and}
use Rattle.std.specs.Option.{IsSomeAnd, option_map, option_map_or}
use Rattle.std.proofs.lemmas.Bool.{and_parts, eq-eqb, false≢true}
use Rattle.array_edge.specs.Array.{ArrayState}
use Rattle.bus_link.specs.Hits.{hit_of}
use Rattle.bus_link.specs.declared.link.Cause.{Cause}
use Rattle.bus_link.specs.declared.link.Cause.TheVariants.{Bus as BusFault, Dark as NoPower, Response}
use Rattle.bus_link.specs.declared.link.LinkEnd.{LinkEnd}
use Rattle.card_core.specs.Moving.{finished, marked, must_keep as card_keeps}
use Rattle.card_core.specs.Serving.{End, by_end, without_error, word_answer, word_of}
use Rattle.card_core.specs.declared.ends.Dark.{Dark}
use Rattle.card_core.specs.declared.phase.Phase.{Phase}
use Rattle.card_link.specs.Behind.{Behind, behind}
use Rattle.card_link.specs.Made.{CardMade, close_seen}
use Rattle.card_store.specs.Store.{Turns, kept, same}
use Rattle.cmd_words.specs.declared.status.TheConstants.Status.{ERROR}
use Rattle.cq_engine.proofs.SlotLaws.{completes as slot_completes}
use Rattle.cq_engine.specs.After.{after_close as close_ended}
use Rattle.cq_engine.specs.Event.{Closes as ClosesPhase, Does}
use Rattle.cq_engine.specs.Holds.{IsCounted}
use Rattle.cq_engine.specs.Outcome.{Outcome, outcome_of}
use Rattle.cq_engine.specs.Words.{execute_of, is_masked}
use Rattle.cq_engine.specs.declared.did.Did.{Did}
use Rattle.cq_engine.specs.declared.did.Did.TheVariants.{Finished, Stopped}
use Rattle.cq_regs.specs.Effects.{completed}
use Rattle.cq_regs.specs.State.{Registers}
use Rattle.cut_order.specs.Order.{OrderState}
use Rattle.cq_schedule.specs.Held.{held_at, remembered}
use Rattle.cq_schedule.specs.Meaning.{HasItsSlot, IsDue, rests}
use Rattle.cq_schedule.specs.declared.held.HeldTask.{HeldTask}
use Rattle.cq_schedule.specs.declared.rules.Due.TheVariants.{Close}
use Rattle.drv_core.specs.State.{asks_notice}
use Rattle.intent_store.specs.Intent.{shown_by}
use Rattle.intent_store.specs.declared.ends.StoreEnd.TheVariants.{Flash, PowerLost}
use Rattle.storage_machine.specs.Commands.{is_gone}
use Rattle.storage_machine.specs.Jobs.{may_keep, must_keep, phase_blocks}
use Rattle.storage_model.specs.Keep.{is_named}
use Rattle.storage_model.specs.declared.faults.BusKind.{BusKind}
use Rattle.storage_model.specs.declared.faults.BusKind.TheVariants.{Bad, Late, Lost, NoResp}
use Rattle.storage_model.specs.declared.faults.Letter.TheVariants.{Engine as EngineActs}
use Rattle.storage_model.specs.declared.trace.Item.{Item}
use Rattle.storage_model.specs.declared.trace.Item.TheVariants.{Phase as PhaseLine}
use Rattle.trace_rules.specs.Phases.{is_whole}
use Rattle.world_state.specs.Engine.{EngineEvent, engine_lines, phase_line_of, phase_taken}
use Rattle.world_state.specs.Laws.{StateLaws}
use Rattle.world_state.specs.Path.{PathState, behind_path, holder, is_busy, job, layout, moved, plan_of, under_way}
use Rattle.world_state.specs.Reading.{Context, state_of}
use Rattle.world_state.specs.Stands.{Agrees}
use Rattle.world_state.specs.Ties.{AreTied, HasHit, IsBeforeFault}
use Rattle.phase_laws.proofs.BlockStops.{begun_is, left_store, phase_so}
use Rattle.phase_laws.proofs.Blocks.{host_at, masks}
use Rattle.phase_laws.proofs.CloseStops.{close_sent, hit_low}
use Rattle.phase_laws.proofs.Closes.{close_script, data_notice, ends_masked, ends_well, notice_is, seen_dark, seen_word}
use Rattle.phase_laws.proofs.Crossings.{PhaseClosed, PhaseEnded, closes, keeps_write, only, stored}
use Rattle.phase_laws.proofs.Dones.{completion, not_busy}
use Rattle.phase_laws.proofs.Dues.{close_active, none_active, works}
use Rattle.phase_laws.proofs.Endings.{phase_of}
use Rattle.phase_laws.proofs.Events.{InPhase, in_phase}
use Rattle.phase_laws.proofs.FinishState.{Completed}
use Rattle.phase_laws.proofs.FinishTells.{finish_tells}
use Rattle.phase_laws.proofs.Jobs.{DataJob, data_job, reads, writes}
use Rattle.phase_laws.proofs.KeptStops.{KeptLeft, kept_stays, may_keep_all}
use Rattle.phase_laws.proofs.Moves.{TellsSo, blocks_are, moved_is, way_is}
use Rattle.phase_laws.proofs.Parts.{KeepsScript, path_with}
use Rattle.phase_laws.proofs.SetUps.{Completes}
use Rattle.phase_laws.proofs.StopTells.{FailTold, Left, Stays, broken_stays}
use Rattle.phase_laws.proofs.Stopping.{context_after, stop_regs, stopped_path, unkept_data}
use Rattle.phase_laws.proofs.Tags.{of_some}

-- ---- no fault befell it

none_hit : (hit : Option BusKind) (count blocks : ℕ) → is_gone hit ≡ false → hit ≢ Some Late → ((b : ℕ) → hit ≡ Some (Bad b) → b ≤ blocks)
    → IsBeforeFault hit count → blocks ≤ count → hit ≡ None
none_hit None count blocks heard on low before all = refl
none_hit (Some Lost) count blocks heard on low before all = absurd (false≢true (sym heard))
none_hit (Some NoResp) count blocks heard on low before all = absurd (false≢true (sym heard))
none_hit (Some Late) count blocks heard on low before all = absurd (on refl)
none_hit (Some (Bad b)) count blocks heard on low before all = let few = low b refl in absurd (omega (arith, few, before, all))

-- ---- what is kept

any_same : (through forced reliable : Bool) → (through || (forced || reliable)) ≡ (forced || (reliable || not (not through)))
any_same true true reliable = refl
any_same true false true = refl
any_same true false false = refl
any_same false true reliable = refl
any_same false false true = refl
any_same false false false = refl

-- the card keeps what must be kept
must_same : (p : PathState) (slot : ℕ) (i : InPhase p slot) → AreTied p
    → DataJob (layout p) slot (job p i.id) (asks_notice (plan_of p) (job p i.id)) i.h.task
    → must_keep (plan_of p).through (job p i.id) ≡ card_keeps p.card (phase_of slot i.h)
must_same p slot i t (reads sector blocks high is task) =
    ap (must_keep (plan_of p).through) is
    ∙ sym (ap (λ x. not x.desc.read && (x.desc.forced || (x.desc.reliable || not p.card.csd.cache))) task)
must_same p slot i t (writes sector blocks fill forced reliable high is task) =
    let cache : p.card.csd.cache ≡ not (plan_of p).through = ap (λ c. c.cache) t.card.csd ∙ ap not t.card.through in
    ap (must_keep (plan_of p).through) is ∙ any_same (plan_of p).through forced reliable
    ∙ sym (ap (λ b. forced || (reliable || not b)) cache)
    ∙ sym (ap (λ x. not x.desc.read && (x.desc.forced || (x.desc.reliable || not p.card.csd.cache))) task)

whole_kept : (through must : Bool) (count blocks : ℕ) (kept : Bool) → count ≡ blocks → (kept || not must) ≡ true → ((count == blocks) && (kept || not must)) ≡ true
whole_kept through must count blocks kept same so = ap (λ b. b && (kept || not must)) (eq-eqb count blocks same) ∙ so

and_first : (a b : Bool) → (a && b) ≡ false → b ≡ true → a ≡ false
and_first true b e is = absurd (false≢true (sym e ∙ is))
and_first false b e is = refl

finish_lines : (p p' : PathState) (did : Did) (phase : Option Phase) (slot id count : ℕ) (kept : Bool) → did ≡ Finished slot → phase ≡ phase_so slot count kept
    → holder p slot ≡ Some id → p'.script.sent ≡ p.script.sent → engine_lines p p' did phase ≡ PhaseLine p.script.sent id count kept ∷ []
finish_lines p p' did phase slot id count kept is told held sent =
    ap (λ d. engine_lines p p' d phase) is
    ∙ ap (phase_line_of p p') told
    ∙ ap (λ o. PhaseLine p'.script.sent (unwrap_or o 0) count kept ∷ []) held
    ∙ ap (λ n. PhaseLine n id count kept ∷ []) sent

-- ---- the event

pub close_ends : (p : PathState) (a : ArrayState) (p' : PathState) (a' : ArrayState) (did : Did) (phase : Option Phase) (e : EngineEvent p a p' a' did phase)
    (slot : ℕ) → AreTied p → AreTied p' → StateLaws → IsDue (remembered p.engine.held p.regs) p.regs p.memory (Close slot)
    → HasItsSlot (remembered p.engine.held p.regs) p.regs (Close slot)
    → Does CardMade (behind_path p a) (behind e.card a' p'.script) (host_at p) p.memory p'.memory (outcome_of did e.event.left.held e.event.left.regs) (Close slot)
    → ((cause : Cause) → did ≢ Stopped cause) → TellsSo EngineActs p a (engine_lines p p' did phase) p' a'
close_ends p a p' a' did phase e slot t t' laws due has does goes_on = by_ended x.ended
  where
    Goal : Type 0
    Goal = TellsSo EngineActs p a (engine_lines p p' did phase) p' a'

    old : Behind
    old = behind_path p a

    new : Behind
    new = behind e.card a' p'.script

    out : Outcome
    out = outcome_of did e.event.left.held e.event.left.regs

    goes : rests p.regs ≡ false
    goes = works (remembered p.engine.held p.regs) p.regs p.memory (Close slot) due (λ h. absurd (cc h))

    i : InPhase p slot
    i = in_phase p slot t goes has.0.below (close_active (remembered p.engine.held p.regs) p.regs p.memory slot due)

    D : Option HeldTask → Type 0
    D o = IsSomeAnd o (λ held. ClosesPhase CardMade old new out (close_ended (host_at p) slot held.task.desc))

    d : ClosesPhase CardMade old new out (close_ended (host_at p) slot i.h.task.desc)
    d = subst D i.there does.0

    x : PhaseClosed (phase_of slot i.h) old new d.answer
    x = closes (phase_of slot i.h) old new d.answer i.open_phase d.crossed

    int : Bool
    int = asks_notice (plan_of p) (job p i.id)

    j : DataJob (layout p) slot (job p i.id) int i.h.task
    j = data_job (layout p) slot (job p i.id) int i.h.task i.task

    few : i.h.moved ≤ i.h.task.desc.blocks
    few = (of_some (held_at p.engine.held slot) i.h IsCounted i.at (t.counts slot i.below)).within

    all : i.h.task.desc.blocks ≤ i.h.moved
    all =
        let L : Option HeldTask → Type 0 = λ o. option_map_or (λ h. h.task.desc.blocks) o 0 ≤ option_map_or (λ h. h.moved) o 0 in
        subst L i.there has.1

    same_count : i.h.moved ≡ i.h.task.desc.blocks
    same_count = let low = few in let high = all in omega (arith, low, high)

    before : IsBeforeFault p.script.hit i.h.moved
    before =
        subst (IsBeforeFault p.script.hit) (moved_is p slot i)
        (of_some (under_way p) slot (λ tag. IsBeforeFault p.script.hit (moved p)) (way_is p slot i) t.fails)

    heard : is_gone p.script.hit ≡ false
    heard = of_some (under_way p) slot (λ tag. is_gone p.script.hit ≡ false) (way_is p slot i) t.heard

    low : (b : ℕ) → p.script.hit ≡ Some (Bad b) → b ≤ i.h.task.desc.blocks
    low b h =
        let H : Option HeldTask → Type 0 =
        λ o. IsSomeAnd o (λ v. p.script.hit ≡ hit_of p.script.hits p.script.sent (execute_of slot v.task.desc) v.task.desc.blocks) in
        let was : HasHit p slot = of_some (under_way p) slot (HasHit p) (way_is p slot i) t.hit in
        hit_low _ (execute_of slot i.h.task.desc) i.h.task.desc.blocks b (sym (subst H i.at was) ∙ h)

    must_is : must_keep (plan_of p).through (job p i.id) ≡ card_keeps p.card (phase_of slot i.h)
    must_is = must_same p slot i t j

    O : Result ℕ LinkEnd → Type 0
    O r = out ≡ close_ended (host_at p) slot i.h.task.desc r

    lines : KeepsScript p.script p'.script
    lines = subst (KeepsScript p.script) (sym x.script) (close_script p.script.hit x.got p.script)

    sent : p'.script.sent ≡ p.script.sent
    sent = ap (λ s. s.sent) x.script ∙ close_sent p.script.hit x.got p.script

    same_store : p'.card.store ≡ e.card.store
    same_store = left_store e.card p'.card (is_busy p') e.left

    StaysSo : Bool → Type 0
    StaysSo kept =
        (o : OrderState) (k : Context) → Agrees p a k
        → Stays (stopped_path p (stop_regs p 0 0 0 0) p'.engine p'.card p'.script) a' (context_after (state_of p o k) k (job p i.id) i.h.moved kept p.script.sent k.named)

    finish : (kept : Bool) → d.answer ≡ Ok without_error → p.script.hit ≢ Some Late → e.card.begun ≡ phase_so slot i.h.moved kept
        → e.card.store.cache.last ≡ p.card.store.cache.last → is_some a'.told ≡ is_some a.told
        → (kept || not (must_keep (plan_of p).through (job p i.id))) ≡ true → may_keep (plan_of p).through (job p i.id) i.h.moved kept ≡ true
        → StaysSo kept → Goal
    finish kept well on begun last told so may stays =
        let free : is_masked p.regs without_error ≡ false = ap (λ m. not (bit_and without_error m == 0)) (ap (λ r. r.error_mask) t.regs.same) in
        let out_is = subst O well d.outcome ∙ ends_well p slot i free in
        let regs : p'.regs ≡ completed p.regs slot i.h.task.desc.int = e.event.registers ∙ ap (λ o. o.host.regs) out_is in
        let ring = ap (λ r. r.ring) regs ∙ (slot_completes p.regs slot i.h.task.desc.int).0 in
        let C : Registers → Type 0 = λ r. Completes (plan_of p).coalesce slot i.h.task.desc.int p.regs r in
        let notice = data_notice (layout p) slot (job p i.id) int i.h.task j in
        let completes : C p'.regs =
        subst C (sym regs)
        (completion p p.regs slot i.h.task.desc.int t (record { ring = refl; completed = refl; interrupts = refl; coalescing = refl; status_enable = refl; stopped = refl })
        (notice_is (plan_of p) (job p i.id) i.h.task.desc.int notice)) in
        let none = none_active p.regs.ring p'.regs.ring slot t.one i.active ring in
        let path : p' ≡ path_with p p'.regs p.memory p'.engine p'.card p'.script =
        ap (λ v. record p' { driver = v }) e.driver ∙ ap (λ m. path_with p p'.regs m p'.engine p'.card p'.script) does.1 in
        let phase_is : phase ≡ phase_so slot i.h.moved kept = e.taken ∙ ap (phase_taken e.card) (not_busy p' none) ∙ begun in
        let is : did ≡ Finished slot = ap (λ o. o.did) out_is in
        let items : List Item = PhaseLine p.script.sent i.id i.h.moved kept ∷ [] in
        let all_moved : i.h.moved ≡ phase_blocks (job p i.id) = same_count ∙ sym (blocks_are (layout p) slot (job p i.id) int i.h.task j) in
        subst (λ v. TellsSo EngineActs p a v p' a') (sym (finish_lines p p' did phase slot i.id i.h.moved kept is phase_is i.is_held sent))
        (subst (λ v. TellsSo EngineActs p a items v a') (sym path)
        (finish_tells p a slot i p'.regs p'.engine p'.card p'.script a' kept (Close slot) t laws due refl
        (record {
          tied = subst AreTied path t';
          done = record { completes = completes; none = none; int = notice };
          last = ap (λ v. v.cache.last) same_store ∙ last;
          told = told;
          script = lines;
          sent = sent;
          is_data = j;
          before = before;
          few = few;
          all = all;
          none = none_hit p.script.hit i.h.moved i.h.task.desc.blocks heard on low before all;
          whole = whole_kept (plan_of p).through (must_keep (plan_of p).through (job p i.id)) i.h.moved (phase_blocks (job p i.id)) kept all_moved so;
          may = may;
          stays = stays;
        })))

    stops : {R : Type 0} (cause : Cause) → did ≡ Stopped cause → R
    stops cause is = absurd (goes_on cause is)

    well : (kept : Bool) → x.got ≡ Ok without_error → e.card.begun ≡ phase_so slot i.h.moved kept
        → e.card.store.cache.last ≡ p.card.store.cache.last → is_some a'.told ≡ is_some a.told
        → (kept || not (must_keep (plan_of p).through (job p i.id))) ≡ true → may_keep (plan_of p).through (job p i.id) i.h.moved kept ≡ true
        → StaysSo kept → Goal
    well kept is begun last told so may stays =
        elim (seen_word p.script.hit without_error) [
          | inl s ↦ finish kept (x.seen ∙ ap (close_seen p.script.hit) is ∙ s.1) s.0 begun last told so may stays
          | inr s ↦ stops (BusFault Late (Some slot)) (ap (λ o. o.did) (subst O (x.seen ∙ ap (close_seen p.script.hit) is ∙ s.1) d.outcome))
        ]

    bad_word : x.got ≡ Ok (word_of ERROR) → Goal
    bad_word is =
        let masked : is_masked p.regs (word_of ERROR) ≡ true = masks p.regs (word_of ERROR) (ap (λ r. r.error_mask) t.regs.same) refl in
        elim (seen_word p.script.hit (word_of ERROR)) [
          | inl s ↦
              stops (Response (word_of ERROR) slot)
              (ap (λ o. o.did) (subst O (x.seen ∙ ap (close_seen p.script.hit) is ∙ s.1) d.outcome ∙ ends_masked p slot (word_of ERROR) i masked))
          | inr s ↦ stops (BusFault Late (Some slot)) (ap (λ o. o.did) (subst O (x.seen ∙ ap (close_seen p.script.hit) is ∙ s.1) d.outcome))
        ]

    unkept_stays : is_some a'.told ≡ is_some a.told → e.card.store.cache.last ≡ p.card.store.cache.last → Turns same p.card.store a e.card.store a'
        → shown_by a' ≡ shown_by a → StaysSo false
    unkept_stays told last turns still o k h =
        let fails : FailTold p a (job p i.id) p'.card a' = record {
          last = ap (λ v. v.cache.last) same_store ∙ last;
          told = told;
          store = e.store;
          turns = subst (λ v. Turns same p.card.store a v a') (sym same_store) turns;
          still = λ c g through free_of fewer. still;
        } in
        let left : Left p a slot i p'.card a' = record { fails = fails; is_data = j; few = few } in
        broken_stays p a slot i 0 0 0 0 p'.engine p'.card p'.script a' o k p.script.sent k.named left h

    kept_so : must_keep (plan_of p).through (job p i.id) ≡ true → is_some a'.told ≡ is_some a.told
        → Turns (kept (is_named i.h.task.desc.start i.h.task.desc.blocks)) p.card.store a e.card.store a' → StaysSo true
    kept_so must told turns o k h =
        let left : KeptLeft p a slot i p'.card a' = record {
          told = told;
          store = e.store;
          turns = subst (λ v. Turns (kept (is_named i.h.task.desc.start i.h.task.desc.blocks)) p.card.store a v a') (sym same_store) turns;
          is_data = j;
          few = few;
          must = must;
        } in
        kept_stays p a slot i 0 0 0 0 p'.engine p'.card p'.script a' o k p.script.sent k.named left h

    by_ended : PhaseEnded (phase_of slot i.h) old new x.got → Goal
    by_ended (only must u) =
        let unkept : card_keeps p.card (phase_of slot i.h) ≡ false =
        and_first (card_keeps p.card (phase_of slot i.h)) (i.h.moved == i.h.task.desc.blocks) must (eq-eqb i.h.moved i.h.task.desc.blocks same_count) in
        let last = ap (λ c. c.store.cache.last) u.card in
        let told = ap (λ v. is_some v.told) u.array in
        well false u.answer (ap (λ c. c.begun) u.card ∙ begun_is p slot i t) last told (ap not (must_is ∙ unkept))
        (unkept_data (layout p) slot (job p i.id) int i.h.task (plan_of p).through i.h.moved j)
        (unkept_stays told last
        (subst (λ v. Turns same p.card.store a e.card.store v) (sym u.array) (subst (λ c. Turns same p.card.store a c.store a) (sym u.card) (λ c h. h)))
        (ap shown_by u.array))
    by_ended (stored must s settled) = by_end_of s.end s.answers s.card s.turns
      where
        keeping : must_keep (plan_of p).through (job p i.id) ≡ true
        keeping = must_is ∙ (and_parts (card_keeps p.card (phase_of slot i.h)) (i.h.moved == i.h.task.desc.blocks) must).0

        by_end_of : (end : End) → x.got ≡ word_answer end → e.card ≡ record (finished p.card (phase_of slot i.h) end) { store = e.card.store }
            → Turns (by_end (kept (is_named i.h.task.desc.start i.h.task.desc.blocks)) same end) p.card.store a e.card.store a' → Goal
        by_end_of (Ok u) is card turns =
            let now : e.card.begun ≡ phase_so slot i.h.moved true =
            ap (λ c. c.begun) card ∙ ap (option_map (marked (phase_of slot i.h))) (begun_is p slot i t)
            ∙ ap (λ b. Some (cond b (record { task = slot; count = i.h.moved; kept = true }) (record { task = slot; count = i.h.moved; kept = false }))) (eq-eqb slot slot refl) in
            well true is now s.store.last s.ends.tells refl
            (may_keep_all (layout p) slot (job p i.id) int i.h.task (plan_of p).through i.h.moved j keeping same_count)
            (kept_so keeping s.ends.tells turns)
        by_end_of (Err Flash) is card turns = bad_word is
        by_end_of (Err PowerLost) is card turns =
            stops NoPower (ap (λ o. o.did) (subst O (x.seen ∙ ap (close_seen p.script.hit) is ∙ seen_dark p.script.hit (record {})) d.outcome))
