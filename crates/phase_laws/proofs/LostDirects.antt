-- What a served direct command tells that was lost on the bus.
use Rattle.std.proofs.Common.{◌≡◌, ◌⊎◌, ◌==◌, ℕ, refl, sym, ◌∙◌, ap, subst, inl, inr}
use Rattle.std.specs.Prelude.{true, false, not, cond, Option, Some, None, Result, Ok, List, [], ◌∷◌}
use Rattle.std.specs.Int.RustNames.{bit_and}
use Rattle.std.specs.Option.{option_map_or}
use Rattle.array_edge.specs.Array.{ArrayState}
use Rattle.bus_link.specs.Link.{is_poll}
use Rattle.bus_link.specs.Hits.{raised}
use Rattle.bus_link.specs.declared.link.Cause.TheVariants.{Bus as BusFault}
use Rattle.bus_link.specs.declared.link.LinkEnd.{LinkEnd}
use Rattle.card_core.specs.Serving.{without_error, word_of}
use Rattle.card_core.specs.declared.phase.Phase.{Phase}
use Rattle.card_link.specs.Behind.{Behind, behind}
use Rattle.card_link.specs.Made.{CardMade, Exchanges, hit_on, response_seen, sent}
use Rattle.cmd_words.specs.Command.{index_of}
use Rattle.cmd_words.specs.declared.command.Command.{Command}
use Rattle.cmd_words.specs.declared.status.TheConstants.Status.{ERROR}
use Rattle.cq_engine.specs.After.{after_direct}
use Rattle.cq_engine.specs.Event.{Does, Exchanges as SendsCommand}
use Rattle.cq_engine.specs.Outcome.{Outcome, outcome_of, stopped_with}
use Rattle.cq_engine.specs.Words.{command_error, direct_of, is_masked}
use Rattle.cq_engine.specs.declared.did.Did.{Did}
use Rattle.cq_engine.specs.declared.did.Did.TheVariants.{Stopped}
use Rattle.cq_regs.specs.declared.slots.Progress.TheVariants.{Active}
use Rattle.cq_schedule.specs.Held.{remembered}
use Rattle.cq_schedule.specs.Meaning.{HasItsSlot, IsDue, list_of as engine_list, rests}
use Rattle.cq_schedule.specs.Order.{first_at}
use Rattle.cq_schedule.specs.declared.rules.Due.TheVariants.{Serve}
use Rattle.cq_task.specs.declared.slot.SlotTask.TheVariants.{Direct}
use Rattle.cq_task.proofs.OneMeaning.{one_meaning}
use Rattle.drv_core.specs.State.{asks_notice}
use Rattle.storage_machine.specs.Jobs.{is_direct}
use Rattle.storage_model.specs.declared.faults.BusKind.TheVariants.{Lost}
use Rattle.world_state.specs.Engine.{EngineEvent}
use Rattle.world_state.specs.Path.{PathState, behind_path, holder, job, plan_of}
use Rattle.world_state.specs.Ties.{AreTied}
use Rattle.phase_laws.proofs.Blocks.{host_at, masks}
use Rattle.phase_laws.proofs.Dues.{runs_on, works}
use Rattle.phase_laws.proofs.Parts.{KeepsScript}
use Rattle.std.specs.Prelude.{unwrap_or, ◌++◌}
use Rattle.std.specs.Option.{option_or}
use Rattle.std.proofs.lemmas.Bool.{or_right}
use Rattle.cq_engine.specs.Outcome.{stop_of}
use Rattle.storage_model.specs.declared.faults.Letter.TheVariants.{Engine as EngineActs}
use Rattle.storage_model.specs.declared.trace.Item.{Item}
use Rattle.storage_model.specs.declared.trace.Item.TheVariants.{Bus as BusLine}
use Rattle.world_state.specs.Engine.{engine_lines, phase_taken, stop_lines}
use Rattle.world_state.specs.Laws.{StateLaws}
use Rattle.world_state.specs.Path.{is_busy, under_way}
use Rattle.world_state.specs.Ties.{phase_words}
use Rattle.phase_laws.proofs.BlockStops.{left_store, not_on}
use Rattle.phase_laws.proofs.DirectLost.{lost_tells}
use Rattle.phase_laws.proofs.Directs.{DirectFacts, DirectMade, DirectWord, InService, ServesHere, dark, dark_response, direct_facts, direct_goes, direct_made, direct_stops, fails, got, in_service, lost, seen_response, struck_sent, well}
use Rattle.phase_laws.proofs.Dues.{serve_calm}
use Rattle.phase_laws.proofs.Moves.{TellsSo}
use Rattle.phase_laws.proofs.Parts.{path_with}
use Rattle.phase_laws.proofs.Stopping.{stop_regs, stop_regs_are, stopped_path}

lost_lines : (p p' : PathState) (did : Did) (phase : Option Phase) (id : ℕ) → did ≡ Stopped (BusFault Lost (Some 31)) → phase ≡ None
    → holder p 31 ≡ Some id → p'.script.sent ≡ raised p.script.sent
    → engine_lines p p' did phase ≡ BusLine (raised p.script.sent) Lost (Some id) ∷ []
lost_lines p p' did phase id is none held sent =
    ap (λ d. engine_lines p p' d phase) is
    ∙ ap (λ ph. stop_lines p p' ph (BusFault Lost (Some 31))) none
    ∙ ap (λ b. cond b [] [] ++ BusLine p'.script.sent Lost (Some (unwrap_or (holder p 31) 0)) ∷ []) (or_right (is_busy p) true refl)
    ∙ ap (λ o. BusLine p'.script.sent Lost (Some (unwrap_or o 0)) ∷ []) held
    ∙ ap (λ n. BusLine n Lost (Some id) ∷ []) sent

pub direct_lost : (p : PathState) (a : ArrayState) (p' : PathState) (a' : ArrayState) (did : Did) (phase : Option Phase) (e : EngineEvent p a p' a' did phase)
    (slot : ℕ) → AreTied p → AreTied p' → StateLaws → IsDue (remembered p.engine.held p.regs) p.regs p.memory (Serve slot)
    → HasItsSlot (remembered p.engine.held p.regs) p.regs (Serve slot)
    → Does CardMade (behind_path p a) (behind e.card a' p'.script) (host_at p) p.memory p'.memory (outcome_of did e.event.left.held e.event.left.regs) (Serve slot)
    → option_map_or (λ id. is_direct (job p id)) (holder p slot) false ≡ true → did ≡ Stopped (BusFault Lost (Some slot))
    → TellsSo EngineActs p a (engine_lines p p' did phase) p' a'
direct_lost p a p' a' did phase e slot t t' laws due has does direct stopped = by_made (direct_made x.command x.does old new sends.answer x.responds x.poll crossed)
  where
    old : Behind
    old = behind_path p a

    new : Behind
    new = behind e.card a' p'.script

    out : Outcome
    out = outcome_of did e.event.left.held e.event.left.regs

    goes : rests p.regs ≡ false
    goes = works (remembered p.engine.held p.regs) p.regs p.memory (Serve slot) due (λ h. absurd (cc h))

    i : InService p slot
    i = in_service p slot t goes has.0 has.1 direct

    meaning_is : does.0.meaning ≡ Ok (Direct i.desc)
    meaning_is = one_meaning p.memory (engine_list p.regs) slot does.0.meaning (Ok (Direct i.desc)) does.0.means i.means

    sends : SendsCommand CardMade old new (direct_of i.desc) out (after_direct (host_at p) slot i.desc)
    sends = subst (ServesHere p old new slot out) meaning_is does.0.serves

    x : DirectFacts p.card i.desc
    x = direct_facts p.card (job p i.id) (asks_notice (plan_of p) (job p i.id)) i.desc (ap (λ c. c.barrier) t.card.csd) i.is_job

    crossed : Exchanges x.command old new sends.answer
    crossed = let X : Command → Type 0 = λ c. Exchanges c old new sends.answer in subst X x.is sends.crossed

    O : Result ℕ LinkEnd → Type 0
    O r = out ≡ after_direct (host_at p) slot i.desc r

    info : ℕ
    info = command_error (index_of (direct_of i.desc)) slot

    masked : (word : ℕ) → (bit_and word 3228041344 == 0) ≡ false → is_masked p.regs word ≡ true
    masked word some = masks p.regs word (ap (λ r. r.error_mask) t.regs.same) some

    unmasked : is_masked p.regs without_error ≡ false
    unmasked = ap (λ m. not (bit_and without_error m == 0)) (ap (λ r. r.error_mask) t.regs.same)

    by_made : DirectMade x.command x.does old new sends.answer → TellsSo EngineActs p a (engine_lines p p' did phase) p' a'
    by_made (lost hit seen behind) =
        let is : out ≡ outcome_of (Stopped (BusFault Lost (Some slot))) (remembered p.engine.held p.regs) (stopped_with p.regs info) = subst O seen sends.outcome in
        let regs = e.event.registers ∙ ap (λ o. o.host.regs) is
        ∙ stop_regs_are p info p.regs.response_index p.regs.response_argument p.regs.direct_response (ap (λ r. r.status_enable) t.regs.same) t.regs.notice in
        let r = stop_regs p info p.regs.response_index p.regs.response_argument p.regs.direct_response in
        let path : p' ≡ stopped_path p r p'.engine p'.card p'.script =
        ap (λ d. record p' { driver = d }) e.driver ∙ ap (λ v. path_with p v p'.memory p'.engine p'.card p'.script) regs
        ∙ ap (λ m. path_with p r m p'.engine p'.card p'.script) does.1 in
        let way : under_way p ≡ None =
        ap (λ b. cond b None (first_at Active p.regs.ring)) (runs_on p.regs goes).1 ∙ (serve_calm (remembered p.engine.held p.regs) p.regs p.memory slot due).0 in
        let card : e.card ≡ p.card = ap (λ b. b.card) behind in
        let none : phase ≡ None =
        e.taken ∙ ap (phase_taken e.card) (not_on p' (ap (λ v. v.stopped) regs)) ∙ ap (λ c. c.begun) card ∙ t.begun ∙ ap (phase_words p) way in
        let sent_is : p'.script.sent ≡ raised p.script.sent = ap (λ b. b.script.sent) behind in
        let L : List Item → PathState → Type 0 = λ items v. TellsSo EngineActs p a items v a' in
        let last : holder p 31 ≡ Some i.id = sym (ap (holder p) i.last) ∙ i.is_held in
        subst (λ v. L v p') (sym (lost_lines p p' did phase i.id (stopped ∙ ap (λ n. Stopped (BusFault Lost (Some n))) i.last) none last sent_is))
        (subst (λ v. L (BusLine (raised p.script.sent) Lost (Some i.id) ∷ []) v) (sym path)
        (lost_tells p a slot i info p.regs.response_index p.regs.response_argument p.regs.direct_response p'.engine p'.card p'.script a' x.command _ t
        (subst AreTied path t') laws (runs_on p.regs goes).1 has.0 way due hit
        (ap (λ g. g.cause) e.event.keeps ∙ ap (λ d. option_or (stop_of d) p.engine.cause) stopped)
        (subst (KeepsScript p.script) (sym (ap (λ b. b.script) behind)) (struck_sent p.script x.command _)) sent_is
        (left_store e.card p'.card (is_busy p') e.left ∙ ap (λ c. c.store) card) (ap (λ b. b.array) behind)))
    by_made (got word free responds script seen) = by_word (x.leaves a e.card a' word responds).answers
      where
        by_ok : (n : ℕ) → word ≡ Ok n → (is_masked p.regs n ≡ true) ⊎ (n ≡ without_error) → TellsSo EngineActs p a (engine_lines p p' did phase) p' a'
        by_ok n is kind =
            elim (seen_response (hit_on old x.command) n free) [
              | inl s ↦
                  let here : sends.answer ≡ Ok n = seen ∙ ap (response_seen (hit_on old x.command)) is ∙ s.1 in
                  elim kind [
                    | inl m ↦
                        absurd (cc (sym stopped ∙ ap (λ o. o.did) (subst O here sends.outcome ∙ direct_stops p slot n i.desc x.resp m (ap is_poll x.is ∙ x.poll))))
                    | inr w ↦
                        absurd (cc (sym stopped ∙ ap (λ o. o.did) (subst O (here ∙ ap (λ v. Ok v) w) sends.outcome ∙ direct_goes p slot without_error i.desc x.resp unmasked)))
                  ]
              | inr s ↦
                  absurd (cc (sym stopped ∙ ap (λ o. o.did) (subst O (seen ∙ ap (response_seen (hit_on old x.command)) is ∙ s.1) sends.outcome)))
            ]

        by_word : DirectWord word → TellsSo EngineActs p a (engine_lines p p' did phase) p' a'
        by_word (well is) = by_ok without_error is (inr refl)
        by_word (fails is) = by_ok (word_of ERROR) is (inl (masked (word_of ERROR) refl))
        by_word (dark is) =
            absurd (cc (sym stopped ∙ ap (λ o. o.did)
            (subst O (seen ∙ ap (response_seen (hit_on old x.command)) is ∙ dark_response (hit_on old x.command) (record {})) sends.outcome)))
