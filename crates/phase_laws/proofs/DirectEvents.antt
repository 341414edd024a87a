-- What a served direct command tells, however it ends.
use Rattle.std.proofs.Common.{◌≡◌, ◌≢◌, ◌⊎◌, ◌<◌, ◌≤◌, ◌==◌, ◌||◌, ◌+◌, ℕ, arith, refl, sym, ◌∙◌, ap, subst, inl, inr}
use Rattle.std.specs.Prelude.{Bool, true, false, not, cond, Option, Some, None, Result, Ok, Err, List, [], ◌∷◌, ◌++◌, unwrap_or, is_some, All}
use Rattle.std.specs.Int.RustNames.{bit_and}
use Rattle.std.specs.List.{find}
use Rattle.std.specs.Option.{option_map_or}
use Rattle.std.proofs.lemmas.Bool.{cases_lt, eqb-true, false≢true, or_right}
use Rattle.std.proofs.lemmas.List.Elements.{All-head, All-tail}
use Rattle.array_edge.specs.Array.{ArrayState}
use Rattle.bus_link.specs.Link.{is_poll, tells_flash}
use Rattle.bus_link.specs.Hits.{raised}
use Rattle.bus_link.specs.declared.link.Cause.TheVariants.{Bus as BusFault, Dark as NoPower, Response}
use Rattle.bus_link.specs.declared.link.LinkEnd.{LinkEnd}
use Rattle.bus_link.specs.declared.link.LinkEnd.TheVariants as link_end
use Rattle.card_core.specs.Card.{blocks_of}
use Rattle.card_core.specs.Serving.{without_error, word_of}
use Rattle.card_core.specs.declared.phase.Phase.{Phase}
use Rattle.card_link.specs.Behind.{Behind, behind}
use Rattle.card_link.specs.Made.{CardMade, Exchanges, hit_on, is_lost, response_seen}
use Rattle.cmd_words.specs.Command.{index_of}
use Rattle.cmd_words.specs.declared.command.Command.{Command}
use Rattle.cmd_words.specs.declared.status.TheConstants.Status.{ERROR}
use Rattle.cq_engine.specs.After.{after_direct}
use Rattle.cq_engine.specs.Event.{Does, Exchanges as SendsCommand}
use Rattle.cq_engine.specs.Outcome.{Outcome, outcome_of, stopped_with}
use Rattle.cq_engine.specs.Words.{command_error, direct_of, is_masked}
use Rattle.cq_engine.specs.declared.did.Did.{Did}
use Rattle.cq_engine.specs.declared.did.Did.TheVariants.{Direct as DirectDone, Stopped}
use Rattle.cq_regs.specs.State.{Registers}
use Rattle.cq_regs.specs.Slots.{progress_of, without}
use Rattle.cq_regs.specs.declared.slots.Progress.{Progress}
use Rattle.cq_regs.specs.declared.slots.Progress.TheVariants.{Active, Idle}
use Rattle.cq_regs.specs.declared.slots.Ringed.{Ringed}
use Rattle.cq_schedule.specs.Held.{remembered}
use Rattle.cq_schedule.specs.Meaning.{HasItsSlot, IsDue, list_of as engine_list, rests}
use Rattle.cq_schedule.specs.Order.{first_at}
use Rattle.cq_schedule.specs.declared.rules.Due.TheVariants.{Serve}
use Rattle.cq_task.specs.declared.slot.SlotTask.TheVariants.{Direct}
use Rattle.cq_task.proofs.OneMeaning.{one_meaning}
use Rattle.drv_core.specs.State.{asks_notice}
use Rattle.storage_machine.specs.Jobs.{is_direct}
use Rattle.storage_model.specs.declared.faults.BusKind.{BusKind}
use Rattle.storage_model.specs.declared.faults.BusKind.TheVariants.{Lost, NoResp}
use Rattle.storage_model.specs.declared.faults.Letter.TheVariants.{Engine as EngineActs}
use Rattle.storage_model.specs.declared.trace.Item.{Item}
use Rattle.storage_model.specs.declared.trace.Item.TheVariants.{Bus as BusLine, Flash as FlashLine, Phase as PhaseLine}
use Rattle.trace_rules.specs.Phases.{is_whole, most_blocks}
use Rattle.world_state.specs.Engine.{EngineEvent, engine_lines, is_dark, phase_line_of, phase_taken, stop_lines}
use Rattle.world_state.specs.Laws.{StateLaws}
use Rattle.world_state.specs.Path.{PathState, behind_path, holder, is_busy, job, plan_of, under_way}
use Rattle.world_state.specs.Ties.{AreTied}
use Rattle.phase_laws.proofs.BlockStops.{cause_is, left_store, not_on, phase_so}
use Rattle.phase_laws.proofs.Blocks.{host_at, masks}
use Rattle.phase_laws.proofs.Closes.{notice_is}
use Rattle.phase_laws.proofs.Darks.{DarkensSo}
use Rattle.phase_laws.proofs.DirectDarks.{failed_darkens}
use Rattle.phase_laws.proofs.DirectDone.{lone_ring}
use Rattle.phase_laws.proofs.DirectDones.{done_path, done_tells}
use Rattle.phase_laws.proofs.DirectEnds.{DirectEnd, dark, direct_end, fails, plain_command, response_sent, two_kinds, well}
use Rattle.phase_laws.proofs.DirectLeft.{DirectLeft}
use Rattle.phase_laws.proofs.DirectStops.{DirectHalt, failed_tells, unanswered_tells}
use Rattle.phase_laws.proofs.Directs.{DirectFacts, DirectMade, InService, ServesHere, dark_response, direct_base, direct_facts, direct_goes, direct_made, direct_notice, direct_stops, got, in_service, lost, response_script, vacant_idle}
use Rattle.phase_laws.proofs.Dones.{Begins, completion, not_busy}
use Rattle.phase_laws.proofs.Dues.{runs_on, serve_calm, works}
use Rattle.phase_laws.proofs.Endings.{tags_of}
use Rattle.phase_laws.proofs.LostDirects.{direct_lost}
use Rattle.phase_laws.proofs.Moves.{TellsSo}
use Rattle.phase_laws.proofs.Parts.{KeepsScript, path_with}
use Rattle.phase_laws.proofs.SetUps.{Completes, is_full}
use Rattle.phase_laws.proofs.Stopping.{stop_regs, stop_regs_are, stopped_path}

-- ---- the lines

unanswered_lines : (p p' : PathState) (did : Did) (phase : Option Phase) (n id count : ℕ) (kept : Bool) (kind : BusKind) → did ≡ Stopped (BusFault kind (Some 31))
    → phase ≡ phase_so 31 count kept → holder p 31 ≡ Some id → p'.script.sent ≡ n
    → engine_lines p p' did phase ≡ PhaseLine n id count kept ∷ BusLine n kind (Some id) ∷ []
unanswered_lines p p' did phase n id count kept kind is told held sent =
    ap (λ d. engine_lines p p' d phase) is
    ∙ ap (λ ph. stop_lines p p' ph (BusFault kind (Some 31))) told
    ∙ ap (λ b. cond b (PhaseLine p'.script.sent (unwrap_or (holder p 31) 0) count kept ∷ []) [] ++ BusLine p'.script.sent kind (Some (unwrap_or (holder p 31) 0)) ∷ [])
    (or_right (is_busy p) true refl)
    ∙ ap (λ o. PhaseLine p'.script.sent (unwrap_or o 0) count kept ∷ BusLine p'.script.sent kind (Some (unwrap_or o 0)) ∷ []) held
    ∙ ap (λ v. PhaseLine v id count kept ∷ BusLine v kind (Some id) ∷ []) sent

failed_lines : (p p' : PathState) (did : Did) (phase : Option Phase) (n id count : ℕ) (kept : Bool) (word : ℕ) → did ≡ Stopped (Response word 31)
    → phase ≡ phase_so 31 count kept → tells_flash word ≡ true → holder p 31 ≡ Some id → p'.script.sent ≡ n
    → engine_lines p p' did phase ≡ PhaseLine n id count kept ∷ FlashLine (Some id) ∷ []
failed_lines p p' did phase n id count kept word is told flash held sent =
    ap (λ d. engine_lines p p' d phase) is
    ∙ ap (λ ph. stop_lines p p' ph (Response word 31)) told
    ∙ ap (λ b. cond b (PhaseLine p'.script.sent (unwrap_or (holder p 31) 0) count kept ∷ FlashLine (Some (unwrap_or (holder p 31) 0)) ∷ [])
    (stop_lines p p' (phase_so 31 count kept) (Response 0 31))) flash
    ∙ ap (λ o. PhaseLine p'.script.sent (unwrap_or o 0) count kept ∷ FlashLine (Some (unwrap_or o 0)) ∷ []) held
    ∙ ap (λ v. PhaseLine v id count kept ∷ FlashLine (Some id) ∷ []) sent

dark_lines : (p p' : PathState) (did : Did) (phase : Option Phase) (n id count : ℕ) (kept : Bool) → did ≡ Stopped NoPower
    → phase ≡ phase_so 31 count kept → holder p 31 ≡ Some id → p'.script.sent ≡ n
    → engine_lines p p' did phase ≡ PhaseLine n id count kept ∷ []
dark_lines p p' did phase n id count kept is told held sent =
    ap (λ d. engine_lines p p' d phase) is
    ∙ ap (λ ph. phase_line_of p p' ph) told
    ∙ ap (λ o. PhaseLine p'.script.sent (unwrap_or o 0) count kept ∷ []) held
    ∙ ap (λ v. PhaseLine v id count kept ∷ []) sent

done_lines : (p p' : PathState) (did : Did) (phase : Option Phase) (slot n id count : ℕ) (kept : Bool) → did ≡ DirectDone slot
    → phase ≡ phase_so 31 count kept → holder p 31 ≡ Some id → p'.script.sent ≡ n
    → engine_lines p p' did phase ≡ PhaseLine n id count kept ∷ []
done_lines p p' did phase slot n id count kept is told held sent =
    ap (λ d. engine_lines p p' d phase) is
    ∙ ap (λ ph. phase_line_of p p' ph) told
    ∙ ap (λ o. PhaseLine p'.script.sent (unwrap_or o 0) count kept ∷ []) held
    ∙ ap (λ v. PhaseLine v id count kept ∷ []) sent

-- ---- the slots

past_first : (b : Bool) (r : Ringed) (ring : List Ringed) (tag : ℕ) → (b ≡ true → ⊥) → progress_of ring tag ≡ Idle
    → ◌≡◌ {A = Progress} (option_map_or (λ r. r.progress) (cond b (Some r) (find (λ r. r.slot == tag) ring)) Idle) Idle
past_first true r ring tag apart rest = absurd (apart refl)
past_first false r ring tag apart rest = rest

past_idle : (ring : List Ringed) (tag : ℕ) → All (λ r. r.slot < 32) ring → 32 ≤ tag → progress_of ring tag ≡ Idle
past_idle [] tag all past = refl
past_idle (r ∷ ring) tag all past =
    let low = All-head (λ r. r.slot < 32) r ring all in
    past_first (r.slot == tag) r ring tag (λ e. let so = eqb-true r.slot tag e in absurd (omega (arith, low, past, so)))
    (past_idle ring tag (All-tail (λ r. r.slot < 32) r ring all) past)

-- ---- the event

abbrev pub DirectTold : (p : PathState) (a : ArrayState) (p' : PathState) (a' : ArrayState) (did : Did) (phase : Option Phase) → Type 0
DirectTold p a p' a' did phase =
    (is_dark did ≡ false → TellsSo EngineActs p a (engine_lines p p' did phase) p' a') × (is_dark did ≡ true → DarkensSo p a (engine_lines p p' did phase) p' a')

pub direct_told : (p : PathState) (a : ArrayState) (p' : PathState) (a' : ArrayState) (did : Did) (phase : Option Phase) (e : EngineEvent p a p' a' did phase)
    (slot : ℕ) → AreTied p → AreTied p' → StateLaws → IsDue (remembered p.engine.held p.regs) p.regs p.memory (Serve slot)
    → HasItsSlot (remembered p.engine.held p.regs) p.regs (Serve slot)
    → Does CardMade (behind_path p a) (behind e.card a' p'.script) (host_at p) p.memory p'.memory (outcome_of did e.event.left.held e.event.left.regs) (Serve slot)
    → option_map_or (λ id. is_direct (job p id)) (holder p slot) false ≡ true → DirectTold p a p' a' did phase
direct_told p a p' a' did phase e slot t t' laws due has does direct =
    by_made (direct_made x.command x.does old new sends.answer x.responds x.poll crossed)
  where
    old : Behind
    old = behind_path p a

    new : Behind
    new = behind e.card a' p'.script

    out : Outcome
    out = outcome_of did e.event.left.held e.event.left.regs

    goes : rests p.regs ≡ false
    goes = works (remembered p.engine.held p.regs) p.regs p.memory (Serve slot) due (λ h. absurd (cc h))

    i : InService p slot
    i = in_service p slot t goes has.0 has.1 direct

    meaning_is : does.0.meaning ≡ Ok (Direct i.desc)
    meaning_is = one_meaning p.memory (engine_list p.regs) slot does.0.meaning (Ok (Direct i.desc)) does.0.means i.means

    sends : SendsCommand CardMade old new (direct_of i.desc) out (after_direct (host_at p) slot i.desc)
    sends = subst (ServesHere p old new slot out) meaning_is does.0.serves

    on : p.card.csd.barrier ≡ true
    on = ap (λ c. c.barrier) t.card.csd

    x : DirectFacts p.card i.desc
    x = direct_facts p.card (job p i.id) (asks_notice (plan_of p) (job p i.id)) i.desc on i.is_job

    crossed : Exchanges x.command old new sends.answer
    crossed = let X : Command → Type 0 = λ c. Exchanges c old new sends.answer in subst X x.is sends.crossed

    O : Result ℕ LinkEnd → Type 0
    O r = out ≡ after_direct (host_at p) slot i.desc r

    info : ℕ
    info = command_error (index_of (direct_of i.desc)) slot

    masked : (word : ℕ) → (bit_and word 3228041344 == 0) ≡ false → is_masked p.regs word ≡ true
    masked word some = masks p.regs word (ap (λ r. r.error_mask) t.regs.same) some

    unmasked : is_masked p.regs without_error ≡ false
    unmasked = ap (λ m. not (bit_and without_error m == 0)) (ap (λ r. r.error_mask) t.regs.same)

    way : under_way p ≡ None
    way =
        ap (λ b. cond b None (first_at Active p.regs.ring)) (runs_on p.regs goes).1 ∙ (serve_calm (remembered p.engine.held p.regs) p.regs p.memory slot due).0

    held_last : holder p 31 ≡ Some i.id
    held_last = sym (ap (holder p) i.last) ∙ i.is_held

    plain : Registers
    plain = stop_regs p info p.regs.response_index p.regs.response_argument p.regs.direct_response

    path_by : (r : Registers) → p'.regs ≡ r → p' ≡ stopped_path p r p'.engine p'.card p'.script
    path_by r is =
        ap (λ d. record p' { driver = d }) e.driver ∙ ap (λ v. path_with p v p'.memory p'.engine p'.card p'.script) is
        ∙ ap (λ m. path_with p r m p'.engine p'.card p'.script) does.1

    plain_regs : out ≡ outcome_of did (remembered p.engine.held p.regs) (stopped_with p.regs info) → p'.regs ≡ plain
    plain_regs is =
        e.event.registers ∙ ap (λ o. o.host.regs) is
        ∙ stop_regs_are p info p.regs.response_index p.regs.response_argument p.regs.direct_response (ap (λ r. r.status_enable) t.regs.same) t.regs.notice

    phase_by : p'.regs.stopped ≡ true → (count : ℕ) (kept : Bool) → e.card.begun ≡ phase_so 31 count kept → phase ≡ phase_so 31 count kept
    phase_by is count kept begun = e.taken ∙ ap (phase_taken e.card) (not_on p' is) ∙ begun

    -- the command is alone
    alone : (tag : ℕ) → tag < 32 → tag ≢ slot → holder p tag ≡ None
    alone tag within apart =
        let last = i.last in
        t.alone (ap is_some held_last) tag
        (elim (cases_lt tag 31) [ inl low ↦ low | inr high ↦ absurd (apart (omega (arith, within, high, last))) ])

    idle : (tag : ℕ) → tag ≢ slot → progress_of p.regs.ring tag ≡ Idle
    idle tag apart =
        elim (cases_lt tag 32) [
          | inl within ↦ vacant_idle p tag (holder p tag) (alone tag within apart) (tags_of p t i.calm tag within)
          | inr past ↦ past_idle p.regs.ring tag t.regs.ring.below past
        ]

    halt_at : (y z u v count : ℕ) (kept : Bool) (kind : Option BusKind) → p'.regs ≡ stop_regs p y z u v
        → DirectLeft p a (job p i.id) count kept p'.card a' → KeepsScript p.script p'.script
        → p'.script.sent ≡ raised p.script.sent → hit_on old x.command ≡ kind → is_lost (hit_on old x.command) ≡ false → most_blocks kind 1 ≡ 1
        → DirectHalt p a slot i y z u v p'.engine p'.card p'.script a' count kept kind
    halt_at y z u v count kept kind regs left script sent befell free most = record {
      before = t;
      tied = subst AreTied (path_by (stop_regs p y z u v) regs) t';
      left = left;
      script = script;
      sent = sent;
      going = (runs_on p.regs goes).1;
      below = has.0;
      way = way;
      is_due = due;
      command = x.command;
      blocks = blocks_of p.card x.command;
      plain = plain_command p.card (job p i.id) (asks_notice (plan_of p) (job p i.id)) i.desc on i.is_job;
      befell = befell;
      heard = sym (ap is_lost befell) ∙ free;
      most = most;
    }

    by_made : DirectMade x.command x.does old new sends.answer → DirectTold p a p' a' did phase
    by_made (lost hit seen behind) =
        let is : out ≡ outcome_of (Stopped (BusFault Lost (Some slot))) (remembered p.engine.held p.regs) (stopped_with p.regs info) = subst O seen sends.outcome in (
          λ lit. direct_lost p a p' a' did phase e slot t t' laws due has does direct (ap (λ o. o.did) is),
          λ dark. absurd (false≢true (sym (ap (λ o. is_dark o.did) is) ∙ dark)),
        )
    by_made (got word free responds script seen) =
        by_end (direct_end p a (job p i.id) (asks_notice (plan_of p) (job p i.id)) i.desc on i.is_job e.card p'.card a' word way
        (left_store e.card p'.card (is_busy p') e.left) e.store t.card.epoch responds)
      where
        sent_is : p'.script.sent ≡ raised p.script.sent
        sent_is = ap (λ s. s.sent) script ∙ response_sent (hit_on old x.command) word p.script x.command (blocks_of p.card x.command)

        script_is : KeepsScript p.script p'.script
        script_is = subst (KeepsScript p.script) (sym script) (response_script (hit_on old x.command) word p.script x.command (blocks_of p.card x.command))

        unanswered : (n count : ℕ) (kept : Bool) → word ≡ Ok n → hit_on old x.command ≡ Some NoResp → e.card.begun ≡ phase_so 31 count kept
            → DirectLeft p a (job p i.id) count kept p'.card a' → DirectTold p a p' a' did phase
        unanswered n count kept is hit begun left =
            let answered : sends.answer ≡ Err (link_end.Bus NoResp) = seen ∙ ap (response_seen (hit_on old x.command)) is ∙ ap (λ h. response_seen h (Ok n)) hit in
            let out_is = subst O answered sends.outcome in
            let did_is : did ≡ Stopped (BusFault NoResp (Some slot)) = ap (λ o. o.did) out_is in
            let regs : p'.regs ≡ plain = plain_regs (out_is ∙ ap (λ d. outcome_of d (remembered p.engine.held p.regs) (stopped_with p.regs info)) (sym did_is)) in
            let last : did ≡ Stopped (BusFault NoResp (Some 31)) = did_is ∙ ap (λ v. Stopped (BusFault NoResp (Some v))) i.last in
            let shown = unanswered_lines p p' did phase (raised p.script.sent) i.id count kept NoResp last
            (phase_by (ap (λ r. r.stopped) regs) count kept begun) held_last sent_is in
            let items : List Item = PhaseLine (raised p.script.sent) i.id count kept ∷ BusLine (raised p.script.sent) NoResp (Some i.id) ∷ [] in
            let st = halt_at info p.regs.response_index p.regs.response_argument p.regs.direct_response count kept (Some NoResp) regs left script_is sent_is hit free refl in (
              λ lit.
                  subst (λ v. TellsSo EngineActs p a v p' a') (sym shown)
                  (subst (λ v. TellsSo EngineActs p a items v a') (sym (path_by plain regs))
                  (unanswered_tells p a slot i info p.regs.response_index p.regs.response_argument p.regs.direct_response p'.engine p'.card p'.script a' count kept laws st
                  (cause_is p a p' a' did phase e (BusFault NoResp (Some slot)) did_is))),
              λ dark. absurd (false≢true (sym (ap is_dark did_is) ∙ dark)),
            )

        failed : word ≡ Ok (word_of ERROR) → hit_on old x.command ≡ None → e.card.begun ≡ phase_so 31 0 false
            → DirectLeft p a (job p i.id) 0 false p'.card a' → ((through : Bool) → is_whole through (job p i.id) 0 false ≡ false) → DirectTold p a p' a' did phase
        failed is hit begun left part =
            let n : ℕ = word_of ERROR in
            let answered : sends.answer ≡ Ok n = seen ∙ ap (response_seen (hit_on old x.command)) is ∙ ap (λ h. response_seen h (Ok n)) hit in
            let out_is = subst O answered sends.outcome ∙ direct_stops p slot n i.desc x.resp (masked n refl) (ap is_poll x.is ∙ x.poll) in
            let did_is : did ≡ Stopped (Response n slot) = ap (λ o. o.did) out_is in
            let index : ℕ = index_of (direct_of i.desc) in
            let regs : p'.regs ≡ stop_regs p info index n n =
            e.event.registers ∙ ap (λ o. o.host.regs) out_is
            ∙ stop_regs_are p info index n n (ap (λ r. r.status_enable) t.regs.same) t.regs.notice in
            let last : did ≡ Stopped (Response n 31) = did_is ∙ ap (λ v. Stopped (Response n v)) i.last in
            let shown = failed_lines p p' did phase (raised p.script.sent) i.id 0 false n last
            (phase_by (ap (λ r. r.stopped) regs) 0 false begun) refl held_last sent_is in
            let items : List Item = PhaseLine (raised p.script.sent) i.id 0 false ∷ FlashLine (Some i.id) ∷ [] in
            let st = halt_at info index n n 0 false None regs left script_is sent_is hit free refl in (
              λ lit.
                  subst (λ v. TellsSo EngineActs p a v p' a') (sym shown)
                  (subst (λ v. TellsSo EngineActs p a items v a') (sym (path_by (stop_regs p info index n n) regs))
                  (failed_tells p a slot i info index n n p'.engine p'.card p'.script a' 0 false n laws st
                  (cause_is p a p' a' did phase e (Response n slot) did_is) refl part)),
              λ dark. absurd (false≢true (sym (ap is_dark did_is) ∙ dark)),
            )

        darkened : word ≡ Err (record {}) → (kind : Option BusKind) → hit_on old x.command ≡ kind → most_blocks kind 1 ≡ 1 → e.card.begun ≡ phase_so 31 0 false
            → DirectLeft p a (job p i.id) 0 false p'.card a' → ((through : Bool) → is_whole through (job p i.id) 0 false ≡ false) → DirectTold p a p' a' did phase
        darkened is kind hit most begun left part =
            let out_is = subst O (seen ∙ ap (response_seen (hit_on old x.command)) is ∙ dark_response (hit_on old x.command) (record {})) sends.outcome in
            let did_is : did ≡ Stopped NoPower = ap (λ o. o.did) out_is in
            let regs : p'.regs ≡ plain = plain_regs (out_is ∙ ap (λ d. outcome_of d (remembered p.engine.held p.regs) (stopped_with p.regs info)) (sym did_is)) in
            let shown = dark_lines p p' did phase (raised p.script.sent) i.id 0 false did_is (phase_by (ap (λ r. r.stopped) regs) 0 false begun) held_last sent_is in
            let items : List Item = PhaseLine (raised p.script.sent) i.id 0 false ∷ [] in
            let st = halt_at info p.regs.response_index p.regs.response_argument p.regs.direct_response 0 false kind regs left script_is sent_is hit free most in (
              λ lit. absurd (false≢true (sym lit ∙ ap is_dark did_is)),
              λ dark.
                  subst (λ v. DarkensSo p a v p' a') (sym shown)
                  (subst (λ v. DarkensSo p a items v a') (sym (path_by plain regs))
                  (failed_darkens p a slot i info p.regs.response_index p.regs.response_argument p.regs.direct_response p'.engine p'.card p'.script a' 0 kind laws st
                  (cause_is p a p' a' did phase e NoPower did_is) part)),
            )

        finished : (count : ℕ) (kept : Bool) → word ≡ Ok without_error → hit_on old x.command ≡ None → e.card.begun ≡ phase_so 31 count kept
            → DirectLeft p a (job p i.id) count kept p'.card a' → ((through : Bool) → is_whole through (job p i.id) count kept ≡ true) → DirectTold p a p' a' did phase
        finished count kept is hit begun left whole =
            let answered : sends.answer ≡ Ok without_error =
            seen ∙ ap (response_seen (hit_on old x.command)) is ∙ ap (λ h. response_seen h (Ok without_error)) hit in
            let out_is = subst O answered sends.outcome ∙ direct_goes p slot without_error i.desc x.resp unmasked in
            let did_is : did ≡ DirectDone slot = ap (λ o. o.did) out_is in
            let int = asks_notice (plan_of p) (job p i.id) in
            let base : Registers = direct_base p.regs i.desc without_error in
            let begins : Begins p base = record { ring = refl; completed = refl; interrupts = refl; coalescing = refl; status_enable = refl; stopped = refl } in
            let asked : i.desc.int ≡ int = direct_notice (job p i.id) int i.desc i.is_job in
            let at_once : i.desc.int ≡ true = asked ∙ or_right ((plan_of p).coalesce == 0) (is_direct (job p i.id)) i.is_direct in
            let both = completion p base slot i.desc.int t begins (notice_is (plan_of p) (job p i.id) i.desc.int asked) in
            let c : Completes (plan_of p).coalesce slot i.desc.int base p'.regs =
            subst (λ r. Completes (plan_of p).coalesce slot i.desc.int base r) (sym (e.event.registers ∙ ap (λ o. o.host.regs) out_is)) both in
            let full : Bool = is_full (plan_of p).coalesce base.coalescing.counter in
            let emptied : without p.regs.ring slot ≡ [] = lone_ring p.regs.ring slot t.regs.ring.started idle in
            let none : p'.regs.ring ≡ [] = c.ring ∙ emptied in
            let path : p' ≡ done_path p p'.regs p'.engine p'.card p'.script =
            ap (λ d. record p' { driver = d }) e.driver ∙ ap (λ m. path_with p p'.regs m p'.engine p'.card p'.script) does.1 in
            let told = e.taken ∙ ap (phase_taken e.card) (not_busy p' (ap (λ v. first_at Active v) none)) ∙ begun in
            let shown = done_lines p p' did phase slot (raised p.script.sent) i.id count kept did_is told held_last sent_is in
            let items : List Item = PhaseLine (raised p.script.sent) i.id count kept ∷ [] in (
              λ lit.
                  subst (λ v. TellsSo EngineActs p a v p' a') (sym shown)
                  (subst (λ v. TellsSo EngineActs p a items v a') (sym path)
                  (done_tells p a slot i p'.regs p'.engine p'.card p'.script a' count kept laws
                  (record {
                    tied = subst AreTied path t';
                    left = left;
                    script = script_is;
                    sent = sent_is;
                    going = (runs_on p.regs goes).1;
                    below = has.0;
                    way = way;
                    is_due = due;
                    command = x.command;
                    blocks = blocks_of p.card x.command;
                    plain = plain_command p.card (job p i.id) int i.desc on i.is_job;
                    befell = hit;
                    whole = whole;
                    alone = alone;
                    goes_on = c.stopped ∙ (runs_on p.regs goes).1;
                    ring = none;
                    emptied = emptied;
                    completed = c.completed;
                    interrupts = c.interrupts ∙ ap (λ b. cond (b || full) 2 base.interrupts) at_once;
                    counter = c.counter ∙ ap (λ b. cond b base.coalescing.counter (cond full 0 (base.coalescing.counter + 1))) at_once;
                  }))),
              λ dark. absurd (false≢true (sym (ap is_dark did_is) ∙ dark)),
            )

        kinds : (hit_on old x.command ≡ None) ⊎ (hit_on old x.command ≡ Some NoResp)
        kinds =
            two_kinds (find (λ h. h.n == raised p.script.sent) p.script.hits) x.command (blocks_of p.card x.command)
            (plain_command p.card (job p i.id) (asks_notice (plan_of p) (job p i.id)) i.desc on i.is_job) free

        by_end : DirectEnd p a (job p i.id) e.card p'.card a' word → DirectTold p a p' a' did phase
        by_end (well count kept is begun left whole) =
            elim kinds [
              | inl hit ↦ finished count kept is hit begun left whole
              | inr hit ↦ unanswered without_error count kept is hit begun left
            ]
        by_end (fails is begun left part) =
            elim kinds [
              | inl hit ↦ failed is hit begun left part
              | inr hit ↦ unanswered (word_of ERROR) 0 false is hit begun left
            ]
        by_end (dark is begun left part) =
            elim kinds [
              | inl hit ↦ darkened is None hit refl begun left part
              | inr hit ↦ darkened is (Some NoResp) hit refl begun left part
            ]
