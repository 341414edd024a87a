-- What the end of a data phase tells that stops the engine, where its write is not kept: a late status, a fault of the flash, or the loss of power.
use Rattle.std.proofs.Common.{◌≡◌, ◌≤◌, ◌+◌, ◌==◌, ◌&&◌, ◌||◌, ℕ, refl, sym, ◌∙◌, ap, subst, arith, inl, inr}
use Rattle.std.specs.Prelude.{Bool, true, false, not, cond, Option, Some, None, is_some, nat_le, Result, Ok, Err, List, [], ◌∷◌}
use Rattle.std.specs.Int.RustNames.{bit_and}
use Rattle.std.specs.Option.{IsSomeAnd, option_map, option_map_or}
use Rattle.std.proofs.lemmas.Bool.{and_parts, and_right, eq-eqb, false≢true, leb-true}
use Rattle.std.proofs.lemmas.Option.{none-some, same_Some}
use Rattle.array_edge.specs.Array.{ArrayState}
use Rattle.bus_link.specs.Hits.{befalls, hit_of, if_of_kind, is_execute}
use Rattle.bus_link.specs.Script.{Script}
use Rattle.bus_link.specs.declared.link.Cause.{Cause}
use Rattle.bus_link.specs.declared.link.Cause.TheVariants.{Bus as BusFault, Dark as NoPower, Response}
use Rattle.bus_link.specs.declared.link.LinkEnd.{LinkEnd}
use Rattle.card_core.specs.Moving.{finished, marked, must_keep as card_keeps}
use Rattle.card_core.specs.Serving.{End, by_end, without_error, word_answer, word_of}
use Rattle.card_core.specs.declared.ends.Dark.{Dark}
use Rattle.card_core.specs.declared.phase.Phase.{Phase}
use Rattle.card_link.specs.Behind.{Behind, behind}
use Rattle.card_link.specs.Made.{CardMade, after_close, close_seen, is_bad_block}
use Rattle.card_store.specs.Store.{Turns, kept, same}
use Rattle.cmd_words.specs.Command.{index_of}
use Rattle.cmd_words.specs.declared.command.Command.{Command}
use Rattle.cmd_words.specs.declared.status.TheConstants.Status.{ERROR}
use Rattle.cq_engine.specs.After.{after_close as close_ended}
use Rattle.cq_engine.specs.Event.{Closes as ClosesPhase, Does}
use Rattle.cq_engine.specs.Holds.{IsCounted}
use Rattle.cq_engine.specs.Outcome.{Outcome, outcome_of, stopped_with}
use Rattle.cq_engine.specs.Words.{data_error, execute_of, is_masked}
use Rattle.cq_engine.specs.declared.did.Did.{Did}
use Rattle.cq_engine.specs.declared.did.Did.TheVariants.{Stopped}
use Rattle.cq_schedule.specs.Held.{held_at, remembered}
use Rattle.cq_schedule.specs.Meaning.{HasItsSlot, IsDue, rests}
use Rattle.cq_schedule.specs.declared.held.HeldTask.{HeldTask}
use Rattle.cq_schedule.specs.declared.rules.Due.TheVariants.{Close}
use Rattle.drv_core.specs.State.{asks_notice}
use Rattle.intent_store.specs.Intent.{shown_by}
use Rattle.intent_store.specs.declared.ends.StoreEnd.TheVariants.{Flash, PowerLost}
use Rattle.storage_machine.specs.Commands.{is_gone}
use Rattle.storage_machine.specs.Jobs.{must_keep, phase_blocks}
use Rattle.storage_model.specs.Keep.{is_named}
use Rattle.storage_model.specs.declared.faults.BusKind.{BusKind}
use Rattle.storage_model.specs.declared.faults.BusKind.TheVariants.{Bad, Late, Lost, NoResp}
use Rattle.storage_model.specs.declared.faults.Hit.{Hit}
use Rattle.storage_model.specs.declared.faults.Letter.TheVariants.{Engine as EngineActs}
use Rattle.trace_rules.specs.Phases.{is_whole}
use Rattle.world_state.specs.Engine.{EngineEvent, engine_lines, is_dark, phase_taken}
use Rattle.world_state.specs.Laws.{StateLaws}
use Rattle.world_state.specs.Path.{PathState, behind_path, job, layout, moved, plan_of, under_way, is_busy}
use Rattle.world_state.specs.Ties.{AreTied, HasHit, IsBeforeFault}
use Rattle.phase_laws.proofs.BlockAll.{owes_flash}
use Rattle.phase_laws.proofs.BlockStops.{StopEvent, begun_is, bus_event, bus_lines, cause_is, flash_event, left_store, not_on}
use Rattle.phase_laws.proofs.KeptStops.{kept_tells}
use Rattle.phase_laws.proofs.Stopping.{stop_regs, stop_regs_are, stopped_path}
use Rattle.storage_model.specs.declared.trace.Item.{Item}
use Rattle.storage_model.specs.declared.trace.Item.TheVariants.{Bus as BusLine, Phase as PhaseLine}
use Rattle.card_store.specs.Store.{IsSameStore}
use Rattle.phase_laws.proofs.Blocks.{host_at, masks}
use Rattle.phase_laws.proofs.Closes.{close_script, ends_masked, ends_well, seen_dark, seen_word}
use Rattle.phase_laws.proofs.Crossings.{PhaseClosed, PhaseEnded, closes, only, stored}
use Rattle.phase_laws.proofs.Darks.{DarkensSo, dark_event}
use Rattle.phase_laws.proofs.Dues.{close_active, works}
use Rattle.phase_laws.proofs.Endings.{phase_of}
use Rattle.phase_laws.proofs.Events.{InPhase, in_phase}
use Rattle.phase_laws.proofs.Jobs.{DataJob, data_job, reads, writes}
use Rattle.phase_laws.proofs.Moves.{TellsSo, moved_is, way_is}
use Rattle.phase_laws.proofs.Parts.{KeepsScript, path_with}
use Rattle.phase_laws.proofs.Tags.{of_some}

-- ---- the fault of a phase whose blocks all moved

kind_low : (kind : BusKind) (command : Command) (blocks b : ℕ) → befalls kind command blocks ≡ true → kind ≡ Bad b → b ≤ blocks
kind_low kind command blocks b e is =
    let here : befalls (Bad b) command blocks ≡ true = sym (ap (λ x. befalls x command blocks) is) ∙ e in
    leb-true b blocks (and_parts (is_execute command) (nat_le b blocks) here).1

pub hit_low : (o : Option Hit) (command : Command) (blocks b : ℕ) → if_of_kind o command blocks ≡ Some (Bad b) → b ≤ blocks
hit_low None command blocks b e = absurd (none-some (Bad b) e)
hit_low (Some hit) command blocks b e = by_kind (befalls hit.kind command blocks) refl e
  where
    by_kind : (here : Bool) → befalls hit.kind command blocks ≡ here → cond here (Some hit.kind) None ≡ Some (Bad b) → b ≤ blocks
    by_kind true f g = kind_low hit.kind command blocks b f (same_Some hit.kind (Bad b) g)
    by_kind false f g = absurd (none-some (Bad b) g)

no_bad : (hit : Option BusKind) (count blocks : ℕ) → ((b : ℕ) → hit ≡ Some (Bad b) → b ≤ blocks) → IsBeforeFault hit count → blocks ≤ count
    → is_bad_block hit (count + 1) ≡ false
no_bad None count blocks low before all = refl
no_bad (Some Lost) count blocks low before all = refl
no_bad (Some NoResp) count blocks low before all = refl
no_bad (Some Late) count blocks low before all = refl
no_bad (Some (Bad b)) count blocks low before all = let few = low b refl in absurd (omega (arith, few, before, all))

-- ---- what is kept

any_of : (through forced reliable : Bool) → (forced || (reliable || not (not through))) ≡ true → (through || (forced || reliable)) ≡ true
any_of true forced reliable e = refl
any_of false true reliable e = refl
any_of false false true e = refl
any_of false false false e = e

keeps_must : (p : PathState) (slot : ℕ) (i : InPhase p slot) → AreTied p
    → DataJob (layout p) slot (job p i.id) (asks_notice (plan_of p) (job p i.id)) i.h.task → card_keeps p.card (phase_of slot i.h) ≡ true
    → must_keep (plan_of p).through (job p i.id) ≡ true
keeps_must p slot i t (reads sector blocks high is task) e =
    absurd (false≢true (sym (ap (λ x. not x.desc.read && (x.desc.forced || (x.desc.reliable || not p.card.csd.cache))) task) ∙ e))
keeps_must p slot i t (writes sector blocks fill forced reliable high is task) e =
    let cache : p.card.csd.cache ≡ not (plan_of p).through = ap (λ c. c.cache) t.card.csd ∙ ap not t.card.through in
    let so : (forced || (reliable || not (not (plan_of p).through))) ≡ true =
    sym (ap (λ x. not x.desc.read && (x.desc.forced || (x.desc.reliable || not p.card.csd.cache))) task
    ∙ ap (λ b. forced || (reliable || not b)) cache) ∙ e in
    ap (must_keep (plan_of p).through) is ∙ any_of (plan_of p).through forced reliable so

-- a write that must be kept and isn't is no whole phase
pub unkept_part : (p : PathState) (slot : ℕ) (i : InPhase p slot) → must_keep (plan_of p).through (job p i.id) ≡ true
    → is_whole (plan_of p).through (job p i.id) i.h.moved false ≡ false
unkept_part p slot i must =
    and_right (i.h.moved == phase_blocks (job p i.id)) (false || not (must_keep (plan_of p).through (job p i.id))) (ap not must)

pub close_sent : (hit : Option BusKind) (got : Result ℕ Dark) (s : Script) → (after_close hit got s).sent ≡ s.sent
close_sent None got s = refl
close_sent (Some Lost) got s = refl
close_sent (Some NoResp) got s = refl
close_sent (Some (Bad n)) got s = refl
close_sent (Some Late) (Ok word) s = refl
close_sent (Some Late) (Err dark) s = refl

-- ---- the event

abbrev StopTold : (p : PathState) (a : ArrayState) (p' : PathState) (a' : ArrayState) (did : Did) (phase : Option Phase) → Type 0
StopTold p a p' a' did phase =
    (is_dark did ≡ false → TellsSo EngineActs p a (engine_lines p p' did phase) p' a') × (is_dark did ≡ true → DarkensSo p a (engine_lines p p' did phase) p' a')

pub close_stops : (p : PathState) (a : ArrayState) (p' : PathState) (a' : ArrayState) (did : Did) (phase : Option Phase) (e : EngineEvent p a p' a' did phase)
    (slot : ℕ) → AreTied p → AreTied p' → StateLaws → IsDue (remembered p.engine.held p.regs) p.regs p.memory (Close slot)
    → HasItsSlot (remembered p.engine.held p.regs) p.regs (Close slot)
    → Does CardMade (behind_path p a) (behind e.card a' p'.script) (host_at p) p.memory p'.memory (outcome_of did e.event.left.held e.event.left.regs) (Close slot)
    → (cause : Cause) → did ≡ Stopped cause → StopTold p a p' a' did phase
close_stops p a p' a' did phase e slot t t' laws due has does cause stopped = by_ended x.ended
  where
    old : Behind
    old = behind_path p a

    new : Behind
    new = behind e.card a' p'.script

    out : Outcome
    out = outcome_of did e.event.left.held e.event.left.regs

    goes : rests p.regs ≡ false
    goes = works (remembered p.engine.held p.regs) p.regs p.memory (Close slot) due (λ h. absurd (cc h))

    i : InPhase p slot
    i = in_phase p slot t goes has.0.below (close_active (remembered p.engine.held p.regs) p.regs p.memory slot due)

    D : Option HeldTask → Type 0
    D o = IsSomeAnd o (λ held. ClosesPhase CardMade old new out (close_ended (host_at p) slot held.task.desc))

    d : ClosesPhase CardMade old new out (close_ended (host_at p) slot i.h.task.desc)
    d = subst D i.there does.0

    x : PhaseClosed (phase_of slot i.h) old new d.answer
    x = closes (phase_of slot i.h) old new d.answer i.open_phase d.crossed

    j : DataJob (layout p) slot (job p i.id) (asks_notice (plan_of p) (job p i.id)) i.h.task
    j = data_job (layout p) slot (job p i.id) (asks_notice (plan_of p) (job p i.id)) i.h.task i.task

    few : i.h.moved ≤ i.h.task.desc.blocks
    few = (of_some (held_at p.engine.held slot) i.h IsCounted i.at (t.counts slot i.below)).within

    all : i.h.task.desc.blocks ≤ i.h.moved
    all =
        let L : Option HeldTask → Type 0 = λ o. option_map_or (λ h. h.task.desc.blocks) o 0 ≤ option_map_or (λ h. h.moved) o 0 in
        subst L i.there has.1

    before : IsBeforeFault p.script.hit i.h.moved
    before =
        subst (IsBeforeFault p.script.hit) (moved_is p slot i)
        (of_some (under_way p) slot (λ tag. IsBeforeFault p.script.hit (moved p)) (way_is p slot i) t.fails)

    heard : is_gone p.script.hit ≡ false
    heard = of_some (under_way p) slot (λ tag. is_gone p.script.hit ≡ false) (way_is p slot i) t.heard

    low : (b : ℕ) → p.script.hit ≡ Some (Bad b) → b ≤ i.h.task.desc.blocks
    low b h =
        let H : Option HeldTask → Type 0 =
        λ o. IsSomeAnd o (λ v. p.script.hit ≡ hit_of p.script.hits p.script.sent (execute_of slot v.task.desc) v.task.desc.blocks) in
        let was : HasHit p slot = of_some (under_way p) slot (HasHit p) (way_is p slot i) t.hit in
        hit_low _ (execute_of slot i.h.task.desc) i.h.task.desc.blocks b (sym (subst H i.at was) ∙ h)

    free : is_bad_block p.script.hit (i.h.moved + 1) ≡ false
    free = no_bad p.script.hit i.h.moved i.h.task.desc.blocks low before all

    info : ℕ
    info = data_error (index_of (execute_of slot i.h.task.desc)) slot

    masked : (word : ℕ) → (bit_and word 3228041344 == 0) ≡ false → is_masked p.regs word ≡ true
    masked word some = masks p.regs word (ap (λ r. r.error_mask) t.regs.same) some

    O : Result ℕ LinkEnd → Type 0
    O r = out ≡ close_ended (host_at p) slot i.h.task.desc r

    lines : KeepsScript p.script p'.script
    lines = subst (KeepsScript p.script) (sym x.script) (close_script p.script.hit x.got p.script)

    Fails : Type 0
    Fails = (why : Cause) → out ≡ outcome_of (Stopped why) (remembered p.engine.held p.regs) (stopped_with p.regs info) → StopEvent p a p' a' did phase e slot i

    bus : Fails → p.script.hit ≡ Some Late → out ≡ outcome_of (Stopped (BusFault Late (Some slot))) (remembered p.engine.held p.regs) (stopped_with p.regs info)
        → StopTold p a p' a' did phase
    bus fails late is = (
      λ lit.
          bus_event p a p' a' did phase e slot i (Close slot) Late (fails (BusFault Late (Some slot)) is) t t' laws due refl few late (ap (λ o. o.did) is)
          (λ whole. refl) (λ b. refl),
      λ dark. absurd (false≢true (sym (ap (λ o. is_dark o.did) is) ∙ dark)),
    )

    never : {R : Type 0} → d.answer ≡ Ok without_error → R
    never answered =
        let unmasked : is_masked p.regs without_error ≡ false = ap (λ m. not (bit_and without_error m == 0)) (ap (λ r. r.error_mask) t.regs.same) in
        absurd (cc (sym stopped ∙ ap (λ o. o.did) (subst O answered d.outcome ∙ ends_well p slot i unmasked)))

    well : Fails → x.got ≡ Ok without_error → StopTold p a p' a' did phase
    well fails is =
        elim (seen_word p.script.hit without_error) [
          | inl s ↦ never (x.seen ∙ ap (close_seen p.script.hit) is ∙ s.1)
          | inr s ↦ bus fails s.0 (subst O (x.seen ∙ ap (close_seen p.script.hit) is ∙ s.1) d.outcome)
        ]

    flash : Fails → must_keep (plan_of p).through (job p i.id) ≡ true → x.got ≡ Ok (word_of ERROR) → StopTold p a p' a' did phase
    flash fails must is =
        elim (seen_word p.script.hit (word_of ERROR)) [
          | inl s ↦
              let out_is = subst O (x.seen ∙ ap (close_seen p.script.hit) is ∙ s.1) d.outcome ∙ ends_masked p slot (word_of ERROR) i (masked (word_of ERROR) refl) in (
                λ lit.
                    flash_event p a p' a' did phase e slot i (Close slot) (word_of ERROR) (fails (Response (word_of ERROR) slot) out_is) t t' laws due refl few
                    (ap (λ o. o.did) out_is) refl refl (unkept_part p slot i must) (owes_flash p.script.hit p.script.sent i.id i.h.moved heard s.0 free),
                λ dark. absurd (false≢true (sym (ap (λ o. is_dark o.did) out_is) ∙ dark)),
              )
          | inr s ↦ bus fails s.0 (subst O (x.seen ∙ ap (close_seen p.script.hit) is ∙ s.1) d.outcome)
        ]

    loses : Fails → must_keep (plan_of p).through (job p i.id) ≡ true → x.got ≡ Err (record {}) → StopTold p a p' a' did phase
    loses fails must is =
        let out_is = subst O (x.seen ∙ ap (close_seen p.script.hit) is ∙ seen_dark p.script.hit (record {})) d.outcome in (
          λ lit. absurd (false≢true (sym lit ∙ ap (λ o. is_dark o.did) out_is)),
          λ dark.
              dark_event p a p' a' did phase e slot i (Close slot) (fails NoPower out_is) t t' laws due refl few (ap (λ o. o.did) out_is) (unkept_part p slot i must),
        )

    fails_by : e.card.begun ≡ p.card.begun → e.card.store.cache.last ≡ p.card.store.cache.last → is_some a'.told ≡ is_some a.told
        → Turns same p.card.store a e.card.store a' → (must_keep (plan_of p).through (job p i.id) ≡ false → shown_by a' ≡ shown_by a) → Fails
    fails_by begun last told turns still why is = record {
      information = info;
      regs = e.event.registers ∙ ap (λ o. o.host.regs) is;
      memory = does.1;
      script = lines;
      sent = ap (λ s. s.sent) x.script ∙ close_sent p.script.hit x.got p.script;
      begun = begun;
      last = last;
      told = told;
      turns = turns;
      still = λ c h through free_of fewer. still free_of;
    }

    kept_now : e.card.begun ≡ option_map (marked (phase_of slot i.h)) p.card.begun → IsSameStore p.card.store e.card.store → is_some a'.told ≡ is_some a.told
        → Turns (kept (is_named i.h.task.desc.start i.h.task.desc.blocks)) p.card.store a e.card.store a' → must_keep (plan_of p).through (job p i.id) ≡ true
        → p.script.hit ≡ Some Late
        → out ≡ outcome_of (Stopped (BusFault Late (Some slot))) (remembered p.engine.held p.regs) (stopped_with p.regs info) → StopTold p a p' a' did phase
    kept_now begun store told turns must late out_is =
        let now : e.card.begun ≡ Some (record { task = slot; count = i.h.moved; kept = true }) =
        begun ∙ ap (option_map (marked (phase_of slot i.h))) (begun_is p slot i t)
        ∙ ap (λ b. Some (cond b (record { task = slot; count = i.h.moved; kept = true }) (record { task = slot; count = i.h.moved; kept = false }))) (eq-eqb slot slot refl) in
        let regs = e.event.registers ∙ ap (λ o. o.host.regs) out_is in
        let phase_is = e.taken ∙ ap (phase_taken e.card) (not_on p' (ap (λ r. r.stopped) regs)) ∙ now in
        let is : did ≡ Stopped (BusFault Late (Some slot)) = ap (λ o. o.did) out_is in
        let sent : p'.script.sent ≡ p.script.sent = ap (λ s. s.sent) x.script ∙ close_sent p.script.hit x.got p.script in
        let r = stop_regs p info p.regs.response_index p.regs.response_argument p.regs.direct_response in
        let halted = regs ∙ stop_regs_are p info p.regs.response_index p.regs.response_argument p.regs.direct_response (ap (λ r. r.status_enable) t.regs.same) t.regs.notice in
        let path : p' ≡ stopped_path p r p'.engine p'.card p'.script =
        ap (λ d. record p' { driver = d }) e.driver ∙ ap (λ v. path_with p v p'.memory p'.engine p'.card p'.script) halted
        ∙ ap (λ m. path_with p r m p'.engine p'.card p'.script) does.1 in
        let same_store = left_store e.card p'.card (is_busy p') e.left in
        let items : List Item = PhaseLine p.script.sent i.id i.h.moved true ∷ BusLine p.script.sent Late (Some i.id) ∷ [] in
        let shown_lines = bus_lines p p' did phase slot i.id i.h.moved true Late is phase_is (ap is_some (way_is p slot i)) i.is_held sent in (
          λ lit.
              subst (λ v. TellsSo EngineActs p a v p' a') (sym shown_lines)
              (subst (λ v. TellsSo EngineActs p a items v a') (sym path)
              (kept_tells p a slot i info p.regs.response_index p.regs.response_argument p.regs.direct_response p'.engine p'.card p'.script a' (Close slot) t laws due refl
              (record {
                tied = subst AreTied path t';
                last = ap (λ v. v.cache.last) same_store ∙ store.last;
                told = told;
                store = e.store;
                turns = subst (λ v. Turns (kept (is_named i.h.task.desc.start i.h.task.desc.blocks)) p.card.store a v a') (sym same_store) turns;
                script = lines;
                sent = sent;
                is_data = j;
                before = before;
                few = few;
                all = all;
                must = must;
              })
              late (cause_is p a p' a' did phase e (BusFault Late (Some slot)) is))),
          λ dark. absurd (false≢true (sym (ap is_dark is) ∙ dark)),
        )

    by_ended : PhaseEnded (phase_of slot i.h) old new x.got → StopTold p a p' a' did phase
    by_ended (only must u) =
        well
        (fails_by (ap (λ c. c.begun) u.card) (ap (λ c. c.store.cache.last) u.card) (ap (λ v. is_some v.told) u.array)
        (subst (λ v. Turns same p.card.store a e.card.store v) (sym u.array) (subst (λ c. Turns same p.card.store a c.store a) (sym u.card) (λ c h. h)))
        (λ free_of. ap shown_by u.array))
        u.answer
    by_ended (stored must s settled) = by_end_of s.end s.answers s.card s.turns
      where
        keeping : must_keep (plan_of p).through (job p i.id) ≡ true
        keeping = keeps_must p slot i t j (and_parts (card_keeps p.card (phase_of slot i.h)) (i.h.moved == i.h.task.desc.blocks) must).0

        by_end_of : (end : End) → x.got ≡ word_answer end → e.card ≡ record (finished p.card (phase_of slot i.h) end) { store = e.card.store }
            → Turns (by_end (kept (is_named i.h.task.desc.start i.h.task.desc.blocks)) same end) p.card.store a e.card.store a' → StopTold p a p' a' did phase
        by_end_of (Ok u) is card turns =
            elim (seen_word p.script.hit without_error) [
              | inl on ↦ never (x.seen ∙ ap (close_seen p.script.hit) is ∙ on.1)
              | inr late ↦ kept_now (ap (λ c. c.begun) card) s.store s.ends.tells turns keeping late.0 (subst O (x.seen ∙ ap (close_seen p.script.hit) is ∙ late.1) d.outcome)
            ]
        by_end_of (Err Flash) is card turns =
            flash (fails_by (ap (λ c. c.begun) card) s.store.last s.ends.tells turns (λ free_of. absurd (false≢true (sym free_of ∙ keeping)))) keeping is
        by_end_of (Err PowerLost) is card turns =
            loses (fails_by (ap (λ c. c.begun) card) s.store.last s.ends.tells turns (λ free_of. absurd (false≢true (sym free_of ∙ keeping)))) keeping is
