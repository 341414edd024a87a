-- The ties after the end of a data phase.
use Rattle.std.proofs.Common.{◌≡◌, ◌≢◌, ◌⊎◌, ◌<◌, ◌≤◌, ◌==◌, ◌^◌, ℕ, refl, sym, ◌∙◌, ap, subst, arith, inl, inr}
use Rattle.std.specs.Prelude.{Bool, true, false, not, cond, Option, Some, None, IfSome, Result, Ok, Err, slice_set}
use Rattle.std.specs.Int.RustNames.{bit_and, bit_or}
use Rattle.std.specs.Option.{IsSomeAnd}
use Rattle.std.proofs.lemmas.Bool.{or_parts}
use Rattle.array_edge.specs.Array.{ArrayState}
use Rattle.bus_link.specs.Script.{Script}
use Rattle.bus_link.specs.declared.link.Cause.{Cause}
use Rattle.bus_link.specs.declared.link.Cause.TheVariants.{Bus as BusFault, Dark as NoPower, Response}
use Rattle.bus_link.specs.declared.link.LinkEnd.{LinkEnd}
use Rattle.bus_link.specs.declared.link.LinkEnd.TheVariants as link_end
use Rattle.card_core.specs.Card.{CardState}
use Rattle.card_core.specs.Moving.{closed, finished}
use Rattle.card_core.specs.Serving.{End, without_error, word_answer, word_of}
use Rattle.card_core.specs.declared.ends.Dark.{Dark}
use Rattle.card_core.specs.declared.phase.DataPhase.{DataPhase}
use Rattle.card_core.specs.declared.phase.Phase.{Phase}
use Rattle.card_link.specs.Behind.{Behind, behind}
use Rattle.card_link.specs.Made.{CardMade, after_close, close_seen}
use Rattle.cmd_words.specs.Command.{index_of}
use Rattle.cmd_words.specs.declared.status.TheConstants.Status.{ERROR}
use Rattle.cq_engine.specs.After.{after_close as close_ended, phase_ended}
use Rattle.cq_engine.specs.Event.{Closes as ClosesPhase, Does}
use Rattle.cq_engine.specs.Outcome.{Outcome, outcome_of, stopped_with}
use Rattle.cq_engine.specs.Words.{data_error, execute_of, is_masked}
use Rattle.cq_engine.specs.declared.did.Did.{Did}
use Rattle.cq_engine.specs.declared.did.Did.TheVariants.{Finished, Stopped}
use Rattle.drv_ring.specs.declared.places.Layout.{Layout}
use Rattle.cq_task.specs.declared.slot.DataTask.{DataTask}
use Rattle.storage_model.specs.declared.plan.Plan.{Plan}
use Rattle.cq_engine.proofs.SlotLaws.{completes as slot_completes}
use Rattle.cq_regs.specs.Effects.{completed}
use Rattle.cq_regs.specs.Slots.{has_bit, is_rung}
use Rattle.cq_schedule.specs.Held.{remembered}
use Rattle.cq_schedule.specs.Meaning.{HasItsSlot, IsDue, rests}
use Rattle.cq_schedule.specs.declared.held.HeldTask.{HeldTask}
use Rattle.cq_schedule.specs.declared.rules.Due.TheVariants.{Close}
use Rattle.drv_core.specs.State.{asks_notice}
use Rattle.drv_ring.specs.Layout.{IsTagOf}
use Rattle.intent_store.specs.declared.ends.StoreEnd.TheVariants.{Flash, PowerLost}
use Rattle.storage_model.specs.Plan.{is_direct}
use Rattle.storage_model.specs.declared.faults.BusKind.{BusKind}
use Rattle.storage_model.specs.declared.faults.BusKind.TheVariants.{Lost, NoResp, Bad, Late}
use Rattle.storage_model.specs.declared.plan.Job.{Job}
use Rattle.world_state.specs.Engine.{EngineEvent}
use Rattle.world_state.specs.Path.{PathState, behind_path, job, layout, plan_of}
use Rattle.world_state.specs.Ties.{AreTied, is_queued, named_by}
use Rattle.phase_laws.proofs.Blocks.{card_itself, host_at, keeps_by, masks, rung_by, same_keeps, stops_with, struck_keeps}
use Rattle.phase_laws.proofs.Crossings.{PhaseClosed, PhaseEnded, closes, only, stored}
use Rattle.phase_laws.proofs.Dones.{completion, done_ties, others_held}
use Rattle.phase_laws.proofs.Dues.{close_active, none_active, works}
use Rattle.phase_laws.proofs.Events.{InPhase, in_phase, stop_ties}
use Rattle.phase_laws.proofs.Helds.{set_elsewhere}
use Rattle.phase_laws.proofs.Jobs.{DataJob, data_job, reads, writes}
use Rattle.phase_laws.proofs.Endings.{Stops, phase_of}
use Rattle.phase_laws.proofs.Parts.{KeepsCard, KeepsScript}
use Rattle.phase_laws.proofs.SetUps.{done_other}

-- ---- how it ends

-- a word without an error ends the phase well, and any other answer stops the engine
pub ends_well : (p : PathState) (slot : ℕ) (i : InPhase p slot) → is_masked p.regs without_error ≡ false
    → close_ended (host_at p) slot i.h.task.desc (Ok without_error)
    ≡ outcome_of (Finished slot) (slice_set (remembered p.engine.held p.regs) slot None) (completed p.regs slot i.h.task.desc.int)
ends_well p slot i free =
    ap (λ b. phase_ended (host_at p) slot i.h.task.desc (cond b (Err (Response without_error slot)) (Ok without_error))) free

pub ends_masked : (p : PathState) (slot word : ℕ) (i : InPhase p slot) → is_masked p.regs word ≡ true
    → close_ended (host_at p) slot i.h.task.desc (Ok word)
    ≡ outcome_of (Stopped (Response word slot)) (remembered p.engine.held p.regs) (stopped_with p.regs (data_error (index_of (execute_of slot i.h.task.desc)) slot))
ends_masked p slot word i masked =
    ap (λ b. phase_ended (host_at p) slot i.h.task.desc (cond b (Err (Response word slot)) (Ok word))) masked

pub close_script : (hit : Option BusKind) (got : Result ℕ Dark) (s : Script) → KeepsScript s (after_close hit got s)
close_script None got s = same_keeps s
close_script (Some Lost) got s = same_keeps s
close_script (Some NoResp) got s = same_keeps s
close_script (Some (Bad n)) got s = same_keeps s
close_script (Some Late) (Ok word) s = struck_keeps s
close_script (Some Late) (Err dark) s = same_keeps s

pub seen_dark : (hit : Option BusKind) (dark : Dark) → close_seen hit (Err dark) ≡ Err link_end.Dark
seen_dark None dark = refl
seen_dark (Some Lost) dark = refl
seen_dark (Some NoResp) dark = refl
seen_dark (Some (Bad n)) dark = refl
seen_dark (Some Late) dark = refl

pub seen_word : (hit : Option BusKind) (word : ℕ)
    → ((hit ≢ Some Late) × (close_seen hit (Ok word) ≡ Ok word)) ⊎ ((hit ≡ Some Late) × (close_seen hit (Ok word) ≡ Err (link_end.Bus Late)))
seen_word None word = inl (λ h. absurd (cc h), refl)
seen_word (Some Lost) word = inl (λ h. absurd (cc h), refl)
seen_word (Some NoResp) word = inl (λ h. absurd (cc h), refl)
seen_word (Some (Bad n)) word = inl (λ h. absurd (cc h), refl)
seen_word (Some Late) word = inr (refl, refl)

-- ---- the card

closed_keeps : (card : CardState) → KeepsCard card (closed card)
closed_keeps card = record { queue = refl; csd = refl; depth = refl; lines = refl; through = refl; sectors = refl; room = refl; last = λ h. h }

finished_keeps : (card : CardState) (phase : DataPhase) (end : End) → KeepsCard card (finished card phase end)
finished_keeps card phase (Ok u) = record { queue = refl; csd = refl; depth = refl; lines = refl; through = refl; sectors = refl; room = refl; last = λ h. h }
finished_keeps card phase (Err Flash) = closed_keeps card
finished_keeps card phase (Err PowerLost) = card_itself card

-- ---- the job

-- a task notices at once where its job asks for that
pub notice_is : (plan : Plan) (j : Job) (int : Bool) → int ≡ asks_notice plan j → int ≡ false → (plan.coalesce == 0) ≡ false
notice_is plan j int is none = (or_parts (plan.coalesce == 0) (is_direct j) (sym is ∙ none)).0

pub data_notice : (l : Layout) (slot : ℕ) (j : Job) (int : Bool) (task : DataTask) → DataJob l slot j int task → task.desc.int ≡ int
data_notice l slot j int task (reads sector blocks high is e) = ap (λ x. x.desc.int) e
data_notice l slot j int task (writes sector blocks fill forced reliable high is e) = ap (λ x. x.desc.int) e

data_below : (l : Layout) (slot : ℕ) (j : Job) (int : Bool) (task : DataTask) → DataJob l slot j int task → IsTagOf l slot j → slot < l.depth
data_below l slot j int task (reads sector blocks high is e) fits = let F : Job → Type 0 = λ j. IsTagOf l slot j in subst F is fits
data_below l slot j int task (writes sector blocks fill forced reliable high is e) fits = let F : Job → Type 0 = λ j. IsTagOf l slot j in subst F is fits

-- ---- the event

pub close_ties : (p : PathState) (a : ArrayState) (p' : PathState) (a' : ArrayState) (did : Did) (phase : Option Phase) (e : EngineEvent p a p' a' did phase)
    (slot : ℕ) → AreTied p → IsDue (remembered p.engine.held p.regs) p.regs p.memory (Close slot)
    → HasItsSlot (remembered p.engine.held p.regs) p.regs (Close slot)
    → Does CardMade (behind_path p a) (behind e.card a' p'.script) (host_at p) p.memory p'.memory (outcome_of did e.event.left.held e.event.left.regs) (Close slot)
    → AreTied p'
close_ties p a p' a' did phase e slot t due has does = by_ended x.ended
  where
    old : Behind
    old = behind_path p a

    new : Behind
    new = behind e.card a' p'.script

    out : Outcome
    out = outcome_of did e.event.left.held e.event.left.regs

    goes : rests p.regs ≡ false
    goes = works (remembered p.engine.held p.regs) p.regs p.memory (Close slot) due (λ h. absurd (cc h))

    i : InPhase p slot
    i = in_phase p slot t goes has.0.below (close_active (remembered p.engine.held p.regs) p.regs p.memory slot due)

    D : Option HeldTask → Type 0
    D o = IsSomeAnd o (λ held. ClosesPhase CardMade old new out (close_ended (host_at p) slot held.task.desc))

    d : ClosesPhase CardMade old new out (close_ended (host_at p) slot i.h.task.desc)
    d = subst D i.there does.0

    x : PhaseClosed (phase_of slot i.h) old new d.answer
    x = closes (phase_of slot i.h) old new d.answer i.open_phase d.crossed

    j : DataJob (layout p) slot (job p i.id) (asks_notice (plan_of p) (job p i.id)) i.h.task
    j = data_job (layout p) slot (job p i.id) (asks_notice (plan_of p) (job p i.id)) i.h.task i.task

    masked : (word : ℕ) → (bit_and word 3228041344 == 0) ≡ false → is_masked p.regs word ≡ true
    masked word some = masks p.regs word (ap (λ r. r.error_mask) t.regs.same) some

    lines : KeepsScript p.script p'.script
    lines = subst (KeepsScript p.script) (sym x.script) (close_script p.script.hit x.got p.script)

    O : Result ℕ LinkEnd → Type 0
    O r = out ≡ close_ended (host_at p) slot i.h.task.desc r

    info : ℕ
    info = data_error (index_of (execute_of slot i.h.task.desc)) slot

    stop : (cause : Cause) → IfSome (named_by (Some cause)) (λ tag. tag ≡ slot) → out ≡ outcome_of (Stopped cause) (remembered p.engine.held p.regs) (stopped_with p.regs info) → KeepsCard p.card e.card → AreTied p'
    stop cause names is card =
        stop_ties p a p' a' did phase e t i.calm goes
        (subst (Stops p.regs) (sym (e.event.registers ∙ ap (λ o. o.host.regs) is))
        (stops_with p.regs info (ap (λ r. r.status_enable) t.regs.same) t.regs.notice)) card lines does.1 cause (ap (λ o. o.did) is)
        (rung_by p slot cause (ap is_rung i.active) names)

    finish : d.answer ≡ Ok without_error → KeepsCard p.card e.card → AreTied p'
    finish well card =
        let free : is_masked p.regs without_error ≡ false = ap (λ m. not (bit_and without_error m == 0)) (ap (λ r. r.error_mask) t.regs.same) in
        let is = subst O well d.outcome ∙ ends_well p slot i free in
        let regs : p'.regs ≡ completed p.regs slot i.h.task.desc.int = e.event.registers ∙ ap (λ o. o.host.regs) is in
        let ring = ap (λ r. r.ring) regs ∙ (slot_completes p.regs slot i.h.task.desc.int).0 in
        let depth : (layout p).depth ≤ 31 = t.sound.plan.depth.1 in
        let low : slot < (layout p).depth = data_below (layout p) slot (job p i.id) (asks_notice (plan_of p) (job p i.id)) i.h.task j i.asks.tag_fits in
        let apart : 31 ≢ slot = λ h. absurd (omega (arith, h, low, depth)) in
        done_ties p a p' a' did phase e p.regs slot i.h.task.desc.int t i.calm goes i.below
        (record { rung = ap is_rung i.active; unqueued = ap is_queued i.active })
        (record { ring = refl; completed = refl; interrupts = refl; coalescing = refl; status_enable = refl; stopped = refl })
        (notice_is (plan_of p) (job p i.id) i.h.task.desc.int
        (data_notice (layout p) slot (job p i.id) (asks_notice (plan_of p) (job p i.id)) i.h.task j))
        regs (none_active p.regs.ring p'.regs.ring slot t.one i.active ring) does.1
        (others_held p a p' a' did phase e slot (slice_set (remembered p.engine.held p.regs) slot None) (ap (λ o. o.host.held) is)
        (λ tag other. set_elsewhere p.engine.held p.regs slot tag None other) ring)
        card lines
        (λ done.
        let both = completion p p.regs slot i.h.task.desc.int t (record { ring = refl; completed = refl; interrupts = refl; coalescing = refl; status_enable = refl; stopped = refl })
        (notice_is (plan_of p) (job p i.id) i.h.task.desc.int
        (data_notice (layout p) slot (job p i.id) (asks_notice (plan_of p) (job p i.id)) i.h.task j)) in
        let word : p'.regs.completed ≡ bit_or p.regs.completed (2 ^ slot) = ap (λ r. r.completed) regs ∙ both.completed in
        ap (λ r. r.direct_response) regs ∙ both.direct_response
        ∙ t.status (sym (ap (λ n. has_bit n 31) word ∙ done_other p.regs.completed slot 31 apart) ∙ done))

    by_word : (word : ℕ) → x.got ≡ Ok word → (is_masked p.regs word ≡ true) ⊎ (word ≡ without_error) → KeepsCard p.card e.card → AreTied p'
    by_word word is kind card =
        elim (seen_word p.script.hit word) [
          | inl s ↦
              elim kind [
                | inl m ↦ stop (Response word slot) refl (subst O (x.seen ∙ ap (close_seen p.script.hit) is ∙ s.1) d.outcome ∙ ends_masked p slot word i m) card
                | inr w ↦ finish (x.seen ∙ ap (close_seen p.script.hit) is ∙ s.1 ∙ ap (λ n. Ok n) w) card
              ]
          | inr s ↦ stop (BusFault Late (Some slot)) refl (subst O (x.seen ∙ ap (close_seen p.script.hit) is ∙ s.1) d.outcome) card
        ]

    by_end_of : (end : End) → x.got ≡ word_answer end → KeepsCard p.card e.card → AreTied p'
    by_end_of (Ok u) is card = by_word without_error is (inr refl) card
    by_end_of (Err Flash) is card = by_word (word_of ERROR) is (inl (masked (word_of ERROR) refl)) card
    by_end_of (Err PowerLost) is card =
        stop NoPower tt (subst O (x.seen ∙ ap (close_seen p.script.hit) is ∙ seen_dark p.script.hit (record {})) d.outcome) card

    by_ended : PhaseEnded (phase_of slot i.h) old new x.got → AreTied p'
    by_ended (only must u) = by_word without_error u.answer (inr refl) (subst (KeepsCard p.card) (sym u.card) (closed_keeps p.card))
    by_ended (stored must s settled) =
        by_end_of s.end s.answers (keeps_by p.card (finished p.card (phase_of slot i.h) s.end) e.card (finished_keeps p.card (phase_of slot i.h) s.end) s.card s.store)
