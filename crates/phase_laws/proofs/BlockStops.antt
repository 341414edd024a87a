-- What a block tells, however it ends but with the loss of power.
use Rattle.std.proofs.Common.{◌≡◌, ◌<◌, ◌≤◌, ◌++◌, ◌==◌, ℕ, sym, ◌∙◌, ap, subst}
use Rattle.std.specs.Prelude.{Bool, true, false, cond, Option, Some, None, is_some, length, List, [], ◌∷◌, unwrap_or}
use Rattle.std.specs.Option.{option_map, option_map_or, option_or}
use Rattle.std.proofs.lemmas.Bool.{or_left}
use Rattle.array_edge.specs.Array.{ArrayState}
use Rattle.bus_link.specs.Link.{tells_flash}
use Rattle.bus_link.specs.declared.link.Cause.{Cause}
use Rattle.bus_link.specs.declared.link.Cause.TheVariants.{Bus as BusFault, Response}
use Rattle.card_core.specs.Card.{CardState}
use Rattle.card_core.specs.declared.phase.Phase.{Phase}
use Rattle.card_store.specs.Store.{Turns, same}
use Rattle.cq_engine.specs.Outcome.{stop_of, stopped_with}
use Rattle.cq_engine.specs.declared.did.Did.{Did}
use Rattle.cq_engine.specs.declared.did.Did.TheVariants.{Stopped}
use Rattle.cq_regs.specs.declared.slots.Progress.TheVariants.{Active}
use Rattle.cq_schedule.specs.Held.{remembered}
use Rattle.cq_schedule.specs.Meaning.{IsDue}
use Rattle.cq_schedule.specs.Order.{first_at}
use Rattle.cq_schedule.specs.declared.rules.Due.{Due}
use Rattle.drv_core.specs.Judge.{error_of}
use Rattle.drv_core.specs.State.{asks_notice}
use Rattle.drv_core.specs.declared.act.Stop.TheVariants.{Flash as FlashEnding}
use Rattle.intent_store.specs.Intent.{shown_by}
use Rattle.storage_machine.specs.Jobs.{must_keep}
use Rattle.storage_machine.specs.declared.commands.DueCommand.TheVariants.{Execute}
use Rattle.storage_machine.specs.declared.state.Owed.TheVariants.{Bus as BusOwed, Flash as FlashOwed}
use Rattle.storage_model.specs.declared.faults.BusKind.{BusKind}
use Rattle.storage_model.specs.declared.faults.Letter.TheVariants.{Engine as EngineActs}
use Rattle.storage_model.specs.declared.trace.Item.{Item}
use Rattle.storage_model.specs.declared.trace.Item.TheVariants.{Address as AddressLine, Bus as BusLine, Flash as FlashLine, Phase as PhaseLine}
use Rattle.storage_machine.specs.declared.state.State.{State}
use Rattle.trace_effects.specs.Cuts.{places_of}
use Rattle.trace_effects.specs.Effects.{uses_word}
use Rattle.trace_rules.specs.Phases.{is_whole, owed_by}
use Rattle.world_state.specs.Engine.{EngineEvent, engine_lines, phase_left, phase_taken, stop_lines}
use Rattle.world_state.specs.Laws.{StateLaws, command_due}
use Rattle.world_state.specs.Path.{PathState, holder, is_busy, job, layout, moved, moved_by, plan_of, under_way}
use Rattle.world_state.specs.Reading.{Context}
use Rattle.world_state.specs.Stands.{Agrees, contents_of}
use Rattle.world_state.specs.Ties.{AreTied, IsBeforeFault}
use Rattle.phase_laws.proofs.Events.{InPhase}
use Rattle.phase_laws.proofs.Jobs.{data_job}
use Rattle.phase_laws.proofs.Moves.{TellsSo, moved_is, way_is}
use Rattle.phase_laws.proofs.Parts.{KeepsScript, path_with}
use Rattle.phase_laws.proofs.StopTells.{FailTold, Halted, bus_tells, flash_tells}
use Rattle.phase_laws.proofs.Stopping.{stop_regs, stop_regs_are, stopped_path}
use Rattle.phase_laws.proofs.Tags.{of_some}

-- ---- what the phase's line says

pub begun_is : (p : PathState) (slot : ℕ) (i : InPhase p slot) → AreTied p → p.card.begun ≡ Some (record { task = slot; count = i.h.moved; kept = false })
begun_is p slot i t =
    t.begun ∙ ap (λ w. option_map (λ tag. record { task = tag; count = moved_by p w; kept = false }) w) (way_is p slot i)
    ∙ ap (λ o. Some (record { task = slot; count = option_map_or (λ x. x.moved) o 0; kept = false })) i.at

pub not_on : (p' : PathState) → p'.regs.stopped ≡ true → is_busy p' ≡ false
not_on p' e = ap (λ b. is_some (cond b None (first_at Active p'.regs.ring))) e

abbrev pub phase_so : ℕ → ℕ → Bool → Option Phase
phase_so slot count kept = Some (record { task = slot; count = count; kept = kept })

pub bus_lines : (p p' : PathState) (did : Did) (phase : Option Phase) (slot id count : ℕ) (kept : Bool) (kind : BusKind) → did ≡ Stopped (BusFault kind (Some slot))
    → phase ≡ phase_so slot count kept → is_busy p ≡ true → holder p slot ≡ Some id → p'.script.sent ≡ p.script.sent
    → engine_lines p p' did phase ≡ PhaseLine p.script.sent id count kept ∷ BusLine p.script.sent kind (Some id) ∷ []
bus_lines p p' did phase slot id count kept kind is told busy held sent =
    ap (λ d. engine_lines p p' d phase) is
    ∙ ap (λ ph. stop_lines p p' ph (BusFault kind (Some slot))) told
    ∙ ap (λ b. cond b (PhaseLine p'.script.sent (unwrap_or (holder p slot) 0) count kept ∷ []) [] ++ BusLine p'.script.sent kind (Some (unwrap_or (holder p slot) 0)) ∷ [])
    (or_left (is_busy p) (slot == 31) busy)
    ∙ ap (λ o. PhaseLine p'.script.sent (unwrap_or o 0) count kept ∷ BusLine p'.script.sent kind (Some (unwrap_or o 0)) ∷ []) held
    ∙ ap (λ n. PhaseLine n id count kept ∷ BusLine n kind (Some id) ∷ []) sent

pub flash_lines : (p p' : PathState) (did : Did) (phase : Option Phase) (slot id count : ℕ) (kept : Bool) (word : ℕ) → did ≡ Stopped (Response word slot)
    → phase ≡ phase_so slot count kept → tells_flash word ≡ true → holder p slot ≡ Some id → p'.script.sent ≡ p.script.sent
    → engine_lines p p' did phase ≡ PhaseLine p.script.sent id count kept ∷ FlashLine (Some id) ∷ []
flash_lines p p' did phase slot id count kept word is told flash held sent =
    ap (λ d. engine_lines p p' d phase) is
    ∙ ap (λ ph. stop_lines p p' ph (Response word slot)) told
    ∙ ap (λ b. cond b (PhaseLine p'.script.sent (unwrap_or (holder p slot) 0) count kept ∷ FlashLine (Some (unwrap_or (holder p slot) 0)) ∷ [])
    (AddressLine p'.script.sent (unwrap_or (holder p slot) 0) ∷ [])) flash
    ∙ ap (λ o. PhaseLine p'.script.sent (unwrap_or o 0) count kept ∷ FlashLine (Some (unwrap_or o 0)) ∷ []) held
    ∙ ap (λ n. PhaseLine n id count kept ∷ FlashLine (Some id) ∷ []) sent

-- ---- a stop, from what the engine's event says of it

pub record StopEvent (p : PathState) (a : ArrayState) (p' : PathState) (a' : ArrayState) (did : Did) (phase : Option Phase) (e : EngineEvent p a p' a' did phase)
    (slot : ℕ) (i : InPhase p slot) : Type 0 where
  pub information : ℕ
  pub regs : p'.regs ≡ stopped_with p.regs information
  pub memory : p'.memory ≡ p.memory
  pub script : KeepsScript p.script p'.script
  pub sent : p'.script.sent ≡ p.script.sent
  pub begun : e.card.begun ≡ p.card.begun
  pub last : e.card.store.cache.last ≡ p.card.store.cache.last
  pub told : is_some a'.told ≡ is_some a.told
  pub turns : Turns same p.card.store a e.card.store a'
  pub still : (c : Context) → Agrees p a c → (plan_of p).through ≡ false → must_keep (plan_of p).through (job p i.id) ≡ false
      → length (places_of (contents_of p c).pend) < (plan_of p).lines → shown_by a' ≡ shown_by a

pub left_store : (card card' : CardState) (busy : Bool) → card' ≡ phase_left card busy → card'.store ≡ card.store
left_store card card' true e = ap (λ c. c.store) e
left_store card card' false e = ap (λ c. c.store) e

pub stop_fails : (p : PathState) (a : ArrayState) (p' : PathState) (a' : ArrayState) (did : Did) (phase : Option Phase) (e : EngineEvent p a p' a' did phase)
    (slot : ℕ) (i : InPhase p slot) → StopEvent p a p' a' did phase e slot i → FailTold p a (job p i.id) p'.card a'
stop_fails p a p' a' did phase e slot i s =
    let store = left_store e.card p'.card (is_busy p') e.left in
    record {
      last = ap (λ x. x.cache.last) store ∙ s.last;
      told = s.told;
      store = e.store;
      turns = subst (λ x. Turns same p.card.store a x a') (sym store) s.turns;
      still = s.still;
    }

pub stop_path : (p : PathState) (a : ArrayState) (p' : PathState) (a' : ArrayState) (did : Did) (phase : Option Phase) (e : EngineEvent p a p' a' did phase)
    (slot : ℕ) (i : InPhase p slot) (s : StopEvent p a p' a' did phase e slot i) → AreTied p
    → p' ≡ stopped_path p (stop_regs p s.information p.regs.response_index p.regs.response_argument p.regs.direct_response) p'.engine p'.card p'.script
stop_path p a p' a' did phase e slot i s t =
    let regs = s.regs ∙ stop_regs_are p s.information p.regs.response_index p.regs.response_argument p.regs.direct_response
    (ap (λ r. r.status_enable) t.regs.same) t.regs.notice in
    ap (λ d. record p' { driver = d }) e.driver ∙ ap (λ r. path_with p r p'.memory p'.engine p'.card p'.script) regs
    ∙ ap (λ m. path_with p (stop_regs p s.information p.regs.response_index p.regs.response_argument p.regs.direct_response) m p'.engine p'.card p'.script) s.memory

pub stop_phase : (p : PathState) (a : ArrayState) (p' : PathState) (a' : ArrayState) (did : Did) (phase : Option Phase) (e : EngineEvent p a p' a' did phase)
    (slot : ℕ) (i : InPhase p slot) → StopEvent p a p' a' did phase e slot i → AreTied p → phase ≡ phase_so slot i.h.moved false
stop_phase p a p' a' did phase e slot i s t =
    e.taken ∙ ap (phase_taken e.card) (not_on p' (ap (λ r. r.stopped) s.regs)) ∙ s.begun ∙ begun_is p slot i t

pub halted_of : (p : PathState) (a : ArrayState) (p' : PathState) (a' : ArrayState) (did : Did) (phase : Option Phase) (e : EngineEvent p a p' a' did phase)
    (slot : ℕ) (i : InPhase p slot) (s : StopEvent p a p' a' did phase e slot i) → AreTied p → AreTied p' → i.h.moved ≤ i.h.task.desc.blocks
    → Halted p a slot i s.information p.regs.response_index p.regs.response_argument p.regs.direct_response p'.engine p'.card p'.script a'
halted_of p a p' a' did phase e slot i s t t' few = record {
  tied = subst AreTied (stop_path p a p' a' did phase e slot i s t) t';
  fails = stop_fails p a p' a' did phase e slot i s;
  script = s.script;
  sent = s.sent;
  is_data = data_job (layout p) slot (job p i.id) (asks_notice (plan_of p) (job p i.id)) i.h.task i.task;
  before =
      subst (IsBeforeFault p.script.hit) (moved_is p slot i)
      (of_some (under_way p) slot (λ tag. IsBeforeFault p.script.hit (moved p)) (way_is p slot i) t.fails);
  few = few;
}

pub cause_is : (p : PathState) (a : ArrayState) (p' : PathState) (a' : ArrayState) (did : Did) (phase : Option Phase) (e : EngineEvent p a p' a' did phase)
    (cause : Cause) → did ≡ Stopped cause → p'.engine.cause ≡ Some cause
cause_is p a p' a' did phase e cause is = ap (λ g. g.cause) e.event.keeps ∙ ap (λ d. option_or (stop_of d) p.engine.cause) is

pub bus_event : (p : PathState) (a : ArrayState) (p' : PathState) (a' : ArrayState) (did : Did) (phase : Option Phase) (e : EngineEvent p a p' a' did phase)
    (slot : ℕ) (i : InPhase p slot) (d : Due) (kind : BusKind) → StopEvent p a p' a' did phase e slot i → AreTied p → AreTied p' → StateLaws
    → IsDue (remembered p.engine.held p.regs) p.regs p.memory d → command_due p d ≡ Execute slot → i.h.moved ≤ i.h.task.desc.blocks
    → p.script.hit ≡ Some kind → did ≡ Stopped (BusFault kind (Some slot))
    → ((whole : Bool) → owed_by (Some kind) whole p.script.sent i.id i.h.moved ≡ BusOwed p.script.sent i.id kind)
    → ((b : State) → uses_word b kind ≡ false) → TellsSo EngineActs p a (engine_lines p p' did phase) p' a'
bus_event p a p' a' did phase e slot i d kind s t t' laws due command few hit is owes unused =
    let items : List Item = PhaseLine p.script.sent i.id i.h.moved false ∷ BusLine p.script.sent kind (Some i.id) ∷ [] in
    let lines = bus_lines p p' did phase slot i.id i.h.moved false kind is (stop_phase p a p' a' did phase e slot i s t) (ap is_some (way_is p slot i)) i.is_held s.sent in
    subst (λ v. TellsSo EngineActs p a v p' a') (sym lines)
    (subst (λ v. TellsSo EngineActs p a items v a') (sym (stop_path p a p' a' did phase e slot i s t))
    (bus_tells p a slot i s.information p.regs.response_index p.regs.response_argument p.regs.direct_response p'.engine p'.card p'.script a' d kind t laws due
    command (halted_of p a p' a' did phase e slot i s t t' few) hit (cause_is p a p' a' did phase e (BusFault kind (Some slot)) is) owes unused))

pub flash_event : (p : PathState) (a : ArrayState) (p' : PathState) (a' : ArrayState) (did : Did) (phase : Option Phase) (e : EngineEvent p a p' a' did phase)
    (slot : ℕ) (i : InPhase p slot) (d : Due) (word : ℕ) → StopEvent p a p' a' did phase e slot i → AreTied p → AreTied p' → StateLaws
    → IsDue (remembered p.engine.held p.regs) p.regs p.memory d → command_due p d ≡ Execute slot → i.h.moved ≤ i.h.task.desc.blocks
    → did ≡ Stopped (Response word slot) → tells_flash word ≡ true → error_of word ≡ Some FlashEnding
    → is_whole (plan_of p).through (job p i.id) i.h.moved false ≡ false
    → owed_by p.script.hit false p.script.sent i.id i.h.moved ≡ FlashOwed i.id → TellsSo EngineActs p a (engine_lines p p' did phase) p' a'
flash_event p a p' a' did phase e slot i d word s t t' laws due command few is flash error part owes =
    let items : List Item = PhaseLine p.script.sent i.id i.h.moved false ∷ FlashLine (Some i.id) ∷ [] in
    let lines = flash_lines p p' did phase slot i.id i.h.moved false word is (stop_phase p a p' a' did phase e slot i s t) flash i.is_held s.sent in
    subst (λ v. TellsSo EngineActs p a v p' a') (sym lines)
    (subst (λ v. TellsSo EngineActs p a items v a') (sym (stop_path p a p' a' did phase e slot i s t))
    (flash_tells p a slot i s.information p.regs.response_index p.regs.response_argument p.regs.direct_response p'.engine p'.card p'.script a' d word t laws due
    command (halted_of p a p' a' did phase e slot i s t t' few) (cause_is p a p' a' did phase e (Response word slot) is) error part owes))
