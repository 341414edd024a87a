-- Lines of events of engine, host and card have their causes.
use Rattle.std.proofs.Common.{◌≡◌, ◌≢◌, ◌≤◌, ◌+◌, ℕ, true, false, refl, sym, ◌∙◌, ap, subst, arith, inl, inr, Bool, List, [], ◌∷◌, ◌++◌, Result, Ok, Err, cond}
use Rattle.std.specs.Prelude.{Option, None, Some}
use Rattle.storage_model.specs.Count.{Count, Later, Rose}
use Rattle.storage_model.specs.declared.trace.Item.{Item}
use Rattle.storage_model.specs.declared.trace.Item.TheVariants.{Address as AddressLine, Bus as BusLine, Flash as FlashLine}
use Rattle.array_edge.specs.Array.{ArrayState}
use Rattle.bus_link.specs.Link.{LinkState, tells_flash}
use Rattle.bus_link.specs.declared.link.Cause.{Cause}
use Rattle.bus_link.specs.declared.link.Cause.TheVariants.{Bus as BusFault, Response, Dark}
use Rattle.card_core.specs.declared.phase.Phase.{Phase}
use Rattle.card_link.specs.Behind.{link_state}
use Rattle.card_store.specs.declared.ends.StageEnd.{StageEnd}
use Rattle.card_store.specs.declared.ends.StageEnd.TheVariants.{Empty, Flash, PowerLost}
use Rattle.cq_engine.specs.Ends.{EventEnds}
use Rattle.cq_engine.specs.Outcome.{stop_of}
use Rattle.cq_engine.specs.declared.did.Did.{Did}
use Rattle.cq_engine.specs.declared.did.Did.TheVariants.{Idle, Sent, Direct, Moved, Finished, Dropped, Stopped}
use Rattle.drv_core.specs.Event.{step_of}
use Rattle.drv_core.specs.declared.act.Act.{Act}
use Rattle.drv_core.specs.declared.act.Act.TheVariants.{Nothing, Issued, Collected, Failed, Step as Stepped}
use Rattle.drv_recover.specs.Ends.{EventEnds as HostEnds}
use Rattle.drv_recover.specs.declared.recovery.Step.{Step}
use Rattle.drv_recover.specs.declared.recovery.Step.TheVariants.{Moved as StepMoved, Discard, Again, Over, Dark as StepDark}
use Rattle.host_falls.specs.HostFalls.{HostIsLit}
use Rattle.power_laws.specs.Power.{CardEvent, card_lines, is_lost, phase_cut}
use Rattle.world_state.specs.Engine.{EngineEvent, broken_phase, engine_lines, id_at, is_dark, phase_line_of}
use Rattle.world_state.specs.Host.{HostEvent, host_lines}
use Rattle.world_state.specs.Path.{PathState, behind_path}
use Rattle.cause_laws.specs.Causes.{AreExplained, Explains}
use Rattle.cause_laws.proofs.Counts.{cut_lines, cuts_both, flashes, flashes_both}
use Rattle.cause_laws.proofs.Flushing.{fault_explained, lost_explained, plain_explained}
use Rattle.cause_laws.proofs.Plain.{IsPlain, plain_both, plain_broken, plain_command, plain_host, plain_none, plain_one, plain_phase}

abbrev Ends : (p : PathState) (a : ArrayState) (p' : PathState) (a' : ArrayState) → Did → Type 0
Ends p a p' a' did = EventEnds (link_state (behind_path p a)) (link_state (behind_path p' a')) (stop_of did)

-- the card's response stops the engine
one_flash : (id : Option ℕ) → flashes (FlashLine id ∷ []) ≡ 1
one_flash id = refl

no_cut : (id : Option ℕ) → cut_lines (FlashLine id ∷ []) ≡ 0
no_cut id = refl

response_explained : (a a' : ArrayState) (phase : List Item) (address : Item) (id : Option ℕ) (tells : Bool) → IsPlain phase → IsPlain (address ∷ [])
    → a.powered ≡ true → a'.powered ≡ a.powered → Later a.faults a'.faults → Later a.cuts a'.cuts → (tells ≡ true → Rose a.faults a'.faults)
    → Explains false a a' (cond tells (phase ++ FlashLine id ∷ []) (address ∷ []))
response_explained a a' phase address id true plain one on same faults cuts rose =
    let f = plain.flash in
    let c = plain.cuts in
    let g = flashes_both phase (FlashLine id ∷ []) in
    let k = cuts_both phase (FlashLine id ∷ []) in
    let here = one_flash id in
    let none = no_cut id in
    fault_explained a a' (phase ++ FlashLine id ∷ []) (same ∙ on) faults cuts (rose refl) (omega (arith, f, g, here)) (omega (arith, c, k, none))
response_explained a a' phase address id false plain one on same faults cuts rose = plain_explained a a' (address ∷ []) on same faults cuts one

engine_by : (p : PathState) (a : ArrayState) (p' : PathState) (a' : ArrayState) (phase : Option Phase) (did : Did) → Ends p a p' a' did → a.powered ≡ true
    → Explains (is_dark did) a a' (engine_lines p p' did phase)
engine_by p a p' a' phase Idle e on = plain_explained a a' [] on e.cause e.flash e.cuts plain_none
engine_by p a p' a' phase (Sent command) e on = plain_explained a a' _ on e.cause e.flash e.cuts (plain_command p p' command)
engine_by p a p' a' phase (Direct slot) e on = plain_explained a a' _ on e.cause e.flash e.cuts (plain_phase p p' phase)
engine_by p a p' a' phase (Moved slot) e on = plain_explained a a' [] on e.cause e.flash e.cuts plain_none
engine_by p a p' a' phase (Finished slot) e on = plain_explained a a' _ on e.cause e.flash e.cuts (plain_phase p p' phase)
engine_by p a p' a' phase (Dropped slot why) e on = plain_explained a a' [] on e.cause e.flash e.cuts plain_none
engine_by p a p' a' phase (Stopped (BusFault kind None)) e on = plain_explained a a' _ on e.cause.1 e.flash e.cuts (plain_one _ refl refl)
engine_by p a p' a' phase (Stopped (BusFault kind (Some tag))) e on =
    plain_explained a a' _ on e.cause.1 e.flash e.cuts
    (plain_both (broken_phase p p' tag phase) (BusLine p'.script.sent kind (Some (id_at p tag)) ∷ []) (plain_broken p p' tag phase) (plain_one _ refl refl))
engine_by p a p' a' phase (Stopped (Response word tag)) e on =
    response_explained a a' (phase_line_of p p' phase) (AddressLine p'.script.sent (id_at p tag)) (Some (id_at p tag)) (tells_flash word) (plain_phase p p' phase)
    (plain_one _ refl refl) on e.cause.1 e.flash e.cuts e.cause.0
engine_by p a p' a' phase (Stopped Dark) e on = lost_explained a a' _ on e.flash e.cuts e.cause.0 (plain_phase p p' phase)

-- power stays in an event of the host
step_lit : (old new : LinkState) (step : Step) → HostEnds old new step → step ≢ StepDark → new.powered ≡ old.powered
step_lit old new StepMoved e lit = e.cause
step_lit old new Discard e lit = e.cause
step_lit old new (Again kind) e lit = e.cause.1
step_lit old new Over e lit = e.cause
step_lit old new StepDark e lit = absurd (lit refl)

not_dark : (act : Act) → act ≢ Stepped StepDark → step_of act ≢ StepDark
not_dark Nothing lit is = absurd (cc is)
not_dark (Issued id tag) lit is = absurd (cc is)
not_dark (Collected mask) lit is = absurd (cc is)
not_dark (Failed id why) lit is = absurd (cc is)
not_dark (Stepped step) lit is = lit (ap Stepped is)

host_explained : HostIsLit → (p : PathState) (a : ArrayState) (p' : PathState) (a' : ArrayState) (act : Act) → HostEvent p a p' a' act → a.powered ≡ true
    → Explains false a a' (host_lines p p' act)
host_explained lit p a p' a' act e on =
    plain_explained a a' (host_lines p p' act) on
    (step_lit (link_state (behind_path p a)) (link_state (behind_path p' a')) (step_of act) e.ends (not_dark act (lit p a p' a' act e))) e.ends.flash e.ends.cuts
    (plain_host p p' act)

-- the card's
one_fault : flashes (FlashLine None ∷ []) ≤ 1
one_fault = let one = one_flash None in omega (arith, one)

card_explained : (p : PathState) (a : ArrayState) (p' : PathState) (a' : ArrayState) (result : Result (Unit {0}) StageEnd) → CardEvent p a p' a' result
    → a.powered ≡ true → Explains (is_lost result) a a' (card_lines p result)
card_explained p a p' a' (Ok u) e on = plain_explained a a' [] on e.ends.ok e.ends.faults e.ends.cuts plain_none
card_explained p a p' a' (Err Empty) e on =
    plain_explained a a' [] on (ap (λ (a : ArrayState). a.powered) (e.none refl)) e.ends.faults e.ends.cuts plain_none
card_explained p a p' a' (Err Flash) e on =
    fault_explained a a' (FlashLine None ∷ []) (e.ends.flash refl).2 e.ends.faults e.ends.cuts (e.ends.flash refl).0 one_fault (no_cut None)
card_explained p a p' a' (Err PowerLost) e on =
    lost_explained a a' (phase_cut p) on e.ends.faults e.ends.cuts (e.ends.lost refl).0 (plain_phase p p p.card.begun)

pub events_explained : HostIsLit → AreExplained
events_explained lit = record {
  engine = λ p a p' a' did phase e on. engine_by p a p' a' phase did e.ends on;
  host = host_explained lit;
  card = card_explained;
}
