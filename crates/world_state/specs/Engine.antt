-- An event of the engine on the path, and the lines that it has.
use Rattle.std.specs.Prelude.{◌≡◌, ◌↔◌, ◌⊎◌, ℕ, zero, suc, ◌+◌, ◌^◌, ◌==◌, ◌||◌, Bool, true, false, if◌then◌else◌, List, [], ◌∷◌, ◌++◌, Option, None, Some, unwrap_or}
use Rattle.storage_model.specs.declared.faults.BusKind.{BusKind}
use Rattle.storage_model.specs.declared.trace.Item.{Item}
use Rattle.storage_model.specs.declared.trace.Item.TheVariants.{Params as ParamsLine, Address as AddressLine, Poll as PollLine, Phase as PhaseLine, Bus as BusLine, Flash as FlashLine}
use Rattle.array_edge.specs.Array.{ArrayState}
use Rattle.bus_link.specs.Link.{tells_flash}
use Rattle.bus_link.specs.declared.link.Cause.{Cause}
use Rattle.bus_link.specs.declared.link.Cause.TheVariants.{Bus as BusFault, Response, Dark}
use Rattle.card_core.specs.declared.phase.Phase.{Phase}
use Rattle.card_core.specs.declared.phase.TheConstants.{DIRECT_TASK}
use Rattle.card_core.specs.Card.{CardState}
use Rattle.card_link.specs.Behind.{Fits, behind, link_state}
use Rattle.card_link.specs.Made.{CardMade}
use Rattle.card_store.specs.Store.{IsStore}
use Rattle.cmd_words.specs.declared.command.Command.{Command}
use Rattle.cmd_words.specs.declared.command.Command.TheVariants.{Params, Address, Status}
use Rattle.cq_engine.specs.Ends.{EventEnds}
use Rattle.cq_engine.specs.Event.{Event}
use Rattle.cq_engine.specs.Holds.{AreCounted, Holds, LieIn}
use Rattle.cq_engine.specs.Outcome.{stop_of}
use Rattle.cq_engine.specs.Standings.{MovesBy, OneOpen, completed_by, set_up_of}
use Rattle.cq_engine.specs.declared.did.Did.{Did}
use Rattle.cq_engine.specs.declared.did.Did.TheVariants.{Idle, Sent, Direct, Moved, Finished, Dropped, Stopped}
use Rattle.cq_regs.specs.Slots.{IsRing, progress_of}
use Rattle.cq_regs.specs.declared.slots.Progress.TheVariants.{Named, Ready}
use Rattle.cq_regs.specs.declared.slots.Ringed.{Ringed}
use Rattle.cq_schedule.specs.Held.{same}
use Rattle.cq_schedule.specs.Meaning.{rests}
use Rattle.cq_schedule.specs.Order.{first_at}
use Rattle.piece_data.specs.Laws.{HasSameSpace}
use Rattle.world_state.specs.Path.{PathState, behind_path, holder, is_busy}

-- the card, and the phase that it tells of once none is under way
abbrev pub phase_left : CardState → (busy : Bool) → CardState
phase_left card busy = if busy then card else record card { begun = None }

abbrev pub phase_taken : CardState → (busy : Bool) → Option Phase
phase_taken card busy = if busy then None else card.begun

-- an event of the engine over the card, and the phase that was taken from the card after it
pub record EngineEvent (p : PathState) (a : ArrayState) (p' : PathState) (a' : ArrayState) (did : Did) (phase : Option Phase) : Type 0 where
  pub card : CardState
  pub event : Event CardMade (behind_path p a) (behind card a' p'.script) p.engine p'.engine p.regs p'.regs p.memory p'.memory did
  pub driver : p'.driver ≡ p.driver
  pub left : p'.card ≡ phase_left card (is_busy p')
  pub taken : phase ≡ phase_taken card (is_busy p')
  pub fits : Fits (behind_path p' a')
  pub holds : Holds p'.engine p'.regs
  pub lie : LieIn p'.memory p'.engine.held
  pub ends : EventEnds (link_state (behind_path p a)) (link_state (behind_path p' a')) (stop_of did)
  pub space : HasSameSpace p.memory p'.memory
  pub idle : (did ≡ Idle) ↔ ((rests p.regs ≡ true) ⊎ (p.regs.ring ≡ []))
  pub ring : IsRing p'.regs.ring
  pub slots : MovesBy did p.regs p'.regs
  pub done : p'.regs.completed ≡ completed_by did p.regs.completed
  pub set_up : set_up_of p'.regs ≡ set_up_of p.regs
  pub counts : AreCounted p.engine.held → AreCounted p'.engine.held
  pub one : OneOpen p.regs.ring → OneOpen p'.regs.ring
  pub store : IsStore p'.card.store

-- the slots below n that are ready, as a word
abbrev pub ready_below : List Ringed → ℕ → ℕ
ready_below ring zero = 0
ready_below ring (suc slot) = ready_below ring slot + (if same (progress_of ring slot) Ready then 2 ^ slot else 0)

-- the slots that are ready, as a queue status word
unfoldable pub ready_mask : List Ringed → ℕ
ready_mask ring = ready_below ring 32

-- the request of a tag, which an event of the engine leaves as it was
abbrev pub id_at : PathState → ℕ → ℕ
id_at p tag = unwrap_or (holder p tag) 0

abbrev pub id_named : PathState → Option ℕ → ℕ
id_named p None = 0
id_named p (Some tag) = id_at p tag

-- the line of a phase that ended
abbrev pub phase_line_of : (p p' : PathState) → Option Phase → List Item
phase_line_of p p' None = []
phase_line_of p p' (Some phase) = PhaseLine p'.script.sent (id_at p phase.task) phase.count phase.kept ∷ []

-- the line of a command that was answered
abbrev pub command_lines : (p p' : PathState) → Command → List Item
command_lines p p' (Params task) = ParamsLine p'.script.sent (id_at p task.task) ∷ []
command_lines p p' (Address start) = AddressLine p'.script.sent (id_named p (first_at Named p.regs.ring)) ∷ []
command_lines p p' (Status true rca) = PollLine p'.script.sent (ready_mask p'.regs.ring) ∷ []
command_lines p p' command = []

-- where a command gets no response, its phase has no line, but for that of a direct command
abbrev pub shows_phase : PathState → ℕ → Bool
shows_phase p tag = is_busy p || (tag == DIRECT_TASK)

abbrev pub broken_phase : (p p' : PathState) → ℕ → Option Phase → List Item
broken_phase p p' tag phase = if shows_phase p tag then phase_line_of p p' phase else []

-- the lines of a stop: by the bus, by the card's response, or with the loss of power, whose own lines follow
abbrev pub stop_lines : (p p' : PathState) → Option Phase → Cause → List Item
stop_lines p p' phase (BusFault kind None) = BusLine p'.script.sent kind None ∷ []
stop_lines p p' phase (BusFault kind (Some tag)) = broken_phase p p' tag phase ++ BusLine p'.script.sent kind (Some (id_at p tag)) ∷ []
stop_lines p p' phase (Response word tag) =
    if tells_flash word then phase_line_of p p' phase ++ FlashLine (Some (id_at p tag)) ∷ [] else AddressLine p'.script.sent (id_at p tag) ∷ []
stop_lines p p' phase Dark = phase_line_of p p' phase

-- the lines of an event, by what it did
abbrev pub engine_lines : (p p' : PathState) → Did → Option Phase → List Item
engine_lines p p' Idle phase = []
engine_lines p p' (Sent command) phase = command_lines p p' command
engine_lines p p' (Direct slot) phase = phase_line_of p p' phase
engine_lines p p' (Moved slot) phase = []
engine_lines p p' (Finished slot) phase = phase_line_of p p' phase
engine_lines p p' (Dropped slot why) phase = []
engine_lines p p' (Stopped cause) phase = stop_lines p p' phase cause

-- power was lost in it
abbrev pub is_dark : Did → Bool
is_dark (Stopped Dark) = true
is_dark did = false
