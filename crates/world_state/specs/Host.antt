-- An event of the host driver on the path, and the lines that it has.
use Rattle.std.specs.Prelude.{◌≡◌, ℕ, ◌+◌, Bool, true, false, if◌then◌else◌, List, [], ◌∷◌, ◌++◌, Option, None, Some, flat_map, map}
use Rattle.std.specs.List.{range_with_len}
use Rattle.storage_model.specs.Plan.{blocks_of}
use Rattle.storage_model.specs.declared.plan.Job.{Job}
use Rattle.storage_model.specs.declared.plan.Job.TheVariants.{Read as ReadJob, Write as WriteJob, Flush as FlushJob, Barrier as BarrierJob, Status as StatusJob}
use Rattle.storage_model.specs.declared.trace.Item.{Item}
use Rattle.storage_model.specs.declared.trace.Item.TheVariants.{Issue, Irq, Done, Read, Sector, Status, Fault, Refused, Recover, Discard as DiscardLine, Bus as BusLine}
use Rattle.storage_model.specs.declared.trace.Limit.TheVariants.{Range as ByRange}
use Rattle.storage_model.specs.declared.trace.Why.TheVariants.{Bus as ByBus, Flash as ByFlash}
use Rattle.array_edge.specs.Array.{ArrayState}
use Rattle.bus_link.specs.declared.link.Cause.{Cause}
use Rattle.card_link.specs.Behind.{Behind, Fits, link_state}
use Rattle.card_link.specs.Made.{CardMade}
use Rattle.card_store.specs.Store.{IsStore}
use Rattle.cq_schedule.specs.Held.{slots}
use Rattle.drv_core.specs.Event.{Event, Moment, step_of}
use Rattle.drv_core.specs.declared.act.Act.{Act}
use Rattle.drv_core.specs.declared.act.Act.TheVariants.{Nothing, Issued, Collected, Failed, Step as Stepped}
use Rattle.drv_core.specs.declared.act.Stop.{Stop}
use Rattle.drv_core.specs.declared.act.Stop.TheVariants.{Retry, Bus, Flash, Range}
use Rattle.drv_jobs.specs.Sound.{IsSound}
use Rattle.drv_recover.specs.Ends.{EventEnds}
use Rattle.drv_recover.specs.Recovery.{IsAt, IsOver}
use Rattle.drv_recover.specs.declared.recovery.Step.{Step}
use Rattle.drv_recover.specs.declared.recovery.Step.TheVariants.{Moved, Discard, Again, Over, Dark}
use Rattle.drv_ring.specs.Layout.{HasLayout}
use Rattle.cq_regs.specs.Slots.{has_bit}
use Rattle.world_state.specs.Path.{PathState, behind_path, holder, job, layout, plan_of}
use Rattle.world_state.specs.Reading.{blocks_held}

-- why the engine stopped
abbrev pub cause_of : PathState → Option Cause
cause_of p = if p.regs.stopped then p.engine.cause else None

abbrev pub moment_of : PathState → ArrayState → Moment Behind
moment_of p a = record { driver = p.driver; regs = p.regs; memory = p.memory; link = behind_path p a }

-- an event of the driver over the card
pub record HostEvent (p : PathState) (a : ArrayState) (p' : PathState) (a' : ArrayState) (act : Act) : Type 0 where
  pub event : Event CardMade (moment_of p a) (moment_of p' a') (cause_of p) act
  pub engine : p'.engine ≡ p.engine
  pub fits : Fits (behind_path p' a')
  pub ends : EventEnds (link_state (behind_path p a)) (link_state (behind_path p' a')) (step_of act)
  pub plan : plan_of p' ≡ plan_of p
  pub sound : IsSound p'.driver.requests
  pub layout_fits : HasLayout p'.memory (layout p')
  pub at : IsAt p.driver.recovery p.regs → IsAt p'.driver.recovery p'.regs
  pub over : IsAt p.driver.recovery p.regs → act ≡ Stepped Over → IsOver p'.regs
  pub store : IsStore p'.card.store

-- the answer of a tag's request: of a read its sectors too, of a status the word that the card told
abbrev pub answer_of_job : PathState → (tag id : ℕ) → Job → List Item
answer_of_job p tag id (ReadJob sector blocks high) = Read id ∷ map Sector (blocks_held p tag (ReadJob sector blocks high))
answer_of_job p tag id StatusJob = Status id p.regs.direct_response ∷ []
answer_of_job p tag id other = Done id ∷ []

abbrev pub answer_of_holder : PathState → ℕ → Option ℕ → List Item
answer_of_holder p tag None = []
answer_of_holder p tag (Some id) = answer_of_job p tag id (job p id)

abbrev pub answer_at : PathState → (mask tag : ℕ) → List Item
answer_at p mask tag = if has_bit mask tag then answer_of_holder p tag (holder p tag) else []

-- the answers of the tags that are notified as complete, in order
abbrev pub collect_lines : PathState → ℕ → List Item
collect_lines p mask = Irq mask ∷ flat_map (answer_at p mask) slots

-- the answer of the request that a stop ends
abbrev pub fault_lines : Option ℕ → Stop → List Item
fault_lines None why = []
fault_lines (Some id) Retry = []
fault_lines (Some id) Bus = Fault id ByBus ∷ []
fault_lines (Some id) Flash = Fault id ByFlash ∷ []
fault_lines (Some id) Range = Refused id ByRange ∷ []

-- the line of a step of the recovery
abbrev pub step_lines : ℕ → Step → List Item
step_lines n Discard = DiscardLine n ∷ []
step_lines n (Again kind) = BusLine n kind None ∷ []
step_lines n step = []

-- the lines of an event, by what the driver did
abbrev pub host_lines : (p p' : PathState) → Act → List Item
host_lines p p' Nothing = []
host_lines p p' (Issued id tag) = Issue id tag ∷ []
host_lines p p' (Collected mask) = collect_lines p mask
host_lines p p' (Failed id why) = fault_lines id why ++ Recover ∷ []
host_lines p p' (Stepped step) = step_lines p'.script.sent step
