-- Lines that tell no value that is left, no cut and no fault of the flash.
use Rattle.std.proofs.Common.{◌≡◌, ℕ, ◌++◌, Bool, true, false, if◌then◌else◌, List, [], ◌∷◌, All, map, flat_map, Ok, Err, Option, Some, None, Result, inl, refl, arith}
use Rattle.std.proofs.lemmas.List.Elements.{All-cons, All-nil}
use Rattle.storage_model.specs.Count.{Count, Later}
use Rattle.storage_model.specs.declared.block.Block.{Block}
use Rattle.storage_model.specs.declared.plan.Job.{Job}
use Rattle.storage_model.specs.declared.plan.Job.TheVariants.{Read, Write, Flush, Barrier, Status}
use Rattle.storage_model.specs.declared.trace.Item.{Item}
use Rattle.storage_model.specs.declared.trace.Item.TheVariants as line
use Rattle.array_edge.specs.Array.{ArrayState}
use Rattle.bus_link.specs.Link.{tells_flash}
use Rattle.bus_link.specs.declared.link.Cause.{Cause}
use Rattle.bus_link.specs.declared.link.Cause.TheVariants.{Bus as BusFault, Response, Dark}
use Rattle.card_core.specs.declared.phase.Phase.{Phase}
use Rattle.cmd_words.specs.declared.command.Command.{Command}
use Rattle.cmd_words.specs.declared.command.Command.TheVariants as command
use Rattle.card_store.specs.declared.ends.StageEnd.{StageEnd}
use Rattle.card_store.specs.declared.ends.StageEnd.TheVariants.{Empty, Flash as StageFlash, PowerLost}
use Rattle.cq_engine.specs.declared.did.Did.{Did}
use Rattle.cq_engine.specs.declared.did.Did.TheVariants.{Idle, Sent, Direct, Moved, Finished, Dropped, Stopped}
use Rattle.cq_schedule.specs.Held.{slots}
use Rattle.cq_regs.specs.Slots.{has_bit}
use Rattle.drv_core.specs.declared.act.Act.{Act}
use Rattle.drv_core.specs.declared.act.Act.TheVariants.{Nothing, Issued, Collected, Failed, Step as Stepped}
use Rattle.drv_core.specs.declared.act.Stop.{Stop}
use Rattle.drv_core.specs.declared.act.Stop.TheVariants.{Retry, Bus, Flash as FlashStop, Range}
use Rattle.drv_recover.specs.declared.recovery.Step.{Step}
use Rattle.drv_recover.specs.declared.recovery.Step.TheVariants as step
use Rattle.join_laws.specs.Joins.{tells_left}
use Rattle.power_laws.specs.Power.{card_lines, phase_cut}
use Rattle.trace_print.specs.Prints.{HasCauses}
use Rattle.world_state.specs.Engine.{broken_phase, command_lines, engine_lines, id_at, phase_line_of, shows_phase, stop_lines}
use Rattle.world_state.specs.Host.{answer_at, answer_of_holder, answer_of_job, fault_lines, host_lines, step_lines}
use Rattle.world_state.specs.Path.{PathState, holder, job}
use Rattle.world_state.specs.Reading.{blocks_held}

-- no line tells what is left
abbrev pub ArePlain : List Item → Type 0
ArePlain [] = Unit {0}
ArePlain (item ∷ items) = (tells_left item ≡ false) × ArePlain items

pub plain_all : (items : List Item) → ArePlain items → All (λ item. tells_left item ≡ false) items
plain_all [] plain = All-nil (λ item. tells_left item ≡ false)
plain_all (item ∷ items) plain = All-cons (λ item. tells_left item ≡ false) item items plain.0 (plain_all items plain.1)

both : (first more : List Item) → ArePlain first → ArePlain more → ArePlain (first ++ more)
both [] more none plain = plain
both (item ∷ first) more plain rest = (plain.0, both first more plain.1 rest)

-- those of the engine
phase_plain : (p p' : PathState) (phase : Option Phase) → ArePlain (phase_line_of p p' phase)
phase_plain p p' None = tt
phase_plain p p' (Some phase) = (refl, tt)

command_plain : (p p' : PathState) (c : Command) → ArePlain (command_lines p p' c)
command_plain p p' (command.Params task) = (refl, tt)
command_plain p p' (command.Address start) = (refl, tt)
command_plain p p' (command.Status true rca) = (refl, tt)
command_plain p p' (command.Status false rca) = tt
command_plain p p' c = tt

flag_plain : (flag : Bool) (xs ys : List Item) → ArePlain xs → ArePlain ys → ArePlain (if flag then xs else ys)
flag_plain true xs ys first second = first
flag_plain false xs ys first second = second

stop_plain : (p p' : PathState) (phase : Option Phase) (cause : Cause) → ArePlain (stop_lines p p' phase cause)
stop_plain p p' phase (BusFault kind None) = (refl, tt)
stop_plain p p' phase (BusFault kind (Some tag)) =
    both (broken_phase p p' tag phase) _ (flag_plain (shows_phase p tag) (phase_line_of p p' phase) [] (phase_plain p p' phase) tt) (refl, tt)
stop_plain p p' phase (Response word tag) =
    flag_plain (tells_flash word) (phase_line_of p p' phase ++ line.Flash (Some (id_at p tag)) ∷ []) (line.Address p'.script.sent (id_at p tag) ∷ [])
    (both (phase_line_of p p' phase) _ (phase_plain p p' phase) (refl, tt)) (refl, tt)
stop_plain p p' phase Dark = phase_plain p p' phase

pub engine_plain : (p p' : PathState) (did : Did) (phase : Option Phase) → ArePlain (engine_lines p p' did phase)
engine_plain p p' Idle phase = tt
engine_plain p p' (Sent c) phase = command_plain p p' c
engine_plain p p' (Direct slot) phase = phase_plain p p' phase
engine_plain p p' (Moved slot) phase = tt
engine_plain p p' (Finished slot) phase = phase_plain p p' phase
engine_plain p p' (Dropped slot why) phase = tt
engine_plain p p' (Stopped cause) phase = stop_plain p p' phase cause

-- those of the host
sectors_plain : (blocks : List Block) → ArePlain (map line.Sector blocks)
sectors_plain [] = tt
sectors_plain (block ∷ blocks) = (refl, sectors_plain blocks)

job_plain : (p : PathState) (tag id : ℕ) (j : Job) → ArePlain (answer_of_job p tag id j)
job_plain p tag id (Read sector count high) = (refl, sectors_plain (blocks_held p tag (Read sector count high)))
job_plain p tag id (Write sector count fill forced reliable high) = (refl, tt)
job_plain p tag id Flush = (refl, tt)
job_plain p tag id Barrier = (refl, tt)
job_plain p tag id Status = (refl, tt)

holder_plain : (p : PathState) (tag : ℕ) (id : Option ℕ) → ArePlain (answer_of_holder p tag id)
holder_plain p tag None = tt
holder_plain p tag (Some id) = job_plain p tag id (job p id)

answer_plain : (p : PathState) (mask tag : ℕ) → ArePlain (answer_at p mask tag)
answer_plain p mask tag = flag_plain (has_bit mask tag) (answer_of_holder p tag (holder p tag)) [] (holder_plain p tag (holder p tag)) tt

answers_plain : (p : PathState) (mask : ℕ) (tags : List ℕ) → ArePlain (flat_map (answer_at p mask) tags)
answers_plain p mask [] = tt
answers_plain p mask (tag ∷ tags) = both (answer_at p mask tag) (flat_map (answer_at p mask) tags) (answer_plain p mask tag) (answers_plain p mask tags)

fault_plain : (id : Option ℕ) (why : Stop) → ArePlain (fault_lines id why)
fault_plain None why = tt
fault_plain (Some id) Retry = tt
fault_plain (Some id) Bus = (refl, tt)
fault_plain (Some id) FlashStop = (refl, tt)
fault_plain (Some id) Range = (refl, tt)

step_plain : (n : ℕ) (s : Step) → ArePlain (step_lines n s)
step_plain n step.Discard = (refl, tt)
step_plain n (step.Again kind) = (refl, tt)
step_plain n step.Moved = tt
step_plain n step.Over = tt
step_plain n step.Dark = tt

pub host_plain : (p p' : PathState) (act : Act) → ArePlain (host_lines p p' act)
host_plain p p' Nothing = tt
host_plain p p' (Issued id tag) = (refl, tt)
host_plain p p' (Collected mask) = (refl, answers_plain p mask slots)
host_plain p p' (Failed id why) = both (fault_lines id why) _ (fault_plain id why) (refl, tt)
host_plain p p' (Stepped s) = step_plain p'.script.sent s

-- those of the card, and of power
pub cut_plain : (p : PathState) → ArePlain (phase_cut p)
cut_plain p = phase_plain p p p.card.begun

pub card_plain : (p : PathState) (result : Result (Unit {0}) StageEnd) → ArePlain (card_lines p result)
card_plain p (Ok done) = tt
card_plain p (Err Empty) = tt
card_plain p (Err StageFlash) = (refl, tt)
card_plain p (Err PowerLost) = cut_plain p

-- a phase's line needs no cause
later_same : (count : Count) → Later count count
later_same count = record { value = omega arith; stands = λ s. s }

phase_caused : (a : ArrayState) (p p' : PathState) (phase : Option Phase) → HasCauses 0 a a (phase_line_of p p' phase) (Ok tt)
phase_caused a p p' None = record { later_faults = later_same a.faults; later_cuts = later_same a.cuts; flash = inl (omega arith); cuts = inl (omega arith) }
phase_caused a p p' (Some phase) = record { later_faults = later_same a.faults; later_cuts = later_same a.cuts; flash = inl (omega arith); cuts = inl (omega arith) }

pub cut_caused : (a : ArrayState) (p : PathState) → HasCauses 0 a a (phase_cut p) (Ok tt)
cut_caused a p = phase_caused a p p p.card.begun
