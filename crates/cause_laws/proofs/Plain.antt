-- Lines of an event among which none is of a fault of the flash or a cut.
use Rattle.std.proofs.Common.{◌≡◌, ◌+◌, ℕ, true, false, refl, sym, ◌∙◌, ap, arith, Bool, List, [], ◌∷◌, ◌++◌, map, flat_map, cond}
use Rattle.std.specs.Prelude.{◌==◌, ◌||◌, Option, None, Some, is_some}
use Rattle.storage_model.specs.declared.block.Block.{Block}
use Rattle.storage_model.specs.declared.plan.Job.{Job}
use Rattle.storage_model.specs.declared.plan.Job.TheVariants.{Read as ReadJob, Write as WriteJob, Flush as FlushJob, Barrier as BarrierJob, Status as StatusJob}
use Rattle.storage_model.specs.declared.trace.Item.{Item}
use Rattle.storage_model.specs.declared.trace.Item.TheVariants.{Irq, Read, Recover, Sector, Bus as BusLine}
use Rattle.card_core.specs.declared.phase.Phase.{Phase}
use Rattle.cmd_words.specs.declared.command.Command.{Command}
use Rattle.cmd_words.specs.declared.command.Command.TheVariants.{Switch, Status, Params, Address, Execute, Manage, Other}
use Rattle.cq_regs.specs.Slots.{has_bit}
use Rattle.cq_schedule.specs.Held.{slots}
use Rattle.drv_core.specs.declared.act.Act.{Act}
use Rattle.drv_core.specs.declared.act.Act.TheVariants.{Nothing, Issued, Collected, Failed, Step as Stepped}
use Rattle.drv_core.specs.declared.act.Stop.{Stop}
use Rattle.drv_core.specs.declared.act.Stop.TheVariants.{Retry, Bus, Flash, Range}
use Rattle.drv_recover.specs.declared.recovery.Step.{Step}
use Rattle.drv_recover.specs.declared.recovery.Step.TheVariants.{Moved, Discard, Again, Over, Dark}
use Rattle.trace_print.specs.Prints.{is_cut_line, is_flash}
use Rattle.world_state.specs.Engine.{broken_phase, command_lines, phase_line_of, shows_phase}
use Rattle.world_state.specs.Host.{answer_at, answer_of_holder, answer_of_job, fault_lines, host_lines, step_lines}
use Rattle.world_state.specs.Path.{PathState, holder, job}
use Rattle.world_state.specs.Reading.{blocks_held}
use Rattle.cause_laws.proofs.Counts.{cut_lines, cuts_both, cuts_on, flashes, flashes_both, flashes_on}

pub record IsPlain (items : List Item) : Type 0 where
  pub flash : flashes items ≡ 0
  pub cuts : cut_lines items ≡ 0

pub plain_none : IsPlain []
plain_none = record { flash = refl; cuts = refl }

pub plain_both : (xs ys : List Item) → IsPlain xs → IsPlain ys → IsPlain (xs ++ ys)
plain_both xs ys one two =
    let f = flashes_both xs ys in
    let c = cuts_both xs ys in
    let low = one.flash in
    let high = two.flash in
    let few = one.cuts in
    let more = two.cuts in
    record { flash = omega (arith, f, low, high); cuts = omega (arith, c, few, more) }

pub plain_on : (x : Item) (xs : List Item) → is_flash x ≡ false → is_cut_line x ≡ false → IsPlain xs → IsPlain (x ∷ xs)
plain_on x xs f c rest = record {
  flash = flashes_on x xs ∙ ap (λ b. cond b 1 0 + flashes xs) f ∙ (let none = rest.flash in omega (arith, none));
  cuts = cuts_on x xs ∙ ap (λ b. cond b 1 0 + cut_lines xs) c ∙ (let none = rest.cuts in omega (arith, none));
}

pub plain_one : (x : Item) → is_flash x ≡ false → is_cut_line x ≡ false → IsPlain (x ∷ [])
plain_one x f c = plain_on x [] f c plain_none

pub plain_if : (b : Bool) (xs ys : List Item) → IsPlain xs → IsPlain ys → IsPlain (cond b xs ys)
plain_if true xs ys one two = one
plain_if false xs ys one two = two

plain_flat : (f : ℕ → List Item) → ((n : ℕ) → IsPlain (f n)) → (xs : List ℕ) → IsPlain (flat_map f xs)
plain_flat f each [] = plain_none
plain_flat f each (x ∷ xs) = plain_both (f x) (flat_map f xs) (each x) (plain_flat f each xs)

-- the engine's
pub plain_phase : (p p' : PathState) (phase : Option Phase) → IsPlain (phase_line_of p p' phase)
plain_phase p p' None = plain_none
plain_phase p p' (Some phase) = plain_one _ refl refl

pub plain_broken : (p p' : PathState) (tag : ℕ) (phase : Option Phase) → IsPlain (broken_phase p p' tag phase)
plain_broken p p' tag phase = plain_if (shows_phase p tag) (phase_line_of p p' phase) [] (plain_phase p p' phase) plain_none

pub plain_command : (p p' : PathState) (command : Command) → IsPlain (command_lines p p' command)
plain_command p p' (Switch arg) = plain_none
plain_command p p' (Status true rca) = plain_one _ refl refl
plain_command p p' (Status false rca) = plain_none
plain_command p p' (Params task) = plain_one _ refl refl
plain_command p p' (Address start) = plain_one _ refl refl
plain_command p p' (Execute read task) = plain_none
plain_command p p' (Manage whole task) = plain_none
plain_command p p' (Other index arg) = plain_none

-- the host's
plain_sectors : (blocks : List Block) → IsPlain (map Sector blocks)
plain_sectors [] = plain_none
plain_sectors (x ∷ xs) = plain_on (Sector x) (map Sector xs) refl refl (plain_sectors xs)

plain_answer : (p : PathState) (tag id : ℕ) (job : Job) → IsPlain (answer_of_job p tag id job)
plain_answer p tag id (ReadJob sector blocks high) =
    plain_on (Read id) (map Sector (blocks_held p tag (ReadJob sector blocks high))) refl refl (plain_sectors (blocks_held p tag (ReadJob sector blocks high)))
plain_answer p tag id (WriteJob sector blocks fill forced reliable high) = plain_one _ refl refl
plain_answer p tag id FlushJob = plain_one _ refl refl
plain_answer p tag id BarrierJob = plain_one _ refl refl
plain_answer p tag id StatusJob = plain_one _ refl refl

plain_holder : (p : PathState) (tag : ℕ) (holder : Option ℕ) → IsPlain (answer_of_holder p tag holder)
plain_holder p tag None = plain_none
plain_holder p tag (Some id) = plain_answer p tag id (job p id)

plain_at : (p : PathState) (mask tag : ℕ) → IsPlain (answer_at p mask tag)
plain_at p mask tag = plain_if (has_bit mask tag) (answer_of_holder p tag (holder p tag)) [] (plain_holder p tag (holder p tag)) plain_none

plain_fault : (id : Option ℕ) (why : Stop) → IsPlain (fault_lines id why)
plain_fault None why = plain_none
plain_fault (Some id) Retry = plain_none
plain_fault (Some id) Bus = plain_one _ refl refl
plain_fault (Some id) Flash = plain_one _ refl refl
plain_fault (Some id) Range = plain_one _ refl refl

plain_step : (n : ℕ) (step : Step) → IsPlain (step_lines n step)
plain_step n Moved = plain_none
plain_step n Discard = plain_one _ refl refl
plain_step n (Again kind) = plain_one _ refl refl
plain_step n Dark = plain_none
plain_step n Over = plain_none

pub plain_host : (p p' : PathState) (act : Act) → IsPlain (host_lines p p' act)
plain_host p p' Nothing = plain_none
plain_host p p' (Issued id tag) = plain_one _ refl refl
plain_host p p' (Collected mask) =
    plain_on (Irq mask) (flat_map (answer_at p mask) slots) refl refl (plain_flat (answer_at p mask) (plain_at p mask) slots)
plain_host p p' (Failed id why) = plain_both (fault_lines id why) (Recover ∷ []) (plain_fault id why) (plain_one Recover refl refl)
plain_host p p' (Stepped step) = plain_step p'.script.sent step
