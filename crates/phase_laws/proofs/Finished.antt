-- A phase's line whose request is done with it.
use Rattle.std.proofs.Common.{◌≡◌, ◌&&◌, ℕ, sym, ◌∙◌, ap, refl}
use Rattle.std.specs.Prelude.{Bool, true, false, Option, None, is_none, [], ◌∷◌}
use Rattle.storage_machine.specs.Commands.{due, hit}
use Rattle.storage_machine.specs.Jobs.{job_of}
use Rattle.storage_machine.specs.declared.state.Event.TheVariants.{Untold}
use Rattle.storage_machine.specs.declared.state.Owed.{Owed}
use Rattle.storage_machine.specs.declared.state.Owed.TheVariants.{Closed, Nothing}
use Rattle.storage_machine.specs.declared.state.State.{State}
use Rattle.storage_model.specs.declared.faults.BusKind.{BusKind}
use Rattle.storage_model.specs.declared.faults.Letter.TheVariants.{Engine as EngineActs}
use Rattle.storage_model.specs.declared.plan.Job.{Job}
use Rattle.storage_model.specs.declared.trace.Item.TheVariants.{Phase as PhaseLine}
use Rattle.storage_order.specs.Events.{Happens, is_untold}
use Rattle.trace_effects.specs.Effects.{begun, effect}
use Rattle.trace_effects.specs.Phases.{after_done, closed_by, done_with, read_sectors, sectors_now}
use Rattle.trace_rules.specs.Lines.{is_free}
use Rattle.trace_rules.specs.Phases.{is_whole, owed_by, phase_holds, tag_due}
use Rattle.phase_laws.proofs.Phased.{blocks_state, phase_begins, phase_effect, told, with_blocks}

-- the state with the phase's request done, and what is owed
abbrev pub done_owing : State → Job → ℕ → ℕ → ℕ → Bool → ℕ → Owed → State
done_owing s job slot id count kept n owed =
    record (after_done (with_blocks s job count kept) slot id job (read_sectors s job)) { n = n; busy = false; spent = 0; owed = owed; event = Untold }

pub done_effect : (s : State) (slot id count n : ℕ) (kept : Bool) (job : Job) → tag_due (due s) ≡ slot → hit s ≡ None → job_of s.plan.jobs id ≡ job
    → is_whole s.plan.through job count kept ≡ true
    → effect (told s) (PhaseLine n id count kept) ≡ done_owing s job slot id count kept n Closed
unfolding after_done sectors_now
done_effect s slot id count n kept job tag is j whole =
    let none : Option BusKind = None in
    phase_effect s slot id count n kept none job tag is j
    ∙ ap (λ x. closed_by (done_with x slot id job (read_sectors (told s) job) (is_whole s.plan.through job count kept && is_none none)) n
    (owed_by none (is_whole s.plan.through job count kept) n id count)) (blocks_state (told s) job count kept)
    ∙ ap (λ b. closed_by (done_with (with_blocks (told s) job count kept) slot id job (read_sectors (told s) job) (b && is_none none)) n
    (owed_by none b n id count)) whole

pub phase_done : (s : State) (job : Job) (slot count n id : ℕ) (kept : Bool) → is_free s.owed ≡ true → is_untold s.event ≡ true
    → phase_holds (told s) n id count kept ≡ true
    → effect (told s) (PhaseLine n id count kept) ≡ done_owing s job slot id count kept n Closed
    → Happens s EngineActs (PhaseLine n id count kept ∷ []) (done_owing s job slot id count kept n Nothing)
unfolding begun after_done
phase_done s job slot count n id kept free untold h is =
    let last : State = done_owing s job slot id count kept n Closed in
    record {
      free = free;
      untold = untold;
      makes = record { last = last; begins = phase_begins s last n id count kept [] h (sym is); over = refl; event = refl; state = refl };
    }
