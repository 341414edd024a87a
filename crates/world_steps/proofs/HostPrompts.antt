-- An event of the host leaves no phase under way, or the number of commands as it was.
use Rattle.std.proofs.Common.{◌≡◌, ◌⊎◌, ℕ, refl, sym, ◌∙◌, ap, inl, inr, Bool, true, false, []}
use Rattle.std.specs.Prelude.{cond, is_some, Option, Some, None}
use Rattle.std.proofs.lemmas.Bool.{false≢true}
use Rattle.array_edge.specs.Array.{ArrayState}
use Rattle.bus_link.specs.Script.{Script}
use Rattle.bus_link.specs.declared.link.Cause.{Cause}
use Rattle.card_link.specs.Behind.{Behind}
use Rattle.card_link.specs.Made.{CardMade}
use Rattle.cq_regs.specs.State.{Registers}
use Rattle.cq_regs.specs.declared.slots.Progress.TheVariants.{Active}
use Rattle.cq_regs.specs.declared.slots.Ringed.{Ringed}
use Rattle.cq_schedule.specs.Order.{first_at}
use Rattle.drv_core.specs.Event.{Does, Moment}
use Rattle.drv_core.specs.Work.{work_of}
use Rattle.drv_core.specs.declared.act.Act.{Act}
use Rattle.drv_core.specs.declared.work.Work.{Work}
use Rattle.drv_core.specs.declared.work.Work.TheVariants.{Recover, Collect, Fail, Issue}
use Rattle.drv_recover.specs.Recovery.{Does as Steps, IsAt, registers_after, state_after}
use Rattle.drv_recover.specs.declared.recovery.RecoveryState.{RecoveryState}
use Rattle.drv_recover.specs.declared.recovery.RecoveryState.TheVariants.{Calm, Halted, Cleared, Discarded, Cleaned, Resumed}
use Rattle.drv_recover.specs.declared.recovery.Step.{Step}
use Rattle.storage_model.specs.declared.faults.Letter.TheVariants.{Host as HostActs}
use Rattle.world_state.specs.Host.{HostEvent, cause_of, moment_of}
use Rattle.world_state.specs.Path.{PathState, is_busy, moved, under_way}
use Rattle.world_state.specs.Ties.{AreTied}
use Rattle.world_steps.specs.World.{IsPrompt, WorldState, chosen_of, is_to_do, order_behind}
use Rattle.world_steps.proofs.Prompts.{still_none}

-- where no slot is rung, no phase is under way
none_either : (stopped : Bool) → cond stopped None (first_at Active []) ≡ None
none_either true = refl
none_either false = refl

no_ring : (p : PathState) → p.regs.ring ≡ [] → is_busy p ≡ false
no_ring p e = ap (λ ring. is_some (cond p.regs.stopped None (first_at Active ring))) e ∙ ap is_some (none_either p.regs.stopped)

-- the step of a recovery in which CMD48 is sent leaves the cleared ring
abbrev Leaves : Moment Behind → Moment Behind → Type 0
Leaves old new = (new.regs.ring ≡ []) ⊎ (new.link.script.sent ≡ old.link.script.sent)

same_link : (old new : Moment Behind) → new.link ≡ old.link → Leaves old new
same_link old new e = inr (ap (λ (b : Behind). b.script.sent) e)

step_leaves : (old new : Moment Behind) (state : RecoveryState) (step : Step) → Steps CardMade old.link new.link state step
    → new.regs ≡ registers_after state old.regs → IsAt state old.regs → Leaves old new
step_leaves old new Cleared step d regs at = inl (ap (λ (r : Registers). r.ring) regs ∙ at.ring)
step_leaves old new Calm step d regs at = same_link old new d.link
step_leaves old new Halted step d regs at = same_link old new d.link
step_leaves old new Discarded step d regs at = same_link old new d.link
step_leaves old new Cleaned step d regs at = same_link old new d.link
step_leaves old new Resumed step d regs at = same_link old new d.link

host_leaves : (old new : Moment Behind) (cause : Option Cause) (act : Act) (work : Work) → IsAt old.driver.recovery old.regs
    → Does CardMade old new cause act work → Leaves old new
host_leaves old new cause act Recover at d = step_leaves old new old.driver.recovery d.step d.event.does d.event.registers at
host_leaves old new cause act Collect at d = same_link old new d.aside.link
host_leaves old new cause act Fail at d = same_link old new d.aside.link
host_leaves old new cause act Issue at d = same_link old new d.link

host_sent : (p : PathState) (a : ArrayState) (p' : PathState) (a' : ArrayState) (act : Act) → HostEvent p a p' a' act → AreTied p → is_busy p' ≡ true
    → p'.script.sent ≡ p.script.sent
host_sent p a p' a' act e t busy = elim (host_leaves (moment_of p a) (moment_of p' a') (cause_of p) act (work_of p.driver.recovery p.regs) t.recovery_at e.event) [
  | inl ring ↦ absurd (false≢true (sym (no_ring p' ring) ∙ busy))
  | inr same ↦ same
]

pub host_stays : (w : WorldState) → AreTied w.path → is_to_do w.path ≡ true → (a : ArrayState) (p' : PathState) (a' : ArrayState) (act : Act)
    → HostEvent w.path a p' a' act → HostActs ≡ chosen_of w → IsPrompt (record { path = p'; order = order_behind w HostActs })
host_stays w t some a p' a' act e is busy moved = still_none w HostActs p'.script.sent refl some is (host_sent w.path a p' a' act e t busy)
