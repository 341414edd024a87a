-- A recovery as a whole: from its first event to that which tells that it is over.
use Rattle.std.specs.Prelude.{◌≡◌, List, [], ◌∷◌, Bool, true, false}
use Rattle.bus_link.specs.Link.{Call}
use Rattle.cq_regs.specs.State.{Registers}
use Rattle.drv_recover.specs.declared.recovery.RecoveryState.{RecoveryState}
use Rattle.drv_recover.specs.declared.recovery.Step.{Step}
use Rattle.drv_recover.specs.declared.recovery.Step.TheVariants.{Discard, Over}
use Rattle.drv_recover.specs.Recovery.{Event}

-- link, recovery and registers at a moment
pub record Moment (L : Type 0) : Type 0 where
  pub link : L
  pub state : RecoveryState
  pub regs : Registers

-- an event that takes one moment to another
abbrev pub Goes : {L : Type 0} → (L → Call → L → Type 0) → (old new : Moment L) → Step → Type 0
Goes made old new step = Event made old.link new.link old.state new.state old.regs new.regs step

-- what comes between two events of a recovery: it rings no slot, sets no bit of the completion notification, does not stop
-- the engine, and does not write the control
pub record LeavesAlone {L : Type 0} (old new : Moment L) : Type 0 where
  pub state : new.state ≡ old.state
  pub control : new.regs.halted ≡ old.regs.halted
  pub ring : old.regs.ring ≡ [] → new.regs.ring ≡ []
  pub running : old.regs.stopped ≡ false → new.regs.stopped ≡ false
  pub completed : old.regs.completed ≡ 0 → new.regs.completed ≡ 0

-- an event, and what came after it
pub record Turns {L : Type 0} (made : L → Call → L → Type 0) (old new : Moment L) (step : Step) : Type 0 where
  pub left : Moment L
  pub goes : Goes made old left step
  pub alone : LeavesAlone left new

-- events that tell these steps, and then one that tells that the recovery is over
unfoldable pub Recovers : {L : Type 0} → (L → Call → L → Type 0) → (old new : Moment L) → List Step → Type 0
Recovers made old new [] = Goes made old new Over
Recovers {L} made old new (step ∷ steps) = (next : Moment L) × Turns made old next step × Recovers made next new steps

-- whether CMD48 was answered
abbrev pub is_discard : Step → Bool
is_discard Discard = true
is_discard _ = false
