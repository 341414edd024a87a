-- What a write of a register leaves of the tasks that are under way (host interface annex of JESD84-B51).
use Rattle.std.specs.Prelude.{◌≡◌, ℕ, true, List}
use Rattle.std.specs.List.{All}
use Rattle.cq_regs.specs.declared.slots.Ringed.{Ringed}
use Rattle.cq_regs.specs.Slots.{is_begun, is_rung, progress_of}
use Rattle.cq_regs.specs.State.{Registers}

-- no slot in the list is idle
abbrev pub AreRung : List Ringed → Type 0
AreRung ring = All (λ r. is_rung r.progress ≡ true) ring

-- a slot that is begun is as far as it was, and no stop begins; one that ends leaves no slot begun
pub record IsCalm (old new : Registers) : Type 0 where
  pub begun : (slot : ℕ) → is_begun (progress_of new.ring slot) ≡ true
      → (new.stopped ≡ old.stopped) × (progress_of old.ring slot ≡ progress_of new.ring slot)
  pub stop : new.stopped ≡ true → old.stopped ≡ true
  pub rung : AreRung old.ring → AreRung new.ring
