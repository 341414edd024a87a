-- A write of a register leaves what the engine has to hold.
use Rattle.std.proofs.Common.{◌≡◌, ℕ, true, sym, ◌∙◌, subst}
use Rattle.std.specs.Prelude.{IfSome}
use Rattle.std.specs.Option.{IsSomeAnd, option_map_or}
use Rattle.cq_regs.specs.declared.slots.Progress.{Progress}
use Rattle.cq_regs.specs.declared.table.Access.TheVariants.{Acts}
use Rattle.cq_regs.specs.State.{Registers}
use Rattle.cq_regs.specs.Slots.{is_begun}
use Rattle.cq_regs.specs.Table.{row_at}
use Rattle.cq_regs.specs.Effects.{written, RingsSlots}
pub use Rattle.cq_regs.specs.Calm.{IsCalm}
pub use Rattle.cq_regs.proofs.CalmLaws.{calm_written}
use Rattle.cq_schedule.specs.Held.{held_at}
use Rattle.cq_engine.specs.Outcome.{Holding}
use Rattle.cq_engine.specs.Holds.{Holds}

-- where the tasks under way are left, what the engine has to hold is
pub holds_calm : (engine : Holding) (old new : Registers) → IsCalm old new → Holds engine old → Holds engine new
holds_calm engine old new calm holds = record {
  cause = λ stopped. holds.cause (calm.stop stopped);
  tasks = λ runs slot below begun.
      let c = calm.begun slot begun in
      let B : Progress → Type 0 = λ p. is_begun p ≡ true in
      let P : Progress → Type 0 = λ p. IsSomeAnd (held_at engine.held slot) (λ h. h.progress ≡ p) in
      subst P c.1 (holds.tasks (sym c.0 ∙ runs) slot below (subst B (sym c.1) begun));
}

pub holds_written : (engine : Holding) (old new : Registers) (offset value : ℕ)
    → new ≡ option_map_or (λ row. written old row value) (row_at offset) old
    → IfSome (row_at offset) (λ row. row.access ≡ Acts → RingsSlots old row.register value new) → Holds engine old → Holds engine new
holds_written engine old new offset value after moves holds = holds_calm engine old new (calm_written old new offset value after moves) holds
