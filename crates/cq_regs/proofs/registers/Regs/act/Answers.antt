use Rattle.std.proofs.Common.{sym, subst}
use Rattle.cq_regs.specs.declared.table.Register.{Register}
use Rattle.cq_regs.specs.declared.table.Register.TheVariants.{TaskClear}
use Rattle.cq_regs.specs.State.{Registers}
use Rattle.cq_regs.specs.Effects.{RingsSlots}
use Rattle.cq_regs.proofs.CalmLaws.{clears_slots}
use Rattle.cq_regs.proofs.registers.Regs.act.Goals as goal

pub returns-in-TaskClear-clause-rings : goal.returns-in-TaskClear-clause-rings
returns-in-TaskClear-clause-rings c =
    let P : Registers → Type 0 = λ regs. RingsSlots c.args.self.now TaskClear c.args.value regs in
    let Q : Register → Type 0 = λ register. RingsSlots c.args.self.now register c.args.value c.clear_tasks.new.self in
    subst Q (sym c.in-TaskClear.is) (subst P (sym c.clear_tasks.ensures) (clears_slots c.args.self.now c.args.value))
