use Rattle.std.proofs.Common.{◌<◌, ◌^◌, sym, ◌∙◌, ap, subst, arith}
use Rattle.cq_regs.specs.State.{Registers}
use Rattle.cq_regs.specs.Effects.{stored, without_bits, ClearsOnes}
use Rattle.cq_regs.proofs.BitLaws.{clears_ones}
use Rattle.cq_regs.proofs.registers.Regs.put.Goals as goal

pub returns-in-OneClears-clause-ones : goal.returns-in-OneClears-clause-ones
returns-in-OneClears-clause-ones c access =
    let P : Registers → Type 0 = λ regs. ClearsOnes c.args.self.now c.args.row.register c.args.value regs in
    let fits : c.args.value < 2 ^ 32 = omega arith in
    subst P
    (sym (c.store-in-OneClears.ensures ∙ ap (λ w. stored c.args.self.now c.args.row.register (without_bits w c.args.value)) c.value.ensures.value))
    (clears_ones c.args.self.now c.args.row.register c.args.value fits)
