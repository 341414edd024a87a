use Rattle.std.proofs.Common.{arith}
use Rattle.storage_machine.proofs.FirstFlags.{first-raised}
use Rattle.storage_machine.proofs.flags.raise.Goals as goal

pub returns-then-place-flags-clause-first : goal.returns-then-place-flags-clause-first
returns-then-place-flags-clause-first c =
    let low = first-raised c.args.flags.now c.args.place c.if-place-flags.true in
    let first = c.requires in
    omega (arith, low, first, c.min.ensures)
