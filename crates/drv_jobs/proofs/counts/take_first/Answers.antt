use Rattle.std.proofs.Common.{arith, ◌≡◌, ◌<◌, length}
use Rattle.std.specs.Prelude.{get_or, true, false}
use Rattle.drv_jobs.proofs.CountLaws.{lowest, lowest-waits, number-less, set-before}
use Rattle.drv_jobs.proofs.counts.take_first.Goals as goal

pub overflow_sub-count : goal.overflow_sub-count
overflow_sub-count c =
    let at = c.requires.counted.lowest in
    let number = c.requires.counted.number in
    let low : lowest c.args.waiting.now < length c.args.waiting.now = omega (arith, at, c.requires.waits) in
    let less = number-less c.args.waiting.now (lowest c.args.waiting.now) low (lowest-waits c.args.waiting.now low) in
    omega (arith, number, less)

pub first_from-requires-clause-before : goal.first_from-requires-clause-before
first_from-requires-clause-before c = rw c.requires.counted.lowest (set-before c.args.waiting.now)

pub returns-clause-counted : goal.returns-clause-counted
returns-clause-counted c =
    let at = c.requires.counted.lowest in
    let number = c.requires.counted.number in
    let waits : get_or c.args.waiting.now c.args.first.now false ≡ true =
    rw at (lowest-waits c.args.waiting.now (omega (arith, at, c.requires.waits))) in
    let less = number-less c.args.waiting.now c.args.first.now c.requires.waits waits in
    record { lowest = c.first_from.ensures; number = omega (arith, number, less) }
