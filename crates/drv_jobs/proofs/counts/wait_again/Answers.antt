use Rattle.std.proofs.Common.{arith}
use Rattle.drv_jobs.proofs.CountLaws.{lowest-set, number-more, number-within}
use Rattle.drv_jobs.proofs.counts.wait_again.Goals as goal

pub overflow_add-count : goal.overflow_add-count
overflow_add-count c =
    let more = number-more c.args.waiting.now c.args.place c.requires.within c.if-not-waiting-place.true in
    let whole = number-within (Rattle.std.specs.Prelude.set c.args.waiting.now c.args.place Rattle.std.specs.Prelude.true) in
    let size = Rattle.std.proofs.lemmas.List.length-set c.args.waiting.now c.args.place Rattle.std.specs.Prelude.true in
    let number = c.requires.counted.number in
    let few = c.requires.few in
    omega (arith, more, whole, size, number, few)

pub returns-then-not-waiting-place-clause-counted : goal.returns-then-not-waiting-place-clause-counted
returns-then-not-waiting-place-clause-counted c =
    let more = number-more c.args.waiting.now c.args.place c.requires.within c.if-not-waiting-place.true in
    let low = lowest-set c.args.waiting.now c.args.place c.requires.within in
    let number = c.requires.counted.number in
    let first = c.requires.counted.lowest in
    record { lowest = omega (arith, low, first, c.min.ensures); number = omega (arith, number, more) }
