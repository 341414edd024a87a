use Rattle.std.proofs.Common.{arith}
use Rattle.std.proofs.lemmas.List.Kept.{AllPairs-from_increasing}
use Rattle.storage_machine.proofs.script.are_rising.Goals as goal

pub returns : goal.returns
returns c _ =
    AllPairs-from_increasing c.args.numbers.now
    (λ k low. c.loop-place.invariant.rises k (let end = c.loop-place-test.false in omega (arith, low, end)))
