use Rattle.std.proofs.Common.{◌≡◌, ◌≤◌, ◌-◌, length}
use Rattle.cq_chain.proofs.Walked.{walked, with_pieces}
use Rattle.cq_chain.proofs.chain.walk.Given as goal

abbrev pub invariant-loop : goal.invariant-loop
invariant-loop l =
    (walked l.mem l.wide 512 l.want l.at ≡ with_pieces l.pieces (walked l.mem l.wide (512 - l.counter) l.left l.place))
    × (length l.pieces ≤ l.counter)
