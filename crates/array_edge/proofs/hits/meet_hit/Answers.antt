use Rattle.std.proofs.Common.{arith, false}
use Rattle.array_edge.proofs.Meetings.{past_more, same_kind, other_kind, hit_here, hit_nowhere, hit_passed}
use Rattle.array_edge.proofs.hits.meet_hit.Goals as goal
use Rattle.array_edge.proofs.hits.meet_hit.Goals.{then-hit-fetch+else-from-number+else-from-number-2, else-hit-fetch}

pub loop-place-preserved : goal.loop-place-preserved
loop-place-preserved c = past_more c.args.hits.now c.args.fetch c.args.number c.loop-place.place (record { fetch = false; n = 0; cut = false; mask = 0 }) c.loop-place.invariant c.loop-place-test.true
    (elim c.if-hit-fetch.branch [
      | then-hit-fetch+else-from-number+else-from-number-2 w ↦ λ kind. omega arith
      | else-hit-fetch w ↦ λ kind. absurd (other_kind _ _ w.if-hit-fetch.false kind)
    ])

pub returns-then-from-number-clause-met : goal.returns-then-from-number-clause-met
returns-then-from-number-clause-met c = hit_here c.args.hits.now c.args.fetch c.args.number c.loop-place.place _ c.loop-place.invariant c.loop-place-test.true (same_kind _ _ c.if-hit-fetch.true) (omega arith)

pub returns-then-from-number-2-clause-met : goal.returns-then-from-number-2-clause-met
returns-then-from-number-2-clause-met c = hit_nowhere c.args.hits.now c.args.fetch c.args.number c.loop-place.place (record { fetch = false; n = 0; cut = false; mask = 0 }) c.requires.valid c.loop-place.invariant c.loop-place-test.true (same_kind _ _ c.if-hit-fetch.true) (omega arith)

pub returns-clause-met : goal.returns-clause-met
returns-clause-met c = hit_passed c.args.hits.now c.args.fetch c.args.number c.loop-place.place (record { fetch = false; n = 0; cut = false; mask = 0 }) c.loop-place.invariant c.loop-place-test.false
