use Rattle.std.proofs.Common.{arith}
use Rattle.storage_model.specs.declared.faults.BusKind.TheVariants.{Lost}
use Rattle.bus_link.proofs.Meetings.{hit_here, hit_nowhere, hit_passed}
use Rattle.bus_link.proofs.hits.meet_hit.Goals as goal

pub returns-then-hit-number-clause-met : goal.returns-then-hit-number-clause-met
returns-then-hit-number-clause-met c =
    hit_here c.args.hits.now c.args.number c.loop-place.place _ c.loop-place.invariant c.loop-place-test.true (omega arith)

pub returns-then-hit-number-2-clause-met : goal.returns-then-hit-number-2-clause-met
returns-then-hit-number-2-clause-met c =
    hit_nowhere c.args.hits.now c.args.number c.loop-place.place (record { n = 0; kind = Lost }) c.requires.valid c.loop-place.invariant
    c.loop-place-test.true (omega arith)

pub returns-clause-met : goal.returns-clause-met
returns-clause-met c =
    hit_passed c.args.hits.now c.args.number c.loop-place.place (record { n = 0; kind = Lost }) c.loop-place.invariant c.loop-place-test.false
