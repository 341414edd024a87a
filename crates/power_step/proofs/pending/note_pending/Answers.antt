use Rattle.std.proofs.Common.{◌<◌, ◌∷◌, [], arith, length}
use Rattle.std.proofs.lemmas.List.Elements.{All-append, All-cons, All-nil}
use Rattle.power_step.proofs.Noting.{noted_all, noted_next}
use Rattle.power_step.proofs.pending.note_pending.Goals as goal

pub unwrap-requires : goal.unwrap-requires
unwrap-requires c =
    let few = c.loop-sector.invariant.few in
    let room = c.loop-sector.invariant.room in
    c.push.ensures.succeeds (omega (arith, few, room, c.in-Some.ensures.from, c.in-Some.ensures.below))

pub loop-sector-preserved : goal.loop-sector-preserved
loop-sector-preserved c =
    let pushed = rw c.unwrap.ensures at c.push.ensures.items in
    let long = rw c.unwrap.ensures at c.push.ensures.len in
    let was = c.loop-sector.invariant in
    let few = was.few in
    let room = was.room in
    let below = c.in-Some.ensures.below in
    record {
      room = omega (arith, room, c.push.ensures.capacity);
      few = omega (arith, long, few, c.in-Some.ensures.from);
      most = omega (arith, below);
      below = rw pushed (All-append (λ s. s < 65536) c.loop-sector.sectors.items (c.in-Some.sector ∷ []) was.below (All-cons (λ s. s < 65536) c.in-Some.sector [] below (All-nil (λ s. s < 65536))));
      noted = λ those array stands.
          rw pushed (noted_next those.pend c.loop-sector.sectors.items c.loop-sector.from c.in-Some.sector (length those.base) (was.noted those array stands).0 (c.in-Some.ensures.next those array stands));
    }

pub returns-clause-noted : goal.returns-clause-noted
returns-clause-noted c = λ those array stands.
    let was = c.loop-sector.invariant.noted those array stands in
    noted_all those.pend c.loop-sector.sectors.items c.loop-sector.from (length those.base) was.0 was.1 (c.in_default.ensures.next those array stands)
