use Rattle.std.proofs.Common.{◌∙◌, arith, ap, length}
use Rattle.storage_machine.specs.Jobs.{sector_of}
use Rattle.storage_model.specs.Plan.{blocks_of}
use Rattle.trace_effects.proofs.ReadParts.{all_inside, part_end, part_more}
use Rattle.trace_effects.specs.Phases.{sectors_now}
use Rattle.trace_effects.proofs.keeping.sectors_now.Goals as goal

pub value-requires : goal.value-requires
value-requires c = let inside = all_inside c.args.job.now _ c.requires in omega (arith, inside, c.sector_of-first.ensures, ap length c.as_slice-base.ensures)

pub loop-k-preserved : goal.loop-k-preserved
loop-k-preserved c =
    let inside = all_inside c.args.job.now _ c.requires in
    let more = part_more c.args.s.now.base c.args.s.now.pend (sector_of c.args.job.now) c.loop-k.k (omega (arith, inside)) in
    let pushed = c.in_ok-push.ensures.ok in
    cc (more, pushed, c.value.ensures, c.loop-k.invariant, c.as_slice-base.ensures, c.sector_of-first.ensures)

pub returns : goal.returns
unfolding sectors_now
returns c =
    c.loop-k.invariant ∙ part_end c.args.s.now.base c.args.s.now.pend (sector_of c.args.job.now) (blocks_of c.args.job.now) c.loop-k.k (omega arith)
