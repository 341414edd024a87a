use Rattle.trace_effects.proofs.PhaseFacts.{job_valid, phase_facts, range_fits}
use Rattle.storage_machine.specs.Jobs.{job_of}
use Rattle.trace_effects.specs.Phases.{after_phase}
use Rattle.trace_effects.proofs.phase_effects.after_phase.Goals as goal

pub phase_on-requires : goal.phase_on-requires
phase_on-requires c =
    let facts = phase_facts c.args.s.now c.args.line.n c.args.line.id c.args.line.count c.args.line.kept c.requires.holds in
    rw c.job_of-job.ensures (record {
      valid = job_valid c.args.s.now.plan.blocks c.args.s.now.plan.jobs c.args.line.id c.requires.sound.jobs;
      count = facts.moved;
      range = range_fits (job_of c.args.s.now.plan.jobs c.args.line.id) _ facts.inside c.requires.sound.base;
      inside = facts.inside;
    })

pub returns-clause-ok : goal.returns-clause-ok
unfolding after_phase
returns-clause-ok c = rw (c.job_of-job.ensures, c.tag_due-tag.ensures, c.due.ensures, c.hit-kind.ensures) at c.phase_on.ensures.ok
