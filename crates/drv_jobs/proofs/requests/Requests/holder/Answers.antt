use Rattle.drv_jobs.specs.Standings.{Standings}
use Rattle.drv_jobs.proofs.SoundLaws.{holder-in_plan}
use Rattle.drv_jobs.proofs.requests.Requests.holder.Goals as goal

pub returns-clause-id : goal.returns-clause-id
returns-clause-id c =
    let s : Standings = record { plan = c.self.inside.plan; waiting = c.self.inside.waiting.items; holders = c.self.inside.holders; faults = c.self.inside.faults.items } in
    rw (← c.self.view_is) (holder-in_plan s c.args.tag c.holder_of.result c.self.invariant.sound c.holder_of.ensures)
