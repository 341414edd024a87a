use Rattle.std.proofs.Common.{◌∙◌, refl, sym, ap, length}
use Rattle.drv_jobs.specs.Standings.{Standings}
use Rattle.drv_jobs.proofs.HolderLaws.{fewer-none, length-no_holders}
use Rattle.drv_jobs.proofs.SoundLaws.{Agrees-freed}
use Rattle.drv_jobs.proofs.requests.Requests.forget.Goals as goal

pub invariant_of-self : goal.invariant_of-self
invariant_of-self c =
    let s : Standings = record { plan = c.self.inside.plan; waiting = c.self.inside.waiting.items; holders = c.self.inside.holders; faults = c.self.inside.faults.items } in
    let free = c.free_all.ensures in
    Agrees-freed s c.free_all.new.holders c.self.inside.tags c.free_all.new.tags c.self.inside.first c.self.inside.count c.self.invariant
    (ap length free.holders ∙ length-no_holders) (rw free.holders (fewer-none c.self.inside.holders)) free.tied
    (free.depth ∙ sym c.self.invariant.depth)

pub returns : goal.returns
returns c = rw (← c.self.view_is, c.free_all.ensures.holders) refl
