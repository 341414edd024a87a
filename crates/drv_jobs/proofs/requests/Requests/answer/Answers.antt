use Rattle.std.proofs.Common.{◌∙◌}
use Rattle.std.specs.Prelude.{None}
use Rattle.std.proofs.lemmas.List.{length-set}
use Rattle.drv_jobs.proofs.HolderLaws.{fewer-set}
use Rattle.drv_jobs.proofs.SoundLaws.{Agrees-freed}
use Rattle.drv_jobs.proofs.requests.Requests.answer.Goals as goal

pub invariant_of-self : goal.invariant_of-self
invariant_of-self c =
    let free = c.free_tag.ensures in
    let size = length-set c.self.inside.holders c.args.tag None in
    Agrees-freed (record { plan = c.self.inside.plan; waiting = c.self.inside.waiting.items; holders = c.self.inside.holders; faults = c.self.inside.faults.items })
    c.free_tag.new.holders c.self.inside.tags c.free_tag.new.tags c.self.inside.first c.self.inside.count c.self.invariant
    (rw free.holders (size ∙ c.self.invariant.sound.holders)) (rw free.holders (fewer-set c.self.inside.holders c.args.tag)) free.tied free.depth
