use Rattle.std.proofs.Common.{◌∙◌}
use Rattle.drv_jobs.proofs.HolderLaws.{fewer-freed_from, length-freed_from}
use Rattle.drv_jobs.proofs.SoundLaws.{Agrees-freed}
use Rattle.drv_jobs.proofs.requests.Requests.collect.Goals as goal

pub invariant_of-self : goal.invariant_of-self
invariant_of-self c =
    let free = c.free_tags.ensures in
    let size = length-freed_from c.args.word 0 c.self.inside.holders in
    Agrees-freed (record { plan = c.self.inside.plan; waiting = c.self.inside.waiting.items; holders = c.self.inside.holders; faults = c.self.inside.faults.items })
    c.free_tags.new.holders c.self.inside.tags c.free_tags.new.tags c.self.inside.first c.self.inside.count c.self.invariant
    (rw free.holders (size ∙ c.self.invariant.sound.holders)) (rw free.holders (fewer-freed_from c.args.word c.self.inside.holders)) free.tied free.depth
