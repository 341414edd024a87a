use Rattle.drv_tags.specs.Tags.{TagSet}
use Rattle.drv_tags.proofs.TagLaws.{lowest_free-is}
use Rattle.drv_tags.proofs.tags.Tags.peek.Goals as goal

pub returns : goal.returns
returns c =
    let tags : TagSet = record { depth = c.self.inside.depth; used = c.self.inside.used } in
    let found = c.lowest_free.ensures in
    rw (← c.self.view_is) (lowest_free-is tags c.lowest_free.result found.below found.free found.lowest found.all)
