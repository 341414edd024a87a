use Rattle.std.proofs.Common.{arith}
use Rattle.drv_tags.specs.Tags.{TagSet}
use Rattle.drv_tags.proofs.TagLaws.{ChangesTag-with_tag, IsTagSet-with_tag, lowest_free-first, lowest_free-none}
use Rattle.drv_tags.proofs.tags.Tags.take.Goals as goal

pub returns-in_err-tag-clause-lowest : goal.returns-in_err-tag-clause-lowest
returns-in_err-tag-clause-lowest c = grind (arith, lowest_free-none)

pub invariant_of-self : goal.invariant_of-self
invariant_of-self c =
    let tags : TagSet = record { depth = c.self.inside.depth; used = c.self.inside.used } in
    rw c.with_bit-self-inside.ensures (IsTagSet-with_tag tags c.in_ok-tag.tag c.self.invariant c.in_ok-tag.ensures.below)

pub returns-clause-lowest : goal.returns-clause-lowest
returns-clause-lowest c = grind (arith, lowest_free-first)

pub returns-clause-taken : goal.returns-clause-taken
returns-clause-taken c =
    let tags : TagSet = record { depth = c.self.inside.depth; used = c.self.inside.used } in
    rw (c.with_bit-self-inside.ensures, ← c.self.view_is) (ChangesTag-with_tag tags c.in_ok-tag.tag)
