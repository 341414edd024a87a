use Rattle.std.proofs.Common.{◌≡◌, true, subst, sym}
use Rattle.drv_tags.specs.Tags.{TagSet, is_used}
use Rattle.drv_tags.proofs.TagLaws.{ChangesTag-without_tag, IsTagSet-without_tag}
use Rattle.drv_tags.proofs.tags.Tags.give.Goals as goal

pub invariant_of-self : goal.invariant_of-self
invariant_of-self c =
    let tags : TagSet = record { depth = c.self.inside.depth; used = c.self.inside.used } in
    let used : is_used tags c.args.tag ≡ true = subst (λ t. is_used t c.args.tag ≡ true) (sym c.self.view_is) c.requires in
    rw c.without_bit-self-inside.ensures (IsTagSet-without_tag tags c.args.tag c.self.invariant used)

pub returns-clause-given : goal.returns-clause-given
returns-clause-given c =
    let tags : TagSet = record { depth = c.self.inside.depth; used = c.self.inside.used } in
    let used : is_used tags c.args.tag ≡ true = subst (λ t. is_used t c.args.tag ≡ true) (sym c.self.view_is) c.requires in
    rw (c.without_bit-self-inside.ensures, ← c.self.view_is) (ChangesTag-without_tag tags c.args.tag c.self.invariant used)
