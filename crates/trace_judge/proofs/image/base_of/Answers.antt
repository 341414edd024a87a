use Rattle.std.proofs.Common.{◌∙◌, ap}
use Rattle.trace_judge.proofs.Contents.{shows_shut, shows_ajar}
use Rattle.trace_judge.proofs.image.base_of.Goals as goal
use Rattle.trace_judge.proofs.image.base_of.Goals.{in-Ajar, in_default-gate}

pub returns : goal.returns
returns c = elim c.match-gate.branch [
  | in-Ajar w ↦ shows_ajar c.args.pages.now c.from_vec.result c.in-Some.superblock c.in-Some.gate w.in-Ajar.sector
      c.in-Some.ensures.some w.in-Ajar.is c.in_ok-base.base.items c.in_ok-base.ensures.items
      (c.from_vec.ensures ∙ ap (λ v. v.items) w.base-is)
  | in_default-gate w ↦ shows_shut c.args.pages.now c.from_vec.result c.in-Some.superblock c.in-Some.gate
      c.in-Some.ensures.some w.in_default-gate.is
      (c.from_vec.ensures ∙ (ap (λ v. v.items) w.base-is ∙ c.in_ok-base.ensures.items))
]
