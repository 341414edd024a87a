use Rattle.std.proofs.Common.{arith, ◌∙◌, sym}
use Rattle.drv_jobs.proofs.HolderLaws.{freed-at, holder-freed_first, length-freed_from, same-holders}
use Rattle.drv_jobs.proofs.holders.free_tags.Goals as goal

pub returns-clause-holders : goal.returns-clause-holders
returns-clause-holders c =
    let size = length-freed_from c.args.word 0 c.args.holders.now in
    let kept = c.loop-tag.invariant.size in
    same-holders c.loop-tag.holders _ (omega (arith, size, kept))
    (λ tag. c.loop-tag.invariant.freed tag ∙ freed-at c.args.word tag c.loop-tag.tag c.args.holders.now (omega arith) (omega arith)
    ∙ sym (holder-freed_first c.args.word c.args.holders.now tag))
