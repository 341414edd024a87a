use Rattle.std.proofs.Common.{arith}
use Rattle.std.proofs.lemmas.List.{take_rest}
use Rattle.host_mem.proofs.PageLaws.{more_in}
use Rattle.host_mem.proofs.pages.Pages.copy_in.Goals as goal

pub loop-done-preserved : goal.loop-done-preserved
loop-done-preserved c =
    let within = c.copy_part_in-done.ensures.within in
    let copied = rw (take_rest c.args.from.now c.loop-done.done) at c.copy_part_in-done.ensures.copied in (
      omega arith,
      more_in c.args.self.now c.loop-done.self c.copy_part_in-done.new.self c.args.from.now c.args.at c.loop-done.done c.copy_part_in-done.result c.requires.within (omega arith) c.loop-done.invariant.1 copied,
    )
