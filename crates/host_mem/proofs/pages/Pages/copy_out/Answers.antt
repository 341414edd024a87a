use Rattle.std.proofs.Common.{arith}
use Rattle.std.proofs.lemmas.List.{take_rest}
use Rattle.host_mem.proofs.PageLaws.{more_out}
use Rattle.host_mem.proofs.pages.Pages.copy_out.Goals as goal

pub loop-done-preserved : goal.loop-done-preserved
loop-done-preserved c =
    let within = c.copy_part_out-done.ensures.within in
    let copied = rw (take_rest c.loop-done.to c.loop-done.done) at c.copy_part_out-done.ensures.copied in (
      omega arith,
      more_out c.args.self.now c.args.to.now c.loop-done.to c.copy_part_out-done.new.to c.args.at c.loop-done.done c.copy_part_out-done.result c.requires.within (omega arith) c.loop-done.invariant.1 copied,
    )
