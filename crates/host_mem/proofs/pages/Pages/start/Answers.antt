use Rattle.std.proofs.Common.{◌≡◌, ◌∷◌, ◌++◌, ◌*◌, ◌+◌, [], ◌∙◌, ap, arith, length, ℕ}
use Rattle.std.proofs.Math.ListN.{replicate}
use Rattle.std.proofs.lemmas.List.{length-replicate}
use Rattle.host_mem.proofs.PageLaws.{whole_more, zeros_more}
use Rattle.host_mem.proofs.pages.Pages.start.Goals as goal

pub loop-preserved : goal.loop-preserved
loop-preserved c =
    let pushed : c.push.new.self.items ≡ c.loop.pages.items ++ c.in_ok-new.field-0 ∷ [] = c.in_ok-push.ensures.items in
    let zeros : c.in_ok-new.field-0.value ≡ replicate 4096 0 = c.in_ok-new.ensures.ok in
    rw pushed (
      zeros_more c.loop.pages.items c.in_ok-new.field-0 (4096 * c.loop.counter) 4096 (4096 * (c.loop.counter + 1)) c.loop.invariant.0 zeros (omega arith),
      whole_more c.loop.pages.items c.in_ok-new.field-0 c.loop.invariant.1 (ap length zeros ∙ length-replicate {A = ℕ} 4096 0),
    )
