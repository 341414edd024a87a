use Rattle.std.proofs.Common.{◌≡◌, ◌∙◌, sym, ap}
use Rattle.std.specs.Prelude.{is_some, false}
use Rattle.storage_model.specs.Plan.{is_direct}
use Rattle.drv_jobs.specs.Standings.{Standings, is_used}
use Rattle.drv_jobs.specs.declared.next.TheConstants.{DIRECT_TAG}
use Rattle.drv_jobs.proofs.NextLaws.{free_tag-is, tag-other}
use Rattle.drv_jobs.proofs.requests.Requests.tag_for.Goals as goal

pub returns : goal.returns
returns c =
    let s : Standings = record { plan = c.self.inside.plan; waiting = c.self.inside.waiting.items; holders = c.self.inside.holders; faults = c.self.inside.faults.items } in
    let other : is_direct c.args.job.now ≡ false = sym c.is_direct.ensures ∙ c.if-is_direct.false in
    let alone : is_used s.holders DIRECT_TAG ≡ false = sym (c.is_some.ensures ∙ ap is_some c.holder_of.ensures) ∙ c.if-is_some.false in
    let free = free_tag-is s c.self.inside.tags c.self.invariant.depth c.self.invariant.sound.plan.depth.1 c.self.invariant.tied in
    rw (c.ok_or.ensures.value, ← c.self.view_is) (tag-other s c.args.job.now c.peek.result other alone (c.peek.ensures ∙ free))
