use Rattle.std.proofs.Common.{◌∙◌, ap, sym, subst}
use Rattle.drv_ring.specs.Layout.{HasLayout}
use Rattle.drv_core.specs.State.{layout_of}
use Rattle.drv_core.proofs.Plans.{judged-plan}
use Rattle.drv_core.proofs.driver.Driver.event.Goals as goal

pub returns-in-Fail-clause-layout : goal.returns-in-Fail-clause-layout
returns-in-Fail-clause-layout g c =
    let plan = ap (λ d. d.requests.plan) c.fail.ensures.driver ∙ judged-plan c.args.self.now.requests c.args.cause in
    subst (λ p. HasLayout c.args.mem.now (layout_of p)) (sym plan) c.requires.layout

pub returns-in-Fail-clause-plan : goal.returns-in-Fail-clause-plan
returns-in-Fail-clause-plan g c =
    ap (λ d. d.requests.plan) c.fail.ensures.driver ∙ judged-plan c.args.self.now.requests c.args.cause
