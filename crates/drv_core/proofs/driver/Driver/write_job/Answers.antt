use Rattle.std.proofs.Common.{◌≡◌, ◌∙◌, ap}
use Rattle.drv_jobs.specs.Standings.{job_of}
use Rattle.drv_core.proofs.Facts.{written-is}
use Rattle.drv_core.proofs.driver.Driver.write_job.Goals as goal

pub returns-clause-written : goal.returns-clause-written
returns-clause-written c =
    let same : c.self.inside.requests.plan ≡ c.args.self.now.requests.plan = ap (λ d. d.requests.plan) c.self.view_is in
    let plan = c.plan-plan.ensures.plan ∙ same in
    let job = c.job-job.ensures.job ∙ ap (λ q. job_of q c.args.due.id) same in
    let task = c.write_job.ensures in
    written-is c.args.self.now.requests.plan c.plan-plan.result.now c.layout.result c.args.due c.job-job.result c.asks_notice-int.result
    c.args.mem.now c.write_job.new.mem c.layout.ensures job plan c.asks_notice-int.ensures task.asks task.data task.others task.space task.outside
