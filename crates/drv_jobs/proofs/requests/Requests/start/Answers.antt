use Rattle.std.proofs.Common.{rules, ◌≡◌, length}
use Rattle.std.specs.Prelude.{replicate, true}
use Rattle.drv_jobs.proofs.SoundLaws.{Agrees-start}
use Rattle.drv_jobs.proofs.requests.Requests.start.Goals as goal

pub invariant_of-result : goal.invariant_of-result
invariant_of-result c =
    let waiting : c.in_ok-waiting.waiting.items ≡ replicate (length c.args.plan.jobs) true = search rules in
    let faults : c.in_ok-faults.faults.items ≡ replicate (length c.args.plan.jobs) 0 = search rules in
    rw (waiting, faults, c.no_holders.ensures, c.new-tags.ensures, c.len-count.ensures) (Agrees-start c.args.plan c.requires)
