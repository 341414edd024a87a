use Rattle.std.proofs.Common.{arith, ◌∙◌, ◌+◌, ◌<◌, refl, sym, ap, length}
use Rattle.std.proofs.lemmas.Result.{err_from_is_err_and}
use Rattle.drv_jobs.specs.Standings.{Standings}
use Rattle.drv_jobs.specs.Next.{tag_for}
use Rattle.drv_jobs.proofs.CountLaws.{lowest-within}
use Rattle.drv_jobs.proofs.NextLaws.{due-done, due-held, due-ready, job-is}
use Rattle.drv_jobs.proofs.requests.Requests.due.Goals as goal

pub returns-then-self-len : goal.returns-then-self-len
returns-then-self-len c =
    let s : Standings = record { plan = c.self.inside.plan; waiting = c.self.inside.waiting.items; holders = c.self.inside.holders; faults = c.self.inside.faults.items } in
    let first = c.self.invariant.counted.lowest in
    rw (← c.self.view_is) (sym (due-done s (omega (arith, first))))

pub at-requires : goal.at-requires
at-requires c =
    let first = c.self.invariant.counted.lowest in
    let within = lowest-within c.self.inside.waiting.items in
    let long = c.self.invariant.sound.waiting in
    omega (arith, first, within, long)

pub returns-in_err-tag : goal.returns-in_err-tag
returns-in_err-tag c =
    let s : Standings = record { plan = c.self.inside.plan; waiting = c.self.inside.waiting.items; holders = c.self.inside.holders; faults = c.self.inside.faults.items } in
    let first = c.self.invariant.counted.lowest in
    let within = lowest-within c.self.inside.waiting.items in
    let long = c.self.invariant.sound.waiting in
    let low : c.self.inside.first < length s.waiting = omega (arith, first, within, long) in
    let job = job-is s.plan c.self.inside.first (c.self.inside.first + 1) c.at.result.now (omega (arith, low, long)) refl c.at.ensures in
    let held = ap (λ t. tag_for t c.at.result.now) c.self.view_is ∙ sym c.tag_for.ensures ∙ c.in_err-tag.was in
    let p = err_from_is_err_and c.from_residual.result c.from_residual.ensures.1 in
    rw (p.1, p.2, ← c.self.view_is) (sym (due-held s c.at.result.now c.self.inside.first c.in_err-tag.field-0.0 first low job held))

pub overflow_cast-result : goal.overflow_cast-result
overflow_cast-result c =
    let first = c.self.invariant.counted.lowest in
    let within = lowest-within c.self.inside.waiting.items in
    let long = c.self.invariant.sound.waiting in
    let jobs = c.self.invariant.sound.plan.jobs in
    omega (arith, first, within, long, jobs)

pub overflow_add-result : goal.overflow_add-result
overflow_add-result c =
    let first = c.self.invariant.counted.lowest in
    let within = lowest-within c.self.inside.waiting.items in
    let long = c.self.invariant.sound.waiting in
    let jobs = c.self.invariant.sound.plan.jobs in
    omega (arith, first, within, long, jobs)

pub returns : goal.returns
returns c =
    let s : Standings = record { plan = c.self.inside.plan; waiting = c.self.inside.waiting.items; holders = c.self.inside.holders; faults = c.self.inside.faults.items } in
    let first = c.self.invariant.counted.lowest in
    let within = lowest-within c.self.inside.waiting.items in
    let long = c.self.invariant.sound.waiting in
    let low : c.self.inside.first < length s.waiting = omega (arith, first, within, long) in
    let job = job-is s.plan c.self.inside.first (c.self.inside.first + 1) c.at.result.now (omega (arith, low, long)) refl c.at.ensures in
    let ready = ap (λ t. tag_for t c.at.result.now) c.self.view_is ∙ sym c.tag_for.ensures ∙ c.in_ok-tag.was in
    rw (← c.self.view_is) (sym (due-ready s c.at.result.now c.self.inside.first c.in_ok-tag.tag first low job ready))
