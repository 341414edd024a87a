use Rattle.std.proofs.Common.{◌≡◌, ◌∙◌, refl, ap, arith}
use Rattle.load_generator.specs.Load.{jobs}
use Rattle.load_generator.proofs.Loads.{job_drawn, jobs_more, jobs_none, number-three, plan_valid}
use Rattle.load_generator.proofs.plan.load_plan.Goals as goal

pub loop-place-init : goal.loop-place-init
loop-place-init c = record { drawn = refl; made = c.new-jobs.ensures ∙ jobs_none c.args.n c.args.sectors }

pub loop-place-preserved : goal.loop-place-preserved
loop-place-preserved c =
    let last = number-three c.args.n c.loop-place.place c.loop-place.draws.x c.next-kind.new.self.x c.next-blocks.new.self.x c.loop-place.invariant.drawn c.next-kind.ensures.moved c.next-blocks.ensures.moved in
    let job = job_drawn c.args.n c.args.sectors c.loop-place.place c.loop-place.draws.x c.next-kind.new.self.x c.next-blocks.new.self.x c.next-kind.result c.next-blocks.result c.next-start.result
    c.loop-place.invariant.drawn c.next-kind.ensures.moved c.next-blocks.ensures.moved
    (let moved = c.next-kind.ensures.moved in let drawn = c.next-kind.ensures.drawn in cc) (let moved = c.next-blocks.ensures.moved in let drawn = c.next-blocks.ensures.drawn in cc) (let drawn = c.next-start.ensures.drawn in cc) in
    let more = jobs_more c.args.n c.args.sectors c.loop-place.place in
    let made = c.loop-place.invariant.made in
    let pushed = c.in_ok-push.ensures.ok in
    let moved = c.next-start.ensures.moved in
    record { drawn = cc; made = cc }

pub returns-clause-valid : goal.returns-clause-valid
returns-clause-valid c =
    let whole : c.loop-place.place ≡ 4096 = omega arith in
    plan_valid c.args.n c.args.sectors c.loop-place.jobs c.new.result c.requires.least (c.loop-place.invariant.made ∙ ap (λ count. jobs c.args.n c.args.sectors count) whole) c.new.ensures
