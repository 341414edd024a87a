use Rattle.std.proofs.Common.{◌≡◌, Bool, true, false, not, Err, Ok, refl, subst}
use Rattle.std.proofs.lemmas.Result.{err_from_is_err_and}
use Rattle.io_edge.specs.Sink.{Joins}
use Rattle.power_step.proofs.Counting.{later_both, later_same}
use Rattle.step_laws.specs.Steps.{IsStep}
use Rattle.world_steps.specs.World.{is_to_do}
use Rattle.whole_run.proofs.Went.{step_ends, step_went, went_ends, went_more, went_none}
use Rattle.whole_run.proofs.run.take_events.Goals as goal

-- something is to do where the run isn't over
some_of : (over work : Bool) → over ≡ not work → over ≡ false → work ≡ true
some_of over true is going = refl
some_of over false is going = absurd (cc (is, going))

pub loop-world-init : goal.loop-world-init
loop-world-init g c = record {
  went = went_none g.K.Sink.took g.met.K.Sink.took_nothing c.args.world.now (g.A.Array.state c.args.array.now) c.args.out.now c.requires.going.ready;
  going = c.requires.going;
  faults = later_same (g.K.Sink.faults c.args.out.now);
}

pub loop-world-preserved : goal.loop-world-preserved
loop-world-preserved g c =
    let both : Joins g.K.Sink.took = record { join = g.met.K.Sink.took_both } in
    let i = c.loop-world.invariant in
    let some = some_of c.over.result (is_to_do c.loop-world.world.path) c.over.ensures c.loop-world-test.true in
    let step =
    subst (λ actor. IsStep g.K.Sink.took c.loop-world.world actor (g.A.Array.state c.loop-world.array) c.loop-world.out (Ok tt) c.step.new.self (g.A.Array.state c.step.new.array) c.step.new.out) c.choose-actor.ensures
    c.in_ok-step.ensures.step in
    record {
      went =
          went_more g.K.Sink.took both c.args.world.now (g.A.Array.state c.args.array.now) c.args.out.now c.loop-world.world (g.A.Array.state c.loop-world.array) c.loop-world.out i.went c.step.new.self (g.A.Array.state c.step.new.array)
          c.step.new.out
          (step_went g.K.Sink.took c.runs_are_read.ensures c.state_is_read.ensures.laws c.loop-world.world (g.A.Array.state c.loop-world.array) c.loop-world.out i.going.prompt some c.step.new.self (g.A.Array.state c.step.new.array) c.step.new.out
          step.steps step.goes_on);
      going = record { ready = step.goes_on.ready; prompt = step.goes_on.prompt refl i.going.prompt };
      faults = later_both (g.K.Sink.faults c.args.out.now) (g.K.Sink.faults c.loop-world.out) (g.K.Sink.faults c.step.new.out) i.faults c.in_ok-step.ensures.faults;
    }

pub returns-in_err-step-clause-stopped : goal.returns-in_err-step-clause-stopped
returns-in_err-step-clause-stopped g c =
    let both : Joins g.K.Sink.took = record { join = g.met.K.Sink.took_both } in
    let i = c.loop-world.invariant in
    let some = some_of c.over.result (is_to_do c.loop-world.world.path) c.over.ensures c.loop-world-test.true in
    let halt = c.in_err-step.field-0.0 in
    let step =
    subst (λ actor. IsStep g.K.Sink.took c.loop-world.world actor (g.A.Array.state c.loop-world.array) c.loop-world.out (Err halt) c.step.new.self (g.A.Array.state c.step.new.array) c.step.new.out) c.choose-actor.ensures
    c.in_err-step.ensures.step in
    let p = err_from_is_err_and c.from_residual.result c.from_residual.ensures.1 in
    rw (p.1, p.2)
    (went_ends g.K.Sink.took both c.args.world.now (g.A.Array.state c.args.array.now) c.args.out.now c.loop-world.world (g.A.Array.state c.loop-world.array) c.loop-world.out i.went c.step.new.self (g.A.Array.state c.step.new.array)
    c.step.new.out (Err halt)
    (step_ends g.K.Sink.took c.runs_are_read.ensures c.state_is_read.ensures.laws c.loop-world.world (g.A.Array.state c.loop-world.array) c.loop-world.out i.going.prompt some c.step.new.self (g.A.Array.state c.step.new.array) c.step.new.out
    halt step.steps))
