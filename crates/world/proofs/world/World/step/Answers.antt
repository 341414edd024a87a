use Rattle.std.proofs.lemmas.Result.{err_from_is_err_and}
use Rattle.world.proofs.StepsTaken.{acted_behind, stopped_first}
use Rattle.world.proofs.world.World.step.Goals as goal

pub returns-in_err-begin-clause-step : goal.returns-in_err-begin-clause-step
returns-in_err-begin-clause-step g c =
    let p = err_from_is_err_and c.from_residual.result c.from_residual.ensures.1 in
    rw (p.1, p.2)
    (stopped_first g.K.Sink.took c.state_is_read.ensures.laws c.runs_are_read.ensures c.args.self.now c.begin.new.self c.args.actor (g.A.Array.state c.args.array.now) c.args.out.now c.begin.new.out _ c.requires.may c.in_err-begin.ensures.lines)

pub returns-clause-step : goal.returns-clause-step
returns-clause-step g c =
    acted_behind g.K.Sink.took c.steps_are_taken.ensures c.args.self.now c.args.actor (g.A.Array.state c.args.array.now) c.args.out.now c.begin.new.out c.begin.new.self c.act.result c.act.new.self
    (g.A.Array.state c.act.new.array) c.act.new.out c.requires.may c.in_ok-begin.ensures.world c.in_ok-begin.ensures.lines c.act.ensures.acted c.act.ensures.order
