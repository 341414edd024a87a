use Rattle.io_edge.specs.Sink.{Joins}
use Rattle.whole_run.proofs.Went.{went_ends}
use Rattle.whole_run.proofs.run.go_on.Goals as goal

pub returns-clause-ends : goal.returns-clause-ends
returns-clause-ends g c =
    let both : Joins g.K.Sink.took = record { join = g.met.K.Sink.took_both } in
    went_ends g.K.Sink.took both c.args.world.now (g.A.Array.state c.args.array.now) c.args.out.now c.take_events.new.world (g.A.Array.state c.take_events.new.array) c.take_events.new.out c.in_ok-take_events.ensures.went c.end_run.new.world
    (g.A.Array.state c.end_run.new.array) c.end_run.new.out c.end_run.result c.end_run.ensures.ends
