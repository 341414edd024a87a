use Rattle.std.proofs.Common.{Err, Ok}
use Rattle.io_edge.specs.Sink.{Joins}
use Rattle.whole_run.proofs.Behind.{runs_on, stops_before}
use Rattle.whole_run.proofs.run.run_to_end.Goals as goal

pub go_on-requires : goal.go_on-requires
go_on-requires g c =
    let new = c.requires.new in
    let boots = c.in_default.ensures.boots new.plan new.faults new.valid new.coming new.fresh in
    record { going = record { ready = boots.ready; prompt = boots.prompt } }

pub returns-in-Ok-clause-runs : goal.returns-in-Ok-clause-runs
returns-in-Ok-clause-runs g c plan faults valid coming fresh =
    let both : Joins g.K.Sink.took = record { join = g.met.K.Sink.took_both } in
    runs_on g.K.Sink.took both plan faults (g.A.Array.state c.args.array.now) c.args.out.now c.boot.new.self (g.A.Array.state c.boot.new.array) c.boot.new.out c.go_on.new.world (g.A.Array.state c.go_on.new.array) c.go_on.new.out (Ok tt)
    (c.in_default.ensures.boots plan faults valid coming fresh) c.in-Ok.ensures.ends

pub returns-in-Err-go_on-clause-runs : goal.returns-in-Err-go_on-clause-runs
returns-in-Err-go_on-clause-runs g c plan faults valid coming fresh =
    let both : Joins g.K.Sink.took = record { join = g.met.K.Sink.took_both } in
    runs_on g.K.Sink.took both plan faults (g.A.Array.state c.args.array.now) c.args.out.now c.boot.new.self (g.A.Array.state c.boot.new.array) c.boot.new.out c.go_on.new.world (g.A.Array.state c.go_on.new.array) c.go_on.new.out
    (Err c.in-Err-go_on.halt) (c.in_default.ensures.boots plan faults valid coming fresh) c.in-Err-go_on.ensures.ends

pub returns-in-Err-clause-runs : goal.returns-in-Err-clause-runs
returns-in-Err-clause-runs g c plan faults valid coming fresh =
    stops_before g.K.Sink.took plan faults (g.A.Array.state c.args.array.now) c.args.out.now c.boot.new.self (g.A.Array.state c.boot.new.array) c.boot.new.out c.in-Err.halt
    (c.in-Err.ensures.boots plan faults valid coming fresh)
