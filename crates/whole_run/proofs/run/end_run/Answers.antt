use Rattle.std.proofs.Common.{Err, Ok, ap, subst}
use Rattle.std.proofs.lemmas.Result.{err_from_is_err_and}
use Rattle.io_edge.specs.Sink.{Joins}
use Rattle.world.specs.Runs.{Finishes}
use Rattle.whole_run.proofs.Ending.{again_went, halt_ends, off_ends}
use Rattle.whole_run.proofs.Went.{went_ends}
use Rattle.whole_run.proofs.run.end_run.Goals as goal

pub returns-in_err-finish-clause-ends : goal.returns-in_err-finish-clause-ends
returns-in_err-finish-clause-ends g c =
    let p = err_from_is_err_and c.from_residual.result c.from_residual.ensures.1 in
    rw (p.1, p.2)
    (halt_ends g.K.Sink.took c.runs_are_read.ensures c.args.world.now (g.A.Array.state c.args.array.now) c.args.out.now c.requires.none c.finish.new.self (g.A.Array.state c.finish.new.array) c.finish.new.out c.in_err-finish.field-0.0
    c.in_err-finish.ensures.finishes)

pub returns-in-Off-clause-ends : goal.returns-in-Off-clause-ends
returns-in-Off-clause-ends g c =
    off_ends g.K.Sink.took c.runs_are_read.ensures c.args.world.now (g.A.Array.state c.args.array.now) c.args.out.now c.requires.none c.finish.new.self (g.A.Array.state c.finish.new.array) c.finish.new.out
    (subst (λ f. Finishes g.K.Sink.took c.args.world.now (g.A.Array.state c.args.array.now) c.args.out.now (Ok f) c.finish.new.self (g.A.Array.state c.finish.new.array) c.finish.new.out) c.in-Off.is c.in_ok-finish.ensures.finishes)

pub returns-in_err-finish-in-Again-clause-ends : goal.returns-in_err-finish-in-Again-clause-ends
returns-in_err-finish-in-Again-clause-ends g c =
    let both : Joins g.K.Sink.took = record { join = g.met.K.Sink.took_both } in
    let back = c.in_ok-finish.ensures.again (ap (λ f. Ok f) c.in-Again.is) in
    let first =
    subst (λ f. Finishes g.K.Sink.took c.args.world.now (g.A.Array.state c.args.array.now) c.args.out.now (Ok f) c.finish.new.self (g.A.Array.state c.finish.new.array) c.finish.new.out) c.in-Again.is c.in_ok-finish.ensures.finishes in
    let went = again_went g.K.Sink.took c.runs_are_read.ensures c.args.world.now (g.A.Array.state c.args.array.now) c.args.out.now c.requires.none c.finish.new.self (g.A.Array.state c.finish.new.array) c.finish.new.out first back in
    let p = err_from_is_err_and c.from_residual-in_err-finish-in-Again.result c.from_residual-in_err-finish-in-Again.ensures.1 in
    rw (p.1, p.2)
    (went_ends g.K.Sink.took both c.args.world.now (g.A.Array.state c.args.array.now) c.args.out.now c.finish.new.self (g.A.Array.state c.finish.new.array) c.finish.new.out went c.finish-in-Again.new.self
    (g.A.Array.state c.finish-in-Again.new.array) c.finish-in-Again.new.out (Err c.in_err-finish-in-Again.field-0.0)
    (halt_ends g.K.Sink.took c.runs_are_read.ensures c.finish.new.self (g.A.Array.state c.finish.new.array) c.finish.new.out back.none c.finish-in-Again.new.self (g.A.Array.state c.finish-in-Again.new.array) c.finish-in-Again.new.out
    c.in_err-finish-in-Again.field-0.0 c.in_err-finish-in-Again.ensures.finishes))

pub returns-in-Off-2-clause-ends : goal.returns-in-Off-2-clause-ends
returns-in-Off-2-clause-ends g c =
    let both : Joins g.K.Sink.took = record { join = g.met.K.Sink.took_both } in
    let back = c.in_ok-finish.ensures.again (ap (λ f. Ok f) c.in-Again.is) in
    let first =
    subst (λ f. Finishes g.K.Sink.took c.args.world.now (g.A.Array.state c.args.array.now) c.args.out.now (Ok f) c.finish.new.self (g.A.Array.state c.finish.new.array) c.finish.new.out) c.in-Again.is c.in_ok-finish.ensures.finishes in
    let went = again_went g.K.Sink.took c.runs_are_read.ensures c.args.world.now (g.A.Array.state c.args.array.now) c.args.out.now c.requires.none c.finish.new.self (g.A.Array.state c.finish.new.array) c.finish.new.out first back in
    let last =
    subst (λ f. Finishes g.K.Sink.took c.finish.new.self (g.A.Array.state c.finish.new.array) c.finish.new.out (Ok f) c.finish-in-Again.new.self (g.A.Array.state c.finish-in-Again.new.array) c.finish-in-Again.new.out) c.in-Off-2.is
    c.in_ok-finish-in-Again.ensures.finishes in
    went_ends g.K.Sink.took both c.args.world.now (g.A.Array.state c.args.array.now) c.args.out.now c.finish.new.self (g.A.Array.state c.finish.new.array) c.finish.new.out went c.finish-in-Again.new.self
    (g.A.Array.state c.finish-in-Again.new.array) c.finish-in-Again.new.out (Ok tt)
    (off_ends g.K.Sink.took c.runs_are_read.ensures c.finish.new.self (g.A.Array.state c.finish.new.array) c.finish.new.out back.none c.finish-in-Again.new.self (g.A.Array.state c.finish-in-Again.new.array) c.finish-in-Again.new.out last)
