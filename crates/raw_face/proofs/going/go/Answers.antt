use Rattle.std.proofs.Common.{Ok, sym}
use Rattle.std.proofs.lemmas.Result.{err_from_is_err_and}
use Rattle.io_edge.specs.Sink.{Joins}
use Rattle.card_link.specs.Made.{CardMade}
use Rattle.raw_machine.specs.Machine.{behind_of, moment}
use Rattle.raw_face.specs.Reply.{output_of}
use Rattle.raw_machine.proofs.Falling.{event_down}
use Rattle.raw_face.proofs.Runs.{Follows, ended_ok, failed, follows, later_both, over_by, printed_after, run_more, run_over}
use Rattle.raw_face.proofs.going.go.Goals as goal

pub returns-in_err-print_reply-clause-does : goal.returns-in_err-print_reply-clause-does
returns-in_err-print_reply-clause-does g c =
    let both : Joins g.K.Sink.took = record { join = g.met.K.Sink.took_both } in
    let p = err_from_is_err_and c.from_residual.result c.from_residual.ensures.1 in
    let old = moment c.args.raw.now (g.A.Array.state c.args.array.now) in
    let between = moment c.loop-raw.raw (g.A.Array.state c.loop-raw.array) in
    let new = moment c.event-did.new.self (g.A.Array.state c.event-did.new.array) in
    let f : Follows g.K.Sink.took between c.loop-raw.out c.event-did.result (failed c.in_err-print_reply.field-0.0) new c.print_reply.new.out =
    follows g.K.Sink.took between new c.loop-raw.out c.print_reply.new.out c.event-did.result (failed c.in_err-print_reply.field-0.0) (output_of c.reply_of.result)
    c.event-did.ensures.happens c.reply_of.ensures c.in_err-print_reply.ensures.shows c.event-did.ensures.ends c.loop-raw.invariant.stands.powered in
    rw (p.1, p.2)
    (run_over g.K.Sink.took both old between new c.args.out.now c.loop-raw.out c.print_reply.new.out c.event-did.result (failed c.in_err-print_reply.field-0.0)
    c.loop-raw.invariant.run f
    (over_by g.K.Sink.took c.loop-raw.out c.print_reply.new.out c.event-did.result c.event-did.new.self.regs c.in_err-print_reply.field-0.0 f.shows)
    (printed_after c.event-did.result (output_of c.reply_of.result) (failed c.in_err-print_reply.field-0.0) c.reply_of.ensures c.in_err-print_reply.ensures.failed))

pub returns-then-not-goes_on-clause-does : goal.returns-then-not-goes_on-clause-does
returns-then-not-goes_on-clause-does g c =
    let both : Joins g.K.Sink.took = record { join = g.met.K.Sink.took_both } in
    let old = moment c.args.raw.now (g.A.Array.state c.args.array.now) in
    let between = moment c.loop-raw.raw (g.A.Array.state c.loop-raw.array) in
    let new = moment c.event-did.new.self (g.A.Array.state c.event-did.new.array) in
    run_over g.K.Sink.took both old between new c.args.out.now c.loop-raw.out c.print_reply.new.out c.event-did.result (Ok tt) c.loop-raw.invariant.run
    (follows g.K.Sink.took between new c.loop-raw.out c.print_reply.new.out c.event-did.result (Ok tt) (output_of c.reply_of.result)
    c.event-did.ensures.happens c.reply_of.ensures c.in_ok-print_reply.ensures.shows c.event-did.ensures.ends c.loop-raw.invariant.stands.powered)
    (λ apart. sym c.if-not-goes_on.ensures.value) (λ ok. absurd (cc ok))

pub loop-raw-smaller : goal.loop-raw-smaller
loop-raw-smaller g c =
    event_down CardMade (behind_of (moment c.loop-raw.raw (g.A.Array.state c.loop-raw.array))) (behind_of (moment c.event-did.new.self (g.A.Array.state c.event-did.new.array)))
    c.loop-raw.raw.engine c.event-did.new.self.engine c.loop-raw.raw.regs c.event-did.new.self.regs c.loop-raw.raw.memory c.event-did.new.self.memory
    c.event-did.result c.event-did.ensures.happens c.goes_on.ensures.below (sym c.if-not-goes_on.ensures.value)

pub loop-raw-preserved : goal.loop-raw-preserved
loop-raw-preserved g c =
    let both : Joins g.K.Sink.took = record { join = g.met.K.Sink.took_both } in
    let old = moment c.args.raw.now (g.A.Array.state c.args.array.now) in
    let between = moment c.loop-raw.raw (g.A.Array.state c.loop-raw.array) in
    let new = moment c.event-did.new.self (g.A.Array.state c.event-did.new.array) in
    let f : Follows g.K.Sink.took between c.loop-raw.out c.event-did.result (Ok tt) new c.print_reply.new.out =
    follows g.K.Sink.took between new c.loop-raw.out c.print_reply.new.out c.event-did.result (Ok tt) (output_of c.reply_of.result)
    c.event-did.ensures.happens c.reply_of.ensures c.in_ok-print_reply.ensures.shows c.event-did.ensures.ends c.loop-raw.invariant.stands.powered in
    record {
      run = run_more g.K.Sink.took both old between new c.args.out.now c.loop-raw.out c.print_reply.new.out c.event-did.result tt c.loop-raw.invariant.run f (sym c.if-not-goes_on.ensures.value);
      stands = c.event-did.ensures.stands (ended_ok c.event-did.result tt f.shows.1);
      sink = later_both (g.K.Sink.faults c.args.out.now) (g.K.Sink.faults c.loop-raw.out) (g.K.Sink.faults c.print_reply.new.out) c.loop-raw.invariant.sink c.print_reply.ensures.sink.later;
    }
