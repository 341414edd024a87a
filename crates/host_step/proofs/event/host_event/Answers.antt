use Rattle.std.proofs.Common.{◌≡◌, ◌∙◌, List, ap, subst}
use Rattle.io_edge.specs.Sink.{Joins}
use Rattle.storage_model.specs.declared.trace.Item.{Item}
use Rattle.trace_print.proofs.Joined.{takes_behind}
use Rattle.trace_print.specs.Prints.{Takes}
use Rattle.world_state.specs.Path.{PathState}
use Rattle.host_step.proofs.Joined.{failed_before, lines_are}
use Rattle.host_step.proofs.event.host_event.Goals.{in-Err, in-Ok}
use Rattle.host_step.proofs.event.host_event.Goals as goal
use Rattle.host_step.specs.Lines.{answers_of, lines_behind}

pub returns-clause-prints : goal.returns-clause-prints
returns-clause-prints g c =
    let both : Joins g.K.Sink.took = record { join = g.met.K.Sink.took_both } in
    let act = c.driver_event-act.result in
    let are = lines_are c.args.path.now (g.A.Array.state c.args.array.now) c.driver_event-act.new.path (g.A.Array.state c.driver_event-act.new.array) act c.driver_event-act.ensures in
    let front = answers_of c.args.path.now in
    let behind = lines_behind c.driver_event-act.new.path.script.sent act in
    record {
      act = act;
      event = c.driver_event-act.ensures;
      taken = elim c.match-answered.branch [
        | in-Err w ↦
            rw (are, w.result-is, w.out-is)
            (failed_before g.K.Sink.took c.args.out.now c.answer_done-answered.new.out front behind w.in-Err.halt w.in-Err.ensures.halt w.in-Err.ensures.takes)
        | in-Ok w ↦
            let lines : w.lines_of.result ≡ behind = w.lines_of.ensures ∙ ap (λ n. lines_behind n act) (w.sent.ensures ∙ ap (λ (p : PathState). p.script.sent) c.path.view_is) in
            let last : Takes g.K.Sink.took c.answer_done-answered.new.out behind w.print.result w.print.new.out =
            subst (λ (xs : List Item). Takes g.K.Sink.took c.answer_done-answered.new.out xs w.print.result w.print.new.out) lines w.print.ensures.takes in
            rw (are, w.result-is, w.out-is)
            (takes_behind g.K.Sink.took both c.args.out.now c.answer_done-answered.new.out w.print.new.out front behind w.print.result w.in-Ok.ensures.takes last)
      ];
    }
