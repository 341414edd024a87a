use Rattle.std.proofs.Common.{◌≡◌, ◌∙◌, Err, Ok, ap, subst, sym}
use Rattle.std.proofs.lemmas.Result.{err_from_is_err_and}
use Rattle.io_edge.specs.Sink.{Joins}
use Rattle.card_store.specs.Store.{Stands}
use Rattle.world_state.specs.Path.{PathState}
use Rattle.power_step.specs.Cut.{LostWritten}
use Rattle.power_step.proofs.Backs.{AreNoted}
use Rattle.power_step.proofs.Darks.{broke_at_once, lost_dark}
use Rattle.power_step.proofs.Returning.{cut_back, cut_loses}
use Rattle.power_step.proofs.loss.cut.Goals as goal

pub returns-in_err-print-clause-loses : goal.returns-in_err-print-clause-loses
returns-in_err-print-clause-loses g c =
    let p = err_from_is_err_and c.from_residual.result c.from_residual.ensures.1 in
    rw (p.1, p.2)
    (broke_at_once g.K.Sink.took c.args.path.now c.args.path.now (g.A.Array.state c.args.array.now) c.requires.outlasts c.args.out.now c.print.new.out c.in_err-print.field-0.0 c.in_err-print.ensures.takes c.in_err-print.ensures.halt)

pub returns-in_err-print_lost-clause-loses : goal.returns-in_err-print_lost-clause-loses
returns-in_err-print_lost-clause-loses g c =
    let both : Joins g.K.Sink.took = record { join = g.met.K.Sink.took_both } in
    let p = err_from_is_err_and c.from_residual-in_err-print_lost.result c.from_residual-in_err-print_lost.ensures.1 in
    let halt = c.in_err-print_lost.field-0.0 in
    let lost = subst (λ (q : PathState). LostWritten g.K.Sink.took q.driver.requests.holders 0 c.print.new.out (Err halt) c.print_lost.new.out) c.path.view_is c.in_err-print_lost.ensures.lost in
    rw (p.1, p.2)
    (lost_dark g.K.Sink.took both c.args.path.now c.args.path.now (g.A.Array.state c.args.array.now) c.requires.outlasts c.args.out.now c.print.new.out c.in_ok-print.ensures.takes c.print_lost.new.out halt lost c.in_err-print_lost.ensures.halt)

pub returns-clause-loses : goal.returns-clause-loses
returns-clause-loses g c =
    let both : Joins g.K.Sink.took = record { join = g.met.K.Sink.took_both } in
    let lost = subst (λ (q : PathState). LostWritten g.K.Sink.took q.driver.requests.holders 0 c.print.new.out (Ok tt) c.print_lost.new.out) c.path.view_is c.in_ok-print_lost.ensures.lost in
    let store : c.store.result.now ≡ c.args.path.now.card.store = c.store.ensures ∙ ap (λ (q : PathState). q.card.store) c.path.view_is in
    let noted : AreNoted c.note.new.self c.args.path.now.card = λ those array stands. c.note.ensures.noted those array (subst (λ s. Stands those s array) (sym store) stands) in
    cut_loses g.K.Sink.took both c.args.path.now (g.A.Array.state c.args.array.now) c.requires.outlasts c.note.new.self noted _ (c.path-2.view_is ∙ c.begin_anew.ensures) c.args.out.now c.print.new.out c.print_lost.new.out
    c.come_back.new.out c.come_back.new.card (g.A.Array.state c.come_back.new.array) c.come_back.result c.in_ok-print.ensures.takes lost c.come_back.ensures.returns

pub returns-clause-back : goal.returns-clause-back
returns-clause-back g c =
    let both : Joins g.K.Sink.took = record { join = g.met.K.Sink.took_both } in
    let lost = subst (λ (q : PathState). LostWritten g.K.Sink.took q.driver.requests.holders 0 c.print.new.out (Ok tt) c.print_lost.new.out) c.path.view_is c.in_ok-print_lost.ensures.lost in
    let store : c.store.result.now ≡ c.args.path.now.card.store = c.store.ensures ∙ ap (λ (q : PathState). q.card.store) c.path.view_is in
    let noted : AreNoted c.note.new.self c.args.path.now.card = λ those array stands. c.note.ensures.noted those array (subst (λ s. Stands those s array) (sym store) stands) in
    cut_back g.K.Sink.took both c.args.path.now (g.A.Array.state c.args.array.now) c.requires.outlasts c.note.new.self noted _ (c.path-2.view_is ∙ c.begin_anew.ensures) c.args.out.now c.print.new.out c.print_lost.new.out
    c.come_back.new.out c.come_back.new.card (g.A.Array.state c.come_back.new.array) c.come_back.result c.in_ok-print.ensures.takes lost c.come_back.ensures.returns
