use Rattle.std.proofs.Common.{◌∷◌, [], refl, subst}
use Rattle.std.proofs.lemmas.Result.{err_from_is_err_and}
use Rattle.trace_print.specs.Prints.{Takes}
use Rattle.world.specs.Runs.{in_order}
use Rattle.world.proofs.Boots.{boots_opened, boots_shut}
use Rattle.world.proofs.boot.begin_run.Goals as goal

pub returns-in_err-open_path-clause-boots : goal.returns-in_err-open_path-clause-boots
returns-in_err-open_path-clause-boots g c order plan faults valid coming fresh =
    let p = err_from_is_err_and c.from_residual.result c.from_residual.ensures.1 in
    rw (p.1, p.2)
    (boots_shut g.K.Sink.took plan faults (in_order c.args.path.now order) (g.A.Array.state c.args.array.now) g.met.K.Sink.took_nothing c.args.out.now _ (in_order c.open_path.new.path order)
    c.open_path.new.path.card (g.A.Array.state c.open_path.new.array) c.in_err-open_path.ensures.opens)

pub returns-clause-boots : goal.returns-clause-boots
returns-clause-boots g c order plan faults valid coming fresh =
    boots_opened g.K.Sink.took plan faults (in_order c.args.path.now order) (g.A.Array.state c.args.array.now) c.runs_begin_sound.ensures c.runs_stand_opened.ensures c.back_again.ensures.tied valid coming fresh
    (in_order c.open_path.new.path order) (g.A.Array.state c.open_path.new.array) c.in_ok-open_path.ensures.opens c.in_ok-open_path.ensures.path refl c.args.out.now c.print.new.out c.print.result
    (subst (λ line. Takes g.K.Sink.took c.args.out.now (line ∷ []) c.print.result c.print.new.out) c.card_line-line.ensures c.print.ensures.takes) c.print.ensures.halt
