use Rattle.std.proofs.Common.{[], Ok, Err, subst}
use Rattle.std.proofs.lemmas.Result.{err_from_is_err_and}
use Rattle.intent_store.specs.declared.ends.StoreEnd.{StoreEnd}
use Rattle.intent_store.specs.declared.ends.StoreEnd.TheVariants.{Flash, PowerLost}
use Rattle.power_laws.specs.Power.{FlushEvent}
use Rattle.storage_model.specs.declared.trace.End.TheVariants.{Good, Fault}
use Rattle.storage_model.specs.declared.trace.Item.TheVariants.{Off}
use Rattle.world.specs.Runs.{in_order}
use Rattle.world.proofs.Endings.{again, ends_fault, ends_good, fault_broken, good_broken, lost_again, lost_halt, not_lost, part_of_halt}
use Rattle.world.proofs.finish.end_run.Goals as goal

pub returns-in_err-print-in-Ok-clause-finishes : goal.returns-in_err-print-in-Ok-clause-finishes
returns-in_err-print-in-Ok-clause-finishes g c order =
    let p = err_from_is_err_and c.from_residual.result c.from_residual.ensures.1 in
    rw (p.1, p.2)
    (good_broken c.runs_are_read.ensures c.runs_end_by_flush.ensures c.lines_have_causes.ensures.flushes c.lines_have_causes.ensures.joined c.power_and_card_make_events.ensures.flush g.K.Sink.took
    (in_order c.args.path.now order) (g.A.Array.state c.args.array.now) c.args.out.now c.print.new.out c.requires.ready c.requires.none c.flush_all.new.path (g.A.Array.state c.flush_all.new.array) c.state_is_read.ensures.laws _
    (in_order c.flush_all.new.path order) c.in-Ok.ensures.event c.in_err-print-in-Ok.ensures.halt
    (part_of_halt g.K.Sink.took c.args.out.now c.print.new.out (Off Good) _ c.in_err-print-in-Ok.ensures.takes c.in_err-print-in-Ok.ensures.halt))

pub returns-in_ok-print-in-Ok-clause-finishes : goal.returns-in_ok-print-in-Ok-clause-finishes
returns-in_ok-print-in-Ok-clause-finishes g c order =
    ends_good c.runs_are_read.ensures c.runs_end_by_flush.ensures c.lines_have_causes.ensures.flushes c.lines_have_causes.ensures.joined c.power_and_card_make_events.ensures.flush g.K.Sink.took
    (in_order c.args.path.now order) (g.A.Array.state c.args.array.now) c.args.out.now c.print.new.out c.requires.ready c.requires.none c.flush_all.new.path (g.A.Array.state c.flush_all.new.array)
    c.in-Ok.ensures.event c.in-Ok.ensures.settled c.in_ok-print-in-Ok.ensures.takes

pub returns-in_err-print-in-Err-Flash-clause-finishes : goal.returns-in_err-print-in-Err-Flash-clause-finishes
returns-in_err-print-in-Err-Flash-clause-finishes g c order =
    let p = err_from_is_err_and c.from_residual-in_err-print-in-Err-Flash.result c.from_residual-in_err-print-in-Err-Flash.ensures.1 in
    rw (p.1, p.2)
    (fault_broken c.runs_are_read.ensures c.runs_end_by_flush.ensures c.lines_have_causes.ensures.flushes c.lines_have_causes.ensures.joined c.power_and_card_make_events.ensures.flush g.K.Sink.took
    (in_order c.args.path.now order) (g.A.Array.state c.args.array.now) c.args.out.now c.print-in-Err-Flash.new.out c.requires.ready c.requires.none c.flush_all.new.path (g.A.Array.state c.flush_all.new.array) _
    (in_order c.flush_all.new.path order) (subst (λ (e : StoreEnd). FlushEvent c.args.path.now (g.A.Array.state c.args.array.now) c.flush_all.new.path (g.A.Array.state c.flush_all.new.array) (Err e)) c.in-Err-Flash.field-0-is c.in-Err-Flash.ensures.event) c.in_err-print-in-Err-Flash.ensures.halt
    (part_of_halt g.K.Sink.took c.args.out.now c.print-in-Err-Flash.new.out (Off Fault) _ c.in_err-print-in-Err-Flash.ensures.takes c.in_err-print-in-Err-Flash.ensures.halt))

pub returns-in_ok-print-in-Err-Flash-clause-finishes : goal.returns-in_ok-print-in-Err-Flash-clause-finishes
returns-in_ok-print-in-Err-Flash-clause-finishes g c order =
    ends_fault c.runs_are_read.ensures c.runs_end_by_flush.ensures c.lines_have_causes.ensures.flushes c.lines_have_causes.ensures.joined c.power_and_card_make_events.ensures.flush g.K.Sink.took
    (in_order c.args.path.now order) (g.A.Array.state c.args.array.now) c.args.out.now c.print-in-Err-Flash.new.out c.requires.ready c.requires.none c.flush_all.new.path (g.A.Array.state c.flush_all.new.array)
    (in_order c.flush_all.new.path order) (subst (λ (e : StoreEnd). FlushEvent c.args.path.now (g.A.Array.state c.args.array.now) c.flush_all.new.path (g.A.Array.state c.flush_all.new.array) (Err e)) c.in-Err-Flash.field-0-is c.in-Err-Flash.ensures.event) c.in_ok-print-in-Err-Flash.ensures.takes

pub returns-in_err-cut-in-Err-PowerLost-clause-finishes : goal.returns-in_err-cut-in-Err-PowerLost-clause-finishes
returns-in_err-cut-in-Err-PowerLost-clause-finishes g c order =
    let p = err_from_is_err_and c.from_residual-in_err-cut-in-Err-PowerLost.result c.from_residual-in_err-cut-in-Err-PowerLost.ensures.1 in
    rw (p.1, p.2)
    (lost_halt c.runs_are_read.ensures c.runs_end_by_flush.ensures c.lines_have_causes.ensures.flushes c.lines_have_causes.ensures.joined c.power_and_card_make_events.ensures.flush g.K.Sink.took
    (in_order c.args.path.now order) (g.A.Array.state c.args.array.now) c.args.out.now c.cut.new.out c.requires.ready c.requires.none c.flush_all.new.path (g.A.Array.state c.flush_all.new.array)
    (subst (λ (e : StoreEnd). FlushEvent c.args.path.now (g.A.Array.state c.args.array.now) c.flush_all.new.path (g.A.Array.state c.flush_all.new.array) (Err e)) c.in-Err-PowerLost.field-0-is c.in-Err-PowerLost.ensures.event) c.flushes_lose_power.ensures.back c.flushes_lose_power.ensures.ended c.flushes_lose_power.ensures.stopped c.cut.new.path (g.A.Array.state c.cut.new.array) _
    (in_order c.cut.new.path order) c.in_err-cut-in-Err-PowerLost.ensures.loses)

pub returns-in_ok-cut-in-Err-PowerLost-clause-finishes : goal.returns-in_ok-cut-in-Err-PowerLost-clause-finishes
returns-in_ok-cut-in-Err-PowerLost-clause-finishes g c order =
    lost_again c.runs_are_read.ensures c.runs_end_by_flush.ensures c.lines_have_causes.ensures.flushes c.lines_have_causes.ensures.joined c.power_and_card_make_events.ensures.flush g.K.Sink.took
    (in_order c.args.path.now order) (g.A.Array.state c.args.array.now) c.args.out.now c.cut.new.out c.requires.ready c.requires.none c.flush_all.new.path (g.A.Array.state c.flush_all.new.array)
    (subst (λ (e : StoreEnd). FlushEvent c.args.path.now (g.A.Array.state c.args.array.now) c.flush_all.new.path (g.A.Array.state c.flush_all.new.array) (Err e)) c.in-Err-PowerLost.field-0-is c.in-Err-PowerLost.ensures.event) c.flushes_lose_power.ensures.back c.flushes_lose_power.ensures.ended c.flushes_lose_power.ensures.stopped c.cut.new.path (g.A.Array.state c.cut.new.array)
    c.in_ok-cut-in-Err-PowerLost.ensures.loses

pub returns-in_ok-cut-in-Err-PowerLost-clause-again : goal.returns-in_ok-cut-in-Err-PowerLost-clause-again
returns-in_ok-cut-in-Err-PowerLost-clause-again g c order is =
    again c.runs_are_read.ensures c.runs_end_by_flush.ensures c.lines_have_causes.ensures.flushes c.lines_have_causes.ensures.joined c.power_and_card_make_events.ensures.flush g.K.Sink.took
    (in_order c.args.path.now order) (g.A.Array.state c.args.array.now) c.args.out.now c.cut.new.out c.requires.ready c.requires.none c.flush_all.new.path (g.A.Array.state c.flush_all.new.array)
    (subst (λ (e : StoreEnd). FlushEvent c.args.path.now (g.A.Array.state c.args.array.now) c.flush_all.new.path (g.A.Array.state c.flush_all.new.array) (Err e)) c.in-Err-PowerLost.field-0-is c.in-Err-PowerLost.ensures.event) c.cut.new.path (g.A.Array.state c.cut.new.array) c.in_ok-cut-in-Err-PowerLost.ensures.back

pub cut-requires-clause-outlasts : goal.cut-requires-clause-outlasts
cut-requires-clause-outlasts g c =
    c.back_again.ensures.outlasts c.flush_all.new.path
    (c.power_and_card_make_events.ensures.flush c.args.path.now (g.A.Array.state c.args.array.now) c.flush_all.new.path (g.A.Array.state c.flush_all.new.array) (Err PowerLost) (subst (λ (e : StoreEnd). FlushEvent c.args.path.now (g.A.Array.state c.args.array.now) c.flush_all.new.path (g.A.Array.state c.flush_all.new.array) (Err e)) c.in-Err-PowerLost.field-0-is c.in-Err-PowerLost.ensures.event) c.requires.ready.tied).ties

pub returns-in_ok-cut-in-Err-PowerLost-clause-once : goal.returns-in_ok-cut-in-Err-PowerLost-clause-once
returns-in_ok-cut-in-Err-PowerLost-clause-once g c empty is =
    not_lost c.runs_are_read.ensures c.runs_end_by_flush.ensures c.lines_have_causes.ensures.flushes c.lines_have_causes.ensures.joined c.power_and_card_make_events.ensures.flush g.K.Sink.took
    (in_order c.args.path.now (record { turns = []; letters = 0; cuts = []; used = [] })) (g.A.Array.state c.args.array.now) c.args.out.now c.cut.new.out c.requires.ready c.requires.none c.flush_all.new.path
    (g.A.Array.state c.flush_all.new.array) (subst (λ (e : StoreEnd). FlushEvent c.args.path.now (g.A.Array.state c.args.array.now) c.flush_all.new.path (g.A.Array.state c.flush_all.new.array) (Err e)) c.in-Err-PowerLost.field-0-is c.in-Err-PowerLost.ensures.event) empty c.in-Err-PowerLost.ensures.bare
