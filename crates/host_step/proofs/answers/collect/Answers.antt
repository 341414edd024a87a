use Rattle.std.proofs.Common.{◌≡◌, ◌∙◌, ap, flat_map, ◌∷◌}
use Rattle.std.proofs.lemmas.Result.{err_from_is_err_and}
use Rattle.std.specs.List.{range_with_len}
use Rattle.io_edge.specs.Sink.{Joins}
use Rattle.storage_model.specs.declared.trace.Item.TheVariants.{Irq}
use Rattle.world_state.specs.Host.{answer_at, collect_lines}
use Rattle.world_state.specs.Path.{PathState}
use Rattle.host_step.proofs.Joined.{all_tags, first_failed, first_taken}
use Rattle.host_step.proofs.answers.collect.Goals as goal

pub returns-in_err-print-clause-takes : goal.returns-in_err-print-clause-takes
returns-in_err-print-clause-takes g c =
    let both : Joins g.K.Sink.took = record { join = g.met.K.Sink.took_both } in
    let mask : c.value-mask.result ≡ c.args.path.now.regs.completed = c.value-mask.ensures.value ∙ ap (λ (p : PathState). p.regs.completed) c.path.view_is in
    let more = flat_map (answer_at c.args.path.now c.args.path.now.regs.completed) (range_with_len 0 32) in
    let are : collect_lines c.args.path.now c.args.path.now.regs.completed ≡ Irq c.args.path.now.regs.completed ∷ more =
    ap (λ ks. Irq c.args.path.now.regs.completed ∷ flat_map (answer_at c.args.path.now c.args.path.now.regs.completed) ks) all_tags in
    let p = err_from_is_err_and c.from_residual.result c.from_residual.ensures.1 in
    rw (p.1, p.2)
    (first_failed g.K.Sink.took both c.args.out.now c.print.new.out (Irq c.value-mask.result) (Irq c.args.path.now.regs.completed) more
    (collect_lines c.args.path.now c.args.path.now.regs.completed) _ c.in_err-print.ensures.halt (ap Irq mask) are c.in_err-print.ensures.takes)

pub returns-clause-takes : goal.returns-clause-takes
returns-clause-takes g c =
    let both : Joins g.K.Sink.took = record { join = g.met.K.Sink.took_both } in
    let mask : c.value-mask.result ≡ c.args.path.now.regs.completed = c.value-mask.ensures.value ∙ ap (λ (p : PathState). p.regs.completed) c.path.view_is in
    let more = flat_map (answer_at c.args.path.now c.args.path.now.regs.completed) (range_with_len 0 32) in
    let are : collect_lines c.args.path.now c.args.path.now.regs.completed ≡ Irq c.args.path.now.regs.completed ∷ more =
    ap (λ ks. Irq c.args.path.now.regs.completed ∷ flat_map (answer_at c.args.path.now c.args.path.now.regs.completed) ks) all_tags in
    first_taken g.K.Sink.took both c.args.out.now c.print.new.out c.answer_all.new.out (Irq c.value-mask.result) (Irq c.args.path.now.regs.completed) more
    (collect_lines c.args.path.now c.args.path.now.regs.completed) c.answer_all.result (ap Irq mask) are c.in_ok-print.ensures.takes c.answer_all.ensures.takes
