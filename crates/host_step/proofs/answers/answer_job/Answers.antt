use Rattle.std.proofs.Common.{◌≡◌, ◌∙◌, ap, refl, map, ◌∷◌}
use Rattle.std.proofs.lemmas.Result.{err_from_is_err_and}
use Rattle.std.specs.List.{range_with_len}
use Rattle.drv_ring.specs.Pieces.{tag_pieces}
use Rattle.io_edge.specs.Sink.{Joins}
use Rattle.piece_data.specs.Data.{block_of}
use Rattle.storage_model.specs.declared.plan.Job.TheVariants.{Read as ReadJob}
use Rattle.storage_model.specs.declared.trace.Item.TheVariants.{Read, Sector}
use Rattle.world_state.specs.Host.{answer_of_job}
use Rattle.world_state.specs.Path.{PathState, job, layout, plan_of}
use Rattle.host_step.proofs.Joined.{first_failed, first_taken, job_is}
use Rattle.host_step.proofs.answers.answer_job.Goals as goal

pub returns-in_err-print-in-Read-clause-takes : goal.returns-in_err-print-in-Read-clause-takes
returns-in_err-print-in-Read-clause-takes g c =
    let both : Joins g.K.Sink.took = record { join = g.met.K.Sink.took_both } in
    let plan : c.plan.result.now ≡ plan_of c.args.path.now = c.plan.ensures.plan ∙ ap (λ (p : PathState). plan_of p) c.path.view_is in
    let is : job c.args.path.now c.args.id ≡ ReadJob c.in-Read.sector c.in-Read.blocks c.in-Read.high =
    job_is c.args.path.now c.plan.result.now c.args.id c.at.result.now c.requires.above c.requires.below plan c.at.ensures ∙ c.in-Read.is in
    let more = map Sector (map (block_of c.args.path.now.memory (tag_pieces (layout c.args.path.now) c.args.tag c.in-Read.blocks)) (range_with_len 0 c.in-Read.blocks)) in
    let are : answer_of_job c.args.path.now c.args.tag c.args.id (job c.args.path.now c.args.id) ≡ Read c.args.id ∷ more =
    ap (answer_of_job c.args.path.now c.args.tag c.args.id) is in
    let p = err_from_is_err_and c.from_residual.result c.from_residual.ensures.1 in
    rw (p.1, p.2)
    (first_failed g.K.Sink.took both c.args.out.now c.print.new.out (Read c.args.id) (Read c.args.id) more
    (answer_of_job c.args.path.now c.args.tag c.args.id (job c.args.path.now c.args.id)) _ c.in_err-print-in-Read.ensures.halt refl are c.in_err-print-in-Read.ensures.takes)

pub returns-in_ok-print-in-Read-clause-takes : goal.returns-in_ok-print-in-Read-clause-takes
returns-in_ok-print-in-Read-clause-takes g c =
    let both : Joins g.K.Sink.took = record { join = g.met.K.Sink.took_both } in
    let plan : c.plan.result.now ≡ plan_of c.args.path.now = c.plan.ensures.plan ∙ ap (λ (p : PathState). plan_of p) c.path.view_is in
    let is : job c.args.path.now c.args.id ≡ ReadJob c.in-Read.sector c.in-Read.blocks c.in-Read.high =
    job_is c.args.path.now c.plan.result.now c.args.id c.at.result.now c.requires.above c.requires.below plan c.at.ensures ∙ c.in-Read.is in
    let more = map Sector (map (block_of c.args.path.now.memory (tag_pieces (layout c.args.path.now) c.args.tag c.in-Read.blocks)) (range_with_len 0 c.in-Read.blocks)) in
    let are : answer_of_job c.args.path.now c.args.tag c.args.id (job c.args.path.now c.args.id) ≡ Read c.args.id ∷ more =
    ap (answer_of_job c.args.path.now c.args.tag c.args.id) is in
    first_taken g.K.Sink.took both c.args.out.now c.print.new.out c.print_blocks.new.out (Read c.args.id) (Read c.args.id) more
    (answer_of_job c.args.path.now c.args.tag c.args.id (job c.args.path.now c.args.id)) c.print_blocks.result refl are c.in_ok-print-in-Read.ensures.takes c.print_blocks.ensures.takes
