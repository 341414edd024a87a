use Rattle.io_edge.specs.Sink.{Joins}
use Rattle.std.proofs.lemmas.Result.{err_from_is_err_and}
use Rattle.cqmmc_top.specs.Listing.{field_text}
use Rattle.cqmmc_top.proofs.Listed.{part_at}
use Rattle.cqmmc_top.proofs.listing.put_fields.Goals as goal

pub returns-in_err-put_field-clause-wrote : goal.returns-in_err-put_field-clause-wrote
returns-in_err-put_field-clause-wrote g c =
    let both : Joins g.K.Sink.took = record { join = g.met.K.Sink.took_both } in
    let p = err_from_is_err_and c.from_residual.result c.from_residual.ensures.1 in
    rw p.1 (part_at both (field_text c.args.csd.now) c.args.fields.now c.loop-field.field-index _ c.loop-field-test.true c.args.out.now c.loop-field.out c.put_field.new.out c.loop-field.invariant.taken c.in_err-put_field.ensures.wrote)
