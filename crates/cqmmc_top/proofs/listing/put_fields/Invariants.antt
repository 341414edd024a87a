use Rattle.std.proofs.Common.{take, flat_map}
use Rattle.storage_model.specs.Count.{Later}
use Rattle.cqmmc_top.specs.Listing.{field_text}
use Rattle.cqmmc_top.proofs.listing.put_fields.Given as goal

abbrev pub invariant-loop-field : goal.invariant-loop-field
invariant-loop-field g l = record {
  taken : g.K.Sink.took l.initial.out (flat_map (field_text l.csd) (take l.field-index l.fields)) l.out;
  later : Later (g.K.Sink.faults l.initial.out) (g.K.Sink.faults l.out);
}
