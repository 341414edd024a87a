use Rattle.std.proofs.Common.{map}
use Rattle.std.specs.List.{range_with_len}
use Rattle.storage_model.specs.Count.{Later}
use Rattle.drv_ring.specs.Pieces.{tag_pieces}
use Rattle.piece_data.specs.Data.{block_of}
use Rattle.storage_model.specs.declared.trace.Item.TheVariants.{Sector}
use Rattle.trace_text.specs.Trace.{items_text}
use Rattle.world_state.specs.Path.{layout}
use Rattle.host_step.proofs.answers.print_blocks.Given as goal

abbrev pub invariant-loop-k : goal.invariant-loop-k
invariant-loop-k g l = record {
  taken : g.K.Sink.took l.initial.out (items_text (map Sector (map (block_of l.path.memory (tag_pieces (layout l.path) l.tag l.blocks)) (range_with_len 0 l.k)))) l.out;
  faults : Later (g.K.Sink.faults l.initial.out) (g.K.Sink.faults l.out);
}
