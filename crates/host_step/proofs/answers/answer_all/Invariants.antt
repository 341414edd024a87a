use Rattle.std.proofs.Common.{flat_map}
use Rattle.std.specs.List.{range_with_len}
use Rattle.storage_model.specs.Count.{Later}
use Rattle.trace_text.specs.Trace.{items_text}
use Rattle.world_state.specs.Host.{answer_at}
use Rattle.host_step.proofs.answers.answer_all.Given as goal

abbrev pub invariant-loop-tag : goal.invariant-loop-tag
invariant-loop-tag g l = record {
  taken : g.K.Sink.took l.initial.out (items_text (flat_map (answer_at l.path l.path.regs.completed) (range_with_len 0 l.tag))) l.out;
  faults : Later (g.K.Sink.faults l.initial.out) (g.K.Sink.faults l.out);
}
