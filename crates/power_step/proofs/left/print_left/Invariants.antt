use Rattle.std.proofs.Common.{◌≡◌, ◌-◌, true, drop, length, Result}
use Rattle.storage_model.specs.Count.{Later}
use Rattle.storage_model.specs.declared.ends.Halt.{Halt}
use Rattle.array_edge.specs.Array.{ArrayState}
use Rattle.card_core.specs.Card.{CardState}
use Rattle.card_store.specs.Store.{IsOpen}
use Rattle.power_step.specs.Cut.{LeftWritten}
use Rattle.power_step.proofs.left.print_left.Given as goal

abbrev pub invariant-loop-k : goal.invariant-loop-k
invariant-loop-k g l = record {
  left : (result : Result (Unit {0}) Halt) (new : g.row.K.Denot) (card' : CardState) (a' : ArrayState)
      → LeftWritten g.K.Sink.took (drop l.k l.sectors) l.out l.card (g.A.Array.state l.array) result new card' a'
      → LeftWritten g.K.Sink.took l.sectors l.initial.out l.initial.card (g.A.Array.state l.initial.array) result new card' a';
  is_open : IsOpen l.card.store (g.A.Array.state l.array);
  powered : (g.A.Array.state l.array).powered ≡ true;
  faults : Later (g.K.Sink.faults l.initial.out) (g.K.Sink.faults l.out);
}

abbrev pub decreases-loop-k : goal.decreases-loop-k
decreases-loop-k g l = length l.sectors - l.k
