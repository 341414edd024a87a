use Rattle.std.proofs.Common.{List, sym, subst}
use Rattle.cq_chain.specs.declared.pieces.Piece.{Piece}
use Rattle.cq_chain.specs.Descriptors.{AreInside}
use Rattle.cq_schedule.specs.Held.{held_at}
use Rattle.cq_engine.specs.Holds.{IsNextBlock}
use Rattle.cq_engine.proofs.Places.{of-some}
use Rattle.cq_engine.proofs.calls.give_block.Goals as goal

pub read_block-requires-clause-inside : goal.read_block-requires-clause-inside
read_block-requires-clause-inside g c =
    let P : List Piece → Type 0 = λ pieces. AreInside c.args.mem.now pieces in
    let next : IsNextBlock c.args.mem.now c.args.k c.held_task.result.now = of-some (held_at c.args.held.now c.args.slot) c.held_task.result.now (IsNextBlock c.args.mem.now c.args.k) c.held_task.ensures c.requires.next in
    subst P (sym c.as_slice.ensures.value) next.lies.inside
