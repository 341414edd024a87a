use Rattle.piece_data.proofs.Writing.{HasWritten}
use Rattle.piece_data.proofs.data.scatter.Given as goal

abbrev pub invariant-loop-piece : goal.invariant-loop-piece
invariant-loop-piece l = HasWritten l.initial.mem l.mem l.pieces l.first l.from l.piece-index l.done l.skip
