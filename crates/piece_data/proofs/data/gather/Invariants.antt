use Rattle.piece_data.proofs.Reading.{HasRead}
use Rattle.piece_data.proofs.data.gather.Given as goal

abbrev pub invariant-loop-piece : goal.invariant-loop-piece
invariant-loop-piece l = HasRead l.mem l.pieces l.first l.to l.piece-index l.done l.skip
