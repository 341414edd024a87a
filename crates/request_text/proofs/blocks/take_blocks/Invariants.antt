use Rattle.request_text.proofs.Digits.{SoFar}
use Rattle.request_text.proofs.blocks.take_blocks.Given as goal

-- the blocks of the digits so far were added
abbrev pub invariant-loop : goal.invariant-loop
invariant-loop l = SoFar l.digits l.counter l.fn.blocks l.blocks l.rest
