use Rattle.std.proofs.Common.{◌≡◌, ◌++◌, take}
use Rattle.fault_text.proofs.read.push_all.Given as goal

-- the letters so far stand behind those before
abbrev pub invariant-loop-letter : goal.invariant-loop-letter
invariant-loop-letter l = l.list ≡ l.initial.list ++ take l.letter-index l.letter-items
