use Rattle.std.proofs.Common.{◌≡◌, take, map}
use Rattle.fault_text.specs.Lines.{letter_byte}
use Rattle.fault_text.proofs.fields.letters_of.Given as goal

-- the bytes so far are letters
abbrev pub invariant-loop-byte : goal.invariant-loop-byte
invariant-loop-byte l = map letter_byte l.letters ≡ take l.byte-index l.word
