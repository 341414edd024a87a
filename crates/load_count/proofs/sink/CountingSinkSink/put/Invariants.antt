use Rattle.std.proofs.Common.{◌≡◌, take}
use Rattle.std.specs.Prelude.{fold}
use Rattle.load_count.specs.Lines.{step}
use Rattle.load_count.proofs.sink.CountingSinkSink.put.Given as goal

-- the bytes so far were taken
abbrev pub invariant-loop-byte : goal.invariant-loop-byte
invariant-loop-byte l = l.self ≡ fold step l.initial.self (take l.byte-index l.piece)
