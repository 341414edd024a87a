use Rattle.std.proofs.Common.{◌≡◌, Result, Ok, drop}
use Rattle.storage_model.specs.declared.ends.Halt.{Halt}
use Rattle.raw_machine.specs.Machine.{Moment, Stands, moment}
use Rattle.cqmmc_top.specs.Print.{HasCause}
use Rattle.cqmmc_top.specs.Raw.{Plays}
use Rattle.cqmmc_top.proofs.raw.play.Given as goal

-- what is left is a part of the script
abbrev pub invariant-loop-op : goal.invariant-loop-op
invariant-loop-op g l = record {
  same : l.op-items ≡ l.ops;
  stands : Stands l.raw (g.A.Array.state l.array);
  cause : HasCause (g.K.Sink.faults l.initial.out) (g.K.Sink.faults l.out) (g.A.Array.state l.initial.array) (g.A.Array.state l.array) (Ok tt);
  plays : (result : Result (Unit {0}) Halt) (new : Moment) (out : g.row.K.Denot) → Plays g.K.Sink.took (drop l.op-index l.ops) (moment l.raw (g.A.Array.state l.array)) l.out result new out
      → Plays g.K.Sink.took l.ops (moment l.initial.raw (g.A.Array.state l.initial.array)) l.initial.out result new out;
}
