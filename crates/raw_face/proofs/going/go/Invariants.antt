use Rattle.cq_schedule.specs.Held.{remembered}
use Rattle.storage_model.specs.Count.{Later}
use Rattle.raw_machine.specs.Machine.{Stands, moment}
use Rattle.raw_face.proofs.Runs.{HasRun}
use Rattle.raw_machine.proofs.WorkLeft.{work_left}
use Rattle.raw_face.proofs.going.go.Given as goal

abbrev pub invariant-loop-raw : goal.invariant-loop-raw
invariant-loop-raw g l = record {
  run : HasRun g.K.Sink.took (moment l.initial.raw (g.A.Array.state l.initial.array)) l.initial.out (moment l.raw (g.A.Array.state l.array)) l.out;
  stands : Stands l.raw (g.A.Array.state l.array);
  sink : Later (g.K.Sink.faults l.initial.out) (g.K.Sink.faults l.out);
}

abbrev pub decreases-loop-raw : goal.decreases-loop-raw
decreases-loop-raw g l = work_left (remembered l.raw.engine.held l.raw.regs) l.raw.regs.ring
