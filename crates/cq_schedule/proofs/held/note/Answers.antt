use Rattle.std.proofs.Common.{arith, subst, refl}
use Rattle.cq_regs.specs.Slots.{progress_of}
use Rattle.cq_schedule.specs.Held.{held_at, left_at}
use Rattle.cq_schedule.proofs.Filling.{IsFilled, filled_all, filled_write}
use Rattle.cq_schedule.proofs.HeldLaws.{HoldsTasks-noted}
use Rattle.cq_schedule.proofs.held.note.Goals as goal

pub returns-clause-all : goal.returns-clause-all
returns-clause-all c =
    filled_all (λ slot. left_at (progress_of c.args.regs.now.ring slot) (held_at c.args.places.now slot)) c.args.places.now c.loop-slot.places
    (subst (IsFilled (λ slot. left_at (progress_of c.args.regs.now.ring slot) (held_at c.args.places.now slot)) c.args.places.now c.loop-slot.places)
    (omega arith) c.loop-slot.invariant)

pub returns-clause-each : goal.returns-clause-each
returns-clause-each c = λ slot below. c.loop-slot.invariant.done slot (omega arith)

pub returns-clause-holds : goal.returns-clause-holds
returns-clause-holds c = HoldsTasks-noted c.args.places.now c.loop-slot.places c.args.regs.now (λ slot below. c.loop-slot.invariant.done slot (omega arith))

pub loop-slot-preserved : goal.loop-slot-preserved
loop-slot-preserved c =
    filled_write (λ slot. left_at (progress_of c.args.regs.now.ring slot) (held_at c.args.places.now slot)) (left_at (progress_of c.args.regs.now.ring c.loop-slot.slot)) c.args.places.now
    c.loop-slot.places c.loop-slot.slot c.from.result c.index-places-from.result c.leave_at.new.place c.loop-slot-test.true c.loop-slot.invariant
    c.from.ensures c.leave_at.ensures refl
