use Rattle.std.proofs.Common.{Err, refl, subst}
use Rattle.cq_task.specs.declared.list.TaskList.{TaskList}
use Rattle.cq_task.specs.Meaning.{Means}
use Rattle.cq_engine.proofs.calls.serve.Goals as goal

pub returns-in-Err-clause-serves : goal.returns-in-Err-clause-serves
returns-in-Err-clause-serves g c =
    let P : TaskList → Type 0 = λ list. Means c.args.mem.now list c.args.slot (Err c.in-Err.why) in
    record {
      meaning = Err c.in-Err.why;
      means = subst P c.list_of.ensures ((c.read_slot.ensures (Err c.in-Err.why)).0 c.in-Err.is);
      serves = record { link = refl; outcome = c.drop_slot.ensures.after c.args.held.now };
    }
