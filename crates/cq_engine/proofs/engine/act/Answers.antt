use Rattle.std.proofs.Common.{refl, sym, subst}
use Rattle.std.specs.Prelude.{Option}
use Rattle.std.specs.Option.{IsSomeAnd}
use Rattle.cmd_words.specs.declared.command.Command.TheVariants.{Address as StartSector}
use Rattle.cq_schedule.specs.declared.held.HeldTask.{HeldTask}
use Rattle.cq_schedule.specs.declared.rules.Due.TheVariants.{Address}
use Rattle.cq_engine.specs.After.{after_address}
use Rattle.cq_engine.specs.Event.{Exchanges}
use Rattle.cq_engine.specs.Outcome.{host_of, outcome_of}
use Rattle.cq_engine.proofs.engine.act.Goals as goal

pub returns-in-Address-clause-acts : goal.returns-in-Address-clause-acts
returns-in-Address-clause-acts g c =
    let P : Option HeldTask → Type 0 = λ o.
    IsSomeAnd o
    (λ held.
    Exchanges g.L.Link.made c.args.link.now c.send_address.new.link (StartSector held.task.desc.start)
    (outcome_of c.send_address.result c.args.held.now c.send_address.new.regs)
    (after_address (host_of c.args.held.now c.args.regs.now) c.in-Address.slot held.task.desc)) in
    record {
      due = Address c.in-Address.slot;
      is_due = c.in-Address.ensures.due;
      slot = c.in-Address.ensures.slot;
      does = (subst P (sym c.held_task.ensures) (c.send_address.ensures.sends c.args.held.now), refl);
    }
