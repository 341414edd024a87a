use Rattle.std.proofs.Common.{◌∙◌, ap, subst}
use Rattle.std.specs.Option.{option_map_or}
use Rattle.cq_engine.proofs.Written.{IsCalm, calm_written}
use Rattle.cq_regs.specs.Effects.{written}
use Rattle.cq_regs.specs.State.{Registers}
use Rattle.cq_regs.specs.Table.{row_at}
use Rattle.raw_machine.specs.Machine.{Machine, Moment, moment}
use Rattle.raw_face.specs.Operation.{IsWritten, with_regs}
use Rattle.raw_face.specs.Output.{Output}
use Rattle.raw_face.specs.Reply.{output_of}
use Rattle.raw_face.specs.contracts.raw.Raw.{the_view}
use Rattle.raw_face.proofs.ByTask.{write_by_task}
use Rattle.raw_face.proofs.Standing.{quiet_causes}
use Rattle.raw_face.proofs.raw.Raw.write.Goals as goal

pub returns-clause-does : goal.returns-clause-does
returns-clause-does g c = λ array.
    let output : Output = output_of c.write.result in
    let after : Registers → Registers = λ regs. option_map_or (λ row. written regs row c.args.value) (row_at c.args.reg) regs in
    let old : Moment = moment c.args.self.now array in
    let new : Moment = moment (with_regs (the_view c.self.inside) c.write.new.regs) array in
    let calm : IsCalm c.args.self.now.regs c.write.new.regs =
    subst (λ (m : Machine). IsCalm m.regs c.write.new.regs) c.self.view_is
    (calm_written c.self.inside.regs c.write.new.regs c.args.reg c.args.value c.write.ensures.after c.write.ensures.rings) in
    let is : IsWritten c.args.reg c.args.value old output new = record {
      shown = c.write.ensures.shown;
      after = ap (λ regs. moment (with_regs (the_view c.self.inside) regs) array) c.write.ensures.after
          ∙ ap (λ (m : Machine). moment (with_regs m (after m.regs)) array) c.self.view_is;
    } in
    record {
      output = output;
      makes = is;
      by_task = write_by_task c.args.reg c.args.value old new c.print_reply.result output is calm;
      shows = c.print_reply.ensures.shows;
      causes = quiet_causes array output c.write.ensures.quiet;
    }
