use Rattle.std.proofs.Common.{◌∙◌, ap, refl}
use Rattle.raw_machine.specs.Machine.{Moment, moment}
use Rattle.raw_face.specs.Access.{read_output}
use Rattle.raw_face.specs.Operation.{IsRead}
use Rattle.raw_face.specs.Output.{Output}
use Rattle.raw_face.specs.Reply.{output_of}
use Rattle.raw_face.proofs.ByTask.{read_by_task}
use Rattle.raw_face.proofs.Standing.{quiet_causes}
use Rattle.raw_face.proofs.raw.Raw.read.Goals as goal

pub returns-clause-does : goal.returns-clause-does
returns-clause-does g c = λ array.
    let output : Output = output_of c.read.result in
    let now : Moment = moment c.args.self.now array in
    let is : IsRead c.args.reg now output now = record {
      shown = c.read.ensures.shown ∙ ap (λ machine. read_output machine.regs c.args.reg) c.self.view_is;
      after = refl;
    } in
    record {
      output = output;
      makes = is;
      by_task = read_by_task c.args.reg now now c.print_reply.result output is;
      shows = c.print_reply.ensures.shows;
      causes = quiet_causes array output c.read.ensures.quiet;
    }
