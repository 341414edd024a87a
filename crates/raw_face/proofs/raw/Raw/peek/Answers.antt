use Rattle.std.proofs.Common.{refl, subst}
use Rattle.raw_machine.specs.Machine.{Machine, Moment, moment}
use Rattle.raw_face.specs.Access.{IsPeekedIn}
use Rattle.raw_face.specs.Operation.{IsPeeked}
use Rattle.raw_face.specs.Output.{Output}
use Rattle.raw_face.specs.Reply.{output_of}
use Rattle.raw_face.proofs.ByTask.{peek_by_task}
use Rattle.raw_face.proofs.Standing.{quiet_causes}
use Rattle.raw_face.proofs.raw.Raw.peek.Goals as goal

pub returns-clause-does : goal.returns-clause-does
returns-clause-does g c = λ array.
    let output : Output = output_of c.peek.result in
    let now : Moment = moment c.args.self.now array in
    let peeked : IsPeeked c.args.at c.args.len now output now = record {
      memory = subst (λ (m : Machine). IsPeekedIn c.args.at c.args.len m.memory output) c.self.view_is c.peek.ensures.peeked;
      after = refl;
    } in
    record {
      output = output;
      makes = peeked;
      by_task = peek_by_task c.args.at c.args.len now now c.print_reply.result output peeked;
      shows = c.print_reply.ensures.shows;
      causes = quiet_causes array output c.peek.ensures.quiet;
    }
