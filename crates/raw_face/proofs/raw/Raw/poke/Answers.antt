use Rattle.std.proofs.Common.{ap, subst, sym}
use Rattle.raw_machine.specs.Machine.{Machine, Moment, Stands, moment}
use Rattle.raw_face.specs.Access.{IsPokedIn}
use Rattle.raw_face.specs.Operation.{IsPoked, with_memory}
use Rattle.raw_face.specs.Output.{Output}
use Rattle.raw_face.specs.Reply.{output_of}
use Rattle.raw_face.specs.contracts.raw.Raw.{the_view}
use Rattle.raw_face.proofs.ByTask.{poke_by_task}
use Rattle.raw_face.proofs.Standing.{quiet_causes, stands_poked}
use Rattle.raw_face.proofs.raw.Raw.poke.Goals as goal

pub returns-clause-does : goal.returns-clause-does
returns-clause-does g c = λ array.
    let output : Output = output_of c.poke.result in
    let old : Moment = moment c.args.self.now array in
    let new : Moment = moment (with_memory (the_view c.self.inside) c.poke.new.mem) array in
    let poked : IsPoked c.args.at c.args.bytes.now old output new = record {
      memory = subst (λ (m : Machine). IsPokedIn c.args.at c.args.bytes.now m.memory output c.poke.new.mem) c.self.view_is c.poke.ensures.poked;
      after = ap (λ m. moment (with_memory m c.poke.new.mem) array) c.self.view_is;
    } in
    record {
      output = output;
      makes = poked;
      by_task = poke_by_task c.args.at c.args.bytes.now old new c.print_reply.result output poked;
      shows = c.print_reply.ensures.shows;
      causes = quiet_causes array output c.poke.ensures.quiet;
    }

pub returns-clause-stands : goal.returns-clause-stands
returns-clause-stands g c = λ array stands.
    let P : Machine → Type 0 = λ m. Stands m array in
    stands_poked (the_view c.self.inside) array c.args.at c.args.bytes.now c.poke.new.mem (output_of c.poke.result) c.poke.ensures.poked
    (subst P (sym c.self.view_is) stands)
