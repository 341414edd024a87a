use Rattle.std.proofs.Common.{ap, replicate, subst, sym}
use Rattle.raw_machine.specs.Machine.{Machine, Moment, Stands, moment}
use Rattle.raw_face.specs.Access.{IsPokedIn}
use Rattle.raw_face.specs.Operation.{IsPoked, with_memory}
use Rattle.raw_face.specs.Output.{Output}
use Rattle.raw_face.specs.Reply.{output_of}
use Rattle.raw_face.specs.contracts.raw.Raw.{the_view}
use Rattle.raw_face.proofs.ByTask.{fill_by_task}
use Rattle.raw_face.proofs.Standing.{quiet_causes, stands_poked}
use Rattle.raw_face.proofs.raw.Raw.fill.Goals as goal

pub returns-clause-does : goal.returns-clause-does
returns-clause-does g c = λ array.
    let bytes = replicate c.args.len c.args.value in
    let output : Output = output_of c.fill.result in
    let old : Moment = moment c.args.self.now array in
    let new : Moment = moment (with_memory (the_view c.self.inside) c.fill.new.mem) array in
    let poked : IsPoked c.args.at bytes old output new = record {
      memory = subst (λ (m : Machine). IsPokedIn c.args.at bytes m.memory output c.fill.new.mem) c.self.view_is c.fill.ensures.poked;
      after = ap (λ m. moment (with_memory m c.fill.new.mem) array) c.self.view_is;
    } in
    record {
      output = output;
      makes = poked;
      by_task = fill_by_task c.args.at c.args.len c.args.value old new c.print_reply.result output poked;
      shows = c.print_reply.ensures.shows;
      causes = quiet_causes array output c.fill.ensures.quiet;
    }

pub returns-clause-stands : goal.returns-clause-stands
returns-clause-stands g c = λ array stands.
    let P : Machine → Type 0 = λ m. Stands m array in
    stands_poked (the_view c.self.inside) array c.args.at (replicate c.args.len c.args.value) c.fill.new.mem (output_of c.fill.result) c.fill.ensures.poked
    (subst P (sym c.self.view_is) stands)
