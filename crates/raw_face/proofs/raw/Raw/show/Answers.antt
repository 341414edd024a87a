use Rattle.std.proofs.Common.{ap, subst}
use Rattle.raw_machine.specs.Machine.{Machine, Moment, moment}
use Rattle.raw_face.specs.Operation.{ShowsSector, with_card}
use Rattle.raw_face.specs.Output.{Output}
use Rattle.raw_face.specs.Reply.{output_of}
use Rattle.raw_face.specs.Sector.{IsShown}
use Rattle.raw_face.specs.contracts.raw.Raw.{the_view}
use Rattle.raw_face.proofs.ByTask.{show_by_task}
use Rattle.raw_face.proofs.raw.Raw.show.Goals as goal

pub returns-clause-does : goal.returns-clause-does
returns-clause-does g c =
    let output : Output = output_of c.show.result in
    let old : Moment = moment c.args.self.now (g.A.Array.state c.args.array.now) in
    let new : Moment = moment (with_card (the_view c.self.inside) c.show.new.card) (g.A.Array.state c.show.new.array) in
    let is : ShowsSector c.args.sector old output new = record {
      card = subst (λ (m : Machine). IsShown c.args.sector m.card old.array output new.machine.card new.array) c.self.view_is c.show.ensures.shown;
      machine = ap (λ m. with_card m c.show.new.card) c.self.view_is;
    } in
    record {
      output = output;
      makes = is;
      by_task = show_by_task c.args.sector old new c.print_reply.result output is;
      shows = c.print_reply.ensures.shows;
      causes = c.show.ensures.causes;
    }
