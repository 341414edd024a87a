use Rattle.std.proofs.Common.{ap, subst}
use Rattle.raw_machine.specs.Machine.{Machine, Moment, moment}
use Rattle.raw_face.specs.Operation.{Discards, with_card}
use Rattle.raw_face.specs.Output.{Output}
use Rattle.raw_face.specs.Reply.{output_of}
use Rattle.raw_face.specs.Sector.{IsDiscarded}
use Rattle.raw_face.specs.contracts.raw.Raw.{the_view}
use Rattle.raw_face.proofs.ByTask.{discard_by_task}
use Rattle.raw_face.proofs.raw.Raw.discard.Goals as goal

pub returns-clause-does : goal.returns-clause-does
returns-clause-does g c =
    let output : Output = output_of c.discard.result in
    let old : Moment = moment c.args.self.now (g.A.Array.state c.args.array.now) in
    let new : Moment = moment (with_card (the_view c.self.inside) c.discard.new.card) (g.A.Array.state c.discard.new.array) in
    let is : Discards old output new = record {
      card = subst (λ (m : Machine). IsDiscarded m.card old.array output new.machine.card new.array) c.self.view_is c.discard.ensures.discarded;
      machine = ap (λ m. with_card m c.discard.new.card) c.self.view_is;
    } in
    record {
      output = output;
      makes = is;
      by_task = discard_by_task old new c.print_reply.result output is;
      shows = c.print_reply.ensures.shows;
      causes = c.discard.ensures.causes;
    }
