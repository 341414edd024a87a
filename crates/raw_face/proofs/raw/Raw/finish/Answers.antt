use Rattle.std.proofs.Common.{◌≡◌, ap, subst}
use Rattle.raw_machine.specs.Machine.{Machine, Moment, moment}
use Rattle.raw_face.specs.Operation.{with_card}
use Rattle.raw_face.specs.Output.{Output}
use Rattle.raw_face.specs.Reply.{output_of}
use Rattle.raw_face.specs.Sector.{HasFlushed}
use Rattle.raw_face.specs.contracts.raw.Raw.{the_view}
use Rattle.raw_face.proofs.ByTask.{finish_by_task}
use Rattle.raw_face.proofs.raw.Raw.finish.Goals as goal

pub returns-clause-finishes : goal.returns-clause-finishes
returns-clause-finishes g c =
    let output : Output = output_of c.flush.result in
    let old : Moment = moment c.args.self.now (g.A.Array.state c.args.array.now) in
    let new : Moment = moment (with_card (the_view c.self.inside) c.flush.new.card) (g.A.Array.state c.flush.new.array) in
    let flushed : HasFlushed old.machine.card old.array output new.machine.card new.array =
    subst (λ (m : Machine). HasFlushed m.card old.array output new.machine.card new.array) c.self.view_is c.flush.ensures.flushed in
    let machine : new.machine ≡ with_card old.machine new.machine.card = ap (λ m. with_card m c.flush.new.card) c.self.view_is in
    record {
      output = output;
      card = flushed;
      machine = machine;
      by_task = finish_by_task old new output flushed machine;
      shows = c.print_reply.ensures.shows;
      causes = c.flush.ensures.causes;
    }
