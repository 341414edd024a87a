use Rattle.image_form.specs.Image.{Program}
use Rattle.intent_store.proofs.CallLemmas.{one_call}
use Rattle.std.proofs.Common.{arith}
use Rattle.image_form.specs.declared.gate.Gate.TheVariants.{Shut}
use Rattle.intent_store.proofs.StepLemmas.{stands_turned, shown_shut}
use Rattle.intent_store.proofs.intent.Intent.shut.Goals as goal

pub returns-clause-stands : goal.returns-clause-stands
returns-clause-stands g c =
    stands_turned (g.A.Array.state c.args.array.now) (g.A.Array.state c.turn.new.array) c.args.self.now c.turn.new.self Shut c.turn.result (omega arith)
    c.requires.stands c.turn.ensures.known c.turn.ensures.written c.turn.ensures.ends

pub returns-clause-shown : goal.returns-clause-shown
returns-clause-shown g c =
    shown_shut (g.A.Array.state c.args.array.now) (g.A.Array.state c.turn.new.array) c.args.self.now c.turn.result c.requires.known c.requires.moved
    c.requires.stands c.turn.ensures.written

pub returns-clause-calls : goal.returns-clause-calls
returns-clause-calls g c on = one_call (Program 1) (g.A.Array.state c.args.array.now) (g.A.Array.state c.turn.new.array) c.turn.result (c.turn.ensures.calls on)
