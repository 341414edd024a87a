use Rattle.std.proofs.Common.{arith}
use Rattle.image_form.specs.declared.gate.Gate.TheVariants.{Ajar}
use Rattle.intent_store.proofs.StepLemmas.{stands_turned, shown_open, shown_opened}
use Rattle.intent_store.proofs.intent.Intent.open.Goals as goal

pub returns-clause-stands : goal.returns-clause-stands
returns-clause-stands g c =
    stands_turned (g.A.Array.state c.args.array.now) (g.A.Array.state c.turn.new.array) c.args.self.now c.turn.new.self (Ajar c.args.sector) c.turn.result (omega arith)
    c.requires.stands c.turn.ensures.known c.turn.ensures.written c.turn.ensures.ends

pub returns-clause-ok : goal.returns-clause-ok
returns-clause-ok g c =
    shown_open (g.A.Array.state c.args.array.now) (g.A.Array.state c.turn.new.array) c.args.self.now c.args.sector c.turn.result (omega arith) c.requires.shut
    c.requires.stands c.turn.ensures.written

pub returns-clause-either : goal.returns-clause-either
returns-clause-either g c =
    shown_opened (g.A.Array.state c.args.array.now) (g.A.Array.state c.turn.new.array) c.args.self.now c.args.sector c.turn.result (omega arith) c.requires.shut
    c.requires.stands c.turn.ensures.written
