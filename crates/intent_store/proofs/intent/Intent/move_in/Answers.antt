use Rattle.std.proofs.Common.{arith}
use Rattle.std.specs.Prelude.{◌+◌}
use Rattle.intent_store.proofs.StepLemmas.{stands_other, shown_in}
use Rattle.intent_store.proofs.intent.Intent.move_in.Goals as goal

pub returns-clause-stands : goal.returns-clause-stands
returns-clause-stands g c =
    stands_other (g.A.Array.state c.args.array.now) (g.A.Array.state c.program.new.array) c.args.self.now (8 + c.args.sector) c.args.block.now c.program.result (omega arith)
    c.requires.stands c.program.ensures.written c.program.ensures.ends

pub returns-clause-shown : goal.returns-clause-shown
returns-clause-shown g c =
    shown_in (g.A.Array.state c.args.array.now) (g.A.Array.state c.program.new.array) c.args.self.now c.args.sector c.args.block.now c.program.result c.requires.ajar
    c.requires.stands c.program.ensures.written
