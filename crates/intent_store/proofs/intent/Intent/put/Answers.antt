use Rattle.std.proofs.Common.{arith}
use Rattle.std.specs.Prelude.{◌+◌}
use Rattle.intent_store.specs.Intent.{shown_by}
use Rattle.intent_store.proofs.StepLemmas.{stands_other, shown_put, written_torn, written_ok}
use Rattle.intent_store.proofs.intent.Intent.put.Goals as goal

pub returns-clause-stands : goal.returns-clause-stands
returns-clause-stands g c =
    stands_other (g.A.Array.state c.args.array.now) (g.A.Array.state c.program.new.array) c.args.self.now (8 + c.args.sector) c.args.block.now c.program.result (omega arith)
    c.requires.stands c.program.ensures.written c.program.ensures.ends

pub returns-clause-ok : goal.returns-clause-ok
returns-clause-ok g c =
    written_ok (shown_by (g.A.Array.state c.args.array.now)) (shown_by (g.A.Array.state c.program.new.array)) c.args.sector c.args.block.now c.program.result
    (shown_put (g.A.Array.state c.args.array.now) (g.A.Array.state c.program.new.array) c.args.self.now c.args.sector c.args.block.now c.program.result
    c.requires.sector c.requires.shut c.requires.stands c.program.ensures.written)

pub returns-clause-torn : goal.returns-clause-torn
returns-clause-torn g c =
    written_torn (shown_by (g.A.Array.state c.args.array.now)) (shown_by (g.A.Array.state c.program.new.array)) c.args.sector c.args.block.now c.program.result
    (shown_put (g.A.Array.state c.args.array.now) (g.A.Array.state c.program.new.array) c.args.self.now c.args.sector c.args.block.now c.program.result
    c.requires.sector c.requires.shut c.requires.stands c.program.ensures.written)
