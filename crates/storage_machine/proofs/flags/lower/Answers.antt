use Rattle.std.proofs.Common.{sym, ◌∙◌}
use Rattle.storage_machine.proofs.FirstFlags.{lowered-before, lowered-other}
use Rattle.storage_machine.proofs.flags.lower.Goals as goal

pub first_from-requires-clause-before : goal.first_from-requires-clause-before
first_from-requires-clause-before c place low =
    lowered-before c.args.flags.now c.args.place (c.if-place-first.true ∙ c.requires) place low

pub returns-else-place-first-clause-first : goal.returns-else-place-first-clause-first
returns-else-place-first-clause-first c =
    c.requires ∙ sym (lowered-other c.args.flags.now c.args.place (λ e. c.if-place-first.false (e ∙ sym c.requires)))
