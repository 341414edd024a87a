use Rattle.std.proofs.Common.{sym, lit<, arith}
use Rattle.std.proofs.lemmas.Bool.{false≢true}
use Rattle.cmd_words.proofs.Decoding.{legal_index}
use Rattle.cmd_words.proofs.command.Command.decode.Goals as goal

pub returns-in-44-clause-illegal : goal.returns-in-44-clause-illegal
returns-in-44-clause-illegal c =
    (λ e. absurd (false≢true e), λ h. absurd (legal_index c.args.index c.args.arg 2 (lit< tt) (sym c.in-44.is) (λ e. omega arith) h))

pub returns-in-45-clause-illegal : goal.returns-in-45-clause-illegal
returns-in-45-clause-illegal c =
    (λ e. absurd (false≢true e), λ h. absurd (legal_index c.args.index c.args.arg 3 (lit< tt) (sym c.in-45.is) (λ e. omega arith) h))

pub returns-in-46-clause-illegal : goal.returns-in-46-clause-illegal
returns-in-46-clause-illegal c =
    (λ e. absurd (false≢true e), λ h. absurd (legal_index c.args.index c.args.arg 4 (lit< tt) (sym c.in-46.is) (λ e. omega arith) h))

pub returns-in-47-clause-illegal : goal.returns-in-47-clause-illegal
returns-in-47-clause-illegal c =
    (λ e. absurd (false≢true e), λ h. absurd (legal_index c.args.index c.args.arg 5 (lit< tt) (sym c.in-47.is) (λ e. omega arith) h))
