use Rattle.cmd_words.proofs.StatusBits.{word-errors, word-state, word-ready}
use Rattle.cmd_words.proofs.status.Status.word.Goals as goal

pub returns-clause-errors : goal.returns-clause-errors
returns-clause-errors c = word-errors c.args.self.0

pub returns-clause-state : goal.returns-clause-state
returns-clause-state c = word-state c.args.self.0

pub returns-clause-ready : goal.returns-clause-ready
returns-clause-ready c = word-ready c.args.self.0
