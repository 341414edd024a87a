use Rattle.cmd_words.proofs.Decoding.{decoded-encoded}
use Rattle.cmd_words.proofs.command.Command.encode.Goals as goal

pub returns-clause-exact : goal.returns-clause-exact
returns-clause-exact c = λ exact. rw (c.index.ensures, c.argument.ensures.value) (decoded-encoded c.args.self.now c.argument.ensures.in_range exact)
