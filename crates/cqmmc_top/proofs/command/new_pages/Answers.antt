use Rattle.cqmmc_top.specs.declared.command.Command.TheVariants.{New}
use Rattle.cqmmc_top.proofs.command.new_pages.Goals as goal

pub returns-in-None-clause-none : goal.returns-in-None-clause-none
returns-in-None-clause-none c = λ sectors is. c.in-None.ensures.none (New sectors) is
