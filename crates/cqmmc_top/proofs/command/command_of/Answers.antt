use Rattle.std.proofs.Common.{arith, string_bytes, sym, ◌∙◌, ap}
use Rattle.cqmmc_top.proofs.Forms.{run_form, csd_form}
use Rattle.cqmmc_top.proofs.command.command_of.Goals as goal

pub returns-in-len2-clause-some : goal.returns-in-len2-clause-some
returns-in-len2-clause-some c = csd_form string_bytes c.args.words.now c.command-item.result (omega arith) (ap string_bytes (sym c.command-item.is) ∙ c.is_word.ensures.0 c.if-is_word.true)

pub returns-in-len4-clause-some : goal.returns-in-len4-clause-some
returns-in-len4-clause-some c =
    run_form string_bytes c.args.words.now c.command-item-then-words-lt5.result (omega arith) (ap string_bytes (sym c.command-item-then-words-lt5.is) ∙ c.is_word-then-words-lt5.ensures.0 c.if-is_word-5.true)
