use Rattle.answer_laws.proofs.Traces.{each_answered, faultless, few_faults, none_else, run_printed}
use Rattle.answer_laws.proofs.laws.requests_are_answered.Goals as goal

pub returns : goal.returns
returns c = record { each = each_answered; few = few_faults; none_else = none_else; faultless = faultless; run = run_printed }
