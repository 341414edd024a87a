use Rattle.cause_laws.proofs.OfRequest.{dark_of_request}
use Rattle.cause_laws.proofs.laws.dark_is_of_request.Goals as goal

pub returns : goal.returns
returns c = dark_of_request c.commands_keep_ties.ensures.power c.engine_has_less_to_do.ensures.script
