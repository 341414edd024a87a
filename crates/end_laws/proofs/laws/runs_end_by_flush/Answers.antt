use Rattle.end_laws.proofs.Ends.{ends_by_flush}
use Rattle.end_laws.proofs.laws.runs_end_by_flush.Goals as goal

pub returns : goal.returns
returns c = ends_by_flush c.power_and_card_make_events.ensures.flush
