use Rattle.join_laws.proofs.Flushes.{flush_back_on, flush_ended, flush_stopped}
use Rattle.join_laws.proofs.laws.flushes_lose_power.Goals as goal

pub returns : goal.returns
returns c = record { back = flush_back_on; ended = flush_ended; stopped = flush_stopped }
