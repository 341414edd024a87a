use Rattle.world_steps.proofs.EngineYields.{engine_yields}
use Rattle.world_steps.proofs.HostPrompts.{host_stays}
use Rattle.world_steps.proofs.Prompts.{card_stays, engine_stays}
use Rattle.world_steps.proofs.Yielding.{host_yields, lost_yields}
use Rattle.world_steps.proofs.laws.phases_yield_to_cuts.Goals as goal
use Rattle.storage_model.specs.declared.faults.Letter.TheVariants.{Host as HostActs}
use Rattle.storage_runs.specs.Runs.{begun_next}
use Rattle.world_state.specs.Reading.{state_of}

pub returns : goal.returns
returns c = record {
  yields = λ w a c laws g prompt. record {
    host = λ p' a' act e is. host_yields (begun_next (state_of w.path w.order c) HostActs) w.path p' act;
    engine = engine_yields w a c laws g;
    lost = lost_yields w a c g prompt;
  };
  stays = λ w t some prompt. record {
    engine = engine_stays w t some;
    host = host_stays w t some;
    card = card_stays w some;
  };
}
