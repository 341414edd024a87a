-- A path whose phase was taken from the card, and one that is anew behind a loss of power.
use Rattle.std.proofs.Common.{◌≡◌, ◌∙◌, false, refl, sym, ap, arith, true≢false}
use Rattle.storage_machine.specs.declared.state.State.{State}
use Rattle.storage_model.specs.declared.faults.Letter.{Letter}
use Rattle.storage_model.specs.declared.trace.Item.{Item}
use Rattle.std.proofs.Common.{List}
use Rattle.array_edge.specs.Array.{ArrayState}
use Rattle.cut_order.specs.Order.{OrderState}
use Rattle.drv_jobs.specs.Changes.{forgotten}
use Rattle.fall_laws.specs.Falls.{IsAnew, ScriptGoesOn}
use Rattle.world_state.specs.Path.{PathState, is_busy}
use Rattle.world_state.specs.Told.{Darkened, IsLosing}
use Rattle.world_steps.specs.World.{IsPrompt}
use Rattle.step_laws.specs.Acts.{taken_from}

-- nothing of a loss of power is said of the phase that the card tells of
pub losing_taken : (s : State) (p : PathState) (o : OrderState) (a : ArrayState) → IsLosing s p o a → IsLosing s (taken_from p) o a
losing_taken s p o a l = record {
  plan = l.plan;
  ready = l.ready;
  bus = l.bus;
  order = l.order;
  waiting = l.waiting;
  slots = l.slots;
  issued = l.issued;
  standing = l.standing;
  places = l.places;
  vacant = l.vacant;
  n = l.n;
  words = l.words;
  long = l.long;
  named = l.named;
  told = l.told;
  store = l.store;
  within = l.within;
  few = l.few;
  unjudged = l.unjudged;
  recovery = l.recovery;
  deferred = l.deferred;
}

pub darkened_taken : (actor : Letter) (s : State) (items : List Item) (p : PathState) (o : OrderState) (a : ArrayState) → Darkened actor s items p o a → Darkened actor s items (taken_from p) o a
darkened_taken actor s items p o a d = record { last = d.last; starts = d.starts; cut = d.cut; losing = losing_taken d.last p o a d.losing }

-- anew after an event that left the driver
pub anew_behind : (p q r : PathState) → q.driver ≡ p.driver → ScriptGoesOn p.script q.script → IsAnew q r → IsAnew p r
anew_behind p q r driver script anew = record {
  requests = anew.requests ∙ ap (λ d. forgotten d.requests) driver;
  calm = anew.calm;
  ring = anew.ring;
  running = anew.running;
  counted = anew.counted;
  script = record {
    hits = anew.script.hits ∙ script.hits;
    ready = anew.script.ready ∙ script.ready;
    sent = omega (arith, anew.script.sent, script.sent);
    used = omega (arith, anew.script.used, script.used);
  };
}

pub script_same : (p : PathState) → ScriptGoesOn p.script p.script
script_same p = record { hits = refl; ready = refl; sent = omega arith; used = omega arith }

-- no phase is under way then
pub idle_anew : (p q : PathState) → IsAnew p q → is_busy q ≡ false
idle_anew p q anew = rw (anew.running, anew.ring) refl

pub prompt_anew : (p q : PathState) (o : OrderState) → IsAnew p q → IsPrompt (record { path = q; order = o })
prompt_anew p q o anew busy some = absurd (true≢false (sym busy ∙ idle_anew p q anew))
