-- What a run's state says of the storage machine's: what is to do, whether a cut is due, whose event comes next, and which letter its line shows.
use Rattle.std.specs.Prelude.{◌≡◌, ℕ, true, false, Option, List, [], ◌∷◌}
use Rattle.storage_machine.specs.Cuts.{is_due, sent_so_far}
use Rattle.storage_machine.specs.Host.{to_do}
use Rattle.storage_model.specs.declared.faults.Letter.{Letter}
use Rattle.storage_model.specs.declared.faults.Letter.TheVariants.{Host as HostActs, Engine as EngineActs, Card as CardActs, Cut as PowerActs}
use Rattle.storage_model.specs.declared.trace.Item.{Item}
use Rattle.storage_runs.specs.Runs.{Yields, begun_next, chosen, is_shown, with_letter}
use Rattle.array_edge.specs.Array.{ArrayState}
use Rattle.card_core.specs.declared.phase.Phase.{Phase}
use Rattle.cq_engine.specs.declared.did.Did.{Did}
use Rattle.drv_core.specs.declared.act.Act.{Act}
use Rattle.world_state.specs.Engine.{EngineEvent, engine_lines, is_dark, phase_line_of}
use Rattle.world_state.specs.Host.{HostEvent, host_lines}
use Rattle.world_state.specs.Laws.{StateLaws}
use Rattle.world_state.specs.Path.{PathState, is_busy, moved}
use Rattle.world_state.specs.Reading.{Context, state_of}
use Rattle.world_state.specs.Stands.{Agrees}
use Rattle.world_state.specs.Ties.{AreTied}
use Rattle.world_steps.specs.World.{IsPrompt, WorldState, chosen_of, is_cut_due, is_to_do, order_behind, order_in, shows_letter}

pub record Reads (w : WorldState) (c : Context) : Type 0 where
  pub to_do : to_do (state_of w.path w.order c) ≡ is_to_do w.path
  pub sent : sent_so_far (state_of w.path w.order c) ≡ w.path.script.sent
  pub due : is_due (state_of w.path w.order c) ≡ is_cut_due w
  pub chosen : StateLaws → chosen (state_of w.path w.order c) ≡ chosen_of w
  pub shown : (actor : Letter) → is_shown (state_of w.path w.order c) actor ≡ shows_letter w actor
  pub letter : (actor : Letter) → with_letter (state_of w.path w.order c) actor ≡ state_of w.path (order_in w actor) c

abbrev pub IsRead : Type 0
IsRead = (w : WorldState) (a : ArrayState) (c : Context) → Agrees w.path a c → Reads w c

-- the line of a phase that is under way
abbrev pub phase_cut : PathState → List Item
phase_cut p = phase_line_of p p p.card.begun

-- where the event is the next one, a phase that is its first line yields to the `cut` line of its own number
pub record PhasesYield (w : WorldState) (a : ArrayState) (c : Context) : Type 0 where
  pub host : (p' : PathState) (a' : ArrayState) (act : Act) → HostEvent w.path a p' a' act → HostActs ≡ chosen_of w
      → Yields (begun_next (state_of w.path w.order c) HostActs) (host_lines w.path p' act)
  pub engine : (p' : PathState) (a' : ArrayState) (did : Did) (phase : Option Phase) → EngineEvent w.path a p' a' did phase → EngineActs ≡ chosen_of w
      → Yields (begun_next (state_of w.path w.order c) EngineActs) (engine_lines w.path p' did phase)
  -- power is lost in an event of the card's or of power
  pub lost : (actor : Letter) → actor ≡ chosen_of w → Yields (begun_next (state_of w.path w.order c) actor) (phase_cut w.path)

abbrev pub DoPhasesYield : Type 0
DoPhasesYield = (w : WorldState) (a : ArrayState) (c : Context) → StateLaws → Agrees w.path a c → IsPrompt w → PhasesYield w a c

-- and the path stays so
pub record StaysPrompt (w : WorldState) : Type 0 where
  pub engine : (a : ArrayState) (p' : PathState) (a' : ArrayState) (did : Did) (phase : Option Phase) → EngineEvent w.path a p' a' did phase
      → EngineActs ≡ chosen_of w → IsPrompt (record { path = p'; order = order_behind w EngineActs })
  pub host : (a : ArrayState) (p' : PathState) (a' : ArrayState) (act : Act) → HostEvent w.path a p' a' act
      → HostActs ≡ chosen_of w → IsPrompt (record { path = p'; order = order_behind w HostActs })
  -- the card's event changes its store alone
  pub card : (p' : PathState) → p' ≡ record w.path { card = p'.card } → CardActs ≡ chosen_of w → IsPrompt (record { path = p'; order = order_behind w CardActs })

abbrev pub DoesStayPrompt : Type 0
DoesStayPrompt = (w : WorldState) → AreTied w.path → is_to_do w.path ≡ true → IsPrompt w → StaysPrompt w
