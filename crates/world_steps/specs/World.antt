-- A run between two events: the path, and what of letters and `cut` lines is used. Whose event comes next, and what is so where that one comes.
use Rattle.std.specs.Prelude.{◌≡◌, ◌≤◌, ◌<◌, ◌&&◌, ◌||◌, ◌==◌, ℕ, ◌+◌, Bool, true, false, not, if◌then◌else◌, Option, Some, None}
use Rattle.storage_machine.specs.declared.state.State.{State}
use Rattle.storage_model.specs.declared.faults.Letter.{Letter}
use Rattle.storage_model.specs.declared.faults.Letter.TheVariants.{Host as HostActs, Engine as EngineActs, Cut as PowerActs}
use Rattle.trace_rules.specs.Lines.{is_letter, same_letter}
use Rattle.array_edge.specs.Array.{ArrayState}
use Rattle.cut_order.specs.Order.{OrderState, is_line_due, next_letter, with_letter, with_line}
use Rattle.drv_core.specs.State.{is_recovering}
use Rattle.drv_core.specs.Work.{has_work}
use Rattle.world_state.specs.Path.{PathState, is_busy, moved}
use Rattle.world_state.specs.Reading.{Context, state_of}
use Rattle.world_state.specs.Stands.{Agrees}
use Rattle.world_state.specs.Work.{issued, waiting}

pub record WorldState : Type 0 where
  pub path : PathState
  pub order : OrderState

-- world and array stand for a state of the storage machine
pub record StandsFor (w : WorldState) (a : ArrayState) (s : State) : Type 0 where
  pub context : Context
  pub state : s ≡ state_of w.path w.order context
  pub agrees : Agrees w.path a context

-- a request waits or is issued, or a recovery is under way
unfoldable pub is_to_do : PathState → Bool
is_to_do p = not (waiting p == 0) || (not (issued p == 0) || is_recovering p.driver.recovery)

-- power is to be cut
unfoldable pub is_cut_due : WorldState → Bool
is_cut_due w = is_to_do w.path && is_line_due w.order w.path.script.sent

-- whose event comes where no cut is due: that of the next letter, else the host's where it has work, else the engine's
abbrev pub chosen_by : PathState → Option Letter → Letter
chosen_by p (Some letter) = letter
chosen_by p None = if has_work p.driver p.regs then HostActs else EngineActs

unfoldable pub chosen_of : WorldState → Letter
chosen_of w = if is_cut_due w then PowerActs else chosen_by w.path (next_letter w.order)

-- the event uses the due line, or the next letter, which is then shown
abbrev pub uses_line : WorldState → Letter → Bool
uses_line w actor = same_letter actor PowerActs && is_cut_due w

unfoldable pub shows_letter : WorldState → Letter → Bool
shows_letter w actor = is_letter actor (next_letter w.order) && not (uses_line w actor)

-- what of both is used as the event begins
abbrev pub order_in : WorldState → Letter → OrderState
order_in w actor = if shows_letter w actor then with_letter w.order else w.order

-- and behind it
abbrev pub order_behind : WorldState → Letter → OrderState
order_behind w actor = if uses_line w actor then with_line w.order w.path.script.sent else order_in w actor

-- no line is due at the number of a phase of which a block moved: so it is where each event was the one that came next
abbrev pub IsPrompt : WorldState → Type 0
IsPrompt w = is_busy w.path ≡ true → 1 ≤ moved w.path → is_line_due w.order w.path.script.sent ≡ false
