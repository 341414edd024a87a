-- Events. The lines of one event take the machine from a state to another; a run is one event after the other. What is said here holds of an event in
-- whatever order the events come. Which events may end without a line: by 12 and 15 none of power, by 13 the host's where it has nothing to do, by 14
-- the engine's where it may print nothing.
use Rattle.std.specs.Prelude.{◌≡◌, ℕ, ◌+◌, ◌&&◌, ◌||◌, nat_le, nat_lt, Bool, true, false, not, if◌then◌else◌, Option, Some, None, List, [], ◌∷◌}
use Rattle.storage_machine.specs.Commands.{due, hit, is_calm, is_gone, is_idle}
use Rattle.storage_machine.specs.Cuts.{is_due}
use Rattle.trace_effects.specs.Effects.{begun, effect}
use Rattle.storage_machine.specs.Host.{to_do}
use Rattle.storage_machine.specs.Jobs.{phase_blocks}
use Rattle.storage_machine.specs.Commands.{job_on}
use Rattle.storage_machine.specs.declared.commands.DueCommand.{DueCommand}
use Rattle.storage_machine.specs.declared.commands.DueCommand.TheVariants.{Idle, Execute}
use Rattle.storage_machine.specs.declared.state.Event.{Event}
use Rattle.storage_machine.specs.declared.state.Event.TheVariants.{Untold, Told, Due}
use Rattle.storage_machine.specs.declared.state.Owed.{Owed}
use Rattle.storage_machine.specs.declared.state.Owed.TheVariants.{Nothing, Closed, End as Ended}
use Rattle.storage_machine.specs.declared.state.State.{State}
use Rattle.storage_model.specs.declared.faults.Letter.{Letter}
use Rattle.storage_model.specs.declared.faults.Letter.TheVariants.{Host as HostActs, Engine as EngineActs, Card as CardActs, Cut as PowerActs}
use Rattle.storage_model.specs.declared.trace.Item.{Item}
use Rattle.trace_rules.specs.Lines.{is_free, line_rule}
use Rattle.trace_rules.specs.Steps.{is_cut, is_first_work, stands_in, unless}

-- The engine may print nothing where it has nothing to send, and in a phase at most once more than it has blocks.
abbrev pub may_pass : State → DueCommand → Bool
may_pass s Idle = true
may_pass s (Execute tag) = not (is_gone (hit s)) && nat_le s.spent (phase_blocks (job_on s tag))
may_pass s command = false

unfoldable pub engine_may_pass : State → Bool
engine_may_pass s = may_pass s (due s)

-- an engine's event that prints nothing: a phase goes on, or an idle engine tells of counted completions
abbrev pub passed : State → DueCommand → State
passed s (Execute tag) = if may_pass s (Execute tag) then record s { busy = true; spent = s.spent + 1 } else s
passed s command = if is_idle s && nat_lt 0 s.count then record s { notice = true; count = 0 } else s

unfoldable pub engine_step : State → State
engine_step s = passed s (due s)

-- The rule that an event breaks which ends without a line. The host's event is told only where it has work.
abbrev pub rule_of_end : State → Event → Option ℕ
rule_of_end s Untold = None
rule_of_end s Due = Some 15
rule_of_end s (Told HostActs) = Some 13
rule_of_end s (Told EngineActs) = unless (engine_may_pass s) 14
rule_of_end s (Told CardActs) = None
rule_of_end s (Told PowerActs) = unless (not (to_do s)) 12

unfoldable pub end_rule : State → Option ℕ
end_rule s = rule_of_end s s.event

-- the state after it
abbrev pub ended_by : State → Event → State
ended_by s (Told EngineActs) = engine_step (record s { event = Untold })
ended_by s event = record s { event = Untold }

unfoldable pub ended : State → State
ended s = ended_by s s.event

-- a line that an event may have in whatever order the events come: it keeps the rules 1 to 13
pub record Fits (s : State) (item : Item) : Type 0 where
  pub line : line_rule s item ≡ None
  pub stands : stands_in s s.event item ≡ true
  pub first : is_first_work s item ≡ true

abbrev pub is_untold : Event → Bool
is_untold Untold = true
is_untold event = false

-- A cut behind a complete phase is of that phase's event where power is lost in it; else where neither a cut is due nor a recovery under way.
abbrev pub has_own_cut : State → Bool
has_own_cut s = not (is_untold s.event) || (is_calm s.recovery && not (is_due s))

-- a further line of the same event: an owed one, or a cut behind a complete phase
abbrev pub goes_on : State → Owed → Item → Bool
goes_on s Nothing item = false
goes_on s Ended item = false
goes_on s Closed item = is_cut item && has_own_cut s
goes_on s owed item = true

abbrev pub More : State → List Item → State → Type 0
More s [] t = t ≡ s
More s (item ∷ items) t = (goes_on s s.owed item ≡ true) × Fits s item × More (effect s item) items t

-- where power is lost and a phase is under way, the phase's line comes first
abbrev pub shows_phase : State → Item → Bool
shows_phase s item = not (s.busy && is_cut item)

-- the first lines of an event that has begun
pub record Begins (s : State) (item : Item) (items : List Item) (t : State) : Type 0 where
  pub told : is_untold s.event ≡ false
  pub first : Fits s item
  pub phase : shows_phase s item ≡ true
  pub more : More (effect s item) items t

-- nothing is owed, and between events it doesn't matter which line came last
abbrev pub closed : Owed → Owed
closed Closed = Nothing
closed owed = owed

abbrev pub is_over : Owed → Bool
is_over Nothing = true
is_over Closed = true
is_over Ended = true
is_over owed = false

-- the lines are all of an event that has begun
pub record Lasts (s : State) (item : Item) (items : List Item) (t : State) : Type 0 where
  pub last : State
  pub begins : Begins s item items last
  pub over : is_over last.owed ≡ true
  pub event : is_untold last.event ≡ true
  pub state : t ≡ record last { owed = closed last.owed }

-- an event that has begun goes on to its end
abbrev pub Makes : State → List Item → State → Type 0
Makes s [] t = (end_rule s ≡ None) × (t ≡ ended s)
Makes s (item ∷ items) t = Lasts s item items t

-- An event of the actor prints these lines and takes the machine from s to t, whichever event the order asks for. It may print none.
pub record Happens (s : State) (actor : Letter) (items : List Item) (t : State) : Type 0 where
  pub free : is_free s.owed ≡ true
  pub untold : is_untold s.event ≡ true
  pub makes : Makes (begun s actor) items t

-- lines that only begin such an event
abbrev pub Goes : State → List Item → State → Type 0
Goes s [] t = t ≡ s
Goes s (item ∷ items) t = Begins s item items t

pub record Starts (s : State) (actor : Letter) (items : List Item) (t : State) : Type 0 where
  pub free : is_free s.owed ≡ true
  pub untold : is_untold s.event ≡ true
  pub goes : Goes (begun s actor) items t
