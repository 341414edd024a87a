-- What an event tells: its lines take the storage machine from each state that the path stood for to one that it stands for then.
use Rattle.std.specs.Prelude.{◌≡◌, ◌<◌, ◌≤◌, ℕ, Bool, true, false, not, All, length, List, [], ◌∷◌, Option, None, Some, IfSome, is_some, option_map, slice_index_or}
use Rattle.storage_model.specs.Contents.{IsWithin}
use Rattle.storage_model.specs.declared.faults.Letter.{Letter}
use Rattle.storage_model.specs.declared.trace.Item.{Item}
use Rattle.storage_model.specs.declared.trace.Item.TheVariants.{Cut}
use Rattle.storage_machine.specs.Commands.{is_calm}
use Rattle.storage_machine.specs.Host.{to_do}
use Rattle.storage_machine.specs.Slots.{asks_of, slot_at}
use Rattle.storage_machine.specs.declared.slots.Question.TheVariants.{Issued}
use Rattle.storage_machine.specs.declared.state.Owed.{Owed}
use Rattle.storage_machine.specs.declared.state.Owed.TheVariants.{Dark}
use Rattle.storage_machine.specs.declared.state.State.{State}
use Rattle.trace_effects.specs.Cuts.{places_of}
use Rattle.trace_effects.specs.Effects.{effect}
use Rattle.storage_order.specs.Events.{Fits, Happens, More, Starts, closed, goes_on, is_over, is_untold, shows_phase}
use Rattle.array_edge.specs.Array.{ArrayState}
use Rattle.card_store.specs.Store.{Stands as StoreStands}
use Rattle.intent_store.specs.Intent.{shown_by}
use Rattle.cut_order.specs.Order.{OrderState, order_of}
use Rattle.drv_core.specs.State.{is_recovering}
use Rattle.drv_jobs.specs.Changes.{faults_of}
use Rattle.drv_jobs.specs.Standings.{is_waiting}
use Rattle.world_state.specs.Path.{PathState, holder, plan_of}
use Rattle.world_state.specs.Reading.{Context, state_of, waiting_of}
use Rattle.world_state.specs.Stands.{Agrees, IsNear, named_at}

-- the lines of an actor's event, whichever event the order asks for
pub record Told (actor : Letter) (s : State) (items : List Item) (p : PathState) (o : OrderState) (a : ArrayState) : Type 0 where
  pub context : Context
  pub agrees : Agrees p a context
  pub happens : Happens s actor items (state_of p o context)

abbrev pub Tells : Letter → PathState → ArrayState → List Item → PathState → ArrayState → Type 0
Tells actor p a items p' a' = (o : OrderState) (c : Context) → Agrees p a c → Told actor (state_of p o c) items p' o a'

abbrev pub is_dark : Owed → Bool
is_dark (Dark cuts) = true
is_dark owed = false

-- nothing of what is left after a cut was told
pub record IsUnjudged (s : State) : Type 0 where
  pub lit : is_dark s.owed ≡ false
  pub deferred : s.deferred ≡ false
  pub lefts : s.lefts ≡ []
  pub epochs : s.epochs ≡ []

-- The state in which power is lost: its contents are those of the store, its requests those of the driver, and its counts those of the path. What
-- else it tells of tasks, registers and phases ends with the power.
pub record IsLosing (s : State) (p : PathState) (o : OrderState) (a : ArrayState) : Type 0 where
  pub plan : s.plan ≡ plan_of p
  pub ready : s.faults.ready ≡ p.script.ready
  pub bus : s.faults.bus ≡ p.script.hits
  pub order : order_of s ≡ o
  pub waiting : s.waiting ≡ waiting_of p.driver
  pub slots : length s.slots ≡ 32
  pub issued : (tag : ℕ) → tag < 32 → option_map (λ task. task.id) (slot_at s.slots tag) ≡ holder p tag
  pub standing : (tag : ℕ) → IfSome (slot_at s.slots tag) (λ task. asks_of Issued task.standing ≡ true)
  pub places : length s.«data» ≡ 32
  pub vacant : (tag : ℕ) → holder p tag ≡ None → slice_index_or s.«data» tag [] ≡ []
  pub n : s.n ≡ p.script.sent
  pub words : s.words ≡ p.script.used
  pub long : length s.named ≡ length (plan_of p).jobs
  pub named : (id : ℕ) → is_waiting p.driver.requests.waiting id ≡ true → named_at s.named id ≡ faults_of p.driver.requests id
  pub told : is_some a.told ≡ true
  pub store : StoreStands (record { base = s.base; pend = s.pend }) p.card.store a
  pub within : All (IsWithin s.base) s.pend
  pub few : length s.base ≤ 65536
  pub unjudged : IsUnjudged s
  pub recovery : is_recovering p.driver.recovery ≡ not (is_calm s.recovery)
  pub deferred : to_do s ≡ true → s.plan.through ≡ false → s.staged ≡ false → s.kept ≡ false → length (places_of s.pend) < s.plan.lines → IfSome (shown_by a) (λ pages. pages ≡ s.base)

-- a cut may be the event's next line
abbrev pub CutFollows : List Item → State → Type 0
CutFollows [] s = (is_untold s.event ≡ false) × Fits s Cut × (shows_phase s Cut ≡ true)
CutFollows (item ∷ items) s = (goes_on s s.owed Cut ≡ true) × Fits s Cut

-- after these lines of the event comes its cut
pub record Darkened (actor : Letter) (s : State) (items : List Item) (p : PathState) (o : OrderState) (a : ArrayState) : Type 0 where
  pub last : State
  pub starts : Starts s actor items last
  pub cut : CutFollows items last
  pub losing : IsLosing last p o a

abbrev pub Darkens : Letter → PathState → ArrayState → List Item → PathState → ArrayState → Type 0
Darkens actor p a items p' a' = (o : OrderState) (c : Context) → Agrees p a c → Darkened actor (state_of p o c) items p' o a'

-- The power is lost, the issued requests are, and the power is on again: these lines follow the cut, and the path, set up anew, stands for the state
-- after them.
pub record ComesBack (s : State) (items : List Item) (p : PathState) (a : ArrayState) : Type 0 where
  pub context : Context
  pub agrees : Agrees p a context
  pub last : State
  pub more : More (effect s Cut) items last
  pub over : is_over last.owed ≡ true
  pub event : is_untold last.event ≡ true
  pub state : state_of p (order_of (effect s Cut)) context ≡ record last { owed = closed last.owed }

-- these lines follow the cut, and the pages are near the state after them: the run ends there, or in the line behind them
pub record StaysDark (s : State) (items : List Item) (a : ArrayState) : Type 0 where
  pub last : State
  pub more : More (effect s Cut) items last
  pub near : IfSome (shown_by a) (IsNear last)
