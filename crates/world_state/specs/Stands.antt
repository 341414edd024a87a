-- When a path and an array stand for a state of the storage machine, and when pages are near one.
use Rattle.std.specs.Prelude.{◌≡◌, ◌<◌, ◌≤◌, ℕ, ◌+◌, ◌-◌, ◌==◌, Bool, true, false, if◌then◌else◌, List, [], ◌∷◌, ◌++◌, length, All, Option, None, Some, IfSome, is_some, min, slice_index_or}
use Rattle.std.specs.Option.{option_map_or}
use Rattle.storage_model.specs.declared.block.Block.{Block}
use Rattle.storage_model.specs.declared.marks.Mark.{Mark}
use Rattle.storage_model.specs.declared.plan.Job.{Job}
use Rattle.storage_model.specs.declared.plan.Job.TheVariants.{Write}
use Rattle.storage_model.specs.Contents.{IsWithin, contents_now, sector_at}
use Rattle.storage_model.specs.Left.{is_left}
use Rattle.storage_machine.specs.Commands.{due, job_on}
use Rattle.storage_machine.specs.Jobs.{is_read, phase_blocks, sector_of}
use Rattle.storage_machine.specs.declared.commands.DueCommand.{DueCommand}
use Rattle.storage_machine.specs.declared.commands.DueCommand.TheVariants.{Execute}
use Rattle.storage_machine.specs.declared.state.State.{State}
use Rattle.storage_machine.specs.declared.state.Stop.{Stop}
use Rattle.storage_machine.specs.declared.state.Stop.TheVariants.{Bus}
use Rattle.trace_effects.specs.Cuts.{places_of}
use Rattle.trace_effects.specs.Phases.{puts_of}
use Rattle.array_edge.specs.Array.{ArrayState}
use Rattle.intent_store.specs.Intent.{shown_by}
use Rattle.card_store.specs.Store.{Contents, Stands as StoreStands}
use Rattle.drv_jobs.specs.Standings.{is_waiting}
use Rattle.drv_jobs.specs.Changes.{faults_of}
use Rattle.piece_data.specs.Data.{block_of}
use Rattle.drv_ring.specs.Pieces.{tag_pieces}
use Rattle.cut_order.specs.Order.{OrderState}
use Rattle.world_state.specs.Path.{PathState, holder, is_busy, job, layout, moved, plan_of, under_way}
use Rattle.world_state.specs.Reading.{Context, state_of, stop_of}
use Rattle.world_state.specs.Ties.{AreTied}

-- the puts that a job's first blocks are
abbrev pub puts_by : PathState → ℕ → Job → List Mark
puts_by p count (Write sector blocks fill forced reliable high) = puts_of (plan_of p).blocks sector fill reliable count
puts_by p count j = []

-- the marks of the blocks that moved in the phase under way
abbrev pub marks_moved_by : PathState → Option ℕ → List Mark
marks_moved_by p None = []
marks_moved_by p (Some tag) = option_map_or (λ id. puts_by p (moved p) (job p id)) (holder p tag) []

abbrev pub marks_moved : PathState → List Mark
marks_moved p = marks_moved_by p (under_way p)

abbrev pub contents_of : PathState → Context → Contents
contents_of p c = record { base = c.base; pend = c.pend ++ marks_moved p }

-- a fault of the bus that stopped the engine was not counted by the driver yet
abbrev pub names : Stop → ℕ → ℕ
names (Bus (Some named)) id = if named == id then 1 else 0
names stop id = 0

abbrev pub named_at : List ℕ → ℕ → ℕ
named_at named id = slice_index_or named (id - 1) 0

-- how often faults named each request that waits or is issued
pub record AreNamed (p : PathState) (named : List ℕ) : Type 0 where
  pub long : length named ≡ length (plan_of p).jobs
  pub waiting : (id : ℕ) → is_waiting p.driver.requests.waiting id ≡ true
      → named_at named id ≡ min (faults_of p.driver.requests id) 4
  pub issued : (tag id : ℕ) → holder p tag ≡ Some id → named_at named id ≡ min (faults_of p.driver.requests id + names (stop_of p) id) 4

-- the number of the last command: the machine counts that of a phase when its line is printed
abbrev pub sent_of : Bool → ℕ → ℕ
sent_of busy n = if busy then min (n + 1) 4294967295 else n

-- the blocks of a read under way are what their sectors are now
abbrev pub HasReadSoFar : PathState → Context → ℕ → Type 0
HasReadSoFar p c tag = IfSome (holder p tag) (λ id.
    is_read (job p id) ≡ true → (k : ℕ) → k < moved p
    → block_of p.memory (tag_pieces (layout p) tag (phase_blocks (job p id))) k ≡ sector_at (contents_now c.base c.pend) (sector_of (job p id) + k))

-- nothing of the cache was staged: what is shown is the base
abbrev pub IsDeferred : PathState → Context → Option (List Block) → Type 0
IsDeferred p c shown =
    (plan_of p).through ≡ false → c.staged ≡ false → c.kept ≡ false
    → length (places_of (contents_of p c).pend) < (plan_of p).lines → IfSome shown (λ pages. pages ≡ c.base)

-- contents and numbers that nobody holds, with what holds their consequences
pub record Agrees (p : PathState) (a : ArrayState) (c : Context) : Type 0 where
  pub told : is_some a.told ≡ true
  pub tied : AreTied p
  pub number : p.script.sent ≡ sent_of (is_busy p) c.n
  pub named : AreNamed p c.named
  pub store : StoreStands (contents_of p c) p.card.store a
  pub within : All (IsWithin c.base) c.pend
  pub read : IfSome (under_way p) (HasReadSoFar p c)
  pub few : length c.base ≤ 65536
  pub deferred : IsDeferred p c (shown_by a)

-- `s.owed` is nothing, or the end
pub record Stands (p : PathState) (o : OrderState) (a : ArrayState) (s : State) : Type 0 where
  pub context : Context
  pub state : s ≡ record (state_of p o context) { owed = s.owed }
  pub agrees : Agrees p a context

abbrev pub puts_on : List Block → Job → ℕ → List Mark
puts_on blocks (Write sector all fill forced reliable high) count = puts_of blocks sector fill reliable (min count all)
puts_on blocks j count = []

-- the puts of the write whose execution is due, as many as had moved
abbrev pub first_puts : State → DueCommand → ℕ → List Mark
first_puts s (Execute tag) count = puts_on s.plan.blocks (job_on s tag) count
first_puts s command count = []

pub record IsNear (s : State) (shown : List Block) : Type 0 where
  pub count : ℕ
  pub near : is_left s.base (s.pend ++ first_puts s (due s) count) shown ≡ true
