-- What a card is seen as.
use Rattle.std.specs.Prelude.{◌≡◌, ◌≤◌, ◌<◌, ℕ, Bool, true, not, [], drop, Option, None, IfSome, unwrap_or}
use Rattle.std.specs.Option.{option_map_or}
use Rattle.cmd_words.specs.declared.command.Command.{Command}
use Rattle.cmd_words.specs.declared.command.Command.TheVariants.{Execute}
use Rattle.ext_csd.specs.declared.csd.ExtCsd.{ExtCsd}
use Rattle.ext_csd.specs.Values.{fresh}
use Rattle.task_queue.specs.Places.{Queue}
use Rattle.task_queue.specs.Queue.{depth, empty, place_of, slot}
use Rattle.card_store.specs.Store.{HasSectors, Store, sectors_of}
use Rattle.card_core.specs.declared.phase.DataPhase.{DataPhase}
use Rattle.card_core.specs.declared.phase.Phase.{Phase}

-- The queue, the extended CSD, the store, the data phase that is open, the phase that was begun last and not taken since, and
-- what the card was made with: the depth of its queue, the lines of its cache, and whether it writes through.
pub record CardState : Type 0 where
  pub queue : Queue
  pub csd : ExtCsd
  pub store : Store
  pub phase : Option DataPhase
  pub begun : Option Phase
  pub depth : ℕ
  pub lines : ℕ
  pub through : Bool

-- the data phase lies in the image that is open, and no more blocks moved than it has
pub record IsInside (store : Store) (phase : DataPhase) : Type 0 where
  pub sectors : HasSectors store phase.start phase.task.blocks
  pub moved : phase.moved ≤ phase.task.blocks

-- the task that waits for its start sector has a place, which is empty
abbrev pub HasPlace : Queue → Type 0
HasPlace queue = IfSome queue.waiting (λ task. (task.task < depth queue) × (place_of queue task.task ≡ None))

-- What is so of every card: its queue has the depth and its cache the lines that it was made with, each queued task and the open
-- data phase lie in the image that is open, and the task that waits for its start sector has an empty place.
pub record IsCard (card : CardState) : Type 0 where
  pub tasks : (1 ≤ card.depth) × (card.depth ≤ 31)
  pub room : (1 ≤ card.lines) × (card.lines ≤ 1024)
  pub places : depth card.queue ≡ card.depth
  pub cache : card.store.cache.room ≡ card.lines
  pub queued : (task : ℕ) → IfSome (slot card.queue task) (λ queued. HasSectors card.store queued.start queued.task.blocks)
  pub waits : HasPlace card.queue
  pub phase : IfSome card.phase (IsInside card.store)

-- the number of sectors of the image that is open
abbrev pub sectors : CardState → ℕ
sectors card = unwrap_or (sectors_of card.store) 0

-- its cache holds nothing that is not on the array
abbrev pub HoldsNothing : CardState → Type 0
HoldsNothing card = card.store.cache.lines ≡ []

-- the oldest of what its cache holds went to the array
abbrev pub HasStagedOne : CardState → CardState → Type 0
HasStagedOne old new = new.store.cache ≡ record old.store.cache { lines = drop 1 old.store.cache.lines }

-- a card that has no task, no phase and nothing switched on
abbrev pub idle_card : (depth lines : ℕ) → Bool → Store → CardState
idle_card depth lines through store = record {
  queue = empty depth;
  csd = fresh 0 depth lines;
  store = store;
  phase = None;
  begun = None;
  depth = depth;
  lines = lines;
  through = through;
}

-- the extended CSD as the driver sets it up: barriers and command queueing on, and the cache unless the card writes through
abbrev pub set_up : CardState → (sectors : ℕ) → ExtCsd
set_up card sectors = record (fresh sectors card.depth card.lines) { command_queue = true; barrier = true; cache = not card.through }

-- the blocks of the queued task that CMD46 or CMD47 names
abbrev pub blocks_of : CardState → Command → ℕ
blocks_of card (Execute read task) = option_map_or (λ queued. queued.task.blocks) (slot card.queue task) 0
blocks_of card _ = 0

-- how many blocks of the open data phase moved
abbrev pub moved_blocks : CardState → ℕ
moved_blocks card = option_map_or (λ phase. phase.moved) card.phase 0
