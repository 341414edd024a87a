-- The path that is set up anew behind a loss of power, and the lines that lead to it.
use Rattle.std.specs.Prelude.{◌≡◌, ◌≤◌, ℕ, true, IfSome, Some, List, [], ◌∷◌, ◌++◌, if◌then◌else◌}
use Rattle.storage_machine.specs.declared.state.State.{State}
use Rattle.storage_model.specs.declared.block.Block.{Block}
use Rattle.storage_model.specs.declared.trace.Item.{Item}
use Rattle.storage_model.specs.declared.trace.Item.TheVariants.{On}
use Rattle.array_edge.specs.Array.{ArrayState}
use Rattle.intent_store.specs.Intent.{shown_by}
use Rattle.bus_link.specs.Script.{Script}
use Rattle.card_core.specs.Card.{CardState, idle_card, sectors, set_up as card_set_up}
use Rattle.card_store.specs.Store.{IsStore, Stands as StoreStands}
use Rattle.cq_engine.specs.Outcome.{holds_nothing}
use Rattle.cq_regs.specs.Effects.{at_reset}
use Rattle.cut_laws.specs.Laws.{further_cuts}
use Rattle.cut_laws.specs.Lost.{AreLost, lost_lines}
use Rattle.cut_order.specs.Order.{OrderState}
use Rattle.drv_core.specs.SetUp.{set_up}
use Rattle.drv_jobs.specs.Changes.{forgotten}
use Rattle.drv_jobs.specs.Sound.{IsSound}
use Rattle.drv_recover.specs.declared.recovery.RecoveryState.TheVariants as driver
use Rattle.drv_ring.specs.Layout.{HasLayout}
use Rattle.left_laws.specs.Lines.{left_lines}
use Rattle.piece_data.specs.Laws.{HasSameSpace}
use Rattle.world_state.specs.Path.{PathState, layout, plan_of}
use Rattle.world_state.specs.Ties.{AreBorne, AreTied, IsScript}
use Rattle.world_state.specs.Told.{ComesBack, IsLosing}

-- the driver has forgotten the issued requests, and registers and engine begin anew
abbrev pub set_anew : PathState → CardState → Script → PathState
set_anew p card script = record {
  driver = record { requests = forgotten p.driver.requests; recovery = driver.Calm };
  regs = set_up (plan_of p) at_reset;
  memory = p.memory;
  engine = holds_nothing;
  card = card;
  script = script;
}

-- the script tells of the commands and the words that were used before
pub record IsSameScript (old new : Script) : Type 0 where
  pub ready : new.ready ≡ old.ready
  pub hits : new.hits ≡ old.hits
  pub used : new.used ≡ old.used
  pub sent : new.sent ≡ old.sent

-- the card is set up anew, in its first epoch, and what its image shows is kept
pub record IsCardAnew (old new : CardState) (a : ArrayState) : Type 0 where
  pub card : new ≡ record (idle_card old.depth old.lines old.through new.store) { csd = card_set_up old (sectors new) }
  pub room : new.store.cache.room ≡ old.store.cache.room
  pub last : new.store.cache.last ≡ 0
  pub store : IsStore new.store
  pub stands : IfSome (shown_by a) (λ shown. StoreStands (record { base = shown; pend = [] }) new.store a)

pub record IsSetAnew (p : PathState) (a : ArrayState) (p' : PathState) (a' : ArrayState) : Type 0 where
  pub path : p' ≡ set_anew p p'.card p'.script
  pub script : IsSameScript p.script p'.script
  pub card : IsCardAnew p.card p'.card a'
  pub shown : shown_by a' ≡ shown_by a

-- what outlasts a loss of power: the requests, the layout of the lists, what the card was made with, and the faults to come
pub record Outlasts (p : PathState) : Type 0 where
  pub sound : IsSound p.driver.requests
  pub layout_fits : HasLayout p.memory (layout p)
  pub depth : p.card.depth ≡ (plan_of p).depth
  pub lines : p.card.lines ≡ (if (plan_of p).through then 1024 else (plan_of p).lines)
  pub through : p.card.through ≡ (plan_of p).through
  pub room : p.card.store.cache.room ≡ p.card.lines
  pub script : IsScript p.script
  pub borne : AreBorne p

-- so it is where the ties hold
abbrev pub IsTiedOn : PathState → Type 0
IsTiedOn p = AreTied p → Outlasts p

-- what the card was made with stays
pub record IsSameMake (old new : CardState) : Type 0 where
  pub depth : new.depth ≡ old.depth
  pub lines : new.lines ≡ old.lines
  pub through : new.through ≡ old.through
  pub room : new.store.cache.room ≡ old.store.cache.room

-- and behind an event of the engine in which power was lost: the driver, the space of the memory and the card's make stay
pub record StaysMade (p p' : PathState) : Type 0 where
  pub driver : p'.driver ≡ p.driver
  pub space : HasSameSpace p.memory p'.memory
  pub card : IsSameMake p.card p'.card
  pub script : IsScript p'.script

abbrev pub IsOutlasted : PathState → PathState → Type 0
IsOutlasted p p' = Outlasts p → StaysMade p p' → Outlasts p'

-- then the ties hold of the path set up anew, whatever the array tells
abbrev pub IsTiedAnew : PathState → ArrayState → PathState → ArrayState → Type 0
IsTiedAnew p a p' a' = Outlasts p → IsSetAnew p a p' a' → AreTied p'

-- the lines from the cut to the next event
abbrev pub back_lines : State → List ℕ → ℕ → List Block → List Item
back_lines s ids cuts after = lost_lines ids ++ (further_cuts cuts ++ On ∷ left_lines s.pend after)

-- what leads to them: the issued requests were lost, and so many openings cut
pub record Leads (p : PathState) (a : ArrayState) (ids : List ℕ) (cuts : ℕ) (after : List Block) : Type 0 where
  pub lost : AreLost 0 p.driver.requests.holders true ids
  pub few : cuts ≤ 7
  pub shows : shown_by a ≡ Some after

-- the path set up anew stands for the state behind the lines
abbrev pub IsBack : State → PathState → OrderState → ArrayState → PathState → ArrayState → Type 0
IsBack s p o a p' a' = Outlasts p → IsLosing s p o a → IsSetAnew p a p' a' → (ids : List ℕ) (cuts : ℕ) (after : List Block) → Leads p a ids cuts after
    → ComesBack s (back_lines s ids cuts after) p' a'
