-- Events of the card and of power on the path, and the flush that ends a run. Where power is lost, the line of the phase under way comes before the cut.
use Rattle.std.specs.Prelude.{◌≡◌, Bool, true, false, if◌then◌else◌, List, [], ◌∷◌, None, OnErr, OnOk, Result, Err, IsErrOf}
use Rattle.storage_model.specs.Keep.{every_sector}
use Rattle.storage_model.specs.declared.faults.Letter.{Letter}
use Rattle.storage_model.specs.declared.faults.Letter.TheVariants.{Card as CardActs, Cut as PowerActs}
use Rattle.storage_model.specs.declared.trace.Item.{Item}
use Rattle.storage_model.specs.declared.trace.Item.TheVariants.{Cut, Flash as FlashLine}
use Rattle.storage_machine.specs.Cuts.{is_due, sent_so_far}
use Rattle.storage_machine.specs.Host.{to_do}
use Rattle.storage_machine.specs.declared.state.State.{State}
use Rattle.trace_effects.specs.Effects.{effect}
use Rattle.trace_rules.specs.Lines.{same_letter}
use Rattle.array_edge.specs.Array.{ArrayState}
use Rattle.intent_store.specs.Intent.{StoreEnds}
use Rattle.intent_store.specs.declared.ends.StoreEnd.{StoreEnd}
use Rattle.intent_store.specs.declared.ends.StoreEnd.TheVariants.{PowerLost as FlushLost}
use Rattle.card_store.specs.Staging.{StageEnds}
use Rattle.card_store.specs.Store.{IsSameStore, IsStore, Turns, kept, same}
use Rattle.card_store.specs.declared.ends.StageEnd.{StageEnd}
use Rattle.card_store.specs.declared.ends.StageEnd.TheVariants.{Empty, Flash, PowerLost}
use Rattle.card_link.specs.Behind.{Fits}
use Rattle.cut_order.specs.Order.{OrderState, order_of, with_line}
use Rattle.world_state.specs.Engine.{phase_line_of}
use Rattle.world_state.specs.Path.{PathState, behind_path}
use Rattle.world_state.specs.Reading.{Context, state_of}
use Rattle.world_state.specs.Stands.{Agrees}
use Rattle.world_state.specs.Ties.{AreTied}
use Rattle.world_state.specs.Told.{Darkened, Darkens, IsLosing, Tells}

-- the card's store alone may be another
pub record IsStored (p : PathState) (p' : PathState) (a' : ArrayState) : Type 0 where
  pub path : p' ≡ record p { card = record p.card { store = p'.card.store } }
  pub fits : Fits (behind_path p' a')
  pub same : IsSameStore p.card.store p'.card.store
  pub store : IsStore p'.card.store

-- the card used an idle moment
pub record CardEvent (p : PathState) (a : ArrayState) (p' : PathState) (a' : ArrayState) (result : Result (Unit {0}) StageEnd) : Type 0 where
  pub stored : IsStored p p' a'
  pub turns : Turns same p.card.store a p'.card.store a'
  pub none : IsErrOf result Empty → a' ≡ a
  pub ends : StageEnds a a' result

-- the line of the phase that is under way when power is lost
abbrev pub phase_cut : PathState → List Item
phase_cut p = phase_line_of p p p.card.begun

abbrev pub is_lost : Result (Unit {0}) StageEnd → Bool
is_lost (Err PowerLost) = true
is_lost result = false

-- the lines of the card's event: a fault of the flash of no request
abbrev pub card_lines : PathState → Result (Unit {0}) StageEnd → List Item
card_lines p (Err Flash) = FlashLine None ∷ []
card_lines p (Err PowerLost) = phase_cut p
card_lines p result = []

-- what it makes of the path
pub record CardStep (p : PathState) (a : ArrayState) (p' : PathState) (a' : ArrayState) (result : Result (Unit {0}) StageEnd) : Type 0 where
  pub ties : AreTied p'
  pub tells : is_lost result ≡ false → Tells CardActs p a (card_lines p result) p' a'
  pub darkens : is_lost result ≡ true → Darkens CardActs p a (card_lines p result) p' a'

abbrev pub CardSteps : Type 0
CardSteps =
    (p : PathState) (a : ArrayState) (p' : PathState) (a' : ArrayState) (result : Result (Unit {0}) StageEnd)
    → CardEvent p a p' a' result → AreTied p → CardStep p a p' a' result

-- an event of power, while something is to do
abbrev pub PowerSteps : Type 0
PowerSteps =
    (p : PathState) (a : ArrayState) (o : OrderState) (c : Context) → Agrees p a c → to_do (state_of p o c) ≡ true
    → Darkened PowerActs (state_of p o c) (phase_cut p) p o a

-- A cut uses the line that was due at the begin of power's event, and another event's cut none.
abbrev pub cut_order : State → Letter → OrderState → OrderState
cut_order s actor o = if same_letter actor PowerActs then (if is_due s then with_line o (sent_so_far s) else o) else o

abbrev pub UsesLine : Type 0
UsesLine =
    (actor : Letter) (s : State) (items : List Item) (p : PathState) (o : OrderState) (a : ArrayState) (d : Darkened actor s items p o a)
    → order_of (effect d.last Cut) ≡ cut_order s actor o

-- the card staged all that its cache held
pub record FlushEvent (p : PathState) (a : ArrayState) (p' : PathState) (a' : ArrayState) (result : Result (Unit {0}) StoreEnd) : Type 0 where
  pub stored : IsStored p p' a'
  pub ok : OnOk result (Turns (kept every_sector) p.card.store a p'.card.store a')
  pub err : OnErr result (Turns same p.card.store a p'.card.store a')
  pub ends : StoreEnds a a' result

-- where nothing is to do and power is lost in it, the cut may come at once
pub record FlushStep (p : PathState) (a : ArrayState) (p' : PathState) (a' : ArrayState) (result : Result (Unit {0}) StoreEnd) : Type 0 where
  pub ties : AreTied p'
  pub losing : IsErrOf result FlushLost → (o : OrderState) (c : Context) → Agrees p a c → to_do (state_of p o c) ≡ false → IsLosing (state_of p o c) p' o a'

abbrev pub FlushSteps : Type 0
FlushSteps =
    (p : PathState) (a : ArrayState) (p' : PathState) (a' : ArrayState) (result : Result (Unit {0}) StoreEnd)
    → FlushEvent p a p' a' result → AreTied p → FlushStep p a p' a' result
