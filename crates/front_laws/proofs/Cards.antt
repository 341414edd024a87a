-- An event of the card, and one of power: they have one line at most, and contents and marks with the blocks that moved stand on.
use Rattle.std.proofs.Common.{◌≡◌, true, List, [], ◌∷◌, Option, None, Some, refl}
use Rattle.std.specs.Prelude.{Result, Ok, Err}
use Rattle.storage_model.specs.declared.faults.Letter.TheVariants.{Card as CardActs, Cut as PowerActs}
use Rattle.storage_model.specs.declared.trace.Item.{Item}
use Rattle.array_edge.specs.Array.{ArrayState}
use Rattle.card_core.specs.declared.phase.Phase.{Phase}
use Rattle.card_store.specs.declared.ends.StageEnd.{StageEnd}
use Rattle.card_store.specs.declared.ends.StageEnd.TheVariants.{Empty, Flash, PowerLost}
use Rattle.intent_store.specs.Intent.{shown_by}
use Rattle.power_laws.specs.Power.{CardEvent, card_lines, phase_cut}
use Rattle.front_laws.proofs.Now.{shown_near}
use Rattle.front_laws.proofs.Singles.{is_single, shown_card, shown_power, single_fronts}
use Rattle.front_laws.specs.Fronts.{CardIsNear, FrontsNear, PowerIsNear}
use Rattle.world_state.specs.Engine.{phase_line_of}
use Rattle.world_state.specs.Path.{PathState}
use Rattle.world_state.specs.Reading.{Context, state_of}
use Rattle.world_state.specs.Stands.{Agrees, contents_of}

phase_single : (p : PathState) (phase : Option Phase) → is_single (phase_line_of p p phase) ≡ true
phase_single p None = refl
phase_single p (Some phase) = refl

card_single : (p : PathState) (result : Result (Unit {0}) StageEnd) → is_single (card_lines p result) ≡ true
card_single p (Ok done) = refl
card_single p (Err Empty) = refl
card_single p (Err Flash) = refl
card_single p (Err PowerLost) = phase_single p p.card.begun

pub card_near : CardIsNear
card_near laws p a p' a' result event =
    single_fronts CardActs p a (card_lines p result) a' (card_single p result)
    (λ o c agrees. shown_card (state_of p o c) (shown_by a') (shown_near laws p a o c p'.card.store a' agrees (event.turns (contents_of p c) agrees.store)))

pub power_near : PowerIsNear
power_near laws p a =
    single_fronts PowerActs p a (phase_cut p) a (phase_single p p.card.begun)
    (λ o c agrees. shown_power (state_of p o c) (shown_by a) (shown_near laws p a o c p.card.store a agrees agrees.store))
