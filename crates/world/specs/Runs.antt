-- What the calls of a run promise: its beginning, its steps and its end.
use Rattle.std.specs.Prelude.{◌≡◌, ◌⊎◌, ◌≤◌, ◌∷◌, ℕ, count_by, true, false, List, [], Result, Ok, Err, IfSome, None, OnOk, length}
use Rattle.storage_model.specs.Count.{Later, Rose}
use Rattle.storage_model.specs.declared.ends.Halt.{Halt}
use Rattle.storage_model.specs.declared.ends.Halt.TheVariants.{SinkFailed, OpenFault, PowerGone, BadImage}
use Rattle.storage_model.specs.declared.faults.Faults.{Faults}
use Rattle.storage_model.specs.declared.plan.Plan.{Plan}
use Rattle.storage_model.specs.declared.trace.End.{End}
use Rattle.storage_model.specs.declared.trace.End.TheVariants.{Good, Fault}
use Rattle.storage_model.specs.declared.trace.Item.{Item}
use Rattle.storage_model.specs.declared.trace.Item.TheVariants.{Card, Off}
use Rattle.storage_machine.specs.declared.state.Owed.TheVariants.{End as Ended}
use Rattle.storage_machine.specs.declared.state.State.{State}
use Rattle.trace_effects.specs.Effects.{effect}
use Rattle.trace_rules.specs.Lines.{line_rule}
use Rattle.trace_print.specs.Prints.{HasCauses, RoseBy, is_cut_line}
use Rattle.run_laws.specs.Whole.{DropsFirst, Dropped, card_line, lines_shown, opened}
use Rattle.array_edge.specs.Array.{ArrayState}
use Rattle.card_core.specs.Card.{sectors}
use Rattle.card_store.specs.Store.{IsOpen}
use Rattle.cut_order.specs.Order.{OrderState, fresh}
use Rattle.intent_store.specs.Calls.{IsStartAgain}
use Rattle.intent_store.specs.Intent.{IsNoImage, ShowsImage, shown_by}
use Rattle.power_step.specs.Loses.{HasEnd}
use Rattle.power_step.specs.Wrote.{Wrote}
use Rattle.step_laws.specs.Steps.{NeedsCut}
use Rattle.world_state.specs.Path.{PathState, plan_of}
use Rattle.world_state.specs.Stands.{IsNear, Stands}
use Rattle.world_state.specs.Ties.{IsReady}
use Rattle.world_steps.specs.World.{IsPrompt, StandsFor, WorldState, is_to_do}
use Rattle.world.specs.First.{opening_end}
use Rattle.world.specs.declared.finish.Finish.{Finish}
use Rattle.world.specs.declared.finish.Finish.TheVariants.{Off as IsOff, Again}

-- a run on this path, with what is left of letters and `cut` lines
abbrev pub in_order : PathState → OrderState → WorldState
in_order p order = record { path = p; order = order }

-- the line of the card
abbrev pub first_line : PathState → Item
first_line p = Card (sectors p.card) (plan_of p).depth (lines_shown (plan_of p))

-- The first line, where the image could be opened; the sink may fail in it. Nothing is written where the image couldn't be opened.
abbrev pub boot_lines : WorldState → Result (Unit {0}) Halt → List Item
boot_lines w (Ok done) = first_line w.path ∷ []
boot_lines w (Err SinkFailed) = first_line w.path ∷ []
boot_lines w (Err halt) = []

-- Why a run ended before its first line: the array failed, 8 openings in a row were cut, or the pages are no image. Where the image was opened they are one.
abbrev pub HasBootCause : ArrayState → ArrayState → Result (Unit {0}) Halt → Type 0
HasBootCause a a' (Ok done) = ShowsImage a
HasBootCause a a' (Err SinkFailed) = ShowsImage a
HasBootCause a a' (Err OpenFault) = Rose a.faults a'.faults
HasBootCause a a' (Err PowerGone) = RoseBy 8 a.cuts a'.cuts
HasBootCause a a' (Err BadImage) = IsNoImage a

pub record Boots {K : Type 0} (took : K → List ℕ → K → Type 0) (plan : Plan) (faults : Faults) (a : ArrayState) (old : K) (result : Result (Unit {0}) Halt) (w' : WorldState) (a' : ArrayState) (new : K) : Type 0 where
  pub wrote : Wrote took old (boot_lines w' result) result new
  pub shown : shown_by a' ≡ shown_by a
  pub image : ShowsImage a → ShowsImage a'
  pub cause : HasBootCause a a' result
  pub openings : IsStartAgain 8 a a' (opening_end result)
  pub later_faults : Later a.faults a'.faults
  pub later_cuts : Later a.cuts a'.cuts
  pub broken : result ≡ Err SinkFailed → IfSome (shown_by a') (λ base. first_line w'.path ≡ card_line base plan)
  pub keeps : OnOk result (plan_of w'.path ≡ plan)
  pub order : OnOk result (w'.order ≡ fresh faults.turns faults.cuts)
  pub ready : OnOk result (IsReady w'.path a')
  pub prompt : OnOk result (IsPrompt w')
  pub stands : OnOk result (IfSome (shown_by a') (λ base. StandsFor w' a' (opened base plan faults) × (sectors w'.path.card ≡ length base)))

-- how the end of a run went, as the result of a call
abbrev pub halt_of : Result Finish Halt → Result (Unit {0}) Halt
halt_of (Ok finish) = Ok tt
halt_of (Err halt) = Err halt

-- A last flush that lost power begins the lines of its cut. Where the sink failed it did in the end's line, or in the last of these.
abbrev pub EndTells : WorldState → State → List Item → Result Finish Halt → WorldState → ArrayState → Type 0
EndTells w s lines (Ok IsOff) w' a = (lines ≡ Off Good ∷ []) × (line_rule s (Off Good) ≡ None) × IfSome (shown_by a) (λ pages. pages ≡ (effect s (Off Good)).base) × Stands w'.path w'.order a (effect s (Off Good))
EndTells w s lines (Ok Again) w' a = (t : State) × Dropped s lines t × StandsFor w' a t
EndTells w s lines (Err SinkFailed) w' a =
    ((end : End) × (lines ≡ Off end ∷ []) × (line_rule s (Off end) ≡ None) × IfSome (shown_by a) (IsNear (effect s (Off end))))
    ⊎ ((first : DropsFirst s lines) × IfSome (shown_by a) (IsNear first.1))
EndTells w s lines (Err halt) w' a =
    ((lines ≡ Off Fault ∷ []) × (line_rule s (Off Fault) ≡ None) × IfSome (shown_by a) (IsNear (effect s (Off Fault))))
    ⊎ ((t : State) × Dropped s lines t × (t.owed ≡ Ended) × IfSome (shown_by a) (IsNear t))

pub record Finishes {K : Type 0} (took : K → List ℕ → K → Type 0) (w : WorldState) (a : ArrayState) (old : K) (result : Result Finish Halt) (w' : WorldState) (a' : ArrayState) (new : K) : Type 0 where
  pub lines : List Item
  pub wrote : Wrote took old lines (halt_of result) new
  pub tells : (s : State) → StandsFor w a s → EndTells w s lines result w' a'
  pub ends : HasEnd lines (halt_of result)
  pub dark : NeedsCut (halt_of result) → 1 ≤ count_by is_cut_line lines
  pub causes : HasCauses 0 a a' lines (halt_of result)
  pub settled : result ≡ Ok IsOff → a'.settled ≡ true
  pub is_open : result ≡ Ok IsOff → IsOpen w'.path.card.store a'
  pub image : ShowsImage a'

-- behind a flush that lost power the run goes on, with an empty cache and still nothing to do
pub record IsAgain (w : WorldState) (w' : WorldState) (a' : ArrayState) : Type 0 where
  pub ready : IsReady w'.path a'
  pub none : is_to_do w'.path ≡ false
  pub empty : w'.path.card.store.cache.lines ≡ []
  pub plan : plan_of w'.path ≡ plan_of w.path
  pub order : w'.order ≡ w.order
