-- The events of a run behind its first line, and how it ends.
use Rattle.std.specs.Prelude.{◌≡◌, ◌⊎◌, ◌++◌, ℕ, ◌+◌, true, IfSome, List, [], Option, Some, Result, Ok, Err, count_by, ◌≤◌}
use Rattle.storage_machine.specs.declared.state.State.{State}
use Rattle.storage_model.specs.declared.ends.Halt.{Halt}
use Rattle.storage_model.specs.declared.ends.Halt.TheVariants.{SinkFailed}
use Rattle.storage_model.specs.declared.trace.End.{End}
use Rattle.storage_model.specs.declared.trace.End.TheVariants.{Good}
use Rattle.storage_model.specs.declared.trace.Item.{Item}
use Rattle.storage_model.specs.Count.{Later}
use Rattle.storage_runs.specs.Laws.{Opens, joined}
use Rattle.run_laws.specs.Whole.{Course, DropsFirst, Finishes, off_lines}
use Rattle.step_laws.specs.Steps.{NeedsCut}
use Rattle.trace_print.specs.Prints.{RoseBy, halt_faults, is_cut_line, is_flash}
use Rattle.whole_run.specs.Cuts.{RoseWith, power_left}
use Rattle.trace_text.specs.Trace.{items_text}
use Rattle.array_edge.specs.Array.{ArrayState}
use Rattle.card_store.specs.Store.{IsOpen}
use Rattle.intent_store.specs.Intent.{ShowsImage, shown_by}
use Rattle.power_step.specs.Loses.{HasEnd}
use Rattle.power_step.specs.Wrote.{Wrote}
use Rattle.world_state.specs.Path.{plan_of}
use Rattle.world_state.specs.Stands.{IsNear, Stands}
use Rattle.world_state.specs.Ties.{IsReady}
use Rattle.world_steps.specs.World.{IsPrompt, StandsFor, WorldState}

-- a run between two events, each of which was the one that came next
pub record IsGoing (w : WorldState) (a : ArrayState) : Type 0 where
  pub ready : IsReady w.path a
  pub prompt : IsPrompt w

-- counts don't fall
pub record AreLater (a a' : ArrayState) : Type 0 where
  pub faults : Later a.faults a'.faults
  pub cuts : Later a.cuts a'.cuts

-- the lines of the parts of a run, one after the other
abbrev pub Parts : State → List Item → State → Type 0
Parts s lines t = (parts : List (List Item)) × (lines ≡ joined parts) × Course s parts t

-- these parts came, and the run may go on
pub record Went {K : Type 0} (took : K → List ℕ → K → Type 0) (w : WorldState) (a : ArrayState) (old : K) (w' : WorldState) (a' : ArrayState) (new : K) : Type 0 where
  pub lines : List Item
  pub wrote : took old (items_text lines) new
  pub tells : (s : State) → StandsFor w a s → (t : State) × Parts s lines t × StandsFor w' a' t
  pub ready : IsReady w'.path a'
  pub plan : plan_of w'.path ≡ plan_of w.path
  pub later : AreLater a a'
  pub flash : RoseBy (count_by is_flash lines) a.faults a'.faults
  pub cuts : RoseWith (count_by is_cut_line lines) (power_left w'.order) (power_left w.order) a.cuts a'.cuts

-- the first lines of one more part, or the end's line: the sink failed in the last of them, and the pages are near the state behind it
abbrev pub BreaksNear : State → List Item → ArrayState → Type 0
BreaksNear s first a =
    ((last : State) × Opens s first last × IfSome (shown_by a) (IsNear last))
    ⊎ (((drops : DropsFirst s first) × IfSome (shown_by a) (IsNear drops.1))
    ⊎ ((end : End) × (t : State) × (first ≡ off_lines (Some end)) × Finishes s (Some end) t × IfSome (shown_by a) (IsNear t)))

-- The end behind these parts: the line of a good end, the first lines of a part, or the line of another end.
abbrev pub EndsBehind : State → List Item → Result (Unit {0}) Halt → WorldState → ArrayState → Type 0
EndsBehind s last (Ok done) w' a' =
    (t : State) × (last ≡ off_lines (Some Good)) × Finishes s (Some Good) t × IfSome (shown_by a') (λ pages. pages ≡ t.base) × Stands w'.path w'.order a' t
EndsBehind s last (Err SinkFailed) w' a' = BreaksNear s last a'
EndsBehind s last (Err halt) w' a' = (end : Option End) × (t : State) × (last ≡ off_lines end) × Finishes s end t × IfSome (shown_by a') (IsNear t)

abbrev pub EndsIn : State → List Item → Result (Unit {0}) Halt → WorldState → ArrayState → Type 0
EndsIn s lines result w' a' = (front : List Item) × (last : List Item) × (t : State) × (lines ≡ front ++ last) × Parts s front t × EndsBehind t last result w' a'

-- a run came to an end
pub record Ends {K : Type 0} (took : K → List ℕ → K → Type 0) (w : WorldState) (a : ArrayState) (old : K) (result : Result (Unit {0}) Halt) (w' : WorldState) (a' : ArrayState) (new : K) : Type 0 where
  pub lines : List Item
  pub wrote : Wrote took old lines result new
  pub ends : HasEnd lines result
  pub tells : (s : State) → StandsFor w a s → EndsIn s lines result w' a'
  pub settled : result ≡ Ok tt → a'.settled ≡ true
  pub is_open : result ≡ Ok tt → IsOpen w'.path.card.store a'
  pub later : AreLater a a'
  pub flash : RoseBy (count_by is_flash lines + halt_faults result) a.faults a'.faults
  pub cuts : RoseWith (count_by is_cut_line lines) 0 (power_left w.order) a.cuts a'.cuts
  pub dark : NeedsCut result → 1 ≤ count_by is_cut_line lines
  pub image : ShowsImage a'
