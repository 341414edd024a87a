-- What a whole run promises.
use Rattle.std.specs.Prelude.{◌≡◌, ◌++◌, ◌∷◌, ℕ, ◌+◌, true, IfSome, List, [], Some, Result, Ok, Err, count_by, ◌≤◌, length}
use Rattle.storage_machine.specs.declared.state.State.{State}
use Rattle.storage_model.specs.Plan.{IsValidPlan}
use Rattle.storage_model.specs.declared.block.Block.{Block}
use Rattle.storage_model.specs.declared.ends.Halt.{Halt}
use Rattle.storage_model.specs.declared.ends.Halt.TheVariants.{SinkFailed}
use Rattle.storage_model.specs.declared.faults.Faults.{Faults}
use Rattle.storage_model.specs.declared.plan.Plan.{Plan}
use Rattle.storage_model.specs.declared.trace.End.TheVariants.{Good}
use Rattle.storage_model.specs.declared.trace.Item.{Item}
use Rattle.storage_runs.specs.Laws.{joined}
use Rattle.run_laws.specs.Whole.{Course, Whole, card_line, opened}
use Rattle.step_laws.specs.Steps.{NeedsCut}
use Rattle.trace_print.specs.Prints.{RoseBy, halt_faults, is_cut_line, is_flash}
use Rattle.whole_run.specs.Cuts.{RoseWith, is_power}
use Rattle.array_edge.specs.Array.{ArrayState}
use Rattle.card_store.specs.Store.{IsOpen}
use Rattle.end_laws.specs.Ends.{AreToCome, IsFresh}
use Rattle.intent_store.specs.Intent.{ShowsImage, shown_by}
use Rattle.power_step.specs.Loses.{EndsBy, HasEnd}
use Rattle.power_step.specs.Wrote.{Wrote}
use Rattle.world.specs.Runs.{HasBootCause}
use Rattle.world_state.specs.Stands.{IsNear, Stands}
use Rattle.world_steps.specs.World.{WorldState}
use Rattle.whole_run.specs.Course.{AreLater, BreaksNear}
use Rattle.whole_run.specs.declared.run.Stop.{Stop}
use Rattle.whole_run.specs.declared.run.Stop.TheVariants.{Before, Behind}

-- a run before its first line
pub record IsNew (w : WorldState) : Type 0 where
  pub plan : Plan
  pub faults : Faults
  pub valid : IsValidPlan plan
  pub coming : AreToCome faults
  pub fresh : IsFresh plan faults w

abbrev pub halt_in : Result (Unit {0}) Stop → Result (Unit {0}) Halt
halt_in (Ok done) = Ok tt
halt_in (Err (Before halt)) = Err halt
halt_in (Err (Behind halt)) = Err halt

-- the lines up to a failure of the sink: the first one, those of the parts, and the first ones of one more part or the end's
pub record Breaks (base : List Block) (plan : Plan) (faults : Faults) (lines : List Item) (a : ArrayState) : Type 0 where
  pub parts : List (List Item)
  pub last : State
  pub first : List Item
  pub printed : lines ≡ card_line base plan ∷ (joined parts ++ first)
  pub course : Course (opened base plan faults) parts last
  pub breaks : BreaksNear last first a

-- what the lines are, where the image showed `base`
abbrev pub RunTells : List Block → Plan → Faults → List Item → Result (Unit {0}) Stop → WorldState → ArrayState → Type 0
RunTells base plan faults lines (Ok done) w' a' =
    (t : State) × Whole base plan faults lines t × EndsBy Good lines × IfSome (shown_by a') (λ pages. pages ≡ t.base) × Stands w'.path w'.order a' t
RunTells base plan faults lines (Err (Before SinkFailed)) w' a' = (lines ≡ card_line base plan ∷ []) × (shown_by a' ≡ Some base)
RunTells base plan faults lines (Err (Before halt)) w' a' = shown_by a' ≡ Some base
RunTells base plan faults lines (Err (Behind SinkFailed)) w' a' = Breaks base plan faults lines a'
RunTells base plan faults lines (Err (Behind halt)) w' a' = (t : State) × Whole base plan faults lines t × IfSome (shown_by a') (IsNear t)

-- nothing was printed, but where the sink failed in the first line
abbrev pub PrintsNone : Halt → List Item → Type 0
PrintsNone SinkFailed lines = Unit {0}
PrintsNone halt lines = lines ≡ []

-- why it stopped before that line was whole, where it did
abbrev pub StopsBefore : ArrayState → ArrayState → List Item → Result (Unit {0}) Stop → Type 0
StopsBefore a a' lines (Err (Before halt)) = PrintsNone halt lines × HasBootCause a a' (Err halt) × (ShowsImage a → ShowsImage a') × (shown_by a' ≡ shown_by a)
StopsBefore a a' lines result = ShowsImage a

-- the line of the end; one behind a cut has that cut's line before it
abbrev pub HasLastLine : List Item → Result (Unit {0}) Stop → Type 0
HasLastLine lines (Err (Behind halt)) = HasEnd lines (Err halt) × (NeedsCut (Err halt) → 1 ≤ count_by is_cut_line lines)
HasLastLine lines result = Unit {0}

pub record Runs {K : Type 0} (took : K → List ℕ → K → Type 0) (plan : Plan) (faults : Faults) (a : ArrayState) (old : K) (result : Result (Unit {0}) Stop) (w' : WorldState) (a' : ArrayState) (new : K) : Type 0 where
  pub lines : List Item
  pub wrote : Wrote took old lines (halt_in result) new
  pub ends : HasLastLine lines result
  pub before : StopsBefore a a' lines result
  pub tells : (base : List Block) → shown_by a ≡ Some base → RunTells base plan faults lines result w' a'
  pub settled : result ≡ Ok tt → a'.settled ≡ true
  pub is_open : result ≡ Ok tt → IsOpen w'.path.card.store a'
  pub later : AreLater a a'
  pub flash : RoseBy (count_by is_flash lines + halt_faults (halt_in result)) a.faults a'.faults
  pub cuts : RoseWith (count_by is_cut_line lines) 0 (length faults.cuts + count_by is_power faults.turns) a.cuts a'.cuts
  pub image : ShowsImage a → ShowsImage a'
