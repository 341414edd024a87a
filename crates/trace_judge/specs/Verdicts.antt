-- The verdicts, and what each says of the lines of a run.
use Rattle.std.specs.Prelude.{◌≡◌, ℕ, ◌-◌, ◌≤◌, Bool, true, false, Option, Some, List, length, slice_get, take, IsOk, Err}
use Rattle.storage_model.specs.declared.block.Block.{Block}
use Rattle.storage_model.specs.declared.faults.Faults.{Faults}
use Rattle.storage_model.specs.declared.plan.Plan.{Plan}
use Rattle.storage_model.specs.declared.trace.Item.{Item}
use Rattle.storage_model.specs.declared.trace.Item.TheVariants.{Off}
use Rattle.storage_order.specs.Accept.{accept}
use Rattle.trace_judge.specs.declared.judge.Verdict.{Verdict}
use Rattle.trace_judge.specs.declared.judge.Verdict.TheVariants.{Accepted, Front, Rejected}

abbrev pub is_off : Option Item → Bool
is_off (Some (Off end)) = true
is_off _ = false

-- the last line ends the run
abbrev pub ends : List Item → Bool
ends items = is_off (slice_get items (length items - 1))

-- a line, counted from 1, is the first that isn't accepted, and this is the lowest rule that it breaks
pub record IsRejectedAt (base : List Block) (plan : Plan) (faults : Faults) (items : List Item) (line rule : ℕ) : Type 0 where
  pub place : (1 ≤ line) × (line ≤ length items)
  pub before : IsOk (accept base plan faults (take (line - 1) items))
  pub at : accept base plan faults (take line items) ≡ Err rule

-- what a verdict says of the lines of a run on these contents
abbrev pub IsVerdict : List Block → Plan → Faults → List Item → Verdict → Type 0
IsVerdict base plan faults items Accepted = IsOk (accept base plan faults items) × (ends items ≡ true)
IsVerdict base plan faults items Front = IsOk (accept base plan faults items) × (ends items ≡ false)
IsVerdict base plan faults items (Rejected line rule) = IsRejectedAt base plan faults items line rule
