-- A raw script told task by task: what its operations make of contents and marks, from a machine that was switched on.
use Rattle.std.specs.Prelude.{◌≡◌, true, ℕ, List, [], ◌∷◌, Some, IfSome, OnOk, Result, Ok, Err}
use Rattle.card_store.specs.Store.{Contents}
use Rattle.intent_store.specs.Intent.{shown_by}
use Rattle.raw_face.specs.ByTask.{RawDoes, RawFinishes, switched_on_state}
use Rattle.raw_machine.specs.Machine.{Moment}
use Rattle.raw_machine.specs.State.{RawState}
use Rattle.raw_machine.specs.Telling.{Tells}
use Rattle.raw_text.specs.declared.op.RawOp.{RawOp}
use Rattle.storage_model.specs.Contents.{contents_now}
use Rattle.storage_model.specs.Left.{is_left}
use Rattle.storage_model.specs.declared.block.Block.{Block}
use Rattle.storage_model.specs.declared.ends.Halt.{Halt}

-- the sectors of contents as they are now
abbrev pub now : Contents → List Block
now c = contents_now c.base c.pend

module _ {K : Type 0} (took : K → List ℕ → K → Type 0) where
  -- A script from a state on: each operation in turn, with its lines, and then the flush, with the last line. It ends before where an
  -- operation ends it.
  pub data PlaysTold : List RawOp → RawState → K → Result (Unit {0}) Halt → RawState → K → Type 0 where
    goes_on : {op : RawOp} {ops : List RawOp} {old between new : RawState} {out middle out' : K} {result : Result (Unit {0}) Halt}
        → RawDoes took op old out (Ok tt) between middle → PlaysTold ops between middle result new out' → PlaysTold (op ∷ ops) old out result new out'
    halts : {op : RawOp} {ops : List RawOp} {old new : RawState} {out out' : K} {halt : Halt} → RawDoes took op old out (Err halt) new out'
        → PlaysTold (op ∷ ops) old out (Err halt) new out'
    finishes : {old new : RawState} {out out' : K} {result : Result (Unit {0}) Halt} → RawFinishes took old out result new out' → PlaysTold [] old out result new out'

  -- From a machine switched on over these contents the operations make and print so, up to a state that machine and array are in at the end.
  -- What the array shows then may be left of that state's contents under its marks, and after a script that ended well it is its contents now.
  pub record IsTold (base : List Block) (ops : List RawOp) (out : K) (result : Result (Unit {0}) Halt) (end : Moment) (out' : K) : Type 0 where
    pub state : RawState
    pub plays : PlaysTold ops (switched_on_state base) out result state out'
    pub tells : Tells end state
    pub left : IfSome (shown_by end.array) (λ shown. is_left state.card.contents.base state.card.contents.pend shown ≡ true)
    pub kept : OnOk result (shown_by end.array ≡ Some (now state.card.contents))
