-- A raw script: its operations one after the other, over a machine that was switched on.
use Rattle.std.specs.Prelude.{◌≡◌, ◌⊎◌, ◌≤◌, ◌+◌, ℕ, count_by, true, List, [], ◌∷◌, Option, Some, IfSome, Result, Ok, Err}
use Rattle.storage_model.specs.Count.{Count, Later, Rose}
use Rattle.storage_model.specs.declared.ends.Halt.{Halt}
use Rattle.storage_model.specs.declared.trace.End.{End}
use Rattle.storage_model.specs.declared.trace.End.TheVariants.{Fault}
use Rattle.storage_model.specs.declared.trace.Item.TheVariants.{Card}
use Rattle.array_edge.specs.Array.{ArrayState}
use Rattle.card_core.specs.Card.{sectors}
use Rattle.card_store.specs.Store.{Stands as StoreStands, Store}
use Rattle.intent_store.specs.Intent.{ShowsImage, shown_by}
use Rattle.io_edge.specs.Sink.{TookPart}
use Rattle.raw_face.specs.Booting.{switched_on}
use Rattle.raw_machine.specs.Machine.{Machine, Moment, moment, switched_off}
use Rattle.raw_face.specs.Operation.{Does, Finishes}
use Rattle.raw_face.specs.Output.{Output, tells_fault}
use Rattle.raw_text.specs.declared.op.RawOp.{RawOp}
use Rattle.trace_text.specs.Trace.{item_text}
use Rattle.cqmmc_top.specs.Opened.{HasSectors, OpeningRefused}
use Rattle.cqmmc_top.specs.Print.{HasCause, run_status}
use Rattle.cqmmc_top.specs.RawByTask.{IsTold}
use Rattle.cqmmc_top.specs.Refusal.{Says}
use Rattle.cqmmc_top.specs.Texts.{IsScriptOf, ScriptRefused}
use Rattle.cqmmc_top.specs.declared.refusal.Refusal.{Refusal}

-- Why a script isn't begun, in the order in which it is found out: by its text or by want of memory, or by the opening. Only
-- the opening touches a page.
pub data IsScriptRefused (script : Option (List ℕ)) (first first' : Count) (old new : ArrayState) : Refusal → Type 0 where
  by_script : {refusal : Refusal} → ScriptRefused script first first' refusal → new ≡ old → IsScriptRefused script first first' old new refusal
  by_opening : {refusal : Refusal} {ops : List RawOp} → IsScriptOf script ops → OpeningRefused old new refusal → IsScriptRefused script first first' old new refusal

-- A machine that was switched on over an array: registers at reset, and a card set up, of as many sectors as the image, whose
-- store stands for what the image shows, which is what it showed before. The pages were an image, and are one.
pub record IsBegun (old : ArrayState) (begin : Moment) : Type 0 where
  pub store : Store
  pub machine : begin.machine ≡ switched_on (switched_off store) begin.machine
  pub contents : IfSome (shown_by begin.array) (λ base. StoreStands (record { base = base; pend = [] }) begin.machine.card.store begin.array)
  pub sectors : HasSectors old (sectors begin.machine.card)
  pub shown : shown_by begin.array ≡ shown_by old
  pub image : ShowsImage old
  pub kept : ShowsImage begin.array
  pub faults : Later old.faults begin.array.faults
  pub cuts : Later old.cuts begin.array.cuts

-- the first line: so many sectors, 31 tasks and 64 cache lines
abbrev pub card_text : ℕ → List ℕ
card_text count = item_text (Card count 31 (Some 64))

module _ {K : Type 0} (took : K → List ℕ → K → Type 0) where
  -- A script from a moment on: each operation in turn, with its lines, and then the flush, with the last line. It ends before
  -- where an operation ends it.
  pub data Plays : List RawOp → Moment → K → Result (Unit {0}) Halt → Moment → K → Type 0 where
    goes_on : {op : RawOp} {ops : List RawOp} {old between new : Moment} {out middle out' : K} {result : Result (Unit {0}) Halt}
        → Does took op old out (Ok tt) between middle → Plays ops between middle result new out' → Plays (op ∷ ops) old out result new out'
    halts : {op : RawOp} {ops : List RawOp} {old new : Moment} {out out' : K} {halt : Halt} → Does took op old out (Err halt) new out' → Plays (op ∷ ops) old out (Err halt) new out'
    finishes : {old new : Moment} {out out' : K} {result : Result (Unit {0}) Halt} → Finishes took old out result new out' → Plays [] old out result new out'

-- whether the line of the end tells of a fault
abbrev pub end_faults : Option End → ℕ
end_faults (Some Fault) = 1
end_faults _ = 0

-- the lines of an output that tell of a fault: a sector that couldn't be read, a response with bit 19 or 21, and `off fault`
abbrev pub output_faults : Output → ℕ
output_faults output = count_by tells_fault output.lines + end_faults output.end

module _ {K : Type 0} (took : K → List ℕ → K → Type 0) where
  -- those of a script that was carried out
  unfoldable pub script_faults : {ops : List RawOp} {old new : Moment} {out out' : K} {result : Result (Unit {0}) Halt} → Plays took ops old out result new out' → ℕ
  script_faults (goes_on does plays) = output_faults does.output + script_faults plays
  script_faults (halts does) = output_faults does.output
  script_faults (finishes ends) = output_faults ends.output

-- a count rose by so much at least, or stands at its last value
abbrev pub RoseBy : ℕ → Count → Count → Type 0
RoseBy n old new = (old.value + n ≤ new.value) ⊎ (new.stands ≡ true)

module _ {K : Type 0} (took : K → List ℕ → K → Type 0) where
  -- A script was carried out, and its lines that tell of a fault are together no more than the faults of the array since it began.
  pub record CarriesOut (ops : List RawOp) (old : Moment) (out : K) (result : Result (Unit {0}) Halt) (new : Moment) (out' : K) : Type 0 where
    pub plays : Plays took ops old out result new out'
    pub faults : RoseBy (script_faults took plays) old.array.faults new.array.faults

module _ {K : Type 0} (took : K → List ℕ → K → Type 0) (faults_of : K → Count) where
  -- a script wasn't begun: by a cause, and the image shows what it showed, and is one just where it was one
  pub record IsRefusedScript (script : Option (List ℕ)) (first first' : Count) (old new : ArrayState) (out : K) (status : ℕ) (out' : K) : Type 0 where
    pub refusal : Refusal
    pub cause : IsScriptRefused script first first' old new refusal
    pub says : Says took faults_of refusal out status out'
    pub shown : shown_by new ≡ shown_by old
    pub kept : ShowsImage old → ShowsImage new
    pub was_image : ShowsImage new → ShowsImage old

  -- the sink failed within the first line, which tells as many sectors as the image has; the pages are an image, and it shows
  -- what it showed
  pub record IsUntold (script : Option (List ℕ)) (old new : ArrayState) (out : K) (status : ℕ) (out' : K) : Type 0 where
    pub ops : List RawOp
    pub means : IsScriptOf script ops
    pub is : status ≡ 5
    pub sectors : ℕ
    pub has : HasSectors old sectors
    pub part : TookPart took out (card_text sectors) out'
    pub rose : Rose (faults_of out) (faults_of out')
    pub shown : shown_by new ≡ shown_by old
    pub image : ShowsImage old
    pub kept : ShowsImage new

  -- The operations were carried out one after the other, from a machine switched on over an image, and the pages are an image at the end,
  -- however it came. The status says how that ended. Where the array tells
  -- its pages, the same is told task by task, over the contents that it showed. The lines that tell of a fault are together no more than the
  -- faults of the array.
  pub record IsPlayed (script : Option (List ℕ)) (old new : ArrayState) (out : K) (status : ℕ) (out' : K) : Type 0 where
    pub ops : List RawOp
    pub means : IsScriptOf script ops
    pub begin : Moment
    pub begun : IsBegun old begin
    pub middle : K
    pub card : took out (card_text (sectors begin.machine.card)) middle
    pub end : Machine
    pub result : Result (Unit {0}) Halt
    pub plays : CarriesOut took ops begin middle result (moment end new) out'
    pub kept : ShowsImage new
    pub told : IfSome (shown_by old) (λ base. IsTold took base ops middle result (moment end new) out')
    pub is : status ≡ run_status result
    pub cause : HasCause (faults_of out) (faults_of out') old new result

  -- a script isn't begun, or its operations are carried out
  abbrev pub RawAnswers : Option (List ℕ) → Count → Count → ArrayState → ArrayState → K → ℕ → K → Type 0
  RawAnswers script first first' old new out status out' =
      IsRefusedScript script first first' old new out status out' ⊎ (IsUntold script old new out status out' ⊎ IsPlayed script old new out status out')
