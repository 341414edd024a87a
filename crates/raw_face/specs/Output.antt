-- What is printed, and how a script ends.
use Rattle.std.specs.Prelude.{◌≡◌, ◌⊎◌, ◌≤◌, ◌<◌, ℕ, count_by, Bool, true, false, List, [], ◌∷◌, ◌++◌, flat_map, length, take, Option, Some, None, Result, Ok, Err, IsErrOf}
use Rattle.std.specs.List.{list_any}
use Rattle.array_edge.specs.Array.{ArrayState}
use Rattle.bus_link.specs.Link.{tells_flash}
use Rattle.io_edge.specs.Sink.{TookPart}
use Rattle.raw_lines.specs.RawLine.{raw_line_text}
use Rattle.raw_lines.specs.declared.raw_line.RawLine.{RawLine}
use Rattle.raw_lines.specs.declared.raw_line.RawLine.TheVariants.{Stopped, Unread}
use Rattle.storage_model.specs.Count.{Count, Later, Rose}
use Rattle.storage_model.specs.declared.ends.Halt.{Halt}
use Rattle.storage_model.specs.declared.ends.Halt.TheVariants.{SinkFailed, OpenFault, PowerGone, BadImage}
use Rattle.storage_model.specs.declared.trace.End.{End}
use Rattle.storage_model.specs.declared.trace.End.TheVariants.{Good, Fault, Dead, Image}
use Rattle.storage_model.specs.declared.trace.Item.TheVariants.{Off}
use Rattle.trace_text.specs.Trace.{item_text}

-- the lines of an operation, and the line of the script's end where it ends with that operation
pub record Output : Type 0 where
  pub lines : List RawLine
  pub end : Option End

abbrev pub shown : List RawLine → Output
shown lines = record { lines = lines; end = None }

abbrev pub nothing : Output
nothing = shown []

abbrev pub one : RawLine → Output
one line = shown (line ∷ [])

-- no line but that of the end
abbrev pub ending : End → Output
ending end = record { lines = []; end = Some end }

-- a text with the line of the end
abbrev pub with_end : List ℕ → Option End → List ℕ
with_end text None = text
with_end text (Some end) = text ++ item_text (Off end)

abbrev pub lines_text : List RawLine → List ℕ
lines_text lines = flat_map raw_line_text lines

abbrev pub output_text : Output → List ℕ
output_text output = with_end (lines_text output.lines) output.end

-- how the script goes on, or ends
abbrev pub halt_of : Option End → Result (Unit {0}) Halt
halt_of None = Ok tt
halt_of (Some Good) = Ok tt
halt_of (Some Fault) = Err OpenFault
halt_of (Some Dead) = Err PowerGone
halt_of (Some Image) = Err BadImage

-- a text was taken, or the sink failed within it
abbrev pub Prints : {K : Type 0} → (K → List ℕ → K → Type 0) → K → List ℕ → Result (Unit {0}) Halt → K → Type 0
Prints took old text (Ok done) new = took old text new
Prints took old text (Err SinkFailed) new = TookPart took old text new
Prints took old text (Err _) new = ⊥

-- the last line of an output is that of the end
pub record IsEndLine (output : Output) (whole line : List ℕ) : Type 0 where
  pub end : End
  pub is : output.end ≡ Some end
  pub before : whole ≡ lines_text output.lines
  pub text : line ≡ item_text (Off end)

-- it is the last of its lines, which is printed before the end
pub record IsLastLine (output : Output) (whole line : List ℕ) : Type 0 where
  pub others : List RawLine
  pub last : RawLine
  pub is : output.lines ≡ others ++ last ∷ []
  pub before : whole ≡ lines_text others
  pub text : line ≡ raw_line_text last

-- the sink took all lines before the last one, and failed within that
pub record BreaksOff {K : Type 0} (took : K → List ℕ → K → Type 0) (old : K) (output : Output) (new : K) : Type 0 where
  pub whole : List ℕ
  pub line : List ℕ
  pub last : IsEndLine output whole line ⊎ IsLastLine output whole line
  pub count : ℕ
  pub part : count < length line
  pub taken : took old (whole ++ take count line) new

-- the output was taken, and the script goes on or ends as it says; or the sink failed within its last line
abbrev pub Shows : {K : Type 0} → (K → List ℕ → K → Type 0) → K → Output → Result (Unit {0}) Halt → K → Type 0
Shows took old output (Err SinkFailed) new = BreaksOff took old output new
Shows took old output result new = took old (output_text output) new × (result ≡ halt_of output.end)

-- whether a line tells of a fault of the flash
abbrev pub tells_fault : RawLine → Bool
tells_fault (Stopped slot response) = tells_flash response
tells_fault Unread = true
tells_fault _ = false

-- counts don't fall; one line at most tells of a fault of the flash; and what tells of it or of a cut is printed only where
-- its count rose
pub record HasCauses (old new : ArrayState) (output : Output) : Type 0 where
  pub faults : Later old.faults new.faults
  pub cuts : Later old.cuts new.cuts
  pub once : count_by tells_fault output.lines ≤ 1
  pub flash : list_any tells_fault output.lines ≡ true → Rose old.faults new.faults
  pub fault : output.end ≡ Some Fault → Rose old.faults new.faults
  pub dead : output.end ≡ Some Dead → Rose old.cuts new.cuts

-- the sink's count doesn't fall, and only where it rose the sink failed
pub record IsSinkCause (old new : Count) (result : Result (Unit {0}) Halt) : Type 0 where
  pub later : Later old new
  pub failed : IsErrOf result SinkFailed → Rose old new

-- nothing tells of a fault, and the script goes on
pub record IsQuiet (output : Output) : Type 0 where
  pub lines : list_any tells_fault output.lines ≡ false
  pub none : count_by tells_fault output.lines ≡ 0
  pub end : output.end ≡ None
