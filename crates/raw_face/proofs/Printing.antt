-- Texts that were taken one after the other.
use Rattle.std.proofs.Common.{◌≡◌, ℕ, List, [], ◌∷◌, ◌++◌, Option, None, Some, Result, Ok, Err, inl, inr, take, refl, sym, ◌∙◌, ap, subst, arith, append_assoc}
use Rattle.std.proofs.lemmas.List.{append-nil}
use Rattle.std.proofs.lemmas.List.Concat.{flat_map-append}
use Rattle.io_edge.specs.Sink.{Joins, TookPart}
use Rattle.raw_lines.specs.RawLine.{raw_line_text}
use Rattle.raw_lines.specs.declared.raw_line.RawLine.{RawLine}
use Rattle.storage_model.specs.declared.ends.Halt.{Halt}
use Rattle.storage_model.specs.declared.ends.Halt.TheVariants.{SinkFailed, OpenFault, PowerGone, BadImage}
use Rattle.storage_model.specs.declared.trace.End.{End}
use Rattle.storage_model.specs.declared.trace.Item.TheVariants.{Off}
use Rattle.trace_text.specs.Trace.{item_text}
use Rattle.raw_face.specs.Output.{BreaksOff, IsEndLine, IsLastLine, Output, Prints, Shows, ending, lines_text, output_text, with_end}
use Rattle.raw_face.specs.Reply.{lines_in}

-- a text after others
pub text_after : (first lines : List RawLine) (end : Option End)
    → with_end (lines_text (first ++ lines)) end ≡ lines_text first ++ with_end (lines_text lines) end
text_after first lines None = flat_map-append raw_line_text first lines
text_after first lines (Some end) =
    ap (λ text. text ++ item_text (Off end)) (flat_map-append raw_line_text first lines)
    ∙ append_assoc (lines_text first) (lines_text lines) (item_text (Off end))

abbrev pub after : List RawLine → Output → Output
after first output = record { lines = first ++ output.lines; end = output.end }

-- an end, and then the same end after lines
later_end : (first : List RawLine) (output : Output) (whole line : List ℕ) → IsEndLine output whole line → IsEndLine (after first output) (lines_text first ++ whole) line
later_end first output whole line e = record {
  end = e.end;
  is = e.is;
  before = ap (λ text. lines_text first ++ text) e.before ∙ sym (flat_map-append raw_line_text first output.lines);
  text = e.text;
}

later_last : (first : List RawLine) (output : Output) (whole line : List ℕ) → IsLastLine output whole line → IsLastLine (after first output) (lines_text first ++ whole) line
later_last first output whole line l = record {
  others = first ++ l.others;
  last = l.last;
  is = ap (λ lines. first ++ lines) l.is ∙ sym (append_assoc first l.others (l.last ∷ []));
  before = ap (λ text. lines_text first ++ text) l.before ∙ sym (flat_map-append raw_line_text first l.others);
  text = l.text;
}

-- lines that were taken, and then a line that broke off
breaks_after : {K : Type 0} (took : K → List ℕ → K → Type 0) → Joins took → (old mid new : K) (first : List RawLine) (output : Output)
    → took old (lines_text first) mid → BreaksOff took mid output new → BreaksOff took old (after first output) new
breaks_after took both old mid new first output taken breaks = record {
  whole = lines_text first ++ breaks.whole;
  line = breaks.line;
  last = elim breaks.last [
    | inl e ↦ inl (later_end first output breaks.whole breaks.line e)
    | inr l ↦ inr (later_last first output breaks.whole breaks.line l)
  ];
  count = breaks.count;
  part = breaks.part;
  taken = subst (λ text. took old text new) (sym (append_assoc (lines_text first) breaks.whole (take breaks.count breaks.line)))
      (both.join old mid new (lines_text first) (breaks.whole ++ take breaks.count breaks.line) taken breaks.taken);
}

-- lines that were taken, and then what was shown
pub shown_after : {K : Type 0} (took : K → List ℕ → K → Type 0) → Joins took → (old mid new : K) (first : List RawLine) (output : Output)
    (result : Result (Unit {0}) Halt) → took old (lines_text first) mid → Shows took mid output result new → Shows took old (after first output) result new
shown_after took both old mid new first output (Err SinkFailed) taken shows = breaks_after took both old mid new first output taken shows
shown_after took both old mid new first output (Ok done) taken shows = (
  subst (λ text. took old text new) (sym (text_after first output.lines output.end))
      (both.join old mid new (lines_text first) (output_text output) taken shows.0),
  shows.1,
)
shown_after took both old mid new first output (Err OpenFault) taken shows = (
  subst (λ text. took old text new) (sym (text_after first output.lines output.end))
      (both.join old mid new (lines_text first) (output_text output) taken shows.0),
  shows.1,
)
shown_after took both old mid new first output (Err PowerGone) taken shows = (
  subst (λ text. took old text new) (sym (text_after first output.lines output.end))
      (both.join old mid new (lines_text first) (output_text output) taken shows.0),
  shows.1,
)
shown_after took both old mid new first output (Err BadImage) taken shows = (
  subst (λ text. took old text new) (sym (text_after first output.lines output.end))
      (both.join old mid new (lines_text first) (output_text output) taken shows.0),
  shows.1,
)

-- the sink failed within the line of an end
pub end_broken : {K : Type 0} (took : K → List ℕ → K → Type 0) (old new : K) (end : End) (halt : Halt) → Prints took old (item_text (Off end)) (Err halt) new
    → Shows took old (ending end) (Err halt) new
end_broken took old new end SinkFailed part = record {
  whole = [];
  line = item_text (Off end);
  last = inl (record { end = end; is = refl; before = refl; text = refl });
  count = part.count;
  part = part.part;
  taken = part.taken;
}
end_broken took old new end OpenFault part = absurd part
end_broken took old new end PowerGone part = absurd part
end_broken took old new end BadImage part = absurd part

-- the sink failed within a line, whatever was to follow it
line_part : {K : Type 0} (took : K → List ℕ → K → Type 0) (old new : K) (line : Option RawLine) (end : Option End) → TookPart took old (lines_text (lines_in line)) new
    → BreaksOff took old (record { lines = lines_in line; end = end }) new
line_part took old new None end part = absurd (omega (arith, part.part))
line_part took old new (Some line) end part =
    let same : raw_line_text line ++ [] ≡ raw_line_text line = append-nil (raw_line_text line) in
    let whole : TookPart took old (raw_line_text line) new = subst (λ text. TookPart took old text new) same part in
    record {
      whole = [];
      line = raw_line_text line;
      last = inr (record { others = []; last = line; is = refl; before = refl; text = refl });
      count = whole.count;
      part = whole.part;
      taken = whole.taken;
    }

pub line_broken : {K : Type 0} (took : K → List ℕ → K → Type 0) (old new : K) (line : Option RawLine) (end : Option End) (halt : Halt)
    → Prints took old (lines_text (lines_in line)) (Err halt) new → Shows took old (record { lines = lines_in line; end = end }) (Err halt) new
line_broken took old new line end SinkFailed part = line_part took old new line end part
line_broken took old new line end OpenFault part = absurd part
line_broken took old new line end PowerGone part = absurd part
line_broken took old new line end BadImage part = absurd part
