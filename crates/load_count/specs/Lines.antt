-- What the sink keeps of the bytes that it takes: of a line under way the first letters of its first two words and how many words
-- began, and of whole lines the counts.
use Rattle.std.specs.Prelude.{◌≡◌, ℕ, ◌+◌, ◌==◌, Bool, true, false, ◌||◌, ◌&&◌, not, if◌then◌else◌, List, fold, None, Some, min, nat_lt}
use Rattle.std.specs.Io.Iter.{u64_saturate}
use Rattle.storage_model.specs.Count.{Count}
use Rattle.storage_model.specs.declared.trace.End.TheVariants.{Good, Fault, Dead, Image}
use Rattle.load_count.specs.declared.counts.Counts.{Counts}
use Rattle.load_count.specs.declared.line.Line.{Line}
use Rattle.load_count.specs.declared.sink.CountingSink.{CountingSink}

-- a line that hasn't begun
abbrev pub at_start : Line
at_start = record { words = 0; first = 0; second = 0; within = false }

-- a word begins with this letter
unfoldable pub begun : Line → ℕ → Line
begun line letter = record {
  words = min (line.words + 1) 255;
  first = if line.words == 0 then letter else line.first;
  second = if line.words == 1 then letter else line.second;
  within = true;
}

-- one byte more of a line; 32 is the space
unfoldable pub seen : Line → ℕ → Line
seen line byte = if byte == 32 then record line { within = false } else if line.within then line else begun line byte

-- no line was counted
abbrev pub none : Counts
none = record { ok = 0; reads = 0; fault = 0; lost = 0; phases = 0; kept = 0; end = None }

-- one more, up to the last number of 64 bits
abbrev pub raised : ℕ → ℕ
raised n = u64_saturate (n + 1)

-- an answer, by the first letter of its second word: o(k), d(ata), f(ault) or r(efused), l(ost)
unfoldable pub answered : Counts → ℕ → Counts
answered counts letter =
    if letter == 111 then record counts { ok = raised counts.ok }
    else if letter == 100 then record counts { reads = raised counts.reads }
    else if (letter == 102) || (letter == 114) then record counts { fault = raised counts.fault }
    else if letter == 108 then record counts { lost = raised counts.lost }
    else counts

-- a phase has four words, and where it was kept five
unfoldable pub moved : Counts → ℕ → Counts
moved counts words = record counts {
  phases = if nat_lt words 4 then counts.phases else raised counts.phases;
  kept = if nat_lt words 5 then counts.kept else raised counts.kept;
}

-- an end, by the first letter of its second word: o(k), f(ault), d(ead), i(mage)
unfoldable pub ended : Counts → ℕ → Counts
ended counts letter =
    if letter == 111 then record counts { end = Some Good }
    else if letter == 102 then record counts { end = Some Fault }
    else if letter == 100 then record counts { end = Some Dead }
    else if letter == 105 then record counts { end = Some Image }
    else counts

abbrev pub is_digit : ℕ → Bool
is_digit letter = not (nat_lt letter 48) && nat_lt letter 58

-- a whole line: an answer begins with a digit, a phase with p, an end with o
unfoldable pub told : Counts → Line → Counts
told counts line =
    if is_digit line.first then answered counts line.second
    else if line.first == 112 then moved counts line.words
    else if line.first == 111 then ended counts line.second
    else counts

abbrev pub fresh : CountingSink
fresh = record { counts = none; line = at_start }

-- one byte more; 10 is the line feed
unfoldable pub step : CountingSink → ℕ → CountingSink
step sink byte =
    if byte == 10 then record { counts = told sink.counts sink.line; line = at_start }
    else record { counts = sink.counts; line = seen sink.line byte }

-- its counts, and what it keeps of the line under way, are those after these bytes
abbrev pub Took : CountingSink → List ℕ → CountingSink → Type 0
Took old bytes new = new ≡ fold step old bytes

-- it never fails
abbrev pub never : Count
never = record { value = 0; stands = false }
