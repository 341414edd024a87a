-- What a reader of faults has taken: how many lines and letters, and the least number that the next line of a kind may have.
use Rattle.std.specs.Prelude.{◌≡◌, ℕ, true, false, List, [], ◌∷◌, ◌++◌, ◌+◌, ◌<◌, ◌≤◌, length}
use Rattle.storage_model.specs.declared.faults.Faults.{Faults}
use Rattle.text_words.specs.Words.{spaced}
use Rattle.fault_text.specs.Lines.{IsLine, line_words}
use Rattle.fault_text.specs.declared.line.FaultLine.{FaultLine}
use Rattle.fault_text.specs.declared.line.FaultLine.TheVariants.{Ready, Bus, Program, Fetch, Cut, Turn}
use Rattle.fault_text.specs.declared.tally.Tally.{Tally}

-- what is taken at first
abbrev pub nothing_taken : Tally
nothing_taken = record { lines = 0; letters = 0; bus = 0; programs = 0; fetches = 0; cuts = 0 }

-- within the limits on lines and letters
pub record IsWithin (tally : Tally) : Type 0 where
  pub lines : tally.lines ≤ 4096
  pub letters : tally.letters ≤ 65536

-- the number of a line isn't too low, and its letters not too many
abbrev pub Follows : Tally → FaultLine → Type 0
Follows tally (Bus n kind) = tally.bus ≤ n
Follows tally (Program n cut mask) = tally.programs ≤ n
Follows tally (Fetch n) = tally.fetches ≤ n
Follows tally (Cut n) = tally.cuts ≤ n
Follows tally (Turn letters) = tally.letters + length letters ≤ 65536
Follows tally (Ready mask) = Unit {0}

-- what is taken with one line more
abbrev pub with_line : Tally → FaultLine → Tally
with_line tally (Bus n kind) = record tally { lines = tally.lines + 1; bus = n + 1 }
with_line tally (Program n cut mask) = record tally { lines = tally.lines + 1; programs = n + 1 }
with_line tally (Fetch n) = record tally { lines = tally.lines + 1; fetches = n + 1 }
with_line tally (Cut n) = record tally { lines = tally.lines + 1; cuts = n + 1 }
with_line tally (Turn letters) = record tally { lines = tally.lines + 1; letters = tally.letters + length letters }
with_line tally (Ready mask) = record tally { lines = tally.lines + 1 }

-- faults, and those of one line more
abbrev pub with_faults : Faults → FaultLine → Faults
with_faults faults (Ready mask) = record faults { ready = faults.ready ++ mask ∷ [] }
with_faults faults (Bus n kind) = record faults { bus = faults.bus ++ record { n = n; kind = kind } ∷ [] }
with_faults faults (Program n cut mask) = record faults { array = faults.array ++ record { fetch = false; n = n; cut = cut; mask = mask } ∷ [] }
with_faults faults (Fetch n) = record faults { array = faults.array ++ record { fetch = true; n = n; cut = false; mask = 0 } ∷ [] }
with_faults faults (Cut n) = record faults { cuts = faults.cuts ++ n ∷ [] }
with_faults faults (Turn letters) = record faults { turns = faults.turns ++ letters }

-- a text is the line, which can follow
pub record IsNext (text : List ℕ) (tally : Tally) (line : FaultLine) : Type 0 where
  pub valid : IsLine line
  pub is : text ≡ spaced (line_words line)
  pub room : tally.lines < 4096
  pub follows : Follows tally line
