-- Fault texts: what their lines mean together.
use Rattle.std.specs.Prelude.{◌≡◌, ℕ, ◌≤◌, true, false, List, [], ◌∷◌, length, All, flat_map}
use Rattle.storage_model.specs.Faults.{AreRising}
use Rattle.storage_model.specs.declared.ends.TextEnd.{TextEnd}
use Rattle.storage_model.specs.declared.ends.TextEnd.TheVariants.{Bad as BadLine, NoMemory}
use Rattle.storage_model.specs.declared.faults.ArrayHit.{ArrayHit}
use Rattle.storage_model.specs.declared.faults.Faults.{Faults}
use Rattle.storage_model.specs.declared.faults.Hit.{Hit}
use Rattle.storage_model.specs.declared.faults.Letter.{Letter}
use Rattle.text_words.specs.Texts.{IsBadAt}
use Rattle.fault_text.specs.declared.line.FaultLine.{FaultLine}
use Rattle.fault_text.specs.declared.line.FaultLine.TheVariants.{Ready, Bus, Program, Fetch, Cut, Turn}
use Rattle.fault_text.specs.Lines.{IsLine, line_text}

-- what a line adds to each list of faults
abbrev pub ready_of : FaultLine → List ℕ
ready_of (Ready mask) = mask ∷ []
ready_of _ = []

abbrev pub bus_of : FaultLine → List Hit
bus_of (Bus n kind) = record { n = n; kind = kind } ∷ []
bus_of _ = []

abbrev pub array_of : FaultLine → List ArrayHit
array_of (Program n cut mask) = record { fetch = false; n = n; cut = cut; mask = mask } ∷ []
array_of (Fetch n) = record { fetch = true; n = n; cut = false; mask = 0 } ∷ []
array_of _ = []

abbrev pub cuts_of : FaultLine → List ℕ
cuts_of (Cut n) = n ∷ []
cuts_of _ = []

abbrev pub letters_of : FaultLine → List Letter
letters_of (Turn letters) = letters
letters_of _ = []

-- the faults of lines, each list in the order of the text
abbrev pub faults_of : List FaultLine → Faults
faults_of lines = record {
  ready = flat_map ready_of lines;
  bus = flat_map bus_of lines;
  array = flat_map array_of lines;
  cuts = flat_map cuts_of lines;
  turns = flat_map letters_of lines;
}

-- the number of a line of a kind: of the command, of the program or of the fetch
abbrev pub bus_number : FaultLine → List ℕ
bus_number (Bus n kind) = n ∷ []
bus_number _ = []

abbrev pub program_number : FaultLine → List ℕ
program_number (Program n cut mask) = n ∷ []
program_number _ = []

abbrev pub fetch_number : FaultLine → List ℕ
fetch_number (Fetch n) = n ∷ []
fetch_number _ = []

-- lines that one text can have: not more than 4,096, with not more than 65,536 letters, and rising numbers in each kind
pub record AreWithin (lines : List FaultLine) : Type 0 where
  pub each : All IsLine lines
  pub count : length lines ≤ 4096
  pub letters : length (flat_map letters_of lines) ≤ 65536
  pub bus : AreRising (flat_map bus_number lines)
  pub programs : AreRising (flat_map program_number lines)
  pub fetches : AreRising (flat_map fetch_number lines)
  pub cuts : AreRising (flat_map cuts_of lines)

-- the text of lines
abbrev pub texts : List FaultLine → List ℕ
texts lines = flat_map line_text lines

-- the text means these faults: it is the text of lines that are within the limits, and the faults are theirs
pub record Means (bytes : List ℕ) (faults : Faults) : Type 0 where
  pub lines : List FaultLine
  pub text : bytes ≡ texts lines
  pub within : AreWithin lines
  pub meant : faults ≡ faults_of lines

-- why a fault text is refused: at its first bad line. Want of memory has no cause in the text
abbrev pub IsRefused : List ℕ → TextEnd → Type 0
IsRefused bytes (BadLine line) = IsBadAt Means bytes line
IsRefused bytes NoMemory = Unit {0}
