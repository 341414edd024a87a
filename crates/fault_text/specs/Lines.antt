-- The lines of a fault text. The grammar is said by writing: each line has exactly one text.
use Rattle.std.specs.Prelude.{ℕ, ◌^◌, ◌<◌, ◌≤◌, Bool, true, false, List, [], ◌∷◌, length, map, codes, decimal}
use Rattle.text_words.specs.HexNumber.{hex_number}
use Rattle.text_words.specs.Words.{line}
use Rattle.storage_model.specs.Faults.{IsHit}
use Rattle.storage_model.specs.declared.faults.BusKind.{BusKind}
use Rattle.storage_model.specs.declared.faults.BusKind.TheVariants.{Lost, NoResp, Bad, Late}
use Rattle.storage_model.specs.declared.faults.Letter.{Letter}
use Rattle.storage_model.specs.declared.faults.Letter.TheVariants.{Host, Engine, Card, Cut as CutLetter}
use Rattle.fault_text.specs.declared.keyword.Keyword.{Keyword}
use Rattle.fault_text.specs.declared.keyword.Keyword.TheVariants.{Ready as ReadyWord, Bus as BusWord, Program as ProgramWord, Fetch as FetchWord, Cut as CutWord, Turn as TurnWord}
use Rattle.fault_text.specs.declared.line.FaultLine.{FaultLine}
use Rattle.fault_text.specs.declared.line.FaultLine.TheVariants.{Ready, Bus, Program, Fetch, Cut, Turn}

-- the first word of a line
abbrev pub keyword_text : Keyword → List ℕ
keyword_text ReadyWord = codes "ready"
keyword_text BusWord = codes "bus"
keyword_text ProgramWord = codes "program"
keyword_text FetchWord = codes "fetch"
keyword_text CutWord = codes "cut"
keyword_text TurnWord = codes "turn"

-- `h` the host, `e` the engine, `c` the card, `x` a cut
abbrev pub letter_byte : Letter → ℕ
letter_byte Host = 104
letter_byte Engine = 101
letter_byte Card = 99
letter_byte CutLetter = 120

-- what befalls a bus command
abbrev pub kind_words : BusKind → List (List ℕ)
kind_words Lost = codes "lost" ∷ []
kind_words NoResp = codes "noresp" ∷ []
kind_words (Bad block) = codes "data" ∷ decimal block ∷ []
kind_words Late = codes "late" ∷ []

-- how a program ends
abbrev pub fault_word : Bool → List ℕ
fault_word true = codes "cut"
fault_word false = codes "fail"

-- the words of a line
abbrev pub line_words : FaultLine → List (List ℕ)
line_words (Ready mask) = codes "ready" ∷ hex_number mask ∷ []
line_words (Bus n kind) = codes "bus" ∷ decimal n ∷ kind_words kind
line_words (Program n cut mask) = codes "program" ∷ decimal n ∷ fault_word cut ∷ hex_number mask ∷ []
line_words (Fetch n) = codes "fetch" ∷ decimal n ∷ codes "fail" ∷ []
line_words (Cut n) = codes "cut" ∷ decimal n ∷ []
line_words (Turn letters) = codes "turn" ∷ map letter_byte letters ∷ []

-- a line and its line feed
unfoldable pub line_text : FaultLine → List ℕ
line_text fault = line (line_words fault)

-- the numbers of a line are within their limits, and a line of letters has from 1 to 65,536
abbrev pub IsLine : FaultLine → Type 0
IsLine (Ready mask) = mask < 2 ^ 32
IsLine (Bus n kind) = IsHit (record { n = n; kind = kind })
IsLine (Program n cut mask) = (1 ≤ n) × (n < 2 ^ 32) × (mask < 2 ^ 8)
IsLine (Fetch n) = (1 ≤ n) × (n < 2 ^ 32)
IsLine (Cut n) = n < 2 ^ 32
IsLine (Turn letters) = (1 ≤ length letters) × (length letters ≤ 65536)
