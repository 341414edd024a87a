-- The counts of lines, and of one line more.
use Rattle.std.proofs.Common.{◌≡◌, ℕ, ◌+◌, ◌<◌, List, [], ◌∷◌, ◌++◌, length, refl, ap, ◌∙◌, subst, arith}
use Rattle.std.specs.Prelude.{All, flat_map}
use Rattle.std.proofs.lemmas.Grind.{flat_map-append}
use Rattle.std.proofs.lemmas.List.{append-nil, length-append}
use Rattle.std.proofs.lemmas.List.Elements.{All-nil, All-cons, All-head, All-tail, All-push}
use Rattle.fault_text.specs.declared.line.FaultLine.{FaultLine}
use Rattle.fault_text.specs.declared.line.FaultLine.TheVariants.{Ready, Bus, Program, Fetch, Cut, Turn}
use Rattle.fault_text.specs.declared.tally.Tally.{Tally}
use Rattle.storage_model.specs.Faults.{AreRising}
use Rattle.fault_text.specs.Faults.{AreWithin, array_of, bus_number, bus_of, cuts_of, faults_of, fetch_number, letters_of, program_number, ready_of}
use Rattle.fault_text.specs.Lines.{IsLine}
use Rattle.fault_text.specs.Tally.{Follows, IsWithin, with_faults, with_line}
use Rattle.fault_text.proofs.Rises.{past_of, past_kept, past_more, rises_front, rising_kept, rising_more, rising_past}

-- the counts of lines
abbrev pub tally_of : List FaultLine → Tally
tally_of lines = record {
  lines = length lines;
  letters = length (flat_map letters_of lines);
  bus = past_of (flat_map bus_number lines);
  programs = past_of (flat_map program_number lines);
  fetches = past_of (flat_map fetch_number lines);
  cuts = past_of (flat_map cuts_of lines);
}

length-letters : (lines : List FaultLine) (line : FaultLine) → length (flat_map letters_of (lines ++ line ∷ [])) ≡ length (flat_map letters_of lines) + length (letters_of line)
length-letters lines line = ap length (flat_map-append letters_of lines (line ∷ []) ∙ ap (λ more. flat_map letters_of lines ++ more) (append-nil (letters_of line))) ∙ length-append (flat_map letters_of lines) (letters_of line)

length-lines : (lines : List FaultLine) (line : FaultLine) → length (lines ++ line ∷ []) ≡ length lines + 1
length-lines lines line = length-append lines (line ∷ [])

pub tally-push : (lines : List FaultLine) (line : FaultLine) → Follows (tally_of lines) line → tally_of (lines ++ line ∷ []) ≡ with_line (tally_of lines) line
tally-push lines (Ready mask) follows =
    let count = length-lines lines (Ready mask) in
    let letters : length (flat_map letters_of (lines ++ (Ready mask) ∷ [])) ≡ length (flat_map letters_of lines) = omega (arith, length-letters lines (Ready mask)) in
    let bus = past_kept bus_number lines (Ready mask) refl in
    let programs = past_kept program_number lines (Ready mask) refl in
    let fetches = past_kept fetch_number lines (Ready mask) refl in
    let cuts = past_kept cuts_of lines (Ready mask) refl in
    cc
tally-push lines (Bus n kind) follows =
    let count = length-lines lines (Bus n kind) in
    let letters : length (flat_map letters_of (lines ++ (Bus n kind) ∷ [])) ≡ length (flat_map letters_of lines) = omega (arith, length-letters lines (Bus n kind)) in
    let bus = past_more bus_number lines (Bus n kind) n refl follows in
    let programs = past_kept program_number lines (Bus n kind) refl in
    let fetches = past_kept fetch_number lines (Bus n kind) refl in
    let cuts = past_kept cuts_of lines (Bus n kind) refl in
    cc
tally-push lines (Program n cut mask) follows =
    let count = length-lines lines (Program n cut mask) in
    let letters : length (flat_map letters_of (lines ++ (Program n cut mask) ∷ [])) ≡ length (flat_map letters_of lines) = omega (arith, length-letters lines (Program n cut mask)) in
    let bus = past_kept bus_number lines (Program n cut mask) refl in
    let programs = past_more program_number lines (Program n cut mask) n refl follows in
    let fetches = past_kept fetch_number lines (Program n cut mask) refl in
    let cuts = past_kept cuts_of lines (Program n cut mask) refl in
    cc
tally-push lines (Fetch n) follows =
    let count = length-lines lines (Fetch n) in
    let letters : length (flat_map letters_of (lines ++ (Fetch n) ∷ [])) ≡ length (flat_map letters_of lines) = omega (arith, length-letters lines (Fetch n)) in
    let bus = past_kept bus_number lines (Fetch n) refl in
    let programs = past_kept program_number lines (Fetch n) refl in
    let fetches = past_more fetch_number lines (Fetch n) n refl follows in
    let cuts = past_kept cuts_of lines (Fetch n) refl in
    cc
tally-push lines (Cut n) follows =
    let count = length-lines lines (Cut n) in
    let letters : length (flat_map letters_of (lines ++ (Cut n) ∷ [])) ≡ length (flat_map letters_of lines) = omega (arith, length-letters lines (Cut n)) in
    let bus = past_kept bus_number lines (Cut n) refl in
    let programs = past_kept program_number lines (Cut n) refl in
    let fetches = past_kept fetch_number lines (Cut n) refl in
    let cuts = past_more cuts_of lines (Cut n) n refl follows in
    cc
tally-push lines (Turn letters) follows =
    let count = length-lines lines (Turn letters) in
    let long = length-letters lines (Turn letters) in
    let bus = past_kept bus_number lines (Turn letters) refl in
    let programs = past_kept program_number lines (Turn letters) refl in
    let fetches = past_kept fetch_number lines (Turn letters) refl in
    let cuts = past_kept cuts_of lines (Turn letters) refl in
    cc

-- a line that can follow
pub within-push : (lines : List FaultLine) (line : FaultLine) → AreWithin lines → IsLine line → length lines < 4096 → Follows (tally_of lines) line → AreWithin (lines ++ line ∷ [])
within-push lines (Ready mask) within valid room follows = record {
  each = All-push IsLine lines (Ready mask) within.each valid;
  count = omega (arith, length-lines lines (Ready mask));
  letters = omega (arith, within.letters, length-letters lines (Ready mask));
  bus = rising_kept bus_number lines (Ready mask) refl within.bus;
  programs = rising_kept program_number lines (Ready mask) refl within.programs;
  fetches = rising_kept fetch_number lines (Ready mask) refl within.fetches;
  cuts = rising_kept cuts_of lines (Ready mask) refl within.cuts;
}
within-push lines (Bus n kind) within valid room follows = record {
  each = All-push IsLine lines (Bus n kind) within.each valid;
  count = omega (arith, length-lines lines (Bus n kind));
  letters = omega (arith, within.letters, length-letters lines (Bus n kind));
  bus = rising_more bus_number lines (Bus n kind) n refl within.bus follows;
  programs = rising_kept program_number lines (Bus n kind) refl within.programs;
  fetches = rising_kept fetch_number lines (Bus n kind) refl within.fetches;
  cuts = rising_kept cuts_of lines (Bus n kind) refl within.cuts;
}
within-push lines (Program n cut mask) within valid room follows = record {
  each = All-push IsLine lines (Program n cut mask) within.each valid;
  count = omega (arith, length-lines lines (Program n cut mask));
  letters = omega (arith, within.letters, length-letters lines (Program n cut mask));
  bus = rising_kept bus_number lines (Program n cut mask) refl within.bus;
  programs = rising_more program_number lines (Program n cut mask) n refl within.programs follows;
  fetches = rising_kept fetch_number lines (Program n cut mask) refl within.fetches;
  cuts = rising_kept cuts_of lines (Program n cut mask) refl within.cuts;
}
within-push lines (Fetch n) within valid room follows = record {
  each = All-push IsLine lines (Fetch n) within.each valid;
  count = omega (arith, length-lines lines (Fetch n));
  letters = omega (arith, within.letters, length-letters lines (Fetch n));
  bus = rising_kept bus_number lines (Fetch n) refl within.bus;
  programs = rising_kept program_number lines (Fetch n) refl within.programs;
  fetches = rising_more fetch_number lines (Fetch n) n refl within.fetches follows;
  cuts = rising_kept cuts_of lines (Fetch n) refl within.cuts;
}
within-push lines (Cut n) within valid room follows = record {
  each = All-push IsLine lines (Cut n) within.each valid;
  count = omega (arith, length-lines lines (Cut n));
  letters = omega (arith, within.letters, length-letters lines (Cut n));
  bus = rising_kept bus_number lines (Cut n) refl within.bus;
  programs = rising_kept program_number lines (Cut n) refl within.programs;
  fetches = rising_kept fetch_number lines (Cut n) refl within.fetches;
  cuts = rising_more cuts_of lines (Cut n) n refl within.cuts follows;
}
within-push lines (Turn letters) within valid room follows = record {
  each = All-push IsLine lines (Turn letters) within.each valid;
  count = omega (arith, length-lines lines (Turn letters));
  letters = omega (arith, within.letters, length-letters lines (Turn letters));
  bus = rising_kept bus_number lines (Turn letters) refl within.bus;
  programs = rising_kept program_number lines (Turn letters) refl within.programs;
  fetches = rising_kept fetch_number lines (Turn letters) refl within.fetches;
  cuts = rising_kept cuts_of lines (Turn letters) refl within.cuts;
}

-- a line that follows
pub follows_within : (lines : List FaultLine) (line : FaultLine) → AreWithin (lines ++ line ∷ []) → Follows (tally_of lines) line
follows_within lines (Ready mask) within = tt
follows_within lines (Bus n kind) within = rising_past bus_number lines (Bus n kind) n refl within.bus
follows_within lines (Program n cut mask) within = rising_past program_number lines (Program n cut mask) n refl within.programs
follows_within lines (Fetch n) within = rising_past fetch_number lines (Fetch n) n refl within.fetches
follows_within lines (Cut n) within = rising_past cuts_of lines (Cut n) n refl within.cuts
follows_within lines (Turn letters) within = omega (arith, within.letters, length-letters lines (Turn letters))

pub room_within : (lines : List FaultLine) (line : FaultLine) → AreWithin (lines ++ line ∷ []) → length lines < 4096
room_within lines line within = omega (arith, within.count, length-lines lines line)

All-front : (lines more : List FaultLine) → All IsLine (lines ++ more) → All IsLine lines
All-front [] more all = All-nil IsLine
All-front (line ∷ lines) more all = All-cons IsLine line lines (All-head IsLine line (lines ++ more) all) (All-front lines more (All-tail IsLine line (lines ++ more) all))

pub All-back : (lines more : List FaultLine) → All IsLine (lines ++ more) → All IsLine more
All-back [] more all = all
All-back (line ∷ lines) more all = All-back lines more (All-tail IsLine line (lines ++ more) all)

rising_front : (number : FaultLine → List ℕ) (lines more : List FaultLine) → AreRising (flat_map number (lines ++ more)) → AreRising (flat_map number lines)
rising_front number lines more rising =
    let P : List ℕ → Type 0 = λ numbers. AreRising numbers in
    rises_front (flat_map number lines) (flat_map number more) (subst P (flat_map-append number lines more) rising)

-- the front of what one text can have is what one text can have
pub within_front : (lines more : List FaultLine) → AreWithin (lines ++ more) → AreWithin lines
within_front lines more within = record {
  each = All-front lines more within.each;
  count = omega (arith, within.count, length-append lines more);
  letters = omega (arith, within.letters, ap length (flat_map-append letters_of lines more), length-append (flat_map letters_of lines) (flat_map letters_of more));
  bus = rising_front bus_number lines more within.bus;
  programs = rising_front program_number lines more within.programs;
  fetches = rising_front fetch_number lines more within.fetches;
  cuts = rising_front cuts_of lines more within.cuts;
}

pub within_none : AreWithin []
within_none = record {
  each = All-nil IsLine;
  count = omega arith;
  letters = omega arith;
  bus = λ i j d before below. absurd (omega arith);
  programs = λ i j d before below. absurd (omega arith);
  fetches = λ i j d before below. absurd (omega arith);
  cuts = λ i j d before below. absurd (omega arith);
}

pub within_counts : (lines : List FaultLine) → AreWithin lines → IsWithin (tally_of lines)
within_counts lines within = record { lines = within.count; letters = within.letters }

module _ {X : Type 0} (add : FaultLine → List X) (lines : List FaultLine) (line : FaultLine) where
  list-push : flat_map add (lines ++ line ∷ []) ≡ flat_map add lines ++ add line
  list-push = flat_map-append add lines (line ∷ []) ∙ ap (λ more. flat_map add lines ++ more) (append-nil (add line))

  list_kept : add line ≡ [] → flat_map add (lines ++ line ∷ []) ≡ flat_map add lines
  list_kept none = list-push ∙ ap (λ more. flat_map add lines ++ more) none ∙ append-nil (flat_map add lines)

-- the faults of lines, and of one line more
pub faults-push : (lines : List FaultLine) (line : FaultLine) → faults_of (lines ++ line ∷ []) ≡ with_faults (faults_of lines) line
faults-push lines (Ready mask) =
    let ready = list-push ready_of lines (Ready mask) in
    let bus = list_kept bus_of lines (Ready mask) refl in
    let array = list_kept array_of lines (Ready mask) refl in
    let cuts = list_kept cuts_of lines (Ready mask) refl in
    let turns = list_kept letters_of lines (Ready mask) refl in
    cc
faults-push lines (Bus n kind) =
    let ready = list_kept ready_of lines (Bus n kind) refl in
    let bus = list-push bus_of lines (Bus n kind) in
    let array = list_kept array_of lines (Bus n kind) refl in
    let cuts = list_kept cuts_of lines (Bus n kind) refl in
    let turns = list_kept letters_of lines (Bus n kind) refl in
    cc
faults-push lines (Program n cut mask) =
    let ready = list_kept ready_of lines (Program n cut mask) refl in
    let bus = list_kept bus_of lines (Program n cut mask) refl in
    let array = list-push array_of lines (Program n cut mask) in
    let cuts = list_kept cuts_of lines (Program n cut mask) refl in
    let turns = list_kept letters_of lines (Program n cut mask) refl in
    cc
faults-push lines (Fetch n) =
    let ready = list_kept ready_of lines (Fetch n) refl in
    let bus = list_kept bus_of lines (Fetch n) refl in
    let array = list-push array_of lines (Fetch n) in
    let cuts = list_kept cuts_of lines (Fetch n) refl in
    let turns = list_kept letters_of lines (Fetch n) refl in
    cc
faults-push lines (Cut n) =
    let ready = list_kept ready_of lines (Cut n) refl in
    let bus = list_kept bus_of lines (Cut n) refl in
    let array = list_kept array_of lines (Cut n) refl in
    let cuts = list-push cuts_of lines (Cut n) in
    let turns = list_kept letters_of lines (Cut n) refl in
    cc
faults-push lines (Turn letters) =
    let ready = list_kept ready_of lines (Turn letters) refl in
    let bus = list_kept bus_of lines (Turn letters) refl in
    let array = list_kept array_of lines (Turn letters) refl in
    let cuts = list_kept cuts_of lines (Turn letters) refl in
    let turns = list-push letters_of lines (Turn letters) in
    cc
