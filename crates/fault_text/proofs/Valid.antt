-- The faults of lines that one text can have are valid.
use Rattle.std.proofs.Common.{◌≡◌, ℕ, ◌^◌, ◌<◌, ◌≤◌, true, false, List, [], ◌∷◌, map, refl, sym, subst, arith}
use Rattle.std.specs.Prelude.{All, AllPairs, flat_map}
use Rattle.std.proofs.lemmas.List.Elements.{All-nil, All-cons, All-head, All-tail, All-append}
use Rattle.std.proofs.lemmas.List.Kept.{AllPairs-cons}
use Rattle.storage_model.specs.declared.faults.ArrayHit.{ArrayHit}
use Rattle.storage_model.specs.declared.faults.Faults.{Faults}
use Rattle.storage_model.specs.declared.faults.Hit.{Hit}
use Rattle.fault_text.specs.declared.line.FaultLine.{FaultLine}
use Rattle.fault_text.specs.declared.line.FaultLine.TheVariants.{Ready, Bus, Program, Fetch, Cut, Turn}
use Rattle.storage_model.specs.Faults.{AreRising, AreValid, IsHit, IsValidHits}
use Rattle.fault_text.specs.Faults.{AreWithin, Means, array_of, bus_number, bus_of, faults_of, fetch_number, program_number}
use Rattle.fault_text.specs.Lines.{IsLine}
use Rattle.fault_text.proofs.Rises.{rises_head, rises_map, rises_tail}

-- what holds of what each line adds holds of what all add
each_added : {X : Type 0} (P : X → Type 0) (add : FaultLine → List X) → ((line : FaultLine) → IsLine line → All P (add line)) → (lines : List FaultLine) → All IsLine lines → All P (flat_map add lines)
each_added P add each [] all = All-nil P
each_added P add each (line ∷ lines) all =
    All-append P (add line) (flat_map add lines) (each line (All-head IsLine line lines all)) (each_added P add each lines (All-tail IsLine line lines all))

one_hit : (line : FaultLine) → IsLine line → All IsHit (bus_of line)
one_hit (Bus n kind) valid = All-cons IsHit (record { n = n; kind = kind }) [] valid (All-nil IsHit)
one_hit (Ready mask) valid = All-nil IsHit
one_hit (Program n cut mask) valid = All-nil IsHit
one_hit (Fetch n) valid = All-nil IsHit
one_hit (Cut n) valid = All-nil IsHit
one_hit (Turn letters) valid = All-nil IsHit

abbrev IsNumbered : ArrayHit → Type 0
IsNumbered hit = (1 ≤ hit.n) × (hit.n < 2 ^ 32)

one_numbered : (line : FaultLine) → IsLine line → All IsNumbered (array_of line)
one_numbered (Program n cut mask) valid = All-cons IsNumbered (record { fetch = false; n = n; cut = cut; mask = mask }) [] (valid.0, valid.1) (All-nil IsNumbered)
one_numbered (Fetch n) valid = All-cons IsNumbered (record { fetch = true; n = n; cut = false; mask = 0 }) [] (valid.0, valid.1) (All-nil IsNumbered)
one_numbered (Ready mask) valid = All-nil IsNumbered
one_numbered (Bus n kind) valid = All-nil IsNumbered
one_numbered (Cut n) valid = All-nil IsNumbered
one_numbered (Turn letters) valid = All-nil IsNumbered

abbrev IsUncut : ArrayHit → Type 0
IsUncut hit = hit.fetch ≡ true → hit.cut ≡ false

one_uncut : (line : FaultLine) → IsLine line → All IsUncut (array_of line)
one_uncut (Program n cut mask) valid = All-cons IsUncut (record { fetch = false; n = n; cut = cut; mask = mask }) [] (λ e. cc) (All-nil IsUncut)
one_uncut (Fetch n) valid = All-cons IsUncut (record { fetch = true; n = n; cut = false; mask = 0 }) [] (λ e. refl) (All-nil IsUncut)
one_uncut (Ready mask) valid = All-nil IsUncut
one_uncut (Bus n kind) valid = All-nil IsUncut
one_uncut (Cut n) valid = All-nil IsUncut
one_uncut (Turn letters) valid = All-nil IsUncut

abbrev IsMask : ArrayHit → Type 0
IsMask hit = hit.mask < 2 ^ 8

one_mask : (line : FaultLine) → IsLine line → All IsMask (array_of line)
one_mask (Program n cut mask) valid = All-cons IsMask (record { fetch = false; n = n; cut = cut; mask = mask }) [] valid.2 (All-nil IsMask)
one_mask (Fetch n) valid = All-cons IsMask (record { fetch = true; n = n; cut = false; mask = 0 }) [] (omega arith) (All-nil IsMask)
one_mask (Ready mask) valid = All-nil IsMask
one_mask (Bus n kind) valid = All-nil IsMask
one_mask (Cut n) valid = All-nil IsMask
one_mask (Turn letters) valid = All-nil IsMask

-- the numbers of the bus faults are those of their lines
hit_numbers : (lines : List FaultLine) → map (λ (hit : Hit). hit.n) (flat_map bus_of lines) ≡ flat_map bus_number lines
hit_numbers [] = refl
hit_numbers (Bus n kind ∷ lines) = let rest = hit_numbers lines in cc
hit_numbers (Ready mask ∷ lines) = hit_numbers lines
hit_numbers (Program n cut mask ∷ lines) = hit_numbers lines
hit_numbers (Fetch n ∷ lines) = hit_numbers lines
hit_numbers (Cut n ∷ lines) = hit_numbers lines
hit_numbers (Turn letters ∷ lines) = hit_numbers lines

bus_rising : (lines : List FaultLine) → AreRising (flat_map bus_number lines) → IsValidHits (flat_map bus_of lines)
bus_rising lines rising =
    let P : List ℕ → Type 0 = λ numbers. AreRising numbers in
    rises_map (λ (hit : Hit). hit.n) (flat_map bus_of lines) (subst P (sym (hit_numbers lines)) rising)

abbrev Rises : ArrayHit → ArrayHit → Type 0
Rises hit later = hit.fetch ≡ later.fetch → hit.n < later.n

-- a program's number is below those of the programs after it
program_below : (hit : ArrayHit) (lines : List FaultLine) → hit.fetch ≡ false → All (λ later. hit.n < later) (flat_map program_number lines) → All (Rises hit) (flat_map array_of lines)
program_below hit [] is below = All-nil (Rises hit)
program_below hit (Program n cut mask ∷ lines) is below =
    All-cons (Rises hit) (record { fetch = false; n = n; cut = cut; mask = mask }) (flat_map array_of lines) (λ e. All-head (λ later. hit.n < later) n (flat_map program_number lines) below)
    (program_below hit lines is (All-tail (λ later. hit.n < later) n (flat_map program_number lines) below))
program_below hit (Fetch n ∷ lines) is below =
    All-cons (Rises hit) (record { fetch = true; n = n; cut = false; mask = 0 }) (flat_map array_of lines) (λ e. absurd (cc)) (program_below hit lines is below)
program_below hit (Ready mask ∷ lines) is below = program_below hit lines is below
program_below hit (Bus n kind ∷ lines) is below = program_below hit lines is below
program_below hit (Cut n ∷ lines) is below = program_below hit lines is below
program_below hit (Turn letters ∷ lines) is below = program_below hit lines is below

fetch_below : (hit : ArrayHit) (lines : List FaultLine) → hit.fetch ≡ true → All (λ later. hit.n < later) (flat_map fetch_number lines) → All (Rises hit) (flat_map array_of lines)
fetch_below hit [] is below = All-nil (Rises hit)
fetch_below hit (Fetch n ∷ lines) is below =
    All-cons (Rises hit) (record { fetch = true; n = n; cut = false; mask = 0 }) (flat_map array_of lines) (λ e. All-head (λ later. hit.n < later) n (flat_map fetch_number lines) below)
    (fetch_below hit lines is (All-tail (λ later. hit.n < later) n (flat_map fetch_number lines) below))
fetch_below hit (Program n cut mask ∷ lines) is below =
    All-cons (Rises hit) (record { fetch = false; n = n; cut = cut; mask = mask }) (flat_map array_of lines) (λ e. absurd (cc)) (fetch_below hit lines is below)
fetch_below hit (Ready mask ∷ lines) is below = fetch_below hit lines is below
fetch_below hit (Bus n kind ∷ lines) is below = fetch_below hit lines is below
fetch_below hit (Cut n ∷ lines) is below = fetch_below hit lines is below
fetch_below hit (Turn letters ∷ lines) is below = fetch_below hit lines is below

array_rising : (lines : List FaultLine) → AreRising (flat_map program_number lines) → AreRising (flat_map fetch_number lines) → AllPairs Rises (flat_map array_of lines)
array_rising [] programs fetches = λ i j d before below. absurd (omega arith)
array_rising (Program n cut mask ∷ lines) programs fetches =
    let hit : ArrayHit = record { fetch = false; n = n; cut = cut; mask = mask } in
    AllPairs-cons Rises hit (flat_map array_of lines) (program_below hit lines refl (rises_head n (flat_map program_number lines) programs)) (array_rising lines (rises_tail n (flat_map program_number lines) programs) fetches)
array_rising (Fetch n ∷ lines) programs fetches =
    let hit : ArrayHit = record { fetch = true; n = n; cut = false; mask = 0 } in
    AllPairs-cons Rises hit (flat_map array_of lines) (fetch_below hit lines refl (rises_head n (flat_map fetch_number lines) fetches)) (array_rising lines programs (rises_tail n (flat_map fetch_number lines) fetches))
array_rising (Ready mask ∷ lines) programs fetches = array_rising lines programs fetches
array_rising (Bus n kind ∷ lines) programs fetches = array_rising lines programs fetches
array_rising (Cut n ∷ lines) programs fetches = array_rising lines programs fetches
array_rising (Turn letters ∷ lines) programs fetches = array_rising lines programs fetches

lines_valid : (lines : List FaultLine) → AreWithin lines → AreValid (faults_of lines)
lines_valid lines within = record {
  hits = each_added IsHit bus_of one_hit lines within.each;
  bus = bus_rising lines within.bus;
  array = record {
    numbers = each_added IsNumbered array_of one_numbered lines within.each;
    rising = array_rising lines within.programs within.fetches;
    uncut = each_added IsUncut array_of one_uncut lines within.each;
    masks = each_added IsMask array_of one_mask lines within.each;
  };
  cuts = within.cuts;
}

-- what a text means is valid
pub meaning_valid : (bytes : List ℕ) (faults : Faults) → Means bytes faults → AreValid faults
meaning_valid bytes faults means = let P : Faults → Type 0 = λ f. AreValid f in subst P (sym means.meant) (lines_valid means.lines means.within)
