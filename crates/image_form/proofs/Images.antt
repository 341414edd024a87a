-- What the pages of an image show after one of them was written.
use Rattle.std.proofs.Common.{◌≡◌, ◌≢◌, ℕ, ◌+◌, ◌≤◌, ◌<◌, List, [], length, take, drop, refl, sym, ap, ◌∙◌, arith}
use Rattle.std.specs.Prelude.{slice_set}
use Rattle.std.proofs.lemmas.List.{get_or-set_other, get_or-set_same, get_or-drop, get_or-take, drop-set-lt, drop-set-add, length-set, length-drop, length-take, set-set, set-get_or}
use Rattle.std.proofs.Math.Seq.{take-set-lt}
use Rattle.storage_model.specs.Granule.{granule}
use Rattle.storage_model.specs.declared.block.Block.{Block}
use Rattle.image_form.specs.declared.superblock.Super.{Super}
use Rattle.image_form.specs.declared.gate.Gate.{Gate}
use Rattle.image_form.specs.declared.gate.Gate.TheVariants.{Shut, Ajar}
use Rattle.image_form.specs.Form.{IsSuper, IsGate, gate_number, gate_numbered, number_at}
use Rattle.image_form.specs.Image.{page_at, sectors_of, gate_at, IsImage, stored, seen, shown}
use Rattle.image_form.proofs.Forms.{IsSuper-sectors, IsGate-gate}

-- the superblock and the gate by what they tell
pub sectors_of-IsSuper : (pages : List Block) (s : Super) → IsSuper (page_at pages 0) s → sectors_of pages ≡ s.sectors
unfolding sectors_of
sectors_of-IsSuper pages s is = IsSuper-sectors (page_at pages 0) s is

pub gate_at-IsGate : (pages : List Block) (sectors : ℕ) (gate : Gate) → sectors ≤ 65536 → IsGate (page_at pages 1) sectors gate
    → gate_at pages ≡ gate
unfolding gate_at
gate_at-IsGate pages sectors gate most is = IsGate-gate (page_at pages 1) sectors gate (omega arith) is

IsSuper-same : (block block' : Block) (s s' : Super) → block' ≡ block → s' ≡ s → IsSuper block s → IsSuper block' s'
IsSuper-same block block' s s' e e' is = rw (e, e') is

-- the forms make an image
pub IsImage-forms : (pages : List Block) (s : Super) (gate : Gate) → IsSuper (page_at pages 0) s
    → IsGate (page_at pages 1) s.sectors gate → 8 + s.sectors ≤ length pages → IsImage pages
IsImage-forms pages s gate is closed room =
    let n : sectors_of pages ≡ s.sectors = sectors_of-IsSuper pages s is in
    let g : gate_at pages ≡ gate = gate_at-IsGate pages s.sectors gate is.most closed in
    let v : 1 ≡ s.version = sym is.version in
    let same : IsSuper (page_at pages 0) (record { version = 1; sectors = sectors_of pages }) = rw (n, v) is in
    let also : IsGate (page_at pages 1) (sectors_of pages) (gate_at pages) = rw (n, g) closed in
    record { superblock = same; gate = also; room = omega arith }

-- an image has no other forms
pub IsImage-super : (pages : List Block) (P : Type 0) → ((s : Super) → IsSuper (page_at pages 0) s → P) → IsImage pages → P
IsImage-super pages P none image = none (record { version = 1; sectors = sectors_of pages }) image.superblock

-- pages after a write elsewhere
pub page_at-other : (pages : List Block) (page other : ℕ) (block : Block) → other ≢ page
    → page_at (slice_set pages page block) other ≡ page_at pages other
page_at-other pages page other block h = get_or-set_other pages page other block (record { 0 = [] }) h

pub page_at-same : (pages : List Block) (page : ℕ) (block : Block) → page < length pages
    → page_at (slice_set pages page block) page ≡ block
page_at-same pages page block h = get_or-set_same pages page block (record { 0 = [] }) h

pub sectors_of-other : (pages : List Block) (page : ℕ) (block : Block) → 0 < page
    → sectors_of (slice_set pages page block) ≡ sectors_of pages
unfolding sectors_of
sectors_of-other pages page block h =
    ap (λ (b : Block). number_at 12 b.0) (page_at-other pages page 0 block (λ e. omega arith))

pub gate_at-other : (pages : List Block) (page : ℕ) (block : Block) → page ≢ 1
    → gate_at (slice_set pages page block) ≡ gate_at pages
unfolding gate_at
gate_at-other pages page block h =
    ap (λ (b : Block). gate_numbered (number_at 8 (granule b 0))) (page_at-other pages page 1 block (λ e. h (sym e)))

pub length-stored : (pages : List Block) → 8 + sectors_of pages ≤ length pages → length (stored pages) ≡ sectors_of pages
unfolding stored
length-stored pages room = omega (arith, length-take (sectors_of pages) (drop 8 pages), length-drop 8 pages)

pub stored-other : (pages : List Block) (page : ℕ) (block : Block) → 0 < page → page < 8
    → stored (slice_set pages page block) ≡ stored pages
unfolding stored
stored-other pages page block some low =
    rw (sectors_of-other pages page block some, drop-set-lt 8 pages page block low) refl

pub stored-sector : (pages : List Block) (sector : ℕ) (block : Block) → sector < sectors_of pages
    → stored (slice_set pages (8 + sector) block) ≡ slice_set (stored pages) sector block
unfolding stored
stored-sector pages sector block low =
    let some : 0 < 8 + sector = omega arith in
    rw (sectors_of-other pages (8 + sector) block some, drop-set-add 8 pages sector block)
    (take-set-lt (sectors_of pages) (drop 8 pages) sector block low)

pub page_at-stored : (pages : List Block) (sector : ℕ) → sector < sectors_of pages
    → page_at (stored pages) sector ≡ page_at pages (8 + sector)
unfolding stored
page_at-stored pages sector low =
    get_or-take (sectors_of pages) (drop 8 pages) sector (record { 0 = [] }) low ∙ get_or-drop 8 pages sector (record { 0 = [] })

-- an image stays one after a write of any page but the first two
pub IsImage-other : (pages : List Block) (page : ℕ) (block : Block) → 2 ≤ page → IsImage pages
    → IsImage (slice_set pages page block)
IsImage-other pages page block h image =
    let some : 0 < page = omega arith in
    let n : sectors_of (slice_set pages page block) ≡ sectors_of pages = sectors_of-other pages page block some in
    let g : gate_at (slice_set pages page block) ≡ gate_at pages = gate_at-other pages page block (λ e. omega arith) in
    let p : page_at (slice_set pages page block) 0 ≡ page_at pages 0 = page_at-other pages page 0 block (λ e. omega arith) in
    let q : page_at (slice_set pages page block) 1 ≡ page_at pages 1 = page_at-other pages page 1 block (λ e. omega arith) in
    let same : IsSuper (page_at (slice_set pages page block) 0) (record { version = 1; sectors = sectors_of (slice_set pages page block) }) =
    rw (p, n) image.superblock in
    let also : IsGate (page_at (slice_set pages page block) 1) (sectors_of (slice_set pages page block)) (gate_at (slice_set pages page block)) =
    rw (q, n, g) image.gate in
    let room : 8 + sectors_of pages ≤ length pages = image.room in
    record { superblock = same; gate = also; room = omega (arith, length-set pages page block) }

-- and after a write of its gate
pub IsImage-gate : (pages : List Block) (block : Block) (gate : Gate) → IsImage pages → IsGate block (sectors_of pages) gate
    → IsImage (slice_set pages 1 block)
IsImage-gate pages block gate image is =
    let n : sectors_of (slice_set pages 1 block) ≡ sectors_of pages = sectors_of-other pages 1 block (omega arith) in
    let p : page_at (slice_set pages 1 block) 0 ≡ page_at pages 0 = page_at-other pages 1 0 block (λ e. omega arith) in
    let room : 8 + sectors_of pages ≤ length pages = image.room in
    let q : page_at (slice_set pages 1 block) 1 ≡ block = page_at-same pages 1 block (omega arith) in
    let same : IsSuper (page_at (slice_set pages 1 block) 0) (record { version = 1; sectors = sectors_of pages }) = rw (p) image.superblock in
    let also : IsGate (page_at (slice_set pages 1 block) 1) (sectors_of pages) gate = rw (q) is in
    IsImage-forms (slice_set pages 1 block) (record { version = 1; sectors = sectors_of pages }) gate same also
    (omega (arith, length-set pages 1 block))

-- the sector of an ajar gate is one of the image
pub ajar_sector : (pages : List Block) (sector : ℕ) → IsImage pages → gate_at pages ≡ Ajar sector → sector < sectors_of pages
ajar_sector pages sector image e =
    let within : gate_number (gate_at pages) ≤ sectors_of pages = image.gate.within in
    let number : gate_number (gate_at pages) ≡ sector + 1 = ap gate_number e in
    omega arith

-- what a sector shows
pub shown-shut : (pages : List Block) → gate_at pages ≡ Shut → shown pages ≡ stored pages
unfolding shown
shown-shut pages e = ap (λ g. seen g (page_at pages 2) (stored pages)) e

pub shown-ajar : (pages : List Block) (sector : ℕ) → gate_at pages ≡ Ajar sector
    → shown pages ≡ slice_set (stored pages) sector (page_at pages 2)
unfolding shown
shown-ajar pages sector e = ap (λ g. seen g (page_at pages 2) (stored pages)) e

pub length-shown : (pages : List Block) → IsImage pages → length (shown pages) ≡ sectors_of pages
unfolding shown
length-shown pages image = elim (gate_at pages) as (λ g. length (seen g (page_at pages 2) (stored pages)) ≡ sectors_of pages) [
  | Shut ↦ length-stored pages image.room
  | Ajar s ↦ length-set (stored pages) s (page_at pages 2) ∙ length-stored pages image.room
]

pub shown-at_shut : (pages : List Block) (sector : ℕ) → sector < sectors_of pages → gate_at pages ≡ Shut
    → page_at (shown pages) sector ≡ page_at pages (8 + sector)
shown-at_shut pages sector low e = rw (shown-shut pages e) (page_at-stored pages sector low)

pub shown-at_ajar : (pages : List Block) (sector : ℕ) → IsImage pages → gate_at pages ≡ Ajar sector
    → page_at (shown pages) sector ≡ page_at pages 2
shown-at_ajar pages sector image e =
    let low : sector < sectors_of pages = ajar_sector pages sector image e in
    let all : length (stored pages) ≡ sectors_of pages = length-stored pages image.room in
    rw (shown-ajar pages sector e) (page_at-same (stored pages) sector (page_at pages 2) (omega arith))

pub shown-at_other : (pages : List Block) (sector other : ℕ) → sector < sectors_of pages → gate_at pages ≡ Ajar other → sector ≢ other
    → page_at (shown pages) sector ≡ page_at pages (8 + sector)
shown-at_other pages sector other low e apart =
    rw (shown-ajar pages other e)
    (page_at-other (stored pages) other sector (page_at pages 2) apart ∙ page_at-stored pages sector low)

-- the intent page isn't shown while the gate is shut
pub shown-intent : (pages : List Block) (block : Block) → gate_at pages ≡ Shut → shown (slice_set pages 2 block) ≡ shown pages
shown-intent pages block e =
    shown-shut (slice_set pages 2 block) (gate_at-other pages 2 block (λ f. omega arith) ∙ e)
    ∙ stored-other pages 2 block (omega arith) (omega arith)
    ∙ sym (shown-shut pages e)

-- a sector written while the gate is shut
pub shown-sector : (pages : List Block) (sector : ℕ) (block : Block) → sector < sectors_of pages → gate_at pages ≡ Shut
    → shown (slice_set pages (8 + sector) block) ≡ slice_set (shown pages) sector block
shown-sector pages sector block low e =
    shown-shut (slice_set pages (8 + sector) block) (gate_at-other pages (8 + sector) block (λ f. omega arith) ∙ e)
    ∙ stored-sector pages sector block low
    ∙ ap (λ sectors. slice_set sectors sector block) (sym (shown-shut pages e))

-- a sector for which the gate is ajar isn't shown
pub shown-behind : (pages : List Block) (sector : ℕ) (block : Block) → sector < sectors_of pages → gate_at pages ≡ Ajar sector
    → shown (slice_set pages (8 + sector) block) ≡ shown pages
shown-behind pages sector block low e =
    let new = slice_set pages (8 + sector) block in
    let intent : page_at new 2 ≡ page_at pages 2 = page_at-other pages (8 + sector) 2 block (λ f. omega arith) in
    shown-ajar new sector (gate_at-other pages (8 + sector) block (λ f. omega arith) ∙ e)
    ∙ ap (λ b. slice_set (stored new) sector b) intent
    ∙ ap (λ sectors. slice_set sectors sector (page_at pages 2)) (stored-sector pages sector block low)
    ∙ set-set (stored pages) sector block (page_at pages 2)
    ∙ sym (shown-ajar pages sector e)

-- the gate isn't turned
pub shown-same : (pages : List Block) (block : Block) → gate_at (slice_set pages 1 block) ≡ gate_at pages
    → shown (slice_set pages 1 block) ≡ shown pages
unfolding shown
shown-same pages block e =
    rw (e, page_at-other pages 1 2 block (λ f. omega arith), stored-other pages 1 block (omega arith) (omega arith)) refl

-- the gate is opened
pub shown-opened : (pages : List Block) (block : Block) (sector : ℕ) → gate_at pages ≡ Shut
    → gate_at (slice_set pages 1 block) ≡ Ajar sector
    → shown (slice_set pages 1 block) ≡ slice_set (shown pages) sector (page_at pages 2)
shown-opened pages block sector e ajar =
    shown-ajar (slice_set pages 1 block) sector ajar
    ∙ ap (λ b. slice_set (stored (slice_set pages 1 block)) sector b) (page_at-other pages 1 2 block (λ f. omega arith))
    ∙ ap (λ sectors. slice_set sectors sector (page_at pages 2))
    (stored-other pages 1 block (omega arith) (omega arith) ∙ sym (shown-shut pages e))

-- the gate is shut once the sector is what the intent page is
pub shown-closed : (pages : List Block) (block : Block) (sector : ℕ) → sector < sectors_of pages → gate_at pages ≡ Ajar sector
    → page_at pages (8 + sector) ≡ page_at pages 2 → gate_at (slice_set pages 1 block) ≡ Shut
    → shown (slice_set pages 1 block) ≡ shown pages
shown-closed pages block sector low e same shut =
    let there : page_at pages 2 ≡ page_at (stored pages) sector = sym same ∙ sym (page_at-stored pages sector low) in
    let kept : slice_set (stored pages) sector (page_at (stored pages) sector) ≡ stored pages =
    set-get_or (stored pages) sector (record { 0 = [] }) in
    shown-shut (slice_set pages 1 block) shut
    ∙ stored-other pages 1 block (omega arith) (omega arith)
    ∙ sym kept
    ∙ ap (λ b. slice_set (stored pages) sector b) (sym there)
    ∙ sym (shown-ajar pages sector e)

-- pages with these forms, the gate shut, show what stands behind the first 8
pub shown-forms : (pages : List Block) (s : Super) → IsSuper (page_at pages 0) s → IsGate (page_at pages 1) s.sectors Shut
    → shown pages ≡ take s.sectors (drop 8 pages)
unfolding stored
shown-forms pages s is closed =
    shown-shut pages (gate_at-IsGate pages s.sectors Shut is.most closed)
    ∙ ap (λ n. take n (drop 8 pages)) (sectors_of-IsSuper pages s is)
