-- What the forms of superblock and gate tell.
use Rattle.std.proofs.Common.{◌≡◌, ℕ, zero, suc, ◌+◌, ◌<◌, ◌^◌, List, [], length, drop, refl, sym, ap, ◌∙◌, arith}
use Rattle.byteorder.specs.Endian.{little_number}
use Rattle.std.specs.Prelude.{codes, replicate}
use Rattle.std.proofs.lemmas.List.{append-nil}
use Rattle.storage_model.specs.Granule.{granule}
use Rattle.storage_model.specs.declared.block.Block.{Block}
use Rattle.image_form.specs.declared.superblock.Super.{Super}
use Rattle.image_form.specs.declared.gate.Gate.{Gate}
use Rattle.image_form.specs.declared.gate.Gate.TheVariants.{Shut, Ajar}
use Rattle.image_form.specs.Form.{IsSuper, IsGate, head_bytes, page_of, super_head, gate_head, gate_number, gate_numbered, number_at}
use Rattle.image_form.proofs.Heads.{number_at-first, number_at-second, length-head_bytes, granule-page_of}

pub IsSuper-version : (block : Block) (s : Super) → IsSuper block s → number_at 8 block.0 ≡ s.version
unfolding super_head page_of
IsSuper-version block s is =
    let fits : s.version < 2 ^ 32 = omega (arith, is.version) in
    ap (λ (b : Block). number_at 8 b.0) is.page ∙ number_at-first (codes "CQMMCIMG") (replicate 448 0) s.version s.sectors refl fits

pub IsSuper-sectors : (block : Block) (s : Super) → IsSuper block s → number_at 12 block.0 ≡ s.sectors
unfolding super_head page_of
IsSuper-sectors block s is =
    let fits : s.sectors < 2 ^ 32 = omega (arith, is.most) in
    ap (λ (b : Block). number_at 12 b.0) is.page ∙ number_at-second (codes "CQMMCIMG") (replicate 448 0) s.version s.sectors refl fits

pub length-gate_head : (number : ℕ) → length (gate_head number) ≡ 64
unfolding gate_head
length-gate_head number = length-head_bytes (codes "CQMMGATE") number 0 refl

pub number_at-gate_head : (number : ℕ) → number < 2 ^ 32 → number_at 8 (gate_head number) ≡ number
unfolding gate_head
number_at-gate_head number fits =
    ap (number_at 8) (sym (append-nil (head_bytes (codes "CQMMGATE") number 0)))
    ∙ number_at-first (codes "CQMMGATE") [] number 0 refl fits

-- a written gate is one
pub granule-gate_page : (number : ℕ) → granule (page_of (gate_head number)) 0 ≡ gate_head number
granule-gate_page number = granule-page_of (gate_head number) (length-gate_head number)

pub gate_numbered-number : (gate : Gate) → gate_numbered (gate_number gate) ≡ gate
gate_numbered-number Shut = refl
gate_numbered-number (Ajar sector) = let e : sector + 1 ≡ suc sector = omega arith in ap gate_numbered e

pub gate_number-numbered : (number : ℕ) → gate_number (gate_numbered number) ≡ number
gate_number-numbered zero = refl
gate_number-numbered (suc n) = omega arith

-- the gate that a block is
pub IsGate-gate : (block : Block) (sectors : ℕ) (gate : Gate) → sectors < 2 ^ 32 → IsGate block sectors gate
    → gate_numbered (number_at 8 (granule block 0)) ≡ gate
IsGate-gate block sectors gate fits is =
    let small : gate_number gate < 2 ^ 32 = omega (arith, is.within) in
    ap (λ xs. gate_numbered (number_at 8 xs)) is.head
    ∙ ap gate_numbered (number_at-gate_head (gate_number gate) small)
    ∙ gate_numbered-number gate

-- what `read_super` reads
pub IsSuper-read : (block : Block) (version sectors : ℕ) → version ≡ little_number 4 (drop 8 block.0)
    → sectors ≡ little_number 4 (drop 12 block.0) → (s : Super) → IsSuper block s → record { version = version; sectors = sectors } ≡ s
unfolding number_at
IsSuper-read block version sectors v n s is =
    let v1 : version ≡ s.version = v ∙ IsSuper-version block s is in
    let n1 : sectors ≡ s.sectors = n ∙ IsSuper-sectors block s is in
    rw (v1, n1) refl

-- what `read_gate` reads
pub IsGate-read : (block : Block) (number sectors : ℕ) (head : List ℕ) → sectors < 2 ^ 32 → head ≡ granule block 0
    → number ≡ little_number 4 (drop 8 head) → (gate : Gate) → IsGate block sectors gate → number ≡ gate_number gate
unfolding number_at
IsGate-read block number sectors head fits h e gate is =
    let small : gate_number gate < 2 ^ 32 = omega (arith, is.within) in
    e ∙ ap (λ xs. number_at 8 xs) (h ∙ is.head) ∙ number_at-gate_head (gate_number gate) small
