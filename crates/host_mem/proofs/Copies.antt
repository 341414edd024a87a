-- Copies out of the pages and into them, as the ranges of the memory's addresses: the memory has the first bytes of the pages.
use Rattle.std.proofs.Common.{◌≡◌, ℕ, zero, suc, ◌+◌, ◌-◌, ◌*◌, ◌<◌, ◌≤◌, List, [], ◌∷◌, ◌++◌, length, take, drop, refl, sym, ap, ◌∙◌, arith, append_assoc, length-append, length-take}
use Rattle.std.proofs.Math.ListN.{set, replicate}
use Rattle.std.proofs.Math.Seq.{take-append-add, take-set-lt}
use Rattle.std.proofs.lemmas.List.{take-append-drop, take-take, drop-take, take-replicate}
use Rattle.host_mem.specs.Memory.{Memory, bytes_of, with_byte, with_bytes}

abbrev pub made : ℕ → List ℕ → Memory
made base bytes = record { base = base; bytes = bytes }

pub rejoined : (place : ℕ) (bytes : List ℕ) → take place bytes ++ ([] ++ drop (place + 0) bytes) ≡ bytes
rejoined place bytes = let e : place + 0 ≡ place = omega arith in rw e (take-append-drop place bytes)

-- a part of the first bytes
pub part : (k n len : ℕ) (bytes : List ℕ) → k + n ≤ len → take n (drop k (take len bytes)) ≡ take n (drop k bytes)
part k n len bytes h =
    let m = len - k in
    let whole : len ≡ k + m = omega arith in
    let short : n ≤ m = omega arith in
    ap (λ l. take n (drop k (take l bytes))) whole ∙ ap (take n) (drop-take k m bytes) ∙ take-take n m (drop k bytes) short

pub copied_out : (memory : Memory) (base len at place n : ℕ) (pages : List ℕ) → made base (take len pages) ≡ memory
    → place + n ≤ length memory.bytes → (0 < n → place ≡ at - memory.base) → take n (drop place pages) ≡ bytes_of memory at n
unfolding bytes_of
copied_out memory base len at place zero pages same within is = refl
copied_out memory base len at place (suc n) pages same within is =
    let some : 0 < suc n = omega arith in
    let bytes : take len pages ≡ memory.bytes = ap (λ (m : Memory). m.bytes) same in
    let size : length (take len pages) ≡ length memory.bytes = ap length bytes in
    let enough : place + suc n ≤ len = omega (arith, length-take len pages) in
    sym (part place (suc n) len pages enough)
    ∙ ap (λ ys. take (suc n) (drop place ys)) bytes
    ∙ ap (λ p. take (suc n) (drop p memory.bytes)) (is some)

-- the first bytes of what a copy made
cut : (place n len : ℕ) (from bytes : List ℕ) → length from ≡ n → place + n ≤ len → place + n ≤ length bytes
    → take len (take place bytes ++ (from ++ drop (place + n) bytes)) ≡ take place (take len bytes) ++ (from ++ drop (place + n) (take len bytes))
cut place n len from bytes e h low =
    let rest = len - (place + n) in
    let size : length (take place bytes ++ from) ≡ place + n = omega (arith, length-append (take place bytes) from, length-take place bytes) in
    let whole : len ≡ length (take place bytes ++ from) + rest = omega arith in
    let same : len ≡ place + n + rest = omega arith in
    let before : take place (take len bytes) ≡ take place bytes = take-take place len bytes (omega arith) in
    let behind : drop (place + n) (take len bytes) ≡ take rest (drop (place + n) bytes) =
    ap (λ l. drop (place + n) (take l bytes)) same ∙ drop-take (place + n) rest bytes in
    ap (take len) (sym (append_assoc (take place bytes) from (drop (place + n) bytes)))
    ∙ ap (λ l. take l ((take place bytes ++ from) ++ drop (place + n) bytes)) whole
    ∙ take-append-add (take place bytes ++ from) (drop (place + n) bytes) rest
    ∙ append_assoc (take place bytes) from (take rest (drop (place + n) bytes))
    ∙ ap (λ ys. take place bytes ++ (from ++ ys)) (sym behind)
    ∙ ap (λ ys. ys ++ (from ++ drop (place + n) (take len bytes))) (sym before)

copied_bytes : (start len at place : ℕ) (pages new from : List ℕ) → new ≡ take place pages ++ (from ++ drop (place + length from) pages)
    → place + length from ≤ length (take len pages) → (0 < length from → place ≡ start)
    → take len new ≡ take start (take len pages) ++ (from ++ drop (start + length from) (take len pages))
copied_bytes start len at place pages new [] to within is = ap (take len) (to ∙ rejoined place pages) ∙ sym (rejoined start (take len pages))
copied_bytes start len at place pages new (x ∷ from) to within is =
    let some : 0 < length (x ∷ from) = omega arith in
    let size = length-take len pages in
    ap (take len) to
    ∙ cut place (length (x ∷ from)) len (x ∷ from) pages refl (omega arith) (omega arith)
    ∙ ap (λ p. take p (take len pages) ++ ((x ∷ from) ++ drop (p + length (x ∷ from)) (take len pages))) (is some)

pub copied_in : (memory : Memory) (base len at place : ℕ) (pages new from : List ℕ) → made base (take len pages) ≡ memory
    → new ≡ take place pages ++ (from ++ drop (place + length from) pages) → place + length from ≤ length memory.bytes
    → (0 < length from → place ≡ at - memory.base) → made base (take len new) ≡ with_bytes memory at from
unfolding with_bytes
copied_in memory base len at place pages new from same to within is =
    let bytes : take len pages ≡ memory.bytes = ap (λ (m : Memory). m.bytes) same in
    let first : base ≡ memory.base = ap (λ (m : Memory). m.base) same in
    rw (first, copied_bytes (at - memory.base) len at place pages new from to (rw bytes within) is, bytes) refl

pub set_in : (memory : Memory) (base len at place byte : ℕ) (pages new : List ℕ) → made base (take len pages) ≡ memory
    → new ≡ set pages place byte → place < length memory.bytes → place ≡ at - memory.base
    → made base (take len new) ≡ with_byte memory at byte
set_in memory base len at place byte pages new same to within is =
    let bytes : take len pages ≡ memory.bytes = ap (λ (m : Memory). m.bytes) same in
    let first : base ≡ memory.base = ap (λ (m : Memory). m.base) same in
    let size : length (take len pages) ≡ length memory.bytes = ap length bytes in
    let below : place < len = omega (arith, length-take len pages) in
    ap (λ ys. made base ys)
    (ap (take len) to ∙ take-set-lt len pages place byte below ∙ ap (λ ys. set ys place byte) bytes ∙ ap (λ p. set memory.bytes p byte) is)
    ∙ ap (λ b. made b (set memory.bytes (at - memory.base) byte)) first

pub zeros_in : (base len count : ℕ) (pages : List ℕ) → pages ≡ replicate (4096 * count) 0 → len ≤ 4096 * count
    → made base (take len pages) ≡ made base (replicate len 0)
zeros_in base len count pages zeros enough =
    ap (λ ys. made base ys) (ap (take len) zeros ∙ take-replicate len (4096 * count) 0 enough)
