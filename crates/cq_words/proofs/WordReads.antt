-- What is read after a word was written at `at`: there the word, and elsewhere what stood there.
use Rattle.std.proofs.Common.{◌≡◌, ℕ, ◌+◌, ◌≤◌, ◌<◌, ◌^◌, List, ◌++◌, length, take, drop, sym, ap, ◌∙◌, arith, length-append, length-drop, append_assoc}
use Rattle.std.proofs.lemmas.List.{drop-append-le, drop_all, take-append-drop, length-take}
use Rattle.std.proofs.lemmas.Slice.{drop-append-drop}
use Rattle.byteorder.specs.Endian.{little_number, little_bytes}
use Rattle.byteorder.specs.Numbers.{little_number-reads_back, little_from-append, length-bytes_low_first}

seam : (at : ℕ) (xs rest : List ℕ) → at ≤ length xs → drop at (take at xs ++ rest) ≡ rest
seam at xs rest h =
    let whole : length (take at xs) ≡ at = omega (arith, length-take at xs) in
    let front : at ≤ length (take at xs) = omega arith in
    let none : length (take at xs) ≤ at = omega arith in
    drop-append-le at (take at xs) rest front ∙ ap (λ ys. ys ++ rest) (drop_all at (take at xs) none)

-- the word itself
pub little_number-written : (at n value : ℕ) (xs : List ℕ) → at + n ≤ length xs → value < 256 ^ n
    → little_number n (drop at (take at xs ++ (little_bytes n value ++ drop (at + n) xs))) ≡ value
little_number-written at n value xs h fits =
    ap (little_number n) (seam at xs (little_bytes n value ++ drop (at + n) xs) (omega arith))
    ∙ little_number-reads_back n value (drop (at + n) xs) fits

-- a word before it
pub little_number-written_above : (at at' m : ℕ) (xs rest : List ℕ) → at' + m ≤ at → at ≤ length xs
    → little_number m (drop at' (take at xs ++ rest)) ≡ little_number m (drop at' xs)
little_number-written_above at at' m xs rest h low =
    let whole : length (take at xs) ≡ at = omega (arith, length-take at xs) in
    let front : at' ≤ length (take at xs) = omega arith in
    let enough : m ≤ length (drop at' (take at xs)) = omega (arith, length-drop at' (take at xs)) in
    ap (little_number m) (drop-append-le at' (take at xs) rest front)
    ∙ little_from-append m (drop at' (take at xs)) rest enough
    ∙ sym (little_from-append m (drop at' (take at xs)) (drop at xs) enough)
    ∙ ap (little_number m) (sym (drop-append-le at' (take at xs) (drop at xs) front) ∙ ap (drop at') (take-append-drop at xs))

-- all that stands behind it
pub drop-written : (at at' n value : ℕ) (xs : List ℕ) → at + n ≤ at' → at + n ≤ length xs
    → drop at' (take at xs ++ (little_bytes n value ++ drop (at + n) xs)) ≡ drop at' xs
drop-written at at' n value xs h low =
    let front : length (take at xs) ≡ at = omega (arith, length-take at xs) in
    let whole : length (take at xs ++ little_bytes n value) ≡ at + n =
    omega (arith, length-append (take at xs) (little_bytes n value), length-bytes_low_first 0 n value) in
    ap (drop at') (let e : (take at xs ++ little_bytes n value) ++ drop (at + n) xs ≡ take at xs ++ (little_bytes n value ++ drop (at + n) xs) = rw append_assoc in sym e)
    ∙ drop-append-drop (at + n) xs (take at xs ++ little_bytes n value) at' h whole
