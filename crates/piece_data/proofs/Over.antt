-- A list with other bytes from a place on.
use Rattle.std.proofs.Common.{◌≡◌, ℕ, zero, suc, ◌+◌, ◌-◌, ◌≤◌, List, [], ◌∷◌, ◌++◌, length, take, drop, min, refl, sym, ap, ◌∙◌, arith, length-drop}
use Rattle.piece_data.proofs.Ranges.{rejoined}

abbrev pub put_over : List ℕ → ℕ → List ℕ → List ℕ
put_over [] at bytes = []
put_over (x ∷ xs) (suc at) bytes = x ∷ put_over xs at bytes
put_over (x ∷ xs) zero [] = x ∷ xs
put_over (x ∷ xs) zero (b ∷ bytes) = b ∷ put_over xs zero bytes

pub put_over-none : (xs : List ℕ) (at : ℕ) → put_over xs at [] ≡ xs
put_over-none [] at = refl
put_over-none (x ∷ xs) zero = refl
put_over-none (x ∷ xs) (suc at) = ap (λ l. x ∷ l) (put_over-none xs at)

pub joined-over : (xs : List ℕ) (at : ℕ) (bytes : List ℕ) → at + length bytes ≤ length xs
    → take at xs ++ (bytes ++ drop (at + length bytes) xs) ≡ put_over xs at bytes
joined-over xs at [] h = rejoined at xs ∙ sym (put_over-none xs at)
joined-over [] at (b ∷ bytes) h = absurd (omega arith)
joined-over (x ∷ xs) zero (b ∷ bytes) h =
    let e : 0 + suc (length bytes) ≡ suc (0 + length bytes) = omega arith in
    rw e (ap (λ l. b ∷ l) (joined-over xs zero bytes (omega arith)))
joined-over (x ∷ xs) (suc at) (b ∷ bytes) h =
    let e : suc at + length (b ∷ bytes) ≡ suc (at + length (b ∷ bytes)) = omega arith in
    rw e (ap (λ l. x ∷ l) (joined-over xs at (b ∷ bytes) (omega arith)))

pub drop-over : (xs : List ℕ) (p at place : ℕ) (bytes : List ℕ) → place ≡ p + at → drop p (put_over xs place bytes) ≡ put_over (drop p xs) at bytes
drop-over xs zero at place bytes e = let same : place ≡ at = omega arith in ap (λ n. put_over xs n bytes) same
drop-over [] (suc p) at place bytes e = refl
drop-over (x ∷ xs) (suc p) at zero bytes e = absurd (omega arith)
drop-over (x ∷ xs) (suc p) at (suc place) bytes e = drop-over xs p at place bytes (omega arith)

pub take-put_over : (xs : List ℕ) (n at : ℕ) (bytes : List ℕ) → at + length bytes ≤ n → take n (put_over xs at bytes) ≡ put_over (take n xs) at bytes
take-put_over [] zero at bytes h = refl
take-put_over [] (suc n) at bytes h = refl
take-put_over (x ∷ xs) zero zero [] h = refl
take-put_over (x ∷ xs) zero zero (b ∷ bytes) h = absurd (omega arith)
take-put_over (x ∷ xs) zero (suc at) bytes h = absurd (omega arith)
take-put_over (x ∷ xs) (suc n) zero [] h = refl
take-put_over (x ∷ xs) (suc n) zero (b ∷ bytes) h = ap (λ l. b ∷ l) (take-put_over xs n zero bytes (omega arith))
take-put_over (x ∷ xs) (suc n) (suc at) bytes h = ap (λ l. x ∷ l) (take-put_over xs n at bytes (omega arith))

-- bytes over two lists one after the other
pub append-over : (xs ys : List ℕ) (at : ℕ) (bytes : List ℕ) → put_over (xs ++ ys) at bytes
    ≡ put_over xs at (take (min (length xs - at) (length bytes)) bytes)
    ++ put_over ys (at - length xs) (drop (min (length xs - at) (length bytes)) bytes)
append-over [] ys at bytes =
    let a : min (0 - at) (length bytes) ≡ 0 = omega arith in
    let b : at - 0 ≡ at = omega arith in
    rw (a, b) refl
append-over (x ∷ xs) ys zero [] =
    let a : min (suc (length xs) - 0) 0 ≡ 0 = omega arith in
    rw a (ap (λ l. x ∷ (xs ++ l)) (sym (put_over-none ys (0 - suc (length xs)))))
append-over (x ∷ xs) ys zero (b ∷ bytes) =
    let a : min (suc (length xs) - 0) (suc (length bytes)) ≡ suc (min (length xs - 0) (length bytes)) = omega arith in
    let c : 0 - suc (length xs) ≡ 0 - length xs = omega arith in
    rw (a, c) (ap (λ l. b ∷ l) (append-over xs ys zero bytes))
append-over (x ∷ xs) ys (suc at) bytes =
    let a : suc (length xs) - suc at ≡ length xs - at = omega arith in
    let c : suc at - suc (length xs) ≡ at - length xs = omega arith in
    rw (a, c) (ap (λ l. x ∷ l) (append-over xs ys at bytes))

front-over : (xs bytes : List ℕ) → length bytes ≤ length xs → take (length bytes) (put_over xs zero bytes) ≡ bytes
front-over xs [] h = refl
front-over [] (b ∷ bytes) h = absurd (omega arith)
front-over (x ∷ xs) (b ∷ bytes) h = ap (λ l. b ∷ l) (front-over xs bytes (omega arith))

-- the bytes that were put
pub over-this : (xs : List ℕ) (at : ℕ) (bytes : List ℕ) → at + length bytes ≤ length xs → take (length bytes) (drop at (put_over xs at bytes)) ≡ bytes
over-this xs at bytes h =
    ap (take (length bytes)) (drop-over xs at 0 at bytes (omega arith))
    ∙ front-over (drop at xs) bytes (omega (arith, length-drop at xs))

-- the bytes behind them and before them
pub over-behind : (xs : List ℕ) (at : ℕ) (bytes : List ℕ) (p : ℕ) → at + length bytes ≤ p → drop p (put_over xs at bytes) ≡ drop p xs
over-behind [] at bytes p h = refl
over-behind (x ∷ xs) zero [] p h = refl
over-behind (x ∷ xs) zero (b ∷ bytes) zero h = absurd (omega arith)
over-behind (x ∷ xs) zero (b ∷ bytes) (suc p) h = over-behind xs zero bytes p (omega arith)
over-behind (x ∷ xs) (suc at) bytes zero h = absurd (omega arith)
over-behind (x ∷ xs) (suc at) bytes (suc p) h = over-behind xs at bytes p (omega arith)

pub over-before : (xs : List ℕ) (at : ℕ) (bytes : List ℕ) (p n : ℕ) → p + n ≤ at → take n (drop p (put_over xs at bytes)) ≡ take n (drop p xs)
over-before xs at bytes p zero h = refl
over-before [] at bytes p (suc n) h = refl
over-before (x ∷ xs) zero bytes p (suc n) h = absurd (omega arith)
over-before (x ∷ xs) (suc at) bytes zero (suc n) h = ap (λ l. x ∷ l) (over-before xs at bytes zero n (omega arith))
over-before (x ∷ xs) (suc at) bytes (suc p) (suc n) h = over-before xs at bytes p (suc n) (omega arith)
