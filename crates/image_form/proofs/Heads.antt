-- The bytes of a granule of 8 letters and two numbers, and of a page that begins with it.
use Rattle.std.proofs.Common.{◌≡◌, ℕ, ◌+◌, ◌-◌, ◌<◌, ◌^◌, List, ◌++◌, length, take, drop, refl, sym, ap, ◌∙◌, arith, length-append, append_assoc}
use Rattle.std.specs.Prelude.{replicate}
use Rattle.std.proofs.lemmas.List.{take-append-le, take_all, drop-replicate, length-replicate}
use Rattle.std.proofs.lemmas.Slice.{drop-append-drop, between_from_start}
use Rattle.std.proofs.Math.Seq.{drop-append_seam, take-append_seam}
use Rattle.byteorder.specs.Endian.{little_number, little_bytes}
use Rattle.byteorder.specs.Numbers.{little_number-reads_back, length-bytes_low_first}
use Rattle.storage_model.specs.Granule.{granule}
use Rattle.image_form.specs.Form.{head_bytes, page_of, number_at}

-- a word written behind the front, where the bytes behind are those of an older list
word_behind : (front word zs : List ℕ) (at : ℕ) → length front ≡ at
    → take at (front ++ drop at zs) ++ (word ++ drop (at + 4) (front ++ drop at zs)) ≡ (front ++ word) ++ drop (at + 4) zs
word_behind front word zs at e =
    let whole : take at front ≡ front = take_all at front (omega arith) in
    let first : take at (front ++ drop at zs) ≡ front = take-append-le at front (drop at zs) (omega arith) ∙ whole in
    let rest : drop (at + 4) (front ++ drop at zs) ≡ drop (at + 4) zs = drop-append-drop at zs front (at + 4) (omega arith) e in
    rw (first, rest, append_assoc) refl

length-words : (front : List ℕ) (n value at : ℕ) → length front ≡ at → length (front ++ little_bytes n value) ≡ at + n
length-words front n value at e = omega (arith, length-append front (little_bytes n value), length-bytes_low_first 0 n value)

-- what `write_head` does, step by step
pub head_bytes-written : (letters bytes bytes2 bytes3 : List ℕ) (first second : ℕ) → length letters ≡ 8
    → bytes ≡ letters ++ drop (length letters) (replicate 64 0)
    → bytes2 ≡ take 8 bytes ++ (little_bytes 4 first ++ drop 12 bytes)
    → bytes3 ≡ take 12 bytes2 ++ (little_bytes 4 second ++ drop 16 bytes2)
    → bytes3 ≡ head_bytes letters first second
unfolding head_bytes
head_bytes-written letters bytes bytes2 bytes3 first second h e e2 e3 =
    let zs : List ℕ = replicate 64 0 in
    let front = letters ++ little_bytes 4 first in
    let two : bytes2 ≡ front ++ drop 12 zs =
    e2 ∙ ap (λ xs. take 8 xs ++ (little_bytes 4 first ++ drop 12 xs)) (e ∙ ap (λ n. letters ++ drop n zs) h) ∙ word_behind letters (little_bytes 4 first) zs 8 h in
    let three : bytes3 ≡ (front ++ little_bytes 4 second) ++ drop 16 zs =
    e3 ∙ ap (λ xs. take 12 xs ++ (little_bytes 4 second ++ drop 16 xs)) two
    ∙ word_behind front (little_bytes 4 second) zs 12 (length-words letters 4 first 8 h) in
    three ∙ ap (λ xs. (front ++ little_bytes 4 second) ++ xs) (drop-replicate 16 64 0)
    ∙ append_assoc front (little_bytes 4 second) (replicate 48 0)
    ∙ append_assoc letters (little_bytes 4 first) (little_bytes 4 second ++ replicate 48 0)

pub length-head_bytes : (letters : List ℕ) (first second : ℕ) → length letters ≡ 8 → length (head_bytes letters first second) ≡ 64
unfolding head_bytes
length-head_bytes letters first second h =
    let zs : List ℕ = replicate 48 0 in
    let z : length zs ≡ 48 = length-replicate {A = ℕ} 48 0 in
    let a = length-append letters (little_bytes 4 first ++ (little_bytes 4 second ++ zs)) in
    let b = length-append (little_bytes 4 first) (little_bytes 4 second ++ zs) in
    let d = length-append (little_bytes 4 second) zs in
    omega (arith, a, b, d, length-bytes_low_first 0 4 first, length-bytes_low_first 0 4 second)

pub page_of-written : (head bytes : List ℕ) → length head ≡ 64 → bytes ≡ head ++ drop (length head) (replicate 512 0)
    → (page_of head).0 ≡ bytes
unfolding page_of
page_of-written head bytes h e =
    let n : 448 ≡ 512 - length head = omega arith in
    ap (λ n. head ++ replicate n 0) n ∙ sym (ap (λ xs. head ++ xs) (drop-replicate (length head) 512 0)) ∙ sym e

-- the numbers read back
pub number_at-first : (letters rest : List ℕ) (first second : ℕ) → length letters ≡ 8 → first < 2 ^ 32
    → number_at 8 (head_bytes letters first second ++ rest) ≡ first
unfolding number_at head_bytes
number_at-first letters rest first second h fits =
    let zs : List ℕ = replicate 48 0 in
    let behind = little_bytes 4 second ++ zs in
    let e : (letters ++ (little_bytes 4 first ++ behind)) ++ rest ≡ letters ++ (little_bytes 4 first ++ (behind ++ rest)) =
    append_assoc letters (little_bytes 4 first ++ behind) rest ∙ ap (λ xs. letters ++ xs) (append_assoc (little_bytes 4 first) behind rest) in
    let seam : drop 8 (letters ++ (little_bytes 4 first ++ (behind ++ rest))) ≡ little_bytes 4 first ++ (behind ++ rest) =
    ap (λ n. drop n (letters ++ (little_bytes 4 first ++ (behind ++ rest)))) (sym h) ∙ drop-append_seam letters _ in
    ap (λ xs. little_number 4 (drop 8 xs)) e ∙ ap (little_number 4) seam ∙ little_number-reads_back 4 first (behind ++ rest) fits

pub number_at-second : (letters rest : List ℕ) (first second : ℕ) → length letters ≡ 8 → second < 2 ^ 32
    → number_at 12 (head_bytes letters first second ++ rest) ≡ second
unfolding number_at head_bytes
number_at-second letters rest first second h fits =
    let zs : List ℕ = replicate 48 0 in
    let front = letters ++ little_bytes 4 first in
    let e : (letters ++ (little_bytes 4 first ++ (little_bytes 4 second ++ zs))) ++ rest ≡ front ++ (little_bytes 4 second ++ (zs ++ rest)) =
    ap (λ xs. xs ++ rest) (sym (append_assoc letters (little_bytes 4 first) (little_bytes 4 second ++ zs)))
    ∙ append_assoc front (little_bytes 4 second ++ zs) rest
    ∙ ap (λ xs. front ++ xs) (append_assoc (little_bytes 4 second) zs rest) in
    let seam : drop 12 (front ++ (little_bytes 4 second ++ (zs ++ rest))) ≡ little_bytes 4 second ++ (zs ++ rest) =
    ap (λ n. drop n (front ++ (little_bytes 4 second ++ (zs ++ rest)))) (sym (length-words letters 4 first 8 h)) ∙ drop-append_seam front _ in
    ap (λ xs. little_number 4 (drop 12 xs)) e ∙ ap (little_number 4) seam ∙ little_number-reads_back 4 second (zs ++ rest) fits

-- the first granule
pub granule-first : (bytes : List ℕ) → granule (record { 0 = bytes }) 0 ≡ take 64 bytes
unfolding granule
granule-first bytes = between_from_start bytes 64

pub granule-page_of : (head : List ℕ) → length head ≡ 64 → granule (page_of head) 0 ≡ head
unfolding page_of
granule-page_of head h =
    granule-first (head ++ replicate 448 0)
    ∙ ap (λ n. take n (head ++ replicate 448 0)) (sym h) ∙ take-append_seam head (replicate 448 0)
