-- Changes within a range, one after the other, and what stays outside it.
use Rattle.std.proofs.Common.{Bool, List, Result, [], ap, arith, drop, false, inl, inr, length, refl, sym, take, true, ℕ, ◌*◌, ◌++◌, ◌+◌, ◌-◌, ◌<◌, ◌^◌, ◌∙◌, ◌∷◌, ◌≡◌, ◌≤◌, ◌⊎◌, Ok}
use Rattle.std.specs.Prelude.{All}
use Rattle.std.proofs.lemmas.List.Elements.{All-nil, All-cons, All-head, All-tail}
use Rattle.byteorder.specs.Endian.{little_number, little_bytes}
use Rattle.byteorder.specs.Numbers.{little_number-reads_back}
use Rattle.host_mem.specs.Memory.{Memory, HasRange, bytes_of, with_bytes}
use Rattle.host_mem.proofs.MemoryLaws.{with_bytes-base, with_bytes-length, bytes_of-with_bytes, bytes_of-part}
use Rattle.cq_chain.specs.declared.pieces.Piece.{Piece}
use Rattle.cq_desc.specs.declared.fault.DescFault.{DescFault}
use Rattle.cq_desc.specs.declared.xfer.Xfer.{Xfer}
use Rattle.cq_desc.specs.Transfer.{xfer_read}
use Rattle.cq_chain.specs.Descriptors.{Reads, descriptor_at, size_of, word_at}
use Rattle.piece_data.specs.Laws.{HasSameSpace, IsApart, KeepsOthers}
use Rattle.piece_data.proofs.Kept.{written-apart, range-same_space}
use Rattle.drv_ring.specs.Changes.{ChangesWithin, area}

pub within-written : (memory : Memory) (at : ℕ) (from : List ℕ) → HasRange memory at (length from)
    → ChangesWithin (area at (length from)) memory (with_bytes memory at from)
within-written memory at from inside = record {
  space = record { base = with_bytes-base memory at from; size = with_bytes-length memory at from inside };
  others = λ range has apart.
      written-apart memory at range.at range.len from inside has (All-head (IsApart range) (area at (length from)) [] apart);
}

pub within-none : (range : Piece) (memory : Memory) → ChangesWithin range memory memory
within-none range memory = record { space = record { base = refl; size = refl }; others = λ other has apart. refl }

All-left : {X : Type 0} (P : X → Type 0) (xs ys : List X) → All P (xs ++ ys) → All P xs
All-left P [] ys all = All-nil P
All-left P (x ∷ xs) ys all = All-cons P x xs (All-head P x (xs ++ ys) all) (All-left P xs ys (All-tail P x (xs ++ ys) all))

All-right : {X : Type 0} (P : X → Type 0) (xs ys : List X) → All P (xs ++ ys) → All P ys
All-right P [] ys all = all
All-right P (x ∷ xs) ys all = All-right P xs ys (All-tail P x (xs ++ ys) all)

-- what two changes leave
pub others-more : (first second : List Piece) (old middle new : Memory) → HasSameSpace old middle → KeepsOthers first old middle
    → KeepsOthers second middle new → KeepsOthers (first ++ second) old new
others-more first second old middle new space one two = λ range has apart.
    two range (range-same_space old middle range.at range.len space has) (All-right (IsApart range) first second apart)
    ∙ one range has (All-left (IsApart range) first second apart)

pub space-more : (old middle new : Memory) → HasSameSpace old middle → HasSameSpace middle new → HasSameSpace old new
space-more old middle new first second = record { base = second.base ∙ first.base; size = second.size ∙ first.size }

pub within-more : (range : Piece) (old middle new : Memory) → ChangesWithin range old middle → ChangesWithin range middle new
    → ChangesWithin range old new
within-more range old middle new first second = record {
  space = space-more old middle new first.space second.space;
  others = λ other has apart.
      second.others other (range-same_space old middle other.at other.len first.space has) apart ∙ first.others other has apart;
}

pub within-wider : (inner outer : Piece) (old new : Memory) → outer.at ≤ inner.at → inner.at + inner.len ≤ outer.at + outer.len
    → ChangesWithin inner old new → ChangesWithin outer old new
within-wider inner outer old new low high change = record {
  space = change.space;
  others = λ range has apart.
      let whole = All-head (IsApart range) outer [] apart in
      change.others range has
      (All-cons (IsApart range) inner []
      (λ i j lt less e. whole i (inner.at - outer.at + j) lt (omega arith) (omega arith))
      (All-nil (IsApart range)));
}

-- the bytes before or behind the range
pub within-kept : (at len : ℕ) (old new : Memory) → ChangesWithin (area at len) old new → (start n : ℕ) → HasRange old start n
    → (at + len ≤ start) ⊎ (start + n ≤ at) → bytes_of new start n ≡ bytes_of old start n
within-kept at len old new change start n has side =
    let apart : IsApart (area start n) (area at len) = λ i j lt less e. elim side [ inl above ↦ omega arith | inr below ↦ omega arith ] in
    change.others (area start n) has (All-cons (IsApart (area start n)) (area at len) [] apart (All-nil (IsApart (area start n))))

pub word-same : (old new : Memory) (at : ℕ) → bytes_of new at 8 ≡ bytes_of old at 8 → word_at new at ≡ word_at old at
unfolding word_at
word-same old new at e = ap (little_number 8) e

pub word-kept : (at len : ℕ) (old new : Memory) → ChangesWithin (area at len) old new → (start : ℕ) → HasRange old start 8
    → (at + len ≤ start) ⊎ (start + 8 ≤ at) → word_at new start ≡ word_at old start
word-kept at len old new change start has side = word-same old new start (within-kept at len old new change start 8 has side)

-- a word that was written is read
pub word-written : (memory : Memory) (at word : ℕ) (bytes old : List ℕ) → bytes ≡ take 0 old ++ (little_bytes 8 word ++ drop (0 + 8) old)
    → length bytes ≡ 8 → word < 2 ^ 64 → bytes_of memory at (length bytes) ≡ bytes → word_at memory at ≡ word
unfolding word_at
word-written memory at word bytes old e long fits written =
    ap (λ n. little_number 8 (bytes_of memory at n)) (sym long)
    ∙ ap (little_number 8) (written ∙ e)
    ∙ little_number-reads_back 8 word (drop (0 + 8) old) fits

pub bytes-written : (old new : Memory) (at : ℕ) (from : List ℕ) → new ≡ with_bytes old at from → HasRange old at (length from)
    → bytes_of new at (length from) ≡ from
bytes-written old new at from e inside = rw e (bytes_of-with_bytes old at from inside)

pub change-written : (old new : Memory) (at : ℕ) (from : List ℕ) → new ≡ with_bytes old at from → HasRange old at (length from)
    → ChangesWithin (area at (length from)) old new
change-written old new at from e inside = rw e (within-written old at from inside)

-- two ranges of one size, one behind the other
pub pair-first : (old middle new : Memory) (at size : ℕ) → 8 ≤ size → HasRange old at (2 * size) → ChangesWithin (area at size) old middle
    → ChangesWithin (area (at + size) size) middle new → word_at new at ≡ word_at middle at
pair-first old middle new at size some inside first second =
    word-kept (at + size) size middle new second at
    (range-same_space old middle at 8 first.space (λ k lt. inside k (omega arith))) (inr (omega arith))

pub pair-within : (old middle new : Memory) (at size : ℕ) → ChangesWithin (area at size) old middle
    → ChangesWithin (area (at + size) size) middle new → ChangesWithin (area at (2 * size)) old new
pair-within old middle new at size first second =
    within-more (area at (2 * size)) old middle new
    (within-wider (area at size) (area at (2 * size)) old middle (omega arith) (omega arith) first)
    (within-wider (area (at + size) size) (area at (2 * size)) middle new (omega arith) (omega arith) second)

-- the two words of a wide descriptor
pub wide-low : (wide : Bool) → wide ≡ true → (old middle new : Memory) (at : ℕ) → HasRange old at (size_of wide) → ChangesWithin (area at 8) old middle
    → ChangesWithin (area (at + 8) 8) middle new → word_at new at ≡ word_at middle at
wide-low false e old middle new at inside first second = cc
wide-low true e old middle new at inside first second = pair-first old middle new at 8 (omega arith) inside first second

pub wide-within : (wide : Bool) → wide ≡ true → (old middle new : Memory) (at : ℕ) → ChangesWithin (area at 8) old middle
    → ChangesWithin (area (at + 8) 8) middle new → ChangesWithin (area at (size_of wide)) old new
wide-within false e old middle new at first second = cc
wide-within true e old middle new at first second = pair-within old middle new at 8 first second

-- a descriptor whose bytes stay reads as before
low-word : (memory : Memory) (at : ℕ) → memory.base ≤ at → word_at memory at ≡ little_number 8 (take 8 (bytes_of memory at 16))
unfolding word_at
low-word memory at low =
    let e : at + 0 ≡ at = omega arith in
    ap (λ p. little_number 8 (bytes_of memory p 8)) (sym e) ∙ ap (little_number 8) (bytes_of-part memory at 16 0 8 low (omega arith))

high-word : (memory : Memory) (at : ℕ) → memory.base ≤ at → word_at memory (at + 8) ≡ little_number 8 (take 8 (drop 8 (bytes_of memory at 16)))
unfolding word_at
high-word memory at low = ap (little_number 8) (bytes_of-part memory at 16 8 8 low (omega arith))

-- the low word of a descriptor whose bytes stay
low-same : (wide : Bool) (old new : Memory) (at : ℕ) → HasSameSpace old new → HasRange old at (size_of wide)
    → bytes_of new at (size_of wide) ≡ bytes_of old at (size_of wide) → word_at new at ≡ word_at old at
low-same false old new at space inside e = word-same old new at e
low-same true old new at space inside e =
    let first = inside 0 (omega arith) in
    low-word new at (omega (arith, first.0, space.base)) ∙ ap (λ l. little_number 8 (take 8 l)) e ∙ sym (low-word old at (omega (arith, first.0)))

pub reads-kept : (wide : Bool) (old new : Memory) (at : ℕ) (reading : Result Xfer DescFault) → HasSameSpace old new
    → bytes_of new at (size_of wide) ≡ bytes_of old at (size_of wide) → Reads old wide at reading → Reads new wide at reading
unfolding descriptor_at
reads-kept false old new at reading space e reads = record {
  inside = range-same_space old new at 8 space reads.inside;
  value = ap (λ word. xfer_read word 0 false) (word-same old new at e) ∙ reads.value;
}
reads-kept true old new at reading space e reads =
    let first = reads.inside 0 (omega arith) in
    let low : word_at new at ≡ word_at old at = low-same true old new at space reads.inside e in
    let high : word_at new (at + 8) ≡ word_at old (at + 8) =
    high-word new at (omega (arith, first.0, space.base)) ∙ ap (λ l. little_number 8 (take 8 (drop 8 l))) e ∙ sym (high-word old at (omega (arith, first.0))) in
    record {
      inside = range-same_space old new at 16 space reads.inside;
      value =
          ap (λ word. xfer_read word (word_at new (at + 8)) true) low
          ∙ ap (λ word. xfer_read (word_at old at) word true) high
          ∙ reads.value;
    }

-- a descriptor reads as the words that were written
pub reads-written : (wide : Bool) (memory : Memory) (at low high : ℕ) (xfer : Xfer) → HasRange memory at (size_of wide)
    → word_at memory at ≡ low → (wide ≡ true → word_at memory (at + 8) ≡ high) → (wide ≡ false → high ≡ 0)
    → xfer_read low high wide ≡ Ok xfer → Reads memory wide at (Ok xfer)
unfolding descriptor_at
reads-written false memory at low high xfer inside first second none reads = record {
  inside = inside;
  value = ap (λ word. xfer_read word 0 false) first ∙ ap (λ word. xfer_read low word false) (sym (none refl)) ∙ reads;
}
reads-written true memory at low high xfer inside first second none reads = record {
  inside = inside;
  value = ap (λ word. xfer_read word (word_at memory (at + 8)) true) first ∙ ap (λ word. xfer_read low word true) (second refl) ∙ reads;
}
