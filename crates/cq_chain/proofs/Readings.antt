-- What is read at an address, and what a descriptor leaves wanted.
use Rattle.std.proofs.Common.{◌≡◌, ℕ, ◌+◌, ◌-◌, ◌≤◌, ◌<◌, inl, inr, Bool, true, false, cond, [], ◌∷◌, refl, sym, ap, subst, ◌∙◌, arith, Result, Ok, Err}
use Rattle.std.specs.Prelude.{◌==◌, nat_lt, All}
use Rattle.std.proofs.lemmas.Bool.{false≢true, lt-ltb, le-ltb, ltb-true, ltb-false}
use Rattle.std.proofs.lemmas.Bool.Decides.{eqb_tells}
use Rattle.std.proofs.lemmas.List.Elements.{All-head, All-cons}
use Rattle.cq_words.specs.Table.{number_in, is_set}
use Rattle.host_mem.specs.Memory.{Memory, HasRange}
use Rattle.cq_desc.specs.declared.layout.TheConstants.{VALID, END, INT, ACT, ACT_TRANSFER, ACT_LINK, DATA_LENGTH}
use Rattle.cq_desc.specs.declared.fault.DescFault.{DescFault}
use Rattle.cq_desc.specs.declared.fault.DescFault.TheVariants as desc_fault
use Rattle.cq_desc.specs.declared.xfer.Xfer.{Xfer}
use Rattle.cq_desc.specs.declared.xfer.Xfer.TheVariants.{Piece as Transfer, Link, Nop}
use Rattle.cq_desc.specs.Transfer.{xfer_read, xfer_of, is_xfer, length_of, address_of}
use Rattle.cq_chain.specs.declared.pieces.Piece.{Piece}
use Rattle.cq_chain.specs.declared.fault.ChainFault.{ChainFault}
use Rattle.cq_chain.specs.declared.fault.ChainFault.TheVariants.{Hole, NotValid, BadAct, Long, Short, TooMany}
use Rattle.cq_chain.specs.Descriptors.{size_of, word_at, descriptor_at, Reads, pieces_of, bytes_in, AreInside, AreNotEmpty}
use Rattle.cq_chain.specs.Steps.{has_range, reading_of, read_at, left_after}
use Rattle.cq_chain.proofs.Ranges.{has_range-range, range-has_range, has_range-none, none-has_range, range-joined, range-low, range-high}

-- ---- no transfer is empty

pub no_elements : {X : Type 0} (P : X → Type 0) → All P []
no_elements P k d lt = absurd (omega arith)

abbrev pick : Bool → Bool → Xfer → Result Xfer DescFault
pick valid known desc = cond valid (cond known (Ok desc) (Err desc_fault.BadAct)) (Err desc_fault.NotValid)

picked : (valid known : Bool) (desc got : Xfer) → pick valid known desc ≡ Ok got → desc ≡ got
picked true true desc got h = cc
picked true false desc got h = cc
picked false known desc got h = cc

some_length : (n : ℕ) → 1 ≤ cond (n == 0) 65536 n
some_length n = elim (eqb_tells n 0) [ inl none ↦ rw none.0 (omega arith) | inr some ↦ rw some.0 (omega arith) ]

some_bytes : (transfer link end int other : Bool) (len at : ℕ) → 1 ≤ len
    → AreNotEmpty (pieces_of (cond transfer (Transfer end int len at) (cond link (Link at) (Nop other)) ∷ []))
some_bytes true link end int other len at h = All-cons (λ (piece : Piece). 1 ≤ piece.len) (record { at = at; len = len }) [] h (no_elements (λ (piece : Piece). 1 ≤ piece.len))
some_bytes false true end int other len at h = no_elements (λ (piece : Piece). 1 ≤ piece.len)
some_bytes false false end int other len at h = no_elements (λ (piece : Piece). 1 ≤ piece.len)

xfer_of-some : (low address : ℕ) → AreNotEmpty (pieces_of (xfer_of low address ∷ []))
xfer_of-some low address =
    some_bytes (number_in low ACT == ACT_TRANSFER) (number_in low ACT == ACT_LINK) (is_set low END) (is_set low INT) (is_set low END) (length_of low) address
    (some_length (number_in low DATA_LENGTH))

pub read-some : (low high : ℕ) (wide : Bool) (desc : Xfer) → xfer_read low high wide ≡ Ok desc → AreNotEmpty (pieces_of (desc ∷ []))
unfolding xfer_read
read-some low high wide desc h =
    let e = picked (is_set low VALID) (is_xfer low) (xfer_of low (address_of low high wide)) desc h in
    let P : Xfer → Type 0 = λ x. AreNotEmpty (pieces_of (x ∷ [])) in
    subst P e (xfer_of-some low (address_of low high wide))

-- ---- the descriptor at an address

pub high_of : Memory → Bool → ℕ → ℕ
high_of memory wide at = cond wide (word_at memory (at + 8)) 0

whole_range : (memory : Memory) (wide : Bool) (at : ℕ) → HasRange memory at 8 → (wide ≡ true → HasRange memory (at + 8) 8)
    → HasRange memory at (size_of wide)
whole_range memory true at low high = range-joined memory at low (high refl)
whole_range memory false at low high = low

read_at-inside : (memory : Memory) (wide : Bool) (at : ℕ) → HasRange memory at (size_of wide)
    → read_at memory wide at ≡ reading_of (descriptor_at memory wide at)
unfolding read_at
read_at-inside memory wide at range = rw (has_range-range memory at (size_of wide) range)

pub read_at-outside : (memory : Memory) (wide : Bool) (at : ℕ) → (HasRange memory at (size_of wide) → ⊥) → read_at memory wide at ≡ Err Hole
unfolding read_at
read_at-outside memory wide at none = rw (has_range-none memory at (size_of wide) none)

read_at-words : (memory : Memory) (wide : Bool) (at low high : ℕ) → HasRange memory at 8 → (wide ≡ true → HasRange memory (at + 8) 8)
    → low ≡ word_at memory at → high ≡ cond wide (word_at memory (at + 8)) 0
    → (reading : Result Xfer DescFault) → reading ≡ xfer_read low high wide → reading_of reading ≡ read_at memory wide at
unfolding descriptor_at
read_at-words memory wide at low high first second l h reading e =
    ap reading_of (e ∙ rw (l, h)) ∙ sym (read_at-inside memory wide at (whole_range memory wide at first second))

pub wide-reads : (memory : Memory) (wide : Bool) (at low high : ℕ) → wide ≡ true → HasRange memory at 8 → HasRange memory (at + 8) 8
    → low ≡ word_at memory at → high ≡ word_at memory (at + 8)
    → (reading : Result Xfer DescFault) → reading ≡ xfer_read low high wide → reading_of reading ≡ read_at memory wide at
wide-reads memory true at low high w first second l h reading e = read_at-words memory true at low high first (λ _. second) l h reading e
wide-reads memory false at low high w first second l h reading e = cc

pub narrow-reads : (memory : Memory) (wide : Bool) (at low high : ℕ) → wide ≡ false → HasRange memory at 8 → low ≡ word_at memory at → high ≡ 0
    → (reading : Result Xfer DescFault) → reading ≡ xfer_read low high wide → reading_of reading ≡ read_at memory wide at
narrow-reads memory true at low high w first l h reading e = cc
narrow-reads memory false at low high w first l h reading e = read_at-words memory false at low high first (λ t. absurd (false≢true t)) l h reading e

pub read_at-no_low : (memory : Memory) (wide : Bool) (at : ℕ) → (HasRange memory at 8 → ⊥) → read_at memory wide at ≡ Err Hole
read_at-no_low memory true at none = read_at-outside memory true at (λ range. none (range-low memory at range))
read_at-no_low memory false at none = read_at-outside memory false at none

pub read_at-no_high : (memory : Memory) (wide : Bool) (at : ℕ) → wide ≡ true → (HasRange memory (at + 8) 8 → ⊥) → read_at memory wide at ≡ Err Hole
read_at-no_high memory true at e none = read_at-outside memory true at (λ range. none (range-high memory at range))
read_at-no_high memory false at e none = cc

pub read_at-reads : (memory : Memory) (wide : Bool) (at : ℕ) (reading : Result Xfer DescFault) → Reads memory wide at reading
    → read_at memory wide at ≡ reading_of reading
read_at-reads memory wide at reading reads = read_at-inside memory wide at reads.inside ∙ ap reading_of reads.value

-- why no descriptor is read
abbrev pub IsUnread : Memory → Bool → ℕ → ChainFault → Type 0
IsUnread memory wide at Hole = HasRange memory at (size_of wide) → ⊥
IsUnread memory wide at NotValid = Reads memory wide at (Err desc_fault.NotValid)
IsUnread memory wide at BadAct = Reads memory wide at (Err desc_fault.BadAct)
IsUnread memory wide at Long = ⊥
IsUnread memory wide at Short = ⊥
IsUnread memory wide at TooMany = ⊥

-- what an answer says
abbrev pub ReadsSo : Memory → Bool → ℕ → Result Xfer ChainFault → Type 0
ReadsSo memory wide at (Ok desc) = Reads memory wide at (Ok desc)
ReadsSo memory wide at (Err fault) = IsUnread memory wide at fault

reads_so : (memory : Memory) (wide : Bool) (at : ℕ) (reading : Result Xfer DescFault) → Reads memory wide at reading
    → ReadsSo memory wide at (reading_of reading)
reads_so memory wide at (Ok desc) reads = reads
reads_so memory wide at (Err desc_fault.NotValid) reads = reads
reads_so memory wide at (Err desc_fault.BadAct) reads = reads

pub read_at-so : (memory : Memory) (wide : Bool) (at : ℕ) → ReadsSo memory wide at (read_at memory wide at)
unfolding read_at
read_at-so memory wide at =
    elim (has_range memory at (size_of wide)) as (λ b. has_range memory at (size_of wide) ≡ b
    → ReadsSo memory wide at (cond b (reading_of (descriptor_at memory wide at)) (Err Hole))) [
      | true ↦ λ e. reads_so memory wide at (descriptor_at memory wide at) (record { inside = range-has_range memory at (size_of wide) e; value = refl })
      | false ↦ λ e. none-has_range memory at (size_of wide) e
    ]
    refl

-- ---- what is wanted after a descriptor

pub left_after-outside : (memory : Memory) (end int : Bool) (len at left : ℕ) → (HasRange memory at len → ⊥)
    → left_after memory (Transfer end int len at) left ≡ Err Hole
unfolding left_after
left_after-outside memory end int len at left none = rw (has_range-none memory at len none)

pub left_after-long : (memory : Memory) (end int : Bool) (len at left : ℕ) → HasRange memory at len → left < len
    → left_after memory (Transfer end int len at) left ≡ Err Long
unfolding left_after
left_after-long memory end int len at left range more = rw (has_range-range memory at len range, lt-ltb left len more)

pub left_after-inside : (memory : Memory) (end int : Bool) (len at left : ℕ) → HasRange memory at len → len ≤ left
    → left_after memory (Transfer end int len at) left ≡ Ok (left - len)
unfolding left_after
left_after-inside memory end int len at left range fits = rw (has_range-range memory at len range, le-ltb left len fits)

pub left_after-link : (memory : Memory) (to left : ℕ) → left_after memory (Link to) left ≡ Ok left
unfolding left_after
left_after-link memory to left = refl

pub left_after-nop : (memory : Memory) (end : Bool) (left : ℕ) → left_after memory (Nop end) left ≡ Ok left
unfolding left_after
left_after-nop memory end left = refl

abbrev pub HasPiece : Memory → Piece → Type 0
HasPiece memory piece = HasRange memory piece.at piece.len

-- what an answer says
abbrev pub LeavesSo : Memory → Xfer → ℕ → Result ℕ ChainFault → Type 0
LeavesSo memory desc left (Ok less) = AreInside memory (pieces_of (desc ∷ [])) × (bytes_in (pieces_of (desc ∷ [])) + less ≡ left)
LeavesSo memory desc left (Err Hole) = AreInside memory (pieces_of (desc ∷ [])) → ⊥
LeavesSo memory desc left (Err Long) = AreInside memory (pieces_of (desc ∷ [])) × (left < bytes_in (pieces_of (desc ∷ [])))
LeavesSo memory desc left (Err NotValid) = ⊥
LeavesSo memory desc left (Err BadAct) = ⊥
LeavesSo memory desc left (Err Short) = ⊥
LeavesSo memory desc left (Err TooMany) = ⊥

pub one_piece : (memory : Memory) (piece : Piece) → HasPiece memory piece → AreInside memory (piece ∷ [])
one_piece memory piece h = All-cons (HasPiece memory) piece [] h (no_elements (HasPiece memory))

pub left_after-so : (memory : Memory) (desc : Xfer) (left : ℕ) → LeavesSo memory desc left (left_after memory desc left)
unfolding left_after
left_after-so memory (Transfer end int len at) left =
    elim (has_range memory at len) as (λ b. has_range memory at len ≡ b
    → LeavesSo memory (Transfer end int len at) left (cond b (cond (nat_lt left len) (Err Long) (Ok (left - len))) (Err Hole))) [
      | true ↦ λ e. elim (nat_lt left len) as (λ l. nat_lt left len ≡ l
          → LeavesSo memory (Transfer end int len at) left (cond l (Err Long) (Ok (left - len)))) [
            | true ↦ λ f. let lt = ltb-true left len f in
                (one_piece memory (record { at = at; len = len }) (range-has_range memory at len e), omega (arith, lt))
            | false ↦ λ f. let le = ltb-false left len f in
                (one_piece memory (record { at = at; len = len }) (range-has_range memory at len e), omega (arith, le))
          ]
          refl
      | false ↦ λ e all. none-has_range memory at len e (All-head (HasPiece memory) (record { at = at; len = len }) [] all)
    ]
    refl
left_after-so memory (Link to) left = (no_elements (HasPiece memory), omega arith)
left_after-so memory (Nop end) left = (no_elements (HasPiece memory), omega arith)

pub left_after-fits : (memory : Memory) (desc : Xfer) (left less : ℕ) → AreInside memory (pieces_of (desc ∷ []))
    → bytes_in (pieces_of (desc ∷ [])) + less ≡ left → left_after memory desc left ≡ Ok less
unfolding left_after
left_after-fits memory (Transfer end int len at) left less inside sum =
    let fits : len ≤ left = omega arith in
    let e : left - len ≡ less = omega arith in
    left_after-inside memory end int len at left (All-head (HasPiece memory) (record { at = at; len = len }) [] inside) fits ∙ ap (λ n. Ok n) e
left_after-fits memory (Link to) left less inside sum = ap (λ n. Ok n) (omega arith)
left_after-fits memory (Nop end) left less inside sum = ap (λ n. Ok n) (omega arith)
