-- The walk as a function, which the loop follows.
use Rattle.std.proofs.Common.{◌≡◌, ℕ, zero, suc, ◌≤◌, ◌<◌, Bool, true, false, cond, List, [], ◌∷◌, ◌++◌, length, refl, sym, ap, ◌∙◌, arith, append_assoc, Result, Ok, Err}
use Rattle.std.specs.Prelude.{if◌then◌else◌}
use Rattle.host_mem.specs.Memory.{Memory}
use Rattle.cq_desc.specs.declared.xfer.Xfer.{Xfer}
use Rattle.cq_desc.specs.declared.xfer.Xfer.TheVariants.{Piece as Transfer, Link, Nop}
use Rattle.cq_chain.specs.declared.pieces.Piece.{Piece}
use Rattle.cq_chain.specs.declared.fault.ChainFault.{ChainFault}
use Rattle.cq_chain.specs.declared.fault.ChainFault.TheVariants.{Short, TooMany}
use Rattle.cq_chain.specs.Descriptors.{pieces_of, ends, next}
use Rattle.cq_chain.specs.Steps.{read_at, left_after}

abbrev pub Answer : Type 0
Answer = Result (List Piece) ChainFault

abbrev pub bind : {A B : Type 0} → Result A ChainFault → (A → Result B ChainFault) → Result B ChainFault
bind (Ok x) f = f x
bind (Err fault) f = Err fault

-- the answer with earlier pieces before its own
abbrev pub with_pieces : List Piece → Answer → Answer
with_pieces pieces (Ok more) = Ok (pieces ++ more)
with_pieces pieces (Err fault) = Err fault

abbrev pub finish : ℕ → Answer
finish zero = Ok []
finish (suc left) = Err Short

pub short_finish : (left : ℕ) → (left ≡ 0 → ⊥) → finish left ≡ Err Short
short_finish zero some = absurd (some refl)
short_finish (suc left) some = refl

-- after a descriptor with `left` bytes wanted
abbrev pub after : Xfer → ℕ → Answer → Answer
after desc left rest = with_pieces (pieces_of (desc ∷ [])) (if ends desc then finish left else rest)

unfoldable pub walked : Memory → Bool → (limit left at : ℕ) → Answer
walked memory wide zero left at = Err TooMany
walked memory wide (suc n) left at =
    bind (read_at memory wide at) (λ desc. bind (left_after memory desc left) (λ less. after desc less (walked memory wide n less (next wide at desc))))

-- ---- the steps of the loop

pub walked-unread : (memory : Memory) (wide : Bool) (n left at : ℕ) (fault : ChainFault) → read_at memory wide at ≡ Err fault
    → walked memory wide (suc n) left at ≡ Err fault
unfolding walked
walked-unread memory wide n left at fault e = rw e

pub walked-refused : (memory : Memory) (wide : Bool) (n left at : ℕ) (desc : Xfer) (fault : ChainFault) → read_at memory wide at ≡ Ok desc
    → left_after memory desc left ≡ Err fault → walked memory wide (suc n) left at ≡ Err fault
unfolding walked
walked-refused memory wide n left at desc fault e f = rw (e, f)

pub walked-after : (memory : Memory) (wide : Bool) (n left at : ℕ) (desc : Xfer) (less : ℕ) → read_at memory wide at ≡ Ok desc
    → left_after memory desc left ≡ Ok less
    → walked memory wide (suc n) left at ≡ after desc less (walked memory wide n less (next wide at desc))
unfolding walked
walked-after memory wide n left at desc less e f = rw (e, f)

pub after-end : (desc : Xfer) (less : ℕ) (rest : Answer) → ends desc ≡ true → after desc less rest ≡ with_pieces (pieces_of (desc ∷ [])) (finish less)
after-end desc less rest e = ap (λ b. with_pieces (pieces_of (desc ∷ [])) (cond b (finish less) rest)) e

pub after-on : (desc : Xfer) (less : ℕ) (rest : Answer) → ends desc ≡ false → after desc less rest ≡ with_pieces (pieces_of (desc ∷ [])) rest
after-on desc less rest e = ap (λ b. with_pieces (pieces_of (desc ∷ [])) (cond b (finish less) rest)) e

pub with_pieces-twice : (pieces more : List Piece) (answer : Answer) → with_pieces pieces (with_pieces more answer) ≡ with_pieces (pieces ++ more) answer
with_pieces-twice pieces more (Ok rest) = ap (λ ps. Ok ps) (sym (append_assoc pieces more rest))
with_pieces-twice pieces more (Err fault) = refl

-- ---- the same where a descriptor may still be read

pub some-unread : (memory : Memory) (wide : Bool) (limit left at : ℕ) (fault : ChainFault) → 0 < limit → read_at memory wide at ≡ Err fault
    → walked memory wide limit left at ≡ Err fault
some-unread memory wide zero left at fault some e = absurd (omega arith)
some-unread memory wide (suc n) left at fault some e = walked-unread memory wide n left at fault e

pub some-refused : (memory : Memory) (wide : Bool) (limit left at : ℕ) (desc : Xfer) (fault : ChainFault) → 0 < limit
    → read_at memory wide at ≡ Ok desc → left_after memory desc left ≡ Err fault → walked memory wide limit left at ≡ Err fault
some-refused memory wide zero left at desc fault some e f = absurd (omega arith)
some-refused memory wide (suc n) left at desc fault some e f = walked-refused memory wide n left at desc fault e f

pub some-end : (memory : Memory) (wide : Bool) (limit left at : ℕ) (desc : Xfer) (less : ℕ) → 0 < limit → read_at memory wide at ≡ Ok desc
    → left_after memory desc left ≡ Ok less → ends desc ≡ true
    → walked memory wide limit left at ≡ with_pieces (pieces_of (desc ∷ [])) (finish less)
some-end memory wide zero left at desc less some e f end = absurd (omega arith)
some-end memory wide (suc n) left at desc less some e f end =
    walked-after memory wide n left at desc less e f ∙ after-end desc less (walked memory wide n less (next wide at desc)) end

pub some-on : (memory : Memory) (wide : Bool) (limit n left at : ℕ) (desc : Xfer) (less : ℕ) → limit ≡ suc n → read_at memory wide at ≡ Ok desc
    → left_after memory desc left ≡ Ok less → ends desc ≡ false
    → walked memory wide limit left at ≡ with_pieces (pieces_of (desc ∷ [])) (walked memory wide n less (next wide at desc))
some-on memory wide limit n left at desc less some e f more =
    ap (λ l. walked memory wide l left at) some
    ∙ walked-after memory wide n left at desc less e f
    ∙ after-on desc less (walked memory wide n less (next wide at desc)) more

pub none-walked : (memory : Memory) (wide : Bool) (limit left at : ℕ) → limit ≡ 0 → walked memory wide limit left at ≡ Err TooMany
unfolding walked
none-walked memory wide limit left at none = ap (λ l. walked memory wide l left at) none

pub own-length : (desc : Xfer) → length (pieces_of (desc ∷ [])) ≤ 1
own-length (Transfer end int len at) = omega arith
own-length (Link to) = omega arith
own-length (Nop end) = omega arith
