-- The walk's answer is the chain's, and no other.
use Rattle.std.proofs.Common.{◌≡◌, ℕ, zero, suc, ◌+◌, ◌-◌, ◌≤◌, ◌<◌, inl, inr, Bool, true, false, cond, List, [], ◌∷◌, ◌++◌, length, refl, sym, ap, subst, ◌∙◌, arith, Ok, Err, append-nil}
use Rattle.std.specs.Prelude.{◌↔◌}
use Rattle.std.proofs.lemmas.List.Elements.{All-head, All-tail, All-cons}
use Rattle.std.proofs.lemmas.List.Sums.{sum_by-cons}
use Rattle.host_mem.specs.Memory.{Memory}
use Rattle.cq_desc.specs.declared.fault.DescFault.TheVariants as desc_fault
use Rattle.cq_desc.specs.declared.xfer.Xfer.{Xfer}
use Rattle.cq_desc.specs.declared.xfer.Xfer.TheVariants.{Piece as Transfer, Link, Nop}
use Rattle.cq_chain.specs.declared.pieces.Piece.{Piece}
use Rattle.cq_chain.specs.declared.fault.ChainFault.{ChainFault}
use Rattle.cq_chain.specs.declared.fault.ChainFault.TheVariants.{Hole, NotValid, BadAct, Long, Short, TooMany}
use Rattle.cq_chain.specs.Descriptors.{Reads, pieces_of, ends, next, bytes_in, AreInside}
use Rattle.cq_chain.specs.Chain.{Reaches, GoOn, HasPieces, Meets, HasFault}
use Rattle.cq_chain.specs.Steps.{read_at, left_after}
use Rattle.cq_chain.proofs.Readings.{HasPiece, IsUnread, ReadsSo, LeavesSo, no_elements, read_at-so, left_after-so, read_at-reads, read_at-outside, left_after-outside, left_after-long, left_after-fits, one_piece}
use Rattle.cq_chain.proofs.Walked.{Answer, bind, with_pieces, finish, short_finish, after, walked, walked-unread, walked-refused, walked-after, after-end, after-on}

-- ---- one descriptor more

abbrev own : Xfer → List Piece
own desc = pieces_of (desc ∷ [])

own-inside : (memory : Memory) (desc : Xfer) (descs : List Xfer) → AreInside memory (own desc) → AreInside memory (pieces_of descs)
    → AreInside memory (pieces_of (desc ∷ descs))
own-inside memory (Transfer end int len at) descs one rest =
    All-cons (HasPiece memory) (record { at = at; len = len }) (pieces_of descs) (All-head (HasPiece memory) (record { at = at; len = len }) [] one) rest
own-inside memory (Link to) descs one rest = rest
own-inside memory (Nop end) descs one rest = rest

inside-own : (memory : Memory) (desc : Xfer) (descs : List Xfer) → AreInside memory (pieces_of (desc ∷ descs)) → AreInside memory (own desc)
inside-own memory (Transfer end int len at) descs all =
    All-cons (HasPiece memory) (record { at = at; len = len }) [] (All-head (HasPiece memory) (record { at = at; len = len }) (pieces_of descs) all)
    (no_elements (HasPiece memory))
inside-own memory (Link to) descs all = no_elements (HasPiece memory)
inside-own memory (Nop end) descs all = no_elements (HasPiece memory)

inside-rest : (memory : Memory) (desc : Xfer) (descs : List Xfer) → AreInside memory (pieces_of (desc ∷ descs)) → AreInside memory (pieces_of descs)
inside-rest memory (Transfer end int len at) descs all = All-tail (HasPiece memory) (record { at = at; len = len }) (pieces_of descs) all
inside-rest memory (Link to) descs all = all
inside-rest memory (Nop end) descs all = all

own-bytes : (desc : Xfer) (descs : List Xfer) → bytes_in (pieces_of (desc ∷ descs)) ≡ bytes_in (own desc) + bytes_in (pieces_of descs)
own-bytes (Transfer end int len at) descs = omega (arith, sum_by-cons (λ (piece : Piece). piece.len) (record { at = at; len = len }) (pieces_of descs))
own-bytes (Link to) descs = omega arith
own-bytes (Nop end) descs = omega arith

own-pieces : (desc : Xfer) (descs : List Xfer) → pieces_of (desc ∷ descs) ≡ own desc ++ pieces_of descs
own-pieces (Transfer end int len at) descs = refl
own-pieces (Link to) descs = refl
own-pieces (Nop end) descs = refl

abbrev GoesOn : Xfer → Type 0
GoesOn desc = ends desc ≡ false

-- ---- what the walk answers is so

abbrev pub Answers : Memory → Bool → (limit at left : ℕ) → Answer → Type 0
Answers memory wide limit at left (Ok pieces) = HasPieces memory wide limit at left pieces
Answers memory wide limit at left (Err fault) = HasFault memory wide limit at left fault

fault_here : (memory : Memory) (wide : Bool) (limit at left : ℕ) (fault : ChainFault) → Meets memory wide limit left [] at fault
    → HasFault memory wide limit at left fault
unfolding Reaches
fault_here memory wide limit at left fault meets = record {
  before = [];
  to = at;
  reaches = refl;
  go_on = no_elements GoesOn;
  inside = no_elements (HasPiece memory);
  fits = omega arith;
  meets = meets;
}

unread_meets : (memory : Memory) (wide : Bool) (n at left : ℕ) (fault : ChainFault) → IsUnread memory wide at fault
    → Meets memory wide (suc n) left [] at fault
unread_meets memory wide n at left Hole h = (omega arith, inl h)
unread_meets memory wide n at left NotValid h = (omega arith, h)
unread_meets memory wide n at left BadAct h = (omega arith, h)
unread_meets memory wide n at left Long h = absurd h
unread_meets memory wide n at left Short h = absurd h
unread_meets memory wide n at left TooMany h = absurd h

refused_meets : (memory : Memory) (wide : Bool) (n at left : ℕ) (desc : Xfer) (fault : ChainFault) → Reads memory wide at (Ok desc)
    → LeavesSo memory desc left (Err fault) → Meets memory wide (suc n) left [] at fault
refused_meets memory wide n at left desc Hole reads h = (omega arith, inr (record { desc = desc; reads = reads; outside = h }))
refused_meets memory wide n at left desc Long reads h = (omega arith, record { desc = desc; reads = reads; inside = h.0; more = h.1 })
refused_meets memory wide n at left desc NotValid reads h = absurd h
refused_meets memory wide n at left desc BadAct reads h = absurd h
refused_meets memory wide n at left desc Short reads h = absurd h
refused_meets memory wide n at left desc TooMany reads h = absurd h

record Passes (memory : Memory) (wide : Bool) (at left less : ℕ) (desc : Xfer) : Type 0 where
  reads : Reads memory wide at (Ok desc)
  inside : AreInside memory (own desc)
  bytes : bytes_in (own desc) + less ≡ left

ended : (memory : Memory) (wide : Bool) (n at left less : ℕ) (desc : Xfer) → Passes memory wide at left less desc → ends desc ≡ true
    → Answers memory wide (suc n) at left (with_pieces (own desc) (finish less))
unfolding Reaches
ended memory wide n at left zero desc passes end = record {
  before = [];
  last = desc;
  to = next wide at desc;
  reaches = (passes.reads, refl);
  within = omega arith;
  go_on = no_elements GoesOn;
  end = end;
  transfers = append-nil (own desc);
  inside = rw append-nil passes.inside;
  wanted = rw append-nil (omega (arith, passes.bytes));
}
ended memory wide n at left (suc less) desc passes end =
    fault_here memory wide (suc n) at left Short
    (omega arith, record { desc = desc; reads = passes.reads; inside = passes.inside; end = end; less = omega (arith, passes.bytes) })

meets_on : (memory : Memory) (wide : Bool) (n left less : ℕ) (desc : Xfer) (before : List Xfer) (to : ℕ) (fault : ChainFault)
    → bytes_in (own desc) + less ≡ left → Meets memory wide n less before to fault → Meets memory wide (suc n) left (desc ∷ before) to fault
meets_on memory wide n left less desc before to TooMany bytes h = omega arith
meets_on memory wide n left less desc before to Hole bytes h = (omega (arith, h.0), h.1)
meets_on memory wide n left less desc before to NotValid bytes h = (omega (arith, h.0), h.1)
meets_on memory wide n left less desc before to BadAct bytes h = (omega (arith, h.0), h.1)
meets_on memory wide n left less desc before to Long bytes h =
    let long = h.1 in (
      omega (arith, h.0),
      record {
        desc = long.desc;
        reads = long.reads;
        inside = long.inside;
        more = omega (arith, bytes, long.more, own-bytes desc (before ++ long.desc ∷ []));
      },
    )
meets_on memory wide n left less desc before to Short bytes h =
    let short = h.1 in (
      omega (arith, h.0),
      record {
        desc = short.desc;
        reads = short.reads;
        inside = short.inside;
        end = short.end;
        less = omega (arith, bytes, short.less, own-bytes desc (before ++ short.desc ∷ []));
      },
    )

on : (memory : Memory) (wide : Bool) (n at left less : ℕ) (desc : Xfer) (answer : Answer) → Passes memory wide at left less desc
    → ends desc ≡ false → Answers memory wide n (next wide at desc) less answer
    → Answers memory wide (suc n) at left (with_pieces (own desc) answer)
unfolding Reaches
on memory wide n at left less desc (Ok pieces) passes more rest =
    let descs = rest.before ++ rest.last ∷ [] in
    let e : own desc ++ pieces ≡ pieces_of (desc ∷ descs) = ap (λ ps. own desc ++ ps) rest.transfers ∙ sym (own-pieces desc descs) in
    let inside : AreInside memory (pieces_of descs) = rw (← rest.transfers) rest.inside in
    let sum : bytes_in pieces ≡ bytes_in (pieces_of descs) = ap bytes_in rest.transfers in
    record {
      before = desc ∷ rest.before;
      last = rest.last;
      to = rest.to;
      reaches = (passes.reads, rest.reaches);
      within = omega (arith, rest.within);
      go_on = All-cons GoesOn desc rest.before more rest.go_on;
      end = rest.end;
      transfers = e;
      inside = rw e (own-inside memory desc descs passes.inside inside);
      wanted = ap bytes_in e ∙ own-bytes desc descs ∙ omega (arith, passes.bytes, rest.wanted, sum);
    }
on memory wide n at left less desc (Err fault) passes more rest = record {
  before = desc ∷ rest.before;
  to = rest.to;
  reaches = (passes.reads, rest.reaches);
  go_on = All-cons GoesOn desc rest.before more rest.go_on;
  inside = own-inside memory desc rest.before passes.inside rest.inside;
  fits = omega (arith, passes.bytes, rest.fits, own-bytes desc rest.before);
  meets = meets_on memory wide n left less desc rest.before rest.to fault passes.bytes rest.meets;
}

walked-so : (memory : Memory) (wide : Bool) (limit at left : ℕ) → Answers memory wide limit at left (walked memory wide limit left at)
unfolding walked
walked-so memory wide zero at left = fault_here memory wide zero at left TooMany refl
walked-so memory wide (suc n) at left =
    let rest = λ (desc : Xfer) (less : ℕ). walked memory wide n less (next wide at desc) in
    elim (read_at memory wide at) as (λ r. ReadsSo memory wide at r
    → Answers memory wide (suc n) at left (bind r (λ desc. bind (left_after memory desc left) (λ less. after desc less (rest desc less))))) [
      | Err fault ↦ λ h. fault_here memory wide (suc n) at left fault (unread_meets memory wide n at left fault h)
      | Ok desc ↦ λ reads. elim (left_after memory desc left) as (λ r. LeavesSo memory desc left r
          → Answers memory wide (suc n) at left (bind r (λ less. after desc less (rest desc less)))) [
            | Err fault ↦ λ h. fault_here memory wide (suc n) at left fault (refused_meets memory wide n at left desc fault reads h)
            | Ok less ↦ λ h.
                let passes : Passes memory wide at left less desc = record { reads = reads; inside = h.0; bytes = h.1 } in
                elim (ends desc) as (λ b. ends desc ≡ b
                → Answers memory wide (suc n) at left (with_pieces (own desc) (cond b (finish less) (rest desc less)))) [
                  | true ↦ λ e. ended memory wide n at left less desc passes e
                  | false ↦ λ e. on memory wide n at left less desc (rest desc less) passes e (walked-so memory wide n (next wide at desc) less)
                ]
                refl
          ]
          (left_after-so memory desc left)
    ]
    (read_at-so memory wide at)

-- ---- and no other

left_after-out : (memory : Memory) (desc : Xfer) (left : ℕ) → (AreInside memory (own desc) → ⊥) → left_after memory desc left ≡ Err Hole
left_after-out memory (Transfer end int len at) left none =
    left_after-outside memory end int len at left (λ range. none (one_piece memory (record { at = at; len = len }) range))
left_after-out memory (Link to) left none = absurd (none (no_elements (HasPiece memory)))
left_after-out memory (Nop end) left none = absurd (none (no_elements (HasPiece memory)))

left_after-more : (memory : Memory) (desc : Xfer) (left : ℕ) → AreInside memory (own desc) → left < bytes_in (own desc)
    → left_after memory desc left ≡ Err Long
left_after-more memory (Transfer end int len at) left inside more =
    left_after-long memory end int len at left (All-head (HasPiece memory) (record { at = at; len = len }) [] inside) (omega (arith, more))
left_after-more memory (Link to) left inside more = absurd (omega arith)
left_after-more memory (Nop end) left inside more = absurd (omega arith)

walked-passes : (memory : Memory) (wide : Bool) (n at left less : ℕ) (desc : Xfer) → Passes memory wide at left less desc
    → walked memory wide (suc n) left at ≡ after desc less (walked memory wide n less (next wide at desc))
walked-passes memory wide n at left less desc passes =
    walked-after memory wide n left at desc less (read_at-reads memory wide at (Ok desc) passes.reads)
    (left_after-fits memory desc left less passes.inside passes.bytes)

pieces_walked : (memory : Memory) (wide : Bool) (limit at left : ℕ) (before : List Xfer) (last : Xfer) (to : ℕ)
    → Reaches memory wide at (before ++ last ∷ []) to → length before < limit → GoOn before → ends last ≡ true
    → AreInside memory (pieces_of (before ++ last ∷ [])) → bytes_in (pieces_of (before ++ last ∷ [])) ≡ left
    → walked memory wide limit left at ≡ Ok (pieces_of (before ++ last ∷ []))
unfolding Reaches
pieces_walked memory wide zero at left before last to reaches within more end inside sum = absurd (omega arith)
pieces_walked memory wide (suc n) at left [] last to reaches within more end inside sum =
    walked-passes memory wide n at left 0 last (record { reads = reaches.0; inside = inside; bytes = omega (arith, sum) })
    ∙ after-end last 0 (walked memory wide n 0 (next wide at last)) end
    ∙ ap (λ ps. Ok ps) (append-nil (own last))
pieces_walked memory wide (suc n) at left (desc ∷ before) last to reaches within more end inside sum =
    let descs = before ++ last ∷ [] in
    let less = bytes_in (pieces_of descs) in
    let bytes : bytes_in (own desc) + less ≡ left = sym (own-bytes desc descs) ∙ sum in
    let fewer : length before < n = omega (arith, within) in
    walked-passes memory wide n at left less desc (record { reads = reaches.0; inside = inside-own memory desc descs inside; bytes = bytes })
    ∙ after-on desc less (walked memory wide n less (next wide at desc)) (All-head GoesOn desc before more)
    ∙ ap (with_pieces (own desc))
    (pieces_walked memory wide n (next wide at desc) less before last to reaches.1 fewer (All-tail GoesOn desc before more) end
    (inside-rest memory desc descs inside)
    refl)
    ∙ ap (λ ps. Ok ps) (sym (own-pieces desc descs))

fault_now : (memory : Memory) (wide : Bool) (limit at left : ℕ) (fault : ChainFault) → Meets memory wide limit left [] at fault
    → walked memory wide limit left at ≡ Err fault
unfolding walked
fault_now memory wide zero at left TooMany h = refl
fault_now memory wide zero at left Hole h = absurd (omega (arith, h.0))
fault_now memory wide zero at left NotValid h = absurd (omega (arith, h.0))
fault_now memory wide zero at left BadAct h = absurd (omega (arith, h.0))
fault_now memory wide zero at left Long h = absurd (omega (arith, h.0))
fault_now memory wide zero at left Short h = absurd (omega (arith, h.0))
fault_now memory wide (suc n) at left TooMany h = absurd (omega (arith, h))
fault_now memory wide (suc n) at left Hole h = elim h.1 [
  | inl none ↦ walked-unread memory wide n left at Hole (read_at-outside memory wide at none)
  | inr out ↦ walked-refused memory wide n left at out.desc Hole (read_at-reads memory wide at (Ok out.desc) out.reads)
      (left_after-out memory out.desc left out.outside)
]
fault_now memory wide (suc n) at left NotValid h =
    walked-unread memory wide n left at NotValid (read_at-reads memory wide at (Err desc_fault.NotValid) h.1)
fault_now memory wide (suc n) at left BadAct h =
    walked-unread memory wide n left at BadAct (read_at-reads memory wide at (Err desc_fault.BadAct) h.1)
fault_now memory wide (suc n) at left Long h =
    let long = h.1 in
    walked-refused memory wide n left at long.desc Long (read_at-reads memory wide at (Ok long.desc) long.reads)
    (left_after-more memory long.desc left long.inside long.more)
fault_now memory wide (suc n) at left Short h =
    let short = h.1 in
    let desc = short.desc in
    let less = left - bytes_in (own desc) in
    let bytes : bytes_in (own desc) + less ≡ left = omega (arith, short.less) in
    let some : 0 < less = omega (arith, short.less) in
    walked-passes memory wide n at left less desc (record { reads = short.reads; inside = short.inside; bytes = bytes })
    ∙ after-end desc less (walked memory wide n less (next wide at desc)) short.end
    ∙ ap (with_pieces (own desc)) (short_finish less (λ none. absurd (omega arith)))

meets_back : (memory : Memory) (wide : Bool) (n left less : ℕ) (desc : Xfer) (before : List Xfer) (to : ℕ) (fault : ChainFault)
    → bytes_in (own desc) + less ≡ left → Meets memory wide (suc n) left (desc ∷ before) to fault → Meets memory wide n less before to fault
meets_back memory wide n left less desc before to TooMany bytes h = omega (arith, h)
meets_back memory wide n left less desc before to Hole bytes h = (omega (arith, h.0), h.1)
meets_back memory wide n left less desc before to NotValid bytes h = (omega (arith, h.0), h.1)
meets_back memory wide n left less desc before to BadAct bytes h = (omega (arith, h.0), h.1)
meets_back memory wide n left less desc before to Long bytes h =
    let long = h.1 in (
      omega (arith, h.0),
      record {
        desc = long.desc;
        reads = long.reads;
        inside = long.inside;
        more = omega (arith, bytes, long.more, own-bytes desc (before ++ long.desc ∷ []));
      },
    )
meets_back memory wide n left less desc before to Short bytes h =
    let short = h.1 in (
      omega (arith, h.0),
      record {
        desc = short.desc;
        reads = short.reads;
        inside = short.inside;
        end = short.end;
        less = omega (arith, bytes, short.less, own-bytes desc (before ++ short.desc ∷ []));
      },
    )

meets-some : (memory : Memory) (wide : Bool) (left : ℕ) (desc : Xfer) (before : List Xfer) (to : ℕ) (fault : ChainFault)
    → Meets memory wide zero left (desc ∷ before) to fault → ⊥
meets-some memory wide left desc before to TooMany h = omega (arith, h)
meets-some memory wide left desc before to Hole h = omega (arith, h.0)
meets-some memory wide left desc before to NotValid h = omega (arith, h.0)
meets-some memory wide left desc before to BadAct h = omega (arith, h.0)
meets-some memory wide left desc before to Long h = omega (arith, h.0)
meets-some memory wide left desc before to Short h = omega (arith, h.0)

fault_walked : (memory : Memory) (wide : Bool) (limit at left : ℕ) (before : List Xfer) (to : ℕ) (fault : ChainFault)
    → Reaches memory wide at before to → GoOn before → AreInside memory (pieces_of before) → bytes_in (pieces_of before) ≤ left
    → Meets memory wide limit left before to fault → walked memory wide limit left at ≡ Err fault
unfolding Reaches
fault_walked memory wide limit at left [] to fault reaches more inside fits meets =
    let P : ℕ → Type 0 = λ a. Meets memory wide limit left [] a fault in
    fault_now memory wide limit at left fault (subst P (sym reaches) meets)
fault_walked memory wide zero at left (desc ∷ before) to fault reaches more inside fits meets =
    absurd (meets-some memory wide left desc before to fault meets)
fault_walked memory wide (suc n) at left (desc ∷ before) to fault reaches more inside fits meets =
    let less = left - bytes_in (own desc) in
    let bytes : bytes_in (own desc) + less ≡ left = omega (arith, fits, own-bytes desc before) in
    let enough : bytes_in (pieces_of before) ≤ less = omega (arith, fits, own-bytes desc before) in
    walked-passes memory wide n at left less desc (record { reads = reaches.0; inside = inside-own memory desc before inside; bytes = bytes })
    ∙ after-on desc less (walked memory wide n less (next wide at desc)) (All-head GoesOn desc before more)
    ∙ ap (with_pieces (own desc))
    (fault_walked memory wide n (next wide at desc) less before to fault reaches.1 (All-tail GoesOn desc before more)
    (inside-rest memory desc before inside)
    enough
    (meets_back memory wide n left less desc before to fault bytes meets))

-- ---- both together

pub pieces-exact : (memory : Memory) (wide : Bool) (limit at want : ℕ) (answer : Answer) → walked memory wide limit want at ≡ answer
    → (pieces : List Piece) → (answer ≡ Ok pieces) ↔ HasPieces memory wide limit at want pieces
pieces-exact memory wide limit at want answer is pieces = (
  λ e. subst (Answers memory wide limit at want) (is ∙ e) (walked-so memory wide limit at want),
  λ h. sym is
      ∙ pieces_walked memory wide limit at want h.before h.last h.to h.reaches h.within h.go_on h.end (rw (← h.transfers) h.inside)
      (sym (ap bytes_in h.transfers) ∙ h.wanted)
      ∙ ap (λ ps. Ok ps) (sym h.transfers),
)

pub fault-exact : (memory : Memory) (wide : Bool) (limit at want : ℕ) (answer : Answer) → walked memory wide limit want at ≡ answer
    → (fault : ChainFault) → (answer ≡ Err fault) ↔ HasFault memory wide limit at want fault
fault-exact memory wide limit at want answer is fault = (
  λ e. subst (Answers memory wide limit at want) (is ∙ e) (walked-so memory wide limit at want),
  λ h. sym is ∙ fault_walked memory wide limit at want h.before h.to fault h.reaches h.go_on h.inside h.fits h.meets,
)
