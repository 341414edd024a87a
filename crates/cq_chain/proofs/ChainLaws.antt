-- What is known of the pieces of a chain.
use Rattle.std.proofs.Common.{◌≡◌, ℕ, ◌+◌, ◌≤◌, Bool, List, [], ◌∷◌, ◌++◌, length, sym, ap, subst, arith, Ok}
use Rattle.std.proofs.lemmas.List.Elements.{All-head, All-cons}
use Rattle.host_mem.specs.Memory.{Memory}
use Rattle.cq_desc.specs.declared.xfer.Xfer.{Xfer}
use Rattle.cq_desc.specs.declared.xfer.Xfer.TheVariants.{Piece as Transfer, Link, Nop}
use Rattle.cq_chain.specs.declared.pieces.Piece.{Piece}
use Rattle.cq_chain.specs.Descriptors.{Reads, descriptor_at, next, pieces_of, AreNotEmpty}
use Rattle.cq_chain.specs.Chain.{Reaches, HasPieces}
use Rattle.cq_chain.proofs.Readings.{read-some, no_elements}

pieces_of-length : (descs : List Xfer) → length (pieces_of descs) ≤ length descs
pieces_of-length [] = omega arith
pieces_of-length (Transfer end int len at ∷ descs) = let h = pieces_of-length descs in omega (arith, h)
pieces_of-length (Link to ∷ descs) = let h = pieces_of-length descs in omega (arith, h)
pieces_of-length (Nop end ∷ descs) = let h = pieces_of-length descs in omega (arith, h)

length-last : (before : List Xfer) (last : Xfer) → length (before ++ last ∷ []) ≡ length before + 1
length-last [] last = omega arith
length-last (desc ∷ before) last = let h = length-last before last in omega (arith, h)

-- there are no more pieces than descriptors
pub pieces-few : (memory : Memory) (wide : Bool) (limit at want : ℕ) (pieces : List Piece) → HasPieces memory wide limit at want pieces
    → length pieces ≤ limit
pieces-few memory wide limit at want pieces h =
    let descs = h.before ++ h.last ∷ [] in
    let few = pieces_of-length descs in
    omega (arith, h.within, few, length-last h.before h.last, ap length h.transfers)

abbrev HasBytes : Piece → Type 0
HasBytes piece = 1 ≤ piece.len

joined : (desc : Xfer) (descs : List Xfer) → AreNotEmpty (pieces_of (desc ∷ [])) → AreNotEmpty (pieces_of descs)
    → AreNotEmpty (pieces_of (desc ∷ descs))
joined (Transfer end int len at) descs one rest =
    All-cons HasBytes (record { at = at; len = len }) (pieces_of descs) (All-head HasBytes (record { at = at; len = len }) [] one) rest
joined (Link to) descs one rest = rest
joined (Nop end) descs one rest = rest

read-not_empty : (memory : Memory) (wide : Bool) (at : ℕ) (desc : Xfer) → Reads memory wide at (Ok desc) → AreNotEmpty (pieces_of (desc ∷ []))
unfolding descriptor_at
read-not_empty memory wide at desc reads = read-some _ _ wide desc reads.value

reached-not_empty : (memory : Memory) (wide : Bool) (at : ℕ) (descs : List Xfer) (to : ℕ) → Reaches memory wide at descs to
    → AreNotEmpty (pieces_of descs)
unfolding Reaches
reached-not_empty memory wide at [] to reaches = no_elements HasBytes
reached-not_empty memory wide at (desc ∷ descs) to reaches =
    joined desc descs (read-not_empty memory wide at desc reaches.0) (reached-not_empty memory wide (next wide at desc) descs to reaches.1)

-- and none is empty
pub pieces-not_empty : (memory : Memory) (wide : Bool) (limit at want : ℕ) (pieces : List Piece) → HasPieces memory wide limit at want pieces
    → AreNotEmpty pieces
pieces-not_empty memory wide limit at want pieces h =
    subst AreNotEmpty (sym h.transfers) (reached-not_empty memory wide at (h.before ++ h.last ∷ []) h.to h.reaches)
