-- The chain from an address: its pieces, or what is wrong with it. JESD84-B51, annex B.
use Rattle.std.specs.Prelude.{◌≡◌, ◌<◌, ◌≤◌, ℕ, ◌⊎◌, Bool, true, false, List, [], ◌∷◌, ◌++◌, length, All, Ok, Err}
use Rattle.host_mem.specs.Memory.{Memory, HasRange}
use Rattle.cq_desc.specs.declared.fault.DescFault.TheVariants as desc_fault
use Rattle.cq_desc.specs.declared.xfer.Xfer.{Xfer}
use Rattle.cq_chain.specs.declared.pieces.Piece.{Piece}
use Rattle.cq_chain.specs.declared.fault.ChainFault.{ChainFault}
use Rattle.cq_chain.specs.declared.fault.ChainFault.TheVariants.{Hole, NotValid, BadAct, Long, Short, TooMany}
use Rattle.cq_chain.specs.Descriptors.{size_of, Reads, pieces_of, ends, next, bytes_in, AreInside}

-- the most descriptors of a chain
abbrev pub longest_chain : ℕ
longest_chain = 512

-- these descriptors stand in the memory one after the other from an address on, links followed, and then the chain goes on at `to`
unfoldable pub Reaches : Memory → Bool → (at : ℕ) → List Xfer → (to : ℕ) → Type 0
Reaches memory wide at [] to = at ≡ to
Reaches memory wide at (desc ∷ descs) to = Reads memory wide at (Ok desc) × Reaches memory wide (next wide at desc) descs to

abbrev pub GoOn : List Xfer → Type 0
GoOn descs = All (λ desc. ends desc ≡ false) descs

-- the chain ends at its first end bit, within so many descriptors; its transfers are the pieces, which are in the memory and as
-- long as is wanted
pub record HasPieces (memory : Memory) (wide : Bool) (limit at want : ℕ) (pieces : List Piece) : Type 0 where
  pub before : List Xfer
  pub last : Xfer
  pub to : ℕ
  pub reaches : Reaches memory wide at (before ++ last ∷ []) to
  pub within : length before < limit
  pub go_on : GoOn before
  pub end : ends last ≡ true
  pub transfers : pieces ≡ pieces_of (before ++ last ∷ [])
  pub inside : AreInside memory pieces
  pub wanted : bytes_in pieces ≡ want

-- the piece of the next descriptor isn't in the memory
pub record IsOutside (memory : Memory) (wide : Bool) (to : ℕ) : Type 0 where
  pub desc : Xfer
  pub reads : Reads memory wide to (Ok desc)
  pub outside : ¬ AreInside memory (pieces_of (desc ∷ []))

-- with the next descriptor the pieces are longer than is wanted
pub record IsLong (memory : Memory) (wide : Bool) (want : ℕ) (before : List Xfer) (to : ℕ) : Type 0 where
  pub desc : Xfer
  pub reads : Reads memory wide to (Ok desc)
  pub inside : AreInside memory (pieces_of (desc ∷ []))
  pub more : want < bytes_in (pieces_of (before ++ desc ∷ []))

-- the next descriptor is the last, and the pieces are shorter than is wanted
pub record IsShort (memory : Memory) (wide : Bool) (want : ℕ) (before : List Xfer) (to : ℕ) : Type 0 where
  pub desc : Xfer
  pub reads : Reads memory wide to (Ok desc)
  pub inside : AreInside memory (pieces_of (desc ∷ []))
  pub end : ends desc ≡ true
  pub less : bytes_in (pieces_of (before ++ desc ∷ [])) < want

-- what is wrong after these descriptors, at the address where the chain goes on
abbrev pub Meets : Memory → Bool → (limit want : ℕ) → List Xfer → (to : ℕ) → ChainFault → Type 0
Meets memory wide limit want before to TooMany = length before ≡ limit
Meets memory wide limit want before to Hole = (length before < limit) × ((¬ HasRange memory to (size_of wide)) ⊎ IsOutside memory wide to)
Meets memory wide limit want before to NotValid = (length before < limit) × Reads memory wide to (Err desc_fault.NotValid)
Meets memory wide limit want before to BadAct = (length before < limit) × Reads memory wide to (Err desc_fault.BadAct)
Meets memory wide limit want before to Long = (length before < limit) × IsLong memory wide want before to
Meets memory wide limit want before to Short = (length before < limit) × IsShort memory wide want before to

-- the descriptors before the fault are good: none ends the chain, their pieces are in the memory and no longer than is wanted
pub record HasFault (memory : Memory) (wide : Bool) (limit at want : ℕ) (fault : ChainFault) : Type 0 where
  pub before : List Xfer
  pub to : ℕ
  pub reaches : Reaches memory wide at before to
  pub go_on : GoOn before
  pub inside : AreInside memory (pieces_of before)
  pub fits : bytes_in (pieces_of before) ≤ want
  pub meets : Meets memory wide limit want before to fault
