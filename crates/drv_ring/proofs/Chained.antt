-- The chain of a tag has the tag's pieces.
use Rattle.std.proofs.Common.{◌≡◌, ℕ, zero, suc, ◌+◌, ◌-◌, ◌*◌, ◌/◌, ◌%◌, ◌<◌, ◌≤◌, ◌==◌, Bool, true, false, List, [], ◌∷◌, ◌++◌, length, map, refl, sym, ap, subst, ◌∙◌, append_assoc, arith, Ok, eq-eqb}
use Rattle.std.specs.Prelude.{All}
use Rattle.std.specs.List.{range_with_len}
use Rattle.std.proofs.lemmas.Bool.{ne_eqb, eqb-true, both_ways}
use Rattle.std.proofs.lemmas.List.Elements.{All-nil, All-cons}
use Rattle.host_mem.specs.Memory.{Memory}
use Rattle.cq_desc.specs.declared.xfer.Xfer.{Xfer}
use Rattle.cq_desc.specs.declared.xfer.Xfer.TheVariants.{Link}
use Rattle.cq_chain.specs.declared.pieces.Piece.{Piece}
use Rattle.cq_chain.specs.declared.pieces.TheConstants.{LONGEST_CHAIN}
use Rattle.cq_chain.specs.Descriptors.{Reads, ends, pieces_of, size_of as descriptor_size}
use Rattle.cq_chain.specs.Chain.{Reaches, HasPieces}
use Rattle.cq_task.specs.declared.slot.TheConstants.{BLOCK_BYTES}
use Rattle.cq_task.specs.Place.{chain_of}
use Rattle.drv_ring.specs.declared.places.Layout.{Layout}
use Rattle.drv_ring.specs.Layout.{list_of, chunk_at, link_at, row_at, table_at, HasLayout}
use Rattle.drv_ring.specs.Pieces.{piece_count, piece_at, tag_pieces}
use Rattle.drv_ring.specs.Asks.{transfer_at, HasChain}
use Rattle.drv_ring.proofs.Inside.{link-is, row-first, row-next}
use Rattle.drv_ring.proofs.Pieced.{pieces-inside, pieces-length}

-- the link in front of a descriptor, where a chunk begins with it
abbrev gap_by : Bool → Layout → (tag k : ℕ) → List Xfer
gap_by true layout tag k = Link (chunk_at layout tag (k / 32)) ∷ []
gap_by false layout tag k = []

abbrev gap : Layout → (tag k : ℕ) → List Xfer
gap layout tag k = gap_by (k % 32 == 0) layout tag k

-- so many descriptors of pieces from one on, each with the link behind it
abbrev rows_before : Layout → (tag blocks s n : ℕ) → List Xfer
rows_before layout tag blocks s zero = []
rows_before layout tag blocks s (suc n) = transfer_at layout tag blocks s ∷ (gap layout tag (s + 1) ++ rows_before layout tag blocks (s + 1) n)

-- and that of piece m behind them
abbrev rows_to : Layout → (tag blocks s n m : ℕ) → List Xfer
rows_to layout tag blocks s zero m = transfer_at layout tag blocks m ∷ []
rows_to layout tag blocks s (suc n) m = transfer_at layout tag blocks s ∷ (gap layout tag (s + 1) ++ rows_to layout tag blocks (s + 1) n m)

rows-last : (layout : Layout) (tag blocks s n m : ℕ) → rows_before layout tag blocks s n ++ transfer_at layout tag blocks m ∷ [] ≡ rows_to layout tag blocks s n m
rows-last layout tag blocks s zero m = refl
rows-last layout tag blocks s (suc n) m =
    ap (λ (l : List Xfer). transfer_at layout tag blocks s ∷ l)
    (append_assoc (gap layout tag (s + 1)) (rows_before layout tag blocks (s + 1) n) (transfer_at layout tag blocks m ∷ [])
    ∙ ap (λ (l : List Xfer). gap layout tag (s + 1) ++ l) (rows-last layout tag blocks (s + 1) n m))

-- from the end of one descriptor to the next, over the link if there is one
over-gap : (memory : Memory) (layout : Layout) (tag blocks s : ℕ) (b : Bool) (descs : List Xfer) (to : ℕ) → (((s + 1) % 32) == 0) ≡ b
    → ((c : ℕ) → 32 * (c + 1) < piece_count blocks → Reads memory layout.wide (link_at layout tag c) (Ok (Link (chunk_at layout tag (c + 1)))))
    → s + 1 < piece_count blocks → Reaches memory layout.wide (row_at layout tag (s + 1)) descs to
    → Reaches memory layout.wide (row_at layout tag s + descriptor_size layout.wide) (gap_by b layout tag (s + 1) ++ descs) to
unfolding Reaches
over-gap memory layout tag blocks s true descs to e links more rest =
    let zeroth : (s + 1) % 32 ≡ 0 = eqb-true ((s + 1) % 32) 0 e in
    let next : s / 32 + 1 ≡ (s + 1) / 32 = omega arith in
    let at = link-is layout tag (s / 32) s (omega arith) in
    let At : ℕ → Type 0 = λ p. Reads memory layout.wide p (Ok (Link (chunk_at layout tag ((s + 1) / 32)))) in
    let To : ℕ → Type 0 = λ c. Reads memory layout.wide (link_at layout tag (s / 32)) (Ok (Link (chunk_at layout tag c))) in
    let From : ℕ → Type 0 = λ p. Reaches memory layout.wide p descs to in
    (subst At (sym at) (subst To next (links (s / 32) (omega arith))), subst From (row-first layout tag (s + 1) zeroth) rest)
over-gap memory layout tag blocks s false descs to e links more rest =
    let From : ℕ → Type 0 = λ p. Reaches memory layout.wide p descs to in
    subst From (row-next layout tag s (λ zeroth. both_ways ((s + 1) % 32 == 0) e (eq-eqb ((s + 1) % 32) 0 zeroth))) rest

reach-rows : (memory : Memory) (layout : Layout) (tag blocks s n m : ℕ) → m ≡ s + n → m < piece_count blocks → HasChain memory layout tag blocks
    → Reaches memory layout.wide (row_at layout tag s) (rows_to layout tag blocks s n m) (row_at layout tag m + descriptor_size layout.wide)
unfolding Reaches
reach-rows memory layout tag blocks s zero m e lt chain =
    let same : s ≡ m = omega arith in
    let Row : ℕ → Type 0 = λ p. Reads memory layout.wide p (Ok (transfer_at layout tag blocks m)) in
    (subst Row (ap (row_at layout tag) (sym same)) (chain.transfers m lt), ap (λ k. row_at layout tag k + descriptor_size layout.wide) same)
reach-rows memory layout tag blocks s (suc n) m e lt chain = (
  chain.transfers s (omega arith),
  over-gap memory layout tag blocks s ((s + 1) % 32 == 0) (rows_to layout tag blocks (s + 1) n m) (row_at layout tag m + descriptor_size layout.wide) refl chain.links (omega arith)
      (reach-rows memory layout tag blocks (s + 1) n m (omega arith) lt chain),
)

-- links have no piece
gap-pieces : (layout : Layout) (tag k : ℕ) (b : Bool) (descs : List Xfer) → pieces_of (gap_by b layout tag k ++ descs) ≡ pieces_of descs
gap-pieces layout tag k true descs = refl
gap-pieces layout tag k false descs = refl

row-pieces : (layout : Layout) (tag blocks s n m : ℕ) → m ≡ s + n
    → map (piece_at layout tag blocks) (range_with_len s (suc n)) ≡ pieces_of (rows_to layout tag blocks s n m)
row-pieces layout tag blocks s zero m e = let same : s ≡ m = omega arith in ap (λ k. piece_at layout tag blocks k ∷ []) same
row-pieces layout tag blocks s (suc n) m e =
    ap (λ (l : List Piece). piece_at layout tag blocks s ∷ l)
    (row-pieces layout tag blocks (s + 1) n m (omega arith) ∙ sym (gap-pieces layout tag (s + 1) ((s + 1) % 32 == 0) (rows_to layout tag blocks (s + 1) n m)))

abbrev GoesOn : Xfer → Type 0
GoesOn desc = ends desc ≡ false

gap-goes_on : (layout : Layout) (tag k : ℕ) (b : Bool) (descs : List Xfer) → All GoesOn descs → All GoesOn (gap_by b layout tag k ++ descs)
gap-goes_on layout tag k true descs all = All-cons GoesOn (Link (chunk_at layout tag (k / 32))) descs refl all
gap-goes_on layout tag k false descs all = all

-- no descriptor but the last has the end bit
rows-go_on : (layout : Layout) (tag blocks s n : ℕ) → s + n < piece_count blocks → All GoesOn (rows_before layout tag blocks s n)
rows-go_on layout tag blocks s zero lt = All-nil GoesOn
rows-go_on layout tag blocks s (suc n) lt =
    All-cons GoesOn (transfer_at layout tag blocks s) (gap layout tag (s + 1) ++ rows_before layout tag blocks (s + 1) n)
    (ne_eqb (s + 1) (piece_count blocks) (λ e. omega arith))
    (gap-goes_on layout tag (s + 1) ((s + 1) % 32 == 0) (rows_before layout tag blocks (s + 1) n) (rows-go_on layout tag blocks (s + 1) n (omega arith)))

length-gap : (layout : Layout) (tag k : ℕ) (b : Bool) (descs : List Xfer) → length (gap_by b layout tag k ++ descs) ≤ length descs + 1
length-gap layout tag k true descs = omega arith
length-gap layout tag k false descs = omega arith

length-rows : (layout : Layout) (tag blocks s n : ℕ) → length (rows_before layout tag blocks s n) ≤ 2 * n
length-rows layout tag blocks s zero = omega arith
length-rows layout tag blocks s (suc n) =
    let rest = length-rows layout tag blocks (s + 1) n in
    let one = length-gap layout tag (s + 1) ((s + 1) % 32 == 0) (rows_before layout tag blocks (s + 1) n) in
    omega arith

chain-reaches : (memory : Memory) (layout : Layout) (tag blocks m : ℕ) → m + 1 ≡ piece_count blocks → HasChain memory layout tag blocks
    → Reaches memory layout.wide (chain_of (list_of layout) tag)
    (Link (table_at layout tag) ∷ (rows_before layout tag blocks 0 m ++ transfer_at layout tag blocks m ∷ []))
    (row_at layout tag m + descriptor_size layout.wide)
unfolding Reaches
chain-reaches memory layout tag blocks m e chain =
    let to = row_at layout tag m + descriptor_size layout.wide in
    let rows = rows_before layout tag blocks 0 m ++ transfer_at layout tag blocks m ∷ [] in
    let row : Reaches memory layout.wide (row_at layout tag 0) (rows_to layout tag blocks 0 m m) to = reach-rows memory layout tag blocks 0 m m (omega arith) (omega arith) chain in
    let From : ℕ → Type 0 = λ at. Reaches memory layout.wide at rows to in
    let start : row_at layout tag 0 ≡ table_at layout tag = omega arith in
    let Rows : List Xfer → Type 0 = λ descs. Reaches memory layout.wide (row_at layout tag 0) descs to in
    (chain.link, subst From start (subst Rows (sym (rows-last layout tag blocks 0 m m)) row))

chain-transfers : (layout : Layout) (tag blocks m : ℕ) → m + 1 ≡ piece_count blocks
    → tag_pieces layout tag blocks ≡ pieces_of (rows_before layout tag blocks 0 m ++ transfer_at layout tag blocks m ∷ [])
unfolding tag_pieces
chain-transfers layout tag blocks m e =
    let count : piece_count blocks ≡ suc m = omega arith in
    ap (λ n. map (piece_at layout tag blocks) (range_with_len 0 n)) count
    ∙ row-pieces layout tag blocks 0 m m (omega arith)
    ∙ ap pieces_of (sym (rows-last layout tag blocks 0 m m))

pub chain-pieces : (memory : Memory) (layout : Layout) (tag blocks : ℕ) → HasLayout memory layout → tag < layout.depth
    → 1 ≤ blocks → blocks ≤ 1024 → HasChain memory layout tag blocks
    → HasPieces memory layout.wide LONGEST_CHAIN (chain_of (list_of layout) tag) (blocks * BLOCK_BYTES) (tag_pieces layout tag blocks)
chain-pieces memory layout tag blocks held lt some few chain =
    let n = piece_count blocks in
    let m = n - 1 in
    let e : m + 1 ≡ n = omega arith in
    let row = rows_before layout tag blocks 0 m in
    let link = Link (table_at layout tag) in
    record {
      before = link ∷ row;
      last = transfer_at layout tag blocks m;
      to = row_at layout tag m + descriptor_size layout.wide;
      reaches = chain-reaches memory layout tag blocks m e chain;
      within = omega (arith, length-rows layout tag blocks 0 m);
      go_on = All-cons GoesOn link row refl (rows-go_on layout tag blocks 0 m (omega arith));
      end = eq-eqb (m + 1) n e;
      transfers = chain-transfers layout tag blocks m e;
      inside = pieces-inside memory layout tag blocks held lt few;
      wanted = pieces-length layout tag blocks ∙ omega arith;
    }
