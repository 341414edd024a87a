-- What the layers above need of a tag's pieces: a write into them leaves what every slot asks for and what the other tags hold.
use Rattle.std.proofs.Common.{◌≡◌, ◌≢◌, ℕ, ◌+◌, ◌*◌, ◌<◌, ◌≤◌, Bool, List, ◌∷◌, false, ◌∙◌, arith}
use Rattle.std.proofs.lemmas.List.Elements.{All-tail}
use Rattle.host_mem.specs.Memory.{Memory, HasRange, bytes_of}
use Rattle.storage_model.specs.declared.block.Block.{Block}
use Rattle.storage_model.specs.declared.plan.Fill.TheVariants.{Same}
use Rattle.storage_model.specs.declared.plan.Job.{Job}
use Rattle.storage_model.specs.declared.plan.Job.TheVariants.{Read, Write, Flush, Barrier, Status}
use Rattle.cq_chain.specs.declared.pieces.Piece.{Piece}
use Rattle.cq_chain.specs.Descriptors.{size_of as descriptor_size}
use Rattle.cq_task.specs.Place.{place_of, chain_of}
use Rattle.piece_data.specs.Data.{parts}
use Rattle.piece_data.specs.Laws.{HasSameSpace, IsApart, KeepsOthers}
use Rattle.piece_data.proofs.Kept.{parts-apart}
use Rattle.drv_ring.specs.declared.places.Layout.{Layout}
use Rattle.drv_ring.specs.Layout.{list_of, HasLayout, IsTagOf}
use Rattle.drv_ring.specs.Pieces.{tag_pieces}
use Rattle.drv_ring.specs.Asks.{Asks, HasBlocks, HoldsData}
use Rattle.drv_ring.specs.Changes.{ChangesAmong, KeepsTag, area, slot_area, table_area}
use Rattle.drv_ring.proofs.Changed.{word-same}
use Rattle.drv_ring.proofs.Inside.{slot-inside, table-inside, part-of, slot-ends, size-some}
use Rattle.drv_ring.proofs.Scattered.{low-apart}
use Rattle.drv_ring.proofs.Others.{SameWords, asks-kept, others-kept}

-- the engine writes bytes of a tag's data within its pieces
pub parts-among : (layout : Layout) (tag blocks first len : ℕ) (old new : Memory) → HasSameSpace old new
    → KeepsOthers (parts (tag_pieces layout tag blocks) first len) old new → ChangesAmong (tag_pieces layout tag blocks) old new
parts-among layout tag blocks first len old new space others = record {
  space = space;
  others = λ range has apart. others range has (parts-apart range (tag_pieces layout tag blocks) first len apart);
}

low-bytes : (layout : Layout) (tag blocks at n : ℕ) (old new : Memory) → ChangesAmong (tag_pieces layout tag blocks) old new
    → HasRange old at n → at + n ≤ layout.base + 131072 → bytes_of new at n ≡ bytes_of old at n
low-bytes layout tag blocks at n old new change has low = change.others (area at n) has (low-apart layout tag blocks (area at n) low)

same-words : (layout : Layout) (tag other blocks : ℕ) (old new : Memory) → HasLayout old layout → other < 32
    → ChangesAmong (tag_pieces layout tag blocks) old new → SameWords layout other old new
same-words layout tag other blocks old new held lt change =
    let size = descriptor_size layout.wide in
    let depth = held.depth in
    let at = place_of (list_of layout) other in
    let chain = chain_of (list_of layout) other in
    let some = size-some layout in
    let ends = slot-ends layout other lt in
    let slot = slot-inside old layout other held lt in
    record {
      first = word-same old new at (low-bytes layout tag blocks at 8 old new change (part-of old at (2 * size) at 8 slot (omega arith) (omega arith)) (omega arith));
      second = low-bytes layout tag blocks chain size old new change (part-of old at (2 * size) chain size slot (omega arith) (omega arith)) (omega arith);
      table = λ low place n from upto. low-bytes layout tag blocks place n old new change (table-inside old layout other place n held low from upto) (omega arith);
    }

-- a change within a tag's pieces leaves what every slot asks for, its own too
pub moved-asks : (layout : Layout) (tag other blocks : ℕ) (job : Job) (int : Bool) (old new : Memory) → HasLayout old layout → other < 32
    → ChangesAmong (tag_pieces layout tag blocks) old new → Asks old layout other job int → Asks new layout other job int
moved-asks layout tag other blocks job int old new held lt change asks =
    asks-kept layout other job int old new held change.space (same-words layout tag other blocks old new held lt change) asks

-- and what the other tags hold
pub moved-keeps : (layout : Layout) (tag other blocks : ℕ) (old new : Memory) → HasLayout old layout → tag < layout.depth → other < 32 → other ≢ tag
    → ChangesAmong (tag_pieces layout tag blocks) old new → KeepsTag layout other old new
moved-keeps layout tag other blocks old new held lt less apart change =
    others-kept layout tag other (Write 0 blocks (Same 0) false false false) old new
    (record {
      held = held;
      fits = lt;
      space = change.space;
      others = λ range has all.
          let P : Piece → Type 0 = IsApart range in
          let rest = All-tail P (slot_area layout tag) (table_area layout tag ∷ tag_pieces layout tag blocks) all in
          change.others range has (All-tail P (table_area layout tag) (tag_pieces layout tag blocks) rest);
    })
    less apart

-- what a write is to write is still there
pub data-kept : (layout : Layout) (tag : ℕ) (job : Job) (listed : List Block) (old new : Memory) → KeepsTag layout tag old new
    → IsTagOf layout tag job → HasBlocks job → HoldsData old layout tag job listed → HoldsData new layout tag job listed
data-kept layout tag (Read sector blocks high) listed old new keeps fits few held = held
data-kept layout tag (Write sector blocks fill forced reliable high) listed old new keeps fits few held = λ k lt.
    keeps.data_held fits blocks k few.1 lt ∙ held k lt
data-kept layout tag Flush listed old new keeps fits few held = held
data-kept layout tag Barrier listed old new keeps fits few held = held
data-kept layout tag Status listed old new keeps fits few held = held

-- and after one change and the next
pub keeps-more : (layout : Layout) (tag : ℕ) (old middle new : Memory) → KeepsTag layout tag old middle → KeepsTag layout tag middle new
    → KeepsTag layout tag old new
keeps-more layout tag old middle new first second = record {
  job = λ job int asks. second.job job int (first.job job int asks);
  data_held = λ lt blocks k few less. second.data_held lt blocks k few less ∙ first.data_held lt blocks k few less;
}
