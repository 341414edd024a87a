-- What a block that moved leaves of contents, and of the data that was read.
use Rattle.std.proofs.Common.{◌≡◌, ◌≢◌, ◌<◌, ◌≤◌, ◌+◌, ◌++◌, ℕ, zero, suc, refl, sym, ◌∙◌, ap, subst, arith, zero-add, inl, inr}
use Rattle.std.specs.Prelude.{Bool, true, false, not, cond, Option, Some, None, IfSome, MatchOption, is_some, List, [], ◌∷◌, map}
use Rattle.std.specs.List.{range_with_len}
use Rattle.std.specs.Option.{option_map, option_map_or}
use Rattle.std.proofs.lemmas.Bool.{cases_lt, false≢true}
use Rattle.std.proofs.lemmas.Bool.Decides.{eqb_tells}
use Rattle.std.proofs.lemmas.List.FromFn.{map-range_with_len_more}
use Rattle.array_edge.specs.Array.{ArrayState}
use Rattle.card_core.specs.Card.{CardState}
use Rattle.card_core.specs.Moving.{next_put}
use Rattle.card_store.specs.Store.{Contents, Reads, with_put}
use Rattle.cq_engine.specs.Outcome.{Holding}
use Rattle.cq_regs.specs.Slots.{is_rung, progress_of}
use Rattle.cq_schedule.specs.Held.{held_at, slots, with_block}
use Rattle.drv_core.specs.State.{asks_notice}
use Rattle.drv_ring.specs.Asks.{HasBlocks, HoldsData}
use Rattle.drv_ring.specs.Changes.{KeepsTag}
use Rattle.drv_ring.specs.Layout.{IsTagOf}
use Rattle.drv_ring.specs.Pieces.{tag_pieces}
use Rattle.drv_ring.specs.Task.{read_desc, write_desc}
use Rattle.host_mem.specs.Memory.{Memory}
use Rattle.intent_store.specs.Intent.{shown_by}
use Rattle.piece_data.specs.Data.{block_of}
use Rattle.piece_data.specs.Laws.{ChangesBlock}
use Rattle.storage_machine.specs.Jobs.{is_read, phase_blocks, sector_of}
use Rattle.storage_model.specs.Contents.{contents_now, sector_at}
use Rattle.storage_model.specs.Plan.{block_at}
use Rattle.storage_model.specs.declared.block.Block.{Block}
use Rattle.storage_model.specs.declared.marks.Mark.{Mark}
use Rattle.storage_model.specs.declared.marks.Mark.TheVariants.{Put as PutMark}
use Rattle.storage_model.specs.declared.plan.Fill.{Fill}
use Rattle.storage_model.specs.declared.plan.Job.{Job}
use Rattle.storage_model.specs.declared.plan.Job.TheVariants.{Read, Write, Flush, Barrier, Status}
use Rattle.trace_effects.specs.Phases.{puts_of}
use Rattle.world_state.specs.Path.{PathState, holder, job, layout, moved, moved_by, plan_of, under_way}
use Rattle.world_state.specs.Reading.{Context, blocks_held, data_by, data_of, is_done}
use Rattle.image_form.specs.Image.{shown}
use Rattle.std.proofs.Common.{append_assoc, append-nil}
use Rattle.phase_laws.proofs.Tags.{of_some}
use Rattle.world_state.specs.Stands.{Agrees, HasReadSoFar, contents_of, marks_moved, marks_moved_by, puts_by}
use Rattle.world_state.specs.Ties.{AreTied, IsIssued, IsVacant}
use Rattle.phase_laws.proofs.Endings.{phase_of, tags_of}
use Rattle.phase_laws.proofs.Events.{InPhase}
use Rattle.phase_laws.proofs.Moves.{moved_is, way_is}
use Rattle.phase_laws.proofs.Parts.{path_with}

-- ---- the data of done reads

pub map_alike : {X : Type 0} (f g : ℕ → X) (from n : ℕ) → ((k : ℕ) → from ≤ k → k < from + n → f k ≡ g k)
    → map f (range_with_len from n) ≡ map g (range_with_len from n)
map_alike f g from zero alike = refl
map_alike f g from (suc n) alike =
    ap (λ x. x ∷ map f (range_with_len (from + 1) n)) (alike from (omega arith) (omega arith))
    ∙ ap (λ xs. g from ∷ xs) (map_alike f g (from + 1) n (λ k low high. alike k (omega arith) (omega arith)))

held_alike : (p : PathState) (m : Memory) (tag : ℕ) (j : Job) → HasBlocks j → IsTagOf (layout p) tag j → KeepsTag (layout p) tag p.memory m
    → (g : Holding) (c : CardState)
    → blocks_held (path_with p p.regs m g c p.script) tag j ≡ blocks_held p tag j
held_alike p m tag (Read sector blocks high) few fits keeps g c =
    map_alike (block_of m (tag_pieces (layout p) tag blocks)) (block_of p.memory (tag_pieces (layout p) tag blocks)) 0 blocks
    (λ k low high. keeps.data_held fits blocks k few.1 (omega arith))
held_alike p m tag (Write sector blocks fill forced reliable high) few fits keeps g c = refl
held_alike p m tag Flush few fits keeps g c = refl
held_alike p m tag Barrier few fits keeps g c = refl
held_alike p m tag Status few fits keeps g c = refl

data_alike : (p : PathState) (m : Memory) (g : Holding) (c : CardState) (tag : ℕ) (o : Option ℕ) → KeepsTag (layout p) tag p.memory m
    → MatchOption o (IsVacant p tag) (IsIssued p tag) → data_by (path_with p p.regs m g c p.script) tag o ≡ data_by p tag o
data_alike p m g c tag None keeps h = refl
data_alike p m g c tag (Some id) keeps h =
    ap (λ xs. cond (is_done p tag) xs []) (held_alike p m tag (job p id) h.asks.blocks_fit h.asks.tag_fits keeps g c)

not_done : (d : Bool) → true ≡ not d → d ≡ false
not_done true e = absurd (false≢true (sym e))
not_done false e = refl

undone_data : (p : PathState) (m : Memory) (g : Holding) (c : CardState) (tag : ℕ) (o : Option ℕ) → is_rung (progress_of p.regs.ring tag) ≡ true
    → MatchOption o (IsVacant p tag) (IsIssued p tag) → data_by (path_with p p.regs m g c p.script) tag o ≡ data_by p tag o
undone_data p m g c tag None rung h = refl
undone_data p m g c tag (Some id) rung h =
    let undone : is_done p tag ≡ false = not_done (is_done p tag) (sym rung ∙ h.rung) in
    ap (λ b. cond b (blocks_held (path_with p p.regs m g c p.script) tag (job p id)) []) undone
    ∙ sym (ap (λ b. cond b (blocks_held p tag (job p id)) []) undone)

-- a block of one slot leaves the data of the done reads
pub data_stays : (p : PathState) (m : Memory) (g : Holding) (c : CardState) (slot : ℕ) → AreTied p → InPhase p slot
    → ((tag : ℕ) → tag < 32 → tag ≢ slot → KeepsTag (layout p) tag p.memory m) → data_of (path_with p p.regs m g c p.script) ≡ data_of p
unfolding data_of slots
data_stays p m g c slot t i keeps =
    map_alike (λ tag. data_by (path_with p p.regs m g c p.script) tag (holder p tag)) (λ tag. data_by p tag (holder p tag)) 0 32
    (λ tag low high.
    let within : tag < 32 = omega arith in
    elim (eqb_tells tag slot) [
      | inl e ↦
          undone_data p m g c tag (holder p tag) (ap is_rung (ap (progress_of p.regs.ring) e.1 ∙ i.active)) (tags_of p t i.calm tag within)
      | inr e ↦ data_alike p m g c tag (holder p tag) (keeps tag within e.1) (tags_of p t i.calm tag within)
    ])

-- where the memory is as it was
pub same_data : (p : PathState) (m : Memory) (g : Holding) (c : CardState) → m ≡ p.memory → data_of (path_with p p.regs m g c p.script) ≡ data_of p
unfolding data_of
same_data p m g c e =
    let D : Memory → List (List Block) = λ x. map (λ tag. data_by (path_with p p.regs x g c p.script) tag (holder p tag)) slots in
    ap D e

-- ---- the marks

abbrev contents_with : List Block → List Mark → Contents
contents_with base pend = record { base = base; pend = pend }

pub marks_are : (p : PathState) (slot : ℕ) (i : InPhase p slot) → marks_moved p ≡ puts_by p i.h.moved (job p i.id)
marks_are p slot i =
    ap (λ w. marks_moved_by p w) (way_is p slot i)
    ∙ ap (λ o. option_map_or (λ id. puts_by p (moved p) (job p id)) o []) i.is_held
    ∙ ap (λ n. puts_by p n (job p i.id)) (moved_is p slot i)

pub marks_then : (p : PathState) (m : Memory) (g : Holding) (c : CardState) (slot : ℕ) (i : InPhase p slot) → held_at g.held slot ≡ Some (with_block i.h)
    → marks_moved (path_with p p.regs m g c p.script) ≡ puts_by p (i.h.moved + 1) (job p i.id)
marks_then p m g c slot i held =
    let q : PathState = path_with p p.regs m g c p.script in
    ap (λ w. marks_moved_by q w) (way_is p slot i)
    ∙ ap (λ o. option_map_or (λ id. puts_by p (moved q) (job p id)) o []) i.is_held
    ∙ ap (λ n. puts_by p n (job p i.id)) (ap (moved_by q) (way_is p slot i) ∙ ap (λ o. option_map_or (λ h. h.moved) o 0) held)

pub puts_more : (blocks : List Block) (sector : ℕ) (fill : Fill) (reliable : Bool) (count : ℕ)
    → puts_of blocks sector fill reliable (count + 1)
    ≡ puts_of blocks sector fill reliable count ++ PutMark (record { sector = sector + count; value = block_at blocks fill count; reliable = reliable }) ∷ []
unfolding puts_of
puts_more blocks sector fill reliable count =
    map-range_with_len_more (λ k. PutMark (record { sector = sector + k; value = block_at blocks fill k; reliable = reliable })) 0 count count (zero-add count)

-- a write's block goes behind the marks
pub write_contents : (p : PathState) (m : Memory) (g : Holding) (c : CardState) (slot : ℕ) (i : InPhase p slot) (sector blocks : ℕ) (fill : Fill)
    (forced reliable high : Bool) → job p i.id ≡ Write sector blocks fill forced reliable high
    → i.h.task ≡ record { desc = write_desc sector blocks forced reliable high (asks_notice (plan_of p) (job p i.id)); pieces = tag_pieces (layout p) slot blocks }
    → i.h.moved < blocks → held_at g.held slot ≡ Some (with_block i.h) → (k : Context)
    → contents_of (path_with p p.regs m g c p.script) k
    ≡ with_put (next_put (phase_of slot i.h) (block_of p.memory i.h.task.pieces i.h.moved)) (contents_of p k)
write_contents p m g c slot i sector blocks fill forced reliable high is task left held k =
    let J : Job → Type 0 = λ j. HoldsData p.memory (layout p) slot j (plan_of p).blocks in
    let data_held = subst J is i.data_held in
    let value : block_of p.memory i.h.task.pieces i.h.moved ≡ block_at (plan_of p).blocks fill i.h.moved =
    ap (λ t. block_of p.memory t.pieces i.h.moved) task ∙ data_held i.h.moved left in
    let put : next_put (phase_of slot i.h) (block_of p.memory i.h.task.pieces i.h.moved)
    ≡ record { sector = sector + i.h.moved; value = block_at (plan_of p).blocks fill i.h.moved; reliable = reliable } =
    ap (λ v. next_put (phase_of slot i.h) v) value
    ∙ ap (λ t. record { sector = t.desc.start + i.h.moved; value = block_at (plan_of p).blocks fill i.h.moved; reliable = t.desc.reliable }) task in
    let before : marks_moved p ≡ puts_of (plan_of p).blocks sector fill reliable i.h.moved = marks_are p slot i ∙ ap (puts_by p i.h.moved) is in
    let after : marks_moved (path_with p p.regs m g c p.script) ≡ marks_moved p ++ PutMark (next_put (phase_of slot i.h) (block_of p.memory i.h.task.pieces i.h.moved)) ∷ [] =
    marks_then p m g c slot i held ∙ ap (puts_by p (i.h.moved + 1)) is
    ∙ puts_more (plan_of p).blocks sector fill reliable i.h.moved
    ∙ ap (λ xs. xs ++ PutMark (record { sector = sector + i.h.moved; value = block_at (plan_of p).blocks fill i.h.moved; reliable = reliable }) ∷ []) (sym before)
    ∙ ap (λ x. marks_moved p ++ PutMark x ∷ []) (sym put) in
    ap (λ xs. contents_with k.base (k.pend ++ xs)) after
    ∙ ap (λ xs. contents_with k.base xs)
    (sym (append_assoc k.pend (marks_moved p) (PutMark (next_put (phase_of slot i.h) (block_of p.memory i.h.task.pieces i.h.moved)) ∷ [])))

-- a read leaves the contents as they were
pub read_contents : (p : PathState) (m : Memory) (g : Holding) (c : CardState) (slot : ℕ) (i : InPhase p slot) (sector blocks : ℕ) (high : Bool)
    → job p i.id ≡ Read sector blocks high → held_at g.held slot ≡ Some (with_block i.h) → (k : Context)
    → (contents_of (path_with p p.regs m g c p.script) k ≡ contents_of p k) × (contents_of p k ≡ contents_with k.base k.pend)
read_contents p m g c slot i sector blocks high is held k =
    let before : marks_moved p ≡ [] = marks_are p slot i ∙ ap (puts_by p i.h.moved) is in
    let after : marks_moved (path_with p p.regs m g c p.script) ≡ [] = marks_then p m g c slot i held ∙ ap (puts_by p (i.h.moved + 1)) is in (
      ap (λ xs. contents_with k.base (k.pend ++ xs)) (after ∙ sym before),
      ap (λ xs. contents_with k.base (k.pend ++ xs)) before ∙ ap (contents_with k.base) (append-nil k.pend),
    )

-- ---- what was read so far

abbrev pub SoFar : PathState → Context → ℕ → ℕ → Type 0
SoFar p c tag id =
    is_read (job p id) ≡ true → (k : ℕ) → k < moved p
    → block_of p.memory (tag_pieces (layout p) tag (phase_blocks (job p id))) k ≡ sector_at (contents_now c.base c.pend) (sector_of (job p id) + k)

read_value : (told : Option (List Block)) (value : Block) (s : ℕ) (base : List Block) (pend : List Mark) → is_some told ≡ true
    → IfSome (option_map shown told) (λ _. value ≡ sector_at (contents_now base pend) s) → value ≡ sector_at (contents_now base pend) s
read_value None value s base pend is h = absurd (false≢true is)
read_value (Some pages) value s base pend is h = h

pub read_so_far : (p : PathState) (a : ArrayState) (m : Memory) (g : Holding) (c : CardState) (slot : ℕ) (i : InPhase p slot) (sector blocks : ℕ) (high : Bool)
    (block : Block) → job p i.id ≡ Read sector blocks high
    → i.h.task ≡ record { desc = read_desc sector blocks high (asks_notice (plan_of p) (job p i.id)); pieces = tag_pieces (layout p) slot blocks }
    → held_at g.held slot ≡ Some (with_block i.h) → ChangesBlock i.h.task.pieces p.memory m i.h.moved block
    → Reads p.card.store a (i.h.task.desc.start + i.h.moved) block → (k : Context) → Agrees p a k
    → IfSome (under_way p) (HasReadSoFar (path_with p p.regs m g c p.script) k)
read_so_far p a m g c slot i sector blocks high block is task held change value k h =
    let q : PathState = path_with p p.regs m g c p.script in
    let W : Option ℕ → Type 0 = λ o. IfSome o (HasReadSoFar q k) in
    let H : Option ℕ → Type 0 = λ o. IfSome o (SoFar q k slot) in
    let so_far : HasReadSoFar p k slot = of_some (under_way p) slot (HasReadSoFar p k) (way_is p slot i) h.read in
    let was : SoFar p k slot i.id = of_some (holder p slot) i.id (SoFar p k slot) i.is_held so_far in
    let many : moved q ≡ i.h.moved + 1 = ap (moved_by q) (way_is p slot i) ∙ ap (λ o. option_map_or (λ h. h.moved) o 0) held in
    let pieces : i.h.task.pieces ≡ tag_pieces (layout p) slot (phase_blocks (job p i.id)) =
    ap (λ t. t.pieces) task ∙ sym (ap (λ j. tag_pieces (layout p) slot (phase_blocks j)) is) in
    let start : i.h.task.desc.start ≡ sector_of (job p i.id) = ap (λ t. t.desc.start) task ∙ sym (ap sector_of is) in
    let none = (read_contents p m g c slot i sector blocks high is held k).1 in
    let now : block ≡ sector_at (contents_now k.base k.pend) (i.h.task.desc.start + i.h.moved) =
    read_value a.told block (i.h.task.desc.start + i.h.moved) k.base k.pend h.told
    (subst (λ (x : Contents). IfSome (shown_by a) (λ _. block ≡ sector_at (contents_now x.base x.pend) (i.h.task.desc.start + i.h.moved))) none (value (contents_of p k) h.store)) in
    subst W (sym (way_is p slot i)) (subst H (sym i.is_held)
    (λ reads n less.
    let within : n < i.h.moved + 1 = subst (λ x. n < x) many less in
    elim (cases_lt n i.h.moved) [
      | inl low ↦
          let apart : n ≢ i.h.moved = λ e. absurd (omega (arith, e, low)) in
          let lower : n < moved p = subst (λ x. n < x) (sym (moved_is p slot i)) low in
          ap (λ ps. block_of m ps n) (sym pieces) ∙ change.others n apart ∙ ap (λ ps. block_of p.memory ps n) pieces ∙ was reads n lower
      | inr high ↦
          let here : n ≡ i.h.moved = omega arith in
          ap (λ x. block_of m (tag_pieces (layout p) slot (phase_blocks (job p i.id))) x) here
          ∙ ap (λ ps. block_of m ps i.h.moved) (sym pieces) ∙ change.this ∙ now
          ∙ ap (λ x. sector_at (contents_now k.base k.pend) (x + i.h.moved)) start
          ∙ ap (λ x. sector_at (contents_now k.base k.pend) (sector_of (job p i.id) + x)) (sym here)
    ]))
