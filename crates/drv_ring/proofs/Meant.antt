-- A slot asks for a job where its first word and what stands behind it are the job's.
use Rattle.std.proofs.Common.{◌*◌, ◌≡◌, ℕ, ◌<◌, ◌≤◌, inl, inr, Bool, false, true, sym, subst, arith, Result, Ok, eq-eqb}
use Rattle.std.specs.Bool.{MatchBool}
use Rattle.std.proofs.lemmas.Bool.{ne_eqb}
use Rattle.host_mem.specs.Memory.{Memory}
use Rattle.storage_model.specs.declared.plan.Job.{Job}
use Rattle.storage_model.specs.declared.plan.Job.TheVariants.{Read, Write, Flush, Barrier, Status}
use Rattle.cq_desc.specs.declared.task.TaskDesc.{TaskDesc}
use Rattle.cq_desc.specs.declared.direct.DirectDesc.{DirectDesc}
use Rattle.cq_desc.specs.Task.{task_read}
use Rattle.cq_desc.specs.Direct.{direct_read}
use Rattle.cq_chain.specs.Descriptors.{size_of as descriptor_size}
use Rattle.cq_task.specs.declared.slot.SlotTask.{SlotTask}
use Rattle.cq_task.specs.declared.slot.SlotTask.TheVariants.{Direct}
use Rattle.cq_task.specs.declared.slot.DropCause.{DropCause}
use Rattle.cq_task.specs.Place.{chain_of, first_word, is_direct, place_of}
use Rattle.cq_task.specs.Meaning.{HasFirst, Means, MeansData, MeansDirect}
use Rattle.drv_ring.specs.declared.places.Layout.{Layout}
use Rattle.drv_ring.specs.declared.task.TheConstants.{FLUSH_CACHE, SET_BARRIER}
use Rattle.drv_ring.specs.Layout.{list_of, HasLayout, IsTagOf}
use Rattle.drv_ring.specs.Task.{read_desc, write_desc, switch_desc, status_desc, data_task}
use Rattle.drv_ring.specs.Asks.{Asks, HasBlocks, HasChain, HasRest}
use Rattle.drv_ring.proofs.Inside.{slot-inside, part-of, slot-ends}
use Rattle.drv_ring.proofs.Chained.{chain-pieces}

-- the first word of a slot reads as the job's descriptor
abbrev pub HasWord : Memory → Layout → ℕ → Job → Bool → Type 0
HasWord memory layout tag (Read sector blocks high) int =
    task_read (first_word memory (list_of layout) tag) ≡ Ok (read_desc sector blocks high int)
HasWord memory layout tag (Write sector blocks fill forced reliable high) int =
    task_read (first_word memory (list_of layout) tag) ≡ Ok (write_desc sector blocks forced reliable high int)
HasWord memory layout tag Flush int = direct_read (first_word memory (list_of layout) tag) ≡ Ok (switch_desc FLUSH_CACHE int)
HasWord memory layout tag Barrier int = direct_read (first_word memory (list_of layout) tag) ≡ Ok (switch_desc SET_BARRIER int)
HasWord memory layout tag Status int = direct_read (first_word memory (list_of layout) tag) ≡ Ok (status_desc int)

first-inside : (memory : Memory) (layout : Layout) (tag : ℕ) → HasLayout memory layout → tag < 32 → HasFirst memory (list_of layout) tag
first-inside memory layout tag held lt =
    let at = place_of (list_of layout) tag in
    let size = descriptor_size layout.wide in
    let ends = slot-ends layout tag lt in
    record {
      below = omega (arith, held.below);
      inside = part-of memory at (2 * size) at size (slot-inside memory layout tag held lt) (omega arith) (omega arith);
    }

data_slot : (layout : Layout) (tag : ℕ) → tag < 31 → is_direct (list_of layout) tag ≡ false
data_slot layout tag lt = ne_eqb tag 31 (λ e. omega arith)

direct_slot : (layout : Layout) (tag : ℕ) → tag ≡ 31 → is_direct (list_of layout) tag ≡ true
direct_slot layout tag e = eq-eqb tag 31 e

data-means : (memory : Memory) (layout : Layout) (tag : ℕ) (desc : TaskDesc) → HasLayout memory layout → tag < layout.depth
    → 1 ≤ desc.blocks → desc.blocks ≤ 1024 → task_read (first_word memory (list_of layout) tag) ≡ Ok desc
    → HasChain memory layout tag desc.blocks → Means memory (list_of layout) tag (Ok (data_task layout tag desc))
data-means memory layout tag desc held lt some few word chain =
    let answer : Result SlotTask DropCause = Ok (data_task layout tag desc) in
    let first = first_word memory (list_of layout) tag in
    let at = chain_of (list_of layout) tag in
    let P : Bool → Type 0 = λ b. MatchBool b (MeansDirect first answer) (MeansData memory layout.wide first at answer) in
    inr (
      first-inside memory layout tag held (omega (arith, held.depth)),
      subst P (sym (data_slot layout tag (omega (arith, held.depth)))) (word, chain-pieces memory layout tag desc.blocks held lt some few chain),
    )

direct-means : (memory : Memory) (layout : Layout) (tag : ℕ) (desc : DirectDesc) → HasLayout memory layout → tag ≡ 31
    → direct_read (first_word memory (list_of layout) tag) ≡ Ok desc → Means memory (list_of layout) tag (Ok (Direct desc))
direct-means memory layout tag desc held e word =
    let answer : Result SlotTask DropCause = Ok (Direct desc) in
    let first = first_word memory (list_of layout) tag in
    let at = chain_of (list_of layout) tag in
    let P : Bool → Type 0 = λ b. MatchBool b (MeansDirect first answer) (MeansData memory layout.wide first at answer) in
    inr (first-inside memory layout tag held (omega arith), subst P (sym (direct_slot layout tag e)) word)

pub asks-from : (memory : Memory) (layout : Layout) (tag : ℕ) (job : Job) (int : Bool) → HasLayout memory layout → IsTagOf layout tag job
    → HasBlocks job → HasWord memory layout tag job int → HasRest memory layout tag job → Asks memory layout tag job int
asks-from memory layout tag (Read sector blocks high) int held fits few word rest = record {
  tag_fits = fits;
  blocks_fit = few;
  means = data-means memory layout tag (read_desc sector blocks high int) held fits few.0 few.1 word rest;
  rest = rest;
}
asks-from memory layout tag (Write sector blocks fill forced reliable high) int held fits few word rest = record {
  tag_fits = fits;
  blocks_fit = few;
  means = data-means memory layout tag (write_desc sector blocks forced reliable high int) held fits few.0 few.1 word rest;
  rest = rest;
}
asks-from memory layout tag Flush int held fits few word rest = record {
  tag_fits = fits;
  blocks_fit = few;
  means = direct-means memory layout tag (switch_desc FLUSH_CACHE int) held fits word;
  rest = rest;
}
asks-from memory layout tag Barrier int held fits few word rest = record {
  tag_fits = fits;
  blocks_fit = few;
  means = direct-means memory layout tag (switch_desc SET_BARRIER int) held fits word;
  rest = rest;
}
asks-from memory layout tag Status int held fits few word rest = record {
  tag_fits = fits;
  blocks_fit = few;
  means = direct-means memory layout tag (status_desc int) held fits word;
  rest = rest;
}

means-data : (memory : Memory) (layout : Layout) (tag : ℕ) (desc : TaskDesc) → tag < 31
    → Means memory (list_of layout) tag (Ok (data_task layout tag desc)) → task_read (first_word memory (list_of layout) tag) ≡ Ok desc
means-data memory layout tag desc lt means =
    let answer : Result SlotTask DropCause = Ok (data_task layout tag desc) in
    let first = first_word memory (list_of layout) tag in
    let at = chain_of (list_of layout) tag in
    let P : Bool → Type 0 = λ b. MatchBool b (MeansDirect first answer) (MeansData memory layout.wide first at answer) in
    elim means [
      | inl none ↦ let e = none.1 in cc
      | inr some ↦ (subst P (data_slot layout tag lt) some.1).0
    ]

means-direct : (memory : Memory) (layout : Layout) (tag : ℕ) (desc : DirectDesc) → tag ≡ 31
    → Means memory (list_of layout) tag (Ok (Direct desc)) → direct_read (first_word memory (list_of layout) tag) ≡ Ok desc
means-direct memory layout tag desc is means =
    let answer : Result SlotTask DropCause = Ok (Direct desc) in
    let first = first_word memory (list_of layout) tag in
    let at = chain_of (list_of layout) tag in
    let P : Bool → Type 0 = λ b. MatchBool b (MeansDirect first answer) (MeansData memory layout.wide first at answer) in
    elim means [
      | inl none ↦ let e = none.1 in cc
      | inr some ↦ subst P (direct_slot layout tag is) some.1
    ]

pub asks-word : (memory : Memory) (layout : Layout) (tag : ℕ) (job : Job) (int : Bool) → layout.depth ≤ 31
    → Asks memory layout tag job int → HasWord memory layout tag job int
asks-word memory layout tag (Read sector blocks high) int h asks =
    let lt = asks.tag_fits in means-data memory layout tag (read_desc sector blocks high int) (omega arith) asks.means
asks-word memory layout tag (Write sector blocks fill forced reliable high) int h asks =
    let lt = asks.tag_fits in means-data memory layout tag (write_desc sector blocks forced reliable high int) (omega arith) asks.means
asks-word memory layout tag Flush int h asks = means-direct memory layout tag (switch_desc FLUSH_CACHE int) asks.tag_fits asks.means
asks-word memory layout tag Barrier int h asks = means-direct memory layout tag (switch_desc SET_BARRIER int) asks.tag_fits asks.means
asks-word memory layout tag Status int h asks = means-direct memory layout tag (status_desc int) asks.tag_fits asks.means
