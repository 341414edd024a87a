-- The data that the end of a read shows.
use Rattle.std.proofs.Common.{◌≡◌, ◌≢◌, ◌<◌, ◌≤◌, ◌+◌, ℕ, refl, sym, ◌∙◌, ap, subst, arith, inl, inr}
use Rattle.std.specs.Prelude.{Bool, true, false, cond, Option, Some, None, List, [], length, map, slice_set, slice_range}
use Rattle.std.specs.List.{range_with_len}
use Rattle.std.proofs.lemmas.Bool.Decides.{eqb_tells}
use Rattle.array_edge.specs.Array.{ArrayState}
use Rattle.bus_link.specs.Script.{Script}
use Rattle.card_core.specs.Card.{CardState}
use Rattle.cq_engine.specs.Outcome.{Holding}
use Rattle.cq_regs.specs.Slots.{has_bit}
use Rattle.cq_regs.specs.State.{Registers}
use Rattle.cut_order.specs.Order.{OrderState}
use Rattle.drv_core.specs.State.{asks_notice}
use Rattle.drv_ring.specs.Pieces.{tag_pieces}
use Rattle.drv_ring.specs.Task.{read_desc}
use Rattle.piece_data.specs.Data.{block_of}
use Rattle.storage_machine.specs.Jobs.{is_read, phase_blocks, sector_of}
use Rattle.storage_machine.specs.declared.state.State.{State}
use Rattle.storage_model.proofs.Appends.{length-contents_now}
use Rattle.storage_model.specs.Contents.{contents_now, sector_at}
use Rattle.storage_model.specs.Plan.{blocks_of}
use Rattle.storage_model.specs.declared.block.Block.{Block}
use Rattle.storage_model.specs.declared.plan.Job.{Job}
use Rattle.storage_model.specs.declared.plan.Job.TheVariants.{Read}
use Rattle.trace_effects.specs.Phases.{data_with, read_sectors, sectors_now}
use Rattle.world_state.specs.Path.{PathState, holder, job, layout, moved, plan_of, under_way}
use Rattle.world_state.specs.Reading.{Context, blocks_held, data_by, data_of, is_done, state_of}
use Rattle.world_state.specs.Stands.{Agrees, HasReadSoFar}
use Rattle.phase_laws.proofs.Events.{InPhase}
use Rattle.phase_laws.proofs.FinishState.{Completed, done_apart}
use Rattle.phase_laws.proofs.Jobs.{DataJob, reads, writes}
use Rattle.phase_laws.proofs.Moves.{moved_is, way_is}
use Rattle.phase_laws.proofs.Orders.{data_same, data_set, sectors_so}
use Rattle.phase_laws.proofs.Parts.{path_with}
use Rattle.phase_laws.proofs.SetUps.{done_same}
use Rattle.phase_laws.proofs.Stopping.{in_contents}
use Rattle.phase_laws.proofs.Tags.{of_some}
use Rattle.phase_laws.proofs.Tolds.{SoFar}

none_both : (b : Bool) → ◌≡◌ {A = List Block} (cond b [] []) []
none_both true = refl
none_both false = refl

-- the slot's own
own_data : (p : PathState) (slot : ℕ) (i : InPhase p slot) (r : Registers) (g : Holding) (c : CardState) (s : Script) → Completed p slot i r
    → data_by (path_with p r p.memory g c s) slot (holder p slot) ≡ blocks_held p slot (job p i.id)
own_data p slot i r g c s d =
    ap (data_by (path_with p r p.memory g c s) slot) i.is_held
    ∙ ap (λ b. cond b (blocks_held p slot (job p i.id)) []) (ap (λ n. has_bit n slot) d.completes.completed ∙ done_same p.regs.completed slot)

-- another's
far_data : (p : PathState) (r : Registers) (g : Holding) (c : CardState) (s : Script) (tag : ℕ) (o : Option ℕ)
    → has_bit r.completed tag ≡ has_bit p.regs.completed tag → data_by (path_with p r p.memory g c s) tag o ≡ data_by p tag o
far_data p r g c s tag None e = refl
far_data p r g c s tag (Some id) e = ap (λ b. cond b (blocks_held p tag (job p id)) []) e

-- a write has none
write_data : (p : PathState) (slot : ℕ) (i : InPhase p slot) (r : Registers) (g : Holding) (c : CardState) (s : Script) → Completed p slot i r
    → is_read (job p i.id) ≡ false → data_of (path_with p r p.memory g c s) ≡ data_of p
write_data p slot i r g c s d is =
    let q : PathState = path_with p r p.memory g c s in
    data_same p q
    (λ tag within.
    elim (eqb_tells tag slot) [
      | inl e ↦
          let none : blocks_held p slot (job p i.id) ≡ [] = bare p slot (job p i.id) is in
          let D : ℕ → Type 0 = λ n. data_by q n (holder p n) ≡ data_by p n (holder p n) in
          subst D (sym e.1)
          (own_data p slot i r g c s d ∙ none ∙ sym (none_both (is_done p slot))
          ∙ sym (ap (λ (xs : List Block). cond (is_done p slot) xs []) none) ∙ sym (ap (data_by p slot) i.is_held))
      | inr e ↦ far_data p r g c s tag (holder p tag) (done_apart p slot i r d tag e.1)
    ])
  where
    bare : (p : PathState) (slot : ℕ) (j : Job) → is_read j ≡ false → blocks_held p slot j ≡ []
    bare p slot j none =
        ap (λ b. cond b (map (block_of p.memory (tag_pieces (layout p) slot (blocks_of j))) (range_with_len 0 (blocks_of j))) []) none

-- the sectors of a read
read_data : (p : PathState) (a : ArrayState) (slot : ℕ) (i : InPhase p slot) (k : Context) (sector blocks : ℕ) (high : Bool) → job p i.id ≡ Read sector blocks high
    → blocks ≤ i.h.moved → Agrees p a k
    → blocks_held p slot (Read sector blocks high) ≡ slice_range (contents_now k.base k.pend) sector (sector + blocks)
read_data p a slot i k sector blocks high is all h =
    let xs : List Block = contents_now k.base k.pend in
    let so_far : HasReadSoFar p k slot = of_some (under_way p) slot (HasReadSoFar p k) (way_is p slot i) h.read in
    let was : SoFar p k slot i.id = of_some (holder p slot) i.id (SoFar p k slot) i.is_held so_far in
    let J : Job → Type 0 =
    λ j. is_read j ≡ true → (n : ℕ) → n < moved p
    → block_of p.memory (tag_pieces (layout p) slot (phase_blocks j)) n ≡ sector_at xs (sector_of j + n) in
    let B : Job → Type 0 = λ j. sector_of j + blocks_of j ≤ length k.base in
    let each = subst J is was refl in
    let inside : sector + blocks ≤ length k.base = subst B is (in_contents p a slot i k h) in
    let long = length-contents_now k.base k.pend in
    let many = moved_is p slot i in
    sectors_so (block_of p.memory (tag_pieces (layout p) slot blocks)) xs sector blocks (omega (arith, inside, long))
    (λ n less. each n (omega (arith, less, all, many)))

pub data_done : (p : PathState) (a : ArrayState) (slot : ℕ) (i : InPhase p slot) (r : Registers) (g : Holding) (c : CardState) (s : Script) (o : OrderState)
    (k : Context) → DataJob (layout p) slot (job p i.id) (asks_notice (plan_of p) (job p i.id)) i.h.task → Completed p slot i r
    → i.h.task.desc.blocks ≤ i.h.moved → Agrees p a k
    → data_of (path_with p r p.memory g c s) ≡ data_with (state_of p o k) slot (job p i.id) (read_sectors (state_of p o k) (job p i.id))
unfolding state_of sectors_now
data_done p a slot i r g c s o k (reads sector blocks high is task) d all h =
    let q : PathState = path_with p r p.memory g c s in
    let b : State = state_of p o k in
    let few : blocks ≤ i.h.moved = subst (λ n. n ≤ i.h.moved) (ap (λ v. v.desc.blocks) task) all in
    data_set p q slot (slice_range (contents_now k.base k.pend) sector (sector + blocks)) i.below
    (own_data p slot i r g c s d ∙ ap (blocks_held p slot) is ∙ read_data p a slot i k sector blocks high is few h)
    (λ tag within apart. far_data p r g c s tag (holder p tag) (done_apart p slot i r d tag apart))
    ∙ sym (ap (λ j. data_with b slot j (read_sectors b j)) is)
data_done p a slot i r g c s o k (writes sector blocks fill forced reliable high is task) d all h =
    let b : State = state_of p o k in
    write_data p slot i r g c s d (ap is_read is) ∙ sym (ap (λ j. data_with b slot j (read_sectors b j)) is)
