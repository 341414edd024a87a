use Rattle.std.proofs.Common.{◌≡◌, ℕ, length, ap, sym, subst, ◌∙◌, arith}
use Rattle.host_mem.specs.Memory.{HasRange, bytes_of}
use Rattle.storage_model.specs.declared.block.Block.{Block}
use Rattle.drv_ring.specs.Changes.{ChangesWithin, area}
use Rattle.drv_ring.proofs.Filled.{fill-none, block-inside, fill-more}
use Rattle.drv_ring.proofs.places.Layout.write_blocks.Goals as goal

pub loop-k-init : goal.loop-k-init
loop-k-init c = search (fill-none)

pub write_bytes-requires : goal.write_bytes-requires
write_bytes-requires c =
    let long : length c.block_of-block.result.0 ≡ 512 = omega arith in
    let P : ℕ → Type 0 = λ n. HasRange c.loop-k.mem c.block_at.result n in
    subst P (sym long)
    (block-inside c.args.self.now c.args.tag c.args.count c.loop-k.k c.loop-k.k c.block_at.result _ c.args.fill
    c.args.mem.now c.loop-k.mem c.requires.layout c.requires.tag c.loop-k.invariant
    (omega (arith, c.requires.few)) c.block_at.ensures)

pub loop-k-preserved : goal.loop-k-preserved
loop-k-preserved c =
    let long : length c.block_of-block.result.0 ≡ 512 = omega arith in
    let at = c.block_at.result in
    let new = c.write_bytes.new.mem in
    let P : ℕ → Type 0 = λ n. ChangesWithin (area at n) c.loop-k.mem new in
    fill-more c.args.self.now c.args.tag c.args.count c.loop-k.k at _ c.args.fill c.args.mem.now c.loop-k.mem new
    c.requires.layout c.requires.tag c.requires.few (omega arith) c.loop-k.invariant c.block_at.ensures
    (ap (bytes_of new at) (sym long) ∙ c.write_bytes.ensures.written ∙ ap (λ (b : Block). b.0) c.block_of-block.ensures)
    (subst P long c.write_bytes.ensures.within)
