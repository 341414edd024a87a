use Rattle.std.proofs.Common.{◌≡◌, ℕ, List, length, sym, ap, subst, ◌∙◌, true≢false, arith}
use Rattle.host_mem.specs.Memory.{HasRange, bytes_of}
use Rattle.storage_model.specs.declared.block.Block.{Block}
use Rattle.drv_ring.proofs.Pieced.{block_of-pieces}
use Rattle.drv_ring.proofs.Scattered.{block-held}
use Rattle.drv_ring.proofs.places.Layout.read_block.Goals as goal

abbrev made : List ℕ → Block
made bytes = record { 0 = bytes }

pub returns : goal.returns
returns c = λ blocks lt few.
    let long : length c.args.block.now.0 ≡ 512 = omega arith in
    ap made (c.in-Ok.ensures.ok
    ∙ ap (bytes_of c.args.mem.now c.block_at.result) long
    ∙ ap (λ at. bytes_of c.args.mem.now at 512) c.block_at.ensures)
    ∙ sym (block_of-pieces c.args.mem.now c.args.self.now c.args.tag blocks c.args.k c.requires.layout c.requires.tag few lt)

pub unreachable-requires : goal.unreachable-requires
unreachable-requires c =
    let long : length c.args.block.now.0 ≡ 512 = omega arith in
    let Long : ℕ → Type 0 = λ n. HasRange c.args.mem.now c.block_at.result n in
    let At : ℕ → Type 0 = λ at. HasRange c.args.mem.now at 512 in
    let held = block-held c.args.mem.now c.args.self.now c.args.tag c.args.k c.requires.layout c.requires.tag c.requires.within in
    true≢false (sym (c.in-Err.ensures.inside.1 (subst Long (sym long) (subst At (sym c.block_at.ensures) held))))
