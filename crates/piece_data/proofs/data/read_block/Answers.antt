use Rattle.std.proofs.Common.{◌≡◌, ◌*◌, List, ℕ, length, take, drop, ap, ◌∙◌, arith}
use Rattle.storage_model.specs.declared.block.Block.{Block}
use Rattle.piece_data.specs.Data.{block_of, bytes_at}
use Rattle.piece_data.proofs.data.read_block.Goals as goal

abbrev made : List ℕ → Block
made bytes = record { 0 = bytes }

pub returns : goal.returns
unfolding block_of
returns c =
    let long : length c.args.block.now.0 ≡ 512 = omega arith in
    ap made (c.gather.ensures
    ∙ ap (λ n. take n (drop (512 * c.from.result) (bytes_at c.args.mem.now c.args.pieces.now))) long
    ∙ ap (λ n. take 512 (drop (512 * n) (bytes_at c.args.mem.now c.args.pieces.now))) c.from.ensures)
