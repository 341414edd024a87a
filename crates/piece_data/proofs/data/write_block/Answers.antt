use Rattle.std.proofs.Common.{◌≡◌, ◌*◌, length, ap, ◌∙◌, arith}
use Rattle.piece_data.specs.Data.{parts, scatter, with_block}
use Rattle.piece_data.proofs.Blocks.{blocks-changed, block-space, block-others}
use Rattle.piece_data.proofs.data.write_block.Goals as goal

written : (c : goal.After-scatter) → c.scatter.new.mem ≡ with_block c.args.mem.now c.args.pieces.now c.args.k c.args.block.now
unfolding with_block
written c =
    let long : length c.args.block.now.0 ≡ 512 = omega arith in
    c.scatter.ensures
    ∙ ap (λ n. scatter c.args.mem.now (parts c.args.pieces.now (512 * c.from.result) n) c.args.block.now.0) long
    ∙ ap (λ n. scatter c.args.mem.now (parts c.args.pieces.now (512 * n) 512) c.args.block.now.0) c.from.ensures

pub returns-clause-written : goal.returns-clause-written
returns-clause-written c = written c

pub returns-clause-space : goal.returns-clause-space
returns-clause-space c =
    rw (written c) (block-space c.args.mem.now c.args.pieces.now c.args.k c.args.block.now c.requires.inside)

pub returns-clause-others : goal.returns-clause-others
returns-clause-others c =
    rw (written c) (block-others c.args.mem.now c.args.pieces.now c.args.k c.args.block.now c.requires.inside)

pub returns-clause-blocks : goal.returns-clause-blocks
returns-clause-blocks c =
    let long : length c.args.block.now.0 ≡ 512 = omega arith in
    rw (written c) (blocks-changed c.args.mem.now c.args.pieces.now c.args.k c.args.block.now c.requires.inside c.requires.whole long)
