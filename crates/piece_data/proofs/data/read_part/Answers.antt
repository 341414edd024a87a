use Rattle.std.proofs.Common.{◌∙◌, ◌+◌, length, arith}
use Rattle.piece_data.proofs.Ranges.{bytes_of-stopped}
use Rattle.piece_data.proofs.data.read_part.Goals as goal

pub returns : goal.returns
returns c =
    c.in-Ok.ensures.ok
    ∙ bytes_of-stopped c.args.mem.now (c.args.piece.now.at + c.args.skip) c.saturating_add-place.result (length c.args.to.now)
    (λ h. omega arith)
    c.in-Ok.ensures.below
