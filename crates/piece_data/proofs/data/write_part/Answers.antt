use Rattle.std.proofs.Common.{◌∙◌, ◌+◌, arith}
use Rattle.piece_data.proofs.Ranges.{with_bytes-stopped}
use Rattle.piece_data.proofs.data.write_part.Goals as goal

pub returns : goal.returns
returns c =
    c.in-Ok.ensures.ok
    ∙ with_bytes-stopped c.args.mem.now (c.args.piece.now.at + c.args.skip) c.saturating_add-place.result c.args.from.now
    (λ h. omega arith)
    c.in-Ok.ensures.below
