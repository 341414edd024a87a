use Rattle.std.proofs.Common.{refl}
use Rattle.std.proofs.Math.ListN.{replicate}
use Rattle.trace_text.proofs.ItemWords.{no_filled, filled_block}
use Rattle.trace_text.proofs.fields.filled.Goals as goal

pub returns-in_err-byte : goal.returns-in_err-byte
returns-in_err-byte c = rw c.from_residual.ensures (no_filled c.args.words c.in_err-byte.ensures)

pub returns : goal.returns
returns c =
    let whole = filled_block 512 c.in_ok-byte.byte (record { 0 = replicate 512 c.in_ok-byte.byte }) refl c.in_ok-byte.ensures.0 refl in
    (whole.0, rw c.in_ok-byte.ensures.1 whole.1)
