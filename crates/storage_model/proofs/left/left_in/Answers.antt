use Rattle.std.proofs.Common.{◌∙◌, sym, arith}
use Rattle.storage_model.proofs.Cuts.{is_left_in-from, is_left_in-fails}
use Rattle.storage_model.proofs.left.left_in.Goals as goal

pub returns-then-not-mix_allows : goal.returns-then-not-mix_allows
returns-then-not-mix_allows c =
    sym (is_left_in-fails c.args.base.now c.args.pend.now c.args.after.now c.args.epoch c.loop-sector.sector (omega arith) (sym c.mix_allows.ensures ∙ c.if-not-mix_allows.true))

pub returns : goal.returns
returns c = sym (is_left_in-from c.args.base.now c.args.pend.now c.args.after.now c.args.epoch (λ s below. c.loop-sector.invariant s (omega arith)))
