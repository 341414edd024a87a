use Rattle.std.proofs.Common.{sym, ◌∙◌, ◌≢◌, arith}
use Rattle.cq_words.specs.Table.{number_in}
use Rattle.cq_desc.specs.Fields.{ACT, ACT_TRANSFER, ACT_LINK, ACT_NOP}
use Rattle.cq_desc.proofs.TransferLaws.{not_valid-reads, piece-reads, link-reads, nop-reads, bad_act-reads, piece-holds, link-holds, nop-holds, high-held}
use Rattle.cq_desc.proofs.xfer.read_xfer.Goals as goal

pub returns-then-not-is_set-clause-value : goal.returns-then-not-is_set-clause-value
returns-then-not-is_set-clause-value c =
    sym (not_valid-reads c.args.low c.args.high c.args.wide (sym c.is_set.ensures ∙ c.if-not-is_set.true))

pub returns-in-4-clause-value : goal.returns-in-4-clause-value
returns-in-4-clause-value c =
    rw (c.is_set-in-4.ensures, c.is_set-in-4-2.ensures, c.length_in.ensures, c.address_in-at.ensures)
    (sym (piece-reads c.args.low c.args.high c.args.wide (sym c.is_set.ensures ∙ c.if-not-is_set.false) (sym c.get.ensures.value ∙ c.in-4.is)))

pub returns-in-4-clause-table : goal.returns-in-4-clause-table
returns-in-4-clause-table c =
    rw (c.is_set-in-4.ensures, c.is_set-in-4-2.ensures, c.length_in.ensures, c.address_in-at.ensures)
    (piece-holds c.args.low c.args.high c.args.wide (sym c.is_set.ensures ∙ c.if-not-is_set.false) (sym c.get.ensures.value ∙ c.in-4.is))

pub returns-in-4-clause-high : goal.returns-in-4-clause-high
returns-in-4-clause-high c wide = rw c.address_in-at.ensures (high-held c.args.low c.args.high c.args.wide wide, tt)

pub returns-in-6-clause-value : goal.returns-in-6-clause-value
returns-in-6-clause-value c =
    rw c.address_in-at.ensures
    (sym (link-reads c.args.low c.args.high c.args.wide (sym c.is_set.ensures ∙ c.if-not-is_set.false) (sym c.get.ensures.value ∙ c.in-6.is)))

pub returns-in-6-clause-table : goal.returns-in-6-clause-table
returns-in-6-clause-table c =
    rw c.address_in-at.ensures
    (link-holds c.args.low c.args.high c.args.wide (sym c.is_set.ensures ∙ c.if-not-is_set.false) (sym c.get.ensures.value ∙ c.in-6.is))

pub returns-in-6-clause-high : goal.returns-in-6-clause-high
returns-in-6-clause-high c wide = rw c.address_in-at.ensures (high-held c.args.low c.args.high c.args.wide wide, tt)

pub returns-in-0-clause-value : goal.returns-in-0-clause-value
returns-in-0-clause-value c =
    rw c.is_set-in-0.ensures
    (sym (nop-reads c.args.low c.args.high c.args.wide (sym c.is_set.ensures ∙ c.if-not-is_set.false) (sym c.get.ensures.value ∙ c.in-0.is)))

pub returns-in-0-clause-table : goal.returns-in-0-clause-table
returns-in-0-clause-table c =
    rw c.is_set-in-0.ensures
    (nop-holds c.args.low (sym c.is_set.ensures ∙ c.if-not-is_set.false) (sym c.get.ensures.value ∙ c.in-0.is))

pub returns-in_default-clause-value : goal.returns-in_default-clause-value
returns-in_default-clause-value c =
    let transfer : number_in c.args.low ACT ≢ ACT_TRANSFER = λ e. absurd (omega (arith, c.get.ensures.value, e)) in
    let link : number_in c.args.low ACT ≢ ACT_LINK = λ e. absurd (omega (arith, c.get.ensures.value, e)) in
    let nop : number_in c.args.low ACT ≢ ACT_NOP = λ e. absurd (omega (arith, c.get.ensures.value, e)) in
    sym (bad_act-reads c.args.low c.args.high c.args.wide (sym c.is_set.ensures ∙ c.if-not-is_set.false) transfer link nop)
