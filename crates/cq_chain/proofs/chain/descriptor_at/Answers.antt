use Rattle.std.proofs.Common.{sym, ap, ◌∙◌, Ok, Err, refl}
use Rattle.std.proofs.lemmas.Bool.{false≢true}
use Rattle.std.proofs.lemmas.Result.{err_from_is_err_and}
use Rattle.cq_desc.specs.declared.fault.DescFault.{DescFault}
use Rattle.cq_desc.specs.declared.fault.DescFault.TheVariants.{NotValid, BadAct}
use Rattle.cq_chain.proofs.Readings.{wide-reads, narrow-reads, read_at-no_low, read_at-no_high}
use Rattle.cq_chain.proofs.chain.descriptor_at.Goals as goal
use Rattle.cq_chain.proofs.chain.descriptor_at.Goals.{then-wide+in_ok-high, else-wide}

pub returns-in_err-low-clause-value : goal.returns-in_err-low-clause-value
returns-in_err-low-clause-value c =
    let p = err_from_is_err_and c.from_residual.result c.from_residual.ensures.1 in
    let h = c.in_err-low.ensures in
    rw (p.1, p.2, h.hole) (sym (read_at-no_low c.args.mem.now c.args.wide c.args.at (λ range. false≢true (h.inside.1 range))))

pub returns-in_err-high-clause-value : goal.returns-in_err-high-clause-value
returns-in_err-high-clause-value c =
    let p = err_from_is_err_and c.from_residual-in_err-high.result c.from_residual-in_err-high.ensures.1 in
    let h = c.in_err-high.ensures in
    rw (p.1, p.2, h.hole) (sym (read_at-no_high c.args.mem.now c.args.wide c.args.at c.if-wide.true (λ range. false≢true (h.inside.1 range))))

pub returns-in-Ok-clause-value : goal.returns-in-Ok-clause-value
returns-in-Ok-clause-value c = elim c.if-wide.branch [
  | then-wide+in_ok-high w ↦ wide-reads c.args.mem.now c.args.wide c.args.at c.in_ok-low.low c.if-wide.high w.if-wide.true
      (c.in_ok-low.ensures.inside.0 refl) (w.in_ok-high.ensures.inside.0 refl) c.in_ok-low.ensures.value (w.high-is ∙ w.in_ok-high.ensures.value)
      (Ok c.in-Ok.desc) c.in-Ok.ensures.value
  | else-wide w ↦ narrow-reads c.args.mem.now c.args.wide c.args.at c.in_ok-low.low c.if-wide.high w.if-wide.false
      (c.in_ok-low.ensures.inside.0 refl) c.in_ok-low.ensures.value w.high-is
      (Ok c.in-Ok.desc) c.in-Ok.ensures.value
]

pub returns-in-Err-NotValid-clause-value : goal.returns-in-Err-NotValid-clause-value
returns-in-Err-NotValid-clause-value c = elim c.if-wide.branch [
  | then-wide+in_ok-high w ↦ wide-reads c.args.mem.now c.args.wide c.args.at c.in_ok-low.low c.if-wide.high w.if-wide.true
      (c.in_ok-low.ensures.inside.0 refl) (w.in_ok-high.ensures.inside.0 refl) c.in_ok-low.ensures.value (w.high-is ∙ w.in_ok-high.ensures.value)
      (Err NotValid) (ap (λ (f : DescFault). Err f) (sym c.in-Err-NotValid.field-0-is) ∙ c.in-Err-NotValid.ensures.value)
  | else-wide w ↦ narrow-reads c.args.mem.now c.args.wide c.args.at c.in_ok-low.low c.if-wide.high w.if-wide.false
      (c.in_ok-low.ensures.inside.0 refl) c.in_ok-low.ensures.value w.high-is
      (Err NotValid) (ap (λ (f : DescFault). Err f) (sym c.in-Err-NotValid.field-0-is) ∙ c.in-Err-NotValid.ensures.value)
]

pub returns-in-Err-BadAct-clause-value : goal.returns-in-Err-BadAct-clause-value
returns-in-Err-BadAct-clause-value c = elim c.if-wide.branch [
  | then-wide+in_ok-high w ↦ wide-reads c.args.mem.now c.args.wide c.args.at c.in_ok-low.low c.if-wide.high w.if-wide.true
      (c.in_ok-low.ensures.inside.0 refl) (w.in_ok-high.ensures.inside.0 refl) c.in_ok-low.ensures.value (w.high-is ∙ w.in_ok-high.ensures.value)
      (Err BadAct) (ap (λ (f : DescFault). Err f) (sym c.in-Err-BadAct.field-0-is) ∙ c.in-Err-BadAct.ensures.value)
  | else-wide w ↦ narrow-reads c.args.mem.now c.args.wide c.args.at c.in_ok-low.low c.if-wide.high w.if-wide.false
      (c.in_ok-low.ensures.inside.0 refl) c.in_ok-low.ensures.value w.high-is
      (Err BadAct) (ap (λ (f : DescFault). Err f) (sym c.in-Err-BadAct.field-0-is) ∙ c.in-Err-BadAct.ensures.value)
]
