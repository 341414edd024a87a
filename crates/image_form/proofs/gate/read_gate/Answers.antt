use Rattle.std.proofs.Common.{◌≡◌, refl, sym, ap, ◌∙◌, arith, false, true, Some}
use Rattle.image_form.specs.Form.{gate_head, gate_number, gate_numbered}
use Rattle.image_form.proofs.Heads.{granule-first}
use Rattle.image_form.proofs.Forms.{IsGate-read, gate_numbered-number, gate_number-numbered}
use Rattle.image_form.proofs.gate.read_gate.Goals as goal

pub returns-then-number-sectors-clause-exact : goal.returns-then-number-sectors-clause-exact
returns-then-number-sectors-clause-exact c gate is =
    let e = IsGate-read c.args.block.now c.get32-number.result c.args.sectors _ (omega arith) (sym (granule-first c.args.block.now.0)) c.get32-number.ensures gate is in
    absurd (omega (arith, is.within))

pub returns-then-not-are_equal-clause-exact : goal.returns-then-not-are_equal-clause-exact
unfolding gate_head
returns-then-not-are_equal-clause-exact c gate is =
    let e = IsGate-read c.args.block.now c.get32-number.result c.args.sectors _ (omega arith) (sym (granule-first c.args.block.now.0)) c.get32-number.ensures gate is in
    let equal : false ≡ true =
    c.if-not-are_equal.ensures.1 (sym (granule-first c.args.block.now.0) ∙ is.head ∙ ap gate_head (sym e) ∙ sym c.write_head.ensures) in
    cc

pub returns-clause-some : goal.returns-clause-some
unfolding gate_head
returns-clause-some c =
    let number : gate_number c.gate_of.result ≡ c.get32-number.result =
    ap gate_number c.gate_of.ensures ∙ gate_number-numbered c.get32-number.result in
    record {
      head = granule-first c.args.block.now.0 ∙ c.if-not-are_equal.ensures.0 refl ∙ c.write_head.ensures ∙ ap gate_head (sym number);
      within = omega arith;
    }

pub returns-clause-exact : goal.returns-clause-exact
returns-clause-exact c gate is =
    let e = IsGate-read c.args.block.now c.get32-number.result c.args.sectors _ (omega arith) (sym (granule-first c.args.block.now.0)) c.get32-number.ensures gate is in
    ap Some (c.gate_of.ensures ∙ ap gate_numbered e ∙ gate_numbered-number gate)
