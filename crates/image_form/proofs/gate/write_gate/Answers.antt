use Rattle.std.proofs.Common.{ap, ◌∙◌}
use Rattle.storage_model.specs.declared.block.Block.{Block}
use Rattle.storage_model.specs.Granule.{granule}
use Rattle.image_form.specs.Form.{gate_head, gate_number, page_of}
use Rattle.image_form.proofs.Forms.{granule-gate_page}
use Rattle.image_form.proofs.gate.write_gate.Goals as goal

pub returns-clause-page : goal.returns-clause-page
unfolding gate_head
returns-clause-page c = c.write_page.ensures ∙ ap page_of c.write_head.ensures ∙ ap (λ n. page_of (gate_head n)) c.number_of.ensures

pub returns-clause-form : goal.returns-clause-form
returns-clause-form c sectors h = record {
  head = ap (λ (b : Block). granule b 0) (returns-clause-page c) ∙ granule-gate_page (gate_number c.args.gate);
  within = h;
}
