use Rattle.std.proofs.Common.{ap, ◌∙◌}
use Rattle.image_form.specs.Form.{super_head, page_of}
use Rattle.image_form.proofs.superblock.write_super.Goals as goal

pub returns-clause-page : goal.returns-clause-page
unfolding super_head
returns-clause-page c = c.write_page.ensures ∙ ap page_of c.write_head.ensures

pub returns-clause-form : goal.returns-clause-form
returns-clause-form c version some most =
    record { page = returns-clause-page c; version = version; some = some; most = most }
