use Rattle.request_text.specs.Meaning.{Means as RequestsMean}
use Rattle.cqmmc_top.proofs.TextsRead.{bad_read, means_read, request_fits}
use Rattle.cqmmc_top.proofs.texts.take_plan.Goals as goal

pub returns-in-Ok-clause-ok : goal.returns-in-Ok-clause-ok
returns-in-Ok-clause-ok g c = record {
  means = means_read RequestsMean request_fits _ _ c.in-Ok.plan c.in_ok-text.ensures.ok (rw c.as_slice.ensures at c.in-Ok.ensures.means);
  valid = c.in-Ok.ensures.valid;
}

pub returns-in-Err-Bad-clause-err : goal.returns-in-Err-Bad-clause-err
returns-in-Err-Bad-clause-err g c = bad_read RequestsMean request_fits _ _ c.in-Err-Bad.line c.in_ok-text.ensures.ok (rw (c.in-Err-Bad.field-0-is, c.as_slice.ensures) at c.in-Err-Bad.ensures.bad)
