use Rattle.fault_text.proofs.Meanings.{meaning_fits}
use Rattle.fault_text.specs.Faults.{Means as FaultsMean}
use Rattle.cqmmc_top.proofs.TextsRead.{bad_read, few_faults, means_read}
use Rattle.cqmmc_top.proofs.texts.take_faults.Goals as goal

pub returns-in-Ok-clause-ok : goal.returns-in-Ok-clause-ok
returns-in-Ok-clause-ok g c = record {
  means = means_read FaultsMean meaning_fits _ _ c.in-Ok.faults c.in_ok-text.ensures.ok (rw c.as_slice.ensures at c.in-Ok.ensures.means);
  valid = c.in-Ok.ensures.valid;
  few = few_faults _ c.in-Ok.faults c.in-Ok.ensures.means;
}

pub returns-in-Err-Bad-clause-err : goal.returns-in-Err-Bad-clause-err
returns-in-Err-Bad-clause-err g c = bad_read FaultsMean meaning_fits _ _ c.in-Err-Bad.line c.in_ok-text.ensures.ok (rw (c.in-Err-Bad.field-0-is, c.as_slice.ensures) at c.in-Err-Bad.ensures.bad)
