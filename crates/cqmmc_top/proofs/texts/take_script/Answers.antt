use Rattle.cqmmc_top.proofs.ScriptRead.{script_read, bad_script_read}
use Rattle.cqmmc_top.proofs.texts.take_script.Goals as goal

pub returns-in-Ok-clause-ok : goal.returns-in-Ok-clause-ok
returns-in-Ok-clause-ok g c = record { means = script_read _ _ c.in-Ok.ops c.in_ok-text.ensures.ok (rw c.as_slice.ensures at c.in-Ok.ensures.means); each = c.in-Ok.ensures.each }

pub returns-in-Err-Bad-clause-err : goal.returns-in-Err-Bad-clause-err
returns-in-Err-Bad-clause-err g c = bad_script_read _ _ c.in-Err-Bad.line c.in_ok-text.ensures.ok (rw (c.in-Err-Bad.field-0-is, c.as_slice.ensures) at c.in-Err-Bad.ensures.bad)
