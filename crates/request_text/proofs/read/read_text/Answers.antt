use Rattle.std.proofs.Common.{arith}
use Rattle.request_text.specs.Meaning.{IsRefused}
use Rattle.request_text.proofs.Meanings.{handed_on, refused_behind, settings_fit}
use Rattle.request_text.proofs.read.read_text.Goals as goal

pub read_jobs-requires : goal.read_jobs-requires
read_jobs-requires c = omega (arith, c.len.ensures, c.requires, settings_fit c.args.text.now c.in_ok-settings.settings c.in_ok-settings.rest.now c.in_ok-settings.ensures)

pub returns-in_err-requests-clause-bad : goal.returns-in_err-requests-clause-bad
returns-in_err-requests-clause-bad c =
    handed_on c.from_residual-in_err-requests.result c.in_err-requests.field-0.0 (IsRefused c.args.text.now) c.from_residual-in_err-requests.ensures.1
    (refused_behind c.args.text.now c.in_ok-settings.settings c.in_ok-settings.rest.now c.len.result c.in_err-requests.field-0.0 c.in_ok-settings.ensures c.requires c.len.ensures c.in_err-requests.ensures.bad)
