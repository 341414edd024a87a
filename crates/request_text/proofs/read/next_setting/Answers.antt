use Rattle.std.proofs.Common.{◌∙◌, ap, sym, subst}
use Rattle.request_text.specs.declared.setting.Kind.{Kind}
use Rattle.request_text.specs.Settings.{IsNew, kind_of}
use Rattle.request_text.proofs.SettingTexts.{no_setting, setting_line, setting_parts, same_line}
use Rattle.request_text.proofs.read.next_setting.Goals as goal

pub returns-in_err-line-clause-none : goal.returns-in_err-line-clause-none
returns-in_err-line-clause-none c = rw c.from_residual.ensures (λ setting after valid new is. no_setting setting c.args.rest.now after c.in_err-line.ensures is)

pub returns-in_err-setting-clause-none : goal.returns-in_err-setting-clause-none
returns-in_err-setting-clause-none c =
    rw c.from_residual-in_err-setting.ensures (λ setting after valid new is.
    let parts = setting_line setting c.args.rest.now after c.in_ok-line.line.now c.in_ok-line.after.now valid c.in_ok-line.ensures.0 c.in_ok-line.ensures.1 is in
    c.in_err-setting.ensures setting (valid, parts.0))

pub returns-then-has_kind-clause-none : goal.returns-then-has_kind-clause-none
returns-then-has_kind-clause-none c = λ setting after valid new is.
    let parts = setting_line setting c.args.rest.now after c.in_ok-line.line.now c.in_ok-line.after.now valid c.in_ok-line.ensures.0 c.in_ok-line.ensures.1 is in
    let same = same_line c.in_ok-line.line.now setting c.in_ok-setting.setting valid c.in_ok-setting.ensures.0 parts.0 c.in_ok-setting.ensures.1 in
    c.if-has_kind.ensures (subst (λ (k : Kind). IsNew k c.args.settings.now) (ap kind_of same ∙ sym c.kind.ensures) new)

pub returns-clause-some : goal.returns-clause-some
returns-clause-some c =
    (c.in_ok-setting.ensures.0, subst (λ (k : Kind). IsNew k c.args.settings.now) c.kind.ensures c.if-has_kind.ensures, setting_parts c.in_ok-setting.setting c.args.rest.now c.in_ok-line.line.now c.in_ok-line.after.now c.in_ok-line.ensures.0 c.in_ok-setting.ensures.1)
