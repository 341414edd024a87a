use Rattle.std.proofs.Common.{◌∙◌, sym}
use Rattle.request_text.proofs.SettingTexts.{reads_line}
use Rattle.request_text.proofs.setting.read_setting.Goals as goal

pub returns : goal.returns
returns c = reads_line c.args.line.now c.in_ok-first.first.now c.next.new.self c.setting_of.result (sym c.of-words.ensures ∙ c.in_ok-first.ensures) c.setting_of.ensures
