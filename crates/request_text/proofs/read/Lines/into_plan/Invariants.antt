use Rattle.std.proofs.Common.{◌≡◌, take}
use Rattle.std.specs.Prelude.{fold}
use Rattle.request_text.specs.Settings.{standard, with_setting}
use Rattle.request_text.proofs.read.Lines.into_plan.Given as goal

-- the settings so far are in the plan
abbrev pub invariant-loop-setting : goal.invariant-loop-setting
invariant-loop-setting l = l.plan ≡ fold with_setting (standard l.fn.self.jobs l.fn.self.blocks) (take l.setting-index l.fn.self.settings)
