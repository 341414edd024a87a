use Rattle.std.proofs.Common.{take}
use Rattle.request_text.specs.Settings.{IsNew}
use Rattle.request_text.proofs.read.has_kind.Given as goal

-- no setting so far is of the kind
abbrev pub invariant-loop-setting : goal.invariant-loop-setting
invariant-loop-setting l = IsNew l.kind (take l.setting-index l.settings)
