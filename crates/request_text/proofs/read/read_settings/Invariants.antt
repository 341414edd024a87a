use Rattle.std.proofs.Common.{◌≡◌, ◌++◌, length}
use Rattle.request_text.specs.Meaning.{AreSettings}
use Rattle.request_text.specs.Settings.{settings_text}
use Rattle.request_text.proofs.read.read_settings.Given as goal

-- what is left stands after the settings so far
abbrev pub invariant-loop-setting : goal.invariant-loop-setting
invariant-loop-setting l = record {
  set : AreSettings l.settings;
  parts : l.text ≡ settings_text l.settings ++ l.rest;
}

abbrev pub decreases-loop-setting : goal.decreases-loop-setting
decreases-loop-setting l = length l.rest
