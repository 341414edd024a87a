-- What a request text means, and where it is bad. The meaning is said by writing.
use Rattle.std.specs.Prelude.{◌≡◌, ℕ, ◌≤◌, List, ◌++◌, All, length, sum_by}
use Rattle.storage_model.specs.declared.block.Block.{Block}
use Rattle.storage_model.specs.declared.ends.TextEnd.{TextEnd}
use Rattle.storage_model.specs.declared.ends.TextEnd.TheVariants.{Bad, NoMemory}
use Rattle.storage_model.specs.declared.plan.Job.{Job}
use Rattle.storage_model.specs.declared.plan.Plan.{Plan}
use Rattle.storage_model.specs.Plan.{blocks_of}
use Rattle.text_words.specs.Texts.{IsBadAt}
use Rattle.request_text.specs.Requests.{ArePlaced, IsBlock, IsJob, requests_text}
use Rattle.request_text.specs.Settings.{AreOnce, IsSetting, plan_of, settings_text}
use Rattle.request_text.specs.declared.setting.Setting.{Setting}

-- settings of which each kind stands at most once
pub record AreSettings (settings : List Setting) : Type 0 where
  pub each : All IsSetting settings
  pub once : AreOnce settings

-- requests and the blocks that they list, within the limits on both
pub record AreRequests (jobs : List Job) (blocks : List Block) : Type 0 where
  pub each : All IsJob jobs
  pub listed : All IsBlock blocks
  pub placed : ArePlaced 0 jobs (length blocks)
  pub count : length jobs ≤ 65536
  pub moved : sum_by blocks_of jobs ≤ 131072

-- the text is that of some settings and then of the plan's requests
pub record Means (bytes : List ℕ) (plan : Plan) : Type 0 where
  pub settings : List Setting
  pub text : bytes ≡ settings_text settings ++ requests_text plan.blocks plan.jobs
  pub set : AreSettings settings
  pub requests : AreRequests plan.jobs plan.blocks
  pub fields : plan ≡ plan_of settings plan.jobs plan.blocks
  pub long : length bytes ≤ 16777216

-- why a text is refused: at its first bad line. Want of memory has no cause in the text
abbrev pub IsRefused : List ℕ → TextEnd → Type 0
IsRefused bytes (Bad number) = IsBadAt Means bytes number
IsRefused bytes NoMemory = Unit {0}
