-- The lines that set up a run: the depth of the command queue (JESD84-B51, CMDQ_DEPTH), the cache (CACHE_CTRL), the width of
-- descriptors and interrupt coalescing (cqhci.h, CQHCI_TASK_DESC_SZ and CQHCI_IC). They stand before all requests, each kind at
-- most once.
use Rattle.std.specs.Prelude.{◌≢◌, ℕ, ◌≤◌, Bool, true, false, List, [], ◌∷◌, Option, Some, None, All, fold, flat_map, codes, decimal}
use Rattle.storage_model.specs.declared.block.Block.{Block}
use Rattle.storage_model.specs.declared.plan.Job.{Job}
use Rattle.storage_model.specs.declared.plan.Plan.{Plan}
use Rattle.text_words.specs.Words.{line}
use Rattle.request_text.specs.declared.setting.Kind.{Kind}
use Rattle.request_text.specs.declared.setting.Kind.TheVariants.{Depth as DepthKind, Cache as CacheKind, Descriptors as DescriptorsKind, Coalesce as CoalesceKind}
use Rattle.request_text.specs.declared.setting.Setting.{Setting}
use Rattle.request_text.specs.declared.setting.Setting.TheVariants.{Depth, Cache, Descriptors, Coalesce}

abbrev pub kind_of : Setting → Kind
kind_of (Depth depth) = DepthKind
kind_of (Cache lines) = CacheKind
kind_of (Descriptors wide) = DescriptorsKind
kind_of (Coalesce count) = CoalesceKind

-- the word that names a kind
abbrev pub kind_text : Kind → List ℕ
kind_text DepthKind = codes "depth"
kind_text CacheKind = codes "cache"
kind_text DescriptorsKind = codes "desc"
kind_text CoalesceKind = codes "coalesce"

-- the lines of the cache, or that it is off
abbrev pub lines_text : Option ℕ → List ℕ
lines_text (Some lines) = decimal lines
lines_text None = codes "off"

-- the bits of a descriptor
abbrev pub width_text : Bool → List ℕ
width_text true = codes "128"
width_text false = codes "64"

-- the word of a setting's value
abbrev pub value_text : Setting → List ℕ
value_text (Depth depth) = decimal depth
value_text (Cache lines) = lines_text lines
value_text (Descriptors wide) = width_text wide
value_text (Coalesce count) = decimal count

abbrev pub setting_words : Setting → List (List ℕ)
setting_words setting = codes "set" ∷ kind_text (kind_of setting) ∷ value_text setting ∷ []

-- the line of a setting, with its line feed
unfoldable pub setting_text : Setting → List ℕ
setting_text setting = line (setting_words setting)

abbrev pub settings_text : List Setting → List ℕ
settings_text settings = flat_map setting_text settings

abbrev pub IsCache : Option ℕ → Type 0
IsCache (Some lines) = (1 ≤ lines) × (lines ≤ 1024)
IsCache None = Unit {0}

-- a setting's number is within its limits
abbrev pub IsSetting : Setting → Type 0
IsSetting (Depth depth) = (1 ≤ depth) × (depth ≤ 31)
IsSetting (Cache lines) = IsCache lines
IsSetting (Descriptors wide) = Unit {0}
IsSetting (Coalesce count) = count ≤ 31

-- none of the settings is of this kind
abbrev pub IsNew : Kind → List Setting → Type 0
IsNew kind settings = All (λ setting. kind_of setting ≢ kind) settings

-- no kind stands twice
abbrev pub AreOnce : List Setting → Type 0
AreOnce [] = Unit {0}
AreOnce (setting ∷ settings) = IsNew (kind_of setting) settings × AreOnce settings

-- requests without a setting
abbrev pub standard : List Job → List Block → Plan
standard jobs blocks = record { depth = 16; lines = 64; through = false; wide = false; coalesce = 0; jobs = jobs; blocks = blocks }

abbrev pub with_cache : Plan → Option ℕ → Plan
with_cache plan (Some lines) = record plan { lines = lines }
with_cache plan None = record plan { lines = 1024; through = true }

-- a plan with one setting. With the cache off there are 1,024 working lines
abbrev pub with_setting : Plan → Setting → Plan
with_setting plan (Depth depth) = record plan { depth = depth }
with_setting plan (Cache lines) = with_cache plan lines
with_setting plan (Descriptors wide) = record plan { wide = wide }
with_setting plan (Coalesce count) = record plan { coalesce = count }

-- requests under settings
abbrev pub plan_of : List Setting → List Job → List Block → Plan
plan_of settings jobs blocks = fold with_setting (standard jobs blocks) settings
