-- What a reader of request lines takes.
use Rattle.std.specs.Prelude.{◌≡◌, ◌≢◌, ℕ, ◌+◌, ◌<◌, ◌≤◌, List, [], ◌∷◌, ◌++◌, All, length, sum_by}
use Rattle.storage_model.specs.declared.block.Block.{Block}
use Rattle.storage_model.specs.declared.ends.TextEnd.{TextEnd}
use Rattle.storage_model.specs.declared.ends.TextEnd.TheVariants.{Bad, NoMemory}
use Rattle.storage_model.specs.declared.plan.Job.{Job}
use Rattle.storage_model.specs.Plan.{blocks_of}
use Rattle.text_words.specs.Words.{spaced}
use Rattle.request_text.specs.Meaning.{AreRequests, AreSettings}
use Rattle.request_text.specs.Requests.{IsBlock, IsJob, IsPlacedAt, digits_of, job_words, listed_by, requests_text}
use Rattle.request_text.specs.Settings.{IsNew, IsSetting, kind_of, setting_text, settings_text}
use Rattle.request_text.specs.declared.read.Lines.{Lines}
use Rattle.request_text.specs.declared.read.Requests.{Requests}
use Rattle.request_text.specs.declared.setting.Setting.{Setting}

-- blocks that have these digits
pub record Spells (digits : List ℕ) (count : ℕ) (blocks : List Block) : Type 0 where
  pub each : All IsBlock blocks
  pub long : length blocks ≡ count
  pub text : digits ≡ digits_of blocks

-- the blocks of these digits were added
pub record AreAdded (digits : List ℕ) (count : ℕ) (old new : List Block) : Type 0 where
  pub blocks : List Block
  pub spelled : Spells digits count blocks
  pub list : new ≡ old ++ blocks

-- the blocks that a request lists, whose digits stand in its line
pub record Lists (digits : List ℕ) (job : Job) (blocks : List Block) : Type 0 where
  pub each : All IsBlock blocks
  pub long : length blocks ≡ listed_by job
  pub text : job_words digits job ≡ job_words (digits_of blocks) job

-- they were added
pub record AreListed (digits : List ℕ) (job : Job) (old new : List Block) : Type 0 where
  pub blocks : List Block
  pub lists : Lists digits job blocks
  pub list : new ≡ old ++ blocks

-- a line is a request that may follow others, with the blocks that it lists
pub record Follows (jobs : List Job) (blocks : List Block) (line : List ℕ) (job : Job) (more : List Block) : Type 0 where
  pub valid : IsJob job
  pub placed : IsPlacedAt (length blocks) job
  pub each : All IsBlock more
  pub long : length more ≡ listed_by job
  pub text : line ≡ spaced (job_words (digits_of more) job)
  pub count : length jobs < 65536
  pub moved : sum_by blocks_of jobs + blocks_of job ≤ 131072

-- no line in front of the text is a request that may follow
abbrev pub NoneFollows : List Job → List Block → List ℕ → Type 0
NoneFollows jobs blocks rest = (line after : List ℕ) (job : Job) (more : List Block) → rest ≡ line ++ 10 ∷ after → ¬ Follows jobs blocks line job more

-- a request was added
pub record IsAdded (old : Requests) (line : List ℕ) (new : Requests) : Type 0 where
  pub job : Job
  pub listed : List Block
  pub follows : Follows old.jobs old.blocks line job listed
  pub jobs : new.jobs ≡ old.jobs ++ job ∷ []
  pub blocks : new.blocks ≡ old.blocks ++ listed
  pub moved : new.moved ≡ old.moved + blocks_of job

-- requests of one text, with their sum
pub record IsSound (requests : Requests) : Type 0 where
  pub within : AreRequests requests.jobs requests.blocks
  pub sum : requests.moved ≡ sum_by blocks_of requests.jobs

-- the line in front was added
pub record IsTaken (old : Requests) (rest : List ℕ) (new : Requests) (after : List ℕ) : Type 0 where
  pub line : List ℕ
  pub free : All (λ b. b ≢ 10) line
  pub text : rest ≡ line ++ 10 ∷ after
  pub added : IsAdded old line new
  pub sound : IsSound new

-- the text is that of these requests
pub record AreWhole (text : List ℕ) (requests : Requests) : Type 0 where
  pub within : AreRequests requests.jobs requests.blocks
  pub whole : text ≡ requests_text requests.blocks requests.jobs

-- requests stand in front of the text, and none follows where it goes on
pub record EndsAt (text : List ℕ) (jobs : List Job) (blocks : List Block) (rest : List ℕ) : Type 0 where
  pub within : AreRequests jobs blocks
  pub parts : text ≡ requests_text blocks jobs ++ rest
  pub more : rest ≢ []
  pub none : NoneFollows jobs blocks rest

-- why requests end, where so many settings stand before them
abbrev pub AreRefused : List ℕ → ℕ → TextEnd → Type 0
AreRefused text settings (Bad number) = (jobs : List Job) × (blocks : List Block) × (rest : List ℕ) × EndsAt text jobs blocks rest × (number ≡ settings + length jobs + 1)
AreRefused text settings NoMemory = Unit {0}

-- no new setting stands in front of the text
abbrev pub NoneSet : List Setting → List ℕ → Type 0
NoneSet settings rest = (setting : Setting) (after : List ℕ) → IsSetting setting → IsNew (kind_of setting) settings → ¬ (rest ≡ setting_text setting ++ after)

-- settings stand in front of the text, and no more
pub record AreSet (text : List ℕ) (settings : List Setting) (rest : List ℕ) : Type 0 where
  pub set : AreSettings settings
  pub parts : text ≡ settings_text settings ++ rest
  pub none : NoneSet settings rest

-- the text is that of these lines
pub record AreLines (text : List ℕ) (lines : Lines) : Type 0 where
  pub set : AreSettings lines.settings
  pub within : AreRequests lines.jobs lines.blocks
  pub whole : text ≡ settings_text lines.settings ++ requests_text lines.blocks lines.jobs

-- so many bytes as a text can have
pub record IsFront (bytes front : List ℕ) : Type 0 where
  pub more : List ℕ
  pub parts : bytes ≡ front ++ more
  pub within : length front ≤ 16777216
  pub all : more ≢ [] → length front ≡ 16777216
