-- What a command answers: its status, what it wrote, and what the image shows then.
use Rattle.std.specs.Prelude.{◌≡◌, ◌⊎◌, ℕ, ◌+◌, ◌^◌, ◌<◌, ◌≤◌, List, [], ◌∷◌, ◌++◌, decimal, Option, IfSome, codes, Some, None, Bool, true, false}
use Rattle.storage_model.specs.Count.{Count, Rose}
use Rattle.array_edge.specs.Array.{ArrayState}
use Rattle.io_edge.specs.Sink.{TookPart}
use Rattle.intent_store.specs.Intent.{ShowsImage, shown_by}
use Rattle.cqmmc_top.specs.declared.command.Command.{Command}
use Rattle.cqmmc_top.specs.declared.command.Command.TheVariants.{Run, ExtCsd, New, Raw, Load}
use Rattle.cqmmc_top.specs.declared.refusal.Refusal.{Refusal}
use Rattle.cqmmc_top.specs.declared.refusal.Refusal.TheVariants.{Usage}
use Rattle.cqmmc_top.specs.Answers.{IsRunRefused}
use Rattle.cqmmc_top.specs.Opened.{HasSectors, OpeningRefused}
use Rattle.cqmmc_top.specs.Listing.{csd_text}
use Rattle.cqmmc_top.specs.Load.{LoadAnswers}
use Rattle.cqmmc_top.specs.Made.{IsLeft, IsZeroImage, MakingRefused}
use Rattle.ext_csd.specs.Values.{fresh}
use Rattle.cqmmc_top.specs.Raw.{RawAnswers}
use Rattle.cqmmc_top.specs.Refusal.{Says}
use Rattle.cqmmc_top.specs.Run.{IsServed}
use Rattle.world_steps.specs.World.{WorldState}

-- `run IMAGE REQUESTS FAULTS`
pub record IsRun (words : List (List ℕ)) : Type 0 where
  pub image : List ℕ
  pub requests : List ℕ
  pub faults : List ℕ
  pub are : words ≡ codes "run" ∷ image ∷ requests ∷ faults ∷ []

-- `extcsd IMAGE`
pub record IsExtCsd (words : List (List ℕ)) : Type 0 where
  pub image : List ℕ
  pub are : words ≡ codes "extcsd" ∷ image ∷ []

-- `new IMAGE SECTORS`, the number in decimal without leading zeros
pub record IsNew (sectors : ℕ) (words : List (List ℕ)) : Type 0 where
  pub image : List ℕ
  pub are : words ≡ codes "new" ∷ image ∷ decimal sectors ∷ []
  pub some : 1 ≤ sectors
  pub most : sectors ≤ 65536

-- `raw IMAGE SCRIPT`
pub record IsRaw (words : List (List ℕ)) : Type 0 where
  pub image : List ℕ
  pub script : List ℕ
  pub are : words ≡ codes "raw" ∷ image ∷ script ∷ []

-- `load IMAGE N`, the number in decimal without leading zeros
pub record IsLoad (n : ℕ) (words : List (List ℕ)) : Type 0 where
  pub image : List ℕ
  pub are : words ≡ codes "load" ∷ image ∷ decimal n ∷ []
  pub most : n < 2 ^ 32

-- the words call the command
abbrev pub IsCommand : Command → List (List ℕ) → Type 0
IsCommand Run words = IsRun words
IsCommand ExtCsd words = IsExtCsd words
IsCommand (New sectors) words = IsNew sectors words
IsCommand Raw words = IsRaw words
IsCommand (Load n) words = IsLoad n words

-- `run` and `raw` read a first text, and `run` a second one
abbrev pub reads_first : Option Command → Bool
reads_first (Some Run) = true
reads_first (Some Raw) = true
reads_first _ = false

abbrev pub reads_second : Option Command → Bool
reads_second (Some Run) = true
reads_second _ = false

-- `run` and `load` hand their run back where it ended well
abbrev pub hands_back : Option Command → Bool
hands_back (Some Run) = true
hands_back (Some (Load n)) = true
hands_back _ = false

-- an image that is to be made has a number of sectors that an image may have
abbrev pub IsMakeable : Command → Type 0
IsMakeable (New sectors) = (1 ≤ sectors) × (sectors ≤ 65536)
IsMakeable _ = Unit {0}

-- the words call it, or they call nothing
abbrev pub IsCall : Option Command → List (List ℕ) → Type 0
IsCall (Some command) words = IsCommand command words
IsCall None words = (command : Command) → IsCommand command words → ⊥

module _ {K : Type 0} (took : K → List ℕ → K → Type 0) (faults_of : K → Count) where
  -- a run was refused: by a cause, and the image shows what it showed
  pub record IsRefusedRun (requests : Option (List ℕ)) (first first' : Count) (faults : Option (List ℕ)) (second second' : Count) (old new : ArrayState) (out : K) (status : ℕ) (world : Option WorldState) (out' : K) : Type 0 where
    pub refusal : Refusal
    pub cause : IsRunRefused requests first first' faults second second' old new refusal
    pub says : Says took faults_of refusal out status out'
    pub shown : shown_by new ≡ shown_by old
    pub kept : ShowsImage old → ShowsImage new
    pub none : world ≡ None

  -- a run is refused, or its requests are served
  abbrev pub RunAnswers : Option (List ℕ) → Count → Count → Option (List ℕ) → Count → Count → ArrayState → ArrayState → K → ℕ → Option WorldState → K → Type 0
  RunAnswers requests first first' faults second second' old new out status world out' =
      IsRefusedRun requests first first' faults second second' old new out status world out' ⊎ IsServed took faults_of requests faults old new out status world out'

  -- a text was written whole, or the sink failed within it
  abbrev pub Lists : List ℕ → K → ℕ → K → Type 0
  Lists text out status out' = ((status ≡ 0) × took out text out') ⊎ ((status ≡ 5) × TookPart took out text out' × Rose (faults_of out) (faults_of out'))

  -- an image wasn't opened, and shows what it showed
  pub record IsUnopened (old new : ArrayState) (out : K) (status : ℕ) (out' : K) : Type 0 where
    pub refusal : Refusal
    pub cause : OpeningRefused old new refusal
    pub says : Says took faults_of refusal out status out'
    pub shown : shown_by new ≡ shown_by old
    pub kept : ShowsImage old → ShowsImage new

  -- the fields of the card on the image were listed: a card of 16 tasks and 64 cache lines
  pub record IsListed (old new : ArrayState) (out : K) (status : ℕ) (out' : K) : Type 0 where
    pub sectors : ℕ
    pub image : ShowsImage old
    pub has_sectors : HasSectors old sectors
    pub lists : Lists (csd_text (fresh sectors 16 64)) out status out'
    pub shown : shown_by new ≡ shown_by old
    pub kept : ShowsImage old → ShowsImage new

  abbrev pub ListAnswers : ArrayState → ArrayState → K → ℕ → K → Type 0
  ListAnswers old new out status out' = IsUnopened old new out status out' ⊎ IsListed old new out status out'

  -- no image was made, and what is left is no image, the old one or the new one
  pub record IsUnmade (sectors : ℕ) (old new : ArrayState) (out : K) (status : ℕ) (out' : K) : Type 0 where
    pub refusal : Refusal
    pub cause : MakingRefused sectors old new refusal
    pub left : IsLeft sectors old.told new.told
    pub says : Says took faults_of refusal out status out'

  -- an image of zero sectors was made, and is settled
  pub record IsMade (sectors : ℕ) (old new : ArrayState) (out : K) (status : ℕ) (out' : K) : Type 0 where
    pub room : 8 + sectors ≤ old.count
    pub made : IfSome new.told (IsZeroImage sectors)
    pub settled : new.settled ≡ true
    pub lists : Lists (codes "new " ++ decimal sectors ++ codes "\n") out status out'

  abbrev pub MakeAnswers : ℕ → ArrayState → ArrayState → K → ℕ → K → Type 0
  MakeAnswers sectors old new out status out' = IsUnmade sectors old new out status out' ⊎ IsMade sectors old new out status out'

  -- words that call nothing are told the usage and touch nothing
  pub record IsUsage (words : List (List ℕ)) (old new : ArrayState) (out : K) (status : ℕ) (out' : K) : Type 0 where
    pub no_form : (command : Command) → IsCommand command words → ⊥
    pub says : Says took faults_of Usage out status out'
    pub same : new ≡ old

  -- the words call a run, and it answers
  pub record IsAnsweredRun (words : List (List ℕ)) (requests : Option (List ℕ)) (first first' : Count) (faults : Option (List ℕ)) (second second' : Count) (old new : ArrayState) (out : K) (status : ℕ) (world : Option WorldState) (out' : K) : Type 0 where
    pub form : IsRun words
    pub answers : RunAnswers requests first first' faults second second' old new out status world out'

  pub record IsAnsweredList (words : List (List ℕ)) (old new : ArrayState) (out : K) (status : ℕ) (out' : K) : Type 0 where
    pub form : IsExtCsd words
    pub answers : ListAnswers old new out status out'

  pub record IsAnsweredNew (words : List (List ℕ)) (old new : ArrayState) (out : K) (status : ℕ) (out' : K) : Type 0 where
    pub sectors : ℕ
    pub form : IsNew sectors words
    pub answers : MakeAnswers sectors old new out status out'

  -- the words call a raw script, which is the first text, and it answers
  pub record IsAnsweredRaw (words : List (List ℕ)) (script : Option (List ℕ)) (first first' : Count) (old new : ArrayState) (out : K) (status : ℕ) (out' : K) : Type 0 where
    pub form : IsRaw words
    pub answers : RawAnswers took faults_of script first first' old new out status out'

  -- the words call a load, and it answers
  pub record IsAnsweredLoad (words : List (List ℕ)) (old new : ArrayState) (out : K) (status : ℕ) (world : Option WorldState) (out' : K) : Type 0 where
    pub n : ℕ
    pub form : IsLoad n words
    pub answers : LoadAnswers took faults_of n old new out status world out'

  abbrev pub Answers : List (List ℕ) → Option (List ℕ) → Count → Count → Option (List ℕ) → Count → Count → ArrayState → ArrayState → K → ℕ → Option WorldState → K → Type 0
  Answers words requests first first' faults second second' old new out status world out' =
      IsUsage words old new out status out' ⊎ (IsAnsweredRun words requests first first' faults second second' old new out status world out'
      ⊎ (IsAnsweredList words old new out status out' ⊎ (IsAnsweredNew words old new out status out'
      ⊎ (IsAnsweredRaw words requests first first' old new out status out' ⊎ IsAnsweredLoad words old new out status world out'))))
