-- The lines of requests. A request has one text, given the blocks that it lists. Its flags are those of the task descriptor:
-- forced programming, reliable write and priority (JESD84-B51, command queuing; cqhci.h).
use Rattle.std.specs.Prelude.{◌≡◌, ℕ, ◌+◌, ◌^◌, ◌<◌, ◌≤◌, Bool, true, false, List, [], ◌∷◌, ◌++◌, length, take, drop, flat_map, codes, decimal}
use Rattle.hex.specs.Hex.{IsBytes, encode_lower}
use Rattle.storage_model.specs.declared.block.Block.{Block}
use Rattle.storage_model.specs.declared.plan.Fill.{Fill}
use Rattle.storage_model.specs.declared.plan.Fill.TheVariants.{Same, Ramp, Listed}
use Rattle.storage_model.specs.declared.plan.Job.{Job}
use Rattle.storage_model.specs.declared.plan.Job.TheVariants.{Read, Write, Flush, Barrier, Status}
use Rattle.text_words.specs.Words.{line, hex_byte}
use Rattle.request_text.specs.declared.request.Contents.{Contents}
use Rattle.request_text.specs.declared.request.Contents.TheVariants.{Fill as FillContents, Ramp as RampContents, Hex as HexContents}
use Rattle.request_text.specs.declared.request.Flag.{Flag}
use Rattle.request_text.specs.declared.request.Flag.TheVariants.{Forced, Reliable, High}

-- two lower case digits for each byte of each block
abbrev pub digits_of : List Block → List ℕ
digits_of blocks = flat_map (λ block. encode_lower block.0) blocks

-- the first word of a write's contents
abbrev pub contents_text : Contents → List ℕ
contents_text FillContents = codes "fill"
contents_text RampContents = codes "ramp"
contents_text HexContents = codes "hex"

-- the words of a write's contents. Listed blocks stand there as digits
abbrev pub fill_words : List ℕ → Fill → List (List ℕ)
fill_words digits (Same byte) = codes "fill" ∷ hex_byte byte ∷ []
fill_words digits (Ramp start) = codes "ramp" ∷ decimal start ∷ []
fill_words digits (Listed place) = codes "hex" ∷ digits ∷ []

abbrev pub flag_text : Flag → List ℕ
flag_text Forced = codes "forced"
flag_text Reliable = codes "reliable"
flag_text High = codes "high"

-- a word that stands where its flag is set
abbrev pub flag_words : List ℕ → Bool → List (List ℕ)
flag_words word true = word ∷ []
flag_words word false = []

-- the flags of a write that stand after `forced`
abbrev pub later_words : Bool → Bool → List (List ℕ)
later_words reliable high = flag_words (codes "reliable") reliable ++ flag_words (codes "high") high

-- the flags of a write
abbrev pub all_words : Bool → Bool → Bool → List (List ℕ)
all_words forced reliable high = flag_words (codes "forced") forced ++ later_words reliable high

-- the words of a request whose listed blocks have these digits
abbrev pub job_words : List ℕ → Job → List (List ℕ)
job_words digits (Read sector blocks high) = codes "read" ∷ decimal sector ∷ decimal blocks ∷ flag_words (codes "high") high
job_words digits (Write sector blocks fill forced reliable high) =
    codes "write" ∷ decimal sector ∷ decimal blocks ∷ fill_words digits fill ++ all_words forced reliable high
job_words digits Flush = codes "flush" ∷ []
job_words digits Barrier = codes "barrier" ∷ []
job_words digits Status = codes "status" ∷ []

-- so many blocks of the list, where contents are listed
abbrev pub listed_blocks : List Block → Fill → ℕ → List Block
listed_blocks blocks (Listed place) count = take count (drop place blocks)
listed_blocks blocks fill count = []

-- the blocks of the list that a request names
abbrev pub named_blocks : List Block → Job → List Block
named_blocks blocks (Write sector count fill forced reliable high) = listed_blocks blocks fill count
named_blocks blocks job = []

-- the line of a request, with its line feed
unfoldable pub request_text : List Block → Job → List ℕ
request_text blocks job = line (job_words (digits_of (named_blocks blocks job)) job)

abbrev pub requests_text : List Block → List Job → List ℕ
requests_text blocks jobs = flat_map (request_text blocks) jobs

-- a range of 1 to 1,024 sectors, from a sector of 32 bits on
pub record IsRange (sector count : ℕ) : Type 0 where
  pub fits : sector < 2 ^ 32
  pub least : 1 ≤ count
  pub most : count ≤ 1024

abbrev pub IsFill : Fill → Type 0
IsFill (Same byte) = byte < 2 ^ 8
IsFill (Ramp start) = start < 2 ^ 8
IsFill (Listed place) = Unit {0}

-- a request's numbers are within their limits
abbrev pub IsJob : Job → Type 0
IsJob (Read sector count high) = IsRange sector count
IsJob (Write sector count fill forced reliable high) = IsRange sector count × IsFill fill
IsJob job = Unit {0}

-- a request that is no write
abbrev pub IsOther : Job → Type 0
IsOther (Write sector count fill forced reliable high) = ⊥
IsOther job = Unit {0}

-- 512 bytes
pub record IsBlock (block : Block) : Type 0 where
  pub bytes : IsBytes block.0
  pub long : length block.0 ≡ 512

abbrev pub listed_count : Fill → ℕ → ℕ
listed_count (Listed place) count = count
listed_count fill count = 0

-- how many blocks a request lists
abbrev pub listed_by : Job → ℕ
listed_by (Write sector count fill forced reliable high) = listed_count fill count
listed_by job = 0

abbrev pub IsFillAt : ℕ → Fill → Type 0
IsFillAt at (Listed place) = place ≡ at
IsFillAt at fill = Unit {0}

-- the blocks that a request lists, if it lists any, stand from this place on
abbrev pub IsPlacedAt : ℕ → Job → Type 0
IsPlacedAt at (Write sector count fill forced reliable high) = IsFillAt at fill
IsPlacedAt at job = Unit {0}

-- listed blocks follow one another in the order of their requests, from a place on up to an end
abbrev pub ArePlaced : ℕ → List Job → ℕ → Type 0
ArePlaced at [] end = at ≡ end
ArePlaced at (job ∷ jobs) end = IsPlacedAt at job × ArePlaced (at + listed_by job) jobs end
