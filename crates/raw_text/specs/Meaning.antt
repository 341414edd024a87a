-- What a script's text means, and where it is bad.
use Rattle.std.specs.Prelude.{◌≡◌, ◌≢◌, ℕ, ◌+◌, ◌≤◌, List, [], ◌∷◌, ◌++◌, length, All, flat_map}
use Rattle.storage_model.specs.declared.ends.TextEnd.{TextEnd}
use Rattle.storage_model.specs.declared.ends.TextEnd.TheVariants.{Bad, NoMemory}
use Rattle.raw_text.specs.declared.op.RawOp.{RawOp}
use Rattle.raw_text.specs.Raw.{IsOp, op_text}

-- the lines one after the other
abbrev pub ops_text : List RawOp → List ℕ
ops_text ops = flat_map op_text ops

-- operations that one text can have, in 16 MiB
pub record AreWithin (ops : List RawOp) : Type 0 where
  pub each : All IsOp ops
  pub bytes : length (ops_text ops) ≤ 16777216

-- the text means these operations
pub record Means (bytes : List ℕ) (ops : List RawOp) : Type 0 where
  pub text : bytes ≡ ops_text ops
  pub within : AreWithin ops

-- the first bad line: operations stand before it, and none whose text begins the rest can follow
pub record IsBadAfter (bytes : List ℕ) (good : List RawOp) (rest : List ℕ) : Type 0 where
  pub text : bytes ≡ ops_text good ++ rest
  pub within : AreWithin good
  pub more : rest ≢ []
  pub bad : (op : RawOp) (after : List ℕ) → rest ≡ op_text op ++ after → ¬ AreWithin (good ++ op ∷ [])

-- its number, counted from 1
abbrev pub IsBadAt : List ℕ → ℕ → Type 0
IsBadAt bytes number = (good : List RawOp) × (rest : List ℕ) × IsBadAfter bytes good rest × (number ≡ length good + 1)

-- why a text is refused: at its first bad line. Want of memory has no cause in the text
abbrev pub IsRefused : List ℕ → TextEnd → Type 0
IsRefused bytes (Bad number) = IsBadAt bytes number
IsRefused bytes NoMemory = Unit {0}
