-- The puts of each sector, of all that is pending.
use Rattle.std.specs.Prelude.{◌≡◌, ◌⊎◌, ◌≤◌, ◌^◌, ℕ, suc, ◌+◌, ◌==◌, nat_lt, if◌then◌else◌, List, [], ◌∷◌, drop, get_or, length, take}
use Rattle.storage_model.specs.Contents.{bars}
use Rattle.storage_model.specs.declared.block.Block.{Block}
use Rattle.storage_model.specs.declared.marks.Put.{Put}
use Rattle.storage_model.specs.declared.marks.Mark.{Mark}
use Rattle.storage_model.specs.declared.marks.Mark.TheVariants.{Put as PutMark, Bar}

-- of each put on sector s its epoch, where the first epoch is e
abbrev pub epochs_on : ℕ → ℕ → List Mark → List ℕ
epochs_on s e [] = []
epochs_on s e (PutMark put ∷ marks) = if put.sector == s then e ∷ epochs_on s e marks else epochs_on s e marks
epochs_on s e (Bar ∷ marks) = epochs_on s (e + 1) marks

-- a put, on sector 0
abbrev pub alone : Put → Mark
alone put = PutMark (record { sector = 0; value = put.value; reliable = put.reliable })

-- the puts on sector s, each as one on sector 0
abbrev pub puts_on : ℕ → List Mark → List Mark
puts_on s [] = []
puts_on s (PutMark put ∷ marks) = if put.sector == s then alone put ∷ puts_on s marks else puts_on s marks
puts_on s (Bar ∷ marks) = puts_on s marks

-- the value after a mark, and after marks
abbrev pub value_of : Block → Mark → Block
value_of value (PutMark put) = put.value
value_of value Bar = value

abbrev pub value_after : Block → List Mark → Block
value_after value [] = value
value_after value (mark ∷ marks) = value_after (value_of value mark) marks

-- the epochs and the puts of all sectors, and the last epoch, are those of the marks
pub record IsIndex (marks : List Mark) (epochs : List (List ℕ)) (puts : List (List Mark)) (last : ℕ) : Type 0 where
  pub epochs_at : (s : ℕ) → get_or epochs s [] ≡ epochs_on s 0 marks
  pub puts_at : (s : ℕ) → get_or puts s [] ≡ puts_on s marks
  pub at_last : last ≡ bars marks
  pub short : (length epochs ≤ 2 ^ 32) × (length puts ≤ 2 ^ 32)

-- After marks were taken out of lists, those of each sector are empty, or they are as they were and no mark was a put on it.
pub record IsFreed (marks : List Mark) (epochs : List (List ℕ)) (puts : List (List Mark)) (epochs' : List (List ℕ)) (puts' : List (List Mark)) : Type 0 where
  pub each : (s : ℕ) → ((get_or epochs' s [] ≡ []) × (get_or puts' s [] ≡ [])) ⊎ ((get_or epochs' s [] ≡ get_or epochs s []) × (get_or puts' s [] ≡ get_or puts s []) × (puts_on s marks ≡ []))
  pub long : (length epochs' ≡ length epochs) × (length puts' ≡ length puts)

-- how many epochs stand before the first that isn't below e, and how many at the start are e
abbrev pub count_below : ℕ → List ℕ → ℕ
count_below e [] = 0
count_below e (x ∷ xs) = if nat_lt x e then suc (count_below e xs) else 0

abbrev pub count_same : ℕ → List ℕ → ℕ
count_same e [] = 0
count_same e (x ∷ xs) = if x == e then suc (count_same e xs) else 0

-- the puts of epoch e among those of a sector, and the sector's value before them
abbrev pub puts_in : ℕ → List ℕ → List Mark → List Mark
puts_in e epochs puts = take (count_same e (drop (count_below e epochs) epochs)) (drop (count_below e epochs) puts)

abbrev pub value_before : ℕ → List ℕ → Block → List Mark → Block
value_before e epochs value puts = value_after value (take (count_below e epochs) puts)
