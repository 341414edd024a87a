-- The last segment of puts, and the value of the last put.
use Rattle.std.proofs.Common.{◌≡◌, inl, inr, Bool, true, false, ◌||◌, if◌then◌else◌, List, [], ◌∷◌, ◌++◌, refl, sym, ◌∙◌}
use Rattle.std.proofs.Math.Bool.{or-false}
use Rattle.std.proofs.lemmas.Bool.{cases_Bool, both_ways, or_left, or_right, or_parts}
use Rattle.std.proofs.lemmas.List.Sums.{fold-append}
use Rattle.storage_model.proofs.Latest.{last_value, is_mix-torn, segments-last}
use Rattle.storage_model.proofs.Remains.{is_mix-further, is_mix-more, is_mix-own, segments-start, segments-put}
use Rattle.storage_model.specs.Granule.{IsMix}
use Rattle.storage_model.specs.Left.{is_mix, is_mix_of_segment, segments}
use Rattle.storage_model.specs.declared.block.Block.{Block}
use Rattle.storage_model.specs.declared.marks.Put.{Put}
use Rattle.card_store.specs.Stands.{IsShown, last_segment, some_reliable}

abbrev parted : List Block → Put → List Block
parted segment put = if put.reliable then put.value ∷ [] else segment ++ put.value ∷ []

pub last_segment-put : (values : List Block) (puts : List Put) (put : Put) → last_segment values (puts ++ put ∷ []) ≡ parted (last_segment values puts) put
unfolding last_segment
last_segment-put values puts put = fold-append parted values puts (put ∷ [])

-- what is a mix of the last segment is one of a segment
pub last_segment-is_one : (values : List Block) (puts : List Put) (w : Block) → is_mix (last_segment values puts) w ≡ true → is_mix_of_segment (segments values puts) w ≡ true
unfolding last_segment
last_segment-is_one values [] w h = or_left (is_mix values w) false h
last_segment-is_one values (put ∷ puts) w h = elim (cases_Bool put.reliable) [
  | inl reliable ↦ rw reliable (or_right (is_mix values w) (is_mix_of_segment (segments (put.value ∷ []) puts) w) (last_segment-is_one (put.value ∷ []) puts w (rw reliable at h)))
  | inr ordinary ↦ rw ordinary (last_segment-is_one (values ++ put.value ∷ []) puts w (rw ordinary at h))
]

-- where no put is reliable, the last segment is the only one
pub last_segment-more : (values : List Block) (puts : List Put) (w : Block) → some_reliable puts ≡ false → is_mix values w ≡ true → is_mix (last_segment values puts) w ≡ true
unfolding last_segment
last_segment-more values [] w none h = h
last_segment-more values (put ∷ puts) w none h =
    let parts = or_parts put.reliable (some_reliable puts) none in
    rw parts.0 (last_segment-more (values ++ put.value ∷ []) puts w parts.1 (is_mix-more values (put.value ∷ []) w h))

-- the last value is in the last segment
pub last_segment-last : (values : List Block) (v : Block) (puts : List Put) → is_mix (last_segment (values ++ v ∷ []) puts) (last_value v puts) ≡ true
unfolding last_segment
last_segment-last values v [] = is_mix-further values (v ∷ []) v (is_mix-own v)
last_segment-last values v (put ∷ puts) = elim (cases_Bool put.reliable) [
  | inl reliable ↦ rw reliable (last_segment-last [] put.value puts)
  | inr ordinary ↦ rw ordinary (last_segment-last (values ++ v ∷ []) put.value puts)
]

pub last_value-put : (v : Block) (puts : List Put) (put : Put) → last_value v (puts ++ put ∷ []) ≡ put.value
last_value-put v [] put = refl
last_value-put v (first ∷ puts) put = last_value-put first.value puts put

pub some_reliable-put : (puts : List Put) (put : Put) → some_reliable (puts ++ put ∷ []) ≡ (some_reliable puts || put.reliable)
some_reliable-put [] put = or-false put.reliable
some_reliable-put (first ∷ puts) put = elim (cases_Bool first.reliable) [
  | inl reliable ↦ rw reliable refl
  | inr ordinary ↦ rw ordinary (some_reliable-put puts put)
]

-- what is shown of a sector

pub shown-left : (whole : Bool) (start : Block) (puts : List Put) (w : Block) → IsShown whole start puts w → is_mix_of_segment (segments (start ∷ []) puts) w ≡ true
shown-left true start puts w h = h
shown-left false start puts w h = last_segment-is_one (start ∷ []) puts w h

-- at the start of its epoch
pub shown-start : (whole : Bool) (start : Block) (puts : List Put) → whole ≡ some_reliable puts → IsShown whole start puts start
shown-start true start puts same = segments-start (start ∷ []) puts start (is_mix-own start)
shown-start false start puts same = last_segment-more (start ∷ []) puts start (sym same) (is_mix-own start)

-- once the last put was programmed
pub shown-last : (whole : Bool) (start : Block) (puts : List Put) → IsShown whole start puts (last_value start puts)
shown-last true start puts = segments-last [] start puts (last_value start puts) (is_mix-own (last_value start puts))
shown-last false start puts = last_segment-last [] start puts

-- after a program in place that failed or was cut
pub shown-torn : (whole : Bool) (start : Block) (puts : List Put) (old w : Block) → whole ≡ false → IsShown whole start puts old → IsMix old (last_value start puts) w → IsShown whole start puts w
shown-torn true start puts old w never h torn = absurd (both_ways true never refl)
shown-torn false start puts old w never h torn = is_mix-torn (last_segment (start ∷ []) puts) old (last_value start puts) w h (last_segment-last [] start puts) torn

-- under one put more

shown_as : (whole same : Bool) (start : Block) (puts : List Put) (w : Block) → whole ≡ same → IsShown whole start puts w → IsShown same start puts w
shown_as true true start puts w is h = h
shown_as true false start puts w is h = absurd (both_ways true is refl)
shown_as false true start puts w is h = absurd (both_ways false refl is)
shown_as false false start puts w is h = h

parted-ordinary : (segment : List Block) (put : Put) → put.reliable ≡ false → parted segment put ≡ segment ++ put.value ∷ []
parted-ordinary segment put ordinary = rw ordinary refl

pub shown-put : (whole : Bool) (start : Block) (puts : List Put) (put : Put) (w : Block) → IsShown whole start puts w → IsShown (whole || put.reliable) start (puts ++ put ∷ []) w
shown-put true start puts put w h = segments-put (start ∷ []) puts put w h
shown-put false start puts put w h = elim (cases_Bool put.reliable) [
  | inl reliable ↦ shown_as true put.reliable start (puts ++ put ∷ []) w (sym reliable) (segments-put (start ∷ []) puts put w (last_segment-is_one (start ∷ []) puts w h))
  | inr ordinary ↦
      let last : last_segment (start ∷ []) (puts ++ put ∷ []) ≡ last_segment (start ∷ []) puts ++ put.value ∷ [] = last_segment-put (start ∷ []) puts put ∙ parted-ordinary (last_segment (start ∷ []) puts) put ordinary in
      shown_as false put.reliable start (puts ++ put ∷ []) w (sym ordinary) (rw last (is_mix-more (last_segment (start ∷ []) puts) (put.value ∷ []) w h))
]
