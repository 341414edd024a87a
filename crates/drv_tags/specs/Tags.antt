-- The tags of the driver: each task that it gives to the engine takes a slot of the task descriptor list, by its tag
-- (request tags of the block layer, and the slots of drivers/mmc/host/cqhci-core.c).
use Rattle.std.specs.Prelude.{◌≡◌, ℕ, ◌<◌, ◌≤◌, ◌-◌, ◌^◌, ◌==◌, Bool, true, not, Option, if◌then◌else◌}
use Rattle.std.specs.Int.{bit_at}
use Rattle.std.specs.Int.RustNames.{bit_and, bit_or}
use Rattle.std.specs.List.{find, range_with_len}

-- how many tags there are, and the word with the bit of each used one
pub record TagSet : Type 0 where
  pub depth : ℕ
  pub used : ℕ

-- whether a tag is used
abbrev pub is_used : TagSet → ℕ → Bool
is_used tags tag = bit_at tags.used tag == 1

-- there are 31 at most, and a used one is one of them
pub record IsTagSet (tags : TagSet) : Type 0 where
  pub depth : tags.depth ≤ 31
  pub below : (tag : ℕ) → is_used tags tag ≡ true → tag < tags.depth

-- none is used
abbrev pub none_used : ℕ → TagSet
none_used depth = record { depth = depth; used = 0 }

-- the first tag that is not used
abbrev pub lowest_free : TagSet → Option ℕ
lowest_free tags = find (λ tag. not (is_used tags tag)) (range_with_len 0 tags.depth)

-- each tag below a number is used
abbrev pub AreUsedBelow : TagSet → ℕ → Type 0
AreUsedBelow tags bound = (tag : ℕ) → tag < bound → is_used tags tag ≡ true

-- one more tag used
abbrev pub with_tag : TagSet → ℕ → TagSet
with_tag tags tag = record tags { used = bit_or tags.used (2 ^ tag) }

-- one tag no longer used
abbrev pub without_tag : TagSet → ℕ → TagSet
without_tag tags tag = record tags { used = bit_and tags.used (2 ^ 32 - 1 - 2 ^ tag) }

-- one tag comes to be used or not, and each other stays
abbrev pub ChangesTag : (old new : TagSet) → ℕ → Bool → Type 0
ChangesTag old new tag used = (other : ℕ) → is_used new other ≡ (if other == tag then used else is_used old other)
