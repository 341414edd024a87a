-- The slots of the host interface that are rung, in order of ringing, and how far the task of each has come. The words
-- of the task doorbell and of the device pending tasks follow from them (host interface annex of JESD84-B51; CQHCI_TDBR
-- and CQHCI_DPT of drivers/mmc/host/cqhci.h).
use Rattle.std.specs.Prelude.{◌≡◌, ◌≢◌, ◌<◌, ℕ, zero, suc, ◌^◌, ◌==◌, ◌&&◌, Bool, true, false, not, List, [], ◌∷◌, ◌++◌, map, if◌then◌else◌}
use Rattle.std.specs.Int.{bit_at}
use Rattle.std.specs.Int.RustNames.{bit_or}
use Rattle.std.specs.List.{All, AllPairs, filter, find, fold}
use Rattle.std.specs.Option.{option_map_or}
use Rattle.cq_regs.specs.declared.slots.Progress.{Progress}
use Rattle.cq_regs.specs.declared.slots.Progress.TheVariants.{Idle, Rung, Named, Sent, Ready, Active}
use Rattle.cq_regs.specs.declared.slots.Ringed.{Ringed}

-- whether a slot is rung
abbrev pub is_rung : Progress → Bool
is_rung Idle = false
is_rung _ = true

-- whether the task of a slot is in the queue of the card, or was taken out of it and is not complete
abbrev pub is_sent : Progress → Bool
is_sent Sent = true
is_sent Ready = true
is_sent Active = true
is_sent _ = false

-- whether a slot is named, and its task not complete
abbrev pub is_begun : Progress → Bool
is_begun Idle = false
is_begun Rung = false
is_begun _ = true

-- whether a slot waits for the engine's next command
abbrev pub waits : Progress → Bool
waits Rung = true
waits Named = true
waits Ready = true
waits _ = false

-- what a slot that waits comes to
abbrev pub next : Progress → Progress
next Rung = Named
next Named = Sent
next Ready = Active
next progress = progress

-- whether a bit of a word is 1
abbrev pub has_bit : (word slot : ℕ) → Bool
has_bit word slot = bit_at word slot == 1

-- how far the task of a slot has come: a slot that is not in the list is idle
abbrev pub progress_of : List Ringed → ℕ → Progress
progress_of ring slot = option_map_or (λ r. r.progress) (find (λ r. r.slot == slot) ring) Idle

-- no slot is twice in the list, each is below 32, and none is idle
pub record IsRing (ring : List Ringed) : Type 0 where
  pub apart : AllPairs (λ r s. r.slot ≢ s.slot) ring
  pub below : All (λ r. r.slot < 32) ring
  pub started : All (λ r. is_rung r.progress ≡ true) ring

-- a word with the bit of a slot
abbrev pub with_slot : ℕ → Ringed → ℕ
with_slot word r = bit_or word (2 ^ r.slot)

-- the word with the bit of each slot in a list
abbrev pub slots_word : List Ringed → ℕ
slots_word ring = fold with_slot 0 ring

-- the slots that are sent
abbrev pub sent_slots : List Ringed → List Ringed
sent_slots ring = filter (λ r. is_sent r.progress) ring

-- the first n slots, in slot order
unfoldable pub first_slots : ℕ → List ℕ
first_slots zero = []
first_slots (suc n) = first_slots n ++ n ∷ []

abbrev pub newly_rung : ℕ → Ringed
newly_rung slot = record { slot = slot; progress = Rung }

-- whether a write of the doorbell rings a slot: its bit is 1, and it is not rung already
abbrev pub rings : List Ringed → (doorbells slot : ℕ) → Bool
rings ring doorbells slot = has_bit doorbells slot && not (is_rung (progress_of ring slot))

-- those of the first n slots that have their bit in a word, rung after all others
abbrev pub with_first : List Ringed → (word n : ℕ) → List Ringed
with_first ring word n = ring ++ map newly_rung (filter (has_bit word) (first_slots n))

-- no slot of the word is rung
abbrev pub AreNotRung : List Ringed → ℕ → Type 0
AreNotRung ring word = (slot : ℕ) → slot < 32 → has_bit word slot ≡ true → is_rung (progress_of ring slot) ≡ false

-- the slots that a write of the doorbell rings come after all others, in slot order
abbrev pub rung : List Ringed → ℕ → List Ringed
rung ring doorbells = ring ++ map newly_rung (filter (rings ring doorbells) (first_slots 32))

-- an entry moved on, if it is that of the slot
abbrev pub moved_at : ℕ → Ringed → Ringed
moved_at slot r = if r.slot == slot then record r { progress = next r.progress } else r

-- one slot moved on
abbrev pub advanced : List Ringed → ℕ → List Ringed
advanced ring slot = map (moved_at slot) ring

-- ready, if sent
abbrev pub readied : Progress → Progress
readied Sent = Ready
readied progress = progress

-- an entry readied, if its slot has its bit in the word
abbrev pub readied_by : ℕ → Ringed → Ringed
readied_by word r = if has_bit word r.slot then record r { progress = readied r.progress } else r

-- the sent slots of a word made ready
abbrev pub made_ready : List Ringed → ℕ → List Ringed
made_ready ring word = map (readied_by word) ring

-- without one slot
abbrev pub without : List Ringed → ℕ → List Ringed
without ring slot = filter (λ r. not (r.slot == slot)) ring

-- without the slots of a word
abbrev pub without_slots : List Ringed → ℕ → List Ringed
without_slots ring word = filter (λ r. not (has_bit word r.slot)) ring

-- each slot comes to what is said of it and of how far it was
abbrev pub Moves : (old new : List Ringed) → (ℕ → Progress → Progress) → Type 0
Moves old new after = (slot : ℕ) → progress_of new slot ≡ after slot (progress_of old slot)
