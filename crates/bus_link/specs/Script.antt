-- A bus whose faults and whose answers to polls are told beforehand, and what its calls leave.
use Rattle.std.specs.Prelude.{◌≡◌, ◌≤◌, ℕ, ◌+◌, ◌-◌, ◌^◌, ◌==◌, nat_lt, List, [], ◌∷◌, ◌++◌, length, Option, None, if◌then◌else◌, slice_get, slice_index_or, min}
use Rattle.circular_buffer.specs.Buffer.{keep_last}
use Rattle.storage_model.specs.Count.{Count}
use Rattle.storage_model.specs.declared.faults.BusKind.{BusKind}
use Rattle.storage_model.specs.declared.faults.Hit.{Hit}
use Rattle.cmd_words.specs.declared.command.Command.{Command}
use Rattle.cmd_words.specs.Command.{index_of, argument_of}
use Rattle.storage_model.specs.Faults.{IsValidHits}
use Rattle.bus_link.specs.Hits.{hit_of, raised, IsPast}

-- `used`: how many words of polls were used. `recent`: the last 32 commands by index and argument, the newest last.
pub record Script : Type 0 where
  pub hits : List Hit
  pub ready : List ℕ
  pub used : ℕ
  pub sent : ℕ
  pub faults : ℕ
  pub hit : Option BusKind
  pub recent : List (ℕ × ℕ)

-- before the first command
abbrev pub at_start : List Hit → List ℕ → Script
at_start hits ready = record { hits = hits; ready = ready; used = 0; sent = 0; faults = 0; hit = None; recent = [] }

-- a command counted, remembered, and its fault
abbrev pub armed : Script → Command → ℕ → Script
armed s command blocks = record s {
  sent = raised s.sent;
  hit = hit_of s.hits (raised s.sent) command blocks;
  recent = keep_last 32 (s.recent ++ (index_of command, argument_of command) ∷ []);
}

-- a bus fault counted
abbrev pub struck : Script → Script
struck s = record s { faults = min (s.faults + 1) (2 ^ 64 - 1) }

-- how often the bus failed: a counter of 64 bits stays at its last value
abbrev pub bus_count : Script → Count
bus_count s = record { value = s.faults; stands = (s.faults == 2 ^ 64 - 1) }

-- the word of the next poll: all ones where none is left
abbrev pub next_word : Script → ℕ
next_word s = slice_index_or s.ready s.used (2 ^ 32 - 1)

-- that word used
abbrev pub word_used : Script → Script
word_used s = if nat_lt s.used (length s.ready) then record s { used = s.used + 1 } else s

-- the k-th newest of a list, 0 the newest
abbrev pub newest : {A : Type 0} → List A → ℕ → Option A
newest xs k = if nat_lt k (length xs) then slice_get xs (length xs - k - 1) else None

-- what a script keeps: the place is past the faults of smaller numbers, and 32 commands are remembered
pub record IsKept (hits : List Hit) (place : ℕ) (ready : List ℕ) (used sent capacity : ℕ) : Type 0 where
  pub valid : IsValidHits hits
  pub past : IsPast hits sent place
  pub within : used ≤ length ready
  pub remembers : capacity ≡ 32
