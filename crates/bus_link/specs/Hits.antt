-- The bus faults that a script has: which of them befalls a command. A lost command, a response that does not come and
-- failing data are what a host controller reports as the timeouts and CRC errors of command and data.
use Rattle.std.specs.Prelude.{◌<◌, ◌≤◌, ℕ, ◌+◌, ◌-◌, ◌^◌, ◌==◌, ◌&&◌, nat_le, Bool, true, false, List, length, Option, Some, None, if◌then◌else◌, slice_index_or, min}
use Rattle.std.specs.List.{find}
use Rattle.storage_model.specs.declared.faults.BusKind.{BusKind}
use Rattle.storage_model.specs.declared.faults.BusKind.TheVariants.{Lost, NoResp, Bad, Late}
use Rattle.storage_model.specs.declared.faults.Hit.{Hit}
use Rattle.cmd_words.specs.declared.command.Command.{Command}
use Rattle.cmd_words.specs.declared.command.Command.TheVariants.{Execute}

-- the number of the next command: a number that has come to the last stays
abbrev pub raised : ℕ → ℕ
raised n = min (n + 1) (2 ^ 32 - 1)

-- whether a command begins a data phase
abbrev pub is_execute : Command → Bool
is_execute (Execute read task) = true
is_execute _ = false

-- whether a fault is of the kind of a command: data fails at a block that is moved, and only a data phase has a late end
abbrev pub befalls : BusKind → Command → ℕ → Bool
befalls Lost command blocks = true
befalls NoResp command blocks = true
befalls (Bad block) command blocks = is_execute command && nat_le block blocks
befalls Late command blocks = is_execute command

-- the fault of a number
abbrev pub fault_of : List Hit → ℕ → Option Hit
fault_of hits n = find (λ hit. hit.n == n) hits

-- a fault, if it is of the kind of the command
abbrev pub if_of_kind : Option Hit → Command → ℕ → Option BusKind
if_of_kind None command blocks = None
if_of_kind (Some hit) command blocks = if befalls hit.kind command blocks then Some hit.kind else None

-- the fault that befalls the command of a number, which has so many blocks
abbrev pub hit_of : List Hit → ℕ → Command → ℕ → Option BusKind
hit_of hits n command blocks = if_of_kind (fault_of hits n) command blocks

-- a place in the list, before which each fault has a smaller number
pub record IsPast (hits : List Hit) (n place : ℕ) : Type 0 where
  pub within : place ≤ length hits
  pub before : (k : ℕ) (none : Hit) → k < place → (slice_index_or hits k none).n < n
