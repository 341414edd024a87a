-- The commands' words (JESD84-B51, section 6.10.4).
use Rattle.std.specs.Prelude.{◌≡◌, ◌≢◌, ◌⊎◌, ⊤, ℕ, ◌<◌, ◌^◌, ◌==◌, Bool, true, false, List, [], ◌∷◌, Contains, Result, Ok, Err, if◌then◌else◌}
use Rattle.std.specs.Int.{from_bool}
use Rattle.cq_words.specs.declared.table.FieldValue.{FieldValue}
use Rattle.cq_words.specs.Table.{number_in, is_set, word_with}
use Rattle.cmd_words.specs.declared.command.Command.{Command}
use Rattle.cmd_words.specs.declared.command.Command.TheVariants.{Switch, Status, Params, Address, Execute, Manage, Other}
use Rattle.cmd_words.specs.declared.command.Illegal.{Illegal}
use Rattle.cmd_words.specs.declared.command.Task.{Task}
use Rattle.cmd_words.specs.Argument.{at, blocks_bits, forced_bit, high_bit, operation_bits, queue_bit, rca_bits, read_bit, reliable_bit, task_bits}

-- the index of a command (MMC_SWITCH, MMC_SEND_STATUS and so on in Linux)
abbrev pub index_of : Command → ℕ
index_of (Switch arg) = 6
index_of (Status queue rca) = 13
index_of (Params task) = 44
index_of (Address start) = 45
index_of (Execute read task) = if read then 46 else 47
index_of (Manage whole task) = 48
index_of (Other index arg) = index

-- the fields of CMD44; the context and the tag request are 0
abbrev pub task_table : Task → List FieldValue
task_table task =
    at reliable_bit (from_bool task.reliable) ∷ at read_bit (from_bool task.read) ∷ at forced_bit (from_bool task.forced)
    ∷ at high_bit (from_bool task.high) ∷ at task_bits task.task ∷ at blocks_bits task.blocks ∷ []

-- the fields of CMD13
abbrev pub status_table : Bool → ℕ → List FieldValue
status_table queue rca = at rca_bits rca ∷ at queue_bit (from_bool queue) ∷ []

-- the field of CMD46 and CMD47
abbrev pub execute_table : ℕ → List FieldValue
execute_table task = at task_bits task ∷ []

-- the fields of CMD48: operation 1 discards the whole queue, operation 2 one task
abbrev pub manage_table : Bool → ℕ → List FieldValue
manage_table whole task = if whole then at operation_bits 1 ∷ [] else at task_bits task ∷ at operation_bits 2 ∷ []

-- the argument of a command; a number that is too great for its field is cut to its low bits
abbrev pub argument_of : Command → ℕ
argument_of (Switch arg) = arg
argument_of (Status queue rca) = word_with (status_table queue rca)
argument_of (Params task) = word_with (task_table task)
argument_of (Address start) = start
argument_of (Execute read task) = word_with (execute_table task)
argument_of (Manage whole task) = word_with (manage_table whole task)
argument_of (Other index arg) = arg

-- the task that the argument of CMD44 names
abbrev pub task_in : ℕ → Task
task_in arg = record {
  task = number_in arg task_bits;
  read = is_set arg read_bit;
  blocks = number_in arg blocks_bits;
  forced = is_set arg forced_bit;
  reliable = is_set arg reliable_bit;
  high = is_set arg high_bit;
}

-- what the argument of CMD48 has discarded
abbrev pub managed : ℕ → Result Command Illegal
managed arg =
    if number_in arg operation_bits == 1 then Ok (Manage true 0)
    else if number_in arg operation_bits == 2 then Ok (Manage false (number_in arg task_bits))
    else Err (record {})

-- the command of an index and an argument
unfoldable pub decoded : (index arg : ℕ) → Result Command Illegal
decoded index arg =
    if index == 6 then Ok (Switch arg)
    else if index == 13 then Ok (Status (is_set arg queue_bit) (number_in arg rca_bits))
    else if index == 44 then Ok (Params (task_in arg))
    else if index == 45 then Ok (Address arg)
    else if index == 46 then Ok (Execute true (number_in arg task_bits))
    else if index == 47 then Ok (Execute false (number_in arg task_bits))
    else if index == 48 then managed arg
    else Err (record {})

-- words that are no command: another index, or a CMD48 of another operation
abbrev pub IsIllegal : (index arg : ℕ) → Type 0
IsIllegal index arg =
    (Contains (6 ∷ 13 ∷ 44 ∷ 45 ∷ 46 ∷ 47 ∷ 48 ∷ []) index → ⊥)
    ⊎ ((index ≡ 48) × (number_in arg operation_bits ≢ 1) × (number_in arg operation_bits ≢ 2))

-- the words say the whole command: its task has a number of 5 bits, which is 0 where the whole queue is discarded
abbrev pub IsExact : Command → Type 0
IsExact (Params task) = task.task < 32
IsExact (Execute read task) = task < 32
IsExact (Manage true task) = task ≡ 0
IsExact (Manage false task) = task < 32
IsExact (Other index arg) = ⊥
IsExact _ = ⊤

-- the numbers of a command that fill a part of its argument have the type that they are kept in
abbrev pub IsInRange : Command → Type 0
IsInRange (Status queue rca) = rca < 2 ^ 16
IsInRange (Params task) = task.blocks < 2 ^ 16
IsInRange _ = ⊤
