-- Which words are commands, and that what is encoded is decoded again.
use Rattle.std.proofs.Common.{◌≡◌, ℕ, ◌^◌, ◌<◌, Bool, true, false, [], ◌∷◌, inl, inr, refl, sym, ap, lit<, get_or, eqb}
use Rattle.std.specs.Prelude.{Ok}
use Rattle.std.specs.Int.{from_bool}
use Rattle.cmd_words.specs.declared.command.Command.{Command}
use Rattle.cmd_words.specs.declared.command.Command.TheVariants.{Switch, Status, Params, Address, Execute, Manage, Other}
use Rattle.cmd_words.specs.declared.command.Task.{Task}
use Rattle.cmd_words.specs.Argument.{rca_bits}
use Rattle.cmd_words.specs.Command.{index_of, argument_of, task_table, status_table, execute_table, manage_table, task_in, decoded, IsIllegal, IsExact, IsInRange}
use Rattle.cq_words.specs.Table.{number_in, word_with, Fits, Holds}
use Rattle.cq_words.proofs.TableLaws.{word_with-holds}

-- an index of the list that isn't CMD48's is a command whatever its argument
pub legal_index : (index arg k : ℕ) → k < 7 → get_or (6 ∷ 13 ∷ 44 ∷ 45 ∷ 46 ∷ 47 ∷ 48 ∷ []) k index ≡ index → (index ≡ 48 → ⊥) → IsIllegal index arg → ⊥
legal_index index arg k below here other illegal = elim illegal [ inl unknown ↦ unknown (k, below, here) | inr operation ↦ other operation.0 ]

-- two tasks with the same parts are one
same_task : (a b : Task) → a.task ≡ b.task → a.read ≡ b.read → a.blocks ≡ b.blocks → a.forced ≡ b.forced → a.reliable ≡ b.reliable → a.high ≡ b.high → a ≡ b
same_task a b task read blocks forced reliable high =
    let task_of : Task → Task = λ (t : Task). record { task = t.task; read = t.read; blocks = t.blocks; forced = t.forced; reliable = t.reliable; high = t.high } in
    let same : task_of a ≡ task_of b = rw (task, read, blocks, forced, reliable, high) in
    same

-- a flag fits one bit
from_bool-lt : (flag : Bool) → from_bool flag < 2
from_bool-lt true = lit< tt
from_bool-lt false = lit< tt

-- and is read from it
from_bool-test : (flag : Bool) (n : ℕ) → n ≡ from_bool flag → eqb n 1 ≡ flag
from_bool-test true n e = ap (λ m. eqb m 1) e
from_bool-test false n e = ap (λ m. eqb m 1) e

-- CMD44: each field is read again
task_in-argument : (task : Task) → task.task < 32 → task.blocks < 2 ^ 16 → task_in (word_with (task_table task)) ≡ task
task_in-argument task small blocks =
    let fits : Fits (task_table task) =
    (from_bool-lt task.reliable, (from_bool-lt task.read, (from_bool-lt task.forced, (from_bool-lt task.high, (small, (blocks, tt)))))) in
    let held : Holds (word_with (task_table task)) (task_table task) = word_with-holds (task_table task) refl fits in
    same_task (task_in (word_with (task_table task))) task
    held.1.1.1.1.0
    (from_bool-test task.read _ held.1.0)
    held.1.1.1.1.1.0
    (from_bool-test task.forced _ held.1.1.0)
    (from_bool-test task.reliable _ held.0)
    (from_bool-test task.high _ held.1.1.1.0)

-- what is encoded is decoded again
pub decoded-encoded : (command : Command) → IsInRange command → IsExact command
    → decoded (index_of command) (argument_of command) ≡ Ok command
unfolding decoded
decoded-encoded (Switch arg) range exact = refl
decoded-encoded (Status queue rca) range exact =
    let held : Holds (word_with (status_table queue rca)) (status_table queue rca) =
    word_with-holds (status_table queue rca) refl (range, (from_bool-lt queue, tt)) in
    let is_queue = from_bool-test queue _ held.1.0 in
    let is_rca : number_in (word_with (status_table queue rca)) rca_bits ≡ rca = held.0 in
    cc
decoded-encoded (Params task) range exact = ap (λ (t : Task). Ok (Params t)) (task_in-argument task exact range)
decoded-encoded (Address start) range exact = refl
decoded-encoded (Execute true task) range exact =
    let held : Holds (word_with (execute_table task)) (execute_table task) = word_with-holds (execute_table task) refl (exact, tt) in
    ap (λ (n : ℕ). Ok (Execute true n)) held.0
decoded-encoded (Execute false task) range exact =
    let held : Holds (word_with (execute_table task)) (execute_table task) = word_with-holds (execute_table task) refl (exact, tt) in
    ap (λ (n : ℕ). Ok (Execute false n)) held.0
decoded-encoded (Manage true task) range exact =
    let held : Holds (word_with (manage_table true task)) (manage_table true task) = word_with-holds (manage_table true task) refl (lit< tt, tt) in
    rw held.0 (ap (λ (n : ℕ). Ok (Manage true n)) (sym exact))
decoded-encoded (Manage false task) range exact =
    let held : Holds (word_with (manage_table false task)) (manage_table false task) =
    word_with-holds (manage_table false task) refl (exact, (lit< tt, tt)) in
    rw (held.1.0, held.0)
decoded-encoded (Other index arg) range exact = absurd exact
