-- The fault of the bus that befalls the next command.
use Rattle.std.proofs.Common.{◌≡◌, ℕ, ◌==◌, Bool, cond, List, refl, sym, ap, ◌∙◌}
use Rattle.std.specs.Prelude.{Option, Some, None, option_map}
use Rattle.std.specs.List.{find}
use Rattle.storage_model.specs.declared.faults.BusKind.{BusKind}
use Rattle.storage_model.specs.declared.faults.BusKind.TheVariants.{Lost, NoResp, Bad, Late}
use Rattle.storage_model.specs.declared.faults.Hit.{Hit}
use Rattle.storage_machine.specs.Commands.{due, execute_blocks, hit, meets, met, next_number}
use Rattle.storage_machine.specs.declared.state.State.{State}
use Rattle.bus_link.specs.Hits.{befalls, hit_of, if_of_kind}
use Rattle.cmd_words.specs.declared.command.Command.{Command}
use Rattle.cmd_words.specs.declared.command.Command.TheVariants.{Execute}

-- the kind of the fault that has a number
abbrev pub kind_at : List Hit → ℕ → Option BusKind
kind_at hits n = option_map (λ fault. fault.kind) (find (λ fault. fault.n == n) hits)

pub hit_is : (s : State) (hits : List Hit) (n : ℕ) → s.faults.bus ≡ hits → next_number s ≡ n → hit s ≡ met (execute_blocks s (due s)) (kind_at hits n)
unfolding hit
hit_is s hits n same number =
    ap (λ n. met (execute_blocks s (due s)) (kind_at s.faults.bus n)) number
    ∙ ap (λ hits. met (execute_blocks s (due s)) (kind_at hits n)) same

kinds_alike : (command : Command) (blocks : ℕ) (kind : BusKind) → ((k : BusKind) → befalls k command blocks ≡ meets (Some blocks) k)
    → cond (meets (Some blocks) kind) (Some kind) None ≡ cond (befalls kind command blocks) (Some kind) None
kinds_alike command blocks kind alike = ap (λ b. cond b (Some kind) None) (sym (alike kind))

met_by : (command : Command) (blocks : ℕ) (fault : Option Hit) → ((k : BusKind) → befalls k command blocks ≡ meets (Some blocks) k)
    → met (Some blocks) (option_map (λ fault. fault.kind) fault) ≡ if_of_kind fault command blocks
met_by command blocks None alike = refl
met_by command blocks (Some fault) alike = kinds_alike command blocks fault.kind alike

executes : (read : Bool) (slot blocks : ℕ) (kind : BusKind) → befalls kind (Execute read slot) blocks ≡ meets (Some blocks) kind
executes read slot blocks Lost = refl
executes read slot blocks NoResp = refl
executes read slot blocks (Bad block) = refl
executes read slot blocks Late = refl

-- the fault of a number befalls the command of a data phase to the bus as to the storage machine
pub execute_met : (hits : List Hit) (n slot blocks : ℕ) (read : Bool) → met (Some blocks) (kind_at hits n) ≡ hit_of hits n (Execute read slot) blocks
execute_met hits n slot blocks read = met_by (Execute read slot) blocks (find (λ hit. hit.n == n) hits) (executes read slot blocks)
