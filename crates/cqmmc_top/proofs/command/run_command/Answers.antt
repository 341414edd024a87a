use Rattle.std.proofs.Common.{◌≡◌, List, ℕ, Option, None, Some, false, refl}
use Rattle.std.specs.Prelude.{IfNone, IfSome}
use Rattle.cqmmc_top.specs.Command.{IsCall, IsCommand, IsLoad, IsMakeable, IsRaw, IsRun, hands_back, reads_first, reads_second}
use Rattle.cqmmc_top.specs.declared.command.Command.{Command}
use Rattle.cqmmc_top.specs.declared.command.Command.TheVariants.{ExtCsd, Load, New, Raw, Run}
use Rattle.cqmmc_top.proofs.command.run_command.Goals as goal

called : (command : Option Command) (words : List (List ℕ)) → IfSome command (λ c. IsCommand c words) → IfNone command ((c : Command) → IsCommand c words → ⊥)
    → IsCall command words
called None words some none = none
called (Some command) words some none = some

makeable : (command : Option Command) (words : List (List ℕ)) → IfSome command (λ c. IsCommand c words) → IfSome command IsMakeable
makeable None words some = tt
makeable (Some Run) words some = tt
makeable (Some ExtCsd) words some = tt
makeable (Some (New sectors)) words some = (some.some, some.most)
makeable (Some Raw) words some = tt
makeable (Some (Load n)) words some = tt

no_first : (command : Option Command) (words : List (List ℕ)) → IsCall command words → (IsRun words → ⊥) → (IsRaw words → ⊥) → reads_first command ≡ false
no_first None words call run raw = refl
no_first (Some Run) words call run raw = absurd (run call)
no_first (Some ExtCsd) words call run raw = refl
no_first (Some (New sectors)) words call run raw = refl
no_first (Some Raw) words call run raw = absurd (raw call)
no_first (Some (Load n)) words call run raw = refl

no_second : (command : Option Command) (words : List (List ℕ)) → IsCall command words → (IsRun words → ⊥) → reads_second command ≡ false
no_second None words call run = refl
no_second (Some Run) words call run = absurd (run call)
no_second (Some ExtCsd) words call run = refl
no_second (Some (New sectors)) words call run = refl
no_second (Some Raw) words call run = refl
no_second (Some (Load n)) words call run = refl

no_world : (command : Option Command) (words : List (List ℕ)) → IsCall command words → (IsRun words → ⊥) → ((n : ℕ) → IsLoad n words → ⊥) → hands_back command ≡ false
no_world None words call run load = refl
no_world (Some Run) words call run load = absurd (run call)
no_world (Some ExtCsd) words call run load = refl
no_world (Some (New sectors)) words call run load = refl
no_world (Some Raw) words call run load = refl
no_world (Some (Load n)) words call run load = absurd (load n call)

pub carry_out-requires : goal.carry_out-requires
carry_out-requires g c = record { makeable = makeable c.command_of.result _ c.command_of.ensures.some }

pub returns-clause-answers : goal.returns-clause-answers
returns-clause-answers g c = c.carry_out.ensures.answers _ (called c.command_of.result _ c.command_of.ensures.some c.command_of.ensures.none)

pub returns-clause-first : goal.returns-clause-first
returns-clause-first g c = λ run raw. c.carry_out.ensures.first (no_first c.command_of.result _ (called c.command_of.result _ c.command_of.ensures.some c.command_of.ensures.none) run raw)

pub returns-clause-second : goal.returns-clause-second
returns-clause-second g c = λ run. c.carry_out.ensures.second (no_second c.command_of.result _ (called c.command_of.result _ c.command_of.ensures.some c.command_of.ensures.none) run)

pub returns-clause-world : goal.returns-clause-world
returns-clause-world g c = λ run load. c.carry_out.ensures.world (no_world c.command_of.result _ (called c.command_of.result _ c.command_of.ensures.some c.command_of.ensures.none) run load)
