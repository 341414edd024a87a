-- What is near a state: it depends on contents and marks, and on the command that is due with its job.
use Rattle.std.proofs.Common.{◌≡◌, ◌∙◌, ◌≤◌, ℕ, arith, Bool, true, false, cond, List, [], ◌∷◌, ◌++◌, Option, None, Some, refl, ap, sym, subst}
use Rattle.std.specs.Prelude.{if◌then◌else◌, min}
use Rattle.std.proofs.Math.Nat.{min-eq_left}
use Rattle.std.proofs.lemmas.Bool.{false≢true}
use Rattle.std.proofs.lemmas.List.{append-nil}
use Rattle.storage_model.specs.Left.{is_left}
use Rattle.storage_model.specs.declared.block.Block.{Block}
use Rattle.storage_model.specs.declared.faults.Letter.{Letter}
use Rattle.storage_model.specs.declared.faults.Letter.TheVariants.{Host as HostActs, Engine as EngineActs, Card as CardActs, Cut as PowerActs}
use Rattle.storage_model.specs.declared.plan.Fill.{Fill}
use Rattle.storage_model.specs.declared.plan.Job.{Job}
use Rattle.storage_model.specs.declared.plan.Job.TheVariants.{Read, Write, Flush, Barrier, Status}
use Rattle.storage_machine.specs.Commands.{due, job_on}
use Rattle.storage_machine.specs.Cuts.{is_due}
use Rattle.storage_machine.specs.Host.{has_work, is_silent, recovery_step}
use Rattle.storage_machine.specs.declared.commands.DueCommand.{DueCommand}
use Rattle.storage_machine.specs.declared.commands.DueCommand.TheVariants.{Idle, Address, Params, Direct, Execute, Poll}
use Rattle.storage_machine.specs.declared.state.Event.{Event}
use Rattle.storage_machine.specs.declared.state.Event.TheVariants.{Untold, Told, Due}
use Rattle.storage_machine.specs.declared.state.Owed.{Owed}
use Rattle.storage_machine.specs.declared.state.Owed.TheVariants.{Nothing}
use Rattle.storage_machine.specs.declared.state.State.{State}
use Rattle.trace_effects.specs.Effects.{begun}
use Rattle.trace_effects.specs.Phases.{puts_of}
use Rattle.world_state.specs.Stands.{IsNear, first_puts, puts_on}
use Rattle.front_laws.specs.Fronts.{KeepsNear}

-- no blocks are no puts
no_puts_of : (blocks : List Block) (sector : ℕ) (fill : Fill) (reliable : Bool) → puts_of blocks sector fill reliable 0 ≡ []
unfolding puts_of
no_puts_of blocks sector fill reliable = refl

no_puts_on : (blocks : List Block) (job : Job) → puts_on blocks job 0 ≡ []
no_puts_on blocks (Read sector count high) = refl
no_puts_on blocks (Write sector count fill forced reliable high) =
    let few : 0 ≤ count = omega arith in
    ap (puts_of blocks sector fill reliable) (min-eq_left few) ∙ no_puts_of blocks sector fill reliable
no_puts_on blocks Flush = refl
no_puts_on blocks Barrier = refl
no_puts_on blocks Status = refl

no_puts : (s : State) (command : DueCommand) → first_puts s command 0 ≡ []
no_puts s Idle = refl
no_puts s (Address tag) = refl
no_puts s (Params tag) = refl
no_puts s (Direct tag) = refl
no_puts s (Execute tag) = no_puts_on s.plan.blocks (job_on s tag)
no_puts s Poll = refl

-- what may be left is near
pub near_left : (s : State) (pages : List Block) → is_left s.base s.pend pages ≡ true → IsNear s pages
near_left s pages h = record {
  count = 0;
  near = subst (λ puts. is_left s.base (s.pend ++ puts) pages ≡ true) (sym (no_puts s (due s))) (subst (λ pend. is_left s.base pend pages ≡ true) (sym (append-nil s.pend)) h);
}

-- letters, event and what is owed don't matter
pub keeps_near : KeepsNear
unfolding due
keeps_near s letters event owed pages h = record { count = h.count; near = h.near }

-- an event that begins
near_event : (s : State) (event : Event) (pages : List Block) → IsNear s pages → IsNear (record s { owed = Nothing; event = event }) pages
unfolding due
near_event s event pages h = record { count = h.count; near = h.near }

near_card : (s : State) (event : Event) (pages : List Block) → IsNear s pages → IsNear (record s { owed = Nothing; event = event; staged = true }) pages
unfolding due
near_card s event pages h = record { count = h.count; near = h.near }

pub near_begun_engine : (s : State) (pages : List Block) → IsNear s pages → IsNear (begun s EngineActs) pages
unfolding begun
near_begun_engine s pages h = near_event s (Told EngineActs) pages h

pub near_begun_card : (s : State) (pages : List Block) → IsNear s pages → IsNear (begun s CardActs) pages
unfolding begun
near_begun_card s pages h = near_card s (Told CardActs) pages h

pub near_begun_power : (s : State) (pages : List Block) → IsNear s pages → IsNear (begun s PowerActs) pages
unfolding begun
near_begun_power s pages h = near_event s (if is_due (record s { owed = Nothing }) then Due else Told PowerActs) pages h

host_if : (s : State) (silent : Bool) (event : Event) (pages : List Block) → silent ≡ false → IsNear s pages
    → IsNear (if silent then record (recovery_step (record s { owed = Nothing })) { event = Untold } else record s { owed = Nothing; event = event }) pages
host_if s true event pages e h = absurd (false≢true (sym e))
host_if s false event pages e h = near_event s event pages h

-- of the host, where no silent step of a recovery comes
pub near_begun_host : (s : State) (pages : List Block) → is_silent s.recovery ≡ false → IsNear s pages → IsNear (begun s HostActs) pages
unfolding begun
near_begun_host s pages e h = host_if s (is_silent s.recovery) (if has_work (record s { owed = Nothing }) then Told HostActs else Untold) pages e h
