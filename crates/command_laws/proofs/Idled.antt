-- Where the engine has a command to send no data phase is under way, and the fault of the next number befalls the command.
use Rattle.std.proofs.Common.{◌≡◌, ◌≢◌, ℕ, Bool, true, false, cond, refl, sym, ◌∙◌, ap}
use Rattle.std.specs.Prelude.{nat_lt, Option, Some, None, is_some, option_map}
use Rattle.std.specs.Option.{MatchOption, option_map_or}
use Rattle.std.proofs.lemmas.Bool.{false≢true}
use Rattle.bus_link.specs.Hits.{befalls, fault_of, hit_of, if_of_kind, raised}
use Rattle.cmd_words.specs.declared.command.Command.{Command}
use Rattle.cq_regs.specs.State.{Registers}
use Rattle.cq_regs.specs.declared.slots.Progress.TheVariants.{Active, Named}
use Rattle.cq_schedule.specs.Held.{Places, remembered}
use Rattle.cq_schedule.specs.Meaning.{IsDue, IsDueThen, next_of_phase, rests}
use Rattle.cq_schedule.specs.Order.{blocks_of, first_at, moved_of}
use Rattle.cq_schedule.specs.declared.rules.Due.{Due}
use Rattle.cq_schedule.specs.declared.rules.Due.TheVariants.{Address, Block, Close, Execute, Poll, Rest, Serve}
use Rattle.host_mem.specs.Memory.{Memory}
use Rattle.storage_machine.specs.Commands.{due, execute_blocks, hit, meets, met}
use Rattle.storage_machine.specs.declared.commands.DueCommand.{DueCommand}
use Rattle.storage_model.specs.declared.faults.BusKind.{BusKind}
use Rattle.storage_model.specs.declared.faults.Hit.{Hit}
use Rattle.cut_order.specs.Order.{OrderState}
use Rattle.world_state.specs.Laws.{EngineLaws, next_fault}
use Rattle.world_state.specs.Path.{PathState, is_busy, under_way}
use Rattle.world_state.specs.Reading.{Context, state_of}

-- a command of the queue is due
abbrev pub is_command : Due → Bool
is_command (Serve slot) = true
is_command (Address slot) = true
is_command (Execute slot) = true
is_command Poll = true
is_command due = false

phase_no_command : (due : Due) (slot moved : ℕ) (more : Bool) → is_command due ≡ true → due ≢ cond more (Block slot moved) (Close slot)
phase_no_command due slot moved true c e = false≢true (sym (ap is_command e) ∙ c)
phase_no_command due slot moved false c e = false≢true (sym (ap is_command e) ∙ c)

active_by : (held : Places) (regs : Registers) (memory : Memory) (due : Due) (resting : Bool) (active named : Option ℕ) → is_command due ≡ true
    → MatchOption (cond resting (Some Rest) (option_map_or (λ slot. Some (next_of_phase held slot)) active (option_map Address named)))
    (IsDueThen held regs memory due) (λ first. due ≡ first)
    → active ≡ None
active_by held regs memory due true active named c is = absurd (false≢true (sym (ap is_command is) ∙ c))
active_by held regs memory due false (Some slot) named c is =
    absurd (phase_no_command due slot (moved_of held slot) (nat_lt (moved_of held slot) (blocks_of held slot)) c is)
active_by held regs memory due false None named c is = refl

way_if : (stopped : Bool) (active : Option ℕ) → active ≡ None → cond stopped None active ≡ None
way_if true active e = refl
way_if false active e = e

pub no_way_yet : (p : PathState) (due : Due) → IsDue (remembered p.engine.held p.regs) p.regs p.memory due → is_command due ≡ true → under_way p ≡ None
no_way_yet p due is c =
    way_if p.regs.stopped (first_at Active p.regs.ring)
    (active_by (remembered p.engine.held p.regs) p.regs p.memory due (rests p.regs) (first_at Active p.regs.ring) (first_at Named p.regs.ring) c is)

pub not_busy : (p : PathState) → under_way p ≡ None → is_busy p ≡ false
not_busy p e = ap is_some e

-- the fault of a number befalls a command of the machine where it befalls that of the engine
met_is : (o : Option Hit) (some : Option ℕ) (command : Command) (blocks : ℕ) → ((kind : BusKind) → meets some kind ≡ befalls kind command blocks)
    → met some (option_map (λ (fault : Hit). fault.kind) o) ≡ if_of_kind o command blocks
met_is None some command blocks f = refl
met_is (Some fault) some command blocks f = ap (λ b. cond b (Some fault.kind) None) (f fault.kind)

pub hit_is : (p : PathState) (o : OrderState) (c : Context) (command : Command) (blocks : ℕ) (dc : DueCommand) → EngineLaws p o c → is_busy p ≡ false
    → due (state_of p o c) ≡ dc → ((kind : BusKind) → meets (execute_blocks (state_of p o c) dc) kind ≡ befalls kind command blocks)
    → hit (state_of p o c) ≡ hit_of p.script.hits (raised p.script.sent) command blocks
hit_is p o c command blocks dc l idle is f =
    l.fault idle ∙ ap (λ x. met (execute_blocks (state_of p o c) x) (next_fault p)) is
    ∙ met_is (fault_of p.script.hits (raised p.script.sent)) (execute_blocks (state_of p o c) dc) command blocks f
