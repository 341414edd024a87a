-- What the path says of the state that it stands for: the command that is due, the fault that befalls it, and what the host has to do.
use Rattle.std.specs.Prelude.{◌≡◌, ℕ, ◌==◌, Bool, true, false, if◌then◌else◌, Option, None, Some, is_some, option_map, slice_get, slice_index_or}
use Rattle.std.specs.List.{find}
use Rattle.std.specs.Result.{result_ok}
use Rattle.bus_link.specs.Hits.{raised}
use Rattle.storage_model.specs.declared.faults.BusKind.{BusKind}
use Rattle.cq_schedule.specs.Held.{remembered}
use Rattle.cq_schedule.specs.Meaning.{IsDue}
use Rattle.cq_schedule.specs.declared.rules.Due.{Due}
use Rattle.cq_schedule.specs.declared.rules.Due.TheVariants as engine
use Rattle.storage_machine.specs.Commands.{due, execute_blocks, hit, met}
use Rattle.storage_machine.specs.Host.{has_work as has_host_work, is_irq_due, next_issue, to_do}
use Rattle.storage_machine.specs.Jobs.{is_direct}
use Rattle.storage_machine.specs.Slots.{mask_of, slot_at}
use Rattle.storage_machine.specs.declared.slots.Question.TheVariants.{Done as IsDone, Issued as IsIssued}
use Rattle.storage_machine.specs.declared.commands.DueCommand.{DueCommand}
use Rattle.storage_machine.specs.declared.commands.DueCommand.TheVariants as machine
use Rattle.storage_machine.specs.declared.state.State.{State}
use Rattle.cut_order.specs.Order.{OrderState}
use Rattle.drv_core.specs.Work.{has_work, is_noticed}
use Rattle.drv_jobs.specs.Next.{due_of}
use Rattle.drv_jobs.specs.declared.next.Due.{Due as NextIssue}
use Rattle.world_state.specs.Path.{PathState, holder, is_busy, job, runs}
use Rattle.world_state.specs.Reading.{Context, state_of, task_at}
use Rattle.world_state.specs.Stands.{sent_of}
use Rattle.world_state.specs.Ties.{AreTied}

abbrev pub served_by : PathState → ℕ → Option ℕ → DueCommand
served_by p slot None = machine.Params slot
served_by p slot (Some id) = if is_direct (job p id) then machine.Direct slot else machine.Params slot

-- the command that the engine has to send, as the storage machine names it
abbrev pub command_due : PathState → Due → DueCommand
command_due p engine.Rest = machine.Idle
command_due p engine.Tick = machine.Idle
command_due p (engine.Serve slot) = served_by p slot (holder p slot)
command_due p (engine.Address slot) = machine.Address slot
command_due p (engine.Execute slot) = machine.Execute slot
command_due p engine.Poll = machine.Poll
command_due p (engine.Block slot k) = machine.Execute slot
command_due p (engine.Close slot) = machine.Execute slot

-- the fault of the bus that has the number of the next command
abbrev pub next_fault : PathState → Option BusKind
next_fault p = option_map (λ fault. fault.kind) (find (λ fault. fault.n == raised p.script.sent) p.script.hits)

-- of the engine
pub record EngineLaws (p : PathState) (o : OrderState) (c : Context) : Type 0 where
  pub command : (d : Due) → IsDue (remembered p.engine.held p.regs) p.regs p.memory d → due (state_of p o c) ≡ command_due p d
  pub fault : is_busy p ≡ false → hit (state_of p o c) ≡ met (execute_blocks (state_of p o c) (due (state_of p o c))) (next_fault p)
  pub under_way : is_busy p ≡ true → hit (state_of p o c) ≡ p.script.hit

-- of the host
pub record HostLaws (p : PathState) (o : OrderState) (c : Context) : Type 0 where
  pub work : has_host_work (state_of p o c) ≡ has_work p.driver p.regs
  pub noticed : is_irq_due (state_of p o c) ≡ is_noticed p.regs
  pub mask : mask_of IsDone (state_of p o c).slots ≡ p.regs.completed
  pub issue : runs p ≡ true → next_issue (state_of p o c) ≡ option_map (λ next. (next.id, next.tag)) (result_ok (due_of p.driver.requests))

-- of both
pub record StateLaws : Type 0 where
  pub engine : (p : PathState) (o : OrderState) (c : Context) → AreTied p → p.script.sent ≡ sent_of (is_busy p) c.n → EngineLaws p o c
  pub host : (p : PathState) (o : OrderState) (c : Context) → AreTied p → HostLaws p o c
