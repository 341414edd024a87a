-- The command that is due.
use Rattle.std.proofs.Common.{◌≡◌, ℕ, Bool, true, false, cond, refl, sym, ap, ◌∙◌}
use Rattle.std.specs.Prelude.{Option, Some, None, is_some, nat_lt}
use Rattle.std.specs.Option.{option_map_or}
use Rattle.storage_machine.specs.Commands.{command_of_tasks, execute_or_poll, first_high as high_first, job_on, next_ready, queue_first}
use Rattle.storage_machine.specs.Jobs.{is_direct}
use Rattle.storage_machine.specs.Slots.{first, has}
use Rattle.storage_machine.specs.declared.commands.DueCommand.{DueCommand}
use Rattle.storage_machine.specs.declared.commands.DueCommand.TheVariants as machine
use Rattle.storage_machine.specs.declared.slots.Question.TheVariants as question
use Rattle.storage_machine.specs.declared.state.State.{State}
use Rattle.cq_schedule.specs.Held.{Places}
use Rattle.cq_schedule.specs.Meaning.{next_of_phase}
use Rattle.cq_schedule.specs.Order.{blocks_of, moved_of, order_of}
use Rattle.cq_schedule.specs.declared.rules.Due.{Due}
use Rattle.cq_schedule.specs.declared.rules.Due.TheVariants as engine
use Rattle.world_state.specs.Laws.{command_due, served_by}
use Rattle.world_state.specs.Path.{PathState, holder, is_busy, plan_of}
use Rattle.world_state.specs.Reading.{tasks_of}

-- the next block of a phase and its end are of the command that began it
phase_command : (p : PathState) (slot moved : ℕ) (more : Bool) → command_due p (cond more (engine.Block slot moved) (engine.Close slot)) ≡ machine.Execute slot
phase_command p slot moved true = refl
phase_command p slot moved false = refl

-- what is due by the first slots that have come so far
abbrev pub due_by : Places → (active named rung high ready sent : Option ℕ) → Due
due_by held active named rung high ready sent =
    option_map_or (next_of_phase held) active (option_map_or engine.Address named (option_map_or engine.Serve rung
    (option_map_or engine.Execute high (option_map_or engine.Execute ready (option_map_or (λ _. engine.Poll) sent engine.Tick)))))

abbrev pub serving : State → ℕ → DueCommand
serving s tag = cond (is_direct (job_on s tag)) (machine.Direct tag) (machine.Params tag)

-- the storage machine's tasks that have come so far
pub record AreFirst (s : State) (p : PathState) (active named rung high ready sent : Option ℕ) : Type 0 where
  pub busy : s.busy ≡ is_some active
  pub named_one : first question.Named s.slots s.order ≡ named
  pub rung_one : first question.Rung s.slots s.order ≡ rung
  pub high_one : active ≡ None → high_first s ≡ high
  pub ready_one : active ≡ None → first question.Ready s.slots s.order ≡ ready
  pub sent_one : has question.Sent s.slots ≡ is_some sent
  pub goes_on : (tag : ℕ) → active ≡ Some tag → next_ready s (high_first s) ≡ Some tag
  pub serves : (tag : ℕ) → rung ≡ Some tag → serving s tag ≡ served_by p tag (holder p tag)

ready_high : (s : State) (high : ℕ) → high_first s ≡ Some high → next_ready s (high_first s) ≡ Some high
ready_high s high e = ap (next_ready s) e

ready_low : (s : State) (ready : Option ℕ) → high_first s ≡ None → first question.Ready s.slots s.order ≡ ready → next_ready s (high_first s) ≡ ready
ready_low s ready e f = ap (next_ready s) e ∙ f

unbusy : (s : State) → s.busy ≡ false → command_of_tasks s ≡ queue_first s (first question.Named s.slots s.order) (first question.Rung s.slots s.order)
unbusy s e =
    ap (λ b. cond b (execute_or_poll s (next_ready s (high_first s))) (queue_first s (first question.Named s.slots s.order) (first question.Rung s.slots s.order))) e

queued : (s : State) (named rung : Option ℕ) → first question.Named s.slots s.order ≡ named → first question.Rung s.slots s.order ≡ rung
    → queue_first s (first question.Named s.slots s.order) (first question.Rung s.slots s.order) ≡ queue_first s named rung
queued s named rung e f = ap (λ n. queue_first s n (first question.Rung s.slots s.order)) e ∙ ap (queue_first s named) f

pub command_is : (s : State) (p : PathState) (held : Places) (active named rung high ready sent : Option ℕ) → AreFirst s p active named rung high ready sent
    → command_of_tasks s ≡ command_due p (due_by held active named rung high ready sent)
command_is s p held (Some tag) named rung high ready sent f =
    ap (λ b. cond b (execute_or_poll s (next_ready s (high_first s))) (queue_first s (first question.Named s.slots s.order) (first question.Rung s.slots s.order))) f.busy
    ∙ (ap (execute_or_poll s) (f.goes_on tag refl) ∙ sym (phase_command p tag (moved_of held tag) (nat_lt (moved_of held tag) (blocks_of held tag))))
command_is s p held None (Some tag) rung high ready sent f = unbusy s f.busy ∙ queued s (Some tag) rung f.named_one f.rung_one
command_is s p held None None (Some tag) high ready sent f = unbusy s f.busy ∙ (queued s None (Some tag) f.named_one f.rung_one ∙ f.serves tag refl)
command_is s p held None None None (Some tag) ready sent f =
    unbusy s f.busy ∙ (queued s None None f.named_one f.rung_one ∙ ap (execute_or_poll s) (ready_high s tag (f.high_one refl)))
command_is s p held None None None None (Some tag) sent f =
    unbusy s f.busy ∙ (queued s None None f.named_one f.rung_one ∙ ap (execute_or_poll s) (ready_low s (Some tag) (f.high_one refl) (f.ready_one refl)))
command_is s p held None None None None None (Some tag) f =
    unbusy s f.busy ∙ (queued s None None f.named_one f.rung_one ∙ (ap (execute_or_poll s) (ready_low s None (f.high_one refl) (f.ready_one refl))
    ∙ ap (λ b. cond b machine.Poll machine.Idle) f.sent_one))
command_is s p held None None None None None None f =
    unbusy s f.busy ∙ (queued s None None f.named_one f.rung_one ∙ (ap (execute_or_poll s) (ready_low s None (f.high_one refl) (f.ready_one refl))
    ∙ ap (λ b. cond b machine.Poll machine.Idle) f.sent_one))

-- the state has these of the path, while the engine runs
pub record Reads (s : State) (p : PathState) : Type 0 where
  pub slots : s.slots ≡ tasks_of p
  pub order : s.order ≡ order_of p.regs.ring
  pub plan : s.plan ≡ plan_of p
  pub busy : s.busy ≡ is_busy p
