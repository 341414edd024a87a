-- The due command, what befalls it, and what the host has to do read no contents.
use Rattle.control_laws.specs.Parts.{Contents, with_contents}
use Rattle.std.proofs.Common.{◌≡◌, ◌∙◌, ℕ, Bool, true, false, cond, ◌&&◌, ◌||◌, not, is_some, Option, Some, None, refl, ap}
use Rattle.storage_machine.specs.Commands.{command_of_tasks, due, execute_blocks, execute_or_poll, first_high, hit, is_calm, is_running, met, next_ready, queue_first}
use Rattle.storage_machine.specs.Cuts.{due_line, has_own_line, is_due}
use Rattle.storage_machine.specs.Host.{has_work, is_irq_due, issue_of, next_issue, next_place, to_do}
use Rattle.storage_machine.specs.Slots.{first}
use Rattle.storage_machine.specs.declared.commands.DueCommand.{DueCommand}
use Rattle.storage_machine.specs.declared.commands.DueCommand.TheVariants.{Execute}
use Rattle.storage_machine.specs.declared.slots.Question.TheVariants.{Rung, Named}
use Rattle.storage_machine.specs.declared.state.State.{State}
use Rattle.storage_model.specs.declared.faults.BusKind.{BusKind}

pub either_same : {X : Type 0} (b : Bool) (x y u v : X) → x ≡ y → u ≡ v → cond b x u ≡ cond b y v
either_same true x y u v left right = left
either_same false x y u v left right = right

-- the due command

ready_same : (c : Contents) (s : State) (high : Option ℕ) → next_ready (with_contents c s) high ≡ next_ready s high
ready_same c s None = refl
ready_same c s (Some tag) = refl

execute_same : (c : Contents) (s : State) (ready : Option ℕ) → execute_or_poll (with_contents c s) ready ≡ execute_or_poll s ready
execute_same c s None = refl
execute_same c s (Some tag) = refl

next_same : (c : Contents) (s : State) → execute_or_poll (with_contents c s) (next_ready (with_contents c s) (first_high s)) ≡ execute_or_poll s (next_ready s (first_high s))
next_same c s = execute_same c s (next_ready (with_contents c s) (first_high s)) ∙ ap (λ ready. execute_or_poll s ready) (ready_same c s (first_high s))

queue_same : (c : Contents) (s : State) (named rung : Option ℕ) → queue_first (with_contents c s) named rung ≡ queue_first s named rung
queue_same c s (Some tag) rung = refl
queue_same c s None (Some tag) = refl
queue_same c s None None = next_same c s

tasks_same : (c : Contents) (s : State) → command_of_tasks (with_contents c s) ≡ command_of_tasks s
tasks_same c s = either_same s.busy _ _ _ _ (next_same c s) (queue_same c s (first Named s.slots s.order) (first Rung s.slots s.order))

pub due_same : (c : Contents) (s : State) → due (with_contents c s) ≡ due s
unfolding due
due_same c s = either_same (is_running s.stop) _ _ _ _ (tasks_same c s) refl

-- what befalls it

blocks_same : (c : Contents) (s : State) (command : DueCommand) → execute_blocks (with_contents c s) command ≡ execute_blocks s command
blocks_same c s (Execute tag) = refl
blocks_same c s command = refl

met_same : (blocks other : Option ℕ) (kind : Option BusKind) → blocks ≡ other → met blocks kind ≡ met other kind
met_same blocks other kind same = ap (λ x. met x kind) same

pub hit_same : (c : Contents) (s : State) → hit (with_contents c s) ≡ hit s
unfolding hit
hit_same c s = met_same _ _ _ (blocks_same c s (due (with_contents c s)) ∙ ap (λ command. execute_blocks s command) (due_same c s))

-- what the host has to do

issue_same : (c : Contents) (s : State) (place : Option ℕ) → issue_of (with_contents c s) place ≡ issue_of s place
issue_same c s None = refl
issue_same c s (Some place) = refl

pub next_issue_same : (c : Contents) (s : State) → next_issue (with_contents c s) ≡ next_issue s
unfolding next_issue
next_issue_same c s = either_same (is_running s.stop && is_calm s.recovery) _ _ _ _ (issue_same c s (next_place s)) refl

pub work_same : (c : Contents) (s : State) → has_work (with_contents c s) ≡ has_work s
unfolding has_work
work_same c s = ap (λ issue. not (is_calm s.recovery) || (not (is_running s.stop) || (is_irq_due s || is_some issue))) (next_issue_same c s)

pub to_do_same : (c : Contents) (s : State) → to_do (with_contents c s) ≡ to_do s
unfolding to_do
to_do_same c s = refl

pub line_same : (c : Contents) (s : State) → due_line (with_contents c s) ≡ due_line s
unfolding due_line
line_same c s = refl

pub own_line_same : (c : Contents) (s : State) → has_own_line (with_contents c s) ≡ has_own_line s
unfolding has_own_line
own_line_same c s = refl

pub due_cut_same : (c : Contents) (s : State) → is_due (with_contents c s) ≡ is_due s
unfolding due_line to_do
due_cut_same c s = refl
