-- The order of events reads no contents, and changes none.
use Rattle.control_laws.proofs.Dues.{due_cut_same, due_same, hit_same, to_do_same, work_same}
use Rattle.control_laws.proofs.Rules.{cut_by_same}
use Rattle.control_laws.specs.Laws.{IsControlOrder}
use Rattle.control_laws.specs.Parts.{Contents, contents_of, with_contents}
use Rattle.std.proofs.Common.{◌≡◌, ◌∙◌, Bool, true, false, cond, ◌&&◌, ◌||◌, not, nat_le, nat_lt, Option, None, ℕ, refl, ap}
use Rattle.storage_machine.specs.Commands.{due, is_calm, is_gone, is_idle, is_none_due, is_running, job_on, may_tick}
use Rattle.storage_machine.specs.Cuts.{is_due}
use Rattle.storage_machine.specs.Host.{has_work, recovery_steps, recovery_steps_at, to_do}
use Rattle.storage_machine.specs.Jobs.{phase_blocks}
use Rattle.storage_machine.specs.declared.commands.DueCommand.{DueCommand}
use Rattle.storage_machine.specs.declared.commands.DueCommand.TheVariants.{Execute}
use Rattle.storage_machine.specs.declared.state.Event.{Event}
use Rattle.storage_machine.specs.declared.state.Event.TheVariants.{Untold, Told, Due}
use Rattle.storage_machine.specs.declared.state.Recovery.{Recovery}
use Rattle.storage_machine.specs.declared.state.Recovery.TheVariants.{Halted}
use Rattle.storage_machine.specs.declared.state.State.{State}
use Rattle.storage_model.specs.declared.faults.Letter.{Letter}
use Rattle.storage_model.specs.declared.faults.Letter.TheVariants.{Host as HostActs, Engine as EngineActs, Card as CardActs, Cut as PowerActs}
use Rattle.storage_model.specs.declared.trace.Item.{Item}
use Rattle.storage_model.specs.declared.trace.Item.TheVariants.{Phase, Irq}
use Rattle.storage_order.specs.Events.{end_rule, ended, ended_by, engine_may_pass, engine_step, may_pass, passed, rule_of_end}
use Rattle.storage_order.specs.Order.{engine_first, entered, forced, is_alone, is_cut_phase, is_next, is_of_cut, is_of_next, is_phase, left_behind, needs_step, order_rule, settled, start_rule, starts, starts_at, untold_steps, with_due}
use Rattle.trace_effects.specs.Effects.{letters_left}
use Rattle.trace_rules.specs.Lines.{is_free}
use Rattle.trace_rules.specs.Steps.{is_cut, is_due_event, is_line_of, is_nothing, lower, unless}

pub cond_passes : (c : Contents) (b other : Bool) (s t x y : State) → other ≡ b → x ≡ with_contents c s → y ≡ with_contents c t → cond other x y ≡ with_contents c (cond b s t)
cond_passes c true other s t x y same left right = ap (λ test. cond test x y) same ∙ left
cond_passes c false other s t x y same left right = ap (λ test. cond test x y) same ∙ right

-- the engine's events that print nothing

idle_same : (c : Contents) (s : State) → is_idle (with_contents c s) ≡ is_idle s
idle_same c s = ap (λ command. is_none_due command && (is_running s.stop && may_tick s.recovery)) (due_same c s)

pass_same : (c : Contents) (s : State) (command : DueCommand) → may_pass (with_contents c s) command ≡ may_pass s command
pass_same c s (Execute tag) = ap (λ kind. not (is_gone kind) && nat_le s.spent (phase_blocks (job_on s tag))) (hit_same c s)
pass_same c s command = refl

may_pass_same : (c : Contents) (s : State) → engine_may_pass (with_contents c s) ≡ engine_may_pass s
unfolding engine_may_pass
may_pass_same c s = pass_same c s (due (with_contents c s)) ∙ ap (λ command. may_pass s command) (due_same c s)

told_passes : (c : Contents) (s : State) → cond (is_idle (with_contents c s) && nat_lt 0 s.count) (with_contents c (record s { notice = true; count = 0 })) (with_contents c s) ≡ with_contents c (cond (is_idle s && nat_lt 0 s.count) (record s { notice = true; count = 0 }) s)
told_passes c s = cond_passes c _ _ _ _ _ _ (ap (λ idle. idle && nat_lt 0 s.count) (idle_same c s)) refl refl

passed_passes : (c : Contents) (s : State) (command : DueCommand) → passed (with_contents c s) command ≡ with_contents c (passed s command)
passed_passes c s (Execute tag) = cond_passes c _ _ _ _ _ _ (pass_same c s (Execute tag)) refl refl
passed_passes c s command = told_passes c s

step_passes : (c : Contents) (s : State) → engine_step (with_contents c s) ≡ with_contents c (engine_step s)
unfolding engine_step
step_passes c s = passed_passes c s (due (with_contents c s)) ∙ ap (λ command. with_contents c (passed s command)) (due_same c s)

-- an event ends without a line

end_by_same : (c : Contents) (s : State) (event : Event) → rule_of_end (with_contents c s) event ≡ rule_of_end s event
end_by_same c s (Told EngineActs) = ap (λ test. unless test 14) (may_pass_same c s)
end_by_same c s (Told PowerActs) = ap (λ test. unless (not test) 12) (to_do_same c s)
end_by_same c s event = refl

end_same : (c : Contents) (s : State) → end_rule (with_contents c s) ≡ end_rule s
unfolding end_rule
end_same c s = end_by_same c s s.event

ended_by_passes : (c : Contents) (s : State) (event : Event) → ended_by (with_contents c s) event ≡ with_contents c (ended_by s event)
ended_by_passes c s (Told EngineActs) = step_passes c (record s { event = Untold })
ended_by_passes c s event = refl

ended_passes : (c : Contents) (s : State) → ended (with_contents c s) ≡ with_contents c (ended s)
unfolding ended
ended_passes c s = ended_by_passes c s s.event

-- the line begins a further event

phase_same : (c : Contents) (s : State) (item : Item) → is_cut_phase (with_contents c s) item ≡ is_cut_phase s item
phase_same c s (Phase n id count kept) = cut_by_same c s
phase_same c s item = refl

of_next_same : (c : Contents) (s : State) (letter : Letter) (item : Item) → is_of_next (with_contents c s) letter item ≡ is_of_next s letter item
of_next_same c s EngineActs item = phase_same c s item
of_next_same c s CardActs item = ap (λ work. is_phase item && not (letters_left s || work)) (work_same c s)
of_next_same c s letter item = refl

starts_at_same : (c : Contents) (s : State) (event : Event) (item : Item) → starts_at (with_contents c s) event item ≡ starts_at s event item
starts_at_same c s Untold item = refl
starts_at_same c s Due item = refl
starts_at_same c s (Told letter) item = ap (λ other. not (not (is_nothing s.owed) || (is_line_of letter (is_calm s.recovery) item && not other))) (of_next_same c s letter item)

starts_same : (c : Contents) (s : State) (item : Item) → starts (with_contents c s) item ≡ starts s item
unfolding starts
starts_same c s item = ap (λ begins. is_free s.owed && begins) (starts_at_same c s s.event item)

-- events that no letter tells

recovery_at : (c : Contents) (s : State) (recovery : Recovery) → recovery_steps_at (with_contents c s) recovery ≡ with_contents c (recovery_steps_at s recovery)
recovery_at c s Halted = refl
recovery_at c s recovery = refl

pub recovery_passes : (c : Contents) (s : State) → recovery_steps (with_contents c s) ≡ with_contents c (recovery_steps s)
unfolding recovery_steps
recovery_passes c s = recovery_at c s s.recovery

needs_same : (c : Contents) (s : State) (item : Item) → needs_step (with_contents c s) item ≡ needs_step s item
needs_same c s (Phase n id count kept) = ap (λ cut. cut && not s.busy) (cut_by_same c s)
needs_same c s (Irq mask) = idle_same c s
needs_same c s item = refl

first_passes : (c : Contents) (s : State) (item : Item) → engine_first (with_contents c s) item ≡ with_contents c (engine_first s item)
first_passes c s item = cond_passes c _ _ _ _ _ _
    (ap (λ work. not work && needs_step (with_contents c s) item) (work_same c s) ∙ ap (λ needs. not (has_work s) && needs) (needs_same c s item)) (step_passes c s) refl

untold_passes : (c : Contents) (s : State) (item : Item) → untold_steps (with_contents c s) item ≡ with_contents c (untold_steps s item)
untold_passes c s item = cond_passes c _ _ _ _ _ _
    (ap (λ due. letters_left s || (due && is_of_cut item)) (due_cut_same c s)) refl
    (ap (λ t. engine_first t item) (recovery_passes c s) ∙ first_passes c (recovery_steps s) item)

due_passes : (c : Contents) (s : State) (item : Item) → with_due (with_contents c s) item ≡ with_contents c (with_due s item)
due_passes c s item = cond_passes c _ _ _ _ _ _ (ap (λ due. due && is_of_cut item) (due_cut_same c s)) refl refl

forced_passes : (c : Contents) (s : State) (item : Item) → forced (with_contents c s) item ≡ with_contents c (forced s item)
unfolding forced
forced_passes c s item = ap (λ t. with_due t item) (untold_passes c s item) ∙ due_passes c (untold_steps s item) item

-- the event under way is over

behind_passes : (c : Contents) (s : State) (item : Item) → left_behind (with_contents c s) item ≡ with_contents c (left_behind s item)
behind_passes c s item = cond_passes c (is_cut item) (is_cut item) _ _ _ _ refl refl refl

entered_passes : (c : Contents) (s : State) (item : Item) → entered (with_contents c s) item ≡ with_contents c (entered s item)
entered_passes c s item =
    ap (λ t. forced (left_behind t item) item) (ended_passes c s)
    ∙ (ap (λ t. forced t item) (behind_passes c (ended s) item) ∙ forced_passes c (left_behind (ended s) item) item)

pub settled_passes : (c : Contents) (s : State) (item : Item) → settled (with_contents c s) item ≡ with_contents c (settled s item)
unfolding settled
settled_passes c s item = cond_passes c _ _ _ _ _ _ (starts_same c s item) (entered_passes c s item) refl

pub settled_contents : (s : State) (item : Item) → contents_of (settled s item) ≡ contents_of s
settled_contents s item = ap (λ t. contents_of t) (settled_passes (contents_of s) s item)

-- whose event comes

abbrev next_with : State → Item → Bool → Bool → Bool
next_with s item some work =
    is_alone item || (not some || (not (is_nothing s.owed) && is_cut item
    || (not (letters_left s) && is_line_of (cond work HostActs EngineActs) (is_calm s.recovery) item)))

next_same : (c : Contents) (s : State) (item : Item) → is_next (with_contents c s) item ≡ is_next s item
next_same c s item = ap (λ some. next_with s item some (has_work (with_contents c s))) (to_do_same c s) ∙ ap (λ work. next_with s item (to_do s) work) (work_same c s)

start_same : (c : Contents) (due : Bool) (s : State) (item : Item) → start_rule due (with_contents c s) item ≡ start_rule due s item
start_same c due s item = ap (λ next. cond (is_due_event s.event) None (lower (unless next 12) (unless (not due) 15))) (next_same c s item)

begun_same : (c : Contents) (s : State) (item : Item) → start_rule (is_due (ended (with_contents c s))) (entered (with_contents c s) item) item ≡ start_rule (is_due (ended s)) (entered s item) item
begun_same c s item =
    ap (λ due. start_rule due (entered (with_contents c s) item) item) (ap (λ t. is_due t) (ended_passes c s) ∙ due_cut_same c (ended s))
    ∙ (ap (λ t. start_rule (is_due (ended s)) t item) (entered_passes c s item) ∙ start_same c (is_due (ended s)) (entered s item) item)

abbrev order_with : Bool → Option ℕ → Option ℕ → Option ℕ
order_with begins end start = cond begins (lower end start) None

pub order_same : (c : Contents) (s : State) (item : Item) → order_rule (with_contents c s) item ≡ order_rule s item
unfolding order_rule
order_same c s item =
    ap (λ begins. order_with begins (end_rule (with_contents c s)) (start_rule (is_due (ended (with_contents c s))) (entered (with_contents c s) item) item)) (starts_same c s item)
    ∙ (ap (λ end. order_with (starts s item) end (start_rule (is_due (ended (with_contents c s))) (entered (with_contents c s) item) item)) (end_same c s)
    ∙ ap (λ start. order_with (starts s item) (end_rule s) start) (begun_same c s item))

pub control_order : (s : State) (c : Contents) (item : Item) → IsControlOrder s c item
control_order s c item = record { rule = order_same c s item; settled = settled_passes c s item }
