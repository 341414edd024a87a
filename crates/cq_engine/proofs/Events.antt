-- What is done for what is due leaves the tasks held that have to be, and their pieces in the memory.
use Rattle.std.proofs.Common.{◌≡◌, ◌<◌, ◌⊎◌, ℕ, refl, sym, ◌∙◌, ap, subst, inl, inr}
use Rattle.std.specs.Prelude.{Bool, true, false, Option, Some, None, IsSome, Result, Ok, Err}
use Rattle.std.specs.Bool.{MatchBool}
use Rattle.std.specs.Option.{IsSomeAnd, option_or}
use Rattle.host_mem.specs.Memory.{Memory}
use Rattle.bus_link.specs.Link.{Call}
use Rattle.bus_link.specs.declared.link.Cause.{Cause}
use Rattle.cq_task.specs.declared.slot.DataTask.{DataTask}
use Rattle.cq_task.specs.declared.slot.DropCause.{DropCause}
use Rattle.cq_task.specs.declared.slot.SlotTask.{SlotTask}
use Rattle.cq_task.specs.declared.slot.SlotTask.TheVariants.{Direct, Data}
use Rattle.cq_task.specs.Meaning.{Means, MeansData, MeansDirect}
use Rattle.cq_task.specs.Place.{chain_of, first_word, is_direct}
use Rattle.cq_task.specs.declared.list.TaskList.{TaskList}
use Rattle.cq_schedule.specs.declared.held.HeldTask.{HeldTask}
use Rattle.cq_schedule.specs.declared.rules.Due.{Due}
use Rattle.cq_schedule.specs.declared.rules.Due.TheVariants.{Rest, Block as NextBlock, Close, Address, Serve, Execute, Poll, Tick}
use Rattle.cq_schedule.specs.Held.{Places, held_at}
use Rattle.cq_schedule.specs.Meaning.{HasItsSlot, list_of}
use Rattle.piece_data.specs.Data.{block_of}
use Rattle.cq_engine.specs.Outcome.{Holding, Host, Outcome}
use Rattle.cq_engine.specs.After.{after_block}
use Rattle.cq_engine.specs.Event.{Acts, Does, Serves, Takes, Gives}
use Rattle.cq_engine.specs.Holds.{LiesIn}
use Rattle.cq_engine.proofs.Outcomes.{Keeps, Sound, address_keeps, block_keeps, close_keeps, direct_keeps, dropped_keeps, execute_keeps, params_keeps, poll_keeps, tick_keeps}
use Rattle.cq_engine.proofs.Places.{is_some}

along : (stopped : Bool) (memory : Memory) (left after : Outcome) → left ≡ after → Keeps stopped memory after → Keeps stopped memory left
along stopped memory left after e k = let P : Outcome → Type 0 = λ o. Keeps stopped memory o in subst P (sym e) k

-- a data task's pieces lie in the memory
means_if : (memory : Memory) (wide : Bool) (word chain : ℕ) (task : DataTask) (direct : Bool)
    → MatchBool direct (MeansDirect word (Ok (Data task))) (MeansData memory wide word chain (Ok (Data task))) → LiesIn memory task
means_if memory wide word chain task true m = absurd m
means_if memory wide word chain task false m = record { inside = m.1.inside; whole = m.1.wanted }

means_lies : (memory : Memory) (list : TaskList) (slot : ℕ) (task : DataTask) → Means memory list slot (Ok (Data task)) → LiesIn memory task
means_lies memory list slot task (inl m) = absurd (cc m.1)
means_lies memory list slot task (inr m) =
    means_if memory list.wide (first_word memory list slot) (chain_of list slot) task (is_direct list slot) m.1

serves_keeps : {L : Type 0} (made : L → Call → L → Type 0) (old new : L) (host : Host) (memory : Memory) (slot : ℕ) (outcome : Outcome)
    (meaning : Result SlotTask DropCause) → Sound host memory → slot < 32 → Means memory (list_of host.regs) slot meaning
    → Serves made old new host slot outcome meaning → Keeps host.regs.stopped memory outcome
serves_keeps made old new host memory slot outcome (Ok (Direct desc)) s below m d =
    along host.regs.stopped memory outcome _ d.outcome (direct_keeps host memory slot desc d.answer s)
serves_keeps made old new host memory slot outcome (Ok (Data task)) s below m d =
    along host.regs.stopped memory outcome _ d.outcome
    (params_keeps host memory slot task d.answer s below (means_lies memory (list_of host.regs) slot task m))
serves_keeps made old new host memory slot outcome (Err why) s below m d =
    along host.regs.stopped memory outcome _ d.outcome (dropped_keeps host memory slot why s)

-- what is said of the task that is held of a slot holds of some task
pub some_task : (place : Option HeldTask) (P : HeldTask → Type 0) → IsSomeAnd place P → (h : HeldTask) × P h
some_task None P h = absurd h
some_task (Some held) P h = (held, h)

moves_keeps : {L : Type 0} (made : L → Call → L → Type 0) (old new : L) (host : Host) (memory memory' : Memory) (slot k : ℕ)
    (outcome : Outcome) (task : DataTask) (read : Bool) → Sound host memory → slot < 32
    → MatchBool read (Takes made old new task.pieces k memory memory' outcome (after_block host slot task.desc))
    (Gives made old new (block_of memory task.pieces k) outcome (after_block host slot task.desc) × (memory' ≡ memory))
    → Keeps host.regs.stopped memory outcome
moves_keeps made old new host memory memory' slot k outcome task true s below d =
    along host.regs.stopped memory outcome _ d.outcome (block_keeps host memory slot task.desc d.answer s below)
moves_keeps made old new host memory memory' slot k outcome task false s below d =
    along host.regs.stopped memory outcome _ d.0.outcome (block_keeps host memory slot task.desc d.0.answer s below)

pub does_keeps : {L : Type 0} (made : L → Call → L → Type 0) (old new : L) (host : Host) (memory memory' : Memory) (outcome : Outcome)
    (due : Due) → Sound host memory → HasItsSlot host.held host.regs due → Does made old new host memory memory' outcome due
    → Keeps host.regs.stopped memory outcome
does_keeps made old new host memory memory' outcome Rest s i d =
    along host.regs.stopped memory outcome _ d.0.outcome (record { tasks = s.tasks; stops = λ h. inr h; lie = s.lie })
does_keeps made old new host memory memory' outcome Tick s i d =
    along host.regs.stopped memory outcome _ d.0.outcome (tick_keeps host memory s)
does_keeps made old new host memory memory' outcome (Serve slot) s i d =
    serves_keeps made old new host memory slot outcome d.0.meaning s i.0 d.0.means d.0.serves
does_keeps made old new host memory memory' outcome (Address slot) s i d =
    let e = some_task (held_at host.held slot) _ d.0 in
    along host.regs.stopped memory outcome _ e.1.outcome
    (address_keeps host memory slot e.0.task.desc e.1.answer s (is_some (held_at host.held slot) _ i.is_held))
does_keeps made old new host memory memory' outcome (Execute slot) s i d =
    let e = some_task (held_at host.held slot) _ d.0 in
    along host.regs.stopped memory outcome _ e.1.outcome
    (execute_keeps host memory slot e.0.task.desc e.1.answer s (is_some (held_at host.held slot) _ i.is_held))
does_keeps made old new host memory memory' outcome Poll s i d =
    along host.regs.stopped memory outcome _ d.0.outcome (poll_keeps host memory d.0.answer s)
does_keeps made old new host memory memory' outcome (NextBlock slot k) s i d =
    let e = some_task (held_at host.held slot) _ d in
    moves_keeps made old new host memory memory' slot k outcome e.0.task e.0.task.desc.read s i.0.below e.1
does_keeps made old new host memory memory' outcome (Close slot) s i d =
    let e = some_task (held_at host.held slot) _ d.0 in
    along host.regs.stopped memory outcome _ e.1.outcome (close_keeps host memory slot e.0.task.desc e.1.answer s)

pub acts_keeps : {L : Type 0} (made : L → Call → L → Type 0) (old new : L) (host : Host) (memory memory' : Memory) (outcome : Outcome)
    → Sound host memory → Acts made old new host memory memory' outcome → Keeps host.regs.stopped memory outcome
acts_keeps made old new host memory memory' outcome s a = does_keeps made old new host memory memory' outcome a.due s a.slot a.does

-- a stop has its cause
pub caused : (stop cause : Option Cause) (stopped : Bool) → (stopped ≡ true → IsSome cause) → IsSome stop ⊎ (stopped ≡ true)
    → IsSome (option_or stop cause)
caused (Some why) cause stopped held h = refl
caused None cause stopped held (inl h) = absurd (cc h)
caused None cause stopped held (inr h) = held h

abbrev pub made_of : Places → Option Cause → Holding
made_of held cause = record { held = held; cause = cause }

pub holding_is : (held held' : Places) (cause cause' : Option Cause) → held ≡ held' → cause ≡ cause' → made_of held cause ≡ made_of held' cause'
holding_is held held' cause cause' e f = ap (λ h. made_of h cause) e ∙ ap (made_of held') f
