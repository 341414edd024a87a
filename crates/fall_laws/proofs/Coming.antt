-- What an event of the engine comes to, by what was due.
use Rattle.std.proofs.Common.{◌≡◌, ◌⊎◌, ◌<◌, ◌≤◌, ◌+◌, ℕ, length, refl, sym, ◌∙◌, ap, subst, arith, inl, inr}
use Rattle.std.specs.Prelude.{Bool, true, false, cond, is_some, Option, Some, None, Result, Ok, Err}
use Rattle.std.specs.Bool.{MatchBool}
use Rattle.std.specs.Option.{IsSomeAnd, MatchOption, option_map, option_map_or}
use Rattle.std.proofs.lemmas.Bool.{false≢true}
use Rattle.host_mem.specs.Memory.{Memory}
use Rattle.card_link.specs.Behind.{Behind}
use Rattle.card_link.specs.Made.{CardMade}
use Rattle.cmd_words.specs.declared.command.Command.TheVariants.{Address as StartSector}
use Rattle.cq_regs.specs.State.{Registers}
use Rattle.cq_regs.specs.Slots.{progress_of, without}
use Rattle.cq_regs.specs.declared.slots.Progress.TheVariants.{Rung, Named, Sent, Ready, Active}
use Rattle.cq_task.specs.Meaning.{Means}
use Rattle.cq_task.specs.declared.slot.DataTask.{DataTask}
use Rattle.cq_task.specs.declared.slot.DropCause.{DropCause}
use Rattle.cq_task.specs.declared.slot.SlotTask.{SlotTask}
use Rattle.cq_task.specs.declared.slot.SlotTask.TheVariants.{Direct as DirectTask, Data}
use Rattle.cq_schedule.specs.declared.held.HeldTask.{HeldTask}
use Rattle.cq_schedule.specs.declared.rules.Due.{Due}
use Rattle.cq_schedule.specs.declared.rules.Due.TheVariants.{Rest, Block as NextBlock, Close, Address, Serve, Execute, Poll, Tick}
use Rattle.cq_schedule.specs.Held.{Places, held_at}
use Rattle.cq_schedule.specs.Meaning.{HasItsSlot, IsDue, IsDueThen, after_serving, list_of, next_of_phase, rests}
use Rattle.cq_schedule.specs.Order.{blocks_of, first_at, first_high, moved_of}
use Rattle.piece_data.specs.Data.{block_of}
use Rattle.cq_engine.specs.After.{after_block}
use Rattle.cq_engine.specs.Event.{Does, Gives, Serves, Takes}
use Rattle.cq_engine.specs.Outcome.{Host, Outcome}
use Rattle.cq_engine.specs.Words.{direct_of, execute_of, params_of}
use Rattle.world_state.specs.Ties.{IsScript}
use Rattle.fall_laws.proofs.Charges.{Charges, close_charges, command_charges, give_charges, take_charges}
use Rattle.fall_laws.proofs.Shapes.{Shape, address_shape, along, block_shape, close_shape, direct_shape, execute_shape, idle_less, is_struck, means_few, params_shape}
use Rattle.fall_laws.proofs.Slots.{blocks_in, moved_in, tasks_left}

pub data Comes (host : Host) (old new : Behind) (busy : Bool) (outcome : Outcome) (due : Due) : Type 0 where
  Called : (struck : Bool) → Shape host struck outcome → Charges old.script new.script busy struck → Comes host old new busy outcome due
  Dropped : new ≡ old → outcome.host.regs.stopped ≡ host.regs.stopped
      → tasks_left outcome.host.held outcome.host.regs.ring + 1 ≤ tasks_left host.held host.regs.ring → Comes host old new busy outcome due
  Rests : (due ≡ Rest) ⊎ (due ≡ Tick) → Comes host old new busy outcome due
  Polls : due ≡ Poll → Comes host old new busy outcome due

-- a block or the end of a data phase
abbrev pub is_phase : Due → Bool
is_phase (NextBlock slot k) = true
is_phase (Close slot) = true
is_phase due = false

some_task : (place : Option HeldTask) (P : HeldTask → Type 0) → IsSomeAnd place P → (h : HeldTask) × P h
some_task None P h = absurd h
some_task (Some held) P h = (held, h)

served_comes : (old new : Behind) (host : Host) (memory : Memory) (slot : ℕ) (outcome : Outcome) (meaning : Result SlotTask DropCause)
    → length host.held ≡ 32 → IsScript old.script → slot < 32 → progress_of host.regs.ring slot ≡ Rung
    → Means memory (list_of host.regs) slot meaning → Serves CardMade old new host slot outcome meaning
    → Comes host old new false outcome (Serve slot)
served_comes old new host memory slot outcome (Ok (DirectTask desc)) long script below is m d =
    Called (is_struck d.answer) (along host (is_struck d.answer) outcome _ d.outcome (direct_shape host slot desc d.answer below is))
    (command_charges old new (direct_of desc) d.answer false d.crossed script)
served_comes old new host memory slot outcome (Ok (Data task)) long script below is m d =
    Called (is_struck d.answer)
    (along host (is_struck d.answer) outcome _ d.outcome (params_shape host slot task d.answer long below is (means_few memory (list_of host.regs) slot task m)))
    (command_charges old new (params_of slot task.desc) d.answer false d.crossed script)
served_comes old new host memory slot outcome (Err why) long script below is m d =
    let P : Outcome → Type 0 = λ o. tasks_left o.host.held o.host.regs.ring + 1 ≤ tasks_left host.held host.regs.ring in
    Dropped d.link (ap (λ (o : Outcome). o.host.regs.stopped) d.outcome)
    (subst P (sym d.outcome) (idle_less host slot (without host.regs.ring slot) refl below is))

moves_comes : (old new : Behind) (host : Host) (memory memory' : Memory) (slot k : ℕ) (outcome : Outcome) (task : DataTask) (read : Bool)
    → length host.held ≡ 32 → slot < 32 → progress_of host.regs.ring slot ≡ Active
    → moved_in (held_at host.held slot) < blocks_in (held_at host.held slot)
    → MatchBool read (Takes CardMade old new task.pieces k memory memory' outcome (after_block host slot task.desc))
    (Gives CardMade old new (block_of memory task.pieces k) outcome (after_block host slot task.desc) × (memory' ≡ memory))
    → Comes host old new true outcome (NextBlock slot k)
moves_comes old new host memory memory' slot k outcome task true long below is more d =
    Called (is_struck d.answer) (along host (is_struck d.answer) outcome _ d.outcome (block_shape host slot task.desc d.answer long below is more))
    (take_charges d.block old new d.answer d.crossed)
moves_comes old new host memory memory' slot k outcome task false long below is more d =
    Called (is_struck d.0.answer) (along host (is_struck d.0.answer) outcome _ d.0.outcome (block_shape host slot task.desc d.0.answer long below is more))
    (give_charges (block_of memory task.pieces k) old new d.0.answer d.0.crossed)

pub comes : (old new : Behind) (host : Host) (memory memory' : Memory) (outcome : Outcome) (due : Due) → length host.held ≡ 32 → IsScript old.script
    → HasItsSlot host.held host.regs due → Does CardMade old new host memory memory' outcome due → Comes host old new (is_phase due) outcome due
comes old new host memory memory' outcome Rest long script i d = Rests (inl refl)
comes old new host memory memory' outcome Tick long script i d = Rests (inr refl)
comes old new host memory memory' outcome (Serve slot) long script i d =
    served_comes old new host memory slot outcome d.0.meaning long script i.0 i.1 d.0.means d.0.serves
comes old new host memory memory' outcome (Address slot) long script i d =
    let e = some_task (held_at host.held slot) _ d.0 in
    Called (is_struck e.1.answer) (along host (is_struck e.1.answer) outcome _ e.1.outcome (address_shape host slot e.0.task.desc e.1.answer i.below i.is_at))
    (command_charges old new (StartSector e.0.task.desc.start) e.1.answer false e.1.crossed script)
comes old new host memory memory' outcome (Execute slot) long script i d =
    let e = some_task (held_at host.held slot) _ d.0 in
    Called (is_struck e.1.answer) (along host (is_struck e.1.answer) outcome _ e.1.outcome (execute_shape host slot e.0.task.desc e.1.answer i.below i.is_at))
    (command_charges old new (execute_of slot e.0.task.desc) e.1.answer false e.1.crossed script)
comes old new host memory memory' outcome Poll long script i d = Polls refl
comes old new host memory memory' outcome (NextBlock slot k) long script i d =
    let e = some_task (held_at host.held slot) _ d in
    let more : moved_in (held_at host.held slot) < blocks_in (held_at host.held slot) =
    let at : k ≡ moved_of host.held slot = i.1 in let less : k < blocks_of host.held slot = i.2 in omega (arith, at, less) in
    moves_comes old new host memory memory' slot k outcome e.0.task e.0.task.desc.read long i.0.below i.0.is_at more e.1
comes old new host memory memory' outcome (Close slot) long script i d =
    let e = some_task (held_at host.held slot) _ d.0 in
    Called (is_struck e.1.answer) (along host (is_struck e.1.answer) outcome _ e.1.outcome (close_shape host slot e.0.task.desc e.1.answer i.0.below i.0.is_at))
    (close_charges old new e.1.answer e.1.crossed)

-- a block or an end is due where a slot is active
after_none : (high ready sent : Option ℕ) → is_phase (option_map_or Execute high (option_map_or Execute ready (option_map_or (λ _. Poll) sent Tick))) ≡ false
after_none (Some slot) ready sent = refl
after_none None (Some slot) sent = refl
after_none None None (Some slot) = refl
after_none None None None = refl

then_none : (held : Places) (regs : Registers) (served : Option ℕ) → is_phase (option_map_or Serve served (after_serving held regs)) ≡ false
then_none held regs (Some slot) = refl
then_none held regs None = after_none (first_high held regs.ring) (first_at Ready regs.ring) (first_at Sent regs.ring)

active_by : (held : Places) (regs : Registers) (memory : Memory) (due : Due) (resting : Bool) (active named : Option ℕ)
    → MatchOption (cond resting (Some Rest) (option_map_or (λ slot. Some (next_of_phase held slot)) active (option_map Address named)))
    (IsDueThen held regs memory due) (λ first. due ≡ first)
    → is_phase due ≡ true → is_some active ≡ true
active_by held regs memory due true active named is phase = absurd (false≢true (sym (ap is_phase is) ∙ phase))
active_by held regs memory due false (Some slot) named is phase = refl
active_by held regs memory due false None (Some slot) is phase = absurd (false≢true (sym (ap is_phase is) ∙ phase))
active_by held regs memory due false None None is phase =
    absurd (false≢true (sym (ap is_phase is.is ∙ then_none held regs is.served) ∙ phase))

pub active_some : (held : Places) (regs : Registers) (memory : Memory) (due : Due) → IsDue held regs memory due → is_phase due ≡ true
    → is_some (first_at Active regs.ring) ≡ true
active_some held regs memory due is phase = active_by held regs memory due (rests regs) (first_at Active regs.ring) (first_at Named regs.ring) is phase
