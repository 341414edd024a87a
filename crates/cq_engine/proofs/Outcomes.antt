-- Whatever an answer leads to, the tasks are held that have to be, and their pieces lie in the memory.
use Rattle.std.proofs.Common.{◌≡◌, ◌<◌, ◌⊎◌, ◌==◌, ◌&&◌, ℕ, length, refl, sym, ◌∙◌, ap, subst, arith, inl, inr}
use Rattle.std.specs.Prelude.{Bool, true, false, not, Option, Some, None, IsSome, slice_set, cond, Result, Ok, Err}
use Rattle.std.specs.Option.{option_map}
use Rattle.std.proofs.lemmas.Bool.{false≢true}
use Rattle.std.proofs.lemmas.Bool.Decides.{eqb_tells}
use Rattle.host_mem.specs.Memory.{Memory}
use Rattle.bus_link.specs.declared.link.Cause.{Cause}
use Rattle.bus_link.specs.declared.link.Cause.TheVariants.{Response}
use Rattle.bus_link.specs.declared.link.LinkEnd.{LinkEnd}
use Rattle.bus_link.specs.Link.{is_poll}
use Rattle.cmd_words.specs.declared.command.Command.{Command}
use Rattle.cmd_words.specs.declared.command.Command.TheVariants.{Address}
use Rattle.cmd_words.specs.Command.{index_of}
use Rattle.cq_desc.specs.declared.direct.DirectDesc.{DirectDesc}
use Rattle.cq_desc.specs.declared.task.TaskDesc.{TaskDesc}
use Rattle.cq_regs.specs.Slots.{made_ready, progress_of, without}
use Rattle.cq_regs.specs.Effects.{completed, moved_on, ticked_in}
use Rattle.cq_task.specs.declared.slot.DataTask.{DataTask}
use Rattle.cq_task.specs.declared.slot.DropCause.{DropCause}
use Rattle.cq_schedule.specs.declared.held.HeldTask.{HeldTask}
use Rattle.cq_schedule.specs.Held.{Places, held_at, newly_held, with_block}
use Rattle.cq_schedule.specs.Holding.{HasTasks, is_begun}
use Rattle.cq_engine.specs.declared.did.Did.TheVariants.{Finished, Idle, Sent}
use Rattle.cq_engine.specs.Words.{command_error, data_error, direct_of, execute_of, has_error, is_masked, params_of, poll_of}
use Rattle.cq_engine.specs.Outcome.{Host, Outcome, heard, judged, responded, stop, stop_of, stopped_with, with_regs, word_in}
use Rattle.cq_engine.specs.After.{addressed, after_address, after_block, after_close, after_command, after_direct, after_execute, after_params, after_poll, direct_done, direct_ended, direct_heard, dropped, executed, finished, led_on, named, phase_ended, polled}
use Rattle.cq_engine.specs.Holds.{LieIn, LiesIn}
use Rattle.cq_engine.proofs.Keeping.{has_advanced, has_same, has_without}
use Rattle.cq_engine.proofs.Lying.{lie_set, lies_counted}
use Rattle.cq_engine.proofs.Places.{set-other, set-same}
use Rattle.cq_engine.proofs.SlotLaws.{completes, made_ready-begun, ticks}

pub record Sound (host : Host) (memory : Memory) : Type 0 where
  pub tasks : HasTasks host.held host.regs
  pub long : length host.held ≡ 32
  pub lie : LieIn memory host.held

-- `stopped`: whether the engine was stopped before
pub record Keeps (stopped : Bool) (memory : Memory) (outcome : Outcome) : Type 0 where
  pub tasks : HasTasks outcome.host.held outcome.host.regs
  pub stops : outcome.host.regs.stopped ≡ true → IsSome (stop_of outcome.did) ⊎ (stopped ≡ true)
  pub lie : LieIn memory outcome.host.held

stop_keeps : (host : Host) (memory : Memory) (information : ℕ) (cause : Cause) → Sound host memory
    → Keeps host.regs.stopped memory (stop host information cause)
stop_keeps host memory information cause s =
    record { tasks = λ runs. absurd (false≢true (sym runs)); stops = λ _. inl refl; lie = s.lie }

pub responded_sound : (host : Host) (memory : Memory) (index word : ℕ) → Sound host memory
    → Sound (with_regs host (responded host.regs index word)) memory
responded_sound host memory index word s = record { tasks = s.tasks; long = s.long; lie = s.lie }

masked_keeps : (host : Host) (memory : Memory) (index slot word : ℕ) (next : Host → ℕ → Outcome) (masked : Bool) → Sound host memory
    → Keeps host.regs.stopped memory (next (with_regs host (responded host.regs index word)) word)
    → Keeps host.regs.stopped memory (led_on host (cond masked (Err (Response word slot)) (Ok word))
    (cond masked (stopped_with (responded host.regs index word) (command_error index slot)) (responded host.regs index word)) next)
masked_keeps host memory index slot word next true s k =
    record { tasks = λ runs. absurd (false≢true (sym runs)); stops = λ _. inl refl; lie = s.lie }
masked_keeps host memory index slot word next false s k = k

word_keeps : (host : Host) (memory : Memory) (index slot : ℕ) (word : Result ℕ Cause) (next : Host → ℕ → Outcome) → Sound host memory
    → ((w : ℕ) → Keeps host.regs.stopped memory (next (with_regs host (responded host.regs index w)) w))
    → Keeps host.regs.stopped memory (led_on host (judged host.regs slot word) (heard host.regs index slot word) next)
word_keeps host memory index slot (Ok word) next s k = masked_keeps host memory index slot word next (is_masked host.regs word) s (k word)
word_keeps host memory index slot (Err cause) next s k =
    record { tasks = λ runs. absurd (false≢true (sym runs)); stops = λ _. inl refl; lie = s.lie }

command_keeps : (host : Host) (memory : Memory) (command : Command) (slot : ℕ) (answer : Result ℕ LinkEnd) (next : Host → ℕ → Outcome)
    → Sound host memory → ((h : Host) (w : ℕ) → Sound h memory → h.held ≡ host.held → Keeps h.regs.stopped memory (next h w))
    → Keeps host.regs.stopped memory (after_command host command slot answer next)
command_keeps host memory command slot answer next s k =
    word_keeps host memory (index_of command) slot (word_in answer (Some slot)) next s
    (λ w. k (with_regs host (responded host.regs (index_of command) w)) w (responded_sound host memory (index_of command) w s) refl)

named_keeps : (host : Host) (memory : Memory) (slot : ℕ) (task : DataTask) (word : ℕ) → Sound host memory → slot < 32 → LiesIn memory task
    → Keeps host.regs.stopped memory (named slot task host word)
named_keeps host memory slot task word s below lies =
    let inside : slot < length host.held = omega (arith, below, s.long) in
    let P : Option HeldTask → Type 0 = λ o. IsSome o in
    let filled = slice_set host.held slot (Some (newly_held task)) in
    record {
      tasks = has_advanced host.held filled host.regs (moved_on host.regs slot) slot s.tasks refl refl
          (subst P (sym (set-same host.held slot (Some (newly_held task)) inside)) refl)
          (λ other apart. set-other host.held slot other (Some (newly_held task)) apart);
      stops = λ h. inr h;
      lie = lie_set memory host.held slot (Some (newly_held task)) s.long s.lie lies;
    }

pub params_keeps : (host : Host) (memory : Memory) (slot : ℕ) (task : DataTask) (answer : Result ℕ LinkEnd) → Sound host memory → slot < 32
    → LiesIn memory task → Keeps host.regs.stopped memory (after_params host slot task answer)
params_keeps host memory slot task answer s below lies =
    command_keeps host memory (params_of slot task.desc) slot answer (named slot task) s
    (λ h w t e. named_keeps h memory slot task w t below lies)

active_has : (host : Host) (slot : ℕ) → HasTasks host.held host.regs → IsSome (held_at host.held slot)
    → HasTasks host.held (moved_on host.regs slot)
active_has host slot has filled =
    has_advanced host.held host.held host.regs (moved_on host.regs slot) slot has refl refl filled (λ other apart. refl)

is_some_along : (old new : Places) (slot : ℕ) → new ≡ old → IsSome (held_at old slot) → IsSome (held_at new slot)
is_some_along old new slot e h = let P : Places → Type 0 = λ held. IsSome (held_at held slot) in subst P (sym e) h

pub address_keeps : (host : Host) (memory : Memory) (slot : ℕ) (desc : TaskDesc) (answer : Result ℕ LinkEnd) → Sound host memory
    → IsSome (held_at host.held slot) → Keeps host.regs.stopped memory (after_address host slot desc answer)
address_keeps host memory slot desc answer s filled =
    command_keeps host memory (Address desc.start) slot answer (addressed slot desc) s
    (λ h w t e.
    record { tasks = active_has h slot t.tasks (is_some_along host.held h.held slot e filled); stops = λ q. inr q; lie = t.lie })

finished_keeps : (host : Host) (memory : Memory) (slot : ℕ) (desc : TaskDesc) → Sound host memory
    → Keeps host.regs.stopped memory (record { did = Finished slot; host = finished host slot desc })
finished_keeps host memory slot desc s =
    let c = completes host.regs slot desc.int in
    record {
      tasks = has_without host.held (slice_set host.held slot None) host.regs (completed host.regs slot desc.int) slot s.tasks c.1 c.0
          (λ other apart. set-other host.held slot other None apart);
      stops = λ h. inr (sym c.1 ∙ h);
      lie = lie_set memory host.held slot None s.long s.lie tt;
    }

executed_if : (host : Host) (memory : Memory) (slot : ℕ) (desc : TaskDesc) (error : Bool) → Sound (with_regs host (moved_on host.regs slot)) memory
    → Keeps host.regs.stopped memory (cond error (record { did = Finished slot; host = finished (with_regs host (moved_on host.regs slot)) slot desc })
    (record { did = Sent (execute_of slot desc); host = with_regs host (moved_on host.regs slot) }))
executed_if host memory slot desc true s = finished_keeps (with_regs host (moved_on host.regs slot)) memory slot desc s
executed_if host memory slot desc false s = record { tasks = s.tasks; stops = λ q. inr q; lie = s.lie }

pub execute_keeps : (host : Host) (memory : Memory) (slot : ℕ) (desc : TaskDesc) (answer : Result ℕ LinkEnd) → Sound host memory
    → IsSome (held_at host.held slot) → Keeps host.regs.stopped memory (after_execute host slot desc answer)
execute_keeps host memory slot desc answer s filled =
    command_keeps host memory (execute_of slot desc) slot answer (executed slot desc) s
    (λ h w t e.
    executed_if h memory slot desc (has_error w)
    (record { tasks = active_has h slot t.tasks (is_some_along host.held h.held slot e filled); long = t.long; lie = t.lie }))

polled_keeps : (host : Host) (memory : Memory) (poll : Command) (word : Result ℕ Cause) → Sound host memory
    → Keeps host.regs.stopped memory (polled host poll word)
polled_keeps host memory poll (Err cause) s = stop_keeps host memory (command_error (index_of poll) 0) cause s
polled_keeps host memory poll (Ok word) s =
    let regs = responded host.regs (index_of poll) word in
    record {
      tasks = has_same host.held host.held host.regs (record regs { queue_status = word; ring = made_ready regs.ring word }) s.tasks refl
          (λ other. made_ready-begun host.regs.ring word other) (λ other h. h);
      stops = λ q. inr q;
      lie = s.lie;
    }

pub poll_keeps : (host : Host) (memory : Memory) (answer : Result ℕ LinkEnd) → Sound host memory
    → Keeps host.regs.stopped memory (after_poll host answer)
poll_keeps host memory answer s = polled_keeps host memory (poll_of host.regs) (word_in answer None) s

done_keeps : (host : Host) (memory : Memory) (slot : ℕ) (desc : DirectDesc) → Sound host memory
    → Keeps host.regs.stopped memory (direct_done slot desc host)
done_keeps host memory slot desc s =
    let c = completes host.regs slot desc.int in
    record {
      tasks = has_without host.held host.held host.regs (completed host.regs slot desc.int) slot s.tasks c.1 c.0 (λ other apart. refl);
      stops = λ h. inr (sym c.1 ∙ h);
      lie = s.lie;
    }

stops_if : (host : Host) (memory : Memory) (slot information word : ℕ) (desc : DirectDesc) (masked : Bool) → Sound host memory
    → Keeps host.regs.stopped memory (cond masked (stop host information (Response word slot)) (direct_done slot desc host))
stops_if host memory slot information word desc true s = stop_keeps host memory information (Response word slot) s
stops_if host memory slot information word desc false s = done_keeps host memory slot desc s

heard_keeps : (host : Host) (memory : Memory) (slot word : ℕ) (desc : DirectDesc) → Sound host memory
    → Keeps host.regs.stopped memory (direct_heard slot desc host word)
heard_keeps host memory slot word desc s =
    let regs = responded host.regs (index_of (direct_of desc)) word in
    stops_if (with_regs host (record regs { direct_response = word })) memory slot (command_error (index_of (direct_of desc)) slot) word desc
    (is_masked host.regs word && not (is_poll (direct_of desc))) (record { tasks = s.tasks; long = s.long; lie = s.lie })

ended_if : (host : Host) (memory : Memory) (slot word : ℕ) (desc : DirectDesc) (none : Bool) → Sound host memory
    → Keeps host.regs.stopped memory (cond none (direct_done slot desc host) (direct_heard slot desc host word))
ended_if host memory slot word desc true s = done_keeps host memory slot desc s
ended_if host memory slot word desc false s = heard_keeps host memory slot word desc s

ended_keeps : (host : Host) (memory : Memory) (slot : ℕ) (desc : DirectDesc) (word : Result ℕ Cause) → Sound host memory
    → Keeps host.regs.stopped memory (direct_ended host slot desc word)
ended_keeps host memory slot desc (Err cause) s = stop_keeps host memory (command_error (index_of (direct_of desc)) slot) cause s
ended_keeps host memory slot desc (Ok word) s = ended_if host memory slot word desc (desc.resp == 0) s

pub direct_keeps : (host : Host) (memory : Memory) (slot : ℕ) (desc : DirectDesc) (answer : Result ℕ LinkEnd) → Sound host memory
    → Keeps host.regs.stopped memory (after_direct host slot desc answer)
direct_keeps host memory slot desc answer s = ended_keeps host memory slot desc (word_in answer (Some slot)) s

pub dropped_keeps : (host : Host) (memory : Memory) (slot : ℕ) (why : DropCause) → Sound host memory
    → Keeps host.regs.stopped memory (dropped host slot why)
dropped_keeps host memory slot why s = record {
  tasks = has_without host.held host.held host.regs (record host.regs { ring = without host.regs.ring slot }) slot s.tasks refl refl (λ other apart. refl);
  stops = λ h. inr h;
  lie = s.lie;
}

phase_keeps : (host : Host) (memory : Memory) (slot : ℕ) (desc : TaskDesc) (word : Result ℕ Cause) → Sound host memory
    → Keeps host.regs.stopped memory (phase_ended host slot desc word)
phase_keeps host memory slot desc (Ok word) s = finished_keeps host memory slot desc s
phase_keeps host memory slot desc (Err cause) s = stop_keeps host memory (data_error (index_of (execute_of slot desc)) slot) cause s

pub close_keeps : (host : Host) (memory : Memory) (slot : ℕ) (desc : TaskDesc) (answer : Result ℕ LinkEnd) → Sound host memory
    → Keeps host.regs.stopped memory (after_close host slot desc answer)
close_keeps host memory slot desc answer s =
    phase_keeps host memory slot desc (judged host.regs slot (word_in answer (Some slot))) s

some_counted : (place : Option HeldTask) → IsSome place → IsSome (option_map with_block place)
some_counted None h = h
some_counted (Some held) h = refl

counted_filled : (held : Places) (slot other : ℕ) → slot < length held → IsSome (held_at held other)
    → IsSome (held_at (slice_set held slot (option_map with_block (held_at held slot))) other)
counted_filled held slot other inside h =
    let P : Option HeldTask → Type 0 = λ o. IsSome o in
    let place = option_map with_block (held_at held slot) in
    elim (eqb_tells other slot) [
      | inl t ↦
          let Q : ℕ → Type 0 = λ n. IsSome (held_at held n) in
          let R : ℕ → Type 0 = λ n. IsSome (held_at (slice_set held slot place) n) in
          subst R (sym t.1) (subst P (sym (set-same held slot place inside)) (some_counted (held_at held slot) (subst Q t.1 h)))
      | inr t ↦ subst P (sym (set-other held slot other place t.1)) h
    ]

pub block_keeps : (host : Host) (memory : Memory) (slot : ℕ) (desc : TaskDesc) (answer : Result (Unit {0}) LinkEnd) → Sound host memory → slot < 32
    → Keeps host.regs.stopped memory (after_block host slot desc answer)
block_keeps host memory slot desc (Ok _) s below =
    let inside : slot < length host.held = omega (arith, below, s.long) in
    let place = option_map with_block (held_at host.held slot) in
    record {
      tasks = has_same host.held (slice_set host.held slot place) host.regs host.regs s.tasks refl (λ other. refl)
          (λ other h. counted_filled host.held slot other inside h);
      stops = λ q. inr q;
      lie = lie_set memory host.held slot place s.long s.lie (lies_counted memory (held_at host.held slot) (s.lie slot below));
    }
block_keeps host memory slot desc (Err end) s below = close_keeps host memory slot desc (Err end) s

pub tick_keeps : (host : Host) (memory : Memory) → Sound host memory
    → Keeps host.regs.stopped memory (record { did = Idle; host = with_regs host (ticked_in host.regs) })
tick_keeps host memory s =
    let t = ticks host.regs in
    record {
      tasks = has_same host.held host.held host.regs (ticked_in host.regs) s.tasks t.stopped
          (λ other. ap (λ ring. is_begun (progress_of ring other)) t.ring) (λ other h. h);
      stops = λ h. inr (sym t.stopped ∙ h);
      lie = s.lie;
    }
