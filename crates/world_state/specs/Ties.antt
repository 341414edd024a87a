-- What is so of the holders between two events, whatever the array tells: each of them agrees with the others. The layers keep it
-- by their own contracts; nothing of contents is in it.
use Rattle.std.specs.Prelude.{◌≡◌, ◌≢◌, ◌⊎◌, ◌<◌, ◌≤◌, ℕ, ◌+◌, ◌==◌, ◌^◌, ◌&&◌, Bool, true, false, not, if◌then◌else◌, List, [], length, All, Option, None, Some, IfSome, MatchOption, option_map, is_some}
use Rattle.std.specs.Bool.{MatchBool}
use Rattle.std.specs.List.{find}
use Rattle.std.specs.Option.{IsSomeAnd, option_map_or}
use Rattle.storage_model.specs.Faults.{IsHit, IsValidHits}
use Rattle.storage_model.specs.Plan.{blocks_of}
use Rattle.storage_model.specs.declared.faults.BusKind.{BusKind}
use Rattle.storage_model.specs.declared.faults.BusKind.TheVariants.{Bad}
use Rattle.storage_model.specs.declared.plan.Job.{Job}
use Rattle.storage_model.specs.declared.plan.Plan.{Plan}
use Rattle.storage_machine.specs.Commands.{is_gone}
use Rattle.storage_machine.specs.Jobs.{is_high, sector_of}
use Rattle.cmd_words.specs.declared.command.Task.{Task}
use Rattle.task_queue.specs.declared.queue.Queued.{Queued}
use Rattle.task_queue.specs.Places.{Queue}
use Rattle.task_queue.specs.Queue.{depth as queue_depth, is_ready, place_of, slot}
use Rattle.array_edge.specs.Array.{ArrayState}
use Rattle.bus_link.specs.Hits.{hit_of}
use Rattle.bus_link.specs.declared.link.Cause.{Cause}
use Rattle.bus_link.specs.declared.link.Cause.TheVariants.{Bus, Response}
use Rattle.bus_link.specs.Script.{Script}
use Rattle.card_core.specs.declared.phase.DataPhase.{DataPhase}
use Rattle.card_core.specs.declared.phase.Phase.{Phase}
use Rattle.card_core.specs.Card.{CardState, sectors, set_up as card_set_up}
use Rattle.card_core.specs.Serving.{without_error}
use Rattle.card_link.specs.Behind.{Fits}
use Rattle.card_store.specs.Store.{IsStore}
use Rattle.cq_desc.specs.declared.task.TaskDesc.{TaskDesc}
use Rattle.cq_engine.specs.Holds.{AreCounted, Holds, LieIn}
use Rattle.cq_engine.specs.Standings.{OneOpen}
use Rattle.cq_engine.specs.Words.{execute_of}
use Rattle.cq_regs.specs.declared.slots.Progress.{Progress}
use Rattle.cq_regs.specs.declared.slots.Progress.TheVariants.{Idle, Named, Sent, Ready, Active}
use Rattle.cq_regs.specs.Effects.{at_reset}
use Rattle.cq_regs.specs.Slots.{IsRing, has_bit, is_rung, progress_of}
use Rattle.cq_regs.specs.State.{Registers}
use Rattle.cq_schedule.specs.Held.{held_at}
use Rattle.cq_schedule.specs.Holding.{is_begun}
use Rattle.cq_schedule.specs.Order.{order_of}
use Rattle.cq_task.specs.declared.slot.SlotTask.{SlotTask}
use Rattle.cq_task.specs.declared.slot.SlotTask.TheVariants.{Data}
use Rattle.drv_recover.specs.declared.recovery.RecoveryState.{RecoveryState}
use Rattle.drv_recover.specs.declared.recovery.RecoveryState.TheVariants as driver
use Rattle.drv_recover.specs.Recovery.{IsAt}
use Rattle.drv_ring.specs.Asks.{Asks, HoldsData}
use Rattle.drv_ring.specs.Layout.{HasLayout}
use Rattle.drv_ring.specs.Task.{task_of}
use Rattle.drv_jobs.specs.declared.requests.TheConstants.{MOST_FAULTS}
use Rattle.drv_jobs.specs.Changes.{faults_of}
use Rattle.drv_jobs.specs.Sound.{IsSound}
use Rattle.drv_jobs.specs.Standings.{is_waiting}
use Rattle.drv_core.specs.SetUp.{set_up}
use Rattle.drv_core.specs.State.{asks_notice, is_recovering}
use Rattle.world_state.specs.Path.{PathState, behind_path, holder, job, layout, moved, plan_of, runs, under_way}
use Rattle.world_state.specs.Reading.{is_done, notice_of}

-- the registers but for those that a run moves are as the set up wrote them
pub record HasSetUp (plan : Plan) (regs : Registers) : Type 0 where
  pub same : regs ≡ record (set_up plan at_reset) {
    halted = regs.halted;
    stopped = regs.stopped;
    interrupts = regs.interrupts;
    coalescing = record (set_up plan at_reset).coalescing { counter = regs.coalescing.counter };
    ring = regs.ring;
    completed = regs.completed;
    queue_status = regs.queue_status;
    direct_response = regs.direct_response;
    error_information = regs.error_information;
    response_index = regs.response_index;
    response_argument = regs.response_argument;
  }
  pub notice : (regs.interrupts ≡ 0) ⊎ (regs.interrupts ≡ 2)
  pub ring : IsRing regs.ring
  pub small : regs.completed < 2 ^ 32
  pub counted : regs.coalescing.counter ≤ plan.coalesce

-- a tag that is not issued is neither rung nor notified
pub record IsVacant (p : PathState) (tag : ℕ) : Type 0 where
  pub idle : progress_of p.regs.ring tag ≡ Idle
  pub silent : is_done p tag ≡ false

-- one that is issued asks for its job, and is rung until it is notified as complete
pub record IsIssued (p : PathState) (tag id : ℕ) : Type 0 where
  pub asks : Asks p.memory (layout p) tag (job p id) (asks_notice (plan_of p) (job p id))
  pub data_held : HoldsData p.memory (layout p) tag (job p id) (plan_of p).blocks
  pub rung : is_rung (progress_of p.regs.ring tag) ≡ not (is_done p tag)

-- the task that CMD44 tells of a slot's descriptor
abbrev pub words_of : ℕ → TaskDesc → Task
words_of tag desc =
    record { task = tag; read = desc.read; blocks = desc.blocks; forced = desc.forced; reliable = desc.reliable; high = desc.high }

-- the engine holds the job's task of a begun slot
pub record HoldsJob (p : PathState) (tag id : ℕ) : Type 0 where
  pub held : IsSomeAnd (held_at p.engine.held tag) (λ h.
      (h.progress ≡ progress_of p.regs.ring tag)
      × (task_of (layout p) tag (job p id) (asks_notice (plan_of p) (job p id)) ≡ Data h.task)
      × (progress_of p.regs.ring tag ≢ Active → h.moved ≡ 0))

abbrev pub is_queued : Progress → Bool
is_queued Sent = true
is_queued Ready = true
is_queued progress = false

-- what the card has in its queue of a tag, by how far its slot is
abbrev pub queued_of : PathState → ℕ → Option Queued
queued_of p tag =
    if is_queued (progress_of p.regs.ring tag)
    then option_map (λ h. record { task = words_of tag h.task.desc; start = h.task.desc.start }) (held_at p.engine.held tag)
    else None

-- while the engine runs, the card's queue has the sent and ready tasks, and waits for the start sector of the named one
pub record HasQueue (p : PathState) (tag : ℕ) : Type 0 where
  pub queued : slot p.card.queue tag ≡ queued_of p tag
  pub chosen : progress_of p.regs.ring tag ≡ Ready → is_ready (place_of p.card.queue tag) ≡ true
  pub waits : progress_of p.regs.ring tag ≡ Named → p.card.queue.waiting ≡ option_map (λ h. words_of tag h.task.desc) (held_at p.engine.held tag)

-- a task that the card has taken lies in the image
abbrev pub IsInImage : PathState → ℕ → ℕ → Type 0
IsInImage p tag id =
    (is_queued (progress_of p.regs.ring tag) ≡ true) ⊎ (progress_of p.regs.ring tag ≡ Active)
    → sector_of (job p id) + blocks_of (job p id) ≤ sectors p.card

-- of a tag while no recovery is under way
abbrev pub TagIsTied : PathState → ℕ → Type 0
TagIsTied p tag = MatchOption (holder p tag) (IsVacant p tag) (IsIssued p tag)

-- and while the engine runs
pub record TagRuns (p : PathState) (tag : ℕ) : Type 0 where
  pub holds : is_begun (progress_of p.regs.ring tag) ≡ true → IsSomeAnd (holder p tag) (HoldsJob p tag)
  pub queue : HasQueue p tag
  pub inside : IfSome (holder p tag) (IsInImage p tag)

-- a direct request is alone
abbrev pub IsAlone : PathState → Type 0
IsAlone p = is_some (holder p 31) ≡ true → (tag : ℕ) → tag < 31 → holder p tag ≡ None

-- the words of a phase under way: the card has it open with as many blocks moved, and what was begun was not taken
abbrev pub phase_words : PathState → Option ℕ → Option Phase
phase_words p way = option_map (λ tag. record { task = tag; count = moved p; kept = false }) way

abbrev pub HasPhase : PathState → ℕ → Type 0
HasPhase p tag = IsSomeAnd (held_at p.engine.held tag) (λ h.
    p.card.phase ≡ Some (record { task = words_of tag h.task.desc; start = h.task.desc.start; moved = h.moved }))

-- ready to be executed, or executed
abbrev pub is_executable : Progress → Bool
is_executable Ready = true
is_executable Active = true
is_executable progress = false

abbrev pub has_high : PathState → ℕ → Bool
has_high p tag = option_map_or (λ id. is_high (job p id)) (holder p tag) false

abbrev pub first_of : Option ℕ → Option ℕ → Option ℕ
first_of (Some tag) other = Some tag
first_of None other = other

-- the task that is executed first: those of high priority go ahead
abbrev pub ahead : PathState → Option ℕ
ahead p =
    first_of (find (λ tag. is_executable (progress_of p.regs.ring tag) && has_high p tag) (order_of p.regs.ring))
    (find (λ tag. is_executable (progress_of p.regs.ring tag)) (order_of p.regs.ring))

-- the phase under way is that of the task that goes ahead of the others
abbrev pub IsAhead : PathState → ℕ → Type 0
IsAhead p tag = ahead p ≡ Some tag

-- the fault of its command is the one that the bus noted
abbrev pub HasHit : PathState → ℕ → Type 0
HasHit p tag = IsSomeAnd (held_at p.engine.held tag) (λ h.
    p.script.hit ≡ hit_of p.script.hits p.script.sent (execute_of tag h.task.desc) h.task.desc.blocks)

-- the card as it was set up
pub record IsCardOf (plan : Plan) (card : CardState) : Type 0 where
  pub depth : card.depth ≡ plan.depth
  pub lines : card.lines ≡ (if plan.through then 1024 else plan.lines)
  pub through : card.through ≡ plan.through
  pub csd : card.csd ≡ card_set_up card (sectors card)
  pub places : queue_depth card.queue ≡ card.depth
  pub room : card.store.cache.room ≡ card.lines
  pub few : sectors card ≤ 65536
  pub epoch : card.store.cache.last ≤ 4294967295

-- after CMD48 of a recovery the queue is empty
abbrev pub is_discarded : RecoveryState → Bool
is_discarded driver.Discarded = true
is_discarded driver.Cleaned = true
is_discarded driver.Resumed = true
is_discarded state = false

-- the faults of the bus are to come by rising numbers, none of them at the number where counting stands still
pub record IsScript (script : Script) : Type 0 where
  pub rising : IsValidHits script.hits
  pub small : All IsHit script.hits
  pub words : script.used ≤ length script.ready
  pub sent : script.sent ≤ 4294967295

-- data that is to fail at a block has not moved past it
abbrev pub IsBeforeFault : Option BusKind → ℕ → Type 0
IsBeforeFault (Some (Bad block)) count = count < block
IsBeforeFault hit count = Unit {0}

-- the slot that a stop names
abbrev pub named_by : Option Cause → Option ℕ
named_by (Some (Bus kind tag)) = tag
named_by (Some (Response word tag)) = Some tag
named_by cause = None

-- it is still rung
abbrev pub NamesRung : PathState → Type 0
NamesRung p = p.regs.stopped ≡ true → IfSome (named_by p.engine.cause) (λ tag. is_rung (progress_of p.regs.ring tag) ≡ true)

-- a request that has no answer was named by fewer faults than end it
pub record AreBorne (p : PathState) : Type 0 where
  pub waiting : (id : ℕ) → is_waiting p.driver.requests.waiting id ≡ true → faults_of p.driver.requests id < MOST_FAULTS
  pub issued : (tag id : ℕ) → holder p tag ≡ Some id → faults_of p.driver.requests id < MOST_FAULTS

-- What is so between two events, of whatever array.
pub record AreTied (p : PathState) : Type 0 where
  pub sound : IsSound p.driver.requests
  pub layout_fits : HasLayout p.memory (layout p)
  pub holds : Holds p.engine p.regs
  pub lie : LieIn p.memory p.engine.held
  pub counts : AreCounted p.engine.held
  pub one : OneOpen p.regs.ring
  pub regs : HasSetUp (plan_of p) p.regs
  pub card : IsCardOf (plan_of p) p.card
  pub store : IsStore p.card.store
  pub script : IsScript p.script
  pub borne : AreBorne p
  pub recovery_at : IsAt p.driver.recovery p.regs
  pub calm : p.driver.recovery ≡ driver.Calm → p.regs.halted ≡ false
  pub halts : p.driver.recovery ≡ driver.Halted → p.regs.stopped ≡ true
  pub held : is_recovering p.driver.recovery ≡ true → p.regs.completed ≡ 0
  pub tags : is_recovering p.driver.recovery ≡ false → (tag : ℕ) → tag < 32 → TagIsTied p tag
  pub running : runs p ≡ true → (tag : ℕ) → tag < 32 → TagRuns p tag
  pub alone : IsAlone p
  pub emptied : is_discarded p.driver.recovery ≡ true → (tag : ℕ) → slot p.card.queue tag ≡ None
  pub begun : p.card.begun ≡ phase_words p (under_way p)
  pub phase : IfSome (under_way p) (HasPhase p)
  pub ahead : IfSome (under_way p) (IsAhead p)
  pub hit : IfSome (under_way p) (HasHit p)
  pub fails : IfSome (under_way p) (λ tag. IsBeforeFault p.script.hit (moved p))
  pub names : NamesRung p
  pub heard : IfSome (under_way p) (λ tag. is_gone p.script.hit ≡ false)
  pub told : p.regs.completed ≢ 0 → (notice_of p ≡ true) ⊎ (0 < p.regs.coalescing.counter)
  pub status : is_done p 31 ≡ true → p.regs.direct_response ≡ without_error

-- The card's image is open on the array, and the power is on: so it is before each event.
pub record IsReady (p : PathState) (a : ArrayState) : Type 0 where
  pub tied : AreTied p
  pub is_open : Fits (behind_path p a)
  pub powered : a.powered ≡ true
