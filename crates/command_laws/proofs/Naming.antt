-- CMD44: the event in which the task of a rung slot is named to the card.
use Rattle.std.proofs.Common.{◌≡◌, ◌<◌, ◌≤◌, ◌+◌, ◌*◌, ◌^◌, ◌==◌, ℕ, Bool, true, false, cond, refl, sym, ◌∙◌, ap, subst, arith}
use Rattle.std.specs.Prelude.{nat_le, Option, Some, None, Result, Ok, Err, is_ok, is_some, slice_set, List}
use Rattle.std.specs.Option.{option_map, option_map_or}
use Rattle.std.proofs.lemmas.Bool.Decides.{nat_tests}
use Rattle.array_edge.specs.Array.{ArrayState}
use Rattle.bus_link.specs.declared.link.Cause.TheVariants.{Response}
use Rattle.card_core.specs.Card.{CardState}
use Rattle.card_core.specs.Response.{accepted, params_response, refused, response_to}
use Rattle.card_core.specs.Response.Response.{Tell}
use Rattle.card_core.specs.Serving.{without_error}
use Rattle.card_core.specs.declared.phase.Phase.{Phase}
use Rattle.card_link.specs.Behind.{behind}
use Rattle.card_link.specs.Made.{CardMade, choice_of, sent}
use Rattle.cmd_words.specs.Command.{index_of}
use Rattle.cmd_words.specs.declared.command.Command.TheVariants.{Params}
use Rattle.cmd_words.specs.declared.command.Task.{Task}
use Rattle.cmd_words.specs.declared.status.TheConstants.Status.{ILLEGAL_COMMAND}
use Rattle.cq_engine.specs.After.{after_params, led_on, named}
use Rattle.cq_engine.specs.Event.{Exchanges, Serves}
use Rattle.cq_engine.specs.Outcome.{outcome_of, responded, stopped_with}
use Rattle.cq_engine.specs.Standings.{OneOpen}
use Rattle.cq_engine.specs.Words.{command_error, params_of}
use Rattle.cq_engine.specs.declared.did.Did.{Did}
use Rattle.cq_engine.specs.declared.did.Did.TheVariants.{Sent as SentCommand}
use Rattle.cq_regs.specs.Effects.{moved_on}
use Rattle.cq_regs.specs.Slots.{advanced, is_rung, next, progress_of}
use Rattle.cq_regs.specs.State.{Registers}
use Rattle.cq_regs.specs.declared.slots.Ringed.{Ringed}
use Rattle.cq_regs.specs.declared.slots.Progress.TheVariants.{Named, Rung}
use Rattle.cq_schedule.specs.Held.{Places, held_at, newly_held, remembered}
use Rattle.cq_schedule.specs.Meaning.{list_of}
use Rattle.cq_schedule.specs.declared.rules.Due.TheVariants.{Serve}
use Rattle.cq_task.specs.Meaning.{Means}
use Rattle.cq_task.specs.declared.list.TaskList.{TaskList}
use Rattle.cq_task.specs.declared.slot.DataTask.{DataTask}
use Rattle.cq_task.specs.declared.slot.DropCause.{DropCause}
use Rattle.cq_task.specs.declared.slot.SlotTask.{SlotTask}
use Rattle.cq_task.specs.declared.slot.SlotTask.TheVariants.{Data}
use Rattle.cq_task.proofs.OneMeaning.{one_meaning}
use Rattle.cq_task.specs.Place.{are_direct, are_wide}
use Rattle.cq_words.specs.Fields.{field_of}
use Rattle.drv_core.specs.SetUp.{configuration_word}
use Rattle.drv_core.specs.State.{asks_notice, upper_base}
use Rattle.drv_core.specs.declared.set_up.TheConstants.{LIST_BASE}
use Rattle.drv_ring.specs.Layout.{list_of as list_at}
use Rattle.drv_ring.specs.Task.{task_of}
use Rattle.storage_machine.specs.Jobs.{is_direct}
use Rattle.task_queue.specs.Places.{Queue}
use Rattle.task_queue.specs.Queue.{depth as queue_depth, params_answer, place_of}
use Rattle.task_queue.specs.declared.queue.Place.{Place}
use Rattle.task_queue.specs.declared.queue.QueueRefusal.{QueueRefusal}
use Rattle.task_queue.specs.declared.queue.QueueRefusal.TheVariants.{InUse, NoBlocks, PastDepth}
use Rattle.world_state.specs.Engine.{EngineEvent}
use Rattle.world_state.specs.Path.{PathState, behind_path, holder, job, layout, plan_of}
use Rattle.world_state.specs.Steps.{is_of_phase}
use Rattle.world_state.specs.Ties.{AreTied, IsIssued, TagRuns, is_queued, queued_of, words_of}
use Rattle.command_laws.proofs.Cases.{Leads, OfAnswered, OfLost, OfSilent, cases}
use Rattle.command_laws.proofs.Jobs.{IsOf, direct_of, is_of}
use Rattle.command_laws.proofs.Onwards.{idle_in, open_alone, queued_by}
use Rattle.command_laws.proofs.Parts.{Facts, busy_in, facts, host_at}
use Rattle.command_laws.proofs.Rings.{advanced-same}
use Rattle.command_laws.proofs.Running.{IsRunning, issued, runs_so}
use Rattle.command_laws.proofs.Words.{HasMask, without_error-masked}

-- the list that the registers name is the driver's
lists_by : (wide : Bool) (depth : ℕ)
    → record { base = upper_base wide * 2 ^ 32 + LIST_BASE; wide = are_wide (configuration_word wide); direct = are_direct (configuration_word wide) }
    ≡ list_at (record { base = LIST_BASE + 2 ^ 32 * upper_base wide; depth = depth; wide = wide })
unfolding field_of
lists_by true depth = refl
lists_by false depth = refl

lists_if : (wide : Bool) (regs : Registers) → regs.list_base ≡ LIST_BASE → regs.list_base_upper ≡ upper_base wide
    → regs.configuration ≡ configuration_word wide → (depth : ℕ) → list_of regs ≡ list_at (record { base = LIST_BASE + 2 ^ 32 * upper_base wide; depth = depth; wide = wide })
lists_if wide regs low high word depth =
    let at : ℕ → ℕ → ℕ → TaskList = λ upper base configuration. record { base = upper * 2 ^ 32 + base; wide = are_wide configuration; direct = are_direct configuration } in
    ap (λ n. at regs.list_base_upper n regs.configuration) low ∙ ap (λ n. at n LIST_BASE regs.configuration) high
    ∙ ap (λ n. at (upper_base wide) LIST_BASE n) word ∙ lists_by wide depth

pub lists_same : (p : PathState) → AreTied p → list_of p.regs ≡ list_at (layout p)
lists_same p t =
    lists_if (plan_of p).wide p.regs (ap (λ r. r.list_base) t.regs.same) (ap (λ r. r.list_base_upper) t.regs.same)
    (ap (λ r. r.configuration) t.regs.same) (plan_of p).depth

-- what is known of the slot, and what crosses the link
pub record IsNaming (p : PathState) (a : ArrayState) (p' : PathState) (a' : ArrayState) (did : Did) (slot : ℕ) (f : Facts p a p' a' did (Serve slot)) : Type 0 where
  pub id : ℕ
  pub is : holder p slot ≡ Some id
  pub issued : IsIssued p slot id
  pub task : DataTask
  pub asks : task_of (layout p) slot (job p id) (asks_notice (plan_of p) (job p id)) ≡ Data task
  pub of : IsOf (layout p) slot (job p id) task.desc
  pub crosses : Exchanges CardMade (behind_path p a) (behind f.card a' p'.script) (params_of slot task.desc) (outcome_of did f.held p'.regs)
      (after_params (host_at p) slot task)
  pub memory : p'.memory ≡ p.memory
  pub below : slot < (plan_of p).depth
  pub some : 1 ≤ task.desc.blocks

not_direct : (p : PathState) (o : Option ℕ) (id : ℕ) → o ≡ Some id → option_map_or (λ id. is_direct (job p id)) o false ≡ false → is_direct (job p id) ≡ false
not_direct p o id e d = sym (ap (λ o. option_map_or (λ id. is_direct (job p id)) o false) e) ∙ d

pub is_naming : (p : PathState) (a : ArrayState) (p' : PathState) (a' : ArrayState) (did : Did) (slot : ℕ) (f : Facts p a p' a' did (Serve slot)) → AreTied p
    → IsRunning p → is_of_phase p (Serve slot) ≡ false → IsNaming p a p' a' did slot f
is_naming p a p' a' did slot f t r not_phase =
    let i = issued p slot t r.calm f.slot.0 (ap is_rung f.slot.1) in
    let int = asks_notice (plan_of p) (job p i.id) in
    let asked = task_of (layout p) slot (job p i.id) int in
    let d = direct_of (layout p) slot (job p i.id) int asked refl (not_direct p (holder p slot) i.id i.is not_phase) in
    let M : TaskList → Type 0 = λ list. Means p.memory list slot (Ok asked) in
    let own : Means p.memory (list_of p.regs) slot (Ok asked) = subst M (sym (lists_same p t)) i.issued.asks.means in
    let one : f.does.0.meaning ≡ Ok asked = one_meaning p.memory (list_of p.regs) slot f.does.0.meaning (Ok asked) f.does.0.means own in
    let S : Result SlotTask DropCause → Type 0 =
    λ m. Serves CardMade (behind_path p a) (behind f.card a' p'.script) (host_at p) slot (outcome_of did f.held p'.regs) m in
    let well : SlotTask → Result SlotTask DropCause = λ x. Ok x in
    let of = is_of (layout p) slot (job p i.id) int d.0 d.1 in
    record {
      id = i.id;
      is = i.is;
      issued = i.issued;
      task = d.0;
      asks = d.1;
      of = of;
      crosses = subst S (one ∙ ap well d.1) f.does.0.serves;
      memory = f.does.1;
      below = of.below i.issued.asks.tag_fits;
      some = of.some i.issued.asks.blocks_fit;
    }

-- the card takes the name
abbrev pub named_card : PathState → ℕ → DataTask → CardState
named_card p slot task = record p.card { queue = record p.card.queue { waiting = Some (words_of slot task.desc) } }

abbrev pub named_held : PathState → ℕ → DataTask → Places
named_held p slot task = slice_set (remembered p.engine.held p.regs) slot (Some (newly_held task))

abbrev pub named_regs : PathState → ℕ → DataTask → Registers
named_regs p slot task = moved_on (responded p.regs (index_of (params_of slot task.desc)) without_error) slot

abbrev pub named_error : ℕ → DataTask → ℕ
named_error slot task = command_error (index_of (params_of slot task.desc)) slot

named_response : (card : CardState) (task : Task) (choice : ℕ) → card.csd.command_queue ≡ true → is_ok (params_answer card.queue task) ≡ true
    → response_to card (Params task) choice ≡ Tell without_error (record card { queue = record card.queue { waiting = Some task } })
unfolding response_to
named_response card task choice on well =
    ap (λ b. cond b (params_response card task) (refused card ILLEGAL_COMMAND)) on
    ∙ ap (λ b. cond b (accepted (record card { queue = record card.queue { waiting = Some task } })) (refused card ILLEGAL_COMMAND)) well

fits : (queue : Queue) (task : Task) → nat_le (queue_depth queue) task.task ≡ false → place_of queue task.task ≡ None → (task.blocks == 0) ≡ false
    → is_ok (params_answer queue task) ≡ true
fits queue task low empty some =
    let no : QueueRefusal → Result (Unit {0}) QueueRefusal = λ why. Err why in
    let yes : Result (Unit {0}) QueueRefusal = Ok tt in
    ap (λ b. is_ok (cond b (no PastDepth) (cond (is_some (place_of queue task.task)) (no InUse) (cond (task.blocks == 0) (no NoBlocks) yes)))) low
    ∙ ap (λ (place : Option Place). is_ok (cond (is_some place) (no InUse) (cond (task.blocks == 0) (no NoBlocks) yes))) empty
    ∙ ap (λ b. is_ok (cond b (no NoBlocks) yes)) some

no_place : (o : Option Place) → option_map (λ (place : Place). place.queued) o ≡ None → o ≡ None
no_place None e = refl
no_place (Some place) e = absurd (cc e)

pub within : (depth slot : ℕ) → slot < depth → nat_le depth slot ≡ false
within depth slot below = grind (arith, nat_tests)

not_zero : (n : ℕ) → 1 ≤ n → (n == 0) ≡ false
not_zero n some = grind (arith, nat_tests)

-- nothing is queued of a rung slot
pub rung_unqueued : (p : PathState) (tag : ℕ) → progress_of p.regs.ring tag ≡ Rung → queued_of p tag ≡ None
rung_unqueued p tag e = ap (λ progress. cond (is_queued progress) (option_map (queued_by tag) (held_at p.engine.held tag)) None) e

pub naming_told : (p : PathState) (slot : ℕ) (task : DataTask) (choice : ℕ) → AreTied p → TagRuns p slot → progress_of p.regs.ring slot ≡ Rung
    → slot < (plan_of p).depth → 1 ≤ task.desc.blocks
    → response_to p.card (params_of slot task.desc) choice ≡ Tell without_error (named_card p slot task)
naming_told p slot task choice t r rung below some =
    let deep : queue_depth p.card.queue ≡ (plan_of p).depth = t.card.places ∙ t.card.depth in
    let empty : place_of p.card.queue slot ≡ None = no_place (place_of p.card.queue slot) (r.queue.queued ∙ rung_unqueued p slot rung) in
    named_response p.card (words_of slot task.desc) choice (ap (λ csd. csd.command_queue) t.card.csd)
    (fits p.card.queue (words_of slot task.desc) (ap (λ n. nat_le n slot) deep ∙ within (plan_of p).depth slot below) empty (not_zero task.desc.blocks some))

mask_of : (p : PathState) → AreTied p → HasMask p.regs
mask_of p t = ap (λ r. r.error_mask) t.regs.same

pub naming_leads : (p : PathState) (slot : ℕ) (task : DataTask) → AreTied p
    → Leads p without_error (Some slot) (named_error slot task) (after_params (host_at p) slot task) (SentCommand (params_of slot task.desc))
    (named_held p slot task) (named_regs p slot task)
naming_leads p slot task t =
    let index = index_of (params_of slot task.desc) in
    record {
      fault = λ kind. refl;
      good =
          ap (λ b. led_on (host_at p) (cond b (Err (Response without_error slot)) (Ok without_error))
          (cond b (stopped_with (responded p.regs index without_error) (command_error index slot)) (responded p.regs index without_error)) (named slot task))
          (without_error-masked p.regs (mask_of p t));
    }

-- the slot is named
pub is_named : (ring : List Ringed) (slot : ℕ) → progress_of ring slot ≡ Rung → progress_of (advanced ring slot) slot ≡ Named
is_named ring slot e = advanced-same ring slot ∙ ap next e

pub naming_idle : (p : PathState) (regs : Registers) (slot : ℕ) (task : DataTask) → OneOpen regs.ring → progress_of p.regs.ring slot ≡ Rung
    → regs ≡ named_regs p slot task → busy_in (named_regs p slot task) ≡ false
naming_idle p regs slot task one rung e =
    let P : Registers → Type 0 = λ r. OneOpen r.ring in
    let alone : OneOpen (advanced p.regs.ring slot) = subst P e one in
    idle_in (named_regs p slot task)
    (λ tag. open_alone (advanced p.regs.ring slot) slot tag Named alone (is_named p.regs.ring slot rung) refl (λ h. cc h))

pub naming_cases : (S : PathState → ArrayState → Did → Option Phase → Type 0) (p : PathState) (a : ArrayState) (p' : PathState) (a' : ArrayState) (did : Did)
    (phase : Option Phase) (e : EngineEvent p a p' a' did phase) (slot : ℕ) (is : e.event.acts.due ≡ Serve slot) → AreTied p → IsRunning p
    → (n : IsNaming p a p' a' did slot (facts p a p' a' did phase e (Serve slot) is))
    → OfLost S p a (params_of slot n.task.desc) (Some slot) (named_error slot n.task)
    → OfSilent S p a (params_of slot n.task.desc) (Some slot) (named_error slot n.task) (named_card p slot n.task)
    → OfAnswered S p a (params_of slot n.task.desc) (named_card p slot n.task) (SentCommand (params_of slot n.task.desc)) (named_held p slot n.task)
    (named_regs p slot n.task) false
    → S p' a' did phase
naming_cases S p a p' a' did phase e slot is t r n =
    let f = facts p a p' a' did phase e (Serve slot) is in
    cases S p a p' a' did phase (Serve slot) e f refl (params_of slot n.task.desc) without_error (named_card p slot n.task) (Some slot) (named_error slot n.task)
    (after_params (host_at p) slot n.task) (SentCommand (params_of slot n.task.desc)) (named_held p slot n.task) (named_regs p slot n.task) false n.crosses n.memory
    (naming_told p slot n.task (choice_of (sent (behind_path p a) (params_of slot n.task.desc)) (params_of slot n.task.desc)) t
    (t.running (runs_so p r) slot f.slot.0) f.slot.1 n.below n.some)
    (naming_leads p slot n.task t) (naming_idle p p'.regs slot n.task (e.one t.one) f.slot.1)
