-- The ties after a direct command: a flush, a barrier or a status.
use Rattle.std.proofs.Common.{◌≡◌, ◌≢◌, ◌⊎◌, ◌<◌, ◌≤◌, ◌==◌, ◌&&◌, ◌+◌, ◌*◌, ◌^◌, ℕ, refl, sym, ◌∙◌, ap, subst, arith, inl, inr}
use Rattle.std.specs.Prelude.{Bool, true, false, not, cond, Option, Some, None, IfSome, MatchOption, Result, Ok, Err, List, [], ◌∷◌, is_some, All}
use Rattle.std.specs.Bool.{MatchBool}
use Rattle.std.specs.Int.RustNames.{bit_and}
use Rattle.std.specs.List.{find}
use Rattle.std.specs.Option.{option_map, option_map_or}
use Rattle.std.proofs.lemmas.Bool.{cases_lt, eqb-false, eqb-true, false≢true}
use Rattle.std.proofs.lemmas.Bool.Decides.{eqb_tells}
use Rattle.std.proofs.lemmas.List.Elements.{All-head, All-tail}
use Rattle.array_edge.specs.Array.{ArrayState}
use Rattle.bus_link.specs.Link.{is_poll}
use Rattle.bus_link.specs.Hits.{raised}
use Rattle.bus_link.specs.Script.{Script, armed, struck, word_used}
use Rattle.bus_link.specs.declared.link.Cause.{Cause}
use Rattle.bus_link.specs.declared.link.Cause.TheVariants.{Bus as BusFault, Dark as NoPower, Response}
use Rattle.bus_link.specs.declared.link.LinkEnd.{LinkEnd}
use Rattle.bus_link.specs.declared.link.LinkEnd.TheVariants as link_end
use Rattle.card_core.specs.Card.{CardState}
use Rattle.card_core.specs.Response.{IsBarred, Responds, change_response, refused, response_to, with_direct}
use Rattle.card_core.specs.Response as response
use Rattle.card_core.specs.Serving.{End, by_end, without_error, word_answer, word_of}
use Rattle.card_core.specs.declared.ends.Dark.{Dark}
use Rattle.card_core.specs.declared.phase.Phase.{Phase}
use Rattle.card_link.specs.Behind.{Behind, behind}
use Rattle.card_link.specs.Made.{CardMade, Exchanges, IsHeard, IsLost, after_response, choice_of, hit_on, is_lost, response_seen, sent}
use Rattle.cmd_words.specs.Command.{decoded, index_of}
use Rattle.cmd_words.specs.declared.command.Command.{Command}
use Rattle.cmd_words.specs.declared.command.Command.TheVariants.{Status as StatusCommand, Switch}
use Rattle.cmd_words.specs.declared.status.TheConstants.Status.{ERROR, SWITCH_ERROR}
use Rattle.cq_desc.specs.declared.direct.DirectDesc.{DirectDesc}
use Rattle.cq_engine.specs.After.{after_direct, direct_done, direct_heard}
use Rattle.cq_engine.specs.Event.{Does, Exchanges as SendsCommand, Serves}
use Rattle.cq_engine.specs.Outcome.{Outcome, outcome_of, responded, stopped_with}
use Rattle.cq_engine.specs.Words.{command_error, direct_of, is_masked}
use Rattle.cq_engine.specs.declared.did.Did.{Did}
use Rattle.cq_engine.specs.declared.did.Did.TheVariants.{Direct as DirectDone, Stopped}
use Rattle.cq_engine.proofs.SlotLaws.{completes as slot_completes, without-other, without-same}
use Rattle.cq_regs.specs.Effects.{completed}
use Rattle.cq_regs.specs.Slots.{has_bit, is_rung, progress_of, without}
use Rattle.cq_regs.specs.State.{Registers}
use Rattle.cq_regs.specs.declared.slots.Progress.TheVariants.{Active, Idle, Rung}
use Rattle.cq_regs.specs.declared.slots.Ringed.{Ringed}
use Rattle.cq_schedule.specs.Held.{remembered}
use Rattle.cq_schedule.specs.Meaning.{HasItsSlot, IsDue, list_of as engine_list, rests}
use Rattle.cq_schedule.specs.Order.{first_at}
use Rattle.cq_schedule.specs.declared.rules.Due.TheVariants.{Serve}
use Rattle.cq_task.specs.Meaning.{Means}
use Rattle.cq_task.specs.Place.{are_direct, are_wide}
use Rattle.cq_task.specs.declared.list.TaskList.{TaskList}
use Rattle.cq_task.specs.declared.slot.DropCause.{DropCause}
use Rattle.cq_task.specs.declared.slot.SlotTask.{SlotTask}
use Rattle.cq_task.specs.declared.slot.SlotTask.TheVariants.{Direct}
use Rattle.cq_task.proofs.OneMeaning.{one_meaning}
use Rattle.cq_words.specs.Fields.{field_of}
use Rattle.drv_core.specs.SetUp.{configuration_word}
use Rattle.drv_core.specs.State.{asks_notice, layout_of, upper_base}
use Rattle.drv_recover.specs.declared.recovery.RecoveryState.TheVariants as driver
use Rattle.drv_ring.specs.Layout.{IsTagOf, list_of}
use Rattle.drv_ring.specs.Task.{status_desc, switch_desc, task_of}
use Rattle.drv_ring.specs.declared.places.Layout.{Layout}
use Rattle.drv_ring.specs.declared.task.TheConstants.{FLUSH_CACHE, SET_BARRIER}
use Rattle.epoch_cache.specs.Cache.{next_epoch}
use Rattle.ext_csd.proofs.Switches.{switched-barrier, switched-flush}
use Rattle.storage_machine.specs.Jobs.{is_direct}
use Rattle.storage_model.specs.declared.faults.BusKind.{BusKind}
use Rattle.storage_model.specs.declared.faults.BusKind.TheVariants.{Lost, NoResp, Bad, Late}
use Rattle.storage_model.specs.declared.plan.Job.{Job}
use Rattle.storage_model.specs.declared.plan.Job.TheVariants.{Read, Write, Flush, Barrier, Status}
use Rattle.storage_model.specs.declared.plan.Plan.{Plan}
use Rattle.intent_store.specs.declared.ends.StoreEnd.TheVariants.{Flash, PowerLost}
use Rattle.world_state.specs.Engine.{EngineEvent}
use Rattle.world_state.specs.Path.{PathState, behind_path, holder, job, layout, plan_of}
use Rattle.world_state.specs.Ties.{AreTied, IsIssued, IsVacant, is_queued, named_by}
use Rattle.phase_laws.proofs.Blocks.{card_itself, host_at, keeps_by, masks, rung_by}
use Rattle.phase_laws.proofs.Closes.{notice_is}
use Rattle.phase_laws.proofs.Dones.{Begins, completion, done_ties, others_held}
use Rattle.phase_laws.proofs.Dues.{first_none, works}
use Rattle.phase_laws.proofs.Events.{calm_of, stop_ties}
use Rattle.phase_laws.proofs.Endings.{Stops, tags_of}
use Rattle.phase_laws.proofs.Parts.{KeepsCard, KeepsScript}
use Rattle.phase_laws.proofs.SetUps.{as_set_up, stop_unseen}

-- ---- the list of the slots

base_is : (wide : Bool) → upper_base wide * 2 ^ 32 + 536870912 ≡ 536870912 + 2 ^ 32 * upper_base wide
base_is true = refl
base_is false = refl

wide_is : (wide : Bool) → are_wide (configuration_word wide) ≡ wide
unfolding field_of
wide_is true = refl
wide_is false = refl

direct_is : (wide : Bool) → are_direct (configuration_word wide) ≡ true
unfolding field_of
direct_is true = refl
direct_is false = refl

abbrev list_with : ℕ → Bool → Bool → TaskList
list_with base wide direct = record { base = base; wide = wide; direct = direct }

-- the registers name the driver's list
pub list_is : (plan : Plan) (regs : Registers) → regs ≡ as_set_up plan regs → engine_list regs ≡ list_of (layout_of plan)
list_is plan regs e =
    ap engine_list e
    ∙ ap (λ n. list_with n (are_wide (configuration_word plan.wide)) (are_direct (configuration_word plan.wide))) (base_is plan.wide)
    ∙ ap (λ b. list_with (536870912 + 2 ^ 32 * upper_base plan.wide) b (are_direct (configuration_word plan.wide))) (wide_is plan.wide)
    ∙ ap (λ b. list_with (536870912 + 2 ^ 32 * upper_base plan.wide) plan.wide b) (direct_is plan.wide)

-- ---- the job

pub data DirectJob (j : Job) (int : Bool) (desc : DirectDesc) : Type 0 where
  flushes : j ≡ Flush → desc ≡ switch_desc FLUSH_CACHE int → DirectJob j int desc
  bars : j ≡ Barrier → desc ≡ switch_desc SET_BARRIER int → DirectJob j int desc
  asks : j ≡ Status → desc ≡ status_desc int → DirectJob j int desc

abbrev DirectMeaning : Layout → ℕ → Job → Bool → Type 0
DirectMeaning layout slot j int = (desc : DirectDesc) × (task_of layout slot j int ≡ Direct desc) × DirectJob j int desc

pub direct_job : (layout : Layout) (slot : ℕ) (j : Job) (int : Bool) → is_direct j ≡ true → DirectMeaning layout slot j int
direct_job layout slot (Read sector blocks high) int e = absurd (false≢true e)
direct_job layout slot (Write sector blocks fill forced reliable high) int e = absurd (false≢true e)
direct_job layout slot Flush int e = (switch_desc FLUSH_CACHE int, refl, flushes refl refl)
direct_job layout slot Barrier int e = (switch_desc SET_BARRIER int, refl, bars refl refl)
direct_job layout slot Status int e = (status_desc int, refl, asks refl refl)

direct_slot : (layout : Layout) (slot : ℕ) (j : Job) → is_direct j ≡ true → IsTagOf layout slot j → slot ≡ 31
direct_slot layout slot (Read sector blocks high) e fits = absurd (false≢true e)
direct_slot layout slot (Write sector blocks fill forced reliable high) e fits = absurd (false≢true e)
direct_slot layout slot Flush e fits = fits
direct_slot layout slot Barrier e fits = fits
direct_slot layout slot Status e fits = fits

-- ---- the command, and what the card does for it

pub flush_command : (int : Bool) → direct_of (switch_desc FLUSH_CACHE int) ≡ Switch FLUSH_CACHE
unfolding decoded
flush_command int = refl

pub barrier_command : (int : Bool) → direct_of (switch_desc SET_BARRIER int) ≡ Switch SET_BARRIER
unfolding decoded
barrier_command int = refl

pub status_command : (int : Bool) → direct_of (status_desc int) ≡ StatusCommand false 1
unfolding decoded field_of
status_command int = refl

pub flush_response : (card : CardState) (choice : ℕ)
    → response_to card (Switch FLUSH_CACHE) choice ≡ response.FlushCache (with_direct card 1 true) (with_direct card 0 false)
unfolding response_to
flush_response card choice =
    ap (λ o. option_map_or (λ switch. change_response card switch.csd switch.change) o (refused card SWITCH_ERROR)) (switched-flush card.csd)

pub barrier_response : (card : CardState) (choice : ℕ) → card.csd.barrier ≡ true
    → response_to card (Switch SET_BARRIER) choice ≡ response.SetBarrier (with_direct card 1 false)
unfolding response_to
barrier_response card choice on =
    ap (λ o. option_map_or (λ switch. change_response card switch.csd switch.change) o (refused card SWITCH_ERROR)) (switched-barrier card.csd on)

pub status_response : (card : CardState) (choice : ℕ) → response_to card (StatusCommand false 1) choice ≡ response.Tell without_error (with_direct card 1 false)
unfolding response_to
status_response card choice = refl

-- The command was lost; or the card got it, and did what is said of it.
pub data DirectMade (command : Command) (does : response.Response) (old new : Behind) (answer : Result ℕ LinkEnd) : Type 0 where
  lost : hit_on old command ≡ Some Lost → answer ≡ Err (link_end.Bus Lost) → new ≡ record old { script = struck (sent old command) }
      → DirectMade command does old new answer
  got : (word : Result ℕ Dark) → is_lost (hit_on old command) ≡ false → Responds does old.card old.array new.card new.array word
      → new.script ≡ after_response (hit_on old command) word (sent old command) → answer ≡ response_seen (hit_on old command) word
      → DirectMade command does old new answer

lost_is : (hit : Option BusKind) → is_lost hit ≡ true → hit ≡ Some Lost
lost_is None e = absurd (false≢true e)
lost_is (Some Lost) e = refl
lost_is (Some NoResp) e = absurd (false≢true e)
lost_is (Some (Bad n)) e = absurd (false≢true e)
lost_is (Some Late) e = absurd (false≢true e)

made_by : (command : Command) (does : response.Response) (old new : Behind) (answer : Result ℕ LinkEnd) (b : Bool) → is_lost (hit_on old command) ≡ b
    → ((choice : ℕ) → response_to old.card command choice ≡ does) → is_poll command ≡ false
    → MatchBool b (IsLost Lost old new (sent old command) answer) (IsHeard command old new answer) → DirectMade command does old new answer
made_by command does old new answer true e is poll h = lost (lost_is (hit_on old command) e) h.answer h.behind
made_by command does old new answer false e is poll h =
    let R : response.Response → Type 0 = λ r. Responds r old.card old.array new.card new.array h.answer in
    got h.answer e (subst R (is (choice_of (sent old command) command)) h.responds)
    (h.script ∙ ap (λ b. after_response (hit_on old command) h.answer (cond b (word_used (sent old command)) (sent old command))) poll) h.seen

pub direct_made : (command : Command) (does : response.Response) (old new : Behind) (answer : Result ℕ LinkEnd)
    → ((choice : ℕ) → response_to old.card command choice ≡ does) → is_poll command ≡ false → Exchanges command old new answer
    → DirectMade command does old new answer
direct_made command does old new answer is poll h = made_by command does old new answer (is_lost (hit_on old command)) refl is poll h

-- how the card answers: without an error, with that of a flash fault, or not at all
pub data DirectWord (word : Result ℕ Dark) : Type 0 where
  well : word ≡ Ok without_error → DirectWord word
  fails : word ≡ Ok (word_of ERROR) → DirectWord word
  dark : word ≡ Err (record {}) → DirectWord word

word_by : (word : Result ℕ Dark) (end : End) → word ≡ word_answer end → DirectWord word
word_by word (Ok u) e = well e
word_by word (Err Flash) e = fails e
word_by word (Err PowerLost) e = dark e

-- what is said of a card that gets it
pub record DirectLeaves (old new : CardState) (word : Result ℕ Dark) : Type 0 where
  pub keeps : KeepsCard old new
  pub answers : DirectWord word

with_direct_keeps : (card : CardState) (count : ℕ) (is_kept : Bool) → KeepsCard card (with_direct card count is_kept)
with_direct_keeps card count is_kept =
    record { queue = refl; csd = refl; depth = refl; lines = refl; through = refl; sectors = refl; room = refl; last = λ h. h }

flush_keeps : (card : CardState) (end : End) → KeepsCard card (by_end (with_direct card 1 true) (with_direct card 0 false) end)
flush_keeps card (Ok u) = with_direct_keeps card 1 true
flush_keeps card (Err why) = with_direct_keeps card 0 false

pub flush_leaves : (old : CardState) (old_array : ArrayState) (new : CardState) (new_array : ArrayState) (word : Result ℕ Dark)
    → Responds (response.FlushCache (with_direct old 1 true) (with_direct old 0 false)) old old_array new new_array word → DirectLeaves old new word
flush_leaves old old_array new new_array word s = record {
  keeps = keeps_by old (by_end (with_direct old 1 true) (with_direct old 0 false) s.end) new (flush_keeps old s.end) s.card s.store;
  answers = word_by word s.end s.answers;
}

next_if : (n : ℕ) (b : Bool) → (n == 4294967295) ≡ b → n ≤ 4294967295 → cond b n (n + 1) ≤ 4294967295
next_if n true e low = low
next_if n false e low = let apart = eqb-false n 4294967295 e in let less : n < 4294967295 = less_than n low apart in omega arith
  where
    less_than : (n : ℕ) → n ≤ 4294967295 → (n ≡ 4294967295 → ⊥) → n < 4294967295
    less_than n low apart = elim (cases_lt n 4294967295) [ inl h ↦ h | inr h ↦ absurd (apart (omega arith)) ]

next_low : (n : ℕ) → n ≤ 4294967295 → next_epoch n ≤ 4294967295
next_low n low = next_if n (n == 4294967295) refl low

pub barrier_leaves : (old : CardState) (old_array : ArrayState) (new : CardState) (new_array : ArrayState) (word : Result ℕ Dark)
    → Responds (response.SetBarrier (with_direct old 1 false)) old old_array new new_array word → DirectLeaves old new word
barrier_leaves old old_array new new_array word s = record {
  keeps = record {
    queue = ap (λ x. x.queue) s.card;
    csd = ap (λ x. x.csd) s.card;
    depth = ap (λ x. x.depth) s.card;
    lines = ap (λ x. x.lines) s.card;
    through = ap (λ x. x.through) s.card;
    sectors = ap (λ o. option_map (λ known. known.sectors) o) s.known;
    room = ap (λ x. x.room) s.epoch;
    last = λ low. subst (λ n. n ≤ 4294967295) (sym (ap (λ x. x.last) s.epoch)) (next_low old.store.cache.last low);
  };
  answers = well s.answer;
}

pub status_leaves : (old : CardState) (old_array : ArrayState) (new : CardState) (new_array : ArrayState) (word : Result ℕ Dark)
    → Responds (response.Tell without_error (with_direct old 1 false)) old old_array new new_array word → DirectLeaves old new word
status_leaves old old_array new new_array word s = record {
  keeps = subst (KeepsCard old) (sym s.1) (with_direct_keeps old 1 false);
  answers = well s.0;
}

-- ---- the engine

abbrev pub direct_base : Registers → DirectDesc → ℕ → Registers
direct_base regs desc word = record (responded regs (index_of (direct_of desc)) word) { direct_response = word }

pub direct_goes : (p : PathState) (slot word : ℕ) (desc : DirectDesc) → (desc.resp == 0) ≡ false → is_masked p.regs word ≡ false
    → after_direct (host_at p) slot desc (Ok word)
    ≡ outcome_of (DirectDone slot) (remembered p.engine.held p.regs) (completed (direct_base p.regs desc word) slot desc.int)
direct_goes p slot word desc resp free =
    ap (λ b. cond b (direct_done slot desc (host_at p)) (direct_heard slot desc (host_at p) word)) resp
    ∙ ap (λ b. cond (b && not (is_poll (direct_of desc)))
    (outcome_of (Stopped (Response word slot)) (remembered p.engine.held p.regs) (stopped_with (direct_base p.regs desc word) (command_error (index_of (direct_of desc)) slot)))
    (outcome_of (DirectDone slot) (remembered p.engine.held p.regs) (completed (direct_base p.regs desc word) slot desc.int))) free

pub direct_stops : (p : PathState) (slot word : ℕ) (desc : DirectDesc) → (desc.resp == 0) ≡ false → is_masked p.regs word ≡ true
    → is_poll (direct_of desc) ≡ false
    → after_direct (host_at p) slot desc (Ok word)
    ≡ outcome_of (Stopped (Response word slot)) (remembered p.engine.held p.regs) (stopped_with (direct_base p.regs desc word) (command_error (index_of (direct_of desc)) slot))
direct_stops p slot word desc resp masked poll =
    ap (λ b. cond b (direct_done slot desc (host_at p)) (direct_heard slot desc (host_at p) word)) resp
    ∙ ap (λ b. cond (b && not (is_poll (direct_of desc)))
    (outcome_of (Stopped (Response word slot)) (remembered p.engine.held p.regs) (stopped_with (direct_base p.regs desc word) (command_error (index_of (direct_of desc)) slot)))
    (outcome_of (DirectDone slot) (remembered p.engine.held p.regs) (completed (direct_base p.regs desc word) slot desc.int))) masked
    ∙ ap (λ b. cond (not b)
    (outcome_of (Stopped (Response word slot)) (remembered p.engine.held p.regs) (stopped_with (direct_base p.regs desc word) (command_error (index_of (direct_of desc)) slot)))
    (outcome_of (DirectDone slot) (remembered p.engine.held p.regs) (completed (direct_base p.regs desc word) slot desc.int))) poll

-- ---- the bus

raised_low : (n : ℕ) → raised n ≤ 4294967295
raised_low n = omega arith

sent_keeps : (s : Script) (command : Command) (blocks : ℕ) → KeepsScript s (armed s command blocks)
sent_keeps s command blocks = record { hits = refl; ready = refl; used = refl; sent = λ _. raised_low s.sent }

pub struck_sent : (s : Script) (command : Command) (blocks : ℕ) → KeepsScript s (struck (armed s command blocks))
struck_sent s command blocks = record { hits = refl; ready = refl; used = refl; sent = λ _. raised_low s.sent }

pub response_script : (hit : Option BusKind) (word : Result ℕ Dark) (s : Script) (command : Command) (blocks : ℕ)
    → KeepsScript s (after_response hit word (armed s command blocks))
response_script None word s command blocks = sent_keeps s command blocks
response_script (Some Lost) word s command blocks = sent_keeps s command blocks
response_script (Some (Bad n)) word s command blocks = sent_keeps s command blocks
response_script (Some Late) word s command blocks = sent_keeps s command blocks
response_script (Some NoResp) (Ok word) s command blocks = struck_sent s command blocks
response_script (Some NoResp) (Err end) s command blocks = sent_keeps s command blocks

pub seen_response : (hit : Option BusKind) (word : ℕ) → is_lost hit ≡ false
    → ((hit ≢ Some NoResp) × (response_seen hit (Ok word) ≡ Ok word)) ⊎ ((hit ≡ Some NoResp) × (response_seen hit (Ok word) ≡ Err (link_end.Bus NoResp)))
seen_response None word e = inl (λ h. absurd (cc h), refl)
seen_response (Some Lost) word e = inl (λ h. absurd (cc h), refl)
seen_response (Some NoResp) word e = inr (refl, refl)
seen_response (Some (Bad n)) word e = inl (λ h. absurd (cc h), refl)
seen_response (Some Late) word e = inl (λ h. absurd (cc h), refl)

pub dark_response : (hit : Option BusKind) (end : Dark) → response_seen hit (Err end) ≡ Err link_end.Dark
dark_response None end = refl
dark_response (Some Lost) end = refl
dark_response (Some NoResp) end = refl
dark_response (Some (Bad n)) end = refl
dark_response (Some Late) end = refl

-- ---- the slots

below_first : (b : Bool) (r : Ringed) (ring : List Ringed) (slot : ℕ) → (r.slot == slot) ≡ b → (b ≡ true → slot < 32) → (progress_of ring slot ≢ Idle → slot < 32)
    → option_map_or (λ r. r.progress) (cond b (Some r) (find (λ r. r.slot == slot) ring)) Idle ≢ Idle → slot < 32
below_first true r ring slot e here rest apart = here refl
below_first false r ring slot e here rest apart = rest apart

pub rung_below : (ring : List Ringed) (slot : ℕ) → All (λ r. r.slot < 32) ring → progress_of ring slot ≢ Idle → slot < 32
rung_below [] slot all apart = absurd (apart refl)
rung_below (r ∷ ring) slot all apart =
    below_first (r.slot == slot) r ring slot refl
    (λ e. subst (λ n. n < 32) (eqb-true r.slot slot e) (All-head (λ r. r.slot < 32) r ring all))
    (rung_below ring slot (All-tail (λ r. r.slot < 32) r ring all)) apart

pub vacant_idle : (p : PathState) (tag : ℕ) (o : Option ℕ) → o ≡ None → MatchOption o (IsVacant p tag) (IsIssued p tag) → progress_of p.regs.ring tag ≡ Idle
vacant_idle p tag None e h = h.idle
vacant_idle p tag (Some id) e h = absurd (cc e)

-- where a direct command is served, no slot is in its data phase: neither before it nor after it
pub none_served : (p : PathState) (ring' : List Ringed) (id : ℕ) → AreTied p → p.driver.recovery ≡ driver.Calm → holder p 31 ≡ Some id
    → progress_of p.regs.ring 31 ≡ Rung → ring' ≡ without p.regs.ring 31 → first_at Active ring' ≡ None
none_served p ring' id t calm is rung e =
    first_none Active ring'
    (λ tag active.
    elim (eqb_tells tag 31) [
      | inl x ↦
          let idle : progress_of ring' tag ≡ Idle = ap (λ r. progress_of r tag) e ∙ ap (progress_of (without p.regs.ring 31)) x.1 ∙ without-same p.regs.ring 31 in
          absurd (cc (sym idle ∙ active))
      | inr x ↦
          let was : progress_of p.regs.ring tag ≡ Active = sym (ap (λ r. progress_of r tag) e ∙ without-other p.regs.ring 31 tag x.1) ∙ active in
          let within : tag < 32 = rung_below p.regs.ring tag t.regs.ring.below (λ idle. absurd (cc (sym idle ∙ was))) in
          let lower : tag < 31 = low_of tag within x.1 in
          let vacant = vacant_idle p tag (holder p tag) (t.alone (ap is_some is) tag lower) (tags_of p t calm tag within) in
          absurd (cc (sym vacant ∙ was))
    ])
  where
    low_of : (tag : ℕ) → tag < 32 → tag ≢ 31 → tag < 31
    low_of tag within apart = elim (cases_lt tag 31) [ inl h ↦ h | inr h ↦ absurd (apart (omega arith)) ]

-- ---- the request

pub record InService (p : PathState) (slot : ℕ) : Type 0 where
  pub id : ℕ
  pub desc : DirectDesc
  pub calm : p.driver.recovery ≡ driver.Calm
  pub last : slot ≡ 31
  pub rung : progress_of p.regs.ring slot ≡ Rung
  pub is_held : holder p slot ≡ Some id
  pub is_direct : is_direct (job p id) ≡ true
  pub issued : IsIssued p slot id
  pub means : Means p.memory (engine_list p.regs) slot (Ok (Direct desc))
  pub is_job : DirectJob (job p id) (asks_notice (plan_of p) (job p id)) desc

service_by : (p : PathState) (slot : ℕ) (o : Option ℕ) → AreTied p → p.driver.recovery ≡ driver.Calm → progress_of p.regs.ring slot ≡ Rung
    → holder p slot ≡ o → MatchOption o (IsVacant p slot) (IsIssued p slot) → option_map_or (λ id. is_direct (job p id)) o false ≡ true → InService p slot
service_by p slot None t calm rung is tied direct = absurd (false≢true direct)
service_by p slot (Some id) t calm rung is tied direct =
    let d = direct_job (layout p) slot (job p id) (asks_notice (plan_of p) (job p id)) direct in
    let M : TaskList → Type 0 = λ l. Means p.memory l slot (Ok (task_of (layout p) slot (job p id) (asks_notice (plan_of p) (job p id)))) in
    let N : SlotTask → Type 0 = λ x. Means p.memory (engine_list p.regs) slot (Ok x) in
    record {
      id = id;
      desc = d.0;
      calm = calm;
      last = direct_slot (layout p) slot (job p id) direct tied.asks.tag_fits;
      rung = rung;
      is_held = is;
      is_direct = direct;
      issued = tied;
      means = subst N d.1 (subst M (sym (list_is (plan_of p) p.regs t.regs.same)) tied.asks.means);
      is_job = d.2;
    }

pub in_service : (p : PathState) (slot : ℕ) → AreTied p → rests p.regs ≡ false → slot < 32 → progress_of p.regs.ring slot ≡ Rung
    → option_map_or (λ id. is_direct (job p id)) (holder p slot) false ≡ true → InService p slot
in_service p slot t goes below rung direct =
    let calm = calm_of p slot t goes (λ idle. absurd (cc (sym idle ∙ rung))) in
    service_by p slot (holder p slot) t calm rung refl (tags_of p t calm slot below) direct

-- ---- the event

-- the command of a descriptor, what the card does for it, and what that leaves
pub record DirectFacts (card : CardState) (desc : DirectDesc) : Type 0 where
  pub command : Command
  pub does : response.Response
  pub is : direct_of desc ≡ command
  pub poll : is_poll command ≡ false
  pub resp : (desc.resp == 0) ≡ false
  pub responds : (choice : ℕ) → response_to card command choice ≡ does
  pub leaves : (array : ArrayState) (new : CardState) (new_array : ArrayState) (word : Result ℕ Dark) → Responds does card array new new_array word
      → DirectLeaves card new word

unfoldable pub direct_facts : (card : CardState) (j : Job) (int : Bool) (desc : DirectDesc) → card.csd.barrier ≡ true → DirectJob j int desc → DirectFacts card desc
direct_facts card j int desc on (flushes is e) = record {
  command = Switch FLUSH_CACHE;
  does = response.FlushCache (with_direct card 1 true) (with_direct card 0 false);
  is = ap direct_of e ∙ flush_command int;
  poll = refl;
  resp = ap (λ d. d.resp == 0) e;
  responds = flush_response card;
  leaves = flush_leaves card;
}
direct_facts card j int desc on (bars is e) = record {
  command = Switch SET_BARRIER;
  does = response.SetBarrier (with_direct card 1 false);
  is = ap direct_of e ∙ barrier_command int;
  poll = refl;
  resp = ap (λ d. d.resp == 0) e;
  responds = λ choice. barrier_response card choice on;
  leaves = barrier_leaves card;
}
direct_facts card j int desc on (asks is e) = record {
  command = StatusCommand false 1;
  does = response.Tell without_error (with_direct card 1 false);
  is = ap direct_of e ∙ status_command int;
  poll = refl;
  resp = ap (λ d. d.resp == 0) e;
  responds = status_response card;
  leaves = status_leaves card;
}

pub direct_notice : (j : Job) (int : Bool) (desc : DirectDesc) → DirectJob j int desc → desc.int ≡ int
direct_notice j int desc (flushes is e) = ap (λ d. d.int) e
direct_notice j int desc (bars is e) = ap (λ d. d.int) e
direct_notice j int desc (asks is e) = ap (λ d. d.int) e

abbrev pub ServesHere : (p : PathState) (old new : Behind) → ℕ → Outcome → Result SlotTask DropCause → Type 0
ServesHere p old new slot out meaning = Serves CardMade old new (host_at p) slot out meaning

pub direct_ties : (p : PathState) (a : ArrayState) (p' : PathState) (a' : ArrayState) (did : Did) (phase : Option Phase) (e : EngineEvent p a p' a' did phase)
    (slot : ℕ) → AreTied p → IsDue (remembered p.engine.held p.regs) p.regs p.memory (Serve slot)
    → HasItsSlot (remembered p.engine.held p.regs) p.regs (Serve slot)
    → Does CardMade (behind_path p a) (behind e.card a' p'.script) (host_at p) p.memory p'.memory (outcome_of did e.event.left.held e.event.left.regs) (Serve slot)
    → option_map_or (λ id. is_direct (job p id)) (holder p slot) false ≡ true → AreTied p'
direct_ties p a p' a' did phase e slot t due has does direct = by_made (direct_made x.command x.does old new sends.answer x.responds x.poll crossed)
  where
    old : Behind
    old = behind_path p a

    new : Behind
    new = behind e.card a' p'.script

    out : Outcome
    out = outcome_of did e.event.left.held e.event.left.regs

    goes : rests p.regs ≡ false
    goes = works (remembered p.engine.held p.regs) p.regs p.memory (Serve slot) due (λ h. absurd (cc h))

    i : InService p slot
    i = in_service p slot t goes has.0 has.1 direct

    meaning_is : does.0.meaning ≡ Ok (Direct i.desc)
    meaning_is = one_meaning p.memory (engine_list p.regs) slot does.0.meaning (Ok (Direct i.desc)) does.0.means i.means

    sends : SendsCommand CardMade old new (direct_of i.desc) out (after_direct (host_at p) slot i.desc)
    sends = subst (ServesHere p old new slot out) meaning_is does.0.serves

    x : DirectFacts p.card i.desc
    x = direct_facts p.card (job p i.id) (asks_notice (plan_of p) (job p i.id)) i.desc (ap (λ c. c.barrier) t.card.csd) i.is_job

    crossed : Exchanges x.command old new sends.answer
    crossed = let X : Command → Type 0 = λ c. Exchanges c old new sends.answer in subst X x.is sends.crossed

    O : Result ℕ LinkEnd → Type 0
    O r = out ≡ after_direct (host_at p) slot i.desc r

    info : ℕ
    info = command_error (index_of (direct_of i.desc)) slot

    base : ℕ → Registers
    base word = direct_base p.regs i.desc word

    enable : p.regs.status_enable ≡ 2
    enable = ap (λ r. r.status_enable) t.regs.same

    undone : (r : Registers) → has_bit p.regs.completed 31 ≡ true → r.direct_response ≡ p.regs.direct_response
    undone r done =
        let here : has_bit p.regs.completed slot ≡ true = ap (has_bit p.regs.completed) i.last ∙ done in
        absurd (false≢true (sym (sym (ap is_rung i.rung) ∙ i.issued.rung ∙ ap not here)))

    masked : (word : ℕ) → (bit_and word 3228041344 == 0) ≡ false → is_masked p.regs word ≡ true
    masked word some = masks p.regs word (ap (λ r. r.error_mask) t.regs.same) some

    stop_at : (cause : Cause) (regs : Registers) → IfSome (named_by (Some cause)) (λ tag. tag ≡ slot) → out ≡ outcome_of (Stopped cause) (remembered p.engine.held p.regs) regs → Stops p.regs regs
        → KeepsCard p.card e.card → KeepsScript p.script p'.script → AreTied p'
    stop_at cause regs names is stops card script =
        stop_ties p a p' a' did phase e t i.calm goes (subst (Stops p.regs) (sym (e.event.registers ∙ ap (λ o. o.host.regs) is)) stops) card script does.1
        cause (ap (λ o. o.did) is) (rung_by p slot cause (ap is_rung i.rung) names)

    stops_plain : Stops p.regs (stopped_with p.regs info)
    stops_plain = record {
      stopped = refl;
      ring = refl;
      completed = refl;
      interrupts = stop_unseen p.regs.interrupts p.regs.status_enable enable t.regs.notice;
      coalescing = refl;
      status = undone (stopped_with p.regs info);
    }

    stops_word : (word : ℕ) → Stops p.regs (stopped_with (base word) info)
    stops_word word = record {
      stopped = refl;
      ring = refl;
      completed = refl;
      interrupts = stop_unseen p.regs.interrupts p.regs.status_enable enable t.regs.notice;
      coalescing = refl;
      status = undone (stopped_with (base word) info);
    }

    finish : sends.answer ≡ Ok without_error → KeepsCard p.card e.card → KeepsScript p.script p'.script → AreTied p'
    finish answered card script =
        let free : is_masked p.regs without_error ≡ false = ap (λ m. not (bit_and without_error m == 0)) (ap (λ r. r.error_mask) t.regs.same) in
        let is = subst O answered sends.outcome ∙ direct_goes p slot without_error i.desc x.resp free in
        let regs : p'.regs ≡ completed (base without_error) slot i.desc.int = e.event.registers ∙ ap (λ o. o.host.regs) is in
        let ring = ap (λ r. r.ring) regs ∙ (slot_completes (base without_error) slot i.desc.int).0 in
        let begins : Begins p (base without_error) = record { ring = refl; completed = refl; interrupts = refl; coalescing = refl; status_enable = refl; stopped = refl } in
        let some = notice_is (plan_of p) (job p i.id) i.desc.int (direct_notice (job p i.id) (asks_notice (plan_of p) (job p i.id)) i.desc i.is_job) in
        let both = completion p (base without_error) slot i.desc.int t begins some in
        done_ties p a p' a' did phase e (base without_error) slot i.desc.int t i.calm goes has.0
        (record { rung = ap is_rung i.rung; unqueued = ap is_queued i.rung }) begins some regs
        (none_served p p'.regs.ring i.id t i.calm (sym (ap (holder p) i.last) ∙ i.is_held) (sym (ap (progress_of p.regs.ring) i.last) ∙ i.rung)
        (ring ∙ ap (without p.regs.ring) i.last))
        does.1
        (others_held p a p' a' did phase e slot (remembered p.engine.held p.regs) (ap (λ o. o.host.held) is) (λ tag apart. refl) ring)
        card script
        (λ _. ap (λ r. r.direct_response) regs ∙ both.direct_response)

    by_made : DirectMade x.command x.does old new sends.answer → AreTied p'
    by_made (lost hit seen behind) =
        stop_at (BusFault Lost (Some slot)) (stopped_with p.regs info) refl (subst O seen sends.outcome) stops_plain
        (subst (KeepsCard p.card) (sym (ap (λ b. b.card) behind)) (card_itself p.card))
        (subst (KeepsScript p.script) (sym (ap (λ b. b.script) behind)) (struck_sent p.script x.command _))
    by_made (got word free responds script seen) =
        let l = x.leaves a e.card a' word responds in
        by_word l.answers l.keeps (subst (KeepsScript p.script) (sym script) (response_script (hit_on old x.command) word p.script x.command _))
      where
        by_ok : (n : ℕ) → word ≡ Ok n → (is_masked p.regs n ≡ true) ⊎ (n ≡ without_error) → KeepsCard p.card e.card → KeepsScript p.script p'.script → AreTied p'
        by_ok n is kind card lines =
            elim (seen_response (hit_on old x.command) n free) [
              | inl s ↦
                  let here : sends.answer ≡ Ok n = seen ∙ ap (response_seen (hit_on old x.command)) is ∙ s.1 in
                  elim kind [
                    | inl m ↦
                        stop_at (Response n slot) (stopped_with (base n) info) refl
                        (subst O here sends.outcome ∙ direct_stops p slot n i.desc x.resp m (ap is_poll x.is ∙ x.poll)) (stops_word n) card lines
                    | inr w ↦ finish (here ∙ ap (λ v. Ok v) w) card lines
                  ]
              | inr s ↦
                  stop_at (BusFault NoResp (Some slot)) (stopped_with p.regs info) refl
                  (subst O (seen ∙ ap (response_seen (hit_on old x.command)) is ∙ s.1) sends.outcome) stops_plain card lines
            ]

        by_word : DirectWord word → KeepsCard p.card e.card → KeepsScript p.script p'.script → AreTied p'
        by_word (well is) card lines = by_ok without_error is (inr refl) card lines
        by_word (fails is) card lines = by_ok (word_of ERROR) is (inl (masked (word_of ERROR) refl)) card lines
        by_word (dark is) card lines =
            stop_at NoPower (stopped_with p.regs info) tt
            (subst O (seen ∙ ap (response_seen (hit_on old x.command)) is ∙ dark_response (hit_on old x.command) (record {})) sends.outcome) stops_plain card lines
