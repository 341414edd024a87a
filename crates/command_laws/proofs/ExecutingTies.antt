-- The ties after CMD46 or CMD47.
use Rattle.std.proofs.Common.{◌≡◌, ◌≢◌, ◌<◌, ◌==◌, ◌&&◌, ℕ, Bool, true, false, cond, length, refl, sym, ◌∙◌, ap, subst, arith, inl, inr, ⊎_elim}
use Rattle.std.specs.Prelude.{nat_lt, All, List, [], ◌∷◌, Option, Some, None, IfSome}
use Rattle.std.specs.List.{find}
use Rattle.std.specs.Option.{MatchOption, option_map, option_map_or}
use Rattle.std.proofs.lemmas.Bool.{cases_lt, eqb-true}
use Rattle.std.proofs.lemmas.Bool.Decides.{eqb_tells}
use Rattle.std.proofs.lemmas.List.Elements.{All-head, All-tail}
use Rattle.std.proofs.lemmas.List.{get_or-set_other, get_or-set_same, get_or_past}
use Rattle.bus_link.specs.Hits.{befalls, fault_of, hit_of, if_of_kind, raised}
use Rattle.bus_link.specs.Script.{armed}
use Rattle.bus_link.specs.declared.link.Cause.{Cause}
use Rattle.card_core.specs.Card.{blocks_of as card_blocks}
use Rattle.card_core.specs.declared.phase.DataPhase.{DataPhase}
use Rattle.card_core.specs.declared.phase.Phase.{Phase}
use Rattle.cq_engine.specs.Standings.{OneOpen, is_open}
use Rattle.cq_engine.specs.Words.{execute_of}
use Rattle.cq_engine.proofs.Places.{length-remembered}
use Rattle.cq_engine.proofs.SlotLaws.{advanced-other}
use Rattle.cq_regs.proofs.ProgressLaws.{progress_advanced}
use Rattle.cq_regs.specs.Slots.{IsRing, advanced, is_begun, next, progress_of}
use Rattle.cq_regs.specs.State.{Registers}
use Rattle.cq_regs.specs.declared.slots.Progress.{Progress}
use Rattle.cq_regs.specs.declared.slots.Progress.TheVariants.{Active, Idle, Named, Ready, Rung, Sent}
use Rattle.cq_schedule.specs.Held.{Places, held_at, left_at, noted, remembered, same}
use Rattle.cq_schedule.specs.Meaning.{IsDue, IsDueThen, next_of_phase, rests}
use Rattle.cq_schedule.specs.Order.{blocks_of, first_at, first_high, is_high, moved_of, order_of}
use Rattle.cq_schedule.specs.declared.held.HeldTask.{HeldTask}
use Rattle.cq_schedule.specs.declared.rules.Due.TheVariants.{Address, Block, Close, Execute, Poll, Rest, Serve, Tick}
use Rattle.cq_schedule.proofs.Progresses.{same-true}
use Rattle.host_mem.specs.Memory.{Memory}
use Rattle.storage_machine.specs.Jobs.{is_high as is_high_job}
use Rattle.storage_model.specs.Faults.{IsHit, IsKind}
use Rattle.storage_model.specs.declared.faults.BusKind.{BusKind}
use Rattle.storage_model.specs.declared.faults.BusKind.TheVariants.{Bad, Late, Lost, NoResp}
use Rattle.storage_model.specs.declared.faults.Hit.{Hit}
use Rattle.cmd_words.specs.declared.command.Command.{Command}
use Rattle.task_queue.specs.Queue.{is_ready, slot as queue_slot}
use Rattle.task_queue.specs.declared.queue.Place.{Place}
use Rattle.task_queue.specs.declared.queue.Queued.{Queued}
use Rattle.world_state.specs.Path.{PathState, holder, job, moved, moved_by, under_way}
use Rattle.world_state.specs.Ties.{AreTied, IsBeforeFault, HasHit, HasPhase, IsAhead, IsInImage, TagRuns, first_of, has_high, is_executable, is_queued, phase_words, words_of}
use Rattle.command_laws.proofs.Begun.{BegunTask, begun_task}
use Rattle.command_laws.proofs.Executing.{executed_at, executed_card, executed_regs, is_active}
use Rattle.command_laws.proofs.Held.{found_and, noted-at}
use Rattle.command_laws.proofs.Onwards.{all_of, holds_on, if_some_map, queued_by, same_runs}
use Rattle.command_laws.proofs.Parts.{path_with}
use Rattle.command_laws.proofs.Rings.{find_alike, none_at, order_advanced}
use Rattle.command_laws.proofs.Running.{IsRunning}
use Rattle.command_laws.proofs.SendingTies.{some_if}

-- where a ready slot is to be executed, no slot is active, and it is the first of high priority, or the first
pub record IsExecuteDue (held : Places) (regs : Registers) (slot : ℕ) : Type 0 where
  pub active : first_at Active regs.ring ≡ None
  pub first : first_of (first_high held regs.ring) (first_at Ready regs.ring) ≡ Some slot

execute_then : (slot : ℕ) (served high ready sent : Option ℕ)
    → Execute slot ≡ option_map_or Serve served (option_map_or Execute high (option_map_or Execute ready (option_map_or (λ _. Poll) sent Tick)))
    → first_of high ready ≡ Some slot
execute_then slot (Some other) high ready sent e = absurd (cc e)
execute_then slot None (Some other) ready sent e = let at : other ≡ slot = cc e in ap (λ n. Some n) at
execute_then slot None None (Some other) sent e = let at : other ≡ slot = cc e in ap (λ n. Some n) at
execute_then slot None None None (Some other) e = absurd (cc e)
execute_then slot None None None None e = absurd (cc e)

phase_no_execute : (slot other moved : ℕ) (more : Bool) → Execute slot ≢ cond more (Block other moved) (Close other)
phase_no_execute slot other moved true e = absurd (cc e)
phase_no_execute slot other moved false e = absurd (cc e)

execute_by : (held : Places) (regs : Registers) (memory : Memory) (slot : ℕ) (resting : Bool) (active named : Option ℕ) → first_at Active regs.ring ≡ active
    → MatchOption (cond resting (Some Rest) (option_map_or (λ slot. Some (next_of_phase held slot)) active (option_map Address named)))
    (IsDueThen held regs memory (Execute slot)) (λ first. Execute slot ≡ first)
    → IsExecuteDue held regs slot
execute_by held regs memory slot true active named a is = absurd (cc is)
execute_by held regs memory slot false (Some other) named a is =
    absurd (phase_no_execute slot other (moved_of held other) (nat_lt (moved_of held other) (blocks_of held other)) is)
execute_by held regs memory slot false None (Some other) a is = absurd (cc is)
execute_by held regs memory slot false None None a is = record {
  active = a;
  first = execute_then slot is.served (first_high held regs.ring) (first_at Ready regs.ring) (first_at Sent regs.ring) is.is;
}

pub execute_due : (held : Places) (regs : Registers) (memory : Memory) (slot : ℕ) → IsDue held regs memory (Execute slot) → IsExecuteDue held regs slot
execute_due held regs memory slot is = execute_by held regs memory slot (rests regs) (first_at Active regs.ring) (first_at Named regs.ring) refl is

-- a slot is executable now where it was ready
executable_if : (b : Bool) (progress : Progress) → (b ≡ true → progress ≡ Ready) → progress ≢ Active → is_executable (cond b (next progress) progress) ≡ same progress Ready
executable_if false Idle ready idle = refl
executable_if false Rung ready idle = refl
executable_if false Named ready idle = refl
executable_if false Sent ready idle = refl
executable_if false Ready ready idle = refl
executable_if b Active ready idle = absurd (idle refl)
executable_if true Idle ready idle = absurd (cc (ready refl))
executable_if true Rung ready idle = absurd (cc (ready refl))
executable_if true Named ready idle = absurd (cc (ready refl))
executable_if true Sent ready idle = absurd (cc (ready refl))
executable_if true Ready ready idle = refl

both_same : (b c d e : Bool) → b ≡ c → (c ≡ true → d ≡ e) → (b && d) ≡ (c && e)
both_same b true d e f h = ap (λ b. b && d) f ∙ h refl
both_same b false d e f h = ap (λ b. b && d) f

-- the priority of the task that is held is that of the job
high_same : (p : PathState) (tag : ℕ) → AreTied p → IsRunning p → progress_of p.regs.ring tag ≡ Ready → has_high p tag ≡ is_high (remembered p.engine.held p.regs) tag
high_same p tag t r ready =
    ⊎_elim
    (λ below.
    let b = begun_task p tag t r below (ap is_begun ready) in
    ap (λ o. option_map_or (λ id. is_high_job (job p id)) o false) b.is ∙ sym b.of.high
    ∙ sym (ap (λ (o : Option HeldTask). option_map_or (λ h. h.task.desc.high) o false) b.remembered_is))
    (λ past.
    let none : held_at (remembered p.engine.held p.regs) tag ≡ None =
    get_or_past (remembered p.engine.held p.regs) tag None (omega (arith, past, length-remembered p.engine.held p.regs)) in
    let vacant : holder p tag ≡ None = get_or_past p.driver.requests.holders tag None (omega (arith, past, t.sound.holders)) in
    ap (λ o. option_map_or (λ id. is_high_job (job p id)) o false) vacant
    ∙ sym (ap (λ (o : Option HeldTask). option_map_or (λ h. h.task.desc.high) o false) none))
    (cases_lt tag 32)

-- a fault of the data comes with its first block at the soonest
found_has : (n : ℕ) (hits : List Hit) (b : Bool) (first : Hit) (rest : Option Hit) → IsHit first → IfSome rest IsHit → IfSome (cond b (Some first) rest) IsHit
found_has n hits true first rest f r = f
found_has n hits false first rest f r = r

all_found : (hits : List Hit) (n : ℕ) → All IsHit hits → IfSome (fault_of hits n) IsHit
all_found [] n all = tt
all_found (hit ∷ hits) n all =
    found_has n hits (hit.n == n) hit (fault_of hits n) (All-head IsHit hit hits all) (all_found hits n (All-tail IsHit hit hits all))

before_kind : (b : Bool) (kind : BusKind) → IsKind kind → IsBeforeFault (cond b (Some kind) None) 0
before_kind false kind h = tt
before_kind true (Bad block) h = h.0
before_kind true Lost h = tt
before_kind true NoResp h = tt
before_kind true Late h = tt

before_fault : (o : Option Hit) (command : Command) (blocks : ℕ) → IfSome o IsHit → IsBeforeFault (if_of_kind o command blocks) 0
before_fault None command blocks h = tt
before_fault (Some hit) command blocks h = before_kind (befalls hit.kind command blocks) hit.kind h.2

ahead_of_fault : (hits : List Hit) (n : ℕ) (command : Command) (blocks : ℕ) → All IsHit hits → IsBeforeFault (hit_of hits n command blocks) 0
ahead_of_fault hits n command blocks all = before_fault (fault_of hits n) command blocks (all_found hits n all)

module _ (p : PathState) (cause : Option Cause) (slot : ℕ) (b : BegunTask p slot) (t : AreTied p) (r : IsRunning p) (below : slot < 32)
    (ready : progress_of p.regs.ring slot ≡ Ready) (due : IsExecuteDue (remembered p.engine.held p.regs) p.regs slot)
    (queued : queue_slot p.card.queue slot ≡ Some (queued_by slot b.h)) (rings : IsRing (advanced p.regs.ring slot)) (one : OneOpen (advanced p.regs.ring slot)) where
  abbrev command : Command
  command = execute_of slot b.h.task.desc

  abbrev after : PathState
  after = path_with p (record { held = noted (remembered p.engine.held p.regs) (executed_regs p slot b.h.task.desc); cause = cause }) (executed_regs p slot b.h.task.desc)
      (executed_card p slot b.h) (armed p.script command (card_blocks p.card command))

  abbrev now : Progress
  now = progress_of (advanced p.regs.ring slot) slot

  active_now : now ≡ Active
  active_now = is_active p.regs.ring slot ready

  pub under : under_way after ≡ Some slot
  under = ap (λ stopped. cond stopped None (first_at Active (advanced p.regs.ring slot))) r.on ∙ executed_at p.regs.ring slot rings one ready

  place : held_at after.engine.held slot ≡ left_at now (held_at p.engine.held slot)
  place = noted-at (remembered p.engine.held p.regs) (executed_regs p slot b.h.task.desc) slot below ∙ ap (left_at now) (b.remembered_is ∙ sym b.place)

  held_now : held_at after.engine.held slot ≡ Some (record b.h { progress = now })
  held_now = place ∙ ap (left_at now) b.place

  moved_none : b.h.moved ≡ 0
  moved_none = b.moved (λ e. cc (ready, e))

  pub begun_is : after.card.begun ≡ phase_words after (under_way after)
  begun_is =
      let words : ℕ → Phase = λ n. record { task = slot; count = n; kept = false } in
      let moved_is : moved_of after.engine.held slot ≡ 0 = ap (λ (o : Option HeldTask). option_map_or (λ h. h.moved) o 0) held_now ∙ moved_none in
      sym (ap (λ way. option_map (λ tag. record { task = tag; count = moved_by after way; kept = false }) way) under ∙ ap (λ n. Some (words n)) moved_is)

  pub phase_is : IfSome (under_way after) (HasPhase after)
  phase_is =
      let phase : ℕ → Option DataPhase =
      λ n. Some (record { task = words_of slot b.h.task.desc; start = b.h.task.desc.start; moved = n }) in
      some_if (under_way after) slot (HasPhase after) under
      (found_and (held_at after.engine.held slot)
      (λ h. after.card.phase ≡ Some (record { task = words_of slot h.task.desc; start = h.task.desc.start; moved = h.moved }))
      (record b.h { progress = now }) held_now (ap phase (sym moved_none)))

  pub hit_is : IfSome (under_way after) (HasHit after)
  hit_is =
      let blocks : card_blocks p.card command ≡ b.h.task.desc.blocks = ap (λ (o : Option Queued). option_map_or (λ x. x.task.blocks) o 0) queued in
      some_if (under_way after) slot (HasHit after) under
      (found_and (held_at after.engine.held slot)
      (λ h. after.script.hit ≡ hit_of after.script.hits after.script.sent (execute_of slot h.task.desc) h.task.desc.blocks)
      (record b.h { progress = now }) held_now (ap (λ n. hit_of p.script.hits (raised p.script.sent) command n) blocks))

  pub moved_is : moved after ≡ 0
  moved_is = ap (moved_by after) under ∙ ap (λ (o : Option HeldTask). option_map_or (λ h. h.moved) o 0) held_now ∙ moved_none

  pub fails_is : IfSome (under_way after) (λ tag. IsBeforeFault after.script.hit (moved after))
  fails_is =
      let F : ℕ → Type 0 = λ n. IsBeforeFault after.script.hit n in
      all_of (under_way after)
      (subst F (sym moved_is) (ahead_of_fault p.script.hits (raised p.script.sent) command (card_blocks p.card command) t.script.small))

  executable : (tag : ℕ) → is_executable (progress_of (advanced p.regs.ring slot) tag) ≡ same (progress_of p.regs.ring tag) Ready
  executable tag =
      ap is_executable (progress_advanced p.regs.ring slot tag)
      ∙ executable_if (tag == slot) (progress_of p.regs.ring tag) (λ e. ap (progress_of p.regs.ring) (eqb-true tag slot e) ∙ ready)
      (λ active. none_at Active p.regs.ring tag t.regs.ring due.active active refl)

  pub ahead_is : IfSome (under_way after) (IsAhead after)
  ahead_is =
      let held = remembered p.engine.held p.regs in
      let high : find (λ tag. is_executable (progress_of (advanced p.regs.ring slot) tag) && has_high p tag) (order_of (advanced p.regs.ring slot)) ≡ first_high held p.regs.ring =
      ap (find (λ tag. is_executable (progress_of (advanced p.regs.ring slot) tag) && has_high p tag)) (order_advanced p.regs.ring slot)
      ∙ find_alike (λ tag. is_executable (progress_of (advanced p.regs.ring slot) tag) && has_high p tag)
      (λ tag. same (progress_of p.regs.ring tag) Ready && is_high held tag) (order_of p.regs.ring)
      (λ tag. both_same (is_executable (progress_of (advanced p.regs.ring slot) tag)) (same (progress_of p.regs.ring tag) Ready) (has_high p tag) (is_high held tag)
      (executable tag) (λ e. high_same p tag t r (same-true (progress_of p.regs.ring tag) Ready e))) in
      let any : find (λ tag. is_executable (progress_of (advanced p.regs.ring slot) tag)) (order_of (advanced p.regs.ring slot)) ≡ first_at Ready p.regs.ring =
      ap (find (λ tag. is_executable (progress_of (advanced p.regs.ring slot) tag))) (order_advanced p.regs.ring slot)
      ∙ find_alike (λ tag. is_executable (progress_of (advanced p.regs.ring slot) tag)) (λ tag. same (progress_of p.regs.ring tag) Ready) (order_of p.regs.ring) executable in
      some_if (under_way after) slot (IsAhead after) under
      (ap (λ o. first_of o (find (λ tag. is_executable (progress_of (advanced p.regs.ring slot) tag)) (order_of (advanced p.regs.ring slot)))) high
      ∙ ap (first_of (first_high held p.regs.ring)) any ∙ due.first)

  begun : is_begun (progress_of p.regs.ring slot) ≡ true
  begun = ap is_begun ready

  deep : slot < length p.card.queue.slots
  deep = subst (λ n. slot < n) (sym (t.card.places ∙ t.card.depth)) b.below

  runs_active : TagRuns after slot
  runs_active = record {
    holds = λ _. holds_on p after.engine after.regs after.card after.script slot b.runs begun place (λ n e. n active_now);
    queue = record {
      queued =
          ap (option_map (λ (place : Place). place.queued)) (get_or-set_same p.card.queue.slots slot None None deep)
          ∙ sym (ap (λ progress. cond (is_queued progress) (option_map (queued_by slot) (held_at after.engine.held slot)) None) active_now);
      chosen = λ e. absurd (cc (active_now, e));
      waits = λ e. absurd (cc (active_now, e));
    };
    inside = if_some_map (holder p slot) (IsInImage p slot) (IsInImage after slot) (λ id h _. h (inl (ap is_queued ready))) b.runs.inside;
  }

  runs_other : (tag : ℕ) → tag < 32 → tag ≢ slot → TagRuns p tag → TagRuns after tag
  runs_other tag low apart runs =
      let place_is = get_or-set_other p.card.queue.slots slot tag None None apart in
      same_runs p after.engine after.regs after.card after.script tag low runs
      (record {
        progress = advanced-other p.regs.ring slot tag apart;
        place = noted-at (remembered p.engine.held p.regs) (executed_regs p slot b.h.task.desc) tag low;
        queued = ap (option_map (λ (place : Place). place.queued)) place_is;
        unnamed = λ named. apart (one tag slot (ap is_open named) (ap is_open active_now));
        image = refl;
      })
      (λ e. ap is_ready place_is ∙ runs.queue.chosen (sym (advanced-other p.regs.ring slot tag apart) ∙ e))

  pub executing_runs : (tag : ℕ) → tag < 32 → ((tag : ℕ) → tag < 32 → TagRuns p tag) → TagRuns after tag
  executing_runs tag low all =
      let T : ℕ → Type 0 = λ n. TagRuns after n in
      elim (eqb_tells tag slot) [
        | inl e ↦ subst T (sym e.1) runs_active
        | inr e ↦ runs_other tag low e.1 (all tag low)
      ]
