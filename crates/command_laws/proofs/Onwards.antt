-- What is tied of a tag while the engine runs, after a command: of the tags that it doesn't move, and of one that goes on.
use Rattle.std.proofs.Common.{◌≡◌, ◌≢◌, ◌<◌, ◌≤◌, ◌+◌, ◌⊎◌, ℕ, Bool, true, false, cond, refl, sym, ◌∙◌, ap, subst, inl, inr}
use Rattle.std.specs.Prelude.{List, Option, Some, None, IfSome, is_some, if◌then◌else◌}
use Rattle.std.specs.Option.{IsSomeAnd, option_map}
use Rattle.std.proofs.lemmas.Bool.{false≢true, true≢false}
use Rattle.bus_link.specs.Script.{Script}
use Rattle.card_core.specs.Card.{CardState, sectors}
use Rattle.cq_engine.specs.Outcome.{Holding}
use Rattle.cq_engine.specs.Standings.{OneOpen, is_open}
use Rattle.cq_regs.specs.Slots.{is_begun, progress_of}
use Rattle.cq_regs.specs.State.{Registers}
use Rattle.cq_regs.specs.declared.slots.Progress.{Progress}
use Rattle.cq_regs.specs.declared.slots.Progress.TheVariants.{Idle, Rung, Named, Sent, Ready, Active}
use Rattle.cq_regs.specs.declared.slots.Ringed.{Ringed}
use Rattle.cq_schedule.specs.Order.{first_at}
use Rattle.cq_schedule.specs.Held.{held_at, left_at, remembered}
use Rattle.cq_schedule.specs.declared.held.HeldTask.{HeldTask}
use Rattle.cq_task.specs.declared.slot.SlotTask.TheVariants.{Data}
use Rattle.drv_core.specs.State.{asks_notice}
use Rattle.drv_ring.specs.Task.{task_of}
use Rattle.storage_machine.specs.Jobs.{sector_of}
use Rattle.storage_model.specs.Plan.{blocks_of}
use Rattle.task_queue.specs.Queue.{is_ready, place_of, slot}
use Rattle.task_queue.specs.declared.queue.Queued.{Queued}
use Rattle.world_state.specs.Path.{PathState, holder, job, layout, plan_of, under_way}
use Rattle.world_state.specs.Ties.{HoldsJob, IsInImage, TagRuns, is_queued, phase_words, queued_of, words_of}
use Rattle.command_laws.proofs.Held.{left-some, left-told, remembered-same, some_map}
use Rattle.command_laws.proofs.Parts.{busy_in, path_with}
use Rattle.command_laws.proofs.Rings.{first_none}

-- what the card has of a task that is held
abbrev pub queued_by : ℕ → HeldTask → Queued
queued_by tag h = record { task = words_of tag h.task.desc; start = h.task.desc.start }

-- what is said of a task that is held, by how far its slot is
abbrev pub IsJobsTask : PathState → (tag id : ℕ) → Progress → HeldTask → Type 0
IsJobsTask p tag id progress h =
    (h.progress ≡ progress) × (task_of (layout p) tag (job p id) (asks_notice (plan_of p) (job p id)) ≡ Data h.task) × (progress ≢ Active → h.moved ≡ 0)

any_of : {A : Type 0} (o : Option A) (P : A → Type 0) (X : Type 0) → ((x : A) → P x → X) → IsSomeAnd o P → X
any_of None P X f h = absurd h
any_of (Some x) P X f h = f x h

-- the task of a begun slot is the one that the engine remembers
pub remembers : (p : PathState) (tag : ℕ) → tag < 32 → TagRuns p tag → is_begun (progress_of p.regs.ring tag) ≡ true
    → held_at (remembered p.engine.held p.regs) tag ≡ held_at p.engine.held tag
remembers p tag below r begun =
    any_of (holder p tag) (HoldsJob p tag) (held_at (remembered p.engine.held p.regs) tag ≡ held_at p.engine.held tag)
    (λ id h.
    remembered-same p.engine.held p.regs tag below
    (some_map (held_at p.engine.held tag) (IsJobsTask p tag id (progress_of p.regs.ring tag)) (λ h. h.progress ≡ progress_of p.regs.ring tag) (λ h x. x.0) h.held))
    (r.holds begun)

-- a slot that was begun still has its job's task
pub holds_on : (p : PathState) (engine : Holding) (regs : Registers) (card : CardState) (script : Script) (tag : ℕ) → TagRuns p tag
    → is_begun (progress_of p.regs.ring tag) ≡ true
    → held_at engine.held tag ≡ left_at (progress_of regs.ring tag) (held_at p.engine.held tag)
    → (progress_of regs.ring tag ≢ Active → progress_of p.regs.ring tag ≢ Active)
    → IsSomeAnd (holder p tag) (HoldsJob (path_with p engine regs card script) tag)
holds_on p engine regs card script tag r begun place back =
    some_map (holder p tag) (HoldsJob p tag) (HoldsJob (path_with p engine regs card script) tag)
    (λ id h.
    let Q : HeldTask → Type 0 = IsJobsTask p tag id (progress_of regs.ring tag) in
    let S : Option HeldTask → Type 0 = λ o. IsSomeAnd o Q in
    record {
      held =
          subst S (sym place)
          (left-some (progress_of regs.ring tag) (held_at p.engine.held tag) (IsJobsTask p tag id (progress_of p.regs.ring tag)) Q
          (λ h x. (refl, x.1, λ n. x.2 (back n))) h.held);
    })
    (r.holds begun)

-- and what the card is to have of it
pub queued_on : (p : PathState) (engine : Holding) (regs : Registers) (card : CardState) (script : Script) (tag : ℕ)
    → held_at engine.held tag ≡ left_at (progress_of regs.ring tag) (held_at p.engine.held tag)
    → queued_of (path_with p engine regs card script) tag
    ≡ cond (is_queued (progress_of regs.ring tag)) (option_map (queued_by tag) (held_at p.engine.held tag)) None
queued_on p engine regs card script tag place =
    ap (λ o. cond (is_queued (progress_of regs.ring tag)) (option_map (queued_by tag) o) None) place
    ∙ ap (λ o. cond (is_queued (progress_of regs.ring tag)) o None)
    (left-told (queued_by tag) (progress_of regs.ring tag) (held_at p.engine.held tag) (λ h. refl))

same_if : {A : Type 0} (b c : Bool) (x y n : A) → b ≡ c → (c ≡ true → x ≡ y) → cond b x n ≡ cond c y n
same_if b true x y n e h = ap (λ b. cond b x n) e ∙ h refl
same_if b false x y n e h = ap (λ b. cond b x n) e

pub queued_begun : (progress : Progress) → is_queued progress ≡ true → is_begun progress ≡ true
queued_begun Idle e = absurd (false≢true e)
queued_begun Rung e = absurd (false≢true e)
queued_begun Named e = absurd (false≢true e)
queued_begun Sent e = refl
queued_begun Ready e = refl
queued_begun Active e = absurd (false≢true e)

-- a tag that is as far as it was
pub record IsSameTag (p : PathState) (engine : Holding) (regs : Registers) (card : CardState) (tag : ℕ) : Type 0 where
  pub progress : progress_of regs.ring tag ≡ progress_of p.regs.ring tag
  pub place : held_at engine.held tag ≡ left_at (progress_of regs.ring tag) (held_at (remembered p.engine.held p.regs) tag)
  pub queued : slot card.queue tag ≡ slot p.card.queue tag
  pub unnamed : progress_of regs.ring tag ≢ Named
  pub image : sectors card ≡ sectors p.card

same_image : (p : PathState) (engine : Holding) (regs : Registers) (card : CardState) (script : Script) (tag : ℕ) (o : Option ℕ)
    → progress_of regs.ring tag ≡ progress_of p.regs.ring tag → sectors card ≡ sectors p.card
    → IfSome o (IsInImage p tag) → IfSome o (IsInImage (path_with p engine regs card script) tag)
same_image p engine regs card script tag None e s h = tt
same_image p engine regs card script tag (Some id) e s h =
    let P : Progress → ℕ → Type 0 = λ progress count. (is_queued progress ≡ true) ⊎ (progress ≡ Active) → sector_of (job p id) + blocks_of (job p id) ≤ count in
    subst (λ x. P x (sectors card)) (sym e) (subst (λ n. P (progress_of p.regs.ring tag) n) (sym s) h)

-- what is tied of it is so still
pub same_runs : (p : PathState) (engine : Holding) (regs : Registers) (card : CardState) (script : Script) (tag : ℕ) → tag < 32 → TagRuns p tag
    → IsSameTag p engine regs card tag → (progress_of regs.ring tag ≡ Ready → is_ready (place_of card.queue tag) ≡ true)
    → TagRuns (path_with p engine regs card script) tag
same_runs p engine regs card script tag below r s chosen =
    let old = progress_of p.regs.ring tag in
    let place : is_begun old ≡ true → held_at engine.held tag ≡ left_at (progress_of regs.ring tag) (held_at p.engine.held tag) =
    λ begun. s.place ∙ ap (left_at (progress_of regs.ring tag)) (remembers p tag below r begun) in
    let queued : queued_of (path_with p engine regs card script) tag ≡ queued_of p tag =
    same_if (is_queued (progress_of regs.ring tag)) (is_queued old) (option_map (queued_by tag) (held_at engine.held tag))
    (option_map (queued_by tag) (held_at p.engine.held tag)) None (ap is_queued s.progress)
    (λ on.
    ap (option_map (queued_by tag)) (place (queued_begun old on))
    ∙ left-told (queued_by tag) (progress_of regs.ring tag) (held_at p.engine.held tag) (λ h. refl)) in
    record {
      holds = λ begun.
          let was : is_begun old ≡ true = sym (ap is_begun s.progress) ∙ begun in
          holds_on p engine regs card script tag r was (place was) (λ n e. n (s.progress ∙ e));
      queue = record {
        queued = s.queued ∙ r.queue.queued ∙ sym queued;
        chosen = chosen;
        waits = λ named. absurd (s.unnamed named);
      };
      inside = same_image p engine regs card script tag (holder p tag) s.progress s.image r.inside;
    }

pub if_some_all : (o : Option ℕ) (P : ℕ → Type 0) → ((id : ℕ) → P id) → IfSome o P
if_some_all None P f = tt
if_some_all (Some id) P f = f id

pub named_out : (progress : Progress) → progress ≡ Named → (is_queued progress ≡ true) ⊎ (progress ≡ Active) → ⊥
named_out progress e (inl h) = false≢true (sym (ap is_queued e) ∙ h)
named_out progress e (inr h) = absurd (cc (e, h))

-- where no slot is active, no data phase is under way
no_phase : (stopped : Bool) (active : Option ℕ) → active ≡ None → is_some (cond stopped None active) ≡ false
no_phase true active e = refl
no_phase false active e = ap is_some e

pub idle_in : (regs : Registers) → ((tag : ℕ) → progress_of regs.ring tag ≢ Active) → busy_in regs ≡ false
idle_in regs none = no_phase regs.stopped (first_at Active regs.ring) (first_none Active regs.ring none)

-- none is, where another slot is open
pub open_alone : (ring : List Ringed) (slot tag : ℕ) (progress : Progress) → OneOpen ring → progress_of ring slot ≡ progress → is_open progress ≡ true
    → progress ≢ Active → progress_of ring tag ≢ Active
open_alone ring slot tag progress one is opened other active =
    let same : tag ≡ slot = one tag slot (ap is_open active) (ap is_open is ∙ opened) in
    other (sym is ∙ sym (ap (progress_of ring) same) ∙ active)

pub if_some_map : (o : Option ℕ) (P Q : ℕ → Type 0) → ((id : ℕ) → P id → Q id) → IfSome o P → IfSome o Q
if_some_map None P Q f h = tt
if_some_map (Some id) P Q f h = f id h

-- where no data phase is under way, none has anything
no_way_if : (o : Option ℕ) → is_some o ≡ false → o ≡ None
no_way_if None e = refl
no_way_if (Some slot) e = absurd (true≢false e)

pub no_way : (regs : Registers) → busy_in regs ≡ false → (if regs.stopped then None else first_at Active regs.ring) ≡ None
no_way regs e = no_way_if (if regs.stopped then None else first_at Active regs.ring) e

pub quiet : (P : ℕ → Type 0) (o : Option ℕ) → o ≡ None → IfSome o P
quiet P o e = let Q : Option ℕ → Type 0 = λ v. IfSome v P in subst Q (sym e) tt

pub quiet_begun : (q : PathState) → under_way q ≡ None → None ≡ phase_words q (under_way q)
quiet_begun q e = sym (ap (phase_words q) e)

pub all_of : {P : Type 0} (o : Option ℕ) → P → IfSome o (λ tag. P)
all_of None h = tt
all_of (Some tag) h = h
