-- What an event leaves of a tag whose slot is as far as it was.
use Rattle.std.proofs.Common.{◌≡◌, ◌≢◌, ◌⊎◌, ◌≤◌, ◌+◌, ℕ, refl, sym, ◌∙◌, ap, subst, inl, inr}
use Rattle.std.specs.Prelude.{true, false, not, cond, Option, Some, None, IfSome, MatchOption, unwrap_or}
use Rattle.std.specs.Option.{IsSomeAnd, option_map}
use Rattle.std.proofs.lemmas.Bool.{false≢true}
use Rattle.bus_link.specs.Script.{Script}
use Rattle.card_core.specs.Card.{CardState}
use Rattle.card_store.specs.Store.{sectors_of}
use Rattle.cq_engine.specs.Outcome.{Holding}
use Rattle.cq_regs.specs.Slots.{has_bit, is_rung, progress_of}
use Rattle.cq_regs.specs.State.{Registers}
use Rattle.cq_regs.specs.declared.slots.Progress.{Progress}
use Rattle.cq_regs.specs.declared.slots.Progress.TheVariants.{Idle, Rung, Named, Sent, Ready, Active}
use Rattle.cq_schedule.specs.Held.{held_at}
use Rattle.cq_schedule.specs.Holding.{is_begun}
use Rattle.cq_schedule.specs.declared.held.HeldTask.{HeldTask}
use Rattle.cq_task.specs.declared.slot.SlotTask.TheVariants.{Data}
use Rattle.drv_core.specs.State.{asks_notice}
use Rattle.drv_ring.specs.Asks.{Asks, HoldsData}
use Rattle.drv_ring.specs.Task.{task_of}
use Rattle.host_mem.specs.Memory.{Memory}
use Rattle.storage_machine.specs.Jobs.{sector_of}
use Rattle.storage_model.specs.Plan.{blocks_of}
use Rattle.task_queue.specs.Places.{Queue}
use Rattle.task_queue.specs.Queue.{is_ready, place_of, slot}
use Rattle.task_queue.specs.declared.queue.Queued.{Queued}
use Rattle.world_state.specs.Path.{PathState, holder, job, layout, plan_of}
use Rattle.world_state.specs.Ties.{HoldsJob, IsInImage, IsIssued, IsVacant, TagIsTied, TagRuns, is_queued, words_of}
use Rattle.phase_laws.proofs.Parts.{path_with}

pub some_then : {X : Type 0} (o : Option X) (P Q : X → Type 0) → ((x : X) → P x → Q x) → IsSomeAnd o P → IsSomeAnd o Q
some_then None P Q f h = absurd h
some_then (Some x) P Q f h = f x h

pub if_then : {X : Type 0} (o : Option X) (P Q : X → Type 0) → ((x : X) → P x → Q x) → IfSome o P → IfSome o Q
if_then None P Q f h = tt
if_then (Some x) P Q f h = f x h

pub some_if : {X : Type 0} (o : Option X) (P Q : X → Type 0) → ((x : X) → P x → Q x) → IsSomeAnd o P → IfSome o Q
some_if None P Q f h = absurd h
some_if (Some x) P Q f h = f x h

pub of_some : {X : Type 0} (o : Option X) (x : X) (P : X → Type 0) → o ≡ Some x → IfSome o P → P x
of_some {X = X} o x P e h = let Q : Option X → Type 0 = λ v. IfSome v P in subst Q e h

-- ---- issued or vacant

-- what the slot of a tag asks for, and what its pieces hold, is so in another memory
abbrev pub KeepsAsked : PathState → Memory → ℕ → Type 0
KeepsAsked p m tag =
    (id : ℕ) → holder p tag ≡ Some id → Asks p.memory (layout p) tag (job p id) (asks_notice (plan_of p) (job p id))
    → HoldsData p.memory (layout p) tag (job p id) (plan_of p).blocks
    → Asks m (layout p) tag (job p id) (asks_notice (plan_of p) (job p id)) × HoldsData m (layout p) tag (job p id) (plan_of p).blocks

pub same_asked : (p : PathState) (m : Memory) (tag : ℕ) → m ≡ p.memory → KeepsAsked p m tag
same_asked p m tag e id is asks held =
    let A : Memory → Type 0 = λ x. Asks x (layout p) tag (job p id) (asks_notice (plan_of p) (job p id)) in
    let D : Memory → Type 0 = λ x. HoldsData x (layout p) tag (job p id) (plan_of p).blocks in
    (subst A (sym e) asks, subst D (sym e) held)

tag_by : (p : PathState) (r : Registers) (m : Memory) (g : Holding) (c : CardState) (s : Script) (tag : ℕ) (o : Option ℕ)
    → holder p tag ≡ o → progress_of r.ring tag ≡ progress_of p.regs.ring tag → has_bit r.completed tag ≡ has_bit p.regs.completed tag
    → KeepsAsked p m tag → MatchOption o (IsVacant p tag) (IsIssued p tag) → MatchOption o (IsVacant (path_with p r m g c s) tag) (IsIssued (path_with p r m g c s) tag)
tag_by p r m g c s tag None is far done keeps h = record { idle = far ∙ h.idle; silent = done ∙ h.silent }
tag_by p r m g c s tag (Some id) is far done keeps h =
    let k = keeps id is h.asks h.data_held in
    record { asks = k.0; data_held = k.1; rung = ap is_rung far ∙ h.rung ∙ ap not (sym done) }

pub tag_stays : (p : PathState) (r : Registers) (m : Memory) (g : Holding) (c : CardState) (s : Script) (tag : ℕ)
    → progress_of r.ring tag ≡ progress_of p.regs.ring tag → has_bit r.completed tag ≡ has_bit p.regs.completed tag → KeepsAsked p m tag
    → TagIsTied p tag → TagIsTied (path_with p r m g c s) tag
tag_stays p r m g c s tag far done keeps h = tag_by p r m g c s tag (holder p tag) refl far done keeps h

-- ---- while the engine runs

abbrev Holding_of : PathState → ℕ → ℕ → Progress → Option HeldTask → Type 0
Holding_of p tag id progress place =
    IsSomeAnd place (λ h. (h.progress ≡ progress) × (task_of (layout p) tag (job p id) (asks_notice (plan_of p) (job p id)) ≡ Data h.task) × (progress ≢ Active → h.moved ≡ 0))

queued_along : (p p' : Progress) (place place' : Option HeldTask) (f : HeldTask → Queued) → p' ≡ p → (is_begun p ≡ true → place' ≡ place)
    → cond (is_queued p) (option_map f place) None ≡ cond (is_queued p') (option_map f place') None
queued_along p p' place place' f e same =
    queued_at p place place' f same ∙ ap (λ q. cond (is_queued q) (option_map f place') None) (sym e)
  where
    queued_at : (p : Progress) (place place' : Option HeldTask) (f : HeldTask → Queued) → (is_begun p ≡ true → place' ≡ place)
        → cond (is_queued p) (option_map f place) None ≡ cond (is_queued p) (option_map f place') None
    queued_at Idle place place' f same = refl
    queued_at Rung place place' f same = refl
    queued_at Named place place' f same = refl
    queued_at Sent place place' f same = ap (option_map f) (sym (same refl))
    queued_at Ready place place' f same = ap (option_map f) (sym (same refl))
    queued_at Active place place' f same = refl

pub image_stays : (p : PathState) (r : Registers) (m : Memory) (g : Holding) (c : CardState) (s : Script) (tag : ℕ)
    → progress_of r.ring tag ≡ progress_of p.regs.ring tag → sectors_of c.store ≡ sectors_of p.card.store → IfSome (holder p tag) (IsInImage p tag)
    → IfSome (holder p tag) (IsInImage (path_with p r m g c s) tag)
image_stays p r m g c s tag far same h =
    if_then (holder p tag) (IsInImage p tag) (IsInImage (path_with p r m g c s) tag)
    (λ id inside there.
    let P : Progress → Type 0 = λ q. (is_queued q ≡ true) ⊎ (q ≡ Active) in
    subst (λ n. sector_of (job p id) + blocks_of (job p id) ≤ n) (sym (ap (λ o. unwrap_or o 0) same)) (inside (subst P far there)))
    h

pub runs_stay : (p : PathState) (r : Registers) (m : Memory) (g : Holding) (c : CardState) (s : Script) (tag : ℕ)
    → progress_of r.ring tag ≡ progress_of p.regs.ring tag
    → (is_begun (progress_of p.regs.ring tag) ≡ true → held_at g.held tag ≡ held_at p.engine.held tag)
    → c.queue ≡ p.card.queue → sectors_of c.store ≡ sectors_of p.card.store → TagRuns p tag → TagRuns (path_with p r m g c s) tag
runs_stay p r m g c s tag far held queue image t = record {
  holds = λ begun.
      let was : is_begun (progress_of p.regs.ring tag) ≡ true = sym (ap is_begun far) ∙ begun in
      some_then (holder p tag) (HoldsJob p tag) (HoldsJob (path_with p r m g c s) tag)
      (λ id h. record {
        held = subst (λ q. Holding_of p tag id q (held_at g.held tag)) (sym far)
            (subst (λ o. Holding_of p tag id (progress_of p.regs.ring tag) o) (sym (held was)) h.held);
      })
      (t.holds was);
  queue = record {
    queued =
        ap (λ q. slot q tag) queue ∙ t.queue.queued
        ∙ queued_along (progress_of p.regs.ring tag) (progress_of r.ring tag) (held_at p.engine.held tag) (held_at g.held tag)
        (λ h. record { task = words_of tag h.task.desc; start = h.task.desc.start }) far held;
    chosen = λ ready. subst (λ (q : Queue). is_ready (place_of q tag) ≡ true) (sym queue) (t.queue.chosen (sym far ∙ ready));
    waits = λ named.
        let was : progress_of p.regs.ring tag ≡ Named = sym far ∙ named in
        ap (λ (q : Queue). q.waiting) queue ∙ t.queue.waits was
        ∙ ap (option_map (λ h. words_of tag h.task.desc)) (sym (held (ap is_begun was)));
  };
  inside = image_stays p r m g c s tag far image t.inside;
}

-- ---- a slot that is idle now

pub idle_runs : (p : PathState) (r : Registers) (m : Memory) (g : Holding) (c : CardState) (s : Script) (tag : ℕ) → progress_of r.ring tag ≡ Idle
    → is_queued (progress_of p.regs.ring tag) ≡ false → c.queue ≡ p.card.queue → TagRuns p tag → TagRuns (path_with p r m g c s) tag
idle_runs p r m g c s tag idle unqueued queue t = record {
  holds = λ begun. absurd (false≢true (sym (ap is_begun idle) ∙ begun));
  queue = record {
    queued =
        ap (λ q. slot q tag) queue ∙ t.queue.queued
        ∙ ap (λ b. cond b (option_map (λ h. record { task = words_of tag h.task.desc; start = h.task.desc.start }) (held_at p.engine.held tag)) None) unqueued
        ∙ sym (ap (λ q. cond (is_queued q) (option_map (λ h. record { task = words_of tag h.task.desc; start = h.task.desc.start }) (held_at g.held tag)) None) idle);
    chosen = λ ready. absurd (cc (sym idle ∙ ready));
    waits = λ named. absurd (cc (sym idle ∙ named));
  };
  inside = if_none (holder p tag);
}
  where
    never : (r : Registers) (tag : ℕ) → progress_of r.ring tag ≡ Idle → (is_queued (progress_of r.ring tag) ≡ true) ⊎ (progress_of r.ring tag ≡ Active) → ⊥
    never r tag idle (inl h) = false≢true (sym (ap is_queued idle) ∙ h)
    never r tag idle (inr h) = absurd (cc (sym idle ∙ h))

    if_none : (o : Option ℕ) → IfSome o (IsInImage (path_with p r m g c s) tag)
    if_none None = tt
    if_none (Some id) = λ there. absurd (never r tag idle there)
