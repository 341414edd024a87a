-- What a direct command tells that is done.
use Rattle.std.proofs.Common.{◌≡◌, ◌≢◌, ◌<◌, ◌==◌, ◌+◌, ◌^◌, ℕ, refl, sym, ◌∙◌, ap, subst, inl, inr}
use Rattle.std.specs.Prelude.{Bool, true, false, not, cond, min, Option, Some, None, IfSome, is_some, length, List, [], ◌∷◌, bit_or}
use Rattle.std.specs.List.{filter, find}
use Rattle.std.specs.Option.{option_map}
use Rattle.std.proofs.lemmas.Bool.{eq-eqb, false≢true}
use Rattle.std.proofs.lemmas.Bool.Decides.{eqb_tells}
use Rattle.array_edge.specs.Array.{ArrayState}
use Rattle.bus_link.specs.Hits.{if_of_kind, is_execute, raised}
use Rattle.bus_link.specs.Script.{Script}
use Rattle.card_core.specs.Card.{CardState}
use Rattle.card_store.specs.Store.{Stands as StoreStands}
use Rattle.cmd_words.specs.declared.command.Command.{Command}
use Rattle.cq_engine.specs.Outcome.{Holding}
use Rattle.cq_regs.specs.Slots.{has_bit, progress_of, without}
use Rattle.cq_regs.specs.State.{Registers}
use Rattle.cq_schedule.specs.Held.{remembered, slots}
use Rattle.cq_schedule.specs.Meaning.{IsDue}
use Rattle.cq_schedule.specs.declared.rules.Due.TheVariants.{Serve}
use Rattle.cq_regs.specs.declared.slots.Progress.TheVariants.{Active}
use Rattle.cq_schedule.specs.Order.{first_at, order_of}
use Rattle.cut_order.specs.Order.{OrderState}
use Rattle.drv_core.specs.State.{is_recovering}
use Rattle.drv_jobs.specs.Changes.{faults_of}
use Rattle.drv_recover.specs.declared.recovery.RecoveryState.TheVariants as driver
use Rattle.storage_machine.specs.Jobs.{is_direct}
use Rattle.storage_machine.specs.Slots.{changed, changed_slots}
use Rattle.storage_machine.specs.declared.slots.Change.TheVariants.{Move}
use Rattle.storage_machine.specs.declared.state.Standing.{Standing}
use Rattle.storage_machine.specs.declared.state.Standing.TheVariants as standing
use Rattle.storage_machine.specs.declared.state.State.{State}
use Rattle.storage_machine.specs.declared.state.Stop.{Stop}
use Rattle.storage_machine.specs.declared.state.Stop.TheVariants as stop
use Rattle.storage_machine.specs.declared.state.Task.{Task}
use Rattle.storage_model.specs.declared.block.Block.{Block}
use Rattle.storage_model.specs.declared.faults.Hit.{Hit}
use Rattle.storage_model.specs.declared.faults.Letter.TheVariants.{Engine as EngineActs}
use Rattle.storage_model.specs.declared.plan.Job.{Job}
use Rattle.storage_model.specs.declared.plan.Job.TheVariants.{Read, Write, Flush, Barrier, Status}
use Rattle.storage_model.specs.declared.trace.Item.TheVariants.{Phase as PhaseLine}
use Rattle.storage_order.specs.Events.{Happens}
use Rattle.trace_effects.specs.Cuts.{places_of}
use Rattle.trace_effects.specs.Phases.{bars_with}
use Rattle.trace_rules.specs.Phases.{is_whole, tag_due}
use Rattle.world_state.specs.Laws.{StateLaws}
use Rattle.world_state.specs.Path.{PathState, holder, is_busy, job, moved, plan_of, under_way}
use Rattle.world_state.specs.Reading.{Context, blocks_held, data_by, data_of, is_done, is_free, notice_of, order, spent_of, standing_at, standing_of, state_of, stop_by, stop_of, task_at, tasks_of}
use Rattle.world_state.specs.Stands.{Agrees, HasReadSoFar, names, sent_of}
use Rattle.world_state.specs.Ties.{AreTied}
use Rattle.phase_laws.proofs.DirectDone.{changes_all, done_effect, done_happens, done_of, order_none}
use Rattle.phase_laws.proofs.DirectLeft.{DirectLeft, bare}
use Rattle.phase_laws.proofs.DirectStops.{line_of, running_so}
use Rattle.phase_laws.proofs.Directs.{InService}
use Rattle.phase_laws.proofs.Moves.{TellsSo, free_is, untold_is}
use Rattle.phase_laws.proofs.Parts.{KeepsScript, path_with}
use Rattle.phase_laws.proofs.Phased.{direct_holds}
use Rattle.phase_laws.proofs.SetUps.{done_same}
use Rattle.phase_laws.proofs.StopTells.{bars_are}
use Rattle.phase_laws.proofs.Stopping.{context_after, jobs_are}
use Rattle.phase_laws.proofs.Tolds.{map_alike}

abbrev pub done_path : PathState → Registers → Holding → CardState → Script → PathState
done_path p r g c s = path_with p r p.memory g c s

-- ---- the tasks

abbrev task_so : ℕ → Standing → Task
task_so id far = record { id = id; standing = far }

abbrev task_by : PathState → ℕ → Option ℕ → Option Task
task_by q tag o = option_map (λ id. task_so id (standing_at q tag)) o

tasks_done : (p : PathState) (r : Registers) (g : Holding) (c : CardState) (s : Script) (slot id : ℕ) → p.driver.recovery ≡ driver.Calm → holder p slot ≡ Some id
    → ((tag : ℕ) → tag < 32 → tag ≢ slot → holder p tag ≡ None) → has_bit r.completed slot ≡ true
    → tasks_of (done_path p r g c s) ≡ changed_slots (Move id standing.Done) (tasks_of p)
unfolding tasks_of slots
tasks_done p r g c s slot id calm held alone done =
    let q : PathState = done_path p r g c s in
    let far : standing_at q slot ≡ standing.Done =
    ap (λ v. cond (is_recovering v) standing.Held (cond (is_done q slot) standing.Done (standing_of (progress_of r.ring slot)))) calm
    ∙ ap (λ b. cond b standing.Done (standing_of (progress_of r.ring slot))) done in
    map_alike (task_at q) (λ tag. changed (Move id standing.Done) tag (task_at p tag)) 0 32
    (λ tag low within.
    elim (eqb_tells tag slot) [
      | inl e ↦
          ap (λ v. task_by q v (holder p v)) e.1 ∙ ap (task_by q slot) held ∙ ap (λ v. Some (task_so id v)) far
          ∙ sym (ap (λ v. changed (Move id standing.Done) v (task_by p v (holder p v))) e.1
          ∙ ap (λ v. changed (Move id standing.Done) slot (task_by p slot v)) held
          ∙ ap (λ b. cond b (Some (task_so id standing.Done)) (Some (task_so id (standing_at p slot)))) (eq-eqb id id refl))
      | inr e ↦
          let none : holder p tag ≡ None = alone tag within e.1 in
          ap (task_by q tag) none ∙ sym (ap (λ v. changed (Move id standing.Done) tag (task_by p tag v)) none)
    ])
    ∙ sym (changes_all (Move id standing.Done) (task_at p) 32)

-- ---- the data

no_blocks : (q : PathState) (tag : ℕ) (j : Job) → is_direct j ≡ true → blocks_held q tag j ≡ []
no_blocks q tag (Read sector blocks high) e = absurd (false≢true e)
no_blocks q tag (Write sector blocks fill forced reliable high) e = refl
no_blocks q tag Flush e = refl
no_blocks q tag Barrier e = refl
no_blocks q tag Status e = refl

no_data : (b : Bool) (xs : List Block) → xs ≡ [] → cond b xs [] ≡ []
no_data true xs e = e
no_data false xs e = refl

data_stays : (p : PathState) (r : Registers) (g : Holding) (c : CardState) (s : Script) (slot id : ℕ) → holder p slot ≡ Some id → is_direct (job p id) ≡ true
    → ((tag : ℕ) → tag < 32 → tag ≢ slot → holder p tag ≡ None) → data_of (done_path p r g c s) ≡ data_of p
unfolding data_of slots
data_stays p r g c s slot id held direct alone =
    let q : PathState = done_path p r g c s in
    map_alike (λ tag. data_by q tag (holder p tag)) (λ tag. data_by p tag (holder p tag)) 0 32
    (λ tag low within.
    elim (eqb_tells tag slot) [
      | inl e ↦
          let is : holder p tag ≡ Some id = ap (holder p) e.1 ∙ held in
          ap (data_by q tag) is ∙ no_data (is_done q tag) (blocks_held q tag (job p id)) (no_blocks q tag (job p id) direct)
          ∙ sym (ap (data_by p tag) is ∙ no_data (is_done p tag) (blocks_held p tag (job p id)) (no_blocks p tag (job p id) direct))
      | inr e ↦
          let none : holder p tag ≡ None = alone tag within e.1 in
          ap (data_by q tag) none ∙ sym (ap (data_by p tag) none)
    ])

-- ---- the state

pub record IsDoneAs (p q : PathState) (slot id : ℕ) : Type 0 where
  pub tasks : tasks_of q ≡ changed_slots (Move id standing.Done) (tasks_of p)
  pub blocks : data_of q ≡ data_of p
  pub order_is : order q ≡ filter (λ other. not (other == slot)) (order p)
  pub idle : is_busy q ≡ false
  pub stops : stop_of q ≡ stop_of p
  pub notice : notice_of q ≡ true
  pub counter : q.regs.coalescing.counter ≡ p.regs.coalescing.counter

state_done : (p : PathState) (r : Registers) (g : Holding) (c : CardState) (s : Script) (o : OrderState) (k : Context) (j : Job) (slot id count : ℕ) (kept : Bool) (n : ℕ)
    → KeepsScript p.script s → c.store.cache.last ≡ bars_with (state_of p o k).bars j → IsDoneAs p (done_path p r g c s) slot id
    → state_of (done_path p r g c s) o (context_after (state_of p o k) k j count kept n k.named) ≡ done_of (state_of p o k) j slot id count kept n
unfolding state_of
state_done p r g c s o k j slot id count kept n lines bars d =
    let q : PathState = done_path p r g c s in
    let b : State = state_of p o k in
    let F : List Hit → List ℕ → ℕ → ℕ → List (Option Task) → List (List Block) → List ℕ → Bool → ℕ → Stop → Bool → ℕ → State =
    λ hits ready used last tasks blocks line busy spent halt notice counter. record (done_of b j slot id count kept n) {
      faults = record b.faults { ready = ready; bus = hits };
      words = used;
      bars = last;
      slots = tasks;
      «data» = blocks;
      order = line;
      busy = busy;
      spent = spent;
      stop = halt;
      notice = notice;
      count = counter;
    } in
    let tasks : List (Option Task) = changed_slots (Move id standing.Done) (tasks_of p) in
    let line : List ℕ = filter (λ other. not (other == slot)) (order p) in
    let last : ℕ = bars_with b.bars j in
    let none : spent_of q ≡ 0 = ap (λ v. cond v (moved q + 1) 0) d.idle in
    ap (λ v. F v s.ready s.used c.store.cache.last (tasks_of q) (data_of q) (order q) (is_busy q) (spent_of q) (stop_of q) (notice_of q) r.coalescing.counter) lines.hits
    ∙ ap (λ v. F p.script.hits v s.used c.store.cache.last (tasks_of q) (data_of q) (order q) (is_busy q) (spent_of q) (stop_of q) (notice_of q) r.coalescing.counter) lines.ready
    ∙ ap (λ v. F p.script.hits p.script.ready v c.store.cache.last (tasks_of q) (data_of q) (order q) (is_busy q) (spent_of q) (stop_of q) (notice_of q) r.coalescing.counter) lines.used
    ∙ ap (λ v. F p.script.hits p.script.ready p.script.used v (tasks_of q) (data_of q) (order q) (is_busy q) (spent_of q) (stop_of q) (notice_of q) r.coalescing.counter) bars
    ∙ ap (λ v. F p.script.hits p.script.ready p.script.used last v (data_of q) (order q) (is_busy q) (spent_of q) (stop_of q) (notice_of q) r.coalescing.counter) d.tasks
    ∙ ap (λ v. F p.script.hits p.script.ready p.script.used last tasks v (order q) (is_busy q) (spent_of q) (stop_of q) (notice_of q) r.coalescing.counter) d.blocks
    ∙ ap (λ v. F p.script.hits p.script.ready p.script.used last tasks (data_of p) v (is_busy q) (spent_of q) (stop_of q) (notice_of q) r.coalescing.counter) d.order_is
    ∙ ap (λ v. F p.script.hits p.script.ready p.script.used last tasks (data_of p) line v (spent_of q) (stop_of q) (notice_of q) r.coalescing.counter) d.idle
    ∙ ap (λ v. F p.script.hits p.script.ready p.script.used last tasks (data_of p) line false v (stop_of q) (notice_of q) r.coalescing.counter) none
    ∙ ap (λ v. F p.script.hits p.script.ready p.script.used last tasks (data_of p) line false 0 v (notice_of q) r.coalescing.counter) d.stops
    ∙ ap (λ v. F p.script.hits p.script.ready p.script.used last tasks (data_of p) line false 0 (stop_of p) v r.coalescing.counter) d.notice
    ∙ ap (λ v. F p.script.hits p.script.ready p.script.used last tasks (data_of p) line false 0 (stop_of p) true v) d.counter

-- ---- what is left

pub record DoneTold (p : PathState) (a : ArrayState) (slot : ℕ) (i : InService p slot) (r : Registers) (g : Holding) (card : CardState) (s : Script) (a' : ArrayState)
    (count : ℕ) (kept : Bool) : Type 0 where
  pub tied : AreTied (done_path p r g card s)
  pub left : DirectLeft p a (job p i.id) count kept card a'
  pub script : KeepsScript p.script s
  pub sent : s.sent ≡ raised p.script.sent
  pub going : p.regs.stopped ≡ false
  pub below : slot < 32
  pub way : under_way p ≡ None
  pub is_due : IsDue (remembered p.engine.held p.regs) p.regs p.memory (Serve slot)
  pub command : Command
  pub blocks : ℕ
  pub plain : is_execute command ≡ false
  pub befell : if_of_kind (find (λ h. h.n == raised p.script.sent) p.script.hits) command blocks ≡ None
  pub whole : (through : Bool) → is_whole through (job p i.id) count kept ≡ true
  pub alone : (tag : ℕ) → tag < 32 → tag ≢ slot → holder p tag ≡ None
  pub goes_on : r.stopped ≡ false
  pub ring : r.ring ≡ []
  pub emptied : without p.regs.ring slot ≡ []
  pub completed : r.completed ≡ bit_or p.regs.completed (2 ^ slot)
  pub interrupts : r.interrupts ≡ 2
  pub counter : r.coalescing.counter ≡ p.regs.coalescing.counter

way_after : (p : PathState) (r : Registers) (g : Holding) (c : CardState) (s : Script) → r.stopped ≡ false → r.ring ≡ [] → under_way (done_path p r g c s) ≡ None
way_after p r g c s goes ring = ap (λ b. cond b None (first_at Active r.ring)) goes ∙ ap (λ v. first_at Active v) ring

done_as : (p : PathState) (a : ArrayState) (slot : ℕ) (i : InService p slot) (r : Registers) (g : Holding) (card : CardState) (s : Script) (a' : ArrayState)
    (count : ℕ) (kept : Bool) → DoneTold p a slot i r g card s a' count kept → IsDoneAs p (done_path p r g card s) slot i.id
done_as p a slot i r g card s a' count kept st =
    let q : PathState = done_path p r g card s in
    let calm : is_recovering p.driver.recovery ≡ false = ap is_recovering i.calm in
    let runs : stop_of q ≡ stop.Running =
    ap (λ b. cond b stop.Running (cond r.stopped (stop_by q g.cause) stop.Running)) calm ∙ ap (λ v. cond v (stop_by q g.cause) stop.Running) st.goes_on in
    record {
      tasks = tasks_done p r g card s slot i.id i.calm i.is_held st.alone (ap (λ v. has_bit v slot) st.completed ∙ done_same p.regs.completed slot);
      blocks = data_stays p r g card s slot i.id i.is_held i.is_direct st.alone;
      order_is =
          ap (λ b. cond b [] (order_of r.ring)) calm ∙ ap (λ v. order_of v) st.ring
          ∙ sym (ap (λ b. filter (λ other. not (other == slot)) (cond b [] (order_of p.regs.ring))) calm ∙ order_none p.regs.ring slot st.emptied);
      idle = ap is_some (way_after p r g card s st.goes_on st.ring);
      stops = runs ∙ sym (running_so p slot i st.going);
      notice = ap (λ v. cond (is_free v) false (has_bit r.interrupts 1)) i.calm ∙ ap (λ v. has_bit v 1) st.interrupts;
      counter = st.counter;
    }

done_agrees : (p : PathState) (a : ArrayState) (slot : ℕ) (i : InService p slot) (r : Registers) (g : Holding) (card : CardState) (s : Script) (a' : ArrayState)
    (count : ℕ) (kept : Bool) (o : OrderState) (k : Context) → DoneTold p a slot i r g card s a' count kept → Agrees p a k
    → Agrees (done_path p r g card s) a' (context_after (state_of p o k) k (job p i.id) count kept (raised p.script.sent) k.named)
done_agrees p a slot i r g card s a' count kept o k st h =
    let q : PathState = done_path p r g card s in
    let c : Context = context_after (state_of p o k) k (job p i.id) count kept (raised p.script.sent) k.named in
    let l = st.left.left o k h in
    let d = done_as p a slot i r g card s a' count kept st in
    let way : under_way q ≡ None = way_after p r g card s st.goes_on st.ring in
    let none = bare q c way in
    record {
      told = st.left.told ∙ h.told;
      tied = st.tied;
      number = st.sent ∙ sym (ap (λ b. sent_of b (raised p.script.sent)) d.idle);
      named = record {
        long = h.named.long;
        waiting = h.named.waiting;
        issued = λ tag other is. h.named.issued tag other is ∙ ap (λ v. min (faults_of p.driver.requests other + names v other) 4) (sym d.stops);
      };
      store = subst (λ v. StoreStands v card.store a') (sym none) l.stands;
      within = l.within;
      read = subst (λ v. IfSome v (HasReadSoFar q c)) (sym way) tt;
      few = l.few;
      deferred = λ through staged free fewer. l.deferred through staged free (subst (λ v. length (places_of v.pend) < (plan_of p).lines) none fewer);
    }

pub done_tells : (p : PathState) (a : ArrayState) (slot : ℕ) (i : InService p slot) (r : Registers) (g : Holding) (card : CardState) (s : Script) (a' : ArrayState)
    (count : ℕ) (kept : Bool) → StateLaws → DoneTold p a slot i r g card s a' count kept
    → TellsSo EngineActs p a (PhaseLine (raised p.script.sent) i.id count kept ∷ []) (done_path p r g card s) a'
done_tells p a slot i r g card s a' count kept laws st o k h =
    let b : State = state_of p o k in
    let n : ℕ = raised p.script.sent in
    let j : Job = job p i.id in
    let d = line_of p a slot i card a' count kept None o k st.command st.blocks laws st.left st.below st.way st.is_due st.plain st.befell refl h in
    let line = direct_holds b slot i.id count n kept None j d.is_due d.number refl d.moves in
    let effect_is = done_effect b slot i.id count n kept j (ap tag_due d.is_due) d.befalls (jobs_are p o k i.id) i.is_direct (st.whole b.plan.through) in
    let bars = st.left.last ∙ sym (ap (λ v. bars_with v j) (bars_are p o k)) in
    let T : State → Type 0 = λ v. Happens b EngineActs (PhaseLine n i.id count kept ∷ []) v in
    record {
      context = context_after b k j count kept n k.named;
      agrees = done_agrees p a slot i r g card s a' count kept o k st h;
      happens =
          subst T (sym (state_done p r g card s o k j slot i.id count kept n st.script bars (done_as p a slot i r g card s a' count kept st)))
          (done_happens b (done_of b j slot i.id count kept n) n i.id count kept (free_is p o k) (untold_is p o k) line refl refl effect_is);
    }
