-- What an issue tells, and an event without work.
use Rattle.std.proofs.Common.{◌≡◌, ◌≢◌, ◌∙◌, ◌+◌, ◌-◌, ◌<◌, ◌≤◌, ◌==◌, ◌&&◌, ℕ, Bool, true, false, cond, not, List, [], ◌∷◌, Option, None, Some, IfSome, IsSomeAnd, MatchOption, Ok, Err, All, is_ok, find, min, option_map, refl, ap, sym, subst, arith, eqb-true, eq-eqb, if◌then◌else◌}
use Rattle.std.proofs.lemmas.Bool.{eqb-false, false≢true}
use Rattle.std.proofs.lemmas.List.Elements.{All-head, All-tail}
use Rattle.std.specs.Option.{option_map_or}
use Rattle.std.specs.Result.{result_ok}
use Rattle.storage_model.specs.Contents.{contents_now, sector_at}
use Rattle.storage_model.specs.Plan.{blocks_of}
use Rattle.storage_model.specs.declared.faults.Letter.TheVariants.{Host as HostActs}
use Rattle.storage_model.specs.declared.plan.Job.{Job}
use Rattle.storage_model.specs.declared.plan.Job.TheVariants.{Read, Write, Flush, Barrier, Status}
use Rattle.storage_machine.specs.Host.{has_work, is_silent, next_issue}
use Rattle.storage_machine.specs.Jobs.{is_read, phase_blocks, sector_of}
use Rattle.storage_machine.specs.declared.state.State.{State}
use Rattle.storage_machine.specs.declared.state.Stop.{Stop}
use Rattle.storage_machine.specs.declared.state.Stop.TheVariants as stop
use Rattle.storage_order.specs.Events.{Happens}
use Rattle.trace_effects.specs.Effects.{after_issue}
use Rattle.trace_rules.specs.Lines.{is_pair}
use Rattle.array_edge.specs.Array.{ArrayState}
use Rattle.cq_engine.specs.Holds.{IsCounted}
use Rattle.cq_regs.specs.Slots.{is_rung, progress_of}
use Rattle.cq_regs.specs.declared.slots.Progress.TheVariants.{Idle, Active}
use Rattle.cq_regs.specs.declared.slots.Ringed.{Ringed}
use Rattle.cq_schedule.specs.Held.{held_at}
use Rattle.cq_schedule.specs.Holding.{is_begun}
use Rattle.cq_schedule.specs.Order.{moved_of}
use Rattle.cq_schedule.specs.declared.held.HeldTask.{HeldTask}
use Rattle.cq_task.specs.declared.slot.DataTask.{DataTask}
use Rattle.cq_task.specs.declared.slot.SlotTask.TheVariants.{Data}
use Rattle.cut_order.specs.Order.{OrderState}
use Rattle.drv_core.specs.Event.{IsWritten, Issues}
use Rattle.drv_core.specs.State.{asks_notice, is_recovering}
use Rattle.drv_core.specs.Work.{is_possible, work_of}
use Rattle.drv_core.specs.declared.act.Act.{Act}
use Rattle.drv_core.specs.declared.work.Work.TheVariants.{Issue as IssueWork}
use Rattle.drv_jobs.specs.Changes.{faults_of}
use Rattle.drv_jobs.specs.Next.{due_of}
use Rattle.drv_jobs.specs.declared.next.Due.{Due}
use Rattle.drv_jobs.specs.declared.next.Hold.{Hold}
use Rattle.drv_recover.specs.declared.recovery.RecoveryState.TheVariants as driver
use Rattle.drv_ring.specs.Asks.{HasBlocks}
use Rattle.drv_ring.specs.Changes.{KeepsTag}
use Rattle.drv_ring.specs.Layout.{IsTagOf}
use Rattle.drv_ring.specs.Pieces.{tag_pieces}
use Rattle.drv_ring.specs.Task.{read_desc, task_of}
use Rattle.drv_ring.specs.declared.places.Layout.{Layout}
use Rattle.host_mem.specs.Memory.{Memory}
use Rattle.piece_data.specs.Data.{block_of}
use Rattle.host_laws.proofs.Begun.{begun_idle, issue_happens, rests_at}
use Rattle.host_laws.proofs.Dues.{IsIssuable, issuable}
use Rattle.host_laws.proofs.Issued.{IsFree, free_tag_is, holder_other, holder_that, issued_at, rung_more, waits_if}
use Rattle.host_laws.proofs.IssuedRuns.{More, way_issued}
use Rattle.host_laws.proofs.IssueTells.{blocks_kept, issued_state, marks_issued, way_other}
use Rattle.host_laws.proofs.Paths.{same_array}
use Rattle.host_laws.proofs.Recoveries.{event_at, owed_at, placed, recovery_at}
use Rattle.host_laws.proofs.Same.{agrees_same, way_active}
use Rattle.host_laws.proofs.TiesKept.{IsCalm, issues_to, waits_to}
use Rattle.world_state.specs.Host.{HostEvent, host_lines, moment_of}
use Rattle.world_state.specs.Laws.{StateLaws}
use Rattle.world_state.specs.Path.{PathState, holder, job, layout, moved, moved_by, plan_of, runs, under_way}
use Rattle.world_state.specs.Reading.{Context, recovery_of, state_of, stop_by, stop_of}
use Rattle.world_state.specs.Stands.{Agrees, AreNamed, HasReadSoFar, named_at, names}
use Rattle.world_state.specs.Ties.{AreTied, HoldsJob, IsIssued, IsVacant}
use Rattle.world_state.specs.Told.{Tells}

-- a slot that is rung is one of the 32
below_if : (b : Bool) (r : Ringed) (rest : Option Ringed) (slot : ℕ) → (r.slot == slot) ≡ b → r.slot < 32 → (is_rung (option_map_or (λ (x : Ringed). x.progress) rest Idle) ≡ true → slot < 32)
    → is_rung (option_map_or (λ (x : Ringed). x.progress) (cond b (Some r) rest) Idle) ≡ true → slot < 32
below_if true r rest slot e low more rung = subst (λ n. n < 32) (eqb-true r.slot slot e) low
below_if false r rest slot e low more rung = more rung

rung_below : (ring : List Ringed) (slot : ℕ) → All (λ (r : Ringed). r.slot < 32) ring → is_rung (progress_of ring slot) ≡ true → slot < 32
rung_below [] slot below rung = absurd (false≢true rung)
rung_below (r ∷ ring) slot below rung =
    below_if (r.slot == slot) r (find (λ (x : Ringed). x.slot == slot) ring) slot refl (All-head (λ (x : Ringed). x.slot < 32) r ring below)
    (rung_below ring slot (All-tail (λ (x : Ringed). x.slot < 32) r ring below)) rung

pub way_below : (p : PathState) (tag : ℕ) → AreTied p → under_way p ≡ Some tag → tag < 32
way_below p tag t way = rung_below p.regs.ring tag t.regs.ring.below (ap is_rung (way_active p tag way))

-- no more blocks of a read moved than it has
read_blocks : (places : Layout) (tag : ℕ) (j : Job) (int : Bool) (task : DataTask) → is_read j ≡ true → task_of places tag j int ≡ Data task → task.desc.blocks ≡ blocks_of j
read_blocks places tag (Read sector blocks high) int task e is =
    let same : record { desc = read_desc sector blocks high int; pieces = tag_pieces places tag blocks } ≡ task = cc (is) in
    sym (ap (λ (t : DataTask). t.desc.blocks) same)
read_blocks places tag (Write sector blocks fill forced reliable high) int task e is = absurd (false≢true e)
read_blocks places tag Flush int task e is = absurd (false≢true e)
read_blocks places tag Barrier int task e is = absurd (false≢true e)
read_blocks places tag Status int task e is = absurd (false≢true e)

moved_few : (p : PathState) (tag id : ℕ) (place : Option HeldTask) → is_read (job p id) ≡ true → IfSome place IsCounted
    → IsSomeAnd place (λ h. (h.progress ≡ progress_of p.regs.ring tag) × (task_of (layout p) tag (job p id) (asks_notice (plan_of p) (job p id)) ≡ Data h.task) × (progress_of p.regs.ring tag ≢ Active → h.moved ≡ 0))
    → option_map_or (λ (h : HeldTask). h.moved) place 0 ≤ blocks_of (job p id)
moved_few p tag id None reads counted h = absurd (h)
moved_few p tag id (Some held) reads counted h =
    subst (λ n. held.moved ≤ n) (read_blocks (layout p) tag (job p id) (asks_notice (plan_of p) (job p id)) held.task reads h.1) counted.within

held_few : (p : PathState) (tag id : ℕ) (found : Option ℕ) → found ≡ Some id → is_read (job p id) ≡ true → IfSome (held_at p.engine.held tag) IsCounted → IsSomeAnd found (HoldsJob p tag)
    → moved_of p.engine.held tag ≤ blocks_of (job p id)
held_few p tag id None e reads counted h = absurd (h)
held_few p tag id (Some other) e reads counted h =
    let same : other ≡ id = cc (e) in
    moved_few p tag id (held_at p.engine.held tag) reads counted (subst (HoldsJob p tag) same h).held

runs_calm : (p : PathState) → IsCalm p false false → runs p ≡ true
runs_calm p c = ap (λ b. cond b false (not p.regs.stopped)) (ap is_recovering c.calm) ∙ ap not c.stop

issued_of : (p : PathState) (tag id : ℕ) (found : Option ℕ) → found ≡ Some id → MatchOption found (IsVacant p tag) (IsIssued p tag) → IsIssued p tag id
issued_of p tag id None e h = absurd (cc (e))
issued_of p tag id (Some other) e h = let same : other ≡ id = cc (e) in subst (IsIssued p tag) same h

phase_kept : (p : PathState) (memory : Memory) (tag k : ℕ) (j : Job) → is_read j ≡ true → KeepsTag (layout p) tag p.memory memory → IsTagOf (layout p) tag j → HasBlocks j → k < blocks_of j
    → block_of memory (tag_pieces (layout p) tag (phase_blocks j)) k ≡ block_of p.memory (tag_pieces (layout p) tag (phase_blocks j)) k
phase_kept p memory tag k (Read sector blocks high) e keeps fits some low = blocks_kept p memory tag (Read sector blocks high) keeps fits some k low e
phase_kept p memory tag k (Write sector blocks fill forced reliable high) e keeps fits some low = absurd (false≢true e)
phase_kept p memory tag k Flush e keeps fits some low = absurd (false≢true e)
phase_kept p memory tag k Barrier e keeps fits some low = absurd (false≢true e)
phase_kept p memory tag k Status e keeps fits some low = absurd (false≢true e)

-- the blocks of a read under way stay
read_one : (p : PathState) (due : Due) (memory : Memory) (c : Context) (tag id : ℕ) → AreTied p → IsCalm p false false → IsWritten (plan_of p) due p.memory memory → tag ≢ due.tag
    → under_way p ≡ Some tag → holder p tag ≡ Some id
    → (is_read (job p id) ≡ true → (k : ℕ) → k < moved p → block_of p.memory (tag_pieces (layout p) tag (phase_blocks (job p id))) k ≡ sector_at (contents_now c.base c.pend) (sector_of (job p id) + k))
    → is_read (job p id) ≡ true → (k : ℕ) → k < moved p → block_of memory (tag_pieces (layout p) tag (phase_blocks (job p id))) k ≡ sector_at (contents_now c.base c.pend) (sector_of (job p id) + k)
read_one p due memory c tag id t calm w apart way held read reads k low =
    let below = way_below p tag t way in
    let i = issued_of p tag id (holder p tag) held (t.tags (ap is_recovering calm.calm) tag below) in
    let begun : is_begun (progress_of p.regs.ring tag) ≡ true = ap is_begun (way_active p tag way) in
    let few = held_few p tag id (holder p tag) held reads (t.counts tag below) ((t.running (runs_calm p calm) tag below).holds begun) in
    let moved_is : moved p ≡ moved_of p.engine.held tag = ap (moved_by p) way in
    phase_kept p memory tag k (job p id) reads (w.others tag below apart) i.asks.tag_fits i.asks.blocks_fit (omega (arith, few, low, moved_is)) ∙ read reads k low

read_if : (p : PathState) (due : Due) (memory : Memory) (c : Context) (tag : ℕ) (found : Option ℕ) → holder p tag ≡ found → AreTied p → IsCalm p false false
    → IsWritten (plan_of p) due p.memory memory → tag ≢ due.tag → More p due → under_way p ≡ Some tag
    → IfSome found (λ id. is_read (job p id) ≡ true → (k : ℕ) → k < moved p → block_of p.memory (tag_pieces (layout p) tag (phase_blocks (job p id))) k ≡ sector_at (contents_now c.base c.pend) (sector_of (job p id) + k))
    → IfSome found (λ id. is_read (job p id) ≡ true → (k : ℕ) → k < moved (issued_at p due memory) → block_of memory (tag_pieces (layout p) tag (phase_blocks (job p id))) k ≡ sector_at (contents_now c.base c.pend) (sector_of (job p id) + k))
read_if p due memory c tag None held t calm w apart r way read = tt
read_if p due memory c tag (Some id) held t calm w apart r way read =
    let moved_is : moved (issued_at p due memory) ≡ moved p = ap (moved_by p) (way_issued p due memory r) in
    λ reads k low. read_one p due memory c tag id t calm w apart way held read reads k (subst (λ n. k < n) moved_is low)

read_way : (p : PathState) (due : Due) (memory : Memory) (c : Context) (way : Option ℕ) → under_way p ≡ way → AreTied p → IsCalm p false false
    → IsWritten (plan_of p) due p.memory memory → More p due → IsFree p due → IfSome way (HasReadSoFar p c) → IfSome way (HasReadSoFar (issued_at p due memory) c)
read_way p due memory c None e t calm w r f read = tt
read_way p due memory c (Some tag) e t calm w r f read =
    let other = way_other p due tag (tag == due.tag) refl f e in
    subst (λ found. IfSome found (λ id. is_read (job p id) ≡ true → (k : ℕ) → k < moved (issued_at p due memory) → block_of memory (tag_pieces (layout p) tag (phase_blocks (job p id))) k ≡ sector_at (contents_now c.base c.pend) (sector_of (job p id) + k)))
    (sym (holder_other p due memory tag other))
    (read_if p due memory c tag (holder p tag) refl t calm w (eqb-false tag due.tag other) r e read)

-- how often faults named each request
stop_none : (recovering stopped : Bool) (other : Stop) → recovering ≡ false → stopped ≡ false → (if recovering then stop.Running else if stopped then other else stop.Running) ≡ stop.Running
stop_none true stopped other a b = absurd (false≢true (sym a))
stop_none false true other a b = absurd (false≢true (sym b))
stop_none false false other a b = refl

pub running_calm : (p : PathState) → p.driver.recovery ≡ driver.Calm → p.regs.stopped ≡ false → stop_of p ≡ stop.Running
running_calm p calm runs = stop_none (is_recovering p.driver.recovery) p.regs.stopped (stop_by p p.engine.cause) (ap is_recovering calm) runs

named_by : (p : PathState) (due : Due) (memory : Memory) (named : List ℕ) (tag id : ℕ) (b : Bool) → (tag == due.tag) ≡ b → AreTied p → IsIssuable p.driver.requests due
    → stop_of p ≡ stop.Running → AreNamed p named → holder (issued_at p due memory) tag ≡ Some id → named_at named id ≡ min (faults_of p.driver.requests id + 0) 4
named_by p due memory named tag id true e t x runs g held =
    let same : due.id ≡ id = cc (holder_that p due memory tag t.sound x.low e, held) in
    let more : faults_of p.driver.requests due.id + 0 ≡ faults_of p.driver.requests due.id = omega arith in
    subst (λ n. named_at named n ≡ min (faults_of p.driver.requests n + 0) 4) same (g.waiting due.id x.waits ∙ ap (λ n. min n 4) (sym more))
named_by p due memory named tag id false e t x runs g held =
    g.issued tag id (sym (holder_other p due memory tag e) ∙ held) ∙ ap (λ s. min (faults_of p.driver.requests id + names s id) 4) runs

named_issued : (p : PathState) (due : Due) (memory : Memory) (named : List ℕ) → AreTied p → IsCalm p false false → IsIssuable p.driver.requests due → AreNamed p named
    → AreNamed (issued_at p due memory) named
named_issued p due memory named t c x g = record {
  long = g.long;
  waiting = λ id waits. g.waiting id (waits_if ((id - 1) == (due.id - 1)) p.driver.requests.waiting (due.id - 1) (id - 1) refl waits);
  issued = λ tag id held.
      named_by p due memory named tag id (tag == due.tag) refl t x (running_calm p c.calm c.stop) g held
      ∙ ap (λ s. min (faults_of p.driver.requests id + names s id) 4) (sym (running_calm (issued_at p due memory) refl c.stop));
}

-- the laws of the host
works : (p : PathState) (o : OrderState) (c : Context) (some : Bool) → StateLaws → AreTied p → work_of p.driver.recovery p.regs ≡ IssueWork → is_ok (due_of p.driver.requests) ≡ some
    → has_work (state_of p o c) ≡ some
works p o c some laws t w e = (laws.host p o c t).work ∙ (ap (λ x. is_possible x p.driver.requests) w ∙ e)

quiet_calm : (p : PathState) (o : OrderState) (c : Context) → p.driver.recovery ≡ driver.Calm → is_silent (state_of p o c).recovery ≡ false
quiet_calm p o c calm = ap is_silent (recovery_at p o c ∙ ap recovery_of calm)

pair_is : (s : State) (due : Due) → next_issue s ≡ Some (due.id, due.tag) → is_pair due.id due.tag (next_issue s) ≡ true
pair_is s due e = ap (is_pair due.id due.tag) e ∙ both (due.id == due.id) (eq-eqb due.id due.id refl) (eq-eqb due.tag due.tag refl)
  where
    both : (b : Bool) → b ≡ true → (due.tag == due.tag) ≡ true → (b && (due.tag == due.tag)) ≡ true
    both true e h = h
    both false e h = absurd (false≢true e)

pub tells_issued : (p : PathState) (a : ArrayState) (p' : PathState) (a' : ArrayState) (act : Act) (due : Due) → StateLaws → HostEvent p a p' a' act → AreTied p → AreTied p'
    → work_of p.driver.recovery p.regs ≡ IssueWork → IsCalm p false false → due_of p.driver.requests ≡ Ok due → Issues (moment_of p a) (moment_of p' a') act (Ok due)
    → Tells HostActs p a (host_lines p p' act) p' a'
tells_issued p a p' a' act due laws e t t' w c d i o x g =
    let issue = issuable p.driver.requests due t.sound d in
    let f = free_tag_is p due t c.calm issue in
    let r = rung_more p due t f issue.low in
    let to = issues_to p a p' a' act due e t c d i in
    let q = issued_at p due p'.memory in
    let s = state_of p o x in
    let host = laws.host p o x t in
    record {
      context = x;
      agrees = subst (λ (y : ArrayState). Agrees p' y x) (sym (same_array p p' a a' i.link))
          (subst (λ (y : PathState). Agrees y a x) (sym to)
          (agrees_same p q a x g (subst AreTied to t') (way_issued p due p'.memory r) (marks_issued p due p'.memory r f) refl refl refl
          (named_issued p due p'.memory x.named t c issue g.named)
          (subst (λ way. IfSome way (HasReadSoFar q x)) (sym (way_issued p due p'.memory r))
          (read_way p due p'.memory x (under_way p) refl t c i.written r f g.read))));
      happens = subst (λ (y : Act). Happens s HostActs (host_lines p p' y) (state_of p' o x)) (sym i.told)
          (issue_happens s (state_of p' o x) due.id due.tag (owed_at p o x) (event_at p o x) (quiet_calm p o x c.calm) (works p o x true laws t w (ap is_ok d))
          (pair_is s due (host.issue (runs_calm p c) ∙ ap (λ n. option_map (λ (next : Due). (next.id, next.tag)) (result_ok n)) d)) (host.noticed ∙ c.notice)
          (ap (λ y. state_of y o x) to
          ∙ (issued_state p due p'.memory o x t c.calm c.stop issue f r i.written
          ∙ ap (λ y. after_issue (state_of y o x) due.id due.tag) (sym (placed p driver.Calm c.calm)))));
    }

pub tells_nothing : (p : PathState) (a : ArrayState) (p' : PathState) (a' : ArrayState) (act : Act) (hold : Hold) → StateLaws → HostEvent p a p' a' act → AreTied p
    → work_of p.driver.recovery p.regs ≡ IssueWork → IsCalm p false false → due_of p.driver.requests ≡ Err hold → Issues (moment_of p a) (moment_of p' a') act (Err hold)
    → Tells HostActs p a (host_lines p p' act) p' a'
tells_nothing p a p' a' act hold laws e t w c d i o x g =
    let to = waits_to p a p' a' act hold e i in
    let s = state_of p o x in
    record {
      context = x;
      agrees = subst (λ (y : ArrayState). Agrees p' y x) (sym (same_array p p' a a' i.link)) (subst (λ (y : PathState). Agrees y a x) (sym to) g);
      happens = subst (λ (y : Act). Happens s HostActs (host_lines p p' y) (state_of p' o x)) (sym i.told)
          (rests_at s (state_of p' o x) (owed_at p o x) (event_at p o x)
          (begun_idle s (owed_at p o x) (event_at p o x) (quiet_calm p o x c.calm) (works p o x false laws t w (ap is_ok d)) ∙ sym (ap (λ y. state_of y o x) to))
          (event_at p' o x));
    }
