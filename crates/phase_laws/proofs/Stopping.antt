-- What a stop in a data phase tells: the phase's line with the blocks that moved, and the line of what stopped it.
use Rattle.std.proofs.Common.{◌≡◌, ◌≢◌, ◌⊎◌, ◌<◌, ◌≤◌, ◌+◌, ◌-◌, ◌++◌, ◌==◌, ℕ, zero, suc, refl, sym, ◌∙◌, ap, subst, arith, inl, inr, append-nil}
use Rattle.std.specs.Prelude.{Bool, true, false, cond, min, Option, Some, None, length, List, [], All, slice_set, slice_index_or, unwrap_or}
use Rattle.std.proofs.lemmas.Bool.{eq-eqb, false≢true, le-leb, ne_eqb}
use Rattle.std.proofs.lemmas.Bool.Decides.{eqb_tells}
use Rattle.std.proofs.lemmas.List.{get_or-set_other, get_or-set_same}
use Rattle.std.proofs.lemmas.List.Elements.{All-append, All-cons, All-nil}
use Rattle.std.proofs.Math.ListN.{length-set}
use Rattle.array_edge.specs.Array.{ArrayState}
use Rattle.bus_link.specs.Script.{Script}
use Rattle.card_core.specs.Card.{CardState}
use Rattle.card_store.specs.Store.{Contents}
use Rattle.cq_engine.specs.Outcome.{Holding, stopped_with}
use Rattle.cq_regs.specs.State.{Registers}
use Rattle.cq_task.specs.declared.slot.DataTask.{DataTask}
use Rattle.cut_order.specs.Order.{OrderState}
use Rattle.drv_core.specs.State.{asks_notice, is_recovering}
use Rattle.drv_jobs.specs.Changes.{faults_of}
use Rattle.drv_recover.specs.declared.recovery.RecoveryState.TheVariants as driver
use Rattle.drv_ring.specs.declared.places.Layout.{Layout}
use Rattle.storage_machine.specs.Commands.{hit, next_number}
use Rattle.storage_machine.specs.Jobs.{job_of, may_keep, may_move, phase_blocks, sector_of}
use Rattle.storage_machine.specs.declared.state.State.{State}
use Rattle.storage_machine.specs.declared.state.Stop.{Stop}
use Rattle.storage_machine.specs.declared.state.Stop.TheVariants as stop
use Rattle.storage_model.specs.Contents.{IsWithin}
use Rattle.storage_model.specs.Plan.{blocks_of}
use Rattle.storage_model.specs.declared.block.Block.{Block}
use Rattle.storage_model.specs.declared.faults.BusKind.{BusKind}
use Rattle.storage_model.specs.declared.faults.Hit.{Hit}
use Rattle.storage_model.specs.declared.faults.BusKind.TheVariants.{Bad, Late, Lost, NoResp}
use Rattle.storage_model.specs.declared.marks.Mark.{Mark}
use Rattle.storage_model.specs.declared.plan.Fill.{Fill}
use Rattle.storage_model.specs.declared.plan.Job.{Job}
use Rattle.storage_model.specs.declared.plan.Job.TheVariants.{Barrier, Flush, Read, Status, Write}
use Rattle.trace_effects.specs.Effects.{named_more}
use Rattle.trace_effects.specs.Phases.{bars_with, marks_of, puts_of}
use Rattle.trace_rules.specs.Phases.{most_blocks}
use Rattle.world_state.specs.Path.{PathState, holder, is_busy, job, layout, plan_of}
use Rattle.world_state.specs.Reading.{Context, data_of, state_of, stop_by, stop_of, tasks_of}
use Rattle.world_state.specs.Stands.{Agrees, AreNamed, contents_of, marks_moved, names, puts_by, sent_of}
use Rattle.world_state.specs.Ties.{AreTied, IsBeforeFault, IsInImage}
use Rattle.phase_laws.proofs.Endings.{runs_of}
use Rattle.phase_laws.proofs.Events.{InPhase}
use Rattle.phase_laws.proofs.Jobs.{DataJob, reads, writes}
use Rattle.phase_laws.proofs.Moves.{blocks_are, id_is}
use Rattle.phase_laws.proofs.Parts.{KeepsScript, path_with}
use Rattle.phase_laws.proofs.Phased.{Moves, base_after, kept_after, pend_after, stopped_by}
use Rattle.phase_laws.proofs.SetUps.{stop_unseen}
use Rattle.phase_laws.proofs.Tags.{of_some}
use Rattle.phase_laws.proofs.Tolds.{marks_are, puts_more}

-- ---- the path

-- the registers after a stop
abbrev pub stop_regs : PathState → (information index argument response : ℕ) → Registers
stop_regs p information index argument response = record p.regs {
  stopped = true;
  error_information = information;
  response_index = index;
  response_argument = argument;
  direct_response = response;
}

pub stop_regs_are : (p : PathState) (information index argument response : ℕ) → p.regs.status_enable ≡ 2
    → (p.regs.interrupts ≡ 0) ⊎ (p.regs.interrupts ≡ 2)
    → stopped_with (record p.regs { response_index = index; response_argument = argument; direct_response = response }) information
    ≡ stop_regs p information index argument response
stop_regs_are p information index argument response enable notice =
    ap (λ n. record (stop_regs p information index argument response) { interrupts = n }) (stop_unseen p.regs.interrupts p.regs.status_enable enable notice)

abbrev pub stopped_path : PathState → Registers → Holding → CardState → Script → PathState
stopped_path p r g c s = path_with p r p.memory g c s

-- the context once blocks were counted
abbrev pub context_after : State → Context → Job → ℕ → Bool → ℕ → List ℕ → Context
context_after b k job count kept n named = record k {
  base = base_after b job count kept;
  pend = pend_after b job count kept;
  n = n;
  named = named;
  kept = kept_after b job count kept;
}

pub state_stopped : (p : PathState) (w x y z : ℕ) (g : Holding) (c : CardState) (s : Script) (o : OrderState) (k : Context) (job : Job) (count : ℕ)
    (kept : Bool) (n : ℕ) (named : List ℕ) (halt : Stop) → KeepsScript p.script s → p.driver.recovery ≡ driver.Calm
    → stop_by (stopped_path p (stop_regs p w x y z) g c s) g.cause ≡ halt → c.store.cache.last ≡ bars_with (state_of p o k).bars job
    → state_of (stopped_path p (stop_regs p w x y z) g c s) o (context_after (state_of p o k) k job count kept n named)
    ≡ stopped_by (state_of p o k) job count kept n named halt
unfolding state_of tasks_of data_of
state_stopped p w x y z g c s o k job count kept n named halt lines calm why bars =
    let q : PathState = stopped_path p (stop_regs p w x y z) g c s in
    let b : State = state_of p o k in
    let F : List Hit → List ℕ → ℕ → ℕ → Stop → State =
    λ hits ready used last h. record (stopped_by b job count kept n named h) {
      faults = record b.faults { ready = ready; bus = hits };
      words = used;
      bars = last;
    } in
    let stops : stop_of q ≡ halt = ap (λ state. cond (is_recovering state) stop.Running (stop_by q g.cause)) calm ∙ why in
    ap (λ v. F v s.ready s.used c.store.cache.last (stop_of q)) lines.hits
    ∙ ap (λ v. F p.script.hits v s.used c.store.cache.last (stop_of q)) lines.ready
    ∙ ap (λ v. F p.script.hits p.script.ready v c.store.cache.last (stop_of q)) lines.used
    ∙ ap (λ v. F p.script.hits p.script.ready p.script.used v (stop_of q)) bars
    ∙ ap (λ v. F p.script.hits p.script.ready p.script.used (bars_with b.bars job) v) stops

-- ---- how often each request was named

running : (p : PathState) → p.driver.recovery ≡ driver.Calm → p.regs.stopped ≡ false → stop_of p ≡ stop.Running
running p calm going =
    ap (λ state. cond (is_recovering state) stop.Running (cond p.regs.stopped (stop_by p p.engine.cause) stop.Running)) calm
    ∙ ap (λ b. cond b (stop_by p p.engine.cause) stop.Running) going

pub bus_named : (p : PathState) (r : Registers) (g : Holding) (c : CardState) (s : Script) (named : List ℕ) (slot id : ℕ) → AreTied p → AreNamed p named
    → stop_of p ≡ stop.Running → holder p slot ≡ Some id → stop_of (stopped_path p r g c s) ≡ stop.Bus (Some id)
    → AreNamed (stopped_path p r g c s) (named_more named (Some id))
bus_named p r g c s named slot id t h was is now =
    let held = t.sound.held slot id is in
    let v = min (slice_index_or named (id - 1) 0 + 1) 4 in
    let before : slice_index_or named (id - 1) 0 ≡ min (faults_of p.driver.requests id + 0) 4 =
    h.issued slot id is ∙ ap (λ x. min (faults_of p.driver.requests id + names x id) 4) was in
    let above : 1 ≤ id = held.above in
    let below : id ≤ length p.driver.requests.waiting = held.below in
    let long : length p.driver.requests.waiting ≡ length (plan_of p).jobs = t.sound.waiting in
    let size : length named ≡ length (plan_of p).jobs = h.long in
    let inside : id - 1 < length named = omega (arith, above, below, long, size) in
    record {
      long = length-set named (id - 1) v ∙ h.long;
      waiting = λ other waits.
          elim (eqb_tells (other - 1) (id - 1)) [
            | inl e ↦ absurd (false≢true (sym held.waits ∙ ap (λ n. slice_index_or p.driver.requests.waiting n false) (sym e.1) ∙ waits))
            | inr e ↦ get_or-set_other named (id - 1) (other - 1) v 0 e.1 ∙ h.waiting other waits
          ];
      issued = λ tag other is_other.
          elim (eqb_tells other id) [
            | inl e ↦
                let one : names (stop_of (stopped_path p r g c s)) other ≡ 1 =
                ap (λ x. names x other) now ∙ ap (λ n. cond (id == n) 1 0) e.1 ∙ ap (λ b. cond b 1 0) (eq-eqb id id refl) in
                let sum : v ≡ min (faults_of p.driver.requests id + 1) 4 = omega (arith, before) in
                ap (λ n. slice_index_or (slice_set named (id - 1) v) (n - 1) 0) e.1
                ∙ get_or-set_same named (id - 1) v 0 inside ∙ sum
                ∙ ap (λ n. min (faults_of p.driver.requests n + 1) 4) (sym e.1)
                ∙ ap (λ n. min (faults_of p.driver.requests other + n) 4) (sym one)
            | inr e ↦
                let held_other = t.sound.held tag other is_other in
                let high : 1 ≤ other = held_other.above in
                let apart : other - 1 ≢ id - 1 = λ x. e.1 (omega (arith, x, high, above)) in
                let none : names (stop_of (stopped_path p r g c s)) other ≡ 0 =
                ap (λ x. names x other) now ∙ ap (λ b. cond b 1 0) (ne_eqb id other (λ x. e.1 (sym x))) in
                get_or-set_other named (id - 1) (other - 1) v 0 apart ∙ h.issued tag other is_other
                ∙ ap (λ x. min (faults_of p.driver.requests other + names x other) 4) was
                ∙ ap (λ n. min (faults_of p.driver.requests other + n) 4) (sym none)
          ];
    }

pub flash_named : (p : PathState) (r : Registers) (g : Holding) (c : CardState) (s : Script) (named : List ℕ) (id : ℕ) → AreNamed p named
    → stop_of p ≡ stop.Running → stop_of (stopped_path p r g c s) ≡ stop.Flash id → AreNamed (stopped_path p r g c s) named
flash_named p r g c s named id h was now = record {
  long = h.long;
  waiting = h.waiting;
  issued = λ tag other is_other.
      h.issued tag other is_other
      ∙ ap (λ x. min (faults_of p.driver.requests other + names x other) 4) was
      ∙ ap (λ x. min (faults_of p.driver.requests other + names x other) 4) (sym now);
}

-- ---- the marks of a data phase

pub marks_by : (p : PathState) (o : OrderState) (k : Context) (j : Job) (count : ℕ) → j ≢ Barrier → marks_of (state_of p o k) j count ≡ puts_by p count j
unfolding state_of
marks_by p o k (Read sector blocks high) count apart = refl
marks_by p o k (Write sector blocks fill forced reliable high) count apart = refl
marks_by p o k Flush count apart = refl
marks_by p o k Barrier count apart = absurd (apart refl)
marks_by p o k Status count apart = refl

no_puts : (blocks : List Block) (sector : ℕ) (fill : Fill) (reliable : Bool) → puts_of blocks sector fill reliable 0 ≡ []
unfolding puts_of
no_puts blocks sector fill reliable = refl

pub puts_within : (base blocks : List Block) (sector : ℕ) (fill : Fill) (reliable : Bool) (count : ℕ) → sector + count ≤ length base
    → All (IsWithin base) (puts_of blocks sector fill reliable count)
puts_within base blocks sector fill reliable zero fits =
    subst (λ (ms : List Mark). All (IsWithin base) ms) (sym (no_puts blocks sector fill reliable)) (All-nil (IsWithin base))
puts_within base blocks sector fill reliable (suc count) fits =
    let less : sector + count ≤ length base = omega (arith, fits) in
    let last : sector + count < length base = omega (arith, fits) in
    let more : suc count ≡ count + 1 = omega arith in
    subst (λ (ms : List Mark). All (IsWithin base) ms) (sym (ap (puts_of blocks sector fill reliable) more ∙ puts_more blocks sector fill reliable count))
    (All-append (IsWithin base) (puts_of blocks sector fill reliable count) _ (puts_within base blocks sector fill reliable count less)
    (All-cons (IsWithin base) _ [] last (All-nil (IsWithin base))))

-- ---- the data of the phase under way, as the machine asks for them

-- the request lies in the contents
pub in_contents : (p : PathState) (a : ArrayState) (slot : ℕ) (i : InPhase p slot) (k : Context) → Agrees p a k
    → sector_of (job p i.id) + blocks_of (job p i.id) ≤ length k.base
in_contents p a slot i k h =
    let inside : IsInImage p slot i.id = of_some (holder p slot) i.id (IsInImage p slot) i.is_held (runs_of p h.tied i.calm i.going slot i.below).inside in
    subst (λ n. sector_of (job p i.id) + blocks_of (job p i.id) ≤ n) (ap (λ o. unwrap_or o 0) h.store.sectors) (inside (inr i.active))

pub base_is : (p : PathState) (o : OrderState) (k : Context) → (state_of p o k).base ≡ k.base
unfolding state_of
base_is p o k = refl

pub pend_is : (p : PathState) (o : OrderState) (k : Context) → (state_of p o k).pend ≡ k.pend
unfolding state_of
pend_is p o k = refl

pub jobs_are : (p : PathState) (o : OrderState) (k : Context) (id : ℕ) → job_of (state_of p o k).plan.jobs id ≡ job p id
unfolding state_of
jobs_are p o k id = refl

pub number_is : (p : PathState) (o : OrderState) (k : Context) → p.script.sent ≡ sent_of (is_busy p) k.n → is_busy p ≡ true
    → p.script.sent ≡ next_number (state_of p o k)
unfolding state_of
number_is p o k number busy = number ∙ ap (λ b. sent_of b k.n) busy

few_most : (kind : Option BusKind) (blocks count : ℕ) → IsBeforeFault kind count → count ≤ blocks → count ≤ most_blocks kind blocks
few_most None blocks count before few = few
few_most (Some Lost) blocks count before few = few
few_most (Some NoResp) blocks count before few = few
few_most (Some Late) blocks count before few = few
few_most (Some (Bad n)) blocks count before few = omega (arith, before, few)

may_move_data : (l : Layout) (slot : ℕ) (j : Job) (int : Bool) (task : DataTask) (most count : ℕ) → DataJob l slot j int task → count ≤ most
    → may_move j most count ≡ true
may_move_data l slot j int task most count (reads sector blocks high is e) few = ap (λ x. may_move x most count) is ∙ le-leb count most few
may_move_data l slot j int task most count (writes sector blocks fill forced reliable high is e) few = ap (λ x. may_move x most count) is ∙ le-leb count most few

pub unkept_data : (l : Layout) (slot : ℕ) (j : Job) (int : Bool) (task : DataTask) (through : Bool) (count : ℕ) → DataJob l slot j int task
    → may_keep through j count false ≡ true
unkept_data l slot j int task through count (reads sector blocks high is e) = ap (λ x. may_keep through x count false) is
unkept_data l slot j int task through count (writes sector blocks fill forced reliable high is e) = ap (λ x. may_keep through x count false) is

pub no_barrier : (l : Layout) (slot : ℕ) (j : Job) (int : Bool) (task : DataTask) → DataJob l slot j int task → j ≢ Barrier
no_barrier l slot j int task (reads sector blocks high is e) h = absurd (cc (sym is ∙ h))
no_barrier l slot j int task (writes sector blocks fill forced reliable high is e) h = absurd (cc (sym is ∙ h))

pub data_bars : (l : Layout) (slot : ℕ) (j : Job) (int : Bool) (task : DataTask) (bars : ℕ) → DataJob l slot j int task → bars_with bars j ≡ bars
data_bars l slot j int task bars (reads sector blocks high is e) = ap (bars_with bars) is
data_bars l slot j int task bars (writes sector blocks fill forced reliable high is e) = ap (bars_with bars) is

-- a phase that broke off may stand so
pub broken_moves : (p : PathState) (a : ArrayState) (o : OrderState) (k : Context) (slot : ℕ) (i : InPhase p slot)
    → DataJob (layout p) slot (job p i.id) (asks_notice (plan_of p) (job p i.id)) i.h.task → Agrees p a k → hit (state_of p o k) ≡ p.script.hit
    → IsBeforeFault p.script.hit i.h.moved → i.h.moved ≤ i.h.task.desc.blocks
    → Moves (state_of p o k) slot i.id i.h.moved false p.script.hit (job p i.id)
broken_moves p a o k slot i j h is before few =
    let int = asks_notice (plan_of p) (job p i.id) in
    let blocks : phase_blocks (job p i.id) ≡ i.h.task.desc.blocks = blocks_are (layout p) slot (job p i.id) int i.h.task j in
    let within : i.h.moved ≤ phase_blocks (job p i.id) = omega (arith, few, blocks) in
    let inside : sector_of (job p i.id) + blocks_of (job p i.id) ≤ length (state_of p o k).base =
    subst (λ (xs : List Block). sector_of (job p i.id) + blocks_of (job p i.id) ≤ length xs) (sym (base_is p o k)) (in_contents p a slot i k h) in
    record {
      job_is = jobs_are p o k i.id;
      is_id = ap (λ n. n == i.id) (id_is p o k slot i.id i.below i.is_held) ∙ eq-eqb i.id i.id refl;
      hit_is = is;
      few =
          may_move_data (layout p) slot (job p i.id) int i.h.task (most_blocks p.script.hit (phase_blocks (job p i.id))) i.h.moved j
          (few_most p.script.hit (phase_blocks (job p i.id)) i.h.moved before within);
      keeps = unkept_data (layout p) slot (job p i.id) int i.h.task (state_of p o k).plan.through i.h.moved j;
      inside = le-leb (sector_of (job p i.id) + blocks_of (job p i.id)) (length (state_of p o k).base) inside;
    }

-- ---- the contents after it

abbrev contents_with : List Block → List Mark → Contents
contents_with base pend = record { base = base; pend = pend }

-- the marks of the blocks that moved are told, and the contents are what they were
pub broken_contents : (p : PathState) (w x y z : ℕ) (g : Holding) (c : CardState) (s : Script) (o : OrderState) (k : Context) (slot : ℕ) (i : InPhase p slot)
    (n : ℕ) (named : List ℕ) → job p i.id ≢ Barrier
    → contents_of (stopped_path p (stop_regs p w x y z) g c s) (context_after (state_of p o k) k (job p i.id) i.h.moved false n named) ≡ contents_of p k
broken_contents p w x y z g c s o k slot i n named apart =
    let b : State = state_of p o k in
    let marks : marks_of b (job p i.id) i.h.moved ≡ marks_moved p = marks_by p o k (job p i.id) i.h.moved apart ∙ sym (marks_are p slot i) in
    ap (λ ms. contents_with b.base ms) (append-nil (b.pend ++ marks_of b (job p i.id) i.h.moved))
    ∙ ap (λ ms. contents_with b.base (b.pend ++ ms)) marks
    ∙ ap (λ xs. contents_with xs (b.pend ++ marks_moved p)) (base_is p o k)
    ∙ ap (λ ms. contents_with k.base (ms ++ marks_moved p)) (pend_is p o k)
