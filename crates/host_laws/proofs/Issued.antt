-- The ties after a request is issued.
use Rattle.std.proofs.Common.{◌≡◌, ◌∙◌, ◌<◌, ◌-◌, ◌^◌, ◌==◌, ◌++◌, ℕ, zero, suc, Bool, true, false, cond, not, List, [], ◌∷◌, Option, None, Some, MatchOption, get_or, find, slice_set, refl, ap, sym, subst, arith, get_or-set_other, get_or-set_same, eqb-true}
use Rattle.std.proofs.lemmas.Bool.{eqb-false, false≢true}
use Rattle.storage_model.specs.declared.block.Block.{Block}
use Rattle.storage_model.specs.declared.plan.Job.{Job}
use Rattle.storage_model.specs.declared.plan.Job.TheVariants.{Read, Write, Flush, Barrier, Status}
use Rattle.host_mem.specs.Memory.{Memory}
use Rattle.cq_regs.specs.Effects.{belled}
use Rattle.cq_regs.specs.Slots.{has_bit, is_rung, newly_rung, progress_of, rung}
use Rattle.cq_regs.specs.State.{Registers}
use Rattle.cq_regs.specs.declared.slots.Progress.{Progress}
use Rattle.cq_regs.specs.declared.slots.Progress.TheVariants.{Idle, Rung}
use Rattle.cq_regs.specs.declared.slots.Ringed.{Ringed}
use Rattle.cq_schedule.specs.Held.{same}
use Rattle.cq_schedule.specs.Order.{first_at, order_of}
use Rattle.drv_core.specs.Event.{IsWritten}
use Rattle.drv_core.specs.SetUp.{configuration_word}
use Rattle.drv_core.specs.State.{asks_notice, is_recovering}
use Rattle.drv_jobs.specs.Changes.{faults_of, issued}
use Rattle.drv_jobs.specs.Sound.{IsSound}
use Rattle.drv_jobs.specs.Standings.{Standings, holder_of}
use Rattle.drv_jobs.specs.declared.next.Due.{Due}
use Rattle.drv_jobs.specs.declared.requests.TheConstants.{MOST_FAULTS}
use Rattle.drv_recover.specs.declared.recovery.RecoveryState.TheVariants as driver
use Rattle.drv_ring.specs.Asks.{HasBlocks, HoldsData}
use Rattle.drv_ring.specs.Changes.{KeepsTag}
use Rattle.drv_ring.specs.Layout.{IsTagOf}
use Rattle.drv_ring.specs.declared.places.Layout.{Layout}
use Rattle.host_laws.proofs.Dues.{IsIssuable}
use Rattle.host_laws.proofs.Paths.{path_at}
use Rattle.host_laws.proofs.Rings.{find_one, order_one, progress_one, rung_one}
use Rattle.world_state.specs.Path.{PathState, holder, job, layout, plan_of}
use Rattle.world_state.specs.Reading.{is_done}
use Rattle.world_state.specs.Ties.{AreBorne, AreTied, IsIssued, IsVacant, TagIsTied}

-- the path after it
abbrev pub issued_at : PathState → Due → Memory → PathState
issued_at p due memory =
    path_at (issued p.driver.requests due) driver.Calm (record p.regs { ring = p.regs.ring ++ newly_rung due.tag ∷ [] }) memory p.engine p.card p.script

-- what is so of the tag before
pub record IsFree (p : PathState) (due : Due) : Type 0 where
  pub idle : progress_of p.regs.ring due.tag ≡ Idle
  pub silent : is_done p due.tag ≡ false

free_by : (p : PathState) (due : Due) (found : Option ℕ) → found ≡ None → MatchOption found (IsVacant p due.tag) (IsIssued p due.tag) → IsFree p due
free_by p due None e v = record { idle = v.idle; silent = v.silent }
free_by p due (Some id) e v = absurd (cc (e))

pub free_tag_is : (p : PathState) (due : Due) → AreTied p → p.driver.recovery ≡ driver.Calm → IsIssuable p.driver.requests due → IsFree p due
free_tag_is p due t calm x = free_by p due (holder p due.tag) x.free (t.tags (ap is_recovering calm) due.tag x.low)

-- how far each slot is then: a test that doesn't tell an idle slot from a rung one sees no difference
seen_if : (b : Bool) (f : Progress → Bool) (p : Progress) → f Idle ≡ f Rung → (b ≡ true → p ≡ Idle) → f (cond b Rung p) ≡ f p
seen_if true f p e idle = sym e ∙ ap f (sym (idle refl))
seen_if false f p e idle = refl

at_tag : (ring : List Ringed) (tag k : ℕ) → progress_of ring tag ≡ Idle → (k == tag) ≡ true → progress_of ring k ≡ Idle
at_tag ring tag k idle e = ap (progress_of ring) (eqb-true k tag e) ∙ idle

-- the ring after it
pub record IsRungMore (ring : List Ringed) (tag : ℕ) (ring' : List Ringed) : Type 0 where
  pub each : (k : ℕ) → progress_of ring' k ≡ cond (k == tag) Rung (progress_of ring k)
  pub idle : progress_of ring tag ≡ Idle
  pub order : order_of ring' ≡ order_of ring ++ tag ∷ []

pub rung_more : (p : PathState) (due : Due) → AreTied p → IsFree p due → due.tag < 32 → IsRungMore p.regs.ring due.tag (p.regs.ring ++ newly_rung due.tag ∷ [])
rung_more p due t f low =
    let idle = ap is_rung f.idle in
    record {
      each = λ k. progress_one p.regs.ring due.tag k low idle t.regs.ring;
      idle = f.idle;
      order = order_one p.regs.ring due.tag low idle t.regs.ring;
    }

pub seen_alike : (ring ring' : List Ringed) (tag : ℕ) → IsRungMore ring tag ring' → (f : Progress → Bool) → f Idle ≡ f Rung → (k : ℕ)
    → f (progress_of ring' k) ≡ f (progress_of ring k)
seen_alike ring ring' tag r f e k =
    ap f (r.each k) ∙ seen_if (k == tag) f (progress_of ring k) e (λ h. at_tag ring tag k r.idle h)

pub other_slot : (ring ring' : List Ringed) (tag : ℕ) → IsRungMore ring tag ring' → (k : ℕ) → (k == tag) ≡ false → progress_of ring' k ≡ progress_of ring k
other_slot ring ring' tag r k e = r.each k ∙ ap (λ b. cond b Rung (progress_of ring k)) e

pub that_slot : (ring ring' : List Ringed) (tag : ℕ) → IsRungMore ring tag ring' → (k : ℕ) → (k == tag) ≡ true → progress_of ring' k ≡ Rung
that_slot ring ring' tag r k e = r.each k ∙ ap (λ b. cond b Rung (progress_of ring k)) e

pub first_same : (ring ring' : List Ringed) (tag : ℕ) → IsRungMore ring tag ring' → (goal : Progress) → same Idle goal ≡ same Rung goal → same Idle goal ≡ false
    → first_at goal ring' ≡ first_at goal ring
first_same ring ring' tag r goal e none =
    ap (λ xs. find (λ k. same (progress_of ring' k) goal) xs) r.order
    ∙ find_one (λ k. same (progress_of ring' k) goal) (λ k. same (progress_of ring k) goal) (order_of ring) tag
    (λ k. seen_alike ring ring' tag r (λ p. same p goal) e k) (ap (λ p. same p goal) r.idle ∙ none)

-- the doorbell's write
bell_if : (b : Bool) (regs : Registers) (word : ℕ) → b ≡ true → cond b (record regs { ring = rung regs.ring word }) regs ≡ record regs { ring = rung regs.ring word }
bell_if true regs word e = refl
bell_if false regs word e = absurd (false≢true e)

enabled_by : (wide : Bool) → has_bit (configuration_word wide) 0 ≡ true
enabled_by true = refl
enabled_by false = refl

pub belled_is : (p : PathState) (tag : ℕ) → AreTied p → tag < 32 → progress_of p.regs.ring tag ≡ Idle
    → belled p.regs (2 ^ tag) ≡ record p.regs { ring = p.regs.ring ++ newly_rung tag ∷ [] }
belled_is p tag t low idle =
    let on : has_bit p.regs.configuration 0 ≡ true =
    ap (λ (r : Registers). has_bit r.configuration 0) t.regs.same ∙ enabled_by (plan_of p).wide in
    bell_if (has_bit p.regs.configuration 0) p.regs (2 ^ tag) on
    ∙ ap (λ ring. record p.regs { ring = ring }) (rung_one p.regs.ring tag low (ap is_rung idle))

-- the requests after it
issued_holder : (s : Standings) (due : Due) (k : ℕ) → (k == due.tag) ≡ false → holder_of (slice_set s.holders due.tag (Some due.id)) k ≡ holder_of s.holders k
issued_holder s due k e = get_or-set_other s.holders due.tag k (Some due.id) None (eqb-false k due.tag e)

pub holder_other : (p : PathState) (due : Due) (memory : Memory) (k : ℕ) → (k == due.tag) ≡ false → holder (issued_at p due memory) k ≡ holder p k
holder_other p due memory k e = issued_holder p.driver.requests due k e

pub holder_that : (p : PathState) (due : Due) (memory : Memory) (k : ℕ) → IsSound p.driver.requests → due.tag < 32 → (k == due.tag) ≡ true
    → holder (issued_at p due memory) k ≡ Some due.id
holder_that p due memory k sound low e =
    ap (λ n. get_or (slice_set p.driver.requests.holders due.tag (Some due.id)) n None) (eqb-true k due.tag e)
    ∙ get_or-set_same p.driver.requests.holders due.tag (Some due.id) None (let long = sound.holders in omega (arith, low, long))

pub waits_if : (b : Bool) (waiting : List Bool) (place k : ℕ) → (k == place) ≡ b → get_or (slice_set waiting place false) k false ≡ true → get_or waiting k false ≡ true
waits_if true waiting place k e waits = absurd (false≢true (sym (unset waiting place k (eqb-true k place e)) ∙ waits))
  where
    cleared : (xs : List Bool) (place : ℕ) → get_or (slice_set xs place false) place false ≡ false
    cleared [] place = refl
    cleared (x ∷ xs) zero = refl
    cleared (x ∷ xs) (suc place) = cleared xs place

    unset : (waiting : List Bool) (place k : ℕ) → k ≡ place → get_or (slice_set waiting place false) k false ≡ false
    unset waiting place k e = ap (λ n. get_or (slice_set waiting place false) n false) e ∙ cleared waiting place
waits_if false waiting place k e waits = sym (get_or-set_other waiting place k false false (eqb-false k place e)) ∙ waits

borne_by : (p : PathState) (due : Due) (memory : Memory) (k id : ℕ) (b : Bool) → (k == due.tag) ≡ b → AreTied p → IsIssuable p.driver.requests due
    → holder (issued_at p due memory) k ≡ Some id → faults_of p.driver.requests id < MOST_FAULTS
borne_by p due memory k id true e t x h =
    let same : due.id ≡ id = cc (holder_that p due memory k t.sound x.low e, h) in
    subst (λ n. faults_of p.driver.requests n < MOST_FAULTS) same (t.borne.waiting due.id x.waits)
borne_by p due memory k id false e t x h = t.borne.issued k id (sym (holder_other p due memory k e) ∙ h)

pub borne_issued : (p : PathState) (due : Due) (memory : Memory) → AreTied p → IsIssuable p.driver.requests due → AreBorne (issued_at p due memory)
borne_issued p due memory t x = record {
  waiting = λ id waits. t.borne.waiting id (waits_if ((id - 1) == (due.id - 1)) p.driver.requests.waiting (due.id - 1) (id - 1) refl waits);
  issued = λ k id h. borne_by p due memory k id (k == due.tag) refl t x h;
}

-- a write's data stay
pub data_kept : (old new : Memory) (layout : Layout) (tag : ℕ) (j : Job) (listed : List Block) → KeepsTag layout tag old new → IsTagOf layout tag j → HasBlocks j
    → HoldsData old layout tag j listed → HoldsData new layout tag j listed
data_kept old new layout tag (Read sector blocks high) listed k fits some h = tt
data_kept old new layout tag (Write sector blocks fill forced reliable high) listed k fits some h =
    λ i low. k.data_held fits blocks i some.1 low ∙ h i low
data_kept old new layout tag Flush listed k fits some h = tt
data_kept old new layout tag Barrier listed k fits some h = tt
data_kept old new layout tag Status listed k fits some h = tt

-- the tags
other_tied : (p : PathState) (due : Due) (memory : Memory) (k : ℕ) (found : Option ℕ) → holder p k ≡ found → k < 32 → (k == due.tag) ≡ false
    → IsWritten (plan_of p) due p.memory memory → IsRungMore p.regs.ring due.tag (p.regs.ring ++ newly_rung due.tag ∷ [])
    → MatchOption found (IsVacant p k) (IsIssued p k) → MatchOption found (IsVacant (issued_at p due memory) k) (IsIssued (issued_at p due memory) k)
other_tied p due memory k None h low e w r v = record {
  idle = other_slot p.regs.ring (p.regs.ring ++ newly_rung due.tag ∷ []) due.tag r k e ∙ v.idle;
  silent = v.silent;
}
other_tied p due memory k (Some id) h low e w r i =
    let keeps = w.others k low (eqb-false k due.tag e) in
    record {
      asks = keeps.job (job p id) (asks_notice (plan_of p) (job p id)) i.asks;
      data_held = data_kept p.memory memory (layout p) k (job p id) (plan_of p).blocks keeps i.asks.tag_fits i.asks.blocks_fit i.data_held;
      rung = ap is_rung (other_slot p.regs.ring (p.regs.ring ++ newly_rung due.tag ∷ []) due.tag r k e) ∙ i.rung;
    }

that_tied : (p : PathState) (due : Due) (memory : Memory) → IsWritten (plan_of p) due p.memory memory → IsFree p due
    → IsRungMore p.regs.ring due.tag (p.regs.ring ++ newly_rung due.tag ∷ []) → IsIssued (issued_at p due memory) due.tag due.id
that_tied p due memory w f r = record {
  asks = w.asks;
  data_held = w.data_held;
  rung = ap is_rung (that_slot p.regs.ring (p.regs.ring ++ newly_rung due.tag ∷ []) due.tag r due.tag (eq_self due.tag)) ∙ sym (ap not f.silent);
}
  where
    eq_self : (n : ℕ) → (n == n) ≡ true
    eq_self n = grind (arith)

pub tag_by : (p : PathState) (due : Due) (memory : Memory) (k : ℕ) (b : Bool) → (k == due.tag) ≡ b → AreTied p → p.driver.recovery ≡ driver.Calm
    → IsIssuable p.driver.requests due → IsWritten (plan_of p) due p.memory memory → k < 32 → TagIsTied (issued_at p due memory) k
tag_by p due memory k true e t calm x w low =
    let f = free_tag_is p due t calm x in
    let r = rung_more p due t f x.low in
    let same = eqb-true k due.tag e in
    subst (λ n. MatchOption (holder (issued_at p due memory) k) (IsVacant (issued_at p due memory) n) (IsIssued (issued_at p due memory) n)) (sym same)
    (subst (λ h. MatchOption h (IsVacant (issued_at p due memory) due.tag) (IsIssued (issued_at p due memory) due.tag)) (sym (holder_that p due memory k t.sound x.low e))
    (that_tied p due memory w f r))
tag_by p due memory k false e t calm x w low =
    let f = free_tag_is p due t calm x in
    let r = rung_more p due t f x.low in
    subst (λ h. MatchOption h (IsVacant (issued_at p due memory) k) (IsIssued (issued_at p due memory) k)) (sym (holder_other p due memory k e))
    (other_tied p due memory k (holder p k) refl low e w r (t.tags (ap is_recovering calm) k low))
