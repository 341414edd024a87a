-- A run's path before its first line is sound.
use Rattle.std.proofs.Common.{if◌then◌else◌, ◌≡◌, ◌∙◌, ℕ, zero, suc, ◌-◌, ◌<◌, get_or, length, replicate, refl, ap, sym, subst, arith}
use Rattle.bus_link.specs.Script.{at_start as script_at_start}
use Rattle.drv_core.specs.State.{DriverState, at_start}
use Rattle.drv_jobs.proofs.HolderLaws.{holder-none}
use Rattle.drv_jobs.proofs.SoundLaws.{Agrees-start}
use Rattle.drv_jobs.specs.Changes.{faults_of}
use Rattle.drv_jobs.specs.Sound.{IsSound}
use Rattle.drv_jobs.specs.Standings.{all_waiting, holder_of, is_waiting}
use Rattle.drv_jobs.specs.declared.requests.TheConstants.{MOST_FAULTS}
use Rattle.std.specs.Prelude.{true, Some}
use Rattle.storage_model.specs.declared.faults.Faults.{Faults}
use Rattle.storage_model.specs.declared.plan.Plan.{Plan}
use Rattle.end_laws.specs.Ends.{AreToCome, IsSoundFresh}
use Rattle.world_state.specs.Path.{PathState}
use Rattle.world_state.specs.Ties.{AreBorne, IsScript}

-- no fault named a request yet
pub zero_at : (n i : ℕ) → get_or {A = ℕ} (replicate n 0) i 0 ≡ 0
zero_at zero i = refl
zero_at (suc n) zero = refl
zero_at (suc n) (suc i) = zero_at n i

few_faults : (plan : Plan) (id : ℕ) → faults_of (all_waiting plan) id < MOST_FAULTS
few_faults plan id = let none : faults_of (all_waiting plan) id ≡ 0 = zero_at (length plan.jobs) (id - 1) in omega (arith, none)

borne_start : (p : PathState) (plan : Plan) → p.driver ≡ at_start plan → AreBorne p
borne_start p plan is = record {
  waiting = subst (λ (d : DriverState). (id : ℕ) → is_waiting d.requests.waiting id ≡ true → faults_of d.requests id < MOST_FAULTS) (sym is) (λ id waits. few_faults plan id);
  issued = subst (λ (d : DriverState). (tag id : ℕ) → holder_of d.requests.holders tag ≡ Some id → faults_of d.requests id < MOST_FAULTS) (sym is)
      (λ tag id at. absurd (cc (holder-none tag, at)));
}

script_start : (faults : Faults) → AreToCome faults → IsScript (script_at_start faults.bus faults.ready)
script_start faults come = record { rising = come.hits; small = come.small; words = omega arith; sent = omega arith }

pub is_sound_fresh : IsSoundFresh
is_sound_fresh plan faults w valid come f = record {
  sound = subst (λ (d : DriverState). IsSound d.requests) (sym f.driver) (Agrees-start plan valid).sound;
  layout_fits = f.layout_fits;
  depth = ap (λ c. c.depth) f.card ∙ sym (ap (λ d. d.requests.plan.depth) f.driver);
  lines = ap (λ c. c.lines) f.card ∙ sym (ap (λ d. if d.requests.plan.through then 1024 else d.requests.plan.lines) f.driver);
  through = ap (λ c. c.through) f.card ∙ sym (ap (λ d. d.requests.plan.through) f.driver);
  room = ap (λ cache. cache.room) f.cache ∙ sym (ap (λ c. c.lines) f.card);
  script = subst IsScript (sym f.script) (script_start faults come);
  borne = borne_start w.path plan f.driver;
}
