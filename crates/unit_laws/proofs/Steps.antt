-- What the machine does by units: where units are sectors, and where they are several.
use Rattle.std.proofs.Common.{◌≡◌, ◌∙◌, ℕ, ◌+◌, ◌&&◌, nat_le, nat_lt, Bool, true, false, not, inl, inr, filter, length, refl, sym, ap, arith}
use Rattle.std.proofs.lemmas.Bool.{and_from, cases_lt, eq-eqb, le-leb, le-ltb, lt-leb, lt-ltb}
use Rattle.storage_machine.specs.Jobs.{is_in_range, job_of, sector_of}
use Rattle.storage_machine.specs.declared.state.Owed.TheVariants.{Nothing}
use Rattle.storage_machine.specs.declared.state.State.{State}
use Rattle.storage_model.specs.Left.{mix_at}
use Rattle.storage_model.specs.Plan.{blocks_of}
use Rattle.storage_model.specs.Unit.{is_aligned}
use Rattle.storage_model.specs.declared.block.Block.{Block}
use Rattle.storage_model.specs.declared.form.Form.{Form}
use Rattle.storage_model.specs.declared.plan.Job.{Job}
use Rattle.trace_effects.specs.Cuts.{epochs_with, is_deferred, places_of}
use Rattle.trace_effects.specs.Effects.{addressed, after_address, over}
use Rattle.unit_laws.proofs.Ones.{mix_of_sector, mod-one}
use Rattle.unit_laws.specs.Laws.{IsStepOfSectors, StopsInOrder}
use Rattle.unit_laws.specs.Mixes.{part_mix}
use Rattle.unit_laws.specs.Steps.{address_taken, addressed_by, epochs_by_units, is_deferred_by, is_task_aligned, told_with}

-- addresses

sent : (s : State) (id : ℕ) (inside : Bool) → addressed_by s id inside true ≡ addressed s id inside
sent s id true = refl
sent s id false = refl

taken : (form : Form) (s : State) (n id : ℕ) → is_task_aligned form (job_of s.plan.jobs id) ≡ true → address_taken form s n id ≡ after_address s n id
unfolding address_taken after_address
taken form s n id aligned =
    let inside = is_in_range (job_of s.plan.jobs id) (length s.base) in
    ap (λ t. over t Nothing) (ap (addressed_by (record s { n = n }) id inside) aligned ∙ sent (record s { n = n }) id inside)

past : (form : Form) (s : State) (n id : ℕ) → is_in_range (job_of s.plan.jobs id) (length s.base) ≡ false → address_taken form s n id ≡ after_address s n id
unfolding address_taken after_address
past form s n id out = rw out refl

pub stops : (form : Form) (s : State) (n id : ℕ) → StopsInOrder form s n id
unfolding address_taken
stops form s n id = record {
  past = λ out. past form s n id out;
  aligned = λ aligned. taken form s n id aligned;
  other = λ inside unaligned. rw (inside, unaligned) refl;
}

aligned : (form : Form) → form.unit ≡ 1 → (n : ℕ) → is_aligned form.unit n ≡ true
aligned form one n = rw (one, mod-one n) refl

all_aligned : (form : Form) → form.unit ≡ 1 → (job : Job) → is_task_aligned form job ≡ true
all_aligned form one job =
    and_from (is_aligned form.unit (sector_of job)) (is_aligned form.unit (blocks_of job)) (aligned form one (sector_of job)) (aligned form one (blocks_of job))

-- what is judged after a cut

told : (s : State) (sector : ℕ) (value : Block) → told_with s sector value sector ≡ value
told s sector value = rw (eq-eqb sector sector refl) refl

epochs : (form : Form) → form.unit ≡ 1 → (s : State) (sector : ℕ) (value : Block) → epochs_by_units form s sector value ≡ epochs_with s sector value
unfolding epochs_by_units epochs_with
epochs form one s sector value =
    let each : (epoch : ℕ) → part_mix form s.base s.pend epoch sector (told_with s sector value) ≡ mix_at s.base s.pend epoch sector value
    = λ epoch. (mix_of_sector form one s.base s.pend epoch sector (told_with s sector value)).part ∙ ap (mix_at s.base s.pend epoch sector) (told s sector value) in
    λ i. filter (λ epoch. each epoch i) s.epochs

below : (m n : ℕ) → nat_le (m + 1) n ≡ nat_lt m n
below m n =
    elim (cases_lt m n) [
      | inl less ↦ le-leb (m + 1) n (omega arith) ∙ sym (lt-ltb m n less)
      | inr most ↦ lt-leb (m + 1) n (omega arith) ∙ sym (le-ltb m n most)
    ]

deferred : (form : Form) → form.unit ≡ 1 → (s : State) → is_deferred_by form s ≡ is_deferred s
deferred form one s =
    rw one (ap (λ room. not s.plan.through && (not s.staged && (not s.kept && (s.worked && room)))) (below (length (places_of s.pend)) s.plan.lines))

pub step_of_sectors : (form : Form) → form.unit ≡ 1 → (s : State) → IsStepOfSectors form s
step_of_sectors form one s = record {
  address = λ n id. taken form s n id (all_aligned form one (job_of s.plan.jobs id));
  epochs = λ sector value. epochs form one s sector value;
  deferred = deferred form one s;
}
