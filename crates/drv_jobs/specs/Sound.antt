-- What is true of the requests at any time: each stands in one way only.
use Rattle.std.specs.Prelude.{◌≡◌, ℕ, ◌<◌, ◌≤◌, Bool, false, Some, List, Option, length, count_by}
use Rattle.std.specs.List.{position_or_len}
use Rattle.drv_tags.specs.Tags.{TagSet, is_used as is_taken}
use Rattle.storage_model.specs.Plan.{IsValidPlan}
use Rattle.drv_jobs.specs.declared.next.TheConstants.{DIRECT_TAG}
use Rattle.drv_jobs.specs.Standings.{Standings, holder_of, is_used, is_waiting}

-- a tag's request is one of the plan, does not wait, and has no other tag
pub record IsHeld (waiting : List Bool) (holders : List (Option ℕ)) (tag id : ℕ) : Type 0 where
  pub above : 1 ≤ id
  pub below : id ≤ length waiting
  pub waits : is_waiting waiting id ≡ false
  pub apart : (other : ℕ) → holder_of holders other ≡ Some id → other ≡ tag

abbrev pub AreHeld : List Bool → List (Option ℕ) → Type 0
AreHeld waiting holders = (tag id : ℕ) → holder_of holders tag ≡ Some id → IsHeld waiting holders tag id

-- the plan is valid, and there is one standing and one count of faults for each of its requests
pub record IsSound (s : Standings) : Type 0 where
  pub plan : IsValidPlan s.plan
  pub waiting : length s.waiting ≡ length s.plan.jobs
  pub faults : length s.faults ≡ length s.plan.jobs
  pub holders : length s.holders ≡ 32
  pub held : AreHeld s.waiting s.holders

-- the set of used tags below the last is that of the issued ones
abbrev pub AreTied : TagSet → List (Option ℕ) → Type 0
AreTied tags holders = (tag : ℕ) → tag < DIRECT_TAG → is_taken tags tag ≡ is_used holders tag

-- the lowest waiting request, and how many wait
pub record IsCounted (waiting : List Bool) (first count : ℕ) : Type 0 where
  pub lowest : first ≡ position_or_len (λ waits. waits) waiting
  pub number : count ≡ count_by (λ waits. waits) waiting

-- what the driver keeps beside the standings agrees with them
pub record Agrees (s : Standings) (tags : TagSet) (first count : ℕ) : Type 0 where
  pub sound : IsSound s
  pub depth : tags.depth ≡ s.plan.depth
  pub tied : AreTied tags s.holders
  pub counted : IsCounted s.waiting first count
