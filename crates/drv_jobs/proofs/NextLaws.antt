-- Which request is next, by the lowest waiting one and the used tags.
use Rattle.std.proofs.Common.{◌≡◌, ℕ, zero, suc, ◌+◌, ◌-◌, ◌<◌, ◌≤◌, Bool, true, false, length, refl, sym, ap, ◌∙◌, arith}
use Rattle.std.specs.Prelude.{cond, not, Option, None, Some, Result, Ok, Err, is_some, is_none, nat_lt, slice_index_or, if◌then◌else◌}
use Rattle.std.specs.List.{find, range_with_len}
use Rattle.std.specs.Option.{ok_or}
use Rattle.std.proofs.lemmas.Bool.{ltb-true}
use Rattle.std.proofs.lemmas.List.{get_or_default}
use Rattle.storage_model.specs.declared.plan.Job.{Job}
use Rattle.storage_model.specs.declared.plan.Job.TheVariants.{Flush}
use Rattle.storage_model.specs.declared.plan.Plan.{Plan}
use Rattle.drv_tags.specs.Tags.{TagSet, lowest_free, is_used as is_taken}
use Rattle.drv_jobs.specs.declared.next.Due.{Due}
use Rattle.drv_jobs.specs.declared.next.Hold.{Hold}
use Rattle.drv_jobs.specs.declared.next.Hold.TheVariants.{Done, Behind, Full}
use Rattle.drv_jobs.specs.declared.next.TheConstants.{DIRECT_TAG}
use Rattle.storage_model.specs.Plan.{is_direct}
use Rattle.drv_jobs.specs.Standings.{Standings, holder_of, is_any_issued, is_used, job_of}
use Rattle.drv_jobs.specs.Next.{due_of, due_at, free_tag, tag_for, with_tag}
use Rattle.drv_jobs.specs.Sound.{AreTied}
use Rattle.drv_jobs.proofs.CountLaws.{lowest}

-- tests that agree on the numbers find the same one
find-same : (p q : ℕ → Bool) (a n : ℕ) → ((k : ℕ) → a ≤ k → k < a + n → p k ≡ q k) → find p (range_with_len a n) ≡ find q (range_with_len a n)
find-same p q a zero same = refl
find-same p q a (suc n) same =
    let first : p a ≡ q a = same a (omega arith) (omega arith) in
    let rest = find-same p q (a + 1) n (λ k l h. same k (omega (arith, l)) (omega (arith, h))) in
    rw (first, rest) refl

none_is_not_some : (holder : Option ℕ) (used : Bool) → used ≡ is_some holder → not used ≡ is_none holder
none_is_not_some None used e = ap not e
none_is_not_some (Some id) used e = ap not e

-- the lowest free tag
pub free_tag-is : (s : Standings) (tags : TagSet) → tags.depth ≡ s.plan.depth → s.plan.depth ≤ 31 → AreTied tags s.holders
    → lowest_free tags ≡ free_tag s
free_tag-is s tags depth most tied =
    rw depth
    (find-same (λ tag. not (is_taken tags tag)) (λ tag. is_none (holder_of s.holders tag)) 0 s.plan.depth
    (λ k l h. none_is_not_some (holder_of s.holders k) (is_taken tags k) (tied k (omega (arith, h, most)))))

due_none : (s : Standings) (b : Bool) (place : ℕ) → b ≡ false → due_at s (cond b (Some place) None) ≡ Err Done
due_none s b place e = rw e refl

due_some : (s : Standings) (b : Bool) (place : ℕ) → b ≡ true
    → due_at s (cond b (Some place) None) ≡ with_tag (place + 1) (tag_for s (job_of s.plan (place + 1)))
due_some s b place e = rw e refl

-- where none waits, none is due
pub due-done : (s : Standings) → lowest s.waiting ≡ length s.waiting → due_of s ≡ Err Done
unfolding due_of
due-done s end = due_none s (nat_lt (lowest s.waiting) (length s.waiting)) (lowest s.waiting) (grind (arith, end))

-- else the lowest waiting one, if there is a tag for it
pub due-waits : (s : Standings) → lowest s.waiting < length s.waiting
    → due_of s ≡ with_tag (lowest s.waiting + 1) (tag_for s (job_of s.plan (lowest s.waiting + 1)))
unfolding due_of
due-waits s low = due_some s (nat_lt (lowest s.waiting) (length s.waiting)) (lowest s.waiting) (grind (arith, low))

-- what is known of a request that is due
pub record IsNext (s : Standings) (due : Due) : Type 0 where
  pub waits : lowest s.waiting < length s.waiting
  pub id : due.id ≡ lowest s.waiting + 1
  pub tag : tag_for s (job_of s.plan due.id) ≡ Ok due.tag

with_tag-is : (id : ℕ) (tag : Result ℕ Hold) (due : Due) → with_tag id tag ≡ Ok due → (due.id ≡ id) × (tag ≡ Ok due.tag)
with_tag-is id (Ok tag) due e =
    let same : record { id = id; tag = tag } ≡ due = cc (e) in
    (sym (ap (λ (d : Due). d.id) same), ap Ok (ap (λ (d : Due). d.tag) same))
with_tag-is id (Err hold) due e = absurd (cc (e))

next_at : (s : Standings) (b : Bool) (due : Due) → nat_lt (lowest s.waiting) (length s.waiting) ≡ b
    → due_at s (cond b (Some (lowest s.waiting)) None) ≡ Ok due → IsNext s due
next_at s true due h e =
    let is = with_tag-is (lowest s.waiting + 1) (tag_for s (job_of s.plan (lowest s.waiting + 1))) due e in
    record {
      waits = ltb-true (lowest s.waiting) (length s.waiting) h;
      id = is.0;
      tag = ap (λ id. tag_for s (job_of s.plan id)) is.0 ∙ is.1;
    }
next_at s false due h e = absurd (cc (e))

pub due-is : (s : Standings) (due : Due) → due_of s ≡ Ok due → IsNext s due
unfolding due_of
due-is s due e = next_at s (nat_lt (lowest s.waiting) (length s.waiting)) due refl e

tag_at : (direct any busy : Bool) (free : Option ℕ) (tag : ℕ)
    → (if direct then (if any then Err Behind else Ok DIRECT_TAG) else if busy then Err Behind else ok_or free Full) ≡ Ok tag
    → tag < DIRECT_TAG → free ≡ Some tag
tag_at true true busy free tag e low = absurd (cc (e))
tag_at true false busy free tag e low = let same : 31 ≡ tag = cc (e) in absurd (omega (arith, same, low))
tag_at false any true free tag e low = absurd (cc (e))
tag_at false any false (Some other) tag e low = let same : other ≡ tag = cc (e) in ap Some same
tag_at false any false None tag e low = absurd (cc (e))

-- a tag below the last is the lowest free one
pub tag-free : (s : Standings) (id tag : ℕ) → tag_for s (job_of s.plan id) ≡ Ok tag → tag < DIRECT_TAG → free_tag s ≡ Some tag
tag-free s id tag e low =
    tag_at (is_direct (job_of s.plan id)) (is_any_issued s.holders) (is_used s.holders DIRECT_TAG) (free_tag s) tag e low

found_below : (b : Bool) (a n tag : ℕ) (rest : Option ℕ) → (rest ≡ Some tag → tag < a + 1 + n) → cond b (Some a) rest ≡ Some tag
    → tag < a + suc n
found_below true a n tag rest below e = let same : a ≡ tag = cc (e) in omega (arith, same)
found_below false a n tag rest below e = let low = below e in omega (arith, low)

find-below : (p : ℕ → Bool) (a n tag : ℕ) → find p (range_with_len a n) ≡ Some tag → tag < a + n
find-below p a zero tag e = absurd (cc (e))
find-below p a (suc n) tag e = found_below (p a) a n tag (find p (range_with_len (a + 1) n)) (λ h. find-below p (a + 1) n tag h) e

tag_within : (direct any busy : Bool) (free : Option ℕ) (depth tag : ℕ) → ((t : ℕ) → free ≡ Some t → t < depth)
    → (if direct then (if any then Err Behind else Ok DIRECT_TAG) else if busy then Err Behind else ok_or free Full) ≡ Ok tag
    → cond direct (tag ≡ DIRECT_TAG) (tag < depth)
tag_within true true busy free depth tag below e = absurd (cc (e))
tag_within true false busy free depth tag below e = let same : 31 ≡ tag = cc (e) in sym same
tag_within false any true free depth tag below e = absurd (cc (e))
tag_within false any false (Some other) depth tag below e = let same : other ≡ tag = cc (e) in below tag (ap Some same)
tag_within false any false None depth tag below e = absurd (cc (e))

-- a direct request has the last tag, and any other a tag below the depth
pub tag-within : (s : Standings) (id tag : ℕ) → tag_for s (job_of s.plan id) ≡ Ok tag
    → cond (is_direct (job_of s.plan id)) (tag ≡ DIRECT_TAG) (tag < s.plan.depth)
tag-within s id tag e =
    tag_within (is_direct (job_of s.plan id)) (is_any_issued s.holders) (is_used s.holders DIRECT_TAG) (free_tag s) s.plan.depth tag
    (λ t f. let low = find-below (λ tag. is_none (holder_of s.holders tag)) 0 s.plan.depth t f in omega (arith, low)) e

-- a read or write that no direct request holds up
pub tag-other : (s : Standings) (job : Job) (free : Option ℕ) → is_direct job ≡ false → is_used s.holders DIRECT_TAG ≡ false
    → free ≡ free_tag s → ok_or free Full ≡ tag_for s job
tag-other s job free other alone is = rw (other, alone, is) refl

-- the job at a place of the plan
pub job-is : (plan : Plan) (place id : ℕ) (job : Job) → place < length plan.jobs → id ≡ place + 1 → job ≡ slice_index_or plan.jobs place job
    → job_of plan id ≡ job
job-is plan place id job low is e =
    let at : id - 1 ≡ place = omega (arith, is) in
    rw at (get_or_default plan.jobs place Flush job low ∙ sym e)

-- the lowest waiting request, with its tag
pub due-ready : (s : Standings) (job : Job) (first tag : ℕ) → first ≡ lowest s.waiting → first < length s.waiting → job_of s.plan (first + 1) ≡ job
    → tag_for s job ≡ Ok tag → due_of s ≡ Ok (record { id = first + 1; tag = tag })
due-ready s job first tag at low is e =
    due-waits s (omega (arith, at, low)) ∙ rw (← at, is, e) refl

pub due-held : (s : Standings) (job : Job) (first : ℕ) (hold : Hold) → first ≡ lowest s.waiting → first < length s.waiting
    → job_of s.plan (first + 1) ≡ job → tag_for s job ≡ Err hold → due_of s ≡ Err hold
due-held s job first hold at low is e =
    due-waits s (omega (arith, at, low)) ∙ rw (← at, is, e) refl
