-- The tag that a request is issued with is free, and a direct request is alone.
use Rattle.std.proofs.Common.{◌≡◌, ◌∙◌, ◌<◌, ◌+◌, ◌-◌, ℕ, zero, suc, Bool, true, false, cond, List, [], ◌∷◌, Option, None, Some, Ok, Err, is_some, is_none, find, get_or, length, refl, ap, sym, arith, if◌then◌else◌}
use Rattle.std.proofs.lemmas.Bool.{false≢true}
use Rattle.std.specs.List.{list_any, range_with_len}
use Rattle.std.specs.Option.{ok_or}
use Rattle.storage_model.specs.Plan.{is_direct}
use Rattle.storage_model.specs.declared.plan.Job.{Job}
use Rattle.drv_jobs.proofs.NextLaws.{IsNext, due-is}
use Rattle.drv_jobs.proofs.SoundLaws.{due-below, due-fits}
use Rattle.drv_jobs.specs.Next.{IsFitting, due_of, free_tag, tag_for}
use Rattle.drv_jobs.specs.Sound.{IsSound}
use Rattle.drv_jobs.specs.Standings.{Standings, holder_of, is_any_issued, is_used, is_waiting, job_of}
use Rattle.drv_jobs.specs.declared.next.Due.{Due}
use Rattle.drv_jobs.specs.declared.next.Hold.TheVariants.{Behind, Full}
use Rattle.drv_jobs.specs.declared.next.TheConstants.{DIRECT_TAG}
use Rattle.drv_jobs.proofs.CountLaws.{lowest, lowest-waits}

none_is : (o : Option ℕ) → is_none o ≡ true → o ≡ None
none_is None e = refl
none_is (Some x) e = absurd (false≢true e)

unused_is : (o : Option ℕ) → is_some o ≡ false → o ≡ None
unused_is None e = refl
unused_is (Some x) e = absurd (false≢true (sym e))

found_if : (p : ℕ → Bool) (b : Bool) (y x : ℕ) (rest : Option ℕ) → p y ≡ b → (rest ≡ Some x → p x ≡ true) → cond b (Some y) rest ≡ Some x → p x ≡ true
found_if p true y x rest h more e = let same : y ≡ x = cc (e) in ap p (sym same) ∙ h
found_if p false y x rest h more e = more e

pub found_holds : (p : ℕ → Bool) (xs : List ℕ) (x : ℕ) → find p xs ≡ Some x → p x ≡ true
found_holds p [] x e = absurd (cc (e))
found_holds p (y ∷ xs) x e = found_if p (p y) y x (find p xs) refl (found_holds p xs x) e

none_any : (holders : List (Option ℕ)) → list_any is_some holders ≡ false → (tag : ℕ) → holder_of holders tag ≡ None
none_any [] e tag = refl
none_any (None ∷ holders) e zero = refl
none_any (None ∷ holders) e (suc tag) = none_any holders e tag
none_any (Some id ∷ holders) e tag = absurd (false≢true (sym e))

-- the tag that there is for a job
pub data TagIs (s : Standings) (tag : ℕ) : Type 0 where
  alone : tag ≡ 31 → ((other : ℕ) → holder_of s.holders other ≡ None) → TagIs s tag
  free : tag < 31 → holder_of s.holders tag ≡ None → holder_of s.holders 31 ≡ None → TagIs s tag

tag_by : (s : Standings) (direct any used : Bool) (found : Option ℕ) (tag : ℕ) → is_any_issued s.holders ≡ any → is_used s.holders 31 ≡ used
    → (found ≡ Some tag → (tag < 31) × (holder_of s.holders tag ≡ None))
    → (if direct then (if any then Err Behind else Ok DIRECT_TAG) else if used then Err Behind else ok_or found Full) ≡ Ok tag → TagIs s tag
tag_by s true true used found tag a u f e = absurd (cc (e))
tag_by s true false used found tag a u f e = let same : 31 ≡ tag = cc (e) in alone (sym same) (none_any s.holders a)
tag_by s false any true found tag a u f e = absurd (cc (e))
tag_by s false any false None tag a u f e = absurd (cc (e))
tag_by s false any false (Some other) tag a u f e =
    let same : other ≡ tag = cc (e) in
    let is = f (ap Some same) in
    free is.0 is.1 (unused_is (holder_of s.holders 31) u)

found_within : (b : Bool) (a n tag : ℕ) (rest : Option ℕ) → (rest ≡ Some tag → tag < a + 1 + n) → cond b (Some a) rest ≡ Some tag → tag < a + suc n
found_within true a n tag rest below e = let same : a ≡ tag = cc (e) in omega (arith, same)
found_within false a n tag rest below e = let low = below e in omega (arith, low)

found_below : (p : ℕ → Bool) (a n tag : ℕ) → find p (range_with_len a n) ≡ Some tag → tag < a + n
found_below p a zero tag e = absurd (cc (e))
found_below p a (suc n) tag e = found_within (p a) a n tag (find p (range_with_len (a + 1) n)) (λ h. found_below p (a + 1) n tag h) e

free_is : (s : Standings) (tag : ℕ) → IsSound s → free_tag s ≡ Some tag → (tag < 31) × (holder_of s.holders tag ≡ None)
free_is s tag sound e =
    let low = found_below (λ tag. is_none (holder_of s.holders tag)) 0 s.plan.depth tag e in
    let most = sound.plan.depth.1 in
    (omega (arith, low, most), none_is (holder_of s.holders tag) (found_holds (λ tag. is_none (holder_of s.holders tag)) (range_with_len 0 s.plan.depth) tag e))

tag_of_job : (s : Standings) (job : Job) (tag : ℕ) → IsSound s → tag_for s job ≡ Ok tag → TagIs s tag
tag_of_job s job tag sound e =
    tag_by s (is_direct job) (is_any_issued s.holders) (is_used s.holders 31) (free_tag s) tag refl refl (free_is s tag sound) e

-- what is so of a request that is issued
pub record IsIssuable (s : Standings) (due : Due) : Type 0 where
  pub next : IsNext s due
  pub fits : IsFitting s.plan due
  pub low : due.tag < 32
  pub tag : TagIs s due.tag
  pub free : holder_of s.holders due.tag ≡ None
  pub waits : is_waiting s.waiting due.id ≡ true
  pub inside : due.id - 1 < length s.waiting

free_of : (s : Standings) (tag : ℕ) → TagIs s tag → holder_of s.holders tag ≡ None
free_of s tag (alone e none) = none tag
free_of s tag (free low e none) = e

pub issuable : (s : Standings) (due : Due) → IsSound s → due_of s ≡ Ok due → IsIssuable s due
issuable s due sound e =
    let next = due-is s due e in
    let tag = tag_of_job s (job_of s.plan due.id) due.tag sound next.tag in
    let id = next.id in
    let inside = next.waits in
    let place : lowest s.waiting ≡ due.id - 1 = omega (arith, id) in
    record {
      next = next;
      fits = due-fits s due sound next;
      low = due-below s due sound next;
      tag = tag;
      free = free_of s due.tag tag;
      waits = ap (λ n. get_or s.waiting n false) (sym place) ∙ lowest-waits s.waiting inside;
      inside = omega (arith, place, inside);
    }
