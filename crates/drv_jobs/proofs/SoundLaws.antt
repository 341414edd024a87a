-- Each change leaves each request standing in one way.
use Rattle.std.proofs.Common.{◌≡◌, ℕ, ◌+◌, ◌-◌, ◌<◌, ◌≤◌, Bool, true, false, List, [], ◌∷◌, length, refl, sym, ap, ◌∙◌, arith, subst}
use Rattle.std.specs.Prelude.{◌==◌, ◌++◌, take, drop, cond, Option, None, Some, slice_set, get_or, set, is_some, fold, replicate, IfSome}
use Rattle.std.proofs.lemmas.Nat.Bits.{bit_at-zero}
use Rattle.std.proofs.lemmas.List.{get_or-set_same, get_or-set_other, length-set, length-replicate}
use Rattle.std.proofs.lemmas.Bool.{eqb-true, eqb-false, false≢true}
use Rattle.storage_model.specs.declared.plan.Plan.{Plan}
use Rattle.storage_model.specs.Plan.{IsValidPlan, is_direct}
use Rattle.drv_tags.specs.Tags.{TagSet, none_used}
use Rattle.drv_jobs.specs.declared.next.Due.{Due}
use Rattle.drv_jobs.specs.declared.next.TheConstants.{DIRECT_TAG}
use Rattle.drv_jobs.specs.Standings.{Standings, all_waiting, holder_of, is_waiting, job_of, no_holders}
use Rattle.storage_model.specs.declared.plan.Job.{Job}
use Rattle.storage_model.specs.declared.plan.Job.TheVariants.{Read, Write, Flush, Barrier, Status}
use Rattle.drv_jobs.specs.Next.{IsFitting, IsTagFor}
use Rattle.drv_jobs.specs.Changes.{waits_again}
use Rattle.drv_jobs.specs.Sound.{Agrees, AreHeld, AreTied, IsCounted, IsHeld, IsSound}
use Rattle.drv_jobs.proofs.CountLaws.{lowest, lowest-all, lowest-waits, number-all}
use Rattle.drv_jobs.proofs.NextLaws.{IsNext, tag-within}
use Rattle.drv_jobs.proofs.HolderLaws.{AreFewer, holder-none, length-no_holders}

-- requests that keep their tags are held as they were
pub AreHeld-fewer : (waiting : List Bool) (old new : List (Option ℕ)) → AreHeld waiting old → AreFewer old new → AreHeld waiting new
AreHeld-fewer waiting old new held fewer tag id e =
    let was = held tag id (fewer tag id e) in
    record {
      above = was.above;
      below = was.below;
      waits = was.waits;
      apart = λ other h. was.apart other (fewer other id h);
    }

pub AreHeld-none : (waiting : List Bool) → AreHeld waiting no_holders
AreHeld-none waiting tag id e = absurd (cc (holder-none tag, e))

-- tags are freed
pub Agrees-freed : (s : Standings) (holders : List (Option ℕ)) (tags tags' : TagSet) (first count : ℕ) → Agrees s tags first count
    → length holders ≡ 32 → AreFewer s.holders holders → AreTied tags' holders → tags'.depth ≡ tags.depth
    → Agrees (record s { holders = holders }) tags' first count
Agrees-freed s holders tags tags' first count agrees size fewer tied depth = record {
  sound = record {
    plan = agrees.sound.plan;
    waiting = agrees.sound.waiting;
    faults = agrees.sound.faults;
    holders = size;
    held = AreHeld-fewer s.waiting s.holders holders agrees.sound.held fewer;
  };
  depth = depth ∙ agrees.depth;
  tied = tied;
  counted = agrees.counted;
}

other_waits : (b : Bool) (waiting : List Bool) (place id : ℕ) → ((id - 1) == place) ≡ b → place < length waiting → is_waiting waiting id ≡ false
    → is_waiting (slice_set waiting place false) id ≡ false
other_waits true waiting place id h low was =
    let same : id - 1 ≡ place = eqb-true (id - 1) place h in
    subst (λ n. get_or (set waiting place false) n false ≡ false) (sym same) (get_or-set_same waiting place false false low)
other_waits false waiting place id h low was =
    get_or-set_other waiting place (id - 1) false false (eqb-false (id - 1) place h) ∙ was

held_as : (b : Bool) (holders : List (Option ℕ)) (tag id other : ℕ) → (other == tag) ≡ b → tag < length holders → (found : ℕ)
    → holder_of (slice_set holders tag (Some id)) other ≡ Some found → cond b (found ≡ id) (holder_of holders other ≡ Some found)
held_as true holders tag id other h low found e =
    let same : other ≡ tag = eqb-true other tag h in
    let here : holder_of (slice_set holders tag (Some id)) other ≡ Some id =
    subst (λ n. holder_of (slice_set holders tag (Some id)) n ≡ Some id) (sym same) (get_or-set_same holders tag (Some id) None low) in
    cc (here, e)
held_as false holders tag id other h low found e = sym (get_or-set_other holders tag other (Some id) None (eqb-false other tag h)) ∙ e

-- a request that waited is not held
not_held : (waiting : List Bool) (holders : List (Option ℕ)) (place tag id : ℕ) → AreHeld waiting holders → get_or waiting place false ≡ true
    → id ≡ place + 1 → holder_of holders tag ≡ Some id → ⊥
not_held waiting holders place tag id held waits is e =
    let was = (held tag id e).waits in
    let same : id - 1 ≡ place = omega (arith, is) in
    let here : get_or waiting place false ≡ false = subst (λ n. get_or waiting n false ≡ false) same was in
    false≢true (sym here ∙ waits)

-- no other tag has the request that is issued
apart_at : (b : Bool) (waiting : List Bool) (holders : List (Option ℕ)) (place tag other : ℕ) → (other == tag) ≡ b → tag < length holders
    → AreHeld waiting holders → get_or waiting place false ≡ true
    → holder_of (slice_set holders tag (Some (place + 1))) other ≡ Some (place + 1) → other ≡ tag
apart_at true waiting holders place tag other h low held waits e = eqb-true other tag h
apart_at false waiting holders place tag other h low held waits e =
    absurd (not_held waiting holders place other (place + 1) held waits refl (held_as false holders tag (place + 1) other h low (place + 1) e))

-- a held request has no second tag
kept_apart : (b : Bool) (waiting : List Bool) (holders : List (Option ℕ)) (place tag other id second : ℕ) → (second == tag) ≡ b
    → tag < length holders → AreHeld waiting holders → get_or waiting place false ≡ true → holder_of holders other ≡ Some id
    → holder_of (slice_set holders tag (Some (place + 1))) second ≡ Some id → second ≡ other
kept_apart true waiting holders place tag other id second h low held waits was e =
    absurd (not_held waiting holders place other id held waits (held_as true holders tag (place + 1) second h low id e) was)
kept_apart false waiting holders place tag other id second h low held waits was e =
    (held other id was).apart second (held_as false holders tag (place + 1) second h low id e)

held_at : (b : Bool) (waiting : List Bool) (holders : List (Option ℕ)) (place tag other id : ℕ) → (other == tag) ≡ b → place < length waiting
    → tag < length holders → AreHeld waiting holders → get_or waiting place false ≡ true
    → holder_of (slice_set holders tag (Some (place + 1))) other ≡ Some id
    → IsHeld (slice_set waiting place false) (slice_set holders tag (Some (place + 1))) other id
held_at true waiting holders place tag other id h inside low held waits e =
    let is : id ≡ place + 1 = held_as true holders tag (place + 1) other h low id e in
    let same : other ≡ tag = eqb-true other tag h in
    let size = length-set waiting place false in
    let at : id - 1 ≡ place = omega (arith, is) in
    record {
      above = omega (arith, is);
      below = omega (arith, is, size, inside);
      waits = subst (λ n. get_or (set waiting place false) n false ≡ false) (sym at) (get_or-set_same waiting place false false inside);
      apart = λ second f. apart_at (second == tag) waiting holders place tag second refl low held waits
          (subst (λ n. holder_of (slice_set holders tag (Some (place + 1))) second ≡ Some n) is f) ∙ sym same;
    }
held_at false waiting holders place tag other id h inside low held waits e =
    let was : holder_of holders other ≡ Some id = held_as false holders tag (place + 1) other h low id e in
    let old = held other id was in
    let size = length-set waiting place false in
    record {
      above = old.above;
      below = omega (arith, old.below, size);
      waits = other_waits ((id - 1) == place) waiting place id refl inside old.waits;
      apart = λ second f. kept_apart (second == tag) waiting holders place tag other id second refl low held waits was f;
    }

-- the request at a place that waited is issued with a tag
pub AreHeld-issued : (waiting : List Bool) (holders : List (Option ℕ)) (place tag : ℕ) → place < length waiting → tag < length holders
    → AreHeld waiting holders → get_or waiting place false ≡ true
    → AreHeld (slice_set waiting place false) (slice_set holders tag (Some (place + 1)))
AreHeld-issued waiting holders place tag inside low held waits other id e =
    held_at (other == tag) waiting holders place tag other id refl inside low held waits e

-- giving back changes no request's place
pub length-given_back : (waiting : List Bool) (holders : List (Option ℕ)) → length (fold waits_again waiting holders) ≡ length waiting
length-given_back waiting [] = refl
length-given_back waiting (None ∷ holders) = length-given_back waiting holders
length-given_back waiting (Some id ∷ holders) =
    length-given_back (slice_set waiting (id - 1) true) holders ∙ length-set waiting (id - 1) true

-- a tag set of which none is used is that of no requests
pub AreTied-none : (depth : ℕ) → AreTied (none_used depth) no_holders
AreTied-none depth tag low = ap (λ n. n == 1) (bit_at-zero tag) ∙ sym (ap is_some (holder-none tag))

-- what is written over the whole of a vector is what it has then
front : (new rest : List Bool) → take (length new) (new ++ rest) ≡ new
front [] rest = refl
front (x ∷ new) rest = let more = front new rest in cc

pub written_whole : (new old : List Bool) (n : ℕ) → n ≡ length new → take n (new ++ drop (length new) old) ≡ new
written_whole new old n size = rw size (front new (drop (length new) old))

-- at the start all wait
pub Agrees-start : (plan : Plan) → IsValidPlan plan → Agrees (all_waiting plan) (none_used plan.depth) 0 (length plan.jobs)
Agrees-start plan valid = record {
  sound = record {
    plan = valid;
    waiting = length-replicate (length plan.jobs) true;
    faults = length-replicate (length plan.jobs) 0;
    holders = length-no_holders;
    held = AreHeld-none (replicate (length plan.jobs) true);
  };
  depth = refl;
  tied = AreTied-none plan.depth;
  counted = record { lowest = lowest-all (length plan.jobs); number = number-all (length plan.jobs) };
}

-- a request that is due, with a tag below 32, is issued
pub Agrees-issued : (s : Standings) (due : Due) (waiting : List Bool) (holders : List (Option ℕ)) (tags tags' : TagSet)
    (first count first' count' : ℕ) → Agrees s tags first count → IsNext s due → waiting ≡ slice_set s.waiting first false
    → holders ≡ slice_set s.holders due.tag (Some due.id) → due.tag < 32 → AreTied tags' holders → tags'.depth ≡ tags.depth
    → IsCounted waiting first' count' → Agrees (record s { waiting = waiting; holders = holders }) tags' first' count'
Agrees-issued s due waiting holders tags tags' first count first' count' agrees next waiting_is holders_is low tied depth counted =
    let at : first ≡ lowest s.waiting = agrees.counted.lowest in
    let inside : first < length s.waiting = omega (arith, at, next.waits) in
    let waits : get_or s.waiting first false ≡ true = subst (λ n. get_or s.waiting n false ≡ true) (sym at) (lowest-waits s.waiting next.waits) in
    let id : due.id ≡ first + 1 = omega (arith, at, next.id) in
    let size : length holders ≡ 32 = ap length holders_is ∙ length-set s.holders due.tag (Some due.id) ∙ agrees.sound.holders in
    let long : length waiting ≡ length s.plan.jobs = ap length waiting_is ∙ length-set s.waiting first false ∙ agrees.sound.waiting in
    let slots = agrees.sound.holders in
    let held : AreHeld (slice_set s.waiting first false) (slice_set s.holders due.tag (Some (first + 1))) =
    AreHeld-issued s.waiting s.holders first due.tag inside (omega (arith, low, slots)) agrees.sound.held waits in
    record {
      sound = record {
        plan = agrees.sound.plan;
        waiting = long;
        faults = agrees.sound.faults;
        holders = size;
        held = rw (waiting_is, holders_is, id) held;
      };
      depth = depth ∙ agrees.depth;
      tied = tied;
      counted = counted;
    }

-- all requests wait again
pub Agrees-given_back : (s : Standings) (waiting : List Bool) (holders : List (Option ℕ)) (tags tags' : TagSet) (first count first' count' : ℕ)
    → Agrees s tags first count → length waiting ≡ length s.waiting → holders ≡ no_holders → AreTied tags' holders
    → tags'.depth ≡ s.plan.depth → IsCounted waiting first' count' → Agrees (record s { waiting = waiting; holders = holders }) tags' first' count'
Agrees-given_back s waiting holders tags tags' first count first' count' agrees size is tied depth counted = record {
  sound = record {
    plan = agrees.sound.plan;
    waiting = size ∙ agrees.sound.waiting;
    faults = agrees.sound.faults;
    holders = ap length is ∙ length-no_holders;
    held = rw is (AreHeld-none waiting);
  };
  depth = depth;
  tied = tied;
  counted = counted;
}

tag_below : (direct : Bool) (tag depth : ℕ) → depth ≤ 31 → cond direct (tag ≡ DIRECT_TAG) (tag < depth) → tag < 32
tag_below true tag depth most is = omega (arith, is)
tag_below false tag depth most low = omega (arith, most, low)

-- a tag that is due is below 32
pub due-below : (s : Standings) (due : Due) → IsSound s → IsNext s due → due.tag < 32
due-below s due sound next =
    tag_below (is_direct (job_of s.plan due.id)) due.tag s.plan.depth sound.plan.depth.1 (tag-within s due.id due.tag next.tag)

tag_fits : (job : Job) (depth tag : ℕ) → cond (is_direct job) (tag ≡ DIRECT_TAG) (tag < depth) → IsTagFor depth tag job
tag_fits (Read sector blocks high) depth tag fits = fits
tag_fits (Write sector blocks fill forced reliable high) depth tag fits = fits
tag_fits Flush depth tag fits = fits
tag_fits Barrier depth tag fits = fits
tag_fits Status depth tag fits = fits

-- a request that is due is one of the plan, with a tag for its job
pub due-fits : (s : Standings) (due : Due) → IsSound s → IsNext s due → IsFitting s.plan due
due-fits s due sound next =
    let low = next.waits in
    let long = sound.waiting in
    record {
      above = omega (arith, next.id);
      below = omega (arith, next.id, low, long);
      tag = tag_fits (job_of s.plan due.id) s.plan.depth due.tag (tag-within s due.id due.tag next.tag);
    }

-- the request of a tag is one of the plan
pub holder-in_plan : (s : Standings) (tag : ℕ) (found : Option ℕ) → IsSound s → found ≡ holder_of s.holders tag
    → IfSome found (λ id. (1 ≤ id) × (id ≤ length s.plan.jobs))
holder-in_plan s tag None sound e = tt
holder-in_plan s tag (Some id) sound e =
    let held = sound.held tag id (sym e) in
    let long = sound.waiting in
    (held.above, omega (arith, held.below, long))
