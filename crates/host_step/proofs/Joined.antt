-- The lines of an event: its answers, and what follows it.
use Rattle.std.proofs.Common.{◌≡◌, ◌∙◌, ◌++◌, ◌+◌, ◌-◌, ◌<◌, ◌≤◌, length, get_or, ℕ, zero, suc, Bool, true, false, List, [], ◌∷◌, Option, None, Some, Result, Ok, Err, flat_map, map, refl, ap, sym, subst, arith, append-nil, if◌then◌else◌, ◌==◌}
use Rattle.std.proofs.lemmas.Bool.{false≢true}
use Rattle.std.proofs.lemmas.List.Concat.{flat_map-append}
use Rattle.std.proofs.lemmas.List.{get_or_default, map-append}
use Rattle.std.specs.List.{range_with_len}
use Rattle.storage_model.specs.declared.ends.Halt.{Halt}
use Rattle.storage_model.specs.declared.ends.Halt.TheVariants.{SinkFailed}
use Rattle.storage_model.specs.declared.block.Block.{Block}
use Rattle.storage_model.specs.declared.plan.Job.{Job}
use Rattle.storage_model.specs.declared.plan.Plan.{Plan}
use Rattle.storage_model.specs.declared.trace.Item.{Item}
use Rattle.storage_model.specs.declared.trace.Item.TheVariants.{Sector}
use Rattle.array_edge.specs.Array.{ArrayState}
use Rattle.bus_link.specs.declared.link.Cause.{Cause}
use Rattle.bus_link.specs.declared.link.Cause.TheVariants.{Bus as BusFault, Response, Dark}
use Rattle.card_link.specs.Made.{CardMade}
use Rattle.cq_schedule.specs.Held.{slots}
use Rattle.drv_core.specs.Event.{Does, told_of}
use Rattle.drv_core.specs.Judge.{Judged, after_error, after_fault, after_word, ended, error_of, judged, retried}
use Rattle.drv_core.specs.Work.{work_of}
use Rattle.drv_core.specs.declared.act.Act.{Act}
use Rattle.drv_core.specs.declared.act.Act.TheVariants.{Nothing, Issued, Collected, Failed, Step as Stepped}
use Rattle.drv_core.specs.declared.act.Stop.{Stop}
use Rattle.drv_core.specs.declared.act.Stop.TheVariants.{Bus}
use Rattle.drv_core.specs.declared.work.Work.{Work}
use Rattle.drv_core.specs.declared.work.Work.TheVariants.{Recover, Collect, Fail, Issue}
use Rattle.drv_jobs.specs.Changes.{faulted, faults_of}
use Rattle.drv_jobs.specs.Next.{due_of}
use Rattle.drv_jobs.specs.Standings.{Standings, holder_of, job_of}
use Rattle.drv_jobs.specs.declared.next.Due.{Due}
use Rattle.drv_jobs.specs.declared.next.Hold.{Hold}
use Rattle.drv_jobs.specs.declared.requests.TheConstants.{MOST_FAULTS}
use Rattle.io_edge.specs.Sink.{Joins}
use Rattle.trace_print.proofs.Joined.{broken_before, taken_behind, takes_behind}
use Rattle.trace_text.specs.Trace.{items_text}
use Rattle.trace_print.specs.Prints.{Takes}
use Rattle.host_step.specs.Lines.{answers_by, answers_of, lines_behind}
use Rattle.world_state.specs.Host.{HostEvent, cause_of, collect_lines, host_lines, moment_of}
use Rattle.world_state.specs.Path.{PathState, plan_of}

-- what isn't a collection is told behind the event
abbrev is_collected : Act → Bool
is_collected (Collected mask) = true
is_collected act = false

other_lines : (p p' : PathState) (act : Act) → is_collected act ≡ false → host_lines p p' act ≡ lines_behind p'.script.sent act
other_lines p p' Nothing e = refl
other_lines p p' (Issued id tag) e = refl
other_lines p p' (Collected mask) e = absurd (false≢true (sym e))
other_lines p p' (Failed id why) e = refl
other_lines p p' (Stepped step) e = refl

either_act : (b : Bool) (one other : Judged) → is_collected one.act ≡ false → is_collected other.act ≡ false → is_collected (if b then one else other).act ≡ false
either_act true one other a c = a
either_act false one other a c = c

fault_act : (s : Standings) (tag : ℕ) (holder : Option ℕ) → is_collected (after_fault s tag holder).act ≡ false
fault_act s tag None = refl
fault_act s tag (Some id) = either_act (faults_of (faulted s id) id == MOST_FAULTS) (ended (faulted s id) tag id Bus) (retried (faulted s id)) refl refl

error_act : (s : Standings) (tag : ℕ) (why : Stop) (holder : Option ℕ) → is_collected (after_error s tag why holder).act ≡ false
error_act s tag why None = refl
error_act s tag why (Some id) = refl

word_act : (s : Standings) (tag : ℕ) (error : Option Stop) → is_collected (after_word s tag error).act ≡ false
word_act s tag None = refl
word_act s tag (Some why) = error_act s tag why (holder_of s.holders tag)

judged_act : (s : Standings) (cause : Option Cause) → is_collected (judged s cause).act ≡ false
judged_act s (Some (BusFault kind (Some tag))) = fault_act s tag (holder_of s.holders tag)
judged_act s (Some (BusFault kind None)) = refl
judged_act s (Some (Response word tag)) = word_act s tag (error_of word)
judged_act s (Some Dark) = refl
judged_act s None = refl

told_act : (next : Result Due Hold) → is_collected (told_of next) ≡ false
told_act (Ok due) = refl
told_act (Err hold) = refl

lines_by : (p : PathState) (a : ArrayState) (p' : PathState) (a' : ArrayState) (act : Act) (work : Work) → Does CardMade (moment_of p a) (moment_of p' a') (cause_of p) act work
    → host_lines p p' act ≡ answers_by p work ++ lines_behind p'.script.sent act
lines_by p a p' a' act Recover d = other_lines p p' act (ap is_collected d.told)
lines_by p a p' a' act Collect d =
    ap (host_lines p p') d.told ∙ (sym (append-nil (collect_lines p p.regs.completed)) ∙ ap (λ found. collect_lines p p.regs.completed ++ lines_behind p'.script.sent found) (sym d.told))
lines_by p a p' a' act Fail d = other_lines p p' act (ap is_collected d.told ∙ judged_act p.driver.requests (cause_of p))
lines_by p a p' a' act Issue d = other_lines p p' act (ap is_collected d.told ∙ told_act (due_of p.driver.requests))

-- the event's lines are its answers, and then those behind it
pub lines_are : (p : PathState) (a : ArrayState) (p' : PathState) (a' : ArrayState) (act : Act) → HostEvent p a p' a' act → host_lines p p' act ≡ answers_of p ++ lines_behind p'.script.sent act
lines_are p a p' a' act e = lines_by p a p' a' act (work_of p.driver.recovery p.regs) e.event

-- the sink failed before all of them
pub failed_before : {K : Type 0} (took : K → List ℕ → K → Type 0) (old new : K) (items more : List Item) (halt : Halt) → halt ≡ SinkFailed → Takes took old items (Err halt) new
    → Takes took old (items ++ more) (Err halt) new
failed_before took old new items more halt is t =
    subst (λ (h : Halt). Takes took old (items ++ more) (Err h) new) (sym is)
    (broken_before took old new items more (subst (λ (h : Halt). Takes took old items (Err h) new) is t))

-- numbers, in two parts
range_join : (a n m k : ℕ) → n + m ≡ k → range_with_len a k ≡ range_with_len a n ++ range_with_len (a + n) m
range_join a zero m k e =
    let from : a ≡ a + 0 = omega arith in
    let long : k ≡ m = omega (arith, e) in
    ap (λ x. range_with_len x k) from ∙ ap (range_with_len (a + 0)) long
range_join a (suc n) m zero e = absurd (omega (arith, e))
range_join a (suc n) m (suc k) e =
    let from : a + 1 + n ≡ a + suc n = omega arith in
    ap (λ l. a ∷ l) (range_join (a + 1) n m k (omega (arith, e)) ∙ ap (λ x. range_with_len (a + 1) n ++ range_with_len x m) from)

range_more : (k : ℕ) → range_with_len 0 (k + 1) ≡ range_with_len 0 k ++ k ∷ []
range_more k = let from : 0 + k ≡ k = omega arith in range_join 0 k 1 (k + 1) refl ∙ ap (λ x. range_with_len 0 k ++ x ∷ []) from

range_around : (n k : ℕ) → k < n → range_with_len 0 n ≡ (range_with_len 0 k ++ k ∷ []) ++ range_with_len (k + 1) (n - (k + 1))
range_around n k lt =
    let from : 0 + (k + 1) ≡ k + 1 = omega arith in
    range_join 0 (k + 1) (n - (k + 1)) n (omega (arith, lt))
    ∙ (ap (λ x. range_with_len 0 (k + 1) ++ range_with_len x (n - (k + 1))) from
    ∙ ap (λ xs. xs ++ range_with_len (k + 1) (n - (k + 1))) (range_more k))

pub all_tags : slots ≡ range_with_len 0 32
unfolding slots
all_tags = refl

-- a plan's request, at the place before its number
pub job_is : (p : PathState) (plan : Plan) (id : ℕ) (job : Job) → 1 ≤ id → id ≤ length (plan_of p).jobs → plan ≡ plan_of p
    → job ≡ get_or plan.jobs (id - 1) job → job_of (plan_of p) id ≡ job
job_is p plan id job above below is read =
    let within : id - 1 < length (plan_of p).jobs = omega (arith, above, below) in
    let same : get_or plan.jobs (id - 1) job ≡ get_or (plan_of p).jobs (id - 1) job = ap (λ (x : Plan). get_or x.jobs (id - 1) job) is in
    sym (read ∙ (same ∙ get_or_default (plan_of p).jobs (id - 1) job _ within))

-- one tag more
flat_push : {A : Type 0} (f : ℕ → List A) (ks : List ℕ) (k : ℕ) → flat_map f (ks ++ k ∷ []) ≡ flat_map f ks ++ f k
flat_push f ks k = flat_map-append f ks (k ∷ []) ∙ ap (λ xs. flat_map f ks ++ xs) (append-nil (f k))

pub flat_more : {A : Type 0} (f : ℕ → List A) (k : ℕ) → flat_map f (range_with_len 0 (k + 1)) ≡ flat_map f (range_with_len 0 k) ++ f k
flat_more f k = ap (flat_map f) (range_more k) ∙ flat_push f (range_with_len 0 k) k

pub flat_around : {A : Type 0} (f : ℕ → List A) (n k : ℕ) → k < n
    → flat_map f (range_with_len 0 n) ≡ (flat_map f (range_with_len 0 k) ++ f k) ++ flat_map f (range_with_len (k + 1) (n - (k + 1)))
flat_around f n k lt =
    ap (flat_map f) (range_around n k lt)
    ∙ (flat_map-append f (range_with_len 0 k ++ k ∷ []) (range_with_len (k + 1) (n - (k + 1)))
    ∙ ap (λ xs. xs ++ flat_map f (range_with_len (k + 1) (n - (k + 1)))) (flat_push f (range_with_len 0 k) k))

-- one sector more
sectors_append : (f : ℕ → Block) (ks more : List ℕ) → map Sector (map f (ks ++ more)) ≡ map Sector (map f ks) ++ map Sector (map f more)
sectors_append f ks more = ap (map Sector) (map-append f ks more) ∙ map-append Sector (map f ks) (map f more)

pub sectors_more : (f : ℕ → Block) (k : ℕ) (value : Block) → value ≡ f k
    → map Sector (map f (range_with_len 0 (k + 1))) ≡ map Sector (map f (range_with_len 0 k)) ++ Sector value ∷ []
sectors_more f k value is =
    ap (λ ks. map Sector (map f ks)) (range_more k)
    ∙ (sectors_append f (range_with_len 0 k) (k ∷ [])
    ∙ ap (λ x. map Sector (map f (range_with_len 0 k)) ++ Sector x ∷ []) (sym is))

pub sectors_around : (f : ℕ → Block) (n k : ℕ) (value : Block) → k < n → value ≡ f k
    → map Sector (map f (range_with_len 0 n)) ≡ (map Sector (map f (range_with_len 0 k)) ++ Sector value ∷ []) ++ map Sector (map f (range_with_len (k + 1) (n - (k + 1))))
sectors_around f n k value lt is =
    ap (λ ks. map Sector (map f ks)) (range_around n k lt)
    ∙ (sectors_append f (range_with_len 0 k ++ k ∷ []) (range_with_len (k + 1) (n - (k + 1)))
    ∙ ap (λ xs. xs ++ map Sector (map f (range_with_len (k + 1) (n - (k + 1)))))
    (sectors_append f (range_with_len 0 k) (k ∷ []) ∙ ap (λ x. map Sector (map f (range_with_len 0 k)) ++ Sector x ∷ []) (sym is)))

module _ {K : Type 0} (took : K → List ℕ → K → Type 0) (both : Joins took) where
  -- the next of the lines
  pub taken_more : (old mid new : K) (before items all : List Item) → all ≡ before ++ items → took old (items_text before) mid → took mid (items_text items) new
      → took old (items_text all) new
  taken_more old mid new before items all are first last =
      subst (λ (xs : List Item). took old (items_text xs) new) (sym are) (taken_behind took both old mid new before items first last)

  -- the sink failed amid them
  pub failed_amid : (old mid new : K) (before items more all : List Item) (halt : Halt) → halt ≡ SinkFailed → all ≡ (before ++ items) ++ more
      → took old (items_text before) mid → Takes took mid items (Err halt) new → Takes took old all (Err halt) new
  failed_amid old mid new before items more all halt is are first last =
      subst (λ (xs : List Item). Takes took old xs (Err halt) new) (sym are)
      (failed_before took old new (before ++ items) more halt is (takes_behind took both old mid new before items (Err halt) first last))

  -- the sink failed in the first line, or behind it
  pub first_failed : (old new : K) (item first : Item) (more all : List Item) (halt : Halt) → halt ≡ SinkFailed → item ≡ first → all ≡ first ∷ more
      → Takes took old (item ∷ []) (Err halt) new → Takes took old all (Err halt) new
  first_failed old new item first more all halt is same are t =
      subst (λ (xs : List Item). Takes took old xs (Err halt) new) (sym are)
      (failed_before took old new (first ∷ []) more halt is (subst (λ (x : Item). Takes took old (x ∷ []) (Err halt) new) same t))

  pub first_taken : (old mid new : K) (item first : Item) (more all : List Item) (result : Result (Unit {0}) Halt) → item ≡ first → all ≡ first ∷ more
      → took old (items_text (item ∷ [])) mid → Takes took mid more result new → Takes took old all result new
  first_taken old mid new item first more all result same are t last =
      subst (λ (xs : List Item). Takes took old xs result new) (sym are)
      (takes_behind took both old mid new (first ∷ []) more result (subst (λ (x : Item). took old (items_text (x ∷ [])) mid) same t) last)
