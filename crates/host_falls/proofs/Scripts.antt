-- The host never loses power in its events.
use Rattle.std.proofs.Common.{◌≡◌, ◌≢◌, ◌==◌, ℕ, refl, sym, ◌∙◌, ap, Bool, true, false}
use Rattle.std.specs.Prelude.{cond, Option, Some, None, Result, Ok, Err}
use Rattle.std.proofs.lemmas.Bool.{false≢true}
use Rattle.array_edge.specs.Array.{ArrayState}
use Rattle.bus_link.specs.declared.link.Cause.{Cause}
use Rattle.bus_link.specs.declared.link.Cause.TheVariants.{Bus as BusFault, Response, Dark as NoPowerCause}
use Rattle.bus_link.specs.declared.link.LinkEnd.{LinkEnd}
use Rattle.bus_link.specs.declared.link.LinkEnd.TheVariants.{Bus, Status, Dark as NoPower}
use Rattle.card_link.specs.Made.{CardMade, Exchanges}
use Rattle.drv_core.specs.Event.{Does, told_of}
use Rattle.drv_core.specs.Judge.{after_error, after_fault, after_word, ended, error_of, judged, retried}
use Rattle.drv_core.specs.Work.{work_of}
use Rattle.drv_core.specs.declared.act.Act.{Act}
use Rattle.drv_core.specs.declared.act.Act.TheVariants.{Step as Stepped}
use Rattle.drv_core.specs.declared.act.Stop.{Stop as Ending}
use Rattle.drv_core.specs.declared.act.Stop.TheVariants as ending
use Rattle.drv_core.specs.declared.work.Work.{Work}
use Rattle.drv_core.specs.declared.work.Work.TheVariants.{Recover, Collect, Fail, Issue}
use Rattle.drv_jobs.specs.Changes.{faulted, faults_of}
use Rattle.drv_jobs.specs.Next.{due_of}
use Rattle.drv_jobs.specs.Standings.{Standings, holder_of}
use Rattle.drv_jobs.specs.declared.next.Due.{Due}
use Rattle.drv_jobs.specs.declared.next.Hold.{Hold}
use Rattle.drv_jobs.specs.declared.requests.TheConstants.{MOST_FAULTS}
use Rattle.drv_recover.specs.Recovery.{Does as StepDoes, discard_queue, told_by}
use Rattle.drv_recover.specs.declared.recovery.RecoveryState.{RecoveryState}
use Rattle.drv_recover.specs.declared.recovery.RecoveryState.TheVariants as driver
use Rattle.drv_recover.specs.declared.recovery.Step.{Step}
use Rattle.drv_recover.specs.declared.recovery.Step.TheVariants.{Dark}
use Rattle.world_state.specs.Host.{HostEvent, cause_of, moment_of}
use Rattle.world_state.specs.Path.{PathState, behind_path}
use Rattle.host_falls.proofs.Recovering.{discard_lit}

-- an act that isn't a loss of power
abbrev is_lit : Act → Bool
is_lit (Stepped Dark) = false
is_lit act = true

answer_lit : (p p' : PathState) (a a' : ArrayState) (answer : Result ℕ LinkEnd) → Exchanges discard_queue (behind_path p a) (behind_path p' a') answer
    → is_lit (Stepped (told_by answer)) ≡ true
answer_lit p p' a a' (Ok word) e = refl
answer_lit p p' a a' (Err (Status word)) e = refl
answer_lit p p' a a' (Err (Bus kind)) e = refl
answer_lit p p' a a' (Err NoPower) e = absurd (discard_lit (behind_path p a) (behind_path p' a') (Err NoPower) e refl)

step_lit : (p p' : PathState) (a a' : ArrayState) (state : RecoveryState) (step : Step) → StepDoes CardMade (behind_path p a) (behind_path p' a') state step
    → is_lit (Stepped step) ≡ true
step_lit p p' a a' driver.Calm step d = ap (λ s. is_lit (Stepped s)) d.told
step_lit p p' a a' driver.Halted step d = ap (λ s. is_lit (Stepped s)) d.told
step_lit p p' a a' driver.Cleared step d = ap (λ s. is_lit (Stepped s)) d.told ∙ answer_lit p p' a a' d.answer d.crossed
step_lit p p' a a' driver.Discarded step d = ap (λ s. is_lit (Stepped s)) d.told
step_lit p p' a a' driver.Cleaned step d = ap (λ s. is_lit (Stepped s)) d.told
step_lit p p' a a' driver.Resumed step d = ap (λ s. is_lit (Stepped s)) d.told

counted_lit : (s : Standings) (tag id : ℕ) (last : Bool) → is_lit (cond last (ended s tag id ending.Bus) (retried s)).act ≡ true
counted_lit s tag id true = refl
counted_lit s tag id false = refl

fault_lit : (s : Standings) (tag : ℕ) (h : Option ℕ) → is_lit (after_fault s tag h).act ≡ true
fault_lit s tag None = refl
fault_lit s tag (Some id) = counted_lit (faulted s id) tag id (faults_of (faulted s id) id == MOST_FAULTS)

error_lit : (s : Standings) (tag : ℕ) (why : Ending) (h : Option ℕ) → is_lit (after_error s tag why h).act ≡ true
error_lit s tag why None = refl
error_lit s tag why (Some id) = refl

word_lit : (s : Standings) (tag : ℕ) (why : Option Ending) → is_lit (after_word s tag why).act ≡ true
word_lit s tag None = refl
word_lit s tag (Some why) = error_lit s tag why (holder_of s.holders tag)

judge_lit : (s : Standings) (cause : Option Cause) → is_lit (judged s cause).act ≡ true
judge_lit s None = refl
judge_lit s (Some (BusFault kind None)) = refl
judge_lit s (Some (BusFault kind (Some tag))) = fault_lit s tag (holder_of s.holders tag)
judge_lit s (Some (Response word tag)) = word_lit s tag (error_of word)
judge_lit s (Some NoPowerCause) = refl

told_lit : (next : Result Due Hold) → is_lit (told_of next) ≡ true
told_lit (Ok due) = refl
told_lit (Err hold) = refl

work_lit : (p p' : PathState) (a a' : ArrayState) (act : Act) (work : Work) → Does CardMade (moment_of p a) (moment_of p' a') (cause_of p) act work
    → is_lit act ≡ true
work_lit p p' a a' act Recover d = ap is_lit d.told ∙ step_lit p p' a a' p.driver.recovery d.step d.event.does
work_lit p p' a a' act Collect d = ap is_lit d.told
work_lit p p' a a' act Fail d = ap is_lit d.told ∙ judge_lit p.driver.requests (cause_of p)
work_lit p p' a a' act Issue d = ap is_lit d.told ∙ told_lit (due_of p.driver.requests)

pub host_lit : (p : PathState) (a : ArrayState) (p' : PathState) (a' : ArrayState) (act : Act) → HostEvent p a p' a' act → act ≢ Stepped Dark
host_lit p a p' a' act e dark =
    absurd (false≢true (sym (ap is_lit dark) ∙ work_lit p p' a a' act (work_of p.driver.recovery p.regs) e.event))
