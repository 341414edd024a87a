-- The second half of a task's way to the card: its start sector.
use Rattle.std.proofs.Common.{◌≡◌, ◌≢◌, ◌==◌, ℕ, Bool, true, false, cond, refl, sym, ◌∙◌, ap, subst, inl, inr}
use Rattle.std.specs.Prelude.{◌||◌, not, List, Option, Some, None, Result, Ok}
use Rattle.std.specs.Option.{IsSomeAnd}
use Rattle.std.proofs.lemmas.Bool.{eq-eqb, true≢false}
use Rattle.std.proofs.lemmas.Bool.Decides.{eqb_tells}
use Rattle.bus_link.specs.declared.link.LinkEnd.{LinkEnd}
use Rattle.card_link.specs.Made.{CardMade}
use Rattle.cmd_words.specs.Command.{index_of}
use Rattle.cmd_words.specs.declared.command.Command.{Command}
use Rattle.cmd_words.specs.declared.command.Command.TheVariants.{Address as StartSector}
use Rattle.cq_engine.specs.After.{addressed, after_address}
use Rattle.cq_engine.specs.Event.{Does, Event, Exchanges}
use Rattle.cq_engine.specs.Outcome.{Holding, Host, Outcome, host_of, outcome_of, responded}
use Rattle.raw_machine.specs.Answering.{seen}
use Rattle.cq_engine.specs.declared.did.Did.{Did}
use Rattle.cq_engine.specs.declared.did.Did.TheVariants.{Sent as SentCommand, Stopped}
use Rattle.cq_regs.specs.Effects.{moved_on}
use Rattle.cq_regs.specs.Slots.{has_bit, progress_of}
use Rattle.cq_regs.specs.State.{Registers}
use Rattle.cq_regs.specs.declared.slots.Progress.{Progress}
use Rattle.cq_regs.specs.declared.slots.Ringed.{Ringed}
use Rattle.cq_regs.specs.declared.slots.Progress.TheVariants.{Active, Named}
use Rattle.cq_schedule.specs.Held.{Places, held_at, remembered}
use Rattle.cq_schedule.specs.Holding.{is_begun}
use Rattle.cq_schedule.specs.Meaning.{HasItsSlot, IsDue, rests}
use Rattle.cq_schedule.specs.declared.held.HeldTask.{HeldTask}
use Rattle.cq_schedule.specs.declared.rules.Due.{Due}
use Rattle.cq_schedule.specs.declared.rules.Due.TheVariants.{Address, Serve}
use Rattle.cq_task.specs.declared.slot.DataTask.{DataTask}
use Rattle.cq_task.specs.declared.slot.SlotTask.TheVariants.{Data}
use Rattle.host_mem.specs.Memory.{Memory}
use Rattle.raw_machine.specs.Machine.{Moment, behind_of}
use Rattle.raw_machine.specs.Running.{Happens}
use Rattle.raw_machine.specs.State.{PlainCard, RawState, with_task}
use Rattle.raw_machine.specs.Tasks.{Sends, Works}
use Rattle.raw_machine.specs.Tasks.Gives.{gives}
use Rattle.raw_machine.specs.Telling.{Keeps, Tells, plain}
use Rattle.raw_machine.proofs.Leading.{Led, led}
use Rattle.raw_machine.proofs.Leading.Led.{stops, goes}
use Rattle.raw_machine.proofs.Kept.{AllRung, Has, between_sent, has_advanced, keeps_has, keeps_remembered, rung_advanced}
use Rattle.raw_machine.proofs.NextDue.{address_due}
use Rattle.raw_machine.proofs.Stages.{IsDone, IsNaming, IsSent, Leaves, Partly, behinds, leaves_as, sends, sent_so, sent_state, tells_from}

-- an event of a moment that a state tells, in the state's words
pub record Facts (state : RawState) (old new : Moment) (did : Did) : Type 0 where
  pub left : Host
  pub due : Due
  pub is_due : IsDue (remembered old.machine.engine.held state.regs) state.regs state.memory due
  pub slot : HasItsSlot (remembered old.machine.engine.held state.regs) state.regs due
  pub does : Does CardMade (behind_of old) (behind_of new) (host_of (remembered old.machine.engine.held state.regs) state.regs) state.memory new.machine.memory
      (outcome_of did left.held left.regs) due
  pub leaves : Leaves new left.held left.regs
  pub keeps : state.regs.stopped ≡ false → Keeps (remembered old.machine.engine.held state.regs) state.regs state.tasks

pub facts : (state : RawState) (old new : Moment) (did : Did) → Partly old state → Happens old did new → Facts state old new did
facts state old new did p e =
    let E : Registers → Memory → Type 0 =
    λ r m. Event CardMade (behind_of old) (behind_of new) old.machine.engine new.machine.engine r new.machine.regs m new.machine.memory did in
    let f : E state.regs state.memory = subst (λ r. E r state.memory) (sym p.regs) (subst (λ m. E old.machine.regs m) (sym p.memory) e) in
    let K : Registers → Type 0 = λ r. r.stopped ≡ false → Keeps old.machine.engine.held r state.tasks in
    record {
      left = f.left;
      due = f.acts.due;
      is_due = f.acts.is_due;
      slot = f.acts.slot;
      does = f.acts.does;
      leaves = record { regs = f.registers; held = ap (λ (h : Holding). h.held) f.keeps };
      keeps = λ on. keeps_remembered old.machine.engine.held state.regs state.tasks (subst K (sym p.regs) p.tasks on);
    }

-- what a command left, where its answer leads on so
pub record IsLed (command : Command) (after : Host → Result ℕ LinkEnd → Outcome) (state : RawState) (new : Moment) (did d : Did) (places : Places) (left : Registers)
    (card : PlainCard) : Type 0 where
  pub is : did ≡ d
  pub leaves : Leaves new places left
  pub sends : Sends command after state d (sent_state state left card)

pub led_so : (command : Command) (after : Host → Result ℕ LinkEnd → Outcome) (state : RawState) (old new : Moment) (did d : Did) (from : Host) (held : Places)
    (holds : Places → Places) (left : Registers) → Leaves new from.held from.regs
    → (s : IsSent command after state.card state.regs held old new (outcome_of did from.held from.regs))
    → ((places : Places) → after (host_of places state.regs) (seen s.answer) ≡ outcome_of d (holds places) left)
    → IsLed command after state new did d (holds held) left (plain new.machine.card s.contents)
led_so command after state old new did d from held holds left l s e =
    let o : outcome_of did from.held from.regs ≡ outcome_of d (holds held) left = s.outcome ∙ e held in
    record {
      is = ap (λ (x : Outcome). x.did) o;
      leaves = leaves_as new did d from.held (holds held) from.regs left l o;
      sends = sends command after state s.answer (plain new.machine.card s.contents) d holds left s.answers e;
    }

pub done_by : (state after : RawState) (new : Moment) (did d : Did) → did ≡ d → Works state d after → Tells new after → IsDone state did new
done_by state after new did d e works tells =
    let P : Did → Type 0 = λ x. Works state x after in record { after = after; works = subst P (sym e) works; tells = tells }

-- the task that is held is the one that is told
pub same_task : (place : Option HeldTask) (P : HeldTask → Type 0) (progress : Progress) (told : Option DataTask) (task : DataTask) (Q : DataTask → Type 0)
    → ((h : HeldTask) → P h → Q h.task) → told ≡ Some task → IsSomeAnd place (λ h. (h.progress ≡ progress) × (told ≡ Some h.task) × (progress ≢ Active → h.moved ≡ 0)) → IsSomeAnd place P → Q task
same_task None P progress told task Q f e k p = absurd p
same_task (Some h) P progress told task Q f e k p = let same : h.task ≡ task = cc (k.1, e) in subst Q same (f h p)

with_task-same : (slot : ℕ) (task : DataTask) (other : Option DataTask) → cond (slot == slot) (Some task) other ≡ Some task
with_task-same slot task other = ap (λ b. cond b (Some task) other) (eq-eqb slot slot refl)

named_active : (progress : Progress) → progress ≡ Named → progress ≢ Active
named_active progress e f = cc (e, f)

pub running : (regs : Registers) → rests regs ≡ false → regs.stopped ≡ false
running regs e = stopped_if (has_bit regs.configuration 0) regs.halted regs.stopped e where
  stopped_if : (enabled halted stopped : Bool) → (not enabled || (halted || stopped)) ≡ false → stopped ≡ false
  stopped_if true false false e = refl
  stopped_if true false true e = absurd (cc e)
  stopped_if true true stopped e = absurd (cc e)
  stopped_if false halted stopped e = absurd (cc e)

-- no slot in the ring is idle
pub rung_told : (state : RawState) (m : Moment) → Partly m state → AllRung state.regs.ring
rung_told state m p = let P : Registers → Type 0 = λ r. AllRung r.ring in subst P (sym p.regs) p.rung

pub rung_same : (old new : List Ringed) → new ≡ old → AllRung old → AllRung new
rung_same old new e a = subst AllRung (sym e) a

named_begun : (progress : Progress) → progress ≡ Named → is_begun progress ≡ true
named_begun progress e = ap is_begun e

module _ (state : RawState) (old new : Moment) (did : Did) (n : IsNaming state old) (f : Facts (with_task n.between n.slot n.task) old new did) where
  abbrev told : RawState
  told = with_task n.between n.slot n.task

  abbrev held : Places
  held = remembered old.machine.engine.held n.between.regs

  is_address : f.due ≡ Address n.slot
  is_address =
      address_due held n.between.regs n.between.memory n.slot n.place f.due n.runs n.is_at n.named
      (λ other. elim (eqb_tells other n.slot) [
        | inl t ↦ named_active (progress_of n.between.regs.ring other) (ap (progress_of n.between.regs.ring) t.1 ∙ n.named)
        | inr t ↦ (n.others other t.1).1
      ])
      (λ other apart. (n.others other apart).0) f.is_due

  abbrev Crosses : DataTask → Type 0
  Crosses task = Exchanges CardMade (behind_of old) (behind_of new) (StartSector task.desc.start) (outcome_of did f.left.held f.left.regs)
      (after_address (host_of held n.between.regs) n.slot task.desc)

  crosses : Crosses n.task × (new.machine.memory ≡ n.between.memory)
  crosses =
      let D : Due → Type 0 = λ d. Does CardMade (behind_of old) (behind_of new) (host_of held n.between.regs) n.between.memory new.machine.memory
      (outcome_of did f.left.held f.left.regs) d in
      let d = subst D is_address f.does in (
        same_task (held_at held n.slot) (λ h. Crosses h.task) (progress_of n.between.regs.ring n.slot) (told.tasks n.slot) n.task Crosses (λ h x. x)
            (with_task-same n.slot n.task (n.between.tasks n.slot))
            (f.keeps (running n.between.regs n.runs) n.slot n.below (named_begun (progress_of n.between.regs.ring n.slot) n.named)) d.0,
        d.1,
      )

  abbrev Sent : Type 0
  Sent = IsSent (StartSector n.task.desc.start) (λ h. after_address h n.slot n.task.desc) told.card n.between.regs held old new (outcome_of did f.left.held f.left.regs)

  has : Has held n.between.regs told.tasks
  has = keeps_has held n.between.regs told.tasks (f.keeps (running n.between.regs n.runs))

  works_so : (d : Did) (after : RawState) → Sends (StartSector n.task.desc.start) (λ h. after_address h n.slot n.task.desc) told d after → Works state d after
  works_so d after s = record {
    due = Serve n.slot;
    is_due = n.due;
    acts = record { meaning = Ok (Data n.task); means = n.means; serves = gives n.sends refl s };
  }

  by_led : (s : Sent) → Led n.between.regs (StartSector n.task.desc.start) n.slot s.answer (addressed n.slot n.task.desc) → IsDone state did new
  by_led s (stops cause left stopped ring e) =
      let l = led_so (StartSector n.task.desc.start) (λ h. after_address h n.slot n.task.desc) told old new did (Stopped cause) f.left held (λ places. places) left f.leaves s e in
      let after = sent_state told left (plain new.machine.card s.contents) in
      done_by state after new did (Stopped cause) l.is (works_so (Stopped cause) after l.sends)
      (tells_from new after held left l.leaves (sym crosses.1) refl s.behind (rung_same n.between.regs.ring left.ring ring (rung_told told old n.tells))
      (λ on. absurd (true≢false (sym stopped ∙ on))) (λ on. absurd (true≢false (sym stopped ∙ on))))
  by_led s (goes word answered e) =
      let left = moved_on (responded n.between.regs (index_of (StartSector n.task.desc.start)) word) n.slot in
      let d = SentCommand (StartSector n.task.desc.start) in
      let l = led_so (StartSector n.task.desc.start) (λ h. after_address h n.slot n.task.desc) told old new did d f.left held (λ places. places) left f.leaves s e in
      let after = sent_state told left (plain new.machine.card s.contents) in
      done_by state after new did d l.is (works_so d after l.sends)
      (tells_from new after held left l.leaves (sym crosses.1) refl s.behind (rung_advanced n.between.regs.ring n.slot (rung_told told old n.tells))
      (λ on. has_advanced held n.between.regs left told.tasks n.slot has refl (named_begun (progress_of n.between.regs.ring n.slot) n.named))
      (λ on. between_sent n.between.regs left n.slot n.named n.others refl))

pub step_naming : (state : RawState) (old new : Moment) (did : Did) → IsNaming state old → Happens old did new → IsDone state did new
step_naming state old new did n e =
    let f = facts (with_task n.between n.slot n.task) old new did n.tells e in
    let s = sent_so (StartSector n.task.desc.start) (λ h. after_address h n.slot n.task.desc) old new n.between.card n.between.regs
    (remembered old.machine.engine.held n.between.regs) (outcome_of did f.left.held f.left.regs) (behinds old (with_task n.between n.slot n.task) n.tells)
    (crosses state old new did n f).0 in
    by_led state old new did n f s (led n.between.regs (StartSector n.task.desc.start) n.slot s.answer (addressed n.slot n.task.desc))
