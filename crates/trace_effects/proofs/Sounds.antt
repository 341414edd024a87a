-- No line changes the plan, or the number of sectors.
use Rattle.std.proofs.Common.{◌≡◌, ◌∙◌, ℕ, ◌+◌, Bool, true, false, Option, Some, None, cond, ◌&&◌, is_none, List, [], ◌∷◌, ◌++◌, length, refl}
use Rattle.storage_machine.specs.Commands.{due, hit}
use Rattle.trace_effects.specs.Cuts.{epochs_with}
use Rattle.storage_machine.specs.Cuts.{next_left}
use Rattle.storage_machine.specs.Jobs.{job_of}
use Rattle.trace_effects.specs.Effects.{addressed, after_address, after_answer, after_bus, after_cut, after_discard, after_fault, after_flash, after_irq, after_issue, after_left, after_lost, after_off, after_on, after_params, after_poll, after_read, after_recover, after_sector, after_turn, begun, begun_by, cut_at, effect, kept_at, left_from, left_mark, left_on, powered, shown_on}
use Rattle.storage_machine.specs.Host.{recovery_step, recovery_step_at}
use Rattle.trace_effects.specs.Phases.{after_blocks, after_done, after_keep, after_marks, after_phase, named_by, phase_by, read_sectors}
use Rattle.trace_rules.specs.Phases.{is_whole, tag_due}
use Rattle.storage_machine.specs.Sound.{IsSound}
use Rattle.storage_machine.specs.declared.state.Owed.{Owed}
use Rattle.storage_machine.specs.declared.state.Owed.TheVariants.{Card as CardOwed, Nothing, Closed, Bus as BusOwed, Flash as FlashOwed, Answers, Sectors, Recover as RecoverOwed, Dark, Left as LeftOwed, End as Ended}
use Rattle.storage_machine.specs.declared.state.Recovery.{Recovery}
use Rattle.storage_machine.specs.declared.state.Recovery.TheVariants.{Calm, Halted, Cleared, Discarded, Cleaned, Resumed}
use Rattle.storage_machine.specs.declared.state.State.{State}
use Rattle.storage_model.proofs.Appends.{length-contents_now, length-put_all}
use Rattle.storage_model.specs.Contents.{bars, puts_if}
use Rattle.storage_model.specs.Keep.{every_sector, is_kept, keep_base}
use Rattle.storage_model.specs.declared.block.Block.{Block}
use Rattle.storage_model.specs.declared.faults.BusKind.{BusKind}
use Rattle.storage_model.specs.declared.faults.Letter.{Letter}
use Rattle.storage_model.specs.declared.faults.Letter.TheVariants.{Host, Engine, Card as CardActs, Cut as PowerActs}
use Rattle.storage_model.specs.declared.marks.Mark.{Mark}
use Rattle.storage_model.specs.declared.plan.Job.{Job}
use Rattle.storage_model.specs.declared.trace.End.{End}
use Rattle.storage_model.specs.declared.trace.End.TheVariants.{Good, Fault as FaultEnd, Dead, Image}
use Rattle.storage_model.specs.declared.trace.Item.{Item}
use Rattle.storage_model.specs.declared.trace.Item.TheVariants.{Card, Issue, Params, Address, Poll, Phase, Discard, Bus, Flash, Recover, Irq, Done, Read, Sector, Status, Fault, Refused, Cut, Lost, On, Left, Turn, Off}

pub record Keeps (s t : State) : Type 0 where
  pub plan : t.plan ≡ s.plan
  pub sectors : length t.base ≡ length s.base

same : (s : State) → Keeps s s
same s = record { plan = refl; sectors = refl }

then : (s t u : State) → Keeps s t → Keeps t u → Keeps s u
then s t u first second = record { plan = second.plan ∙ first.plan; sectors = second.sectors ∙ first.sectors }

either : (b : Bool) (s t u : State) → Keeps s t → Keeps s u → Keeps s (cond b t u)
either true s t u left right = left
either false s t u left right = right

length-keep_base : (named : ℕ → Bool) (base : List Block) (pend : List Mark) → length (keep_base named base pend) ≡ length base
unfolding keep_base
length-keep_base named base pend = length-put_all base (puts_if (is_kept (bars pend) named) pend)

recovery_keeps : (s : State) (recovery : Recovery) → Keeps s (recovery_step_at s recovery)
recovery_keeps s Calm = same s
recovery_keeps s Halted = record { plan = refl; sectors = refl }
recovery_keeps s Cleared = same s
recovery_keeps s Discarded = record { plan = refl; sectors = refl }
recovery_keeps s Cleaned = record { plan = refl; sectors = refl }
recovery_keeps s Resumed = record { plan = refl; sectors = refl }

step_keeps : (s : State) → Keeps s (recovery_step s)
unfolding recovery_step
step_keeps s = recovery_keeps s s.recovery

begun_keeps : (s : State) (letter : Letter) → Keeps s (begun_by s letter)
begun_keeps s Host = either _ s _ _ (record { plan = (step_keeps s).plan; sectors = (step_keeps s).sectors }) (record { plan = refl; sectors = refl })
begun_keeps s Engine = record { plan = refl; sectors = refl }
begun_keeps s CardActs = record { plan = refl; sectors = refl }
begun_keeps s PowerActs = record { plan = refl; sectors = refl }

turn_keeps : (s : State) (letter : Letter) → Keeps s (after_turn s letter)
unfolding after_turn begun
turn_keeps s letter = let k = begun_keeps _ letter in record { plan = k.plan; sectors = k.sectors }

address_keeps : (s : State) (id : ℕ) (inside : Bool) → Keeps s (addressed s id inside)
address_keeps s id inside = either inside s _ _ (record { plan = refl; sectors = refl }) (record { plan = refl; sectors = refl })

keep_keeps : (s : State) (named : ℕ → Bool) → Keeps s (after_keep s named)
unfolding after_keep
keep_keeps s named = record { plan = refl; sectors = length-keep_base named s.base s.pend }

blocks_keeps : (s : State) (job : Job) (count : ℕ) (kept : Bool) → Keeps s (after_blocks s job count kept)
unfolding after_blocks
blocks_keeps s job count kept =
    let moved = either kept s _ _ (let k = keep_keeps (after_marks s job count) (named_by job) in record { plan = k.plan; sectors = k.sectors }) (record { plan = refl; sectors = refl }) in
    record { plan = moved.plan; sectors = moved.sectors }

done_keeps : (s : State) (tag id : ℕ) (job : Job) (sectors : List Block) → Keeps s (after_done s tag id job sectors)
unfolding after_done
done_keeps s tag id job sectors = record { plan = refl; sectors = refl }

phase_by_keeps : (s : State) (job : Job) (tag : ℕ) (kind : Option BusKind) (n id count : ℕ) (kept : Bool) → Keeps s (phase_by s job tag kind n id count kept)
phase_by_keeps s job tag kind n id count kept =
    let moved = blocks_keeps s job count kept in
    let whole = is_whole s.plan.through job count kept && is_none kind in
    let ends = either whole (after_blocks s job count kept) _ _ (done_keeps (after_blocks s job count kept) tag id job (read_sectors s job)) (same (after_blocks s job count kept)) in
    record { plan = ends.plan ∙ moved.plan; sectors = ends.sectors ∙ moved.sectors }

phase_keeps : (s : State) (n id count : ℕ) (kept : Bool) → Keeps s (after_phase s n id count kept)
unfolding after_phase
phase_keeps s n id count kept = phase_by_keeps s (job_of s.plan.jobs id) (tag_due (due s)) (hit s) n id count kept

shown_keeps : (s : State) (owed : Owed) → Keeps s (shown_on s owed)
shown_keeps s (Sectors tag k) = either _ s _ _ (record { plan = refl; sectors = refl }) (record { plan = refl; sectors = refl })
shown_keeps s CardOwed = same s
shown_keeps s Nothing = same s
shown_keeps s Closed = same s
shown_keeps s (BusOwed n id kind) = same s
shown_keeps s (FlashOwed id) = same s
shown_keeps s Answers = same s
shown_keeps s RecoverOwed = same s
shown_keeps s (Dark cuts) = same s
shown_keeps s (LeftOwed from) = same s
shown_keeps s Ended = same s

cut_keeps : (s : State) (owed : Owed) → Keeps s (cut_at s owed)
cut_keeps s (Sectors tag k) = record { plan = refl; sectors = refl }
cut_keeps s CardOwed = record { plan = refl; sectors = refl }
cut_keeps s Nothing = record { plan = refl; sectors = refl }
cut_keeps s Closed = record { plan = refl; sectors = refl }
cut_keeps s (BusOwed n id kind) = record { plan = refl; sectors = refl }
cut_keeps s (FlashOwed id) = record { plan = refl; sectors = refl }
cut_keeps s Answers = record { plan = refl; sectors = refl }
cut_keeps s RecoverOwed = record { plan = refl; sectors = refl }
cut_keeps s (Dark cuts) = record { plan = refl; sectors = refl }
cut_keeps s (LeftOwed from) = record { plan = refl; sectors = refl }
cut_keeps s Ended = record { plan = refl; sectors = refl }

from_keeps : (s : State) (left : Option ℕ) → Keeps s (left_from (powered s) left)
from_keeps s None = record { plan = refl; sectors = refl }
from_keeps s (Some sector) = record { plan = refl; sectors = refl }

left_keeps : (s : State) (sector : ℕ) (left : Option ℕ) → Keeps s (left_on s sector left)
left_keeps s sector None = record { plan = refl; sectors = length-contents_now s.base s.lefts }
left_keeps s sector (Some next) = record { plan = refl; sectors = refl }

kept_keeps : (s : State) (end : End) → Keeps s (kept_at s end)
kept_keeps s Good = let k = keep_keeps s every_sector in record { plan = k.plan; sectors = k.sectors }
kept_keeps s FaultEnd = same s
kept_keeps s Dead = same s
kept_keeps s Image = same s

pub effect_keeps : (s : State) (item : Item) → Keeps s (effect s item)
unfolding effect after_address after_answer after_bus after_cut after_discard after_fault after_flash after_irq after_issue after_left after_lost after_off after_on after_params after_poll after_read after_recover after_sector
effect_keeps s (Card sectors depth lines) = record { plan = refl; sectors = refl }
effect_keeps s (Turn letter) = turn_keeps s letter
effect_keeps s (Issue id tag) = record { plan = refl; sectors = refl }
effect_keeps s (Params n id) = record { plan = refl; sectors = refl }
effect_keeps s (Address n id) = let k = address_keeps _ id _ in record { plan = k.plan; sectors = k.sectors }
effect_keeps s (Poll n mask) = record { plan = refl; sectors = refl }
effect_keeps s (Phase n id count kept) = phase_keeps s n id count kept
effect_keeps s (Bus n kind id) = record { plan = refl; sectors = refl }
effect_keeps s (Flash id) = record { plan = refl; sectors = refl }
effect_keeps s (Irq mask) = record { plan = refl; sectors = refl }
effect_keeps s (Done id) = record { plan = refl; sectors = refl }
effect_keeps s (Read id) = record { plan = refl; sectors = refl }
effect_keeps s (Sector value) = shown_keeps s s.owed
effect_keeps s (Status id word) = record { plan = refl; sectors = refl }
effect_keeps s Recover = record { plan = refl; sectors = refl }
effect_keeps s (Discard n) = record { plan = refl; sectors = refl }
effect_keeps s (Fault id why) = record { plan = refl; sectors = refl }
effect_keeps s (Refused id why) = record { plan = refl; sectors = refl }
effect_keeps s Cut = cut_keeps s s.owed
effect_keeps s (Lost id) = record { plan = refl; sectors = refl }
effect_keeps s On = from_keeps s (next_left s.pend 0)
effect_keeps s (Left sector value) = let k = left_keeps (record s { epochs = epochs_with s sector value; lefts = s.lefts ++ left_mark sector value ∷ [] }) sector (next_left s.pend (sector + 1)) in record { plan = k.plan; sectors = k.sectors }
effect_keeps s (Off end) = let k = kept_keeps s end in record { plan = k.plan; sectors = k.sectors }

pub sound_kept : (s t : State) → Keeps s t → IsSound s → IsSound t
sound_kept s t kept sound = record { base = rw kept.sectors sound.base; jobs = rw kept.plan sound.jobs }
