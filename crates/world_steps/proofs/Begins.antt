-- How a slot comes to be active: only CMD46 and CMD47 begin a data phase.
use Rattle.std.proofs.Common.{◌≡◌, ◌==◌, ◌⊎◌, ℕ, refl, sym, ◌∙◌, ap, inl, inr, Bool, true, false, List}
use Rattle.std.specs.Prelude.{cond}
use Rattle.std.proofs.lemmas.Bool.{eqb-true}
use Rattle.cmd_words.specs.declared.command.Command.{Command}
use Rattle.cmd_words.specs.declared.command.Command.TheVariants.{Params, Address, Execute as ExecuteCommand}
use Rattle.cq_engine.specs.Standings.{IsMovedFrom, MovesBy, MovesFor}
use Rattle.cq_engine.specs.declared.did.Did.{Did}
use Rattle.cq_engine.specs.declared.did.Did.TheVariants.{Sent as SentCommand, Direct, Finished, Dropped}
use Rattle.cq_regs.specs.Slots.{has_bit, made_ready, next, progress_of, readied, without}
use Rattle.cq_regs.specs.State.{Registers}
use Rattle.cq_regs.specs.declared.slots.Progress.{Progress}
use Rattle.cq_regs.specs.declared.slots.Progress.TheVariants.{Idle, Rung, Named, Sent, Ready, Active}
use Rattle.cq_regs.specs.declared.slots.Ringed.{Ringed}
use Rattle.cq_regs.proofs.ProgressLaws.{progress_advanced, progress_made_ready, progress_without}

pub data Became (did : Did) (ring : List Ringed) (tag : ℕ) : Type 0 where
  was : progress_of ring tag ≡ Active → Became did ring tag
  begins : (read : Bool) → did ≡ SentCommand (ExecuteCommand read tag) → progress_of ring tag ≡ Ready → Became did ring tag

moved_if : (from : Progress) (slot tag : ℕ) (ring : List Ringed) (here : Bool) → (tag == slot) ≡ here → progress_of ring slot ≡ from
    → cond here (next (progress_of ring tag)) (progress_of ring tag) ≡ Active
    → (progress_of ring tag ≡ Active) ⊎ ((tag ≡ slot) × (next from ≡ Active))
moved_if from slot tag ring true e is active =
    let same_one = eqb-true tag slot e in
    inr (same_one, sym (ap next (ap (progress_of ring) same_one ∙ is)) ∙ active)
moved_if from slot tag ring false e is active = inl active

moved_active : (from : Progress) (slot : ℕ) (old new : Registers) → IsMovedFrom from slot old new → (tag : ℕ) → progress_of new.ring tag ≡ Active
    → (progress_of old.ring tag ≡ Active) ⊎ ((tag ≡ slot) × (next from ≡ Active))
moved_active from slot old new m tag active =
    moved_if from slot tag old.ring (tag == slot) refl m.was (sym (progress_advanced old.ring slot tag) ∙ sym (ap (λ ring. progress_of ring tag) m.ring) ∙ active)

readied_active : (b : Bool) (progress : Progress) → cond b (readied progress) progress ≡ Active → progress ≡ Active
readied_active false progress e = e
readied_active true Idle e = absurd (cc e)
readied_active true Rung e = absurd (cc e)
readied_active true Named e = absurd (cc e)
readied_active true Sent e = absurd (cc e)
readied_active true Ready e = absurd (cc e)
readied_active true Active e = refl

polled_active : (old new : Registers) → new.ring ≡ made_ready old.ring new.queue_status → (tag : ℕ) → progress_of new.ring tag ≡ Active → progress_of old.ring tag ≡ Active
polled_active old new ring tag active =
    readied_active (has_bit new.queue_status tag) (progress_of old.ring tag)
    (sym (progress_made_ready old.ring new.queue_status tag) ∙ sym (ap (λ ring. progress_of ring tag) ring) ∙ active)

left_active : (b : Bool) (progress : Progress) → cond b Idle progress ≡ Active → progress ≡ Active
left_active true progress e = absurd (cc e)
left_active false progress e = e

without_active : (slot : ℕ) (old new : Registers) → new.ring ≡ without old.ring slot → (tag : ℕ) → progress_of new.ring tag ≡ Active → progress_of old.ring tag ≡ Active
without_active slot old new ring tag active =
    left_active (tag == slot) (progress_of old.ring tag) (sym (progress_without old.ring slot tag) ∙ sym (ap (λ ring. progress_of ring tag) ring) ∙ active)

sent_became : (command : Command) (old new : Registers) → MovesFor command old new → (tag : ℕ) → progress_of new.ring tag ≡ Active → Became (SentCommand command) old.ring tag
sent_became (Params task) old new m tag active = elim (moved_active Rung task.task old new m tag active) [
  | inl before ↦ was before
  | inr now ↦ absurd (let e = now.1 in cc e)
]
sent_became (Address start) old new m tag active = elim (moved_active Named m.slot old new m.moved tag active) [
  | inl before ↦ was before
  | inr now ↦ absurd (let e = now.1 in cc e)
]
sent_became (ExecuteCommand read slot) old new m tag active = elim (moved_active Ready slot old new m tag active) [
  | inl before ↦ was before
  | inr now ↦ begins read (ap (λ n. SentCommand (ExecuteCommand read n)) (sym now.0)) (ap (progress_of old.ring) now.0 ∙ m.was)
]
sent_became command old new m tag active = was (polled_active old new m tag active)

pub became_active : (did : Did) (old new : Registers) → MovesBy did old new → (tag : ℕ) → progress_of new.ring tag ≡ Active → Became did old.ring tag
became_active (SentCommand command) old new m tag active = sent_became command old new m tag active
became_active (Direct slot) old new m tag active = was (without_active slot old new m tag active)
became_active (Finished slot) old new m tag active = was (without_active slot old new m tag active)
became_active (Dropped slot why) old new m tag active = was (without_active slot old new m tag active)
became_active did old new m tag active = was (sym (ap (λ ring. progress_of ring tag) m) ∙ active)
