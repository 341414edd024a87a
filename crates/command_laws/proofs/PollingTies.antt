-- The ties after a poll.
use Rattle.std.proofs.Common.{◌≡◌, ◌<◌, ℕ, true, false, cond, refl, sym, ◌∙◌, ap, inl, inr}
use Rattle.std.specs.Prelude.{Option, None}
use Rattle.std.specs.Option.{option_map}
use Rattle.std.specs.Int.{bit_at}
use Rattle.std.proofs.lemmas.Bool.{eqb-true}
use Rattle.array_edge.specs.Array.{ArrayState}
use Rattle.bus_link.specs.Script.{Script}
use Rattle.bus_link.specs.declared.link.Cause.{Cause}
use Rattle.cq_regs.specs.Slots.{has_bit, is_begun, made_ready, progress_of, readied}
use Rattle.cq_regs.specs.declared.slots.Progress.{Progress}
use Rattle.cq_regs.specs.declared.slots.Progress.TheVariants.{Named, Ready, Sent}
use Rattle.cq_regs.proofs.ProgressLaws.{progress_made_ready}
use Rattle.cq_schedule.specs.Held.{held_at, left_at, noted, remembered}
use Rattle.task_queue.specs.Queue.{chosen}
use Rattle.task_queue.proofs.Marks.{slot-chosen}
use Rattle.task_queue.proofs.Words.{bit_at-ready_word}
use Rattle.world_state.specs.Engine.{phase_left}
use Rattle.world_state.specs.Path.{PathState, holder}
use Rattle.world_state.specs.Ties.{AreTied, IsInImage, TagRuns, is_queued}
use Rattle.command_laws.proofs.Held.{noted-at}
use Rattle.command_laws.proofs.Onwards.{holds_on, if_some_map, queued_by, queued_on, remembers, same_runs}
use Rattle.command_laws.proofs.Parts.{path_with}
use Rattle.command_laws.proofs.Polling.{IsPollDue, poll_card, poll_choice, poll_regs, poll_step, poll_word}
use Rattle.command_laws.proofs.Rings.{none_at}

module _ (p : PathState) (a : ArrayState) (cause : Option Cause) (script : Script) (t : AreTied p) (d : IsPollDue p.regs) where
  abbrev after : PathState
  after = path_with p (record { held = noted (remembered p.engine.held p.regs) (poll_regs p a); cause = cause }) (poll_regs p a) (phase_left (poll_card p a) false) script

  abbrev now : ℕ → Progress
  now tag = progress_of (made_ready p.regs.ring (poll_word p a)) tag

  runs_same : (tag : ℕ) → tag < 32 → now tag ≡ progress_of p.regs.ring tag → TagRuns p tag → TagRuns after tag
  runs_same tag low e r =
      same_runs p after.engine after.regs after.card script tag low r
      (record {
        progress = e;
        place = noted-at (remembered p.engine.held p.regs) (poll_regs p a) tag low;
        queued = slot-chosen p.card.queue (poll_choice p a) tag;
        unnamed = λ named. none_at Named p.regs.ring tag t.regs.ring d.named (sym e ∙ named) refl;
        image = refl;
      })
      (λ ready. absurd (none_at Ready p.regs.ring tag t.regs.ring d.ready (sym e ∙ ready) refl))

  runs_ready : (tag : ℕ) → tag < 32 → progress_of p.regs.ring tag ≡ Sent → has_bit (poll_word p a) tag ≡ true → now tag ≡ Ready → TagRuns p tag
      → TagRuns after tag
  runs_ready tag low was bit is r =
      let begun : is_begun (progress_of p.regs.ring tag) ≡ true = ap is_begun was in
      let place : held_at after.engine.held tag ≡ left_at (now tag) (held_at p.engine.held tag) =
      noted-at (remembered p.engine.held p.regs) (poll_regs p a) tag low ∙ ap (left_at (now tag)) (remembers p tag low r begun) in
      record {
        holds = λ _. holds_on p after.engine after.regs after.card script tag r begun place (λ n e. absurd (cc (was, e)));
        queue = record {
          queued =
              slot-chosen p.card.queue (poll_choice p a) tag ∙ r.queue.queued
              ∙ ap (λ progress. cond (is_queued progress) (option_map (queued_by tag) (held_at p.engine.held tag)) None) was
              ∙ sym (queued_on p after.engine after.regs after.card script tag place
              ∙ ap (λ progress. cond (is_queued progress) (option_map (queued_by tag) (held_at p.engine.held tag)) None) is);
          chosen = λ _. (bit_at-ready_word (chosen p.card.queue (poll_choice p a)) tag).0 (eqb-true (bit_at (poll_word p a) tag) 1 bit);
          waits = λ n. absurd (cc (is, n));
        };
        inside = if_some_map (holder p tag) (IsInImage p tag) (IsInImage after tag) (λ id h _. h (inl (ap is_queued was))) r.inside;
      }

  pub polling_runs : (tag : ℕ) → tag < 32 → TagRuns p tag → TagRuns after tag
  polling_runs tag low r =
      let is = progress_made_ready p.regs.ring (poll_word p a) tag in
      elim (poll_step (has_bit (poll_word p a) tag) (progress_of p.regs.ring tag)) [
        | inl e ↦ runs_same tag low (is ∙ e) r
        | inr s ↦
            let ready : now tag ≡ Ready =
            is ∙ ap (λ b. cond b (readied (progress_of p.regs.ring tag)) (progress_of p.regs.ring tag)) s.1 ∙ ap readied s.0 in
            runs_ready tag low s.0 s.1 ready r
      ]
