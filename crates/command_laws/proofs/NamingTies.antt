-- The ties after CMD44.
use Rattle.std.proofs.Common.{◌≡◌, ◌≢◌, ◌<◌, ℕ, false, cond, refl, sym, ◌∙◌, ap, subst, inl, inr}
use Rattle.std.specs.Prelude.{Option, Some, None}
use Rattle.std.specs.Option.{option_map}
use Rattle.std.proofs.lemmas.Bool.Decides.{eqb_tells}
use Rattle.bus_link.specs.Script.{Script}
use Rattle.bus_link.specs.declared.link.Cause.{Cause}
use Rattle.cq_engine.specs.Standings.{OneOpen, is_open}
use Rattle.cq_engine.proofs.Places.{length-remembered, set-other, set-same}
use Rattle.cq_engine.proofs.SlotLaws.{advanced-other}
use Rattle.cq_regs.specs.Slots.{advanced, progress_of}
use Rattle.cq_regs.specs.declared.slots.Progress.{Progress}
use Rattle.cq_regs.specs.declared.slots.Progress.TheVariants.{Named, Rung}
use Rattle.cq_schedule.specs.Held.{held_at, left_at, newly_held, noted, remembered}
use Rattle.cq_schedule.specs.declared.held.HeldTask.{HeldTask}
use Rattle.cq_task.specs.declared.slot.DataTask.{DataTask}
use Rattle.cq_task.specs.declared.slot.SlotTask.TheVariants.{Data}
use Rattle.drv_core.specs.State.{asks_notice}
use Rattle.drv_ring.specs.Task.{task_of}
use Rattle.world_state.specs.Engine.{phase_left}
use Rattle.world_state.specs.Path.{PathState, holder, job, layout, plan_of}
use Rattle.world_state.specs.Ties.{HoldsJob, IsInImage, TagRuns, is_queued, words_of}
use Rattle.command_laws.proofs.Held.{found_and, noted-at}
use Rattle.command_laws.proofs.Naming.{is_named, named_card, named_held, named_regs, rung_unqueued}
use Rattle.command_laws.proofs.Onwards.{IsJobsTask, if_some_all, named_out, queued_by, same_runs}
use Rattle.command_laws.proofs.Parts.{path_with}

module _ (p : PathState) (cause : Option Cause) (slot id : ℕ) (task : DataTask) (script : Script) (below : slot < 32) (is : holder p slot ≡ Some id)
    (asks : task_of (layout p) slot (job p id) (asks_notice (plan_of p) (job p id)) ≡ Data task) (rung : progress_of p.regs.ring slot ≡ Rung) where
  abbrev after : PathState
  after = path_with p (record { held = noted (named_held p slot task) (named_regs p slot task); cause = cause }) (named_regs p slot task)
      (phase_left (named_card p slot task) false) script

  abbrev now : Progress
  now = progress_of (advanced p.regs.ring slot) slot

  place : held_at after.engine.held slot ≡ Some (record (newly_held task) { progress = now })
  place =
      noted-at (named_held p slot task) (named_regs p slot task) slot below
      ∙ ap (left_at now) (set-same (remembered p.engine.held p.regs) slot (Some (newly_held task)) (subst (λ n. slot < n) (sym (length-remembered p.engine.held p.regs)) below))

  named : now ≡ Named
  named = is_named p.regs.ring slot rung

  runs_named : TagRuns p slot → TagRuns after slot
  runs_named r = record {
    holds = λ begun.
        found_and (holder p slot) (HoldsJob after slot) id is
        (record {
          held =
              found_and (held_at after.engine.held slot) (IsJobsTask p slot id now) (record (newly_held task) { progress = now }) place
              (refl, asks, λ x. refl);
        });
    queue = record {
      queued =
          r.queue.queued ∙ rung_unqueued p slot rung
          ∙ sym (ap (λ progress. cond (is_queued progress) (option_map (queued_by slot) (held_at after.engine.held slot)) None) named);
      chosen = λ ready. absurd (cc (named, ready));
      waits = λ n. sym (ap (option_map (λ (h : HeldTask). words_of slot h.task.desc)) place);
    };
    inside = if_some_all (holder p slot) (IsInImage after slot) (λ other h. absurd (named_out now named h));
  }

  runs_other : (tag : ℕ) → tag < 32 → tag ≢ slot → OneOpen (advanced p.regs.ring slot) → TagRuns p tag → TagRuns after tag
  runs_other tag low apart one r =
      same_runs p after.engine after.regs after.card script tag low r
      (record {
        progress = advanced-other p.regs.ring slot tag apart;
        place =
            noted-at (named_held p slot task) (named_regs p slot task) tag low
            ∙ ap (left_at (progress_of (advanced p.regs.ring slot) tag)) (set-other (remembered p.engine.held p.regs) slot tag (Some (newly_held task)) apart);
        queued = refl;
        unnamed = λ other. apart (one tag slot (ap is_open other) (ap is_open named));
        image = refl;
      })
      (λ ready. r.queue.chosen (sym (advanced-other p.regs.ring slot tag apart) ∙ ready))

  pub naming_runs : (tag : ℕ) → tag < 32 → OneOpen (advanced p.regs.ring slot) → ((tag : ℕ) → tag < 32 → TagRuns p tag) → TagRuns after tag
  naming_runs tag low one all =
      let T : ℕ → Type 0 = λ n. TagRuns after n in
      elim (eqb_tells tag slot) [
        | inl t ↦ subst T (sym t.1) (runs_named (all slot below))
        | inr t ↦ runs_other tag low t.1 one (all tag low)
      ]
