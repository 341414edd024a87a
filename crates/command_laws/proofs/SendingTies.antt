-- The ties after CMD45.
use Rattle.std.proofs.Common.{◌≡◌, ◌≢◌, ◌<◌, ◌≤◌, ◌+◌, ℕ, true, false, cond, length, refl, sym, ◌∙◌, ap, subst, arith, inl, inr}
use Rattle.std.specs.Prelude.{nat_lt, Option, Some, None, IfSome}
use Rattle.std.specs.Option.{option_map}
use Rattle.std.proofs.lemmas.Bool.Decides.{eqb_tells, nat_tests}
use Rattle.std.proofs.lemmas.List.{get_or-set_other, get_or-set_same}
use Rattle.bus_link.specs.Script.{Script}
use Rattle.bus_link.specs.declared.link.Cause.{Cause}
use Rattle.card_core.specs.Card.{sectors}
use Rattle.cq_engine.proofs.SlotLaws.{advanced-other}
use Rattle.cq_regs.specs.Slots.{advanced, is_begun, progress_of}
use Rattle.cq_regs.specs.declared.slots.Progress.{Progress}
use Rattle.cq_regs.specs.declared.slots.Progress.TheVariants.{Named, Sent}
use Rattle.cq_schedule.specs.Held.{held_at, left_at, noted, remembered}
use Rattle.storage_model.specs.Plan.{blocks_of}
use Rattle.task_queue.specs.Queue.{is_ready, new_place}
use Rattle.task_queue.specs.declared.queue.Place.{Place}
use Rattle.world_state.specs.Engine.{phase_left}
use Rattle.world_state.specs.Path.{PathState, holder, job}
use Rattle.world_state.specs.Ties.{AreTied, IsInImage, TagRuns, is_queued, words_of}
use Rattle.command_laws.proofs.Begun.{BegunTask}
use Rattle.command_laws.proofs.Held.{noted-at}
use Rattle.command_laws.proofs.Onwards.{holds_on, queued_by, queued_on, same_runs}
use Rattle.command_laws.proofs.Parts.{path_with}
use Rattle.command_laws.proofs.Sending.{is_past, is_sent, sent_card, sent_open, sent_regs}

pub some_if : (o : Option ℕ) (id : ℕ) (P : ℕ → Type 0) → o ≡ Some id → P id → IfSome o P
some_if o id P e h = let Q : Option ℕ → Type 0 = λ v. IfSome v P in subst Q (sym e) h

not_past : (sectors start blocks : ℕ) → nat_lt sectors (start + blocks) ≡ false → start + blocks ≤ sectors
not_past sectors start blocks e = grind (arith, nat_tests, e)

module _ (p : PathState) (cause : Option Cause) (slot : ℕ) (b : BegunTask p slot) (script : Script) (t : AreTied p) (below : slot < 32)
    (named : progress_of p.regs.ring slot ≡ Named) (near : is_past p b.h.task.desc ≡ false) where
  abbrev after : PathState
  after = path_with p (record { held = noted (remembered p.engine.held p.regs) (sent_regs p slot b.h.task.desc); cause = cause }) (sent_regs p slot b.h.task.desc)
      (phase_left (sent_card p slot b.h.task.desc) false) script

  abbrev now : Progress
  now = progress_of (advanced p.regs.ring slot) slot

  sent_now : now ≡ Sent
  sent_now = is_sent p.regs.ring slot named

  begun : is_begun (progress_of p.regs.ring slot) ≡ true
  begun = ap is_begun named

  place : held_at after.engine.held slot ≡ left_at now (held_at p.engine.held slot)
  place = noted-at (remembered p.engine.held p.regs) (sent_regs p slot b.h.task.desc) slot below ∙ ap (left_at now) (b.remembered_is ∙ sym b.place)

  deep : slot < length p.card.queue.slots
  deep = subst (λ n. slot < n) (sym (t.card.places ∙ t.card.depth)) b.below

  in_image : IsInImage after slot b.id
  in_image _ =
      let fits = not_past (sectors p.card) b.h.task.desc.start b.h.task.desc.blocks near in
      subst (λ n. n + blocks_of (job p b.id) ≤ sectors p.card) b.of.start (subst (λ n. b.h.task.desc.start + n ≤ sectors p.card) b.of.blocks fits)

  runs_sent : TagRuns after slot
  runs_sent = record {
    holds = λ _. holds_on p after.engine after.regs after.card script slot b.runs begun place (λ n e. absurd (cc (named, e)));
    queue = record {
      queued =
          ap (option_map (λ (place : Place). place.queued))
          (get_or-set_same p.card.queue.slots slot (Some (new_place (words_of slot b.h.task.desc) b.h.task.desc.start)) None deep)
          ∙ sym (queued_on p after.engine after.regs after.card script slot place
          ∙ ap (λ progress. cond (is_queued progress) (option_map (queued_by slot) (held_at p.engine.held slot)) None) sent_now
          ∙ ap (option_map (queued_by slot)) b.place);
      chosen = λ ready. absurd (cc (sent_now, ready));
      waits = λ n. absurd (cc (sent_now, n));
    };
    inside = some_if (holder p slot) b.id (IsInImage after slot) b.is in_image;
  }

  runs_other : (tag : ℕ) → tag < 32 → tag ≢ slot → TagRuns p tag → TagRuns after tag
  runs_other tag low apart r =
      let place_is = get_or-set_other p.card.queue.slots slot tag (Some (new_place (words_of slot b.h.task.desc) b.h.task.desc.start)) None apart in
      same_runs p after.engine after.regs after.card script tag low r
      (record {
        progress = advanced-other p.regs.ring slot tag apart;
        place = noted-at (remembered p.engine.held p.regs) (sent_regs p slot b.h.task.desc) tag low;
        queued = ap (option_map (λ (place : Place). place.queued)) place_is;
        unnamed = sent_open p.regs.ring slot tag Named t.one named refl;
        image = refl;
      })
      (λ ready. ap is_ready place_is ∙ r.queue.chosen (sym (advanced-other p.regs.ring slot tag apart) ∙ ready))

  pub sending_runs : (tag : ℕ) → tag < 32 → ((tag : ℕ) → tag < 32 → TagRuns p tag) → TagRuns after tag
  sending_runs tag low all =
      let T : ℕ → Type 0 = λ n. TagRuns after n in
      elim (eqb_tells tag slot) [
        | inl e ↦ subst T (sym e.1) runs_sent
        | inr e ↦ runs_other tag low e.1 (all tag low)
      ]
