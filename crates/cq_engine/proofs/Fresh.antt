-- An engine with registers of which no slot is rung, and that say no stop.
use Rattle.std.proofs.Common.{◌≡◌, false, sym, ◌∙◌, ap}
use Rattle.std.specs.Prelude.{List, [], Option}
use Rattle.std.proofs.lemmas.Bool.{false≢true}
use Rattle.bus_link.specs.declared.link.Cause.{Cause}
use Rattle.cq_regs.specs.declared.slots.Ringed.{Ringed}
use Rattle.cq_regs.specs.State.{Registers}
use Rattle.cq_regs.specs.Slots.{is_begun, progress_of}
use Rattle.cq_schedule.specs.Held.{Places}
use Rattle.cq_engine.specs.Holds.{Holds}

pub holds_fresh : (held : Places) (cause : Option Cause) (regs : Registers) → regs.stopped ≡ false → regs.ring ≡ []
    → Holds (record { held = held; cause = cause }) regs
holds_fresh held cause regs runs empty = record {
  cause = λ stopped. absurd (false≢true (sym runs ∙ stopped));
  tasks = λ _ slot below begun. absurd (false≢true (sym (ap (λ (ring : List Ringed). is_begun (progress_of ring slot)) empty) ∙ begun));
}
