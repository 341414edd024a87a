-- The ties where a command stopped the engine.
use Rattle.std.proofs.Common.{◌≡◌, ℕ, Bool, true, false, cond, refl, ◌∙◌, ap}
use Rattle.std.specs.Prelude.{Option, None, IfSome}
use Rattle.std.specs.Int.RustNames.{bit_and, bit_or}
use Rattle.std.proofs.lemmas.Bool.{false≢true}
use Rattle.array_edge.specs.Array.{ArrayState}
use Rattle.bus_link.specs.Script.{Script}
use Rattle.card_core.specs.Card.{CardState}
use Rattle.card_core.specs.declared.phase.Phase.{Phase}
use Rattle.cq_engine.specs.Outcome.{Holding}
use Rattle.cq_engine.specs.declared.did.Did.{Did}
use Rattle.cq_regs.specs.Slots.{is_rung, progress_of}
use Rattle.cq_regs.specs.State.{Registers}
use Rattle.drv_core.specs.State.{is_recovering}
use Rattle.world_state.specs.Engine.{EngineEvent}
use Rattle.world_state.specs.Path.{PathState, plan_of}
use Rattle.world_state.specs.Ties.{AreTied, IsCardOf, IsScript, named_by}
use Rattle.command_laws.proofs.Parts.{path_with}
use Rattle.command_laws.proofs.TiesOn.{IsCalm, fixed, regs_with, ties_on}
use Rattle.command_laws.proofs.Words.{raised-same}

-- a stop leaves the notice as it was
pub interrupts_same : (p : PathState) → AreTied p → bit_or p.regs.interrupts (bit_and 4 p.regs.status_enable) ≡ p.regs.interrupts
interrupts_same p t =
    ap (λ enabled. bit_or p.regs.interrupts (bit_and 4 enabled)) (ap (λ r. r.status_enable) t.regs.same) ∙ raised-same p.regs.interrupts

none_runs : (b : Bool) → cond b false false ≡ true → ⊥
none_runs true e = false≢true e
none_runs false e = false≢true e

-- the registers of a stop
abbrev pub stop_regs : PathState → (information index word : ℕ) → Registers
stop_regs p information index word =
    regs_with p.regs true (bit_or p.regs.interrupts (bit_and 4 p.regs.status_enable)) p.regs.ring p.regs.queue_status information index word

pub stop_ties : (p : PathState) (a a' : ArrayState) (did : Did) (phase : Option Phase) (engine : Holding) (information index word : ℕ) (card : CardState) (script : Script)
    → AreTied p → IsCalm p → IsCardOf (plan_of p) card → card.begun ≡ None → IsScript script
    → IfSome (named_by engine.cause) (λ tag. is_rung (progress_of p.regs.ring tag) ≡ true)
    → EngineEvent p a (path_with p engine (stop_regs p information index word) card script) a' did phase
    → AreTied (path_with p engine (stop_regs p information index word) card script)
stop_ties p a a' did phase engine information index word card script t calm c begun s named e =
    ties_on p a a' did phase engine (stop_regs p information index word) card script t calm e
    (record {
      fixed =
          fixed p true (bit_or p.regs.interrupts (bit_and 4 p.regs.status_enable)) p.regs.ring p.regs.queue_status information index word t
          (interrupts_same p t) t.regs.ring (λ tag. refl);
      card_is = c;
      script_is = s;
      running = λ r. absurd (none_runs (is_recovering p.driver.recovery) r);
      begun = begun;
      phase = tt;
      ahead = tt;
      hit = tt;
      heard = tt;
      fails = tt;
      names = λ _. named;
    })
