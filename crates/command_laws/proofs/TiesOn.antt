-- The ties after a command: what it leaves stays tied, and what it changes is asked for.
use Rattle.std.proofs.Common.{◌≡◌, ◌⊎◌, ◌<◌, ◌+◌, ℕ, Bool, true, false, cond, length, refl, sym, ◌∙◌, ap, subst, arith}
use Rattle.std.specs.Prelude.{not, Option, Some, None, IfSome, MatchOption, nat_lt, List}
use Rattle.std.proofs.lemmas.Bool.{false≢true, true≢false}
use Rattle.array_edge.specs.Array.{ArrayState}
use Rattle.bus_link.specs.Script.{Script, armed, struck, word_used}
use Rattle.card_core.specs.Card.{CardState}
use Rattle.card_core.specs.declared.phase.DataPhase.{DataPhase}
use Rattle.card_core.specs.declared.phase.Phase.{Phase}
use Rattle.cmd_words.specs.declared.command.Command.{Command}
use Rattle.cq_engine.specs.Outcome.{Holding}
use Rattle.cq_engine.specs.declared.did.Did.{Did}
use Rattle.cq_regs.specs.Slots.{IsRing, has_bit, is_rung, progress_of}
use Rattle.cq_regs.specs.State.{Registers}
use Rattle.cq_regs.specs.declared.slots.Progress.{Progress}
use Rattle.cq_regs.specs.declared.slots.Progress.TheVariants.{Idle, Rung, Named, Sent, Ready, Active}
use Rattle.cq_regs.specs.declared.slots.Ringed.{Ringed}
use Rattle.drv_recover.specs.Recovery.{IsAt}
use Rattle.drv_recover.specs.declared.recovery.RecoveryState.{RecoveryState}
use Rattle.drv_recover.specs.declared.recovery.RecoveryState.TheVariants as driver
use Rattle.storage_machine.specs.Commands.{is_gone}
use Rattle.storage_model.specs.declared.plan.Plan.{Plan}
use Rattle.task_queue.specs.Places.{Queue}
use Rattle.task_queue.specs.Queue.{depth as queue_depth}
use Rattle.world_state.specs.Engine.{EngineEvent}
use Rattle.world_state.specs.Path.{PathState, holder, moved, plan_of, runs, under_way}
use Rattle.world_state.specs.Reading.{is_free, notice_of}
use Rattle.world_state.specs.Ties.{AreTied, IsBeforeFault, NamesRung, HasHit, HasPhase, HasSetUp, IsAhead, IsCardOf, IsIssued, IsScript, IsVacant, TagRuns, is_discarded, phase_words}
use Rattle.command_laws.proofs.Parts.{path_with}

-- no recovery is under way
abbrev pub IsCalm : PathState → Type 0
IsCalm p = p.driver.recovery ≡ driver.Calm

-- of the registers, what a command leaves
pub record Fixed (p : PathState) (regs : Registers) : Type 0 where
  pub halted : regs.halted ≡ p.regs.halted
  pub completed : regs.completed ≡ p.regs.completed
  pub counter : regs.coalescing.counter ≡ p.regs.coalescing.counter
  pub interrupts : regs.interrupts ≡ p.regs.interrupts
  pub response : regs.direct_response ≡ p.regs.direct_response
  pub set_up : HasSetUp (plan_of p) regs
  pub rung : (tag : ℕ) → is_rung (progress_of regs.ring tag) ≡ is_rung (progress_of p.regs.ring tag)

-- the registers that a command changes
abbrev pub regs_with : Registers → (stopped : Bool) → (interrupts : ℕ) → List Ringed → (status information index argument : ℕ) → Registers
regs_with regs stopped interrupts ring status information index argument = record regs {
  stopped = stopped;
  interrupts = interrupts;
  ring = ring;
  queue_status = status;
  error_information = information;
  response_index = index;
  response_argument = argument;
}

pub fixed : (p : PathState) (stopped : Bool) (interrupts : ℕ) (ring : List Ringed) (status information index argument : ℕ) → AreTied p
    → interrupts ≡ p.regs.interrupts → IsRing ring
    → ((tag : ℕ) → is_rung (progress_of ring tag) ≡ is_rung (progress_of p.regs.ring tag))
    → Fixed p (regs_with p.regs stopped interrupts ring status information index argument)
fixed p stopped interrupts ring status information index argument t same is_ring rung =
    let N : ℕ → Type 0 = λ n. (n ≡ 0) ⊎ (n ≡ 2) in
    record {
      halted = refl;
      completed = refl;
      counter = refl;
      interrupts = same;
      response = refl;
      set_up = record {
        same = ap (λ r. regs_with r stopped interrupts ring status information index argument) t.regs.same;
        notice = subst N (sym same) t.regs.notice;
        ring = is_ring;
        small = t.regs.small;
        counted = t.regs.counted;
      };
      rung = rung;
    }

-- the card with another queue, phase, and phase begun
abbrev pub card_with : CardState → Queue → Option DataPhase → Option Phase → CardState
card_with card queue phase begun = record card { queue = queue; phase = phase; begun = begun }

pub card_on : (plan : Plan) (card : CardState) (queue : Queue) (phase : Option DataPhase) (begun : Option Phase) → IsCardOf plan card
    → queue_depth queue ≡ queue_depth card.queue → IsCardOf plan (card_with card queue phase begun)
card_on plan card queue phase begun h e = record {
  depth = h.depth;
  lines = h.lines;
  through = h.through;
  csd = h.csd;
  places = e ∙ h.places;
  room = h.room;
  few = h.few;
  epoch = h.epoch;
}

-- the script after a command
pub script_armed : (script : Script) (command : Command) (blocks : ℕ) → IsScript script → IsScript (armed script command blocks)
script_armed script command blocks h = record { rising = h.rising; small = h.small; words = h.words; sent = omega arith }

pub script_struck : (script : Script) → IsScript script → IsScript (struck script)
script_struck script h = record { rising = h.rising; small = h.small; words = h.words; sent = h.sent }

used_if : (script : Script) (b : Bool) → nat_lt script.used (length script.ready) ≡ b → IsScript script
    → IsScript (cond b (record script { used = script.used + 1 }) script)
used_if script true e h = record { rising = h.rising; small = h.small; words = grind (arith, e); sent = h.sent }
used_if script false e h = h

pub script_used : (script : Script) → IsScript script → IsScript (word_used script)
script_used script h = used_if script (nat_lt script.used (length script.ready)) refl h

-- what is asked for
pub record Onward (p : PathState) (engine : Holding) (regs : Registers) (card : CardState) (script : Script) : Type 0 where
  pub fixed : Fixed p regs
  pub card_is : IsCardOf (plan_of p) card
  pub script_is : IsScript script
  pub running : runs (path_with p engine regs card script) ≡ true → (tag : ℕ) → tag < 32 → TagRuns (path_with p engine regs card script) tag
  pub begun : card.begun ≡ phase_words (path_with p engine regs card script) (under_way (path_with p engine regs card script))
  pub phase : IfSome (under_way (path_with p engine regs card script)) (HasPhase (path_with p engine regs card script))
  pub ahead : IfSome (under_way (path_with p engine regs card script)) (IsAhead (path_with p engine regs card script))
  pub hit : IfSome (under_way (path_with p engine regs card script)) (HasHit (path_with p engine regs card script))
  pub heard : IfSome (under_way (path_with p engine regs card script)) (λ tag. is_gone script.hit ≡ false)
  pub fails : IfSome (under_way (path_with p engine regs card script)) (λ tag. IsBeforeFault script.hit (moved (path_with p engine regs card script)))
  pub names : NamesRung (path_with p engine regs card script)

idle_of : (progress : Progress) → is_rung progress ≡ false → progress ≡ Idle
idle_of Idle e = refl
idle_of Rung e = absurd (true≢false e)
idle_of Named e = absurd (true≢false e)
idle_of Sent e = absurd (true≢false e)
idle_of Ready e = absurd (true≢false e)
idle_of Active e = absurd (true≢false e)

pub tag_by : (p : PathState) (engine : Holding) (regs : Registers) (card : CardState) (script : Script) (tag : ℕ)
    → is_rung (progress_of regs.ring tag) ≡ is_rung (progress_of p.regs.ring tag) → regs.completed ≡ p.regs.completed → (o : Option ℕ)
    → MatchOption o (IsVacant p tag) (IsIssued p tag)
    → MatchOption o (IsVacant (path_with p engine regs card script) tag) (IsIssued (path_with p engine regs card script) tag)
tag_by p engine regs card script tag rung completed None v = record {
  idle = idle_of (progress_of regs.ring tag) (rung ∙ ap is_rung v.idle);
  silent = ap (λ word. has_bit word tag) completed ∙ v.silent;
}
tag_by p engine regs card script tag rung completed (Some id) i = record {
  asks = i.asks;
  data_held = i.data_held;
  rung = rung ∙ i.rung ∙ sym (ap (λ word. not (has_bit word tag)) completed);
}

calm_at : (p : PathState) (regs : Registers) → IsCalm p → IsAt p.driver.recovery regs
calm_at p regs calm = let P : RecoveryState → Type 0 = λ r. IsAt r regs in subst P (sym calm) tt

pub ties_on : (p : PathState) (a a' : ArrayState) (did : Did) (phase : Option Phase) (engine : Holding) (regs : Registers) (card : CardState) (script : Script)
    → AreTied p → IsCalm p → EngineEvent p a (path_with p engine regs card script) a' did phase → Onward p engine regs card script
    → AreTied (path_with p engine regs card script)
ties_on p a a' did phase engine regs card script t calm e o =
    let N : ℕ → Type 0 = λ word. ((cond (is_free p.driver.recovery) false (has_bit word 1)) ≡ true) ⊎ (0 < regs.coalescing.counter) in
    let C : ℕ → Type 0 = λ count. (notice_of p ≡ true) ⊎ (0 < count) in
    record {
      sound = t.sound;
      layout_fits = t.layout_fits;
      holds = e.holds;
      lie = e.lie;
      counts = e.counts t.counts;
      one = e.one t.one;
      regs = o.fixed.set_up;
      card = o.card_is;
      store = e.store;
      script = o.script_is;
      borne = record { waiting = t.borne.waiting; issued = t.borne.issued };
      recovery_at = calm_at p regs calm;
      calm = λ c. o.fixed.halted ∙ t.calm c;
      halts = λ h. absurd (cc (calm, h));
      held = λ r. o.fixed.completed ∙ t.held r;
      tags = λ r tag below. tag_by p engine regs card script tag (o.fixed.rung tag) o.fixed.completed (holder p tag) (t.tags r tag below);
      running = o.running;
      alone = t.alone;
      emptied = λ d. absurd (false≢true (ap is_discarded (sym calm) ∙ d));
      begun = o.begun;
      phase = o.phase;
      ahead = o.ahead;
      hit = o.hit;
      heard = o.heard;
      fails = o.fails;
      names = o.names;
      told = λ n.
          subst N (sym o.fixed.interrupts) (subst C (sym o.fixed.counter) (t.told (λ z. n (o.fixed.completed ∙ z))));
      status = λ d. o.fixed.response ∙ t.status (sym (ap (λ word. has_bit word 31) o.fixed.completed) ∙ d);
    }
