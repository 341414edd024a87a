-- The event of CMD46 or CMD47 prints no phase's line.
use Rattle.std.proofs.Common.{◌≡◌, ◌==◌, ◌++◌, ℕ, refl, ◌∙◌, ap, Bool, true, false, List, [], ◌∷◌}
use Rattle.std.specs.Prelude.{cond, is_some, ◌||◌, Option, Some, None}
use Rattle.array_edge.specs.Array.{ArrayState}
use Rattle.bus_link.specs.Script.{Script}
use Rattle.bus_link.specs.declared.link.Cause.TheVariants.{Bus as BusFault}
use Rattle.card_core.specs.declared.phase.Phase.{Phase}
use Rattle.cmd_words.specs.declared.command.Command.TheVariants.{Execute as ExecuteCommand}
use Rattle.command_laws.proofs.Executing.{executing_cases, is_executing}
use Rattle.command_laws.proofs.GoodState.{not_direct}
use Rattle.command_laws.proofs.Parts.{facts}
use Rattle.command_laws.proofs.Running.{running}
use Rattle.cq_engine.specs.declared.did.Did.{Did}
use Rattle.cq_engine.specs.declared.did.Did.TheVariants.{Sent as SentCommand, Stopped}
use Rattle.cq_regs.specs.declared.slots.Progress.TheVariants.{Active}
use Rattle.cq_schedule.specs.Held.{remembered}
use Rattle.cq_schedule.specs.Order.{first_at}
use Rattle.cq_schedule.specs.declared.rules.Due.TheVariants.{Execute}
use Rattle.storage_model.specs.declared.faults.BusKind.{BusKind}
use Rattle.storage_model.specs.declared.trace.Item.{Item}
use Rattle.storage_model.specs.declared.trace.Item.TheVariants.{Bus as BusLine}
use Rattle.storage_order.specs.Order.{is_phase}
use Rattle.world_state.specs.Engine.{EngineEvent, engine_lines, id_at, phase_line_of}
use Rattle.world_state.specs.Path.{PathState, is_busy}
use Rattle.world_state.specs.Ties.{AreTied}
use Rattle.world_steps.proofs.Dues.{none_active}

-- the first line is that of a phase
abbrev pub begins_phase : List Item → Bool
begins_phase [] = false
begins_phase (item ∷ items) = is_phase item

none_either : (stopped : Bool) → is_some {T = ℕ} (cond stopped None None) ≡ false
none_either true = refl
none_either false = refl

idle : (p : PathState) → first_at Active p.regs.ring ≡ None → is_busy p ≡ false
idle p e = ap (λ active. is_some (cond p.regs.stopped None active)) e ∙ none_either p.regs.stopped

-- an event's lines begin with no phase
record Bare (p q : PathState) (did : Did) (phase : Option Phase) : Type 0 where
  pub first : begins_phase (engine_lines p q did phase) ≡ false

bus_first : (p q : PathState) (kind : BusKind) (slot : ℕ) (phase : Option Phase) → is_busy p ≡ false → (slot == 31) ≡ false
    → begins_phase (engine_lines p q (Stopped (BusFault kind (Some slot))) phase) ≡ false
bus_first p q kind slot phase quiet low =
    let items : Bool → List Item = λ b. cond b (phase_line_of p q phase) [] ++ BusLine q.script.sent kind (Some (id_at p slot)) ∷ [] in
    ap (λ b. begins_phase (items (b || (slot == 31)))) quiet ∙ ap (λ b. begins_phase (items b)) low

bus_bare : (p q : PathState) (kind : BusKind) (slot : ℕ) (phase : Option Phase) → is_busy p ≡ false → (slot == 31) ≡ false
    → Bare p q (Stopped (BusFault kind (Some slot))) phase
bus_bare p q kind slot phase quiet low = record { first = bus_first p q kind slot phase quiet low }

sent_bare : (p q : PathState) (read : Bool) (slot : ℕ) (phase : Option Phase) → Bare p q (SentCommand (ExecuteCommand read slot)) phase
sent_bare p q read slot phase = record { first = refl }

-- the phase only begins, or the command was lost or not answered
pub executes_bare : (p : PathState) (a : ArrayState) (p' : PathState) (a' : ArrayState) (did : Did) (phase : Option Phase) (e : EngineEvent p a p' a' did phase) (slot : ℕ)
    → AreTied p → e.event.acts.due ≡ Execute slot → begins_phase (engine_lines p p' did phase) ≡ false
executes_bare p a p' a' did phase e slot t is =
    let held = remembered p.engine.held p.regs in
    let f = facts p a p' a' did phase e (Execute slot) is in
    let r = running p held (Execute slot) t f.is_due (λ x. cc x) (λ x. cc x) in
    let n = is_executing p a p' a' did slot f t r in
    let quiet = idle p (none_active held p.regs p.memory (Execute slot) f.is_due refl) in
    let low = not_direct p slot t n.task.below in
    let S : PathState → ArrayState → Did → Option Phase → Type 0 = λ q b d taken. Bare p q d taken in
    let bare : Bare p p' did phase =
    executing_cases S p a p' a' did phase e slot is t r n
    (λ _ _. bus_bare p _ _ slot _ quiet low) (λ _ _. bus_bare p _ _ slot _ quiet low) (λ _ _. sent_bare p _ _ slot _) in
    bare.first
