-- A command of the engine, by what became of it: lost, not answered, or answered.
use Rattle.std.proofs.Common.{◌≡◌, ℕ, Bool, false, refl, ◌∙◌, ap}
use Rattle.std.specs.Prelude.{Option, Some, Result, Ok, Err}
use Rattle.array_edge.specs.Array.{ArrayState}
use Rattle.bus_link.specs.Script.{Script, struck}
use Rattle.bus_link.specs.declared.link.Cause.TheVariants.{Bus as BusFault}
use Rattle.bus_link.specs.declared.link.LinkEnd.{LinkEnd}
use Rattle.bus_link.specs.declared.link.LinkEnd.TheVariants.{Bus}
use Rattle.card_core.specs.Card.{CardState}
use Rattle.card_core.specs.Response.{response_to}
use Rattle.card_core.specs.Response.Response.{Tell}
use Rattle.card_core.specs.declared.phase.Phase.{Phase}
use Rattle.card_link.specs.Behind.{behind}
use Rattle.card_link.specs.Made.{CardMade, choice_of, heard, hit_on, sent}
use Rattle.cmd_words.specs.declared.command.Command.{Command}
use Rattle.cq_engine.specs.Event.{Exchanges}
use Rattle.cq_engine.specs.Outcome.{Outcome, outcome_of, stopped_with}
use Rattle.cq_engine.specs.declared.did.Did.{Did}
use Rattle.cq_engine.specs.declared.did.Did.TheVariants.{Stopped}
use Rattle.cq_regs.specs.State.{Registers}
use Rattle.cq_schedule.specs.Held.{Places, remembered}
use Rattle.cq_schedule.specs.declared.rules.Due.{Due}
use Rattle.storage_machine.specs.Commands.{is_gone}
use Rattle.storage_model.specs.declared.faults.BusKind.{BusKind}
use Rattle.storage_model.specs.declared.faults.BusKind.TheVariants.{Lost, NoResp}
use Rattle.world_state.specs.Engine.{EngineEvent, phase_left, phase_taken}
use Rattle.world_state.specs.Path.{PathState, behind_path}
use Rattle.command_laws.proofs.Crossings.{Crossed, crossed}
use Rattle.command_laws.proofs.Crossings.Crossed.{lost, silent, answered}
use Rattle.command_laws.proofs.Parts.{Facts, busy_in, ends_as, holding, land, path_with}

-- the path after a fault of the bus
abbrev pub stop_path : PathState → BusKind → Option ℕ → ℕ → CardState → Script → PathState
stop_path p kind who information card script =
    path_with p (holding (remembered p.engine.held p.regs) (stopped_with p.regs information) (Stopped (BusFault kind who)) p.engine)
    (stopped_with p.regs information) (phase_left card false) script

abbrev pub stop_did : BusKind → Option ℕ → Did
stop_did kind who = Stopped (BusFault kind who)

-- the path after an answer
abbrev pub good_path : PathState → Did → Places → Registers → CardState → Bool → Script → PathState
good_path p d held regs card busy script = path_with p (holding held regs d p.engine) regs (phase_left card busy) script

-- what is to be shown of each
abbrev pub OfLost : (PathState → ArrayState → Did → Option Phase → Type 0) → PathState → ArrayState → Command → Option ℕ → ℕ → Type 0
OfLost S p a command who information =
    hit_on (behind_path p a) command ≡ Some Lost
    → EngineEvent p a (stop_path p Lost who information p.card (struck (sent (behind_path p a) command))) a (stop_did Lost who) (phase_taken p.card false)
    → S (stop_path p Lost who information p.card (struck (sent (behind_path p a) command))) a (stop_did Lost who) (phase_taken p.card false)

abbrev pub OfSilent : (PathState → ArrayState → Did → Option Phase → Type 0) → PathState → ArrayState → Command → Option ℕ → ℕ → CardState → Type 0
OfSilent S p a command who information told =
    hit_on (behind_path p a) command ≡ Some NoResp
    → EngineEvent p a (stop_path p NoResp who information told (struck (heard (sent (behind_path p a) command) command))) a (stop_did NoResp who)
    (phase_taken told false)
    → S (stop_path p NoResp who information told (struck (heard (sent (behind_path p a) command) command))) a (stop_did NoResp who) (phase_taken told false)

abbrev pub OfAnswered : (PathState → ArrayState → Did → Option Phase → Type 0) → PathState → ArrayState → Command → CardState → Did → Places → Registers → Bool → Type 0
OfAnswered S p a command told d held regs busy =
    is_gone (hit_on (behind_path p a) command) ≡ false
    → EngineEvent p a (good_path p d held regs told busy (heard (sent (behind_path p a) command) command)) a d (phase_taken told busy)
    → S (good_path p d held regs told busy (heard (sent (behind_path p a) command) command)) a d (phase_taken told busy)

-- how the answer leads on
pub record Leads (p : PathState) (word : ℕ) (who : Option ℕ) (information : ℕ) (after : Result ℕ LinkEnd → Outcome) (d : Did) (held : Places) (regs : Registers) : Type 0 where
  pub fault : (kind : BusKind) → after (Err (Bus kind)) ≡ outcome_of (stop_did kind who) (remembered p.engine.held p.regs) (stopped_with p.regs information)
  pub good : after (Ok word) ≡ outcome_of d held regs

pub cases : (S : PathState → ArrayState → Did → Option Phase → Type 0) (p : PathState) (a : ArrayState) (p' : PathState) (a' : ArrayState) (did : Did)
    (phase : Option Phase) (due : Due) (e : EngineEvent p a p' a' did phase) (f : Facts p a p' a' did due) → e.card ≡ f.card
    → (command : Command) (word : ℕ) (told : CardState) (who : Option ℕ) (information : ℕ) (after : Result ℕ LinkEnd → Outcome)
    (d : Did) (held : Places) (regs : Registers) (busy : Bool)
    → Exchanges CardMade (behind_path p a) (behind f.card a' p'.script) command (outcome_of did f.held p'.regs) after
    → p'.memory ≡ p.memory
    → response_to p.card command (choice_of (sent (behind_path p a) command) command) ≡ Tell word told
    → Leads p word who information after d held regs
    → (p'.regs ≡ regs → busy_in regs ≡ busy)
    → OfLost S p a command who information → OfSilent S p a command who information told → OfAnswered S p a command told d held regs busy
    → S p' a' did phase
cases S p a p' a' did phase due e f same command word told who information after d held regs busy x m r leads on of_lost of_silent of_answered =
    by_crossed (crossed command word told (behind_path p a) (behind f.card a' p'.script) x.answer r x.crossed)
  where
    by_crossed : Crossed command word told (behind_path p a) (behind f.card a' p'.script) x.answer → S p' a' did phase
    by_crossed (lost hit is new) =
        let o = x.outcome ∙ ap after is ∙ leads.fault Lost in
        land S p a p' a' did phase (stop_did Lost who) (stop_path p Lost who information p.card (struck (sent (behind_path p a) command)))
        (phase_taken p.card false) e
        (ends_as p a p' a' did phase due e f (stop_did Lost who) (remembered p.engine.held p.regs) (stopped_with p.regs information) p.card
        (struck (sent (behind_path p a) command)) false same m o new refl)
        (of_lost hit)
    by_crossed (silent hit is new) =
        let o = x.outcome ∙ ap after is ∙ leads.fault NoResp in
        land S p a p' a' did phase (stop_did NoResp who)
        (stop_path p NoResp who information told (struck (heard (sent (behind_path p a) command) command))) (phase_taken told false) e
        (ends_as p a p' a' did phase due e f (stop_did NoResp who) (remembered p.engine.held p.regs) (stopped_with p.regs information) told
        (struck (heard (sent (behind_path p a) command) command)) false same m o new refl)
        (of_silent hit)
    by_crossed (answered hit is new) =
        let o = x.outcome ∙ ap after is ∙ leads.good in
        land S p a p' a' did phase d (good_path p d held regs told busy (heard (sent (behind_path p a) command) command)) (phase_taken told busy) e
        (ends_as p a p' a' did phase due e f d held regs told (heard (sent (behind_path p a) command) command) busy same m o new
        (on (ap (λ (v : Outcome). v.host.regs) o)))
        (of_answered hit)
