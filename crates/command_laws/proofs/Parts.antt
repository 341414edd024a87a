-- An event of the engine in parts, and the path that it leaves, written out.
use Rattle.std.proofs.Common.{◌≡◌, Bool, sym, ◌∙◌, ap, subst}
use Rattle.std.specs.Prelude.{Option, None, is_some, if◌then◌else◌}
use Rattle.std.specs.Option.{option_or}
use Rattle.array_edge.specs.Array.{ArrayState}
use Rattle.bus_link.specs.Script.{Script}
use Rattle.card_core.specs.Card.{CardState}
use Rattle.card_core.specs.declared.phase.Phase.{Phase}
use Rattle.card_link.specs.Behind.{Behind, behind}
use Rattle.card_link.specs.Made.{CardMade}
use Rattle.cq_engine.specs.Event.{Does}
use Rattle.cq_engine.specs.Outcome.{Holding, Host, Outcome, host_of, outcome_of, stop_of}
use Rattle.cq_engine.specs.declared.did.Did.{Did}
use Rattle.cq_regs.specs.State.{Registers}
use Rattle.cq_regs.specs.declared.slots.Progress.TheVariants.{Active}
use Rattle.cq_schedule.specs.Held.{Places, noted, remembered}
use Rattle.cq_schedule.specs.Meaning.{HasItsSlot, IsDue}
use Rattle.cq_schedule.specs.Order.{first_at}
use Rattle.cq_schedule.specs.declared.rules.Due.{Due}
use Rattle.host_mem.specs.Memory.{Memory}
use Rattle.drv_core.specs.State.{DriverState}
use Rattle.world_state.specs.Engine.{EngineEvent, phase_left, phase_taken}
use Rattle.world_state.specs.Path.{PathState, behind_path, is_busy}

-- the path with other engine, registers, card and bus
abbrev pub path_with : PathState → Holding → Registers → CardState → Script → PathState
path_with p engine regs card script = record p { engine = engine; regs = regs; card = card; script = script }

-- what the engine holds after an event
abbrev pub holding : Places → Registers → Did → Holding → Holding
holding held regs did engine = record { held = noted held regs; cause = option_or (stop_of did) engine.cause }

-- whether a data phase is under way, by the registers
abbrev pub busy_in : Registers → Bool
busy_in regs = is_some (if regs.stopped then None else first_at Active regs.ring)

-- the tasks that the engine remembers at the event's begin, and the registers
abbrev pub host_at : PathState → Host
host_at p = host_of (remembered p.engine.held p.regs) p.regs

pub record Facts (p : PathState) (a : ArrayState) (p' : PathState) (a' : ArrayState) (did : Did) (due : Due) : Type 0 where
  pub card : CardState
  pub held : Places
  pub is_due : IsDue (remembered p.engine.held p.regs) p.regs p.memory due
  pub slot : HasItsSlot (remembered p.engine.held p.regs) p.regs due
  pub does : Does CardMade (behind_path p a) (behind card a' p'.script) (host_at p) p.memory p'.memory (outcome_of did held p'.regs) due
  pub left : p'.card ≡ phase_left card (is_busy p')
  pub engine : p'.engine ≡ holding held p'.regs did p.engine

abbrev pub facts : (p : PathState) (a : ArrayState) (p' : PathState) (a' : ArrayState) (did : Did) (phase : Option Phase) (e : EngineEvent p a p' a' did phase) (due : Due)
    → e.event.acts.due ≡ due → Facts p a p' a' did due
facts p a p' a' did phase e due is =
    let held = e.event.left.held in
    let I : Due → Type 0 = λ d. IsDue (remembered p.engine.held p.regs) p.regs p.memory d in
    let S : Due → Type 0 = λ d. HasItsSlot (remembered p.engine.held p.regs) p.regs d in
    let D : Due → Registers → Type 0 =
    λ d r. Does CardMade (behind_path p a) (behind e.card a' p'.script) (host_at p) p.memory p'.memory (outcome_of did held r) d in
    record {
      card = e.card;
      held = held;
      is_due = subst I is e.event.acts.is_due;
      slot = subst S is e.event.acts.slot;
      does = subst (D due) (sym e.event.registers) (subst (λ d. D d e.event.left.regs) is e.event.acts.does);
      left = e.left;
      engine = e.event.keeps ∙ ap (λ r. holding held r did p.engine) (sym e.event.registers);
    }

-- what the event came to, in parts that are written out
pub record Ends (p : PathState) (a : ArrayState) (p' : PathState) (a' : ArrayState) (did : Did) (phase : Option Phase) (d : Did) (q : PathState) (taken : Option Phase)
    : Type 0 where
  pub did_is : did ≡ d
  pub path : p' ≡ q
  pub array : a' ≡ a
  pub taken_is : phase ≡ taken

-- what is shown of these parts is so of the event
pub land : (S : PathState → ArrayState → Did → Option Phase → Type 0) (p : PathState) (a : ArrayState) (p' : PathState) (a' : ArrayState) (did : Did)
    (phase : Option Phase) (d : Did) (q : PathState) (taken : Option Phase) → EngineEvent p a p' a' did phase → Ends p a p' a' did phase d q taken
    → (EngineEvent p a q a d taken → S q a d taken) → S p' a' did phase
land S p a p' a' did phase d q taken e x f =
    let E1 : PathState → Type 0 = λ v. EngineEvent p a v a' did phase in
    let E2 : ArrayState → Type 0 = λ v. EngineEvent p a q v did phase in
    let E3 : Did → Type 0 = λ v. EngineEvent p a q a v phase in
    let E4 : Option Phase → Type 0 = λ v. EngineEvent p a q a d v in
    let S1 : PathState → Type 0 = λ v. S v a' did phase in
    let S2 : ArrayState → Type 0 = λ v. S q v did phase in
    let S3 : Did → Type 0 = λ v. S q a v phase in
    let S4 : Option Phase → Type 0 = λ v. S q a d v in
    let own = f (subst E4 x.taken_is (subst E3 x.did_is (subst E2 x.array (subst E1 x.path e)))) in
    subst S1 (sym x.path) (subst S2 (sym x.array) (subst S3 (sym x.did_is) (subst S4 (sym x.taken_is) own)))

path_is : (p p' : PathState) (card : CardState) (engine : Holding) (regs : Registers) (script : Script) → p'.driver ≡ p.driver → p'.memory ≡ p.memory
    → p'.card ≡ card → p'.engine ≡ engine → p'.regs ≡ regs → p'.script ≡ script → p' ≡ path_with p engine regs card script
path_is p p' card engine regs script d m c e r s =
    ap (λ (x : DriverState). record p' { driver = x }) d
    ∙ ap (λ (x : Memory). record p' { driver = p.driver; memory = x }) m
    ∙ ap (λ (x : CardState). record p' { driver = p.driver; memory = p.memory; card = x }) c
    ∙ ap (λ (x : Holding). record p' { driver = p.driver; memory = p.memory; card = card; engine = x }) e
    ∙ ap (λ (x : Registers). record p' { driver = p.driver; memory = p.memory; card = card; engine = engine; regs = x }) r
    ∙ ap (λ (x : Script). record p' { driver = p.driver; memory = p.memory; card = card; engine = engine; regs = regs; script = x }) s

pub ends_as : (p : PathState) (a : ArrayState) (p' : PathState) (a' : ArrayState) (did : Did) (phase : Option Phase) (due : Due)
    (e : EngineEvent p a p' a' did phase) (f : Facts p a p' a' did due) (d : Did) (held : Places) (regs : Registers) (card : CardState) (script : Script) (busy : Bool)
    → e.card ≡ f.card → p'.memory ≡ p.memory → outcome_of did f.held p'.regs ≡ outcome_of d held regs → behind f.card a' p'.script ≡ behind card a script
    → busy_in regs ≡ busy
    → Ends p a p' a' did phase d (path_with p (holding held regs d p.engine) regs (phase_left card busy) script) (phase_taken card busy)
ends_as p a p' a' did phase due e f d held regs card script busy same m o b on =
    let did_is : did ≡ d = ap (λ (x : Outcome). x.did) o in
    let held_is : f.held ≡ held = ap (λ (x : Outcome). x.host.held) o in
    let regs_is : p'.regs ≡ regs = ap (λ (x : Outcome). x.host.regs) o in
    let card_is : f.card ≡ card = ap (λ (x : Behind). x.card) b in
    let busy_is : is_busy p' ≡ busy = ap busy_in regs_is ∙ on in
    record {
      did_is = did_is;
      path =
          path_is p p' (phase_left card busy) (holding held regs d p.engine) regs script e.driver m
          (f.left ∙ ap (λ x. phase_left x (is_busy p')) card_is ∙ ap (λ x. phase_left card x) busy_is)
          (f.engine ∙ ap (λ x. holding x p'.regs did p.engine) held_is ∙ ap (λ x. holding held x did p.engine) regs_is
          ∙ ap (λ x. holding held regs x p.engine) did_is)
          regs_is (ap (λ (x : Behind). x.script) b);
      array = ap (λ (x : Behind). x.array) b;
      taken_is = e.taken ∙ ap (λ x. phase_taken x (is_busy p')) (same ∙ card_is) ∙ ap (λ x. phase_taken card x) busy_is;
    }
