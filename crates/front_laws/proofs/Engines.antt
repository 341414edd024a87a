-- An event of the engine: its first line alone may be a phase's, and behind its lines no phase is under way.
use Rattle.std.proofs.Common.{◌≡◌, ◌∙◌, ℕ, ◌==◌, ◌+◌, Bool, true, false, cond, List, [], ◌∷◌, ◌++◌, Option, None, Some, refl, ap, sym, subst}
use Rattle.std.specs.Prelude.{◌&&◌, ◌||◌, IfSome, if◌then◌else◌, is_some, not}
use Rattle.std.proofs.lemmas.Bool.{and_parts, false≢true}
use Rattle.storage_model.specs.declared.faults.BusKind.{BusKind}
use Rattle.storage_model.specs.declared.faults.BusKind.TheVariants.{Bad, Late, Lost as LostCommand, NoResp}
use Rattle.storage_model.specs.declared.faults.Letter.TheVariants.{Engine as EngineActs}
use Rattle.storage_model.specs.declared.trace.Item.{Item}
use Rattle.storage_model.specs.declared.trace.Item.TheVariants.{Card, Issue, Params, Address, Poll, Phase, Discard, Bus, Flash, Recover, Irq, Done, Read, Sector, Status, Fault, Refused, Cut, Lost, On, Left, Turn, Off}
use Rattle.storage_machine.specs.Commands.{due, hit, is_calm, is_gone, is_kind, next_number, same_kind}
use Rattle.storage_machine.specs.declared.commands.DueCommand.{DueCommand}
use Rattle.storage_machine.specs.declared.commands.DueCommand.TheVariants.{Execute}
use Rattle.storage_machine.specs.declared.state.Event.TheVariants.{Told as ToldEvent}
use Rattle.storage_machine.specs.declared.state.Owed.TheVariants.{Nothing}
use Rattle.storage_machine.specs.declared.state.State.{State}
use Rattle.storage_order.specs.Events.{Begins, Fits, More}
use Rattle.storage_order.specs.Order.{is_phase}
use Rattle.trace_effects.specs.Effects.{begun, effect}
use Rattle.trace_rules.specs.Lines.{address_holds, bus_holds, holds, is_address, is_heard, is_missed, is_params, is_poll, params_holds, poll_holds}
use Rattle.trace_rules.specs.Steps.{is_line_of, stands_in}
use Rattle.array_edge.specs.Array.{ArrayState}
use Rattle.bus_link.specs.Link.{tells_flash}
use Rattle.bus_link.specs.declared.link.Cause.{Cause}
use Rattle.bus_link.specs.declared.link.Cause.TheVariants.{Bus as BusFault, Response, Dark}
use Rattle.card_core.specs.declared.phase.Phase.{Phase as CardPhase}
use Rattle.cmd_words.specs.declared.command.Command.{Command}
use Rattle.cmd_words.specs.declared.command.Command.TheVariants as command
use Rattle.cq_engine.specs.declared.did.Did.{Did}
use Rattle.cq_engine.specs.declared.did.Did.TheVariants as did
use Rattle.cut_order.specs.Order.{OrderState}
use Rattle.front_laws.proofs.Lines.{all_still, is_still, more_still, still_same}
use Rattle.front_laws.proofs.Now.{busy_of}
use Rattle.front_laws.proofs.Phases.{phase_ends}
use Rattle.front_laws.proofs.Ways.{way_due}
use Rattle.front_laws.proofs.Whole.{LeavesIdle, dark_fronts, fits_holds, is_front, told_fronts}
use Rattle.front_laws.specs.Fronts.{EngineIsNear, FrontsNear}
use Rattle.world_state.specs.Engine.{EngineEvent, broken_phase, command_lines, engine_lines, id_at, is_dark, phase_line_of, shows_phase, stop_lines}
use Rattle.world_state.specs.Laws.{EngineLaws, StateLaws}
use Rattle.world_state.specs.Path.{PathState, is_busy, under_way}
use Rattle.world_state.specs.Reading.{Context, state_of}
use Rattle.world_state.specs.Stands.{Agrees}
use Rattle.world_state.specs.Steps.{CommandSteps, EngineStep, PhaseSteps, is_of_phase}
use Rattle.world_state.specs.Ties.{AreTied}

-- the lines of an event

phase_front : (p p' : PathState) (phase : Option CardPhase) → is_front (phase_line_of p p' phase) ≡ true
phase_front p p' None = refl
phase_front p p' (Some phase) = refl

command_front : (p p' : PathState) (c : Command) → is_front (command_lines p p' c) ≡ true
command_front p p' (command.Switch arg) = refl
command_front p p' (command.Status true rca) = refl
command_front p p' (command.Status false rca) = refl
command_front p p' (command.Params task) = refl
command_front p p' (command.Address start) = refl
command_front p p' (command.Execute read task) = refl
command_front p p' (command.Manage whole task) = refl
command_front p p' (command.Other index arg) = refl

bus_front : (p p' : PathState) (n : ℕ) (kind : BusKind) (id : Option ℕ) (phase : Option CardPhase) (shows : Bool)
    → is_front ((if shows then phase_line_of p p' phase else []) ++ Bus n kind id ∷ []) ≡ true
bus_front p p' n kind id None true = refl
bus_front p p' n kind id (Some phase) true = refl
bus_front p p' n kind id phase false = refl

flash_front : (p p' : PathState) (n id : ℕ) (phase : Option CardPhase) (tells : Bool) → is_front (if tells then phase_line_of p p' phase ++ Flash (Some id) ∷ [] else Address n id ∷ []) ≡ true
flash_front p p' n id None true = refl
flash_front p p' n id (Some phase) true = refl
flash_front p p' n id phase false = refl

stop_front : (p p' : PathState) (phase : Option CardPhase) (cause : Cause) → is_front (stop_lines p p' phase cause) ≡ true
stop_front p p' phase (BusFault kind None) = refl
stop_front p p' phase (BusFault kind (Some tag)) = bus_front p p' p'.script.sent kind (Some (id_at p tag)) phase (shows_phase p tag)
stop_front p p' phase (Response word tag) = flash_front p p' p'.script.sent (id_at p tag) phase (tells_flash word)
stop_front p p' phase Dark = phase_front p p' phase

lines_front : (p p' : PathState) (d : Did) (phase : Option CardPhase) → is_front (engine_lines p p' d phase) ≡ true
lines_front p p' did.Idle phase = refl
lines_front p p' (did.Sent c) phase = command_front p p' c
lines_front p p' (did.Direct slot) phase = phase_front p p' phase
lines_front p p' (did.Moved slot) phase = refl
lines_front p p' (did.Finished slot) phase = phase_front p p' phase
lines_front p p' (did.Dropped slot why) phase = refl
lines_front p p' (did.Stopped cause) phase = stop_front p p' phase cause

-- while a phase is under way, no other line of the engine may stand

gone_kind : (k kind : BusKind) → is_gone (Some kind) ≡ true → same_kind k kind ≡ true → is_gone (Some k) ≡ true
gone_kind LostCommand kind gone e = refl
gone_kind NoResp kind gone e = refl
gone_kind (Bad block) LostCommand gone e = absurd (false≢true e)
gone_kind (Bad block) NoResp gone e = absurd (false≢true e)
gone_kind (Bad block) (Bad other) gone e = absurd (false≢true gone)
gone_kind (Bad block) Late gone e = absurd (false≢true gone)
gone_kind Late LostCommand gone e = absurd (false≢true e)
gone_kind Late NoResp gone e = absurd (false≢true e)
gone_kind Late (Bad other) gone e = absurd (false≢true gone)
gone_kind Late Late gone e = absurd (false≢true gone)

gone_hit : (h : Option BusKind) (kind : BusKind) → is_gone (Some kind) ≡ true → is_kind h kind ≡ true → is_gone h ≡ true
gone_hit None kind gone e = absurd (false≢true e)
gone_hit (Some k) kind gone e = gone_kind k kind gone e

abbrev told : State → State
told s = record s { owed = Nothing; event = ToldEvent EngineActs }

due_told : (s : State) → due (told s) ≡ due s
unfolding due
due_told s = refl

hit_told : (s : State) → hit (told s) ≡ hit s
unfolding hit due
hit_told s = refl

-- a phase of the tag is under way, and its command was heard
record Goes (s : State) (tag : ℕ) : Type 0 where
  due_is : due s ≡ Execute tag
  heard : is_gone (hit s) ≡ false

not_params : (s : State) (tag n id : ℕ) → Goes s tag → params_holds s n id ≡ true → ⊥
unfolding params_holds
not_params s tag n id goes h = false≢true (sym (ap (is_params s id) goes.due_is) ∙ (and_parts (is_heard s n) _ h).1)

not_address : (s : State) (tag n id : ℕ) → Goes s tag → address_holds s n id ≡ true → ⊥
unfolding address_holds
not_address s tag n id goes h = false≢true (sym (ap (is_address s id) goes.due_is) ∙ (and_parts (is_heard s n) _ h).1)

not_poll : (s : State) (tag n mask : ℕ) → Goes s tag → poll_holds s n mask ≡ true → ⊥
unfolding poll_holds
not_poll s tag n mask goes h = false≢true (sym (ap is_poll goes.due_is) ∙ (and_parts (is_poll (due s)) _ (and_parts (is_heard s n) _ h).1).0)

not_bus : (s : State) (tag n : ℕ) (kind : BusKind) (id : Option ℕ) → Goes (told s) tag → bus_holds (told s) n kind id ≡ true → ⊥
unfolding bus_holds
not_bus s tag n kind id goes h =
    let gone = and_parts (is_gone (Some kind)) _ (and_parts (n == next_number s) _ h).1 in
    let same = and_parts (is_kind (hit (told s)) kind) (is_missed (told s) kind id s.recovery) gone.1 in
    false≢true (sym goes.heard ∙ gone_hit (hit (told s)) kind gone.0 same.0)

not_while_busy : (s : State) (tag : ℕ) (item : Item) → Goes (told s) tag → Fits (told s) item → holds (told s) item ≡ true → is_still item ≡ true → ⊥
unfolding holds
not_while_busy s tag (Card sectors depth lines) goes fits h still = false≢true still
not_while_busy s tag (Turn letter) goes fits h still = false≢true still
not_while_busy s tag (Issue id slot) goes fits h still = false≢true fits.stands
not_while_busy s tag (Params n id) goes fits h still = not_params (told s) tag n id goes h
not_while_busy s tag (Address n id) goes fits h still = not_address (told s) tag n id goes h
not_while_busy s tag (Poll n mask) goes fits h still = not_poll (told s) tag n mask goes h
not_while_busy s tag (Phase n id count kept) goes fits h still = false≢true still
not_while_busy s tag (Bus n kind id) goes fits h still = not_bus s tag n kind id goes h
not_while_busy s tag (Flash id) goes fits h still = false≢true fits.stands
not_while_busy s tag (Irq mask) goes fits h still = false≢true fits.stands
not_while_busy s tag (Done id) goes fits h still = false≢true fits.stands
not_while_busy s tag (Read id) goes fits h still = false≢true fits.stands
not_while_busy s tag (Sector value) goes fits h still = false≢true fits.stands
not_while_busy s tag (Status id word) goes fits h still = false≢true fits.stands
not_while_busy s tag Recover goes fits h still = false≢true fits.stands
not_while_busy s tag (Discard n) goes fits h still = false≢true fits.stands
not_while_busy s tag (Fault id why) goes fits h still = false≢true fits.stands
not_while_busy s tag (Refused id why) goes fits h still = false≢true fits.stands
not_while_busy s tag Cut goes fits h still = false≢true still
not_while_busy s tag (Lost id) goes fits h still = false≢true still
not_while_busy s tag On goes fits h still = false≢true still
not_while_busy s tag (Left sector value) goes fits h still = false≢true still
not_while_busy s tag (Off end) goes fits h still = false≢true still

some_true : (o : Option ℕ) (P : ℕ → Type 0) (tag : ℕ) → o ≡ Some tag → IfSome o P → P tag
some_true o P tag e h = let Q : Option ℕ → Type 0 = λ x. IfSome x P in subst Q e h

goes_way : StateLaws → (p : PathState) (a : ArrayState) (o : OrderState) (c : Context) (tag : ℕ) → Agrees p a c → under_way p ≡ Some tag → Goes (told (state_of p o c)) tag
goes_way laws p a o c tag agrees way =
    let s : State = state_of p o c in
    let engine : EngineLaws p o c = laws.engine p o c agrees.tied agrees.number in
    record {
      due_is = due_told s ∙ way_due laws p o c tag agrees.tied agrees.number way;
      heard = ap is_gone (hit_told s ∙ engine.under_way (ap is_some way)) ∙ some_true (under_way p) (λ tag. is_gone p.script.hit ≡ false) tag way agrees.tied.heard;
    }

-- whether a phase is under way behind the first line

still_busy : (s t : State) (first : Item) (others : List Item) → is_still first ≡ true → all_still others ≡ true → More (effect s first) others t → t.busy ≡ s.busy
still_busy s t first others still rest more = (more_still (effect s first) t others rest more).busy ∙ (still_same s first still).busy

still_idle : StateLaws → (p : PathState) (a : ArrayState) (o : OrderState) (c : Context) (way : Option ℕ) (first : Item) → Agrees p a c → under_way p ≡ way
    → Fits (begun (state_of p o c) EngineActs) first → is_still first ≡ true → is_busy p ≡ false
unfolding begun
still_idle laws p a o c None first agrees e fits still = ap is_some e
still_idle laws p a o c (Some tag) first agrees e fits still =
    absurd (not_while_busy (state_of p o c) tag first (goes_way laws p a o c tag agrees e) fits (fits_holds (told (state_of p o c)) first fits) still)

begun_busy : (s : State) → (begun s EngineActs).busy ≡ s.busy
unfolding begun
begun_busy s = refl

first_idle : StateLaws → (p : PathState) (a : ArrayState) (o : OrderState) (c : Context) (first : Item) (others : List Item) (t : State) (still : Bool) → Agrees p a c → is_still first ≡ still
    → (is_phase first || is_still first) ≡ true → all_still others ≡ true → Begins (begun (state_of p o c) EngineActs) first others t → t.busy ≡ false
first_idle laws p a o c first others t true agrees e may rest begins =
    still_busy (begun (state_of p o c) EngineActs) t first others e rest begins.more
    ∙ begun_busy (state_of p o c)
    ∙ busy_of p o c
    ∙ still_idle laws p a o c (under_way p) first agrees refl begins.first e
first_idle laws p a o c first others t false agrees e may rest begins =
    (more_still (effect (begun (state_of p o c) EngineActs) first) t others rest begins.more).busy ∙ phase_idle first e may
  where
    phase_idle : (item : Item) → is_still item ≡ false → (is_phase item || is_still item) ≡ true → (effect (begun (state_of p o c) EngineActs) item).busy ≡ false
    phase_idle (Card sectors depth lines) e may = absurd (false≢true may)
    phase_idle (Turn letter) e may = absurd (false≢true may)
    phase_idle (Issue id tag) e may = absurd (false≢true (sym e))
    phase_idle (Params n id) e may = absurd (false≢true (sym e))
    phase_idle (Address n id) e may = absurd (false≢true (sym e))
    phase_idle (Poll n mask) e may = absurd (false≢true (sym e))
    phase_idle (Phase n id count kept) e may = phase_ends (begun (state_of p o c) EngineActs) n id count kept
    phase_idle (Bus n kind id) e may = absurd (false≢true (sym e))
    phase_idle (Flash id) e may = absurd (false≢true (sym e))
    phase_idle (Irq mask) e may = absurd (false≢true (sym e))
    phase_idle (Done id) e may = absurd (false≢true (sym e))
    phase_idle (Read id) e may = absurd (false≢true (sym e))
    phase_idle (Sector value) e may = absurd (false≢true (sym e))
    phase_idle (Status id word) e may = absurd (false≢true (sym e))
    phase_idle Recover e may = absurd (false≢true (sym e))
    phase_idle (Discard n) e may = absurd (false≢true (sym e))
    phase_idle (Fault id why) e may = absurd (false≢true (sym e))
    phase_idle (Refused id why) e may = absurd (false≢true (sym e))
    phase_idle Cut e may = absurd (false≢true may)
    phase_idle (Lost id) e may = absurd (false≢true may)
    phase_idle On e may = absurd (false≢true may)
    phase_idle (Left sector value) e may = absurd (false≢true may)
    phase_idle (Off end) e may = absurd (false≢true may)

leaves_idle : StateLaws → (p : PathState) (a : ArrayState) (items : List Item) → is_front items ≡ true → LeavesIdle EngineActs p a items
leaves_idle laws p a items front = λ o c agrees first others t e begins.
    let parts = and_parts (is_phase first || is_still first) (all_still others) (sym (ap is_front e) ∙ front) in
    first_idle laws p a o c first others t (is_still first) agrees refl parts.0 parts.1 begins

-- an event of the engine

by_step : StateLaws → (p : PathState) (a : ArrayState) (p' : PathState) (a' : ArrayState) (d : Did) (phase : Option CardPhase) (dark : Bool) → is_dark d ≡ dark
    → EngineStep p a p' a' d phase → FrontsNear EngineActs p a (engine_lines p p' d phase) a'
by_step laws p a p' a' d phase true e step =
    dark_fronts EngineActs p a (engine_lines p p' d phase) p' a' (step.darkens laws e) (lines_front p p' d phase)
by_step laws p a p' a' d phase false e step =
    let front = lines_front p p' d phase in
    told_fronts EngineActs p a (engine_lines p p' d phase) p' a' (step.tells laws e) front (leaves_idle laws p a (engine_lines p p' d phase) front)

step_of : CommandSteps → PhaseSteps → (p : PathState) (a : ArrayState) (p' : PathState) (a' : ArrayState) (d : Did) (phase : Option CardPhase) (e : EngineEvent p a p' a' d phase) (of_phase : Bool)
    → is_of_phase p e.event.acts.due ≡ of_phase → AreTied p → EngineStep p a p' a' d phase
step_of commands phases p a p' a' d phase e true is t = phases p a p' a' d phase e is t
step_of commands phases p a p' a' d phase e false is t = commands p a p' a' d phase e is t

pub engine_near : EngineIsNear
engine_near laws commands phases p a p' a' d phase e t =
    by_step laws p a p' a' d phase (is_dark d) refl (step_of commands phases p a p' a' d phase e (is_of_phase p e.event.acts.due) refl t)
