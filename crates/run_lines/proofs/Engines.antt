-- The engine's event that no letter tells is taken.
use Rattle.std.proofs.Common.{length, inl, inr, ◌≡◌, ◌∙◌, ℕ, Bool, true, false, Option, Some, None, cond, ◌&&◌, ◌==◌, find, option_map, refl, ap, sym}
use Rattle.std.proofs.lemmas.Bool.{false≢true, and_parts}
use Rattle.storage_machine.specs.Commands.{due, execute_blocks, hit, met, next_number, is_calm, is_gone, is_kind, polled_mask}
use Rattle.storage_machine.specs.Cuts.{is_due}
use Rattle.storage_machine.specs.Jobs.{is_in_range, job_of}
use Rattle.storage_machine.specs.Host.{has_work, recovery_steps, to_do}
use Rattle.storage_machine.specs.declared.commands.DueCommand.TheVariants.{Idle, Execute}
use Rattle.storage_machine.specs.declared.state.Event.{Event}
use Rattle.storage_machine.specs.declared.state.Event.TheVariants.{Untold, Told}
use Rattle.storage_machine.specs.declared.state.Owed.TheVariants.{Nothing}
use Rattle.storage_machine.specs.declared.state.Recovery.{Recovery}
use Rattle.storage_machine.specs.declared.state.Recovery.TheVariants.{Calm}
use Rattle.storage_machine.specs.declared.state.State.{State}
use Rattle.storage_model.specs.declared.faults.BusKind.{BusKind}
use Rattle.storage_model.specs.declared.faults.BusKind.TheVariants.{Lost as IsLost, NoResp, Bad, Late}
use Rattle.storage_model.specs.declared.faults.Letter.TheVariants.{Host, Engine}
use Rattle.storage_model.specs.declared.trace.Item.{Item}
use Rattle.storage_model.specs.declared.trace.Item.TheVariants.{Params, Address, Poll, Bus}
use Rattle.storage_order.proofs.Accepts.{holds_unbroken}
use Rattle.storage_order.specs.Events.{Fits, end_rule, ended, may_pass}
use Rattle.storage_order.specs.Order.{entered, forced, is_alone, is_next, next_actor, is_of_cut, needs_step, order_rule, settled, start_rule, starts}
use Rattle.storage_runs.proofs.Ends.{First}
use Rattle.run_lines.proofs.Hosts.{next_turn, first_event, forced_steps, idle_due}
use Rattle.storage_runs.proofs.Hushes.{Rests}
use Rattle.storage_runs.proofs.Lags.{Reached, calm_work, due_busy, due_tick, not_true}
use Rattle.storage_runs.proofs.Lines.{event_none}
use Rattle.storage_runs.proofs.Mores.{calm_steps, no_step, start_none}
use Rattle.storage_runs.proofs.Turns.{behind_rested, due_owed}
use Rattle.storage_runs.specs.Laws.{StandsAt, rested}
use Rattle.trace_effects.specs.Effects.{addressed, after_address, after_bus, after_params, after_poll, effect, letters_left, over}
use Rattle.trace_rules.specs.Lines.{address_holds, bus_by_owed, bus_holds, is_address, is_heard, is_missed_now, is_params, holds, is_free, is_missed, is_poll, is_target, line_rule, params_holds, poll_holds}
use Rattle.trace_rules.specs.Steps.{earlier, event_rule, is_cut, is_left_so, is_line_of, is_nothing, lower, yields_to_cut}

-- where no event is told, each line begins one
pub untold_starts : (m : State) (item : Item) → is_free m.owed ≡ true → m.event ≡ Untold → starts m item ≡ true
unfolding starts
untold_starts m item free e = rw (free, e) refl

-- how a line is taken that begins an event, where no cut is due or the event is that of one
pub record Enters (m x b : State) (item : Item) : Type 0 where
  pub entered : entered m item ≡ x
  pub order : start_rule (is_due (ended m)) x item ≡ None
  pub line : line_rule x item ≡ None
  pub event : event_rule x item ≡ None
  pub effect : effect x item ≡ effect b item

enters_settled : (m x : State) (item : Item) → starts m item ≡ true → entered m item ≡ x → settled m item ≡ x
unfolding settled
enters_settled m x item first at = rw first at

enters_order : (m x : State) (item : Item) → starts m item ≡ true → end_rule m ≡ None → entered m item ≡ x → start_rule (is_due (ended m)) x item ≡ None → order_rule m item ≡ None
unfolding order_rule
enters_order m x item first end at order =
    rw first (ap (λ rule. lower rule (start_rule (is_due (ended m)) (entered m item) item)) end ∙ (ap (λ x. start_rule (is_due (ended m)) x item) at ∙ order))

pub enters_first : (m x b : State) (item : Item) → starts m item ≡ true → end_rule m ≡ None → Enters m x b item → First m b item
enters_first m x b item first end enters = record {
  at = x;
  settled = enters_settled m x item first enters.entered;
  order = enters_order m x item first end enters.entered enters.order;
  line = enters.line;
  event = enters.event;
  effect = enters.effect;
}

-- the engine's commands, but a phase and a cut
abbrev pub is_command : Item → Bool
is_command (Params n id) = true
is_command (Address n id) = true
is_command (Poll n mask) = true
is_command (Bus n kind id) = true
is_command item = false

pub record IsCommands (s : State) (item : Item) : Type 0 where
  pub cut : is_cut item ≡ false
  pub of_cut : is_of_cut item ≡ false
  pub needs : needs_step s item ≡ false
  pub yields : yields_to_cut s item ≡ true
  pub so : is_left_so s item ≡ true

commands_of : (s : State) (item : Item) → is_command item ≡ true → IsCommands s item
commands_of s (Params n id) is = record { cut = refl; of_cut = refl; needs = refl; yields = refl; so = refl }
commands_of s (Address n id) is = record { cut = refl; of_cut = refl; needs = refl; yields = refl; so = refl }
commands_of s (Poll n mask) is = record { cut = refl; of_cut = refl; needs = refl; yields = refl; so = refl }
commands_of s (Bus n kind id) is = record { cut = refl; of_cut = refl; needs = refl; yields = refl; so = refl }
commands_of s item is = absurd (cc)

pub command_line : (s : State) (event : Event) (item : Item) → is_command item ≡ true → line_rule (record s { event = event }) item ≡ line_rule s item
unfolding line_rule holds params_holds address_holds poll_holds bus_holds due hit polled_mask
command_line s event (Params n id) is = refl
command_line s event (Address n id) is = refl
command_line s event (Poll n mask) is = refl
command_line s event (Bus n kind id) is = refl
command_line s event item is = absurd (cc)

address_event : (s : State) (event : Event) (id : ℕ) (inside : Bool) → over (addressed s id inside) Nothing ≡ over (addressed (record s { event = event }) id inside) Nothing
address_event s event id true = refl
address_event s event id false = refl

command_effect : (s : State) (event : Event) (item : Item) → is_command item ≡ true → effect s item ≡ effect (record s { event = event }) item
unfolding effect after_params after_address after_poll after_bus due
command_effect s event (Params n id) is = refl
command_effect s event (Address n id) is = address_event (record s { n = n }) event id (is_in_range (job_of s.plan.jobs id) (length s.base))
command_effect s event (Poll n mask) is = refl
command_effect s event (Bus n kind id) is = refl
command_effect s event item is = absurd (cc)

missed_none : (s : State) (kind : BusKind) (id : Option ℕ) (recovery : Recovery) → is_calm recovery ≡ true → due s ≡ Idle → is_missed s kind id recovery ≡ true → false ≡ true
missed_none s kind None Calm calm idle is = sym (ap (is_target s kind None) idle) ∙ is
missed_none s kind (Some id) Calm calm idle is = sym (ap (is_target s kind (Some id)) idle) ∙ is
missed_none s kind id recovery calm idle is = absurd (cc)

gone_kind : (found : Option BusKind) (kind : BusKind) → is_gone (Some kind) ≡ true → is_kind found kind ≡ true → is_gone found ≡ true
gone_kind None kind gone is = absurd (cc)
gone_kind (Some IsLost) kind gone is = refl
gone_kind (Some NoResp) kind gone is = refl
gone_kind (Some (Bad block)) IsLost gone is = absurd (cc)
gone_kind (Some (Bad block)) NoResp gone is = absurd (cc)
gone_kind (Some (Bad block)) (Bad other) gone is = absurd (cc)
gone_kind (Some (Bad block)) Late gone is = absurd (cc)
gone_kind (Some Late) IsLost gone is = absurd (cc)
gone_kind (Some Late) NoResp gone is = absurd (cc)
gone_kind (Some Late) (Bad other) gone is = absurd (cc)
gone_kind (Some Late) Late gone is = absurd (cc)

bus_parts : (s : State) (n : ℕ) (kind : BusKind) (id : Option ℕ) → is_missed_now s n kind id ≡ true → (is_gone (Some kind) ≡ true) × (is_kind (hit s) kind ≡ true) × (is_missed s kind id s.recovery ≡ true)
bus_parts s n kind id h =
    let first = and_parts (n == next_number s) (is_gone (Some kind) && (is_kind (hit s) kind && is_missed s kind id s.recovery)) h in
    let second = and_parts (is_gone (Some kind)) (is_kind (hit s) kind && is_missed s kind id s.recovery) first.1 in
    let third = and_parts (is_kind (hit s) kind) (is_missed s kind id s.recovery) second.1 in
    (second.0, third.0, third.1)

-- no such command is heard of where nothing is due, or a phase
pub not_due : (s : State) (item : Item) → is_command item ≡ true → s.owed ≡ Nothing → is_calm s.recovery ≡ true → holds s item ≡ true → due s ≡ Idle → false ≡ true
unfolding holds params_holds address_holds poll_holds bus_holds
not_due s (Params n id) is owed calm h idle = sym (ap (is_params s id) idle) ∙ (and_parts (is_heard s n) (is_params s id (due s)) h).1
not_due s (Address n id) is owed calm h idle = sym (ap (is_address s id) idle) ∙ (and_parts (is_heard s n) (is_address s id (due s)) h).1
not_due s (Poll n mask) is owed calm h idle = sym (ap is_poll idle) ∙ (and_parts (is_poll (due s)) (mask == polled_mask s) (and_parts (is_heard s n) (is_poll (due s) && (mask == polled_mask s)) h).1).0
not_due s (Bus n kind id) is owed calm h idle = missed_none s kind id s.recovery calm idle (bus_parts s n kind id (sym (ap (bus_by_owed s n kind id) owed) ∙ h)).2
not_due s item is owed calm h idle = absurd (cc)

pub not_executed : (s : State) (item : Item) (tag : ℕ) → is_command item ≡ true → s.owed ≡ Nothing → holds s item ≡ true → due s ≡ Execute tag → is_gone (hit s) ≡ false → false ≡ true
unfolding holds params_holds address_holds poll_holds bus_holds
not_executed s (Params n id) tag is owed h at heard = sym (ap (is_params s id) at) ∙ (and_parts (is_heard s n) (is_params s id (due s)) h).1
not_executed s (Address n id) tag is owed h at heard = sym (ap (is_address s id) at) ∙ (and_parts (is_heard s n) (is_address s id (due s)) h).1
not_executed s (Poll n mask) tag is owed h at heard = sym (ap is_poll at) ∙ (and_parts (is_poll (due s)) (mask == polled_mask s) (and_parts (is_heard s n) (is_poll (due s) && (mask == polled_mask s)) h).1).0
not_executed s (Bus n kind id) tag is owed h at heard =
    let parts = bus_parts s n kind id (sym (ap (bus_by_owed s n kind id) owed) ∙ h) in
    sym heard ∙ gone_kind (hit s) kind parts.0 parts.1
not_executed s item tag is owed h at heard = absurd (cc)

pub hit_busy : (q : State) (spent tag : ℕ) → due q ≡ Execute tag → hit (record q { busy = true; spent = spent }) ≡ hit q
unfolding hit
hit_busy q spent tag at = ap (λ command. met (execute_blocks q command) (option_map (λ fault. fault.kind) (find (λ fault. fault.n == next_number q) q.faults.bus))) (due_busy q spent tag at ∙ sym at)

pub hit_execute : (q : State) (tag : ℕ) → may_pass q (Execute tag) ≡ true → is_gone (hit q) ≡ false
hit_execute q tag may = not_true _ (and_parts _ _ may).0

-- behind an event that prints nothing comes none of these commands
command_reached : (r s : State) (item : Item) → Reached r s → is_calm s.recovery ≡ true → s.owed ≡ Nothing → is_command item ≡ true → holds s item ≡ true → recovery_steps r ≡ s
command_reached r s item (inl x) calm owed is h = sym x.steps ∙ calm_steps s calm
command_reached r s item (inr (inl x)) calm owed is h =
    absurd (false≢true (not_due s item is owed calm h (ap due x.state ∙ (due_tick (recovery_steps r) ∙ idle_due (due (recovery_steps r)) (and_parts _ _ x.idle).0))))
command_reached r s item (inr (inr x)) calm owed is h =
    let q = recovery_steps r in
    absurd (false≢true (not_executed s item x.tag is owed h (ap due x.state ∙ due_busy q x.spent x.tag x.execute) (ap is_gone (ap hit x.state ∙ hit_busy q x.spent x.tag x.execute) ∙ hit_execute q x.tag x.may)))

command_forced : (r : State) (item : Item) → letters_left r ≡ false → is_command item ≡ true → forced r item ≡ recovery_steps r
command_forced r item letters is =
    let command = commands_of (recovery_steps r) item is in
    forced_steps r item letters command.of_cut ∙ rw command.needs (no_step _ _ _)

pub engine_next : (s : State) (item : Item) → letters_left s ≡ false → has_work s ≡ false → is_line_of Engine (is_calm s.recovery) item ≡ true → is_next s item ≡ true
engine_next s item letters work line =
    next_turn (is_alone item) (to_do s) (is_nothing s.owed) (is_cut item) (letters_left s) (is_line_of (next_actor s) (is_calm s.recovery) item) letters
    (ap (λ busy. is_line_of (cond busy Host Engine) (is_calm s.recovery) item) work ∙ line)

-- a command is taken where the engine's event comes next
pub command_first : (m s : State) (item : Item) → StandsAt m s → m.event ≡ Untold → Rests s → Reached (rested m) s → letters_left (rested m) ≡ false → letters_left s ≡ false → is_due (rested m) ≡ false → has_work s ≡ false
    → Fits (record s { event = Told Engine }) item → is_command item ≡ true → is_line_of Engine (is_calm s.recovery) item ≡ true → First m (record s { event = Told Engine }) item
command_first m s item st e at on letters letters_s due work fits is line =
    let rule = sym (command_line s (Told Engine) item is) ∙ fits.line in
    let h = holds_unbroken s item None (ap (λ x. earlier x None) rule) in
    let command = commands_of s item is in
    let reached = command_reached (rested m) s item on (calm_work s work) at.owed is h in
    enters_first m s (record s { event = Told Engine }) item (untold_starts m item st.free e) st.ends (record {
      entered = ap (λ x. forced x item) (behind_rested m item command.cut st.free) ∙ (command_forced (rested m) item letters is ∙ reached);
      order = start_none s item (is_due (ended m)) (engine_next s item letters_s work line) (sym (due_owed (ended m) Nothing) ∙ due);
      line = rule;
      event = event_none s item (rw at.event refl) (first_event s (Told Engine) item fits.first) command.yields command.so;
      effect = command_effect s (Told Engine) item is;
    })
