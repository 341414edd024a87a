-- The host's event that no letter tells is taken.
use Rattle.std.proofs.Common.{inl, inr, ◌≡◌, ◌∙◌, ◌⊎◌, ℕ, Bool, true, false, Option, Some, None, cond, ◌&&◌, ◌||◌, not, is_some, length, get_or, ◌<◌, ◌≤◌, refl, ap, sym}
use Rattle.std.proofs.lemmas.Bool.{false≢true, and_left, and_parts, le-ltb, or_parts}
use Rattle.std.proofs.lemmas.Option.{slice_get_cases}
use Rattle.storage_machine.specs.Commands.{due, hit, is_calm, is_none_due, is_running}
use Rattle.storage_machine.specs.Cuts.{is_due}
use Rattle.storage_machine.specs.Host.{has_work, is_silent, is_stopped, next_issue, recovery_steps, recovery_steps_at, to_do}
use Rattle.storage_machine.specs.declared.commands.DueCommand.{DueCommand}
use Rattle.storage_machine.specs.declared.commands.DueCommand.TheVariants.{Idle}
use Rattle.storage_machine.specs.declared.state.Event.{Event}
use Rattle.storage_machine.specs.declared.state.Event.TheVariants.{Untold, Told, Due}
use Rattle.storage_machine.specs.declared.state.Owed.TheVariants.{Nothing}
use Rattle.storage_machine.specs.declared.state.Recovery.{Recovery}
use Rattle.storage_machine.specs.declared.state.Recovery.TheVariants.{Calm, Cleared}
use Rattle.storage_machine.specs.declared.state.State.{State}
use Rattle.storage_model.specs.declared.faults.Letter.{Letter}
use Rattle.storage_model.specs.declared.faults.Letter.TheVariants.{Host, Engine, Card as CardActs, Cut as PowerActs}
use Rattle.storage_model.specs.declared.trace.Item.{Item}
use Rattle.storage_model.specs.declared.trace.Item.TheVariants.{Issue, Phase, Discard, Bus, Flash, Recover, Irq, Fault, Refused, Cut}
use Rattle.storage_order.proofs.Accepts.{holds_unbroken}
use Rattle.storage_order.specs.Events.{Fits, end_rule, ended, ended_by, engine_step}
use Rattle.storage_order.specs.Order.{engine_first, entered, forced, is_alone, is_next, next_actor, is_of_cut, is_of_next, order_rule, settled, start_rule, starts}
use Rattle.storage_runs.proofs.Ends.{First}
use Rattle.storage_runs.proofs.Hushes.{Rests}
use Rattle.storage_runs.proofs.Lags.{IsBusied, IsRecovered, IsTicked, Reached, calm_work, recovery_engine}
use Rattle.storage_runs.proofs.Lines.{event_none}
use Rattle.storage_runs.proofs.Mores.{no_step, start_none}
use Rattle.storage_runs.proofs.Turns.{behind_rested, due_owed, starts_free}
use Rattle.storage_runs.specs.Laws.{StandsAt, rested}
use Rattle.storage_runs.specs.Runs.{next_letter}
use Rattle.trace_effects.specs.Effects.{after_bus, after_discard, after_fault, after_irq, after_issue, after_recover, effect, letters_left}
use Rattle.trace_rules.specs.Lines.{bus_holds, discard_holds, fault_holds, holds, irq_holds, is_pair, line_rule, may_discard, recover_holds, refused_holds}
use Rattle.trace_rules.specs.Steps.{earlier, is_cut, is_first_work, is_left_so, is_line_of, is_nothing, lower, yields_to_cut}

-- what the host's lines have in common
pub record IsHosts (s : State) (item : Item) : Type 0 where
  pub cut : is_cut item ≡ false
  pub of_cut : is_of_cut item ≡ false
  pub yields : yields_to_cut s item ≡ true
  pub so : is_left_so s item ≡ true

hosts_of : (s : State) (calm : Bool) (item : Item) → is_line_of Host calm item ≡ true → IsHosts s item
hosts_of s calm (Issue id tag) line = record { cut = refl; of_cut = refl; yields = refl; so = refl }
hosts_of s calm (Irq mask) line = record { cut = refl; of_cut = refl; yields = refl; so = refl }
hosts_of s calm (Fault id why) line = record { cut = refl; of_cut = refl; yields = refl; so = refl }
hosts_of s calm (Refused id why) line = record { cut = refl; of_cut = refl; yields = refl; so = refl }
hosts_of s calm Recover line = record { cut = refl; of_cut = refl; yields = refl; so = refl }
hosts_of s calm (Discard n) line = record { cut = refl; of_cut = refl; yields = refl; so = refl }
hosts_of s calm (Bus n kind id) line = record { cut = refl; of_cut = refl; yields = refl; so = refl }
hosts_of s calm item line = absurd (cc)

-- the host's lines are judged alike whoever's event is told
host_line : (s : State) (event : Event) (calm : Bool) (item : Item) → is_line_of Host calm item ≡ true → line_rule (record s { event = event }) item ≡ line_rule s item
unfolding line_rule holds irq_holds fault_holds refused_holds recover_holds discard_holds bus_holds next_issue due hit
host_line s event calm (Issue id tag) line = refl
host_line s event calm (Irq mask) line = refl
host_line s event calm (Fault id why) line = refl
host_line s event calm (Refused id why) line = refl
host_line s event calm Recover line = refl
host_line s event calm (Discard n) line = refl
host_line s event calm (Bus n kind id) line = refl
host_line s event calm item line = absurd (cc)

-- and do the same
host_effect : (s : State) (event : Event) (calm : Bool) (item : Item) → is_line_of Host calm item ≡ true → effect s item ≡ effect (record s { event = event }) item
unfolding effect after_issue after_irq after_fault after_recover after_discard after_bus due
host_effect s event calm (Issue id tag) line = refl
host_effect s event calm (Irq mask) line = refl
host_effect s event calm (Fault id why) line = refl
host_effect s event calm (Refused id why) line = refl
host_effect s event calm Recover line = refl
host_effect s event calm (Discard n) line = refl
host_effect s event calm (Bus n kind id) line = refl
host_effect s event calm item line = absurd (cc)

quiet_steps_at : (s : State) (recovery : Recovery) → is_silent recovery ≡ false → recovery_steps_at s recovery ≡ s
quiet_steps_at s Calm quiet = refl
quiet_steps_at s Cleared quiet = refl
quiet_steps_at s recovery quiet = absurd (cc)

pub quiet_steps : (s : State) → is_silent s.recovery ≡ false → recovery_steps s ≡ s
unfolding recovery_steps
quiet_steps s quiet = quiet_steps_at s s.recovery quiet

pub calm_on : (r s : State) → Reached r s → is_calm r.recovery ≡ true → is_calm s.recovery ≡ true
calm_on r s (inl x) calm = rw (x.calm calm) calm
calm_on r s (inr (inl x)) calm = rw x.state (calm_work (recovery_steps r) x.work)
calm_on r s (inr (inr x)) calm = rw x.state (calm_work (recovery_steps r) x.work)

ended_recovery_by : (m : State) (event : Event) → (ended_by m event).recovery ≡ m.recovery
ended_recovery_by m Untold = refl
ended_recovery_by m Due = refl
ended_recovery_by m (Told Host) = refl
ended_recovery_by m (Told Engine) = recovery_engine (record m { event = Untold })
ended_recovery_by m (Told CardActs) = refl
ended_recovery_by m (Told PowerActs) = refl

pub ended_recovery : (m : State) → (ended m).recovery ≡ m.recovery
unfolding ended
ended_recovery m = ended_recovery_by m m.event

-- no line of the host is another actor's
engine_not : (calm calm_m : Bool) (item : Item) → is_line_of Host calm item ≡ true → (calm_m ≡ true → calm ≡ true) → is_line_of Engine calm_m item ≡ false
engine_not calm calm_m (Issue id tag) line on = refl
engine_not calm calm_m (Irq mask) line on = refl
engine_not calm calm_m (Fault id why) line on = refl
engine_not calm calm_m (Refused id why) line on = refl
engine_not calm calm_m Recover line on = refl
engine_not calm calm_m (Discard n) line on = refl
engine_not calm false (Bus n kind id) line on = refl
engine_not calm true (Bus n kind id) line on = absurd (cc (on refl))
engine_not calm calm_m item line on = absurd (cc)

card_not : (calm calm_m : Bool) (item : Item) → is_line_of Host calm item ≡ true → is_line_of CardActs calm_m item ≡ false
card_not calm calm_m (Flash id) line = absurd (cc)
card_not calm calm_m (Phase n id count kept) line = absurd (cc)
card_not calm calm_m Cut line = absurd (cc)
card_not calm calm_m item line = refl

power_not : (calm calm_m : Bool) (item : Item) → is_line_of Host calm item ≡ true → is_line_of PowerActs calm_m item ≡ false
power_not calm calm_m (Phase n id count kept) line = absurd (cc)
power_not calm calm_m Cut line = absurd (cc)
power_not calm calm_m item line = refl

host_ends : (m : State) → end_rule m ≡ None → m.event ≡ Told Host → false ≡ true
unfolding end_rule
host_ends m end e = absurd (cc (rw e at end))

pub not_told : (m s : State) (item : Item) → StandsAt m s → Reached (rested m) s → is_line_of Host (is_calm s.recovery) item ≡ true
    → (letter : Letter) → m.event ≡ Told letter → (is_line_of letter (is_calm m.recovery) item && not (is_of_next m letter item)) ≡ false
not_told m s item st on line Host e = absurd (false≢true (host_ends m st.ends e))
not_told m s item st on line Engine e = and_left _ _ (engine_not (is_calm s.recovery) (is_calm m.recovery) item line (λ calm. calm_on (rested m) s on (rw (ended_recovery m) calm)))
not_told m s item st on line CardActs e = and_left _ _ (card_not (is_calm s.recovery) (is_calm m.recovery) item line)
not_told m s item st on line PowerActs e = and_left _ _ (power_not (is_calm s.recovery) (is_calm m.recovery) item line)

host_starts : (m s : State) (item : Item) → StandsAt m s → Reached (rested m) s → is_line_of Host (is_calm s.recovery) item ≡ true → starts m item ≡ true
host_starts m s item st on line = starts_free m item st.free st.whole st.ends (not_told m s item st on line)

past_letters : (s : State) → ((letter : Letter) × (s.letters < length s.faults.turns) × (next_letter s ≡ Some letter) × (get_or s.faults.turns s.letters letter ≡ letter)) ⊎ ((length s.faults.turns ≤ s.letters) × (next_letter s ≡ None))
    → next_letter s ≡ None → letters_left s ≡ false
past_letters s (inl here) none = absurd (cc (sym (here.2) ∙ none))
past_letters s (inr past) none = le-ltb _ _ past.0

pub no_letters : (s : State) → next_letter s ≡ None → letters_left s ≡ false
no_letters s none = past_letters s (slice_get_cases s.faults.turns s.letters).1 none

-- no event that prints nothing comes but those that the line needs
pub forced_steps : (r : State) (item : Item) → letters_left r ≡ false → is_of_cut item ≡ false → forced r item ≡ engine_first (recovery_steps r) item
unfolding forced
forced_steps r item letters of_cut =
    rw (letters, of_cut)
    (no_step (is_due (cond (is_due r && false) r (engine_first (recovery_steps r) item))) _ _ ∙ no_step (is_due r) _ r)

first_recovered : (r s : State) (item : Item) → IsRecovered r s → has_work s ≡ true → is_silent s.recovery ≡ false → engine_first (recovery_steps r) item ≡ s
first_recovered r s item x work quiet = ap (λ q. engine_first q item) (sym x.steps ∙ quiet_steps s quiet) ∙ rw work refl

pub idle_due : (command : DueCommand) → is_none_due command ≡ true → command ≡ Idle
idle_due Idle none = refl
idle_due command none = absurd (cc)

tick_step : (q s : State) → IsTicked q s → engine_step q ≡ s
unfolding engine_step
tick_step q s x = rw (idle_due (due q) (and_parts _ _ x.idle).0) (rw (x.idle, x.counted) (sym x.state))

first_irq : (q s : State) (mask : ℕ) → IsTicked q s → engine_first q (Irq mask) ≡ s
first_irq q s mask x = rw (x.work, x.idle) (tick_step q s x)

no_pair : (id tag : ℕ) (pair : Option (ℕ × ℕ)) → is_some pair ≡ false → is_pair id tag pair ≡ true → false ≡ true
no_pair id tag None none is = absurd (cc)
no_pair id tag (Some pair) none is = absurd (cc)

-- what the host hasn't to do where it has no work
pub record HasNone (q : State) : Type 0 where
  pub calm : not (is_calm q.recovery) ≡ false
  pub running : not (is_running q.stop) ≡ false
  pub issue : is_some (next_issue q) ≡ false

has_none : (q : State) → has_work q ≡ false → HasNone q
unfolding has_work
has_none q work =
    let calm = or_parts _ _ work in
    let running = or_parts _ _ calm.1 in
    let irq = or_parts _ _ running.1 in
    record { calm = calm.0; running = running.0; issue = irq.1 }

stopped_none : (q : State) (rest : Bool) → not (is_running q.stop) ≡ false → (is_stopped q && rest) ≡ true → false ≡ true
stopped_none q rest running holds = absurd (false≢true (sym running ∙ (and_parts _ _ (and_parts _ _ holds).0).0))

calm_discard : (recovery : Recovery) → not (is_calm recovery) ≡ false → may_discard recovery ≡ true → false ≡ true
calm_discard Calm calm may = absurd (cc)
calm_discard recovery calm may = absurd (cc)

-- behind an idle engine's event the host has an interrupt to serve, and nothing else
first_ticked : (q : State) (item : Item) → HasNone q → IsTicked q (record q { notice = true; count = 0 }) → q.owed ≡ Nothing → is_line_of Host (is_calm q.recovery) item ≡ true
    → holds (record q { notice = true; count = 0 }) item ≡ true → engine_first q item ≡ record q { notice = true; count = 0 }
unfolding holds next_issue fault_holds refused_holds recover_holds discard_holds
first_ticked q (Irq mask) none x owed line holds = first_irq q _ mask x
first_ticked q (Issue id tag) none x owed line holds = absurd (false≢true (no_pair id tag (next_issue q) none.issue holds))
first_ticked q (Fault id why) none x owed line holds = absurd (false≢true (stopped_none q _ none.running holds))
first_ticked q (Refused id why) none x owed line holds = absurd (false≢true (stopped_none q _ none.running holds))
first_ticked q Recover none x owed line holds = absurd (false≢true (stopped_none q _ none.running (rw owed at holds)))
first_ticked q (Discard n) none x owed line holds = absurd (false≢true (calm_discard q.recovery none.calm (and_parts _ _ holds).1))
first_ticked q (Bus n kind id) none x owed line holds = absurd (false≢true (sym none.calm ∙ line))
first_ticked q item none x owed line holds = absurd (cc)

ticked_first : (q s : State) (item : Item) → IsTicked q s → s.owed ≡ Nothing → is_line_of Host (is_calm s.recovery) item ≡ true → holds s item ≡ true → engine_first q item ≡ s
ticked_first q s item x owed line is =
    let at = x.state in
    first_ticked q item (has_none q x.work) (rw at at x) (rw at at owed) (rw at at line) (rw at at is) ∙ sym at

busied_work : (q s : State) → IsBusied q s → has_work s ≡ true → false ≡ true
unfolding has_work next_issue
busied_work q s x work = absurd (false≢true (sym x.work ∙ (rw x.state at work)))

engine_reached : (r s : State) (item : Item) → Reached r s → has_work s ≡ true → is_silent s.recovery ≡ false → s.owed ≡ Nothing → is_line_of Host (is_calm s.recovery) item ≡ true → holds s item ≡ true
    → engine_first (recovery_steps r) item ≡ s
engine_reached r s item (inl x) work quiet owed line is = first_recovered r s item x work quiet
engine_reached r s item (inr (inl x)) work quiet owed line is = ticked_first (recovery_steps r) s item x owed line is
engine_reached r s item (inr (inr x)) work quiet owed line is = absurd (false≢true (busied_work (recovery_steps r) s x work))

host_entered : (m s : State) (item : Item) → StandsAt m s → Reached (rested m) s → letters_left (rested m) ≡ false → has_work s ≡ true → is_silent s.recovery ≡ false → s.owed ≡ Nothing
    → is_line_of Host (is_calm s.recovery) item ≡ true → holds s item ≡ true → entered m item ≡ s
host_entered m s item st on letters work quiet owed line is =
    let hosts = hosts_of s (is_calm s.recovery) item line in
    ap (λ x. forced x item) (behind_rested m item hosts.cut st.free)
    ∙ (forced_steps (rested m) item letters hosts.of_cut ∙ engine_reached (rested m) s item on work quiet owed line is)

host_settled : (m s : State) (item : Item) → StandsAt m s → Reached (rested m) s → letters_left (rested m) ≡ false → has_work s ≡ true → is_silent s.recovery ≡ false → s.owed ≡ Nothing
    → is_line_of Host (is_calm s.recovery) item ≡ true → holds s item ≡ true → settled m item ≡ s
unfolding settled
host_settled m s item st on letters work quiet owed line is = rw (host_starts m s item st on line) (host_entered m s item st on letters work quiet owed line is)

pub next_turn : (alone some nothing cut letters line : Bool) → letters ≡ false → line ≡ true → (alone || (not some || ((not nothing && cut) || (not letters && line)))) ≡ true
next_turn true some nothing cut letters line a b = refl
next_turn false false nothing cut letters line a b = refl
next_turn false true false true letters line a b = refl
next_turn false true false false false true a b = refl
next_turn false true true cut false true a b = refl
next_turn false true false false true line a b = absurd (cc)
next_turn false true false false false false a b = absurd (cc)
next_turn false true true cut true line a b = absurd (cc)
next_turn false true true cut false false a b = absurd (cc)

host_next : (s : State) (item : Item) → letters_left s ≡ false → has_work s ≡ true → is_line_of Host (is_calm s.recovery) item ≡ true → is_next s item ≡ true
host_next s item letters work line =
    next_turn (is_alone item) (to_do s) (is_nothing s.owed) (is_cut item) (letters_left s) (is_line_of (next_actor s) (is_calm s.recovery) item) letters
    (ap (λ busy. is_line_of (cond busy Host Engine) (is_calm s.recovery) item) work ∙ line)

host_order : (m s : State) (item : Item) → StandsAt m s → Reached (rested m) s → letters_left (rested m) ≡ false → letters_left s ≡ false → is_due (rested m) ≡ false → has_work s ≡ true → is_silent s.recovery ≡ false
    → s.owed ≡ Nothing → s.event ≡ Untold → is_line_of Host (is_calm s.recovery) item ≡ true → holds s item ≡ true → order_rule m item ≡ None
unfolding order_rule
host_order m s item st on letters letters_s due work quiet owed e line is =
    rw (host_starts m s item st on line)
    (ap (λ rule. lower rule (start_rule (is_due (ended m)) (entered m item) item)) st.ends
    ∙ (ap (λ late. start_rule late (entered m item) item) (sym (due_owed (ended m) Nothing) ∙ due)
    ∙ (ap (λ x. start_rule false x item) (host_entered m s item st on letters work quiet owed line is)
    ∙ start_none s item false (host_next s item letters_s work line) refl)))

pub first_event : (s : State) (event : Event) (item : Item) → is_first_work (record s { event = event }) item ≡ true → is_first_work s item ≡ true
first_event s event (Issue id tag) first = first
first_event s event (Irq mask) first = first
first_event s event (Discard n) first = first
first_event s event (Bus n kind id) first = first
first_event s event item first = refl

-- a line of the host's is taken where the host's event comes next
pub host_first : (m s : State) (item : Item) → StandsAt m s → Rests s → Reached (rested m) s → letters_left (rested m) ≡ false → letters_left s ≡ false → is_due (rested m) ≡ false → has_work s ≡ true
    → is_silent s.recovery ≡ false → Fits (record s { event = Told Host }) item → is_line_of Host (is_calm s.recovery) item ≡ true → First m (record s { event = Told Host }) item
host_first m s item st at on letters letters_s due work quiet fits line =
    let told = host_line s (Told Host) (is_calm s.recovery) item line in
    let rule = sym told ∙ fits.line in
    let is = holds_unbroken s item None (ap (λ x. earlier x None) rule) in
    let hosts = hosts_of s (is_calm s.recovery) item line in
    record {
      at = s;
      settled = host_settled m s item st on letters work quiet at.owed line is;
      order = host_order m s item st on letters letters_s due work quiet at.owed at.event line is;
      line = rule;
      event = event_none s item (rw at.event refl) (first_event s (Told Host) item fits.first) hosts.yields hosts.so;
      effect = host_effect s (Told Host) (is_calm s.recovery) item line;
    }
