-- The line of the phase under way in an event in which power is lost: it stands, and the cut may come behind it.
use Rattle.std.proofs.Common.{◌≡◌, ◌+◌, ◌++◌, ◌==◌, ◌&&◌, ◌||◌, ℕ, refl, sym, ◌∙◌, ap}
use Rattle.std.specs.Prelude.{Bool, true, false, not, cond, Option, Some, None, is_none, length, List, [], ◌∷◌}
use Rattle.std.proofs.lemmas.Bool.{and_right, eq-eqb, false≢true}
use Rattle.storage_machine.specs.Commands.{due, hit, id_on, is_calm, is_gone, next_number}
use Rattle.storage_machine.specs.Cuts.{is_due, least}
use Rattle.storage_machine.specs.Jobs.{is_in_range, job_of, may_keep, may_move, must_keep, phase_blocks}
use Rattle.storage_machine.specs.declared.commands.DueCommand.TheVariants.{Execute}
use Rattle.storage_machine.specs.declared.state.Event.{Event}
use Rattle.storage_machine.specs.declared.state.Event.TheVariants.{Due, Told, Untold}
use Rattle.storage_machine.specs.declared.state.Owed.{Owed}
use Rattle.storage_machine.specs.declared.state.Owed.TheVariants.{Bus as BusOwed, Closed, Flash as FlashOwed, Nothing}
use Rattle.storage_machine.specs.declared.state.State.{State}
use Rattle.storage_model.specs.declared.block.Block.{Block}
use Rattle.storage_model.specs.declared.faults.BusKind.{BusKind}
use Rattle.storage_model.specs.declared.faults.BusKind.TheVariants.{Bad, Late, Lost, NoResp}
use Rattle.storage_model.specs.declared.faults.Letter.{Letter}
use Rattle.storage_model.specs.declared.faults.Letter.TheVariants.{Host as HostActs, Engine as EngineActs, Card as CardActs, Cut as PowerActs}
use Rattle.storage_model.specs.declared.marks.Mark.{Mark}
use Rattle.storage_model.specs.declared.plan.Job.{Job}
use Rattle.storage_model.specs.declared.trace.Item.{Item}
use Rattle.storage_model.specs.declared.trace.Item.TheVariants.{Cut, Phase as PhaseLine}
use Rattle.storage_order.specs.Events.{Begins, Fits, goes_on, is_untold}
use Rattle.trace_effects.specs.Effects.{begun, effect}
use Rattle.trace_effects.specs.Phases.{after_blocks, after_done, after_keep, after_phase, bars_with, closed_by, done_with, event_with, is_empty, is_of_power, marks_of, read_sectors}
use Rattle.trace_rules.specs.Lines.{cut_holds, holds, is_for, line_rule, may_cut, owing, owing_past, rule_of}
use Rattle.trace_rules.specs.Phases.{is_phase_of, is_whole, most_blocks, owed_by, phase_holds, tag_due}
use Rattle.trace_rules.specs.Steps.{is_line_of, is_nothing, stands_in, stands_of_power}
use Rattle.world_state.specs.Told.{CutFollows, is_dark}

-- ---- an event of the card or of power has begun

abbrev pub woken : State → Event → Bool → State
woken s event staged = record s { owed = Nothing; event = event; staged = staged }

abbrev pub power_event : State → Event
power_event s = cond (is_due (record s { owed = Nothing })) Due (Told PowerActs)

pub card_woken : (s : State) → begun s CardActs ≡ woken s (Told CardActs) true
unfolding begun
card_woken s = refl

pub power_woken : (s : State) → begun s PowerActs ≡ woken s (power_event s) s.staged
unfolding begun
power_woken s = refl

of_power : (late : Bool) → is_of_power (cond late Due (Told PowerActs)) ≡ true
of_power true = refl
of_power false = refl

pub power_of : (s : State) → is_of_power (power_event s) ≡ true
power_of s = of_power (is_due (record s { owed = Nothing }))

pub told_of : (event : Event) → is_of_power event ≡ true → is_untold event ≡ false
told_of Untold power = absurd (false≢true power)
told_of Due power = refl
told_of (Told letter) power = refl

pub stays_with : (event : Event) → is_of_power event ≡ true → event_with event ≡ event
stays_with event power = ap (λ b. cond b event Untold) power

-- ---- the cut

either_so : (b x y : Bool) → x ≡ true → y ≡ true → cond b x y ≡ true
either_so true x y left right = left
either_so false x y left right = right

cut_in_power : (s : State) (letter : Letter) → is_line_of letter (is_calm s.recovery) Cut ≡ true → stands_of_power s letter Cut ≡ true
cut_in_power s letter line = either_so (is_nothing s.owed) _ true (ap (λ b. b && true) line) refl

pub cut_stands : (s : State) (event : Event) → is_of_power event ≡ true → stands_in s event Cut ≡ true
cut_stands s Untold power = absurd (false≢true power)
cut_stands s Due power = cut_in_power s PowerActs refl
cut_stands s (Told HostActs) power = absurd (false≢true power)
cut_stands s (Told EngineActs) power = absurd (false≢true power)
cut_stands s (Told CardActs) power = cut_in_power s CardActs refl
cut_stands s (Told PowerActs) power = cut_in_power s PowerActs refl

-- nothing is owed, or what a phase owes
abbrev pub CutNext : Owed → Type 0
CutNext owed = (is_dark owed ≡ false) × (is_for owed Cut ≡ true) × ((s : State) → may_cut s owed ≡ true)

cut_line : (s : State) → is_for s.owed Cut ≡ true → may_cut s s.owed ≡ true → line_rule s Cut ≡ None
unfolding line_rule holds cut_holds
cut_line s for may =
    ap (λ b. cond b (cond (is_for s.owed Cut) None (owing s.owed)) (least (owing_past s Cut) (rule_of Cut))) may
    ∙ ap (λ b. cond b None (owing s.owed)) for

pub cut_fits : (s : State) → is_of_power s.event ≡ true → CutNext s.owed → Fits s Cut
cut_fits s power next = record { line = cut_line s next.1 (next.2 s); stands = cut_stands s s.event power; first = refl }

pub no_phase_cut : (s : State) (event : Event) (staged : Bool) → is_of_power event ≡ true → s.busy ≡ false → CutFollows [] (woken s event staged)
no_phase_cut s event staged power calm = (
  told_of event power,
  cut_fits (woken s event staged) power (refl, refl, λ x. refl),
  ap (λ b. not (b && true)) calm,
)

-- ---- the phase's line

stands_phase : (s : State) (event : Event) (staged : Bool) (n id count : ℕ) → is_of_power event ≡ true → s.busy ≡ true
    → stands_in (woken s event staged) event (PhaseLine n id count false) ≡ true
stands_phase s Untold staged n id count power busy = refl
stands_phase s Due staged n id count power busy = busy
stands_phase s (Told HostActs) staged n id count power busy = absurd (false≢true power)
stands_phase s (Told EngineActs) staged n id count power busy = absurd (false≢true power)
stands_phase s (Told CardActs) staged n id count power busy = busy
stands_phase s (Told PowerActs) staged n id count power busy = busy

phase_fits : (s : State) (event : Event) (staged : Bool) (n id count : ℕ) → is_of_power event ≡ true → s.busy ≡ true
    → phase_holds (woken s event staged) n id count false ≡ true → Fits (woken s event staged) (PhaseLine n id count false)
unfolding line_rule holds
phase_fits s event staged n id count power busy h =
    let b : State = woken s event staged in
    let line : Item = PhaseLine n id count false in
    record {
      line = ap (λ x. cond x (cond (is_for b.owed line) None (owing b.owed)) (least (owing_past b line) (rule_of line))) h;
      stands = stands_phase s event staged n id count power busy;
      first = refl;
    }

pub phase_begins : (s : State) (event : Event) (staged : Bool) (n id count : ℕ) (t : State) → is_of_power event ≡ true → s.busy ≡ true
    → phase_holds (woken s event staged) n id count false ≡ true → effect (woken s event staged) (PhaseLine n id count false) ≡ t
    → Begins (woken s event staged) (PhaseLine n id count false) [] t
phase_begins s event staged n id count t power busy h is = record {
  told = told_of event power;
  first = phase_fits s event staged n id count power busy h;
  phase = ap not (and_right s.busy false refl);
  more = sym is;
}

-- what is asked of a phase's line beside its number and its command
pub record Moves (s : State) (tag id count : ℕ) (kind : Option BusKind) (job : Job) : Type 0 where
  pub job_is : job_of s.plan.jobs id ≡ job
  pub is_id : (id_on s tag == id) ≡ true
  pub hit_is : hit s ≡ kind
  pub few : may_move job (most_blocks kind (phase_blocks job)) count ≡ true
  pub keeps : may_keep s.plan.through job count false ≡ true
  pub inside : is_in_range job (length s.base) ≡ true

abbrev moves_test : State → ℕ → ℕ → ℕ → Option BusKind → Job → Bool
moves_test s tag id count kind job =
    (id_on s tag == id) && (may_move job (most_blocks kind (phase_blocks job)) count && (may_keep s.plan.through job count false && is_in_range job (length s.base)))

woken_due : (s : State) (event : Event) (staged : Bool) → due (woken s event staged) ≡ due s
unfolding due
woken_due s event staged = refl

woken_hit : (s : State) (event : Event) (staged : Bool) → hit (woken s event staged) ≡ hit s
unfolding due hit
woken_hit s event staged = refl

moves_hold : (s : State) (tag id count : ℕ) (kind : Option BusKind) (job : Job) → Moves s tag id count kind job
    → moves_test s tag id count kind (job_of s.plan.jobs id) ≡ true
moves_hold s tag id count kind job m =
    ap (moves_test s tag id count kind) m.job_is
    ∙ ap (λ b. b && (may_move job (most_blocks kind (phase_blocks job)) count && (may_keep s.plan.through job count false && is_in_range job (length s.base)))) m.is_id
    ∙ ap (λ b. b && (may_keep s.plan.through job count false && is_in_range job (length s.base))) m.few
    ∙ ap (λ b. b && is_in_range job (length s.base)) m.keeps
    ∙ m.inside

pub execute_holds : (s : State) (event : Event) (staged : Bool) (tag id count n : ℕ) (kind : Option BusKind) (job : Job) → due s ≡ Execute tag
    → n ≡ next_number s → is_gone kind ≡ false → Moves s tag id count kind job → phase_holds (woken s event staged) n id count false ≡ true
unfolding phase_holds
execute_holds s event staged tag id count n kind job is number heard m =
    let b : State = woken s event staged in
    let j = job_of s.plan.jobs id in
    ap (λ d. (n == next_number s) && is_phase_of b id count false d) (woken_due s event staged ∙ is)
    ∙ ap (λ x. x && (not (is_gone (hit b)) && moves_test s tag id count (hit b) j)) (eq-eqb n (next_number s) number)
    ∙ ap (λ k. not (is_gone k) && moves_test s tag id count k j) (woken_hit s event staged ∙ m.hit_is)
    ∙ ap (λ x. not x && moves_test s tag id count kind j) heard
    ∙ moves_hold s tag id count kind job m

-- ---- what the line does

abbrev pub pend_with : State → Job → ℕ → List Mark
pend_with s job count = s.pend ++ marks_of s job count

-- the marks of the blocks that moved, none of them kept
abbrev pub with_blocks : State → Job → ℕ → State
with_blocks s job count = record s {
  pend = pend_with s job count;
  bars = bars_with s.bars job;
  kept = not (is_empty (pend_with s job count)) && (s.kept || must_keep s.plan.through job);
}

blocks_state : (s : State) (job : Job) (count : ℕ) → after_blocks s job count false ≡ with_blocks s job count
unfolding after_blocks after_keep
blocks_state s job count = refl

-- its request is done where all of it moved
abbrev pub phase_over : State → Event → Bool → Job → (count tag id n : ℕ) → Bool → Owed → State
phase_over s event staged job count tag id n done owed =
    record (done_with (with_blocks (woken s event staged) job count) tag id job (read_sectors (woken s event staged) job) done) {
      n = n;
      busy = false;
      spent = 0;
      owed = owed;
      event = event;
    }

closed_event : (x : State) (tag id : ℕ) (job : Job) (sectors : List Block) (done : Bool) (n : ℕ) (owed : Owed) (event : Event) → event_with x.event ≡ event
    → closed_by (done_with x tag id job sectors done) n owed
    ≡ record (done_with x tag id job sectors done) { n = n; busy = false; spent = 0; owed = owed; event = event }
unfolding after_done
closed_event x tag id job sectors true n owed event e =
    ap (λ v. record (done_with x tag id job sectors true) { n = n; busy = false; spent = 0; owed = owed; event = v }) e
closed_event x tag id job sectors false n owed event e =
    ap (λ v. record (done_with x tag id job sectors false) { n = n; busy = false; spent = 0; owed = owed; event = v }) e

abbrev pub is_done : State → Job → ℕ → Option BusKind → Bool
is_done s job count kind = is_whole s.plan.through job count false && is_none kind

abbrev pub owed_then : State → Job → (n id count : ℕ) → Option BusKind → Owed
owed_then s job n id count kind = owed_by kind (is_whole s.plan.through job count false) n id count

pub phase_effect : (s : State) (event : Event) (staged : Bool) (tag id count n : ℕ) (kind : Option BusKind) (job : Job) → is_of_power event ≡ true
    → tag_due (due s) ≡ tag → hit s ≡ kind → job_of s.plan.jobs id ≡ job
    → effect (woken s event staged) (PhaseLine n id count false)
    ≡ phase_over s event staged job count tag id n (is_done s job count kind) (owed_then s job n id count kind)
unfolding effect after_phase
phase_effect s event staged tag id count n kind job power at is j =
    let b : State = woken s event staged in
    let C : Job → State → ℕ → Option BusKind → State =
    λ x y t k. closed_by (done_with y t id x (read_sectors b x) (is_done s x count k)) n (owed_then s x n id count k) in
    let A : Job → State = λ x. after_blocks b x count false in
    let i = job_of s.plan.jobs id in
    ap (λ d. C i (A i) (tag_due d) (hit b)) (woken_due s event staged)
    ∙ ap (λ t. C i (A i) t (hit b)) at
    ∙ ap (λ k. C i (A i) tag k) (woken_hit s event staged ∙ is)
    ∙ ap (λ x. C x (A x) tag kind) j
    ∙ ap (λ y. C job y tag kind) (blocks_state b job count)
    ∙ closed_event (with_blocks b job count) tag id job (read_sectors b job) (is_done s job count kind) n (owed_then s job n id count kind) event
    (stays_with event power)

-- ---- the cut behind it

owed_either : (P : Owed → Type 0) → P Closed → ((n id : ℕ) (kind : BusKind) → P (BusOwed n id kind)) → ((id : ℕ) → P (FlashOwed id))
    → (kind : Option BusKind) (whole : Bool) (n id count : ℕ) → P (owed_by kind whole n id count)
owed_either P closed bus flash None true n id count = closed
owed_either P closed bus flash None false n id count = flash id
owed_either P closed bus flash (Some Lost) whole n id count = bus n id Lost
owed_either P closed bus flash (Some NoResp) whole n id count = bus n id NoResp
owed_either P closed bus flash (Some Late) whole n id count = bus n id Late
owed_either P closed bus flash (Some (Bad b)) whole n id count = by_block (count + 1 == b)
  where
    by_block : (here : Bool) → P (cond here (BusOwed n id (Bad b)) (FlashOwed id))
    by_block true = bus n id (Bad b)
    by_block false = flash id

-- and the event goes on to it
abbrev pub GoesOn : Owed → Type 0
GoesOn owed = CutNext owed × ((s : State) → is_untold s.event ≡ false → goes_on s owed Cut ≡ true)

pub goes_next : (kind : Option BusKind) (whole : Bool) (n id count : ℕ) → GoesOn (owed_by kind whole n id count)
goes_next kind whole n id count =
    owed_either GoesOn
    ((refl, refl, λ s. refl), λ s told. ap (λ b. not b || (is_calm s.recovery && not (is_due s))) told)
    (λ m i k. ((refl, refl, λ s. refl), λ s told. refl))
    (λ i. ((refl, refl, λ s. refl), λ s told. refl))
    kind whole n id count

pub phase_cut : (s : State) (event : Event) (staged : Bool) (job : Job) (count tag id n : ℕ) (done : Bool) (owed : Owed) (item : Item) → is_of_power event ≡ true
    → GoesOn owed → CutFollows (item ∷ []) (phase_over s event staged job count tag id n done owed)
phase_cut s event staged job count tag id n done owed item power next =
    let t : State = phase_over s event staged job count tag id n done owed in
    (next.1 t (told_of event power), cut_fits t power next.0)
