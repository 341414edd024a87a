-- The host's events of the machine, over any state: with no line, with one, and with the two of a stop.
use Rattle.std.proofs.Common.{◌≡◌, ◌∙◌, ◌&&◌, ◌||◌, ℕ, Bool, true, false, cond, not, [], ◌∷◌, None, refl, ap, sym, subst, if◌then◌else◌}
use Rattle.std.proofs.lemmas.Bool.{false≢true}
use Rattle.storage_model.specs.declared.faults.BusKind.{BusKind}
use Rattle.storage_model.specs.declared.faults.Letter.TheVariants.{Host as HostActs}
use Rattle.storage_model.specs.declared.trace.Item.{Item}
use Rattle.storage_model.specs.declared.trace.Item.TheVariants.{Issue, Recover, Discard as DiscardLine, Bus as BusLine, Fault, Refused}
use Rattle.storage_model.specs.declared.trace.Limit.{Limit}
use Rattle.storage_model.specs.declared.trace.Why.{Why}
use Rattle.storage_machine.specs.Commands.{due, hit, is_calm}
use Rattle.storage_machine.specs.Host.{has_work, is_fault_of, is_irq_due, is_silent, is_stopped, next_issue, recovery_step}
use Rattle.storage_machine.specs.declared.state.Event.{Event}
use Rattle.storage_machine.specs.declared.state.Event.TheVariants.{Untold, Told}
use Rattle.storage_machine.specs.declared.state.Owed.{Owed}
use Rattle.storage_machine.specs.declared.state.Owed.TheVariants.{Nothing}
use Rattle.storage_machine.specs.declared.state.Recovery.TheVariants.{Cleared}
use Rattle.storage_machine.specs.declared.state.State.{State}
use Rattle.storage_order.specs.Events.{Fits, Happens, Lasts, Makes, closed, end_rule, ended, ended_by, goes_on, rule_of_end}
use Rattle.trace_effects.specs.Effects.{after_bus, after_discard, after_fault, after_issue, after_recover, begun, effect}
use Rattle.trace_rules.specs.Lines.{bus_by_owed, bus_holds, discard_holds, fault_holds, holds, is_for, is_heard, is_missed_now, is_pair, is_recover_owed, line_rule, recover_holds, refused_holds}
use Rattle.trace_rules.specs.Steps.{is_cleared, is_cut, is_first_work, is_line_of, is_nothing}

-- the host's event, where it has work that is told
abbrev pub told : State → State
told s = record s { event = Told HostActs }

owes_none : (s : State) → s.owed ≡ Nothing → record s { owed = Nothing } ≡ s
owes_none s e = ap (λ (o : Owed). record s { owed = o }) (sym e)

told_if : (s : State) (silent work : Bool) → silent ≡ false → work ≡ true
    → cond silent (record (recovery_step s) { event = Untold }) (record s { event = if work then Told HostActs else Untold }) ≡ told s
told_if s true work quiet some = absurd (false≢true (sym quiet))
told_if s false true quiet some = refl
told_if s false false quiet some = absurd (false≢true some)

pub begun_told : (s : State) → s.owed ≡ Nothing → is_silent s.recovery ≡ false → has_work s ≡ true → begun s HostActs ≡ told s
unfolding begun
begun_told s owed quiet work =
    subst (λ (x : State). cond (is_silent x.recovery) (record (recovery_step x) { event = Untold }) (record x { event = if has_work x then Told HostActs else Untold }) ≡ told s)
    (sym (owes_none s owed)) (told_if s (is_silent s.recovery) (has_work s) quiet work)

-- a silent step of the recovery
step_if : (s : State) (silent : Bool) (work : State) → silent ≡ true → cond silent (record (recovery_step s) { event = Untold }) work ≡ record (recovery_step s) { event = Untold }
step_if s true work silent = refl
step_if s false work silent = absurd (false≢true silent)

pub begun_silent : (s : State) → s.owed ≡ Nothing → is_silent s.recovery ≡ true → begun s HostActs ≡ record (recovery_step s) { event = Untold }
unfolding begun
begun_silent s owed silent =
    subst (λ (x : State). cond (is_silent x.recovery) (record (recovery_step x) { event = Untold }) (record x { event = if has_work x then Told HostActs else Untold }) ≡ record (recovery_step s) { event = Untold })
    (sym (owes_none s owed)) (step_if s (is_silent s.recovery) (record s { event = if has_work s then Told HostActs else Untold }) silent)

-- an event that is over when it has begun
pub rests_at : (s t : State) → s.owed ≡ Nothing → s.event ≡ Untold → begun s HostActs ≡ t → t.event ≡ Untold → Happens s HostActs [] t
unfolding end_rule ended
rests_at s t owed event at over = record {
  free = rw owed refl;
  untold = rw event refl;
  makes = subst (λ (x : State). Makes x [] t) (sym at)
      (ap (rule_of_end t) over, sym (ap (ended_by t) over ∙ ap (λ (e : Event). record t { event = e }) (sym over)));
}

-- and where the host has nothing to do
idle_if : (s : State) (silent work : Bool) → silent ≡ false → work ≡ false → s.event ≡ Untold
    → cond silent (record (recovery_step s) { event = Untold }) (record s { event = if work then Told HostActs else Untold }) ≡ s
idle_if s true work quiet none event = absurd (false≢true (sym quiet))
idle_if s false true quiet none event = absurd (false≢true (sym none))
idle_if s false false quiet none event = ap (λ (e : Event). record s { event = e }) (sym event)

pub begun_idle : (s : State) → s.owed ≡ Nothing → s.event ≡ Untold → is_silent s.recovery ≡ false → has_work s ≡ false → begun s HostActs ≡ s
unfolding begun
begun_idle s owed event quiet none =
    subst (λ (x : State). cond (is_silent x.recovery) (record (recovery_step x) { event = Untold }) (record x { event = if has_work x then Told HostActs else Untold }) ≡ s)
    (sym (owes_none s owed)) (idle_if s (is_silent s.recovery) (has_work s) quiet none event)

-- a line that breaks no rule of 1 to 13
line_none : (s : State) (item : Item) → holds s item ≡ true → is_for s.owed item ≡ true → line_rule s item ≡ None
unfolding line_rule
line_none s item is fits = rw (is, fits) refl

for_nothing : (owed : Owed) (item : Item) → owed ≡ Nothing → is_for owed item ≡ true
for_nothing owed item e = ap (λ o. is_for o item) e

or_last : (b c : Bool) → c ≡ true → (b || c) ≡ true
or_last true c e = refl
or_last false c e = e

pub fits_told : (s : State) (item : Item) → s.owed ≡ Nothing → holds (told s) item ≡ true → is_line_of HostActs (is_calm s.recovery) item ≡ true
    → is_first_work (told s) item ≡ true → Fits (told s) item
fits_told s item owed is line first = record {
  line = line_none (told s) item is (for_nothing s.owed item owed);
  stands = or_last (not (is_nothing s.owed)) (is_line_of HostActs (is_calm s.recovery) item) line;
  first = first;
}

pub uncut : (busy cut : Bool) → cut ≡ false → not (busy && cut) ≡ true
uncut true cut e = ap not e
uncut false cut e = refl

closed_none : (s : State) → s.owed ≡ Nothing → s ≡ record s { owed = closed s.owed }
closed_none s e = ap (λ (o : Owed). record s { owed = o }) (e ∙ sym (ap closed e))

-- a line that is the whole event
pub one_line : (s t : State) (item : Item) → s.owed ≡ Nothing → s.event ≡ Untold → is_silent s.recovery ≡ false → has_work s ≡ true → is_cut item ≡ false
    → Fits (told s) item → (effect (told s) item).event ≡ Untold → (effect (told s) item).owed ≡ Nothing → t ≡ effect (told s) item → Happens s HostActs (item ∷ []) t
one_line s t item owed event quiet work cut fits over none to = record {
  free = rw owed refl;
  untold = rw event refl;
  makes = subst (λ (x : State). Lasts x item [] t) (sym (begun_told s owed quiet work)) (record {
    last = effect (told s) item;
    begins = record { told = refl; first = fits; phase = uncut s.busy (is_cut item) cut; more = refl };
    over = rw none refl;
    event = rw over refl;
    state = to ∙ closed_none (effect (told s) item) none;
  });
}

-- the answer of the request that a stop ends, and the recovery
pub two_lines : (s t : State) (item : Item) → s.owed ≡ Nothing → s.event ≡ Untold → is_silent s.recovery ≡ false → has_work s ≡ true → is_cut item ≡ false
    → Fits (told s) item → goes_on (effect (told s) item) (effect (told s) item).owed Recover ≡ true → Fits (effect (told s) item) Recover
    → (effect (effect (told s) item) Recover).event ≡ Untold → (effect (effect (told s) item) Recover).owed ≡ Nothing
    → t ≡ effect (effect (told s) item) Recover → Happens s HostActs (item ∷ Recover ∷ []) t
two_lines s t item owed event quiet work cut fits goes more over none to = record {
  free = rw owed refl;
  untold = rw event refl;
  makes = subst (λ (x : State). Lasts x item (Recover ∷ []) t) (sym (begun_told s owed quiet work)) (record {
    last = effect (effect (told s) item) Recover;
    begins = record { told = refl; first = fits; phase = uncut s.busy (is_cut item) cut; more = (goes, more, refl) };
    over = rw none refl;
    event = rw over refl;
    state = to ∙ closed_none (effect (effect (told s) item) Recover) none;
  });
}

-- a request is issued
pub issue_happens : (s t : State) (id tag : ℕ) → s.owed ≡ Nothing → s.event ≡ Untold → is_silent s.recovery ≡ false → has_work s ≡ true
    → is_pair id tag (next_issue s) ≡ true → is_irq_due s ≡ false → t ≡ after_issue s id tag → Happens s HostActs (Issue id tag ∷ []) t
unfolding effect after_issue holds next_issue
issue_happens s t id tag owed event quiet work pair quiet_irq to =
    one_line s t (Issue id tag) owed event quiet work refl (fits_told s (Issue id tag) owed pair refl (ap not quiet_irq)) refl refl to

-- CMD48 is answered
pub discard_happens : (s t : State) (n : ℕ) → s.owed ≡ Nothing → s.event ≡ Untold → s.recovery ≡ Cleared → has_work s ≡ true
    → is_heard s n ≡ true → t ≡ after_discard s n → Happens s HostActs (DiscardLine n ∷ []) t
unfolding effect after_discard holds discard_holds hit due
discard_happens s t n owed event at work heard to =
    one_line s t (DiscardLine n) owed event (ap is_silent at) work refl
    (fits_told s (DiscardLine n) owed (rw (heard, at) refl) refl (ap is_cleared at)) refl refl to

-- or is not
pub bus_happens : (s t : State) (n : ℕ) (kind : BusKind) → s.owed ≡ Nothing → s.event ≡ Untold → s.recovery ≡ Cleared → has_work s ≡ true
    → is_missed_now s n kind None ≡ true → t ≡ after_bus s n kind None → Happens s HostActs (BusLine n kind None ∷ []) t
unfolding effect after_bus holds bus_holds hit due
bus_happens s t n kind owed event at work missed to =
    one_line s t (BusLine n kind None) owed event (ap is_silent at) work refl
    (fits_told s (BusLine n kind None) owed (ap (λ (o : Owed). bus_by_owed s n kind None o) owed ∙ missed) (ap (λ r. not (is_calm r)) at)
    (ap (λ r. is_calm r || is_cleared r) at)) refl refl to

-- a stop that ends no request
pub recover_happens : (s t : State) → s.owed ≡ Nothing → s.event ≡ Untold → is_silent s.recovery ≡ false → has_work s ≡ true
    → is_stopped s ≡ true → is_fault_of s s.stop ≡ false → t ≡ after_recover s → Happens s HostActs (Recover ∷ []) t
unfolding effect after_recover holds recover_holds
recover_happens s t owed event quiet work stopped unnamed to =
    one_line s t Recover owed event quiet work refl
    (fits_told s Recover owed (or_last (is_recover_owed s.owed) (is_stopped s && not (is_fault_of s s.stop)) (rw (stopped, unnamed) refl)) refl refl) refl refl to

recovers_after : (s : State) (id : ℕ) → Fits (after_fault s id) Recover
unfolding after_fault holds recover_holds line_rule
recovers_after s id = record { line = refl; stands = refl; first = refl }

-- one that does
pub fault_happens : (s t : State) (id : ℕ) (why : Why) → s.owed ≡ Nothing → s.event ≡ Untold → is_silent s.recovery ≡ false → has_work s ≡ true
    → fault_holds s id why ≡ true → t ≡ after_recover (after_fault s id) → Happens s HostActs (Fault id why ∷ Recover ∷ []) t
unfolding effect after_fault after_recover holds fault_holds
fault_happens s t id why owed event quiet work holds_it to =
    two_lines s t (Fault id why) owed event quiet work refl (fits_told s (Fault id why) owed holds_it refl refl) refl (recovers_after (told s) id) refl refl to

pub refusal_happens : (s t : State) (id : ℕ) (why : Limit) → s.owed ≡ Nothing → s.event ≡ Untold → is_silent s.recovery ≡ false → has_work s ≡ true
    → refused_holds s id why ≡ true → t ≡ after_recover (after_fault s id) → Happens s HostActs (Refused id why ∷ Recover ∷ []) t
unfolding effect after_fault after_recover holds refused_holds
refusal_happens s t id why owed event quiet work holds_it to =
    two_lines s t (Refused id why) owed event quiet work refl (fits_told s (Refused id why) owed holds_it refl refl) refl (recovers_after (told s) id) refl refl to
