-- A line that is taken where it stands.
use Rattle.std.proofs.Common.{◌≡◌, ◌∙◌, ℕ, Bool, true, false, Option, Some, None, cond, List, ◌∷◌, refl, ap}
use Rattle.std.proofs.lemmas.Bool.{false≢true}
use Rattle.storage_machine.specs.Cuts.{least}
use Rattle.storage_machine.specs.declared.state.Owed.{Owed}
use Rattle.storage_machine.specs.declared.state.Owed.TheVariants.{Card as CardOwed, Nothing, Closed, Bus as BusOwed, Flash as FlashOwed, Answers, Sectors, Recover as RecoverOwed, Dark, Left as LeftOwed, End as Ended}
use Rattle.storage_machine.specs.declared.state.State.{State}
use Rattle.storage_model.specs.declared.trace.Item.{Item}
use Rattle.storage_model.specs.declared.trace.Item.TheVariants.{Card, Issue, Params, Address, Poll, Phase, Discard, Bus, Flash, Recover, Irq, Done, Read, Sector, Status, Fault, Refused, Cut, Lost, On, Left, Turn, Off}
use Rattle.storage_order.specs.Accept.{accept_from, accept_next, accepted, broken_rule}
use Rattle.storage_order.specs.Order.{is_phase, order_rule, settled, starts}
use Rattle.trace_effects.specs.Effects.{effect}
use Rattle.trace_rules.specs.Lines.{holds, is_for, is_free, line_rule, owing, owing_past, rule_of}
use Rattle.trace_rules.specs.Steps.{event_rule, is_first_work, is_left_so, stands_in, yields_to_cut}

-- no rule of 12 to 16 is broken
pub event_none : (s : State) (item : Item) → stands_in s s.event item ≡ true → is_first_work s item ≡ true → yields_to_cut s item ≡ true → is_left_so s item ≡ true → event_rule s item ≡ None
unfolding event_rule
event_none s item stands first yields so = rw (stands, first, yields, so) refl

broken_none : (m x : State) (item : Item) → settled m item ≡ x → order_rule m item ≡ None → line_rule x item ≡ None → event_rule x item ≡ None → broken_rule m item ≡ None
unfolding broken_rule
broken_none m x item at order line event = rw (at, order, line, event) refl

next_none : (m : State) (item : Item) (more : List Item) → broken_rule m item ≡ None → accept_from (item ∷ more) m ≡ accept_from more (accepted m item)
next_none m item more whole = ap (λ rule. accept_next m item rule (accept_from more)) whole

-- the line is taken, and does what it does
pub one_taken : (m x : State) (item : Item) → settled m item ≡ x → order_rule m item ≡ None → line_rule x item ≡ None → event_rule x item ≡ None
    → (more : List Item) → accept_from (item ∷ more) m ≡ accept_from more (effect x item)
one_taken m x item at order line event more =
    next_none m item more (broken_none m x item at order line event) ∙ ap (λ s. accept_from more (effect s item)) at

-- a line that begins no event
pub settled_same : (s : State) (item : Item) → starts s item ≡ false → settled s item ≡ s
unfolding settled
settled_same s item not_first = rw not_first refl

pub order_same : (s : State) (item : Item) → starts s item ≡ false → order_rule s item ≡ None
unfolding order_rule
order_same s item not_first = rw not_first refl

pub owed_stays : (s : State) (item : Item) → is_free s.owed ≡ false → starts s item ≡ false
unfolding starts
owed_stays s item owes = rw owes refl

never_least : (owed : Option ℕ) (rule : ℕ) → least owed rule ≡ None → false ≡ true
never_least None rule e = absurd (cc)
never_least (Some x) rule e = absurd (cc)

for_where : (held for : Bool) (owed past : Option ℕ) (rule : ℕ) → cond held (cond for None owed) (least past rule) ≡ None → (x : ℕ) → owed ≡ Some x → for ≡ true
for_where true true owed past rule e x is = refl
for_where true false owed past rule e x is = absurd (cc)
for_where false for owed past rule e x is = absurd (false≢true (never_least past rule e))

-- a line that breaks no rule of 1 to 11 is one of those that are owed
pub for_owed : (s : State) (item : Item) (x : ℕ) → line_rule s item ≡ None → owing s.owed ≡ Some x → is_for s.owed item ≡ true
unfolding line_rule
for_owed s item x line owes = for_where (holds s item) (is_for s.owed item) (owing s.owed) (owing_past s item) (rule_of item) line x owes

-- only a phase yields to a cut
pub yields_else : (s : State) (item : Item) → is_phase item ≡ false → yields_to_cut s item ≡ true
yields_else s (Card sectors depth lines) e = refl
yields_else s (Issue id tag) e = refl
yields_else s (Params n id) e = refl
yields_else s (Address n id) e = refl
yields_else s (Poll n mask) e = refl
yields_else s (Phase n id count kept) e = absurd (cc)
yields_else s (Discard n) e = refl
yields_else s (Bus n kind id) e = refl
yields_else s (Flash id) e = refl
yields_else s Recover e = refl
yields_else s (Irq mask) e = refl
yields_else s (Done id) e = refl
yields_else s (Read id) e = refl
yields_else s (Sector value) e = refl
yields_else s (Status id word) e = refl
yields_else s (Fault id why) e = refl
yields_else s (Refused id why) e = refl
yields_else s Cut e = refl
yields_else s (Lost id) e = refl
yields_else s On e = refl
yields_else s (Left sector value) e = refl
yields_else s (Turn letter) e = refl
yields_else s (Off end) e = refl

phase_else : (item : Item) (owed : Owed) → is_for owed item ≡ true → is_free owed ≡ false → is_phase item ≡ false
phase_else (Card sectors depth lines) owed e free = refl
phase_else (Issue id tag) owed e free = refl
phase_else (Params n id) owed e free = refl
phase_else (Address n id) owed e free = refl
phase_else (Poll n mask) owed e free = refl
phase_else (Phase n id count kept) CardOwed e free = absurd (cc)
phase_else (Phase n id count kept) Nothing e free = absurd (cc)
phase_else (Phase n id count kept) Closed e free = absurd (cc)
phase_else (Phase n id count kept) (BusOwed m j kind) e free = absurd (cc)
phase_else (Phase n id count kept) (FlashOwed j) e free = absurd (cc)
phase_else (Phase n id count kept) Answers e free = absurd (cc)
phase_else (Phase n id count kept) (Sectors tag k) e free = absurd (cc)
phase_else (Phase n id count kept) RecoverOwed e free = absurd (cc)
phase_else (Phase n id count kept) (Dark cuts) e free = absurd (cc)
phase_else (Phase n id count kept) (LeftOwed from) e free = absurd (cc)
phase_else (Phase n id count kept) Ended e free = absurd (cc)
phase_else (Discard n) owed e free = refl
phase_else (Bus n kind id) owed e free = refl
phase_else (Flash id) owed e free = refl
phase_else Recover owed e free = refl
phase_else (Irq mask) owed e free = refl
phase_else (Done id) owed e free = refl
phase_else (Read id) owed e free = refl
phase_else (Sector value) owed e free = refl
phase_else (Status id word) owed e free = refl
phase_else (Fault id why) owed e free = refl
phase_else (Refused id why) owed e free = refl
phase_else Cut owed e free = refl
phase_else (Lost id) owed e free = refl
phase_else On owed e free = refl
phase_else (Left sector value) owed e free = refl
phase_else (Turn letter) owed e free = refl
phase_else (Off end) owed e free = refl

pub yields_owed : (s : State) (item : Item) → is_for s.owed item ≡ true → is_free s.owed ≡ false → yields_to_cut s item ≡ true
yields_owed s item for free = yields_else s item (phase_else item s.owed for free)
