-- A cut uses the line that was due at the begin of power's event, and in another event none.
use Rattle.std.proofs.Common.{◌≡◌, ◌∙◌, ℕ, ◌+◌, Bool, true, false, cond, ◌&&◌, ◌||◌, ◌==◌, not, List, [], ◌∷◌, ◌++◌, Option, Some, None, refl, ap, sym, subst}
use Rattle.std.proofs.lemmas.Bool.{false≢true, true≢false, and_parts, eqb-true}
use Rattle.std.specs.Prelude.{is_none, length, nat_lt}
use Rattle.storage_machine.specs.Commands.{due, hit, is_calm, next_number}
use Rattle.storage_machine.specs.Cuts.{due_line, is_due, least, next_left, sent_so_far}
use Rattle.storage_machine.specs.Host.{has_work, is_silent, recovery_step, recovery_step_at, to_do}
use Rattle.storage_machine.specs.Jobs.{job_of}
use Rattle.storage_machine.specs.declared.state.Event.{Event}
use Rattle.storage_machine.specs.declared.state.Event.TheVariants.{Untold, Told, Due}
use Rattle.storage_machine.specs.declared.state.Owed.{Owed}
use Rattle.storage_machine.specs.declared.state.Owed.TheVariants.{Card as CardOwed, Nothing, Closed, Bus as BusOwed, Flash as FlashOwed, Answers, Sectors, Recover as RecoverOwed, Dark, Left as LeftOwed, End as Ended}
use Rattle.storage_machine.specs.declared.state.Recovery.{Recovery}
use Rattle.storage_machine.specs.declared.state.Recovery.TheVariants.{Calm, Halted, Cleared, Discarded, Cleaned, Resumed}
use Rattle.storage_machine.specs.declared.state.State.{State}
use Rattle.storage_model.specs.declared.block.Block.{Block}
use Rattle.storage_model.specs.declared.faults.BusKind.{BusKind}
use Rattle.storage_model.specs.declared.faults.BusKind.TheVariants.{Lost as LostKind, NoResp, Bad, Late}
use Rattle.storage_model.specs.declared.faults.Letter.{Letter}
use Rattle.storage_model.specs.declared.faults.Letter.TheVariants.{Host as HostActs, Engine as EngineActs, Card as CardActs, Cut as PowerActs}
use Rattle.storage_model.specs.declared.plan.Job.{Job}
use Rattle.storage_model.specs.declared.trace.Item.{Item}
use Rattle.storage_model.specs.declared.trace.Item.TheVariants.{Phase, Sector, Cut, Lost, On, Left, Turn, Off}
use Rattle.storage_order.specs.Events.{Fits, Goes, More, goes_on, is_untold}
use Rattle.trace_effects.specs.Effects.{after_address, after_answer, after_bus, after_cut, after_discard, after_fault, after_flash, after_irq, after_issue, after_left, after_lost, after_off, after_on, after_params, after_poll, after_read, after_recover, after_sector, begun, cut_at, effect, left_from, left_mark, left_on, powered, shown_on}
use Rattle.trace_effects.specs.Cuts.{epochs_with}
use Rattle.trace_effects.specs.Phases.{after_blocks, after_done, after_keep, after_phase, done_with, event_with, read_sectors}
use Rattle.trace_rules.specs.Lines.{cut_holds, data_on, holds, is_for, line_rule, may_cut, owes_nothing, owing, owing_past, rule_of, same_letter, turn_holds}
use Rattle.trace_rules.specs.Phases.{is_phase_of, is_whole, owed_by, phase_holds, tag_due}
use Rattle.trace_rules.specs.Steps.{is_cut, is_line_of, is_nothing, is_under_way, stands_in}
use Rattle.cut_order.specs.Order.{OrderState, cut_in, is_dark as is_told_dark, order_of, with_line}
use Rattle.cut_order.proofs.EventLaws.{is_forced, is_turn}
use Rattle.cut_order.proofs.StateLaws.{order_cut}
use Rattle.array_edge.specs.Array.{ArrayState}
use Rattle.world_state.specs.Path.{PathState}
use Rattle.world_state.specs.Told.{CutFollows, Darkened, is_dark}
use Rattle.power_laws.specs.Power.{cut_order}

-- ---- a line that keeps its rule: its own test holds, and it is of those that are owed

never_least : (owed : Option ℕ) (rule : ℕ) → least owed rule ≡ None → false ≡ true
never_least None rule e = absurd (cc)
never_least (Some x) rule e = absurd (cc)

held_by : (held for : Bool) (owed past : Option ℕ) (rule : ℕ) → cond held (cond for None owed) (least past rule) ≡ None → held ≡ true
held_by true for owed past rule e = refl
held_by false for owed past rule e = never_least past rule e

held : (s : State) (item : Item) → line_rule s item ≡ None → holds s item ≡ true
unfolding line_rule
held s item line = held_by (holds s item) (is_for s.owed item) (owing s.owed) (owing_past s item) (rule_of item) line

for_by : (held for : Bool) (rule other : ℕ) (past : Option ℕ) → cond held (cond for None (Some rule)) (least past other) ≡ None → for ≡ true
for_by true true rule other past e = refl
for_by true false rule other past e = absurd (cc e)
for_by false true rule other past e = refl
for_by false false rule other past e = never_least past other e

for_owed : (s : State) (item : Item) (owed : Owed) (rule : ℕ) → s.owed ≡ owed → owing owed ≡ Some rule → line_rule s item ≡ None → is_for owed item ≡ true
unfolding line_rule
for_owed s item owed rule at owes line =
    for_by (holds s item) (is_for owed item) rule (rule_of item) (owing_past s item)
    (sym (ap (λ w. cond (holds s item) (cond (is_for w item) None (owing w)) (least (owing_past s item) (rule_of item))) at
    ∙ ap (λ w. cond (holds s item) (cond (is_for owed item) None w) (least (owing_past s item) (rule_of item))) owes) ∙ line)

-- ---- a letter's line is of no event

turn_goes : (s : State) (letter : Letter) (owed : Owed) → goes_on s owed (Turn letter) ≡ true → owes_nothing owed ≡ true → false ≡ true
turn_goes s letter Nothing goes free = goes
turn_goes s letter Closed goes free = goes
turn_goes s letter Ended goes free = goes
turn_goes s letter owed goes free = free

turn_holds_free : (s : State) (letter : Letter) → holds s (Turn letter) ≡ true → owes_nothing s.owed ≡ true
unfolding holds turn_holds
turn_holds_free s letter h = (and_parts _ _ h).0

no_turn : (s : State) (item : Item) → goes_on s s.owed item ≡ true → line_rule s item ≡ None → is_turn item ≡ false
no_turn s (Turn letter) goes line = sym (turn_goes s letter s.owed goes (turn_holds_free s letter (held s (Turn letter) line)))
no_turn s item goes line = refl

neither : (b : Bool) → cond b false false ≡ false
neither true = refl
neither false = refl

turn_stands : (s : State) (event : Event) (letter : Letter) → s.owed ≡ Nothing → is_untold event ≡ false → stands_in s event (Turn letter) ≡ false
turn_stands s Untold letter rest told = absurd (true≢false told)
turn_stands s Due letter rest told = neither (is_nothing s.owed)
turn_stands s (Told HostActs) letter rest told = ap (λ owed. not (is_nothing owed) || false) rest
turn_stands s (Told EngineActs) letter rest told = ap (λ owed. not (is_nothing owed) || false) rest
turn_stands s (Told CardActs) letter rest told = neither (is_nothing s.owed)
turn_stands s (Told PowerActs) letter rest told = neither (is_nothing s.owed)

first_no_turn : (s : State) (item : Item) → s.owed ≡ Nothing → is_untold s.event ≡ false → stands_in s s.event item ≡ true → is_turn item ≡ false
first_no_turn s (Turn letter) rest told stands = absurd (true≢false (sym stands ∙ turn_stands s s.event letter rest told))
first_no_turn s item rest told stands = refl

-- ---- an event that isn't a due cut's doesn't become one

unforced_either : (b : Bool) (s t : State) → is_forced s.event ≡ false → is_forced t.event ≡ false → is_forced (cond b s t).event ≡ false
unforced_either true s t left right = left
unforced_either false s t left right = right

unforced_with : (event : Event) → is_forced event ≡ false → is_forced (event_with event) ≡ false
unforced_with Untold e = refl
unforced_with Due e = absurd (true≢false e)
unforced_with (Told HostActs) e = refl
unforced_with (Told EngineActs) e = refl
unforced_with (Told CardActs) e = refl
unforced_with (Told PowerActs) e = refl

unforced_shown : (s : State) (owed : Owed) → is_forced s.event ≡ false → is_forced (shown_on s owed).event ≡ false
unforced_shown s (Sectors tag k) e = unforced_either (nat_lt (k + 1) (length (data_on s tag))) _ _ refl refl
unforced_shown s owed e = e

unforced_from : (s : State) (next : Option ℕ) → is_forced (left_from s next).event ≡ false
unforced_from s None = refl
unforced_from s (Some sector) = refl

unforced_left : (s : State) (sector : ℕ) (next : Option ℕ) → is_forced (left_on s sector next).event ≡ false
unforced_left s sector None = refl
unforced_left s sector (Some later) = refl

unforced_cut : (s : State) (owed : Owed) → is_forced (cut_at s owed).event ≡ false
unforced_cut s (Dark cuts) = refl
unforced_cut s owed = refl

event_either : (b : Bool) (s t : State) (event : Event) → s.event ≡ event → t.event ≡ event → (cond b s t).event ≡ event
event_either true s t event left right = left
event_either false s t event left right = right

event_blocks : (s : State) (job : Job) (count : ℕ) (kept : Bool) → (after_blocks s job count kept).event ≡ s.event
unfolding after_blocks after_keep
event_blocks s job count kept = event_either kept _ _ s.event refl refl

event_done : (s : State) (tag id : ℕ) (job : Job) (sectors : List Block) (done : Bool) → (done_with s tag id job sectors done).event ≡ s.event
unfolding after_done
event_done s tag id job sectors done = event_either done _ _ s.event refl refl

-- a phase's line ends its event but where power is lost in it
event_phase : (s : State) (n id count : ℕ) (kept : Bool) → (after_phase s n id count kept).event ≡ event_with s.event
unfolding after_phase
event_phase s n id count kept =
    let job = job_of s.plan.jobs id in
    let blocks = after_blocks s job count kept in
    ap event_with (event_done blocks (tag_due (due s)) id job (read_sectors s job) (is_whole s.plan.through job count kept && is_none (hit s)) ∙ event_blocks s job count kept)

unforced : (s : State) (item : Item) → is_forced s.event ≡ false → is_turn item ≡ false → is_forced (effect s item).event ≡ false
unfolding effect after_address after_answer after_bus after_cut after_discard after_fault after_flash after_irq after_issue after_left after_lost after_off after_on after_params after_poll after_read after_recover after_sector
unforced s (Turn letter) e other = absurd (true≢false other)
unforced s (Phase n id count kept) e other = ap is_forced (event_phase s n id count kept) ∙ unforced_with s.event e
unforced s (Sector value) e other = unforced_shown s s.owed e
unforced s On e other = unforced_from (powered s) (next_left s.pend 0)
unforced s (Left sector value) e other = unforced_left (record s { epochs = epochs_with s sector value; lefts = s.lefts ++ left_mark sector value ∷ [] }) sector (next_left s.pend (sector + 1))
unforced s Cut e other = unforced_cut s s.owed
unforced s item e other = refl

unforced_more : (s : State) (items : List Item) (t : State) → is_forced s.event ≡ false → More s items t → is_forced t.event ≡ false
unforced_more s [] t e at = ap (λ (x : State). is_forced x.event) at ∙ e
unforced_more s (item ∷ items) t e more =
    unforced_more (effect s item) items t (unforced s item e (no_turn s item more.0 more.1.line)) more.2

unforced_goes : (s : State) (items : List Item) (t : State) → s.owed ≡ Nothing → is_forced s.event ≡ false → Goes s items t → is_forced t.event ≡ false
unforced_goes s [] t rest e at = ap (λ (x : State). is_forced x.event) at ∙ e
unforced_goes s (item ∷ items) t rest e x =
    unforced_more (effect s item) items t (unforced s item e (first_no_turn s item rest x.told x.first.stands)) x.more

-- ---- an event has begun

owed_recovery : (s : State) (recovery : Recovery) → s.owed ≡ Nothing → (recovery_step_at s recovery).owed ≡ Nothing
owed_recovery s Calm e = e
owed_recovery s Halted e = e
owed_recovery s Cleared e = e
owed_recovery s Discarded e = e
owed_recovery s Cleaned e = e
owed_recovery s Resumed e = e

owed_either : (b : Bool) (s t : State) → s.owed ≡ Nothing → t.owed ≡ Nothing → (cond b s t).owed ≡ Nothing
owed_either true s t left right = left
owed_either false s t left right = right

owed_begun : (s : State) (letter : Letter) → (begun s letter).owed ≡ Nothing
unfolding begun recovery_step
owed_begun s HostActs = owed_either (is_silent s.recovery) _ _ (owed_recovery (record s { owed = Nothing }) s.recovery refl) refl
owed_begun s EngineActs = refl
owed_begun s CardActs = refl
owed_begun s PowerActs = refl

forced_choice : (b : Bool) (x y : Event) → is_forced x ≡ false → is_forced y ≡ false → is_forced (cond b x y) ≡ false
forced_choice true x y left right = left
forced_choice false x y left right = right

due_at_begin : (s : State) → is_due (record s { owed = Nothing }) ≡ is_due s
unfolding to_do due_line
due_at_begin s = refl

begun_plain : (s : State) (actor : Letter) → (same_letter actor PowerActs && is_due s) ≡ false → is_forced (begun s actor).event ≡ false
unfolding begun
begun_plain s HostActs none = unforced_either (is_silent s.recovery) _ _ refl (forced_choice (has_work (record s { owed = Nothing })) (Told HostActs) Untold refl refl)
begun_plain s EngineActs none = refl
begun_plain s CardActs none = refl
begun_plain s PowerActs none = ap (λ b. is_forced (cond b Due (Told PowerActs))) (due_at_begin s ∙ none)

begun_forced : (s : State) → is_due s ≡ true → (begun s PowerActs).event ≡ Due
unfolding begun
begun_forced s late = ap (λ b. cond b Due (Told PowerActs)) (due_at_begin s ∙ late)

sent_begun : (s : State) → sent_so_far (begun s PowerActs) ≡ sent_so_far s
unfolding begun
sent_begun s = refl

-- ---- lines behind a loss of power: none of them is followed by a first cut

abbrev is_after : Owed → Bool
is_after (Dark cuts) = true
is_after (LeftOwed from) = true
is_after Nothing = true
is_after Ended = true
is_after owed = false

after_from : (s : State) (next : Option ℕ) → is_after (left_from s next).owed ≡ true
after_from s None = refl
after_from s (Some sector) = refl

after_next : (s : State) (sector : ℕ) (next : Option ℕ) → is_after (left_on s sector next).owed ≡ true
after_next s sector None = refl
after_next s sector (Some later) = refl

after_cut_at : (s : State) (owed : Owed) → is_after (cut_at s owed).owed ≡ true
after_cut_at s (Dark cuts) = refl
after_cut_at s owed = refl

after_dark : (s : State) (item : Item) (cuts : ℕ) → s.owed ≡ Dark cuts → is_for (Dark cuts) item ≡ true → is_after (effect s item).owed ≡ true
unfolding effect after_cut after_lost after_on after_off
after_dark s Cut cuts at for = after_cut_at s s.owed
after_dark s (Lost id) cuts at for = ap is_after at
after_dark s On cuts at for = after_from (powered s) (next_left s.pend 0)
after_dark s (Off end) cuts at for = refl
after_dark s item cuts at for = absurd (false≢true for)

after_lefts : (s : State) (item : Item) (from : ℕ) → is_for (LeftOwed from) item ≡ true → is_after (effect s item).owed ≡ true
unfolding effect after_left after_off
after_lefts s (Left sector value) from for =
    after_next (record s { epochs = epochs_with s sector value; lefts = s.lefts ++ left_mark sector value ∷ [] }) sector (next_left s.pend (sector + 1))
after_lefts s (Off end) from for = refl
after_lefts s item from for = absurd (false≢true for)

after_line : (s : State) (item : Item) (owed : Owed) → s.owed ≡ owed → is_after owed ≡ true → goes_on s owed item ≡ true → line_rule s item ≡ None
    → is_after (effect s item).owed ≡ true
after_line s item (Dark cuts) at after goes line = after_dark s item cuts at (for_owed s item (Dark cuts) 10 at refl line)
after_line s item (LeftOwed from) at after goes line = after_lefts s item from (for_owed s item (LeftOwed from) 10 at refl line)
after_line s item Nothing at after goes line = absurd (false≢true goes)
after_line s item Ended at after goes line = absurd (false≢true goes)
after_line s item CardOwed at after goes line = absurd (false≢true after)
after_line s item Closed at after goes line = absurd (false≢true after)
after_line s item (BusOwed n id kind) at after goes line = absurd (false≢true after)
after_line s item (FlashOwed id) at after goes line = absurd (false≢true after)
after_line s item Answers at after goes line = absurd (false≢true after)
after_line s item (Sectors tag k) at after goes line = absurd (false≢true after)
after_line s item RecoverOwed at after goes line = absurd (false≢true after)

after_more : (s : State) (items : List Item) (t : State) → is_after s.owed ≡ true → More s items t → is_after t.owed ≡ true
after_more s [] t after at = ap (λ (x : State). is_after x.owed) at ∙ after
after_more s (item ∷ items) t after more = after_more (effect s item) items t (after_line s item s.owed refl after more.0 more.1.line) more.2

cut_held : (s : State) → holds s Cut ≡ true → may_cut s s.owed ≡ true
unfolding holds cut_holds
cut_held s h = h

after_none : (s : State) (owed : Owed) → is_after owed ≡ true → is_dark owed ≡ false → goes_on s owed Cut ≡ true → may_cut s owed ≡ true → false ≡ true
after_none s (Dark cuts) after lit goes may = absurd (true≢false lit)
after_none s (LeftOwed from) after lit goes may = may
after_none s Nothing after lit goes may = goes
after_none s Ended after lit goes may = goes
after_none s CardOwed after lit goes may = after
after_none s Closed after lit goes may = after
after_none s (BusOwed n id kind) after lit goes may = after
after_none s (FlashOwed id) after lit goes may = after
after_none s Answers after lit goes may = after
after_none s (Sectors tag k) after lit goes may = after
after_none s RecoverOwed after lit goes may = after

-- no first cut follows a cut
no_second : (s : State) (items : List Item) (t : State) → More (effect s Cut) items t → is_dark t.owed ≡ false → goes_on t t.owed Cut ≡ true → Fits t Cut
    → false ≡ true
unfolding effect after_cut
no_second s items t more lit goes fits =
    after_none t t.owed (after_more (effect s Cut) items t (after_cut_at s s.owed) more) lit goes (cut_held t (held t Cut fits.line))

-- ---- the cut

dark_so : (owed : Owed) → is_dark owed ≡ false → is_told_dark owed ≡ false
dark_so (Dark cuts) lit = lit
dark_so owed lit = refl

cut_plain : (event : Event) (order : OrderState) (sent : ℕ) → is_forced event ≡ false → cut_in event order sent ≡ order
cut_plain Untold order sent e = refl
cut_plain Due order sent e = absurd (true≢false e)
cut_plain (Told letter) order sent e = refl

-- what the cut makes of the order
cut_orders : (t : State) (o : OrderState) → order_of t ≡ o → is_dark t.owed ≡ false → order_of (effect t Cut) ≡ cut_in t.event o (sent_so_far t)
unfolding effect
cut_orders t o order lit = order_cut t (dark_so t.owed lit) ∙ ap (λ x. cut_in t.event x (sent_so_far t)) order

-- the phase leaves the count of commands sent as it was, and its event goes on
sent_phase : (s : State) (n id count : ℕ) (kept : Bool) → s.busy ≡ true → n ≡ next_number s → sent_so_far (effect s (Phase n id count kept)) ≡ sent_so_far s
unfolding effect after_phase
sent_phase s n id count kept busy number = number ∙ sym (ap (λ b. cond b (next_number s) s.n) busy)

number_of : (s : State) (n id count : ℕ) (kept : Bool) → holds s (Phase n id count kept) ≡ true → n ≡ next_number s
unfolding holds phase_holds
number_of s n id count kept h = eqb-true n (next_number s) (and_parts (n == next_number s) (is_phase_of s id count kept (due s)) h).0

phase_forced : (s : State) (n id count : ℕ) (kept : Bool) → s.event ≡ Due → (effect s (Phase n id count kept)).event ≡ Due
unfolding effect
phase_forced s n id count kept at = event_phase s n id count kept ∙ ap event_with at

-- a line is owed behind it, and that is the cut
nothing_either : (b : Bool) (x y : Owed) → is_nothing x ≡ false → is_nothing y ≡ false → is_nothing (cond b x y) ≡ false
nothing_either true x y left right = left
nothing_either false x y left right = right

owed_by_phase : (kind : Option BusKind) (whole : Bool) (n id count : ℕ) → is_nothing (owed_by kind whole n id count) ≡ false
owed_by_phase None whole n id count = nothing_either whole Closed (FlashOwed id) refl refl
owed_by_phase (Some LostKind) whole n id count = refl
owed_by_phase (Some NoResp) whole n id count = refl
owed_by_phase (Some (Bad block)) whole n id count = nothing_either (count + 1 == block) _ (FlashOwed id) refl refl
owed_by_phase (Some Late) whole n id count = refl

owed_phase : (s : State) (n id count : ℕ) (kept : Bool) → is_nothing (effect s (Phase n id count kept)).owed ≡ false
unfolding effect after_phase
owed_phase s n id count kept = owed_by_phase (hit s) (is_whole s.plan.through (job_of s.plan.jobs id) count kept) n id count

cut_behind : (s : State) (item : Item) → s.event ≡ Due → is_nothing s.owed ≡ false → stands_in s s.event item ≡ true → is_cut item ≡ true
cut_behind s item at owes stands =
    sym (ap (λ event. stands_in s event item) at ∙ ap (λ b. cond b (is_line_of PowerActs (is_calm s.recovery) item && is_under_way s.busy item) (is_cut item)) owes) ∙ stands

first_of_power : (s : State) (item : Item) → s.event ≡ Due → s.owed ≡ Nothing → stands_in s s.event item ≡ true → (is_line_of PowerActs (is_calm s.recovery) item && is_under_way s.busy item) ≡ true
first_of_power s item at rest stands =
    sym (ap (λ event. stands_in s event item) at ∙ ap (λ owed. cond (is_nothing owed) (is_line_of PowerActs (is_calm s.recovery) item && is_under_way s.busy item) (is_cut item)) rest) ∙ stands

-- the last line's state is still that of the due cut's event, and so many commands were sent
abbrev IsForced : State → ℕ → Type 0
IsForced t sent = (t.event ≡ Due) × (sent_so_far t ≡ sent)

-- behind the lines comes a first cut
record Cuts (t : State) : Type 0 where
  pub lit : is_dark t.owed ≡ false
  pub goes : goes_on t t.owed Cut ≡ true
  pub fits : Fits t Cut

forced_more : (s : State) (items : List Item) (t : State) (sent : ℕ) → IsForced s sent → is_nothing s.owed ≡ false → Cuts t → More s items t → IsForced t sent
forced_more s [] t sent at owes cut same = subst (λ x. IsForced x sent) (sym same) at
forced_more s (item ∷ items) t sent at owes cut more = by item more (cut_behind s item at.0 owes more.1.stands)
  where
    by : (item : Item) → More s (item ∷ items) t → is_cut item ≡ true → IsForced t sent
    by Cut more is = absurd (false≢true (no_second s items t more.2 cut.lit cut.goes cut.fits))
    by item more is = absurd (false≢true is)

forced_first : (s : State) (item : Item) (items : List Item) (t : State) (sent : ℕ) → IsForced s sent → Cuts t → Fits s item → More (effect s item) items t
    → (is_line_of PowerActs (is_calm s.recovery) item && is_under_way s.busy item) ≡ true → IsForced t sent
forced_first s (Phase n id count kept) items t sent at cut fits more first =
    let phase = Phase n id count kept in
    forced_more (effect s phase) items t sent
    (phase_forced s n id count kept at.0, sent_phase s n id count kept first (number_of s n id count kept (held s phase fits.line)) ∙ at.1)
    (owed_phase s n id count kept) cut more
forced_first s Cut items t sent at cut fits more first = absurd (false≢true (no_second s items t more cut.lit cut.goes cut.fits))
forced_first s item items t sent at cut fits more first = absurd (false≢true first)

forced_goes : (s : State) (items : List Item) (t : State) (sent : ℕ) → s.owed ≡ Nothing → IsForced s sent → is_dark t.owed ≡ false → CutFollows items t
    → Goes s items t → IsForced t sent
forced_goes s [] t sent rest at lit cut same = subst (λ x. IsForced x sent) (sym same) at
forced_goes s (item ∷ items) t sent rest at lit cut x =
    forced_first s item items t sent at (record { lit = lit; goes = cut.0; fits = cut.1 }) x.first x.more (first_of_power s item at.0 rest x.first.stands)

-- ---- of every actor

forced_line : (s t : State) (items : List Item) (o : OrderState) → is_due s ≡ true → Goes (begun s PowerActs) items t → CutFollows items t → order_of t ≡ o
    → is_dark t.owed ≡ false → order_of (effect t Cut) ≡ with_line o (sent_so_far s)
forced_line s t items o late goes cut order lit =
    let at = forced_goes (begun s PowerActs) items t (sent_so_far s) (owed_begun s PowerActs) (begun_forced s late, sent_begun s) lit cut goes in
    cut_orders t o order lit ∙ ap (λ event. cut_in event o (sent_so_far t)) at.0 ∙ ap (λ n. with_line o n) at.1

plain_line : (s t : State) (actor : Letter) (items : List Item) (o : OrderState) → (same_letter actor PowerActs && is_due s) ≡ false → Goes (begun s actor) items t
    → order_of t ≡ o → is_dark t.owed ≡ false → order_of (effect t Cut) ≡ o
plain_line s t actor items o none goes order lit =
    cut_orders t o order lit ∙ cut_plain t.event o (sent_so_far t) (unforced_goes (begun s actor) items t (owed_begun s actor) (begun_plain s actor none) goes)

line_by : (s t : State) (actor : Letter) (items : List Item) (o : OrderState) (late : Bool) → is_due s ≡ late → Goes (begun s actor) items t → CutFollows items t
    → order_of t ≡ o → is_dark t.owed ≡ false → order_of (effect t Cut) ≡ cut_order s actor o
line_by s t HostActs items o late is goes cut order lit = plain_line s t HostActs items o refl goes order lit
line_by s t EngineActs items o late is goes cut order lit = plain_line s t EngineActs items o refl goes order lit
line_by s t CardActs items o late is goes cut order lit = plain_line s t CardActs items o refl goes order lit
line_by s t PowerActs items o true is goes cut order lit =
    forced_line s t items o is goes cut order lit ∙ sym (ap (λ b. cond b (with_line o (sent_so_far s)) o) is)
line_by s t PowerActs items o false is goes cut order lit =
    plain_line s t PowerActs items o is goes order lit ∙ sym (ap (λ b. cond b (with_line o (sent_so_far s)) o) is)

pub uses_line : (actor : Letter) (s : State) (items : List Item) (p : PathState) (o : OrderState) (a : ArrayState) (d : Darkened actor s items p o a)
    → order_of (effect d.last Cut) ≡ cut_order s actor o
uses_line actor s items p o a d = line_by s d.last actor items o (is_due s) refl d.starts.goes d.cut d.losing.order d.losing.unjudged.lit
