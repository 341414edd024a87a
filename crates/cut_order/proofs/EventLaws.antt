-- A whole event uses the line that is due where it is power's, and else none, in whatever order the events come.
use Rattle.std.proofs.Common.{◌≡◌, ◌∙◌, ℕ, ◌+◌, Bool, true, false, cond, ◌&&◌, ◌||◌, ◌==◌, not, List, [], ◌∷◌, ◌++◌, Option, Some, None, refl, ap, sym}
use Rattle.std.proofs.lemmas.Bool.{true≢false, and_parts, eqb-true, or_parts}
use Rattle.std.specs.Prelude.{is_none, length, nat_lt}
use Rattle.storage_machine.specs.Commands.{due, hit, is_calm, next_number}
use Rattle.storage_machine.specs.Cuts.{due_line, is_due, least, next_left, sent_so_far}
use Rattle.storage_machine.specs.Host.{has_work, is_silent, recovery_step, recovery_step_at, to_do}
use Rattle.storage_machine.specs.Jobs.{job_of}
use Rattle.storage_machine.specs.declared.state.Event.{Event}
use Rattle.storage_machine.specs.declared.state.Event.TheVariants.{Untold, Told, Due}
use Rattle.storage_machine.specs.declared.state.Owed.{Owed}
use Rattle.storage_machine.specs.declared.state.Owed.TheVariants.{Nothing, Closed, Flash as FlashOwed, Sectors, Dark, End as Ended}
use Rattle.storage_machine.specs.declared.state.Recovery.{Recovery}
use Rattle.storage_machine.specs.declared.state.Recovery.TheVariants.{Calm, Halted, Cleared, Discarded, Cleaned, Resumed}
use Rattle.storage_machine.specs.declared.state.State.{State}
use Rattle.storage_model.specs.declared.block.Block.{Block}
use Rattle.storage_model.specs.declared.faults.BusKind.{BusKind}
use Rattle.storage_model.specs.declared.faults.BusKind.TheVariants.{Lost, NoResp, Bad, Late}
use Rattle.storage_model.specs.declared.faults.Letter.{Letter}
use Rattle.storage_model.specs.declared.faults.Letter.TheVariants.{Host as HostActs, Engine as EngineActs, Card as CardActs, Cut as PowerActs}
use Rattle.storage_model.specs.declared.plan.Job.{Job}
use Rattle.storage_model.specs.declared.trace.Item.{Item}
use Rattle.storage_model.specs.declared.trace.Item.TheVariants.{Phase, Sector, Cut, On, Left, Turn}
use Rattle.storage_order.specs.Events.{Begins, Fits, Happens, Makes, More, end_rule, goes_on, is_untold, rule_of_end}
use Rattle.trace_effects.specs.Effects.{after_address, after_answer, after_bus, after_cut, after_discard, after_fault, after_flash, after_irq, after_issue, after_left, after_lost, after_off, after_on, after_params, after_poll, after_read, after_recover, after_sector, begun, cut_at, effect, left_from, left_mark, left_on, over, powered, shown_on}
use Rattle.trace_effects.specs.Cuts.{epochs_with}
use Rattle.trace_effects.specs.Phases.{after_blocks, after_done, after_keep, after_phase, done_with, event_with, read_sectors}
use Rattle.trace_rules.specs.Lines.{data_on, holds, is_for, line_rule, owes_nothing, owing, owing_past, rule_of, same_letter, turn_holds}
use Rattle.trace_rules.specs.Phases.{is_phase_of, is_whole, owed_by, phase_holds, tag_due}
use Rattle.trace_rules.specs.Steps.{is_cut, is_line_of, is_nothing, is_under_way, stands_in}
use Rattle.cut_order.specs.Order.{OrderState, cut_in, is_dark, order_after, order_of, with_line}
use Rattle.cut_order.proofs.StateLaws.{order_begun, order_cut, order_dark, order_ended, order_line}

-- the event of a due cut is under way
abbrev pub is_forced : Event → Bool
is_forced Due = true
is_forced event = false

abbrev pub is_turn : Item → Bool
is_turn (Turn letter) = true
is_turn item = false

-- a line that keeps its rule: its own test holds
never_least : (owed : Option ℕ) (rule : ℕ) → least owed rule ≡ None → false ≡ true
never_least None rule e = absurd (cc)
never_least (Some x) rule e = absurd (cc)

held_by : (held for : Bool) (owed past : Option ℕ) (rule : ℕ) → cond held (cond for None owed) (least past rule) ≡ None → held ≡ true
held_by true for owed past rule e = refl
held_by false for owed past rule e = never_least past rule e

held : (s : State) (item : Item) → line_rule s item ≡ None → holds s item ≡ true
unfolding line_rule
held s item line = held_by (holds s item) (is_for s.owed item) (owing s.owed) (owing_past s item) (rule_of item) line

-- a letter's line is of no event
turn_goes : (s : State) (letter : Letter) (owed : Owed) → goes_on s owed (Turn letter) ≡ true → owes_nothing owed ≡ true → false ≡ true
turn_goes s letter Nothing goes free = goes
turn_goes s letter Closed goes free = goes
turn_goes s letter Ended goes free = goes
turn_goes s letter owed goes free = free

turn_holds_free : (s : State) (letter : Letter) → holds s (Turn letter) ≡ true → owes_nothing s.owed ≡ true
unfolding holds turn_holds
turn_holds_free s letter h = (and_parts _ _ h).0

no_turn : (s : State) (item : Item) → goes_on s s.owed item ≡ true → line_rule s item ≡ None → is_turn item ≡ false
no_turn s (Turn letter) goes line = sym (turn_goes s letter s.owed goes (turn_holds_free s letter (held s (Turn letter) line)))
no_turn s item goes line = refl

neither : (b : Bool) → cond b false false ≡ false
neither true = refl
neither false = refl

turn_stands : (s : State) (event : Event) (letter : Letter) → s.owed ≡ Nothing → is_untold event ≡ false → stands_in s event (Turn letter) ≡ false
turn_stands s Untold letter rest told = absurd (true≢false told)
turn_stands s Due letter rest told = neither (is_nothing s.owed)
turn_stands s (Told HostActs) letter rest told = ap (λ owed. not (is_nothing owed) || false) rest
turn_stands s (Told EngineActs) letter rest told = ap (λ owed. not (is_nothing owed) || false) rest
turn_stands s (Told CardActs) letter rest told = neither (is_nothing s.owed)
turn_stands s (Told PowerActs) letter rest told = neither (is_nothing s.owed)

first_no_turn : (s : State) (item : Item) → s.owed ≡ Nothing → is_untold s.event ≡ false → stands_in s s.event item ≡ true → is_turn item ≡ false
first_no_turn s (Turn letter) rest told stands = absurd (true≢false (sym stands ∙ turn_stands s s.event letter rest told))
first_no_turn s item rest told stands = refl

-- an event that isn't a due cut's doesn't become one
unforced_either : (b : Bool) (s t : State) → is_forced s.event ≡ false → is_forced t.event ≡ false → is_forced (cond b s t).event ≡ false
unforced_either true s t left right = left
unforced_either false s t left right = right

unforced_with : (event : Event) → is_forced event ≡ false → is_forced (event_with event) ≡ false
unforced_with Untold e = refl
unforced_with Due e = absurd (true≢false e)
unforced_with (Told HostActs) e = refl
unforced_with (Told EngineActs) e = refl
unforced_with (Told CardActs) e = refl
unforced_with (Told PowerActs) e = refl

unforced_shown : (s : State) (owed : Owed) → is_forced s.event ≡ false → is_forced (shown_on s owed).event ≡ false
unforced_shown s (Sectors tag k) e = unforced_either (nat_lt (k + 1) (length (data_on s tag))) _ _ refl refl
unforced_shown s owed e = e

unforced_from : (s : State) (next : Option ℕ) → is_forced (left_from s next).event ≡ false
unforced_from s None = refl
unforced_from s (Some sector) = refl

unforced_left : (s : State) (sector : ℕ) (next : Option ℕ) → is_forced (left_on s sector next).event ≡ false
unforced_left s sector None = refl
unforced_left s sector (Some later) = refl

unforced_cut : (s : State) (owed : Owed) → is_forced (cut_at s owed).event ≡ false
unforced_cut s (Dark cuts) = refl
unforced_cut s owed = refl

event_either : (b : Bool) (s t : State) (event : Event) → s.event ≡ event → t.event ≡ event → (cond b s t).event ≡ event
event_either true s t event left right = left
event_either false s t event left right = right

event_blocks : (s : State) (job : Job) (count : ℕ) (kept : Bool) → (after_blocks s job count kept).event ≡ s.event
unfolding after_blocks after_keep
event_blocks s job count kept = event_either kept _ _ s.event refl refl

event_done : (s : State) (tag id : ℕ) (job : Job) (sectors : List Block) (done : Bool) → (done_with s tag id job sectors done).event ≡ s.event
unfolding after_done
event_done s tag id job sectors done = event_either done _ _ s.event refl refl

-- a phase's line ends its event but where power is lost in it
event_phase : (s : State) (n id count : ℕ) (kept : Bool) → (after_phase s n id count kept).event ≡ event_with s.event
unfolding after_phase
event_phase s n id count kept =
    let job = job_of s.plan.jobs id in
    let blocks = after_blocks s job count kept in
    ap event_with (event_done blocks (tag_due (due s)) id job (read_sectors s job) (is_whole s.plan.through job count kept && is_none (hit s)) ∙ event_blocks s job count kept)

unforced : (s : State) (item : Item) → is_forced s.event ≡ false → is_turn item ≡ false → is_forced (effect s item).event ≡ false
unfolding effect after_address after_answer after_bus after_cut after_discard after_fault after_flash after_irq after_issue after_left after_lost after_off after_on after_params after_poll after_read after_recover after_sector
unforced s (Turn letter) e other = absurd (true≢false other)
unforced s (Phase n id count kept) e other = ap is_forced (event_phase s n id count kept) ∙ unforced_with s.event e
unforced s (Sector value) e other = unforced_shown s s.owed e
unforced s On e other = unforced_from (powered s) (next_left s.pend 0)
unforced s (Left sector value) e other = unforced_left (record s { epochs = epochs_with s sector value; lefts = s.lefts ++ left_mark sector value ∷ [] }) sector (next_left s.pend (sector + 1))
unforced s Cut e other = unforced_cut s s.owed
unforced s item e other = refl

-- so its lines leave the order
cut_plain : (event : Event) (order : OrderState) (sent : ℕ) → is_forced event ≡ false → cut_in event order sent ≡ order
cut_plain Untold order sent e = refl
cut_plain Due order sent e = absurd (true≢false e)
cut_plain (Told letter) order sent e = refl

plain_cut : (s : State) (dark : Bool) → is_dark s.owed ≡ dark → is_forced s.event ≡ false → order_of (after_cut s) ≡ order_of s
plain_cut s true dark e = order_dark s dark
plain_cut s false dark e = order_cut s dark ∙ cut_plain s.event (order_of s) (sent_so_far s) e

plain_line : (s : State) (item : Item) → is_forced s.event ≡ false → is_turn item ≡ false → order_of (effect s item) ≡ order_of s
unfolding effect
plain_line s (Turn letter) e other = absurd (true≢false other)
plain_line s Cut e other = plain_cut s (is_dark s.owed) refl e
plain_line s item e other = order_line s item refl

plain_more : (s : State) (items : List Item) (t : State) → is_forced s.event ≡ false → More s items t → order_of t ≡ order_of s
plain_more s [] t e at = ap order_of at
plain_more s (item ∷ items) t e more =
    let other = no_turn s item more.0 more.1.line in
    plain_more (effect s item) items t (unforced s item e other) more.2 ∙ plain_line s item e other

plain_begins : (s : State) (item : Item) (items : List Item) (t : State) → s.owed ≡ Nothing → is_forced s.event ≡ false → Begins s item items t → order_of t ≡ order_of s
plain_begins s item items t rest e x =
    let other = first_no_turn s item rest x.told x.first.stands in
    plain_more (effect s item) items t (unforced s item e other) x.more ∙ plain_line s item e other

plain_makes : (s : State) (items : List Item) (t : State) → s.owed ≡ Nothing → is_forced s.event ≡ false → Makes s items t → order_of t ≡ order_of s
plain_makes s [] t rest e x = ap order_of x.1 ∙ order_ended s
plain_makes s (item ∷ items) t rest e x = ap order_of x.state ∙ plain_begins s item items x.last rest e x.begins

-- the event of a due cut is the cut, or the phase under way and the cut
forced_cut : (s : State) → s.event ≡ Due → is_dark s.owed ≡ false → order_of (effect s Cut) ≡ with_line (order_of s) (sent_so_far s)
unfolding effect
forced_cut s at light = order_cut s light ∙ ap (λ event. cut_in event (order_of s) (sent_so_far s)) at

cut_unforced : (s : State) → is_forced (effect s Cut).event ≡ false
unfolding effect after_cut
cut_unforced s = unforced_cut s s.owed

-- the phase leaves the count of commands sent as it was, and a line is owed behind it
sent_phase : (s : State) (n id count : ℕ) (kept : Bool) → s.busy ≡ true → n ≡ next_number s → sent_so_far (effect s (Phase n id count kept)) ≡ sent_so_far s
unfolding effect after_phase
sent_phase s n id count kept busy number = number ∙ sym (ap (λ b. cond b (next_number s) s.n) busy)

number_of : (s : State) (n id count : ℕ) (kept : Bool) → holds s (Phase n id count kept) ≡ true → n ≡ next_number s
unfolding holds phase_holds
number_of s n id count kept h = eqb-true n (next_number s) (and_parts (n == next_number s) (is_phase_of s id count kept (due s)) h).0

-- neither nothing nor a cut that is told already
abbrev pub awaits : Owed → Bool
awaits owed = is_nothing owed || is_dark owed

awaits_either : (b : Bool) (x y : Owed) → awaits x ≡ false → awaits y ≡ false → awaits (cond b x y) ≡ false
awaits_either true x y left right = left
awaits_either false x y left right = right

owed_by_phase : (kind : Option BusKind) (whole : Bool) (n id count : ℕ) → awaits (owed_by kind whole n id count) ≡ false
owed_by_phase None whole n id count = awaits_either whole Closed (FlashOwed id) refl refl
owed_by_phase (Some Lost) whole n id count = refl
owed_by_phase (Some NoResp) whole n id count = refl
owed_by_phase (Some (Bad block)) whole n id count = awaits_either (count + 1 == block) _ (FlashOwed id) refl refl
owed_by_phase (Some Late) whole n id count = refl

owed_phase : (s : State) (n id count : ℕ) (kept : Bool) → awaits (effect s (Phase n id count kept)).owed ≡ false
unfolding effect after_phase
owed_phase s n id count kept = owed_by_phase (hit s) (is_whole s.plan.through (job_of s.plan.jobs id) count kept) n id count

phase_forced : (s : State) (n id count : ℕ) (kept : Bool) → s.event ≡ Due → (effect s (Phase n id count kept)).event ≡ Due
unfolding effect
phase_forced s n id count kept at = event_phase s n id count kept ∙ ap event_with at

cut_behind : (s : State) (item : Item) → s.event ≡ Due → is_nothing s.owed ≡ false → stands_in s s.event item ≡ true → is_cut item ≡ true
cut_behind s item at owes stands =
    sym (ap (λ event. stands_in s event item) at ∙ ap (λ b. cond b (is_line_of PowerActs (is_calm s.recovery) item && is_under_way s.busy item) (is_cut item)) owes) ∙ stands

forced_more : (s : State) (items : List Item) (t : State) → s.event ≡ Due → awaits s.owed ≡ false → is_untold t.event ≡ true → More s items t → order_of t ≡ with_line (order_of s) (sent_so_far s)
forced_more s [] t at owes over same = absurd (true≢false (sym over ∙ (ap (λ x. is_untold x.event) same ∙ ap is_untold at)))
forced_more s (item ∷ items) t at owes over more = by item more (cut_behind s item at (or_parts (is_nothing s.owed) (is_dark s.owed) owes).0 more.1.stands)
  where
    by : (item : Item) → More s (item ∷ items) t → is_cut item ≡ true → order_of t ≡ with_line (order_of s) (sent_so_far s)
    by Cut more cut = plain_more (effect s Cut) items t (cut_unforced s) more.2 ∙ forced_cut s at (or_parts (is_nothing s.owed) (is_dark s.owed) owes).1
    by item more cut = absurd (true≢false (sym cut))

first_of_power : (s : State) (item : Item) → s.event ≡ Due → s.owed ≡ Nothing → stands_in s s.event item ≡ true → (is_line_of PowerActs (is_calm s.recovery) item && is_under_way s.busy item) ≡ true
first_of_power s item at rest stands =
    sym (ap (λ event. stands_in s event item) at ∙ ap (λ owed. cond (is_nothing owed) (is_line_of PowerActs (is_calm s.recovery) item && is_under_way s.busy item) (is_cut item)) rest) ∙ stands

forced_begins : (s : State) (item : Item) (items : List Item) (t : State) → s.event ≡ Due → s.owed ≡ Nothing → is_untold t.event ≡ true → Fits s item → More (effect s item) items t
    → (is_line_of PowerActs (is_calm s.recovery) item && is_under_way s.busy item) ≡ true → order_of t ≡ with_line (order_of s) (sent_so_far s)
forced_begins s (Phase n id count kept) items t at rest over fits more first =
    let phase = Phase n id count kept in
    let sent = sent_phase s n id count kept first (number_of s n id count kept (held s phase fits.line)) in
    forced_more (effect s phase) items t (phase_forced s n id count kept at) (owed_phase s n id count kept) over more
    ∙ (ap (λ order. with_line order (sent_so_far (effect s phase))) (order_line s phase refl) ∙ ap (with_line (order_of s)) sent)
forced_begins s Cut items t at rest over fits more first = plain_more (effect s Cut) items t (cut_unforced s) more ∙ forced_cut s at (ap is_dark rest)
forced_begins s item items t at rest over fits more first = absurd (true≢false (sym first))

forced_makes : (s : State) (items : List Item) (t : State) → s.event ≡ Due → s.owed ≡ Nothing → Makes s items t → order_of t ≡ with_line (order_of s) (sent_so_far s)
unfolding end_rule
forced_makes s [] t at rest x = absurd (some_none (sym (ap (rule_of_end s) at) ∙ x.0))
  where
    some_none : {rule : ℕ} → Some rule ≡ None → ⊥
    some_none e = absurd (cc)
forced_makes s (item ∷ items) t at rest x =
    ap order_of x.state ∙ forced_begins s item items x.last at rest x.event x.begins.first x.begins.more (first_of_power s item at rest x.begins.first.stands)

-- an event has begun
owed_recovery : (s : State) (recovery : Recovery) → s.owed ≡ Nothing → (recovery_step_at s recovery).owed ≡ Nothing
owed_recovery s Calm e = e
owed_recovery s Halted e = e
owed_recovery s Cleared e = e
owed_recovery s Discarded e = e
owed_recovery s Cleaned e = e
owed_recovery s Resumed e = e

owed_either : (b : Bool) (s t : State) → s.owed ≡ Nothing → t.owed ≡ Nothing → (cond b s t).owed ≡ Nothing
owed_either true s t left right = left
owed_either false s t left right = right

owed_begun : (s : State) (letter : Letter) → (begun s letter).owed ≡ Nothing
unfolding begun recovery_step
owed_begun s HostActs = owed_either (is_silent s.recovery) _ _ (owed_recovery (record s { owed = Nothing }) s.recovery refl) refl
owed_begun s EngineActs = refl
owed_begun s CardActs = refl
owed_begun s PowerActs = refl

forced_choice : (b : Bool) (x y : Event) → is_forced x ≡ false → is_forced y ≡ false → is_forced (cond b x y) ≡ false
forced_choice true x y left right = left
forced_choice false x y left right = right

due_at_begin : (s : State) → is_due (record s { owed = Nothing }) ≡ is_due s
unfolding to_do due_line
due_at_begin s = refl

begun_plain : (s : State) (actor : Letter) → (same_letter actor PowerActs && is_due s) ≡ false → is_forced (begun s actor).event ≡ false
unfolding begun
begun_plain s HostActs none = unforced_either (is_silent s.recovery) _ _ refl (forced_choice (has_work (record s { owed = Nothing })) (Told HostActs) Untold refl refl)
begun_plain s EngineActs none = refl
begun_plain s CardActs none = refl
begun_plain s PowerActs none = ap (λ b. is_forced (cond b Due (Told PowerActs))) (due_at_begin s ∙ none)

begun_forced : (s : State) → is_due s ≡ true → (begun s PowerActs).event ≡ Due
unfolding begun
begun_forced s late = ap (λ b. cond b Due (Told PowerActs)) (due_at_begin s ∙ late)

sent_begun : (s : State) → sent_so_far (begun s PowerActs) ≡ sent_so_far s
unfolding begun
sent_begun s = refl

happens_by : (s : State) (actor : Letter) (items : List Item) (t : State) (late : Bool) → (same_letter actor PowerActs && is_due s) ≡ late → Makes (begun s actor) items t
    → order_of t ≡ cond late (with_line (order_of s) (sent_so_far s)) (order_of s)
happens_by s actor items t false none x = plain_makes (begun s actor) items t (owed_begun s actor) (begun_plain s actor none) x ∙ order_begun s actor
happens_by s PowerActs items t true is x =
    forced_makes (begun s PowerActs) items t (begun_forced s is) (owed_begun s PowerActs) x
    ∙ (ap (λ order. with_line order (sent_so_far (begun s PowerActs))) (order_begun s PowerActs) ∙ ap (with_line (order_of s)) (sent_begun s))
happens_by s HostActs items t true is x = absurd (true≢false (sym is))
happens_by s EngineActs items t true is x = absurd (true≢false (sym is))
happens_by s CardActs items t true is x = absurd (true≢false (sym is))

pub order_happens : (s : State) (actor : Letter) (items : List Item) (t : State) → Happens s actor items t → order_of t ≡ order_after s actor
order_happens s actor items t x = happens_by s actor items t (same_letter actor PowerActs && is_due s) refl x.makes
