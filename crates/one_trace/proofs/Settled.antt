-- The state in whose event a line is judged, where no fault text asks for another: the silent steps of a recovery are taken, and before the line of an
-- interrupt the engine may tell of counted completions.
use Rattle.std.proofs.Common.{inl, inr, ◌≡◌, ◌∙◌, ℕ, ◌+◌, Bool, true, false, cond, ◌&&◌, ◌||◌, not, is_some, nat_lt, Option, Some, None, List, length, arith, refl, ap, sym}
use Rattle.std.proofs.lemmas.Bool.{and_from, and_left, and_parts, and_right, both_ways, cond-false, cond-true, false≢true, le-ltb, or_cases, or_from, or_left, or_right}
use Rattle.std.specs.List.{list_any}
use Rattle.one_trace.proofs.Slots.{done_past, named_past, none_left}
use Rattle.one_trace.specs.Traces.{IsFaultless}
use Rattle.storage_machine.specs.Commands.{due, hit, is_calm, is_running}
use Rattle.storage_machine.specs.Cuts.{due_line, has_own_line, is_due, least}
use Rattle.storage_machine.specs.Host.{has_work, recovery_steps, recovery_steps_at, to_do}
use Rattle.storage_machine.specs.Slots.{no_tasks}
use Rattle.storage_machine.specs.declared.commands.DueCommand.{DueCommand}
use Rattle.storage_machine.specs.declared.commands.DueCommand.TheVariants.{Idle, Address, Params, Direct, Execute, Poll}
use Rattle.storage_machine.specs.declared.state.Event.TheVariants.{Untold, Due}
use Rattle.storage_machine.specs.declared.state.Owed.{Owed}
use Rattle.storage_machine.specs.declared.state.Owed.TheVariants.{Card as CardOwed, Nothing, Closed, Bus as BusOwed, Flash as FlashOwed, Answers, Sectors, Recover as RecoverOwed, Dark, Left as LeftOwed, End as Ended}
use Rattle.storage_machine.specs.declared.state.Recovery.{Recovery}
use Rattle.storage_machine.specs.declared.state.Recovery.TheVariants.{Calm, Halted, Cleared, Discarded, Cleaned, Resumed}
use Rattle.storage_machine.specs.declared.state.State.{State}
use Rattle.storage_machine.specs.declared.state.Stop.{Stop}
use Rattle.storage_machine.specs.declared.state.Task.{Task}
use Rattle.storage_model.specs.declared.plan.Job.{Job}
use Rattle.storage_model.specs.declared.plan.Plan.{Plan}
use Rattle.storage_model.specs.declared.trace.Item.{Item}
use Rattle.storage_model.specs.declared.trace.Item.TheVariants.{Params, Address, Poll, Phase, Irq}
use Rattle.storage_order.specs.Accept.{broken_rule}
use Rattle.storage_order.specs.Events.{closed, end_rule, ended, ended_by, engine_step, passed}
use Rattle.storage_order.specs.Order.{engine_first, entered, forced, is_next, is_of_cut, left_behind, needs_step, order_rule, settled, start_rule, starts, starts_at, untold_steps, with_due}
use Rattle.trace_effects.specs.Effects.{letters_left}
use Rattle.trace_rules.specs.Lines.{holds, is_for, is_free, is_recover_owed, line_rule, owing, owing_past, rule_of}
use Rattle.trace_rules.specs.Steps.{earlier, event_rule, is_cut, is_due_event, is_first_work, lower, stands_in, rule_of_event, unless}

-- what a bus fault or a loss of power brings is never owed
abbrev pub is_lit : Owed → Bool
is_lit (BusOwed n id kind) = false
is_lit (Dark cuts) = false
is_lit (LeftOwed from) = false
is_lit owed = true

-- The engine stops at a task past the last sector alone. The task stays named up to its answer, and then the recovery is owed.
abbrev pub stop_stands : List Job → ℕ → Stop → Recovery → Owed → List (Option Task) → Bool
stop_stands jobs sectors stop recovery owed slots =
    is_running stop || (is_calm recovery && (is_recover_owed owed || list_any (named_past jobs sectors) slots))

-- what is so of each state that is reached
pub record IsSteady (own : Plan) (size : ℕ) (s : State) : Type 0 where
  pub plan : s.plan ≡ own
  pub quiet : IsFaultless s.faults
  pub sectors : length s.base ≡ size
  pub event : s.event ≡ Untold
  pub lit : is_lit s.owed ≡ true
  pub served : list_any (done_past own.jobs size) s.slots ≡ false
  pub stands : stop_stands own.jobs size s.stop s.recovery s.owed s.slots ≡ true

-- where there are no faults, no bus fault hits, no cut is due and no letter is left

pub hit_none : (s : State) → IsFaultless s.faults → hit s ≡ None
unfolding hit
hit_none s quiet = rw quiet.bus refl

pub late_none : (s : State) → IsFaultless s.faults → is_due s ≡ false
unfolding due_line
late_none s quiet = and_right (to_do s) (is_some (due_line s)) (rw quiet.cuts refl)

own_none : (s : State) → IsFaultless s.faults → has_own_line s ≡ false
unfolding has_own_line
own_none s quiet = rw quiet.cuts refl

pub letters_none : (s : State) → IsFaultless s.faults → letters_left s ≡ false
letters_none s quiet = ap (λ turns. nat_lt s.letters (length turns)) quiet.turns ∙ le-ltb s.letters 0 (omega arith)

-- a stopped engine

pub running_of : (jobs : List Job) (sectors : ℕ) (stop : Stop) (recovery : Recovery) (owed : Owed) (slots : List (Option Task)) → is_calm recovery ≡ false → stop_stands jobs sectors stop recovery owed slots ≡ true → is_running stop ≡ true
running_of jobs sectors stop recovery owed slots busy h =
    elim (or_cases (is_running stop) (is_calm recovery && (is_recover_owed owed || list_any (named_past jobs sectors) slots)) h) [
      | inl running ↦ running
      | inr rest ↦ absurd (both_ways (is_calm recovery && (is_recover_owed owed || list_any (named_past jobs sectors) slots)) (and_left (is_calm recovery) (is_recover_owed owed || list_any (named_past jobs sectors) slots) busy) rest)
    ]

pub runs : (jobs : List Job) (sectors : ℕ) (stop : Stop) (recovery : Recovery) (owed : Owed) (slots : List (Option Task)) → is_running stop ≡ true → stop_stands jobs sectors stop recovery owed slots ≡ true
runs jobs sectors stop recovery owed slots running = or_left (is_running stop) (is_calm recovery && (is_recover_owed owed || list_any (named_past jobs sectors) slots)) running

-- the silent steps of a recovery

over_steady : (plan : Plan) (sectors : ℕ) (s : State) → is_calm s.recovery ≡ false → IsSteady plan sectors s → IsSteady plan sectors (record s { recovery = Calm; slots = no_tasks })
over_steady plan sectors s busy i = record {
  plan = i.plan;
  quiet = i.quiet;
  sectors = i.sectors;
  event = i.event;
  lit = i.lit;
  served = none_left plan.jobs sectors;
  stands = runs plan.jobs sectors s.stop Calm s.owed no_tasks (running_of plan.jobs sectors s.stop s.recovery s.owed s.slots busy i.stands);
}

recovery_steady : (plan : Plan) (sectors : ℕ) (s : State) (recovery : Recovery) → s.recovery ≡ recovery → IsSteady plan sectors s → IsSteady plan sectors (recovery_steps_at s recovery)
recovery_steady plan sectors s Calm at i = i
recovery_steady plan sectors s Cleared at i = i
recovery_steady plan sectors s Halted at i = record {
  plan = i.plan;
  quiet = i.quiet;
  sectors = i.sectors;
  event = i.event;
  lit = i.lit;
  served = i.served;
  stands = runs plan.jobs sectors s.stop Cleared s.owed s.slots (running_of plan.jobs sectors s.stop s.recovery s.owed s.slots (ap is_calm at) i.stands);
}
recovery_steady plan sectors s Discarded at i = over_steady plan sectors s (ap is_calm at) i
recovery_steady plan sectors s Cleaned at i = over_steady plan sectors s (ap is_calm at) i
recovery_steady plan sectors s Resumed at i = over_steady plan sectors s (ap is_calm at) i

recovery_owed : (s : State) (recovery : Recovery) → (recovery_steps_at s recovery).owed ≡ s.owed
recovery_owed s Calm = refl
recovery_owed s Halted = refl
recovery_owed s Cleared = refl
recovery_owed s Discarded = refl
recovery_owed s Cleaned = refl
recovery_owed s Resumed = refl

-- between two events, with these steps taken
abbrev pub at_rest : State → State
at_rest s = recovery_steps (record s { owed = closed s.owed })

pub record Rests (plan : Plan) (sectors : ℕ) (r : State) : Type 0 where
  pub steady : IsSteady plan sectors r
  pub owed : r.owed ≡ Nothing

-- where nothing is owed but what was done with a phase
free_closed : (owed : Owed) → is_free owed ≡ true → closed owed ≡ Nothing
free_closed Nothing e = refl
free_closed Closed e = refl
free_closed CardOwed e = absurd (cc)
free_closed (BusOwed n id kind) e = absurd (cc)
free_closed (FlashOwed id) e = absurd (cc)
free_closed Answers e = absurd (cc)
free_closed (Sectors tag k) e = absurd (cc)
free_closed RecoverOwed e = absurd (cc)
free_closed (Dark cuts) e = absurd (cc)
free_closed (LeftOwed from) e = absurd (cc)
free_closed Ended e = absurd (cc)

free_recover : (owed : Owed) → is_free owed ≡ true → is_recover_owed owed ≡ false
free_recover Nothing e = refl
free_recover Closed e = refl
free_recover CardOwed e = absurd (cc)
free_recover (BusOwed n id kind) e = absurd (cc)
free_recover (FlashOwed id) e = absurd (cc)
free_recover Answers e = absurd (cc)
free_recover (Sectors tag k) e = absurd (cc)
free_recover RecoverOwed e = absurd (cc)
free_recover (Dark cuts) e = absurd (cc)
free_recover (LeftOwed from) e = absurd (cc)
free_recover Ended e = absurd (cc)

-- another thing is owed
pub stands_owed : (jobs : List Job) (sectors : ℕ) (stop : Stop) (recovery : Recovery) (owed other : Owed) (slots : List (Option Task)) → is_recover_owed owed ≡ false → stop_stands jobs sectors stop recovery owed slots ≡ true
    → stop_stands jobs sectors stop recovery other slots ≡ true
stands_owed jobs sectors stop recovery owed other slots off h =
    let named = list_any (named_past jobs sectors) slots in
    elim (or_cases (is_running stop) (is_calm recovery && (is_recover_owed owed || named)) h) [
      | inl running ↦ runs jobs sectors stop recovery other slots running
      | inr rest ↦
          let parts = and_parts (is_calm recovery) (is_recover_owed owed || named) rest in
          or_right (is_running stop) (is_calm recovery && (is_recover_owed other || named)) (and_from (is_calm recovery) (is_recover_owed other || named) parts.0
          (or_right (is_recover_owed other) named (sym (ap (λ b. b || named) off) ∙ parts.1)))
    ]

closed_steady : (plan : Plan) (sectors : ℕ) (s : State) → is_free s.owed ≡ true → IsSteady plan sectors s → IsSteady plan sectors (record s { owed = closed s.owed })
closed_steady plan sectors s free i = record {
  plan = i.plan;
  quiet = i.quiet;
  sectors = i.sectors;
  event = i.event;
  lit = ap is_lit (free_closed s.owed free);
  served = i.served;
  stands = stands_owed plan.jobs sectors s.stop s.recovery s.owed (closed s.owed) s.slots (free_recover s.owed free) i.stands;
}

pub rest_steady : (plan : Plan) (sectors : ℕ) (s : State) → is_free s.owed ≡ true → IsSteady plan sectors s → Rests plan sectors (at_rest s)
unfolding recovery_steps
rest_steady plan sectors s free i = record {
  steady = recovery_steady plan sectors (record s { owed = closed s.owed }) s.recovery refl (closed_steady plan sectors s free i);
  owed = recovery_owed (record s { owed = closed s.owed }) s.recovery ∙ free_closed s.owed free;
}

-- the engine's event that prints nothing

rests_either : (plan : Plan) (sectors : ℕ) (b : Bool) (s t : State) → Rests plan sectors s → Rests plan sectors t → Rests plan sectors (cond b s t)
rests_either plan sectors true s t left right = left
rests_either plan sectors false s t left right = right

tick_rests : (plan : Plan) (sectors : ℕ) (s : State) → Rests plan sectors s → Rests plan sectors (record s { notice = true; count = 0 })
tick_rests plan sectors s r =
    let i = r.steady in
    record { steady = record { plan = i.plan; quiet = i.quiet; sectors = i.sectors; event = i.event; lit = i.lit; served = i.served; stands = i.stands }; owed = r.owed }

busy_rests : (plan : Plan) (sectors : ℕ) (s : State) → Rests plan sectors s → Rests plan sectors (record s { busy = true; spent = s.spent + 1 })
busy_rests plan sectors s r =
    let i = r.steady in
    record { steady = record { plan = i.plan; quiet = i.quiet; sectors = i.sectors; event = i.event; lit = i.lit; served = i.served; stands = i.stands }; owed = r.owed }

passed_rests : (plan : Plan) (sectors : ℕ) (s : State) (command : DueCommand) → Rests plan sectors s → Rests plan sectors (passed s command)
passed_rests plan sectors s (Execute tag) r = rests_either plan sectors _ _ s (busy_rests plan sectors s r) r
passed_rests plan sectors s Idle r = rests_either plan sectors _ _ s (tick_rests plan sectors s r) r
passed_rests plan sectors s (Address tag) r = rests_either plan sectors _ _ s (tick_rests plan sectors s r) r
passed_rests plan sectors s (Params tag) r = rests_either plan sectors _ _ s (tick_rests plan sectors s r) r
passed_rests plan sectors s (Direct tag) r = rests_either plan sectors _ _ s (tick_rests plan sectors s r) r
passed_rests plan sectors s Poll r = rests_either plan sectors _ _ s (tick_rests plan sectors s r) r

engine_rests : (plan : Plan) (sectors : ℕ) (s : State) → Rests plan sectors s → Rests plan sectors (engine_step s)
unfolding engine_step
engine_rests plan sectors s r = passed_rests plan sectors s (due s) r

pub first_rests : (plan : Plan) (sectors : ℕ) (s : State) (item : Item) → Rests plan sectors s → Rests plan sectors (engine_first s item)
first_rests plan sectors s item r = rests_either plan sectors (not (has_work s) && needs_step s item) (engine_step s) s (engine_rests plan sectors s r) r

-- the state in which a line is judged

ended_untold : (s : State) → s.event ≡ Untold → ended s ≡ s
unfolding ended
ended_untold s e = ap (ended_by s) e ∙ ap (λ event. record s { event = event }) (sym e)

starts_free : (s : State) (item : Item) → is_free s.owed ≡ true → s.event ≡ Untold → starts s item ≡ true
unfolding starts
starts_free s item free e = and_from (is_free s.owed) (starts_at s s.event item) free (ap (λ event. starts_at s event item) e)

same_due : (s : State) (item : Item) → is_due s ≡ false → with_due s item ≡ s
same_due s item late = cond-false (is_due s && is_of_cut item) (record s { event = Due }) s (and_left (is_due s) (is_of_cut item) late)

untold_first : (x : State) (item : Item) → IsFaultless x.faults → untold_steps x item ≡ engine_first (recovery_steps x) item
untold_first x item quiet =
    cond-false (letters_left x || (is_due x && is_of_cut item)) x (engine_first (recovery_steps x) item)
    (or_from (letters_left x) (is_due x && is_of_cut item) (letters_none x quiet) (and_left (is_due x) (is_of_cut item) (late_none x quiet)))

forced_first : (plan : Plan) (sectors : ℕ) (x : State) (item : Item) → IsFaultless x.faults → Rests plan sectors (engine_first (recovery_steps x) item) → forced x item ≡ engine_first (recovery_steps x) item
unfolding forced
forced_first plan sectors x item quiet r =
    ap (λ y. with_due y item) (untold_first x item quiet)
    ∙ same_due (engine_first (recovery_steps x) item) item (late_none (engine_first (recovery_steps x) item) r.steady.quiet)

behind_closed : (s : State) (item : Item) → is_cut item ≡ false → left_behind s item ≡ record s { owed = closed s.owed }
behind_closed s item plain = cond-false (is_cut item) s (record s { owed = closed s.owed }) plain

pub enters : (plan : Plan) (sectors : ℕ) (s : State) (item : Item) → IsSteady plan sectors s → is_free s.owed ≡ true → is_cut item ≡ false → entered s item ≡ engine_first (at_rest s) item
enters plan sectors s item i free plain =
    let x = record s { owed = closed s.owed } in
    ap (λ y. forced (left_behind y item) item) (ended_untold s i.event)
    ∙ (ap (λ y. forced y item) (behind_closed s item plain) ∙ forced_first plan sectors x item i.quiet (first_rests plan sectors (at_rest s) item (rest_steady plan sectors s free i)))

settled_free : (s : State) (item : Item) → is_free s.owed ≡ true → s.event ≡ Untold → settled s item ≡ entered s item
unfolding settled
settled_free s item free e = cond-true (starts s item) (entered s item) s (starts_free s item free e)

pub settles : (plan : Plan) (sectors : ℕ) (s : State) (item : Item) → IsSteady plan sectors s → is_free s.owed ≡ true → is_cut item ≡ false → settled s item ≡ engine_first (at_rest s) item
settles plan sectors s item i free plain = settled_free s item free i.event ∙ enters plan sectors s item i free plain

pub settles_owed : (s : State) (item : Item) → is_free s.owed ≡ false → settled s item ≡ s
unfolding settled starts
settles_owed s item owes = rw owes refl

-- only before an interrupt's line

abbrev pub is_irq : Item → Bool
is_irq (Irq mask) = true
is_irq item = false

needs_none : (s : State) (item : Item) → IsFaultless s.faults → is_irq item ≡ false → needs_step s item ≡ false
needs_none s (Irq mask) quiet e = absurd (false≢true (sym e))
needs_none s (Phase n id count kept) quiet e = and_left (has_own_line s && _) (not s.busy) (and_left (has_own_line s) _ (own_none s quiet))
needs_none s item quiet e = refl

pub first_same : (s : State) (item : Item) → IsFaultless s.faults → is_irq item ≡ false → engine_first s item ≡ s
first_same s item quiet e =
    cond-false (not (has_work s) && needs_step s item) (engine_step s) s (and_right (not (has_work s)) (needs_step s item) (needs_none s item quiet e))

-- the rules that a line keeps

none_earlier : (a b : Option ℕ) → earlier a b ≡ None → (a ≡ None) × (b ≡ None)
none_earlier None b e = (refl, e)
none_earlier (Some x) b e = absurd (cc)

none_lower : (a b : Option ℕ) → lower a b ≡ None → (a ≡ None) × (b ≡ None)
none_lower None b e = (refl, e)
none_lower (Some x) None e = absurd (cc)
none_lower (Some x) (Some y) e = absurd (cc)

none_unless : (b : Bool) (rule : ℕ) → unless b rule ≡ None → b ≡ true
none_unless true rule e = refl
none_unless false rule e = absurd (cc)

least_some : (owed : Option ℕ) (rule : ℕ) → least owed rule ≡ None → false ≡ true
least_some None rule e = absurd (cc)
least_some (Some x) rule e = absurd (cc)

holds_if : (b : Bool) (rest past : Option ℕ) (rule : ℕ) → cond b rest (least past rule) ≡ None → (b ≡ true) × (rest ≡ None)
holds_if true rest past rule e = (refl, e)
holds_if false rest past rule e = absurd (false≢true (least_some past rule e))

line_parts : (s : State) (item : Item) → line_rule s item ≡ None → (holds s item ≡ true) × (cond (is_for s.owed item) None (owing s.owed) ≡ None)
unfolding line_rule
line_parts s item e = holds_if (holds s item) _ (owing_past s item) (rule_of item) e

for_if : (b : Bool) (rule : ℕ) → cond b None (Some rule) ≡ None → b ≡ true
for_if true rule e = refl
for_if false rule e = absurd (cc)

owed_for : (owed : Owed) (item : Item) → is_free owed ≡ false → cond (is_for owed item) None (owing owed) ≡ None → is_for owed item ≡ true
owed_for Nothing item owes e = absurd (cc)
owed_for Closed item owes e = absurd (cc)
owed_for CardOwed item owes e = for_if (is_for CardOwed item) 1 e
owed_for (BusOwed n id kind) item owes e = for_if (is_for (BusOwed n id kind) item) 5 e
owed_for (FlashOwed id) item owes e = for_if (is_for (FlashOwed id) item) 5 e
owed_for Answers item owes e = for_if (is_for Answers item) 8 e
owed_for (Sectors tag k) item owes e = for_if (is_for (Sectors tag k) item) 8 e
owed_for RecoverOwed item owes e = for_if (is_for RecoverOwed item) 9 e
owed_for (Dark cuts) item owes e = for_if (is_for (Dark cuts) item) 10 e
owed_for (LeftOwed from) item owes e = for_if (is_for (LeftOwed from) item) 10 e
owed_for Ended item owes e = for_if (is_for Ended item) 11 e

-- where something is owed the line serves it
pub record Serves (s : State) (item : Item) : Type 0 where
  pub held : holds s item ≡ true
  pub for : is_for s.owed item ≡ true

pub serves : (s : State) (item : Item) → is_free s.owed ≡ false → broken_rule s item ≡ None → Serves s item
unfolding broken_rule
serves s item owes e =
    let at = settles_owed s item owes in
    let line = (none_earlier (line_rule (settled s item) item) _ e).0 in
    let parts = line_parts s item (ap (λ x. line_rule x item) (sym at) ∙ line) in
    record { held = parts.0; for = owed_for s.owed item owes parts.1 }

-- and where nothing is, it is of the next event
pub record Comes (x : State) (item : Item) : Type 0 where
  pub held : holds x item ≡ true
  pub first : is_first_work x item ≡ true
  pub next : is_next x item ≡ true

event_first : (x : State) (item : Item) → event_rule x item ≡ None → is_first_work x item ≡ true
unfolding event_rule
event_first x item e =
    let parts = none_lower (unless (stands_in x x.event item) (rule_of_event x.event)) _ e in
    none_unless (is_first_work x item) 13 ((none_earlier (unless (is_first_work x item) 13) _ parts.1).0)

next_if : (told next : Bool) (late : Option ℕ) → cond {A = Option ℕ} told None (lower (unless next 12) late) ≡ None → told ≡ false → next ≡ true
next_if true next late e told = absurd (false≢true (sym told))
next_if false next late e told = none_unless next 12 ((none_lower (unless next 12) late e).0)

starts_next : (x : State) (late : Bool) (item : Item) → start_rule late x item ≡ None → x.event ≡ Untold → is_next x item ≡ true
starts_next x late item e at = next_if (is_due_event x.event) (is_next x item) (unless (not late) 15) e (ap is_due_event at)

order_parts : (s : State) (item : Item) → order_rule s item ≡ None → starts s item ≡ true → lower (end_rule s) (start_rule (is_due (ended s)) (entered s item) item) ≡ None
unfolding order_rule
order_parts s item e first = sym (cond-true (starts s item) _ None first) ∙ e

pub comes : (plan : Plan) (sectors : ℕ) (s : State) (item : Item) → IsSteady plan sectors s → is_free s.owed ≡ true → is_cut item ≡ false → broken_rule s item ≡ None → Comes (engine_first (at_rest s) item) item
unfolding broken_rule
comes plan sectors s item i free plain e =
    let x = engine_first (at_rest s) item in
    let at = settles plan sectors s item i free plain in
    let rules = none_earlier (line_rule (settled s item) item) _ e in
    let later = none_lower (order_rule s item) (event_rule (settled s item) item) rules.1 in
    let order = order_parts s item later.0 (starts_free s item free i.event) in
    let start = (none_lower (end_rule s) (start_rule (is_due (ended s)) (entered s item) item) order).1 in
    let rests = first_rests plan sectors (at_rest s) item (rest_steady plan sectors s free i) in
    record {
      held = (line_parts x item (ap (λ y. line_rule y item) (sym at) ∙ rules.0)).0;
      first = event_first x item (ap (λ y. event_rule y item) (sym at) ∙ later.1);
      next = starts_next x (is_due (ended s)) item (ap (λ y. start_rule (is_due (ended s)) y item) (sym (enters plan sectors s item i free plain)) ∙ start) rests.steady.event;
    }
