-- The answers of a trace, line by line from its end.
use Rattle.std.proofs.Common.{inl, inr, ◌≡◌, ◌∙◌, ◌&&◌, ◌⊎◌, ℕ, zero, suc, ◌+◌, ◌-◌, ◌≤◌, ◌<◌, nat_lt, Bool, true, false, cond, ◌||◌, not, Option, Some, None, Ok, All, List, [], ◌∷◌, ◌++◌, filter, length, replicate, slice_index_or, refl, ap, sym, subst, arith}
use lib.ListN.{get_or-replicate, length-replicate}
use Rattle.std.proofs.lemmas.Bool.{and_parts, cases_Bool, cases_lt, false≢true, le-ltb, lt-ltb, not-false, not-true, or_cases, or_parts}
use Rattle.std.proofs.lemmas.List.{get_or_past}
use Rattle.std.proofs.lemmas.List.Elements.{All-head, All-tail}
use Rattle.std.specs.List.{list_any}
use Rattle.answer_laws.proofs.Lines.{IsSteady, calm_left, off_vacant}
use Rattle.answer_laws.proofs.Phases.{bus_none}
use Rattle.answer_laws.proofs.Rights.{line_leads, on_none, right, times_kept, times_raised}
use Rattle.answer_laws.proofs.Settled.{left_of, settled_stays}
use Rattle.answer_laws.proofs.Stands.{Kept, Owes, collected_none, free_none, is_bus_owed, tags_none, times}
use Rattle.answer_laws.proofs.Tasks.{bit, pending, room, room_le, room_some, tasks, tasks_none, waits}
use Rattle.answer_laws.specs.Answers.{HasFewFaults, IsAnswered, IsFaultless, IsEndedTrace, IsOfRequest, IsPrinted, answer_of, answers_to, bus_faults_of, is_answer_to, is_bus_fault_of}
use Rattle.one_trace.specs.Traces.{is_plain}
use Rattle.one_trace.proofs.Slots.{none_left}
use Rattle.run_laws.proofs.Whole.{whole_taken}
use Rattle.run_laws.specs.Whole.{card_line, off_lines}
use Rattle.storage_machine.specs.Commands.{is_calm}
use Rattle.storage_machine.specs.Host.{to_do}
use Rattle.storage_machine.specs.Jobs.{job_of}
use Rattle.storage_machine.specs.Slots.{asks, has, no_tasks}
use Rattle.storage_machine.specs.declared.slots.Question.TheVariants.{Collected as IsCollected, Issued as IsIssued}
use Rattle.storage_machine.specs.declared.state.Owed.{Owed}
use Rattle.storage_machine.specs.declared.state.Owed.TheVariants.{Card as CardOwed, Nothing, Closed, Bus as BusOwed, Flash as FlashOwed, Answers, Sectors, Recover as RecoverOwed, Dark, Left as LeftOwed, End as Ended}
use Rattle.storage_machine.specs.declared.state.Recovery.TheVariants.{Calm}
use Rattle.storage_machine.specs.declared.state.State.{State}
use Rattle.storage_machine.specs.declared.state.Task.{Task}
use Rattle.storage_model.specs.declared.block.Block.{Block}
use Rattle.storage_model.specs.declared.faults.Faults.{Faults}
use Rattle.storage_model.specs.declared.plan.Job.{Job}
use Rattle.storage_model.specs.declared.plan.Plan.{Plan}
use Rattle.storage_model.specs.declared.trace.End.{End}
use Rattle.storage_model.specs.declared.trace.End.TheVariants.{Good, Fault as FaultEnd, Dead, Image}
use Rattle.storage_model.specs.declared.trace.Item.{Item}
use Rattle.storage_model.specs.declared.trace.Item.TheVariants.{Bus, Off}
use Rattle.storage_order.specs.Accept.{accept, accept_from, accept_next, accepted, broken_rule, started}
use Rattle.storage_order.specs.Order.{settled}
use Rattle.storage_runs.specs.Laws.{joined}
use Rattle.trace_effects.proofs.Sounds.{effect_keeps}
use Rattle.trace_effects.specs.Effects.{effect}
use Rattle.trace_rules.specs.Lines.{holds, is_dead, is_for, is_free, is_left_owed, line_rule, may_be_on, off_holds, owing, owing_past, rule_of}
use Rattle.trace_rules.specs.Steps.{earlier}
use Rattle.storage_machine.specs.Cuts.{least}

-- the rules that a line keeps

none_first : (a b : Option ℕ) → earlier a b ≡ None → a ≡ None
none_first None b e = refl
none_first (Some x) b e = absurd (cc)

least_some : (owed : Option ℕ) (rule : ℕ) → least owed rule ≡ None → false ≡ true
least_some None rule e = absurd (cc)
least_some (Some x) rule e = absurd (cc)

holds_if : (b : Bool) (rest past : Option ℕ) (rule : ℕ) → cond b rest (least past rule) ≡ None → (b ≡ true) × (rest ≡ None)
holds_if true rest past rule e = (refl, e)
holds_if false rest past rule e = absurd (false≢true (least_some past rule e))

for_if : (b : Bool) (rule : ℕ) → cond b None (Some rule) ≡ None → b ≡ true
for_if true rule e = refl
for_if false rule e = absurd (cc)

owed_for : (owed : Owed) (item : Item) → cond (is_for owed item) None (owing owed) ≡ None → is_for owed item ≡ true
owed_for Nothing item e = refl
owed_for Closed item e = refl
owed_for CardOwed item e = for_if (is_for CardOwed item) 1 e
owed_for (BusOwed n id kind) item e = for_if (is_for (BusOwed n id kind) item) 5 e
owed_for (FlashOwed id) item e = for_if (is_for (FlashOwed id) item) 5 e
owed_for Answers item e = for_if (is_for Answers item) 8 e
owed_for (Sectors tag k) item e = for_if (is_for (Sectors tag k) item) 8 e
owed_for RecoverOwed item e = for_if (is_for RecoverOwed item) 9 e
owed_for (Dark cuts) item e = for_if (is_for (Dark cuts) item) 10 e
owed_for (LeftOwed from) item e = for_if (is_for (LeftOwed from) item) 10 e
owed_for Ended item e = for_if (is_for Ended item) 11 e

record Stood (x : State) (item : Item) : Type 0 where
  held : holds x item ≡ true
  for : is_for x.owed item ≡ true

line_stood : (x : State) (item : Item) → line_rule x item ≡ None → Stood x item
unfolding line_rule
line_stood x item e = let parts = holds_if (holds x item) _ (owing_past x item) (rule_of item) e in record { held = parts.0; for = owed_for x.owed item parts.1 }

stood : (s : State) (item : Item) → broken_rule s item ≡ None → Stood (settled s item) item
unfolding broken_rule
stood s item e = line_stood (settled s item) item (none_first (line_rule (settled s item) item) _ e)

record Takes (s t : State) (item : Item) (items : List Item) : Type 0 where
  rule : broken_rule s item ≡ None
  rest : accept_from items (accepted s item) ≡ Ok t

takes_by : (s t : State) (item : Item) (items : List Item) (rule : Option ℕ) → broken_rule s item ≡ rule → accept_next s item rule (accept_from items) ≡ Ok t → Takes s t item items
takes_by s t item items None at e = record { rule = at; rest = e }
takes_by s t item items (Some rule) at e = absurd (cc)

takes : (s t : State) (item : Item) (items : List Item) → accept_from (item ∷ items) s ≡ Ok t → Takes s t item items
takes s t item items e = takes_by s t item items (broken_rule s item) refl e

-- a state and the one in whose event its next line is judged

record Judges (own : Plan) (size : ℕ) (s : State) (item : Item) : Type 0 where
  steady : IsSteady own size (settled s item)
  left : (id : ℕ) → left_of id (settled s item) ≡ left_of id s
  named : (settled s item).named ≡ s.named
  bus : (settled s item).faults.bus ≡ s.faults.bus
  owed : is_bus_owed (settled s item).owed ≡ is_bus_owed s.owed

judges : (own : Plan) (size : ℕ) (s : State) (item : Item) → IsSteady own size s → Judges own size s item
judges own size s item i =
    let stays = settled_stays own.jobs size s item i.kept in
    record {
      steady = record { plan = stays.plan ∙ i.plan; sectors = ap length stays.base ∙ i.sectors; kept = stays.kept };
      left = stays.left;
      named = stays.named;
      bus = ap (λ faults. faults.bus) stays.faults;
      owed = stays.owed;
    }

after : (own : Plan) (size : ℕ) (x : State) (item : Item) → IsSteady own size x → Kept own.jobs size (effect x item) → IsSteady own size (effect x item)
after own size x item i kept =
    let keeps = effect_keeps x item in
    record { plan = keeps.plan ∙ i.plan; sectors = keeps.sectors ∙ i.sectors; kept = kept }

-- at the end nothing is left to be answered

none_waits : (waiting : List Bool) (place : ℕ) → list_any (λ waits. waits) waiting ≡ false → slice_index_or waiting place false ≡ false
none_waits [] place none = refl
none_waits (x ∷ xs) zero none = (or_parts x (list_any (λ waits. waits) xs) none).0
none_waits (x ∷ xs) (suc place) none = none_waits xs place ((or_parts x (list_any (λ waits. waits) xs) none).1)

waits_zero : (id : ℕ) (waiting : List Bool) → list_any (λ waits. waits) waiting ≡ false → waits id waiting ≡ 0
waits_zero zero waiting none = refl
waits_zero (suc place) waiting none = ap bit (none_waits waiting place none)

tasks_zero : (id : ℕ) (slots : List (Option Task)) → has IsIssued slots ≡ false → has IsCollected slots ≡ false → tasks id slots ≡ 0
tasks_zero id [] issued collected = refl
tasks_zero id (x ∷ xs) issued collected =
    let first = or_parts (asks IsIssued x) (has IsIssued xs) issued in
    let second = or_parts (asks IsCollected x) (has IsCollected xs) collected in
    omega (arith, ap bit (off_vacant id x first.0 second.0), tasks_zero id xs first.1 second.1)

idle_left : (jobs : List Job) (size : ℕ) (x : State) (id : ℕ) → Kept jobs size x → is_free x.owed ≡ true → to_do x ≡ false → left_of id x ≡ 0
unfolding to_do
idle_left jobs size x id i free none =
    let waiting = or_parts (list_any (λ waits. waits) x.waiting) (has IsIssued x.slots || not (is_calm x.recovery)) none in
    let issued = or_parts (has IsIssued x.slots) (not (is_calm x.recovery)) waiting.1 in
    omega (
      arith,
      calm_left id x.waiting x.recovery x.slots (not-false (is_calm x.recovery) issued.1),
      waits_zero id x.waiting waiting.0,
      tasks_zero id x.slots issued.0 (free_none x.slots x.stop x.recovery x.owed free i.owes),
    )

free_left : (jobs : List Job) (size : ℕ) (x : State) (id : ℕ) → Kept jobs size x → (is_free x.owed && not (to_do x)) ≡ true → left_of id x ≡ 0
free_left jobs size x id i h =
    let parts = and_parts (is_free x.owed) (not (to_do x)) h in
    idle_left jobs size x id i parts.0 (not-true (to_do x) parts.1)

dead_none : (x : State) (owed : Owed) → Owes x.slots x.stop x.recovery owed → is_dead x owed ≡ true → false ≡ true
dead_none x (Dark cuts) owes h = owes
dead_none x owed owes h = absurd (cc)

shown_none : (x : State) (owed : Owed) → Owes x.slots x.stop x.recovery owed → is_left_owed owed ≡ true → false ≡ true
shown_none x (LeftOwed from) owes h = owes
shown_none x owed owes h = absurd (cc)

end_left : (jobs : List Job) (size : ℕ) (x : State) (id : ℕ) (end : End) → Kept jobs size x → holds x (Off end) ≡ true → left_of id x ≡ 0
unfolding holds off_holds
end_left jobs size x id Good i h = free_left jobs size x id i h
end_left jobs size x id FaultEnd i h =
    elim (or_cases (is_free x.owed && not (to_do x)) (may_be_on x x.owed || is_left_owed x.owed) h) [
      | inl ends ↦ free_left jobs size x id i ends
      | inr cut ↦ elim (or_cases (may_be_on x x.owed) (is_left_owed x.owed) cut) [
        | inl dark ↦ absurd (false≢true (on_none jobs size x x.owed i.owes dark))
        | inr shown ↦ absurd (false≢true (shown_none x x.owed i.owes shown))
      ]
    ]
end_left jobs size x id Dead i h = absurd (false≢true (dead_none x x.owed i.owes h))
end_left jobs size x id Image i h = absurd (false≢true (on_none jobs size x x.owed i.owes h))

-- the lines from a state on answer what is left to be answered

record Serves (own : Plan) (size id : ℕ) (s : State) (lines : List Item) : Type 0 where
  none : left_of id s ≡ 0 → (answers_to id lines ≡ []) × (bus_faults_of id lines ≡ 0)
  one : left_of id s ≡ 1 → answers_to id lines ≡ answer_of id (job_of own.jobs id) size (times s.named id + bus_faults_of id lines) ∷ []
  few : left_of id s ≡ 1 → times s.named id + bus_faults_of id lines ≤ 4

serves_end : (own : Plan) (size id : ℕ) (s t : State) (end : End) → IsSteady own size s → accept_from (Off end ∷ []) s ≡ Ok t → Serves own size id s (Off end ∷ [])
serves_end own size id s t end i e =
    let x = judges own size s (Off end) i in
    let over : left_of id s ≡ 0 = sym (x.left id) ∙ end_left own.jobs size (settled s (Off end)) id end x.steady.kept (stood s (Off end) ((takes s t (Off end) [] e).rule)).held in
    record { none = λ gone. (refl, refl); one = λ one. absurd (omega (arith, over, one)); few = λ one. absurd (omega (arith, over, one)) }

-- a line that answers, one of a bus fault, and another

with_line : (b : Bool) (item : Item) (rest : List Item) → b ≡ true → cond b (item ∷ rest) rest ≡ item ∷ rest
with_line true item rest e = refl
with_line false item rest e = absurd (false≢true e)

without_line : (b : Bool) (item : Item) (rest : List Item) → b ≡ false → cond b (item ∷ rest) rest ≡ rest
without_line true item rest e = absurd (false≢true (sym e))
without_line false item rest e = refl

answer_unbus : (id : ℕ) (item : Item) → is_answer_to id item ≡ true → is_bus_fault_of id item ≡ false
answer_unbus id (Bus n kind named) e = absurd (false≢true e)
answer_unbus id item e = refl

record Step (own : Plan) (size : ℕ) (s : State) (item : Item) : Type 0 where
  x : State
  steady : IsSteady own size x
  left : (id : ℕ) → left_of id x ≡ left_of id s
  named : x.named ≡ s.named
  plain : is_plain item ≡ true
  stands : Stood x item

answered : (own : Plan) (size id : ℕ) (s : State) (item : Item) (lines : List Item) → (step : Step own size s item) → left_of id (effect step.x item) + bit (is_answer_to id item) ≡ left_of id step.x
    → is_answer_to id item ≡ true → Serves own size id (effect step.x item) lines → Serves own size id s (item ∷ lines)
answered own size id s item lines step law to later =
    let some : bit (is_answer_to id item) ≡ 1 = ap bit to in
    let fits = step.steady.kept.fits id in
    let rest = later.none (omega (arith, law, some, fits, room_le (length own.jobs) id)) in
    let faults = without_line (is_bus_fault_of id item) item (filter (is_bus_fault_of id) lines) (answer_unbus id item to) in
    record {
      none = λ gone. absurd (omega (arith, law, some, step.left id, gone));
      one = λ one.
          with_line (is_answer_to id item) item (answers_to id lines) to
          ∙ (ap (λ rest. item ∷ rest) rest.0
          ∙ ap (λ line. line ∷ []) (right own size step.x id item step.steady step.stands.for step.stands.held to
          ∙ ap (answer_of id (job_of own.jobs id) size) (ap (λ named. times named id) step.named ∙ omega (arith, ap length faults, rest.1))));
      few = λ one. omega (arith, ap length faults, rest.1, step.steady.kept.most id, ap (λ named. times named id) step.named);
    }

faulted : (own : Plan) (size id : ℕ) (s : State) (item : Item) (lines : List Item) → (step : Step own size s item) → left_of id (effect step.x item) + bit (is_answer_to id item) ≡ left_of id step.x
    → is_answer_to id item ≡ false → is_bus_fault_of id item ≡ true → Serves own size id (effect step.x item) lines → Serves own size id s (item ∷ lines)
faulted own size id s item lines step law to of later =
    let raised = times_raised own size step.x id item step.steady step.stands.for step.stands.held of in
    let faults = with_line (is_bus_fault_of id item) item (filter (is_bus_fault_of id) lines) of in
    let job = job_of own.jobs id in
    let more = bus_faults_of id lines in
    let same : left_of id (effect step.x item) ≡ left_of id s = omega (arith, law, ap bit to, step.left id) in
    let sum : times (effect step.x item).named id + more ≡ times s.named id + suc more = omega (arith, raised.raised, raised.few, ap (λ named. times named id) step.named) in
    record {
      none = λ gone. absurd (omega (arith, raised.left, step.left id, gone));
      one = λ one.
          without_line (is_answer_to id item) item (answers_to id lines) to
          ∙ (later.one (same ∙ one) ∙ ap (λ line. line ∷ []) (ap (answer_of id job size) (sum ∙ ap (λ lines. times s.named id + length lines) (sym faults))));
      few = λ one. omega (arith, later.few (same ∙ one), sum, ap length faults);
    }

passed : (own : Plan) (size id : ℕ) (s : State) (item : Item) (lines : List Item) → (step : Step own size s item) → left_of id (effect step.x item) + bit (is_answer_to id item) ≡ left_of id step.x
    → is_answer_to id item ≡ false → is_bus_fault_of id item ≡ false → Serves own size id (effect step.x item) lines → Serves own size id s (item ∷ lines)
passed own size id s item lines step law to of later =
    let same : left_of id (effect step.x item) ≡ left_of id s = omega (arith, law, ap bit to, step.left id) in
    let answers = without_line (is_answer_to id item) item (answers_to id lines) to in
    let faults = without_line (is_bus_fault_of id item) item (filter (is_bus_fault_of id) lines) of in
    let above : left_of id s ≡ 1 → 1 ≤ id = λ one. (room_some (length own.jobs) id (omega (arith, step.steady.kept.fits id, step.left id, one))).0 in
    let kept : left_of id s ≡ 1 → times (effect step.x item).named id ≡ times s.named id =
    λ one. times_kept own size step.x id item step.steady step.plain step.stands.for step.stands.held (above one) of ∙ ap (λ named. times named id) step.named in
    record {
      none = λ gone. let rest = later.none (same ∙ gone) in (answers ∙ rest.0, ap length faults ∙ rest.1);
      one = λ one.
          answers ∙ (later.one (same ∙ one)
          ∙ (ap (λ n. answer_of id (job_of own.jobs id) size (n + bus_faults_of id lines) ∷ []) (kept one)
          ∙ ap (λ lines. answer_of id (job_of own.jobs id) size (times s.named id + length lines) ∷ []) (sym faults)));
      few = λ one. omega (arith, later.few (same ∙ one), kept one, ap length faults);
    }

serves_line : (own : Plan) (size id : ℕ) (s : State) (item : Item) (lines : List Item) → (step : Step own size s item) → left_of id (effect step.x item) + bit (is_answer_to id item) ≡ left_of id step.x
    → Serves own size id (effect step.x item) lines → Serves own size id s (item ∷ lines)
serves_line own size id s item lines step law later =
    elim (cases_Bool (is_answer_to id item)) [
      | inl to ↦ answered own size id s item lines step law to later
      | inr off ↦ elim (cases_Bool (is_bus_fault_of id item)) [
        | inl of ↦ faulted own size id s item lines step law off of later
        | inr none ↦ passed own size id s item lines step law off none later
      ]
    ]

serves_all : (own : Plan) (size id : ℕ) (s t : State) (end : End) (lines : List Item) → IsSteady own size s → All (λ line. is_plain line ≡ true) (lines ++ Off end ∷ []) → accept_from (lines ++ Off end ∷ []) s ≡ Ok t
    → Serves own size id s (lines ++ Off end ∷ [])
serves_all own size id s t end [] i plain e = serves_end own size id s t end i e
serves_all own size id s t end (item ∷ lines) i plain e =
    let first = takes s t item (lines ++ Off end ∷ []) e in
    let x = judges own size s item i in
    let head = All-head (λ line. is_plain line ≡ true) item (lines ++ Off end ∷ []) plain in
    let stands = stood s item first.rule in
    let leads = line_leads own size (settled s item) item x.steady head stands.for stands.held in
    serves_line own size id s item (lines ++ Off end ∷ []) (record { x = settled s item; steady = x.steady; left = x.left; named = x.named; plain = head; stands = stands }) (leads.law id)
    (serves_all own size id (accepted s item) t end lines (after own size (settled s item) item x.steady leads.kept) (All-tail (λ line. is_plain line ≡ true) item (lines ++ Off end ∷ []) plain) first.rest)

-- without bus faults no line names one

unnamed : (own : Plan) (size id : ℕ) (x : State) (item : Item) → IsSteady own size x → x.faults.bus ≡ [] → is_bus_owed x.owed ≡ false → holds x item ≡ true → is_bus_fault_of id item ≡ false
unnamed own size id x (Bus n kind named) i none off h = absurd (false≢true (bus_none x n kind named none off h))
unnamed own size id x item i none off h = refl

quiet_all : (own : Plan) (size id : ℕ) (s t : State) (lines : List Item) → IsSteady own size s → s.faults.bus ≡ [] → is_bus_owed s.owed ≡ false → All (λ line. is_plain line ≡ true) lines → accept_from lines s ≡ Ok t → bus_faults_of id lines ≡ 0
quiet_all own size id s t [] i none off plain e = refl
quiet_all own size id s t (item ∷ lines) i none off plain e =
    let first = takes s t item lines e in
    let x = judges own size s item i in
    let head = All-head (λ line. is_plain line ≡ true) item lines plain in
    let stands = stood s item first.rule in
    let leads = line_leads own size (settled s item) item x.steady head stands.for stands.held in
    let bare = x.bus ∙ none in
    ap length (without_line (is_bus_fault_of id item) item (filter (is_bus_fault_of id) lines) (unnamed own size id (settled s item) item x.steady bare (x.owed ∙ off) stands.held))
    ∙ quiet_all own size id (accepted s item) t lines (after own size (settled s item) item x.steady leads.kept) (ap (λ faults. faults.bus) leads.faults ∙ bare) (leads.quiet bare)
    (All-tail (λ line. is_plain line ≡ true) item lines plain) first.rest

-- the start

all_wait : (n place : ℕ) → bit (slice_index_or (replicate n true) place false) ≡ bit (nat_lt place n)
all_wait n place =
    elim (cases_lt place n) [
      | inl below ↦ ap bit (get_or-replicate n place true false below ∙ sym (lt-ltb place n below))
      | inr past ↦ ap bit (get_or_past (replicate n true) place false (omega (arith, length-replicate n true)) ∙ sym (le-ltb place n past))
    ]

start_left : (n id : ℕ) → pending id (replicate n true) Calm no_tasks ≡ room n id
start_left n zero = omega (arith, tasks_none 0)
start_left n (suc place) = omega (arith, all_wait n place, tasks_none (suc place))

no_faults : (n place : ℕ) → ◌≡◌ {A = ℕ} (slice_index_or (replicate n 0) place 0) 0
no_faults zero place = refl
no_faults (suc n) zero = refl
no_faults (suc n) (suc place) = no_faults n place

started_steady : (base : List Block) (plan : Plan) (faults : Faults) → IsSteady plan (length base) (started base plan faults)
unfolding started
started_steady base plan faults = record {
  plan = refl;
  sectors = refl;
  kept = record {
    long = length-replicate (length plan.jobs) true;
    names = length-replicate (length plan.jobs) 0;
    tags = tags_none;
    fits = λ id. omega (arith, start_left (length plan.jobs) id);
    held = λ e. absurd (false≢true (sym e));
    served = none_left plan.jobs (length base);
    owes = collected_none;
    stands = refl;
    most = λ id. omega (arith, no_faults (length plan.jobs) (id - 1));
    fourth = λ id one four. absurd (omega (arith, four, no_faults (length plan.jobs) (id - 1)));
  };
}

started_left : (base : List Block) (plan : Plan) (faults : Faults) (id : ℕ) → left_of id (started base plan faults) ≡ room (length plan.jobs) id
unfolding started
started_left base plan faults id = start_left (length plan.jobs) id

started_named : (base : List Block) (plan : Plan) (faults : Faults) (id : ℕ) → times (started base plan faults).named id ≡ 0
unfolding started
started_named base plan faults id = no_faults (length plan.jobs) (id - 1)

started_quiet : (base : List Block) (plan : Plan) (faults : Faults) → faults.bus ≡ [] → ((started base plan faults).faults.bus ≡ []) × (is_bus_owed (started base plan faults).owed ≡ false)
unfolding started
started_quiet base plan faults none = (none, refl)

-- the whole trace

trace_serves : (base : List Block) (plan : Plan) (faults : Faults) (lines : List Item) (id : ℕ) → IsEndedTrace base plan faults lines → Serves plan (length base) id (started base plan faults) lines
unfolding accept
trace_serves base plan faults lines id trace =
    subst (Serves plan (length base) id (started base plan faults)) (sym trace.ends)
    (serves_all plan (length base) id (started base plan faults) trace.last trace.end trace.front (started_steady base plan faults) (subst (All (λ line. is_plain line ≡ true)) trace.ends trace.reached.plain)
    (ap (λ items. accept_from items (started base plan faults)) (sym trace.ends) ∙ trace.reached.taken))

room_one : (count id : ℕ) → 1 ≤ id → id ≤ count → room count id ≡ 1
room_one count zero above below = absurd (omega arith)
room_one count (suc place) above below = ap bit (lt-ltb place count (omega arith))

room_none : (count id : ℕ) → (id < 1) ⊎ (count < id) → room count id ≡ 0
room_none count zero out = refl
room_none count (suc place) (inl low) = absurd (omega arith)
room_none count (suc place) (inr high) = ap bit (le-ltb place count (omega arith))

pub each_answered : (base : List Block) (plan : Plan) (faults : Faults) (lines : List Item) (id : ℕ) → IsAnswered base plan faults lines id
each_answered base plan faults lines id trace above below =
    let serves = trace_serves base plan faults lines id trace in
    serves.one (started_left base plan faults id ∙ room_one (length plan.jobs) id above below)
    ∙ ap (λ n. answer_of id (job_of plan.jobs id) (length base) (n + bus_faults_of id lines) ∷ []) (started_named base plan faults id)
    ∙ ap (λ n. answer_of id (job_of plan.jobs id) (length base) n ∷ []) (omega arith)

pub none_else : (base : List Block) (plan : Plan) (faults : Faults) (lines : List Item) (id : ℕ) → IsOfRequest base plan faults lines id
none_else base plan faults lines id trace out = ((trace_serves base plan faults lines id trace).none (started_left base plan faults id ∙ room_none (length plan.jobs) id out)).0

few_by : (own : Plan) (size id : ℕ) (s : State) (lines : List Item) → Serves own size id s lines → left_of id s ≤ 1 → bus_faults_of id lines ≤ 4
few_by own size id s lines serves low =
    elim (cases_lt (left_of id s) 1) [
      | inl below ↦ omega (arith, (serves.none (omega arith)).1)
      | inr some ↦ omega (arith, serves.few (omega (arith, some, low)))
    ]

pub few_faults : (base : List Block) (plan : Plan) (faults : Faults) (lines : List Item) (id : ℕ) → HasFewFaults base plan faults lines id
few_faults base plan faults lines id trace =
    few_by plan (length base) id (started base plan faults) lines (trace_serves base plan faults lines id trace) (omega (arith, started_left base plan faults id, room_le (length plan.jobs) id))

pub faultless : (base : List Block) (plan : Plan) (faults : Faults) (lines : List Item) (id : ℕ) → IsFaultless base plan faults lines id
unfolding accept
faultless base plan faults lines id none trace above below =
    let quiet = started_quiet base plan faults none in
    each_answered base plan faults lines id trace above below
    ∙ ap (λ n. answer_of id (job_of plan.jobs id) (length base) n ∷ [])
    (quiet_all plan (length base) id (started base plan faults) trace.last lines (started_steady base plan faults) quiet.0 quiet.1 trace.reached.plain trace.reached.taken)

-- and that of a run

pub run_printed : (base : List Block) (plan : Plan) (faults : Faults) (lines : List Item) (s : State) (end : End) → IsPrinted base plan faults lines s end
run_printed base plan faults lines s end valid plain run at = record {
  last = s;
  reached = record { plain = plain; taken = whole_taken base plan faults lines s valid run };
  front = card_line base plan ∷ joined run.parts;
  end = end;
  ends = run.printed ∙ ap (λ end. card_line base plan ∷ (joined run.parts ++ off_lines end)) at;
}
