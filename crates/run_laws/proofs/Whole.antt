-- A whole run is taken, from the card line to the end, and so is what it wrote up to the failure of its sink.
use Rattle.std.proofs.Common.{inl, inr, ◌≡◌, ◌∙◌, ◌⊎◌, ◌≤◌, ℕ, Bool, true, false, Option, Some, None, Result, Ok, cond, ◌&&◌, ◌==◌, ◌||◌, not, length, List, [], ◌∷◌, ◌++◌, append-nil, refl, ap, sym}
use Rattle.std.proofs.lemmas.Bool.{false≢true, and_from, eq-eqb}
use Rattle.run_laws.proofs.Courses.{begun_by, course_leads}
use Rattle.run_events.specs.Laws.{Leads}
use Rattle.run_laws.specs.Whole.{Course, Finishes, Front, IsAccepted, IsWholeFrontTaken, IsWholeTaken, card_line, lines_shown, off_lines, opened}
use Rattle.storage_machine.specs.Cuts.{is_due}
use Rattle.storage_machine.specs.declared.state.Event.TheVariants.{Untold}
use Rattle.storage_machine.specs.declared.state.Owed.TheVariants.{Nothing, End as Ended}
use Rattle.storage_machine.specs.declared.state.State.{State}
use Rattle.storage_model.specs.Plan.{IsValidPlan}
use Rattle.storage_model.specs.declared.block.Block.{Block}
use Rattle.storage_model.specs.declared.faults.Faults.{Faults}
use Rattle.storage_model.specs.declared.plan.Plan.{Plan}
use Rattle.storage_model.specs.declared.trace.End.{End}
use Rattle.storage_model.specs.declared.trace.Item.{Item}
use Rattle.storage_order.specs.Accept.{accept, accept_from, started}
use Rattle.storage_order.specs.Events.{is_untold}
use Rattle.run_events.proofs.Finals.{end_taken}
use Rattle.storage_runs.proofs.Hushes.{rests, rests_kept, unseen_kept}
use Rattle.storage_runs.proofs.Lines.{event_none, one_taken, order_same, owed_stays, settled_same}
use Rattle.storage_runs.proofs.Mores.{end_untold, ended_untold}
use Rattle.storage_runs.specs.Laws.{HasEnded, StandsAt, joined, rested}
use Rattle.trace_effects.specs.Effects.{effect}
use Rattle.trace_rules.specs.Lines.{card_holds, holds, is_free, line_rule, same_lines}
use Rattle.trace_rules.specs.Steps.{stands_in}

-- the card line
lines_same : (through : Bool) (lines : ℕ) → same_lines through lines (cond through None (Some lines)) ≡ true
lines_same true lines = refl
lines_same false lines = eq-eqb lines lines refl

card_holding : (base : List Block) (plan : Plan) (faults : Faults) → holds (started base plan faults) (card_line base plan) ≡ true
unfolding holds card_holds started
card_holding base plan faults =
    and_from (length base == length base) ((plan.depth == plan.depth) && same_lines plan.through plan.lines (lines_shown plan)) (eq-eqb (length base) (length base) refl)
    (and_from (plan.depth == plan.depth) (same_lines plan.through plan.lines (lines_shown plan)) (eq-eqb plan.depth plan.depth refl) (lines_same plan.through plan.lines))

card_rule : (base : List Block) (plan : Plan) (faults : Faults) → line_rule (started base plan faults) (card_line base plan) ≡ None
unfolding line_rule started
card_rule base plan faults = rw (card_holding base plan faults) refl

card_stays : (base : List Block) (plan : Plan) (faults : Faults) → is_free (started base plan faults).owed ≡ false
unfolding started
card_stays base plan faults = refl

card_event : (base : List Block) (plan : Plan) (faults : Faults) → (started base plan faults).event ≡ Untold
unfolding started
card_event base plan faults = refl

card_effect : (base : List Block) (plan : Plan) (faults : Faults) → effect (started base plan faults) (card_line base plan) ≡ opened base plan faults
unfolding effect started
card_effect base plan faults = refl

card_taken : (base : List Block) (plan : Plan) (faults : Faults) (more : List Item) → accept_from (card_line base plan ∷ more) (started base plan faults) ≡ accept_from more (opened base plan faults)
card_taken base plan faults more =
    let s = started base plan faults in
    let item = card_line base plan in
    let inside = owed_stays s item (card_stays base plan faults) in
    one_taken s s item (settled_same s item inside) (order_same s item inside) (card_rule base plan faults)
    (event_none s item (ap (λ event. stands_in s event item) (card_event base plan faults)) refl refl refl) more
    ∙ ap (accept_from more) (card_effect base plan faults)

-- behind it the acceptance stands where the run begins
opened_depth : (base : List Block) (plan : Plan) (faults : Faults) → 1 ≤ plan.depth → 1 ≤ (opened base plan faults).plan.depth
unfolding started
opened_depth base plan faults most = most

opened_stands : (base : List Block) (plan : Plan) (faults : Faults) → 1 ≤ plan.depth → StandsAt (opened base plan faults) (opened base plan faults)
opened_stands base plan faults most =
    let s = opened base plan faults in
    let e = card_event base plan faults in
    record {
      free = refl;
      whole = refl;
      ends = end_untold s e;
      calm = ap (λ event. is_untold event || not (is_due s)) e;
      depth = opened_depth base plan faults most;
      count = 0;
      unseen = sym (ap {A = State} (λ y. record y { owed = Nothing }) (ended_untold s e));
    }

course_begun : (base : List Block) (plan : Plan) (faults : Faults) (parts : List (List Item)) (last : State) → IsValidPlan plan → Course (opened base plan faults) parts last
    → Leads (card_line base plan) (opened base plan faults) last (joined parts)
course_begun base plan faults parts last valid course =
    course_leads (card_line base plan) (opened base plan faults) (opened base plan faults) last parts (opened_stands base plan faults valid.depth.0) (λ told. card_event base plan faults) course

-- the end
stands_free : (m s : State) → StandsAt m s → s.owed ≡ Nothing
stands_free m s st = (rests_kept (rested m) s (rests m) (unseen_kept st.count (rested m) s (rests m) st.unseen)).owed

not_over : (s : State) → s.owed ≡ Nothing → s.owed ≡ Ended → false ≡ true
not_over s owed over = absurd (cc (sym owed ∙ over))

finish : (m s t : State) (end : Option End) → StandsAt m s ⊎ HasEnded m s → Finishes s end t → accept_from (off_lines end) m ≡ Ok t
finish m s t None (inl stands) over = absurd (false≢true (not_over s (stands_free m s stands) over.0))
finish m s t (Some end) (inl stands) off = end_taken m s end stands off.1 off.2 [] ∙ ap {B = Result State ℕ} Ok (sym off.3)
finish m s t None (inr over) off = ap {B = Result State ℕ} Ok (over.state ∙ sym off.1)
finish m s t (Some end) (inr over) off = absurd (false≢true (sym (ap is_free over.owed) ∙ off.0))

accepted_from : (base : List Block) (plan : Plan) (faults : Faults) (lines : List Item) → accept base plan faults lines ≡ accept_from lines (started base plan faults)
unfolding accept
accepted_from base plan faults lines = refl

pub whole_taken : (base : List Block) (plan : Plan) (faults : Faults) (lines : List Item) (t : State) → IsWholeTaken base plan faults lines t
whole_taken base plan faults lines t valid whole =
    let led = course_begun base plan faults whole.parts whole.last valid whole.course in
    accepted_from base plan faults lines
    ∙ (ap (λ lines. accept_from lines (started base plan faults)) whole.printed
    ∙ (card_taken base plan faults (joined whole.parts ++ off_lines whole.end)
    ∙ (led.takes.taken (off_lines whole.end) ∙ finish led.takes.after whole.last t whole.end led.takes.stands whole.finishes)))

-- a front
front_by : (base : List Block) (plan : Plan) (faults : Faults) (lines : List Item) → IsValidPlan plan → Front base plan faults lines → IsAccepted base plan faults lines
front_by base plan faults lines valid front =
    let led = course_begun base plan faults front.parts front.last valid front.course in
    let opened = begun_by led.takes.after front.last front.first led.takes.stands front.begun in (
      opened.after,
      accepted_from base plan faults lines
          ∙ (ap (λ lines. accept_from lines (started base plan faults)) front.printed
          ∙ (card_taken base plan faults (joined front.parts ++ front.first)
          ∙ (led.takes.taken front.first
          ∙ (ap (λ lines. accept_from lines led.takes.after) (sym (append-nil front.first)) ∙ opened.taken [])))),
    )

pub whole_front_taken : (base : List Block) (plan : Plan) (faults : Faults) (lines : List Item) → IsWholeFrontTaken base plan faults lines
whole_front_taken base plan faults lines valid (inl none) = (started base plan faults, accepted_from base plan faults lines ∙ ap (λ lines. accept_from lines (started base plan faults)) none)
whole_front_taken base plan faults lines valid (inr front) = front_by base plan faults lines valid front
