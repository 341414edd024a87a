-- One trace, line by line.
use Rattle.std.proofs.Common.{inl, inr, ◌≡◌, ◌∙◌, ℕ, true, false, cond, Option, Some, None, Result, Ok, All, List, [], ◌∷◌, ◌++◌, length, refl, ap, ap₂, sym, subst}
use Rattle.std.proofs.lemmas.Bool.{cases_Bool, cond-false, cond-true, false≢true}
use Rattle.std.proofs.lemmas.List.Elements.{All-head, All-tail}
use Rattle.one_trace.proofs.Keeps.{free_kept, owed_kept, phase_at}
use Rattle.one_trace.proofs.Lines.{free_line, free_next}
use Rattle.one_trace.proofs.Served.{flash_only, none_behind, owed_line, owed_next}
use Rattle.one_trace.proofs.Settled.{IsSteady, at_rest, comes, first_rests, hit_none, rest_steady, serves, settles, settles_owed}
use Rattle.one_trace.proofs.Slots.{none_left}
use Rattle.one_trace.specs.Traces.{IsFaultless, IsFront, IsNext, IsOneNext, IsOneTrace, is_expected, is_plain}
use Rattle.storage_machine.specs.Commands.{due}
use Rattle.storage_machine.specs.Jobs.{job_of}
use Rattle.storage_machine.specs.declared.state.Owed.TheVariants.{Flash as FlashOwed, End as Ended}
use Rattle.storage_machine.specs.declared.state.State.{State}
use Rattle.storage_model.specs.declared.block.Block.{Block}
use Rattle.storage_model.specs.declared.faults.Faults.{Faults}
use Rattle.storage_model.specs.declared.plan.Plan.{Plan}
use Rattle.storage_model.specs.declared.trace.End.TheVariants.{Good}
use Rattle.storage_model.specs.declared.trace.Item.{Item}
use Rattle.storage_model.specs.declared.trace.Item.TheVariants.{Phase, Flash, Cut, Off}
use Rattle.storage_order.specs.Accept.{accept, accept_from, accept_next, accepted, broken_rule, started}
use Rattle.storage_order.specs.Order.{settled}
use Rattle.trace_effects.specs.Effects.{after_off, effect}
use Rattle.trace_effects.specs.Phases.{after_phase}
use Rattle.trace_rules.specs.Lines.{is_for, is_free, is_off}
use Rattle.trace_rules.specs.Phases.{is_whole, tag_due}
use Rattle.trace_rules.specs.Steps.{is_cut}

plain_uncut : (item : Item) → is_plain item ≡ true → is_cut item ≡ false
plain_uncut Cut plain = absurd (false≢true plain)
plain_uncut item plain = refl

plain_from : (own : Plan) (item : Item) → is_expected own item ≡ true → is_plain item ≡ true
plain_from own (Flash id) e = absurd (false≢true e)
plain_from own Cut e = absurd (false≢true e)
plain_from own item e = refl

-- a state that is reached

started_steady : (base : List Block) (plan : Plan) (faults : Faults) → IsFaultless faults → IsSteady plan (length base) (started base plan faults)
unfolding started
started_steady base plan faults quiet = record { plan = refl; quiet = quiet; sectors = refl; event = refl; lit = refl; served = none_left plan.jobs (length base); stands = refl }

taken_steady : (own : Plan) (size : ℕ) (s : State) (item : Item) → IsSteady own size s → is_plain item ≡ true → broken_rule s item ≡ None → IsSteady own size (accepted s item)
taken_steady own size s item i plain rule =
    elim (cases_Bool (is_free s.owed)) [
      | inl free ↦
          let uncut = plain_uncut item plain in
          subst (λ x. IsSteady own size (effect x item)) (sym (settles own size s item i free uncut))
          (free_kept own size _ item (first_rests own size (at_rest s) item (rest_steady own size s free i)) (comes own size s item i free uncut rule) plain)
      | inr owes ↦
          let at = serves s item owes rule in
          subst (λ x. IsSteady own size (effect x item)) (sym (settles_owed s item owes)) (owed_kept own size s item i owes plain at.for at.held)
    ]

-- its next line is a function of the state

abbrev next_line : State → Item
next_line s = cond (is_free s.owed) (free_line (at_rest s)) (owed_line s s.owed)

next_is : (own : Plan) (size : ℕ) (s : State) (item : Item) → IsSteady own size s → IsNext own s item → item ≡ next_line s
next_is own size s item i next =
    let plain = plain_from own item next.expected in
    elim (cases_Bool (is_free s.owed)) [
      | inl free ↦
          free_next own size (at_rest s) item (rest_steady own size s free i) (comes own size s item i free (plain_uncut item plain) next.taken) next.expected
          ∙ sym (cond-true (is_free s.owed) (free_line (at_rest s)) (owed_line s s.owed) free)
      | inr owes ↦
          owed_next s item owes i.lit plain (serves s item owes next.taken)
          ∙ sym (cond-false (is_free s.owed) (free_line (at_rest s)) (owed_line s s.owed) owes)
    ]

-- one line after the other

record Takes (s t : State) (item : Item) (items : List Item) : Type 0 where
  rule : broken_rule s item ≡ None
  rest : accept_from items (accepted s item) ≡ Ok t

takes_by : (s t : State) (item : Item) (items : List Item) (rule : Option ℕ) → broken_rule s item ≡ rule → accept_next s item rule (accept_from items) ≡ Ok t → Takes s t item items
takes_by s t item items None at e = record { rule = at; rest = e }
takes_by s t item items (Some rule) at e = absurd (cc)

takes : (s t : State) (item : Item) (items : List Item) → accept_from (item ∷ items) s ≡ Ok t → Takes s t item items
takes s t item items e = takes_by s t item items (broken_rule s item) refl e

ok_is : (s t : State) → ◌≡◌ {A = Result State ℕ} (Ok s) (Ok t) → s ≡ t
ok_is s t e = cc

reached_steady : (own : Plan) (size : ℕ) (s t : State) (lines : List Item) → IsSteady own size s → All (λ line. is_plain line ≡ true) lines → accept_from lines s ≡ Ok t → IsSteady own size t
reached_steady own size s t [] i plain e = subst (IsSteady own size) (ok_is s t e) i
reached_steady own size s t (line ∷ lines) i plain e =
    let first = takes s t line lines e in
    reached_steady own size (accepted s line) t lines (taken_steady own size s line i (All-head (λ line. is_plain line ≡ true) line lines plain) first.rule)
    (All-tail (λ line. is_plain line ≡ true) line lines plain) first.rest

pub one_next : (base : List Block) (plan : Plan) (faults : Faults) (lines : List Item) (s : State) → IsOneNext base plan faults lines s
unfolding accept
one_next base plan faults lines s quiet reached line other next after =
    let i = reached_steady plan (length base) (started base plan faults) s lines (started_steady base plan faults quiet) reached.plain reached.taken in
    next_is plan (length base) s line i next ∙ sym (next_is plan (length base) s other i after)

-- behind the end's line none is taken

off_owes : (x : State) (item : Item) → is_off item ≡ true → (effect x item).owed ≡ Ended
unfolding effect after_off
off_owes x (Off end) off = refl
off_owes x item off = absurd (cc)

off_last : (s t : State) (item next : Item) (items : List Item) → is_off item ≡ true → accept_from (next ∷ items) (accepted s item) ≡ Ok t → false ≡ true
off_last s t item next items off e =
    let at = off_owes _ item off in
    let first = takes (accepted s item) t next items e in
    none_behind (accepted s item) next at (serves (accepted s item) next (ap is_free at) first.rule)

off_behind : (s t : State) (item : Item) (lines : List Item) → is_off item ≡ true → accept_from (lines ++ Off Good ∷ []) (accepted s item) ≡ Ok t → false ≡ true
off_behind s t item [] off e = off_last s t item (Off Good) [] off e
off_behind s t item (next ∷ lines) off e = off_last s t item next (lines ++ Off Good ∷ []) off e

-- nor a plain one behind an incomplete phase

settled_steady : (own : Plan) (size : ℕ) (s : State) (item : Item) → IsSteady own size s → is_plain item ≡ true → IsSteady own size (settled s item)
settled_steady own size s item i plain =
    elim (cases_Bool (is_free s.owed)) [
      | inl free ↦ subst (IsSteady own size) (sym (settles own size s item i free (plain_uncut item plain))) (first_rests own size (at_rest s) item (rest_steady own size s free i)).steady
      | inr owes ↦ subst (IsSteady own size) (sym (settles_owed s item owes)) i
    ]

record Owes (x : State) (item : Item) : Type 0 where
  id : ℕ
  owed : (effect x item).owed ≡ FlashOwed id

phase_owes : (own : Plan) (size : ℕ) (x : State) (item : Item) → IsSteady own size x → is_plain item ≡ true → is_off item ≡ false → is_expected own item ≡ false → Owes x item
unfolding effect after_phase
phase_owes own size x (Phase n id count kept) i plain off part =
    let job = job_of x.plan.jobs id in
    let whole = ap (λ plan. is_whole plan.through (job_of plan.jobs id) count kept) i.plan ∙ part in
    record { id = id; owed = ap (λ t. t.owed) (phase_at x n id count kept job (tag_due (due x)) false (hit_none x i.quiet) whole) }
phase_owes own size x item i plain off part = absurd (cc)

part_last : (own : Plan) (size : ℕ) (s t : State) (item next : Item) (items : List Item) → IsSteady own size s → is_plain item ≡ true → is_off item ≡ false → is_expected own item ≡ false → is_plain next ≡ true
    → accept_from (next ∷ items) (accepted s item) ≡ Ok t → false ≡ true
part_last own size s t item next items i plain off part after e =
    let owes = phase_owes own size (settled s item) item (settled_steady own size s item i plain) plain off part in
    let first = takes (accepted s item) t next items e in
    let serve = serves (accepted s item) next (ap is_free owes.owed) first.rule in
    flash_only owes.id next (ap (λ owed. is_for owed next) (sym owes.owed) ∙ serve.for) after

part_behind : (own : Plan) (size : ℕ) (s t : State) (item : Item) (lines : List Item) → IsSteady own size s → is_plain item ≡ true → is_off item ≡ false → is_expected own item ≡ false
    → All (λ line. is_plain line ≡ true) (lines ++ Off Good ∷ []) → accept_from (lines ++ Off Good ∷ []) (accepted s item) ≡ Ok t → false ≡ true
part_behind own size s t item [] i plain off part all e = part_last own size s t item (Off Good) [] i plain off part refl e
part_behind own size s t item (next ∷ lines) i plain off part all e =
    part_last own size s t item next (lines ++ Off Good ∷ []) i plain off part (All-head (λ line. is_plain line ≡ true) next (lines ++ Off Good ∷ []) all) e

part_none : (own : Plan) (size : ℕ) (s t : State) (item : Item) (lines : List Item) → IsSteady own size s → is_plain item ≡ true → is_off item ≡ false → All (λ line. is_plain line ≡ true) (lines ++ Off Good ∷ [])
    → accept_from (lines ++ Off Good ∷ []) (accepted s item) ≡ Ok t → is_expected own item ≡ true
part_none own size s t item lines i plain off all e =
    elim (cases_Bool (is_expected own item)) [
      | inl expected ↦ expected
      | inr part ↦ absurd (false≢true (part_behind own size s t item lines i plain off part all e))
    ]

-- a line before the end
record Leads (own : Plan) (s t : State) (item : Item) (lines : List Item) : Type 0 where
  next : IsNext own s item
  off : is_off item ≡ false
  plain : All (λ line. is_plain line ≡ true) (lines ++ Off Good ∷ [])
  rest : accept_from (lines ++ Off Good ∷ []) (accepted s item) ≡ Ok t

off_none : (s t : State) (item : Item) (lines : List Item) → accept_from (lines ++ Off Good ∷ []) (accepted s item) ≡ Ok t → is_off item ≡ false
off_none s t item lines e =
    elim (cases_Bool (is_off item)) [
      | inl off ↦ absurd (false≢true (off_behind s t item lines off e))
      | inr none ↦ none
    ]

leads : (own : Plan) (size : ℕ) (s t : State) (item : Item) (lines : List Item) → IsSteady own size s → All (λ line. is_plain line ≡ true) (item ∷ (lines ++ Off Good ∷ [])) → accept_from (item ∷ (lines ++ Off Good ∷ [])) s ≡ Ok t
    → Leads own s t item lines
leads own size s t item lines i all e =
    let first = takes s t item (lines ++ Off Good ∷ []) e in
    let off = off_none s t item lines first.rest in
    let plain = All-head (λ line. is_plain line ≡ true) item (lines ++ Off Good ∷ []) all in
    let later = All-tail (λ line. is_plain line ≡ true) item (lines ++ Off Good ∷ []) all in
    record { next = record { expected = part_none own size s t item lines i plain off later first.rest; taken = first.rule }; off = off; plain = later; rest = first.rest }

-- the end comes where another line doesn't
end_else : (own : Plan) (size : ℕ) (s t u : State) (item : Item) (lines : List Item) → IsSteady own size s → All (λ line. is_plain line ≡ true) (item ∷ (lines ++ Off Good ∷ [])) → accept_from (Off Good ∷ []) s ≡ Ok t
    → accept_from (item ∷ (lines ++ Off Good ∷ [])) s ≡ Ok u → false ≡ true
end_else own size s t u item lines i all end more =
    let lead = leads own size s u item lines i all more in
    let last : IsNext own s (Off Good) = record { expected = refl; taken = (takes s t (Off Good) [] end).rule } in
    sym lead.off ∙ ap is_off (next_is own size s item i lead.next ∙ sym (next_is own size s (Off Good) i last))

same_lines : (own : Plan) (size : ℕ) (s t u : State) (lines others : List Item) → IsSteady own size s → All (λ line. is_plain line ≡ true) (lines ++ Off Good ∷ []) → All (λ line. is_plain line ≡ true) (others ++ Off Good ∷ [])
    → accept_from (lines ++ Off Good ∷ []) s ≡ Ok t → accept_from (others ++ Off Good ∷ []) s ≡ Ok u → lines ≡ others
same_lines own size s t u [] [] i plain plains e f = refl
same_lines own size s t u [] (other ∷ others) i plain plains e f = absurd (false≢true (end_else own size s t u other others i plains e f))
same_lines own size s t u (line ∷ lines) [] i plain plains e f = absurd (false≢true (end_else own size s u t line lines i plain f e))
same_lines own size s t u (line ∷ lines) (other ∷ others) i plain plains e f =
    let first = leads own size s t line lines i plain e in
    let second = leads own size s u other others i plains f in
    let same : line ≡ other = next_is own size s line i first.next ∙ sym (next_is own size s other i second.next) in
    ap₂ ◌∷◌ same
    (same_lines own size (accepted s line) t u lines others (taken_steady own size s line i (plain_from own line first.next.expected) first.next.taken) first.plain second.plain first.rest
    (ap (λ item. accept_from (others ++ Off Good ∷ []) (accepted s item)) same ∙ second.rest))

pub one_trace : (base : List Block) (plan : Plan) (faults : Faults) (lines others : List Item) (s t : State) → IsOneTrace base plan faults lines others s t
unfolding accept
one_trace base plan faults lines others s t quiet left right =
    let i = started_steady base plan faults quiet in
    let same : lines ≡ others = same_lines plan (length base) (started base plan faults) s t lines others i left.plain right.plain left.taken right.taken in
    (same, ok_is s t (sym left.taken ∙ (ap (λ items. accept base plan faults (items ++ Off Good ∷ [])) same ∙ right.taken)))

-- the first lines of it

front_last : (own : Plan) (size : ℕ) (s t u : State) (line : Item) (lines : List Item) → IsSteady own size s → is_expected own line ≡ true → accept_from (line ∷ lines) s ≡ Ok t → accept_from (Off Good ∷ []) s ≡ Ok u
    → (rest : List Item) × (Off Good ∷ [] ≡ line ∷ (lines ++ rest))
front_last own size s t u line [] i expected e end =
    let next : IsNext own s line = record { expected = expected; taken = (takes s t line [] e).rule } in
    let last : IsNext own s (Off Good) = record { expected = refl; taken = (takes s u (Off Good) [] end).rule } in
    ([], ap (λ item. item ∷ []) (next_is own size s (Off Good) i last ∙ sym (next_is own size s line i next)))
front_last own size s t u line (more ∷ lines) i expected e end =
    let first = takes s t line (more ∷ lines) e in
    let next : IsNext own s line = record { expected = expected; taken = first.rule } in
    let last : IsNext own s (Off Good) = record { expected = refl; taken = (takes s u (Off Good) [] end).rule } in
    let off = ap is_off (next_is own size s line i next ∙ sym (next_is own size s (Off Good) i last)) in
    absurd (false≢true (off_last s t line more lines off first.rest))

front_of : (own : Plan) (size : ℕ) (s t u : State) (lines others : List Item) → IsSteady own size s → All (λ line. is_expected own line ≡ true) lines → All (λ line. is_plain line ≡ true) (others ++ Off Good ∷ [])
    → accept_from lines s ≡ Ok t → accept_from (others ++ Off Good ∷ []) s ≡ Ok u → (rest : List Item) × (others ++ Off Good ∷ [] ≡ lines ++ rest)
front_of own size s t u [] others i expected plain e f = (others ++ Off Good ∷ [], refl)
front_of own size s t u (line ∷ lines) [] i expected plain e f = front_last own size s t u line lines i (All-head (λ line. is_expected own line ≡ true) line lines expected) e f
front_of own size s t u (line ∷ lines) (other ∷ others) i expected plain e f =
    let first = takes s t line lines e in
    let head = All-head (λ line. is_expected own line ≡ true) line lines expected in
    let second = leads own size s u other others i plain f in
    let next : IsNext own s line = record { expected = head; taken = first.rule } in
    let same : other ≡ line = next_is own size s other i second.next ∙ sym (next_is own size s line i next) in
    let more = front_of own size (accepted s line) t u lines others (taken_steady own size s line i (plain_from own line head) first.rule)
    (All-tail (λ line. is_expected own line ≡ true) line lines expected) second.plain first.rest (ap (λ item. accept_from (others ++ Off Good ∷ []) (accepted s item)) (sym same) ∙ second.rest) in
    (more.0, ap₂ ◌∷◌ same more.1)

pub one_front : (base : List Block) (plan : Plan) (faults : Faults) (lines others : List Item) (s t : State) → IsFront base plan faults lines others s t
unfolding accept
one_front base plan faults lines others s t quiet expected taken right =
    front_of plan (length base) (started base plan faults) s t lines others (started_steady base plan faults quiet) expected right.plain taken right.taken
