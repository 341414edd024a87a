-- The `cut` lines of a run: each has its cut of the array, a `cut` line of the fault text, or a letter of power.
use Rattle.std.proofs.Common.{◌≡◌, ◌∙◌, ◌++◌, ◌∷◌, ℕ, ◌+◌, ◌<◌, ◌≤◌, ◌&&◌, inl, inr, Bool, true, false, cond, not, if◌then◌else◌, List, [], Option, None, Some, length, drop, ap, arith, refl, subst, sym}
use Rattle.std.proofs.Math.Nat.{min-eq_left}
use Rattle.std.proofs.lemmas.Bool.{and_parts}
use Rattle.std.proofs.lemmas.List.{drop_more}
use Rattle.std.proofs.lemmas.Option.{get_or_from_slice_get, slice_get_within}
use Rattle.std.specs.Prelude.{◌-◌, count_by, is_some, min}
use Rattle.storage_model.specs.Count.{Count, Later}
use Rattle.storage_model.specs.declared.faults.Letter.{Letter}
use Rattle.storage_model.specs.declared.faults.Letter.TheVariants.{Host as HostActs, Engine as EngineActs, Card as CardActs, Cut as PowerActs}
use Rattle.storage_model.specs.declared.trace.Item.{Item}
use Rattle.trace_print.specs.Prints.{RoseBy, is_cut_line}
use Rattle.trace_rules.specs.Lines.{is_letter, same_letter}
use Rattle.cut_order.proofs.LeftLaws.{line_fewer}
use Rattle.cut_order.specs.Order.{OrderState, line_at, lines_left, next_letter, with_letter, with_line}
use Rattle.drv_core.specs.Work.{has_work}
use Rattle.power_step.proofs.Counting.{count_join, count_no, count_yes}
use Rattle.step_laws.specs.Steps.{cuts_allowed}
use Rattle.world_steps.specs.World.{WorldState, chosen_by, chosen_of, is_cut_due, is_to_do, order_behind, order_in, shows_letter, uses_line}
use Rattle.whole_run.specs.Cuts.{RoseWith, is_power, power_left}

-- a flag is set, or not
by_flag : (P : Type 0) (flag : Bool) → (flag ≡ true → P) → (flag ≡ false → P) → P
by_flag P true on off = on refl
by_flag P false on off = off refl

by_option : {X : Type 0} (P : Type 0) (option : Option X) → (option ≡ None → P) → ((x : X) → option ≡ Some x → P) → P
by_option P None none some = none refl
by_option P (Some x) none some = some x refl

no_one : {X : Type 0} (option : Option X) → option ≡ None → is_some option ≡ true → ⊥
no_one None is some = absurd (cc some)
no_one (Some x) is some = absurd (cc is)

same_self : (letter : Letter) → same_letter letter letter ≡ true
same_self HostActs = refl
same_self EngineActs = refl
same_self CardActs = refl
same_self PowerActs = refl

and_off : (b : Bool) → (b && false) ≡ false
and_off true = refl
and_off false = refl

-- a letter of power allows one cut, and no other letter does
allowed_is : (letter : Letter) → cuts_allowed letter ≡ cond (is_power letter) 1 0
allowed_is HostActs = refl
allowed_is EngineActs = refl
allowed_is CardActs = refl
allowed_is PowerActs = refl

module _ (w : WorldState) where
  -- a line is due, and is used
  line_due : is_cut_due w ≡ true → is_some (line_at w.order w.path.script.sent) ≡ true
  unfolding is_cut_due
  line_due due = (and_parts (is_to_do w.path) (is_some (line_at w.order w.path.script.sent)) due).1

  at_line : (k : ℕ) → line_at w.order w.path.script.sent ≡ Some k → power_left (with_line w.order w.path.script.sent) + 1 ≤ power_left w.order
  at_line k at = let fewer = line_fewer w.order w.path.script.sent k at in omega (arith, fewer)

  at_due : is_cut_due w ≡ true → power_left (order_behind w PowerActs) + 1 ≤ power_left w.order
  at_due due =
      let behind : order_behind w PowerActs ≡ with_line w.order w.path.script.sent = ap (λ b. if b then with_line w.order w.path.script.sent else order_in w PowerActs) due in
      subst (λ order. power_left order + 1 ≤ power_left w.order) (sym behind)
      (by_option (power_left (with_line w.order w.path.script.sent) + 1 ≤ power_left w.order) (line_at w.order w.path.script.sent) (λ none. absurd (no_one (line_at w.order w.path.script.sent) none (line_due due))) at_line)

  -- else no line is
  module _ (off : is_cut_due w ≡ false) where
    unused : (actor : Letter) → uses_line w actor ≡ false
    unused actor = ap (λ b. same_letter actor PowerActs && b) off ∙ and_off (same_letter actor PowerActs)

    behind_is : (actor : Letter) → order_behind w actor ≡ order_in w actor
    behind_is actor = ap (λ b. if b then with_line w.order w.path.script.sent else order_in w actor) (unused actor)

    shown_is : (actor : Letter) (next : Option Letter) → next_letter w.order ≡ next → shows_letter w actor ≡ is_letter actor next
    unfolding shows_letter
    shown_is actor next is = ap (λ n. is_letter actor n && not (uses_line w actor)) is ∙ ap (λ b. is_letter actor next && not b) (unused actor) ∙ and_on (is_letter actor next)
      where
        and_on : (b : Bool) → (b && true) ≡ b
        and_on true = refl
        and_on false = refl

    -- the next letter is used
    at_letter : (letter : Letter) → next_letter w.order ≡ Some letter → power_left (order_behind w letter) + cuts_allowed letter ≤ power_left w.order
    at_letter letter next =
        let order = w.order in
        let behind : order_behind w letter ≡ with_letter w.order =
        behind_is letter ∙ ap (λ b. if b then with_letter w.order else w.order) (shown_is letter (Some letter) next ∙ same_self letter) in
        let within = slice_get_within w.order.turns w.order.letters letter next in
        let one : min (w.order.letters + 1) (length w.order.turns) ≡ w.order.letters + 1 = min-eq_left (omega (arith, within)) in
        let from : drop w.order.letters w.order.turns ≡ letter ∷ drop (w.order.letters + 1) w.order.turns =
        drop_more w.order.turns w.order.letters letter within ∙ ap (λ x. x ∷ drop (w.order.letters + 1) w.order.turns) (get_or_from_slice_get w.order.turns w.order.letters letter letter next) in
        let less : count_by is_power (drop (min (w.order.letters + 1) (length w.order.turns)) w.order.turns) + cuts_allowed letter ≡ count_by is_power (drop w.order.letters w.order.turns) =
        ap (λ k. count_by is_power (drop k w.order.turns) + cuts_allowed letter) one
        ∙ (ap (λ n. count_by is_power (drop (w.order.letters + 1) w.order.turns) + n) (allowed_is letter)
        ∙ (counted letter (drop (w.order.letters + 1) w.order.turns) (is_power letter) refl ∙ sym (ap (λ xs. count_by is_power xs) from))) in
        subst (λ order. power_left order + cuts_allowed letter ≤ power_left w.order) (sym behind) (omega (arith, less))
      where
        counted : (letter : Letter) (rest : List Letter) (flag : Bool) → is_power letter ≡ flag → count_by is_power rest + cond flag 1 0 ≡ count_by is_power (letter ∷ rest)
        counted letter rest true is = sym (count_yes is_power letter rest is)
        counted letter rest false is = let same = count_no is_power letter rest is in omega (arith, same)

    -- or none is left
    at_none : (actor : Letter) → next_letter w.order ≡ None → cuts_allowed actor ≡ 0 → power_left (order_behind w actor) + cuts_allowed actor ≤ power_left w.order
    at_none actor next allowed =
        let behind : order_behind w actor ≡ w.order = behind_is actor ∙ ap (λ b. if b then with_letter w.order else w.order) (shown_is actor None next) in
        let same : power_left (order_behind w actor) ≡ power_left w.order = ap power_left behind in
        omega (arith, same, allowed)

    worker : (flag : Bool) → cuts_allowed (if flag then HostActs else EngineActs) ≡ 0
    worker true = refl
    worker false = refl

    chosen_is : chosen_of w ≡ chosen_by w.path (next_letter w.order)
    unfolding chosen_of
    chosen_is = ap (λ b. if b then PowerActs else chosen_by w.path (next_letter w.order)) off

    at_next : power_left (order_behind w (chosen_of w)) + cuts_allowed (chosen_of w) ≤ power_left w.order
    at_next =
        subst (λ actor. power_left (order_behind w actor) + cuts_allowed actor ≤ power_left w.order) (sym chosen_is)
        (by_option (power_left (order_behind w (chosen_by w.path (next_letter w.order))) + cuts_allowed (chosen_by w.path (next_letter w.order)) ≤ power_left w.order) (next_letter w.order)
        (λ none. subst (λ actor. power_left (order_behind w actor) + cuts_allowed actor ≤ power_left w.order) (sym (ap (chosen_by w.path) none)) (at_none _ none (worker (has_work w.path.driver w.path.regs))))
        (λ letter some. subst (λ actor. power_left (order_behind w actor) + cuts_allowed actor ≤ power_left w.order) (sym (ap (chosen_by w.path) some)) (at_letter letter some)))

  chosen_power : is_cut_due w ≡ true → chosen_of w ≡ PowerActs
  unfolding chosen_of
  chosen_power due = ap (λ b. if b then PowerActs else chosen_by w.path (next_letter w.order)) due

  -- what the next event may use for a cut is left no more behind it
  pub power_used : power_left (order_behind w (chosen_of w)) + cuts_allowed (chosen_of w) ≤ power_left w.order
  power_used =
      by_flag (power_left (order_behind w (chosen_of w)) + cuts_allowed (chosen_of w) ≤ power_left w.order) (is_cut_due w)
      (λ due. subst (λ actor. power_left (order_behind w actor) + cuts_allowed actor ≤ power_left w.order) (sym (chosen_power due)) (at_due due)) at_next

-- counts over two stretches
pub cuts_join : (front lines : List Item) (more less last : ℕ) (a b c : Count) → Later b c → RoseWith (count_by is_cut_line front) less more a b → RoseWith (count_by is_cut_line lines) last less b c
    → RoseWith (count_by is_cut_line (front ++ lines)) last more a c
cuts_join front lines more less last a b c later (inl low) (inl high) = let join = count_join is_cut_line front lines in inl (omega (arith, join, low, high))
cuts_join front lines more less last a b c later (inl low) (inr end) = inr end
cuts_join front lines more less last a b c later (inr end) rose = inr (later.stands end)

-- those of one event, which uses so much
pub cuts_step : (count allowed less more : ℕ) (a b : Count) → less + allowed ≤ more → RoseBy (count - allowed) a b → RoseWith count less more a b
cuts_step count allowed less more a b used (inl low) = inl (omega (arith, used, low))
cuts_step count allowed less more a b used (inr end) = inr end

-- no more is left than there was
pub cuts_end : (count less more : ℕ) (a b : Count) → RoseWith count less more a b → RoseWith count 0 more a b
cuts_end count less more a b (inl low) = inl (omega (arith, low))
cuts_end count less more a b (inr end) = inr end
