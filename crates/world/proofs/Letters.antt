-- What a step uses as it begins, and its letter's line.
use Rattle.std.proofs.Common.{◌≡◌, ◌∙◌, ◌&&◌, ℕ, Bool, true, false, not, if◌then◌else◌, List, [], ◌∷◌, Result, Ok, Err, IfErr, refl, sym, ap, subst}
use Rattle.storage_model.specs.declared.ends.Halt.{Halt}
use Rattle.storage_model.specs.declared.ends.Halt.TheVariants.{SinkFailed}
use Rattle.storage_model.specs.declared.faults.Letter.{Letter}
use Rattle.storage_model.specs.declared.trace.Item.TheVariants.{Turn}
use Rattle.trace_print.specs.Prints.{Takes}
use Rattle.trace_rules.specs.Lines.{is_letter}
use Rattle.trace_text.specs.Trace.{items_text}
use Rattle.cut_order.specs.Order.{OrderState, next_letter, with_letter, with_line}
use Rattle.power_step.proofs.Taking.{part_of_one}
use Rattle.step_laws.specs.Steps.{behind_step, letter_lines}
use Rattle.world_state.specs.Path.{PathState}
use Rattle.world_steps.specs.World.{WorldState, order_behind, order_in, shows_letter, uses_line}
use Rattle.world.specs.Begins.{BeginsStep}

shows : (w : WorldState) (actor : Letter) (used next : Bool) → uses_line w actor ≡ used → is_letter actor (next_letter w.order) ≡ next → shows_letter w actor ≡ (next && not used)
unfolding shows_letter
shows w actor used next line letter = ap (λ b. is_letter actor (next_letter w.order) && not b) line ∙ ap (λ b. b && not used) letter

shows_none : (w : WorldState) (actor : Letter) (next : Bool) → uses_line w actor ≡ true → is_letter actor (next_letter w.order) ≡ next → shows_letter w actor ≡ false
shows_none w actor true line letter = shows w actor true true line letter
shows_none w actor false line letter = shows w actor true false line letter

-- the letter's line
none_shown : (w : WorldState) (actor : Letter) → shows_letter w actor ≡ false → letter_lines w actor ≡ []
none_shown w actor is = ap (λ flag. if flag then Turn actor ∷ [] else []) is

pub no_lines_used : (w : WorldState) (actor : Letter) → uses_line w actor ≡ true → letter_lines w actor ≡ []
no_lines_used w actor line = none_shown w actor (shows_none w actor (is_letter actor (next_letter w.order)) line refl)

pub no_lines_next : (w : WorldState) (actor : Letter) → uses_line w actor ≡ false → is_letter actor (next_letter w.order) ≡ false → letter_lines w actor ≡ []
no_lines_next w actor line letter = none_shown w actor (shows w actor false false line letter)

pub its_line : (w : WorldState) (actor : Letter) → uses_line w actor ≡ false → is_letter actor (next_letter w.order) ≡ true → letter_lines w actor ≡ Turn actor ∷ []
its_line w actor line letter = ap (λ flag. if flag then Turn actor ∷ [] else []) (shows w actor false true line letter)

-- what is used
in_by : (w : WorldState) (actor : Letter) (flag : Bool) → uses_line w actor ≡ false → shows_letter w actor ≡ flag → order_behind w actor ≡ (if flag then with_letter w.order else w.order)
in_by w actor flag line shown =
    ap (λ b. if b then with_line w.order w.path.script.sent else order_in w actor) line
    ∙ ap (λ b. if b then with_letter w.order else w.order) shown

behind_line : (w : WorldState) (actor : Letter) → uses_line w actor ≡ true → order_behind w actor ≡ with_line w.order w.path.script.sent
behind_line w actor line = ap (λ b. if b then with_line w.order w.path.script.sent else order_in w actor) line

module _ (w : WorldState) (actor : Letter) (p : PathState) (o o' : OrderState) (is : record { path = p; order = o } ≡ w) where
  as_behind : o' ≡ order_behind w actor → record { path = p; order = o' } ≡ behind_step w actor w.path
  as_behind order = ap (λ q. record { path = q; order = o' }) (ap (λ (x : WorldState). x.path) is) ∙ ap (λ q. record { path = w.path; order = q }) order

  pub line_used : uses_line w actor ≡ true → o' ≡ with_line o p.script.sent → record { path = p; order = o' } ≡ behind_step w actor w.path
  line_used line used = as_behind (used ∙ (ap (λ (x : WorldState). with_line x.order x.path.script.sent) is ∙ sym (behind_line w actor line)))

  pub letter_used : uses_line w actor ≡ false → is_letter actor (next_letter w.order) ≡ true → o' ≡ with_letter o → record { path = p; order = o' } ≡ behind_step w actor w.path
  letter_used line letter used = as_behind (used ∙ (ap (λ (x : WorldState). with_letter x.order) is ∙ sym (in_by w actor true line (shows w actor false true line letter))))

pub none_used : (w : WorldState) (actor : Letter) → uses_line w actor ≡ false → is_letter actor (next_letter w.order) ≡ false → w ≡ behind_step w actor w.path
none_used w actor line letter = ap (λ (q : OrderState). record { path = w.path; order = q }) (sym (in_by w actor false line (shows w actor false false line letter)))

-- how the line was written
module _ {K : Type 0} (took : K → List ℕ → K → Type 0) (w : WorldState) (actor : Letter) where
  pub begins : (old new : K) (result : Result (Unit {0}) Halt) → letter_lines w actor ≡ Turn actor ∷ [] → IfErr result (λ halt. halt ≡ SinkFailed)
      → Takes took old (Turn actor ∷ []) result new → BeginsStep took w actor old result new
  begins old new (Ok done) are halt taken = subst (λ xs. took old (items_text xs) new) (sym are) taken
  begins old new (Err halt) are is taken = (is, are, part_of_one took old new (Turn actor) (subst (λ h. Takes took old (Turn actor ∷ []) (Err h) new) is taken))

  pub begins_none : (old : K) → ((out : K) → took out [] out) → letter_lines w actor ≡ [] → BeginsStep took w actor old (Ok tt) old
  begins_none old nothing are = subst (λ xs. took old (items_text xs) old) (sym are) (nothing old)
