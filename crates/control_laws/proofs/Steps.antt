-- A step of the acceptance: with other contents of the same outline it breaks the same rules, and does the same to control.
use Rattle.control_laws.proofs.Marks.{effect_control}
use Rattle.control_laws.proofs.Orders.{order_same, settled_contents, settled_passes}
use Rattle.control_laws.proofs.Rules.{control_rule}
use Rattle.control_laws.specs.Laws.{IsControlStep, IsControlTrace, SameEnd, SameRules, SameStep}
use Rattle.control_laws.specs.Parts.{Contents, SameControl, SameOutline, contents_of, with_contents}
use Rattle.std.proofs.Common.{◌≡◌, ◌∙◌, ℕ, Option, Some, None, Result, Err, List, [], ◌∷◌, refl, ap, sym, subst}
use Rattle.storage_machine.specs.declared.state.State.{State}
use Rattle.storage_model.specs.declared.trace.Item.{Item}
use Rattle.storage_order.specs.Accept.{accept_from, accept_next, accepted, broken_rule}
use Rattle.storage_order.specs.Order.{order_rule, settled}
use Rattle.trace_effects.specs.Effects.{effect}
use Rattle.trace_rules.specs.Lines.{line_rule}
use Rattle.trace_rules.specs.Steps.{earlier, event_rule, lower}

-- the state in whose event the line stands has the same contents

settled_outline : (s : State) (c : Contents) (item : Item) → SameOutline c (contents_of s) → SameOutline c (contents_of (settled s item))
settled_outline s c item outline = subst (λ d. SameOutline c d) (sym (settled_contents s item)) outline

abbrev rule_of : Option ℕ → Option ℕ → Option ℕ → Option ℕ
rule_of line order event = earlier line (lower order event)

broken_same : (s : State) (c : Contents) (item : Item) → SameRules (settled s item) c item → broken_rule (with_contents c s) item ≡ broken_rule s item
unfolding broken_rule
broken_same s c item same =
    ap (λ t. rule_of (line_rule t item) (order_rule (with_contents c s) item) (event_rule t item)) (settled_passes c s item)
    ∙ (ap (λ line. rule_of line (order_rule (with_contents c s) item) (event_rule (with_contents c (settled s item)) item)) same.line
    ∙ (ap (λ order. rule_of (line_rule (settled s item) item) order (event_rule (with_contents c (settled s item)) item)) (order_same c s item)
    ∙ ap (λ event. rule_of (line_rule (settled s item) item) (order_rule s item) event) same.event))

pub control_step : (s : State) (c : Contents) (item : Item) → IsControlStep s c item
control_step s c item outline answers = record {
  rule = broken_same s c item (control_rule (settled s item) c item (settled_outline s c item outline) answers);
  control = subst (λ t. SameControl (effect (settled s item) item) (effect t item)) (sym (settled_passes c s item))
      (effect_control (settled s item) c item (settled_outline s c item outline));
}

-- and a trace

next_ends : (s t : State) (item : Item) (rest : State → Result State ℕ) (own other : Option ℕ) → other ≡ own → (own ≡ None → SameEnd (rest (accepted s item)) (rest (accepted t item)))
    → SameEnd (accept_next s item own rest) (accept_next t item other rest)
next_ends s t item rest None other at more = subst (λ rule. SameEnd (rest (accepted s item)) (accept_next t item rule rest)) (sym at) (more refl)
next_ends s t item rest (Some broken) other at more = subst (λ rule. SameEnd (Err broken) (accept_next t item rule rest)) (sym at) refl

pub control_trace : (s t : State) (items : List Item) → IsControlTrace s t items
control_trace s t [] same agrees = same
control_trace s t (item ∷ items) same agrees =
    let step : SameStep s (contents_of t) item = control_step s (contents_of t) item agrees.0 agrees.1 in
    next_ends s t item (accept_from items) (broken_rule s item) (broken_rule t item) (ap (λ x. broken_rule x item) same ∙ step.rule)
    (λ taken. control_trace (accepted s item) (accepted t item) items (subst (λ x. SameControl (accepted s item) (accepted x item)) (sym same) step.control) (agrees.2 taken))
