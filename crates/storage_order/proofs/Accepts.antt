-- A line that is accepted or refused.
use Rattle.std.proofs.Common.{◌≡◌, ◌∙◌, ℕ, Bool, true, false, Option, Some, None, cond, refl, ap, sym}
use Rattle.storage_machine.specs.Cuts.{least}
use Rattle.trace_rules.specs.Lines.{holds, line_rule, owing_past, rule_of}
use Rattle.trace_rules.specs.Steps.{earlier, event_rule, lower}
use Rattle.storage_machine.specs.declared.state.State.{State}
use Rattle.storage_model.specs.declared.trace.Item.{Item}
use Rattle.storage_order.proofs.Silents.{settled_silent}
use Rattle.storage_order.specs.Accept.{broken_rule}
use Rattle.storage_order.specs.Order.{order_rule, settled}
use Rattle.storage_order.specs.Silent.{with_silent}
use Rattle.storage_order.specs.declared.order.Silent.{Silent}

pub rule_is : (s t : State) (item : Item) (order broken : Option ℕ) → t ≡ settled s item → order ≡ order_rule s item
    → broken ≡ earlier (line_rule t item) (lower order (event_rule t item)) → broken_rule s item ≡ broken
unfolding broken_rule
rule_is s t item order broken at in_order is = sym (rw (at, in_order) at is)

pub restored : (s t u : State) (item : Item) (silent : Silent) → t ≡ settled s item → u ≡ with_silent t silent → with_silent s silent ≡ s → u ≡ s
restored s t u item silent at is own = is ∙ (ap (λ x. with_silent x silent) at ∙ (settled_silent s item silent ∙ own))

none_first : (a b : Option ℕ) → earlier a b ≡ None → a ≡ None
none_first None b e = refl
none_first (Some x) b e = absurd (cc)

some_least : (owed : Option ℕ) (rule : ℕ) → least owed rule ≡ None → true ≡ false
some_least None rule e = absurd (cc)
some_least (Some x) rule e = absurd (cc)

holds_where : (b : Bool) (rest owed : Option ℕ) (rule : ℕ) → cond b rest (least owed rule) ≡ None → b ≡ true
holds_where true rest owed rule e = refl
holds_where false rest owed rule e = sym (some_least owed rule e)

pub holds_unbroken : (t : State) (item : Item) (rest : Option ℕ) → earlier (line_rule t item) rest ≡ None → holds t item ≡ true
unfolding line_rule
holds_unbroken t item rest e = holds_where (holds t item) _ (owing_past t item) (rule_of item) (none_first (line_rule t item) rest e)
