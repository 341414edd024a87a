-- Lines, one after the other.
use Rattle.std.proofs.Common.{◌≡◌, ◌∙◌, ℕ, ◌≤◌, Option, Some, None, List, ◌∷◌, ◌++◌, length, drop, refl, ap, sym}
use Rattle.std.proofs.lemmas.List.{drop_all}
use Rattle.storage_machine.specs.declared.state.State.{State}
use Rattle.storage_model.specs.declared.trace.Item.{Item}
use Rattle.storage_order.specs.Accept.{IsCause, IsRefused, accept_from, accept_next, accepted, broken_rule}
use Rattle.storage_order.specs.declared.accept.Refuse.{Refuse}
use Rattle.storage_order.specs.declared.accept.Refuse.TheVariants.{Rule, NoMemory}

-- the lines up to here took the machine from s to t
pub record Took (s t : State) (items rest : List Item) : Type 0 where
  pub goes_on : (more : List Item) → accept_from (items ++ more) s ≡ accept_from (rest ++ more) t

pub took_none : (s : State) (items : List Item) → Took s s items items
took_none s items = record { goes_on = λ more. refl }

next_is : (t : State) (item : Item) (items : List Item) (rule : Option ℕ) → broken_rule t item ≡ rule → accept_from (item ∷ items) t ≡ accept_next t item rule (accept_from items)
next_is t item items rule is = ap (λ r. accept_next t item r (accept_from items)) is

pub took_more : (s t u : State) (items rest more : List Item) (item : Item) → rest ≡ item ∷ more → broken_rule t item ≡ None → u ≡ accepted t item → Took s t items rest → Took s u items more
took_more s t u items rest more item at whole is took = record {
  goes_on = λ further.
      took.goes_on further ∙ (ap (λ lines. accept_from (lines ++ further) t) at ∙ (next_is t item (more ++ further) None whole ∙ ap (accept_from (more ++ further)) (sym is)));
}

pub took_refused : (s t : State) (items rest more : List Item) (item : Item) (refuse : Refuse) → rest ≡ item ∷ more → IsCause (broken_rule t item) refuse → Took s t items rest → IsRefused s items refuse
took_refused s t items rest more item (Rule number) at cause took = λ further.
    took.goes_on further ∙ (ap (λ lines. accept_from (lines ++ further) t) at ∙ next_is t item (more ++ further) (Some number) cause)
took_refused s t items rest more item NoMemory at cause took = tt

pub took_all : (s t : State) (items : List Item) (i : ℕ) → length items ≤ i → Took s t items (drop i items) → (more : List Item) → accept_from (items ++ more) s ≡ accept_from more t
took_all s t items i past took more = took.goes_on more ∙ ap (λ rest. accept_from (rest ++ more) t) (drop_all i items past)
