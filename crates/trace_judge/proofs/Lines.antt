-- Lines, one after the other, up to the first that isn't accepted.
use Rattle.std.proofs.Common.{◌≡◌, ◌∙◌, ℕ, ◌+◌, ◌-◌, ◌≤◌, ◌<◌, Option, Some, None, List, [], ◌∷◌, ◌++◌, length, take, refl, ap, sym, subst, arith}
use Rattle.std.proofs.lemmas.List.{take_all, take_more}
use Rattle.std.proofs.Math.ListN.{get_or}
use Rattle.std.specs.Prelude.{Result, Ok, Err, IsOk, is_ok}
use Rattle.storage_machine.specs.declared.state.State.{State}
use Rattle.storage_model.specs.declared.block.Block.{Block}
use Rattle.storage_model.specs.declared.faults.Faults.{Faults}
use Rattle.storage_model.specs.declared.plan.Plan.{Plan}
use Rattle.storage_model.specs.declared.trace.Item.{Item}
use Rattle.storage_order.specs.Accept.{IsCause, accept, accept_from, accept_next, accepted, broken_rule, started}
use Rattle.storage_order.specs.declared.accept.Refuse.{Refuse}
use Rattle.storage_order.specs.declared.accept.Refuse.TheVariants.{Rule}
use Rattle.trace_judge.specs.Verdicts.{IsRejectedAt}

-- the state of a result
abbrev state_of : State → Result State ℕ → State
state_of s (Ok t) = t
state_of s (Err rule) = s

-- a further line
after : (rule : Option ℕ) (s t : State) (item : Item) (rest more : State → Result State ℕ) (end : Result State ℕ)
    → ((u : State) → rest u ≡ Ok t → more u ≡ end) → accept_next s item rule rest ≡ Ok t → accept_next s item rule more ≡ end
after None s t item rest more end goes e = goes (accepted s item) e
after (Some rule) s t item rest more end goes e = absurd (cc)

one_more : (items : List Item) (item : Item) (s t : State) → accept_from items s ≡ Ok t
    → accept_from (items ++ item ∷ []) s ≡ accept_from (item ∷ []) t
one_more [] item s t e = ap (accept_from (item ∷ [])) (ap (state_of s) e)
one_more (first ∷ items) item s t e =
    after (broken_rule s first) s t first (accept_from items) (accept_from (items ++ item ∷ [])) (accept_from (item ∷ []) t)
    (λ u. one_more items item u t) e

next_is : (t : State) (item : Item) (rule : Option ℕ) → broken_rule t item ≡ rule → accept_from (item ∷ []) t ≡ accept_next t item rule (accept_from [])
next_is t item rule is = ap (λ r. accept_next t item r (accept_from [])) is

ok_is : (result : Result State ℕ) (t : State) → result ≡ Ok t → IsOk result
ok_is result t e = ap is_ok e

-- a refusal by a rule names that rule
pub caused : (rule : Option ℕ) (refuse : Refuse) (number : ℕ) → refuse ≡ Rule number → IsCause rule refuse → rule ≡ Some number
caused rule refuse number is cause =
    let P : Refuse → Type 0 = λ r. IsCause rule r in
    subst P is cause

-- the first i lines took the machine from s to t
pub record Took (s t : State) (items : List Item) (i : ℕ) : Type 0 where
  pub all : accept_from (take i items) s ≡ Ok t

pub took_none : (s : State) (items : List Item) → Took s s items 0
took_none s items = record { all = refl }

next_line : (s t : State) (items : List Item) (i : ℕ) (none item : Item) → i < length items → get_or items i none ≡ item → Took s t items i
    → accept_from (take (i + 1) items) s ≡ accept_from (item ∷ []) t
next_line s t items i none item low at took =
    ap (λ lines. accept_from lines s) (take_more items i none low ∙ ap (λ x. take i items ++ x ∷ []) at)
    ∙ one_more (take i items) item s t took.all

pub took_more : (s t u : State) (items : List Item) (i : ℕ) (none item : Item) → i < length items → get_or items i none ≡ item
    → broken_rule t item ≡ None → u ≡ accepted t item → Took s t items i → Took s u items (i + 1)
took_more s t u items i none item low at sound is took = record {
  all = next_line s t items i none item low at took ∙ (next_is t item None sound ∙ ap Ok (sym is));
}

-- all lines are accepted
pub took_all : (base : List Block) (plan : Plan) (faults : Faults) (s t : State) (items : List Item) (i : ℕ) → s ≡ started base plan faults
    → length items ≤ i → Took s t items i → IsOk (accept base plan faults items)
unfolding accept
took_all base plan faults s t items i from past took =
    let all : accept_from items s ≡ Ok t = ap (λ lines. accept_from lines s) (sym (take_all i items past)) ∙ took.all in
    let P : State → Type 0 = λ x. accept_from items x ≡ Ok t in
    ok_is (accept_from items (started base plan faults)) t (subst P from all)

-- a line isn't
pub took_rejected : (base : List Block) (plan : Plan) (faults : Faults) (s t : State) (items : List Item) (i : ℕ) (none item : Item) (line rule : ℕ)
    → s ≡ started base plan faults → i < length items → get_or items i none ≡ item → line ≡ i + 1 → broken_rule t item ≡ Some rule
    → Took s t items i → IsRejectedAt base plan faults items line rule
unfolding accept
took_rejected base plan faults s t items i none item line rule from low at number broken took =
    let P : State → Type 0 = λ x. accept_from (take i items) x ≡ Ok t in
    let Q : State → Type 0 = λ x. accept_from (take (i + 1) items) x ≡ Err rule in
    let before : accept_from (take i items) (started base plan faults) ≡ Ok t = subst P from took.all in
    let here : accept_from (take (i + 1) items) (started base plan faults) ≡ Err rule =
    subst Q from (next_line s t items i none item low at took ∙ next_is t item (Some rule) broken) in
    let back : line - 1 ≡ i = omega arith in
    record {
      place = (omega arith, omega arith);
      before = ok_is (accept_from (take (line - 1) items) (started base plan faults)) t
          (ap (λ n. accept_from (take n items) (started base plan faults)) back ∙ before);
      at = ap (λ n. accept_from (take n items) (started base plan faults)) number ∙ here;
    }
