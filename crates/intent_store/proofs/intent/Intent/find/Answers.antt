use Rattle.std.proofs.Common.{◌≡◌, rules, refl, ap, ◌∷◌, ℕ, List, sym, subst, ◌∙◌}
use Rattle.image_form.specs.Image.{Fetch}
use Rattle.intent_store.proofs.CallLemmas.{ended_call, next_call}
use Rattle.std.specs.Prelude.{is_ok, Option, IfSome, IsNone}
use Rattle.array_edge.specs.Array.{HasPage}
use Rattle.storage_model.specs.declared.block.Block.{Block}
use Rattle.image_form.specs.Image.{IsImage}
use Rattle.intent_store.specs.Intent.{Known}
use Rattle.intent_store.specs.Steps.{IsOpening}
use Rattle.intent_store.proofs.OpeningLemmas.{found_stands, found_bad}
use Rattle.intent_store.proofs.intent.Intent.find.Goals as goal

pub returns-clause-stands : goal.returns-clause-stands
returns-clause-stands g c =
    let First : Option (List Block) → Type 0 = λ t. HasPage t 0 c.fetch.new.block in
    let Second : Option (List Block) → Type 0 = λ t. HasPage t 1 c.fetch-2.new.block in
    let P : ℕ → Type 0 = λ n. IfSome c.judge.result (IsOpening c.fetch.new.block c.fetch-2.new.block n) in
    let told : (g.A.Array.state c.fetch-2.new.array).told ≡ (g.A.Array.state c.args.array.now).told = ap (λ s. s.told) c.in_ok-fetch-2.ensures.same ∙ ap (λ s. s.told) c.in_ok-fetch.ensures.same in
    found_stands (g.A.Array.state c.fetch-2.new.array) c.fetch.new.block c.fetch-2.new.block c.judge.result c.ok_or.result
    (g.met.A.Array.told_count c.fetch-2.new.array) (subst First (sym told) c.in_ok-fetch.ensures.read)
    (subst Second (sym (ap (λ s. s.told) c.in_ok-fetch-2.ensures.same)) c.in_ok-fetch-2.ensures.read)
    (subst P c.pages-2.ensures c.judge.ensures.some) c.ok_or.ensures.value

pub returns-clause-bad : goal.returns-clause-bad
returns-clause-bad g c bad =
    let First : Option (List Block) → Type 0 = λ t. HasPage t 0 c.fetch.new.block in
    let Second : Option (List Block) → Type 0 = λ t. HasPage t 1 c.fetch-2.new.block in
    let P : ℕ → Type 0 = λ n. (known : Known) → IsOpening c.fetch.new.block c.fetch-2.new.block n known → IsNone c.judge.result → ⊥ in
    let N : Option (List Block) → Type 0 = λ t. IfSome t (λ pages. IsImage pages → ⊥) in
    let told : (g.A.Array.state c.fetch-2.new.array).told ≡ (g.A.Array.state c.args.array.now).told = ap (λ s. s.told) c.in_ok-fetch-2.ensures.same ∙ ap (λ s. s.told) c.in_ok-fetch.ensures.same in
    subst N told (found_bad (g.A.Array.state c.fetch-2.new.array) c.fetch.new.block c.fetch-2.new.block c.judge.result c.ok_or.result
    (g.met.A.Array.told_count c.fetch-2.new.array) (subst First (sym told) c.in_ok-fetch.ensures.read)
    (subst Second (sym (ap (λ s. s.told) c.in_ok-fetch-2.ensures.same)) c.in_ok-fetch-2.ensures.read)
    (subst P c.pages-2.ensures c.judge.ensures.none) c.ok_or.ensures.value bad)

pub returns-in_err-fetch-clause-failed : goal.returns-in_err-fetch-clause-failed
returns-in_err-fetch-clause-failed g c rest err other =
    ended_call (Fetch 0) (Fetch 1 ∷ rest) _ _ c.fetch.result _ (ap is_ok c.in_err-fetch.was) refl (c.fetch.ensures.call c.requires)

pub returns-in_err-fetch-2-clause-failed : goal.returns-in_err-fetch-2-clause-failed
returns-in_err-fetch-2-clause-failed g c rest err other =
    next_call (Fetch 0) (Fetch 1 ∷ rest) _ _ _ c.fetch.result _ (ap is_ok c.in_ok-fetch.was) (c.fetch.ensures.call c.requires)
    (ended_call (Fetch 1) rest _ _ c.fetch-2.result _ (ap is_ok c.in_err-fetch-2.was) refl (c.fetch-2.ensures.call (search rules)))

pub returns-clause-calls : goal.returns-clause-calls
returns-clause-calls g c rest last ok done made =
    next_call (Fetch 0) (Fetch 1 ∷ rest) _ _ _ c.fetch.result _ (ap is_ok c.in_ok-fetch.was) (c.fetch.ensures.call c.requires)
    (next_call (Fetch 1) rest _ _ _ c.fetch-2.result _ (ap is_ok c.in_ok-fetch-2.was) (c.fetch-2.ensures.call (search rules)) made)
